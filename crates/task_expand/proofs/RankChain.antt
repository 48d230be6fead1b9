-- Ranks one after the other: what so many of them come to, and where they stop.
use Rattle.std.proofs.Common.{◌≡◌, ℕ, zero, suc, ◌+◌, ◌-◌, ◌<◌, ◌≤◌, Bool, true, false, List, [], ◌++◌, Result, Ok, Err, refl, sym, ap, ◌∙◌, subst, arith}
use Rattle.std.specs.Prelude.{nat_le, sum, if◌then◌else◌}
use Rattle.std.specs.Result.{IsErr, IsErrAnd}
use Rattle.std.proofs.lemmas.List.Sums.{sum_by-append}
use Rattle.rt_base.specs.declared.data.TaskDef.{TaskDef}
use Rattle.rt_base.specs.declared.data.LimitName.TheVariants as limit
use Rattle.rt_base.specs.Pieces.{pieces}
use Rattle.task_tree.specs.Blocks.{Block}
use Rattle.task_unroll.specs.declared.refusal.ExpandRefusal.{ExpandRefusal}
use Rattle.task_unroll.specs.declared.refusal.ExpandRefusal.TheVariants as refusal
use Rattle.task_unroll.specs.Unrolling.{◌>>=◌, Fails, Gives}
use Rattle.task_unroll.specs.States.{State, begun, nothing_counted}
use Rattle.task_unroll.specs.Counting.{kept}
use Rattle.task_unroll.specs.Blocks.{unrolled}
use Rattle.task_unroll.specs.Ranks.{Ranks, next_rank, more_ranks, first_rank, program_of, program}
use Rattle.task_unroll.proofs.Results.{Holds, bind_by, holds_of}
use Rattle.task_expand.specs.Ranks.{ranks_up_to}
use Rattle.task_expand.proofs.RankKept.{rank_kept}

-- the lengths of one more rank
pub sum_more : (lens more : List ℕ) → sum (lens ++ more) ≡ sum lens + sum more
sum_more lens more = sum_by-append (λ (n : ℕ). n) lens more

-- a chain may be cut behind its first part
cut : {A B C E : Type 0} (c : Result A E) (f : A → Result B E) (g : B → Result C E) → (c >>= λ x. f x >>= g) ≡ (c >>= f >>= g)
cut (Ok x) f g = refl
cut (Err e) f g = refl

same_behind : {A B E : Type 0} (c : Result A E) (f g : A → Result B E) → ((x : A) → f x ≡ g x) → (c >>= f) ≡ (c >>= g)
same_behind (Ok x) f g same = same x
same_behind (Err e) f g same = refl

-- so many ranks, and so many more behind them
more_split : (whole : Block) (m n : ℕ) (r : Ranks) → more_ranks whole (m + n) r ≡ (more_ranks whole m r >>= more_ranks whole n)
more_split whole zero n r = ap (λ (k : ℕ). more_ranks whole k r) (none_more n)
  where
    none_more : (n : ℕ) → 0 + n ≡ n
    none_more n = omega arith
more_split whole (suc m) n r =
    ap (λ (k : ℕ). more_ranks whole k r) (one_first m n)
    ∙ same_behind (next_rank whole r) (more_ranks whole (m + n)) (λ q. more_ranks whole m q >>= more_ranks whole n) (more_split whole m n)
    ∙ cut (next_rank whole r) (more_ranks whole m) (more_ranks whole n)
  where
    one_first : (m n : ℕ) → suc m + n ≡ suc (m + n)
    one_first m n = omega arith

split : (whole : Block) (size m n : ℕ) → ranks_up_to whole size (m + n) ≡ (ranks_up_to whole size m >>= more_ranks whole n)
unfolding ranks_up_to
split whole size m n =
    same_behind (first_rank whole size) (more_ranks whole (m + n)) (λ q. more_ranks whole m q >>= more_ranks whole n) (more_split whole m n)
    ∙ cut (first_rank whole size) (more_ranks whole m) (more_ranks whole n)

one_more : {E : Type 0} (c : Result Ranks E) (f : Ranks → Result Ranks E) → (c >>= λ q. f q >>= λ z. Ok z) ≡ (c >>= f)
one_more (Err e) f = refl
one_more (Ok q) f = ok (f q)
  where
    ok : {E : Type 0} (d : Result Ranks E) → (d >>= λ z. Ok z) ≡ d
    ok (Ok z) = refl
    ok (Err e) = refl

-- the rank behind these
pub up_to_next : (whole : Block) (size m : ℕ) (r : Ranks) → ranks_up_to whole size m ≡ Ok r → ranks_up_to whole size (m + 1) ≡ next_rank whole r
up_to_next whole size m r is =
    split whole size m 1
    ∙ one_more (ranks_up_to whole size m) (next_rank whole)
    ∙ ap (λ c. c >>= next_rank whole) is

-- where the rank behind these is refused, all are
pub up_to_refused : (whole : Block) (size m last : ℕ) (r : Ranks) (e : ExpandRefusal) → m < last → ranks_up_to whole size m ≡ Ok r
    → Fails e (next_rank whole r) → Fails e (ranks_up_to whole size last)
up_to_refused whole size m last r e below is fails = by e fails
  where
    here : (why : ExpandRefusal) → next_rank whole r ≡ Err why → ranks_up_to whole size last ≡ Err why
    here why refused =
        let place : last ≡ m + 1 + (last - (m + 1)) = omega (arith, below) in
        ap (ranks_up_to whole size) place
        ∙ split whole size (m + 1) (last - (m + 1))
        ∙ ap (λ c. c >>= more_ranks whole (last - (m + 1))) (up_to_next whole size m r is ∙ refused)

    by : (e : ExpandRefusal) → Fails e (next_rank whole r) → Fails e (ranks_up_to whole size last)
    by refusal.Memory fails = tt
    by (refusal.Fault line kind) fails = here (refusal.Fault line kind) fails
    by (refusal.Limit which) fails = here (refusal.Limit which) fails

-- the last of these ranks has this number
next_at : (whole : Block) (i : ℕ) (r : Ranks) → r.last.rank ≡ i → Holds (λ (q : Ranks). q.last.rank ≡ i + 1) (next_rank whole r)
next_at whole i r at =
    bind_by (λ (s : State). s.rank ≡ i + 1) (λ (q : Ranks). q.last.rank
    ≡ i + 1) (unrolled whole (begun r.last.counts r.last.tasks (r.last.rank + 1) r.last.size)) _
    (rank_kept (i + 1) whole (begun r.last.counts r.last.tasks (r.last.rank + 1) r.last.size) (ap (λ (n : ℕ). n + 1) at)) (λ s after. after)

more_at : (whole : Block) (n i : ℕ) (r : Ranks) → r.last.rank ≡ i → Holds (λ (q : Ranks). q.last.rank ≡ i + n) (more_ranks whole n r)
more_at whole zero i r at = omega (arith, at)
more_at whole (suc n) i r at =
    bind_by (λ (q : Ranks). q.last.rank ≡ i + 1) (λ (q : Ranks). q.last.rank
    ≡ i + suc n) (next_rank whole r) (more_ranks whole n) (next_at whole i r at) (λ q after.
    subst (λ (k : ℕ). Holds (λ (z : Ranks). z.last.rank ≡ k) (more_ranks whole n q)) (moved i n) (more_at whole n (i + 1) q after))
  where
    moved : (i n : ℕ) → i + 1 + n ≡ i + suc n
    moved i n = omega arith

pub rank_at : (whole : Block) (size m : ℕ) (r : Ranks) → ranks_up_to whole size m ≡ Ok r → r.last.rank ≡ m
unfolding ranks_up_to
rank_at whole size m r is =
    (let at = here in omega (arith, at))
  where
    here : r.last.rank ≡ 0 + m
    here = holds_of (λ (q : Ranks). q.last.rank ≡ 0 + m) (first_rank whole size >>= more_ranks whole m) r
        (bind_by (λ (q : Ranks). q.last.rank ≡ 0) (λ (q : Ranks). q.last.rank ≡ 0 + m) (first_rank whole size) (more_ranks whole m)
        (bind_by (λ (s : State). s.rank ≡ 0) (λ (q : Ranks). q.last.rank
        ≡ 0) (unrolled whole (begun nothing_counted [] 0 size)) _ (rank_kept 0 whole (begun nothing_counted [] 0 size) refl) (λ s after. after))
        (λ q after. more_at whole m 0 q after))
        is

-- the rank of this number behind those before it
pub goes_on : (whole : Block) (size rank : ℕ) (r q : Ranks) → 1 ≤ rank → ranks_up_to whole size (rank - 1) ≡ Ok r
    → (r.last.rank + 1 ≡ rank → next_rank whole r ≡ Ok q)
    → ranks_up_to whole size (rank + 1 - 1) ≡ Ok q
goes_on whole size rank r q some so_far next =
    let at = rank_at whole size (rank - 1) r so_far in
    let place : rank + 1 - 1 ≡ (rank - 1) + 1 = omega (arith, some) in
    ap (ranks_up_to whole size) place ∙ (up_to_next whole size (rank - 1) r so_far ∙ next (omega (arith, at, some)))

pub stops : (whole : Block) (size rank : ℕ) (r : Ranks) (e : ExpandRefusal) → 1 ≤ rank → rank < size → ranks_up_to whole size (rank - 1) ≡ Ok r
    → (r.last.rank + 1 ≡ rank → Fails e (next_rank whole r)) → Fails e (ranks_up_to whole size (size - 1))
stops whole size rank r e some below so_far next =
    let at = rank_at whole size (rank - 1) r so_far in
    up_to_refused whole size (rank - 1) (size - 1) r e (omega (arith, some, below)) so_far (next (omega (arith, at, some)))

-- all ranks
pub at_end : (whole : Block) (size rank : ℕ) (r : Ranks) → rank ≤ size → size ≤ rank → ranks_up_to whole size (rank - 1) ≡ Ok r
    → ranks_up_to whole size (size - 1) ≡ Ok r
at_end whole size rank r below over so_far =
    let same : size ≡ rank = omega (arith, below, over) in
    ap (λ (n : ℕ). ranks_up_to whole size (n - 1)) same ∙ so_far

-- where rank 0 is refused, all are
pub first_refused : (whole : Block) (size last : ℕ) (e : ExpandRefusal) → Fails e (first_rank whole size) → Fails e (ranks_up_to whole size last)
unfolding ranks_up_to
first_refused whole size last refusal.Memory fails = tt
first_refused whole size last (refusal.Fault line kind) fails = ap (λ c. c >>= more_ranks whole last) fails
first_refused whole size last (refusal.Limit which) fails = ap (λ c. c >>= more_ranks whole last) fails

-- what the test of the pieces says of all tasks
pub within_is : (within : Bool) (count : ℕ) (tasks all : List TaskDef) → within ≡ nat_le (pieces tasks) count → count ≡ 16777216 → tasks ≡ all
    → nat_le (pieces all) 16777216 ≡ within
within_is within count tasks all is bound same =
    ap (λ (ts : List TaskDef). nat_le (pieces ts) 16777216) (sym same) ∙ ap (λ (n : ℕ). nat_le (pieces tasks) n) (sym bound) ∙ sym is

-- rank 0 alone
pub up_to_first : (whole : Block) (size : ℕ) → ranks_up_to whole size 0 ≡ first_rank whole size
unfolding ranks_up_to
up_to_first whole size = ok (first_rank whole size)
  where
    ok : {E : Type 0} (d : Result Ranks E) → (d >>= λ z. Ok z) ≡ d
    ok (Ok z) = refl
    ok (Err e) = refl

-- the limit on pieces behind all ranks
program_as : (whole : Block) (more eager : ℕ) → program whole more eager
    ≡ (ranks_up_to whole (suc more) more >>= λ all. kept limit.Pieces (pieces all.last.tasks) >>= λ count. Ok (program_of eager all))
unfolding program ranks_up_to
program_as whole more eager = cut (first_rank whole (suc more)) (more_ranks whole more) _

one_less : (size : ℕ) → 1 ≤ size → suc (size - 1) ≡ size
one_less size some = omega (arith, some)

program_behind : (whole : Block) (size eager : ℕ) → 1 ≤ size → program whole (size - 1) eager
    ≡ (ranks_up_to whole size (size - 1) >>= λ all. kept limit.Pieces (pieces all.last.tasks) >>= λ count. Ok (program_of eager all))
program_behind whole size eager some =
    program_as whole (size - 1) eager
    ∙ ap (λ (n : ℕ). ranks_up_to whole n (size - 1) >>= λ all. kept limit.Pieces (pieces all.last.tasks) >>= λ count. Ok (program_of eager all))
    (one_less size some)

pub program_done : (whole : Block) (size eager : ℕ) (all : Ranks) → 1 ≤ size → ranks_up_to whole size (size - 1) ≡ Ok all
    → nat_le (pieces all.last.tasks) 16777216 ≡ true
    → program whole (size - 1) eager ≡ Ok (program_of eager all)
unfolding kept
program_done whole size eager all some is few =
    program_behind whole size eager some
    ∙ ap (λ c. c >>= λ all. kept limit.Pieces (pieces all.last.tasks) >>= λ count. Ok (program_of eager all)) is
    ∙ ap (λ (b : Bool). (if b then Ok (pieces all.last.tasks) else Err (refusal.Limit limit.Pieces)) >>= λ (count : ℕ). Ok (program_of eager all)) few

pub program_limited : (whole : Block) (size eager : ℕ) (all : Ranks) → 1 ≤ size → ranks_up_to whole size (size - 1) ≡ Ok all
    → nat_le (pieces all.last.tasks) 16777216 ≡ false
    → program whole (size - 1) eager ≡ Err (refusal.Limit limit.Pieces)
unfolding kept
program_limited whole size eager all some is many =
    program_behind whole size eager some
    ∙ ap (λ c. c >>= λ all. kept limit.Pieces (pieces all.last.tasks) >>= λ count. Ok (program_of eager all)) is
    ∙ ap (λ (b : Bool). (if b then Ok (pieces all.last.tasks) else Err (refusal.Limit limit.Pieces)) >>= λ (count : ℕ). Ok (program_of eager all)) many

pub program_refused : (whole : Block) (size eager : ℕ) (e : ExpandRefusal) → 1 ≤ size → Fails e (ranks_up_to whole size (size - 1))
    → Fails e (program whole (size - 1) eager)
program_refused whole size eager e some fails = by e fails
  where
    here : (why : ExpandRefusal) → ranks_up_to whole size (size - 1) ≡ Err why → program whole (size - 1) eager ≡ Err why
    here why is =
        program_behind whole size eager some
        ∙ ap (λ c. c >>= λ all. kept limit.Pieces (pieces all.last.tasks) >>= λ count. Ok (program_of eager all)) is

    by : (e : ExpandRefusal) → Fails e (ranks_up_to whole size (size - 1)) → Fails e (program whole (size - 1) eager)
    by refusal.Memory fails = tt
    by (refusal.Fault line kind) fails = here (refusal.Fault line kind) fails
    by (refusal.Limit which) fails = here (refusal.Limit which) fails

-- where the first rank is refused, so is what comes of it
pub first_fails : (whole : Block) (size : ℕ) (e : ExpandRefusal) → Fails e (unrolled whole (begun nothing_counted [] 0 size)) → Fails e (first_rank whole size)
first_fails whole size refusal.Memory fails = tt
first_fails whole size (refusal.Fault line kind) fails = ap (λ c. c >>= λ (s : State). Ok (record { lens = s.lens; last = s })) fails
first_fails whole size (refusal.Limit which) fails = ap (λ c. c >>= λ (s : State). Ok (record { lens = s.lens; last = s })) fails

-- want of memory says nothing of what is due
pub wants_memory : {X Y : Type 0} (view : X → Y) (result : Result X ExpandRefusal) (due : Result Y ExpandRefusal)
    → IsErr result × IsErrAnd result (λ e. e ≡ refusal.Memory) → Gives view result due
wants_memory view (Ok x) due is = absurd (cc (is.0))
wants_memory view (Err e) due is = subst (λ (why : ExpandRefusal). Fails why due) (sym is.1) tt
