-- The program of the tests may be run.
use Rattle.std.proofs.Common.{◌≡◌, ◌≢◌, get_or, ℕ, zero, suc, ◌+◌, ◌*◌, ◌<◌, ◌≤◌, pos, List, [], ◌∷◌, ◌++◌, length, All, AllPairs, sum, sum_by}
use Rattle.std.proofs.Common.{length-append, slice_get, unwrap_or, Some, None, sym, ap, ◌∙◌, refl, subst, ⊎_elim, arith, slice_index}
use Rattle.std.proofs.lemmas.Bool.{cases_lt}
use Rattle.std.proofs.lemmas.List.Elements.{All-nil, All-cons}
use Rattle.std.proofs.lemmas.List.Sums.{count_by-le-length}
use Rattle.rt_base.specs.declared.data.Span.{Span}
use Rattle.rt_base.specs.declared.data.Access.{Access}
use Rattle.rt_base.specs.declared.data.Mode.TheVariants as mode
use Rattle.rt_base.specs.declared.data.Kernel.TheVariants as kernel
use Rattle.rt_base.specs.declared.data.How.TheVariants as how
use Rattle.rt_base.specs.declared.data.Peer.TheVariants as peer
use Rattle.rt_base.specs.declared.data.TagSel.TheVariants as tag
use Rattle.rt_base.specs.declared.data.Op.{Op}
use Rattle.rt_base.specs.declared.data.Op.TheVariants as op
use Rattle.rt_base.specs.declared.data.TaskDef.{TaskDef}
use Rattle.rt_base.specs.declared.data.Program.{Program}
use Rattle.rt_base.specs.Spans.{span_len, Overlaps}
use Rattle.rt_base.specs.Layout.{array_count, array_len, starts_from}
use Rattle.rt_base.specs.Operations.{postings}
use Rattle.rt_base.specs.InUse.{left_after, used_after, is_in_use}
use Rattle.rt_base.specs.Pieces.{is_bound_of, pieces_of, pieces}
use Rattle.rt_base.specs.WellFormed.{WellFormed, IsTask, IsSpan, IsOperation, MayRead, MayWrite, IsDeclared, IsWritable, InOrder, Follows}
use Rattle.rt_base.specs.WellFormed.{region_cells, names_of, cells_sent, over_operations}
use Rattle.task_local.specs.Standing.{no_task}

-- cells of the one array
abbrev pub cells_of_a : ℕ → ℕ → Span
cells_of_a from to = record { array = 0; from = from; to = to }

abbrev pub half : ℕ → ℕ → Access
half from to = record { mode = mode.Out; span = cells_of_a from to }

-- both halves of the array, the second one first
abbrev pub halves : List Access
halves = half 2 4 ∷ half 0 2 ∷ []

-- the operations of the three bodies
abbrev pub ramp_op : Op
ramp_op = op.Compute kernel.Ramp (cells_of_a 1 3) None None (pos 5) (pos 1)

abbrev pub copy_op : Op
copy_op = op.Compute kernel.Copy (cells_of_a 1 3) (Some (cells_of_a 0 2)) None (pos 0) (pos 0)

abbrev pub fill_op : Op
fill_op = op.Compute kernel.Fill (record { array = 9; from = 3; to = 3 }) None None (pos 7) (pos 0)

abbrev pub send_op : Op
send_op = op.Post how.Send (cells_of_a 1 3) peer.Null (tag.Tag 0) 0 None

-- a task of the sample with this body
pub record IsSampleTask (task : TaskDef) (body : List Op) : Type 0 where
  pub rank : task.rank ≡ 0
  pub epoch : task.epoch ≡ 0
  pub accesses : task.accesses.items ≡ halves
  pub operations : task.body.items ≡ body

-- a program with these tasks
pub record IsSample (p : Program) (first second third : TaskDef) : Type 0 where
  pub ranks : p.ranks ≡ 1
  pub eager : p.eager ≡ 0
  pub comms : p.comms ≡ 1
  pub names : array_count p ≡ 1
  pub lens : p.lens.items ≡ 4 ∷ []
  pub starts : p.starts.items ≡ starts_from 0 p.lens.items
  pub shows : p.shows.items ≡ []
  pub tasks : p.tasks.items ≡ first ∷ second ∷ third ∷ []
  pub is_first : IsSampleTask first (ramp_op ∷ [])
  pub is_second : IsSampleTask second (copy_op ∷ fill_op ∷ [])
  pub is_third : IsSampleTask third (send_op ∷ [])

declared : (from to : ℕ) → to ≤ 4 → IsWritable halves (cells_of_a from to)
declared from to within = λ cell covers.
    ⊎_elim (λ (lt : cell < 2). (1, half 0 2, omega arith, refl, ((refl, (omega arith, lt)), refl)))
    (λ (ge : 2 ≤ cell). (0, half 2 4, omega arith, refl, ((refl, (ge, omega arith)), refl)))
    (cases_lt cell 2)

is_declared : (from to : ℕ) → to ≤ 4 → IsDeclared halves (cells_of_a from to)
is_declared from to within = λ cell covers.
    ⊎_elim (λ (lt : cell < 2). (1, half 0 2, omega arith, refl, (refl, (omega arith, lt))))
    (λ (ge : 2 ≤ cell). (0, half 2 4, omega arith, refl, (refl, (ge, omega arith))))
    (cases_lt cell 2)

len_is : (p : Program) (first second third : TaskDef) → IsSample p first second third → array_len p 0 0 ≡ 4
len_is p first second third is =
    let first_place : 0 * array_count p + 0 ≡ 0 = omega arith in
    ap (λ i. slice_index p.lens.items i) first_place ∙ ap (λ lens. slice_index lens 0) is.lens

in_array : (p : Program) (first second third : TaskDef) (rank from to : ℕ) → IsSample p first second third → rank ≡ 0 → from ≤ to → to ≤ 4
    → IsSpan p rank (cells_of_a from to)
in_array p first second third rank from to is none ordered within =
    let names : 0 < array_count p = (let e = is.names in omega arith) in
    let len = len_is p first second third is in
    record { ordered = ordered; array = λ _. names; inside = λ _. subst (λ r. to ≤ array_len p r 0) (sym none) (omega arith) }

may_read : (p : Program) (first second third task : TaskDef) (body : List Op) (from to : ℕ) → IsSample p first second third → IsSampleTask task body
    → from ≤ to → to ≤ 4
    → MayRead p task (cells_of_a from to)
may_read p first second third task body from to is is_task ordered within = record {
  in_array = in_array p first second third task.rank from to is is_task.rank ordered within;
  declared = subst (λ (accesses : List Access). IsDeclared accesses (cells_of_a from to)) (sym is_task.accesses) (is_declared from to within);
}

may_write : (p : Program) (first second third task : TaskDef) (body : List Op) (from to : ℕ) → IsSample p first second third → IsSampleTask task body
    → from ≤ to → to ≤ 4
    → MayWrite p task (cells_of_a from to)
may_write p first second third task body from to is is_task ordered within = record {
  in_array = in_array p first second third task.rank from to is is_task.rank ordered within;
  declared = subst (λ (accesses : List Access). IsDeclared accesses (cells_of_a from to)) (sym is_task.accesses) (is_declared from to within);
  writable = subst (λ (accesses : List Access). IsWritable accesses (cells_of_a from to)) (sym is_task.accesses) (declared from to within);
}

may_write_nothing : (p : Program) (task : TaskDef) → MayWrite p task (record { array = 9; from = 3; to = 3 })
may_write_nothing p task = record {
  in_array = record { ordered = omega arith; array = λ some. absurd (omega arith); inside = λ some. absurd (omega arith) };
  declared = λ cell covers. absurd (omega (arith, covers.0, covers.1));
  writable = λ cell covers. absurd (omega (arith, covers.0, covers.1));
}

pairs_of_two : {X : Type 0} (R : X → X → Type 0) (one other : X) → R one other → AllPairs R (one ∷ other ∷ [])
pairs_of_two R one other both = λ i j d below within.
    let first : i ≡ 0 = omega arith in
    let second : j ≡ 1 = omega arith in
    subst (λ n. R (get_or (one ∷ other ∷ []) n d) (get_or (one ∷ other ∷ []) j d)) (sym first)
    (subst (λ n. R one (get_or (one ∷ other ∷ []) n d)) (sym second) both)

all_of_two : {X : Type 0} (P : X → Type 0) (one other : X) → P one → P other → All P (one ∷ other ∷ [])
all_of_two P one other here there = All-cons P one (other ∷ []) here (All-cons P other [] there (All-nil P))

three_pairs : {X : Type 0} (R : X → X → Type 0) (a b c : X) → R a b → R a c → R b c → (i j : ℕ) (d : X) → i < j → j < 3
    → R (get_or (a ∷ b ∷ c ∷ []) i d) (get_or (a ∷ b ∷ c ∷ []) j d)
three_pairs R a b c ab ac bc zero zero d below within = absurd (omega arith)
three_pairs R a b c ab ac bc zero (suc zero) d below within = ab
three_pairs R a b c ab ac bc zero (suc (suc zero)) d below within = ac
three_pairs R a b c ab ac bc zero (suc (suc (suc j))) d below within = absurd (omega arith)
three_pairs R a b c ab ac bc (suc zero) zero d below within = absurd (omega arith)
three_pairs R a b c ab ac bc (suc zero) (suc zero) d below within = absurd (omega arith)
three_pairs R a b c ab ac bc (suc zero) (suc (suc zero)) d below within = bc
three_pairs R a b c ab ac bc (suc zero) (suc (suc (suc j))) d below within = absurd (omega arith)
three_pairs R a b c ab ac bc (suc (suc i)) j d below within = absurd (omega arith)

pairs_of_three : {X : Type 0} (R : X → X → Type 0) (a b c : X) → R a b → R a c → R b c → AllPairs R (a ∷ b ∷ c ∷ [])
pairs_of_three R a b c ab ac bc = λ i j d below within. three_pairs R a b c ab ac bc i j d below (omega arith)

all_of_three : {X : Type 0} (P : X → Type 0) (a b c : X) → P a → P b → P c → All P (a ∷ b ∷ c ∷ [])
all_of_three P a b c pa pb pc = All-cons P a (b ∷ c ∷ []) pa (all_of_two P b c pb pc)

halves_apart : AllPairs (λ (one other : Access). ¬ Overlaps one.span other.span) halves
halves_apart = pairs_of_two (λ (one other : Access). ¬ Overlaps one.span other.span) (half 2 4) (half 0 2)
    (λ overlap. absurd (omega (arith, overlap.1.1.0, overlap.1.2.1)))

ramp_leaves_none : left_after 0 (ramp_op ∷ []) ≡ []
unfolding left_after
ramp_leaves_none = refl

copy_leaves_none : left_after 0 (copy_op ∷ fill_op ∷ []) ≡ []
unfolding left_after
copy_leaves_none = refl

send_leaves_none : left_after 0 (send_op ∷ []) ≡ []
unfolding left_after
send_leaves_none = refl

-- one operation alone, and two of which the second uses no cell
ramp_follows : (accesses : List Access) (earlier later : List Op) (operation : Op) → (ramp_op ∷ []) ≡ earlier ++ operation ∷ later
    → Follows accesses earlier operation
unfolding is_in_use used_after
ramp_follows accesses [] [] operation is = let same : operation ≡ ramp_op = cc in rw same (record { handles = tt; free = refl })
ramp_follows accesses [] (other ∷ later) operation is = absurd (let e = ap length is in omega arith)
ramp_follows accesses (op ∷ earlier) later operation is = absurd (let e = ap length is in omega (arith, length-append earlier (operation ∷ later)))

send_follows : (accesses : List Access) (earlier later : List Op) (operation : Op) → (send_op ∷ []) ≡ earlier ++ operation ∷ later
    → Follows accesses earlier operation
unfolding is_in_use used_after
send_follows accesses [] [] operation is = let same : operation ≡ send_op = cc in rw same (record { handles = tt; free = refl })
send_follows accesses [] (other ∷ later) operation is = absurd (let e = ap length is in omega arith)
send_follows accesses (op ∷ earlier) later operation is = absurd (let e = ap length is in omega (arith, length-append earlier (operation ∷ later)))

copy_follows : (accesses : List Access) (earlier later : List Op) (operation : Op) → (copy_op ∷ fill_op ∷ []) ≡ earlier ++ operation ∷ later
    → Follows accesses earlier operation
unfolding is_in_use used_after
copy_follows accesses [] later operation is = let same : operation ≡ copy_op = cc in rw same (record { handles = tt; free = refl })
copy_follows accesses (first ∷ []) later operation is =
    let before : first ≡ copy_op = cc in
    let same : operation ≡ fill_op = cc in
    rw (before, same) (record { handles = tt; free = refl })
copy_follows accesses (first ∷ second ∷ earlier) later operation is = absurd (let e = ap length is in omega (arith, length-append earlier (operation ∷ later)))

sample_task : (p : Program) (first second third task : TaskDef) (body : List Op) → IsSample p first second third → IsSampleTask task body
    → All (IsOperation p task) body
    → ((earlier later : List Op) (operation : Op) → body ≡ earlier ++ operation ∷ later → Follows task.accesses.items earlier operation)
    → left_after 0 body ≡ [] → IsTask p task
sample_task p first second third task body is is_task operations follows none_left = record {
  rank = (let e = is.ranks in let f = is_task.rank in omega arith);
  regions = subst (All (λ (access : Access). IsSpan p task.rank access.span)) (sym is_task.accesses)
      (all_of_two (λ (access : Access). IsSpan p task.rank access.span) (half 2 4) (half 0 2)
      (in_array p first second third task.rank 2 4 is is_task.rank (omega arith) (omega arith))
      (in_array p first second third task.rank 0 2 is is_task.rank (omega arith) (omega arith)));
  apart = subst (AllPairs (λ (one other : Access). ¬ Overlaps one.span other.span)) (sym is_task.accesses) halves_apart;
  body = subst (All (IsOperation p task)) (sym is_task.operations) operations;
  follows = λ earlier later operation parts. follows earlier later operation (sym is_task.operations ∙ parts);
  none_left = ap (λ ops. left_after 0 ops) is_task.operations ∙ none_left;
}

in_order : {one other : TaskDef} {body next : List Op} → IsSampleTask one body → IsSampleTask other next → InOrder one other
in_order is_one is_other = let a = is_one.rank in let b = is_other.rank in let c = is_one.epoch in let d = is_other.epoch in (omega arith, λ e. omega arith)

-- each access has two cells, so at most two pieces
few_pieces : (tasks : List TaskDef) (rank : ℕ) → sum_by (pieces_of tasks rank) halves ≤ 4
few_pieces tasks rank =
    let one = count_by-le-length (is_bound_of tasks rank 0) (2 ∷ 3 ∷ []) in
    let other = count_by-le-length (is_bound_of tasks rank 0) (0 ∷ 1 ∷ []) in
    omega (arith, one, other)

pieces_are_few : (p : Program) (first second third : TaskDef) → IsSample p first second third → pieces p.tasks.items ≤ 16777216
unfolding pieces
pieces_are_few p first second third is =
    let all = ap (sum_by (λ (task : TaskDef). sum_by (pieces_of p.tasks.items task.rank) task.accesses.items)) is.tasks in
    let one = ap (sum_by (pieces_of p.tasks.items first.rank)) is.is_first.accesses in
    let other = ap (sum_by (pieces_of p.tasks.items second.rank)) is.is_second.accesses in
    let last = ap (sum_by (pieces_of p.tasks.items third.rank)) is.is_third.accesses in
    omega (arith, all, one, other, last, few_pieces p.tasks.items first.rank, few_pieces p.tasks.items second.rank, few_pieces p.tasks.items third.rank)

first_operations : (p : Program) (first second third : TaskDef) → IsSample p first second third → All (IsOperation p first) (ramp_op ∷ [])
first_operations p first second third is =
    let writes = may_write p first second third first (ramp_op ∷ []) 1 3 is is.is_first (omega arith) (omega arith) in
    All-cons (IsOperation p first) ramp_op [] (writes, tt, tt, tt) (All-nil (IsOperation p first))

second_operations : (p : Program) (first second third : TaskDef) → IsSample p first second third → All (IsOperation p second) (copy_op ∷ fill_op ∷ [])
second_operations p first second third is =
    let writes = may_write p first second third second (copy_op ∷ fill_op ∷ []) 1 3 is is.is_second (omega arith) (omega arith) in
    let reads = may_read p first second third second (copy_op ∷ fill_op ∷ []) 0 2 is is.is_second (omega arith) (omega arith) in
    all_of_two (IsOperation p second) copy_op fill_op (writes, reads, tt, refl) (may_write_nothing p second, tt, tt, tt)

third_operations : (p : Program) (first second third : TaskDef) → IsSample p first second third → All (IsOperation p third) (send_op ∷ [])
third_operations p first second third is =
    let reads = may_read p first second third third (send_op ∷ []) 1 3 is is.is_third (omega arith) (omega arith) in
    let comms = is.comms in
    All-cons (IsOperation p third) send_op [] ((reads, tt), tt, omega arith, omega arith) (All-nil (IsOperation p third))

pub sample_is_well_formed : (p : Program) (first second third : TaskDef) → IsSample p first second third → WellFormed p
sample_is_well_formed p first second third is =
    let tasks = sym is.tasks in
    let first_accesses = ap length is.is_first.accesses in
    let second_accesses = ap length is.is_second.accesses in
    let third_accesses = ap length is.is_third.accesses in
    let third_cells : region_cells third ≡ 4 = ap (sum_by (λ (access : Access). span_len access.span)) is.is_third.accesses in
    let third_body = ap length is.is_third.operations in
    let third_posts : postings third.body.items ≡ 1 = ap postings is.is_third.operations in
    let third_names : sum_by names_of third.body.items ≡ 0 = ap (sum_by names_of) is.is_third.operations in
    let third_sent : sum_by cells_sent third.body.items ≡ 2 = ap (sum_by cells_sent) is.is_third.operations in
    let first_cells : region_cells first ≡ 4 = ap (sum_by (λ (access : Access). span_len access.span)) is.is_first.accesses in
    let second_cells : region_cells second ≡ 4 = ap (sum_by (λ (access : Access). span_len access.span)) is.is_second.accesses in
    let first_body = ap length is.is_first.operations in
    let second_body = ap length is.is_second.operations in
    let first_posts : postings first.body.items ≡ 0 = ap postings is.is_first.operations in
    let first_names : sum_by names_of first.body.items ≡ 0 = ap (sum_by names_of) is.is_first.operations in
    let second_names : sum_by names_of second.body.items ≡ 0 = ap (sum_by names_of) is.is_second.operations in
    let first_sent : sum_by cells_sent first.body.items ≡ 0 = ap (sum_by cells_sent) is.is_first.operations in
    let second_sent : sum_by cells_sent second.body.items ≡ 0 = ap (sum_by cells_sent) is.is_second.operations in
    let second_posts : postings second.body.items ≡ 0 = ap postings is.is_second.operations in
    record {
      some_rank = (let e = is.ranks in omega arith);
      ranks = (let e = is.ranks in omega arith);
      eager = (let e = is.eager in omega arith);
      comms = (let e = is.comms in omega arith);
      few_comms = (let e = is.comms in omega arith);
      arrays = (let e = is.names in omega arith);
      lens = ap length is.lens ∙ sym (ap (λ n. n * array_count p) is.ranks ∙ ap (λ n. 1 * n) is.names);
      starts = is.starts;
      cells = (let e = ap sum is.lens in omega arith);
      shows = subst (All (λ array. array < array_count p)) (sym is.shows) (All-nil (λ array. array < array_count p));
      shown_once = subst (AllPairs (λ one other. one ≢ other)) (sym is.shows) (λ i j d below within. absurd (omega arith));
      task_count = (let e = ap length is.tasks in omega arith);
      access_count = (let e = ap (sum_by (λ (task : TaskDef). length task.accesses.items)) is.tasks in omega arith);
      access_cells = (let e = ap (sum_by region_cells) is.tasks in omega arith);
      operations = (let e = ap (sum_by (λ (task : TaskDef). length task.body.items)) is.tasks in omega arith);
      requests = (let e = ap (sum_by (λ (task : TaskDef). postings task.body.items)) is.tasks in omega arith);
      handles = (let e = ap (over_operations names_of) is.tasks in omega (arith, first_names, second_names, third_names));
      message_cells = (let e = ap (over_operations cells_sent) is.tasks in omega (arith, first_sent, second_sent, third_sent));
      few_pieces = pieces_are_few p first second third is;
      order = subst (AllPairs InOrder) tasks (pairs_of_three InOrder first second third (in_order is.is_first is.is_second)
          (in_order is.is_first is.is_third) (in_order is.is_second is.is_third));
      tasks = subst (All (IsTask p)) tasks (all_of_three (IsTask p) first second third
          (sample_task p first second third first (ramp_op ∷ []) is is.is_first (first_operations p first second third is)
          (ramp_follows first.accesses.items) ramp_leaves_none)
          (sample_task p first second third second (copy_op ∷ fill_op ∷ []) is is.is_second (second_operations p first second third is)
          (copy_follows second.accesses.items) copy_leaves_none)
          (sample_task p first second third third (send_op ∷ []) is is.is_third (third_operations p first second third is)
          (send_follows third.accesses.items) send_leaves_none));
    }

-- the last task declares the cells behind the first one
pub third_declares : (tasks : List TaskDef) (first second third : TaskDef) → tasks ≡ first ∷ second ∷ third ∷ [] → third.accesses.items ≡ halves
    → IsDeclared (unwrap_or (slice_get tasks 2) no_task).accesses.items (cells_of_a 1 4)
third_declares tasks first second third are accesses =
    let third_is : unwrap_or (slice_get tasks 2) no_task ≡ third = ap (λ (all : List TaskDef). unwrap_or (slice_get all 2) no_task) are in
    subst (λ (def : TaskDef). IsDeclared def.accesses.items (cells_of_a 1 4)) (sym third_is)
    (subst (λ (all : List Access). IsDeclared all (cells_of_a 1 4)) (sym accesses) (is_declared 1 4 (omega arith)))
