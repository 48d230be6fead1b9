-- In a program that may be run each wait names posted requests.
use Rattle.std.proofs.Common.{◌≡◌, ℕ, zero, suc, ◌+◌, ◌<◌, Bool, true, false, cond, List, [], ◌∷◌, ◌++◌, take, drop, slice_get, All, AllPairs, Contains}
use Rattle.std.proofs.Common.{Option, Some, None, IfSome, refl, ap, subst, inl, inr, arith}
use Rattle.std.proofs.lemmas.List.Elements.{All-contains, All-get_or, Contains-append_cases}
use Rattle.std.proofs.lemmas.List.Sums.{sum_by-cons}
use Rattle.std.proofs.lemmas.Option.{none-some, same_Some, slice_get_within, get_or_from_slice_get}
use Rattle.rt_base.specs.declared.data.Handle.TheVariants as handle
use Rattle.rt_base.specs.declared.data.Op.{Op}
use Rattle.rt_base.specs.declared.data.Op.TheVariants as op
use Rattle.rt_base.specs.Operations.{WaitParts, wait_parts, is_posting, postings}
use Rattle.rt_base.specs.InUse.{left_by, left_after, posts}
use Rattle.rt_base.specs.WellFormed.{IsTask, IsOpen, NamesOther}
use Rattle.history_laws.specs.Notices.{WellFormedWaitsNamePosted}
use Rattle.history_laws.proofs.Noticing.{contains_cases, nothing_in}

one_left : (n m : ℕ) (b : Bool) → Contains (cond b [] (m ∷ [])) n → m ≡ n
one_left n m true has = absurd (nothing_in n has)
one_left n m false has = elim (contains_cases m [] n has) [ inl same ↦ same | inr more ↦ absurd (nothing_in n more) ]

-- only a posting leaves its request
left_here : (m n : ℕ) (x : Op) (more : List Op) → Contains (left_by m x more) n → (m ≡ n) × (posts x ≡ 1)
left_here m n (op.Compute kind dst left right value step) more has = absurd (nothing_in n has)
left_here m n (op.Post how span peer tag comm status) more has = (one_left n m _ has, refl)
left_here m n (op.Await later handles status) more has = absurd (nothing_in n has)

posts_once : (x : Op) (more : List Op) → postings (x ∷ more) ≡ posts x + postings more
posts_once (op.Compute kind dst left right value step) more = sum_by-cons (λ (y : Op). cond (is_posting y) 1 0) (op.Compute kind dst left right value step) more
posts_once (op.Post how span peer tag comm status) more = sum_by-cons (λ (y : Op). cond (is_posting y) 1 0) (op.Post how span peer tag comm status) more
posts_once (op.Await later handles status) more = sum_by-cons (λ (y : Op). cond (is_posting y) 1 0) (op.Await later handles status) more

-- what these operations leave, they posted
left_below : (m n : ℕ) (ops : List Op) → Contains (left_after m ops) n → n < m + postings ops
unfolding left_after
left_below m n [] has = absurd (nothing_in n has)
left_below m n (x ∷ more) has = elim (Contains-append_cases (left_by m x more) (left_after (m + posts x) more) n has) [
  | inl here ↦ let one = left_here m n x more here in omega (arith, one.0, one.1, posts_once x more)
  | inr later ↦ omega (arith, left_below (m + posts x) n more later, posts_once x more)
]

split_at : {X : Type 0} (xs : List X) (k : ℕ) (x : X) → slice_get xs k ≡ Some x → xs ≡ take k xs ++ x ∷ drop (suc k) xs
split_at [] k x at = absurd (none-some x at)
split_at (y ∷ ys) zero x at = ap (λ (z : _). z ∷ ys) (same_Some y x at)
split_at (y ∷ ys) (suc k) x at = ap (λ (zs : List _). y ∷ zs) (split_at ys k x at)

named_open : (earlier : List Op) (o : Option WaitParts) (waited : WaitParts) (n : ℕ) → o ≡ Some waited
    → IfSome o (λ parts. All (IsOpen earlier) parts.handles × AllPairs NamesOther parts.handles) → Contains waited.handles (handle.Nth n)
    → IsOpen earlier (handle.Nth n)
named_open earlier None waited n is are_open has = absurd (none-some waited is)
named_open earlier (Some parts) waited n is are_open has =
    All-contains (IsOpen earlier) waited.handles (handle.Nth n) (subst (λ (w : WaitParts). All (IsOpen earlier) w.handles) (same_Some parts waited is)
    are_open.0) has

pub handles_law : WellFormedWaitsNamePosted
handles_law program well t k n def operation waited is_def here waits names =
    let task : IsTask program def =
    subst (IsTask program) (get_or_from_slice_get program.tasks.items t def def is_def)
    (All-get_or (IsTask program) program.tasks.items t def (slice_get_within program.tasks.items t def is_def) well.tasks) in
    let follows = task.follows (take k def.body.items) (drop (suc k) def.body.items) operation (split_at def.body.items k operation here) in
    let below = left_below 0 n (take k def.body.items) (named_open (take k def.body.items) (wait_parts operation) waited n waits follows.handles names) in
    omega (arith, below)
