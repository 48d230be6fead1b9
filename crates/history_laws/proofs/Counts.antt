-- How many requests a task has posted, from one operation to the next.
use Rattle.std.proofs.Common.{◌≡◌, ℕ, zero, suc, ◌+◌, ◌≤◌, true, ◌⊎◌, List, [], ◌∷◌, length, take, slice_get, Some, sym, ap, ◌∙◌, subst, inl, inr, arith}
use Rattle.std.specs.Prelude.{sum_by}
use Rattle.std.proofs.lemmas.List.{take_all}
use Rattle.std.proofs.lemmas.List.Sums.{sum_by-cons, count_by_more_yes}
use Rattle.std.proofs.lemmas.Option.{slice_get_within, get_or_from_slice_get}
use Rattle.rt_base.specs.declared.data.Op.{Op}
use Rattle.rt_base.specs.declared.data.TaskDef.{TaskDef}
use Rattle.rt_base.specs.Operations.{is_posting, postings, nth_at}
use Rattle.task_local.specs.Local.{stop}
use Rattle.task_machine.specs.Course.{posted_by_phase}
use Rattle.task_machine.proofs.Stops.{posted_by-stop, stop_ended, stop_begins}

sum_grows : (f : Op → ℕ) (xs : List Op) (j : ℕ) → sum_by f (take j xs) ≤ sum_by f (take (suc j) xs)
sum_grows f xs zero = omega arith
sum_grows f [] (suc j) = omega arith
sum_grows f (x ∷ xs) (suc j) =
    let rest = sum_grows f xs j in
    let one = sum_by-cons f x (take j xs) in
    let two = sum_by-cons f x (take (suc j) xs) in
    omega (arith, rest, one, two)

suc_is : (j : ℕ) → suc j ≡ j + 1
suc_is j = omega arith

pub nth_grows : (def : TaskDef) (j : ℕ) → nth_at def j ≤ nth_at def (j + 1)
nth_grows def j = subst (λ m. nth_at def j ≤ postings (take m def.body.items)) (suc_is j) (sum_grows _ def.body.items j)

pub nth_more : (def : TaskDef) (j : ℕ) (o : Op) → slice_get def.body.items j ≡ Some o → is_posting o ≡ true → nth_at def (j + 1) ≡ nth_at def j + 1
nth_more def j o here posts =
    count_by_more_yes is_posting def.body.items j o (slice_get_within def.body.items j o here)
    (ap is_posting (get_or_from_slice_get def.body.items j o o here) ∙ posts)

either_way : (a b : ℕ) → (a ≤ b) ⊎ (b ≤ a)
either_way zero b = inl (omega arith)
either_way (suc a) zero = inr (omega arith)
either_way (suc a) (suc b) = elim (either_way a b) [ inl below ↦ inl (omega arith) | inr above ↦ inr (omega arith) ]

-- where a task stops after its local operations it has posted what stands before
pub posted_at_stop : (def : TaskDef) (k : ℕ) → posted_by_phase def (stop def k) ≡ nth_at def k
posted_at_stop def k = elim (either_way k (length def.body.items)) [
  | inl within ↦ posted_by-stop def k within
  | inr past ↦ ap (posted_by_phase def) (sym (stop_ended def k k (stop_begins def k) past)) ∙ ap postings (sym (take_all k def.body.items past))
]
