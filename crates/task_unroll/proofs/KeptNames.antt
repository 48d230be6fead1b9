-- That names mean what there is, after a statement that gives one of them a meaning.
use Rattle.std.proofs.Common.{◌≡◌, ℕ, ◌+◌, ◌<◌, ◌≤◌, Bool, true, false, ◌⊎◌, List, [], ◌∷◌, ◌++◌, Option, Some, None, Result, Ok, Err, refl, sym, ap}
use Rattle.std.proofs.Common.{◌∙◌, subst, inl, inr, arith}
use Rattle.std.specs.Prelude.{Contains, ℤ}
use Rattle.rt_base.specs.declared.data.FaultKind.{FaultKind}
use Rattle.rt_base.specs.declared.data.Op.{Op}
use Rattle.rt_base.specs.InUse.{left_after}
use Rattle.task_names.specs.declared.meaning.Meaning.{Meaning}
use Rattle.task_names.specs.declared.meaning.Meaning.TheVariants as meaning
use Rattle.task_names.specs.Scopes.{Names, meaning_of, with_meaning, as_array, as_communicator}
use Rattle.task_unroll.proofs.Bodies.{none_in}
use Rattle.task_unroll.proofs.Meanings.{AllMean, NamedOnce, new_or_old, all_mean_with}
use Rattle.task_unroll.proofs.Sound.{IsFit, HasNames}

pub array_is : (o : Option Meaning) (n : ℕ) → as_array o ≡ Ok n → o ≡ Some (meaning.Array n)
array_is None n is = absurd (cc)
array_is (Some (meaning.Variable value)) n is = absurd (cc)
array_is (Some (meaning.Array number)) n is = cc
array_is (Some (meaning.Communicator number)) n is = absurd (cc)
array_is (Some (meaning.Posted number)) n is = absurd (cc)
array_is (Some meaning.Idle) n is = absurd (cc)

pub communicator_is : (o : Option Meaning) (n : ℕ) → as_communicator o ≡ Ok n → o ≡ Some (meaning.Communicator n)
communicator_is None n is = absurd (cc)
communicator_is (Some (meaning.Variable value)) n is = absurd (cc)
communicator_is (Some (meaning.Array number)) n is = absurd (cc)
communicator_is (Some (meaning.Communicator number)) n is = cc
communicator_is (Some (meaning.Posted number)) n is = absurd (cc)
communicator_is (Some meaning.Idle) n is = absurd (cc)

-- a meaning that is no request that another name means
pub once_with : (names : Names) (name : List ℕ) (m : Meaning) → NamedOnce names
    → ((n : ℕ) (other : List ℕ) → m ≡ meaning.Posted n → meaning_of names other ≡ Some (meaning.Posted n) → ⊥) → NamedOnce (with_meaning names name m)
once_with names name m once new one other n is also =
    elim (new_or_old names name one m (meaning.Posted n) is) [
      | inl here ↦ elim (new_or_old names name other m (meaning.Posted n) also) [
        | inl there ↦ here.0 ∙ sym there.0
        | inr there ↦ absurd (new n other here.1 there.1)
      ]
      | inr here ↦ elim (new_or_old names name other m (meaning.Posted n) also) [
        | inl there ↦ absurd (new n one there.1 here.1)
        | inr there ↦ once one other n here.1 there.1
      ]
    ]

-- a name gets a meaning that is no request
pub names_with : (arrays comms : ℕ) (names : Names) (body : List Op) (name : List ℕ) (m : Meaning) → HasNames arrays comms names body
    → IsFit arrays comms body m
    → ((n : ℕ) → m ≡ meaning.Posted n → ⊥) → HasNames arrays comms (with_meaning names name m) body
names_with arrays comms names body name m has fit plain = record {
  fit = all_mean_with (IsFit arrays comms body) names name m has.fit fit;
  once = once_with names name m has.once (λ n other is also. plain n is);
}

fit_weaker : (arrays comms more_arrays more_comms : ℕ) (body : List Op) (m : Meaning) → arrays ≤ more_arrays → comms ≤ more_comms → IsFit arrays comms body m
    → IsFit more_arrays more_comms body m
fit_weaker arrays comms more_arrays more_comms body (meaning.Variable value) a c fit = tt
fit_weaker arrays comms more_arrays more_comms body (meaning.Array number) a c fit = omega arith
fit_weaker arrays comms more_arrays more_comms body (meaning.Communicator number) a c fit = omega arith
fit_weaker arrays comms more_arrays more_comms body (meaning.Posted n) a c fit = fit
fit_weaker arrays comms more_arrays more_comms body meaning.Idle a c fit = tt

pub names_weaker : (arrays comms more_arrays more_comms : ℕ) (names : Names) (body : List Op) → arrays ≤ more_arrays → comms ≤ more_comms
    → HasNames arrays comms names body → HasNames more_arrays more_comms names body
names_weaker arrays comms more_arrays more_comms names body a c has = record {
  fit = λ name m is. fit_weaker arrays comms more_arrays more_comms body m a c (has.fit name m is);
  once = has.once;
}

fit_by_requests : (arrays comms : ℕ) (body after : List Op) (m : Meaning)
    → ((n : ℕ) → m ≡ meaning.Posted n → Contains (left_after 0 body) n → Contains (left_after 0 after) n)
    → IsFit arrays comms body m → IsFit arrays comms after m
fit_by_requests arrays comms body after (meaning.Variable value) turns fit = tt
fit_by_requests arrays comms body after (meaning.Array number) turns fit = fit
fit_by_requests arrays comms body after (meaning.Communicator number) turns fit = fit
fit_by_requests arrays comms body after (meaning.Posted n) turns fit = turns n refl fit
fit_by_requests arrays comms body after meaning.Idle turns fit = tt

-- the requests that names mean are left after other operations too
pub names_after : (arrays comms : ℕ) (names : Names) (body after : List Op)
    → ((name : List ℕ) (n : ℕ) → meaning_of names name ≡ Some (meaning.Posted n) → Contains (left_after 0 body) n → Contains (left_after 0 after) n)
    → HasNames arrays comms names body → HasNames arrays comms names after
names_after arrays comms names body after turns has = record {
  fit = λ name m is. fit_by_requests arrays comms body after m (λ n same. turns name n (is ∙ ap Some same)) (has.fit name m is);
  once = has.once;
}
