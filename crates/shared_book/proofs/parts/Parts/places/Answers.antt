use Rattle.std.proofs.Common.{ℕ, List, length, sym, ap, ◌∙◌, subst, arith}
use Rattle.meet_hall.specs.Plan.{IsNarrow}
use Rattle.shared_book.specs.Parts.{meeting_places}
use Rattle.shared_book.proofs.Pairing.{some_place, plan_count, few_at}
use Rattle.shared_book.proofs.parts.Parts.places.Goals as goal

pub returns-clause-some : goal.returns-clause-some
returns-clause-some c =
    let is = c.as_slice.ensures.value ∙ c.self.invariant.places_are in
    let some = some_place c.self.inside.book.program.tasks.items in
    let same = ap (λ (ps : List ℕ). length ps) is in
    omega (arith, some, same)

pub returns-clause-few : goal.returns-clause-few
returns-clause-few c =
    let is = c.as_slice.ensures.value ∙ c.self.invariant.places_are in
    let count = plan_count c.self.inside.book.program.tasks.items in
    let same = ap (λ (ps : List ℕ). length ps) is in
    omega (arith, count, same, c.self.invariant.well_formed.task_count)

pub returns-clause-narrow : goal.returns-clause-narrow
returns-clause-narrow c =
    let is = c.as_slice.ensures.value ∙ c.self.invariant.places_are in
    let tasks = c.self.inside.book.program.tasks.items in
    let narrow : IsNarrow (meeting_places tasks) = λ m within.
    let few = few_at tasks 262144 c.self.invariant.well_formed.requests m within in omega (arith, few) in
    subst IsNarrow (sym is) narrow
