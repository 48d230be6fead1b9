use Rattle.std.proofs.Common.{◌≡◌, ◌++◌, drop}
use Rattle.shared_book.specs.Parts.{meeting_places}
use Rattle.shared_book.proofs.parts.places_of.Given as goal

-- with those of the tasks that are left the places are whole
abbrev pub invariant-loop-task : goal.invariant-loop-task
invariant-loop-task l = l.places.items ++ meeting_places (drop l.task-index l.tasks) ≡ meeting_places l.tasks
