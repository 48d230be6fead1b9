-- What follows from the definitions alone.
use Rattle.std.specs.Prelude.{◌≡◌, Bool, false, ◌||◌, List, IsSome}
use Rattle.std.specs.List.{list_any}
use Rattle.rt_base.specs.declared.data.ReqNo.{ReqNo}
use Rattle.rt_base.specs.declared.data.Program.{Program}
use Rattle.rt_base.specs.Operations.{posting_of}
use Rattle.rt_base.specs.Matching.{same_request}
use Rattle.wait_steps.specs.MarkedRows.{unmarked, mark_of, is_marked, marked_all, HaveMarks}

-- after a binding exactly those are marked that were marked before or are bound (this project's)
abbrev pub BoundAreMarked : Type 0
BoundAreMarked =
    (marks : List (List Bool)) (reqs : List ReqNo) (req : ReqNo) → HaveMarks marks reqs
    → is_marked (marked_all marks reqs) req ≡ (is_marked marks req || list_any (same_request req) reqs)

-- at first nothing is marked (this project's)
abbrev pub NothingIsMarked : Type 0
NothingIsMarked = (program : Program) (req : ReqNo) → is_marked (unmarked program) req ≡ false

-- each request of the program has a mark (this project's)
abbrev pub RequestsHaveMarks : Type 0
RequestsHaveMarks = (program : Program) (req : ReqNo) → IsSome (posting_of program req) → IsSome (mark_of (unmarked program) req)

-- what has a mark has one after any binding (this project's)
abbrev pub MarksStay : Type 0
MarksStay =
    (marks : List (List Bool)) (reqs others : List ReqNo) → HaveMarks marks reqs → HaveMarks marks others → HaveMarks (marked_all marks reqs) others
