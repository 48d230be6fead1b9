-- Marks of requests: one for each request of a program, by task and by number.
use Rattle.std.specs.Prelude.{Bool, true, false, List, [], ◌∷◌, map, replicate, slice_get, slice_set, slice_index_or, Option, option_and_then}
use Rattle.std.specs.Prelude.{unwrap_or, IsSome, ⊤}
use Rattle.rt_base.specs.declared.data.ReqNo.{ReqNo}
use Rattle.rt_base.specs.declared.data.TaskDef.{TaskDef}
use Rattle.rt_base.specs.declared.data.Program.{Program}
use Rattle.rt_base.specs.Operations.{postings}

-- for each task a row with a mark for each of its requests, none of them set
abbrev pub unmarked : Program → List (List Bool)
unmarked program = map (λ (task : TaskDef). replicate (postings task.body.items) false) program.tasks.items

-- the mark of a request, where it has one
abbrev pub mark_of : List (List Bool) → ReqNo → Option Bool
mark_of marks req = option_and_then (λ (row : List Bool). slice_get row req.nth) (slice_get marks req.task.0)

-- the request is marked
abbrev pub is_marked : List (List Bool) → ReqNo → Bool
is_marked marks req = unwrap_or (mark_of marks req) false

-- the marks where this request is marked too
abbrev pub marked : List (List Bool) → ReqNo → List (List Bool)
marked marks req = slice_set marks req.task.0 (slice_set (slice_index_or marks req.task.0 []) req.nth true)

-- the marks where these requests are marked too
abbrev pub marked_all : List (List Bool) → List ReqNo → List (List Bool)
marked_all marks [] = marks
marked_all marks (req ∷ reqs) = marked_all (marked marks req) reqs

-- each of these requests has a mark, set or not
abbrev pub HaveMarks : List (List Bool) → List ReqNo → Type 0
HaveMarks marks [] = ⊤
HaveMarks marks (req ∷ reqs) = IsSome (mark_of marks req) × HaveMarks marks reqs
