use Rattle.std.proofs.Common.{◌≡◌, ℕ, drop}
use Rattle.std.specs.List.{list_any}
use Rattle.rt_base.specs.Operations.{request, named_requests}
use Rattle.rt_base.specs.Matching.{same_request}
use Rattle.book_counts.proofs.telling.is_named.Given as goal

-- the request is named exactly where it is among the rest
abbrev pub invariant-loop-handle : goal.invariant-loop-handle
invariant-loop-handle l =
    (t : ℕ) → list_any (same_request (request t l.nth)) (named_requests t (drop l.handle-index l.handles)) ≡ list_any (same_request (request t l.nth))
    (named_requests t l.handles)
