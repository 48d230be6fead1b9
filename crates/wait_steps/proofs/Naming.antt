-- What the operations of a well-formed program name has marks, and their status spans have places.
use Rattle.std.proofs.Common.{◌≡◌, ℕ, suc, zero, ◌+◌, ◌*◌, ◌<◌, ◌≤◌, Bool, List, [], ◌∷◌, take, slice_get, Some, None, Option, Contains, All, IsSome, arith}
use Rattle.rt_base.specs.Listing.{Listing}
use Rattle.rt_base.specs.declared.data.ReqNo.{ReqNo}
use Rattle.rt_base.specs.declared.data.Span.{Span}
use Rattle.rt_base.specs.declared.data.Handle.{Handle}
use Rattle.rt_base.specs.declared.data.Handle.TheVariants as handle
use Rattle.rt_base.specs.declared.data.Op.TheVariants as op
use Rattle.rt_base.specs.declared.data.TaskDef.{TaskDef}
use Rattle.rt_base.specs.declared.data.Program.{Program}
use Rattle.rt_base.specs.Operations.{request, named_requests, posting_of, postings}
use Rattle.rt_base.specs.Spans.{span_len}
use Rattle.rt_base.specs.InUse.{left_after}
use Rattle.rt_base.specs.WellFormed.{WellFormed, IsOpen, OfSpan, MayWrite}
use Rattle.tidy_runs.proofs.Tidying.{follows_at}
use Rattle.run_bounds.proofs.Tells.{posted_within}
use Rattle.run_bounds.proofs.Operations.{left_below, posting_exists}
use Rattle.wait_steps.specs.MarkedRows.{mark_of, HaveMarks}
use Rattle.wait_steps.specs.StatusSpans.{HasPlaces}

-- each request that open handles name has a mark
pub named_have : (p : Program) (marks : List (List Bool)) (t k : ℕ) (def : TaskDef) (handles : List Handle) → slice_get p.tasks.items t ≡ Some def
    → ((req : ReqNo) → IsSome (posting_of p req) → IsSome (mark_of marks req))
    → All (IsOpen (take k def.body.items)) handles → HaveMarks marks (named_requests t handles)
named_have p marks t k def [] is_def have are_open = tt
named_have p marks t k def (handle.Null ∷ handles) is_def have are_open =
    named_have p marks t k def handles is_def have (λ i d below. are_open (suc i) d (omega arith))
named_have p marks t k def (handle.Nth n ∷ handles) is_def have are_open =
    let left : Contains (left_after 0 (take k def.body.items)) n = are_open zero (handle.Nth n) (omega arith) in
    let below : n < postings def.body.items = omega (arith, left_below 0 n (take k def.body.items) left, posted_within def k) in (
      have (request t n) (posting_exists p t n def is_def below),
      named_have p marks t k def handles is_def have (λ i d below. are_open (suc i) d (omega arith)),
    )

-- each request that an operation of a well-formed program names has a mark, where each request of the program has one
pub binding_has : (p : Program) (marks : List (List Bool)) (t k : ℕ) (def : TaskDef) (later : Bool) (handles : Listing Handle) (status : Option Span)
    → WellFormed p → slice_get p.tasks.items t ≡ Some def → slice_get def.body.items k ≡ Some (op.Await later handles status)
    → ((req : ReqNo) → IsSome (posting_of p req) → IsSome (mark_of marks req)) → HaveMarks marks (named_requests t handles.items)
binding_has p marks t k def later handles status well is_def here have =
    let follows = follows_at p t k def (op.Await later handles status) well is_def here in
    named_have p marks t k def handles.items is_def have follows.handles.0

-- the cells of its statuses are declared
pub places_of : (p : Program) (def : TaskDef) (status : Option Span) (n : ℕ) → OfSpan (λ cells. MayWrite p def cells × (span_len cells ≡ 4 * n)) status
    → HasPlaces def status n
places_of p def None n allowed = tt
places_of p def (Some cells) n allowed = (allowed.0.declared, omega (arith, allowed.1))
