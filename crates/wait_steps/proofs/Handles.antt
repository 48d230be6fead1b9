-- What the requests that handles name give, one handle after another.
use Rattle.std.proofs.Common.{◌≡◌, ℕ, ◌+◌, ◌≤◌, Bool, true, false, not, cond, ◌<◌, ℤ, List, [], ◌∷◌, ◌++◌, length, get_or, filter, drop, slice_get}
use Rattle.std.proofs.Common.{Option, Some, None, refl, sym, ap, ◌∙◌, subst, arith}
use Rattle.std.proofs.lemmas.List.{length-take, drop_more}
use Rattle.std.proofs.Math.ListN.{drop_of_length-le}
use Rattle.std.proofs.lemmas.List.Recursion.{is_count_by}
use Rattle.std.proofs.lemmas.List.Elements.{All-filter, All-get_or}
use Rattle.std.proofs.lemmas.Option.{get_or_from_slice_get, slice_get_within}
use Rattle.rt_base.specs.declared.data.ReqNo.{ReqNo}
use Rattle.rt_base.specs.declared.data.Span.{Span}
use Rattle.rt_base.specs.declared.data.How.{How}
use Rattle.rt_base.specs.declared.data.How.TheVariants as how
use Rattle.rt_base.specs.declared.data.Peer.{Peer}
use Rattle.rt_base.specs.declared.data.TagSel.{TagSel}
use Rattle.rt_base.specs.declared.data.Handle.{Handle}
use Rattle.rt_base.specs.declared.data.Handle.TheVariants as handle
use Rattle.rt_base.specs.declared.data.Op.{Op}
use Rattle.rt_base.specs.declared.data.Op.TheVariants as op
use Rattle.rt_base.specs.declared.data.TaskDef.{TaskDef}
use Rattle.rt_base.specs.declared.data.Program.{Program}
use Rattle.rt_base.specs.Spans.{span_len}
use Rattle.rt_base.specs.Operations.{request, is_posting, is_receive, posting_of, named_requests}
use Rattle.rt_base.specs.Exchange.{Exchange, Match}
use Rattle.rt_base.specs.Completion.{is_complete, match_with, cells_by, receive_cells, request_cells}
use Rattle.rt_base.specs.MayMove.{AreComplete}
use Rattle.rt_base.specs.WellFormed.{WellFormed, IsTask, IsOperation, IsPostingOf, IsDeclared}
use Rattle.match_engine.specs.Requests.{HasSpan}
use Rattle.task_local.specs.Standing.{def}
use Rattle.task_local.specs.Waits.{behind_status, taken_by_handle, taken_by_handles}
use Rattle.task_local.specs.StandsFor.{Record}
use Rattle.task_local.proofs.Programs.{task_is, def_is}
use Rattle.task_machine.specs.Machine.{open_count, open_ones}

-- ---- incomplete ones

open_step_counted : (req : ReqNo) (rest : List ReqNo) (complete : Bool)
    → length (cond complete rest (req ∷ rest)) ≡ cond (not complete) (1 + length rest) (length rest)
open_step_counted req rest true = refl
open_step_counted req rest false = omega arith

-- how many are incomplete is how many are listed
pub open_ones_counted : (p : Program) (x : Exchange) (reqs : List ReqNo) → length (open_ones p x reqs) ≡ open_count p x reqs
unfolding open_count
open_ones_counted p x reqs =
    is_count_by (λ (some : List ReqNo). length (open_ones p x some)) (λ req. not (is_complete p x req)) refl
    (λ req rest. open_step_counted req (open_ones p x rest) (is_complete p x req)) reqs

open_first : (complete : Bool) (req : ReqNo) (rest : List ReqNo) → cond complete rest (req ∷ rest) ≡ cond complete [] (req ∷ []) ++ rest
open_first true req rest = refl
open_first false req rest = refl

-- the incomplete ones of a first handle, and then those of the others
open_ones_next : (p : Program) (x : Exchange) (t : ℕ) (named : Handle) (handles : List Handle)
    → open_ones p x (named_requests t (named ∷ handles)) ≡ open_ones p x (named_requests t (named ∷ [])) ++ open_ones p x (named_requests t handles)
open_ones_next p x t handle.Null handles = refl
open_ones_next p x t (handle.Nth n) handles = open_first (is_complete p x (request t n)) (request t n) (open_ones p x (named_requests t handles))

-- the same of the handles that are left
pub open_ones_here : (p : Program) (x : Exchange) (t : ℕ) (handles : List Handle) (i : ℕ) → i < length handles
    → open_ones p x (named_requests t (drop i handles))
    ≡ open_ones p x (named_requests t (get_or handles i handle.Null ∷ [])) ++ open_ones p x (named_requests t (drop (i + 1) handles))
open_ones_here p x t handles i within =
    ap (λ (some : List Handle). open_ones p x (named_requests t some)) (drop_more handles i handle.Null within)
    ∙ open_ones_next p x t (get_or handles i handle.Null) (drop (i + 1) handles)

-- a count is whole when no handle is left
pub counted_at_end : (p : Program) (x : Exchange) (t : ℕ) (handles : List Handle) (i count : ℕ) → length handles ≤ i
    → count + length (open_ones p x (named_requests t (drop i handles))) ≡ length (open_ones p x (named_requests t handles))
    → count ≡ open_count p x (named_requests t handles)
counted_at_end p x t handles i count ended whole =
    let none = ap (λ (some : List Handle). length (open_ones p x (named_requests t some))) (drop_of_length-le handles ended) in
    omega (arith, none, open_ones_counted p x (named_requests t handles))

-- ---- complete ones

rest_complete : (p : Program) (x : Exchange) (t : ℕ) (named : Handle) (handles : List Handle) → AreComplete p x (named_requests t (named ∷ handles))
    → AreComplete p x (named_requests t handles)
rest_complete p x t handle.Null handles all = all
rest_complete p x t (handle.Nth n) handles all = all.1

-- what the handles that are left then name
pub complete_next : (p : Program) (x : Exchange) (t : ℕ) (handles : List Handle) (i : ℕ) → i < length handles
    → AreComplete p x (named_requests t (drop i handles)) → AreComplete p x (named_requests t (drop (i + 1) handles))
complete_next p x t handles i within all =
    rest_complete p x t (get_or handles i handle.Null) (drop (i + 1) handles)
    (subst (λ (some : List Handle). AreComplete p x (named_requests t some)) (drop_more handles i handle.Null within) all)

-- what the next handle stores, and then those behind it
pub taken_here : (p : Program) (x : Exchange) (t : ℕ) (task : TaskDef) (rest : Option Span) (handles : List Handle) (i : ℕ) (copy : List ℤ) → i < length handles
    → taken_by_handles p x t task rest (drop i handles) copy
    ≡ taken_by_handles p x t task (behind_status rest) (drop (i + 1) handles) (taken_by_handle p x t task rest (get_or handles i handle.Null) copy)
taken_here p x t task rest handles i copy within =
    ap (λ (some : List Handle). taken_by_handles p x t task rest some copy) (drop_more handles i handle.Null within)

-- ---- the span of a complete request

of_posting : (p : Program) (task : TaskDef) (kind : How) (span : Span) (whom : Peer) (selected : TagSel) (status : Option Span)
    → IsPostingOf p task kind span whom selected status → IsDeclared task.accesses.items span
of_posting p task how.Send span whom selected None is = is.0.declared
of_posting p task how.Send span whom selected (Some status) is = absurd is
of_posting p task how.Ssend span whom selected None is = is.0.declared
of_posting p task how.Ssend span whom selected (Some status) is = absurd is
of_posting p task how.Recv span whom selected status is = is.0.declared
of_posting p task how.Isend span whom selected None is = is.0.declared
of_posting p task how.Isend span whom selected (Some status) is = absurd is
of_posting p task how.Issend span whom selected None is = is.0.declared
of_posting p task how.Issend span whom selected (Some status) is = absurd is
of_posting p task how.Irecv span whom selected None is = is.declared
of_posting p task how.Irecv span whom selected (Some status) is = absurd is

of_operation : (p : Program) (task : TaskDef) (x : Op) (span : Span) → IsOperation p task x → HasSpan (Some x) span → IsDeclared task.accesses.items span
of_operation p task (op.Compute kernel dst left right value step) span is has = absurd has
of_operation p task (op.Post kind own whom selected comm status) span is has =
    subst (IsDeclared task.accesses.items) has (of_posting p task kind own whom selected status is.0)
of_operation p task (op.Await later handles status) span is has = absurd has

of_found : (p : Program) (task : TaskDef) (n : ℕ) (found : Option Op) (span : Span) → IsTask p task
    → slice_get (filter is_posting task.body.items) n ≡ found → HasSpan found span → IsDeclared task.accesses.items span
of_found p task n None span is here has = absurd has
of_found p task n (Some x) span is here has =
    let postings = filter is_posting task.body.items in
    of_operation p task x span
    (subst (IsOperation p task) (get_or_from_slice_get postings n x x here)
    (All-get_or (IsOperation p task) postings n x (slice_get_within postings n x here) (All-filter is_posting (IsOperation p task) task.body.items is.body)))
    has

of_task : (p : Program) (held : Record) (req : ReqNo) (found : Option TaskDef) (span : Span) → WellFormed p → p ≡ held.program → req.task.0 ≡ held.task
    → slice_get p.tasks.items req.task.0 ≡ found → HasSpan (posting_of p req) span → IsDeclared (def held).accesses.items span
of_task p held req None span well same who here has = absurd (rw here at has)
of_task p held req (Some task) span well same who here has =
    let own : slice_get p.tasks.items held.task ≡ Some task = ap (λ (t : ℕ). slice_get p.tasks.items t) (sym who) ∙ here in
    subst (λ (d : TaskDef). IsDeclared d.accesses.items span) (sym (def_is p held.program held.task task same own))
    (of_found p task req.nth (slice_get (filter is_posting task.body.items) req.nth) span (task_is p held.task task well own) refl (rw here at has))

-- its task declares it
pub span_declared : (p : Program) (held : Record) (req : ReqNo) (span : Span) → WellFormed p → p ≡ held.program → req.task.0 ≡ held.task
    → HasSpan (posting_of p req) span → IsDeclared (def held).accesses.items span
span_declared p held req span well same who has = of_task p held req (slice_get p.tasks.items req.task.0) span well same who refl has

fit_by : (receives : Bool) (span : Span) (found : Option Match) → length (cond receives (receive_cells span found) []) ≤ span_len span
fit_by true span None = omega arith
fit_by true span (Some made) = omega (arith, length-take (span_len span) made.message.cells)
fit_by false span found = omega arith

fit : (o : Option Op) (found : Option Match) (span : Span) → HasSpan o span → length (cells_by found o) ≤ span_len span
fit None found span has = absurd has
fit (Some (op.Compute kernel dst left right value step)) found span has = absurd has
fit (Some (op.Post kind own whom selected comm status)) found span has =
    subst (λ (s : Span). length (cond (is_receive kind) (receive_cells own found) []) ≤ span_len s) has (fit_by (is_receive kind) own found)
fit (Some (op.Await later handles status)) found span has = absurd has

-- what it received fits into it
pub cells_fit : (p : Program) (x : Exchange) (req : ReqNo) (span : Span) → HasSpan (posting_of p req) span → length (request_cells p x req) ≤ span_len span
unfolding request_cells
cells_fit p x req span has = fit (posting_of p req) (match_with x.matches req) span has
