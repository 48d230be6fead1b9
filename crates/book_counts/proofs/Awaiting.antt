-- What tasks await, by where they stand and by the operation.
use Rattle.std.proofs.Common.{◌≡◌, ℕ, ◌<◌, ◌≤◌, Bool, true, false, ◌||◌, cond, List, [], ◌∷◌, length, slice_get, get_or, Some, None, Option}
use Rattle.std.proofs.Common.{refl, sym, ap, ◌∙◌, arith}
use Rattle.std.specs.Prelude.{◌==◌, ◌&&◌}
use Rattle.std.specs.List.{list_any}
use Rattle.std.proofs.lemmas.Bool.Decides.{nat_tests}
use Rattle.std.proofs.lemmas.Option.{slice_get_read, slice_get-get_or, slice_get_past}
use Rattle.rt_base.specs.declared.data.ReqNo.{ReqNo}
use Rattle.rt_base.specs.declared.data.Phase.{Phase}
use Rattle.rt_base.specs.declared.data.Phase.TheVariants as phase
use Rattle.rt_base.specs.declared.data.Op.{Op}
use Rattle.rt_base.specs.declared.data.TaskDef.{TaskDef}
use Rattle.rt_base.specs.declared.data.Program.{Program}
use Rattle.rt_base.specs.Operations.{awaited, awaited_by, nth_at, request}
use Rattle.rt_base.specs.Matching.{same_request}
use Rattle.task_machine.specs.Machine.{awaited_at}
use Rattle.book_counts.specs.Counted.{awaits_now}

-- what an operation awaits
pub awaited_is : (t : ℕ) (def : TaskDef) (k : ℕ) (x : Op) → slice_get def.body.items k ≡ Some x → awaited t def k ≡ awaited_by t (nth_at def k) (Some x)
unfolding awaited
awaited_is t def k x here = ap (awaited_by t (nth_at def k)) here

pub at_place : (ops : List Op) (k : ℕ) (found x : Op) → k < length ops → found ≡ get_or ops k found → found ≡ x → slice_get ops k ≡ Some x
at_place ops k found x within read is = slice_get_read ops (length ops) k found refl within read ∙ ap Some is

-- a request among those that an operation awaits
pub awaited_among : (def : TaskDef) (k : ℕ) (x : Op) (req : ReqNo) (result : Bool) → slice_get def.body.items k ≡ Some x
    → result ≡ list_any (same_request req) (awaited_by req.task.0 (nth_at def k) (Some x))
    → result ≡ list_any (same_request req) (awaited req.task.0 def k)
awaited_among def k x req result here is = is ∙ ap (λ (reqs : List ReqNo). list_any (same_request req) reqs) (sym (awaited_is req.task.0 def k x here))

pub none_among_past : (def : TaskDef) (k : ℕ) (req : ReqNo) → length def.body.items ≤ k → false ≡ list_any (same_request req) (awaited req.task.0 def k)
unfolding awaited
none_among_past def k req past = ap (λ (o : Option Op). list_any (same_request req) (awaited_by req.task.0 (nth_at def k) o))
    (sym (slice_get_past def.body.items k past))

one_nth : (t n m : ℕ) → (n == m) ≡ (((t == t) && (m == n)) || false)
one_nth t n m = grind (arith, nat_tests)

same_nth : (req : ReqNo) (n : ℕ) → (n == req.nth) ≡ list_any (same_request req) (request req.task.0 n ∷ [])
same_nth req n = one_nth req.task.0 n req.nth

-- of one request that is awaited only where the operation blocks
pub one_among : (req : ReqNo) (n : ℕ) (blocking : Bool) (result : Bool) → result ≡ (blocking && (n == req.nth))
    → result ≡ list_any (same_request req) (cond blocking (request req.task.0 n ∷ []) [])
one_among req n true result is = is ∙ same_nth req n
one_among req n false result is = is

-- a task that is not in an operation awaits nothing
abbrev pub is_in : Phase → Bool
is_in phase.Waiting = false
is_in (phase.At k) = false
is_in (phase.In k) = true
is_in phase.Ended = false
is_in phase.Returned = false
is_in phase.Released = false

pub awaits_none : (req : ReqNo) (o : Option TaskDef) (at : Phase) → is_in at ≡ false → false ≡ list_any (same_request req) (awaited_at req.task.0 o (Some at))
awaits_none req None at out = refl
awaits_none req (Some def) phase.Waiting out = refl
awaits_none req (Some def) (phase.At k) out = refl
awaits_none req (Some def) (phase.In k) out = absurd (cc out)
awaits_none req (Some def) phase.Ended out = refl
awaits_none req (Some def) phase.Returned out = refl
awaits_none req (Some def) phase.Released out = refl

-- the phase of a task, as it is read
pub phase_at_place : (phs : List Phase) (t : ℕ) (at : Phase) → t < length phs → get_or phs t phase.Waiting ≡ at → slice_get phs t ≡ Some at
phase_at_place phs t at within read = slice_get-get_or phs t phase.Waiting within ∙ ap Some read

pub awaits_nothing : (p : Program) (phs : List Phase) (req : ReqNo) (at : Phase) → req.task.0 < length phs → get_or phs req.task.0 phase.Waiting ≡ at
    → is_in at ≡ false → false ≡ awaits_now p phs req
awaits_nothing p phs req at within read out =
    awaits_none req (slice_get p.tasks.items req.task.0) at out
    ∙ ap (λ (q : Option Phase). list_any (same_request req) (awaited_at req.task.0 (slice_get p.tasks.items req.task.0) q))
    (sym (phase_at_place phs req.task.0 at within read))

pub awaits_there : (p : Program) (phs : List Phase) (req : ReqNo) (k : ℕ) (def : TaskDef) (result : Bool) → req.task.0 < length phs
    → get_or phs req.task.0 phase.Waiting ≡ phase.In k → slice_get p.tasks.items req.task.0 ≡ Some def
    → result ≡ list_any (same_request req) (awaited req.task.0 def k) → result ≡ awaits_now p phs req
awaits_there p phs req k def result within read is_def is =
    is ∙ ap (λ (o : Option TaskDef). list_any (same_request req) (awaited_at req.task.0 o (Some (phase.In k)))) (sym is_def)
    ∙ ap (λ (q : Option Phase). list_any (same_request req) (awaited_at req.task.0 (slice_get p.tasks.items req.task.0) q))
    (sym (phase_at_place phs req.task.0 (phase.In k) within read))
