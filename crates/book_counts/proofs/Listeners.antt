-- Whom a book tells of a completion: those of whom the machine says so, and each is a task of the program.
use Rattle.std.proofs.Common.{◌≡◌, ℕ, ◌<◌, Bool, true, false, cond, List, [], ◌∷◌, length, slice_get, Option, Some, None, refl, sym, ap, ◌∙◌, subst}
use Rattle.std.specs.Prelude.{◌||◌, ◌&&◌, not, option_map, IfSome}
use Rattle.std.specs.List.{list_any}
use Rattle.std.proofs.lemmas.Option.{slice_get_within}
use Rattle.std.proofs.lemmas.List.Folds.{list_any-append}
use Rattle.rt_base.specs.declared.data.ReqNo.{ReqNo}
use Rattle.rt_base.specs.declared.data.Phase.{Phase}
use Rattle.rt_base.specs.declared.data.TaskDef.{TaskDef}
use Rattle.rt_base.specs.declared.data.Program.{Program}
use Rattle.rt_base.specs.Operations.{posting_of}
use Rattle.rt_base.specs.Matching.{same_request}
use Rattle.rt_base.specs.Completion.{is_complete, completes_alone}
use Rattle.rt_base.specs.State.{State, Task}
use Rattle.task_machine.specs.Machine.{awaited_at, is_expected, noticed, or_none, phase_at}
use Rattle.task_machine.specs.Legal.{phases_of}
use Rattle.task_machine.proofs.Lists.{slice_get-map}
use Rattle.wait_steps.specs.MarkedRows.{is_marked}
use Rattle.book_counts.specs.declared.telling.Told.{Told}
use Rattle.book_counts.specs.Counted.{awaits_now, completed_now, expects_now, told_requests}
use Rattle.book_counts.proofs.Figures.{Figures, AreKept, bound_by}

-- a request that is given where something holds: it holds
where_it_holds : (holds : Bool) (req found : ReqNo) → found ∷ [] ≡ cond holds (req ∷ []) [] → (found ≡ req) × (holds ≡ true)
where_it_holds true req found is = (cc, refl)
where_it_holds false req found is = absurd (cc)

second_of : (one other : Bool) → (one && other) ≡ true → other ≡ true
second_of true other both = both
second_of false other both = absurd (cc)

-- a task that has bound something is one of the state
has_bound : (req : ReqNo) (tasks : List Task) (found : Option Task) → slice_get tasks req.task.0 ≡ found
    → list_any (same_request req) (or_none (option_map (λ (task : Task). task.bound) found)) ≡ true → req.task.0 < length tasks
has_bound req tasks None here some = absurd (cc)
has_bound req tasks (Some task) here some = slice_get_within tasks req.task.0 task here

-- a task that awaits something is one of the program
awaits_some : (req : ReqNo) (defs : List TaskDef) (found : Option TaskDef) (at : Option Phase) → slice_get defs req.task.0 ≡ found
    → list_any (same_request req) (awaited_at req.task.0 found at) ≡ true → req.task.0 < length defs
awaits_some req defs None at here some = absurd (cc)
awaits_some req defs (Some def) at here some = slice_get_within defs req.task.0 def here

module _ {f : Figures} (kept : AreKept f) where
  expected_exists : (req : ReqNo) (marked awaited : Bool) → marked ≡ list_any (same_request req) (bound_by f.state req.task.0)
      → awaited ≡ awaits_now f.program f.phases req → (marked || awaited) ≡ true → req.task.0 < length f.program.tasks.items
  expected_exists req true awaited is_bound awaits expected =
      subst (λ (n : ℕ). req.task.0 < n) kept.fits.counted
      (has_bound req f.state.tasks (slice_get f.state.tasks req.task.0) refl (sym is_bound))
  expected_exists req false awaited is_bound awaits expected =
      awaits_some req f.program.tasks.items (slice_get f.program.tasks.items req.task.0) (slice_get f.phases req.task.0) refl (sym awaits ∙ expected)

  told_of : (found : Told) (partner : Option ReqNo) → found.req ∷ [] ≡ completed_now f.program (expects_now f.program f.phases f.marks) partner
      → found.req.task.0 < length f.program.tasks.items
  told_of found None is = absurd (cc)
  told_of found (Some req) is =
      let one = where_it_holds _ req found.req is in
      subst (λ (r : ReqNo). r.task.0 < length f.program.tasks.items) (sym one.0)
      (expected_exists req _ _ (kept.binding.marked req) refl (second_of _ _ one.1))

  -- whoever is told is a task of the program
  pub told_exists : (told : Option Told) (partner : Option ReqNo)
      → told_requests (λ (found : Told). true) told ≡ completed_now f.program (expects_now f.program f.phases f.marks) partner
      → IfSome told (λ (found : Told). found.req.task.0 < length f.program.tasks.items)
  told_exists None partner is = tt
  told_exists (Some found) partner is = told_of found partner is

-- the marks say what is bound
abbrev pub MarksBound : State → List (List Bool) → Type 0
MarksBound s marks = (req : ReqNo) → is_marked marks req ≡ list_any (same_request req) (bound_by s req.task.0)

-- what the state says of the partner, the book reads from its own lists
expected_now : (p : Program) (s : State) (phs : List Phase) (marks : List (List Bool)) (other : ReqNo) → MarksBound s marks → phs ≡ phases_of s.tasks
    → is_expected p s.tasks other ≡ expects_now p phs marks other
unfolding is_expected
expected_now p s phs marks other marked are =
    let u : ℕ = other.task.0 in
    let def : Option TaskDef = slice_get p.tasks.items u in
    list_any-append (same_request other) (bound_by s u) (awaited_at u def (phase_at s.tasks u))
    ∙ ap (λ (b : Bool). b || list_any (same_request other) (awaited_at u def (phase_at s.tasks u))) (sym (marked other))
    ∙ ap (λ (q : Option Phase). is_marked marks other || list_any (same_request other) (awaited_at u def q))
    (sym (ap (λ (z : List Phase). slice_get z u) are ∙ slice_get-map (λ (z : Task). z.phase) s.tasks u))

pub told_now_is : (p : Program) (s : State) (phs : List Phase) (marks : List (List Bool)) (found : Option ReqNo) → MarksBound s marks → phs ≡ phases_of s.tasks
    → IfSome found (λ other. is_complete p s.exchange other ≡ completes_alone p.eager (posting_of p other))
    → completed_now p (expects_now p phs marks) found ≡ noticed p s.tasks s.exchange found
told_now_is p s phs marks None marked are before = refl
told_now_is p s phs marks (Some other) marked are before =
    ap (λ (b : Bool). cond (not b && expects_now p phs marks other) (other ∷ []) []) (sym before)
    ∙ ap (λ (b : Bool). cond (not (is_complete p s.exchange other) && b) (other ∷ []) []) (sym (expected_now p s phs marks other marked are))
