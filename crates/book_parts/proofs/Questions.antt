-- What a book answers of its tasks, in terms of its fields.
use Rattle.std.proofs.Common.{◌≡◌, ℕ, ◌+◌, ◌<◌, ◌≤◌, ◌↔◌, Bool, List, length, map, slice_get, get_or, Some}
use Rattle.std.proofs.Common.{IsTrue, sym, ap, ◌∙◌, subst, All, below_more, arith}
use Rattle.std.proofs.lemmas.Option.{slice_get_within, slice_get_read, slice_get-get_or}
use Rattle.std.proofs.lemmas.List.{length-map}
use Rattle.std.proofs.lemmas.List.Elements.{All-map}
use Rattle.std.proofs.Math.ListN.{get_or-map}
use Rattle.rt_base.specs.declared.data.Phase.{Phase}
use Rattle.rt_base.specs.declared.data.Phase.TheVariants as phase
use Rattle.rt_base.specs.declared.data.Entry.{Entry}
use Rattle.rt_base.specs.declared.data.TaskDef.{TaskDef}
use Rattle.rt_base.specs.declared.data.Program.{Program}
use Rattle.rt_base.specs.Precedes.{LetGo, MayStart}
use Rattle.rt_base.specs.State.{State, Task, let_go}
use Rattle.rt_base.specs.MayMove.{MayMove, MayMoveAt}
use Rattle.task_local.specs.Standing.{no_task}
use Rattle.task_machine.specs.Legal.{final, IsQuiet, IsFinished, phases_of}
use Rattle.book_counts.proofs.Figures.{Standing, standing}
use Rattle.book_parts.specs.Ledger.{Ledger}
use Rattle.book_parts.specs.Kept.{BookParts, KeepsState, state_now}
use Rattle.book_parts.proofs.Moved.{ledger_of}
use Rattle.book_parts.proofs.Held.{same_program, theirs, phases_counted}

same_item : {X : Type 0} {a b : X} → Some a ≡ Some b → a ≡ b
same_item e = cc

-- a task may move exactly as its phase says
pub may_move_is : (p : Program) (s : State) (t : ℕ) (def : TaskDef) (at : Phase) (here : Standing s t at) → slice_get p.tasks.items t ≡ Some def
    → (result : Bool)
    → (IsTrue result ↔ MayMoveAt p s.tasks s.exchange t def here.task at) → IsTrue result ↔ MayMove p s t
may_move_is p s t def at here is_def result answer = (
  λ yes. record {
    def = def;
    task = here.task;
    is_def = is_def;
    is_task = here.is_task;
    enabled = subst (MayMoveAt p s.tasks s.exchange t def here.task) (sym here.stands) (answer.0 yes);
  },
  λ may.
      let one_def : may.def ≡ def = same_item (sym may.is_def ∙ is_def) in
      let one_task : may.task ≡ here.task = same_item (sym may.is_task ∙ here.is_task) in
      answer.1 (subst (λ (q : Phase). MayMoveAt p s.tasks s.exchange t def here.task q) here.stands
      (subst (λ (z : Task). MayMoveAt p s.tasks s.exchange t def z z.phase) one_task
      (subst (λ (d : TaskDef). MayMoveAt p s.tasks s.exchange t d may.task may.task.phase) one_def may.enabled))),
)

-- what the graph says of a task is what the machine's state says of it
pub gone_of : (parts : BookParts) → KeepsState parts → parts.ready.gone ≡ let_go (state_now parts).tasks
gone_of parts k = k.gone_is

pub waiting_answer : (parts : BookParts) (t : ℕ) (result : Bool) → KeepsState parts → (IsTrue result ↔ MayStart parts.ready.program parts.ready.gone t)
    → IsTrue result ↔ MayStart parts.program (let_go (state_now parts).tasks) t
waiting_answer parts t result k answer =
    subst (λ (g : LetGo). IsTrue result ↔ MayStart parts.program g t) (gone_of parts k)
    (subst (λ (q : Program). IsTrue result ↔ MayStart q parts.ready.gone t) k.of_program answer)

longer_map : (tasks : List Task) (k : ℕ) → k < length tasks → k < length (map (λ (z : Task). z.phase) tasks)
longer_map tasks k within = omega (arith, length-map tasks (λ (z : Task). z.phase))

released_tasks : (tasks : List Task) → All (λ at. at ≡ phase.Released) (map (λ (z : Task). z.phase) tasks) → All (λ (z : Task). z.phase ≡ phase.Released) tasks
released_tasks tasks all = λ k d within.
    sym (get_or-map (λ (z : Task). z.phase) tasks k d) ∙ all k d.phase (longer_map tasks k within)

released_phases : (tasks : List Task) → All (λ (z : Task). z.phase ≡ phase.Released) tasks → All (λ at. at ≡ phase.Released) (map (λ (z : Task). z.phase) tasks)
released_phases tasks all = All-map (λ at. at ≡ phase.Released) (λ (z : Task). z.phase) tasks all

-- whether a task may move, by the phase that is read
pub can_move_answer : (parts : BookParts) (t : ℕ) (at found : Phase) (result : Bool) (l : Ledger) (prog : Program) → KeepsState parts → ledger_of parts ≡ l
    → prog ≡ l.program
    → t < length prog.tasks.items → found ≡ get_or parts.phases t found → found ≡ at
    → ((def : TaskDef) (task : Task) → slice_get parts.program.tasks.items t ≡ Some def → slice_get (state_now parts).tasks t ≡ Some task
    → IsTrue result ↔ MayMoveAt parts.program (state_now parts).tasks (state_now parts).exchange t def task at)
    → IsTrue result ↔ MayMove prog (final prog l.history) t
can_move_answer parts t at found result l prog k view same exists read is answer =
    let p : Program = parts.program in
    let within : t < length p.tasks.items = subst (λ (z : Program). t < length z.tasks.items) (same_program parts l prog view same) exists in
    let here : slice_get parts.phases t ≡ Some at =
    slice_get_read parts.phases (length p.tasks.items) t found (sym (phases_counted parts k)) within read ∙ ap Some is in
    let stands = standing (state_now parts) parts.phases t at k.phases_are here in
    let is_def = slice_get-get_or p.tasks.items t no_task within in
    theirs (λ (q : Program) (es : List Entry). IsTrue result ↔ MayMove q (final q es) t) parts l prog view same
    (may_move_is p (state_now parts) t (get_or p.tasks.items t no_task) at stands is_def result
    (answer (get_or p.tasks.items t no_task) stands.task is_def stands.is_task))

-- where all are released, by the phases
pub finished_answer : (parts : BookParts) (result : Bool) (l : Ledger) → KeepsState parts → ledger_of parts ≡ l
    → (IsTrue result ↔ All (λ at. at ≡ phase.Released) parts.phases)
    → IsTrue result ↔ IsFinished (final l.program l.history)
finished_answer parts result l k view answer =
    let own : IsTrue result ↔ All (λ at. at ≡ phase.Released) (phases_of (state_now parts).tasks) =
    subst (λ (z : List Phase). IsTrue result ↔ All (λ at. at ≡ phase.Released) z) k.phases_are answer in
    subst (λ (z : Ledger). IsTrue result ↔ IsFinished (final z.program z.history)) view
    (λ yes. released_tasks (state_now parts).tasks (own.0 yes), λ all. own.1 (released_phases (state_now parts).tasks all))

-- the tasks before a place can't move
abbrev pub NoneBefore : Program → State → ℕ → Type 0
NoneBefore p s t = (u : ℕ) → u < t → MayMove p s u → ⊥

before : (u t : ℕ) (p : Program) (s : State) → length p.tasks.items ≤ t → MayMove p s u → u < t
before u t p s all may = omega (arith, slice_get_within p.tasks.items u may.def may.is_def)

-- a state in which the tasks of the program can't move is quiet
pub quiet_of_all : (p : Program) (s : State) (t : ℕ) → length p.tasks.items ≤ t → NoneBefore p s t → IsQuiet p s
quiet_of_all p s t all none = λ u may. none u (before u t p s all may) may

-- none before a place and not the one there
pub none_before_more : (p : Program) (s : State) (t : ℕ) → NoneBefore p s t → (MayMove p s t → ⊥) → NoneBefore p s (t + 1)
none_before_more p s t none here = below_more (λ u. MayMove p s u → ⊥) t none here
