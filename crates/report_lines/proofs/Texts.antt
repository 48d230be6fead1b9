-- What the text of a list begins with.
use Rattle.std.proofs.Common.{◌≡◌, ℕ, suc, ◌+◌, ◌-◌, ◌<◌, ◌≤◌, Bool, true, false, List, []}
use Rattle.std.proofs.Common.{◌∷◌, ◌++◌, length, drop, get_or, codes, ℤ, refl, sym, ap, ◌∙◌, arith, if◌then◌else◌}
use Rattle.std.proofs.lemmas.List.{drop_all}
use Rattle.std.proofs.lemmas.List.Concat.{flat_map-append}
use Rattle.std.specs.List.{flat_map, range_with_len}
use Rattle.std.specs.Fmt.{decimal}
use Rattle.rt_base.specs.declared.data.Phase.{Phase}
use Rattle.rt_base.specs.declared.data.Status.{Status}
use Rattle.rt_base.specs.declared.data.Entry.{Entry}
use Rattle.rt_base.specs.declared.data.TaskDef.{TaskDef}
use Rattle.rt_base.specs.declared.data.Program.{Program}
use Rattle.rt_base.specs.State.{is_released}
use Rattle.task_machine.specs.Legal.{final, phases_of}
use Rattle.report_lines.specs.Lines.{line, number_text, numbers_text, status_numbers, entry_text, told_by, entry_lines, header_text, trace_text}
use Rattle.report_lines.specs.Report.{shown_lines, place_text, task_line, task_lines, is_finished, end_text, report}
use Rattle.report_lines.proofs.Putting.{drop_at}

-- the numbers of the statuses from this place on
pub statuses_at : (statuses : List Status) (i : ℕ) (d : Status) → i < length statuses
    → numbers_text (flat_map status_numbers (drop i statuses))
    ≡ numbers_text (status_numbers (get_or statuses i d)) ++ numbers_text (flat_map status_numbers (drop (i + 1) statuses))
statuses_at statuses i d below =
    ap (λ (told : List Status). numbers_text (flat_map status_numbers told)) (drop_at statuses i d below)
    ∙ flat_map-append number_text (status_numbers (get_or statuses i d)) (flat_map status_numbers (drop (i + 1) statuses))

-- the lines of the entries from this place on
pub lines_at : (entries : List Entry) (statuses : List Status) (i : ℕ) (d : Entry) → i < length entries
    → flat_map line (entry_lines (drop i entries) statuses)
    ≡ line (entry_text (get_or entries i d) (told_by statuses (get_or entries i d))) ++ flat_map line (entry_lines (drop (i + 1) entries) statuses)
lines_at entries statuses i d below =
    ap (λ (steps : List Entry). flat_map line (entry_lines steps statuses)) (drop_at entries i d below)

-- the line of a task that is not released
pub not_released : (t : ℕ) (def : TaskDef) (at : Phase) → is_released at ≡ false
    → line (codes "task " ++ decimal t ++ codes " rank " ++ decimal def.rank ++ codes " line " ++ decimal def.line ++ codes " " ++ place_text at)
    ≡ task_line t def at
not_released t def at h = rw h refl

pub is_let_go : (t : ℕ) (def : TaskDef) (at : Phase) → is_released at ≡ true → [] ≡ task_line t def at
is_let_go t def at h = rw h refl

-- the lines of the tasks from number t on
pub tasks_at : (tasks : List TaskDef) (phases : List Phase) (t : ℕ) (task : TaskDef) (at : Phase) → t < length tasks → t < length phases
    → task ≡ get_or tasks t task → at ≡ get_or phases t at
    → task_lines t (drop t tasks) (drop t phases) ≡ task_line t task at ++ task_lines (t + 1) (drop (t + 1) tasks) (drop (t + 1) phases)
tasks_at tasks phases t task at below some is_task is_at =
    let defs : drop t tasks ≡ task ∷ drop (t + 1) tasks =
    drop_at tasks t task below ∙ ap (λ (one : TaskDef). one ∷ drop (t + 1) tasks) (sym is_task) in
    let places : drop t phases ≡ at ∷ drop (t + 1) phases =
    drop_at phases t at some ∙ ap (λ (one : Phase). one ∷ drop (t + 1) phases) (sym is_at) in
    rw (defs, places) refl

pub no_task : (tasks : List TaskDef) (phases : List Phase) (t : ℕ) → length tasks ≤ t → task_lines t (drop t tasks) (drop t phases) ≡ []
no_task tasks phases t all = rw (drop_all t tasks all) refl

none_left : (t : ℕ) (tasks : List TaskDef) → task_lines t tasks [] ≡ []
none_left t [] = refl
none_left t (def ∷ defs) = refl

pub no_phase : (tasks : List TaskDef) (phases : List Phase) (t : ℕ) → length phases ≤ t → task_lines t (drop t tasks) (drop t phases) ≡ []
no_phase tasks phases t all = ap (task_lines t (drop t tasks)) (drop_all t phases all) ∙ none_left t (drop t tasks)

-- the ranks from this one on are this one and those behind it
pub ranks_at : (text_of : ℕ → List ℕ) (rank ranks : ℕ) → rank < ranks
    → flat_map text_of (range_with_len rank (ranks - rank)) ≡ text_of rank ++ flat_map text_of (range_with_len (rank + 1) (ranks - (rank + 1)))
ranks_at text_of rank ranks below =
    let e : ranks - rank ≡ suc (ranks - (rank + 1)) = omega arith in
    rw e refl

pub no_rank : (text_of : ℕ → List ℕ) (rank ranks : ℕ) → ranks ≤ rank → flat_map text_of (range_with_len rank (ranks - rank)) ≡ []
no_rank text_of rank ranks all =
    let e : ranks - rank ≡ 0 = omega arith in
    rw e refl

-- the two forms of an end
pub finished_text : (program : Program) (memory : List ℤ) (phases : List Phase) → is_finished phases ≡ true
    → line (codes "finished") ++ shown_lines program memory ≡ end_text program memory phases
finished_text program memory phases h = rw h refl

pub stuck_text : (program : Program) (memory : List ℤ) (phases : List Phase) (tasks : List TaskDef) → is_finished phases ≡ false
    → tasks ≡ program.tasks.items
    → line (codes "stuck") ++ shown_lines program memory ++ task_lines 0 tasks phases ≡ end_text program memory phases
stuck_text program memory phases tasks h same = rw (h, same) refl

-- the header and the lines
pub traced : (program : Program) (workers : ℕ) (entries steps : List Entry) (statuses told : List Status) → steps ≡ entries → told ≡ statuses
    → line (header_text 1 program.ranks workers program.eager) ++ flat_map line (entry_lines steps told) ≡ trace_text program workers entries statuses
traced program workers entries steps statuses told same_entries same_statuses = rw (same_entries, same_statuses) refl

-- the report of a history whose cells and phases these are
pub reported : (program : Program) (workers : ℕ) (entries : List Entry) (statuses : List Status) (trace : Bool) (cells : List ℤ) (phases : List Phase)
    → cells ≡ (final program entries).memory → phases ≡ phases_of (final program entries).tasks
    → end_text program cells phases ++ (if trace then trace_text program workers entries statuses else [])
    ≡ report program workers entries statuses trace
reported program workers entries statuses trace cells phases same_cells same_phases =
    let asked = if trace then trace_text program workers entries statuses else [] in
    ap (λ (cells : List ℤ). end_text program cells phases ++ asked) same_cells
    ∙ ap (λ (phases : List Phase). end_text program (final program entries).memory phases ++ asked) same_phases
