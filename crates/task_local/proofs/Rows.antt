-- Statuses that are stored one behind another are their cells at once.
use Rattle.std.proofs.Common.{◌≡◌, ℕ, ◌+◌, ◌*◌, ◌^◌, ◌<◌, ◌≤◌, not, ℤ, List, [], ◌∷◌, ◌++◌, length, take, drop, Some, ⊎_elim, sym, ap, ap₂, ◌∙◌, refl}
use Rattle.std.proofs.Common.{length-append, length-take-le, append_assoc, drop-drop, take_at, drop_at, ne_eqb, arith}
use Rattle.std.specs.List.{flat_map}
use Rattle.std.proofs.lemmas.Bool.{cases_eq}
use Rattle.rt_base.specs.declared.data.Span.{Span}
use Rattle.rt_base.specs.declared.data.Status.{Status}
use Rattle.rt_base.specs.declared.data.Access.{Access}
use Rattle.rt_base.specs.declared.data.Mode.TheVariants as mode
use Rattle.rt_base.specs.declared.data.TaskDef.{TaskDef}
use Rattle.rt_base.specs.declared.data.Program.{Program}
use Rattle.rt_base.specs.Spans.{span_len}
use Rattle.rt_base.specs.WellFormed.{WellFormed, IsTask, MayWrite, region_cells}
use Rattle.task_local.specs.Regions.{regions, place, put, spliced}
use Rattle.task_local.specs.Waits.{status_cells, put_statuses}
use Rattle.task_local.proofs.Places.{place-rises, place_in-regions, declared_fits}
use Rattle.task_local.proofs.Order.{Rises-regions}
use Rattle.task_local.proofs.Copies.{length-spliced, put_is_spliced}
use Rattle.task_local.proofs.Programs.{lies_in, filled_low}
use Rattle.task_local.proofs.Fresh.{more_of_regions, run_is}

-- cells that are written behind those that were just written
spliced_twice : (at : ℕ) (front back whole : List ℤ) → at + length front ≤ length whole
    → spliced (at + length front) back (spliced at front whole) ≡ spliced at (front ++ back) whole
spliced_twice at front back whole fits =
    let n : ℕ = at + length front in
    let m : ℕ = at + length (front ++ back) in
    let before : List ℤ = take at whole in
    let rest : List ℤ = drop n whole in
    let before_len : length before ≡ at = length-take-le at whole (omega arith) in
    let len : length (before ++ front) ≡ n = omega (arith, length-append before front) in
    let parts : before ++ (front ++ rest) ≡ (before ++ front) ++ rest = sym (append_assoc before front rest) in
    let first : take n (spliced at front whole) ≡ before ++ front = ap (λ (cells : List ℤ). take n cells) parts ∙ take_at (before ++ front) rest n len in
    let behind : drop n (spliced at front whole) ≡ rest = ap (λ (cells : List ℤ). drop n cells) parts ∙ drop_at (before ++ front) rest n len in
    let both : n + length back ≡ m = omega (arith, length-append front back) in
    let last : drop (n + length back) (spliced at front whole) ≡ drop m whole =
    sym (drop-drop (length back) n (spliced at front whole)) ∙ ap (λ (cells : List ℤ). drop (length back) cells) behind
    ∙ drop-drop (length back) n whole ∙ ap (λ k. drop k whole) both in
    ap₂ (λ (f : List ℤ) (e : List ℤ). f ++ (back ++ e)) first last
    ∙ append_assoc before front (back ++ drop m whole)
    ∙ ap (λ (cells : List ℤ). before ++ cells) (sym (append_assoc front back (drop m whole)))

-- the places of so many cells of an array follow one another in the copy
abbrev Run : TaskDef → ℕ → ℕ → ℕ → Type 0
Run task array from count = (k : ℕ) → k ≤ count → place task array (from + k) ≡ place task array from + k

in_a_row : (task : TaskDef) (statuses : List Status) (copy : List ℤ) (array from to : ℕ) → Run task array from (4 * length statuses)
    → place task array from + 4 * length statuses ≤ length copy
    → put_statuses task (Some (record { array = array; from = from; to = to })) statuses copy
    ≡ put task (record { array = array; from = from; to = to }) (flat_map status_cells statuses) copy
in_a_row task [] copy array from to run fits = refl
in_a_row task (status ∷ statuses) copy array from to run fits =
    let span : Span = record { array = array; from = from; to = to } in
    let next : Span = record { array = array; from = from + 4; to = to } in
    let own : List ℤ = status_cells status in
    let rest : List ℤ = flat_map status_cells statuses in
    let at : ℕ = place task array from in
    let after : List ℤ = spliced at own copy in
    let long : length after ≡ length copy = length-spliced at own copy (omega arith) in
    let four : place task array (from + 4) ≡ at + 4 = run 4 (omega arith) in
    let later : Run task array (from + 4) (4 * length statuses) = λ k le.
    let e : (from + 4) + k ≡ from + (4 + k) = omega arith in
    let there = run (4 + k) (omega arith) in
    ap (λ cell. place task array cell) e ∙ omega arith in
    in_a_row task statuses after array (from + 4) to later (omega arith)
    ∙ sym (put_is_spliced task next rest after)
    ∙ ap (λ n. spliced n rest after) four
    ∙ spliced_twice at own rest copy (omega arith)
    ∙ put_is_spliced task span (own ++ rest) copy

run_of : (p : Program) (task : TaskDef) (span : Span) (count : ℕ) → WellFormed p → IsTask p task → MayWrite p task span → count ≤ span_len span
    → Run task span.array span.from count
run_of p task span count well is may within = λ k le.
    ⊎_elim
    (λ (none : span_len span ≡ 0). let e : span.from + k ≡ span.from = omega arith in ap (λ cell. place task span.array cell) e ∙ omega arith)
    (λ (some : span_len span ≡ 0 → ⊥).
    let accesses : List Access = task.accesses.items in
    let whole = lies_in p task.rank (record { mode = mode.In; span = span }) well is.rank may.in_array (ap not (ne_eqb (span_len span) 0 some)) in
    let low : span.from + span_len span < 2 ^ 32 = omega (arith, whole.inside, whole.small) in
    let more = λ (cell : ℕ) (above : span.from ≤ cell) (below : cell < span.from + span_len span).
    more_of_regions accesses span.array cell (place-rises accesses span.array cell (may.declared cell (above, omega arith))) in
    let run = run_is (regions accesses) span.array span.from (span_len span) (Rises-regions accesses (filled_low p task well is) is.apart) low more k
    (omega arith) in
    let here = place_in-regions accesses span.array span.from in
    let there = place_in-regions accesses span.array (span.from + k) in
    omega arith)
    (cases_eq (span_len span) 0)

pub statuses_in_a_row : (p : Program) (task : TaskDef) (copy : List ℤ) (span : Span) (statuses : List Status) → WellFormed p → IsTask p task
    → length copy ≡ region_cells task → MayWrite p task span → 4 * length statuses ≤ span_len span
    → put_statuses task (Some span) statuses copy ≡ put task span (flat_map status_cells statuses) copy
statuses_in_a_row p task copy span statuses well is cells may within =
    let fits = declared_fits task.accesses.items span may.declared in
    in_a_row task statuses copy span.array span.from span.to (run_of p task span (4 * length statuses) well is may within) (omega arith)
