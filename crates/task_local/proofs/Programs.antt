-- What a program that may be run gives for a task of it.
use Rattle.std.proofs.Common.{◌≡◌, ℕ, ◌+◌, ◌*◌, ◌<◌, ◌≤◌, true, true≢false, if◌then◌else◌, ℤ, List, [], ◌∷◌, length, get_or, drop, length-drop, All}
use Rattle.std.proofs.Common.{slice_get, Option, Some, None, unwrap_or, sym, ap, ◌∙◌, refl, subst, mul_comm, arith}
use Rattle.std.proofs.lemmas.Nat.{mul-add-lt}
use Rattle.std.proofs.lemmas.Option.{get_or_from_slice_get, slice_get_within, same_Some}
use Rattle.std.proofs.lemmas.List.Elements.{All-get_or}
use Rattle.std.proofs.lemmas.List.Sums.{get_or-le-sum_by, sum_by_more_le}
use Rattle.rt_base.specs.declared.data.Span.{Span}
use Rattle.rt_base.specs.declared.data.Access.{Access}
use Rattle.rt_base.specs.declared.data.How.TheVariants as how
use Rattle.rt_base.specs.declared.data.Op.{Op}
use Rattle.rt_base.specs.declared.data.Op.TheVariants as op
use Rattle.rt_base.specs.declared.data.Phase.{Phase}
use Rattle.rt_base.specs.declared.data.Phase.TheVariants as phase
use Rattle.rt_base.specs.declared.data.TaskDef.{TaskDef}
use Rattle.rt_base.specs.declared.data.Program.{Program}
use Rattle.rt_base.specs.Spans.{span_len}
use Rattle.rt_base.specs.Operations.{is_receive}
use Rattle.rt_base.specs.Layout.{array_count, array_place}
use Rattle.rt_base.specs.WellFormed.{WellFormed, IsTask, IsSpan, IsOperation, IsDeclared, OfSpan, MayRead, region_cells}
use Rattle.task_local.specs.declared.index.Region.{Region}
use Rattle.task_local.specs.Regions.{regions, put, spliced}
use Rattle.task_local.specs.Packed.{packed_by, packed}
use Rattle.task_local.specs.Local.{run_front, stop_at, advanced, stop}
use Rattle.task_local.specs.StandsFor.{Record}
use Rattle.task_local.specs.Standing.{no_task, def_of, def, moved_on, packed_next}
use Rattle.task_local.specs.Kept.{LiesIn, RegionLies, FitsSend, sent_in, place_in, CanRun, SourceFits, HasRoomFor, IsPhaseOf, HasScratchFor, cell_total}
use Rattle.task_local.proofs.Places.{is_filled, cells_among, All-regions, regions_filled, declared_fits_in, cell_total-regions}
use Rattle.task_local.proofs.Order.{IsLowFilled, filled_is}
use Rattle.task_local.proofs.Kernels.{takes_cells, source_is, put_in}

-- one number has one task
pub one_task : (p q : Program) (t : ℕ) (one other : TaskDef) → p ≡ q → slice_get p.tasks.items t ≡ Some one → slice_get q.tasks.items t ≡ Some other
    → one ≡ other
one_task p q t one other same is_one is_other = same_Some one other (sym is_one ∙ ap (λ (r : Program). slice_get r.tasks.items t) same ∙ is_other)

pub task_is : (p : Program) (t : ℕ) (task : TaskDef) → WellFormed p → slice_get p.tasks.items t ≡ Some task → IsTask p task
task_is p t task well is = subst (IsTask p) (get_or_from_slice_get p.tasks.items t task task is)
    (All-get_or (IsTask p) p.tasks.items t task (slice_get_within p.tasks.items t task is) well.tasks)

pub few_cells : (p : Program) (t : ℕ) (task : TaskDef) → WellFormed p → slice_get p.tasks.items t ≡ Some task → cells_among task.accesses.items ≤ 134217728
few_cells p t task well is =
    let here = get_or_from_slice_get p.tasks.items t task task is in
    let within = get_or-le-sum_by region_cells p.tasks.items t task (slice_get_within p.tasks.items t task is) in
    let e = ap region_cells here in
    omega (arith, well.access_cells)

pub few_accesses : (p : Program) (t : ℕ) (task : TaskDef) → WellFormed p → slice_get p.tasks.items t ≡ Some task → length task.accesses.items ≤ 4194304
few_accesses p t task well is =
    let here = get_or_from_slice_get p.tasks.items t task task is in
    let within = get_or-le-sum_by (λ (def : TaskDef). length def.accesses.items) p.tasks.items t task (slice_get_within p.tasks.items t task is) in
    let e = ap (λ (def : TaskDef). length def.accesses.items) here in
    omega (arith, well.access_count)

pub few_operations : (p : Program) (t : ℕ) (task : TaskDef) → WellFormed p → slice_get p.tasks.items t ≡ Some task → length task.body.items ≤ 1048576
few_operations p t task well is =
    let here = get_or_from_slice_get p.tasks.items t task task is in
    let within = get_or-le-sum_by (λ (def : TaskDef). length def.body.items) p.tasks.items t task (slice_get_within p.tasks.items t task is) in
    let e = ap (λ (def : TaskDef). length def.body.items) here in
    omega (arith, well.operations)

-- a region that isn't empty lies in the memory
pub lies_in : (p : Program) (rank : ℕ) (access : Access) → WellFormed p → rank < p.ranks → IsSpan p rank access.span → is_filled access ≡ true
    → LiesIn p rank access
lies_in p rank access well exists span filled =
    let fills : access.span.from < access.span.to = filled_is access filled in
    let array : access.span.array < array_count p = span.array fills in
    let inside = span.inside fills in
    let within : rank * array_count p + access.span.array < array_count p * p.ranks = mul-add-lt rank (array_count p) access.span.array p.ranks exists array in
    let lens : length p.lens.items ≡ p.ranks * array_count p = well.lens in
    let other_way : array_count p * p.ranks ≡ p.ranks * array_count p = mul_comm (array_count p) p.ranks in
    let place_within : array_place p rank access.span.array < length p.lens.items = omega arith in
    let sums = sum_by_more_le (λ (x : ℕ). x) p.lens.items (array_place p rank access.span.array) 0 place_within in
    record { array = place_within; inside = omega arith; small = well.cells; starts = well.starts }

pub regions_lie : (p : Program) (task : TaskDef) → WellFormed p → IsTask p task → All (RegionLies p task.rank) (regions task.accesses.items)
regions_lie p task well is = λ k d within.
    lies_in p task.rank (get_or (regions task.accesses.items) k d).access well is.rank
    (All-regions (λ (access : Access). IsSpan p task.rank access.span) task.accesses.items is.regions k d within)
    (regions_filled task.accesses.items k d within)

pub filled_low : (p : Program) (task : TaskDef) → WellFormed p → IsTask p task → All IsLowFilled task.accesses.items
filled_low p task well is = λ k d within filled.
    let lies = lies_in p task.rank (get_or task.accesses.items k d) well is.rank (is.regions k d within) filled in
    omega (arith, lies.inside, lies.small)

-- ---- what a local operation needs

source_fits : (p : Program) (task : TaskDef) (source : Option Span) → OfSpan (MayRead p task) source
    → SourceFits (regions task.accesses.items) (cells_among task.accesses.items) source
source_fits p task None may = tt
source_fits p task (Some span) may = declared_fits_in task.accesses.items span may.declared

can_run : (p : Program) (task : TaskDef) (scratch : ℕ) (operation : Op) → IsOperation p task operation
    → HasScratchFor (regions task.accesses.items) scratch operation
    → CanRun (regions task.accesses.items) (cells_among task.accesses.items) scratch operation
can_run p task scratch (op.Compute kind dst left right value step) is room = record {
  room = room;
  dst_fits = declared_fits_in task.accesses.items dst is.0.declared;
  left_fits = source_fits p task left is.1;
  right_fits = source_fits p task right is.2;
  takes = takes_cells kind dst left right value is.3;
}
can_run p task scratch (op.Post how span peer tag comm status) is room = tt
can_run p task scratch (op.Await later handles status) is room = tt

pub body_can_run : (p : Program) (task : TaskDef) (ordered : List Region) (copy scratch : ℕ) → IsTask p task → ordered ≡ regions task.accesses.items
    → copy ≡ cells_among task.accesses.items → HasRoomFor ordered task.body.items scratch → All (CanRun ordered copy scratch) task.body.items
body_can_run p task ordered copy scratch is order cells room = λ k d within.
    rw (order, cells) (can_run p task scratch (get_or task.body.items k d) (is.body k d within) (rw order at (room k d within)))

-- ---- what the fields of a record give

-- its regions lie in the memory
pub record_lies : (p q : Program) (t : ℕ) (def task : TaskDef) (ordered : List Region) → WellFormed p → p ≡ q
    → slice_get p.tasks.items t ≡ Some def → slice_get q.tasks.items t ≡ Some task → ordered ≡ regions task.accesses.items → All (RegionLies p def.rank) ordered
record_lies p q t def task ordered well same is_def is_task order =
    let one = one_task p q t def task same is_def is_task in
    let order_def : regions def.accesses.items ≡ ordered = ap (λ (d : TaskDef). regions d.accesses.items) one ∙ sym order in
    subst (All (RegionLies p def.rank)) order_def (regions_lie p def well (task_is p t def well is_def))

-- its copy has the cells of its regions
pub record_cells : (task : TaskDef) (ordered : List Region) (count : ℕ) → ordered ≡ regions task.accesses.items → count ≡ region_cells task
    → count ≡ cell_total ordered
record_cells task ordered count order cells = cells ∙ sym (cell_total-regions task.accesses.items) ∙ ap cell_total (sym order)

-- they are few
pub record_total : (p q : Program) (t : ℕ) (def task : TaskDef) (ordered : List Region) → WellFormed p → p ≡ q
    → slice_get p.tasks.items t ≡ Some def → slice_get q.tasks.items t ≡ Some task → ordered ≡ regions task.accesses.items → cell_total ordered ≤ 134217728
record_total p q t def task ordered well same is_def is_task order =
    let one = one_task p q t def task same is_def is_task in
    let few = few_cells p t def well is_def in
    let cells : cell_total ordered ≡ cells_among def.accesses.items =
    ap cell_total order ∙ cell_total-regions task.accesses.items ∙ ap (λ (d : TaskDef). cells_among d.accesses.items) (sym one) in
    omega arith

-- its operations can run
pub record_can_run : (p q : Program) (t : ℕ) (def task : TaskDef) (ordered : List Region) (copy scratch : ℕ) → WellFormed p → p ≡ q
    → slice_get p.tasks.items t ≡ Some def → slice_get q.tasks.items t ≡ Some task → ordered ≡ regions task.accesses.items
    → copy ≡ region_cells task → HasRoomFor ordered task.body.items scratch → All (CanRun ordered copy scratch) def.body.items
record_can_run p q t def task ordered copy scratch well same is_def is_task order cells room =
    let one = one_task p q t def task same is_def is_task in
    body_can_run p def ordered copy scratch (task_is p t def well is_def) (order ∙ ap (λ (d : TaskDef). regions d.accesses.items) (sym one))
    (cells ∙ ap region_cells (sym one)) (subst (λ (d : TaskDef). HasRoomFor ordered d.body.items scratch) (sym one) room)

-- local operations stop at a phase that the task has
stop_at_is : (task : TaskDef) (k : ℕ) (ops : List Op) → k + length ops ≡ length task.body.items → IsPhaseOf task (stop_at k ops)
stop_at_is task k [] len = tt
stop_at_is task k (op.Compute kind dst left right value step ∷ ops) len = stop_at_is task (k + 1) ops (omega arith)
stop_at_is task k (op.Post how span peer tag comm status ∷ ops) len = omega arith
stop_at_is task k (op.Await later handles status ∷ ops) len = omega arith

pub stop_is_phase : (task : TaskDef) (k : ℕ) → k ≤ length task.body.items → IsPhaseOf task (stop_at k (drop k task.body.items))
stop_is_phase task k within = stop_at_is task k (drop k task.body.items) (omega (arith, length-drop k task.body.items))

-- the task of a record is the one that is found by its number
pub def_is : (p q : Program) (t : ℕ) (found : TaskDef) → p ≡ q → slice_get p.tasks.items t ≡ Some found → def_of q t ≡ found
def_is p q t found same is_found = ap (λ (r : Program). def_of r t) (sym same) ∙ ap (λ (o : Option TaskDef). unwrap_or o no_task) is_found

-- a record after its local operations
pub moved_on_is : (held : Record) (d : TaskDef) (k : ℕ) (stopped : Phase) (copy : List ℤ) → held.phase ≡ phase.At k → def held ≡ d
    → stopped ≡ stop_at k (drop k d.body.items) → copy ≡ run_front d (drop k d.body.items) held.copy
    → record held { phase = stopped; copy = copy } ≡ moved_on (def held) held.phase held
unfolding advanced stop
moved_on_is held d k stopped copy is_at is_def is_stopped is_copy = rw (is_at, is_def, is_stopped, is_copy) refl

-- what is stored at the front of a declared span has its places in the copy
pub record_stores : (task : TaskDef) (ordered : List Region) (count cells : ℕ) (span : Span) → ordered ≡ regions task.accesses.items → count ≡ region_cells task
    → IsDeclared task.accesses.items span → cells ≤ span_len span → place_in ordered span.array span.from + cells ≤ count
record_stores task ordered count cells span order all declared fits =
    let within = declared_fits_in task.accesses.items span declared in
    let e = ap (λ (found : List Region). place_in found span.array span.from) order in
    omega arith

pub stored_is : (held : Record) (task : TaskDef) (ordered : List Region) (span : Span) (cells copied : List ℤ) → def held ≡ task
    → ordered ≡ regions task.accesses.items
    → copied ≡ spliced (place_in ordered span.array span.from) cells held.copy
    → record held { copy = copied } ≡ record held { copy = put (def held) span cells held.copy }
stored_is held task ordered span cells copied is_def order is_copied =
    rw is_def (ap (λ (copy : List ℤ). record held { copy = copy }) (is_copied ∙ put_in task ordered held.copy cells span order))

-- ---- what is sent

fits_send : (p : Program) (task : TaskDef) (operation : Op) → IsOperation p task operation
    → FitsSend (regions task.accesses.items) (cells_among task.accesses.items) operation
fits_send p task (op.Compute kind dst left right value step) is = tt
fits_send p task (op.Post how.Send span whom selected comm None) is = λ sends. declared_fits_in task.accesses.items span is.0.0.declared
fits_send p task (op.Post how.Send span whom selected comm (Some status)) is = absurd is.0
fits_send p task (op.Post how.Ssend span whom selected comm None) is = λ sends. declared_fits_in task.accesses.items span is.0.0.declared
fits_send p task (op.Post how.Ssend span whom selected comm (Some status)) is = absurd is.0
fits_send p task (op.Post how.Recv span whom selected comm status) is = λ sends. absurd (true≢false sends)
fits_send p task (op.Post how.Isend span whom selected comm None) is = λ sends. declared_fits_in task.accesses.items span is.0.0.declared
fits_send p task (op.Post how.Isend span whom selected comm (Some status)) is = absurd is.0
fits_send p task (op.Post how.Issend span whom selected comm None) is = λ sends. declared_fits_in task.accesses.items span is.0.0.declared
fits_send p task (op.Post how.Issend span whom selected comm (Some status)) is = absurd is.0
fits_send p task (op.Post how.Irecv span whom selected comm status) is = λ sends. absurd (true≢false sends)
fits_send p task (op.Await later handles status) is = tt

pub record_sends : (p q : Program) (t : ℕ) (def task : TaskDef) (ordered : List Region) (count k : ℕ) (operation : Op) → WellFormed p → p ≡ q
    → slice_get p.tasks.items t ≡ Some def → slice_get q.tasks.items t ≡ Some task → ordered ≡ regions task.accesses.items
    → count ≡ region_cells task → slice_get def.body.items k ≡ Some operation → FitsSend ordered count operation
record_sends p q t def task ordered count k operation well same is_def is_task order cells is_operation =
    let one = one_task p q t def task same is_def is_task in
    let is = subst (IsOperation p def) (get_or_from_slice_get def.body.items k operation operation is_operation)
    (All-get_or (IsOperation p def) def.body.items k operation (slice_get_within def.body.items k operation is_operation) (task_is p t def well is_def).body) in
    let order_def : ordered ≡ regions def.accesses.items = order ∙ ap (λ (d : TaskDef). regions d.accesses.items) (sym one) in
    let count_def : count ≡ cells_among def.accesses.items = cells ∙ ap region_cells (sym one) in
    rw (order_def, count_def) (fits_send p def operation is)

sent_is : (task : TaskDef) (ordered : List Region) (copy : List ℤ) (operation : Op) → ordered ≡ regions task.accesses.items
    → sent_in ordered copy operation ≡ packed_by task (Some operation) copy
sent_is task ordered copy (op.Compute kind dst left right value step) order = refl
sent_is task ordered copy (op.Post kind span whom selected comm status) order =
    ap (λ (cells : List ℤ). if is_receive kind then [] else cells) (source_is task ordered copy (Some span) order)
sent_is task ordered copy (op.Await later handles status) order = refl

pub packed_is : (held : Record) (d task : TaskDef) (ordered : List Region) (k : ℕ) (operation : Op) (cells : List ℤ) → held.phase ≡ phase.At k → def held ≡ d
    → d ≡ task
    → ordered ≡ regions task.accesses.items → slice_get d.body.items k ≡ Some operation → cells ≡ sent_in ordered held.copy operation
    → cells ≡ packed_next (def held) held.phase held.copy
unfolding packed
packed_is held d task ordered k operation cells is_at is_def one order is_operation is_cells =
    rw (is_at, is_def, is_operation) (is_cells ∙ sent_is d ordered held.copy operation (order ∙ ap (λ (t : TaskDef). regions t.accesses.items) (sym one)))
