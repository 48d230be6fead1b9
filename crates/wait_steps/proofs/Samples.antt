-- The program of the tests may be run.
use Rattle.std.proofs.Common.{◌≡◌, ◌≢◌, ℕ, ◌+◌, ◌*◌, ◌<◌, ◌≤◌, List, [], ◌∷◌, length, length-append, All, AllPairs, sum, sum_by, slice_get}
use Rattle.std.proofs.Common.{slice_index, unwrap_or, Some, sym, ap, ap₂, ◌∙◌, refl, subst, arith}
use Rattle.std.proofs.lemmas.List.Elements.{All-nil, All-cons}
use Rattle.std.proofs.lemmas.List.Sums.{count_by-le-length}
use Rattle.rt_base.specs.declared.data.Span.{Span}
use Rattle.rt_base.specs.declared.data.Access.{Access}
use Rattle.rt_base.specs.declared.data.Mode.TheVariants as mode
use Rattle.rt_base.specs.declared.data.TaskDef.{TaskDef}
use Rattle.rt_base.specs.declared.data.Program.{Program}
use Rattle.rt_base.specs.Spans.{span_len, Overlaps}
use Rattle.rt_base.specs.Layout.{array_count, array_len, starts_from}
use Rattle.rt_base.specs.Operations.{postings}
use Rattle.rt_base.specs.InUse.{left_after}
use Rattle.rt_base.specs.Pieces.{is_bound_of, pieces_of, pieces}
use Rattle.rt_base.specs.WellFormed.{WellFormed, IsTask, IsSpan, IsOperation, IsDeclared, InOrder, region_cells, names_of, cells_sent}
use Rattle.rt_base.specs.WellFormed.{over_operations}
use Rattle.task_local.specs.Standing.{no_task, def_of, def}
use Rattle.task_local.specs.StandsFor.{Record}
use Rattle.wait_steps.specs.StatusSpans.{HasPlaces}

-- the access of the one task
abbrev pub whole : Access
whole = record { mode = mode.Inout; span = record { array = 0; from = 0; to = 10 } }

-- where the tests store statuses
abbrev pub inner : Span
inner = record { array = 0; from = 1; to = 9 }

-- the one task, and the program with it
pub record IsSample (p : Program) (task : TaskDef) : Type 0 where
  pub ranks : p.ranks ≡ 1
  pub eager : p.eager ≡ 0
  pub comms : p.comms ≡ 1
  pub names : array_count p ≡ 1
  pub lens : p.lens.items ≡ 10 ∷ []
  pub starts : p.starts.items ≡ starts_from 0 p.lens.items
  pub shows : p.shows.items ≡ []
  pub tasks : p.tasks.items ≡ task ∷ []
  pub rank : task.rank ≡ 0
  pub accesses : task.accesses.items ≡ whole ∷ []
  pub body : task.body.items ≡ []

len_is : (p : Program) (task : TaskDef) → IsSample p task → array_len p 0 0 ≡ 10
len_is p task is =
    let first_place : 0 * array_count p + 0 ≡ 0 = omega arith in
    ap (λ i. slice_index p.lens.items i) first_place ∙ ap (λ lens. slice_index lens 0) is.lens

in_array : (p : Program) (task : TaskDef) → IsSample p task → IsSpan p task.rank whole.span
in_array p task is =
    let names : 0 < array_count p = (let e = is.names in omega arith) in
    let len = len_is p task is in
    record { ordered = omega arith; array = λ _. names; inside = λ _. subst (λ r. 10 ≤ array_len p r 0) (sym is.rank) (omega arith) }

one_alone : {X : Type 0} (R : X → X → Type 0) (x : X) → AllPairs R (x ∷ [])
one_alone R x = λ i j d below within. absurd (omega arith)

nothing_left : left_after 0 [] ≡ []
unfolding left_after
nothing_left = refl

sample_task : (p : Program) (task : TaskDef) → IsSample p task → IsTask p task
sample_task p task is = record {
  rank = (let e = is.ranks in let f = is.rank in omega arith);
  regions = subst (All (λ (access : Access). IsSpan p task.rank access.span)) (sym is.accesses)
      (All-cons (λ (access : Access). IsSpan p task.rank access.span) whole [] (in_array p task is)
      (All-nil (λ (access : Access). IsSpan p task.rank access.span)));
  apart = subst (AllPairs (λ (one other : Access). ¬ Overlaps one.span other.span)) (sym is.accesses)
      (one_alone (λ (one other : Access). ¬ Overlaps one.span other.span) whole);
  body = subst (All (IsOperation p task)) (sym is.body) (All-nil (IsOperation p task));
  follows = λ earlier later operation parts.
      let long = ap length (sym is.body ∙ parts) in absurd (omega (arith, length-append earlier (operation ∷ later)));
  none_left = ap (λ ops. left_after 0 ops) is.body ∙ nothing_left;
}

few_pieces : (p : Program) (task : TaskDef) → IsSample p task → pieces p.tasks.items ≤ 16777216
unfolding pieces
few_pieces p task is =
    let all = ap (sum_by (λ (one : TaskDef). sum_by (pieces_of p.tasks.items one.rank) one.accesses.items)) is.tasks in
    let one = ap (sum_by (pieces_of p.tasks.items task.rank)) is.accesses in
    let few = count_by-le-length (is_bound_of p.tasks.items task.rank 0) (0 ∷ 1 ∷ 2 ∷ 3 ∷ 4 ∷ 5 ∷ 6 ∷ 7 ∷ 8 ∷ 9 ∷ []) in
    omega (arith, all, one, few)

pub sample_is_well_formed : (p : Program) (task : TaskDef) → IsSample p task → WellFormed p
sample_is_well_formed p task is =
    let tasks = sym is.tasks in
    let accesses = ap length is.accesses in
    let cells : region_cells task ≡ 10 = ap (sum_by (λ (access : Access). span_len access.span)) is.accesses in
    let body = ap length is.body in
    let posts : postings task.body.items ≡ 0 = ap postings is.body in
    let names : sum_by names_of task.body.items ≡ 0 = ap (sum_by names_of) is.body in
    let sent : sum_by cells_sent task.body.items ≡ 0 = ap (sum_by cells_sent) is.body in
    record {
      some_rank = (let e = is.ranks in omega arith);
      ranks = (let e = is.ranks in omega arith);
      eager = (let e = is.eager in omega arith);
      comms = (let e = is.comms in omega arith);
      few_comms = (let e = is.comms in omega arith);
      arrays = (let e = is.names in omega arith);
      lens = ap length is.lens ∙ sym (ap (λ n. n * array_count p) is.ranks ∙ ap (λ n. 1 * n) is.names);
      starts = is.starts;
      cells = (let e = ap sum is.lens in omega arith);
      shows = subst (All (λ array. array < array_count p)) (sym is.shows) (All-nil (λ array. array < array_count p));
      shown_once = subst (AllPairs (λ one other. one ≢ other)) (sym is.shows) (λ i j d below within. absurd (omega arith));
      task_count = (let e = ap length is.tasks in omega arith);
      access_count = (let e = ap (sum_by (λ (one : TaskDef). length one.accesses.items)) is.tasks in omega arith);
      access_cells = (let e = ap (sum_by region_cells) is.tasks in omega arith);
      operations = (let e = ap (sum_by (λ (one : TaskDef). length one.body.items)) is.tasks in omega arith);
      requests = (let e = ap (sum_by (λ (one : TaskDef). postings one.body.items)) is.tasks in omega arith);
      handles = (let e = ap (over_operations names_of) is.tasks in omega (arith, names));
      message_cells = (let e = ap (over_operations cells_sent) is.tasks in omega (arith, sent));
      few_pieces = few_pieces p task is;
      order = subst (AllPairs InOrder) tasks (one_alone InOrder task);
      tasks = subst (All (IsTask p)) tasks (All-cons (IsTask p) task [] (sample_task p task is) (All-nil (IsTask p)));
    }

-- the task declares all cells but the first and the last
pub inner_is_declared : (p : Program) (task : TaskDef) → p.tasks.items ≡ task ∷ [] → task.accesses.items ≡ whole ∷ []
    → IsDeclared (def_of p 0).accesses.items inner
inner_is_declared p task tasks accesses =
    let own : def_of p 0 ≡ task = ap (λ (all : List TaskDef). unwrap_or (slice_get all 0) no_task) tasks in
    subst (λ (some : List Access). IsDeclared some inner) (sym (ap (λ (d : TaskDef). d.accesses.items) own ∙ accesses))
    (λ cell covers. (0, whole, omega arith, refl, (refl, (omega arith, omega (arith, covers.1)))))

-- so its record has places for two statuses there
pub inner_has_places : (p : Program) (held : Record) (span : Span) → IsDeclared (def_of p 0).accesses.items inner → held.program ≡ p → held.task ≡ 0
    → span ≡ inner → HasPlaces (def held) (Some span) 2
inner_has_places p held span declared same who is =
    let here : def held ≡ def_of p 0 = ap₂ (λ (q : Program) (t : ℕ). def_of q t) same who in
    subst (λ (cells : Span). HasPlaces (def held) (Some cells) 2) (sym is)
    (subst (λ (task : TaskDef). HasPlaces task (Some inner) 2) (sym here) (declared, omega arith))
