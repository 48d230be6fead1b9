-- What holds of what the parts of a statement lead to.
use Rattle.std.proofs.Common.{◌≡◌, ℕ, ◌+◌, ◌≤◌, Bool, true, false, List, [], ◌∷◌, ◌++◌, Result, Ok, Err, refl, sym, ap, ◌∙◌, subst, arith}
use Rattle.std.specs.Prelude.{⊤}
use Rattle.rt_base.specs.declared.data.FaultKind.{FaultKind}
use Rattle.rt_base.specs.declared.data.LimitName.{LimitName}
use Rattle.rt_base.specs.declared.data.LimitName.TheVariants as limit
use Rattle.rt_base.specs.declared.data.Op.{Op}
use Rattle.rt_base.specs.WellFormed.{cells_sent}
use Rattle.task_unroll.specs.declared.refusal.ExpandRefusal.{ExpandRefusal}
use Rattle.task_unroll.specs.Unrolling.{◌>>=◌, at}
use Rattle.task_unroll.specs.States.{Counts, State}
use Rattle.rt_base.specs.Limits.{most}
use Rattle.task_unroll.specs.Counting.{kept, stepped, operated}
use Rattle.task_unroll.specs.Checks.{Check, passed, op_checks}
use Rattle.task_unroll.specs.Acts.{op_done}
use Rattle.task_unroll.proofs.Results.{Holds, bind, bind_by, at_ok, kept_ok}

pub holds_weaker : {E X : Type 0} (Fact Other : X → Type 0) (c : Result X E) → ((x : X) → Fact x → Other x) → Holds Fact c → Holds Other c
holds_weaker Fact Other (Ok x) turns holds = turns x holds
holds_weaker Fact Other (Err e) turns holds = tt

pub bind_at : {X Y : Type 0} (Fact : Y → Type 0) (line : ℕ) (c : Result X FaultKind) (f : X → Result Y ExpandRefusal)
    → ((x : X) → c ≡ Ok x → Holds Fact (f x)) → Holds Fact (at line c >>= f)
bind_at Fact line c f each = bind Fact (at line c) f (λ x is. each x (at_ok line c x is))

pub bind_kept : {Y : Type 0} (Fact : Y → Type 0) (which : LimitName) (count : ℕ) (f : ℕ → Result Y ExpandRefusal)
    → (count ≤ most which → Holds Fact (f count)) → Holds Fact (kept which count >>= f)
bind_kept Fact which count f each = bind Fact (kept which count) f (λ n is.
    let both = kept_ok which count n is in subst (λ (m : ℕ). Holds Fact (f m)) (sym both.0) (each both.1))

-- one more step was counted
abbrev pub at_step : ℕ → State → State
at_step n s = record s { counts = record s.counts { steps = n } }

pub stepped_leaves : (s : State) → Holds (λ (t : State). (n : ℕ) × (t ≡ at_step n s)) (stepped s)
unfolding stepped
stepped_leaves s = bind_kept _ limit.Steps (s.counts.steps + 1) _ (λ below. (s.counts.steps + 1, refl))

pub bind_stepped : {Y : Type 0} (Fact : Y → Type 0) (s : State) (f : State → Result Y ExpandRefusal) → ((n : ℕ) → Holds Fact (f (at_step n s)))
    → Holds Fact (stepped s >>= f)
bind_stepped Fact s f each = bind_by (λ (t : State). (n : ℕ) × (t ≡ at_step n s)) Fact (stepped s) f (stepped_leaves s)
    (λ t is. subst (λ (u : State). Holds Fact (f u)) (sym is.1) (each is.0))

-- one more operation was counted, with its requests and handles
abbrev pub at_operation : ℕ → ℕ → ℕ → State → State
at_operation n requests handles s =
    record s {
      counts = record s.counts {
        steps = n;
        operations = s.counts.operations + 1;
        requests = s.counts.requests + requests;
        handles =
            s.counts.handles + handles;
      };
    }

pub record Operated (requests handles : ℕ) (s t : State) : Type 0 where
  pub steps : ℕ
  pub same : t ≡ at_operation steps requests handles s
  pub operations : s.counts.operations + 1 ≤ 1048576
  pub posted : s.counts.requests + requests ≤ 262144
  pub named : s.counts.handles + handles ≤ 1048576

pub operated_leaves : (requests handles : ℕ) (s : State) → Holds (Operated requests handles s) (operated requests handles s)
unfolding operated
operated_leaves requests handles s = bind_stepped (Operated requests handles s) s _ (λ n.
    bind_kept _ limit.Operations (s.counts.operations + 1) _ (λ operations.
    bind_kept _ limit.Requests (s.counts.requests + requests) _ (λ posted.
    bind_kept _ limit.Names (s.counts.handles + handles) _ (λ named.
    record { steps = n; same = refl; operations = operations; posted = posted; named = named }))))

pub bind_operated : {Y : Type 0} (Fact : Y → Type 0) (requests handles : ℕ) (s : State) (f : State → Result Y ExpandRefusal)
    → ((n : ℕ) → Operated requests handles s (at_operation n requests handles s) → Holds Fact (f (at_operation n requests handles s)))
    → Holds Fact (operated requests handles s >>= f)
bind_operated Fact requests handles s f each = bind_by (Operated requests handles s) Fact (operated requests handles s) f (operated_leaves requests handles s)
    (λ t is. subst (λ (u : State). Holds Fact (f u)) (sym is.same)
    (each is.steps (subst (Operated requests handles s) is.same is)))

-- an operation was tested, and its cells are counted
pub record Tested (handles : Check) (operation : Op) (s : State) : Type 0 where
  pub fine : passed (op_checks s.accesses s.body handles operation) ≡ Ok tt
  pub cells : s.counts.message_cells + cells_sent operation ≤ 67108864

abbrev pub at_done : Op → State → State
at_done operation s = record s { counts = record s.counts { message_cells = s.counts.message_cells + cells_sent operation }; body = s.body ++ operation ∷ [] }

pub op_done_leaves : (line : ℕ) (handles : Check) (operation : Op) (s : State)
    → Holds (λ (u : State). (u ≡ at_done operation s) × Tested handles operation s) (op_done line handles operation s)
unfolding op_done
op_done_leaves line handles operation s =
    bind_at _ line (passed (op_checks s.accesses s.body handles operation)) _ (λ fine is.
    bind_kept _ limit.MessageCells (s.counts.message_cells + cells_sent operation) _ (λ below.
    (refl, record { fine = is; cells = below })))
