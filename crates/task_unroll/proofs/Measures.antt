-- Each step of the walk counts a statement or a turn, or leads to a later place.
use Rattle.std.specs.Prelude.{if◌then◌else◌}
use Rattle.std.proofs.Common.{◌≡◌, ℕ, ◌+◌, ◌-◌, ◌*◌, ◌<◌, ◌≤◌, nat_le, Bool, true, false, int_lt, List, [], ◌∷◌, length, slice_get, Option, Some}
use Rattle.std.proofs.Common.{None, Result, Ok, Err, refl, subst, arith}
use Rattle.std.proofs.lemmas.Bool.Decides.{nat_tests}
use Rattle.std.proofs.Math.Nat.{mul-le-mul_right}
use Rattle.std.proofs.lemmas.Option.{slice_get_within}
use Rattle.rt_base.specs.declared.data.Mode.{Mode}
use Rattle.rt_base.specs.declared.data.How.{How}
use Rattle.rt_base.specs.declared.data.Kernel.{Kernel}
use Rattle.rt_base.specs.declared.data.Op.{Op}
use Rattle.rt_base.specs.declared.data.Op.TheVariants as op
use Rattle.rt_base.specs.declared.data.FaultKind.TheVariants as fault
use Rattle.rt_base.specs.declared.data.LimitName.TheVariants as limit
use Rattle.rt_base.specs.InUse.{left_after}
use Rattle.task_tree.specs.declared.tree.PeerText.{PeerText}
use Rattle.task_tree.specs.declared.tree.TagText.{TagText}
use Rattle.task_tree.specs.declared.tree.SpanText.{SpanText}
use Rattle.task_tree.specs.declared.tree.Stmt.{Stmt}
use Rattle.task_tree.specs.declared.tree.What.{What}
use Rattle.task_tree.specs.declared.tree.What.TheVariants as what
use Rattle.task_tree.specs.Term.{Term}
use Rattle.task_unroll.specs.declared.refusal.ExpandRefusal.{ExpandRefusal}
use Rattle.task_unroll.specs.declared.refusal.ExpandRefusal.TheVariants as refusal
use Rattle.task_unroll.specs.declared.levels.Turns.{Turns}
use Rattle.task_unroll.specs.declared.levels.Level.{Level}
use Rattle.task_unroll.specs.declared.levels.Level.TheVariants as level
use Rattle.task_unroll.specs.Unrolling.{◌>>=◌, at}
use Rattle.task_unroll.specs.States.{State}
use Rattle.task_unroll.specs.Counting.{kept, stepped, operated}
use Rattle.task_unroll.specs.Operands.{span_of, peer_value, tag_value, communicator_of, span_or_none, handles_of, peer_of, tag_of}
use Rattle.task_unroll.specs.Checks.{Check, check, passed, stands_twice}
use Rattle.task_unroll.specs.Acts.{array_made, shown, comm_made, variable_set, taskwait_met, task_begun, access_made, op_done, kernel_done, call_done}
use Rattle.task_unroll.specs.Acts.{wait_done, task_ended, none_left, call_checks, handle_free, handle_check, listed}
use Rattle.task_unroll.specs.Blocks.{bounds, holds}
use Rattle.task_unroll.specs.Ends.{close_of}
use Rattle.task_unroll.specs.Steps.{Spot, variable_of, turn, loop_met, branch, test_met, branch_left, turn_or_on, turn_ended, level_ended}
use Rattle.task_unroll.specs.Steps.{block_ended, task_met, access_met, line_met, step_to, step}

-- what was got, if anything was
abbrev pub Got : {X : Type 0} → (X → Type 0) → Result X ExpandRefusal → Type 0
Got P (Ok x) = P x
Got P (Err e) = Unit {0}

pub record Holds {X : Type 0} (P : X → Type 0) (c : Result X ExpandRefusal) : Type 0 where
  pub held : Got P c

ok : {X : Type 0} {P : X → Type 0} {x : X} → P x → Holds P (Ok x)
ok h = record { held = h }

bind : {X Y : Type 0} {P : X → Type 0} {Q : Y → Type 0} {c : Result X ExpandRefusal} {f : X → Result Y ExpandRefusal}
    → Holds P c → ((x : X) → P x → Holds Q (f x)) → Holds Q (c >>= f)
bind {c = Ok x} h k = k x h.held
bind {c = Err e} h k = record { held = tt }

skip : {X Y : Type 0} {Q : Y → Type 0} (c : Result X ExpandRefusal) {f : X → Result Y ExpandRefusal} → ((x : X) → Holds Q (f x)) → Holds Q (c >>= f)
skip (Ok x) k = k x
skip (Err e) k = record { held = tt }

-- one more statement or turn was counted, within the limit
pub record IsCounted (s t : State) : Type 0 where
  pub more : s.counts.steps < t.counts.steps
  pub kept : t.counts.steps ≤ 16777216

-- only the count of steps counts
same : {s t u : State} → IsCounted s t → u.counts.steps ≡ t.counts.steps → IsCounted s u
same h e = record { more = omega arith; kept = omega arith }

kept_counts : (s : State) (fits : Bool) → nat_le (s.counts.steps + 1) 16777216 ≡ fits
    → Holds (IsCounted s) ((if fits then Ok (s.counts.steps + 1) else Err (refusal.Limit limit.Steps)) >>= (λ n. Ok (record s {
      counts =
          record s.counts { steps = n };
    })))
kept_counts s true h = ok (record { more = omega arith; kept = grind (arith, nat_tests) })
kept_counts s false h = record { held = tt }

stepped_counts : (s : State) → Holds (IsCounted s) (stepped s)
unfolding stepped kept
stepped_counts s = kept_counts s (nat_le (s.counts.steps + 1) 16777216) refl

operated_counts : (requests handles : ℕ) (s : State) → Holds (IsCounted s) (operated requests handles s)
unfolding operated
operated_counts requests handles s = bind (stepped_counts s) (λ t h. search (skip, ok, same, h))

-- each act that is a line by itself counts
array_counts : (line : ℕ) (name : List ℕ) (len : Term) (s : State) → Holds (IsCounted s) (array_made line name len s)
unfolding array_made
array_counts line name len s = bind (stepped_counts s) (λ t h. search (skip, ok, same, h) depth 12)

show_counts : (line : ℕ) (name : List ℕ) (s : State) → Holds (IsCounted s) (shown line name s)
unfolding shown
show_counts line name s = bind (stepped_counts s) (λ t h. search (skip, ok, same, h))

comm_counts : (line : ℕ) (name : List ℕ) (s : State) → Holds (IsCounted s) (comm_made line name s)
unfolding comm_made
comm_counts line name s = bind (stepped_counts s) (λ t h. search (skip, ok, same, h))

variable_counts : (line : ℕ) (name : List ℕ) (e : Term) (s : State) → Holds (IsCounted s) (variable_set line name e s)
unfolding variable_set
variable_counts line name e s = bind (stepped_counts s) (λ t h. search (skip, ok, same, h))

taskwait_counts : (s : State) → Holds (IsCounted s) (taskwait_met s)
unfolding taskwait_met
taskwait_counts s = bind (stepped_counts s) (λ t h. ok (same h refl))

task_counts : (line : ℕ) (s : State) → Holds (IsCounted s) (task_begun line s)
unfolding task_begun
task_counts line s = bind (stepped_counts s) (λ t h. search (skip, ok, same, h))

access_counts : (line : ℕ) (mode : Mode) (span : SpanText) (s : State) → Holds (IsCounted s) (access_made line mode span s)
unfolding access_made
access_counts line mode span s = bind (stepped_counts s) (λ t h. search (skip, ok, same, h) depth 12)

op_counts : {s t : State} (line : ℕ) (handles : Check) (operation : Op) → IsCounted s t → Holds (IsCounted s) (op_done line handles operation t)
unfolding op_done
op_counts line handles operation h = search (skip, ok, same, h)

kernel_counts : (line : ℕ) (kind : Kernel) (texts : List SpanText) (terms : List Term) (s : State) → Holds (IsCounted s) (kernel_done line kind texts terms s)
unfolding kernel_done
kernel_counts line kind texts terms s = bind (operated_counts 0 0 s) (λ t h. search (skip, op_counts, h))

call_counts : (line : ℕ) (call : How) (handle : Option (List ℕ)) (text : SpanText) (to : PeerText) (number : TagText) (on : Option (List ℕ))
    (status : Option SpanText) (s : State)
    → Holds (IsCounted s) (call_done line call handle text to number on status s)
unfolding call_done
call_counts line call handle text to number on status s =
    skip (at line (passed (call_checks call handle to number status))) (λ _. bind (operated_counts 1 0 s) (λ t h.
    skip (at line (handle_free t handle))
    (λ _. skip (at line (span_of t text)) (λ span. skip (at line (peer_value t to)) (λ whom. skip (at line (tag_value t number)) (λ chosen.
    skip (at line (communicator_of t on))
    (λ comm. skip (at line (span_or_none t status)) (λ cells. skip (at line (peer_of t.size whom)) (λ peer. skip (at line (tag_of chosen)) (λ tag.
    bind (op_counts line (handle_check t handle) (op.Post call span peer tag comm cells) h) (λ u k. ok (same k refl))))))))))))

wait_counts : (line : ℕ) (later : Bool) (handles : List (List ℕ)) (status : Option SpanText) (s : State)
    → Holds (IsCounted s) (wait_done line later handles status s)
unfolding wait_done
wait_counts line later handles status s = bind (operated_counts 0 (length handles) s) (λ t h.
    skip (at line (handles_of t handles)) (λ requests. skip (at line (span_or_none t status)) (λ cells.
    bind (op_counts line (check fault.RequestTwice (stands_twice handles)) (op.Await later (listed requests) cells) h) (λ u k. ok (same k refl)))))

-- the end of a task counts nothing
end_counts : (line : ℕ) (s : State) → Holds (λ t. t.counts.steps ≡ s.counts.steps) (task_ended line s)
unfolding task_ended
end_counts line s = skip (none_left s.lines (left_after 0 s.body)) (λ _. ok refl)

-- both bounds of a `for`, and the test of an `if`
bounds_count : (line : ℕ) (name : List ℕ) (from to : Term) (s : State) → Holds (λ b. IsCounted s b.0) (bounds line name from to s)
unfolding bounds
bounds_count line name from to s = bind (stepped_counts s) (λ t h. search (skip, ok, h))

holds_count : (line : ℕ) (test : Term) (s : State) → Holds (λ b. IsCounted s b.0) (holds line test s)
unfolding holds
holds_count line test s = bind (stepped_counts s) (λ t h. search (skip, ok, h))

-- a statement or turn was counted, or no count of them has changed and the place is a later one
pub data Goes (w v : Spot) : Type 0 where
  Counts : IsCounted w.state v.state → Goes w v
  Moves : v.state.counts.steps ≡ w.state.counts.steps → w.place < v.place → Goes w v

-- a line, or a statement that does nothing
line_goes : (line : ℕ) (said : What) (w : Spot) → Holds (Goes w) (line_met line said w)
unfolding line_met
line_goes line (what.Array name len) w = bind (array_counts line name len w.state) (λ s h. ok (Goes.Counts h))
line_goes line (what.Show name) w = bind (show_counts line name w.state) (λ s h. ok (Goes.Counts h))
line_goes line (what.Comm name) w = bind (comm_counts line name w.state) (λ s h. ok (Goes.Counts h))
line_goes line (what.Let name e) w = bind (variable_counts line name e w.state) (λ s h. ok (Goes.Counts h))
line_goes line (what.For name from to) w = ok (Goes.Moves refl (omega arith))
line_goes line (what.If test) w = ok (Goes.Moves refl (omega arith))
line_goes line what.Else w = ok (Goes.Moves refl (omega arith))
line_goes line what.End w = ok (Goes.Moves refl (omega arith))
line_goes line what.Taskwait w = bind (taskwait_counts w.state) (λ s h. ok (Goes.Counts h))
line_goes line what.Task w = ok (Goes.Moves refl (omega arith))
line_goes line (what.Touch mode span) w = ok (Goes.Moves refl (omega arith))
line_goes line what.Do w = ok (Goes.Moves refl (omega arith))
line_goes line (what.Kern kind spans values) w = bind (kernel_counts line kind spans.items values.items w.state) (λ s h. ok (Goes.Counts h))
line_goes line (what.Posting how handle span peer tag comm status) w =
    bind (call_counts line how handle span peer tag comm status w.state) (λ s h. ok (Goes.Counts h))
line_goes line (what.Waiting later handles status) w = bind (wait_counts line later handles.items status w.state) (λ s h. ok (Goes.Counts h))

-- a turn was counted, or no count has changed and the walk is behind the `for`
data Turned (w v : Spot) (behind : ℕ) : Type 0 where
  Again : IsCounted w.state v.state → Turned w v behind
  Over : v.state.counts.steps ≡ w.state.counts.steps → v.place ≡ behind → Turned w v behind

turn_goes_by : (name : List ℕ) (t : Turns) (behind : ℕ) (w : Spot) (more : Bool) → int_lt t.next t.to ≡ more
    → Holds (λ v. Turned w v behind) (turn name t behind w)
unfolding turn
turn_goes_by name t behind w true e = rw e (bind (stepped_counts w.state) (λ s h. ok (Turned.Again (same h refl))))
turn_goes_by name t behind w false e = rw e (ok (Turned.Over refl refl))

turn_goes : (name : List ℕ) (t : Turns) (behind : ℕ) (w : Spot) → Holds (λ v. Turned w v behind) (turn name t behind w)
turn_goes name t behind w = turn_goes_by name t behind w (int_lt t.next t.to) refl

both : {s t u : State} → IsCounted s t → IsCounted t u → IsCounted s u
both h k = record { more = omega arith; kept = k.kept }

mapped : {X : Type 0} {P Q : X → Type 0} {c : Result X ExpandRefusal} → Holds P c → ((x : X) → P x → Q x) → Holds Q c
mapped {c = Ok x} h k = ok (k x h.held)
mapped {c = Err e} h k = record { held = tt }

turned_from : {w : Spot} {s : State} {v : Spot} {behind : ℕ} → IsCounted w.state s → Turned (record w { state = s }) v behind → Goes w v
turned_from h (Turned.Again k) = Goes.Counts (both h k)
turned_from h (Turned.Over e f) = Goes.Counts (same h e)

loop_goes : (end line : ℕ) (name : List ℕ) (from to : Term) (w : Spot) → Holds (Goes w) (loop_met end line name from to w)
unfolding loop_met
loop_goes end line name from to w =
    bind (bounds_count line name from to w.state)
    (λ b h. mapped (turn_goes name (record { at = w.place; next = b.1.0; to = b.1.1 }) (end + 1) (record w { state = b.0 })) (λ v k. turned_from h k))

branch_counts : (stmts : List Stmt) (end : ℕ) (w : Spot) (s : State) (holds : Bool) → IsCounted w.state s
    → Goes w (branch stmts end holds (record w { state = s }))
unfolding branch
branch_counts stmts end w s true h = Goes.Counts h
branch_counts stmts end w s false h = Goes.Counts h

test_goes : (stmts : List Stmt) (line : ℕ) (test : Term) (end : ℕ) (w : Spot) → Holds (Goes w) (test_met stmts line test end w)
unfolding test_met
test_goes stmts line test end w = bind (holds_count line test w.state) (λ b h. ok (branch_counts stmts end w b.0 b.1 h))

over_next : {w v : Spot} → Turned w v (w.place + 1) → Goes w v
over_next (Turned.Again k) = Goes.Counts k
over_next (Turned.Over e f) = Goes.Moves e (omega arith)

turn_or_on_goes : (name : Option (List ℕ)) (t : Turns) (w : Spot) → Holds (Goes w) (turn_or_on name t w)
turn_or_on_goes None t w = ok (Goes.Moves refl (omega arith))
turn_or_on_goes (Some name) t w = mapped (turn_goes name t (w.place + 1) w) (λ v k. over_next k)

-- levels don't matter to the measure
from_levels : {w v : Spot} {levels : List Level} → Goes (record w { levels = levels }) v → Goes w v
from_levels (Goes.Counts h) = Goes.Counts h
from_levels (Goes.Moves e f) = Goes.Moves e f

level_goes : (stmts : List Stmt) (levels : List Level) (w : Spot) → Holds (Goes w) (level_ended stmts levels w)
unfolding turn_ended
level_goes stmts [] w = ok (Goes.Moves refl (omega arith))
level_goes stmts (level.Turns t ∷ levels) w =
    mapped (turn_or_on_goes (variable_of (slice_get stmts t.at)) t (record w { levels = levels })) (λ v k. from_levels k)
level_goes stmts (level.Branch ∷ levels) w = ok (Goes.Moves refl (omega arith))
level_goes stmts (level.Task line ∷ levels) w = bind (end_counts line w.state) (λ s e. ok (Goes.Moves e (omega arith)))

end_goes : (stmts : List Stmt) (w : Spot) → Holds (Goes w) (block_ended stmts w)
unfolding block_ended
end_goes stmts w = level_goes stmts w.levels w

task_goes : (line : ℕ) (w : Spot) → Holds (Goes w) (task_met line w)
unfolding task_met
task_goes line w = bind (task_counts line w.state) (λ s h. ok (Goes.Counts h))

access_goes : (line : ℕ) (mode : Mode) (span : SpanText) (w : Spot) → Holds (Goes w) (access_met line mode span w)
unfolding access_met
access_goes line mode span w = bind (access_counts line mode span w.state) (λ s h. ok (Goes.Counts h))

close_of_beyond : (stmts : List Stmt) (place : ℕ) → place ≤ close_of stmts place
unfolding close_of
close_of_beyond stmts place = omega arith

else_goes : (stmts : List Stmt) (w : Spot) → Goes w (branch_left (close_of stmts (w.place + 1)) w)
unfolding branch_left
else_goes stmts w = Goes.Moves refl (omega (arith, close_of_beyond stmts (w.place + 1)))

pub step_goes : (stmts : List Stmt) (line : ℕ) (said : What) (w : Spot) → Holds (Goes w) (step stmts line said w)
unfolding step step_to
step_goes stmts line (what.Array name len) w = line_goes line (what.Array name len) w
step_goes stmts line (what.Show name) w = line_goes line (what.Show name) w
step_goes stmts line (what.Comm name) w = line_goes line (what.Comm name) w
step_goes stmts line (what.Let name e) w = line_goes line (what.Let name e) w
step_goes stmts line (what.For name from to) w = loop_goes (close_of stmts (w.place + 1)) line name from to w
step_goes stmts line (what.If test) w = test_goes stmts line test (close_of stmts (w.place + 1)) w
step_goes stmts line what.Else w = ok (else_goes stmts w)
step_goes stmts line what.End w = end_goes stmts w
step_goes stmts line what.Taskwait w = line_goes line what.Taskwait w
step_goes stmts line what.Task w = task_goes line w
step_goes stmts line (what.Touch mode span) w = access_goes line mode span w
step_goes stmts line what.Do w = line_goes line what.Do w
step_goes stmts line (what.Kern kind spans values) w = line_goes line (what.Kern kind spans values) w
step_goes stmts line (what.Posting how handle span peer tag comm status) w = line_goes line (what.Posting how handle span peer tag comm status) w
step_goes stmts line (what.Waiting later handles status) w = line_goes line (what.Waiting later handles status) w

less_left : (a b : ℕ) → a < b → b ≤ 16777216 → (16777216 - b) + 1 ≤ 16777216 - a
less_left a b h k = omega arith

-- what is left of the steps, and then of the places, is less
pub goes_less : (w v : Spot) (long : ℕ) → w.place < long → Goes w v
    → (16777216 - v.state.counts.steps) * (long + 1) + (long - v.place) < (16777216 - w.state.counts.steps) * (long + 1) + (long - w.place)
goes_less w v long h (Goes.Counts c) =
    let fewer = mul-le-mul_right (long + 1) (less_left w.state.counts.steps v.state.counts.steps c.more c.kept) in
    omega (arith, fewer)
goes_less w v long h (Goes.Moves same later) = rw same (omega arith)

-- so it is after each step that goes on
pub falls : (stmts : List Stmt) (w v : Spot) (s : Stmt) → slice_get stmts w.place ≡ Some s → step stmts s.line s.what w ≡ Ok v
    → (16777216 - v.state.counts.steps) * (length stmts + 1) + (length stmts - v.place) < (16777216 - w.state.counts.steps) * (length stmts + 1) +
    (length stmts - w.place)
falls stmts w v s here e =
    let goes = subst (Holds (Goes w)) e (step_goes stmts s.line s.what w) in
    goes_less w v (length stmts) (slice_get_within stmts w.place s here) goes.held
