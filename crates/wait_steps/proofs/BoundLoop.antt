-- The loop over a body that stores and tells what its operations that bind name.
use Rattle.std.proofs.Common.{◌≡◌, ℕ, zero, suc, ◌+◌, ◌<◌, ◌≤◌, Bool, true, false, cond, List, [], ◌∷◌, ◌++◌, length, drop, get_or, slice_get, Contains, Some}
use Rattle.std.proofs.Common.{None, Option, Vec, Global, refl, sym, ap, ◌∙◌, subst, arith}
use Rattle.std.specs.Prelude.{ℤ, sum_by, unwrap_or, vec_capacity}
use Rattle.std.proofs.lemmas.List.{append_assoc, append-nil, length-append}
use Rattle.std.proofs.lemmas.List.Sums.{sum_by-drop_more}
use Rattle.std.proofs.lemmas.Option.{slice_get_within, slice_get_read, get_or_from_slice_get}
use Rattle.rt_base.specs.Listing.{Listing}
use Rattle.rt_base.specs.declared.data.Handle.{Handle}
use Rattle.rt_base.specs.declared.data.Span.{Span}
use Rattle.rt_base.specs.declared.data.Op.{Op}
use Rattle.rt_base.specs.declared.data.Op.TheVariants as op
use Rattle.rt_base.specs.declared.data.Status.{Status}
use Rattle.rt_base.specs.declared.data.TaskDef.{TaskDef}
use Rattle.rt_base.specs.declared.data.Program.{Program}
use Rattle.rt_base.specs.Operations.{named_requests, nth_at}
use Rattle.rt_base.specs.Exchange.{Exchange}
use Rattle.rt_base.specs.MayMove.{AreComplete}
use Rattle.rt_base.specs.WellFormed.{WellFormed}
use Rattle.task_local.specs.Standing.{def_of, no_task}
use Rattle.task_local.specs.Waits.{handles_of, statuses_of, told, taken_by_handles, taken_later, taken_at_release, told_at_release}
use Rattle.task_local.specs.StandsFor.{Record}
use Rattle.task_machine.proofs.Stops.{drop_at, drop_end}
use Rattle.tidy_runs.specs.Tidy.{binds, bindings}
use Rattle.wait_steps.specs.StatusSpans.{HasPlaces}
use Rattle.run_bounds.specs.Bounds.{tells_late}
use Rattle.wait_steps.specs.Received.{AreReceived}
use Rattle.run_bounds.proofs.Changes.{taken_there, told_there}
use Rattle.run_bounds.proofs.Tells.{statuses_each}
use Rattle.run_bounds.proofs.Operations.{operation_is}
use Rattle.wait_steps.proofs.Naming.{places_of}

-- the number of an operation that binds is among those of its body
in_later : (b : Bool) (k m : ℕ) (ks : List ℕ) → Contains ks m → Contains (cond b (k ∷ ks) ks) m
in_later true k m ks has = (suc has.0, omega (arith, has.1), has.2)
in_later false k m ks has = has

in_first : (b : Bool) (k m : ℕ) (ks : List ℕ) → b ≡ true → k ≡ m → Contains (cond b (k ∷ ks) ks) m
in_first true k m ks is same = (zero, omega arith, same)
in_first false k m ks is same = absurd (cc)

binding_at : (k i m : ℕ) (ops : List Op) (x : Op) → slice_get ops i ≡ Some x → binds x ≡ true → k + i ≡ m → Contains (bindings k ops) m
binding_at k i m [] x here is same = absurd (cc)
binding_at k zero m (y ∷ ops) x here is same =
    let one : y ≡ x = cc in
    in_first (binds y) k m (bindings (k + 1) ops) (ap binds one ∙ is) (omega arith)
binding_at k (suc i) m (y ∷ ops) x here is same =
    in_later (binds y) k m (bindings (k + 1) ops) (binding_at (k + 1) i m ops x here is (omega arith))

-- what it names is complete, where all that was bound is
received_here : (p : Program) (e : Exchange) (t k : ℕ) (def : TaskDef) (handles : Listing Handle) (status : Option Span) → AreReceived p e t def
    → slice_get def.body.items k ≡ Some (op.Await true handles status) → AreComplete p e (named_requests t handles.items)
received_here p e t k def handles status received here =
    subst (λ (o : Option Op). AreComplete p e (named_requests t (handles_of (nth_at def k) o))) here
    (received k (binding_at 0 k k def.body.items (op.Await true handles status) here refl (omega arith)))

-- a task that has an operation is one of the program
there_by : (o : Option TaskDef) (k : ℕ) (x : Op) → slice_get (unwrap_or o no_task).body.items k ≡ Some x → o ≡ Some (unwrap_or o no_task)
there_by None k x here = absurd (cc here)
there_by (Some def) k x here = refl

-- its statuses have places
late_places : (p : Program) (t k : ℕ) (handles : Listing Handle) (status : Option Span) → WellFormed p
    → slice_get (def_of p t).body.items k ≡ Some (op.Await true handles status) → HasPlaces (def_of p t) status (length handles.items)
late_places p t k handles status well here =
    places_of p (def_of p t) status (length handles.items)
    (operation_is p t k (def_of p t) (op.Await true handles status) well (there_by (slice_get p.tasks.items t) k _ here) here)

-- the operation at which the loop is
pub loop_reads : (def : TaskDef) (items : List Op) (k : ℕ) (x : Op) → items ≡ def.body.items → k < length items → x ≡ get_or items k x
    → slice_get def.body.items k ≡ Some x
loop_reads def items k x are within is =
    ap (λ (z : List Op). slice_get z k) (sym are) ∙ slice_get_read items (length items) k x refl within is

-- an operation that binds, as the loop reads it
pub loop_binds : (def : TaskDef) (items : List Op) (k : ℕ) (x : Op) (later : Bool) (handles : Listing Handle) (status : Option Span)
    → items ≡ def.body.items → k < length items → x ≡ get_or items k x → x ≡ op.Await later handles status → later ≡ true
    → slice_get def.body.items k ≡ Some (op.Await true handles status)
loop_binds def items k x later handles status are within is op_is yes_later =
    loop_reads def items k x are within is ∙ ap Some (op_is ∙ ap (λ (b : Bool). op.Await b handles status) yes_later)

pub loop_silent : (x y : Op) (b : Bool) → x ≡ y → binds y ≡ b → b ≡ false → binds x ≡ false
loop_silent x y b is binds_y none = ap binds is ∙ binds_y ∙ none

pub loop_received : (p : Program) (e : Exchange) (t u k : ℕ) (def : TaskDef) (handles : Listing Handle) (status : Option Span) (named : List Handle)
    → AreReceived p e t def → slice_get def.body.items k ≡ Some (op.Await true handles status) → u ≡ t → named ≡ handles.items
    → AreComplete p e (named_requests u named)
loop_received p e t u k def handles status named received here who are =
    subst (λ (v : ℕ). AreComplete p e (named_requests v named)) (sym who)
    (subst (λ (z : List Handle). AreComplete p e (named_requests t z)) (sym are) (received_here p e t k def handles status received here))

pub loop_places : (p : Program) (old held : Record) (own : TaskDef) (k : ℕ) (handles : Listing Handle) (status : Option Span) (named : List Handle)
    → WellFormed p → p ≡ old.program → own ≡ def_of old.program old.task → held ≡ record old { copy = held.copy }
    → slice_get own.body.items k ≡ Some (op.Await true handles status) → named ≡ handles.items
    → HasPlaces (def_of held.program held.task) status (length named)
loop_places p old held own k handles status named well same mine copied here are =
    subst (λ (z : Record). HasPlaces (def_of z.program z.task) status (length named)) (sym copied)
    (subst (λ (z : List Handle). HasPlaces (def_of old.program old.task) status (length z)) (sym are)
    (late_places old.program old.task k handles status (subst WellFormed same well)
    (subst (λ (d : TaskDef). slice_get d.body.items k ≡ Some (op.Await true handles status)) mine here)))

drop_here : (def : TaskDef) (k : ℕ) (x : Op) → slice_get def.body.items k ≡ Some x → drop k def.body.items ≡ x ∷ drop (k + 1) def.body.items
drop_here def k x here =
    drop_at def.body.items k x (slice_get_within def.body.items k x here) (sym (get_or_from_slice_get def.body.items k x x here))

-- those that bind, from an operation on
passed : (def : TaskDef) (k : ℕ) (x : Op) → slice_get def.body.items k ≡ Some x → binds x ≡ false
    → bindings k (drop k def.body.items) ≡ bindings (k + 1) (drop (k + 1) def.body.items)
passed def k x here is =
    let rest : List ℕ = bindings (k + 1) (drop (k + 1) def.body.items) in
    ap (bindings k) (drop_here def k x here) ∙ ap (λ (b : Bool). cond b (k ∷ rest) rest) is

met : (def : TaskDef) (k : ℕ) (x : Op) → slice_get def.body.items k ≡ Some x → binds x ≡ true
    → bindings k (drop k def.body.items) ≡ k ∷ bindings (k + 1) (drop (k + 1) def.body.items)
met def k x here is =
    let rest : List ℕ = bindings (k + 1) (drop (k + 1) def.body.items) in
    ap (bindings k) (drop_here def k x here) ∙ ap (λ (b : Bool). cond b (k ∷ rest) rest) is

-- what the operations from place k on store and tell makes the copy and the list whole, and there are places for it
pub record Taking (p : Program) (e : Exchange) (def : TaskDef) (k : ℕ) (old held : Record) (first statuses : List Status) (before places : ℕ) : Type 0 where
  pub copied : held ≡ record old { copy = held.copy }
  pub stored : taken_at_release p e old.task def (bindings k (drop k def.body.items)) held.copy
      ≡ taken_at_release p e old.task def (bindings 0 def.body.items) old.copy
  pub told : statuses ++ told_at_release p e old.task def (bindings k (drop k def.body.items))
      ≡ first ++ told_at_release p e old.task def (bindings 0 def.body.items)
  pub room : length statuses + sum_by tells_late (drop k def.body.items) ≤ places
  pub more : before ≤ places

-- the room for what is left to tell
late_room : (def : TaskDef) (k : ℕ) (x : Op) → slice_get def.body.items k ≡ Some x
    → sum_by tells_late (drop k def.body.items) ≡ tells_late x + sum_by tells_late (drop (k + 1) def.body.items)
late_room def k x here =
    let more = sum_by-drop_more tells_late def.body.items k x (slice_get_within def.body.items k x here) in
    let own : tells_late (get_or def.body.items k x) ≡ tells_late x = ap tells_late (get_or_from_slice_get def.body.items k x x here) in
    omega arith

-- over an operation that binds nothing, which changes nothing
silent_step : (p : Program) (e : Exchange) (def : TaskDef) (k : ℕ) (x : Op) (old held : Record) (first statuses : List Status) (before places : ℕ)
    → Taking p e def k old held first statuses before places → slice_get def.body.items k ≡ Some x → binds x ≡ false
    → Taking p e def (k + 1) old held first statuses before places
silent_step p e def k x old held first statuses before places at here is = record {
  copied = at.copied;
  stored = ap (λ (ks : List ℕ). taken_at_release p e old.task def ks held.copy) (sym (passed def k x here is)) ∙ at.stored;
  told = ap (λ (ks : List ℕ). statuses ++ told_at_release p e old.task def ks) (sym (passed def k x here is)) ∙ at.told;
  room = omega (arith, at.room, late_room def k x here);
  more = at.more;
}

pub over_silent : (p : Program) (e : Exchange) (def : TaskDef) (k : ℕ) (x : Op) (old held held' : Record) (first : List Status)
    (statuses statuses' : Vec Status Global) (before : ℕ)
    → Taking p e def k old held first statuses.items before (vec_capacity statuses) → slice_get def.body.items k ≡ Some x → binds x ≡ false
    → held' ≡ held → statuses' ≡ statuses → Taking p e def (k + 1) old held' first statuses'.items before (vec_capacity statuses')
over_silent p e def k x old held held' first statuses statuses' before at here is same same' =
    subst (λ (z : Vec Status Global). Taking p e def (k + 1) old held' first z.items before (vec_capacity z)) (sym same')
    (subst (λ (z : Record). Taking p e def (k + 1) old z first statuses.items before (vec_capacity statuses)) (sym same)
    (silent_step p e def k x old held first statuses.items before (vec_capacity statuses) at here is))

-- over an operation that binds, whose handles were taken and told
binding_step : (p : Program) (e : Exchange) (def : TaskDef) (k u v : ℕ) (handles : Listing Handle) (status : Option Span) (old held : Record)
    (copy : List ℤ) (first statuses new : List Status) (before places more : ℕ)
    → Taking p e def k old held first statuses before places → slice_get def.body.items k ≡ Some (op.Await true handles status)
    → u ≡ old.task → v ≡ old.task → copy ≡ taken_by_handles p e u def status handles.items held.copy → new ≡ statuses ++ statuses_of p e v handles.items
    → places ≤ more → Taking p e def (k + 1) old (record held { copy = copy }) first new before more
binding_step p e def k u v handles status old held copy first statuses new before places more at here who who' takes tells fits =
    let x : Op = op.Await true handles status in
    let rest : List ℕ = bindings (k + 1) (drop (k + 1) def.body.items) in
    let taken_now : copy ≡ taken_later p e old.task def k held.copy =
    takes ∙ ap (λ (t : ℕ). taken_by_handles p e t def status handles.items held.copy) who
    ∙ sym (taken_there p e old.task k def handles status held.copy here) in
    let told_now : new ≡ statuses ++ told p e old.task def k =
    tells ∙ ap (λ (t : ℕ). statuses ++ statuses_of p e t handles.items) who'
    ∙ ap (λ (z : List Status). statuses ++ z) (sym (told_there p e old.task k def handles status here)) in
    let long : length new ≡ length statuses + length handles.items =
    ap (λ (z : List Status). length z) tells ∙ length-append statuses (statuses_of p e v handles.items)
    ∙ ap (λ (n : ℕ). length statuses + n) (statuses_each p e v handles.items) in
    let own : tells_late x ≡ length handles.items = refl in
    record {
      copied = ap (λ (z : Record). record z { copy = copy }) at.copied;
      stored = ap (taken_at_release p e old.task def rest) taken_now
          ∙ ap (λ (ks : List ℕ). taken_at_release p e old.task def ks held.copy) (sym (met def k x here refl)) ∙ at.stored;
      told = ap (λ (z : List Status). z ++ told_at_release p e old.task def rest) told_now
          ∙ append_assoc statuses (told p e old.task def k) (told_at_release p e old.task def rest)
          ∙ ap (λ (ks : List ℕ). statuses ++ told_at_release p e old.task def ks) (sym (met def k x here refl)) ∙ at.told;
      room = omega (arith, at.room, late_room def k x here);
      more = omega (arith, at.more);
    }

pub over_binding : (p : Program) (e : Exchange) (own def : TaskDef) (k v : ℕ) (handles : Listing Handle) (status : Option Span) (named named' : List Handle)
    (old held held' : Record) (first : List Status) (statuses statuses' : Vec Status Global) (before : ℕ)
    → Taking p e def k old held first statuses.items before (vec_capacity statuses) → slice_get def.body.items k ≡ Some (op.Await true handles status)
    → own ≡ def → v ≡ old.task → named ≡ handles.items → named' ≡ handles.items
    → held' ≡ record held { copy = taken_by_handles p e held.task own status named held.copy }
    → statuses'.items ≡ statuses.items ++ statuses_of p e v named' → vec_capacity statuses ≤ vec_capacity statuses'
    → Taking p e def (k + 1) old held' first statuses'.items before (vec_capacity statuses')
over_binding p e own def k v handles status named named' old held held' first statuses statuses' before at here mine who are are' takes tells fits =
    subst (λ (z : Record). Taking p e def (k + 1) old z first statuses'.items before (vec_capacity statuses')) (sym takes)
    (binding_step p e def k held.task v handles status old held (taken_by_handles p e held.task own status named held.copy) first statuses.items
    statuses'.items before (vec_capacity statuses) (vec_capacity statuses') at here (ap (λ (z : Record). z.task) at.copied) who
    (ap (λ (d : TaskDef). taken_by_handles p e held.task d status named held.copy) mine
    ∙ ap (λ (z : List Handle). taken_by_handles p e held.task def status z held.copy) are)
    (tells ∙ ap (λ (z : List Handle). statuses.items ++ statuses_of p e v z) are') fits)

-- before the first operation, and behind the last
pub taking_first : (p : Program) (e : Exchange) (def : TaskDef) (old : Record) (statuses : List Status) (places : ℕ)
    → length statuses + sum_by tells_late def.body.items ≤ places → Taking p e def 0 old old statuses statuses places places
taking_first p e def old statuses places room = record { copied = refl; stored = refl; told = refl; room = room; more = omega arith }

none_left : (def : TaskDef) (k : ℕ) (items : List Op) → items ≡ def.body.items → length items ≤ k → bindings k (drop k def.body.items) ≡ []
none_left def k items are past = ap (bindings k) (drop_end def.body.items k (omega (arith, ap (λ (z : List Op). length z) are)))

pub taking_last : (p : Program) (e : Exchange) (def : TaskDef) (k : ℕ) (items : List Op) (old held : Record) (first statuses : List Status)
    (before places : ℕ) → Taking p e def k old held first statuses before places → items ≡ def.body.items → length items ≤ k
    → held ≡ record old { copy = taken_at_release p e old.task def (bindings 0 def.body.items) old.copy }
taking_last p e def k items old held first statuses before places at are past =
    at.copied ∙ ap (λ (z : List ℤ). record old { copy = z })
    (ap (λ (ks : List ℕ). taken_at_release p e old.task def ks held.copy) (sym (none_left def k items are past)) ∙ at.stored)

pub told_last : (p : Program) (e : Exchange) (def : TaskDef) (k : ℕ) (items : List Op) (old held : Record) (first statuses : List Status)
    (before places : ℕ) → Taking p e def k old held first statuses before places → items ≡ def.body.items → length items ≤ k
    → statuses ≡ first ++ told_at_release p e old.task def (bindings 0 def.body.items)
told_last p e def k items old held first statuses before places at are past =
    sym (append-nil statuses)
    ∙ ap (λ (ks : List ℕ). statuses ++ told_at_release p e old.task def ks) (sym (none_left def k items are past)) ∙ at.told
