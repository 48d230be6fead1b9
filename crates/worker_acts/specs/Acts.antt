-- What a worker's hand shows after an act that takes no section of the book.
use Rattle.std.specs.Prelude.{◌≡◌, Option, Some, None, Result, Ok, Err, MatchOption, ⊤, slice_get}
use Rattle.rt_base.specs.declared.data.Phase.{Phase}
use Rattle.rt_base.specs.declared.data.Phase.TheVariants as phase
use Rattle.rt_base.specs.declared.data.TaskDef.{TaskDef}
use Rattle.task_local.specs.Standing.{IsCall}
use Rattle.meet_hall.specs.Answers.{ParkWaits, ArriveWaits}
use Rattle.ready_bag.specs.declared.counts.Counts.{Counts}
use Rattle.ready_bag.specs.Counts.{PutsRose, FullsRose, TakesRose, EmptiesRose}
use Rattle.turn_table.specs.declared.hands.Door.{Door}
use Rattle.turn_table.specs.declared.hands.Look.TheVariants as look
use Rattle.turn_table.specs.declared.turns.Answer.{Answer}
use Rattle.turn_table.specs.declared.turns.Answer.TheVariants as answer
use Rattle.shared_tasks.specs.Values.{LiveIs, NoticeIs, held_at}
use Rattle.shared_tasks.specs.Keeping.{IsOfMeeting}
use Rattle.shared_tasks.specs.Pausing.{SawMore}
use Rattle.tampi_calls.specs.declared.held.Held.{Held}
use Rattle.tampi_calls.specs.declared.held.Held.TheVariants as held
use Rattle.tampi_calls.specs.declared.item.Item.{Item}
use Rattle.tampi_calls.specs.declared.item.Item.TheVariants as item
use Rattle.tampi_calls.specs.Values.{HandIs}

-- the queue was asked for a task: it gave none, and the count of empties rose, or one, and the count of takes rose
abbrev pub PopShows : Counts → Counts → Answer → Type 0
PopShows before now answer.None = EmptiesRose before now
PopShows before now answer.TookFresh = TakesRose before now
PopShows before now answer.TookLive = TakesRose before now
PopShows before now _ = ⊥

-- what a hand keeps whose task the queue did not take: an offered task is to be started, and a woken one goes on
abbrev pub kept_back : {K H : Type 0} → Held K H → Held K H
kept_back (held.Offered fresh) = held.Fresh fresh
kept_back (held.Resumed live) = held.Ready live
kept_back other = other

-- the queue was given the task that the hand held: it took it, and the count of puts rose, or it was full, the count of fulls rose, and the hand has the task
abbrev pub PushShows : {K H : Type 0} → Counts → Counts → Held K H → Held K H → Answer → Type 0
PushShows before now old new answer.Put = PutsRose before now
PushShows before now old new answer.Full = FullsRose before now × (new ≡ kept_back old)
PushShows before now old new _ = ⊥

-- what is said of the pending task of a hand and of its meeting
abbrev pub OfPending : {K H : Type 0} → Held K H → (LiveIs → Door → Type 0) → Type 0
OfPending (held.Pending live door) Fact = Fact live door
OfPending _ Fact = ⊥

-- what is said of the notice of a hand
abbrev pub OfTold : {K H : Type 0} → Held K H → (NoticeIs → Type 0) → Type 0
OfTold (held.Told notice) Fact = Fact notice
OfTold _ Fact = ⊥

-- what is said of the ready task of a hand
abbrev pub OfReady : {K H : Type 0} → Held K H → (LiveIs → Type 0) → Type 0
OfReady (held.Ready live) Fact = Fact live
OfReady _ Fact = ⊥

-- what is said of the woken task of a hand
abbrev pub OfResumed : {K H : Type 0} → Held K H → (LiveIs → Type 0) → Type 0
OfResumed (held.Resumed live) Fact = Fact live
OfResumed _ Fact = ⊥

-- the pending task came to its meeting. Others had not: the hand has the stub of its holder's seat. Or it was the last, and goes on with the same record, and
-- a pass that has seen at least as much (OmpSs-2, pause and resume)
abbrev pub ParkShows : {K H P : Type 0} → HandIs (Held K H) P → HandIs (Held K H) P → Answer → Type 0
ParkShows old new answer.Waiting = OfPending old.held (λ live door. MatchOption new.last ⊥ (ParkWaits (held_at door live)))
ParkShows old new answer.Last =
    OfPending old.held (λ live door. OfReady new.held (λ back. (back.rec ≡ live.rec) × SawMore live.pass back.pass)) × (new.last ≡ old.last)
ParkShows old new _ = ⊥

-- the completion came to its meeting. Others had not: the hand has the stub of the ticket's seat. Or it was the last, and the hand has the task of its
-- request, for which that is one of its two meetings (OmpSs-2, pause and resume; TAMPI, completion by polling)
abbrev pub ArriveShows : {K H P : Type 0} → HandIs (Held K H) P → HandIs (Held K H) P → Answer → Type 0
ArriveShows old new answer.Waiting = OfTold old.held (λ notice. MatchOption new.last ⊥ (ArriveWaits notice.ticket))
ArriveShows old new answer.Last =
    OfTold old.held (λ notice. OfResumed new.held (λ back. (back.rec.task ≡ notice.req.task.0) × IsOfMeeting notice.ticket.meeting back))
    × (new.last ≡ old.last)
ArriveShows old new _ = ⊥

-- the task is before a step of the machine: a call, the end of an operation, a return or a release
abbrev pub IsBeforeStep : TaskDef → Phase → Type 0
IsBeforeStep def phase.Waiting = ⊥
IsBeforeStep def (phase.At k) = IsCall (slice_get def.body.items k)
IsBeforeStep def (phase.In k) = ⊤
IsBeforeStep def phase.Ended = ⊤
IsBeforeStep def phase.Returned = ⊤
IsBeforeStep def phase.Released = ⊥
