-- What contracts see of tasks that are ready, started or paused, and of completions on their way to them.
use Rattle.std.specs.Prelude.{ℕ}
use Rattle.rt_base.specs.declared.data.ReqNo.{ReqNo}
use Rattle.task_local.specs.StandsFor.{Record}
use Rattle.pass_table.specs.Passes.{PassIs, NoteIs}
use Rattle.meet_hall.specs.Holders.{HolderIs, TicketIs}
use Rattle.turn_table.specs.declared.hands.Door.{Door}
use Rattle.turn_table.specs.declared.hands.Door.TheVariants.{Pause, Events}

-- a task that may start: its number, its pass, and the holders of its two meetings
pub record FreshIs : Type 0 where
  pub task : ℕ
  pub pass : PassIs
  pub pause : HolderIs
  pub events : HolderIs

-- a started task: its record, its pass, and the holders of its two meetings
pub record LiveIs : Type 0 where
  pub rec : Record
  pub pass : PassIs
  pub pause : HolderIs
  pub events : HolderIs

-- a paused task: the meeting at which it is parked, and the holder of the other one
pub record ParkedIs : Type 0 where
  pub rec : Record
  pub pass : PassIs
  pub other : HolderIs
  pub door : Door

-- what a completion brings to a meeting: the request, and a front of the list in which it is complete
pub record ArrivalIs : Type 0 where
  pub req : ReqNo
  pub note : NoteIs

-- a completion that a poller took, with the ticket of its request
pub record NoticeIs : Type 0 where
  pub req : ReqNo
  pub ticket : TicketIs
  pub note : NoteIs

-- the other of a task's two meetings
abbrev pub other_door : Door → Door
other_door Pause = Events
other_door Events = Pause

-- the holder of one of the task's meetings
abbrev pub held_at : Door → LiveIs → HolderIs
held_at Pause live = live.pause
held_at Events live = live.events

-- the task as it is parked at one of its meetings
abbrev pub parked_at : Door → LiveIs → ParkedIs
parked_at door live = record { rec = live.rec; pass = live.pass; other = held_at (other_door door) live; door = door }

-- the task that was parked, with the holder of the meeting at which it was
abbrev pub joined : Door → HolderIs → ParkedIs → LiveIs
joined Pause holder parked = record { rec = parked.rec; pass = parked.pass; pause = holder; events = parked.other }
joined Events holder parked = record { rec = parked.rec; pass = parked.pass; pause = parked.other; events = holder }

-- the completion as it comes to its meeting
abbrev pub brought : NoticeIs → ArrivalIs
brought notice = record { req = notice.req; note = notice.note }
