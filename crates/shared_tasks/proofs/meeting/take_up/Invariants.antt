use Rattle.std.proofs.Common.{length}
use Rattle.shared_tasks.specs.Keeping.{FitsParked}
use Rattle.shared_tasks.specs.Pausing.{IsNext, SawMore}
use Rattle.shared_tasks.proofs.meeting.take_up.Given as goal

-- the task fits its meeting and the places whose notes are left
abbrev pub invariant-loop-place : goal.invariant-loop-place
invariant-loop-place g l = record {
  next : IsNext g.K.Run.program g.H.Site.hall l.rec.task l.holder;
  fits : FitsParked g.K.Run.program g.K.Run.workers g.K.Run.passes g.H.Site.hall
      (record { rec = l.rec; pass = l.pass; other = l.other; door = l.door }) l.holder.meeting l.holder.left;
  more : SawMore l.fn.parked.pass l.pass;
}

abbrev pub decreases-loop-place : goal.decreases-loop-place
decreases-loop-place g l = length l.holder.left
