use Rattle.std.proofs.Common.{subst}
use Rattle.shared_tasks.specs.Values.{NoticeIs}
use Rattle.shared_tasks.specs.Keeping.{IsOfMeeting}
use Rattle.shared_tasks.proofs.Rounds.{of_meeting}
use Rattle.shared_tasks.proofs.meeting.arrive.Goals as goal

pub returns-in-Last-clause-meeting : goal.returns-in-Last-clause-meeting
returns-in-Last-clause-meeting g c =
    let fits = (rw c.in-Last.is at c.arrive.ensures.last).1 in
    subst (λ (n : NoticeIs). IsOfMeeting n.ticket.meeting c.take_up.result) c.into_parts-ticket.ensures.parts
    (of_meeting g.K.Run.program g.K.Run.workers g.K.Run.passes c.args.hall.now c.in-Last.parked c.into_parts-ticket.result.1.meeting c.in-Last.next.left
    c.take_up.result fits c.take_up.ensures.rec)
