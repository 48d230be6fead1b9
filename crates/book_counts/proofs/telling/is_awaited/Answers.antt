-- A task awaits a request only while it is in an operation, and there as the operation says.
use Rattle.std.proofs.Common.{refl}
use Rattle.rt_base.specs.declared.data.Phase.TheVariants as phase
use Rattle.book_counts.proofs.Awaiting.{phase_at_place, awaits_nothing, awaits_there}
use Rattle.book_counts.proofs.telling.is_awaited.Goals as goal

pub is_awaited_in-requires : goal.is_awaited_in-requires
is_awaited_in-requires c =
    c.requires.numbered.posted_are c.args.req.task.0 c.task_of.result.now (phase.In c.in-In.k) c.task_of.ensures
    (phase_at_place c.args.phases.now c.args.req.task.0 (phase.In c.in-In.k) c.if-req-phases.false c.in-In.is)

pub returns-in-Waiting : goal.returns-in-Waiting
returns-in-Waiting c = awaits_nothing c.args.prog.now c.args.phases.now c.args.req phase.Waiting c.if-req-phases.false c.in-Waiting.is refl

pub returns-in-At : goal.returns-in-At
returns-in-At c = awaits_nothing c.args.prog.now c.args.phases.now c.args.req (phase.At c.in-At.field-0) c.if-req-phases.false c.in-At.is refl

pub returns-in-In : goal.returns-in-In
returns-in-In c =
    awaits_there c.args.prog.now c.args.phases.now c.args.req c.in-In.k c.task_of.result.now c.is_awaited_in.result c.if-req-phases.false c.in-In.is
    c.task_of.ensures c.is_awaited_in.ensures

pub returns-in-Ended : goal.returns-in-Ended
returns-in-Ended c = awaits_nothing c.args.prog.now c.args.phases.now c.args.req phase.Ended c.if-req-phases.false c.in-Ended.is refl

pub returns-in-Returned : goal.returns-in-Returned
returns-in-Returned c = awaits_nothing c.args.prog.now c.args.phases.now c.args.req phase.Returned c.if-req-phases.false c.in-Returned.is refl

pub returns-in-Released : goal.returns-in-Released
returns-in-Released c = awaits_nothing c.args.prog.now c.args.phases.now c.args.req phase.Released c.if-req-phases.false c.in-Released.is refl
