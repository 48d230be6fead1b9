-- A release stores and tells what the operations that bind name, from one operation to the next.
use Rattle.std.proofs.Common.{◌∙◌, Bool, Some, Vec, Global, refl, sym, ap, arith}
use Rattle.std.specs.Prelude.{vec_capacity}
use Rattle.rt_base.specs.declared.data.Op.TheVariants as op
use Rattle.rt_base.specs.declared.data.Status.{Status}
use Rattle.task_local.specs.Standing.{def}
use Rattle.task_local.specs.StandsFor.{Record}
use Rattle.wait_steps.proofs.BoundLoop.{loop_binds, loop_silent, loop_reads, loop_received, loop_places, over_silent, over_binding, taking_first}
use Rattle.wait_steps.proofs.bound.take_bound.Goals as goal
use Rattle.wait_steps.proofs.bound.take_bound.Goals.{in-Compute, in-Post, in-Await+then-later, in-Await+else-later}

pub loop-operation-init : goal.loop-operation-init
loop-operation-init c =
    taking_first c.args.engine.now.program c.args.engine.now.exchange c.args.own.now c.args.rec.now c.args.statuses.now.items
    (vec_capacity c.args.statuses.now) c.requires.room

pub take_each-requires-clause-same : goal.take_each-requires-clause-same
take_each-requires-clause-same c = c.requires.same ∙ sym (ap (λ (z : Record). z.program) c.loop-operation.invariant.copied)

pub take_each-requires-clause-complete : goal.take_each-requires-clause-complete
take_each-requires-clause-complete c =
    loop_received c.args.engine.now.program c.args.engine.now.exchange c.args.rec.now.task c.loop-operation.rec.task c.loop-operation.operation-index
    c.args.own.now c.in-Await.handles c.in-Await.status c.as_slice.result.now c.requires.received
    (loop_binds c.args.own.now c.as_slice-operation-items.result.now c.loop-operation.operation-index c.operation-item.result c.in-Await.later
    c.in-Await.handles c.in-Await.status c.as_slice-operation-items.ensures c.loop-operation-test.true c.operation-item.is c.in-Await.is c.if-later.true)
    (ap (λ (z : Record). z.task) c.loop-operation.invariant.copied) c.as_slice.ensures

pub take_each-requires-clause-declared : goal.take_each-requires-clause-declared
take_each-requires-clause-declared c =
    loop_places c.args.prog.now c.args.rec.now c.loop-operation.rec c.args.own.now c.loop-operation.operation-index c.in-Await.handles c.in-Await.status
    c.as_slice.result.now c.requires.well_formed c.requires.same c.requires.of_task c.loop-operation.invariant.copied
    (loop_binds c.args.own.now c.as_slice-operation-items.result.now c.loop-operation.operation-index c.operation-item.result c.in-Await.later
    c.in-Await.handles c.in-Await.status c.as_slice-operation-items.ensures c.loop-operation-test.true c.operation-item.is c.in-Await.is c.if-later.true)
    c.as_slice.ensures

pub tell_each-requires-clause-complete : goal.tell_each-requires-clause-complete
tell_each-requires-clause-complete c =
    loop_received c.args.engine.now.program c.args.engine.now.exchange c.args.rec.now.task c.task.result.0 c.loop-operation.operation-index
    c.args.own.now c.in-Await.handles c.in-Await.status c.as_slice-then-later.result.now c.requires.received
    (loop_binds c.args.own.now c.as_slice-operation-items.result.now c.loop-operation.operation-index c.operation-item.result c.in-Await.later
    c.in-Await.handles c.in-Await.status c.as_slice-operation-items.ensures c.loop-operation-test.true c.operation-item.is c.in-Await.is c.if-later.true)
    (c.task.ensures ∙ ap (λ (z : Record). z.task) c.take_each.ensures ∙ ap (λ (z : Record). z.task) c.loop-operation.invariant.copied)
    c.as_slice-then-later.ensures

pub loop-operation-preserved : goal.loop-operation-preserved
loop-operation-preserved c =
    let p = c.args.engine.now.program in
    let e = c.args.engine.now.exchange in
    let own = c.args.own.now in
    let k = c.loop-operation.operation-index in
    let x = c.operation-item.result in
    let old = c.args.rec.now in
    let first = c.args.statuses.now.items in
    let before = vec_capacity c.args.statuses.now in
    let at = c.loop-operation.invariant in
    let here = loop_reads own c.as_slice-operation-items.result.now k x c.as_slice-operation-items.ensures c.loop-operation-test.true c.operation-item.is in
    elim c.match-operation.branch [
      | in-Compute w ↦
          over_silent p e own k x old c.loop-operation.rec c.match-operation.rec first c.loop-operation.statuses c.match-operation.statuses before at here
          (loop_silent x _ _ w.in-Compute.is refl refl) w.rec-is w.statuses-is
      | in-Post w ↦
          over_silent p e own k x old c.loop-operation.rec c.match-operation.rec first c.loop-operation.statuses c.match-operation.statuses before at here
          (loop_silent x _ _ w.in-Post.is refl refl) w.rec-is w.statuses-is
      | in-Await+then-later w ↦
          over_binding p e (def c.loop-operation.rec) own k w.task.result.0 w.in-Await.handles w.in-Await.status w.as_slice.result.now
          w.as_slice-then-later.result.now old c.loop-operation.rec c.match-operation.rec first c.loop-operation.statuses c.match-operation.statuses before at
          (here ∙ ap Some (w.in-Await.is ∙ ap (λ (b : Bool). op.Await b w.in-Await.handles w.in-Await.status) w.if-later.true))
          (ap def at.copied ∙ sym c.requires.of_task)
          (w.task.ensures ∙ ap (λ (z : Record). z.task) w.take_each.ensures ∙ ap (λ (z : Record). z.task) at.copied) w.as_slice.ensures
          w.as_slice-then-later.ensures (w.rec-is ∙ w.take_each.ensures)
          (ap (λ (z : Vec Status Global). z.items) w.statuses-is ∙ w.tell_each.ensures.items)
          (omega (arith, w.tell_each.ensures.places, ap (λ (z : Vec Status Global). vec_capacity z) w.statuses-is))
      | in-Await+else-later w ↦
          over_silent p e own k x old c.loop-operation.rec c.match-operation.rec first c.loop-operation.statuses c.match-operation.statuses before at here
          (loop_silent x _ _ w.in-Await.is refl w.if-later.false) w.rec-is w.statuses-is
    ]
