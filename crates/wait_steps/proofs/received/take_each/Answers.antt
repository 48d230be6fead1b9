use Rattle.std.proofs.Common.{◌≡◌, rules, get_or, sym, subst, ap, ◌∙◌}
use Rattle.rt_base.specs.declared.data.Handle.TheVariants as handle
use Rattle.task_local.specs.Standing.{def}
use Rattle.task_local.specs.StandsFor.{Record}
use Rattle.task_local.specs.Waits.{taken_by_handle}
use Rattle.wait_steps.specs.StatusSpans.{HasPlaces}
use Rattle.wait_steps.proofs.Handles.{taken_here, complete_next}
use Rattle.wait_steps.proofs.Spans.{places_now, places_next}
use Rattle.wait_steps.proofs.received.take_each.Goals as goal

pub take_one-requires-clause-declared : goal.take_one-requires-clause-declared
take_one-requires-clause-declared c =
    let inv = c.loop-handle.invariant in
    subst (λ (held : Record). HasPlaces (def held) c.loop-handle.rest 1) (sym inv.copied)
    (places_now (def c.args.rec.now) c.loop-handle.rest c.args.handles.now c.loop-handle.handle-index c.loop-handle-test.true inv.places)

pub loop-handle-preserved : goal.loop-handle-preserved
loop-handle-preserved c =
    let p = c.args.engine.now.program in
    let x = c.args.engine.now.exchange in
    let t = c.args.rec.now.task in
    let task = def c.args.rec.now in
    let handles = c.args.handles.now in
    let i = c.loop-handle.handle-index in
    let rest = c.loop-handle.rest in
    let within = c.loop-handle-test.true in
    let before = c.loop-handle.invariant in
    let here = get_or handles i handle.Null in
    let copy : c.take_one.new.rec.copy ≡ taken_by_handle p x t task rest here c.loop-handle.rec.copy =
    ap (λ (held : Record). held.copy) c.take_one.ensures
    ∙ ap (λ (held : Record). taken_by_handle p x held.task (def held) rest here c.loop-handle.rec.copy) before.copied in
    record {
      copied = search rules;
      whole = rw (c.behind_status-rest.ensures, copy) (sym (taken_here p x t task rest handles i c.loop-handle.rec.copy within) ∙ before.whole);
      complete = complete_next p x t handles i within before.complete;
      places = rw c.behind_status-rest.ensures (places_next task rest handles i within before.places);
    }
