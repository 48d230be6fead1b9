use Rattle.std.proofs.Common.{◌≡◌, rules, pos, get_or, sym, subst, ap, ◌∙◌}
use Rattle.rt_base.specs.declared.data.Status.{Status}
use Rattle.task_local.specs.Standing.{def}
use Rattle.task_local.specs.StandsFor.{Record}
use Rattle.task_local.specs.Waits.{put_status}
use Rattle.wait_steps.specs.StatusSpans.{HasPlaces}
use Rattle.wait_steps.proofs.Spans.{places_now, places_next, put_here}
use Rattle.wait_steps.proofs.statuses.store_statuses.Goals as goal

pub store_status-requires-clause-declared : goal.store_status-requires-clause-declared
store_status-requires-clause-declared c =
    let inv = c.loop-status.invariant in
    subst (λ (held : Record). HasPlaces (def held) c.loop-status.rest 1) (sym inv.copied)
    (places_now (def c.args.rec.now) c.loop-status.rest c.args.statuses.now c.loop-status.status-index c.loop-status-test.true inv.places)

pub loop-status-preserved : goal.loop-status-preserved
loop-status-preserved c =
    let task = def c.args.rec.now in
    let statuses = c.args.statuses.now in
    let i = c.loop-status.status-index in
    let rest = c.loop-status.rest in
    let within = c.loop-status-test.true in
    let before = c.loop-status.invariant in
    let none : Status = record { source = pos 0; tag = pos 0; count = 0; error = 0 } in
    let here = get_or statuses i none in
    let copy : c.store_status.new.rec.copy ≡ put_status task rest here c.loop-status.rec.copy =
    ap (λ (held : Record). held.copy) c.store_status.ensures
    ∙ ap (λ (held : Record). put_status (def held) rest here c.loop-status.rec.copy) before.copied in
    record {
      copied = search rules;
      whole = rw (c.behind_status-rest.ensures, copy) (sym (put_here task rest statuses i none c.loop-status.rec.copy within) ∙ before.whole);
      places = rw c.behind_status-rest.ensures (places_next task rest statuses i within before.places);
    }
