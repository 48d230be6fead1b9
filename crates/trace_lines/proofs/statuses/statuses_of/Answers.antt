use Rattle.std.proofs.Common.{◌≡◌, List, [], sym, subst, rules}
use Rattle.rt_base.specs.declared.data.Status.{Status}
use Rattle.trace_lines.proofs.Groups.{HasRead, goes_on, ends, breaks, some_text, no_text}
use Rattle.trace_lines.proofs.statuses.statuses_of.Goals as goal

pub returns-in_default-clause-only : goal.returns-in_default-clause-only
returns-in_default-clause-only c = λ told fits e.
    let some : c.loop-rest.rest.now ≡ [] → ⊥ = some_text c.loop-rest.rest.now (search rules) in
    breaks c.args.bytes.now c.loop-rest.rest.now c.loop-rest.told.items told c.loop-rest.invariant some c.in_default.ensures.only fits e

pub loop-rest-preserved : goal.loop-rest-preserved
loop-rest-preserved c =
    subst (λ (read : List Status). HasRead c.args.bytes.now c.in-Some.behind.now read) (sym c.in_ok-push.ensures.items)
    (goes_on c.args.bytes.now c.loop-rest.rest.now c.in-Some.behind.now c.loop-rest.told.items c.in-Some.status c.loop-rest.invariant
    c.in-Some.ensures.some c.in-Some.ensures.only c.in-Some.ensures.fits)

pub returns-clause-only : goal.returns-clause-only
returns-clause-only c = λ told fits e.
    let none : c.loop-rest.rest.now ≡ [] = no_text c.loop-rest.rest.now (search rules) in
    ends c.args.bytes.now c.loop-rest.rest.now c.loop-rest.told.items told c.loop-rest.invariant none fits e
