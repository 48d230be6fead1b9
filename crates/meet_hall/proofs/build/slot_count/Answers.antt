use Rattle.std.proofs.Common.{◌≡◌, ◌+◌, suc, arith, sym, ap, get_or}
use Rattle.meet_hall.specs.Plan.{start_of}
use Rattle.meet_hall.proofs.PlanLemmas.{start_more, start_zero, start_most}
use Rattle.meet_hall.proofs.build.slot_count.Goals as goal

pub loop-place_count-init : goal.loop-place_count-init
loop-place_count-init c = sym (start_zero c.args.places.now)

pub overflow_add-count-in-loop-place_count : goal.overflow_add-count-in-loop-place_count
overflow_add-count-in-loop-place_count c =
    let i = c.loop-place_count.place_count-index in
    let most = start_most c.args.places.now i c.requires.narrow (omega arith) in
    let narrow = c.requires.narrow i c.loop-place_count-test.true in
    let few = c.requires.few in
    let far = c.loop-place_count.invariant in
    omega arith

pub loop-place_count-preserved : goal.loop-place_count-preserved
loop-place_count-preserved c =
    let i = c.loop-place_count.place_count-index in
    let more = start_more c.args.places.now i c.loop-place_count-test.true in
    let next : start_of c.args.places.now (i + 1) ≡ start_of c.args.places.now (suc i) =
    ap (start_of c.args.places.now) (let e : i + 1 ≡ suc i = omega arith in e) in
    let far = c.loop-place_count.invariant in
    let all : c.loop-place_count.count + (1 + get_or c.args.places.now i 0) ≡ start_of c.args.places.now (i + 1) = omega arith in
    all
