use Rattle.std.proofs.Common.{◌≡◌, ◌+◌, suc, take, drop, ◌++◌, arith, ap, ◌∙◌}
use Rattle.meet_hall.proofs.PlaceLemmas.{further_on, without_at}
use Rattle.meet_hall.proofs.lists.index_of.Goals as goal

pub bounds-places-i : goal.bounds-places-i
bounds-places-i c = further_on c.args.places.now c.loop-i.i c.args.place c.requires c.loop-i.invariant

pub offset_bounds-places-i : goal.offset_bounds-places-i
offset_bounds-places-i c = let h = further_on c.args.places.now c.loop-i.i c.args.place c.requires c.loop-i.invariant in omega arith

pub overflow_add-i : goal.overflow_add-i
overflow_add-i c = let h = further_on c.args.places.now c.loop-i.i c.args.place c.requires c.loop-i.invariant in omega arith

pub loop-i-smaller : goal.loop-i-smaller
loop-i-smaller c = let h = further_on c.args.places.now c.loop-i.i c.args.place c.requires c.loop-i.invariant in omega arith

pub returns-clause-within : goal.returns-clause-within
returns-clause-within c = further_on c.args.places.now c.loop-i.i c.args.place c.requires c.loop-i.invariant

pub returns-clause-rest : goal.returns-clause-rest
returns-clause-rest c =
    let l = c.args.places.now in
    let h = further_on l c.loop-i.i c.args.place c.requires c.loop-i.invariant in
    ap (λ i. take c.loop-i.i l ++ drop i l) (let e : c.loop-i.i + 1 ≡ suc c.loop-i.i = omega arith in e)
    ∙ without_at l c.loop-i.i c.args.place h c.loop-i-test.false c.loop-i.invariant
