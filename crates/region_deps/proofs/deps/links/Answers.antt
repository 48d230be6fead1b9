-- the links of the accesses, and those of the taskwaits beside them
use Rattle.std.proofs.Common.{length, ap, ◌∙◌, arith}
use Rattle.region_deps.proofs.Beginnings.{linked_up}
use Rattle.region_deps.proofs.Precedence.{region_count_is}
use Rattle.region_deps.proofs.deps.links.Goals as goal

pub linked_on_line-requires : goal.linked_on_line-requires
linked_on_line-requires c =
    let are = ap length (c.deref.ensures.value ∙ c.in_ok-regions.ensures.regions) in
    omega (arith, are, region_count_is c.args.tasks.now 0, c.requires.orderly.few)

pub add_barriers-requires-clause-numbered : goal.add_barriers-requires-clause-numbered
add_barriers-requires-clause-numbered c = omega (arith, c.requires.accesses, region_count_is c.args.tasks.now 0, c.requires.orderly.few)

pub returns-clause-links : goal.returns-clause-links
returns-clause-links c =
    linked_up c.args.tasks.now c.in_ok-links.links.items c.add_barriers.new.links.items c.args.heads.now c.in_ok-regions.regions.items c.deref.result.now
    c.args.accesses
    c.requires.grouped c.requires.accesses c.in_ok-regions.ensures.regions c.deref.ensures.value c.in_ok-links.ensures.full c.in_ok-links.ensures.sound
    c.in_ok-add_barriers.ensures
