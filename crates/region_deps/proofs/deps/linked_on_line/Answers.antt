-- what holds of the regions by their segments holds of them on the line
use Rattle.region_deps.proofs.BoundLemmas.{linked_laid, sound_laid}
use Rattle.region_deps.proofs.ChainLemmas.{suffices}
use Rattle.region_deps.proofs.deps.linked_on_line.Goals as goal

pub returns-clause-linked : goal.returns-clause-linked
returns-clause-linked c = linked_laid c.args.regions.now c.in_ok-bounds.bounds.items c.deref.result.now c.in_ok-laid.laid.items c.deref-2.result.now
    c.in_ok-links.links.items
    c.in_ok-bounds.ensures c.deref.ensures.value c.in_ok-laid.ensures.laid c.deref-2.ensures.value c.in_ok-links.ensures.linked

pub returns-clause-full : goal.returns-clause-full
returns-clause-full c = suffices c.args.regions.now c.in_ok-links.links.items (returns-clause-linked c)

pub returns-clause-sound : goal.returns-clause-sound
returns-clause-sound c = sound_laid c.args.regions.now c.in_ok-bounds.bounds.items c.deref.result.now c.in_ok-laid.laid.items c.deref-2.result.now
    c.in_ok-links.links.items
    c.deref.ensures.value c.in_ok-laid.ensures.laid c.deref-2.ensures.value c.in_ok-links.ensures.sound
