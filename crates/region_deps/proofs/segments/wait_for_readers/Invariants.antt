-- the links to the readers so far are made
use Rattle.std.specs.Prelude.{◌≡◌, ◌++◌, map, take}
use Rattle.region_deps.specs.Links.{link}
use Rattle.region_deps.proofs.segments.wait_for_readers.Given as goal

abbrev pub invariant-loop-source : goal.invariant-loop-source
invariant-loop-source l = l.links.items ≡ l.initial.links.items ++ map (λ source. link source l.task) (take l.source-index l.readers)
