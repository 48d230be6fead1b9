-- the regions of the accesses so far are added
use Rattle.std.specs.Prelude.{◌≡◌, ◌++◌, All, map, take}
use Rattle.region_deps.specs.Lines.{region_of, IsSmall}
use Rattle.region_deps.proofs.regions.add.Given as goal

abbrev pub invariant-loop-access : goal.invariant-loop-access
invariant-loop-access l = record {
  added : l.regions.items ≡ l.initial.regions.items ++ map (region_of l.task l.rank) (take l.access-index l.accesses);
  small : All IsSmall (take l.access-index l.accesses);
}
