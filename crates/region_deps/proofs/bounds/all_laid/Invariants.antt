-- the regions so far are laid
use Rattle.std.specs.Prelude.{◌≡◌, ◌≤◌, All, length, map, take}
use Rattle.region_deps.specs.declared.segments.Region.{Region}
use Rattle.region_deps.specs.Lines.{laid}
use Rattle.region_deps.proofs.bounds.all_laid.Given as goal

abbrev pub invariant-loop-region : goal.invariant-loop-region
invariant-loop-region l = record {
  laid : l.all.items ≡ map (laid l.bounds) (take l.region-index l.regions);
  within : All (λ (r : Region). r.to ≤ length l.bounds) l.all.items;
}
