-- A local operation whose spans are parts of the copy. No clause of a public call cites this module.
use Rattle.std.specs.Prelude.{◌≡◌, ℕ, ◌+◌, ◌≤◌, List, take, drop, ℤ}
use Rattle.rt_base.specs.declared.data.Kernel.TheVariants as kernel
use Rattle.task_local.specs.declared.compute.Placed.{Placed}
use Rattle.task_local.specs.declared.compute.Way.{Way}
use Rattle.task_local.specs.declared.compute.Way.TheVariants as way
use Rattle.task_local.specs.Regions.{spliced}
use Rattle.task_local.specs.Local.{kernel_value}
use Rattle.task_local.specs.Kept.{TakesCells, AreApart, AreSame, IsRoomFor}

-- the parts lie in a copy of so many cells, and the kernel takes so many from each
pub record FitPlaces (copy : ℕ) (placed : Placed) : Type 0 where
  pub dst : placed.dst.at + placed.dst.count ≤ copy
  pub left : placed.left.at + placed.left.count ≤ copy
  pub right : placed.right.at + placed.right.count ≤ copy
  pub takes : TakesCells placed.kernel placed.dst.count placed.left.count placed.right.count placed.value

-- the destination lies apart from both sources
abbrev pub IsApart : Placed → Type 0
IsApart placed =
    AreApart placed.dst.at placed.dst.count placed.left.at placed.left.count × AreApart placed.dst.at placed.dst.count placed.right.at placed.right.count

-- the destination is the left source, and lies apart from the right one
abbrev pub IsOverLeft : Placed → Type 0
IsOverLeft placed =
    AreSame placed.dst.at placed.dst.count placed.left.at placed.left.count × AreApart placed.dst.at placed.dst.count placed.right.at placed.right.count

-- the destination is the right source, and lies apart from the left one
abbrev pub IsOverRight : Placed → Type 0
IsOverRight placed =
    AreSame placed.dst.at placed.dst.count placed.right.at placed.right.count × AreApart placed.dst.at placed.dst.count placed.left.at placed.left.count

-- the destination is both sources
abbrev pub IsOverBoth : Placed → Type 0
IsOverBoth placed =
    AreSame placed.dst.at placed.dst.count placed.left.at placed.left.count × AreSame placed.dst.at placed.dst.count placed.right.at placed.right.count

-- the operation can reach its cells in this way
abbrev pub FitsWay : Placed → Way → Type 0
FitsWay placed way.Apart = IsApart placed
FitsWay placed way.Along = placed.kernel ≡ kernel.Copy
FitsWay placed way.OverLeft = IsOverLeft placed
FitsWay placed way.OverRight = IsOverRight placed
FitsWay placed way.OverBoth = IsOverBoth placed
FitsWay placed way.Scratch = ¬ IsApart placed

-- so many cells are scratch enough for the operation
abbrev pub HasScratch : ℕ → Placed → Type 0
HasScratch scratch placed =
    IsRoomFor scratch placed.dst.at placed.dst.count placed.left.at placed.left.count placed.right.at placed.right.count

-- the cells of a part of the copy
abbrev pub cells_at : ℕ → ℕ → List ℤ → List ℤ
cells_at at count copy = take count (drop at copy)

-- the copy after the operation: all sources are read before a cell is written
abbrev pub placed_value : Placed → List ℤ → List ℤ
placed_value placed copy =
    spliced placed.dst.at
    (kernel_value placed.kernel placed.dst.count (cells_at placed.left.at placed.left.count copy) (cells_at placed.right.at placed.right.count copy)
    placed.value placed.step)
    copy
