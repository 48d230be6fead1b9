-- The limits of this project: how much of each counted quantity a program may have.
use Rattle.std.specs.Prelude.{ℕ}
use Rattle.rt_base.specs.declared.data.LimitName.{LimitName}
use Rattle.rt_base.specs.declared.data.LimitName.TheVariants as limit

-- the greatest count of each quantity (this project's)
abbrev pub most : LimitName → ℕ
most limit.Arrays = 1024
most limit.Comms = 256
most limit.Cells = 16777216
most limit.Tasks = 65536
most limit.Accesses = 4194304
most limit.AccessCells = 134217728
most limit.Operations = 1048576
most limit.Requests = 262144
most limit.Names = 1048576
most limit.MessageCells = 67108864
most limit.Steps = 16777216
most limit.Pieces = 16777216
