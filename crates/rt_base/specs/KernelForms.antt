-- How many operands each kernel takes (this project's table of kernels).
use Rattle.std.specs.Prelude.{ℕ}
use Rattle.rt_base.specs.declared.data.Kernel.{Kernel}
use Rattle.rt_base.specs.declared.data.Kernel.TheVariants as kernel

-- how many sources a kernel takes, beside its destination
abbrev pub source_count : Kernel → ℕ
source_count kernel.Fill = 0
source_count kernel.Ramp = 0
source_count kernel.Copy = 1
source_count kernel.Add = 2
source_count kernel.Sub = 2
source_count kernel.Scale = 1
source_count kernel.Shift = 1
source_count kernel.Jacobi2 = 1
source_count kernel.Sum = 1
source_count kernel.Least = 1
source_count kernel.Greatest = 1

-- how many numbers a kernel takes, behind its spans
abbrev pub number_count : Kernel → ℕ
number_count kernel.Fill = 1
number_count kernel.Ramp = 2
number_count kernel.Copy = 0
number_count kernel.Add = 0
number_count kernel.Sub = 0
number_count kernel.Scale = 1
number_count kernel.Shift = 1
number_count kernel.Jacobi2 = 0
number_count kernel.Sum = 0
number_count kernel.Least = 0
number_count kernel.Greatest = 0
