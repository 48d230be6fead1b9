use Rattle.block_kernels.proofs.Extremes.{least_is_one, greatest_is_one}
use Rattle.block_kernels.proofs.laws.extremes.Goals as goal

pub returns : goal.returns
returns c = record { least = least_is_one; greatest = greatest_is_one }
