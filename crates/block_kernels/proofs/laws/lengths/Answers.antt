use Rattle.block_kernels.proofs.Lengths.{length-filled, length-ramped, length-copied, length-added, length-subtracted, length-scaled, length-shifted}
use Rattle.block_kernels.proofs.Lengths.{length-jacobi}
use Rattle.block_kernels.proofs.laws.lengths.Goals as goal

pub returns : goal.returns
returns c = record {
  of_fill = length-filled;
  of_ramp = length-ramped;
  of_copy = length-copied;
  of_add = length-added;
  of_sub = length-subtracted;
  of_scale = length-scaled;
  of_shift = length-shifted;
  of_jacobi2 = length-jacobi;
}
