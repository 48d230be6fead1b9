use Rattle.pass_table.proofs.FirstPasses.{each_has_its_pass}
use Rattle.pass_table.proofs.laws.each_caller_has_its_pass.Goals as goal

pub returns : goal.returns
returns c = each_has_its_pass
