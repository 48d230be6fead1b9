use Rattle.pass_table.proofs.Fronts.{of_one_list}
use Rattle.pass_table.proofs.laws.fronts_are_of_one_list.Goals as goal

pub returns : goal.returns
returns c = of_one_list
