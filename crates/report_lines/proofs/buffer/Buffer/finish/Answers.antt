use Rattle.std.proofs.Common.{arith, rules}
use Rattle.std.proofs.lemmas.Grind.{common_steps}
use Rattle.report_lines.proofs.Handing.{ends_with}
use Rattle.report_lines.proofs.buffer.Buffer.finish.Goals as goal

pub returns : goal.returns
returns g c = ends_with _ _ _ _ c.args.self _ _ (search rules) (grind (arith, common_steps)) c.write.ensures.bytes c.write.ensures.cause
