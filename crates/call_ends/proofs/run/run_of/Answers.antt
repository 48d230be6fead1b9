use Rattle.std.proofs.Common.{◌≡◌}
use Rattle.call_ends.specs.Ending.{verdict_of}
use Rattle.call_ends.proofs.EndLemmas.{run_as}
use Rattle.call_ends.proofs.run.run_of.Goals as goal

pub returns-clause-ran : goal.returns-clause-ran
returns-clause-ran c =
    let end = c.in_ok-end.end in
    let ran = c.in_ok-end.ensures in
    let is_verdict : c.verdict_of-verdict.result ≡ verdict_of end.phases.items = cc in
    run_as _ _ _ _ _ _ ran.legal ran.quiet ran.phases is_verdict
