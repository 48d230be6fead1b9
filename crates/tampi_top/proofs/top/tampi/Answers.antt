use Rattle.std.proofs.Common.{refl}
use Rattle.call_ends.specs.declared.ending.Ending.TheVariants as ending
use Rattle.call_ends.specs.Ending.{refusal_text}
use Rattle.call_ends.specs.Runs.{report_text}
use Rattle.tampi_top.proofs.top.tampi.Goals as goal

pub returns-in-Ran-clause-told : goal.returns-in-Ran-clause-told
returns-in-Ran-clause-told g c = λ whole has_memory.
    let written = c.told.ensures.written whole in
    let run = c.in-Ran.ran in
    (ending.Ran run.verdict, report_text run, written.0, rw c.told.ensures.history c.in-Ran.ensures.1, written.1)

pub returns-in-Ran-clause-broken : goal.returns-in-Ran-clause-broken
returns-in-Ran-clause-broken g c = λ fails.
    let broken = c.told.ensures.broken fails in
    let run = c.in-Ran.ran in
    (ending.Ran run.verdict, report_text run, broken.0, rw c.told.ensures.history c.in-Ran.ensures.1, broken.1)

pub returns-in-Refused-clause-told : goal.returns-in-Refused-clause-told
returns-in-Refused-clause-told g c = λ whole has_memory.
    let written = c.refuse.ensures.written whole has_memory in
    let why = c.in-Refused.refusal in
    (ending.Refused why, refusal_text why, written.0, (c.in-Refused.ensures, refl, c.refuse.ensures.entries, c.refuse.ensures.statuses), written.1)

pub returns-in-Refused-clause-broken : goal.returns-in-Refused-clause-broken
returns-in-Refused-clause-broken g c = λ fails.
    let broken = c.refuse.ensures.broken fails in
    let why = c.in-Refused.refusal in
    (ending.Refused why, refusal_text why, broken.0, (c.in-Refused.ensures, refl, c.refuse.ensures.entries, c.refuse.ensures.statuses), broken.1)
