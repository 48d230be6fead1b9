use Rattle.tidy_runs.proofs.OpenedOnce.{opened_own, opened_once, opened_new, owed_opened}
use Rattle.tidy_runs.proofs.laws.nothing_is_opened_twice.Goals as goal

pub returns-clause-own : goal.returns-clause-own
returns-clause-own c = opened_own

pub returns-clause-once : goal.returns-clause-once
returns-clause-once c = opened_once

pub returns-clause-new : goal.returns-clause-new
returns-clause-new c = opened_new

pub returns-clause-owed : goal.returns-clause-owed
returns-clause-owed c = owed_opened
