use Rattle.history_laws.proofs.Told.{told_at_most_once, opened_told_once}
use Rattle.history_laws.proofs.opened_are_told_once.Goals as goal

pub returns-clause-most : goal.returns-clause-most
returns-clause-most c = told_at_most_once

pub returns-clause-opened : goal.returns-clause-opened
returns-clause-opened c = opened_told_once
