use Rattle.wait_steps.proofs.Marking.{none_marked, have_marks_first, HaveMarks-all}
use Rattle.wait_steps.proofs.laws.marks_stay.Goals as goal

pub returns-clause-first : goal.returns-clause-first
returns-clause-first c = none_marked

pub returns-clause-all : goal.returns-clause-all
returns-clause-all c = have_marks_first

pub returns-clause-stay : goal.returns-clause-stay
returns-clause-stay c = HaveMarks-all
