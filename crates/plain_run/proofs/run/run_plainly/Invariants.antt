use Rattle.plain_run.specs.Turns.{IsRunning, turns_left}
use Rattle.plain_run.proofs.run.run_plainly.Given as goal

-- the records of all tasks are in line with the book
abbrev pub invariant-loop-again : goal.invariant-loop-again
invariant-loop-again l = IsRunning l.prog l.book l.recs.items

-- each turn but the last takes a notice or makes a move
abbrev pub decreases-loop-again : goal.decreases-loop-again
decreases-loop-again l = turns_left l.book
