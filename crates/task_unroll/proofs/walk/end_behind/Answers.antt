use Rattle.std.proofs.Common.{◌≡◌, ◌+◌, ◌<◌, length, ap, ◌∙◌, arith}
use Rattle.std.proofs.lemmas.Option.{slice_get_within}
use Rattle.task_unroll.specs.Ends.{may_jump, close_of}
use Rattle.task_unroll.proofs.EndLemmas.{end_within}
use Rattle.task_unroll.proofs.walk.end_behind.Goals as goal

-- the block that the table has an end for ends within the text
pub returns-clause-within : goal.returns-clause-within
returns-clause-within c = λ jump.
    let here = c.requires.here in
    let stands : c.args.place < length c.args.stmts.now = slice_get_within c.args.stmts.now c.args.place here.0 here.1 in
    let end : c.at.result ≡ close_of c.args.stmts.now (c.args.place + 1) =
    c.at.ensures ∙ c.requires.table.each c.args.place here.0 stands here.1 (ap may_jump here.2 ∙ jump) in
    omega (arith, end_within c.args.stmts.now (c.args.place + 1) (omega arith))
