use Rattle.std.proofs.Common.{◌∙◌}
use Rattle.std.proofs.lemmas.Result.{err_from_is_err_and}
use Rattle.task_parse.proofs.Outcomes.{tree_found, tree_no_fault, refused_tree, refused_fault}
use Rattle.task_parse.proofs.text.parse.Goals as goal

pub returns-in_err-stmts-clause-only_tree : goal.returns-in_err-stmts-clause-only_tree
returns-in_err-stmts-clause-only_tree c stmts tree =
    let p = err_from_is_err_and c.from_residual.result c.from_residual.ensures.1 in
    rw (p.1, p.2) (refused_tree c.args.text.now c.in_err-stmts.field-0.0 c.in_err-stmts.ensures stmts tree)

pub returns-in_err-stmts-clause-only_fault : goal.returns-in_err-stmts-clause-only_fault
returns-in_err-stmts-clause-only_fault c number kind fault =
    let p = err_from_is_err_and c.from_residual.result c.from_residual.ensures.1 in
    rw (p.1, p.2) (refused_fault c.args.text.now c.in_err-stmts.field-0.0 c.in_err-stmts.ensures number kind fault)

pub returns-clause-only_tree : goal.returns-clause-only_tree
returns-clause-only_tree c stmts tree = c.from_vec.ensures.items ∙ tree_found c.args.text.now c.in_ok-stmts.stmts.items stmts c.in_ok-stmts.ensures tree

pub returns-clause-only_fault : goal.returns-clause-only_fault
returns-clause-only_fault c number kind fault = tree_no_fault c.args.text.now c.in_ok-stmts.stmts.items number kind c.in_ok-stmts.ensures fault
