use Rattle.std.proofs.Common.{sym, ◌∙◌}
use Rattle.std.proofs.lemmas.Result.{err_from_is_err_and}
use Rattle.task_parse.proofs.Cuts.{goes_on, refused, shorter}
use Rattle.task_parse.specs.Tokens.{tokens_of}
use Rattle.task_parse.proofs.token.tokens_of.Goals as goal

pub returns-in_err-token : goal.returns-in_err-token
returns-in_err-token c =
    let p = err_from_is_err_and c.from_residual.result c.from_residual.ensures.1 in
    rw (p.1, p.2) (refused c.in_err-token.field-0.0 (tokens_of c.args.line.now) c.loop-rest.tokens.items c.loop-rest.rest.now c.after_blanks-rest.result.now
    c.loop-rest.invariant c.after_blanks-rest.ensures.rest (sym c.is_over.ensures ∙ c.if-is_over.false) c.in_err-token.ensures)

pub loop-rest-smaller : goal.loop-rest-smaller
loop-rest-smaller c =
    shorter c.loop-rest.rest.now c.after_blanks-rest.result.now c.behind-rest.result.now c.in_ok-token.token c.in_ok-token.len c.in_ok-token.ensures
    c.after_blanks-rest.ensures.shorter c.behind-rest.ensures

pub loop-rest-preserved : goal.loop-rest-preserved
loop-rest-preserved c =
    rw (
      c.in_ok-push.ensures.items,
      c.behind-rest.ensures,
    ) (goes_on (tokens_of c.args.line.now) c.loop-rest.tokens.items c.loop-rest.rest.now c.after_blanks-rest.result.now
    c.in_ok-token.token c.in_ok-token.len c.loop-rest.invariant c.after_blanks-rest.ensures.rest (sym c.is_over.ensures
    ∙ c.if-is_over.false) c.in_ok-token.ensures)
