use Rattle.std.proofs.Common.{sym, ◌∙◌}
use Rattle.match_engine.proofs.Replies.{complete_for, none_for}
use Rattle.match_engine.proofs.engine.Engine.complete.Goals as goal

pub returns-in-Some : goal.returns-in-Some
returns-in-Some c =
    c.is_complete.ensures ∙ complete_for _ _ _ _ c.args.req c.in-Some.slot c.args.self.now c.self.invariant.0 c.self.view_is (sym c.in-Some.ensures)

pub returns-in-None : goal.returns-in-None
returns-in-None c = none_for _ _ _ _ c.args.req c.args.self.now c.self.invariant.0 c.self.view_is (sym c.in-None.ensures)
