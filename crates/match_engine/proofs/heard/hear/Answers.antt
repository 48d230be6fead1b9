use Rattle.std.proofs.lemmas.Result.{on_ok_weaker}
use Rattle.match_engine.proofs.Known.{heard_with, keeps_new}
use Rattle.match_engine.proofs.heard.hear.Goals as goal

pub returns-in-Some-clause-heard : goal.returns-in-Some-clause-heard
returns-in-Some-clause-heard c =
    on_ok_weaker c.add.result (λ is. heard_with c.args.rank _ _ c.args.call c.in-Some.selector c.in-Some.ensures is) c.add.ensures.ok

pub returns-in-Some-clause-kept : goal.returns-in-Some-clause-kept
returns-in-Some-clause-kept c = on_ok_weaker c.add.result (λ is. keeps_new _ _ c.in-Some.selector is) c.add.ensures.ok
