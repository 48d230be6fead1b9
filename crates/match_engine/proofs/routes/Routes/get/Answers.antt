use Rattle.std.proofs.Common.{List, IsSome, subst, sym, ap, ◌∙◌, arith}
use Rattle.match_engine.specs.declared.routes.Way.{Way}
use Rattle.match_engine.specs.Routes.{way_at}
use Rattle.match_engine.proofs.Cuts.{has_place, place_within, way_there}
use Rattle.match_engine.proofs.routes.Routes.get.Goals as goal

pub index-first-requires : goal.index-first-requires
index-first-requires c =
    let at = has_place c.self.inside.ways.items c.self.inside.firsts.items c.args.req.task.0 c.args.req.nth
    (subst (λ (ways : List (List Way)). IsSome (way_at ways c.args.req)) (sym c.self.view_is) c.requires) in
    omega (arith, at.begins, c.self.inside.firsts.ok.0)

pub index-requires : goal.index-requires
index-requires c =
    let at = has_place c.self.inside.ways.items c.self.inside.firsts.items c.args.req.task.0 c.args.req.nth
    (subst (λ (ways : List (List Way)). IsSome (way_at ways c.args.req)) (sym c.self.view_is) c.requires) in
    let inside = place_within c.self.inside.ways.items c.self.inside.firsts.items c.args.req.task.0 c.args.req.nth c.index-first.result.now at
    c.index-first.ensures in
    omega (arith, inside, c.self.inside.ways.ok.0)

pub returns : goal.returns
returns c =
    let at = has_place c.self.inside.ways.items c.self.inside.firsts.items c.args.req.task.0 c.args.req.nth
    (subst (λ (ways : List (List Way)). IsSome (way_at ways c.args.req)) (sym c.self.view_is) c.requires) in
    ap (λ (ways : List (List Way)). way_at ways c.args.req) (sym c.self.view_is)
    ∙ way_there c.self.inside.ways.items c.self.inside.firsts.items c.args.req.task.0 c.args.req.nth c.index-first.result.now c.index.result.now at
    c.index-first.ensures c.index.ensures
