use Rattle.std.proofs.Common.{◌≡◌, ◌+◌, ◌-◌, List, ℕ, suc, length, take, drop, ◌++◌, ap, sym, ◌∙◌, subst}
use Rattle.meet_hall.specs.Places.{ListsAre, without}
use Rattle.meet_hall.proofs.PlaceLemmas.{without_behind}
use Rattle.meet_hall.proofs.lists.Lists.take.Goals as goal

pub returns-else-at-eq0 : goal.returns-else-at-eq0
returns-else-at-eq0 c =
    let l = c.self.inside.last.items in
    let t = c.self.inside.taken in
    let a = c.index_of-at.result in
    let p = c.args.place in
    let rest = subst (λ m. take a (take (length m - t) (drop t m)) ++ drop (a + 1) (take (length m - t) (drop t m)) ≡ without p
    (take (length m - t) (drop t m)))
    c.deref.ensures.value c.index_of-at.ensures.rest in
    let left = ap (λ m. drop t m) c.remove.ensures.items ∙ without_behind l t a p rest ∙ ap (λ (v : ListsAre). without p v.left) c.self.view_is in
    λ i. record { issued = (c.self.view_is i).issued; left = left i; places = (c.self.view_is i).places }
