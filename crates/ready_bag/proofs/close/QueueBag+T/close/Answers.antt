use Rattle.std.proofs.Common.{◌<◌, ◌-◌, ◌^◌, min, map, sym, ap, ◌∙◌, subst}
use Rattle.std.proofs.lemmas.List.Elements.{All-rest}
use Rattle.ready_bag.specs.Closing.{count_put, count_taken}
use Rattle.ready_bag.specs.Passes.{IsPassOfBag, account}
use Rattle.ready_bag.specs.Rule.{in_charge}
use Rattle.ready_bag.proofs.Together.{counts_all, closes}
use Rattle.ready_bag.proofs.close.QueueBag+T.close.Goals as goal

pub gather-all-requires-clause-rest : goal.gather-all-requires-clause-rest
gather-all-requires-clause-rest g c = All-rest (λ pass. IsPassOfBag pass c.args.self) _ _ _ (sym c.from_vec-rest.ensures.items
    ∙ c.in-Some.ensures.items) c.requires.passes

pub len_as-left-requires-clause-rule : goal.len_as-left-requires-clause-rule
len_as-left-requires-clause-rule g c =
    let passes = sym c.from_vec-rest.ensures.items ∙ c.in-Some.ensures.items in
    counts_all _ _ c.args.passes.items c.args.self (c.gather-all.ensures.accounts ∙ ap (λ l. in_charge (map account l)) (sym passes))
    (subst (λ n. 0 < n) (ap (λ b. b.workers) c.self.view_is) c.self.invariant.0) c.requires.all c.requires.passes

pub returns : goal.returns
returns g c =
    let passes = sym c.from_vec-rest.ensures.items ∙ c.in-Some.ensures.items in
    closes _ _ _ _ _ (c.gather-all.ensures.accounts ∙ ap (λ l. in_charge (map account l)) (sym passes))
    (c.gather-all.ensures.put ∙ ap (λ l. min (count_put (map account l)) (2 ^ 64 - 1)) (sym passes))
    (c.gather-all.ensures.taken ∙ ap (λ l. min (count_taken (map account l)) (2 ^ 64 - 1)) (sym passes)) c.requires.few c.len_as-left.ensures.rule.1
