use Rattle.std.proofs.Common.{◌∙◌, ◌-◌, arith}
use Rattle.std.proofs.lemmas.Bool.Decides.{nat_tests}
use Rattle.task_expand.proofs.RankChain.{up_to_first, first_refused, goes_on, stops, at_end}
use Rattle.task_expand.proofs.ranks.Ranks.all.Goals as goal

pub loop-rank-init : goal.loop-rank-init
loop-rank-init c = (
  omega arith,
  c.requires.some_rank,
  (λ whole is. up_to_first whole c.args.size ∙ c.in-Ok.ensures.first whole is),
  omega (arith, c.in-Ok.ensures.cells),
)

pub loop-rank-preserved : goal.loop-rank-preserved
loop-rank-preserved c =
    let inside = c.loop-rank.invariant in (
      omega arith,
      (let below = c.loop-rank-test.true in grind (arith, nat_tests)),
      (λ whole is.
          goes_on whole c.args.size c.loop-rank.rank c.loop-rank.ranks c.add.new.self inside.0 (inside.2 whole is)
          (λ next. c.in-Ok-add.ensures.next whole is next)),
      (let before = inside.3 in let more = c.in-Ok-add.ensures.cells in omega (arith, before, more)),
    )

pub returns-after-loop-rank-clause-all : goal.returns-after-loop-rank-clause-all
returns-after-loop-rank-clause-all c = λ whole is.
    let inside = c.loop-rank.invariant in
    at_end whole c.args.size c.loop-rank.rank c.loop-rank.ranks inside.1 (let over = c.loop-rank-test.false in grind (arith, nat_tests)) (inside.2 whole is)

pub returns-in-Err-clause-all : goal.returns-in-Err-clause-all
returns-in-Err-clause-all c = λ whole is. first_refused whole c.args.size (c.args.size - 1) c.in-Err.refusal (c.in-Err.ensures.first whole is)

pub returns-in-Err-add-clause-all : goal.returns-in-Err-add-clause-all
returns-in-Err-add-clause-all c = λ whole is.
    let inside = c.loop-rank.invariant in
    stops whole c.args.size c.loop-rank.rank c.loop-rank.ranks c.in-Err-add.refusal inside.0 (let below = c.loop-rank-test.true in
    grind (arith, nat_tests)) (inside.2 whole is)
    (λ next. c.in-Err-add.ensures.next whole is next)

pub returns-after-loop-rank-clause-cells : goal.returns-after-loop-rank-clause-cells
returns-after-loop-rank-clause-cells c =
    let inside = c.loop-rank.invariant in
    let low = inside.1 in
    let cells = inside.3 in
    omega (arith, low, cells)
