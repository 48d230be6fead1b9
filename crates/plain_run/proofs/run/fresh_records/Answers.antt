-- One fresh record more.
use Rattle.std.proofs.Common.{◌∙◌, ◌+◌, ap, sym, subst, length, ◌∷◌, []}
use Rattle.std.proofs.lemmas.List.{length-append}
use Rattle.plain_run.specs.Turns.{AreFresh}
use Rattle.plain_run.proofs.Lines.{fresh_more}
use Rattle.plain_run.proofs.run.fresh_records.Goals as goal

pub loop-t-preserved : goal.loop-t-preserved
loop-t-preserved c =
    let held = c.in_ok-make.field-0 in
    let items = c.in_ok-push.ensures.items in (
      ap (λ z. length z) items ∙ length-append c.loop-t.recs.items (held ∷ []) ∙ ap (λ n. n + 1) c.loop-t.invariant.0,
      subst (AreFresh c.args.prog.now) (sym items)
          (fresh_more c.args.prog.now c.loop-t.recs.items held c.loop-t.t c.loop-t.invariant.1 c.loop-t.invariant.0 c.in_ok-make.ensures.program
          c.in_ok-make.ensures.task c.in_ok-make.ensures.phase),
    )
