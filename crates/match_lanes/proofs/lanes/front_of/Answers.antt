use Rattle.std.proofs.Common.{◌≡◌, get_or, ap, ◌∙◌, sym, arith}
use Rattle.match_lanes.specs.declared.lanes.Hook.{Hook}
use Rattle.match_lanes.proofs.Places.{any_default}
use Rattle.match_lanes.proofs.Walks.{moved, ahead, gone_at, next_at}
use Rattle.match_lanes.proofs.lanes.front_of.Goals as goal

pub loop-place-smaller : goal.loop-place-smaller
loop-place-smaller c =
    let hooks = c.args.hooks.now in
    let place = c.loop-place.place in
    let hook = c.index-hooks-place-in-loop-place-2 in
    let other = c.index-hooks-place-in-loop-place.result in
    let within = c.loop-place.invariant.0 in
    let to = ahead hooks place hook.result c.requires.linked within hook.is in
    let read : (get_or hooks place hook.result).next ≡ hook.result.next = ap (λ (h : Hook). h.next) (sym hook.is) in
    let same : (get_or hooks place other).next ≡ (get_or hooks place hook.result).next =
    ap (λ (h : Hook). h.next) (any_default hooks place other hook.result within) in
    omega (arith, to.0, to.1, c.if-hooks-place.true, read, same)

pub loop-place-preserved : goal.loop-place-preserved
loop-place-preserved c =
    let hooks = c.args.hooks.now in
    let place = c.loop-place.place in
    let hook = c.index-hooks-place-in-loop-place-2 in
    let first = c.index-hooks-place in
    let within = c.loop-place.invariant.0 in
    let to = ahead hooks place hook.result c.requires.linked within hook.is in
    let same : (get_or hooks place hook.result).next ≡ hook.result.next = ap (λ (h : Hook). h.next) (sym hook.is) in
    let gone = ap (λ (h : Hook). h.gone) first.is ∙ c.loop-place-test.true in (
      omega (arith, to.0, same),
      λ lane front. moved hooks lane place _ c.requires.linked (c.loop-place.invariant.1 lane front)
          (next_at hooks place hook.result within hook.is ∙ sym same)
          (gone_at hooks place first.result lane within first.is gone),
    )
