use Rattle.std.proofs.Common.{◌≡◌, ◌∙◌, ◌<◌, count_by, length, slice_index_or, nat_eq, arith}
use Rattle.std.proofs.lemmas.Grind.{get_or_default_zero}
use Rattle.cell_spans.proofs.CountLemmas.{ascends_removed, stands_first}
use Rattle.cell_spans.proofs.sorted.Sorted.remove.Goals as goal
use Rattle.cell_spans.proofs.sorted.Sorted.remove.Goals.{else-place-len-via-then-place-len+else-index-number, else-place-len-via-else-place-len}

pub invariant_of-self : goal.invariant_of-self
invariant_of-self c =
    let inside : c.count_below-place.result < length c.self.inside.numbers.items = rw (← c.deref.ensures.value) (omega (
      arith,
      c.deref.ensures.len,
      c.len.ensures,
      c.if-place-len.true,
    ))
    in rw c.remove-taken.ensures.items (ascends_removed _ _ inside c.self.invariant)

-- a number that is there is found
found : (c : goal.Joined-else-place-len) → 0 < count_by (nat_eq c.args.number) c.args.self.now
    → (c.count_below-place.result < length c.self.inside.numbers.items)
    × (slice_index_or c.self.inside.numbers.items c.count_below-place.result 0 ≡ c.args.number)
found c some =
    stands_first c.args.number _ _ c.self.invariant (rw c.deref.ensures.value at c.count_below-place.ensures.before)
    (rw c.deref.ensures.value at c.count_below-place.ensures.after)
    (rw c.self.view_is some)

pub returns-else-place-len : goal.returns-else-place-len
returns-else-place-len c some = elim c.else-place-len.branch [
  | else-place-len-via-then-place-len+else-index-number w ↦
      absurd (w.if-index-number.false (w.index.ensures ∙ get_or_default_zero c.self.inside.numbers.items c.count_below-place.result _ (found c some).0
      ∙ (found c some).1))
  | else-place-len-via-else-place-len w ↦
      let inside : c.count_below-place.result < length c.deref.result.now = rw c.deref.ensures.value (found c some).0
      in absurd (omega (arith, inside, c.deref.ensures.len, c.len.ensures, w.if-place-len.false))
]
