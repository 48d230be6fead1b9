use Rattle.std.proofs.Common.{◌∙◌}
use Rattle.call_words.proofs.ItemLemmas.{word_read}
use Rattle.call_words.proofs.items.items_of.Goals as goal

pub loop-word-preserved : goal.loop-word-preserved
loop-word-preserved c =
    rw c.in_ok-items.ensures
    (word_read _ _ _ _ _ _ _ c.word-item.result _ c.loop-word-test.true c.word-item.is c.as_bytes.ensures.value c.read_word.ensures
    ∙ c.loop-word.invariant)
