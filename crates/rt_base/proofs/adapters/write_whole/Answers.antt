use Rattle.rt_base.proofs.WriteLemmas.{sent_more, sent_kept, sent_front}
use Rattle.rt_base.proofs.adapters.write_whole.Goals as goal

pub loop-left-preserved : goal.loop-left-preserved
loop-left-preserved g c = rw c.after-left.ensures (sent_more _ _ _ _ _ c.in-Ok.count c.loop-left.invariant c.in-Ok.ensures.bytes)

-- taking nothing is appending nothing
pub returns-in-Ok-eq0 : goal.returns-in-Ok-eq0
returns-in-Ok-eq0 g c = sent_front _ _ _ _ (sent_more _ _ _ _ _ c.in-Ok-eq0.field-0 c.loop-left.invariant c.in-Ok-eq0.ensures.bytes)

pub returns-in-Err : goal.returns-in-Err
returns-in-Err g c = sent_front _ _ _ _ (sent_kept _ _ _ _ _ c.loop-left.invariant c.in-Err.ensures.bytes)
