use Rattle.std.proofs.Common.{◌+◌, ◌++◌, [], ◌∷◌, List, Bool, length, get_or, drop, sym, ap, ◌∙◌, subst, append_assoc, length-append, arith}
use Rattle.rt_base.specs.declared.data.ReqNo.{ReqNo}
use Rattle.rt_base.specs.declared.data.Handle.TheVariants as handle
use Rattle.rt_base.specs.Operations.{named_requests}
use Rattle.task_machine.specs.Machine.{open_ones}
use Rattle.wait_steps.specs.MarkedRows.{marked_all, HaveMarks}
use Rattle.wait_steps.proofs.Handles.{open_ones_here, counted_at_end}
use Rattle.wait_steps.proofs.Marking.{marked_all_parts, known_next}
use Rattle.wait_steps.proofs.marks.bind_all.Goals as goal

pub loop-handle-preserved : goal.loop-handle-preserved
loop-handle-preserved c =
    let p = c.args.engine.now.program in
    let x = c.args.engine.now.exchange in
    let t = c.args.task.0 in
    let handles = c.args.handles.now in
    let i = c.loop-handle.handle-index in
    let within = c.loop-handle-test.true in
    let before = c.loop-handle.invariant in
    let gave = c.bind_one-count.ensures in
    let marks = c.loop-handle.marks in
    let first = open_ones p x (named_requests t (get_or handles i handle.Null ∷ [])) in
    let rest = open_ones p x (named_requests t (drop (i + 1) handles)) in
    let here = open_ones_here p x t handles i within in
    let counts = ap (λ (reqs : List ReqNo). length reqs) here ∙ length-append first rest in
    let longer = ap (λ (reqs : List ReqNo). length reqs) gave.items ∙ length-append c.loop-handle.opened.items first in
    record {
      marks = ap (λ (all : List (List Bool)). marked_all all rest) gave.marks ∙ sym (marked_all_parts marks first rest)
          ∙ ap (marked_all marks) (sym here) ∙ before.marks;
      known = subst (λ (all : List (List Bool)). HaveMarks all (named_requests t (drop (i + 1) handles))) (sym gave.marks)
          (known_next p x t marks handles i within before.known);
      whole = ap (λ (reqs : List ReqNo). reqs ++ rest) gave.items ∙ append_assoc c.loop-handle.opened.items first rest
          ∙ ap (λ (reqs : List ReqNo). c.loop-handle.opened.items ++ reqs) (sym here) ∙ before.whole;
      room = omega (arith, longer, gave.count, gave.few, before.room);
      places = omega (arith, gave.places, before.places);
      count = omega (arith, counts, gave.count, before.count);
      few = omega (arith, gave.few, before.few);
    }

pub returns-clause-count : goal.returns-clause-count
returns-clause-count c =
    counted_at_end c.args.engine.now.program c.args.engine.now.exchange c.args.task.0 c.args.handles.now c.loop-handle.handle-index c.loop-handle.count
    c.loop-handle-test.false c.loop-handle.invariant.count
