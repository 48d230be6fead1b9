use Rattle.std.proofs.Common.{◌≡◌, length, drop, ap, ◌∙◌, arith}
use Rattle.std.proofs.Math.Seq.{drop-length}
use Rattle.std.specs.List.{flat_map}
use Rattle.report_lines.specs.Report.{shown_line}
use Rattle.report_lines.proofs.Putting.{puts_same, far_more, far_all, texts_at}
use Rattle.report_lines.proofs.report.put_rank.Goals as goal

pub loop-array-preserved : goal.loop-array-preserved
loop-array-preserved g c =
    far_more c.loop-array.invariant c.put_shown.ensures _
    (texts_at (shown_line c.args.program.now c.args.memory.now c.args.rank) c.as_slice-array-items.result.now c.loop-array.array-index 0 (omega arith))

pub returns : goal.returns
returns g c =
    let whole = far_all c.loop-array.invariant
    (let e : c.loop-array.array-index ≡ length c.as_slice-array-items.result.now = omega arith in
    ap (λ at. flat_map (shown_line c.args.program.now c.args.memory.now c.args.rank) (drop at c.as_slice-array-items.result.now)) e
    ∙ ap (flat_map (shown_line c.args.program.now c.args.memory.now c.args.rank)) (drop-length c.as_slice-array-items.result.now)) in
    puts_same whole _ (ap (flat_map (shown_line c.args.program.now c.args.memory.now c.args.rank)) c.as_slice-array-items.ensures)
