-- The opening book keeps what it has to, and each poller has its pass.
use Rattle.std.proofs.Common.{ℕ, ◌+◌, ◌^◌, ◌<◌, List, length, slice_get, Some, ap, ◌∙◌, arith}
use Rattle.pass_table.specs.Passes.{PassIs, new_pass}
use Rattle.listed_book.proofs.Opening.{opened_kept, pollers_at_first, length-pollers}
use Rattle.listed_book.proofs.listed.ListedBook.build.Goals as goal

pub invariant_of-listed : goal.invariant_of-listed
invariant_of-listed c =
    let few : c.args.workers < 2 ^ 16 = omega (arith, c.ranges.workers) in
    let dealt = c.in_ok-table.ensures in
    opened_kept c.args.prog.now c.args.workers c.len.result c.in_ok-table.field-0.table c.in_ok-book.book c.in_ok-table.field-0.pen
    c.in_ok-table.field-0.lying.items c.requires.well_formed few c.len.ensures c.in_ok-book.ensures dealt.pen dealt.lying

pub returns-clause-pollers : goal.returns-clause-pollers
returns-clause-pollers c =
    let dealt = c.in_ok-table.field-0 in
    ap length c.in_ok-table.ensures.pollers ∙ length-pollers dealt.table c.len.result c.args.workers

pub returns-clause-passes : goal.returns-clause-passes
returns-clause-passes c w exists =
    let dealt = c.in_ok-table.field-0 in
    ap (λ (xs : List PassIs). slice_get xs w) c.in_ok-table.ensures.pollers ∙ pollers_at_first dealt.table c.len.result c.args.workers w exists
    ∙ ap (λ (n : ℕ). Some (new_pass dealt.table (n + w))) c.len.ensures
