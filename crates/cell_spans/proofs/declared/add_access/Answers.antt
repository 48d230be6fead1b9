use Rattle.std.proofs.Common.{sym}
use Rattle.cell_spans.specs.Line.{is_in}
use Rattle.cell_spans.specs.Covering.{is_open}
use Rattle.cell_spans.proofs.CoveringLemmas.{no_place, no_open_place, no_interval, agrees_empty, agrees_after, open_if_written, open_if_read}
use Rattle.cell_spans.proofs.declared.add_access.Goals as goal

pub returns-in_default-clause-agrees : goal.returns-in_default-clause-agrees
returns-in_default-clause-agrees c =
    rw c.in_ok-push.ensures.items
    (agrees_empty _ _ _ _ c.requires.agrees c.in_default.ensures.small (no_interval c.args.access.span c.in_default.ensures.interval))

pub add-requires-clause-apart : goal.add-requires-clause-apart
add-requires-clause-apart c = no_place c.args.access.span _ _ _ _ c.in-Some.ensures.interval c.in-Some.ensures.small c.requires.agrees c.requires.apart

pub add-requires-then-is_written-clause-apart : goal.add-requires-then-is_written-clause-apart
add-requires-then-is_written-clause-apart c =
    no_open_place c.args.access.span _ _ _ _ c.in-Some.ensures.interval c.in-Some.ensures.small c.requires.agrees c.requires.apart

pub returns-in_ok-add-2-clause-agrees : goal.returns-in_ok-add-2-clause-agrees
returns-in_ok-add-2-clause-agrees c =
    rw c.in_ok-push.ensures.items (agrees_after _ _ _ _ _ _ _ c.in-Some.ensures.interval c.requires.agrees c.in-Some.ensures.small c.in_ok-add.ensures.added
    (open_if_written _ _ (λ spot. is_in spot c.in-Some.interval) (is_open c.args.accesses.now.items) (sym c.if-is_written.ensures)
    (c.in_ok-add-2.ensures.added _ c.requires.agrees.written)))

pub returns-else-is_written-clause-agrees : goal.returns-else-is_written-clause-agrees
returns-else-is_written-clause-agrees c =
    rw c.in_ok-push.ensures.items (agrees_after _ _ _ _ _ _ _ c.in-Some.ensures.interval c.requires.agrees c.in-Some.ensures.small c.in_ok-add.ensures.added
    (open_if_read _ _ (λ spot. is_in spot c.in-Some.interval) (is_open c.args.accesses.now.items) (sym c.if-is_written.ensures) c.requires.agrees.written))
