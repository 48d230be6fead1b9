use Rattle.std.proofs.Common.{rules, ◌≡◌, ◌<◌, ◌^◌, pos, ◌∷◌, length, refl, subst, ℕ}
use Rattle.std.specs.List.{flat_map}
use Rattle.report_lines.specs.Lines.{numbers_text, status_numbers}
use Rattle.trace_lines.proofs.Groups.{ends_text}
use Rattle.trace_lines.proofs.Entries.{leave_line, same_leave}
use Rattle.trace_lines.proofs.told.leave_of.Goals as goal

pub returns-in_default-take_count-clause-only : goal.returns-in_default-take_count-clause-only
returns-in_default-take_count-clause-only c = λ told is.
    let p = leave_line c.args.numbers.now c.args.before told.step told.statuses is.spelled is.names is.fits in
    let one = c.in-Some.ensures.only p.0.0 (numbers_text (pos p.1 ∷ flat_map status_numbers told.statuses)) p.6.0 refl p.7 in
    absurd (c.in_default-take_count.ensures.only p.1 (numbers_text (flat_map status_numbers told.statuses)) p.6.1 (ends_text told.statuses) one.1)

pub returns-in_default-2-clause-only : goal.returns-in_default-2-clause-only
returns-in_default-2-clause-only c = λ told is.
    let p = leave_line c.args.numbers.now c.args.before told.step told.statuses is.spelled is.names is.fits in
    let one = c.in-Some.ensures.only p.0.0 (numbers_text (pos p.1 ∷ flat_map status_numbers told.statuses)) p.6.0 refl p.7 in
    let two = c.in-Some-take_count.ensures.only p.1 (numbers_text (flat_map status_numbers told.statuses)) p.6.1 (ends_text told.statuses) one.1 in
    let few : length told.statuses < 2 ^ 32 = subst (λ (n : ℕ). n < 2 ^ 32) p.5.1 p.6.3 in
    let three = c.in_ok-count.ensures.only told.statuses is.statuses_fit few two.1 in
    search (rules, three)

pub returns-clause-only : goal.returns-clause-only
returns-clause-only c = λ told is.
    let p = leave_line c.args.numbers.now c.args.before told.step told.statuses is.spelled is.names is.fits in
    let one = c.in-Some.ensures.only p.0.0 (numbers_text (pos p.1 ∷ flat_map status_numbers told.statuses)) p.6.0 refl p.7 in
    let two = c.in-Some-take_count.ensures.only p.1 (numbers_text (flat_map status_numbers told.statuses)) p.6.1 (ends_text told.statuses) one.1 in
    let few : length told.statuses < 2 ^ 32 = subst (λ (n : ℕ). n < 2 ^ 32) p.5.1 p.6.3 in
    let three = c.in_ok-count.ensures.only told.statuses is.statuses_fit few two.1 in
    let items : c.in-Some-2.statuses.items ≡ told.statuses = search (rules, three) in
    let counted : c.in-Some-2.count ≡ length c.in-Some-2.statuses.items = search (rules, c.in_ok-count.ensures.count) in
    same_leave c.args.before c.in-Some.task c.in-Some-take_count.op c.in-Some-2.count c.in-Some-2.statuses.items told p.0 p.1 p.2 p.3 p.4
    one.0 two.0 p.5.0 p.5.1 counted items
