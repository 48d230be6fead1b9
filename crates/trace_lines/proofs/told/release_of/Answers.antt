use Rattle.std.proofs.Common.{rules, ◌≡◌, ◌<◌, ◌^◌, length, subst, ℕ}
use Rattle.std.specs.List.{flat_map}
use Rattle.report_lines.specs.Lines.{numbers_text, status_numbers}
use Rattle.trace_lines.proofs.Groups.{ends_text}
use Rattle.trace_lines.proofs.Entries.{release_line, same_release}
use Rattle.trace_lines.proofs.told.release_of.Goals as goal

pub returns-in_default-clause-only : goal.returns-in_default-clause-only
returns-in_default-clause-only c = λ told is.
    let p = release_line c.args.numbers.now c.args.before told.step told.statuses is.spelled is.names is.fits in
    absurd (c.in_default.ensures.only p.0.0 (numbers_text (flat_map status_numbers told.statuses)) p.5.0 (ends_text told.statuses) p.6)

pub returns-in_default-2-clause-only : goal.returns-in_default-2-clause-only
returns-in_default-2-clause-only c = λ told is.
    let p = release_line c.args.numbers.now c.args.before told.step told.statuses is.spelled is.names is.fits in
    let one = c.in-Some.ensures.only p.0.0 (numbers_text (flat_map status_numbers told.statuses)) p.5.0 (ends_text told.statuses) p.6 in
    let few : length told.statuses < 2 ^ 32 = subst (λ (n : ℕ). n < 2 ^ 32) p.4.1 p.5.2 in
    let two = c.in_ok-count.ensures.only told.statuses is.statuses_fit few one.1 in
    search (rules, two)

pub returns-clause-only : goal.returns-clause-only
returns-clause-only c = λ told is.
    let p = release_line c.args.numbers.now c.args.before told.step told.statuses is.spelled is.names is.fits in
    let one = c.in-Some.ensures.only p.0.0 (numbers_text (flat_map status_numbers told.statuses)) p.5.0 (ends_text told.statuses) p.6 in
    let few : length told.statuses < 2 ^ 32 = subst (λ (n : ℕ). n < 2 ^ 32) p.4.1 p.5.2 in
    let two = c.in_ok-count.ensures.only told.statuses is.statuses_fit few one.1 in
    let items : c.in-Some-2.statuses.items ≡ told.statuses = search (rules, two) in
    let counted : c.in-Some-2.count ≡ length c.in-Some-2.statuses.items = search (rules, c.in_ok-count.ensures.count) in
    same_release c.args.before c.in-Some.task c.in-Some-2.count c.in-Some-2.statuses.items told p.0 p.1 p.2 p.3
    one.0 p.4.0 p.4.1 counted items
