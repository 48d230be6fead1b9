use Rattle.std.proofs.Common.{Option, ℕ, position, ap, ◌∙◌}
use Rattle.match_lanes.specs.Hung.{is_lane, Hung}
use Rattle.match_lanes.specs.Waiting.{lower}
use Rattle.match_lanes.proofs.Finding.{lower_four}
use Rattle.match_lanes.proofs.wishes.first_of.Goals as goal

pub returns-clause-first : goal.returns-clause-first
returns-clause-first c =
    let doors = c.args.doors in
    let one = c.first-exact.ensures.unchanged in
    let two = c.first-any_source.ensures.unchanged ∙ one in
    let three = c.first-any_tag.ensures.unchanged ∙ two in
    c.lower-3.ensures
    ∙ ap (λ (o : Option ℕ). lower o c.lower-2.result) c.lower.ensures
    ∙ ap (λ (o : Option ℕ). lower (lower c.first-exact.result c.first-any_source.result) o) c.lower-2.ensures
    ∙ lower_four (is_lane doors.exact) (is_lane doors.any_source) (is_lane doors.any_tag) (is_lane doors.anything) c.args.lanes.now.lanes _ _ _ _
    c.first-exact.ensures.first
    (c.first-any_source.ensures.first ∙ ap (λ (h : Hung). position (is_lane doors.any_source) h.lanes) one)
    (c.first-any_tag.ensures.first ∙ ap (λ (h : Hung). position (is_lane doors.any_tag) h.lanes) two)
    (c.first-anything.ensures.first ∙ ap (λ (h : Hung). position (is_lane doors.anything) h.lanes) three)
