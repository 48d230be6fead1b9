use Rattle.std.proofs.Common.{◌≡◌, ℕ, List, Some, length, sym, ap, ◌∙◌, arith}
use Rattle.rt_base.specs.declared.data.Peer.{Peer}
use Rattle.rt_base.specs.declared.data.TagSel.{TagSel}
use Rattle.match_lanes.specs.declared.selector.Selector.{Selector}
use Rattle.match_lanes.specs.Selectors.{doors_by, lane_in, selector_by, selector_of}
use Rattle.match_lanes.proofs.Selecting.{its_lane}
use Rattle.match_lanes.proofs.tests.post_to_lanes.Goals as goal

pub send-requires-clause-doors : goal.send-requires-clause-doors
send-requires-clause-doors c =
    let keys = c.args.keys.now in
    c.doors_of-doors.ensures
    ∙ ap (λ (k : List Selector). doors_by k c.in-Sent.comm c.in-Sent.source c.in-Sent.tag) (sym c.requires.keys)
    ∙ ap (λ (n : ℕ). doors_by c.args.queues.now.keys n c.in-Sent.source c.in-Sent.tag) (sym c.message.ensures.comm)
    ∙ ap (λ (n : ℕ). doors_by c.args.queues.now.keys c.message.result.comm n c.in-Sent.tag) (sym c.message.ensures.source)
    ∙ ap (λ (n : ℕ). doors_by c.args.queues.now.keys c.message.result.comm c.message.result.source n) (sym c.message.ensures.tag)

pub receive-requires-clause-lane : goal.receive-requires-clause-lane
receive-requires-clause-lane c =
    let wish = c.wish.result in
    let asked = c.in-Asked in
    let selector : selector_of wish ≡ Some c.in_ok-selector-in-Asked.selector =
    ap (λ (n : ℕ). selector_by n wish.source wish.tag) c.wish.ensures.comm
    ∙ ap (λ (p : Peer). selector_by asked.comm p wish.tag) c.wish.ensures.source
    ∙ ap (λ (t : TagSel). selector_by asked.comm asked.source t) c.wish.ensures.tag
    ∙ sym c.of.ensures ∙ c.in_ok-selector-in-Asked.was in
    its_lane c.args.queues.now.keys wish c.in_ok-selector-in-Asked.selector c.lane_of-lane.result selector
    (c.lane_of-lane.ensures ∙ ap (λ (k : List Selector). lane_in k c.in_ok-selector-in-Asked.selector) (sym c.requires.keys))
    (omega (arith, c.if-lane-count.false, c.count.ensures.count, ap (λ (k : List Selector). length k) c.requires.keys))
