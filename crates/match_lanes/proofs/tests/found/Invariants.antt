use Rattle.std.proofs.Common.{◌≡◌, ◌+◌, ◌≤◌, length}
use Rattle.match_lanes.proofs.tests.found.Given as goal

-- the selectors stay, and there is room for the postings to come
abbrev pub invariant-loop-post : goal.invariant-loop-post
invariant-loop-post l = (l.queues.keys ≡ l.keys) × (length l.posts ≤ l.queues.message_room + l.post-index)
    × (length l.posts ≤ l.queues.receive_room + l.post-index)
