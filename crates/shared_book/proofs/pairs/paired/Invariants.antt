use Rattle.std.proofs.Common.{◌≡◌, ◌≤◌, vec_capacity}
use Rattle.shared_book.specs.Computed.{pairs_in, odd_in}
use Rattle.shared_book.proofs.pairs.paired.Given as goal

-- the holders so far, two by two, and the one that is left of them
abbrev pub invariant-loop-holder : goal.invariant-loop-holder
invariant-loop-holder l = record {
  pairs : l.pairs.items ≡ pairs_in l.yielded;
  odd : l.before ≡ odd_in l.yielded;
  room : vec_capacity l.fn.room ≤ vec_capacity l.pairs;
}
