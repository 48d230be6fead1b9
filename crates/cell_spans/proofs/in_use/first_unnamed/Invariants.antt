use Rattle.std.proofs.Common.{◌≡◌, drop}
use Rattle.cell_spans.specs.Requests.{unnamed}
use Rattle.cell_spans.proofs.in_use.first_unnamed.Given as goal

-- nothing so far is left
abbrev pub invariant-loop-n : goal.invariant-loop-n
invariant-loop-n l = unnamed 0 l.requests ≡ unnamed l.n (drop l.n l.requests)
