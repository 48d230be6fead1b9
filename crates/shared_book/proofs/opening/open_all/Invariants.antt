use Rattle.std.proofs.Common.{◌≡◌, ◌≤◌, length, take}
use Rattle.std.specs.Prelude.{IsSome}
use Rattle.rt_base.specs.declared.data.ReqNo.{ReqNo}
use Rattle.shared_lists.specs.Deeds.{opened_seen}
use Rattle.shared_tasks.specs.Owing.{place_in, issuing_all, HasOpened}
use Rattle.shared_book.proofs.opening.open_all.Given as goal

-- the requests so far are issued, and their tickets lie there
abbrev pub invariant-loop-i : goal.invariant-loop-i
invariant-loop-i g l = record {
  holder : l.holder ≡ issuing_all l.fn.holder (take l.i (opened_seen l.book.program l.book.seen));
  opened : HasOpened l.fn.holder (take l.i (opened_seen l.book.program l.book.seen)) l.fn.tickets l.tickets;
  places : (req : ReqNo) → IsSome (place_in l.fn.tickets req) → IsSome (place_in l.tickets req);
  within : l.i ≤ length (opened_seen l.book.program l.book.seen);
}
