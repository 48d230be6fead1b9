use Rattle.std.proofs.Common.{◌≡◌, ◌≤◌, [], length, map}
use Rattle.std.specs.Vec.{vec_len, vec_capacity}
use Rattle.meet_hall.specs.declared.view.View.TheVariants.{Builds}
use Rattle.meet_hall.specs.Holders.{desk, first_desks}
use Rattle.meet_hall.specs.Plan.{start_of}
use Rattle.meet_hall.proofs.build.first_holders.Given as goal

abbrev pub ghosts-next_holder : goal.ghosts-next_holder
ghosts-next_holder g a = record { hall = a.shared.now.table_id; start = a.base; size = a.places }

-- the holders of the meetings so far; the seat builds the next one, whose slots begin here
abbrev pub invariant-loop-m : goal.invariant-loop-m
invariant-loop-m g l = record {
  seat : (l.seat.table_id ≡ l.shared.table_id) × (l.seat.me ≡ (Builds l.m, []));
  made : map desk l.holders.items ≡ first_desks l.shared.table_id l.places l.m;
  start : l.start ≡ start_of l.places l.m;
  room : (vec_len l.holders ≡ l.m) × (length l.places ≤ vec_capacity l.holders);
}
