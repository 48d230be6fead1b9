use Rattle.std.proofs.Common.{◌≡◌, ◌+◌, ◌++◌, ◌∷◌, suc, [], map, slice_index, get_or, sym, ap, ◌∙◌, arith}
use Rattle.std.proofs.lemmas.List.{map-append}
use Rattle.meet_hall.specs.Holders.{desk, first_desks}
use Rattle.meet_hall.specs.Plan.{start_of}
use Rattle.meet_hall.specs.Views.{first_desk}
use Rattle.meet_hall.proofs.PlanLemmas.{start_more, start_zero, start_most}
use Rattle.meet_hall.proofs.build.first_holders.Goals as goal

pub loop-m-init : goal.loop-m-init
loop-m-init g c = record {
  seat = c.requires.seat;
  made = ap (λ l. map desk l) c.in_ok-holders.ensures.items;
  start = sym (start_zero c.args.places.now);
  room = (c.in_ok-holders.ensures.len, c.in_ok-holders.ensures.capacity);
}

pub next_holder-requires-clause-lies : goal.next_holder-requires-clause-lies
next_holder-requires-clause-lies g c =
    let m = c.loop-m.m in
    let keys = c.requires.plan.0 in
    let start = c.loop-m.invariant.start in
    let most = start_most c.args.places.now m c.requires.narrow (omega arith) in
    let narrow = c.requires.narrow m c.loop-m-test.true in
    let few = c.requires.few in
    (start ∙ ap (λ l. start_of l m) (sym keys), ap (λ l. slice_index l m) (sym keys), omega arith)

pub loop-m-preserved : goal.loop-m-preserved
loop-m-preserved g c =
    let m = c.loop-m.m in
    let hall = c.args.shared.now.table_id in
    let places = c.args.places.now in
    let one_more = start_more places m c.loop-m-test.true in
    let next : suc m ≡ m + 1 = omega arith in
    let start = c.loop-m.invariant.start in
    let start_next : start_of places (m + 1) ≡ start_of places (suc m) = ap (start_of places) (sym next) in
    let holder = c.in_ok-holder.ensures.holder ∙ ap (λ b. first_desk hall m b (get_or places m 0)) start in
    let room = c.loop-m.invariant.room in
    record {
      seat = c.in_ok-holder.ensures.seat;
      made = ap (λ l. map desk l) c.push_reserved.ensures.items ∙ map-append desk c.loop-m.holders.items (c.in_ok-holder.holder ∷ [])
          ∙ (λ i. c.loop-m.invariant.made i ++ holder i ∷ []) ∙ ap (first_desks hall places) next;
      start = omega arith;
      room = (c.push_reserved.ensures.len ∙ ap (λ k. k + 1) room.0, omega (arith, c.push_reserved.ensures.capacity, room.1));
    }
