use Rattle.std.proofs.Common.{List, take, sym, ap, ◌∙◌, subst, arith}
use Rattle.std.proofs.lemmas.Option.{slice_get_within}
use Rattle.rt_base.specs.declared.data.ReqNo.{ReqNo}
use Rattle.meetings.specs.Meetings.{times}
use Rattle.meet_hall.specs.Holders.{HolderIs, issuing_one}
use Rattle.shared_lists.specs.Deeds.{opened_seen}
use Rattle.shared_tasks.specs.Owing.{HasIssued, HasOpened, issuing_all}
use Rattle.shared_tasks.proofs.Lying.{one_opened}
use Rattle.shared_book.proofs.Issuing.{take_one_more, there_is_in, issuing_more, next_is_new, next_is_within, issued_place}
use Rattle.shared_book.proofs.opening.open_all.Goals as goal

pub open-requires-clause-within : goal.open-requires-clause-within
open-requires-clause-within g c =
    let reqs = opened_seen c.args.book.now.program c.args.book.now.seen in
    let below = next_is_within c.requires.new.0 c.args.holder.now reqs c.loop-i.i c.in-Some.req c.requires.new.1 (sym c.open_request.ensures ∙ c.in-Some.is) in
    let same = ap (λ (h : HolderIs). h.places) c.loop-i.invariant.holder in
    omega (arith, below, same)

pub open-requires-clause-new : goal.open-requires-clause-new
open-requires-clause-new g c =
    let reqs = opened_seen c.args.book.now.program c.args.book.now.seen in
    ap (λ (h : HolderIs). times c.in-Some.req.nth h.issued) c.loop-i.invariant.holder
    ∙ next_is_new c.requires.new.0 c.args.holder.now reqs c.loop-i.i c.in-Some.req c.requires.new.1 (sym c.open_request.ensures ∙ c.in-Some.is)

pub open-requires-clause-place : goal.open-requires-clause-place
open-requires-clause-place g c =
    let reqs = opened_seen c.args.book.now.program c.args.book.now.seen in
    c.loop-i.invariant.places c.in-Some.req
    (c.requires.places c.in-Some.req (there_is_in reqs c.loop-i.i c.in-Some.req (sym c.open_request.ensures ∙ c.in-Some.is)))

pub loop-i-preserved : goal.loop-i-preserved
loop-i-preserved g c =
    let reqs = opened_seen c.args.book.now.program c.args.book.now.seen in
    let first = c.args.holder.now in
    let req = c.in-Some.req in
    let i = c.loop-i.i in
    let before = c.loop-i.invariant in
    let here = sym c.open_request.ensures ∙ c.in-Some.is in
    let more = take_one_more reqs i req here in
    let has = before.places req (c.requires.places req (there_is_in reqs i req here)) in
    let issued : HasIssued c.loop-i.tickets c.open.new.self (issuing_all first (take i reqs)) req =
    subst (λ (h : HolderIs). HasIssued c.loop-i.tickets c.open.new.self h req) before.holder c.open.ensures.ticket in
    record {
      holder =
          c.open.ensures.holder ∙ ap (λ (h : HolderIs). issuing_one h req.nth) before.holder ∙ issuing_more first (take i reqs) req
          ∙ ap (issuing_all first) (sym more);
      opened =
          subst (λ (rs : List ReqNo). HasOpened first rs c.args.tickets.now c.open.new.self) (sym more)
          (one_opened first (take i reqs) req c.args.tickets.now c.loop-i.tickets c.open.new.self has before.opened issued);
      places = λ q had. issued_place c.loop-i.tickets c.open.new.self (issuing_all first (take i reqs)) req q has issued (before.places q had);
      within = let below = slice_get_within reqs i req here in omega (arith, below);
    }
