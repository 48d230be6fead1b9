use Rattle.std.proofs.Common.{◌≡◌, ℕ, List, [], ◌∷◌, length, slice_get, None, sym, ap, ◌∙◌, subst, arith}
use Rattle.pass_table.specs.Passes.{PassIs}
use Rattle.pass_table.proofs.Fronts.{prefix_trans}
use Rattle.meet_hall.specs.Holders.{HolderIs}
use Rattle.meet_hall.proofs.PlaceLemmas.{issued_there, issued_none, without_shorter}
use Rattle.shared_tasks.specs.Values.{ArrivalIs}
use Rattle.shared_tasks.specs.Keeping.{FitsParked, FitsArrival, IsAble}
use Rattle.shared_tasks.specs.Pausing.{IsNext}
use Rattle.shared_tasks.proofs.Rounds.{HasMet, fits_met, live_again, able_again}
use Rattle.shared_tasks.proofs.meeting.take_up.Goals as goal

pub take_note-requires-clause-there : goal.take_note-requires-clause-there
take_note-requires-clause-there g c = issued_there c.loop-place.holder.left c.in-Some.place (sym c.issued.ensures ∙ c.in-Some.is)

pub loop-place-smaller : goal.loop-place-smaller
loop-place-smaller g c =
    let there = issued_there c.loop-place.holder.left c.in-Some.place (sym c.issued.ensures ∙ c.in-Some.is) in
    let less = without_shorter c.in-Some.place c.loop-place.holder.left there in
    let left = ap (λ (h : HolderIs). length h.left) c.take_note.ensures.holder in
    omega (arith, less, left)

pub loop-place-preserved : goal.loop-place-preserved
loop-place-preserved g c =
    let p = g.K.Run.program in
    let site = g.H.Site.hall in
    let inside = c.parked.inside in
    let before = c.loop-place.invariant in
    let pass = c.loop-place.pass in
    let new = c.meet-pass.result in
    let holder = c.loop-place.holder in
    let place = c.in-Some.place in
    let comes : FitsArrival p g.K.Run.workers g.K.Run.passes (record { req = c.note.inside.req; note = c.note.inside.note }) holder.meeting (place ∷ []) =
    subst (λ (a : ArrivalIs). FitsArrival p g.K.Run.workers g.K.Run.passes a holder.meeting (place ∷ [])) (sym c.note.view_is) c.take_note.ensures.fits in
    let met : HasMet pass c.note.inside.note new = record
    { is = c.meet-pass.ensures.longer; before = c.meet-pass.ensures.before; steps = c.meet-pass.ensures.steps } in
    record {
      next =
          subst (IsNext p site inside.rec.task) (sym c.take_note.ensures.holder)
          (record { hall = before.next.hall; places = before.next.places; none_issued = before.next.none_issued });
      fits =
          subst
          (λ (h : HolderIs).
          FitsParked p g.K.Run.workers g.K.Run.passes site (record { rec = inside.rec; pass = new; other = inside.other; door = inside.door }) h.meeting h.left)
          (sym c.take_note.ensures.holder)
          (fits_met p g.K.Run.workers g.K.Run.passes site inside.rec pass inside.other inside.door holder.meeting holder.left
          (record { req = c.note.inside.req; note = c.note.inside.note }) place new before.fits comes met);
      more = record {
        table = ap (λ (z : PassIs). z.table) c.meet-pass.ensures.longer ∙ before.more.table;
        caller = ap (λ (z : PassIs). z.caller) c.meet-pass.ensures.longer ∙ before.more.caller;
        steps = ap (λ (z : PassIs). z.steps) c.meet-pass.ensures.longer ∙ before.more.steps;
        before = prefix_trans c.args.parked.pass.seen pass.seen new.seen before.more.before c.meet-pass.ensures.before.0;
      };
    }

pub resume-requires : goal.resume-requires
resume-requires g c =
    let p = g.K.Run.program in
    let site = g.H.Site.hall in
    let inside = c.parked.inside in
    let holder = c.loop-place.holder in
    let none = issued_none holder.left (sym c.issued.ensures ∙ c.in_default.is) in
    live_again p g.K.Run.workers g.K.Run.passes site inside.rec c.loop-place.pass inside.other inside.door holder
    (subst
    (λ (q : List ℕ).
    FitsParked p g.K.Run.workers g.K.Run.passes site (record { rec = inside.rec; pass = c.loop-place.pass; other = inside.other; door = inside.door })
    holder.meeting q)
    none c.loop-place.invariant.fits)
    c.loop-place.invariant.next none

pub returns-clause-able : goal.returns-clause-able
returns-clause-able g c =
    let p = g.K.Run.program in
    let site = g.H.Site.hall in
    let inside = c.parked.inside in
    let holder = c.loop-place.holder in
    let none = issued_none holder.left (sym c.issued.ensures ∙ c.in_default.is) in
    subst (IsAble p) (sym c.resume.ensures.live)
    (able_again p g.K.Run.workers g.K.Run.passes site inside.rec c.loop-place.pass inside.other inside.door holder
    (subst
    (λ (q : List ℕ).
    FitsParked p g.K.Run.workers g.K.Run.passes site (record { rec = inside.rec; pass = c.loop-place.pass; other = inside.other; door = inside.door })
    holder.meeting q)
    none c.loop-place.invariant.fits)
    c.loop-place.invariant.next)
