use Rattle.std.proofs.Common.{◌≡◌, List, sym, ap, ◌∙◌, subst}
use Rattle.rt_base.specs.declared.data.ReqNo.{ReqNo}
use Rattle.task_local.specs.Standing.{def}
use Rattle.meet_hall.specs.Holders.{HolderIs}
use Rattle.shared_lists.specs.Deeds.{opened_seen}
use Rattle.turn_table.specs.declared.hands.Door.TheVariants.{Pause, Events}
use Rattle.shared_tasks.specs.Values.{LiveIs}
use Rattle.shared_tasks.specs.Keeping.{IsLive}
use Rattle.shared_tasks.specs.Owing.{HasOpened, issuing_all}
use Rattle.shared_book.specs.declared.moved.Moved.TheVariants.{Done}
use Rattle.shared_book.specs.Answers.{Calls, GoesOn}
use Rattle.shared_book.specs.Computed.{is_inside}
use Rattle.shared_book.proofs.Calling.{called_of, few_listed, new_inside, new_outside, calls_inside, calls_outside, goes_live, live_waits, inside_of}
use Rattle.shared_book.proofs.Calling.{outside_of, places_for}
use Rattle.shared_book.proofs.Sections.{kept_move}
use Rattle.shared_book.proofs.Going.{goes_inside, goes_outside}
use Rattle.shared_book.proofs.section.Section.call.Goals as goal

pub open_all-requires-clause-new : goal.open_all-requires-clause-new
open_all-requires-clause-new g c =
    let p = g.K.Run.program in
    let w = g.K.Run.workers in
    let table = g.K.Run.passes in
    let site = g.H.Site.hall in
    let book = c.self.inside.book in
    let new = c.call-pass.new.self in
    let kept = c.self.invariant in
    let r = c.into_parts-rec.result in
    let live : LiveIs = record { rec = r.0; pass = r.1; pause = r.2; events = r.3 } in
    let is = c.into_parts-rec.ensures.parts in
    let after = c.call-pass.result.0 in
    let left = c.call-pass.new.rec in
    let pending = c.call-pass.result.1 in
    let called = called_of p w table site book new c.args.live live after left pending kept.program_is kept.workers_is kept.table_is is
    c.into_parts-rec.ensures.keeps c.requires.before c.call-pass.ensures.moves c.call-pass.ensures.pending in
    let inside = inside_of (def left) left.phase (sym (ap is_inside c.at.ensures.at) ∙ (sym c.is_inside.ensures ∙ c.if-is_inside.true)) in
    (live.rec.task, new_inside p w table site book new live after left pending inside.0 kept.well_formed called inside.1)

pub open_all-requires-clause-few : goal.open_all-requires-clause-few
open_all-requires-clause-few g c =
    let p = g.K.Run.program in
    let w = g.K.Run.workers in
    let table = g.K.Run.passes in
    let site = g.H.Site.hall in
    let book = c.self.inside.book in
    let new = c.call-pass.new.self in
    let kept = c.self.invariant in
    let r = c.into_parts-rec.result in
    let live : LiveIs = record { rec = r.0; pass = r.1; pause = r.2; events = r.3 } in
    let is = c.into_parts-rec.ensures.parts in
    let after = c.call-pass.result.0 in
    let left = c.call-pass.new.rec in
    let pending = c.call-pass.result.1 in
    let called = called_of p w table site book new c.args.live live after left pending kept.program_is kept.workers_is kept.table_is is
    c.into_parts-rec.ensures.keeps c.requires.before c.call-pass.ensures.moves c.call-pass.ensures.pending in
    few_listed p w table site book new live after left pending called

pub open_all-requires-clause-places : goal.open_all-requires-clause-places
open_all-requires-clause-places g c =
    let p = g.K.Run.program in
    let w = g.K.Run.workers in
    let table = g.K.Run.passes in
    let site = g.H.Site.hall in
    let book = c.self.inside.book in
    let new = c.call-pass.new.self in
    let kept = c.self.invariant in
    let r = c.into_parts-rec.result in
    let live : LiveIs = record { rec = r.0; pass = r.1; pause = r.2; events = r.3 } in
    let is = c.into_parts-rec.ensures.parts in
    let after = c.call-pass.result.0 in
    let left = c.call-pass.new.rec in
    let pending = c.call-pass.result.1 in
    let called = called_of p w table site book new c.args.live live after left pending kept.program_is kept.workers_is kept.table_is is
    c.into_parts-rec.ensures.keeps c.requires.before c.call-pass.ensures.moves c.call-pass.ensures.pending in
    let inside = inside_of (def left) left.phase (sym (ap is_inside c.at.ensures.at) ∙ (sym c.is_inside.ensures ∙ c.if-is_inside.true)) in
    places_for p live.rec.task live.pause (opened_seen new.program new.seen) c.self.inside.tickets kept.places called.keeps.pause.places
    (new_inside p w table site book new live after left pending inside.0 kept.well_formed called inside.1)

pub new-requires : goal.new-requires
new-requires g c =
    let p = g.K.Run.program in
    let w = g.K.Run.workers in
    let table = g.K.Run.passes in
    let site = g.H.Site.hall in
    let book = c.self.inside.book in
    let new = c.call-pass.new.self in
    let kept = c.self.invariant in
    let r = c.into_parts-rec.result in
    let live : LiveIs = record { rec = r.0; pass = r.1; pause = r.2; events = r.3 } in
    let is = c.into_parts-rec.ensures.parts in
    let after = c.call-pass.result.0 in
    let left = c.call-pass.new.rec in
    let pending = c.call-pass.result.1 in
    let called = called_of p w table site book new c.args.live live after left pending kept.program_is kept.workers_is kept.table_is is
    c.into_parts-rec.ensures.keeps c.requires.before c.call-pass.ensures.moves c.call-pass.ensures.pending in
    let inside = inside_of (def left) left.phase (sym (ap is_inside c.at.ensures.at) ∙ (sym c.is_inside.ensures ∙ c.if-is_inside.true)) in
    subst (λ (h : HolderIs). IsLive p w table site (record { rec = left; pass = after; pause = h; events = r.3 })) (sym c.open_all.ensures.holder)
    (live_waits p w table site live after left called.place inside.0 (opened_seen new.program new.seen) called.keeps called.at inside.1 called.moves_it
    called.task)

pub invariant_of-self : goal.invariant_of-self
invariant_of-self g c =
    let p = g.K.Run.program in
    let w = g.K.Run.workers in
    let table = g.K.Run.passes in
    let site = g.H.Site.hall in
    let book = c.self.inside.book in
    let new = c.call-pass.new.self in
    let kept = c.self.invariant in
    let r = c.into_parts-rec.result in
    let live : LiveIs = record { rec = r.0; pass = r.1; pause = r.2; events = r.3 } in
    let is = c.into_parts-rec.ensures.parts in
    let after = c.call-pass.result.0 in
    let left = c.call-pass.new.rec in
    let pending = c.call-pass.result.1 in
    let called = called_of p w table site book new c.args.live live after left pending kept.program_is kept.workers_is kept.table_is is
    c.into_parts-rec.ensures.keeps c.requires.before c.call-pass.ensures.moves c.call-pass.ensures.pending in
    kept_move p w table site book new live.pass after live.rec left c.self.inside.tickets c.open_all.new.tickets c.self.inside.pairs.items live.rec.task Pause
    live.pause kept c.call-pass.ensures.moves called.keeps.task.caller called.keeps.pause
    (subst (λ (reqs : List ReqNo). HasOpened live.pause reqs c.self.inside.tickets c.open_all.new.tickets) (called.listed ∙ sym called.in_book)
    c.open_all.ensures.tickets)
    c.open_all.ensures.places

pub returns-then-is_inside-clause-calls : goal.returns-then-is_inside-clause-calls
returns-then-is_inside-clause-calls g c =
    let p = g.K.Run.program in
    let w = g.K.Run.workers in
    let table = g.K.Run.passes in
    let site = g.H.Site.hall in
    let book = c.self.inside.book in
    let new = c.call-pass.new.self in
    let kept = c.self.invariant in
    let r = c.into_parts-rec.result in
    let live : LiveIs = record { rec = r.0; pass = r.1; pause = r.2; events = r.3 } in
    let is = c.into_parts-rec.ensures.parts in
    let after = c.call-pass.result.0 in
    let left = c.call-pass.new.rec in
    let pending = c.call-pass.result.1 in
    let called = called_of p w table site book new c.args.live live after left pending kept.program_is kept.workers_is kept.table_is is
    c.into_parts-rec.ensures.keeps c.requires.before c.call-pass.ensures.moves c.call-pass.ensures.pending in
    let inside = inside_of (def left) left.phase (sym (ap is_inside c.at.ensures.at) ∙ (sym c.is_inside.ensures ∙ c.if-is_inside.true)) in
    let made : c.new.result ≡ record { rec = left; pass = after; pause = issuing_all live.pause (opened_seen new.program new.seen); events = live.events } =
    c.new.ensures ∙ ap (λ (h : HolderIs). record { rec = left; pass = after; pause = h; events = r.3 }) c.open_all.ensures.holder in
    subst (λ (l : LiveIs). Calls p w l c.new.result c.answer.result) is
    (subst (λ (n : LiveIs). Calls p w live n c.answer.result) (sym made)
    (subst (Calls p w live (record { rec = left; pass = after; pause = issuing_all live.pause (opened_seen new.program new.seen); events = live.events }))
    (sym c.answer.ensures) (calls_inside p w table site book new live after left pending inside.0 called inside.1)))

pub returns-then-is_inside-clause-goes : goal.returns-then-is_inside-clause-goes
returns-then-is_inside-clause-goes g c =
    let p = g.K.Run.program in
    let w = g.K.Run.workers in
    let table = g.K.Run.passes in
    let site = g.H.Site.hall in
    let book = c.self.inside.book in
    let new = c.call-pass.new.self in
    let kept = c.self.invariant in
    let r = c.into_parts-rec.result in
    let live : LiveIs = record { rec = r.0; pass = r.1; pause = r.2; events = r.3 } in
    let is = c.into_parts-rec.ensures.parts in
    let after = c.call-pass.result.0 in
    let left = c.call-pass.new.rec in
    let pending = c.call-pass.result.1 in
    let called = called_of p w table site book new c.args.live live after left pending kept.program_is kept.workers_is kept.table_is is
    c.into_parts-rec.ensures.keeps c.requires.before c.call-pass.ensures.moves c.call-pass.ensures.pending in
    let inside = inside_of (def left) left.phase (sym (ap is_inside c.at.ensures.at) ∙ (sym c.is_inside.ensures ∙ c.if-is_inside.true)) in
    let made : c.new.result ≡ record { rec = left; pass = after; pause = issuing_all live.pause (opened_seen new.program new.seen); events = live.events } =
    c.new.ensures ∙ ap (λ (h : HolderIs). record { rec = left; pass = after; pause = h; events = r.3 }) c.open_all.ensures.holder in
    subst (λ (n : LiveIs). GoesOn p n c.answer.result) (sym made)
    (subst (GoesOn p (record { rec = left; pass = after; pause = issuing_all live.pause (opened_seen new.program new.seen); events = live.events }))
    (sym c.answer.ensures) (goes_inside p w table site book new live after left pending inside.0 called inside.1))

pub open_all-requires-2-clause-new : goal.open_all-requires-2-clause-new
open_all-requires-2-clause-new g c =
    let p = g.K.Run.program in
    let w = g.K.Run.workers in
    let table = g.K.Run.passes in
    let site = g.H.Site.hall in
    let book = c.self.inside.book in
    let new = c.call-pass.new.self in
    let kept = c.self.invariant in
    let r = c.into_parts-rec.result in
    let live : LiveIs = record { rec = r.0; pass = r.1; pause = r.2; events = r.3 } in
    let is = c.into_parts-rec.ensures.parts in
    let after = c.call-pass.result.0 in
    let left = c.call-pass.new.rec in
    let pending = c.call-pass.result.1 in
    let called = called_of p w table site book new c.args.live live after left pending kept.program_is kept.workers_is kept.table_is is
    c.into_parts-rec.ensures.keeps c.requires.before c.call-pass.ensures.moves c.call-pass.ensures.pending in
    let outside = outside_of (def left) left.phase (sym (ap is_inside c.at.ensures.at) ∙ (sym c.is_inside.ensures ∙ c.if-is_inside.false)) in
    (live.rec.task, new_outside p w table site book new live after left pending kept.well_formed called outside)

pub open_all-requires-2-clause-few : goal.open_all-requires-2-clause-few
open_all-requires-2-clause-few g c =
    let p = g.K.Run.program in
    let w = g.K.Run.workers in
    let table = g.K.Run.passes in
    let site = g.H.Site.hall in
    let book = c.self.inside.book in
    let new = c.call-pass.new.self in
    let kept = c.self.invariant in
    let r = c.into_parts-rec.result in
    let live : LiveIs = record { rec = r.0; pass = r.1; pause = r.2; events = r.3 } in
    let is = c.into_parts-rec.ensures.parts in
    let after = c.call-pass.result.0 in
    let left = c.call-pass.new.rec in
    let pending = c.call-pass.result.1 in
    let called = called_of p w table site book new c.args.live live after left pending kept.program_is kept.workers_is kept.table_is is
    c.into_parts-rec.ensures.keeps c.requires.before c.call-pass.ensures.moves c.call-pass.ensures.pending in
    few_listed p w table site book new live after left pending called

pub open_all-requires-2-clause-places : goal.open_all-requires-2-clause-places
open_all-requires-2-clause-places g c =
    let p = g.K.Run.program in
    let w = g.K.Run.workers in
    let table = g.K.Run.passes in
    let site = g.H.Site.hall in
    let book = c.self.inside.book in
    let new = c.call-pass.new.self in
    let kept = c.self.invariant in
    let r = c.into_parts-rec.result in
    let live : LiveIs = record { rec = r.0; pass = r.1; pause = r.2; events = r.3 } in
    let is = c.into_parts-rec.ensures.parts in
    let after = c.call-pass.result.0 in
    let left = c.call-pass.new.rec in
    let pending = c.call-pass.result.1 in
    let called = called_of p w table site book new c.args.live live after left pending kept.program_is kept.workers_is kept.table_is is
    c.into_parts-rec.ensures.keeps c.requires.before c.call-pass.ensures.moves c.call-pass.ensures.pending in
    let outside = outside_of (def left) left.phase (sym (ap is_inside c.at.ensures.at) ∙ (sym c.is_inside.ensures ∙ c.if-is_inside.false)) in
    places_for p live.rec.task live.events (opened_seen new.program new.seen) c.self.inside.tickets kept.places called.keeps.events.places
    (new_outside p w table site book new live after left pending kept.well_formed called outside)

pub new-requires-2 : goal.new-requires-2
new-requires-2 g c =
    let p = g.K.Run.program in
    let w = g.K.Run.workers in
    let table = g.K.Run.passes in
    let site = g.H.Site.hall in
    let book = c.self.inside.book in
    let new = c.call-pass.new.self in
    let kept = c.self.invariant in
    let r = c.into_parts-rec.result in
    let live : LiveIs = record { rec = r.0; pass = r.1; pause = r.2; events = r.3 } in
    let is = c.into_parts-rec.ensures.parts in
    let after = c.call-pass.result.0 in
    let left = c.call-pass.new.rec in
    let pending = c.call-pass.result.1 in
    let called = called_of p w table site book new c.args.live live after left pending kept.program_is kept.workers_is kept.table_is is
    c.into_parts-rec.ensures.keeps c.requires.before c.call-pass.ensures.moves c.call-pass.ensures.pending in
    let outside = outside_of (def left) left.phase (sym (ap is_inside c.at.ensures.at) ∙ (sym c.is_inside.ensures ∙ c.if-is_inside.false)) in
    subst (λ (h : HolderIs). IsLive p w table site (record { rec = left; pass = after; pause = r.2; events = h })) (sym c.open_all-2.ensures.holder)
    (goes_live p w table site book new live after left pending called outside)

pub invariant_of-self-2 : goal.invariant_of-self-2
invariant_of-self-2 g c =
    let p = g.K.Run.program in
    let w = g.K.Run.workers in
    let table = g.K.Run.passes in
    let site = g.H.Site.hall in
    let book = c.self.inside.book in
    let new = c.call-pass.new.self in
    let kept = c.self.invariant in
    let r = c.into_parts-rec.result in
    let live : LiveIs = record { rec = r.0; pass = r.1; pause = r.2; events = r.3 } in
    let is = c.into_parts-rec.ensures.parts in
    let after = c.call-pass.result.0 in
    let left = c.call-pass.new.rec in
    let pending = c.call-pass.result.1 in
    let called = called_of p w table site book new c.args.live live after left pending kept.program_is kept.workers_is kept.table_is is
    c.into_parts-rec.ensures.keeps c.requires.before c.call-pass.ensures.moves c.call-pass.ensures.pending in
    kept_move p w table site book new live.pass after live.rec left c.self.inside.tickets c.open_all-2.new.tickets c.self.inside.pairs.items live.rec.task
    Events live.events kept c.call-pass.ensures.moves called.keeps.task.caller called.keeps.events
    (subst (λ (reqs : List ReqNo). HasOpened live.events reqs c.self.inside.tickets c.open_all-2.new.tickets) (called.listed ∙ sym called.in_book)
    c.open_all-2.ensures.tickets)
    c.open_all-2.ensures.places

pub returns-clause-calls : goal.returns-clause-calls
returns-clause-calls g c =
    let p = g.K.Run.program in
    let w = g.K.Run.workers in
    let table = g.K.Run.passes in
    let site = g.H.Site.hall in
    let book = c.self.inside.book in
    let new = c.call-pass.new.self in
    let kept = c.self.invariant in
    let r = c.into_parts-rec.result in
    let live : LiveIs = record { rec = r.0; pass = r.1; pause = r.2; events = r.3 } in
    let is = c.into_parts-rec.ensures.parts in
    let after = c.call-pass.result.0 in
    let left = c.call-pass.new.rec in
    let pending = c.call-pass.result.1 in
    let called = called_of p w table site book new c.args.live live after left pending kept.program_is kept.workers_is kept.table_is is
    c.into_parts-rec.ensures.keeps c.requires.before c.call-pass.ensures.moves c.call-pass.ensures.pending in
    let outside = outside_of (def left) left.phase (sym (ap is_inside c.at.ensures.at) ∙ (sym c.is_inside.ensures ∙ c.if-is_inside.false)) in
    let made : c.new-2.result ≡ record { rec = left; pass = after; pause = live.pause; events = issuing_all live.events (opened_seen new.program new.seen) } =
    c.new-2.ensures ∙ ap (λ (h : HolderIs). record { rec = left; pass = after; pause = r.2; events = h }) c.open_all-2.ensures.holder in
    subst (λ (l : LiveIs). Calls p w l c.new-2.result Done) is
    (subst (λ (n : LiveIs). Calls p w live n Done) (sym made) (calls_outside p w table site book new live after left pending called outside))

pub returns-clause-goes : goal.returns-clause-goes
returns-clause-goes g c =
    let p = g.K.Run.program in
    let w = g.K.Run.workers in
    let table = g.K.Run.passes in
    let site = g.H.Site.hall in
    let book = c.self.inside.book in
    let new = c.call-pass.new.self in
    let kept = c.self.invariant in
    let r = c.into_parts-rec.result in
    let live : LiveIs = record { rec = r.0; pass = r.1; pause = r.2; events = r.3 } in
    let is = c.into_parts-rec.ensures.parts in
    let after = c.call-pass.result.0 in
    let left = c.call-pass.new.rec in
    let pending = c.call-pass.result.1 in
    let called = called_of p w table site book new c.args.live live after left pending kept.program_is kept.workers_is kept.table_is is
    c.into_parts-rec.ensures.keeps c.requires.before c.call-pass.ensures.moves c.call-pass.ensures.pending in
    let outside = outside_of (def left) left.phase (sym (ap is_inside c.at.ensures.at) ∙ (sym c.is_inside.ensures ∙ c.if-is_inside.false)) in
    let made : c.new-2.result ≡ record { rec = left; pass = after; pause = live.pause; events = issuing_all live.events (opened_seen new.program new.seen) } =
    c.new-2.ensures ∙ ap (λ (h : HolderIs). record { rec = left; pass = after; pause = r.2; events = h }) c.open_all-2.ensures.holder in
    subst (λ (n : LiveIs). GoesOn p n Done) (sym made) (goes_outside p w table site book new live after left pending called outside)
