use Rattle.std.proofs.Common.{◌≡◌, ℕ, length, sym, ap, ◌∙◌, subst}
use Rattle.rt_base.specs.declared.data.Phase.TheVariants as phase
use Rattle.rt_base.specs.declared.data.Program.{Program}
use Rattle.rt_base.specs.State.{State}
use Rattle.book_parts.specs.Ledger.{bound_in}
use Rattle.shared_lists.specs.Deeds.{state_seen}
use Rattle.turn_table.specs.declared.hands.Door.TheVariants.{Events}
use Rattle.shared_tasks.specs.Values.{LiveIs}
use Rattle.shared_book.specs.Answers.{GoesOn, IsReturned}
use Rattle.shared_book.proofs.Moves.{step_of, step_opens_none, live_returned, none_ended, returned_live, new_program, same_task_left}
use Rattle.shared_book.proofs.Sections.{kept_step}
use Rattle.shared_book.proofs.Going.{returned_goes, is_returned}
use Rattle.shared_book.proofs.section.Section.ret.Goals as goal

pub new-requires : goal.new-requires
new-requires g c =
    let r = c.into_parts-rec.result in
    let live : LiveIs = record { rec = r.0; pass = r.1; pause = r.2; events = r.3 } in
    let is = c.into_parts-rec.ensures.parts in
    let step = step_of g.K.Run.program g.K.Run.workers g.K.Run.passes g.H.Site.hall c.self.inside.book c.ret-pass.new.self c.args.live live
    c.ret-pass.result c.ret-pass.new.rec c.self.invariant.program_is c.self.invariant.workers_is c.self.invariant.table_is is c.into_parts-rec.ensures.keeps
    c.ret-pass.ensures in
    let ended : live.rec.phase ≡ phase.Ended = ap (λ (l : LiveIs). l.rec.phase) is ∙ c.requires.ended in
    live_returned g.K.Run.program g.K.Run.workers g.K.Run.passes g.H.Site.hall live c.ret-pass.result c.ret-pass.new.rec step.keeps ended step.moves_it
    step.task

pub invariant_of-self : goal.invariant_of-self
invariant_of-self g c =
    let r = c.into_parts-rec.result in
    let live : LiveIs = record { rec = r.0; pass = r.1; pause = r.2; events = r.3 } in
    let is = c.into_parts-rec.ensures.parts in
    let step = step_of g.K.Run.program g.K.Run.workers g.K.Run.passes g.H.Site.hall c.self.inside.book c.ret-pass.new.self c.args.live live
    c.ret-pass.result c.ret-pass.new.rec c.self.invariant.program_is c.self.invariant.workers_is c.self.invariant.table_is is c.into_parts-rec.ensures.keeps
    c.ret-pass.ensures in
    let ended : live.rec.phase ≡ phase.Ended = ap (λ (l : LiveIs). l.rec.phase) is ∙ c.requires.ended in
    kept_step g.K.Run.program g.K.Run.workers g.K.Run.passes g.H.Site.hall c.self.inside.book c.ret-pass.new.self live.pass c.ret-pass.result live.rec
    c.ret-pass.new.rec c.self.inside.tickets c.self.inside.pairs.items live.rec.task Events live.events c.self.invariant c.ret-pass.ensures
    step.keeps.task.caller step.keeps.events
    (step_opens_none g.K.Run.program g.K.Run.workers g.K.Run.passes g.H.Site.hall c.self.inside.book c.ret-pass.new.self live c.ret-pass.result
    c.ret-pass.new.rec c.self.invariant.program_is c.self.invariant.workers_is step.keeps c.ret-pass.ensures (none_ended live.rec.phase ended))

pub returns-clause-moves : goal.returns-clause-moves
returns-clause-moves g c =
    let r = c.into_parts-rec.result in
    let live : LiveIs = record { rec = r.0; pass = r.1; pause = r.2; events = r.3 } in
    let is = c.into_parts-rec.ensures.parts in
    let step = step_of g.K.Run.program g.K.Run.workers g.K.Run.passes g.H.Site.hall c.self.inside.book c.ret-pass.new.self c.args.live live
    c.ret-pass.result c.ret-pass.new.rec c.self.invariant.program_is c.self.invariant.workers_is c.self.invariant.table_is is c.into_parts-rec.ensures.keeps
    c.ret-pass.ensures in
    returned_live g.K.Run.program g.K.Run.workers c.args.live live c.new.result c.ret-pass.result c.ret-pass.new.rec r.2 r.3 is c.new.ensures step.moves_it

pub returns-clause-goes : goal.returns-clause-goes
returns-clause-goes g c =
    let p = g.K.Run.program in
    let r = c.into_parts-rec.result in
    let live : LiveIs = record { rec = r.0; pass = r.1; pause = r.2; events = r.3 } in
    let is = c.into_parts-rec.ensures.parts in
    let left = c.ret-pass.new.rec in
    let after = c.ret-pass.result in
    let new = c.ret-pass.new.self in
    let step = step_of p g.K.Run.workers g.K.Run.passes g.H.Site.hall c.self.inside.book new c.args.live live after left c.self.invariant.program_is
    c.self.invariant.workers_is c.self.invariant.table_is is c.into_parts-rec.ensures.keeps c.ret-pass.ensures in
    let ended : live.rec.phase ≡ phase.Ended = ap (λ (l : LiveIs). l.rec.phase) is ∙ c.requires.ended in
    let m = c.ret-pass.ensures in
    let now : state_seen new.program new.seen ≡ state_seen p after.seen =
    ap (λ (q : Program). state_seen q new.seen) (new_program c.self.inside.book new live.pass after 0 m.adds ∙ c.self.invariant.program_is)
    ∙ ap (state_seen p) (sym m.adds.whole) in
    let same = same_task_left p g.K.Run.workers live.pass after live.rec left step.moves_it in
    let counted : c.bound-bound.result ≡ length (bound_in (state_seen p after.seen) live.rec.task) =
    c.bound-bound.ensures ∙ ap (λ (s : State). length (bound_in s c.task.result.0)) now
    ∙ ap (λ (t : ℕ). length (bound_in (state_seen p after.seen) t)) (c.task.ensures ∙ same) in
    let answer : IsReturned (state_seen p after.seen) live.rec.task c.returned.result =
    subst (IsReturned (state_seen p after.seen) live.rec.task) (sym c.returned.ensures)
    (is_returned (state_seen p after.seen) live.rec.task c.bound-bound.result counted) in
    subst (λ (n : LiveIs). GoesOn p n c.returned.result) (sym c.new.ensures)
    (returned_goes p g.K.Run.workers g.K.Run.passes g.H.Site.hall live after left c.returned.result c.self.invariant.well_formed step.keeps ended step.moves_it
    answer)
