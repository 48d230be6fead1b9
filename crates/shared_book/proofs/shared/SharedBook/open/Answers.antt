use Rattle.std.proofs.Common.{ℕ, ◌+◌, ◌<◌, List, Option, Some, length, vec_capacity, sym, ap, ◌∙◌, subst, arith}
use Rattle.rt_base.specs.declared.data.Program.{Program}
use Rattle.pass_table.specs.Passes.{TableId, new_pass}
use Rattle.shared_book.specs.declared.pairs.Pair.{Pair}
use Rattle.shared_book.specs.Kept.{KeepsSection}
use Rattle.shared_book.specs.Parts.{PartsAre}
use Rattle.shared_book.proofs.Pairing.{holders_count, first_section}
use Rattle.shared_book.proofs.shared.SharedBook.open.Goals as goal

pub paired-pairs-requires-clause-room : goal.paired-pairs-requires-clause-room
paired-pairs-requires-clause-room g c =
    let count = holders_count g.H.Site.hall g.K.Run.program.tasks.items c.args.holders.items c.requires.holders in
    let same = ap (λ (q : Program). length q.tasks.items) (ap (λ (parts : PartsAre). parts.program) c.parts.view_is ∙ c.requires.program) in
    omega (arith, count, same, c.parts.invariant.room_is)

pub invariant_of-section : goal.invariant_of-section
invariant_of-section g c =
    let inside = c.parts.inside in
    let kept = first_section g.K.Run.program g.K.Run.workers g.K.Run.passes g.H.Site.hall inside.table inside.book inside.tickets inside.pollers.items
    inside.room.items (vec_capacity inside.room) inside.places.items c.args.holders.items c.parts.invariant
    (ap (λ (parts : PartsAre). parts.program) c.parts.view_is ∙ c.requires.program)
    (ap (λ (parts : PartsAre). parts.workers) c.parts.view_is ∙ c.requires.workers)
    (c.parts.invariant.table_is ∙ (ap (λ (parts : PartsAre). parts.table) c.parts.view_is ∙ c.requires.table)) c.requires.holders in
    subst
    (λ (pairs : List (Option Pair)).
    KeepsSection g.K.Run.program g.K.Run.workers g.K.Run.passes g.H.Site.hall inside.book inside.tickets pairs)
    (sym c.paired-pairs.ensures.pairs) kept

pub returns-clause-passes : goal.returns-clause-passes
returns-clause-passes g c =
    let inside = c.parts.inside in
    let same_p = ap (λ (parts : PartsAre). parts.program) c.parts.view_is ∙ c.requires.program in
    let same_w = ap (λ (parts : PartsAre). parts.workers) c.parts.view_is ∙ c.requires.workers in
    let same_t = ap (λ (parts : PartsAre). parts.table) c.parts.view_is ∙ c.requires.table in
    λ w within.
    c.parts.invariant.passes w (subst (λ (v : ℕ). w < v) (sym same_w) within)
    ∙ ap (λ (t : TableId). Some (new_pass t (length inside.book.program.tasks.items + w))) same_t
    ∙ ap (λ (q : Program). Some (new_pass g.K.Run.passes (length q.tasks.items + w))) same_p
