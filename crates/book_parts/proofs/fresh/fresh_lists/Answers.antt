-- The places of a new book's lists are counted in 32 bits.
use Rattle.std.proofs.Common.{◌≡◌, ap, ◌∙◌, arith}
use Rattle.task_machine.specs.Course.{most_moves}
use Rattle.run_bounds.specs.Bounds.{most_postings}
use Rattle.run_bounds.proofs.Few.{few_moves, most_moves_few}
use Rattle.run_bounds.proofs.Rooms.{few_postings, few_told}
use Rattle.book_parts.proofs.fresh.fresh_lists.Goals as goal

pub most_moves-moves-requires : goal.most_moves-moves-requires
most_moves-moves-requires c = record { few = rw c.as_slice-tasks.ensures (few_moves c.args.prog.now c.requires.well_formed) }

pub most_postings-postings-requires : goal.most_postings-postings-requires
most_postings-postings-requires c =
    record { few = rw c.as_slice-tasks.ensures (let few = few_postings c.args.prog.now c.requires.well_formed in omega arith) }

pub most_told-requires : goal.most_told-requires
most_told-requires c = record { few = rw c.as_slice-tasks.ensures (let few = few_told c.args.prog.now c.requires.well_formed in omega arith) }

pub overflow_add-moves : goal.overflow_add-moves
overflow_add-moves c =
    let p = c.args.prog.now in
    let moves : c.most_moves-moves.result ≡ most_moves p.tasks.items = c.most_moves-moves.ensures ∙ ap most_moves c.as_slice-tasks.ensures in
    let postings : c.most_postings-postings.result ≡ most_postings p.tasks.items = c.most_postings-postings.ensures
    ∙ ap most_postings c.as_slice-tasks.ensures in
    let few = most_moves_few p c.requires.well_formed in
    let less = few_postings p c.requires.well_formed in
    omega arith
