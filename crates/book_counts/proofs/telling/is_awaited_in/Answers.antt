-- The request is awaited exactly where the operation's kind says so.
use Rattle.std.proofs.Common.{◌∙◌, refl, sym, ap, List, get_or, arith}
use Rattle.rt_base.specs.declared.data.Op.{Op}
use Rattle.rt_base.specs.declared.data.Op.TheVariants as op
use Rattle.rt_base.specs.declared.data.Handle.{Handle}
use Rattle.rt_base.specs.Operations.{blocks, named_requests, nth_at}
use Rattle.rt_base.specs.Matching.{same_request}
use Rattle.std.specs.List.{list_any}
use Rattle.std.specs.Prelude.{◌==◌, ◌&&◌}
use Rattle.book_counts.proofs.Awaiting.{at_place, awaited_among, none_among_past, one_among}
use Rattle.book_counts.proofs.Numbers.{number_some, last_number, posting_number}
use Rattle.book_counts.proofs.telling.is_awaited_in.Goals as goal

pub returns-then-k-len : goal.returns-then-k-len
returns-then-k-len c = none_among_past c.args.def.now c.args.k c.args.req (omega arith)

pub returns-in-Compute : goal.returns-in-Compute
returns-in-Compute c =
    let i = c.in-Compute in
    let x : Op = op.Compute i.kernel i.dst i.left i.right i.value i.step in
    awaited_among c.args.def.now c.args.k x c.args.req _ (at_place c.args.def.now.body.items c.args.k c.index-as_slice-k.result x (omega arith)
    (c.index-as_slice-k.is ∙ ap (λ (ops : List Op). get_or ops c.args.k c.index-as_slice-k.result) c.as_slice.ensures) i.is) refl

pub last-requires : goal.last-requires
last-requires c =
    let i = c.in-Post in
    let x : Op = op.Post i.how i.span i.peer i.tag i.comm i.status in
    number_some (nth_at c.args.def.now c.args.k) c.args.req.task.0 c.args.posted.now
    (posting_number c.args.def.now c.args.k c.args.req.task.0 x c.args.posted.now c.requires
    (at_place c.args.def.now.body.items c.args.k c.index-as_slice-k.result x (omega arith)
    (c.index-as_slice-k.is ∙ ap (λ (ops : List Op). get_or ops c.args.k c.index-as_slice-k.result) c.as_slice.ensures) i.is) refl)

pub returns-then-blocks : goal.returns-then-blocks
returns-then-blocks c =
    let i = c.in-Post in
    let x : Op = op.Post i.how i.span i.peer i.tag i.comm i.status in
    let here = at_place c.args.def.now.body.items c.args.k c.index-as_slice-k.result x (omega arith)
    (c.index-as_slice-k.is ∙ ap (λ (ops : List Op). get_or ops c.args.k c.index-as_slice-k.result) c.as_slice.ensures) i.is in
    let last = last_number (nth_at c.args.def.now c.args.k) c.args.req.task.0 c.last.result c.args.posted.now
    (posting_number c.args.def.now c.args.k c.args.req.task.0 x c.args.posted.now c.requires here refl) c.last.ensures in
    awaited_among c.args.def.now c.args.k x c.args.req _ here
    (one_among c.args.req (nth_at c.args.def.now c.args.k) (blocks i.how) _
    (ap (λ n. n == c.args.req.nth) last ∙ sym (ap (λ b. b && (nth_at c.args.def.now c.args.k == c.args.req.nth)) (sym c.blocks-in-Post.ensures
    ∙ c.if-blocks.true))))

pub returns-else-blocks : goal.returns-else-blocks
returns-else-blocks c =
    let i = c.in-Post in
    let x : Op = op.Post i.how i.span i.peer i.tag i.comm i.status in
    awaited_among c.args.def.now c.args.k x c.args.req _ (at_place c.args.def.now.body.items c.args.k c.index-as_slice-k.result x (omega arith)
    (c.index-as_slice-k.is ∙ ap (λ (ops : List Op). get_or ops c.args.k c.index-as_slice-k.result) c.as_slice.ensures) i.is)
    (one_among c.args.req (nth_at c.args.def.now c.args.k) (blocks i.how) _
    (c.if-blocks.false ∙ sym (ap (λ b. b && (nth_at c.args.def.now c.args.k == c.args.req.nth)) (sym c.blocks-in-Post.ensures ∙ c.if-blocks.false))))

pub returns-in-Await : goal.returns-in-Await
returns-in-Await c =
    let i = c.in-Await in
    let x : Op = op.Await i.later i.handles i.status in
    awaited_among c.args.def.now c.args.k x c.args.req _ (at_place c.args.def.now.body.items c.args.k c.index-as_slice-k.result x (omega arith)
    (c.index-as_slice-k.is ∙ ap (λ (ops : List Op). get_or ops c.args.k c.index-as_slice-k.result) c.as_slice.ensures) i.is)
    (c.is_named.ensures c.args.req.task.0 ∙ ap (λ (hs : List Handle). list_any (same_request c.args.req)
    (named_requests c.args.req.task.0 hs)) c.as_slice-in-Await.ensures)
