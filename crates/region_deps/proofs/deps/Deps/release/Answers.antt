-- the accesses of the task are the sources from its first one up to that of the next task
use Rattle.std.proofs.Common.{◌≡◌, true, false, Some, length, slice_get, sym, subst, arith}
use Rattle.region_deps.specs.Readiness.{Readiness}
use Rattle.region_deps.proofs.Releases.{releasable, range_read, group_of, held_release_read}
use Rattle.region_deps.proofs.deps.Deps.release.Goals as goal

pub all_go-requires-clause-order : goal.all_go-requires-clause-order
all_go-requires-clause-order c =
    let i = c.self.inside in
    let held = subst (λ (r : Readiness). slice_get r.gone.released c.args.task.0 ≡ Some false) (sym c.self.view_is) c.requires.held in
    let range = range_read i.program.value.tasks.items i.graph i.first.items i.heads.items i.waiting.items i.released.items c.args.task.0
    c.index-from.result.now c.index-to.result.now c.self.invariant held c.index-from.ensures c.index-to.ensures in
    range.order

pub all_go-requires-clause-within : goal.all_go-requires-clause-within
all_go-requires-clause-within c =
    let i = c.self.inside in
    let held = subst (λ (r : Readiness). slice_get r.gone.released c.args.task.0 ≡ Some false) (sym c.self.view_is) c.requires.held in
    let range = range_read i.program.value.tasks.items i.graph i.first.items i.heads.items i.waiting.items i.released.items c.args.task.0
    c.index-from.result.now c.index-to.result.now c.self.invariant held c.index-from.ensures c.index-to.ensures in
    range.within

pub all_go-requires-clause-numbered : goal.all_go-requires-clause-numbered
all_go-requires-clause-numbered c =
    let i = c.self.inside in
    let held = subst (λ (r : Readiness). slice_get r.gone.released c.args.task.0 ≡ Some false) (sym c.self.view_is) c.requires.held in
    let range = range_read i.program.value.tasks.items i.graph i.first.items i.heads.items i.waiting.items i.released.items c.args.task.0
    c.index-from.result.now c.index-to.result.now c.self.invariant held c.index-from.ensures c.index-to.ensures in
    range.numbered

pub index-requires : goal.index-requires
index-requires c =
    let i = c.self.inside in
    let held = subst (λ (r : Readiness). slice_get r.gone.released c.args.task.0 ≡ Some false) (sym c.self.view_is) c.requires.held in
    let can = releasable i.program.value.tasks.items i.graph i.first.items i.heads.items i.waiting.items i.released.items c.args.task.0 c.self.invariant held in
    omega (arith, can.exists, c.self.invariant.linked.grouped.long, i.heads.ok)

pub one_less-requires-clause-known : goal.one_less-requires-clause-known
one_less-requires-clause-known c =
    let i = c.self.inside in
    let held = subst (λ (r : Readiness). slice_get r.gone.released c.args.task.0 ≡ Some false) (sym c.self.view_is) c.requires.held in
    let many : c.len.result ≡ length i.heads.items = omega (arith, c.len.ensures, i.heads.ok) in
    let group = group_of i.program.value.tasks.items i.graph i.first.items i.heads.items i.waiting.items i.released.items c.args.task.0 c.len.result
    c.index-accesses.result.now c.index.result.now c.self.invariant held many c.index-accesses.ensures c.index.ensures in
    group.known

pub one_less-requires-clause-held : goal.one_less-requires-clause-held
one_less-requires-clause-held c =
    let i = c.self.inside in
    let held = subst (λ (r : Readiness). slice_get r.gone.released c.args.task.0 ≡ Some false) (sym c.self.view_is) c.requires.held in
    let many : c.len.result ≡ length i.heads.items = omega (arith, c.len.ensures, i.heads.ok) in
    let group = group_of i.program.value.tasks.items i.graph i.first.items i.heads.items i.waiting.items i.released.items c.args.task.0 c.len.result
    c.index-accesses.result.now c.index.result.now c.self.invariant held many c.index-accesses.ensures c.index.ensures in
    group.held

pub one_less-requires-clause-within : goal.one_less-requires-clause-within
one_less-requires-clause-within c =
    let i = c.self.inside in
    let held = subst (λ (r : Readiness). slice_get r.gone.released c.args.task.0 ≡ Some false) (sym c.self.view_is) c.requires.held in
    let many : c.len.result ≡ length i.heads.items = omega (arith, c.len.ensures, i.heads.ok) in
    let group = group_of i.program.value.tasks.items i.graph i.first.items i.heads.items i.waiting.items i.released.items c.args.task.0 c.len.result
    c.index-accesses.result.now c.index.result.now c.self.invariant held many c.index-accesses.ensures c.index.ensures in
    omega (arith, group.within, c.all_go.ensures.long)

pub one_less-requires-clause-numbered : goal.one_less-requires-clause-numbered
one_less-requires-clause-numbered c =
    let i = c.self.inside in
    let held = subst (λ (r : Readiness). slice_get r.gone.released c.args.task.0 ≡ Some false) (sym c.self.view_is) c.requires.held in
    let can = releasable i.program.value.tasks.items i.graph i.first.items i.heads.items i.waiting.items i.released.items c.args.task.0 c.self.invariant held in
    omega (arith, can.numbered, c.all_go.ensures.long)

pub index_mut-requires : goal.index_mut-requires
index_mut-requires c =
    let i = c.self.inside in
    let held = subst (λ (r : Readiness). slice_get r.gone.released c.args.task.0 ≡ Some false) (sym c.self.view_is) c.requires.held in
    let can = releasable i.program.value.tasks.items i.graph i.first.items i.heads.items i.waiting.items i.released.items c.args.task.0 c.self.invariant held in
    omega (arith, can.exists, c.self.invariant.released_long, i.released.ok)

pub invariant_of-self : goal.invariant_of-self
invariant_of-self c =
    let i = c.self.inside in
    let held = subst (λ (r : Readiness). slice_get r.gone.released c.args.task.0 ≡ Some false) (sym c.self.view_is) c.requires.held in
    let handed = subst (λ (r : Readiness). slice_get r.handed c.args.task.0 ≡ Some true) (sym c.self.view_is) c.requires.handed in
    let range = range_read i.program.value.tasks.items i.graph i.first.items i.heads.items i.waiting.items i.released.items c.args.task.0
    c.index-from.result.now c.index-to.result.now c.self.invariant held c.index-from.ensures c.index-to.ensures in
    let many : c.len.result ≡ length i.heads.items = omega (arith, c.len.ensures, i.heads.ok) in
    let group = group_of i.program.value.tasks.items i.graph i.first.items i.heads.items i.waiting.items i.released.items c.args.task.0 c.len.result
    c.index-accesses.result.now c.index.result.now c.self.invariant held many c.index-accesses.ensures c.index.ensures in
    held_release_read i.program.value.tasks.items i.graph c.all_go.new.graph c.one_less.new.graph i.first.items i.heads.items i.waiting.items
    c.one_less.new.waiting.items i.released.items c.args.task.0
    c.index-from.result.now c.index-to.result.now c.index-accesses.result.now c.index.result.now c.self.invariant handed held range group c.all_go.ensures
    c.one_less.ensures.gone c.one_less.ensures.waiting
