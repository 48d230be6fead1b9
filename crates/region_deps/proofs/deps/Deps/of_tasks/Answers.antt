-- the lists as they are built are what the graph keeps
use Rattle.std.proofs.Common.{List, ap, sym, subst, ◌∙◌, arith}
use Rattle.rt_base.specs.declared.data.TaskDef.{TaskDef}
use Rattle.rt_base.specs.declared.data.Program.{Program}
use Rattle.region_deps.specs.Holding.{IsOrderly, IsUpToDate, IsLinkedUp}
use Rattle.region_deps.proofs.Beginnings.{accesses_read, links_within, held_first}
use Rattle.region_deps.proofs.Precedence.{region_count_is}
use Rattle.region_deps.proofs.deps.Deps.of_tasks.Goals as goal

pub links-requires-clause-accesses : goal.links-requires-clause-accesses
links-requires-clause-accesses c =
    let first = c.in_ok-first.ensures in
    let count = accesses_read c.as_slice-tasks.result.now c.in_ok-first.first.items c.index-accesses.result.now first.length first.first
    c.index-accesses.ensures in
    let orderly = subst IsOrderly (sym c.as_slice-tasks.ensures) c.requires in
    count

pub overflow_add-accesses : goal.overflow_add-accesses
overflow_add-accesses c =
    let first = c.in_ok-first.ensures in
    let count = accesses_read c.as_slice-tasks.result.now c.in_ok-first.first.items c.index-accesses.result.now first.length first.first
    c.index-accesses.ensures in
    let orderly = subst IsOrderly (sym c.as_slice-tasks.ensures) c.requires in
    omega (arith, count, region_count_is c.as_slice-tasks.result.now 0, orderly.few)

pub build-requires-clause-sources : goal.build-requires-clause-sources
build-requires-clause-sources c =
    let first = c.in_ok-first.ensures in
    let count = accesses_read c.as_slice-tasks.result.now c.in_ok-first.first.items c.index-accesses.result.now first.length first.first
    c.index-accesses.ensures in
    let orderly = subst IsOrderly (sym c.as_slice-tasks.ensures) c.requires in
    omega (arith, count, region_count_is c.as_slice-tasks.result.now 0, orderly.few)

pub build-requires-clause-ends : goal.build-requires-clause-ends
build-requires-clause-ends c =
    let first = c.in_ok-first.ensures in
    let count = accesses_read c.as_slice-tasks.result.now c.in_ok-first.first.items c.index-accesses.result.now first.length first.first
    c.index-accesses.ensures in
    let orderly = subst IsOrderly (sym c.as_slice-tasks.ensures) c.requires in
    links_within c.as_slice-tasks.result.now c.in_ok-links.links.items c.deref-2.result.now c.index-accesses.result.now count c.in_ok-links.ensures.links

pub invariant_of-result : goal.invariant_of-result
invariant_of-result c =
    let first = c.in_ok-first.ensures in
    let count = accesses_read c.as_slice-tasks.result.now c.in_ok-first.first.items c.index-accesses.result.now first.length first.first
    c.index-accesses.ensures in
    let orderly = subst IsOrderly (sym c.as_slice-tasks.ensures) c.requires in
    let up = subst (IsLinkedUp c.as_slice-tasks.result.now c.in_ok-links.links.items) c.deref-2.ensures.value c.in_ok-links.ensures.links in
    let built = c.in_ok-build.ensures in
    let sizes = c.in_ok-waiting.ensures in
    let tasks_are = c.as_slice-tasks.ensures ∙ sym (ap (λ (p : Program). p.tasks.items) c.of.ensures) in
    subst (λ (tasks : List TaskDef). IsUpToDate tasks c.in_ok-build.field-0 c.in_ok-first.first.items c.in_ok-heads.heads.items c.in_ok-waiting.waiting.items
    c.in_ok-none_yet.field-0.items) tasks_are
    (held_first c.as_slice-tasks.result.now c.in_ok-links.links.items c.in_ok-build.field-0 c.in_ok-first.first.items c.in_ok-heads.heads.items
    c.deref.result.now c.in_ok-waiting.waiting.items
    c.in_ok-none_yet.field-0.items c.index-accesses.result.now orderly c.in_ok-links.ensures.small up first.length first.first count built.links built.gone
    built.handed c.deref.ensures.value
    sizes.long sizes.counted c.in_ok-none_yet.ensures)
