use Rattle.std.proofs.Common.{◌∙◌, ◌++◌, ◌∷◌, [], ap, sym, refl, subst, append-nil, if◌then◌else◌, option_to_list}
use Rattle.rt_base.specs.declared.data.Op.TheVariants as op
use Rattle.rt_base.specs.InUse.{bound_statuses}
use Rattle.cell_spans.specs.Requests.{HasSpans, noted_by_all}
use Rattle.cell_spans.proofs.RequestLemmas.{holds_after, nothing_named, is_posted, waited}
use Rattle.cell_spans.proofs.in_use.SpansInUse.after.Goals as goal

pub returns-in-Compute-clause-added : goal.returns-in-Compute-clause-added
returns-in-Compute-clause-added c earlier holds = rw c.in-Compute.is (
    holds_after c.args.self.now c.args.self.now earlier _ holds
    (sym (append-nil _) ∙ nothing_named (op.Compute c.in-Compute.kernel c.in-Compute.dst c.in-Compute.left c.in-Compute.right c.in-Compute.value
    c.in-Compute.step) _ (λ k. refl) (λ k. refl))
    (subst (HasSpans c.args.self.now) (sym (append-nil (bound_statuses earlier))) holds.spans))

pub returns-in_ok-post-in-Post-clause-added : goal.returns-in_ok-post-in-Post-clause-added
returns-in_ok-post-in-Post-clause-added c earlier holds = rw c.in-Post.is (
    holds_after c.args.self.now c.post.new.self earlier _ holds
    (c.in_ok-post-in-Post.ensures.requests
    ∙ ap (λ request. c.args.self.now.requests.items ++ request ∷ [])
    (is_posted c.in-Post.how c.in-Post.span _ _ _ c.is_receive.ensures c.blocks-in-Post.ensures c.blocks-in-Post-2.ensures)
    ∙ nothing_named (op.Post c.in-Post.how c.in-Post.span c.in-Post.peer c.in-Post.tag c.in-Post.comm c.in-Post.status) _ (λ k. refl) (λ k. refl))
    (subst (HasSpans c.post.new.self) (sym (append-nil (bound_statuses earlier))) (c.in_ok-post-in-Post.ensures.spans _ holds.spans)))

pub returns-in_ok-wait-in-Await-clause-added : goal.returns-in_ok-wait-in-Await-clause-added
returns-in_ok-wait-in-Await-clause-added c earlier holds = rw c.in-Await.is (
    holds_after c.args.self.now c.wait.new.self earlier _ holds
    (c.in_ok-wait-in-Await.ensures.requests
    ∙ ap (λ handles. noted_by_all c.in-Await.later handles c.args.self.now.requests.items) c.as_slice.ensures
    ∙ waited c.in-Await.later c.in-Await.handles c.in-Await.status c.args.self.now.requests.items)
    (subst (λ more. HasSpans c.wait.new.self (bound_statuses earlier ++ more))
    (sym (append-nil (if c.in-Await.later then option_to_list c.in-Await.status else [])))
    (c.in_ok-wait-in-Await.ensures.spans _ holds.spans)))
