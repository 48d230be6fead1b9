-- What the call of a posting has done, as the laws over a book's counts have it.
use Rattle.std.proofs.Common.{◌≡◌, ℕ, true, cond, List, Option, sym, ap, ◌∙◌, subst}
use Rattle.std.specs.Prelude.{ℤ, IfSome}
use Rattle.rt_base.specs.declared.data.ReqNo.{ReqNo}
use Rattle.rt_base.specs.declared.data.Phase.{Phase}
use Rattle.rt_base.specs.declared.data.TaskDef.{TaskDef}
use Rattle.rt_base.specs.declared.data.Program.{Program}
use Rattle.rt_base.specs.Operations.{request, blocks, nth_at, posting_of}
use Rattle.rt_base.specs.Exchange.{Exchange, post, partner}
use Rattle.rt_base.specs.Completion.{is_complete, completes_alone}
use Rattle.match_engine.specs.Switch.{Switch}
use Rattle.task_local.specs.StandsFor.{Record}
use Rattle.book_counts.proofs.Tallies.{Completes}
use Rattle.book_parts.specs.declared.posting.Posting.{Posting}
use Rattle.book_parts.specs.Kept.{BookParts, KeepsState}
use Rattle.book_parts.proofs.CallMoved.{Answered}

-- what is said of the caller's program and of the phases that were read
pub seen_as : {X : Type 0} (said : Program → List Phase → X) (p prog : Program) (phs phases : List Phase) → prog ≡ p → phases ≡ phs
    → said prog phases ≡ said p phs
seen_as said p prog phs phases same seen = ap (λ (q : Program). said q phases) same ∙ ap (said p) seen

module _ {parts : BookParts} {held : Record} {t k n count : ℕ} {def : TaskDef} {posting : Posting} {cells : List ℤ} {engine : Switch} {found : Option ReqNo}
    (kept : KeepsState parts) (a : Answered parts held t k n count def posting cells engine found) where
  pub completes : Completes parts.program parts.engine.exchange engine.exchange (request t (nth_at def k)) cells found
  completes =
      let p : Program = parts.program in
      let old : Exchange = parts.engine.exchange in
      let after : engine.program ≡ p = a.program ∙ kept.engine_of in
      record {
        after = a.exchange ∙ ap (λ (q : Program). post q old (request t n) cells) kept.engine_of ∙ ap (λ (i : ℕ). post p old (request t i) cells) a.nth;
        partner_is = sym (a.partner_is ∙ ap (λ (q : Program). partner q old (request t n) cells) kept.engine_of
            ∙ ap (λ (i : ℕ). partner p old (request t i) cells) a.nth);
        was = subst (λ (q : Program). IfSome found (λ other. is_complete q old other ≡ completes_alone q.eager (posting_of q other))) kept.engine_of a.before;
        now = subst (λ (q : Program). IfSome found (λ other. is_complete q engine.exchange other ≡ true)) after a.completed;
      }

  -- for how many things the posting task waits then
  pub number_is : {number : ℕ} → number ≡ cond (blocks posting.how) count 0
      → number ≡ cond (blocks posting.how) (cond (is_complete parts.program engine.exchange (request t (nth_at def k))) 0 1) 0
  number_is is_number =
      is_number ∙ ap {B = ℕ} (λ m. cond (blocks posting.how) m 0) (a.counted
      ∙ ap {B = ℕ} (λ (q : Program). cond (is_complete q engine.exchange (request t n)) 0 1) (a.program ∙ kept.engine_of)
      ∙ ap {B = ℕ} (λ i. cond (is_complete parts.program engine.exchange (request t i)) 0 1) a.nth)
