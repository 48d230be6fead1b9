-- The statements: what is spelled is read, and what is read is spelled.
use Rattle.std.proofs.Common.{◌≡◌, ℕ, List, Ok, Err, sym, ap, subst, ◌∙◌}
use Rattle.task_tree.specs.declared.token.Token.{Token}
use Rattle.task_tree.specs.declared.tree.What.{What}
use Rattle.task_parse.specs.Readings.{statement}
use Rattle.task_parse.specs.Laws.{StatementIsSpelled, OneStatement, ShapeIsTheFault}
use Rattle.task_parse.proofs.PartLemmas.{Gets}
use Rattle.task_parse.proofs.FormsRead.{statement_read}
use Rattle.task_parse.proofs.FormsFound.{Says, statement_found}

read_is_spelled : (ts : List Token) (said : What) (capped : ℕ) → statement ts ≡ Ok (said, capped) → Says ts (said, capped)
read_is_spelled ts said capped e = subst (Gets (Says ts)) e (statement_found ts)

pub statement_is_spelled : StatementIsSpelled
statement_is_spelled = λ ts said capped. (
  λ e. let s = read_is_spelled ts said capped e in (s.depth, s.spelled, s.cap),
  λ h. statement_read ts h.1 ∙ ap (λ n. Ok (said, n)) (sym h.2),
)

pub one_statement_a_line : OneStatement
one_statement_a_line = λ c d ts one other i j.
    let e = sym (statement_read ts i) ∙ statement_read ts j in
    (ap (λ r. elim r [ Ok s ↦ s.0 | Err kind ↦ one ]) e, ap (λ r. elim r [ Ok s ↦ s.1 | Err kind ↦ 0 ]) e)

pub shape_is_the_fault : ShapeIsTheFault
shape_is_the_fault = λ ts kind e. (
  subst (Gets (Says ts)) e (statement_found ts),
  λ depth said i. let f = sym e ∙ statement_read ts i in absurd cc,
)
