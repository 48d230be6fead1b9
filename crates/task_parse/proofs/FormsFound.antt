-- Each line that is read has one of the forms of statement.
use Rattle.std.proofs.Common.{◌≡◌, ℕ, ◌≤◌, min, nat_lt, Bool, true, false, cond, List, [], ◌∷◌, length, Result, Err, refl, sym, subst, arith, append-nil}
use Rattle.std.proofs.lemmas.Bool.Decides.{nat_tests}
use Rattle.rt_base.specs.declared.data.FaultKind.{FaultKind}
use Rattle.rt_base.specs.declared.data.FaultKind.TheVariants as fault
use Rattle.rt_base.specs.declared.data.Mode.{Mode}
use Rattle.rt_base.specs.declared.data.Mode.TheVariants as mode
use Rattle.rt_base.specs.declared.data.How.{How}
use Rattle.rt_base.specs.declared.data.How.TheVariants as how
use Rattle.rt_base.specs.declared.data.Kernel.{Kernel}
use Rattle.rt_base.specs.declared.data.Kernel.TheVariants as kernel
use Rattle.rt_base.specs.KernelForms.{source_count, number_count}
use Rattle.task_tree.specs.declared.key.Key.{Key}
use Rattle.task_tree.specs.declared.key.Key.TheVariants as key
use Rattle.task_tree.specs.declared.token.Token.{Token}
use Rattle.task_tree.specs.declared.token.Token.TheVariants as token
use Rattle.task_tree.specs.declared.tree.What.{What}
use Rattle.task_tree.specs.declared.tree.What.TheVariants as what
use Rattle.task_tree.specs.Reading.{◌>>=◌}
use Rattle.task_parse.specs.Statements.{IsStatement, IsStatement as form, access_key, call_key, wait_key, waitall_key, kernel_key, listed}
use Rattle.task_parse.specs.ReadingsOfParts.{Left}
use Rattle.task_parse.specs.ReadingsOfOperands.{status_at}
use Rattle.task_parse.specs.ReadingsOfLines.{whole, array_line, show_line, comm_line, let_line, for_line, if_line, touch_line, kernel_line}
use Rattle.task_parse.specs.ReadingsOfLines.{posting_line, wait_line, waitall_line}
use Rattle.task_parse.specs.Readings.{operation, line, statement}
use Rattle.task_parse.proofs.PartLemmas.{Gets, then_name, then_comma, then_dots, then_set, then_value, then_span}
use Rattle.task_parse.proofs.OperandLemmas.{then_peer, then_tag, then_handle, then_on, then_status, then_own_status}
use Rattle.task_parse.proofs.ListLemmas.{then_names, then_spans, then_values}
use Rattle.task_parse.proofs.FormsRead.{once, twice, four_times, kernel_as}

-- the tokens have the form of a statement, at this depth
pub record Says (tokens : List Token) (s : What × ℕ) : Type 0 where
  pub depth : ℕ
  pub spelled : IsStatement depth tokens s.0
  pub cap : s.1 ≡ min depth 65

says : {d : ℕ} {spelled : List Token} {said : What} (tokens : List Token) (capped : ℕ) → IsStatement d spelled said → tokens ≡ spelled → capped ≡ min d 65
    → Says tokens (said, capped)
says {d} {spelled} {said} tokens capped i e c = record { depth = d; spelled = subst (λ ts. IsStatement d ts said) (sym e) i; cap = c }

whole_found : (Q : What × ℕ → Type 0) (said : What) (x : Left) → (x.0 ≡ [] → Q (said, x.1)) → Gets Q (whole said x)
whole_found Q said ([], k) h = h refl
whole_found Q said (t ∷ ts, k) h = refl

array_found : (ts : List Token) → Gets (Says (token.Key key.Array ∷ ts)) (array_line (ts, 0))
unfolding array_line
array_found ts =
    let Q : What × ℕ → Type 0 = Says (token.Key key.Array ∷ ts) in
    then_name Q (ts, 0) _ (λ name a.
    then_comma Q name.1 _ (λ comma b.
    then_value Q comma _ (λ len c.
    whole_found Q (what.Array name.0 len.0) len.1 (λ d.
    says _ _ (form.array name.0 c.spelled) (rw (a.tokens, b.tokens, c.whole, d, append-nil) refl) (rw (c.deep, b.same, a.same) (once c.depth))))))

show_found : (ts : List Token) → Gets (Says (token.Key key.Show ∷ ts)) (show_line (ts, 0))
unfolding show_line
show_found ts =
    let Q : What × ℕ → Type 0 = Says (token.Key key.Show ∷ ts) in
    then_name Q (ts, 0) _ (λ name a.
    whole_found Q (what.Show name.0) name.1 (λ b.
    says _ _ (form.show name.0) (rw (a.tokens, b) refl) (rw a.same refl)))

comm_found : (ts : List Token) → Gets (Says (token.Key key.Comm ∷ ts)) (comm_line (ts, 0))
unfolding comm_line
comm_found ts =
    let Q : What × ℕ → Type 0 = Says (token.Key key.Comm ∷ ts) in
    then_name Q (ts, 0) _ (λ name a.
    whole_found Q (what.Comm name.0) name.1 (λ b.
    says _ _ (form.comm name.0) (rw (a.tokens, b) refl) (rw a.same refl)))

let_found : (ts : List Token) → Gets (Says (token.Key key.Let ∷ ts)) (let_line (ts, 0))
unfolding let_line
let_found ts =
    let Q : What × ℕ → Type 0 = Says (token.Key key.Let ∷ ts) in
    then_name Q (ts, 0) _ (λ name a.
    then_set Q name.1 _ (λ set b.
    then_value Q set _ (λ value c.
    whole_found Q (what.Let name.0 value.0) value.1 (λ d.
    says _ _ (form.setting name.0 c.spelled) (rw (a.tokens, b.tokens, c.whole, d, append-nil) refl) (rw (c.deep, b.same, a.same) (once c.depth))))))

for_found : (ts : List Token) → Gets (Says (token.Key key.For ∷ ts)) (for_line (ts, 0))
unfolding for_line
for_found ts =
    let Q : What × ℕ → Type 0 = Says (token.Key key.For ∷ ts) in
    then_name Q (ts, 0) _ (λ name a.
    then_set Q name.1 _ (λ set b.
    then_value Q set _ (λ from c.
    then_dots Q from.1 _ (λ dots d.
    then_value Q dots _ (λ to e.
    whole_found Q (what.For name.0 from.0 to.0) to.1 (λ f.
    says _ _ (form.loop name.0 c.spelled e.spelled) (rw (a.tokens, b.tokens, c.whole, d.tokens, e.whole, f, append-nil) refl)
    (rw (e.deep, d.same, c.deep, b.same, a.same) (twice c.depth e.depth))))))))

if_found : (ts : List Token) → Gets (Says (token.Key key.If ∷ ts)) (if_line (ts, 0))
unfolding if_line
if_found ts =
    let Q : What × ℕ → Type 0 = Says (token.Key key.If ∷ ts) in
    then_value Q (ts, 0) _ (λ test a.
    whole_found Q (what.If test.0) test.1 (λ b.
    says _ _ (form.when a.spelled) (rw (a.whole, b, append-nil) refl) (rw a.deep (once a.depth))))

touch_found : (kind : Mode) (ts : List Token) → Gets (Says (token.Key (access_key kind) ∷ ts)) (touch_line kind (ts, 0))
unfolding touch_line
touch_found kind ts =
    let Q : What × ℕ → Type 0 = Says (token.Key (access_key kind) ∷ ts) in
    then_span Q (ts, 0) _ (λ span a.
    whole_found Q (what.Touch kind span.0) span.1 (λ b.
    says _ _ (form.access kind a.spelled) (rw (a.whole, b, append-nil) refl) (rw a.deep (once a.depth))))

kernel_found : (name : Kernel) (ts : List Token) → Gets (Says (token.Key (kernel_key name) ∷ ts)) (kernel_line name (ts, 0))
kernel_found name ts =
    let Q : What × ℕ → Type 0 = Says (token.Key (kernel_key name) ∷ ts) in
    subst (Gets Q) (sym (kernel_as name (ts, 0))) (
    then_spans Q (source_count name) (ts, 0) _ (λ spans n a.
    then_values Q (number_count name) spans.1 _ (λ values m b.
    whole_found Q (what.Kern name (listed spans.0) (listed values.0)) values.1 (λ c.
    says _ _ (form.computing name a.spelled (omega (arith, n)) b.spelled m) (rw (a.whole, b.whole, c, append-nil) refl)
    (rw (b.deep, a.deep) (twice a.depth b.depth))))))

posting_found : (call : How) (ts : List Token) → Gets (Says (token.Key (call_key call) ∷ ts)) (posting_line call (ts, 0))
unfolding posting_line
posting_found call ts =
    let Q : What × ℕ → Type 0 = Says (token.Key (call_key call) ∷ ts) in
    then_handle Q call (ts, 0) _ (λ handle a.
    then_span Q handle.1 _ (λ span b.
    then_comma Q span.1 _ (λ second c.
    then_peer Q call second _ (λ peer d.
    then_comma Q peer.1 _ (λ third e.
    then_tag Q call third _ (λ tag f.
    then_on Q tag.1 _ (λ comm g.
    then_own_status Q call comm.1 _ (λ status h.
    whole_found Q (what.Posting call handle.0 span.0 peer.0 tag.0 comm.0 status.0) status.1 (λ i.
    says _ _ (form.posting call a.spelled b.spelled d.spelled f.spelled g.spelled h.spelled)
    (rw (a.whole, b.whole, c.tokens, d.whole, e.tokens, f.whole, g.whole, h.whole, i, append-nil) refl)
    (rw (h.deep, g.same, f.deep, e.same, d.deep, c.same, b.deep, a.same) (four_times b.depth d.depth f.depth h.depth)))))))))))

wait_found : (later : Bool) (ts : List Token) → Gets (Says (token.Key (wait_key later) ∷ ts)) (wait_line later (ts, 0))
unfolding wait_line
wait_found later ts =
    let Q : What × ℕ → Type 0 = Says (token.Key (wait_key later) ∷ ts) in
    then_name Q (ts, 0) _ (λ name a.
    then_status Q name.1 _ (λ status b.
    whole_found Q (what.Waiting later (listed (name.0 ∷ [])) status.0) status.1 (λ c.
    says _ _ (form.wait later name.0 b.spelled) (rw (a.tokens, b.whole, c, append-nil) refl) (rw (b.deep, a.same) (once b.depth)))))

-- the test of the number of names, and then the next step
then_few : {B C : Type 0} (Q : C → Type 0) (n : ℕ) (b : Bool) (r : Result B FaultKind) (f : B → Result C FaultKind) → nat_lt 64 n ≡ b
    → (n ≤ 64 → Gets Q (r >>= f)) → Gets Q ((cond b (Err fault.Shape) r) >>= f)
then_few Q n true r f e next = refl
then_few Q n false r f e next = next (grind (arith, nat_tests))

waitall_found : (later : Bool) (ts : List Token) → Gets (Says (token.Key (waitall_key later) ∷ ts)) (waitall_line later (ts, 0))
unfolding waitall_line
waitall_found later ts =
    let Q : What × ℕ → Type 0 = Says (token.Key (waitall_key later) ∷ ts) in
    then_names Q (ts, 0) _ (λ names a.
    then_few Q (length names.0) _ (status_at names.1) _ refl (λ few.
    then_status Q names.1 _ (λ status b.
    whole_found Q (what.Waiting later (listed names.0) status.0) status.1 (λ c.
    says _ _ (form.waitall later a.spelled few b.spelled) (rw (a.whole, b.whole, c, append-nil) refl) (rw (b.deep, a.same) (once b.depth))))))

-- a line that is its word alone
bare_found : (word : Key) (said : What) (ts : List Token) → IsStatement 0 (token.Key word ∷ []) said → Gets (Says (token.Key word ∷ ts)) (whole said (ts, 0))
bare_found word said ts i = whole_found (Says (token.Key word ∷ ts)) said (ts, 0) (λ e. says _ _ i (rw e refl) refl)

operation_found : (word : Key) (ts : List Token) → Gets (Says (token.Key word ∷ ts)) (operation word (ts, 0))
unfolding operation
operation_found key.Fill ts = kernel_found kernel.Fill ts
operation_found key.Ramp ts = kernel_found kernel.Ramp ts
operation_found key.Copy ts = kernel_found kernel.Copy ts
operation_found key.Add ts = kernel_found kernel.Add ts
operation_found key.Sub ts = kernel_found kernel.Sub ts
operation_found key.Scale ts = kernel_found kernel.Scale ts
operation_found key.Shift ts = kernel_found kernel.Shift ts
operation_found key.Jacobi2 ts = kernel_found kernel.Jacobi2 ts
operation_found key.Sum ts = kernel_found kernel.Sum ts
operation_found key.Least ts = kernel_found kernel.Least ts
operation_found key.Greatest ts = kernel_found kernel.Greatest ts
operation_found key.Send ts = posting_found how.Send ts
operation_found key.Ssend ts = posting_found how.Ssend ts
operation_found key.Recv ts = posting_found how.Recv ts
operation_found key.Isend ts = posting_found how.Isend ts
operation_found key.Issend ts = posting_found how.Issend ts
operation_found key.Irecv ts = posting_found how.Irecv ts
operation_found key.Wait ts = wait_found false ts
operation_found key.Iwait ts = wait_found true ts
operation_found key.Waitall ts = waitall_found false ts
operation_found key.Iwaitall ts = waitall_found true ts
operation_found _ ts = refl

line_found : (word : Key) (ts : List Token) → Gets (Says (token.Key word ∷ ts)) (line word (ts, 0))
unfolding line
line_found key.Array ts = array_found ts
line_found key.Show ts = show_found ts
line_found key.Comm ts = comm_found ts
line_found key.Let ts = let_found ts
line_found key.For ts = for_found ts
line_found key.If ts = if_found ts
line_found key.Else ts = bare_found key.Else what.Else ts form.otherwise
line_found key.End ts = bare_found key.End what.End ts form.closing
line_found key.Taskwait ts = bare_found key.Taskwait what.Taskwait ts form.taskwait
line_found key.Task ts = bare_found key.Task what.Task ts form.task
line_found key.Do ts = bare_found key.Do what.Do ts form.body
line_found key.In ts = touch_found mode.In ts
line_found key.Out ts = touch_found mode.Out ts
line_found key.Inout ts = touch_found mode.Inout ts
line_found word ts = operation_found word ts

-- what is read is spelled so, and the one fault is `Shape`
pub statement_found : (ts : List Token) → Gets (Says ts) (statement ts)
unfolding statement
statement_found (token.Key word ∷ ts) = line_found word ts
statement_found _ = refl
