-- Each form of statement, as it is spelled, is read.
use Rattle.std.proofs.Common.{◌≡◌, ℕ, ◌+◌, ◌≤◌, min, max, nat_lt, Bool, true, false, List, [], ◌∷◌, ◌++◌, length, Option, None, Result, Ok, Err, refl}
use Rattle.std.proofs.Common.{sym, ap, ◌∙◌, arith, append-nil}
use Rattle.std.proofs.lemmas.Bool.Decides.{nat_tests}
use Rattle.rt_base.specs.declared.data.FaultKind.{FaultKind}
use Rattle.rt_base.specs.declared.data.Mode.{Mode}
use Rattle.rt_base.specs.declared.data.Mode.TheVariants as mode
use Rattle.rt_base.specs.declared.data.How.{How}
use Rattle.rt_base.specs.declared.data.How.TheVariants as how
use Rattle.rt_base.specs.declared.data.Kernel.{Kernel}
use Rattle.rt_base.specs.declared.data.Kernel.TheVariants as kernel
use Rattle.rt_base.specs.KernelForms.{source_count, number_count}
use Rattle.task_tree.specs.declared.sign.Sign.TheVariants as sign
use Rattle.task_tree.specs.declared.token.Token.{Token}
use Rattle.task_tree.specs.declared.token.Token.TheVariants as token
use Rattle.task_tree.specs.declared.tree.SpanText.{SpanText}
use Rattle.task_tree.specs.declared.tree.PeerText.{PeerText}
use Rattle.task_tree.specs.declared.tree.TagText.{TagText}
use Rattle.task_tree.specs.declared.tree.What.{What}
use Rattle.task_tree.specs.declared.tree.What.TheVariants as what
use Rattle.task_tree.specs.Term.{Term}
use Rattle.task_tree.specs.Grammar.{Is}
use Rattle.task_tree.specs.Reading.{◌>>=◌}
use Rattle.task_parse.specs.Statements.{IsSpan, IsPeer, IsTag, IsOn, IsStatus, IsStatus as is_status, IsHandle, HasStatus, AreNames, AreSpans}
use Rattle.task_parse.specs.Statements.{AreValues, IsStatement, IsStatement as form, access_key, call_key, wait_key, waitall_key, kernel_key, listed}
use Rattle.task_parse.specs.ReadingsOfParts.{Left, name_at, comma_at, dots_at, set_at, span_at}
use Rattle.task_parse.specs.ReadingsOfOperands.{comma_name, next_span, next_value, more_of}
use Rattle.task_parse.specs.ReadingsOfLines.{whole, array_line, show_line, comm_line, let_line, for_line, if_line, touch_line, kernel_line}
use Rattle.task_parse.specs.ReadingsOfLines.{posting_line, wait_line, waitall_line}
use Rattle.task_parse.specs.Readings.{operation, line, statement}
use Rattle.task_parse.proofs.PartLemmas.{grown, grown_twice, value_read, value_last, span_read, span_last}
use Rattle.task_parse.proofs.OperandLemmas.{peer_read, tag_read, handle_read, status_last, own_status_last, on_read, tail_ends}
use Rattle.task_parse.proofs.ListLemmas.{all_spans, names_read, spans_read, values_read}

-- a line with its depth
abbrev answer : What → ℕ → Result (What × ℕ) FaultKind
answer said depth = Ok (said, depth)

at_depth : (said : What) (c d : ℕ) → c ≡ d → answer said c ≡ answer said d
at_depth said c d e = ap (answer said) e

-- the depth of one part, from the beginning of a line
pub once : (d : ℕ) → grown 0 d ≡ min d 65
once d = omega arith

-- of two parts
pub twice : (c d : ℕ) → grown (grown 0 c) d ≡ min (max c d) 65
twice c d = omega arith

-- of four parts
pub four_times : (a b c d : ℕ) → grown (grown (grown (grown 0 a) b) c) d ≡ min (max a (max b (max c d))) 65
four_times a b c d = grown_twice (grown (grown 0 a) b) c d ∙ grown_twice (grown 0 a) b (max c d) ∙ twice a (max b (max c d))

access_word : (kind : Mode) (x : Left) → line (access_key kind) x ≡ touch_line kind x
unfolding line
access_word mode.In x = refl
access_word mode.Out x = refl
access_word mode.Inout x = refl

kernel_word : (name : Kernel) (x : Left) → line (kernel_key name) x ≡ kernel_line name x
unfolding line operation
kernel_word kernel.Fill x = refl
kernel_word kernel.Ramp x = refl
kernel_word kernel.Copy x = refl
kernel_word kernel.Add x = refl
kernel_word kernel.Sub x = refl
kernel_word kernel.Scale x = refl
kernel_word kernel.Shift x = refl
kernel_word kernel.Jacobi2 x = refl
kernel_word kernel.Sum x = refl
kernel_word kernel.Least x = refl
kernel_word kernel.Greatest x = refl

call_word : (call : How) (x : Left) → line (call_key call) x ≡ posting_line call x
unfolding line operation
call_word how.Send x = refl
call_word how.Ssend x = refl
call_word how.Recv x = refl
call_word how.Isend x = refl
call_word how.Issend x = refl
call_word how.Irecv x = refl

wait_word : (later : Bool) (x : Left) → line (wait_key later) x ≡ wait_line later x
unfolding line operation
wait_word false x = refl
wait_word true x = refl

waitall_word : (later : Bool) (x : Left) → line (waitall_key later) x ≡ waitall_line later x
unfolding line operation
waitall_word false x = refl
waitall_word true x = refl

array_read : {d : ℕ} {len : Term} (name : List ℕ) (ts : List Token) → Is 0 d ts len
    → array_line (token.Name name ∷ token.Sign sign.Comma ∷ ts, 0) ≡ Ok (what.Array name len, min d 65)
unfolding array_line name_at comma_at
array_read {d} name ts i = rw (value_last ts 0 i) (at_depth _ _ _ (once d))

let_read : {d : ℕ} {value : Term} (name : List ℕ) (ts : List Token) → Is 0 d ts value
    → let_line (token.Name name ∷ token.Sign sign.Set ∷ ts, 0) ≡ Ok (what.Let name value, min d 65)
unfolding let_line name_at set_at
let_read {d} name ts i = rw (value_last ts 0 i) (at_depth _ _ _ (once d))

for_read : {c d : ℕ} {from to : Term} (name : List ℕ) (xs ys : List Token) → Is 0 c xs from → Is 0 d ys to
    → for_line (token.Name name ∷ token.Sign sign.Set ∷ (xs ++ token.Sign sign.Dots ∷ ys), 0) ≡ Ok (what.For name from to, min (max c d) 65)
unfolding for_line name_at set_at dots_at
for_read {c} {d} name xs ys i j = rw (value_read xs (token.Sign sign.Dots ∷ ys) 0 i refl, value_last ys (grown 0 c) j) (at_depth _ _ _ (twice c d))

if_read : {d : ℕ} {test : Term} (ts : List Token) → Is 0 d ts test → if_line (ts, 0) ≡ Ok (what.If test, min d 65)
unfolding if_line
if_read {d} ts i = rw (value_last ts 0 i) (at_depth _ _ _ (once d))

touch_read : {d : ℕ} {span : SpanText} (kind : Mode) (ts : List Token) → IsSpan d ts span → touch_line kind (ts, 0) ≡ Ok (what.Touch kind span, min d 65)
unfolding touch_line
touch_read {d} kind ts i = rw (span_last ts 0 i) (at_depth _ _ _ (once d))

values_last : {d : ℕ} {es : List Term} (n : ℕ) (front : List Token) (k : ℕ) → AreValues d front es → length es ≡ n
    → more_of next_value [] n (front, k) ≡ Ok (es, ([], grown k d))
values_last n front k are e = rw (append-nil front) at (values_read n [] front [] k refl are e)

-- three steps, grouped to the left and to the right
grouped : {A B C : Type 0} (r : Result A FaultKind) (f : A → Result B FaultKind) (g : B → Result C FaultKind) → ((r >>= f) >>= g) ≡ (r >>= λ x. f x >>= g)
grouped (Ok x) f g = refl
grouped (Err e) f g = refl

pub kernel_as : (name : Kernel) (x : Left)
    → kernel_line name x ≡ (all_spans [] (source_count name) x >>= λ spans. more_of next_value [] (number_count name) spans.1 >>= λ values. whole
    (what.Kern name (listed spans.0) (listed values.0)) values.1)
unfolding kernel_line
kernel_as name x = sym (grouped (span_at x) (λ first. more_of next_span (first.0 ∷ []) (source_count name) first.1) _)

kernel_read : {c d : ℕ} {ss : List SpanText} {es : List Term} (name : Kernel) (xs ys : List Token) → AreSpans c xs ss → length ss ≡ 1 + source_count name
    → AreValues d ys es → length es ≡ number_count name
    → kernel_line name (xs ++ ys, 0) ≡ Ok (what.Kern name (listed ss) (listed es), min (max c d) 65)
kernel_read {c} {d} name xs ys are n each m =
    kernel_as name (xs ++ ys, 0)
    ∙ rw (spans_read (source_count name) [] xs ys 0 are (omega (arith, n)), values_last (number_count name) ys (grown 0 c) each m) (at_depth _ _ _ (twice c d))

posting_read : {a b c d : ℕ} {handle comm : Option (List ℕ)} {span : SpanText} {whom : PeerText} {number : TagText} {status : Option SpanText} (call : How)
    (hs xs ys zs os ss : List Token)
    → IsHandle call hs handle → IsSpan a xs span → IsPeer call b ys whom → IsTag call c zs number → IsOn os comm → HasStatus call d ss status
    → posting_line call (
      hs ++ (xs ++ token.Sign sign.Comma ∷ (ys ++ token.Sign sign.Comma ∷ (zs ++ (os ++ ss)))),
      0,
    ) ≡ Ok (what.Posting call handle span whom number comm status, min (max a (max b (max c d))) 65)
unfolding posting_line comma_at
posting_read {a} {b} {c} {d} call hs xs ys zs os ss h s p t o u =
    rw (
      handle_read hs _ 0 h,
      span_read xs (token.Sign sign.Comma ∷ (ys ++ token.Sign sign.Comma ∷ (zs ++ (os ++ ss)))) 0 s,
      peer_read ys (token.Sign sign.Comma ∷ (zs ++ (os ++ ss))) (grown 0 a) p refl,
      tag_read zs (os ++ ss) (grown (grown 0 a) b) t (tail_ends os ss o u),
      on_read os ss (grown (grown (grown 0 a) b) c) o u,
      own_status_last ss (grown (grown (grown 0 a) b) c) u,
    )
    (at_depth _ _ _ (four_times a b c d))

wait_read : {d : ℕ} {status : Option SpanText} (later : Bool) (name : List ℕ) (ts : List Token) → IsStatus d ts status
    → wait_line later (token.Name name ∷ ts, 0) ≡ Ok (what.Waiting later (listed (name ∷ [])) status, min d 65)
unfolding wait_line name_at
wait_read {d} later name ts s = rw (status_last ts 0 s) (at_depth _ _ _ (once d))

no_comma : {d : ℕ} {ts : List Token} {status : Option SpanText} → IsStatus d ts status → comma_name ts ≡ None
no_comma is_status.none = refl
no_comma (is_status.some i) = refl

waitall_read : {d : ℕ} {ns : List (List ℕ)} {status : Option SpanText} (later : Bool) (xs ts : List Token) → AreNames xs ns → length ns ≤ 64
    → IsStatus d ts status → waitall_line later (xs ++ ts, 0) ≡ Ok (what.Waiting later (listed ns) status, min d 65)
unfolding waitall_line
waitall_read {d} {ns} later xs ts are n s =
    let few : nat_lt 64 (length ns) ≡ false = grind (arith, nat_tests) in
    rw (names_read xs ts 0 (no_comma s) are, few, status_last ts 0 s) (at_depth _ _ _ (once d))

-- what is spelled so is read
pub statement_read : {d : ℕ} {said : What} (ts : List Token) → IsStatement d ts said → statement ts ≡ Ok (said, min d 65)
unfolding statement line show_line comm_line name_at
statement_read ts (form.array {d} {ts = us} name i) = array_read name us i
statement_read ts (form.show name) = refl
statement_read ts (form.comm name) = refl
statement_read ts (form.setting {d} {ts = us} name i) = let_read name us i
statement_read ts (form.loop {c} {d} {xs} {ys} name i j) = for_read name xs ys i j
statement_read ts (form.when {d} {ts = us} i) = if_read us i
statement_read ts form.otherwise = refl
statement_read ts form.closing = refl
statement_read ts form.taskwait = refl
statement_read ts form.task = refl
statement_read ts (form.access {d} {ts = us} kind i) = access_word kind (us, 0) ∙ touch_read kind us i
statement_read ts form.body = refl
statement_read ts (form.computing {c} {d} {xs} {ys} name are n each m) = kernel_word name (xs ++ ys, 0) ∙ kernel_read name xs ys are n each m
statement_read ts (form.posting {a} {b} {c} {d} {hs} {xs} {ys} {zs} {os} {ss} call h s p t o u) = call_word call _
    ∙ posting_read call hs xs ys zs os ss h s p t o u
statement_read ts (form.wait {d} {ts = us} later name s) = wait_word later (token.Name name ∷ us, 0) ∙ wait_read later name us s
statement_read ts (form.waitall {d} {xs} {ts = us} later are n s) = waitall_word later (xs ++ us, 0) ∙ waitall_read later xs us are n s
