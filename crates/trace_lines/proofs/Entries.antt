-- Which entry a line with a word tells.
use Rattle.std.proofs.Common.{◌≡◌, ℕ, ◌+◌, ◌<◌, ◌^◌, false, true, List, [], ◌∷◌, ◌++◌, length, take, drop, get_or, arith, eqb, codes, pos, refl, sym}
use Rattle.std.proofs.Common.{ap, ◌∙◌, Bor, Option}
use Rattle.std.proofs.Common.{MatchOption}
use Rattle.std.specs.Prelude.{◌≢◌}
use Rattle.std.specs.Cmp.Lexicographic.{pointwise}
use Rattle.std.proofs.lemmas.Slice.Eq.{strip_prefix_is}
use Rattle.std.proofs.lemmas.Bool.Decides.{Decides-eqb}
use Rattle.std.specs.List.{flat_map}
use Rattle.rt_base.specs.declared.data.Status.{Status}
use Rattle.rt_base.specs.declared.data.TaskNo.{TaskNo}
use Rattle.rt_base.specs.declared.data.ReqNo.{ReqNo}
use Rattle.rt_base.specs.declared.data.Entry.{Entry}
use Rattle.rt_base.specs.declared.data.Entry.TheVariants as entry
use Rattle.rt_base.specs.Operations.{task_no}
use Rattle.report_lines.specs.Lines.{numbers_text, status_numbers, entry_numbers, entry_text}
use Rattle.trace_lines.specs.declared.entry.Word.{Word}
use Rattle.trace_lines.specs.declared.entry.Word.TheVariants as word
use Rattle.trace_lines.specs.Reading.{Told, Names, FitsEntry, IsLineOf, word_text}

-- the word is cut off exactly
pub stripped : (s p : List ℕ) (r : Option (Bor (List ℕ)))
    → MatchOption r (pointwise eqb (take (length p) s) p ≡ false)
    (λ x. (pointwise eqb (take (length p) s) p ≡ true) × (x.now ≡ drop (length p) s) × (length x.now + length p ≡ length s))
    → MatchOption r ((rest : List ℕ) → s ≢ p ++ rest) (λ x. s ≡ p ++ x.now)
stripped s p r h = strip_prefix_is Decides-eqb s p r h

pub no_word : (line : List ℕ) → ((rest : List ℕ) → line ≢ codes "start" ++ rest) → ((rest : List ℕ) → line ≢ codes "call" ++ rest)
    → ((rest : List ℕ) → line ≢ codes "leave" ++ rest)
    → ((rest : List ℕ) → line ≢ codes "return" ++ rest) → ((rest : List ℕ) → line ≢ codes "release" ++ rest) → ((rest : List ℕ) → line ≢ codes "poll" ++ rest)
    → (word : Word) (rest : List ℕ) → line ≢ word_text word ++ rest
no_word line start call leave return release poll word.Start rest = start rest
no_word line start call leave return release poll word.Call rest = call rest
no_word line start call leave return release poll word.Leave rest = leave rest
no_word line start call leave return release poll word.Return rest = return rest
no_word line start call leave return release poll word.Release rest = release rest
no_word line start call leave return release poll word.Poll rest = poll rest

-- a line with the word `start`
pub start_line : (numbers : List ℕ) (before : ℕ) (step : Entry) (told : List Status) → codes "start" ++ numbers ≡ entry_text step told
    → Names before step told → FitsEntry step
    → (task : TaskNo) × (step ≡ entry.Start task) × (told ≡ []) × (task.0 < 2 ^ 32) × (numbers ≡ numbers_text (pos task.0 ∷ []))
start_line numbers before (entry.Start task) told e names fits = (task, refl, names, fits, ap (λ (text : List ℕ). drop 5 text) e)
start_line numbers before (entry.Call task op pending) told e names fits = absurd (let apart : 115 ≡ 99 =
    ap (λ (text : List ℕ). get_or text 0 0) e in omega arith)
start_line numbers before (entry.Leave task op from count) told e names fits = absurd (let apart : 115 ≡ 108 =
    ap (λ (text : List ℕ). get_or text 0 0) e in omega arith)
start_line numbers before (entry.Return task) told e names fits = absurd (let apart : 115 ≡ 114 = ap (λ (text : List ℕ). get_or text 0 0) e in omega arith)
start_line numbers before (entry.Release task from count) told e names fits = absurd (let apart : 115 ≡ 114 =
    ap (λ (text : List ℕ). get_or text 0 0) e in omega arith)
start_line numbers before (entry.Poll poller req) told e names fits = absurd (let apart : 115 ≡ 112 = ap (λ (text : List ℕ). get_or text 0 0) e in omega arith)

-- a line with the word `call`
pub call_line : (numbers : List ℕ) (before : ℕ) (step : Entry) (told : List Status) → codes "call" ++ numbers ≡ entry_text step told
    → Names before step told → FitsEntry step
    → (task : TaskNo) × (op : ℕ) × (pending : ℕ) × (step ≡ entry.Call task op pending) × (told ≡ [])
    × ((task.0 < 2 ^ 32) × (op < 2 ^ 32) × (pending < 2 ^ 32)) × (numbers ≡ numbers_text (pos task.0 ∷ pos op ∷ pos pending ∷ []))
call_line numbers before (entry.Start task) told e names fits = absurd (let apart : 99 ≡ 115 = ap (λ (text : List ℕ). get_or text 0 0) e in omega arith)
call_line numbers before (entry.Call task op pending) told e names fits = (task, op, pending, refl, names, fits, ap (λ (text : List ℕ). drop 4 text) e)
call_line numbers before (entry.Leave task op from count) told e names fits = absurd (let apart : 99 ≡ 108 =
    ap (λ (text : List ℕ). get_or text 0 0) e in omega arith)
call_line numbers before (entry.Return task) told e names fits = absurd (let apart : 99 ≡ 114 = ap (λ (text : List ℕ). get_or text 0 0) e in omega arith)
call_line numbers before (entry.Release task from count) told e names fits = absurd (let apart : 99 ≡ 114 =
    ap (λ (text : List ℕ). get_or text 0 0) e in omega arith)
call_line numbers before (entry.Poll poller req) told e names fits = absurd (let apart : 99 ≡ 112 = ap (λ (text : List ℕ). get_or text 0 0) e in omega arith)

-- a line with the word `leave`
pub leave_line : (numbers : List ℕ) (before : ℕ) (step : Entry) (told : List Status) → codes "leave" ++ numbers ≡ entry_text step told
    → Names before step told → FitsEntry step
    → (task : TaskNo) × (op : ℕ) × (from : ℕ) × (count : ℕ) × (step ≡ entry.Leave task op from count) × ((from ≡ before) × (count ≡ length told))
    × ((task.0 < 2 ^ 32) × (op < 2 ^ 32) × (from < 2 ^ 32) × (count < 2 ^ 32)) × (numbers ≡ numbers_text (pos task.0 ∷ pos op ∷ flat_map status_numbers told))
leave_line numbers before (entry.Start task) told e names fits = absurd (let apart : 108 ≡ 115 = ap (λ (text : List ℕ). get_or text 0 0) e in omega arith)
leave_line numbers before (entry.Call task op pending) told e names fits = absurd (let apart : 108 ≡ 99 =
    ap (λ (text : List ℕ). get_or text 0 0) e in omega arith)
leave_line numbers before (entry.Leave task op from count) told e names fits = (task, op, from, count, refl, names, fits, ap (λ (text : List ℕ). drop 5 text) e)
leave_line numbers before (entry.Return task) told e names fits = absurd (let apart : 108 ≡ 114 = ap (λ (text : List ℕ). get_or text 0 0) e in omega arith)
leave_line numbers before (entry.Release task from count) told e names fits = absurd (let apart : 108 ≡ 114 =
    ap (λ (text : List ℕ). get_or text 0 0) e in omega arith)
leave_line numbers before (entry.Poll poller req) told e names fits = absurd (let apart : 108 ≡ 112 = ap (λ (text : List ℕ). get_or text 0 0) e in omega arith)

-- a line with the word `return`
pub return_line : (numbers : List ℕ) (before : ℕ) (step : Entry) (told : List Status) → codes "return" ++ numbers ≡ entry_text step told
    → Names before step told → FitsEntry step
    → (task : TaskNo) × (step ≡ entry.Return task) × (told ≡ []) × (task.0 < 2 ^ 32) × (numbers ≡ numbers_text (pos task.0 ∷ []))
return_line numbers before (entry.Start task) told e names fits = absurd (let apart : 114 ≡ 115 = ap (λ (text : List ℕ). get_or text 0 0) e in omega arith)
return_line numbers before (entry.Call task op pending) told e names fits = absurd (let apart : 114 ≡ 99 =
    ap (λ (text : List ℕ). get_or text 0 0) e in omega arith)
return_line numbers before (entry.Leave task op from count) told e names fits = absurd (let apart : 114 ≡ 108 =
    ap (λ (text : List ℕ). get_or text 0 0) e in omega arith)
return_line numbers before (entry.Return task) told e names fits = (task, refl, names, fits, ap (λ (text : List ℕ). drop 6 text) e)
return_line numbers before (entry.Release task from count) told e names fits = absurd (let apart : 116 ≡ 108 =
    ap (λ (text : List ℕ). get_or text 2 0) e in omega arith)
return_line numbers before (entry.Poll poller req) told e names fits = absurd (let apart : 114 ≡ 112 = ap (λ (text : List ℕ). get_or text 0 0) e in omega arith)

-- a line with the word `release`
pub release_line : (numbers : List ℕ) (before : ℕ) (step : Entry) (told : List Status) → codes "release" ++ numbers ≡ entry_text step told
    → Names before step told → FitsEntry step
    → (task : TaskNo) × (from : ℕ) × (count : ℕ) × (step ≡ entry.Release task from count) × ((from ≡ before) × (count ≡ length told))
    × ((task.0 < 2 ^ 32) × (from < 2 ^ 32) × (count < 2 ^ 32)) × (numbers ≡ numbers_text (pos task.0 ∷ flat_map status_numbers told))
release_line numbers before (entry.Start task) told e names fits = absurd (let apart : 114 ≡ 115 = ap (λ (text : List ℕ). get_or text 0 0) e in omega arith)
release_line numbers before (entry.Call task op pending) told e names fits = absurd (let apart : 114 ≡ 99 =
    ap (λ (text : List ℕ). get_or text 0 0) e in omega arith)
release_line numbers before (entry.Leave task op from count) told e names fits = absurd (let apart : 114 ≡ 108 =
    ap (λ (text : List ℕ). get_or text 0 0) e in omega arith)
release_line numbers before (entry.Return task) told e names fits = absurd (let apart : 108 ≡ 116 = ap (λ (text : List ℕ). get_or text 2 0) e in omega arith)
release_line numbers before (entry.Release task from count) told e names fits = (task, from, count, refl, names, fits, ap (λ (text : List ℕ). drop 7 text) e)
release_line numbers before (entry.Poll poller req) told e names fits = absurd (let apart : 114 ≡ 112 =
    ap (λ (text : List ℕ). get_or text 0 0) e in omega arith)

-- a line with the word `poll`
pub poll_line : (numbers : List ℕ) (before : ℕ) (step : Entry) (told : List Status) → codes "poll" ++ numbers ≡ entry_text step told
    → Names before step told → FitsEntry step
    → (poller : ℕ) × (req : ReqNo) × (step ≡ entry.Poll poller req) × (told ≡ [])
    × ((poller < 2 ^ 16) × (req.task.0 < 2 ^ 32) × (req.nth < 2 ^ 32)) × (numbers ≡ numbers_text (pos poller ∷ pos req.task.0 ∷ pos req.nth ∷ []))
poll_line numbers before (entry.Start task) told e names fits = absurd (let apart : 112 ≡ 115 = ap (λ (text : List ℕ). get_or text 0 0) e in omega arith)
poll_line numbers before (entry.Call task op pending) told e names fits = absurd (let apart : 112 ≡ 99 =
    ap (λ (text : List ℕ). get_or text 0 0) e in omega arith)
poll_line numbers before (entry.Leave task op from count) told e names fits = absurd (let apart : 112 ≡ 108 =
    ap (λ (text : List ℕ). get_or text 0 0) e in omega arith)
poll_line numbers before (entry.Return task) told e names fits = absurd (let apart : 112 ≡ 114 = ap (λ (text : List ℕ). get_or text 0 0) e in omega arith)
poll_line numbers before (entry.Release task from count) told e names fits = absurd (let apart : 112 ≡ 114 =
    ap (λ (text : List ℕ). get_or text 0 0) e in omega arith)
poll_line numbers before (entry.Poll poller req) told e names fits = (poller, req, refl, names, fits, ap (λ (text : List ℕ). drop 4 text) e)

at_word : (line : List ℕ) (step : Entry) (told : List Status) → line ≡ entry_text step told
    → ((word : Word) (rest : List ℕ) → line ≢ word_text word ++ rest) → ⊥
at_word line (entry.Start task) told e none = none word.Start (numbers_text (entry_numbers (entry.Start task) told)) e
at_word line (entry.Call task op pending) told e none = none word.Call (numbers_text (entry_numbers (entry.Call task op pending) told)) e
at_word line (entry.Leave task op from count) told e none = none word.Leave (numbers_text (entry_numbers (entry.Leave task op from count) told)) e
at_word line (entry.Return task) told e none = none word.Return (numbers_text (entry_numbers (entry.Return task) told)) e
at_word line (entry.Release task from count) told e none = none word.Release (numbers_text (entry_numbers (entry.Release task from count) told)) e
at_word line (entry.Poll poller req) told e none = none word.Poll (numbers_text (entry_numbers (entry.Poll poller req) told)) e

-- a line that tells an entry begins with a word
pub has_word : (before : ℕ) (line : List ℕ) (told : Told) → IsLineOf before line told → ((word : Word) (rest : List ℕ) → line ≢ word_text word ++ rest) → ⊥
has_word before line told tells none = at_word line told.step told.statuses tells.spelled none

-- an entry and its statuses
abbrev pub told_with : Entry → List Status → Told
told_with step items = record { step = step; statuses = items }

-- an entry `leave` with these parts is the one that is told
pub same_leave : (before task op count : ℕ) (items : List Status) (told : Told) (t : TaskNo) (o from n : ℕ) → told.step ≡ entry.Leave t o from n
    → task ≡ t.0 → op ≡ o → from ≡ before → n ≡ length told.statuses → count ≡ length items → items ≡ told.statuses
    → told_with (entry.Leave (task_no task) op before count) items ≡ told
same_leave before task op count items told t o from n is one two start long counted same =
    let own : task_no t.0 ≡ t = refl in
    let far : count ≡ n = counted ∙ ap (λ (told : List Status). length told) same ∙ sym long in
    let step : entry.Leave (task_no task) op before count ≡ told.step = cc in
    λ i. record { step = step i; statuses = same i }

-- an entry `release` with these parts is the one that is told
pub same_release : (before task count : ℕ) (items : List Status) (told : Told) (t : TaskNo) (from n : ℕ) → told.step ≡ entry.Release t from n
    → task ≡ t.0 → from ≡ before → n ≡ length told.statuses → count ≡ length items → items ≡ told.statuses
    → told_with (entry.Release (task_no task) before count) items ≡ told
same_release before task count items told t from n is one start long counted same =
    let own : task_no t.0 ≡ t = refl in
    let far : count ≡ n = counted ∙ ap (λ (told : List Status). length told) same ∙ sym long in
    let step : entry.Release (task_no task) before count ≡ told.step = cc in
    λ i. record { step = step i; statuses = same i }
