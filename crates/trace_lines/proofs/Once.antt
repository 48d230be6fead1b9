-- What a text writes is one thing at most.
use Rattle.std.proofs.Common.{◌≡◌, ℕ, ◌<◌, ◌≤◌, ◌^◌, List, [], ◌∷◌, ◌++◌, length, ℤ, pos, refl, sym, ap, ◌∙◌, arith, drop, IsTrue, All, FitsSigned, w64}
use Rattle.std.specs.List.{flat_map}
use lib.Signed.{mag}
use Rattle.std.specs.Fmt.{signed_decimal}
use Rattle.std.proofs.lemmas.Fmt.{signed_decimal_injective}
use Rattle.std.proofs.lemmas.List.Elements.{All-head, All-drop}
use Rattle.rt_base.specs.declared.data.Status.{Status}
use Rattle.rt_base.specs.declared.data.TaskNo.{TaskNo}
use Rattle.rt_base.specs.declared.data.Entry.{Entry}
use Rattle.rt_base.specs.declared.data.Entry.TheVariants as entry
use Rattle.report_lines.specs.Lines.{number_text, numbers_text, status_numbers, entry_text}
use Rattle.trace_lines.specs.declared.header.Header.{Header}
use Rattle.trace_lines.specs.Reading.{ends_number, FitsStatus, Told, Names, FitsEntry, IsLineOf, IsHeader, header_numbers}
use Rattle.trace_lines.proofs.Numbers.{whole_number, sized, count_fits32, count_fits16, count_fits8, whole_fits}
use Rattle.trace_lines.proofs.Groups.{statuses_text, ends_text}
use Rattle.trace_lines.proofs.Entries.{start_line, call_line, leave_line, return_line, release_line, poll_line, told_with}

-- two numbers at one place are one, and so is what follows
cut : (y z : ℤ) (a b : List ℕ) → FitsSigned w64 y → FitsSigned w64 z → IsTrue (ends_number a) → IsTrue (ends_number b)
    → number_text y ++ a ≡ number_text z ++ b → (y ≡ z) × (a ≡ b)
cut y z a b small fits ends stops e =
    let behind : signed_decimal y ++ a ≡ signed_decimal z ++ b = ap (λ (text : List ℕ). drop 1 text) e in
    let one = whole_number y a (signed_decimal y ++ a) small ends refl in
    let other = whole_number z b (signed_decimal y ++ a) fits stops behind in
    (signed_decimal_injective y z (sized y small) (sized z fits) (sym one.0 ∙ other.0), sym one.1 ∙ other.1)

cut_count : (m n : ℕ) (a b : List ℕ) → FitsSigned w64 (pos m) → FitsSigned w64 (pos n) → IsTrue (ends_number a) → IsTrue (ends_number b)
    → number_text (pos m) ++ a ≡ number_text (pos n) ++ b → (m ≡ n) × (a ≡ b)
cut_count m n a b small fits ends stops e = let both = cut (pos m) (pos n) a b small fits ends stops e in (ap mag both.0, both.1)

cut_status : (x y : Status) (a b : List ℕ) → FitsStatus x → FitsStatus y → IsTrue (ends_number a) → IsTrue (ends_number b)
    → number_text x.source ++ (number_text x.tag ++ (number_text (pos x.count) ++ (number_text (pos x.error) ++ a)))
    ≡ number_text y.source ++ (number_text y.tag ++ (number_text (pos y.count) ++ (number_text (pos y.error) ++ b))) → (x ≡ y) × (a ≡ b)
cut_status x y a b small fits ends stops e =
    let source = cut x.source y.source _ _ (whole_fits x.source small.0) (whole_fits y.source fits.0) refl refl e in
    let tag = cut x.tag y.tag _ _ (whole_fits x.tag small.1) (whole_fits y.tag fits.1) refl refl source.1 in
    let count = cut_count x.count y.count _ _ (count_fits32 x.count small.2) (count_fits32 y.count fits.2) refl refl tag.1 in
    let error = cut_count x.error y.error a b (count_fits8 x.error small.3) (count_fits8 y.error fits.3) ends stops count.1 in
    (λ i. record { source = source.0 i; tag = tag.0 i; count = count.0 i; error = error.0 i }, error.1)

one_statuses : (xs ys : List Status) → All FitsStatus xs → All FitsStatus ys → statuses_text xs ≡ statuses_text ys → xs ≡ ys
one_statuses [] [] small fits e = refl
one_statuses [] (y ∷ ys) small fits e = absurd (cc)
one_statuses (x ∷ xs) [] small fits e = absurd (cc)
one_statuses (x ∷ xs) (y ∷ ys) small fits e =
    let both = cut_status x y (statuses_text xs) (statuses_text ys) (All-head FitsStatus x xs small) (All-head FitsStatus y ys fits)
    (ends_text xs) (ends_text ys) e in
    let more = one_statuses xs ys (All-drop FitsStatus 1 (x ∷ xs) small) (All-drop FitsStatus 1 (y ∷ ys) fits) both.1 in
    λ i. both.0 i ∷ more i

same_task : (t u : TaskNo) → t.0 ≡ u.0 → t ≡ u
same_task t u e = λ i. record { 0 = e i }

same_told : (step : Entry) (told : List Status) (other : Told) → step ≡ other.step → told ≡ other.statuses → told_with step told ≡ other
same_told step told other one same = λ i. record { step = one i; statuses = same i }

one_from : (before : ℕ) (line : List ℕ) (step : Entry) (told : List Status) (other : Told) → line ≡ entry_text step told → Names before step told
    → FitsEntry step → All FitsStatus told → IsLineOf before line other → told_with step told ≡ other
one_from before line (entry.Start task) told other e names fits small is =
    let p = start_line (numbers_text (pos task.0 ∷ [])) before other.step other.statuses (sym e ∙ is.spelled) is.names is.fits in
    let one = cut_count task.0 p.0.0 [] [] (count_fits32 task.0 fits) (count_fits32 p.0.0 p.3) refl refl p.4 in
    let step : entry.Start task ≡ entry.Start p.0 = ap (λ (t : TaskNo). entry.Start t) (same_task task p.0 one.0) in
    same_told (entry.Start task) told other (step ∙ sym p.1) (names ∙ sym p.2)
one_from before line (entry.Call task op pending) told other e names fits small is =
    let p = call_line (numbers_text (pos task.0 ∷ pos op ∷ pos pending ∷ [])) before other.step other.statuses (sym e ∙ is.spelled) is.names is.fits in
    let one = cut_count task.0 p.0.0 _ _ (count_fits32 task.0 fits.0) (count_fits32 p.0.0 p.5.0) refl refl p.6 in
    let two = cut_count op p.1 _ _ (count_fits32 op fits.1) (count_fits32 p.1 p.5.1) refl refl one.1 in
    let three = cut_count pending p.2 [] [] (count_fits32 pending fits.2) (count_fits32 p.2 p.5.2) refl refl two.1 in
    let step : entry.Call task op pending ≡ entry.Call p.0 p.1 p.2 = λ i. entry.Call (same_task task p.0 one.0 i) (two.0 i) (three.0 i) in
    same_told (entry.Call task op pending) told other (step ∙ sym p.3) (names ∙ sym p.4)
one_from before line (entry.Leave task op from count) told other e names fits small is =
    let p = leave_line (numbers_text (pos task.0 ∷ pos op ∷ flat_map status_numbers told)) before other.step other.statuses (sym e ∙ is.spelled)
    is.names is.fits in
    let one = cut_count task.0 p.0.0 _ _ (count_fits32 task.0 fits.0) (count_fits32 p.0.0 p.6.0) refl refl p.7 in
    let two = cut_count op p.1 _ _ (count_fits32 op fits.1) (count_fits32 p.1 p.6.1) (ends_text told) (ends_text other.statuses) one.1 in
    let same = one_statuses told other.statuses small is.statuses_fit two.1 in
    let start : from ≡ p.2 = names.0 ∙ sym p.5.0 in
    let long : count ≡ p.3 = names.1 ∙ ap (λ (all : List Status). length all) same ∙ sym p.5.1 in
    let step : entry.Leave task op from count ≡ entry.Leave p.0 p.1 p.2 p.3 = λ i. entry.Leave (same_task task p.0 one.0 i) (two.0 i) (start i) (long i) in
    same_told (entry.Leave task op from count) told other (step ∙ sym p.4) same
one_from before line (entry.Return task) told other e names fits small is =
    let p = return_line (numbers_text (pos task.0 ∷ [])) before other.step other.statuses (sym e ∙ is.spelled) is.names is.fits in
    let one = cut_count task.0 p.0.0 [] [] (count_fits32 task.0 fits) (count_fits32 p.0.0 p.3) refl refl p.4 in
    let step : entry.Return task ≡ entry.Return p.0 = ap (λ (t : TaskNo). entry.Return t) (same_task task p.0 one.0) in
    same_told (entry.Return task) told other (step ∙ sym p.1) (names ∙ sym p.2)
one_from before line (entry.Release task from count) told other e names fits small is =
    let p = release_line (numbers_text (pos task.0 ∷ flat_map status_numbers told)) before other.step other.statuses (sym e ∙ is.spelled)
    is.names is.fits in
    let one = cut_count task.0 p.0.0 _ _ (count_fits32 task.0 fits.0) (count_fits32 p.0.0 p.5.0) (ends_text told) (ends_text other.statuses) p.6 in
    let same = one_statuses told other.statuses small is.statuses_fit one.1 in
    let start : from ≡ p.1 = names.0 ∙ sym p.4.0 in
    let long : count ≡ p.2 = names.1 ∙ ap (λ (all : List Status). length all) same ∙ sym p.4.1 in
    let step : entry.Release task from count ≡ entry.Release p.0 p.1 p.2 = λ i. entry.Release (same_task task p.0 one.0 i) (start i) (long i) in
    same_told (entry.Release task from count) told other (step ∙ sym p.3) same
one_from before line (entry.Poll poller req) told other e names fits small is =
    let p = poll_line (numbers_text (pos poller ∷ pos req.task.0 ∷ pos req.nth ∷ [])) before other.step other.statuses (sym e ∙ is.spelled)
    is.names is.fits in
    let one = cut_count poller p.0 _ _ (count_fits16 poller fits.0) (count_fits16 p.0 p.4.0) refl refl p.5 in
    let two = cut_count req.task.0 p.1.task.0 _ _ (count_fits32 req.task.0 fits.1) (count_fits32 p.1.task.0 p.4.1) refl refl one.1 in
    let three = cut_count req.nth p.1.nth [] [] (count_fits32 req.nth fits.2) (count_fits32 p.1.nth p.4.2) refl refl two.1 in
    let same : req ≡ p.1 = λ i. record { task = same_task req.task p.1.task two.0 i; nth = three.0 i } in
    let step : entry.Poll poller req ≡ entry.Poll p.0 p.1 = λ i. entry.Poll (one.0 i) (same i) in
    same_told (entry.Poll poller req) told other (step ∙ sym p.2) (names ∙ sym p.3)

-- a line tells one entry at most
pub one_entry : (before : ℕ) (line : List ℕ) (one other : Told) → IsLineOf before line one → IsLineOf before line other → one ≡ other
one_entry before line one other is tells = one_from before line one.step one.statuses other is.spelled is.names is.fits is.statuses_fit tells

in_type : (n most : ℕ) → n ≤ most → most < 2 ^ 32 → FitsSigned w64 (pos n)
in_type n most small fits = count_fits32 n (omega arith)

-- a line is one header at most
pub one_header : (line : List ℕ) (one other : Header) → IsHeader line one → IsHeader line other → one ≡ other
one_header line x y is tells =
    let a = is.ranges in let b = tells.ranges in
    let texts : numbers_text (header_numbers x) ≡ numbers_text (header_numbers y) = ap (λ (text : List ℕ). drop 6 text) (sym is.spelled ∙ tells.spelled) in
    let version = cut_count x.version y.version _ _ (in_type x.version 1 (omega (arith, a.version)) (omega arith))
    (in_type y.version 1 (omega (arith, b.version)) (omega arith)) refl refl texts in
    let ranks = cut_count x.ranks y.ranks _ _ (in_type x.ranks 64 a.ranks.1 (omega arith)) (in_type y.ranks 64 b.ranks.1 (omega arith)) refl refl version.1 in
    let workers = cut_count x.workers y.workers _ _ (in_type x.workers 64 a.workers.1 (omega arith)) (in_type y.workers 64 b.workers.1 (omega arith))
    refl refl ranks.1 in
    let eager = cut_count x.eager y.eager [] [] (in_type x.eager 16777216 a.eager (omega arith)) (in_type y.eager 16777216 b.eager (omega arith))
    refl refl workers.1 in
    λ i. record { version = version.0 i; ranks = ranks.0 i; workers = workers.0 i; eager = eager.0 i }
