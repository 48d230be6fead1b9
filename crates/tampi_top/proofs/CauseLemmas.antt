-- What is due of a told text is one thing alone.
use Rattle.std.proofs.Common.{◌≡◌, ℕ, ◌+◌, ◌≤◌, List, [], length, Option, Some, None, Result, Ok, Err, refl, ap, inl, inr, sym, ◌∙◌, subst, arith}
use Rattle.std.proofs.Common.{length-append}
use Rattle.rt_base.specs.declared.data.Status.{Status}
use Rattle.rt_base.specs.declared.data.Entry.{Entry}
use Rattle.rt_base.specs.declared.data.Program.{Program}
use Rattle.rt_base.specs.declared.data.FaultKind.{FaultKind}
use Rattle.std.specs.Io.KnownBytes.{Consumes}
use Rattle.task_tree.specs.declared.tree.Stmt.{Stmt}
use Rattle.task_parse.specs.Trees.{IsTree, IsFirstFault, IsOutcome}
use Rattle.task_parse.specs.Laws.{OneOutcome}
use Rattle.task_tree.specs.Blocks.{Block, written}
use Rattle.task_tree.specs.Laws.{OneTextInBlocks}
use Rattle.task_unroll.specs.declared.refusal.ExpandRefusal.{ExpandRefusal}
use Rattle.task_unroll.specs.declared.refusal.ExpandRefusal.TheVariants as unrolling
use Rattle.call_words.specs.declared.command.RunOptions.{RunOptions}
use Rattle.call_words.specs.declared.command.Command.{Command}
use Rattle.call_words.specs.declared.command.Command.TheVariants as asked
use Rattle.call_ends.specs.declared.ending.Verdict.{Verdict}
use Rattle.call_ends.specs.declared.ending.Refusal.{Refusal}
use Rattle.call_ends.specs.declared.ending.Refusal.TheVariants as refusal
use Rattle.call_ends.specs.declared.ending.Ending.{Ending}
use Rattle.call_ends.specs.declared.ending.Ending.TheVariants as ending
use Rattle.call_words.specs.Words.{command}
use Rattle.rt_base.specs.Outside.{Rose}
use Rattle.tampi_top.specs.Input.{IsReadWhole, IsTooLong}
use Rattle.tampi_top.specs.Accepted.{said_by, Unrolls, IsProgramText, IsFaultText, IsLimitText}
use Rattle.tampi_top.specs.Due.{Call, options_of, HasText, IsRun, IsText, IsRefusedText, IsDue}
use Rattle.tampi_top.specs.Laws.{IsGivenText, IsGiven, IsLeft}

-- what a text has: a tree or a first fault
abbrev Outcome : Type 0
Outcome = Result (List Stmt) (ℕ × FaultKind)

-- two outcomes of one text are the same
same_outcome : OneOutcome → (text : List ℕ) (one other : Outcome) → IsOutcome text one → IsOutcome text other → one ≡ other
same_outcome law text one other here there = let all = law text in all.2 one here ∙ sym (all.2 other there)

-- a text has no tree beside a fault
tree_and_fault : OneOutcome → (text : List ℕ) (stmts : List Stmt) (number : ℕ) (kind : FaultKind) → IsTree text stmts → IsFirstFault text number kind → ⊥
tree_and_fault law text stmts number kind tree fault = let e = same_outcome law text (Ok stmts) (Err (number, kind)) tree fault in cc

-- a text has one first fault
one_fault : OneOutcome → (text : List ℕ) (one other : ℕ × FaultKind) → IsFirstFault text one.0 one.1 → IsFirstFault text other.0 other.1 → one ≡ other
one_fault law text one other here there = let e = same_outcome law text (Err one) (Err other) here there in cc

-- a text has one tree
one_tree : OneOutcome → (text : List ℕ) (one other : List Stmt) → IsTree text one → IsTree text other → one ≡ other
one_tree law text one other here there = let e = same_outcome law text (Ok one) (Ok other) here there in cc

-- unrolling gives one thing of a text
one_unrolled : OneOutcome → OneTextInBlocks → (asked : RunOptions) (text : List ℕ) (one other : Result Program ExpandRefusal)
    → Unrolls asked text one → Unrolls asked text other → one ≡ other
one_unrolled law blocks asked text one other here there =
    let same : here.whole ≡ there.whole =
    blocks here.whole there.whole (one_tree law text (written here.whole) (written there.whole) here.spelled there.spelled) in
    sym here.unrolled ∙ ap (λ (whole : Block). said_by whole asked) same ∙ there.unrolled

-- a text that unrolls has no fault as it is read
unrolled_and_fault : OneOutcome → (asked : RunOptions) (text : List ℕ) (one : Result Program ExpandRefusal) (number : ℕ) (kind : FaultKind)
    → Unrolls asked text one → IsFirstFault text number kind → ⊥
unrolled_and_fault law asked text one number kind here fault = tree_and_fault law text (written here.whole) number kind here.spelled fault

-- a text that says a program is not refused
run_or_refused : OneOutcome → OneTextInBlocks → (asked : RunOptions) (text : List ℕ) (said : Program) (why : Refusal)
    → IsProgramText asked text said → IsRefusedText asked text why → ⊥
run_or_refused law blocks asked text said refusal.Words run refused = refused
run_or_refused law blocks asked text said refusal.ReadFault run refused = refused
run_or_refused law blocks asked text said refusal.TooLong run refused = refused
run_or_refused law blocks asked text said (refusal.Fault number kind) run (inl fault) =
    unrolled_and_fault law asked text (Ok said) number kind run fault
run_or_refused law blocks asked text said (refusal.Fault number kind) run (inr met) =
    let e = one_unrolled law blocks asked text (Ok said) (Err (unrolling.Fault number kind)) run met in cc
run_or_refused law blocks asked text said (refusal.Limit which) run met =
    let e = one_unrolled law blocks asked text (Ok said) (Err (unrolling.Limit which)) run met in cc

-- two faults of a text are one
one_text_fault : OneOutcome → OneTextInBlocks → (asked : RunOptions) (text : List ℕ) (number line : ℕ) (kind other : FaultKind)
    → IsFaultText asked text number kind → IsFaultText asked text line other → refusal.Fault number kind ≡ refusal.Fault line other
one_text_fault law blocks asked text number line kind other (inl here) (inl there) =
    ap (λ (f : ℕ × FaultKind). refusal.Fault f.0 f.1) (one_fault law text (number, kind) (line, other) here there)
one_text_fault law blocks asked text number line kind other (inl here) (inr there) =
    absurd (unrolled_and_fault law asked text (Err (unrolling.Fault line other)) number kind there here)
one_text_fault law blocks asked text number line kind other (inr here) (inl there) =
    absurd (unrolled_and_fault law asked text (Err (unrolling.Fault number kind)) line other here there)
one_text_fault law blocks asked text number line kind other (inr here) (inr there) =
    let e = one_unrolled law blocks asked text (Err (unrolling.Fault number kind)) (Err (unrolling.Fault line other)) here there in
    let lines : number ≡ line = cc in
    let kinds : kind ≡ other = cc in
    cc

-- a fault of a text stands beside no other outcome of unrolling
fault_and : OneOutcome → OneTextInBlocks → (asked : RunOptions) (text : List ℕ) (number : ℕ) (kind : FaultKind) (one : Result Program ExpandRefusal)
    → IsFaultText asked text number kind → Unrolls asked text one → one ≡ Err (unrolling.Fault number kind)
fault_and law blocks asked text number kind one (inl fault) met = absurd (unrolled_and_fault law asked text one number kind met fault)
fault_and law blocks asked text number kind one (inr fault) met = one_unrolled law blocks asked text one (Err (unrolling.Fault number kind)) met fault

-- a text is refused in one way
one_refusal : OneOutcome → OneTextInBlocks → (asked : RunOptions) (text : List ℕ) (one other : Refusal)
    → IsRefusedText asked text one → IsRefusedText asked text other → one ≡ other
one_refusal law blocks asked text refusal.Words other here there = absurd here
one_refusal law blocks asked text refusal.ReadFault other here there = absurd here
one_refusal law blocks asked text refusal.TooLong other here there = absurd here
one_refusal law blocks asked text (refusal.Fault number kind) refusal.Words here there = absurd there
one_refusal law blocks asked text (refusal.Fault number kind) refusal.ReadFault here there = absurd there
one_refusal law blocks asked text (refusal.Fault number kind) refusal.TooLong here there = absurd there
one_refusal law blocks asked text (refusal.Limit which) refusal.Words here there = absurd there
one_refusal law blocks asked text (refusal.Limit which) refusal.ReadFault here there = absurd there
one_refusal law blocks asked text (refusal.Limit which) refusal.TooLong here there = absurd there
one_refusal law blocks asked text (refusal.Fault number kind) (refusal.Fault line other) here there =
    one_text_fault law blocks asked text number line kind other here there
one_refusal law blocks asked text (refusal.Fault number kind) (refusal.Limit which) here there =
    absurd (let e = fault_and law blocks asked text number kind (Err (unrolling.Limit which)) here there in cc)
one_refusal law blocks asked text (refusal.Limit which) (refusal.Fault number kind) here there =
    absurd (let e = fault_and law blocks asked text number kind (Err (unrolling.Limit which)) there here in cc)
one_refusal law blocks asked text (refusal.Limit which) (refusal.Limit other) here there =
    let e = one_unrolled law blocks asked text (Err (unrolling.Limit which)) (Err (unrolling.Limit other)) here there in
    let same : which ≡ other = cc in
    cc

-- a text of few bytes has no front of many
no_long_front : (left : Option (List ℕ)) (text front : List ℕ) → length text ≤ 1048576 → length front ≡ 1048577 → Consumes (Some text) left front → ⊥
no_long_front None text front short long taken = absurd taken
no_long_front (Some left) text front short long taken =
    let whole : length text ≡ length front + length left = ap length taken ∙ length-append front left in
    omega arith

-- the command of a call is the one that its words give
same_command : (one other : Command) (words : Option Command) → words ≡ Some one → words ≡ Some other → one ≡ other
same_command one other words here there = cc

-- what is given to `run`
given_input : (call : Call) (one : Command) (text : List ℕ) (options : RunOptions) → IsGiven call one text → command call.words ≡ Some (asked.Run options)
    → IsGivenText call (asked.Run options) text
given_input call one text options given is_run =
    subst (λ (other : Command). IsGivenText call other text) (same_command one (asked.Run options) (command call.words) given.is_asked is_run) given.is_text

not_too_long : (call : Call) (text : List ℕ) (options : RunOptions) → IsGivenText call (asked.Run options) text → IsTooLong call.given call.left → ⊥
not_too_long call text options given long =
    no_long_front call.left text long.0 given.1 long.1 (subst (λ (bytes : Option (List ℕ)). Consumes bytes call.left long.0) given.0 long.2)

-- what a call runs is what it was given to run
whole_text : (call : Call) (one : Command) (text input : List ℕ) → IsGivenText call one text → HasText call one input → (text ≡ input) × IsLeft call one
whole_text call (asked.Run options) text input given has =
    subst (λ (bytes : Option (List ℕ)). IsReadWhole bytes call.left input) given.0 has.0
whole_text call (asked.Heat options sizes) text input given has = (given ∙ sym has.0, has.1)

-- the text of a call is the one that it was given
given_text : (call : Call) (one other : Command) (text input : List ℕ) → IsGiven call one text → command call.words ≡ Some other → HasText call other input
    → (other ≡ one) × (text ≡ input) × IsLeft call one
given_text call one other text input given is_asked has =
    let same = same_command other one (command call.words) is_asked given.is_asked in
    let whole = whole_text call one text input given.is_text (subst (λ (which : Command). HasText call which input) same has) in
    (same, whole.0, whole.1)

-- what holds of the text that is run holds of the one that was given
of_given : (call : Call) (one : Command) (text : List ℕ) (Holds : RunOptions → List ℕ → Type 0) → IsGiven call one text → IsText call Holds
    → Holds (options_of one) text
of_given call one text Holds given read =
    let same = given_text call one read.asked text read.input given read.is_asked read.has_text in
    subst (λ (bytes : List ℕ). Holds (options_of one) bytes) (sym same.1)
    (subst (λ (which : Command). Holds (options_of which) read.input) same.0 read.holds)

-- a run is of a program that the given text says
run_of_given : (call : Call) (one : Command) (text : List ℕ) (outcome : Verdict) (entries : List Entry) (statuses : List Status) (written : List ℕ)
    → IsGiven call one text → IsRun call outcome entries statuses written → (program : Program) × IsProgramText (options_of one) text program
run_of_given call one text outcome entries statuses written given run =
    let same = given_text call one run.asked text run.input given run.is_asked run.has_text in (
      run.program,
      subst (λ (bytes : List ℕ). IsProgramText (options_of one) bytes run.program) (sym same.1)
          (subst (λ (which : Command). IsProgramText (options_of which) run.input run.program) same.0 run.accepted),
    )

-- words that give a command are not refused
not_refused : (one : Command) (words : Option Command) → words ≡ Some one → words ≡ None → ⊥
not_refused one words some none = cc

pub programs_are_run : OneOutcome → OneTextInBlocks
    → (call : Call) (ends : Ending) (entries : List Entry) (statuses : List Status) (written : List ℕ) → IsDue call ends entries statuses written
    → (one : Command) (text : List ℕ) (program : Program) → IsGiven call one text → IsProgramText (options_of one) text program
    → (outcome : Verdict) × (ends ≡ ending.Ran outcome) × IsLeft call one
programs_are_run law blocks call (ending.Ran outcome) entries statuses written due one text program given said =
    (outcome, refl, (given_text call one due.asked text due.input given due.is_asked due.has_text).2)
programs_are_run law blocks call (ending.Refused refusal.Words) entries statuses written due one text program given said =
    absurd (not_refused one (command call.words) given.is_asked due.0.0)
programs_are_run law blocks call (ending.Refused refusal.ReadFault) entries statuses written due one text program given said =
    absurd ((given_input call one text due.0.0 given due.0.1).2 due.0.2)
programs_are_run law blocks call (ending.Refused refusal.TooLong) entries statuses written due one text program given said =
    absurd (not_too_long call text due.0.0 (given_input call one text due.0.0 given due.0.1) due.0.2)
programs_are_run law blocks call (ending.Refused (refusal.Fault number kind)) entries statuses written due one text program given said =
    absurd (run_or_refused law blocks (options_of one) text program (refusal.Fault number kind) said
    (of_given call one text (λ options input. IsRefusedText options input (refusal.Fault number kind)) given due.0))
programs_are_run law blocks call (ending.Refused (refusal.Limit which)) entries statuses written due one text program given said =
    absurd (run_or_refused law blocks (options_of one) text program (refusal.Limit which) said
    (of_given call one text (λ options input. IsRefusedText options input (refusal.Limit which)) given due.0))

pub texts_are_refused : OneOutcome → OneTextInBlocks
    → (call : Call) (ends : Ending) (entries : List Entry) (statuses : List Status) (written : List ℕ) → IsDue call ends entries statuses written
    → (one : Command) (text : List ℕ) (why : Refusal) → IsGiven call one text → IsRefusedText (options_of one) text why → ends ≡ ending.Refused why
texts_are_refused law blocks call (ending.Ran outcome) entries statuses written due one text why given refused =
    let run = run_of_given call one text outcome entries statuses written given due in
    absurd (run_or_refused law blocks (options_of one) text run.0 why run.1 refused)
texts_are_refused law blocks call (ending.Refused refusal.Words) entries statuses written due one text why given refused =
    absurd (not_refused one (command call.words) given.is_asked due.0.0)
texts_are_refused law blocks call (ending.Refused refusal.ReadFault) entries statuses written due one text why given refused =
    absurd ((given_input call one text due.0.0 given due.0.1).2 due.0.2)
texts_are_refused law blocks call (ending.Refused refusal.TooLong) entries statuses written due one text why given refused =
    absurd (not_too_long call text due.0.0 (given_input call one text due.0.0 given due.0.1) due.0.2)
texts_are_refused law blocks call (ending.Refused (refusal.Fault number kind)) entries statuses written due one text why given refused =
    ap (λ (other : Refusal). ending.Refused other) (one_refusal law blocks (options_of one) text (refusal.Fault number kind) why
    (of_given call one text (λ options input. IsRefusedText options input (refusal.Fault number kind)) given due.0) refused)
texts_are_refused law blocks call (ending.Refused (refusal.Limit which)) entries statuses written due one text why given refused =
    ap (λ (other : Refusal). ending.Refused other) (one_refusal law blocks (options_of one) text (refusal.Limit which) why
    (of_given call one text (λ options input. IsRefusedText options input (refusal.Limit which)) given due.0) refused)
