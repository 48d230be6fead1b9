-- An operation that passes its tests may stand in the body of its task, in every program that continues the rank.
use Rattle.std.proofs.Common.{◌≡◌, ◌≢◌, ℕ, zero, suc, ◌+◌, ◌*◌, ◌<◌, ◌≤◌, Bool, true, false, List, [], ◌∷◌, ◌++◌, length, Option, Some, None, Result}
use Rattle.std.proofs.Common.{Ok, Err, refl, sym, ap, ◌∙◌, subst, arith}
use Rattle.std.specs.Prelude.{ℤ, pos, negsuc, ◌&&◌, ◌||◌, not, nat_eq, option_to_list, if◌then◌else◌, is_some, ⊤}
use Rattle.std.specs.List.{list_any, list_all}
use Rattle.std.proofs.lemmas.Bool.Decides.{nat_tests}
use Rattle.rt_base.specs.declared.data.FaultKind.TheVariants as fault
use Rattle.rt_base.specs.declared.data.Span.{Span}
use Rattle.rt_base.specs.declared.data.Access.{Access}
use Rattle.rt_base.specs.declared.data.How.{How}
use Rattle.rt_base.specs.declared.data.How.TheVariants as how
use Rattle.rt_base.specs.declared.data.Peer.{Peer}
use Rattle.rt_base.specs.declared.data.Peer.TheVariants as peer
use Rattle.rt_base.specs.declared.data.TagSel.{TagSel}
use Rattle.rt_base.specs.declared.data.Kernel.{Kernel}
use Rattle.rt_base.specs.declared.data.Handle.{Handle}
use Rattle.rt_base.specs.declared.data.Op.{Op}
use Rattle.rt_base.specs.declared.data.Op.TheVariants as op
use Rattle.rt_base.specs.declared.data.TaskDef.{TaskDef}
use Rattle.rt_base.specs.declared.data.Program.{Program}
use Rattle.rt_base.specs.Listing.{Listing}
use Rattle.rt_base.specs.Spans.{span_len}
use Rattle.rt_base.specs.Operations.{is_receive}
use Rattle.rt_base.specs.Touched.{reads, writes, is_declared, is_writable}
use Rattle.rt_base.specs.InUse.{is_in_use}
use Rattle.rt_base.specs.WellFormed.{OfSpan, MayRead, MayWrite, IsPeer, IsTag, IsAddress, IsPostingOf, IsOperation}
use Rattle.task_unroll.specs.Checks.{Check, check, passed, differs, has_wrong_length, has_bad_shift, has_no_source, form_checks, op_checks}
use Rattle.rt_base.specs.KernelForms.{source_count}
use Rattle.task_unroll.specs.Acts.{is_recv}
use Rattle.task_unroll.proofs.Results.{passed_first, passed_front}
use Rattle.task_unroll.proofs.Cells.{both_true, not_false, all_append, declared, writable}
use Rattle.task_unroll.proofs.Sound.{Continues}
use Rattle.task_unroll.proofs.Regions.{InLens, span_of_program}
use Rattle.task_unroll.proofs.Kernels.{Sources, is_kernel_call}
use Rattle.task_unroll.proofs.Addresses.{IsPeerOf}

-- what the tests of an operation say
pub record Passes (accesses : List Access) (earlier : List Op) (handles : Check) (operation : Op) : Type 0 where
  pub written : list_all (is_declared accesses) (writes accesses operation) ≡ true
  pub read : list_all (is_declared accesses) (reads accesses operation) ≡ true
  pub writable : list_all (is_writable accesses) (writes accesses operation) ≡ true
  pub form : passed (form_checks operation) ≡ Ok tt
  pub names : handles.finds ≡ false
  pub free : is_in_use accesses earlier operation ≡ false

pub passes_of : (accesses : List Access) (earlier : List Op) (handles : Check) (operation : Op)
    → passed (op_checks accesses earlier handles operation) ≡ Ok tt → Passes accesses earlier handles operation
passes_of accesses earlier handles operation is =
    let last = check fault.InUse (is_in_use accesses earlier operation) in
    let rest = form_checks operation ++ handles ∷ last ∷ [] in
    let second_check = check fault.NotWritable (not (list_all (is_writable accesses) (writes accesses operation))) in
    let first = passed_first (check fault.NotDeclared (not (list_all (is_declared accesses) (writes accesses operation ++ reads accesses operation))))
    (second_check ∷ rest) tt is in
    let second = passed_first second_check rest tt first.1 in
    let form = passed_front (form_checks operation) (handles ∷ last ∷ []) tt second.1 in
    let names = passed_first handles (last ∷ []) tt form.1 in
    let free = passed_first last [] tt names.1 in
    let all = all_append (is_declared accesses) (writes accesses operation) (reads accesses operation)
    (not_false (list_all (is_declared accesses) (writes accesses operation ++ reads accesses operation)) first.0) in
    record {
      written = all.0;
      read = all.1;
      writable = not_false (list_all (is_writable accesses) (writes accesses operation)) second.0;
      form =
          form.0;
      names = names.0;
      free = free.0;
    }

-- what the operands of an operation are
abbrev pub HasOperands : ℕ → ℕ → List ℕ → Op → Type 0
HasOperands size comms lens (op.Compute kind dst left right value step) = InLens lens dst × Sources (source_count kind) left right × OfSpan (InLens lens) left
    × OfSpan (InLens lens) right
HasOperands size comms lens (op.Post kind span whom tag comm status) =
    InLens lens span × OfSpan (InLens lens) status × IsPeerOf size whom × IsTag tag × (comm < comms) × (is_receive kind ≡ false
    → IsAddress whom tag) × (is_recv kind ≡ false → status ≡ None)
HasOperands size comms lens (op.Await later handles status) = OfSpan (InLens lens) status

first_of_all : {X : Type 0} (test : X → Bool) (x : X) (xs : List X) → list_all test (x ∷ xs) ≡ true → test x ≡ true
first_of_all test x xs all = (both_true (test x) (list_all test xs) all).0

may_write : (prior : List ℕ) (size comms : ℕ) (lens : List ℕ) (p : Program) (task : TaskDef) (span : Span) → Continues prior task.rank size comms lens p
    → InLens lens span
    → is_declared task.accesses.items span ≡ true → is_writable task.accesses.items span ≡ true → MayWrite p task span
may_write prior size comms lens p task span c is in_access to_write =
    record {
      in_array = span_of_program prior task.rank size comms lens p span c is;
      declared = declared task.accesses.items span in_access;
      writable =
          writable task.accesses.items span to_write;
    }

may_read : (prior : List ℕ) (size comms : ℕ) (lens : List ℕ) (p : Program) (task : TaskDef) (span : Span) → Continues prior task.rank size comms lens p
    → InLens lens span
    → is_declared task.accesses.items span ≡ true → MayRead p task span
may_read prior size comms lens p task span c is in_access =
    record { in_array = span_of_program prior task.rank size comms lens p span c is; declared = declared task.accesses.items span in_access }

may_read_each : (prior : List ℕ) (size comms : ℕ) (lens : List ℕ) (p : Program) (task : TaskDef) (source : Option Span)
    → Continues prior task.rank size comms lens p → OfSpan (InLens lens) source
    → list_all (is_declared task.accesses.items) (option_to_list source) ≡ true → OfSpan (MayRead p task) source
may_read_each prior size comms lens p task None c is all = tt
may_read_each prior size comms lens p task (Some span) c is all =
    may_read prior size comms lens p task span c is (first_of_all (is_declared task.accesses.items) span [] all)

-- a status is written, and has as many cells as it takes
status_written : (prior : List ℕ) (size comms : ℕ) (lens : List ℕ) (p : Program) (task : TaskDef) (len : ℕ) (status : Option Span)
    → Continues prior task.rank size comms lens p → OfSpan (InLens lens) status
    → list_all (is_declared task.accesses.items) (option_to_list status) ≡ true → list_all (is_writable task.accesses.items) (option_to_list status) ≡ true
    → differs len status ≡ false
    → OfSpan (λ cells. MayWrite p task cells × (span_len cells ≡ len)) status
status_written prior size comms lens p task len None c is in_access to_write same = tt
status_written prior size comms lens p task len (Some cells) c is in_access to_write same =
    let equal : nat_eq (span_len cells) len ≡ true = not_false (nat_eq (span_len cells) len) same in (
      may_write prior size comms lens p task cells c is (first_of_all (is_declared task.accesses.items) cells [] in_access)
          (first_of_all (is_writable task.accesses.items) cells [] to_write),
      grind (arith, nat_tests),
    )

sends : (prior : List ℕ) (size comms : ℕ) (lens : List ℕ) (p : Program) (task : TaskDef) (span : Span) (whom : Peer) (tag : TagSel) (status : Option Span)
    → Continues prior task.rank size comms lens p → InLens lens span
    → list_all (is_declared task.accesses.items) (span ∷ []) ≡ true → IsAddress whom tag → status ≡ None → IsPostingOf p task how.Send span whom tag status
sends prior size comms lens p task span whom tag None c is in_access address none =
    (may_read prior size comms lens p task span c is (first_of_all (is_declared task.accesses.items) span [] in_access), address)
sends prior size comms lens p task span whom tag (Some status) c is in_access address none = absurd (cc)

opens_receive : (prior : List ℕ) (size comms : ℕ) (lens : List ℕ) (p : Program) (task : TaskDef) (span : Span) (whom : Peer) (tag : TagSel)
    (status : Option Span) → Continues prior task.rank size comms lens p → InLens lens span
    → list_all (is_declared task.accesses.items) (span ∷ option_to_list status) ≡ true
    → list_all (is_writable task.accesses.items) (span ∷ option_to_list status) ≡ true → status ≡ None
    → IsPostingOf p task how.Irecv span whom tag status
opens_receive prior size comms lens p task span whom tag None c is in_access to_write none =
    may_write prior size comms lens p task span c is (first_of_all (is_declared task.accesses.items) span [] in_access)
    (first_of_all (is_writable task.accesses.items) span [] to_write)
opens_receive prior size comms lens p task span whom tag (Some status) c is in_access to_write none = absurd (cc)

posting : (prior : List ℕ) (size comms : ℕ) (lens : List ℕ) (p : Program) (task : TaskDef) (earlier : List Op) (handles : Check) (kind : How) (span : Span)
    (whom : Peer) (tag : TagSel) (comm : ℕ) (status : Option Span)
    → Continues prior task.rank size comms lens p → HasOperands size comms lens (op.Post kind span whom tag comm status)
    → Passes task.accesses.items earlier handles (op.Post kind span whom tag comm status) → IsPostingOf p task kind span whom tag status
posting prior size comms lens p task earlier handles how.Send span whom tag comm status c has passes =
    sends prior size comms lens p task span whom tag status c has.0 passes.read (has.5 refl) (has.6 refl)
posting prior size comms lens p task earlier handles how.Ssend span whom tag comm status c has passes =
    sends prior size comms lens p task span whom tag status c has.0 passes.read (has.5 refl) (has.6 refl)
posting prior size comms lens p task earlier handles how.Isend span whom tag comm status c has passes =
    sends prior size comms lens p task span whom tag status c has.0 passes.read (has.5 refl) (has.6 refl)
posting prior size comms lens p task earlier handles how.Issend span whom tag comm status c has passes =
    sends prior size comms lens p task span whom tag status c has.0 passes.read (has.5 refl) (has.6 refl)
posting prior size comms lens p task earlier handles how.Irecv span whom tag comm status c has passes =
    opens_receive prior size comms lens p task span whom tag status c has.0 passes.written passes.writable (has.6 refl)
posting prior size comms lens p task earlier handles how.Recv span whom tag comm status c has passes =
    let in_access = both_true (is_declared task.accesses.items span) (list_all (is_declared task.accesses.items) (option_to_list status)) passes.written in
    let to_write = both_true (is_writable task.accesses.items span) (list_all (is_writable task.accesses.items) (option_to_list status)) passes.writable in
    let length_is = (passed_first (check fault.StatusLength (differs 4 status)) [] tt passes.form).0 in (
      may_write prior size comms lens p task span c has.0 in_access.0 to_write.0,
      status_written prior size comms lens p task 4 status c has.1 in_access.1 to_write.1 length_is,
    )

peer_in : (p : Program) (size : ℕ) (whom : Peer) → p.ranks ≡ size → IsPeerOf size whom → IsPeer p whom
peer_in p size (peer.Rank rank) ranks is = omega arith
peer_in p size peer.Any ranks is = tt
peer_in p size peer.Null ranks is = tt

-- the operation may stand in the body of the task
pub is_operation : (prior : List ℕ) (size comms : ℕ) (lens : List ℕ) (p : Program) (task : TaskDef) (earlier : List Op) (handles : Check) (operation : Op)
    → Continues prior task.rank size comms lens p → HasOperands size comms lens operation → Passes task.accesses.items earlier handles operation
    → IsOperation p task operation
is_operation prior size comms lens p task earlier handles (op.Compute kind dst left right value step) c has passes =
    let sources = all_append (is_declared task.accesses.items) (option_to_list left) (option_to_list right) passes.read in
    let shift_check = check fault.BadShift (has_bad_shift kind value) in
    let source_check = check fault.EmptySource (has_no_source kind left) in
    let lengths = passed_first (check fault.LengthMismatch (has_wrong_length kind dst left right)) (shift_check ∷ source_check ∷ []) tt passes.form in
    let shift = passed_first shift_check (source_check ∷ []) tt lengths.1 in
    let some = passed_first source_check [] tt shift.1 in (
      may_write prior size comms lens p task dst c has.0 (first_of_all (is_declared task.accesses.items) dst [] passes.written)
          (first_of_all (is_writable task.accesses.items) dst [] passes.writable),
      may_read_each prior size comms lens p task left c has.2 sources.0,
      may_read_each prior size comms lens p task right c has.3 sources.1,
      is_kernel_call kind dst left right value has.1 lengths.0 shift.0 some.0,
    )
is_operation prior size comms lens p task earlier handles (op.Post kind span whom tag comm status) c has passes =
    let most = c.most_comms in
    let below = has.4 in (
      posting prior size comms lens p task earlier handles kind span whom tag comm status c has passes,
      peer_in p size whom c.ranks has.2,
      has.3,
      omega (arith, most, below),
    )
is_operation prior size comms lens p task earlier handles (op.Await later requests status) c has passes =
    let length_is = (passed_first (check fault.StatusLength (differs (4 * length requests.items) status)) [] tt passes.form).0 in
    status_written prior size comms lens p task (4 * length requests.items) status c has passes.written passes.writable length_is
