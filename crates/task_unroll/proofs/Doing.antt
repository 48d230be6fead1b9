-- The statements of a task's body: kernels, calls and waits.
use Rattle.std.proofs.Common.{◌≡◌, ◌≢◌, ℕ, zero, suc, ◌+◌, ◌*◌, ◌<◌, ◌≤◌, Bool, true, false, List, [], ◌∷◌, ◌++◌, length, Option, Some, None, Result}
use Rattle.std.proofs.Common.{Ok, Err, refl, sym, ap, ◌∙◌, subst, inl, inr, arith, is_some, is_none}
use Rattle.std.specs.Prelude.{Contains, ◌||◌, if◌then◌else◌, ⊤}
use Rattle.std.specs.List.{list_any}
use Rattle.rt_base.specs.declared.data.FaultKind.{FaultKind}
use Rattle.rt_base.specs.declared.data.FaultKind.TheVariants as fault
use Rattle.rt_base.specs.declared.data.Span.{Span}
use Rattle.rt_base.specs.declared.data.How.{How}
use Rattle.rt_base.specs.declared.data.Peer.{Peer}
use Rattle.rt_base.specs.declared.data.TagSel.{TagSel}
use Rattle.rt_base.specs.declared.data.Kernel.{Kernel}
use Rattle.rt_base.specs.declared.data.Handle.{Handle}
use Rattle.rt_base.specs.declared.data.Op.{Op}
use Rattle.rt_base.specs.declared.data.Op.TheVariants as op
use Rattle.rt_base.specs.Operations.{blocks, is_receive, postings}
use Rattle.rt_base.specs.InUse.{left_after, is_nth}
use Rattle.rt_base.specs.WellFormed.{OfSpan, IsTag, IsAddress}
use Rattle.task_tree.specs.declared.tree.SpanText.{SpanText}
use Rattle.task_tree.specs.declared.tree.PeerText.{PeerText}
use Rattle.task_tree.specs.declared.tree.TagText.{TagText}
use Rattle.task_tree.specs.Term.{Term}
use Rattle.task_names.specs.declared.meaning.Meaning.TheVariants as meaning
use Rattle.task_names.specs.Scopes.{Names, meaning_of, as_communicator}
use Rattle.task_unroll.specs.Unrolling.{◌>>=◌}
use Rattle.task_unroll.specs.States.{State}
use Rattle.task_unroll.specs.Operands.{span_of, spans_of, values_of, span_or_none, communicator_of, handles_of, peer_value, tag_value, peer_of, tag_of}
use Rattle.task_unroll.specs.Checks.{Check, check, passed, no_handle, stands_twice}
use Rattle.rt_base.specs.KernelForms.{source_count}
use Rattle.task_unroll.specs.Acts.{listed, op_done, kernel_call, kernel_done, call_checks, is_any_peer, is_any_tag, is_recv, handle_free}
use Rattle.task_unroll.specs.Acts.{handle_check, with_handle, call_done, with_idle, wait_done}
use Rattle.task_unroll.proofs.Results.{Holds, bind, bind_by, holds_of}
use Rattle.task_unroll.proofs.Bodies.{left_stays, left_below, left_new}
use Rattle.task_unroll.proofs.Meanings.{AllMean, all_mean_with}
use Rattle.task_unroll.proofs.Chains.{at_operation, Operated, Tested, at_done, holds_weaker, bind_at, bind_operated, op_done_leaves}
use Rattle.task_unroll.proofs.Sound.{Stage, IsFit, HasNames, IsInside}
use Rattle.task_unroll.proofs.KeptNames.{communicator_is, once_with, names_after}
use Rattle.task_unroll.proofs.Regions.{InLens, span_in}
use Rattle.task_unroll.proofs.Kernels.{Sources, Each, IsCall, kernel_call_is}
use Rattle.task_unroll.proofs.Addresses.{IsPeerOf, peer_is, tag_is, address_of, IsFormed, formed_is}
use Rattle.task_unroll.proofs.Placed.{passes_of}
use Rattle.task_unroll.proofs.Growing.{grown_sound}
use Rattle.task_unroll.proofs.Waits.{Mean, handles_mean, as_many, all_open, all_other, names_idle}

spans_in : (s : State) (texts : List SpanText) → Holds (Each (InLens s.lens)) (spans_of s texts)
spans_in s [] = tt
spans_in s (text ∷ texts) =
    bind_by (InLens s.lens) (Each (InLens s.lens)) (span_of s text) _ (span_in s text) (λ span span_is.
    bind_by (Each (InLens s.lens)) (Each (InLens s.lens)) (spans_of s texts) _ (spans_in s texts) (λ spans each. (span_is, each)))

span_in_or_none : (s : State) (status : Option SpanText) → Holds (OfSpan (InLens s.lens)) (span_or_none s status)
span_in_or_none s None = tt
span_in_or_none s (Some text) = bind_by (InLens s.lens) (OfSpan (InLens s.lens)) (span_of s text) _ (span_in s text) (λ span span_is. span_is)

kernel_grows : (g : Stage) (n : ℕ) (s : State) (kind : Kernel) (operation : Op) → IsInside g s → Operated 0 0 s (at_operation n 0 0 s)
    → Tested no_handle operation (at_operation n 0 0 s)
    → IsCall (InLens s.lens) kind operation → IsInside g (at_done operation (at_operation n 0 0 s))
kernel_grows g n s kind (op.Compute of dst left right value step) inside counted tested is =
    grown_sound g n 0 0 s no_handle (op.Compute of dst left right value step) s.names s.lines inside counted tested
    (is.1, subst (λ (k : Kernel). Sources (source_count k) left right) (sym is.0) is.2, is.3, is.4) tt refl refl
    (names_after g.arrays g.comms s.names s.body (s.body ++ op.Compute of dst left right value step ∷ [])
    (λ name k posted left_. left_stays 0 k s.body (op.Compute of dst left right value step) refl left_) inside.sound.names)
kernel_grows g n s kind (op.Post how span whom tag comm status) inside counted tested is = absurd is
kernel_grows g n s kind (op.Await later handles status) inside counted tested is = absurd is

pub kernel_done_sound : (g : Stage) (line : ℕ) (kind : Kernel) (texts : List SpanText) (terms : List Term) (s : State) → IsInside g s
    → Holds (IsInside g) (kernel_done line kind texts terms s)
unfolding kernel_done
kernel_done_sound g line kind texts terms s inside = bind_operated (IsInside g) 0 0 s _ (λ n counted.
    bind_at (IsInside g) line (spans_of (at_operation n 0 0 s) texts) _ (λ spans spans_is.
    bind_at (IsInside g) line (values_of (at_operation n 0 0 s) terms) _ (λ numbers numbers_is.
    bind_at (IsInside g) line (kernel_call kind spans numbers) _ (λ operation operation_is.
    let each = holds_of (Each (InLens s.lens)) (spans_of (at_operation n 0 0 s) texts) spans (spans_in (at_operation n 0 0 s) texts) spans_is in
    let call = holds_of (IsCall (InLens s.lens) kind) (kernel_call kind spans numbers) operation (kernel_call_is (InLens s.lens) kind spans numbers each)
    operation_is in
    holds_weaker (λ (u : State). (u ≡ at_done operation (at_operation n 0 0 s))
    × Tested no_handle operation (at_operation n 0 0 s)) (IsInside g) (op_done line no_handle operation (at_operation n 0 0 s))
    (λ u both. subst (IsInside g) (sym both.0) (kernel_grows g n s kind operation inside counted both.1 call))
    (op_done_leaves line no_handle operation (at_operation n 0 0 s))))))

none_given : (s : State) (status : Option SpanText) (cells : Option Span) → is_some status ≡ false → span_or_none s status ≡ Ok cells → cells ≡ None
none_given s None cells none is = cc
none_given s (Some text) cells none is = absurd (cc)

-- a call that has a handle doesn't wait
open_by_handle : (b : Bool) (name : List ℕ) → (if b then is_some (Some name) else is_none (Some name)) ≡ false → b ≡ false
open_by_handle true name h = absurd (cc)
open_by_handle false name h = refl

names_call : (arrays comms : ℕ) (names : Names) (body : List Op) (call : How) (handle : Option (List ℕ)) (span : Span) (whom : Peer) (tag : TagSel) (comm : ℕ)
    (status : Option Span)
    → (if blocks call then is_some handle else is_none handle) ≡ false → HasNames arrays comms names body
    → HasNames arrays comms (with_handle handle (postings body) names) (body ++ op.Post call span whom tag comm status ∷ [])
names_call arrays comms names body call None span whom tag comm status formed has =
    names_after arrays comms names body (body ++ op.Post call span whom tag comm status ∷ [])
    (λ name k posted left. left_stays 0 k body (op.Post call span whom tag comm status) refl left) has
names_call arrays comms names body call (Some name) span whom tag comm status formed has =
    let after = body ++ op.Post call span whom tag comm status ∷ [] in
    let old = names_after arrays comms names body after (λ other k posted left. left_stays 0 k body (op.Post call span whom tag comm status) refl left) has in
    let new = subst (λ (m : ℕ). Contains (left_after 0 after) m) (from_zero (postings body))
    (left_new 0 body call span whom tag comm status (open_by_handle (blocks call) name formed)) in
    record {
      fit = all_mean_with (IsFit arrays comms after) names name (meaning.Posted (postings body)) old.fit new;
      once = once_with names name (meaning.Posted (postings body)) has.once (λ n other same posted.
          let below = left_below 0 n body (has.fit other (meaning.Posted n) posted) in
          let equal : postings body ≡ n = cc in
          absurd (omega (arith, below, equal)));
    }
  where
    from_zero : (m : ℕ) → 0 + m ≡ m
    from_zero m = omega arith

communicator_below : (g : Stage) (s : State) (on : Option (List ℕ)) (comm : ℕ) → IsInside g s → communicator_of s on ≡ Ok comm → comm < s.comms
communicator_below g s None comm inside is =
    let some = inside.sound.arrays.some_comm in let same = inside.sound.arrays.comm_count in let world : 0 ≡ comm = cc in omega (arith, some, same, world)
communicator_below g s (Some name) comm inside is =
    let below : comm < g.comms = inside.sound.names.fit name (meaning.Communicator comm) (communicator_is (meaning_of s.names name) comm is) in
    let same = inside.sound.arrays.comm_count in omega (arith, below, same)

send_address : (s : State) (call : How) (handle : Option (List ℕ)) (to : PeerText) (number : TagText) (status : Option SpanText) (w : _) (c : _) (p : Peer)
    (t : TagSel) → IsFormed call handle to number status
    → peer_value s to ≡ Ok w → tag_value s number ≡ Ok c → peer_of s.size w ≡ Ok p → tag_of c ≡ Ok t → is_receive call ≡ false → IsAddress p t
send_address s call handle to number status w c p t formed w_is c_is p_is t_is sends =
    address_of s to number w c p t (sym (ap (λ (b : Bool). if b then false else (is_any_peer to || is_any_tag number)) sends)
    ∙ formed.wildcards) w_is c_is p_is t_is

no_status : (s : State) (call : How) (handle : Option (List ℕ)) (to : PeerText) (number : TagText) (status : Option SpanText) (cells : Option Span)
    → IsFormed call handle to number status
    → span_or_none s status ≡ Ok cells → is_recv call ≡ false → cells ≡ None
no_status s call handle to number status cells formed cells_is waits =
    none_given s status cells (sym (ap (λ (b : Bool). if b then false else is_some status) waits) ∙ formed.statuses) cells_is

pub call_done_sound : (g : Stage) (line : ℕ) (call : How) (handle : Option (List ℕ)) (text : SpanText) (to : PeerText) (number : TagText)
    (on : Option (List ℕ)) (status : Option SpanText) (s : State)
    → IsInside g s → Holds (IsInside g) (call_done line call handle text to number on status s)
unfolding call_done
call_done_sound g line call handle text to number on status s inside =
    bind_at (IsInside g) line (passed (call_checks call handle to number status)) _ (λ checked checked_is.
    bind_operated (IsInside g) 1 0 s _ (λ n counted.
    bind_at (IsInside g) line (handle_free (at_operation n 1 0 s) handle) _ (λ free free_is.
    bind_at (IsInside g) line (span_of (at_operation n 1 0 s) text) _ (λ span span_is.
    bind_at (IsInside g) line (peer_value (at_operation n 1 0 s) to) _ (λ w w_is.
    bind_at (IsInside g) line (tag_value (at_operation n 1 0 s) number) _ (λ c c_is.
    bind_at (IsInside g) line (communicator_of (at_operation n 1 0 s) on) _ (λ comm comm_is.
    bind_at (IsInside g) line (span_or_none (at_operation n 1 0 s) status) _ (λ cells cells_is.
    bind_at (IsInside g) line (peer_of s.size w) _ (λ p p_is.
    bind_at (IsInside g) line (tag_of c) _ (λ t t_is.
    let at = at_operation n 1 0 s in
    let operation = op.Post call span p t comm cells in
    let test = handle_check at handle in
    let formed = formed_is call handle to number status checked checked_is in
    bind_by (λ (u : State). (u ≡ at_done operation at)
    × Tested test operation at) (IsInside g) (op_done line test operation at) _ (op_done_leaves line test operation at) (λ u both.
    subst (λ (v : State). IsInside g (record v { names = with_handle handle (postings s.body) v.names; lines = v.lines ++ line ∷ [] })) (sym both.0)
    (grown_sound g n 1 0 s test operation (with_handle handle (postings s.body) s.names) (s.lines ++ line ∷ []) inside counted both.1 (
      holds_of (InLens s.lens) (span_of at text) span (span_in at text) span_is,
      holds_of (OfSpan (InLens s.lens)) (span_or_none at status) cells (span_in_or_none at status) cells_is,
      holds_of (IsPeerOf s.size) (peer_of s.size w) p (peer_is s.size w) p_is,
      holds_of IsTag (tag_of c) t (tag_is c) t_is,
      communicator_below g s on comm inside comm_is,
      send_address at call handle to number status w c p t formed w_is c_is p_is t_is,
      no_status at call handle to number status cells formed cells_is,
    )
    tt refl refl
    (names_call g.arrays g.comms s.names s.body call handle span p t comm cells formed.handles inside.sound.names)))))))))))))

pub wait_done_sound : (g : Stage) (line : ℕ) (later : Bool) (handles : List (List ℕ)) (status : Option SpanText) (s : State) → IsInside g s
    → Holds (IsInside g) (wait_done line later handles status s)
unfolding wait_done
wait_done_sound g line later handles status s inside = bind_operated (IsInside g) 0 (length handles) s _ (λ n counted.
    bind_at (IsInside g) line (handles_of (at_operation n 0 (length handles) s) handles) _ (λ requests requests_are.
    bind_at (IsInside g) line (span_or_none (at_operation n 0 (length handles) s) status) _ (λ cells cells_is.
    let at = at_operation n 0 (length handles) s in
    let operation = op.Await later (listed requests) cells in
    let test = check fault.RequestTwice (stands_twice handles) in
    let means = holds_of (Mean s.names handles) (handles_of at handles) requests (handles_mean at handles) requests_are in
    let names = inside.sound.names in
    bind_by (λ (u : State). (u ≡ at_done operation at)
    × Tested test operation at) (IsInside g) (op_done line test operation at) _ (op_done_leaves line test operation at) (λ u both.
    let once = (passes_of s.accesses s.body test operation both.1.fine).names in
    subst (λ (v : State). IsInside g (record v { names = with_idle handles v.names })) (sym both.0)
    (grown_sound g n 0 (length handles) s test operation (with_idle handles s.names) s.lines inside counted both.1
    (holds_of (OfSpan (InLens s.lens)) (span_or_none at status) cells (span_in_or_none at status) cells_is)
    (all_open g.arrays g.comms s.names s.body handles requests names.fit means, all_other s.names handles requests names.once once means)
    refl (as_many s.names handles requests means)
    (names_idle g.arrays g.comms s.names s.body handles requests operation (λ k free. free) means names))))))
