-- What a book with its list keeps, as the list grows by a pair.
use Rattle.std.proofs.Common.{◌≡◌, ◌≢◌, ℕ, zero, suc, ◌+◌, ◌-◌, ◌^◌, ◌<◌, Bool, true, List, [], ◌∷◌, ◌++◌, length, slice_get, slice_set, Option, Some, None}
use Rattle.std.proofs.Common.{refl, sym, ap, ◌∙◌, subst, inl, inr, arith, lt-ltb}
use Rattle.std.specs.Prelude.{nat_lt}
use Rattle.std.proofs.lemmas.List.{length-set, append-nil}
use Rattle.std.proofs.lemmas.Option.{slice_get_within}
use Rattle.rt_base.specs.declared.data.Status.{Status}
use Rattle.rt_base.specs.declared.data.Entry.{Entry}
use Rattle.rt_base.specs.declared.data.Program.{Program}
use Rattle.rt_base.specs.State.{opening}
use Rattle.task_machine.specs.Legal.{caller, callers, state_of, final}
use Rattle.task_machine.specs.Owed.{last_opened, opened_after}
use Rattle.task_machine.proofs.Runs.{callers-push}
use Rattle.task_machine.proofs.Items.{either_place, same_some}
use Rattle.task_machine.proofs.Lists.{slice_get-set_same, slice_get-set_other}
use Rattle.pass_table.specs.Passes.{PassIs, NoteIs}
use Rattle.shared_lists.specs.Deeds.{Move, Offer, Look, Stop, moves, how_many, state_seen, opened_seen, is_offered, is_stopped, look_number, stop_number}
use Rattle.shared_lists.specs.Sound.{MayDo}
use Rattle.shared_lists.proofs.Pairs.{moves-append, how_many-own, how_many-else}
use Rattle.shared_lists.proofs.Fronts.{sound_push}
use Rattle.shared_lists.proofs.Numbers.{deed_offer, deed_look, deed_stop, has_few}
use Rattle.shared_lists.proofs.Offers.{offered-own, offered-else}
use Rattle.listed_book.specs.Kept.{Insides, Keeps, IsPassOf}

-- the pen with one pair more
abbrev pub pen_with : NoteIs → ℕ → ℕ → NoteIs
pen_with pen c number = record pen { seen = pen.seen ++ (c, number) ∷ [] }

-- a pair that is no step
moves-else : (c number : ℕ) (xs : List (ℕ × ℕ)) → 0 < number → moves (xs ++ (c, number) ∷ []) ≡ moves xs
moves-else c zero xs some = absurd (omega arith)
moves-else c (suc number) xs some = moves-append xs ((c, suc number) ∷ []) ∙ append-nil (moves xs)

-- nor does it change the state
pub state-else : (p : Program) (c number : ℕ) (xs : List (ℕ × ℕ)) → 0 < number → state_seen p (xs ++ (c, number) ∷ []) ≡ state_seen p xs
state-else p c number xs some = ap (state_of p) (moves-else c number xs some)

length-callers : (p : Program) (es : List Entry) → length (callers p es) ≡ length es
length-callers p [] = refl
length-callers p (e ∷ es) = ap suc (length-callers p es)

-- the pairs of a list that is kept leave room for many more
pub has_room : (i : Insides) → Keeps i → length i.pen.seen < 2 ^ 64 - 1
has_room i k =
    let few = (has_few i.book.program i.book.workers i.pen.seen k.sound).short in
    let steps = ap length k.moved in
    omega (arith, few, length-callers i.book.program i.book.history, steps, k.short, k.well_formed.task_count)

-- the state after the history is that after the list
pub final_seen : (i : Insides) → Keeps i → final i.book.program i.book.history ≡ state_seen i.book.program i.pen.seen
final_seen i k = ap (state_of i.book.program) k.moved

-- what the last move of the history opened is what that of the list did
pub opened_here : (i : Insides) → Keeps i → last_opened i.book.program i.book.history ≡ opened_seen i.book.program i.pen.seen
unfolding last_opened
opened_here i k = ap (opened_after i.book.program (opening i.book.program) []) k.moved

-- what lies there stays where it is offered as before
stays_lying : (i : Insides) (c number : ℕ) → Keeps i → (t : ℕ) → number ≢ t + 1 → (lying : Option PassIs) → slice_get i.passes t ≡ Some lying
    → IsPassOf i.pen.table t (is_offered t (i.pen.seen ++ (c, number) ∷ [])) lying
stays_lying i c number k t other lying here =
    subst (λ (b : Bool). IsPassOf i.pen.table t b lying) (sym (offered-else t c number i.pen.seen other)) (k.passes_are t lying here)

-- a step of the machine
pub keeps_step : (i : Insides) (c : ℕ) (e : Entry) (h : List Entry) (ss : List Status) → Keeps i
    → MayDo i.book.program i.book.workers i.pen.seen c Move → caller (length i.book.program.tasks.items) e ≡ c
    → h ≡ i.book.history ++ e ∷ [] → length h < 2 ^ 32
    → Keeps (record i { book = record i.book { history = h; statuses = ss }; pen = pen_with i.pen c 0 })
keeps_step i c e h ss k may who grown short = record {
  well_formed = k.well_formed;
  few_workers = k.few_workers;
  sound = sound_push i.book.program i.book.workers i.pen.seen c 0 k.sound may;
  moved =
      ap (callers i.book.program) grown ∙ callers-push i.book.program i.book.history e
      ∙ ap (λ (cs : List ℕ). cs ++ caller (length i.book.program.tasks.items) e ∷ []) k.moved
      ∙ ap (λ (d : ℕ). moves i.pen.seen ++ d ∷ []) who ∙ sym (moves-append i.pen.seen ((c, 0) ∷ []));
  short = short;
  marks = k.marks;
  handed = λ t exists. k.handed t exists ∙ ap (λ (b : Bool). Some b) (sym (offered-else t c 0 i.pen.seen (no_offer t)));
  looked_is = k.looked_is ∙ sym (how_many-else (look_number i.book.program) c 0 i.pen.seen (λ e. absurd (omega (arith, e))));
  stopped_is = k.stopped_is ∙ ap (nat_lt 0) (sym (how_many-else (stop_number i.book.program) c 0 i.pen.seen (λ e. absurd (omega (arith, e)))));
  counted = k.counted;
  passes_are = λ t lying here. stays_lying i c 0 k t (no_offer t) lying here;
} where
  no_offer : (t : ℕ) → 0 ≢ t + 1
  no_offer t e = absurd (omega (arith, e))

-- a look
pub keeps_look : (i : Insides) (c : ℕ) → Keeps i → MayDo i.book.program i.book.workers i.pen.seen c Look
    → Keeps (record i { pen = pen_with i.pen c (look_number i.book.program); looked = i.looked + 1 })
keeps_look i c k may = record {
  well_formed = k.well_formed;
  few_workers = k.few_workers;
  sound = sound_push i.book.program i.book.workers i.pen.seen c number k.sound (subst (MayDo i.book.program i.book.workers i.pen.seen c) (sym
      (deed_look n)) may);
  moved = k.moved ∙ sym (moves-else c number i.pen.seen (omega arith));
  short = k.short;
  marks = k.marks;
  handed = λ t exists. k.handed t exists ∙ ap (λ (b : Bool). Some b) (sym (offered-else t c number i.pen.seen (no_offer t exists)));
  looked_is = ap (λ (m : ℕ). m + 1) k.looked_is ∙ sym (how_many-own number c i.pen.seen);
  stopped_is = k.stopped_is ∙ ap (nat_lt 0) (sym (how_many-else (stop_number i.book.program) c number i.pen.seen (λ e. absurd (omega (arith, e)))));
  counted = k.counted;
  passes_are = λ t lying here. stays_lying i c number k t (no_offer t (omega (arith, k.counted, slice_get_within i.passes t lying here))) lying here;
} where
  n : ℕ
  n = length i.book.program.tasks.items

  number : ℕ
  number = look_number i.book.program

  no_offer : (t : ℕ) → t < n → number ≢ t + 1
  no_offer t exists e = absurd (omega (arith, e, exists))

-- a list that ends with a stop has one
pub stopped_own : (p : Program) (c : ℕ) (xs : List (ℕ × ℕ)) → is_stopped p (xs ++ (c, stop_number p) ∷ []) ≡ true
stopped_own p c xs =
    lt-ltb 0 (how_many (stop_number p) (xs ++ (c, stop_number p) ∷ [])) (omega (arith, how_many-own (stop_number p) c xs))

-- a stop
pub keeps_stop : (i : Insides) (c : ℕ) → Keeps i → MayDo i.book.program i.book.workers i.pen.seen c Stop
    → Keeps (record i { pen = pen_with i.pen c (stop_number i.book.program); stopped = true })
keeps_stop i c k may = record {
  well_formed = k.well_formed;
  few_workers = k.few_workers;
  sound = sound_push i.book.program i.book.workers i.pen.seen c number k.sound (subst (MayDo i.book.program i.book.workers i.pen.seen c) (sym
      (deed_stop n)) may);
  moved = k.moved ∙ sym (moves-else c number i.pen.seen (omega arith));
  short = k.short;
  marks = k.marks;
  handed = λ t exists. k.handed t exists ∙ ap (λ (b : Bool). Some b) (sym (offered-else t c number i.pen.seen (no_offer t exists)));
  looked_is = k.looked_is ∙ sym (how_many-else (look_number i.book.program) c number i.pen.seen (λ e. absurd (omega (arith, e))));
  stopped_is = sym (stopped_own i.book.program c i.pen.seen);
  counted = k.counted;
  passes_are = λ t lying here. stays_lying i c number k t (no_offer t (omega (arith, k.counted, slice_get_within i.passes t lying here))) lying here;
} where
  n : ℕ
  n = length i.book.program.tasks.items

  number : ℕ
  number = stop_number i.book.program

  no_offer : (t : ℕ) → t < n → number ≢ t + 1
  no_offer t exists e = absurd (omega (arith, e, exists))

-- an offer: the task is handed out, and its pass lies there no longer
pub keeps_offer : (i : Insides) (c t : ℕ) → Keeps i → t < length i.book.program.tasks.items
    → MayDo i.book.program i.book.workers i.pen.seen c (Offer t)
    → Keeps (record i { book = record i.book { handed = slice_set i.book.handed t true }; pen = pen_with i.pen c (t + 1); passes = slice_set i.passes t None })
keeps_offer i c t k exists may = record {
  well_formed = k.well_formed;
  few_workers = k.few_workers;
  sound = sound_push i.book.program i.book.workers i.pen.seen c (t + 1) k.sound
      (subst (MayDo i.book.program i.book.workers i.pen.seen c) (sym (deed_offer n t exists)) may);
  moved = k.moved ∙ sym (moves-else c (t + 1) i.pen.seen (omega arith));
  short = k.short;
  marks = length-set i.book.handed t true ∙ k.marks;
  handed = handed;
  looked_is = k.looked_is ∙ sym (how_many-else (look_number i.book.program) c (t + 1) i.pen.seen (λ e. absurd (omega (arith, e, exists))));
  stopped_is = k.stopped_is ∙ ap (nat_lt 0) (sym (how_many-else (stop_number i.book.program) c (t + 1) i.pen.seen (λ e. absurd (omega (arith, e, exists)))));
  counted = length-set i.passes t None ∙ k.counted;
  passes_are = passes_are;
} where
  n : ℕ
  n = length i.book.program.tasks.items

  handed : (u : ℕ) → u < n → slice_get (slice_set i.book.handed t true) u ≡ Some (is_offered u (i.pen.seen ++ (c, t + 1) ∷ []))
  handed u within = elim (either_place u t) [
    | inl same ↦
        subst (λ (v : ℕ). slice_get (slice_set i.book.handed t true) v ≡ Some (is_offered v (i.pen.seen ++ (c, t + 1) ∷ []))) (sym same)
        (slice_get-set_same i.book.handed t true (omega (arith, k.marks, exists)) ∙ ap (λ (b : Bool). Some b) (sym (offered-own t c i.pen.seen)))
    | inr other ↦
        slice_get-set_other i.book.handed t u true other ∙ k.handed u within
        ∙ ap (λ (b : Bool). Some b) (sym (offered-else u c (t + 1) i.pen.seen (λ e. other (omega (arith, e)))))
  ]

  passes_are : (u : ℕ) (lying : Option PassIs) → slice_get (slice_set i.passes t None) u ≡ Some lying
      → IsPassOf i.pen.table u (is_offered u (i.pen.seen ++ (c, t + 1) ∷ [])) lying
  passes_are u lying here = elim (either_place u t) [
    | inl same ↦
        let at_t = subst (λ (v : ℕ). slice_get (slice_set i.passes t None) v ≡ Some lying) same here in
        let gone : None ≡ lying = same_some (sym (slice_get-set_same i.passes t None (omega (arith, k.counted, exists))) ∙ at_t) in
        subst (λ (v : ℕ). IsPassOf i.pen.table v (is_offered v (i.pen.seen ++ (c, t + 1) ∷ [])) lying) (sym same)
        (subst (λ (x : Option PassIs). IsPassOf i.pen.table t (is_offered t (i.pen.seen ++ (c, t + 1) ∷ [])) x) gone
        (subst (λ (b : Bool). IsPassOf i.pen.table t b None) (sym (offered-own t c i.pen.seen)) tt))
    | inr other ↦ stays_lying i c (t + 1) k u (λ e. other (omega (arith, e))) lying (sym (slice_get-set_other i.passes t u None other) ∙ here)
  ]
