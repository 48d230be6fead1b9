-- What a piece that is handed over leaves, and what the last one does.
use Rattle.std.proofs.Common.{◌≡◌, ℕ, suc, ◌+◌, ◌≤◌, true, false, List, [], ◌∷◌, ◌++◌}
use Rattle.std.proofs.Common.{length, take, Option, refl, sym, ap, ◌∙◌, subst, arith, append_assoc, append-nil, slice_set}
use Rattle.std.proofs.KnownBytes.{Appends-nil, Appends-trans}
use Rattle.std.proofs.lemmas.Bool.{false≢true}
use Rattle.std.proofs.lemmas.Grind.{common_steps}
use Rattle.std.proofs.Math.Seq.{take-append-add, take-suc-set}
use Rattle.std.proofs.lemmas.List.{take_all, length-set}
use Rattle.std.specs.Io.KnownBytes.{Appends}
use Rattle.rt_base.specs.declared.outside.Put.{Put}
use Rattle.rt_base.specs.declared.outside.Put.TheVariants as put
use Rattle.rt_base.specs.Outside.{Rose, AppendsFront, Writes, HasWriteCause}
use Rattle.report_lines.specs.Writing.{Waiting, Output, output, Holds, Puts, Ends}

-- what went out before, and a front of what came then
appends_front : (start old new : Option (List ℕ)) (out behind text : List ℕ) → Appends start old out → AppendsFront old new behind
    → text ≡ out ++ behind → AppendsFront start new text
appends_front start old new out behind text first front same =
    let n = front.0 in
    let cut : take (length out + n) text ≡ out ++ take n behind = ap (take (length out + n)) same ∙ take-append-add out behind n in
    let few : length out + n ≤ length text = rw same (grind (arith, common_steps, front.1)) in
    (length out + n, few, subst (Appends start new) (sym cut) (Appends-trans start old new out (take n behind) first front.2))

rose_since : (before faults now : ℕ) → before ≤ faults → Rose faults now → Rose before now
rose_since before faults now later rose = omega arith

-- a front of a text is a front of what it begins
front_grows : (start new : Option (List ℕ)) (text more : List ℕ) → AppendsFront start new text → AppendsFront start new (text ++ more)
front_grows start new text more front =
    let n = front.0 in
    let few : n ≤ length (text ++ more) = grind (arith, common_steps, front.1) in
    let cut : take n (text ++ more) ≡ take n text = grind (arith, common_steps, front.1) in
    (n, few, subst (Appends start new) (sym cut) front.2)

-- the byte that fills the piece: the piece went out
pub piece_went : (old new : Option (List ℕ)) (faults later : ℕ) (waiting after : Waiting) (byte : ℕ) (piece : List ℕ) → waiting.failed ≡ false
    → piece ≡ waiting.pending ++ byte ∷ [] → after.pending ≡ [] → after.failed ≡ false → Appends old new piece → faults ≤ later
    → Puts (output old faults waiting) (output new later after) (byte ∷ [])
piece_went old new faults later waiting after byte piece ok filled none ok_after went grew = record {
  goes_on = λ start before text held.
      let whole = held.whole ok in record {
        later = omega (arith, held.later);
        whole = λ _. (
          whole.0 ++ piece,
          Appends-trans start old new whole.0 piece whole.1 went,
          ap (λ bytes. bytes ++ byte ∷ []) whole.2 ∙ append_assoc whole.0 waiting.pending (byte ∷ [])
              ∙ ap (λ bytes. whole.0 ++ bytes) (sym filled) ∙ sym (append-nil (whole.0 ++ piece)) ∙ ap (λ bytes. (whole.0 ++ piece) ++ bytes) (sym none),
        );
        front = λ failed. absurd (false≢true (sym ok_after ∙ failed));
      };
}

-- the byte that fills the piece: the write failed
pub piece_failed : (old new : Option (List ℕ)) (faults later : ℕ) (waiting after : Waiting) (byte : ℕ) (piece : List ℕ) → waiting.failed ≡ false
    → piece ≡ waiting.pending ++ byte ∷ [] → after.failed ≡ true → AppendsFront old new piece → faults ≤ later → Rose faults later
    → Puts (output old faults waiting) (output new later after) (byte ∷ [])
piece_failed old new faults later waiting after byte piece ok filled failed went grew rose = record {
  goes_on = λ start before text held.
      let whole = held.whole ok in
      let all : text ++ byte ∷ [] ≡ whole.0 ++ piece =
      ap (λ bytes. bytes ++ byte ∷ []) whole.2 ∙ append_assoc whole.0 waiting.pending (byte ∷ []) ∙ ap (λ bytes. whole.0 ++ bytes) (sym filled) in
      record {
        later = omega (arith, held.later);
        whole = λ ok_after. absurd (false≢true (sym ok_after ∙ failed));
        front = λ _. (appends_front start old new whole.0 piece (text ++ byte ∷ []) whole.1 went all, rose_since before faults later held.later rose);
      };
}

-- the last piece
pub ends_with : (old new : Option (List ℕ)) (faults later : ℕ) (waiting : Waiting) (piece : List ℕ) (answer : Put) → waiting.failed ≡ false
    → piece ≡ waiting.pending → Writes old new answer piece → HasWriteCause faults later answer
    → Ends (output old faults waiting) new later answer
ends_with old new faults later waiting piece put.All ok filled went cause = record {
  told = λ start before text held.
      let whole = held.whole ok in
      let all : text ≡ whole.0 ++ piece = whole.2 ∙ ap (λ bytes. whole.0 ++ bytes) (sym filled) in (
        subst (Appends start new) (sym all) (Appends-trans start old new whole.0 piece whole.1 went),
        record { later = omega (arith, held.later, cause.later); failed = λ failed. cc },
      );
}
ends_with old new faults later waiting piece put.Failed ok filled went cause = record {
  told = λ start before text held.
      let whole = held.whole ok in
      let all : text ≡ whole.0 ++ piece = whole.2 ∙ ap (λ bytes. whole.0 ++ bytes) (sym filled) in (
        appends_front start old new whole.0 piece text whole.1 went all,
        record { later = omega (arith, held.later, cause.later); failed = λ _. rose_since before faults later held.later (cause.failed refl) },
      );
}

-- a byte written behind all others but one fills the piece
pub filled : (bytes : List ℕ) (i byte : ℕ) → i + 1 ≡ length bytes → slice_set bytes i byte ≡ take i bytes ++ byte ∷ []
filled bytes i byte last =
    let all : length (slice_set bytes i byte) ≤ suc i = omega (arith, length-set bytes i byte) in
    sym (take_all (suc i) (slice_set bytes i byte) all) ∙ take-suc-set bytes i byte (omega arith)

-- nothing was put so far
held_none : (written : Option (List ℕ)) (faults : ℕ) (empty : Waiting) → empty.pending ≡ [] → empty.failed ≡ false
    → Holds written faults [] (output written faults empty)
held_none written faults empty none ok = record {
  later = omega arith;
  whole = λ _. ([], Appends-nil written, sym none);
  front = λ failed. absurd (false≢true (sym ok ∙ failed));
}

-- a text that was put from the beginning to the end
pub written_whole : (written later : Option (List ℕ)) (faults now : ℕ) (empty : Waiting) (last : Output) (text : List ℕ) (answer : Put)
    → empty.pending ≡ [] → empty.failed ≡ false → Puts (output written faults empty) last text → Ends last later now answer
    → Writes written later answer text × HasWriteCause faults now answer
written_whole written later faults now empty last text answer none ok put ended =
    ended.told written faults text (put.goes_on written faults [] (held_none written faults empty none ok))
