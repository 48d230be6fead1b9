-- A buffer on its way out: what was appended so far, and what is left.
use Rattle.std.proofs.Common.{◌≡◌, ℕ, ◌+◌, List, [], ◌++◌, length, take, drop, Option, Some, None, ap, ◌∙◌, append_assoc, arith}
use Rattle.std.proofs.lemmas.Grind.{common_steps}
use Rattle.std.proofs.lemmas.List.{nil_from_length}
use Rattle.std.proofs.lemmas.List.{take-append-drop}
use Rattle.std.proofs.Math.Seq.{take-append_seam}
use Rattle.std.specs.Io.KnownBytes.{Appends, Keeps}
use Rattle.rt_base.specs.Outside.{AppendsFront}

-- the front of the buffer was appended, and the rest of it is left
pub record Sent (old new : Option (List ℕ)) (buf left : List ℕ) : Type 0 where
  pub front : List ℕ
  pub parts : buf ≡ front ++ left
  pub appended : Appends old new front

-- nothing was appended where nothing changed
appends_none : (old : Option (List ℕ)) → Appends old old []
appends_none None = tt
appends_none (Some xs) = grind (arith, common_steps)

-- two pieces, one after the other
appends_both : (old middle new : Option (List ℕ)) (xs ys : List ℕ) → Appends old middle xs → Appends middle new ys
    → Appends old new (xs ++ ys)
appends_both None middle new xs ys first second = tt
appends_both (Some zs) None new xs ys first second = absurd first
appends_both (Some zs) (Some ws) None xs ys first second = absurd second
appends_both (Some zs) (Some ws) (Some vs) xs ys first second = rw (second, first) (append_assoc zs xs ys)

-- what is kept was appended before
appends_kept : (old middle new : Option (List ℕ)) (xs : List ℕ) → Appends old middle xs → Keeps middle new → Appends old new xs
appends_kept None middle new xs first kept = tt
appends_kept (Some zs) None new xs first kept = absurd first
appends_kept (Some zs) (Some ws) None xs first kept = absurd kept
appends_kept (Some zs) (Some ws) (Some vs) xs first kept = kept ∙ first

-- at first all is left
pub sent_none : (old : Option (List ℕ)) (buf : List ℕ) → Sent old old buf buf
sent_none old buf = record { front = []; parts = grind (arith, common_steps); appended = appends_none old }

-- the front of what is left is appended
pub sent_more : (old middle new : Option (List ℕ)) (buf left : List ℕ) (n : ℕ) → Sent old middle buf left
    → Appends middle new (take n left) → Sent old new buf (drop n left)
sent_more old middle new buf left n sent more = record {
  front = sent.front ++ take n left;
  parts = rw (append_assoc, take-append-drop n left) sent.parts;
  appended = appends_both old middle new sent.front (take n left) sent.appended more;
}

-- a call that failed appends nothing
pub sent_kept : (old middle new : Option (List ℕ)) (buf left : List ℕ) → Sent old middle buf left → Keeps middle new
    → Sent old new buf left
sent_kept old middle new buf left sent kept = record {
  front = sent.front;
  parts = sent.parts;
  appended = appends_kept old middle new sent.front sent.appended kept;
}

-- so far a front of the buffer was appended
pub sent_front : (old new : Option (List ℕ)) (buf left : List ℕ) → Sent old new buf left → AppendsFront old new buf
sent_front old new buf left sent = (
  length sent.front,
  rw sent.parts (grind (arith, common_steps)),
  rw (sent.parts, take-append_seam sent.front left) sent.appended,
)

-- where nothing is left the whole buffer was appended
pub sent_whole : (old new : Option (List ℕ)) (buf left : List ℕ) → Sent old new buf left → length left ≡ 0 → Appends old new buf
sent_whole old new buf left sent none =
    let whole : buf ≡ sent.front = sent.parts ∙ (ap (λ back. sent.front ++ back) (nil_from_length left none) ∙ grind (arith, common_steps)) in
    rw whole sent.appended
