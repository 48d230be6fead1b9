-- Changes that are undone: what is written, and what is there again.
use Rattle.std.proofs.Common.{◌≡◌, ℕ, zero, suc, ◌≤◌, Bool, true, false, nat_eq, ◌||◌, List, [], ◌∷◌, ◌++◌, length, take, position, slice_get, Some}
use Rattle.std.proofs.Common.{None, refl, sym, ap, ◌∙◌, true≢false, arith}
use Rattle.std.proofs.lemmas.Bool.Decides.{nat_tests}
use Rattle.std.specs.Map.{lookup, keys_of}
use Rattle.std.specs.Str.{bytes_eq}
use Rattle.indexmap.specs.IndexMap.{set_value_at, insert_entry}
use Rattle.indexmap.specs.Layout.{length-set_value_at}
use Rattle.indexmap.proofs.MapLemmas.{insert_entry-first, Found-position}
use Rattle.task_names.specs.declared.meaning.Meaning.{Meaning}
use Rattle.task_names.specs.declared.log.Change.{Change}
use Rattle.task_names.specs.Scopes.{Names}
use Rattle.task_names.specs.Undoing.{undone, has_place, IsNoted, MeansNow}

-- where nothing stands, nothing is written
pub set_past : (ns : Names) (p : ℕ) (m : Meaning) → length ns ≤ p → set_value_at ns p m ≡ ns
set_past [] p m h = refl
set_past (e ∷ ns) zero m h = absurd (omega arith)
set_past (e ∷ ns) (suc p) m h = ap (λ t. e ∷ t) (set_past ns p m (omega arith))

set_same : (ns : Names) (p : ℕ) (name : List ℕ) (m : Meaning) → slice_get ns p ≡ Some (name, m) → set_value_at ns p m ≡ ns
set_same [] p name m h = refl
set_same (e ∷ ns) zero name m h = grind arith
set_same (e ∷ ns) (suc p) name m h = ap (λ t. e ∷ t) (set_same ns p name m h)

take_set : (n : ℕ) (ns : Names) (p : ℕ) (m : Meaning) → take n (set_value_at ns p m) ≡ set_value_at (take n ns) p m
take_set zero ns p m = refl
take_set (suc n) [] p m = refl
take_set (suc n) (e ∷ ns) zero m = refl
take_set (suc n) (e ∷ ns) (suc p) m = ap (λ t. e ∷ t) (take_set n ns p m)

set_twice : (ns : Names) (p : ℕ) (a b : Meaning) → set_value_at (set_value_at ns p a) p b ≡ set_value_at ns p b
set_twice [] p a b = refl
set_twice (e ∷ ns) zero a b = refl
set_twice (e ∷ ns) (suc p) a b = ap (λ t. e ∷ t) (set_twice ns p a b)

set_apart : (ns : Names) (p q : ℕ) (a b : Meaning) → nat_eq p q ≡ false → set_value_at (set_value_at ns q a) p b ≡ set_value_at (set_value_at ns p b) q a
set_apart [] p q a b n = refl
set_apart (e ∷ ns) zero zero a b n = absurd (true≢false n)
set_apart (e ∷ ns) zero (suc q) a b n = refl
set_apart (e ∷ ns) (suc p) zero a b n = refl
set_apart (e ∷ ns) (suc p) (suc q) a b n = ap (λ t. e ∷ t) (set_apart ns p q a b (grind (arith, nat_tests)))

-- a write that is written over
over : (cs : List Change) (ns : Names) (p : ℕ) (a b : Meaning) → set_value_at (undone cs (set_value_at ns p a)) p b ≡ set_value_at (undone cs ns) p b
over [] ns p a b = set_twice ns p a b
over (c ∷ cs) ns p a b = by (nat_eq p c.place) refl (over cs ns p a)
  where
    by : (s : Bool) → nat_eq p c.place ≡ s → ((d : Meaning) → set_value_at (undone cs (set_value_at ns p a)) p d ≡ set_value_at (undone cs ns) p d)
        → set_value_at (set_value_at (undone cs (set_value_at ns p a)) c.place c.meant) p b ≡ set_value_at (set_value_at (undone cs ns) c.place c.meant) p b
    by true e rest =
        let same : p ≡ c.place = grind (arith, nat_tests) in
        ap (λ q. set_value_at (set_value_at (undone cs (set_value_at ns p a)) q c.meant) p b) (sym same)
        ∙ set_twice (undone cs (set_value_at ns p a)) p c.meant b
        ∙ rest b ∙ sym (set_twice (undone cs ns) p c.meant b) ∙ ap (λ q. set_value_at (set_value_at (undone cs ns) q c.meant) p b) same
    by false e rest =
        set_apart (undone cs (set_value_at ns p a)) p c.place c.meant b e ∙ ap (λ ns. set_value_at ns c.place c.meant) (rest b)
        ∙ sym (set_apart (undone cs ns) p c.place c.meant b e)

-- what a place with a change means doesn't matter
unseen : (cs : List Change) (ns : Names) (p : ℕ) (a b : Meaning) → has_place p cs ≡ true → undone cs (set_value_at ns p a) ≡ undone cs (set_value_at ns p b)
unseen [] ns p a b h = absurd (true≢false (sym h))
unseen (c ∷ cs) ns p a b h = by (nat_eq p c.place) refl (unseen cs ns p a b)
  where
    by : (s : Bool) → nat_eq p c.place ≡ s → (has_place p cs ≡ true → undone cs (set_value_at ns p a) ≡ undone cs (set_value_at ns p b))
        → set_value_at (undone cs (set_value_at ns p a)) c.place c.meant ≡ set_value_at (undone cs (set_value_at ns p b)) c.place c.meant
    by true e rest =
        let same : p ≡ c.place = grind (arith, nat_tests) in
        ap (λ q. set_value_at (undone cs (set_value_at ns p a)) q c.meant) (sym same) ∙ over cs ns p a c.meant ∙ sym (over cs ns p b c.meant)
        ∙ ap (λ q. set_value_at (undone cs (set_value_at ns p b)) q c.meant) same
    by false e rest = ap (λ ns. set_value_at ns c.place c.meant) (rest (sym (ap (λ s. s || has_place p cs) e) ∙ h))

pub hidden : (cs : List Change) (c : Change) → has_place c.place cs ≡ true → IsNoted c cs cs
hidden cs c h names next = unseen cs names c.place next c.meant h

-- the newest change is undone first
undone_push : (cs : List Change) (c : Change) (ns : Names) → undone (cs ++ c ∷ []) ns ≡ undone cs (set_value_at ns c.place c.meant)
undone_push [] c ns = refl
undone_push (d ∷ cs) c ns = ap (λ ns. set_value_at ns d.place d.meant) (undone_push cs c ns)

pub pushed : (cs : List Change) (c : Change) → IsNoted c cs (cs ++ c ∷ [])
pushed cs c names next = undone_push cs c (set_value_at names c.place next) ∙ ap (undone cs) (set_twice names c.place next c.meant)

-- one change is undone
pub popped : (all cs : List Change) (c : Change) (n : ℕ) (ns more before : Names) → all ≡ cs ++ c ∷ [] → more ≡ set_value_at ns c.place c.meant
    → undone all (take n ns) ≡ before
    → undone cs (take n more) ≡ before
popped all cs c n ns more before all_is more_is h =
    ap (λ t. undone cs (take n t)) more_is ∙ ap (undone cs) (take_set n ns c.place c.meant) ∙ sym (undone_push cs c (take n ns))
    ∙ ap (λ t. undone t (take n ns)) (sym all_is) ∙ h

-- a change that was noted first leaves what the names meant before
pub changed : (old new : List Change) (c : Change) (n : ℕ) (ns : Names) (m : Meaning) → IsNoted c old new → MeansNow ns c
    → undone new (take n (set_value_at ns c.place m)) ≡ undone old (take n ns)
changed old new c n ns m noted now =
    ap (undone new) (take_set n ns c.place m) ∙ noted (take n ns) m
    ∙ ap (undone old) (sym (take_set n ns c.place c.meant) ∙ ap (take n) (set_same ns c.place now.0 c.meant now.1))

-- a new name goes last
kept_front : (ns : Names) (name : List ℕ) (m : Meaning) (n : ℕ) → lookup (bytes_eq name) ns ≡ None → n ≤ length ns
    → take n (insert_entry bytes_eq ns name m) ≡ take n ns
kept_front ns name m zero none h = refl
kept_front [] name m (suc n) none h = absurd (omega arith)
kept_front (e ∷ ns) name m (suc n) none h = by (bytes_eq name e.0) refl (λ more. kept_front ns name m n more (omega arith))
  where
    by : (b : Bool) → bytes_eq name e.0 ≡ b → (lookup (bytes_eq name) ns ≡ None → take n (insert_entry bytes_eq ns name m) ≡ take n ns)
        → take (suc n) (insert_entry bytes_eq (e ∷ ns) name m) ≡ e ∷ take n ns
    by true is rest = grind arith
    by false is rest = grind arith

-- a known name keeps its place
pub inserted : (ns : Names) (name : List ℕ) (m : Meaning) (p : ℕ) → position (bytes_eq name) (keys_of ns) ≡ Some p
    → insert_entry bytes_eq ns name m ≡ set_value_at ns p m
inserted ns name m p is = insert_entry-first bytes_eq name m ns p (Found-position (bytes_eq name) ns p is).first

-- a write keeps the number of names
pub length_set : (ns : Names) (p : ℕ) (m : Meaning) → length (set_value_at ns p m) ≡ length ns
length_set ns p m = length-set_value_at ns p m

pub means_now : (ns : Names) (p : ℕ) (name : List ℕ) (m : Meaning) → slice_get ns p ≡ Some (name, m) → MeansNow ns (record { place = p; meant = m })
means_now ns p name m is = (name, is)

-- a name that is new leaves what the names meant before
pub added : (old cs : List Change) (n : ℕ) (ns more before : Names) (name : List ℕ) (m : Meaning) → cs ≡ old → more ≡ insert_entry bytes_eq ns name m
    → lookup (bytes_eq name) ns ≡ None → n ≤ length ns → undone old (take n ns) ≡ before → undone cs (take n more) ≡ before
added old cs n ns more before name m same is none within h =
    ap (λ t. undone cs (take n t)) is ∙ ap (undone cs) (kept_front ns name m n none within) ∙ ap (λ t. undone t (take n ns)) same ∙ h

pub length_popped : (ns more : Names) (n : ℕ) (c : Change) → more ≡ set_value_at ns c.place c.meant → n ≤ length ns → n ≤ length more
length_popped ns more n c is within = let same = length_set ns c.place c.meant in let long = ap length is in omega arith
