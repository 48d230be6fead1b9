-- What the numbers of a party tell of it, and the sum of those that are due.
use Rattle.std.proofs.Common.{◌≡◌, ℕ, suc, zero, ◌+◌, ◌<◌, ◌≤◌, ◌≢◌, ◌⊎◌, inl, inr, ◌==◌, sym, refl, ap, ◌∙◌, subst, arith}
use mathlib.Core.Logic.{dite}
use native.Mathlib.Decide.{ℕ_discrete}
use Rattle.meet_hall.specs.Parties.{Party, idle, kept, waits, puts, came, shut, out, due, live, stale, gone, dues}
use Rattle.meet_hall.specs.Seatings.{changed}
use Rattle.meet_hall.proofs.Changes.{changed-here, changed-else}

pub idle_of : (t : Party) → live t ≡ 0 → stale t ≡ 0 → gone t ≡ 0 → t ≡ idle
idle_of idle l s g = refl
idle_of kept l s g = absurd (omega arith)
idle_of (waits i) l s g = absurd (omega arith)
idle_of (puts i) l s g = absurd (omega arith)
idle_of came l s g = absurd (omega arith)
idle_of (shut i) l s g = absurd (omega arith)
idle_of (out i) l s g = absurd (omega arith)

pub kept_of : (t : Party) → 0 < stale t → t ≡ kept
kept_of idle s = absurd (omega arith)
kept_of kept s = refl
kept_of (waits i) s = absurd (omega arith)
kept_of (puts i) s = absurd (omega arith)
kept_of came s = absurd (omega arith)
kept_of (shut i) s = absurd (omega arith)
kept_of (out i) s = absurd (omega arith)

-- a ticket that is not due, not left and not out
pub ended : (t : Party) → due t ≡ 0 → stale t ≡ 0 → gone t ≡ 0 → (t ≡ idle) ⊎ (t ≡ came)
ended idle d s g = inl refl
ended kept d s g = absurd (omega arith)
ended (waits i) d s g = absurd (omega arith)
ended (puts i) d s g = absurd (omega arith)
ended came d s g = inr refl
ended (shut i) d s g = absurd (omega arith)
ended (out i) d s g = absurd (omega arith)

pub due_most : (t : Party) → due t ≤ 1
due_most idle = omega arith
due_most kept = omega arith
due_most (waits i) = omega arith
due_most (puts i) = omega arith
due_most came = omega arith
due_most (shut i) = omega arith
due_most (out i) = omega arith

pub dues_most : (f : ℕ → Party) (n : ℕ) → dues f n ≤ n
dues_most f zero = omega arith
dues_most f (suc n) = let a = dues_most f n in let b = due_most (f n) in omega arith

-- a ticket past the first n does not matter
dues_above : (f : ℕ → Party) (k : ℕ) (t : Party) (n : ℕ) → n ≤ k → dues (changed f k t) n ≡ dues f n
dues_above f k t zero h = refl
dues_above f k t (suc n) h =
    let a = dues_above f k t n (omega arith) in
    let b : due (changed f k t n) ≡ due (f n) = ap due (changed-else f k n t (λ e. omega arith)) in
    omega arith

pub dues_changed : (f : ℕ → Party) (k : ℕ) (t : Party) (n : ℕ) → k < n → dues (changed f k t) n + due (f k) ≡ dues f n + due t
dues_changed f k t zero h = absurd (omega arith)
dues_changed f k t (suc n) h = dite (ℕ_discrete n k)
    (λ e.
    let a = dues_above f k t n (omega arith) in
    let b : due (changed f k t n) ≡ due t = ap due (ap (λ i. changed f k t i) e ∙ changed-here f k t) in
    let c : due (f n) ≡ due (f k) = ap (λ i. due (f i)) e in
    omega arith)
    (λ ne.
    let a = dues_changed f k t n (omega arith) in
    let b : due (changed f k t n) ≡ due (f n) = ap due (changed-else f k n t ne) in
    omega arith)

pub due_dues : (f : ℕ → Party) (k n : ℕ) → k < n → due (f k) ≤ dues f n
due_dues f k zero h = absurd (omega arith)
due_dues f k (suc n) h = dite (ℕ_discrete n k)
    (λ e. let c : due (f n) ≡ due (f k) = ap (λ i. due (f i)) e in omega arith)
    (λ ne. let a = due_dues f k n (omega arith) in omega arith)

pub dues_same : (f g : ℕ → Party) (n : ℕ) → ((k : ℕ) → due (f k) ≡ due (g k)) → dues f n ≡ dues g n
dues_same f g zero h = refl
dues_same f g (suc n) h = let a = dues_same f g n h in let b = h n in omega arith
