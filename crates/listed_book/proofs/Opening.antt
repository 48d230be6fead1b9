-- The opening book keeps what it has to, and the passes of tasks and pollers.
use Rattle.std.proofs.Common.{◌≡◌, ℕ, zero, suc, ◌+◌, ◌^◌, ◌<◌, ◌≤◌, false, List, [], ◌∷◌, length, take, drop, map, slice_get, Option, Some, option_map}
use Rattle.std.proofs.Common.{refl, sym, ap, ◌∙◌, subst, arith}
use Rattle.std.proofs.lemmas.List.{length-replicate, length-take, length-drop, length-map}
use Rattle.std.proofs.lemmas.Option.{slice_get-map, slice_get_within}
use Rattle.rt_base.specs.declared.data.Program.{Program}
use Rattle.rt_base.specs.WellFormed.{WellFormed}
use Rattle.task_machine.proofs.Items.{at_replicate, same_some}
use Rattle.book_parts.specs.Ledger.{Ledger, new_ledger}
use Rattle.pass_table.specs.Passes.{TableId, PassIs, NoteIs, new_pass, new_passes}
use Rattle.pass_table.proofs.FirstPasses.{each_has_its_pass}
use Rattle.shared_lists.specs.Deeds.{is_offered}
use Rattle.listed_book.specs.Kept.{Keeps, IsPassOf}

slice_get-drop : {X : Type 0} (n : ℕ) (xs : List X) (i : ℕ) → slice_get (drop n xs) i ≡ slice_get xs (n + i)
slice_get-drop zero xs i = ap (slice_get xs) (omega arith)
slice_get-drop (suc n) [] i = refl
slice_get-drop (suc n) (x ∷ xs) i =
    let next : suc n + i ≡ suc (n + i) = omega arith in slice_get-drop n xs i ∙ ap (slice_get (x ∷ xs)) (sym next)

slice_get-take : {X : Type 0} (n : ℕ) (xs : List X) (i : ℕ) → i < n → slice_get (take n xs) i ≡ slice_get xs i
slice_get-take zero xs i within = absurd (omega arith)
slice_get-take (suc n) [] i within = refl
slice_get-take (suc n) (x ∷ xs) zero within = refl
slice_get-take (suc n) (x ∷ xs) (suc i) within = slice_get-take n xs i (omega arith)

-- the passes that lie there: each of the first ones in a place of its own
passes_at_first : (table : TableId) (n all t : ℕ) → n ≤ all → t < n
    → slice_get (map (λ (pass : PassIs). Some pass) (take n (new_passes table all))) t ≡ Some (Some (new_pass table t))
passes_at_first table n all t few exists =
    slice_get-map (λ (pass : PassIs). Some pass) (take n (new_passes table all)) t
    ∙ ap (option_map (λ (pass : PassIs). Some pass)) (slice_get-take n (new_passes table all) t exists ∙ (each_has_its_pass table all).1 t (omega
    (arith, few, exists)))

length_at_first : (table : TableId) (n all : ℕ) → n ≤ all → length (map (λ (pass : PassIs). Some pass) (take n (new_passes table all))) ≡ n
length_at_first table n all few =
    length-map (take n (new_passes table all)) (λ (pass : PassIs). Some pass)
    ∙ omega (arith, length-take n (new_passes table all), (each_has_its_pass table all).0, few)

pub opening_kept : (p : Program) (workers : ℕ) (table : TableId) → WellFormed p → workers < 2 ^ 16
    → Keeps (record {
      book = new_ledger p workers;
      pen = record { table = table; seen = [] };
      looked = 0;
      stopped = false;
      passes = map (λ (pass : PassIs). Some pass) (take (length p.tasks.items) (new_passes table (length p.tasks.items + workers)));
    })
opening_kept p workers table well few = record {
  well_formed = well;
  few_workers = few;
  sound = tt;
  moved = refl;
  short = omega arith;
  marks = length-replicate n false;
  handed = λ t exists. at_replicate n false t exists;
  looked_is = refl;
  stopped_is = refl;
  counted = length_at_first table n (n + workers) (omega arith);
  passes_are = passes_are;
} where
  n : ℕ
  n = length p.tasks.items

  passes_are : (t : ℕ) (lying : Option PassIs) → slice_get (map (λ (pass : PassIs). Some pass) (take n (new_passes table (n + workers)))) t ≡ Some lying
      → IsPassOf table t (is_offered t []) lying
  passes_are t lying here =
      let exists : t < n =
      omega (
        arith,
        slice_get_within (map (λ (pass : PassIs). Some pass) (take n (new_passes table (n + workers)))) t lying here,
        length_at_first table n (n + workers) (omega arith),
      ) in
      subst (IsPassOf table t false) (same_some (sym (passes_at_first table n (n + workers) t (omega arith) exists) ∙ here)) (refl, refl, refl)

-- the same of what a new book is made of
pub opened_kept : (p : Program) (workers tasks : ℕ) (table : TableId) (book : Ledger) (pen : NoteIs) (passes : List (Option PassIs)) → WellFormed p
    → workers < 2 ^ 16 → tasks ≡ length p.tasks.items → book ≡ new_ledger p workers → pen ≡ record { table = table; seen = [] }
    → passes ≡ map (λ (pass : PassIs). Some pass) (take tasks (new_passes table (tasks + workers)))
    → Keeps (record { book = book; pen = pen; looked = 0; stopped = false; passes = passes })
opened_kept p workers tasks table book pen passes well few count book_is pen_is passes_is =
    let lying = passes_is ∙ ap (λ (n : ℕ). map (λ (pass : PassIs). Some pass) (take n (new_passes table (n + workers)))) count in
    subst (λ (xs : List (Option PassIs)). Keeps (record { book = book; pen = pen; looked = 0; stopped = false; passes = xs })) (sym lying)
    (subst (λ (n : NoteIs). Keeps (record { book = book; pen = n; looked = 0; stopped = false; passes = first })) (sym pen_is)
    (subst (λ (b : Ledger). Keeps (record { book = b; pen = record { table = table; seen = [] }; looked = 0; stopped = false; passes = first })) (sym book_is)
    (opening_kept p workers table well few))) where
      first : List (Option PassIs)
      first = map (λ (pass : PassIs). Some pass) (take (length p.tasks.items) (new_passes table (length p.tasks.items + workers)))

-- the passes of the pollers
pub pollers_at_first : (table : TableId) (n workers w : ℕ) → w < workers
    → slice_get (drop n (new_passes table (n + workers))) w ≡ Some (new_pass table (n + w))
pollers_at_first table n workers w exists =
    slice_get-drop n (new_passes table (n + workers)) w ∙ (each_has_its_pass table (n + workers)).1 (n + w) (omega (arith, exists))

pub length-pollers : (table : TableId) (n workers : ℕ) → length (drop n (new_passes table (n + workers))) ≡ workers
length-pollers table n workers =
    omega (arith, length-drop n (new_passes table (n + workers)), (each_has_its_pass table (n + workers)).0)
