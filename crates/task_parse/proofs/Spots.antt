-- Where the next statement stands.
use Rattle.std.proofs.Common.{◌≡◌, ◌==◌, Bool, true, false, ◌||◌, not, List, [], ◌∷◌, ◌++◌, length, refl, sym, ap, ◌∙◌, arith}
use Rattle.std.specs.Prelude.{reverse}
use Rattle.std.specs.List.{list_any}
use Rattle.std.proofs.lemmas.List.{reverse-append, length-reverse}
use Rattle.std.proofs.lemmas.List.Folds.{list_any-append}
use Rattle.std.proofs.lemmas.Bool.Decides.{nat_tests}
use Rattle.task_tree.specs.Blocks.{Place, Top, Main, Body, within, is_top, is_main, is_body}
use Rattle.task_parse.specs.declared.block.OpenBlock.{OpenBlock}
use Rattle.task_parse.specs.declared.block.OpenBlock.TheVariants as block
use Rattle.task_parse.specs.Openings.{spot, is_task}

top_within : (p : Place) → is_top (within p) ≡ false
top_within Top = refl
top_within Main = refl
top_within Body = refl

body_within : (p : Place) → is_body (within p) ≡ is_body p
body_within Top = refl
body_within Main = refl
body_within Body = refl

pub main_is : (p : Place) → is_main p ≡ not (is_body p)
main_is Top = refl
main_is Main = refl
main_is Body = refl

top_by_len : (blocks : List OpenBlock) → is_top (spot blocks) ≡ (length blocks == 0)
top_by_len [] = refl
top_by_len (block.Loop ∷ around) = top_within (spot around) ∙ grind (arith, nat_tests)
top_by_len (block.When ∷ around) = top_within (spot around) ∙ grind (arith, nat_tests)
top_by_len (block.Otherwise ∷ around) = top_within (spot around) ∙ grind (arith, nat_tests)
top_by_len (block.Head ∷ around) = grind (arith, nat_tests)
top_by_len (block.Body ∷ around) = grind (arith, nat_tests)

-- no block is open exactly where none is kept
pub top_is : (items : List OpenBlock) → (length items == 0) ≡ is_top (spot (reverse items))
top_is items = sym (top_by_len (reverse items) ∙ ap (λ n. n == 0) (length-reverse items))

pub body_is : (blocks : List OpenBlock) → is_body (spot blocks) ≡ list_any is_task blocks
body_is [] = refl
body_is (block.Loop ∷ around) = body_within (spot around) ∙ body_is around
body_is (block.When ∷ around) = body_within (spot around) ∙ body_is around
body_is (block.Otherwise ∷ around) = body_within (spot around) ∙ body_is around
body_is (block.Head ∷ around) = refl
body_is (block.Body ∷ around) = refl

or_swap : (a b : Bool) → (a || b) ≡ (b || a)
or_swap true true = refl
or_swap true false = refl
or_swap false true = refl
or_swap false false = refl

-- whether one passes doesn't hang on the order
pub any_reversed : (p : OpenBlock → Bool) (blocks : List OpenBlock) → list_any p (reverse blocks) ≡ list_any p blocks
any_reversed p [] = refl
any_reversed p (b ∷ blocks) =
    let e : reverse (b ∷ blocks) ≡ reverse blocks ++ b ∷ [] = reverse-append (b ∷ []) blocks in
    ap (list_any p) e ∙ list_any-append p (reverse blocks) (b ∷ [])
    ∙ rw (any_reversed p blocks) (or_swap (list_any p blocks) (p b || false) ∙ rest (p b) (list_any p blocks))
  where
    rest : (a b : Bool) → ((a || false) || b) ≡ (a || b)
    rest true b = refl
    rest false b = refl

-- a task is among the open blocks exactly where a body is written
pub task_is : (items : List OpenBlock) → list_any is_task items ≡ is_body (spot (reverse items))
task_is items = sym (any_reversed is_task items) ∙ sym (body_is (reverse items))
