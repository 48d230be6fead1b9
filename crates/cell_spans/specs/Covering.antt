-- How the table of a task's accesses agrees with them. No public clause cites this module.
use Rattle.std.specs.Prelude.{ℕ, Bool, ◌&&◌, List, [], ◌∷◌, ⊤}
use Rattle.std.specs.List.{list_any}
use Rattle.rt_base.specs.declared.data.Access.{Access}
use Rattle.rt_base.specs.Spans.{is_written}
use Rattle.cell_spans.specs.Line.{lies_in, IsSmall}
use Rattle.cell_spans.specs.Intervals.{end_at, AreThose}

-- the place lies in an access
abbrev pub is_covered : List Access → ℕ → Bool
is_covered accesses spot = list_any (λ (access : Access). lies_in spot access.span) accesses

-- the place lies in an access that may be written
abbrev pub is_open : List Access → ℕ → Bool
is_open accesses spot = list_any (λ (access : Access). lies_in spot access.span && is_written access.mode) accesses

-- the numbers of all spans fit their types
abbrev pub AreSmall : List Access → Type 0
AreSmall [] = ⊤
AreSmall (access ∷ accesses) = IsSmall access.span × AreSmall accesses

-- the two sets have the places of all accesses and of the written ones
pub record Agrees (accesses : List Access) (all changing : List (ℕ × ℕ)) : Type 0 where
  pub small : AreSmall accesses
  pub declared : AreThose (end_at all) (is_covered accesses)
  pub written : AreThose (end_at changing) (is_open accesses)
