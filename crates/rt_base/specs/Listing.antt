-- What contracts see of a list with reserved room.
use Rattle.std.specs.Prelude.{ℕ, List, refl}
use Rattle.std.specs.Coded.{Coded, code_by, coded×, coded_ℕ, coded_list}

-- the items in order, and how many places are reserved behind them (this project's)
pub record Listing (T : Type 0) : Type 0 where
  pub items : List T
  pub room : ℕ

-- a list with room is stored as the pair of its parts
abbrev pub listing_code : {T : Type 0} → Coded T → Coded (Listing T)
listing_code {T} item =
    code_by (List T × ℕ) (coded× (coded_list item) coded_ℕ) (λ l. (l.items, l.room)) (λ p. record { items = p.0; room = p.1 }) (λ _. refl)
