-- Where names stand in lists.
use Rattle.std.specs.Prelude.{◌≡◌, ◌⊎◌, ℕ, ◌<◌, ◌==◌, Bool, List, length, nat_lt, slice_index}
use Rattle.std.specs.List.{AllPairs, Contains, position_or_len}
use Rattle.linear_dict.specs.declared.place.Place.{Place}
use Rattle.linear_dict.specs.declared.place.Place.TheVariants.{Row, Column}

-- the place of a name, or the length where it is not there
unfoldable pub place_in : List ℕ → ℕ → ℕ
place_in xs w = position_or_len (λ x. x == w) xs

-- whether a name is there
unfoldable pub is_among : List ℕ → ℕ → Bool
is_among xs w = nat_lt (place_in xs w) (length xs)

-- The name w stands at the place p, a row's among the first names or a column's among the second.
abbrev pub StandsAt : List ℕ → List ℕ → ℕ → Place → Type 0
StandsAt first second w (Row r) = (r < length first) × (slice_index first r ≡ w)
StandsAt first second w (Column c) = (c < length second) × (slice_index second c ≡ w)

-- Each name is one of the first or one of the second, and of one only; none stands twice in either.
pub record IsSplit (names first second : List ℕ) : Type 0 where
  pub first_distinct : AllPairs (λ x y. ¬ (x ≡ y)) first
  pub second_distinct : AllPairs (λ x y. ¬ (x ≡ y)) second
  pub apart : (w : ℕ) → Contains first w → ¬ (Contains second w)
  pub first_named : (w : ℕ) → Contains first w → Contains names w
  pub second_named : (w : ℕ) → Contains second w → Contains names w
  pub either : (w : ℕ) → Contains names w → Contains first w ⊎ Contains second w
