-- What holding variables does to a system: the names and the rows stay, and a variable that is held has one bound twice.
use Rattle.std.specs.Prelude.{◌≡◌, ◌≢◌, ℕ, pos, Bool, true, false, ◌⊎◌, if◌then◌else◌, is_some, Option, Some, None, refl}
use Rattle.std.specs.List.{Contains}
use Rattle.std.specs.Option.{option_map_or}
use Rattle.std.proofs.Common.{ap, ap₂, sym, subst, inl, inr}
use Rattle.fraction_theory.specs.Fraction.{Fraction, whole}
use Rattle.fraction_theory.specs.Order.{◌≤ℚ◌}
use Rattle.fraction_theory.specs.Signs.{sign_of}
use Rattle.fraction_theory.specs.declared.Sign.{Sign}
use Rattle.fraction_theory.specs.declared.Sign.TheVariants.{Below, Zero, Above}
use Rattle.fraction_theory.proofs.OrderLaws.{≤ℚ_antisym}
use Rattle.fraction_theory.proofs.SignLaws.{not_nil_by_sign, sign_of_is}
use Rattle.linear_system.specs.Choices.{Choice, basics, others}
use Rattle.linear_system.specs.SameSystems.{SameRows}
use Rattle.linear_system.specs.Systems.{System, InBounds, IsSystem, MeetsRows, activity}
use Rattle.simplex_theory.specs.States.{State}
use Rattle.optimal_face.specs.Faces.{Held, bound_at, held_at, holds, more_held}

-- a price is 0, or it holds its variable
pub priced_or_not : (x : Fraction) → ((x ≡ whole (pos 0)) × (holds (sign_of x) ≡ false)) ⊎ ((x ≢ whole (pos 0)) × (holds (sign_of x) ≡ true))
priced_or_not x = by_sign (sign_of x) refl
  where
    by_sign : (z : Sign) → z ≡ sign_of x → ((x ≡ whole (pos 0)) × (holds (sign_of x) ≡ false)) ⊎ ((x ≢ whole (pos 0)) × (holds (sign_of x) ≡ true))
    by_sign Below e = inr (not_nil_by_sign x Below e (λ f. absurd Prim.cc), sym (ap holds e))
    by_sign Zero e = inl (sign_of_is x Zero e, sym (ap holds e))
    by_sign Above e = inr (not_nil_by_sign x Above e (λ f. absurd Prim.cc), sym (ap holds e))

-- between equal bounds there is one number
pub pinned : (low high x : Fraction) → low ≡ high → low ≤ℚ x → x ≤ℚ high → x ≡ high
pinned low high x e above below = ≤ℚ_antisym x high below (subst (λ t. t ≤ℚ x) e above)

-- both bounds of a variable are x
pub bound_at-same : (s : System) (w : ℕ) (x : Fraction) → s.low w ≡ x → s.high w ≡ x → (high : Bool) → bound_at s w high ≡ x
unfolding bound_at
bound_at-same s w x low high true = high
bound_at-same s w x low high false = low

-- the same bounds in two systems
pub bound_at-both : (s t : System) (w : ℕ) → s.low w ≡ t.low w → s.high w ≡ t.high w → (high : Bool) → bound_at s w high ≡ bound_at t w high
unfolding bound_at
bound_at-both s t w low high true = high
bound_at-both s t w low high false = low

module _ (s : System) (held : Held) (price : ℕ → Fraction) where
  pub held_is_system : IsSystem s → IsSystem (held_at s held price)
  unfolding held_at
  held_is_system system = record {
    ascending = system.ascending;
    columns_ascend = system.columns_ascend;
    rows_ascend = system.rows_ascend;
    column = system.column;
    row = system.row;
    either = system.either;
    apart = system.apart;
  }

  pub same_rows_held : SameRows s (held_at s held price)
  unfolding held_at
  same_rows_held = record { variables = refl; columns = refl; rows = refl; coefficient = λ r j c k. refl }

  pub held_same_rows : SameRows (held_at s held price) s
  unfolding held_at
  held_same_rows = record { variables = refl; columns = refl; rows = refl; coefficient = λ r j c k. refl }

  pub meets_held : (u : ℕ → Fraction) → MeetsRows s u → MeetsRows (held_at s held price) u
  unfolding held_at activity
  meets_held u meets = record { row = λ r c. meets.row r c }

  pub held_meets : (u : ℕ → Fraction) → MeetsRows (held_at s held price) u → MeetsRows s u
  unfolding held_at activity
  held_meets u meets = record { row = λ r c. meets.row r c }

  pub held_variables : (w : ℕ) → Contains (held_at s held price).variables w → Contains s.variables w
  unfolding held_at
  held_variables w c = c

  pub variables_held : (w : ℕ) → Contains s.variables w → Contains (held_at s held price).variables w
  unfolding held_at
  variables_held w c = c

  pub held_others : (h : Choice) → others (held_at s held price) h ≡ others s h
  unfolding held_at others
  held_others h = refl

  pub held_basics : (h : Choice) → basics (held_at s held price) h ≡ basics s h
  unfolding held_at basics
  held_basics h = refl

  -- the bounds of a variable that is not held, and of one that is
  pub bounds_free : (w : ℕ) → held w ≡ None → ((held_at s held price).low w ≡ s.low w) × ((held_at s held price).high w ≡ s.high w)
  unfolding held_at
  bounds_free w e = (ap (λ (o : Option Bool). option_map_or (bound_at s w) o (s.low w)) e, ap (λ (o : Option Bool). option_map_or (bound_at s w) o (s.high w)) e)

  pub bounds_held : (w : ℕ) (high : Bool) → held w ≡ Some high → ((held_at s held price).low w ≡ bound_at s w high) × ((held_at s held price).high w ≡ bound_at s w high)
  unfolding held_at
  bounds_held w high e = (ap (λ (o : Option Bool). option_map_or (bound_at s w) o (s.low w)) e, ap (λ (o : Option Bool). option_map_or (bound_at s w) o (s.high w)) e)

-- the prices say nothing of the bounds
pub within_by_price : (s : System) (held : Held) (p q : ℕ → Fraction) (u : ℕ → Fraction) → InBounds (held_at s held p) u → InBounds (held_at s held q) u
unfolding held_at
within_by_price s held p q u within = record { low = λ w c. within.low w c; high = λ w c. within.high w c }

-- how a variable is held, by how it was held before, whether it has a price, and where it stands
chosen : Bool → Option Bool → Bool → Option Bool
chosen high o priced = if is_some o then o else if priced then Some high else None

-- which variables are held besides
module _ (held : Held) (S : State) (w : ℕ) where
  pub more_held-held : (high : Bool) → held w ≡ Some high → more_held held S w ≡ Some high
  unfolding more_held chosen
  more_held-held high e = ap (λ (o : Option Bool). chosen (S.choice.high w) o (holds (sign_of (S.reduced w)))) e

  pub more_held-priced : held w ≡ None → holds (sign_of (S.reduced w)) ≡ true → more_held held S w ≡ Some (S.choice.high w)
  unfolding more_held chosen
  more_held-priced e f = ap₂ (chosen (S.choice.high w)) e f

  pub more_held-free : held w ≡ None → holds (sign_of (S.reduced w)) ≡ false → more_held held S w ≡ None
  unfolding more_held chosen
  more_held-free e f = ap₂ (chosen (S.choice.high w)) e f
