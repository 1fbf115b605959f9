-- A step of the dual simplex method with the rule of the least name: a basic variable that violates a bound leaves for
-- that bound, and another takes its place.
-- Source: the ratio test of the dual simplex method (Chvátal); of several candidates the least name (Bland 1977).
use Rattle.std.specs.Prelude.{◌≡◌, ℕ, ◌<◌, ◌≤◌, pos, Bool, true, false, if◌then◌else◌}
use Rattle.std.specs.List.{Contains}
use Rattle.fraction_theory.specs.Fraction.{Fraction, whole, ◌+ℚ◌, ◌-ℚ◌, ◌*ℚ◌, neg_ℚ}
use Rattle.fraction_theory.specs.Order.{◌≤ℚ◌, ◌<ℚ◌}
use Rattle.fraction_theory.specs.Signs.{abs_ℚ}
use Rattle.linear_system.specs.Systems.{System}
use Rattle.linear_system.specs.Choices.{basics, others, IsChoice, OneExchange}
use Rattle.simplex_theory.specs.States.{State, IsWithin, Violates}

-- the opposite of x where the test holds, else x
abbrev pub opposite_if : Bool → Fraction → Fraction
opposite_if true x = neg_ℚ x
opposite_if false x = x

-- Of the basic variables that violate a bound v has the least name; it is above its high bound where `above` says so, and
-- else below its low one.
pub record Leaves (s : System) (S : State) (v : ℕ) (above : Bool) : Type 0 where
  pub basic : Contains (basics s S.choice) v
  pub violates : Violates s S.value above v
  pub least : (b : ℕ) → Contains (basics s S.choice) b → b < v → IsWithin s S.value b

-- The other variable w can move off its bound, and doing so takes the basic variable v towards the bound that it violates.
-- It rises from a low bound and falls from a high one; v is to fall where it is above its bounds, and else to rise.
pub record Helps (s : System) (S : State) (v : ℕ) (above : Bool) (w : ℕ) : Type 0 where
  pub other : Contains (others s S.choice) w
  pub free : s.low w <ℚ s.high w
  pub towards : whole (pos 0) <ℚ opposite_if (S.choice.high w) (opposite_if above (S.choice.entry v w))

-- Of the variables that help, k is one whose reduced price is least against its entry, and of those that tie it has the
-- least name. The ratios are compared by products.
pub record Enters (s : System) (S : State) (v : ℕ) (above : Bool) (k : ℕ) : Type 0 where
  pub helps : Helps s S v above k
  pub ratio : (w : ℕ) → Helps s S v above w → (abs_ℚ (S.reduced k) *ℚ abs_ℚ (S.choice.entry v w)) ≤ℚ (abs_ℚ (S.reduced w) *ℚ abs_ℚ (S.choice.entry v k))
  pub least : (w : ℕ) → Helps s S v above w → abs_ℚ (S.reduced k) *ℚ abs_ℚ (S.choice.entry v w) ≡ abs_ℚ (S.reduced w) *ℚ abs_ℚ (S.choice.entry v k) → k ≤ w

-- v and k change places, and v stands at the bound that it violated. The other ones stand at the bounds at which they stood.
pub record Exchanged (s : System) (S T : State) (v k : ℕ) (above : Bool) : Type 0 where
  pub exchange : OneExchange s S.choice T.choice v k
  pub choice : IsChoice s T.choice
  pub flag : T.choice.high v ≡ above
  pub flags : (w : ℕ) → Contains (others s S.choice) w → ¬ (w ≡ k) → T.choice.high w ≡ S.choice.high w

-- the bound that v violates
unfoldable pub violated_bound : System → ℕ → Bool → Fraction
violated_bound s v above = if above then s.high v else s.low v

-- how far v moves to that bound
unfoldable pub displacement : System → State → ℕ → Bool → Fraction
displacement s S v above = violated_bound s v above -ℚ S.value v

-- By the new table: v goes to its bound, the rest of the others stay, and each basic variable moves by its entry at v times
-- how far v moves. The reduced prices of the others rise by k's old one times k's new entry, and those of the basic ones are 0.
pub record Moved (s : System) (S T : State) (v k : ℕ) (above : Bool) : Type 0 where
  pub leaving : T.value v ≡ violated_bound s v above
  pub stay : (w : ℕ) → Contains (others s T.choice) w → ¬ (w ≡ v) → T.value w ≡ S.value w
  pub basic : (b : ℕ) → Contains (basics s T.choice) b → T.value b ≡ S.value b +ℚ T.choice.entry b v *ℚ displacement s S v above
  pub priced : (w : ℕ) → Contains (others s T.choice) w → T.reduced w ≡ S.reduced w +ℚ S.reduced k *ℚ T.choice.entry k w
  pub unpriced : (b : ℕ) → Contains (basics s T.choice) b → T.reduced b ≡ whole (pos 0)

-- from S to T v leaves and k enters
pub record IsStep (s : System) (S T : State) (v k : ℕ) (above : Bool) : Type 0 where
  pub leaves : Leaves s S v above
  pub enters : Enters s S v above k
  pub exchanged : Exchanged s S T v k above
  pub moved : Moved s S T v k above
