-- What the two searches of a step find: the basic variable that leaves and the other one that enters.
use Rattle.std.specs.Prelude.{◌≡◌, ℕ, ◌<◌, Bool, true, false, Option, Some, None, length, slice_index, ◌⊎◌}
use Rattle.std.specs.List.{Contains}
use Rattle.fraction_theory.specs.Fraction.{Fraction, ◌*ℚ◌, recip_ℚ}
use Rattle.fraction_theory.specs.Order.{◌≤ℚ◌, ◌<ℚ◌}
use Rattle.linear_system.specs.Choices.{basics}
use Rattle.linear_dict.specs.Dictionaries.{Dictionary, system_in, choice_of}
use Rattle.simplex_theory.specs.States.{IsWithin}
use Rattle.simplex_theory.specs.Steps.{Leaves, Helps, Enters}
use Rattle.simplex_core.specs.States.{state_of}
use Rattle.simplex_core.specs.declared.leave.Leaving.{Leaving}
use Rattle.simplex_core.specs.declared.enter.Candidate.{Candidate}
use Rattle.fraction_theory.specs.Signs.{abs_ℚ}

-- the bound that x violates: the high one where the answer is `true`
abbrev pub IsSide : Fraction → Fraction → Fraction → Option Bool → Type 0
IsSide low high x None = (low ≤ℚ x) × (x ≤ℚ high)
IsSide low high x (Some true) = high <ℚ x
IsSide low high x (Some false) = x <ℚ low

-- the variable that leaves, with its row place, or all basic variables are within their bounds
abbrev pub IsLeaving : Dictionary → Option Leaving → Type 0
IsLeaving d None = (b : ℕ) → Contains (basics (system_in d) (choice_of d)) b → IsWithin (system_in d) (state_of d).value b
IsLeaving d (Some l) = (l.row < length d.basics) × (slice_index d.basics l.row ≡ l.name) × Leaves (system_in d) (state_of d) l.name l.above

-- k has the ratio of a variable's reduced price to its entry in the row of v, by size
pub record IsSized {N : Type 0} (value : N → Fraction) (d : Dictionary) (v : ℕ) (k : Candidate N) : Type 0 where
  pub within : k.column < length d.others
  pub place : slice_index d.others k.column ≡ k.name
  pub ratio : value k.ratio ≡ abs_ℚ ((state_of d).reduced k.name) *ℚ recip_ℚ (abs_ℚ ((choice_of d).entry v k.name))

-- the variable w as a candidate, where it helps v
abbrev pub IsCandidate : {N : Type 0} → (N → Fraction) → Dictionary → ℕ → Bool → ℕ → Option (Candidate N) → Type 0
IsCandidate value d v above w None = ¬ (Helps (system_in d) (state_of d) v above w)
IsCandidate value d v above w (Some k) = (k.name ≡ w) × Helps (system_in d) (state_of d) v above w × IsSized value d v k

-- the better of the best so far and a later one
abbrev pub IsLesser : {N : Type 0} → (N → Fraction) → Option (Candidate N) → Candidate N → Candidate N → Type 0
IsLesser value None next r = r ≡ next
IsLesser value (Some best) next r = ((value next.ratio <ℚ value best.ratio) × (r ≡ next)) ⊎ (¬ (value next.ratio <ℚ value best.ratio) × (r ≡ best))

-- the variable that enters, with its column place, or none helps
abbrev pub IsEntering : {N : Type 0} → Dictionary → ℕ → Bool → Option (Candidate N) → Type 0
IsEntering d v above None = (w : ℕ) → ¬ (Helps (system_in d) (state_of d) v above w)
IsEntering d v above (Some k) = (k.column < length d.others) × (slice_index d.others k.column ≡ k.name) × Enters (system_in d) (state_of d) v above k.name
