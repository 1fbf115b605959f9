-- The state after a step, by the exchange of the two variables.
use Rattle.std.specs.Prelude.{ℕ, pos, Bool, ◌==◌, if◌then◌else◌}
use Rattle.fraction_theory.specs.Fraction.{whole, ◌+ℚ◌, ◌*ℚ◌}
use Rattle.linear_system.specs.Systems.{System}
use Rattle.linear_system.specs.Choices.{Choice}
use Rattle.linear_system.specs.Exchanges.{exchanged}
use Rattle.simplex_theory.specs.States.{State}
use Rattle.simplex_theory.specs.Steps.{violated_bound, displacement}

-- the choice after v has left for the bound that it violated, and k has entered
unfoldable pub stepped_choice : Choice → ℕ → ℕ → Bool → Choice
stepped_choice h v k above = record (exchanged h v k) { high = λ w. if w == v then above else h.high w }

-- the state after that
unfoldable pub stepped : System → State → ℕ → ℕ → Bool → State
stepped s S v k above = record {
  choice = stepped_choice S.choice v k above;
  value = λ w.
      if w == v then violated_bound s v above
      else if (stepped_choice S.choice v k above).basic w then S.value w +ℚ (stepped_choice S.choice v k above).entry w v *ℚ displacement s S v above
      else S.value w;
  reduced = λ w.
      if (stepped_choice S.choice v k above).basic w then whole (pos 0)
      else S.reduced w +ℚ S.reduced k *ℚ (stepped_choice S.choice v k above).entry k w;
}
