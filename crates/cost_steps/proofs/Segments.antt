-- A segment's part, as the code has it.
use Rattle.std.specs.Prelude.{◌≡◌, ℕ, ◌^◌, ◌<◌, ℤ, pos, ◌-ℤ◌, ◌*ℤ◌, ◌<ℤ◌, unsigned_abs}
use Rattle.std.proofs.Common.{arith, ap, sym, ◌∙◌, subst, w64}
use Rattle.std.proofs.lemmas.Int.{ints, to_z-of_z}
use mir.Val.{SFits, to_z, of_z}
use Rattle.fraction_theory.specs.Fraction.{over}
use Rattle.exact_fraction.specs.Nearest.{in_units}
use Rattle.cost_steps.specs.declared.costs.CostPoint.{CostPoint}
use Rattle.cost_steps.specs.Costs.{segment_slope}
use Rattle.cost_steps.proofs.Slopes.{segment_units}

run_above : (x y : ℤ) → x <ℤ y → 0 < unsigned_abs (y -ℤ x)
run_above x y h = Prim.omega (arith, ints, h)

module _ (p q : CostPoint) (run : ℕ) (p_fits : SFits w64 p.output) (q_fits : SFits w64 q.output) (rise : p.output <ℤ q.output)
    (run_is : run ≡ unsigned_abs (to_z w64 (of_z w64 q.output) -ℤ to_z w64 (of_z w64 p.output))) where
  run_of : run ≡ unsigned_abs (q.output -ℤ p.output)
  run_of = run_is ∙ ap (λ t. unsigned_abs (t -ℤ to_z w64 (of_z w64 p.output))) (to_z-of_z w64 q.output q_fits) ∙ ap (λ t. unsigned_abs (q.output -ℤ t)) (to_z-of_z w64 p.output p_fits)

  pub above : 0 < run
  above = subst (λ t. 0 < t) (sym run_of) (run_above p.output q.output rise)

  pub slope_of : (units : ℤ) → units ≡ (q.cost -ℤ p.cost) *ℤ pos (10 ^ 6) → over units run ≡ in_units 6 (segment_slope p q)
  slope_of units e = ap (λ t. over t run) e ∙ ap (λ t. over ((q.cost -ℤ p.cost) *ℤ pos (10 ^ 6)) t) run_of ∙ segment_units (q.cost -ℤ p.cost) (unsigned_abs (q.output -ℤ p.output)) (run_above p.output q.output rise)

  -- the slope itself
  pub slope_is : (rise : ℤ) → rise ≡ q.cost -ℤ p.cost → over rise run ≡ segment_slope p q
  slope_is rise e = ap (λ t. over t run) e ∙ ap (λ t. over (q.cost -ℤ p.cost) t) run_of
