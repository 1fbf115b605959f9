-- The slopes of costs: mean slopes, and slopes as quotients in units of prices.
use Rattle.std.specs.Prelude.{◌≡◌, ℕ, ◌*◌, ◌^◌, ◌<◌, ◌↔◌, ℤ, pos, negsuc, ◌+ℤ◌, ◌-ℤ◌, ◌*ℤ◌, ◌<ℤ◌, neg_ℤ, unsigned_abs, [], ◌∷◌}
use Rattle.std.proofs.Common.{arith, ap, sym, refl, ◌∙◌, subst, zero, suc}
use Rattle.std.proofs.Math.Nat.{zero-lt-suc, mul-pos}
use Rattle.std.proofs.lemmas.Int.{ints}
use Rattle.fraction_theory.specs.Fraction.{Fraction, whole, over, ◌+ℚ◌, ◌-ℚ◌, ◌*ℚ◌, neg_ℚ}
use Rattle.fraction_theory.specs.Order.{◌≤ℚ◌}
use Rattle.fraction_theory.specs.Signs.{abs_ℚ}
use Rattle.fraction_theory.proofs.Ring.{at, pone, pneg, ◌⊕◌, ◌⊗◌, by_ring, by_ring1, by_ring2}
use Rattle.fraction_theory.proofs.IntegerLaws.{ring_ℤ}
use Rattle.fraction_theory.proofs.FractionLaws.{Is, over_is, plus_is, times_is, neg_is, same_value}
use Rattle.fraction_theory.proofs.FieldLaws.{ring_ℚ, whole_is, over-same}
use Rattle.exact_fraction.specs.Nearest.{IsNearest, in_units, half}
use Rattle.cost_steps.specs.Costs.{mw, square_of, linear_of, quadratic_slope, segment_slope, QuadraticSlopesAreMean, SegmentSlopesAreMean, LawOfMeanSlopes}

-- ---- mean slopes
quadratic_mean : QuadraticSlopesAreMean
quadratic_mean square linear a b = by_ring ring_ℚ (square_of square ∷ linear_of linear ∷ mw a ∷ mw b ∷ [])
    ((at 0 ⊗ (at 2 ⊕ at 3) ⊕ at 1) ⊗ (at 3 ⊕ pneg (at 2)))
    (at 0 ⊗ (at 3 ⊗ at 3) ⊕ at 1 ⊗ at 3 ⊕ pneg (at 0 ⊗ (at 2 ⊗ at 2) ⊕ at 1 ⊗ at 2)) refl

-- a difference over one denominator
pub difference_over : (x y : ℤ) (d : ℕ) → 0 < d → over y d -ℚ over x d ≡ over (y -ℤ x) d
difference_over x y d above = same_value (over y d -ℚ over x d) (over (y -ℤ x) d) (y *ℤ pos d +ℤ neg_ℤ x *ℤ pos d) (d * d) (mul-pos above above)
    (plus_is (over y d) (neg_ℚ (over x d)) y (neg_ℤ x) d d (over_is y d above) (neg_is (over x d) x d (over_is x d above)))
    (record {
      cross = by_ring1 ring_ℤ ((over (y -ℤ x) d).num ∷ pos d ∷ y ∷ x ∷ pos (over (y -ℤ x) d).den ∷ [])
          (at 0 ⊗ (at 1 ⊗ at 1)) ((at 2 ⊗ at 1 ⊕ pneg (at 3) ⊗ at 1) ⊗ at 4) (at 1) (at 0 ⊗ at 1) ((at 2 ⊕ pneg (at 3)) ⊗ at 4) (over_is (y -ℤ x) d above).cross refl;
    })

-- a slope's quotient times the run is the rise
slope_times : (rise run : ℤ) (d : ℕ) → 0 < d → pos 0 <ℤ run → over rise (unsigned_abs run) *ℚ over run d ≡ over rise d
slope_times rise (pos zero) d above h = absurd (Prim.omega (arith, ints))
slope_times rise (negsuc n) d above h = absurd (Prim.omega (arith, ints))
slope_times rise (pos (suc n)) d above h =
    same_value (over rise (suc n) *ℚ over (pos (suc n)) d) (over rise d) (rise *ℤ pos (suc n)) (suc n * d) (mul-pos (zero-lt-suc n) above)
    (times_is (over rise (suc n)) (over (pos (suc n)) d) rise (pos (suc n)) (suc n) d (over_is rise (suc n) (zero-lt-suc n)) (over_is (pos (suc n)) d above))
    (record {
      cross = by_ring1 ring_ℤ ((over rise d).num ∷ pos (suc n) ∷ pos d ∷ rise ∷ pos (over rise d).den ∷ [])
          (at 0 ⊗ (at 1 ⊗ at 2)) (at 3 ⊗ at 1 ⊗ at 4) (at 1) (at 0 ⊗ at 2) (at 3 ⊗ at 4) (over_is rise d above).cross refl;
    })

billion : 0 < 10 ^ 9
billion = Prim.omega arith

segment_mean : SegmentSlopesAreMean
segment_mean p q rise =
    ap (λ t. segment_slope p q *ℚ t) (difference_over p.output q.output (10 ^ 9) billion)
    ∙ slope_times (q.cost -ℤ p.cost) (q.output -ℤ p.output) (10 ^ 9) billion (above p.output q.output rise)
    ∙ sym (difference_over p.cost q.cost (10 ^ 9) billion)
  where
    above : (x y : ℤ) → x <ℤ y → pos 0 <ℤ (y -ℤ x)
    above x y h = Prim.omega (arith, ints, h)

pub mean_slopes : LawOfMeanSlopes
mean_slopes = (quadratic_mean, segment_mean)

-- ---- slopes in units of prices
-- the quotient of a segment's slope
pub segment_units : (rise : ℤ) (run : ℕ) → 0 < run → over (rise *ℤ pos (10 ^ 6)) run ≡ in_units 6 (over rise run)
segment_units rise run above = same_value (over (rise *ℤ pos (10 ^ 6)) run) (in_units 6 (over rise run)) (rise *ℤ pos (10 ^ 6)) run above
    (over_is (rise *ℤ pos (10 ^ 6)) run above)
    (record {
      cross = by_ring1 ring_ℤ ((in_units 6 (over rise run)).num ∷ pos run ∷ rise ∷ pos (10 ^ 6) ∷ pos (in_units 6 (over rise run)).den ∷ [])
          (at 0 ⊗ at 1) (at 2 ⊗ at 3 ⊗ at 4) pone (at 0 ⊗ (pone ⊗ at 1)) (at 3 ⊗ at 2 ⊗ at 4) units.cross refl;
    })
  where
    units : Is (in_units 6 (over rise run)) (pos (10 ^ 6) *ℤ rise) (1 * run)
    units = times_is (whole (pos (10 ^ 6))) (over rise run) (pos (10 ^ 6)) rise 1 run (whole_is (pos (10 ^ 6))) (over_is rise run above)

-- that of a quadratic cost's slope
module _ (square linear a b : ℤ) where
  abbrev G : ℕ
  G = 10 ^ 9

  abbrev S : ℕ
  S = 10 ^ 15

  abbrev L : ℕ
  L = 10 ^ 12

  abbrev U : ℕ
  U = 10 ^ 6

  abbrev H : ℕ
  H = 10 ^ 18

  slope_is : Is (in_units 6 (quadratic_slope square linear a b)) (pos U *ℤ ((square *ℤ (a *ℤ pos G +ℤ b *ℤ pos G)) *ℤ pos L +ℤ linear *ℤ pos (S * (G * G)))) (1 * (S * (G * G) * L))
  slope_is = times_is (whole (pos U)) (quadratic_slope square linear a b) (pos U) ((square *ℤ (a *ℤ pos G +ℤ b *ℤ pos G)) *ℤ pos L +ℤ linear *ℤ pos (S * (G * G))) 1 (S * (G * G) * L) (whole_is (pos U))
      (plus_is (square_of square *ℚ (mw a +ℚ mw b)) (linear_of linear) (square *ℤ (a *ℤ pos G +ℤ b *ℤ pos G)) linear (S * (G * G)) L
      (times_is (square_of square) (mw a +ℚ mw b) square (a *ℤ pos G +ℤ b *ℤ pos G) S (G * G) (over_is square S (Prim.omega arith)) (plus_is (mw a) (mw b) a b G G (over_is a G billion) (over_is b G billion)))
      (over_is linear L (Prim.omega arith)))

  abbrev rise : ℤ
  rise = square *ℤ (a +ℤ b) +ℤ linear *ℤ pos L

  same_rise : (g s l u h : ℤ) → u *ℤ h ≡ s *ℤ g → u *ℤ h ≡ l *ℤ l → u *ℤ ((square *ℤ (a *ℤ g +ℤ b *ℤ g)) *ℤ l +ℤ linear *ℤ (s *ℤ (g *ℤ g))) *ℤ h ≡ (square *ℤ (a +ℤ b) +ℤ linear *ℤ l) *ℤ (s *ℤ (g *ℤ g) *ℤ l)
  same_rise g s l u h e f = by_ring2 ring_ℤ (square ∷ linear ∷ a ∷ b ∷ g ∷ s ∷ l ∷ u ∷ h ∷ [])
      (at 7 ⊗ ((at 0 ⊗ (at 2 ⊗ at 4 ⊕ at 3 ⊗ at 4)) ⊗ at 6 ⊕ at 1 ⊗ (at 5 ⊗ (at 4 ⊗ at 4))) ⊗ at 8)
      ((at 0 ⊗ (at 2 ⊕ at 3) ⊕ at 1 ⊗ at 6) ⊗ (at 5 ⊗ (at 4 ⊗ at 4) ⊗ at 6))
      (at 0 ⊗ (at 2 ⊕ at 3) ⊗ at 4 ⊗ at 6) (at 7 ⊗ at 8) (at 5 ⊗ at 4)
      (at 1 ⊗ at 5 ⊗ at 4 ⊗ at 4) (at 7 ⊗ at 8) (at 6 ⊗ at 6) e f refl

  above : 0 < 1 * (S * (G * G) * L)
  above = Prim.omega arith

  pub quadratic_units : over rise H ≡ in_units 6 (quadratic_slope square linear a b)
  quadratic_units =
      let same = over-same (pos U *ℤ ((square *ℤ (a *ℤ pos G +ℤ b *ℤ pos G)) *ℤ pos L +ℤ linear *ℤ pos (S * (G * G)))) rise (1 * (S * (G * G) * L)) H above (Prim.omega arith) (same_rise (pos G) (pos S) (pos L) (pos U) (pos H) refl refl) in
      sym same ∙ same_value (over (pos U *ℤ ((square *ℤ (a *ℤ pos G +ℤ b *ℤ pos G)) *ℤ pos L +ℤ linear *ℤ pos (S * (G * G)))) (1 * (S * (G * G) * L))) (in_units 6 (quadratic_slope square linear a b))
      (pos U *ℤ ((square *ℤ (a *ℤ pos G +ℤ b *ℤ pos G)) *ℤ pos L +ℤ linear *ℤ pos (S * (G * G)))) (1 * (S * (G * G) * L)) above
      (over_is (pos U *ℤ ((square *ℤ (a *ℤ pos G +ℤ b *ℤ pos G)) *ℤ pos L +ℤ linear *ℤ pos (S * (G * G)))) (1 * (S * (G * G) * L)) above) slope_is

-- ---- the nearest number, from the slope in units to the slope
module _ (slope q : Fraction) (n : ℤ) (units : q ≡ in_units 6 slope) where
  abbrev Near : Fraction → Type 0
  Near u = (abs_ℚ (u -ℚ whole n) ≤ℚ half) × (abs_ℚ (u -ℚ whole n) ≡ half → abs_ℚ u ≤ℚ abs_ℚ (whole n))

  one_unit : in_units 0 q ≡ in_units 6 slope
  one_unit = by_ring ring_ℚ (q ∷ []) (pone ⊗ at 0) (at 0) refl ∙ units

  pub nearest_moved : IsNearest 0 q n → IsNearest 6 slope n
  nearest_moved h = let near : Near (in_units 6 slope) = subst Near one_unit (h.within, h.away) in record { within = near.0; away = near.1 }

million : 0 < 10 ^ 6
million = Prim.omega arith

over_units : (n : ℤ) → in_units 6 (over n (10 ^ 6)) ≡ whole n
over_units n = same_value (in_units 6 (over n (10 ^ 6))) (whole n) (pos (10 ^ 6) *ℤ n) (1 * 10 ^ 6) (Prim.omega arith)
    (times_is (whole (pos (10 ^ 6))) (over n (10 ^ 6)) (pos (10 ^ 6)) n 1 (10 ^ 6) (whole_is (pos (10 ^ 6))) (over_is n (10 ^ 6) million))
    (record {
      cross = by_ring1 ring_ℤ ((whole n).num ∷ pos (10 ^ 6) ∷ n ∷ pos (whole n).den ∷ [])
          (at 0 ⊗ (pone ⊗ at 1)) (at 1 ⊗ at 2 ⊗ at 3) (at 1) (at 0 ⊗ pone) (at 2 ⊗ at 3) (whole_is n).cross refl;
    })

units_apart : (x y : Fraction) → in_units 6 x ≡ in_units 6 y → x ≡ y
units_apart x y e = back x ∙ ap (λ t. over (pos 1) (10 ^ 6) *ℚ t) e ∙ sym (back y)
  where
    one : whole (pos (10 ^ 6)) *ℚ over (pos 1) (10 ^ 6) ≡ whole (pos 1)
    one = over_units (pos 1)

    back : (z : Fraction) → z ≡ over (pos 1) (10 ^ 6) *ℚ in_units 6 z
    back z = by_ring1 ring_ℚ (z ∷ over (pos 1) (10 ^ 6) ∷ whole (pos (10 ^ 6)) ∷ []) (at 0) (at 1 ⊗ (at 2 ⊗ at 0)) (pneg (at 0)) (at 2 ⊗ at 1) pone one refl

pub exact_moved : (slope q : Fraction) (n : ℤ) (exact : Type 0) → q ≡ in_units 6 slope → exact ↔ (whole n ≡ q) → exact ↔ (over n (10 ^ 6) ≡ slope)
exact_moved slope q n exact units h = (
  λ t. units_apart (over n (10 ^ 6)) slope (over_units n ∙ h.0 t ∙ units),
  λ e. h.1 (sym (over_units n) ∙ ap (in_units 6) e ∙ sym units),
)
