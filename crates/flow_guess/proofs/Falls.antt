-- Whole numbers of parts below and above what a link carries at guessed angles.
use Rattle.std.specs.Prelude.{◌≡◌, ℕ, ◌<◌, ℤ, pos, negsuc, ◌-ℤ◌, ◌*ℤ◌, ◌≤ℤ◌, ◌<ℤ◌, int_div, [], ◌∷◌, refl}
use Rattle.std.specs.Int.{int_div_euclid}
use Rattle.std.proofs.Common.{arith, zero, suc, ap, sym, subst, ◌∙◌}
use Rattle.std.proofs.Math.Nat.{one-dvd, dvd_refl}
use Rattle.std.proofs.lemmas.Int.{ints, quot-rem}
use Rattle.fraction_theory.specs.Fraction.{Fraction, whole, over, recip_ℚ, ◌-ℚ◌, ◌*ℚ◌}
use Rattle.fraction_theory.specs.Order.{◌≤ℚ◌, ◌<ℚ◌}
use Rattle.fraction_theory.proofs.FractionLaws.{lowest_den, over_is}
use Rattle.fraction_theory.proofs.FieldLaws.{ring_ℚ, whole-*ℚ, whole-neg, *ℚ-recip}
use Rattle.fraction_theory.proofs.OrderLaws.{whole-≤ℚ, by_le1, NonNeg-recip, <ℚ_irrefl, NonNeg_from, NonNeg-times, NonNeg-one}
use Rattle.fraction_theory.proofs.Ring.{by_ring, at, pone, pneg, ◌⊕◌, ◌⊗◌}
use Rattle.network_theory.specs.Networks.{flow}
use Rattle.flow_guess.specs.declared.bounds.Guess.{Guess}
use Rattle.flow_guess.specs.declared.links.Link.{Link}
use Rattle.flow_guess.specs.Links.{link_branch}
use Rattle.flow_guess.proofs.NetSums.{whole_minus}
use Rattle.flow_guess.specs.Guesses.{IsGuessOf, angle_of, reach, least_flow, most_flow}

-- a quotient rounded down, times its divisor
below_quotient : (a d : ℤ) → pos 0 <ℤ d → (int_div_euclid a d *ℤ d) ≤ℤ a
below_quotient (pos a) (pos d) h = Prim.omega (arith, ints)
below_quotient (negsuc a) (pos d) h = Prim.omega (arith, ints, h)
below_quotient (pos a) (negsuc d) h = Prim.omega (arith, ints, h)
below_quotient (negsuc a) (negsuc d) h = Prim.omega (arith, ints, h)

-- 1 over a whole number has it below the line
pub den_of_recip : (x : ℤ) → pos 0 <ℤ x → pos (recip_ℚ (whole x)).den ≡ x
unfolding recip_ℚ whole
den_of_recip (pos x) h = let above : 0 < x = Prim.omega (arith, ints, h) in ap pos (lowest_den (over (pos 1) x) (pos 1) x above (dvd_refl 1, one-dvd x, λ d p q. p) (over_is (pos 1) x above))
den_of_recip (negsuc x) h = Prim.omega (arith, ints, h)

pub whole_above : (x : ℤ) → pos 0 <ℤ x → whole (pos 0) <ℚ whole x
unfolding whole
whole_above x h = record { cross = Prim.omega (arith, ints, h) }

pub recip_times : (x : ℤ) → pos 0 <ℤ x → whole x *ℚ recip_ℚ (whole x) ≡ whole (pos 1)
recip_times x h = *ℚ-recip (whole x) (λ e. <ℚ_irrefl (whole (pos 0)) (subst (λ t. whole (pos 0) <ℚ t) e (whole_above x h)))

-- where q times the reach is at most the fall, q is at most the flow
fall_least : (x g r q f t : ℤ) → pos 0 <ℤ x → pos 0 ≤ℤ g → r *ℤ g ≡ x → (q *ℤ r) ≤ℤ (f -ℤ t)
    → whole q ≤ℚ (recip_ℚ (whole x) *ℚ (whole g *ℚ whole f -ℚ whole g *ℚ whole t))
fall_least x g r q f t h gh e le =
    let s = recip_ℚ (whole x) in
    let one : s *ℚ (whole r *ℚ whole g) ≡ whole (pos 1) = ap (λ y. s *ℚ y) (sym (whole-*ℚ r g) ∙ ap whole e) ∙ ring_ℚ.times_comm s (whole x) ∙ recip_times x h in
    let vs = s ∷ whole r ∷ whole g ∷ whole q ∷ whole f ∷ whole t ∷ [] in
    let same : (s *ℚ (whole r *ℚ whole g)) *ℚ whole q ≡ whole q = ap (λ y. y *ℚ whole q) one ∙ by_ring ring_ℚ (whole q ∷ []) (pone ⊗ at 0) (at 0) refl in
    let le' : (whole q *ℚ whole r) ≤ℚ (whole f -ℚ whole t) = subst (λ y. (whole q *ℚ whole r) ≤ℚ y) (whole_minus f t) (subst (λ y. y ≤ℚ whole (f -ℤ t)) (whole-*ℚ q r) (whole-≤ℚ (q *ℤ r) (f -ℤ t) le)) in
    subst (λ y. y ≤ℚ (s *ℚ (whole g *ℚ whole f -ℚ whole g *ℚ whole t))) same
    (by_le1 vs ((at 0 ⊗ (at 1 ⊗ at 2)) ⊗ at 3) (at 0 ⊗ ((at 2 ⊗ at 4) ⊕ pneg (at 2 ⊗ at 5))) (at 0 ⊗ at 2) (at 3 ⊗ at 1) (at 4 ⊕ pneg (at 5))
    (NonNeg-times s (whole g) (NonNeg-recip (whole x) (whole_above x h)) (NonNeg_from (whole g) (whole-≤ℚ (pos 0) g gh))) le' refl)

-- a factor of a number above 0 by one above 0 is above 0
above_by : (r g x : ℤ) → pos 0 <ℤ g → pos 0 <ℤ x → r *ℤ g ≡ x → pos 0 <ℤ r
above_by (pos (suc r)) g x hg hx e = Prim.omega (arith, ints)
above_by (pos zero) g x hg hx e = Prim.omega (arith, ints, hx, e)
above_by (negsuc r) (pos g) x hg hx e = Prim.omega (arith, ints, hx, e)
above_by (negsuc r) (negsuc g) x hg hx e = Prim.omega (arith, ints, hg)

-- the angles of a guess as fractions
abbrev pub guessed : Guess → ℕ → Fraction
guessed guess place = whole guess.scale *ℚ whole (angle_of guess place)

module _ (guess : Guess) (link : Link) (is : IsGuessOf guess link) where
  pub reach_is : reach guess (link_branch link) ≡ int_div link.reactance guess.scale
  reach_is = ap (λ x. int_div x guess.scale) (den_of_recip link.reactance is.link_is.reactance)

  scale_above : pos 0 ≤ℤ guess.scale
  scale_above = Prim.omega (arith, ints, is.above)

  reach_times : int_div link.reactance guess.scale *ℤ guess.scale ≡ link.reactance
  reach_times = Prim.omega (arith, ints, quot-rem link.reactance guess.scale, is.divides)

  reach_above : pos 0 <ℤ int_div link.reactance guess.scale
  reach_above = above_by (int_div link.reactance guess.scale) guess.scale link.reactance is.above is.link_is.reactance reach_times

  -- what is put for the reach in the flow of the branch
  by_reach : (a : ℤ) → (int_div_euclid a (reach guess (link_branch link)) *ℤ int_div link.reactance guess.scale) ≤ℤ a
  by_reach a = subst (λ r. (int_div_euclid a r *ℤ int_div link.reactance guess.scale) ≤ℤ a) (sym reach_is) (below_quotient a (int_div link.reactance guess.scale) reach_above)

  pub least_is_low : whole (least_flow guess (link_branch link)) ≤ℚ flow (guessed guess) (link_branch link)
  unfolding least_flow
  least_is_low = fall_least link.reactance guess.scale (int_div link.reactance guess.scale) (least_flow guess (link_branch link)) (angle_of guess link.from) (angle_of guess link.to)
      is.link_is.reactance scale_above reach_times (by_reach (angle_of guess link.from -ℤ angle_of guess link.to))

  pub most_is_high : flow (guessed guess) (link_branch link) ≤ℚ whole (most_flow guess (link_branch link))
  unfolding most_flow
  most_is_high =
      let q = int_div_euclid (angle_of guess link.to -ℤ angle_of guess link.from) (reach guess (link_branch link)) in
      let s = recip_ℚ (whole link.reactance) in
      let back = fall_least link.reactance guess.scale (int_div link.reactance guess.scale) q (angle_of guess link.to) (angle_of guess link.from)
      is.link_is.reactance scale_above reach_times (by_reach (angle_of guess link.to -ℤ angle_of guess link.from)) in
      subst (λ y. flow (guessed guess) (link_branch link) ≤ℚ y) (sym (whole-neg q))
      (by_le1 (s ∷ guessed guess link.from ∷ guessed guess link.to ∷ whole q ∷ []) (at 0 ⊗ (at 1 ⊕ pneg (at 2))) (pneg (at 3)) pone (at 3) (at 0 ⊗ (at 2 ⊕ pneg (at 1))) NonNeg-one back refl)
