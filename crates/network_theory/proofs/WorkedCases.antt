-- A worked case: three buses in a triangle, with susceptances 5, 10 and 10. 1 is put in at the first bus and taken out at the third,
-- whose angle is 0. The angles of the other two, x and y, solve 15x - 5y = 1 and -5x + 15y = 0: x = 3/40 and y = 1/40. The branch from
-- the first bus to the third carries 3/4, and the way over the second bus 1/4.
use Rattle.std.specs.Prelude.{◌≡◌, ℕ, ◌<◌, pos, [], ◌∷◌, refl}
use Rattle.std.specs.List.{Contains}
use Rattle.std.proofs.Common.{zero, suc, arith, subst, inl, inr}
use Rattle.fraction_theory.specs.Divisors.{gcd, gcd_in}
use Rattle.fraction_theory.specs.Fraction.{Fraction, whole, over, same_fraction, ◌+ℚ◌, ◌-ℚ◌, ◌*ℚ◌, neg_ℚ, recip_ℚ}
use Rattle.fraction_theory.specs.Order.{◌<ℚ◌}
use Rattle.fraction_theory.specs.Signs.{sign_of, abs_ℚ}
use Rattle.fraction_theory.specs.Sums.{sum_by}
use Rattle.fraction_theory.proofs.ListSums.{Contains-cases}
use Rattle.std.proofs.lemmas.Int.{ints}
use Rattle.network_theory.specs.Networks.{Branch, Network, others, IsBranchOf, IsTheoryNetwork, flow, leaving, entering, injection, AreNeighbours, AreLinked, IsConnected, IsTransfer, StandsAt, without, moved, outage_factor}

abbrev between : ℕ → ℕ → ℕ → Branch
between from to susceptance = record { from = from; to = to; susceptance = whole (pos susceptance) }

abbrev triangle : Network
triangle = record { buses = 3; branches = between 0 1 5 ∷ between 1 2 10 ∷ between 0 2 10 ∷ [] }

abbrev angles : ℕ → Fraction
angles zero = over (pos 3) 40
angles (suc zero) = over (pos 1) 40
angles (suc (suc i)) = whole (pos 0)

above : (s : ℕ) → 0 < s → whole (pos 0) <ℚ whole (pos s)
unfolding whole
above s h = record { cross = Prim.omega (arith, ints, h) }

triangle-network : IsTheoryNetwork triangle
triangle-network = record { branches = each }
  where
    one : (from to s : ℕ) → from < 3 → to < 3 → 0 < s → (b : Branch) → between from to s ≡ b → IsBranchOf triangle b
    one from to s f t h b e = subst (IsBranchOf triangle) e (record { from = f; to = t; susceptance = above s h })

    each : (b : Branch) → Contains triangle.branches b → IsBranchOf triangle b
    each b c = elim (Contains-cases (between 0 1 5) (between 1 2 10 ∷ between 0 2 10 ∷ []) b c) [
      | inl e ↦ one 0 1 5 (Prim.omega arith) (Prim.omega arith) (Prim.omega arith) b e
      | inr c ↦ elim (Contains-cases (between 1 2 10) (between 0 2 10 ∷ []) b c) [
        | inl e ↦ one 1 2 10 (Prim.omega arith) (Prim.omega arith) (Prim.omega arith) b e
        | inr c ↦ elim (Contains-cases (between 0 2 10) [] b c) [
          | inl e ↦ one 0 2 10 (Prim.omega arith) (Prim.omega arith) (Prim.omega arith) b e
          | inr c ↦ absurd (Prim.omega (arith, c.1))
        ]
      ]
    ]

triangle-connected : IsConnected triangle 2
triangle-connected = record { joined = by_place }
  where
    last : Contains triangle.branches (between 0 2 10)
    last = (2, Prim.omega arith, refl)

    middle : Contains triangle.branches (between 1 2 10)
    middle = (1, Prim.omega arith, refl)

    by_place : (i : ℕ) → i < 3 → AreLinked triangle i 2
    by_place zero h = record { chain = 2 ∷ []; lead = (record { branch = between 0 2 10; there = last; ends = inl (refl, refl) }, refl) }
    by_place (suc zero) h = record { chain = 2 ∷ []; lead = (record { branch = between 1 2 10; there = middle; ends = inl (refl, refl) }, refl) }
    by_place (suc (suc zero)) h = record { chain = []; lead = refl }
    by_place (suc (suc (suc i))) h = absurd (Prim.omega (arith, h))

transfer : IsTransfer triangle angles 0 2
unfolding leaving entering ◌+ℚ◌ ◌*ℚ◌ neg_ℚ over whole gcd gcd_in
transfer = record { source_is = Prim.omega arith; sink_is = Prim.omega arith; source_has = same_fraction (injection triangle angles 0) (whole (pos 1)) refl refl; sink_has = same_fraction (injection triangle angles 2) (neg_ℚ (whole (pos 1))) refl refl; elsewhere = elsewhere }
  where
    elsewhere : (i : ℕ) → i < 3 → ¬ (i ≡ 0) → ¬ (i ≡ 2) → injection triangle angles i ≡ whole (pos 0)
    elsewhere zero h p q = absurd (p refl)
    elsewhere (suc zero) h p q = same_fraction (injection triangle angles 1) (whole (pos 0)) refl refl
    elsewhere (suc (suc zero)) h p q = absurd (q refl)
    elsewhere (suc (suc (suc i))) h p q = absurd (Prim.omega (arith, h))

first_to_third : flow angles (between 0 2 10) ≡ over (pos 3) 4
unfolding ◌+ℚ◌ ◌*ℚ◌ neg_ℚ over whole gcd gcd_in
first_to_third = same_fraction (flow angles (between 0 2 10)) (over (pos 3) 4) refl refl

first_to_second : flow angles (between 0 1 5) ≡ over (pos 1) 4
unfolding ◌+ℚ◌ ◌*ℚ◌ neg_ℚ over whole gcd gcd_in
first_to_second = same_fraction (flow angles (between 0 1 5)) (over (pos 1) 4) refl refl

second_to_third : flow angles (between 1 2 10) ≡ over (pos 1) 4
unfolding ◌+ℚ◌ ◌*ℚ◌ neg_ℚ over whole gcd gcd_in
second_to_third = same_fraction (flow angles (between 1 2 10)) (over (pos 1) 4) refl refl

-- That all angles are 0 is a guess that lacks the injection of 1 at the first bus, and nothing at the second: no flow is off by more than 1.
guess_off : sum_by (λ i. abs_ℚ (injection triangle (λ _. whole (pos 0)) i -ℚ injection triangle angles i)) (others triangle 2) ≡ whole (pos 1)
unfolding leaving entering ◌+ℚ◌ ◌*ℚ◌ neg_ℚ abs_ℚ sign_of over whole gcd gcd_in
guess_off = same_fraction (sum_by (λ i. abs_ℚ (injection triangle (λ _. whole (pos 0)) i -ℚ injection triangle angles i)) (others triangle 2)) (whole (pos 1)) refl refl

-- The branch from the first bus to the third is lost: the others take over all that it carried, and 1 goes over the second bus.
stands : StandsAt triangle 2 (between 0 2 10)
stands = record { within = Prim.omega arith; there = refl }

connected_without : IsConnected (without triangle 2) 2
connected_without = record { joined = by_place }
  where
    last : AreNeighbours (without triangle 2) 1 2
    last = record { branch = between 1 2 10; there = (1, Prim.omega arith, refl); ends = inl (refl, refl) }

    by_place : (i : ℕ) → i < 3 → AreLinked (without triangle 2) i 2
    by_place zero h = record { chain = 1 ∷ 2 ∷ []; lead = (record { branch = between 0 1 5; there = (0, Prim.omega arith, refl); ends = inl (refl, refl) }, (last, refl)) }
    by_place (suc zero) h = record { chain = 2 ∷ []; lead = (last, refl) }
    by_place (suc (suc zero)) h = record { chain = []; lead = refl }
    by_place (suc (suc (suc i))) h = absurd (Prim.omega (arith, h))

takes_over : outage_factor angles (between 0 2 10) (between 0 1 5) ≡ whole (pos 1)
unfolding ◌+ℚ◌ ◌*ℚ◌ neg_ℚ recip_ℚ over whole gcd gcd_in
takes_over = same_fraction (outage_factor angles (between 0 2 10) (between 0 1 5)) (whole (pos 1)) refl refl

three_times : whole (pos 3) *ℚ (whole (pos 1) -ℚ flow angles (between 0 2 10)) ≡ flow angles (between 0 2 10)
unfolding ◌+ℚ◌ ◌*ℚ◌ neg_ℚ over whole gcd gcd_in
three_times = same_fraction (whole (pos 3) *ℚ (whole (pos 1) -ℚ flow angles (between 0 2 10))) (flow angles (between 0 2 10)) refl refl

over_the_second : flow (moved angles (whole (pos 3)) angles) (between 0 1 5) ≡ whole (pos 1)
unfolding ◌+ℚ◌ ◌*ℚ◌ neg_ℚ over whole gcd gcd_in
over_the_second = same_fraction (flow (moved angles (whole (pos 3)) angles) (between 0 1 5)) (whole (pos 1)) refl refl
