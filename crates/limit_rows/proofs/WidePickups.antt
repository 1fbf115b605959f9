-- The factors of what is picked up fit numbers of 127 bits: each sum on the way is a whole number of 10^-15 of few digits.
use Rattle.std.specs.Prelude.{◌≡◌, ◌==◌, ℕ, ◌+◌, ◌*◌, ◌^◌, ◌<◌, ◌≤◌, ℤ, pos, neg_ℤ, ◌+ℤ◌, ◌*ℤ◌, unsigned_abs, List, [], ◌∷◌, All, length, refl}
use Rattle.std.proofs.Common.{suc, arith, ap, ap₂, sym, subst, ◌∙◌, take}
use Rattle.std.proofs.Math.Nat.{mul-pos}
use Rattle.std.proofs.lemmas.Int.{ints}
use Rattle.std.proofs.lemmas.List.{length-append, length-map, length-take}
use Rattle.std.proofs.lemmas.List.Elements.{All-append, All-cons, All-map, All-nil, All-take}
use Rattle.fraction_theory.specs.Fraction.{Fraction, over, neg_ℚ, ◌+ℚ◌}
use Rattle.fraction_theory.specs.Sums.{Term, Plain, term_value, total}
use Rattle.fraction_theory.proofs.FieldLaws.{over-same}
use Rattle.fraction_theory.proofs.FractionLaws.{over_is, plus_is, neg_is, same_value}
use Rattle.fraction_theory.proofs.IntegerLaws.{ring_ℤ}
use Rattle.fraction_theory.proofs.Ring.{at, by_ring, padd, pmul}
use Rattle.exact_fraction.specs.declared.Passed.{Passed}
use Rattle.exact_fraction.specs.Passes.{IsTooLarge}
use Rattle.market_data.specs.Scales.{most_factor, most_pickups, share_one, pickup_one}
use Rattle.market_model.specs.declared.participants.Parts.{Parts}
use Rattle.market_model.specs.declared.participants.Pickup.{Pickup}
use Rattle.market_model.specs.Dispatch.{unit_at}
use Rattle.market_model.specs.Factors.{factor_in}
use Rattle.market_model.specs.LimitRows.{lost_unit, pickup_terms, pickups_of, shift_factor, taker_term, taker_terms}
use Rattle.market_model.specs.Market.{IsMarket, IsPickup}
use Rattle.market_model.specs.NamedSums.{IsRefusedIn}
use Rattle.market_model.proofs.PickupLemmas.{all_kept, factor_size, no_parts, own_size, share_size, share_times, takers_few, whole_share}
use Rattle.limit_rows.proofs.WideFactors.{too_large_over}

-- the greatest size of a share of a factor
abbrev pub most_part : ℕ
most_part = share_one * most_factor

-- x is a whole number of 10^-15, of at most so many
abbrev pub IsParts : ℕ → Fraction → Type 0
IsParts most x = (n : ℤ) × (x ≡ over n pickup_one) × (unsigned_abs n ≤ most)

-- ---- sums of such numbers
over_plus : (a b : ℤ) (d : ℕ) → 0 < d → over (a +ℤ b) d ≡ over a d +ℚ over b d
over_plus a b d h =
    over-same (a +ℤ b) (a *ℤ pos d +ℤ b *ℤ pos d) d (d * d) h (mul-pos h h)
    (by_ring ring_ℤ (a ∷ b ∷ pos d ∷ []) (pmul (padd (at 0) (at 1)) (pmul (at 2) (at 2))) (pmul (padd (pmul (at 0) (at 2)) (pmul (at 1) (at 2))) (at 2)) refl)
    ∙ same_value (over (a *ℤ pos d +ℤ b *ℤ pos d) (d * d)) (over a d +ℚ over b d) (a *ℤ pos d +ℤ b *ℤ pos d) (d * d) (mul-pos h h)
    (over_is (a *ℤ pos d +ℤ b *ℤ pos d) (d * d) (mul-pos h h)) (plus_is (over a d) (over b d) a b d d (over_is a d h) (over_is b d h))

parts_plus : (n : ℕ) (x y : Fraction) → IsParts most_part x → IsParts (n * most_part) y → IsParts ((n + 1) * most_part) (x +ℚ y)
parts_plus n x y (a, at_a, few) (b, at_b, rest) = (a +ℤ b, ap₂ ◌+ℚ◌ at_a at_b ∙ sym (over_plus a b pickup_one (Prim.omega arith)), Prim.omega (arith, ints, few, rest))

abbrev pub IsPartTerm : Term → Type 0
IsPartTerm t = IsParts most_part (term_value t)

total_parts : (ts : List Term) → All IsPartTerm ts → IsParts (length ts * most_part) (total ts)
total_parts [] all = (pos 0, sym no_parts, Prim.omega arith)
total_parts (t ∷ ts) all =
    let rest = total_parts ts (λ k d lt. all (suc k) d (Prim.omega (arith, lt))) in
    let both = parts_plus (length ts) (term_value t) (total ts) (all 0 t (Prim.omega arith)) rest in
    let same : (length ts + 1) * most_part ≡ length (t ∷ ts) * most_part = Prim.omega arith in
    (both.0, both.1, subst (λ (n : ℕ). unsigned_abs both.0 ≤ n) same both.2)

-- ---- terms
module _ (m : Parts) (market : IsMarket m) (l : ℕ) where
  shift_size : (bus : ℕ) → unsigned_abs (factor_in m.shift l bus) ≤ most_factor
  shift_size bus = factor_size (length m.lines) (length m.buses) m.shift l bus market.shift.each

  taker_part : (p : Pickup) → IsPickup (length m.unit_outages) (length m.units) p → IsPartTerm (taker_term m l p)
  taker_part p is =
      let h : ℤ = factor_in m.shift l (unit_at m p.taker).bus in
      let few : unsigned_abs p.share ≤ share_one = Prim.omega (arith, ints, is.above, is.most) in
      (p.share *ℤ h, sym (share_times p.share h), share_size p.share h few (shift_size (unit_at m p.taker).bus))

  -- the opposite of a factor
  own_part : (bus : ℕ) → IsPartTerm (Plain (neg_ℚ (shift_factor m l bus)))
  own_part bus =
      let h : ℤ = factor_in m.shift l bus in
      let n : ℤ = h *ℤ pos share_one in
      let opposite : over (neg_ℤ n) pickup_one ≡ neg_ℚ (over n pickup_one) =
      same_value (over (neg_ℤ n) pickup_one) (neg_ℚ (over n pickup_one)) (neg_ℤ n) pickup_one (Prim.omega arith) (over_is (neg_ℤ n) pickup_one (Prim.omega arith))
      (neg_is (over n pickup_one) n pickup_one (over_is n pickup_one (Prim.omega arith))) in
      (neg_ℤ n, ap neg_ℚ (sym (whole_share h)) ∙ sym opposite, Prim.omega (arith, ints, own_size h (shift_size bus)))

  module _ (k : ℕ) where
    taker_parts : All IsPartTerm (taker_terms m l k)
    taker_parts =
        All-map IsPartTerm (taker_term m l) (pickups_of m k)
        (λ i d lt. taker_part _ (all_kept (IsPickup (length m.unit_outages) (length m.units)) (λ (p : Pickup). p.outage == k) m.pickups market.unit_outages.pickups i d lt))

    pickup_parts : All IsPartTerm (pickup_terms m l k)
    pickup_parts =
        All-append IsPartTerm (taker_terms m l k) (Plain (neg_ℚ (shift_factor m l (unit_at m (lost_unit m k)).bus)) ∷ []) taker_parts
        (All-cons IsPartTerm (Plain (neg_ℚ (shift_factor m l (unit_at m (lost_unit m k)).bus))) [] (own_part (unit_at m (lost_unit m k)).bus) (All-nil IsPartTerm))

    taker_count : length (taker_terms m l k) ≤ most_pickups + 1
    taker_count = Prim.omega (arith, length-map (pickups_of m k) (taker_term m l), takers_few m k market)

    pickup_count : length (pickup_terms m l k) ≤ most_pickups + 1
    pickup_count =
        Prim.omega
        (arith, length-append (taker_terms m l k) (Plain (neg_ℚ (shift_factor m l (unit_at m (lost_unit m k)).bus)) ∷ []), length-map (pickups_of m k) (taker_term m l), takers_few m k market)

-- ---- nothing is refused
parts_fit : (bound n : ℕ) (x : Fraction) → 2 ^ 127 ≤ bound + 1 → n ≤ most_pickups + 1 → IsParts (n * most_part) x → IsTooLarge bound x → ⊥
parts_fit bound n x wide few (a, at_a, size) large = too_large_over bound a pickup_one (Prim.omega arith) (Prim.omega (arith, size, few, wide)) (Prim.omega (arith, wide)) (subst (IsTooLarge bound) at_a large)

module _ (bound : ℕ) (wide : 2 ^ 127 ≤ bound + 1) (p : Passed Fraction) where
  none_refused : (ts : List Term) → All IsPartTerm ts → length ts ≤ most_pickups + 1 → IsRefusedIn ts bound p → ⊥
  none_refused ts all few why =
      let front : List Term = take (why.place + 1) ts in
      parts_fit bound (length front) (total front) wide (Prim.omega (arith, few, length-take (why.place + 1) ts)) (total_parts front (All-take IsPartTerm (why.place + 1) ts all)) why.too_large

  pub takers_fit : (m : Parts) → IsMarket m → (l k : ℕ) → IsRefusedIn (taker_terms m l k) bound p → ⊥
  takers_fit m market l k why = none_refused (taker_terms m l k) (taker_parts m market l k) (taker_count m market l k) why

  pub pickup_fits : (m : Parts) → IsMarket m → (l k : ℕ) → IsRefusedIn (pickup_terms m l k) bound p → ⊥
  pickup_fits m market l k why = none_refused (pickup_terms m l k) (pickup_parts m market l k) (pickup_count m market l k) why
