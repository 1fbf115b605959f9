-- Live branches by their rows: no two of one row, and each with a reactance above 0.
use Rattle.std.specs.Prelude.{◌≡◌, ◌≢◌, ℕ, ◌<◌, ◌^◌, ℤ, pos, ◌<ℤ◌, ◌≤ℤ◌, List, length, map, Contains, Option, Some}
use Rattle.std.proofs.Common.{arith, ap, sym, ◌∙◌, subst, inl, inr, get_or}
use Rattle.std.proofs.lemmas.Bool.{cases_lt}
use Rattle.std.proofs.lemmas.Int.{ints}
use Rattle.std.proofs.lemmas.List.{get_or-map, length-map, get_or_default}
use Rattle.std.proofs.lemmas.Option.{slice_get-get_or}
use Rattle.fraction_theory.specs.Fraction.{Fraction, whole, over, ◌*ℚ◌, recip_ℚ}
use Rattle.fraction_theory.specs.Order.{◌<ℚ◌, NonNeg}
use Rattle.fraction_theory.proofs.FieldLaws.{ring_ℚ, *ℚ-recip}
use Rattle.fraction_theory.proofs.FractionLaws.{Is, over_is}
use Rattle.fraction_theory.proofs.IntegerLaws.{zero≤-cancel, zero≤-times}
use Rattle.fraction_theory.proofs.OrderLaws.{three_ways, <ℚ_irrefl, <ℚ-not-≤ℚ, NonNeg_to, NonNeg-recip}
use Rattle.fraction_theory.proofs.Ring.{times_nil}
use Rattle.net_case.specs.Networks.{LiveNetwork, IsNetwork, branch_place}
use Rattle.net_case.specs.declared.live_parts.NetBranch.{NetBranch}
use Rattle.net_case.proofs.PlaceLemmas.{place-some, apart-from_rise}
use Rattle.factor_residuals.specs.Kirchhoff.{reactance_at, value_at}
use Rattle.factor_residuals.specs.Residuals.{AreReactances}
use Rattle.network_theory.proofs.Solutions.{apart}
use Rattle.dc_network.specs.DcNetworks.{ArePositive}

-- ---- fractions above 0
not_zero : (n : ℤ) (d : ℕ) → 0 < d → pos 0 <ℤ n → whole (pos 0) ≢ over n d
unfolding whole
not_zero n d above positive e =
    let zero : Is (whole (pos 0)) n d = subst (λ (x : Fraction). Is x n d) (sym e) (over_is n d above) in
    Prim.omega (arith, ints, zero.cross, positive)

over_above : (n : ℤ) (d : ℕ) → 0 < d → pos 0 <ℤ n → whole (pos 0) <ℚ over n d
over_above n d above positive = elim (three_ways (whole (pos 0)) (over n d)) [
  | inl h ↦ h
  | inr w ↦ elim w [ inl e ↦ absurd (not_zero n d above positive e) | inr h ↦ absurd (<ℚ-not-≤ℚ (over n d) (whole (pos 0)) h (NonNeg_to (over n d) not_below)) ]
]
  where
    not_below : NonNeg (over n d)
    not_below = record { sign = zero≤-cancel (over n d).num d above (subst (λ z. pos 0 ≤ℤ z) (sym (over_is n d above).cross) (zero≤-times n (over n d).den (Prim.omega (arith, ints, positive)))) }

pub not_nil : (x : Fraction) → whole (pos 0) <ℚ x → ¬ (x ≡ whole (pos 0))
not_nil x h e = <ℚ_irrefl x (subst (λ t. t <ℚ x) (sym e) h)

recip_above : (x : Fraction) → whole (pos 0) <ℚ x → whole (pos 0) <ℚ recip_ℚ x
recip_above x h = elim (three_ways (whole (pos 0)) (recip_ℚ x)) [
  | inl k ↦ k
  | inr w ↦ elim w [
    | inl e ↦ absurd (apart (sym (*ℚ-recip x (not_nil x h)) ∙ ap (λ t. x *ℚ t) (sym e) ∙ times_nil ring_ℚ x))
    | inr k ↦ absurd (<ℚ-not-≤ℚ (recip_ℚ x) (whole (pos 0)) k (NonNeg_to (recip_ℚ x) (NonNeg-recip x h)))
  ]
]

-- ---- branches and rows
module _ (branches : List NetBranch) where
  abbrev rows : List ℕ
  rows = map (λ branch. branch.row) branches

  row_at : (l : NetBranch) (c : Contains branches l) → get_or rows c.0 0 ≡ l.row
  row_at l c = get_or-map (λ (branch : NetBranch). branch.row) branches c.0 l 0 c.1 ∙ ap (λ (branch : NetBranch). branch.row) c.2

  row_within : (l : NetBranch) (c : Contains branches l) → c.0 < length rows
  row_within l c = Prim.omega (arith, c.1, length-map branches (λ (branch : NetBranch). branch.row))

module _ (network : LiveNetwork) (is : IsNetwork network) where
  -- branches of one row are one
  pub same_row : (l k : NetBranch) → Contains network.branches l → Contains network.branches k → l.row ≡ k.row → l ≡ k
  same_row l k c d e = elim (cases_lt c.0 d.0) [
    | inl lt ↦ absurd (apart_rows c.0 d.0 0 lt (row_within network.branches k d) same)
    | inr le ↦ elim (cases_lt d.0 c.0) [
      | inl lt ↦ absurd (apart_rows d.0 c.0 0 lt (row_within network.branches l c) (sym same))
      | inr ge ↦
          let at : c.0 ≡ d.0 = Prim.omega (arith, le, ge) in
          sym c.2 ∙ get_or_default network.branches c.0 l k c.1 ∙ ap (λ (i : ℕ). get_or network.branches i k) at ∙ d.2
    ]
  ]
    where
      same : get_or (rows network.branches) c.0 0 ≡ get_or (rows network.branches) d.0 0
      same = row_at network.branches l c ∙ e ∙ sym (row_at network.branches k d)

      apart_rows : (i j x : ℕ) → i < j → j < length (rows network.branches) → get_or (rows network.branches) i x ≢ get_or (rows network.branches) j x
      apart_rows = apart-from_rise (rows network.branches) is.rows_of_branches.rise

  place_is : (l : NetBranch) (c : Contains network.branches l) → branch_place network (pos l.row) ≡ Some c.0
  place_is l c = place-some (rows network.branches) l.row c.0 (apart-from_rise (rows network.branches) is.rows_of_branches.rise)
      (slice_get-get_or (rows network.branches) c.0 0 (row_within network.branches l c) ∙ ap Some (row_at network.branches l c))

  module _ (xs : List ℤ) (are : AreReactances network xs) (positive : ArePositive xs) where
    pub reactance_positive : (l : NetBranch) → Contains network.branches l → pos 0 <ℤ reactance_at network xs l.row
    reactance_positive l c = subst (λ (o : Option ℕ). pos 0 <ℤ value_at xs o) (sym (place_is l c)) (positive c.0 (pos 0) (Prim.omega (arith, c.1, are.count)))

    pub reactance_above : (l : NetBranch) → Contains network.branches l → whole (pos 0) <ℚ over (reactance_at network xs l.row) (10 ^ 18)
    reactance_above l c = over_above (reactance_at network xs l.row) (10 ^ 18) (Prim.omega arith) (reactance_positive l c)

    pub susceptance_above : (l : NetBranch) → Contains network.branches l → whole (pos 0) <ℚ recip_ℚ (over (reactance_at network xs l.row) (10 ^ 18))
    susceptance_above l c = recip_above (over (reactance_at network xs l.row) (10 ^ 18)) (reactance_above l c)
