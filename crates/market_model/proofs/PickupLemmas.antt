-- Pickup factors as whole numbers: one taker more, one factor more, and a market with other parts.
use Rattle.std.specs.Prelude.{◌≡◌, ◌⊎◌, ℕ, ◌+◌, ◌*◌, ◌/◌, ◌%◌, ◌<◌, ◌≤◌, ◌^◌, ℤ, pos, ◌+ℤ◌, ◌-ℤ◌, ◌*ℤ◌, neg_ℤ, unsigned_abs, FitsSigned, ◌==◌, not, List, [], ◌∷◌, ◌++◌, length, map, filter, take, slice_index_or, All, Bool, true, false, cond, if◌then◌else◌, refl}
use Rattle.std.specs.Int.{w128}
use Rattle.std.proofs.Common.{zero as nought, suc, arith, w64, ap, ap₂, sym, inl, inr, subst, ◌∙◌, get_or}
use Rattle.std.proofs.Math.Nat.{lt_of_le_of_lt, mul-le-mul, mul-pos}
use Rattle.std.proofs.lemmas.Bool.{cases_lt}
use Rattle.std.proofs.lemmas.Int.{ints, to_z-of_z, fits_signed_from_abs, unsigned_abs-mul}
use Rattle.std.proofs.Math.ListN.{get_or-append}
use Rattle.std.proofs.Math.Seq.{get_or-append_seam}
use Rattle.std.proofs.lemmas.List.{get_or_default, length-append, map-append, take_more}
use Rattle.std.proofs.lemmas.List.Filters.{length-filter_both}
use Rattle.std.proofs.lemmas.Nat.{div-mul-add, mod-mul-add, mul-add-lt}
use mir.Val.{to_z, of_z}
use Rattle.fraction_theory.specs.Fraction.{over, whole, ◌+ℚ◌, ◌-ℚ◌, ◌*ℚ◌, neg_ℚ}
use Rattle.fraction_theory.specs.Sums.{Plain, term_value, total}
use Rattle.fraction_theory.proofs.FieldLaws.{over-one, over-same, +ℚ_nil}
use Rattle.fraction_theory.proofs.SumLaws.{total-append}
use Rattle.fraction_theory.proofs.FractionLaws.{over_is, plus_is, times_is, neg_is, same_value}
use Rattle.fraction_theory.proofs.IntegerLaws.{ring_ℤ}
use Rattle.fraction_theory.proofs.Ring.{at, by_ring, padd, pmul}
use Rattle.market_data.specs.Scales.{factor_one, most_buses, most_factor, most_lines, most_pickups, most_units, share_one, pickup_one}
use Rattle.market_data.specs.declared.participants.Bus.{Bus}
use Rattle.market_model.specs.declared.participants.Block.{Block}
use Rattle.market_model.specs.declared.participants.Factor.{Factor}
use Rattle.market_model.specs.declared.participants.Line.{Line}
use Rattle.market_model.specs.declared.participants.Parts.{Parts}
use Rattle.market_model.specs.declared.participants.Pickup.{Pickup}
use Rattle.market_model.specs.declared.participants.Reserve.{Reserve}
use Rattle.market_model.specs.Dispatch.{unit_at}
use Rattle.market_model.specs.Factors.{factor_in, is_pair, IsTable}
use Rattle.market_model.specs.LimitRows.{lost_unit, pickup_factor, pickups_of, shift_factor, taker_term, taker_terms}
use Rattle.market_model.specs.Market.{IsMarket, IsTableFactor}
use Rattle.market_model.specs.PickupTable.{IsPickupTable}

-- ---- shares and factors as whole numbers
pub share_times : (s h : ℤ) → over (s *ℤ h) pickup_one ≡ over s share_one *ℚ over h factor_one
share_times s h = same_value (over (s *ℤ h) pickup_one) (over s share_one *ℚ over h factor_one) (s *ℤ h) pickup_one (Prim.omega arith)
    (over_is (s *ℤ h) pickup_one (Prim.omega arith))
    (times_is (over s share_one) (over h factor_one) s h share_one factor_one (over_is s share_one (Prim.omega arith)) (over_is h factor_one (Prim.omega arith)))

pub whole_share : (h : ℤ) → over (h *ℤ pos share_one) pickup_one ≡ over h factor_one
whole_share h = over-same (h *ℤ pos share_one) h pickup_one factor_one (Prim.omega arith) (Prim.omega arith)
    (by_ring ring_ℤ (h ∷ pos share_one ∷ pos factor_one ∷ []) (pmul (pmul (at 0) (at 1)) (at 2)) (pmul (at 0) (pmul (at 1) (at 2))) refl)

-- sums and differences over one denominator
over_plus : (a b : ℤ) (d : ℕ) → 0 < d → over (a +ℤ b) d ≡ over a d +ℚ over b d
over_plus a b d h =
    over-same (a +ℤ b) (a *ℤ pos d +ℤ b *ℤ pos d) d (d * d) h (mul-pos h h)
    (by_ring ring_ℤ (a ∷ b ∷ pos d ∷ []) (pmul (padd (at 0) (at 1)) (pmul (at 2) (at 2))) (pmul (padd (pmul (at 0) (at 2)) (pmul (at 1) (at 2))) (at 2)) refl)
    ∙ same_value (over (a *ℤ pos d +ℤ b *ℤ pos d) (d * d)) (over a d +ℚ over b d) (a *ℤ pos d +ℤ b *ℤ pos d) (d * d) (mul-pos h h)
    (over_is (a *ℤ pos d +ℤ b *ℤ pos d) (d * d) (mul-pos h h)) (plus_is (over a d) (over b d) a b d d (over_is a d h) (over_is b d h))

over_minus : (a b : ℤ) (d : ℕ) → 0 < d → over (a -ℤ b) d ≡ over a d -ℚ over b d
over_minus a b d h =
    let plus : a -ℤ b ≡ a +ℤ neg_ℤ b = Prim.omega (arith, ints) in
    let opposite : over (neg_ℤ b) d ≡ neg_ℚ (over b d) = same_value (over (neg_ℤ b) d) (neg_ℚ (over b d)) (neg_ℤ b) d h (over_is (neg_ℤ b) d h) (neg_is (over b d) b d (over_is b d h)) in
    ap (λ z. over z d) plus ∙ over_plus a (neg_ℤ b) d h ∙ ap (λ t. over a d +ℚ t) opposite

pub no_parts : over (pos 0) pickup_one ≡ whole (pos 0)
no_parts = over-same (pos 0) (pos 0) pickup_one 1 (Prim.omega arith) (Prim.omega arith) refl ∙ over-one (pos 0)

-- ---- sizes
pub factor_size : (lines others : ℕ) (fs : List Factor) (l o : ℕ) → All (IsTableFactor lines others) fs → unsigned_abs (factor_in fs l o) ≤ most_factor
factor_size lines others [] l o all = Prim.omega arith
factor_size lines others (f ∷ fs) l o all = by (is_pair l o f) (all 0 f (Prim.omega arith)).size (factor_size lines others fs l o (λ k d lt. all (suc k) d (Prim.omega (arith, lt))))
  where
    by : (b : Bool) → unsigned_abs f.value ≤ most_factor → unsigned_abs (factor_in fs l o) ≤ most_factor → unsigned_abs (if b then f.value else factor_in fs l o) ≤ most_factor
    by true here rest = here
    by false here rest = rest

-- what is left of a number where it is kept in 64 or 128 bits
abbrev pub narrow : ℤ → ℤ
narrow z = to_z w64 (of_z w64 z)

abbrev pub wide : ℤ → ℤ
wide z = to_z w128 (of_z w128 z)

narrow_is : (z : ℤ) → unsigned_abs z < 2 ^ 63 → narrow z ≡ z
narrow_is z h = to_z-of_z w64 z (fits_signed_from_abs w64 z h)

wide_is : (z : ℤ) → unsigned_abs z < 2 ^ 127 → wide z ≡ z
wide_is z h = to_z-of_z w128 z (fits_signed_from_abs w128 z h)

-- a product of a share and a factor
module _ (s h : ℤ) (fs : unsigned_abs s ≤ share_one) (fh : unsigned_abs h ≤ most_factor) where
  pub share_size : unsigned_abs (s *ℤ h) ≤ share_one * most_factor
  share_size = subst (λ t. t ≤ share_one * most_factor) (sym (unsigned_abs-mul s h)) (mul-le-mul fs fh)

  pub kept_share : narrow (narrow s *ℤ narrow h) ≡ s *ℤ h
  kept_share =
      ap (λ t. narrow (t *ℤ narrow h)) (narrow_is s (lt_of_le_of_lt fs (Prim.omega arith)))
      ∙ ap (λ t. narrow (s *ℤ t)) (narrow_is h (lt_of_le_of_lt fh (Prim.omega arith)))
      ∙ narrow_is (s *ℤ h) (lt_of_le_of_lt share_size (Prim.omega arith))

  pub share_fits : FitsSigned w64 (narrow s *ℤ narrow h)
  share_fits =
      subst (λ t. FitsSigned w64 (t *ℤ narrow h)) (sym (narrow_is s (lt_of_le_of_lt fs (Prim.omega arith))))
      (subst (λ t. FitsSigned w64 (s *ℤ t)) (sym (narrow_is h (lt_of_le_of_lt fh (Prim.omega arith)))) (fits_signed_from_abs w64 (s *ℤ h) (lt_of_le_of_lt share_size (Prim.omega arith))))

-- a factor in millionths
module _ (h : ℤ) (few : unsigned_abs h ≤ most_factor) where
  pub own_size : unsigned_abs (h *ℤ pos share_one) ≤ share_one * most_factor
  own_size = Prim.omega (arith, ints, few)

  pub kept_own : narrow (narrow h *ℤ pos share_one) ≡ h *ℤ pos share_one
  kept_own =
      ap (λ t. narrow (t *ℤ pos share_one)) (narrow_is h (lt_of_le_of_lt few (Prim.omega arith)))
      ∙ narrow_is (h *ℤ pos share_one) (lt_of_le_of_lt own_size (Prim.omega arith))

-- a sum of shares with one more, and less one
module _ (t s r : ℤ) (i : ℕ) (few : i ≤ most_pickups) (ft : unsigned_abs t ≤ i * (share_one * most_factor)) (fs : unsigned_abs s ≤ share_one * most_factor) (er : r ≡ narrow s) where
  share_read : wide r ≡ s
  share_read = ap wide (er ∙ narrow_is s (lt_of_le_of_lt fs (Prim.omega arith))) ∙ wide_is s (lt_of_le_of_lt fs (Prim.omega arith))

  pub sum_size : unsigned_abs (t +ℤ s) ≤ (i + 1) * (share_one * most_factor)
  sum_size = Prim.omega (arith, ints, ft, fs)

  pub sum_is : wide (t +ℤ wide r) ≡ t +ℤ s
  sum_is = ap (λ z. wide (t +ℤ z)) share_read ∙ wide_is (t +ℤ s) (Prim.omega (arith, ints, ft, fs, few))

  pub difference_is : wide (t -ℤ wide r) ≡ t -ℤ s
  difference_is = ap (λ z. wide (t -ℤ z)) share_read ∙ wide_is (t -ℤ s) (Prim.omega (arith, ints, ft, fs, few))

-- those who pick up at one outage are no more than all records
pub takers_few : (m : Parts) (k : ℕ) → IsMarket m → length (pickups_of m k) ≤ most_pickups
takers_few m k market =
    let both = length-filter_both (λ (p : Pickup). p.outage == k) (λ (p : Pickup). not (p.outage == k)) (λ x. refl) m.pickups in
    Prim.omega (arith, both, market.unit_outages.record_count)

-- ---- a taker more
module _ (m : Parts) (l : ℕ) (ps : List Pickup) (i : ℕ) (p : Pickup) (inside : i < length ps) (at : p ≡ get_or ps i p) where
  pub taken_more : (old new share : ℤ) → over old pickup_one ≡ total (map (taker_term m l) (take i ps)) → over share pickup_one ≡ term_value (taker_term m l p) → new ≡ old +ℤ share
      → over new pickup_one ≡ total (map (taker_term m l) (take (i + 1) ps))
  taken_more old new share before is e =
      ap (λ z. over z pickup_one) e ∙ over_plus old share pickup_one (Prim.omega arith) ∙ ap₂ ◌+ℚ◌ before is
      ∙ ap (λ t. total (map (taker_term m l) (take i ps)) +ℚ t) (sym (+ℚ_nil (term_value (taker_term m l p))))
      ∙ sym (total-append (map (taker_term m l) (take i ps)) (taker_term m l p ∷ []))
      ∙ ap total (sym (ap (map (taker_term m l)) (take_more ps i p inside ∙ ap (λ (q : Pickup). take i ps ++ q ∷ []) (sym at)) ∙ map-append (taker_term m l) (take i ps) (p ∷ [])))

-- ---- all takers
cons_all : {X : Type 0} (p : X → Type 0) (x : X) (xs : List X) → p x → All p xs → All p (x ∷ xs)
cons_all p x xs h rest nought d lt = h
cons_all p x xs h rest (suc k) d lt = rest k d (Prim.omega (arith, lt))

pub all_kept : {X : Type 0} (p : X → Type 0) (test : X → Bool) (xs : List X) → All p xs → All p (filter test xs)
all_kept p test [] h = h
all_kept p test (x ∷ xs) h = by (test x) (all_kept p test xs (λ k d lt. h (suc k) d (Prim.omega (arith, lt))))
  where
    by : (b : Bool) → All p (filter test xs) → All p (cond b (x ∷ filter test xs) (filter test xs))
    by true rest = cons_all p x (filter test xs) (h 0 x (Prim.omega arith)) rest
    by false rest = rest

module _ (m : Parts) (l k : ℕ) (taken own left : ℤ) where
  pub pickup_is : over taken pickup_one ≡ total (taker_terms m l k) → over own pickup_one ≡ shift_factor m l (unit_at m (lost_unit m k)).bus → left ≡ taken -ℤ own → pickup_factor m l k ≡ over left pickup_one
  unfolding pickup_factor
  pickup_is takers at_bus e =
      let own_factor = shift_factor m l (unit_at m (lost_unit m k)).bus in
      sym (ap (λ z. over z pickup_one) e ∙ over_minus taken own pickup_one (Prim.omega arith) ∙ ap₂ ◌-ℚ◌ takers at_bus
      ∙ ap (λ t. total (taker_terms m l k) +ℚ t) (sym (+ℚ_nil (neg_ℚ own_factor))) ∙ sym (total-append (taker_terms m l k) (Plain (neg_ℚ own_factor) ∷ [])))

-- ---- the table, with a factor more
-- those that are there are the pickup factors
abbrev pub ArePickups : Parts → List ℤ → Type 0
ArePickups m table = (outage line : ℕ) → line < length m.lines → outage * length m.lines + line < length table → pickup_factor m line outage ≡ over (slice_index_or table (outage * length m.lines + line) (pos 0)) pickup_one

place_row : (columns row column i j : ℕ) → column < columns → j < columns → i * columns + j ≡ row * columns + column → (i ≡ row) × (j ≡ column)
place_row columns row column i j p q same = (
  sym (div-mul-add i columns j q) ∙ ap (λ (t : ℕ). t / columns) same ∙ div-mul-add row columns column p,
  sym (mod-mul-add i columns j q) ∙ ap (λ (t : ℕ). t % columns) same ∙ mod-mul-add row columns column p,
)

module _ (m : Parts) (table : List ℤ) (are : ArePickups m table) where
  pub pickups_more : (k l : ℕ) (n : ℤ) → l < length m.lines → length table ≡ k * length m.lines + l → pickup_factor m l k ≡ over n pickup_one → ArePickups m (table ++ n ∷ [])
  pickups_more k l n inside count is outage line p lt = by (cases_lt (outage * length m.lines + line) (length table))
    where
      here : (outage ≡ k) × (line ≡ l) → outage * length m.lines + line ≡ length table → pickup_factor m line outage ≡ over (slice_index_or (table ++ n ∷ []) (outage * length m.lines + line) (pos 0)) pickup_one
      here (at_row, at_line) e =
          ap₂ (pickup_factor m) at_line at_row ∙ is ∙ ap (λ (z : ℤ). over z pickup_one) (sym (get_or-append_seam table n [] (pos 0)) ∙ ap (λ (i : ℕ). slice_index_or (table ++ n ∷ []) i (pos 0)) (sym e))

      by : (outage * length m.lines + line < length table) ⊎ (length table ≤ outage * length m.lines + line)
          → pickup_factor m line outage ≡ over (slice_index_or (table ++ n ∷ []) (outage * length m.lines + line) (pos 0)) pickup_one
      by (inl below) = are outage line p below ∙ ap (λ (z : ℤ). over z pickup_one) (sym (get_or-append table (n ∷ []) (pos 0) (outage * length m.lines + line) below))
      by (inr above) =
          let e : outage * length m.lines + line ≡ length table = Prim.omega (arith, above, lt, length-append table (n ∷ [])) in
          here (place_row (length m.lines) k l outage line inside p (e ∙ count)) e

  pub pickups_all : (n : ℕ) → n ≡ length m.unit_outages → length table ≡ n * length m.lines → IsPickupTable m table
  pickups_all n e count =
      let long : length table ≡ length m.unit_outages * length m.lines = count ∙ ap (λ (k : ℕ). k * length m.lines) e in record {
        count = long;
        each = λ outage line p q. are outage line q (let r = mul-add-lt outage (length m.lines) line (length m.unit_outages) p q in Prim.omega (arith, r, long));
      }

-- ---- a market with other buses, blocks, lines or reserve
module _ (m : Parts) (table : List ℤ) (are : IsPickupTable m table) where
  pub pickups_kept : (buses : List Bus) (blocks : List Block) (lines : List Line) (reserve : Reserve) → length lines ≡ length m.lines → IsPickupTable (record m { buses = buses; blocks = blocks; lines = lines; reserve = reserve }) table
  unfolding pickup_factor
  pickups_kept buses blocks lines reserve e = record {
    count = are.count ∙ ap (λ (n : ℕ). length m.unit_outages * n) (sym e);
    each = λ outage line p q.
        are.each outage line p (subst (λ (n : ℕ). line < n) e q) ∙ ap (λ (n : ℕ). over (slice_index_or table (outage * n + line) (pos 0)) pickup_one) (sym e);
  }

-- ---- the table, read
module _ (m : Parts) (market : IsMarket m) (table : List ℤ) (are : IsPickupTable m table) (line outage : ℕ) (p : line < length m.lines) (q : outage < length m.unit_outages) where
  pub pickup_row_few : outage * length m.lines ≤ most_units * most_lines
  pickup_row_few = let few : outage ≤ most_units = Prim.omega (arith, q, market.unit_outages.count) in mul-le-mul few market.line_count

  pub pickup_place_few : outage * length m.lines + line < most_units * most_lines + most_lines
  pickup_place_few = let r = pickup_row_few in Prim.omega (arith, p, market.line_count, r)

  pub pickup_place_inside : outage * length m.lines + line < length table
  pickup_place_inside = let r = mul-add-lt outage (length m.lines) line (length m.unit_outages) q p in Prim.omega (arith, r, are.count)

  pub pickup_read : (value : ℤ) → value ≡ slice_index_or table (outage * length m.lines + line) value → pickup_factor m line outage ≡ over value pickup_one
  pickup_read value read = are.each outage line q p ∙ ap (λ (z : ℤ). over z pickup_one) (sym (read ∙ get_or_default table (outage * length m.lines + line) value (pos 0) pickup_place_inside))

-- ---- the shift factor of a line for the bus of a unit, read
module _ (m : Parts) (market : IsMarket m) (table : List ℤ) (are : IsTable (length m.lines) (length m.buses) (factor_in m.shift) table) (line unit : ℕ) (p : line < length m.lines) (q : unit < length m.units) where
  abbrev bus : ℕ
  bus = (unit_at m unit).bus

  bus_inside : bus < length m.buses
  bus_inside = (market.units unit _ q).bus

  pub shift_place_few : line * length m.buses + bus < most_lines * most_buses + most_buses
  shift_place_few =
      let few : line ≤ most_lines = Prim.omega (arith, p, market.line_count) in
      let r = mul-le-mul few market.bus_count in
      Prim.omega (arith, r, bus_inside, market.bus_count)

  pub shift_place_inside : line * length m.buses + bus < length table
  shift_place_inside = let r = mul-add-lt line (length m.buses) bus (length m.lines) p bus_inside in Prim.omega (arith, r, are.count)

  pub shift_read : narrow (slice_index_or table (line * length m.buses + bus) (pos 0)) ≡ factor_in m.shift line bus
  shift_read =
      ap narrow (are.each line bus p bus_inside)
      ∙ narrow_is (factor_in m.shift line bus) (lt_of_le_of_lt (factor_size (length m.lines) (length m.buses) m.shift line bus market.shift.each) (Prim.omega arith))

  pub shift_size : unsigned_abs (narrow (slice_index_or table (line * length m.buses + bus) (pos 0))) ≤ most_factor
  shift_size = subst (λ (z : ℤ). unsigned_abs z ≤ most_factor) (sym shift_read) (factor_size (length m.lines) (length m.buses) m.shift line bus market.shift.each)
