-- Outages of units, one record more.
use Rattle.std.proofs.Common.{◌≡◌, ◌<◌, ◌≤◌, ◌+◌, ◌*◌, ◌∷◌, ◌++◌, ◌∙◌, ℕ, ℤ, pos, negsuc, ◌+ℤ◌, List, [], Bool, true, false, All, length, drop, take, map, get_or, refl, sym, ap, ap₂, subst, arith, w64}
use Rattle.std.specs.Prelude.{◌==◌, ◌<ℤ◌, ◌≤ℤ◌, Some, unsigned_abs, if◌then◌else◌}
use Rattle.std.specs.Ordering.{int_eq}
use mir.Val.{to_z, of_z}
use Rattle.std.proofs.lemmas.Int.{ints, to_z-of_z}
use Rattle.std.proofs.lemmas.List.{drop_all, drop_more, map-append, take_more}
use Rattle.std.proofs.lemmas.List.Quantifiers.{position-Some}
use Rattle.market_data.proofs.Data.{datum_fits}
use Rattle.market_data.proofs.WholeSumLaws.{int_sum_more}
use Rattle.market_data.specs.WholeSums.{int_sum}
use Rattle.net_case.specs.declared.live_parts.NetUnit.{NetUnit}
use Rattle.net_case.specs.Networks.{LiveNetwork}
use Rattle.outage_list.specs.declared.pickup_records.UnitPickup.{UnitPickup}
use Rattle.outage_list.specs.PickupRecords.{IsUnitPickup, unit_place}
use Rattle.outage_list.specs.UnitListing.{share_in, with_lost, with_unit}

-- the place of a live unit
pub live-place : (network : LiveNetwork) (n : ℤ) (place : ℕ) → unit_place network n ≡ Some place → place < length network.units
unfolding unit_place
live-place network n place found =
    let d : NetUnit = record { row = 0; bus = 0; low = pos 0; high = pos 0 } in
    (position-Some (λ (unit : NetUnit). int_eq (pos unit.row) n) network.units place d found).0

-- ---- the units that are lost
pub lost-step : (units : List ℕ) (unit_pickups : List UnitPickup) (i : ℕ) (d : UnitPickup) → i < length unit_pickups → with_lost units (drop i unit_pickups) ≡ with_lost (with_unit units (get_or unit_pickups i d).lost) (drop (i + 1) unit_pickups)
unfolding with_lost
lost-step units unit_pickups i d lt = rw (drop_more unit_pickups i d lt) refl

pub lost-end : (units : List ℕ) (unit_pickups : List UnitPickup) (i : ℕ) → length unit_pickups ≤ i → with_lost units (drop i unit_pickups) ≡ units
unfolding with_lost
lost-end units unit_pickups i le = rw (drop_all i unit_pickups le) refl

-- ---- what is picked up
-- an amount that a machine number holds
pub exact : (z : ℤ) → pos 0 ≤ℤ z → z ≤ℤ pos 1000000000000000 → to_z w64 (of_z w64 z) ≡ z
exact (pos n) least most = to_z-of_z w64 (pos n) (datum_fits (pos n) (omega (arith, ints, most)))
exact (negsuc n) least most = absurd (omega (arith, ints, least))

share-most : (z : ℤ) → pos 0 <ℤ z → unsigned_abs z ≤ 1000000000 → (pos 0 ≤ℤ z) × (z ≤ℤ pos 1000000000)
share-most (pos n) above size = (omega (arith, ints), omega (arith, ints, size))
share-most (negsuc n) above size = absurd (omega (arith, ints, above))

pub share-range : (units u : ℕ) (t : UnitPickup) → IsUnitPickup units t → (pos 0 ≤ℤ share_in u t) × (share_in u t ≤ℤ pos 1000000000)
share-range units u t is = by (t.lost == u)
  where
    by : (b : Bool) → (pos 0 ≤ℤ (if b then t.share else pos 0)) × ((if b then t.share else pos 0) ≤ℤ pos 1000000000)
    by true = share-most t.share is.above is.size
    by false = (omega (arith, ints), omega (arith, ints))

-- the sum of the shares of so many records
pub record SumSoFar (u : ℕ) (unit_pickups : List UnitPickup) (i : ℕ) (b : ℤ) : Type 0 where
  pub sum : b ≡ int_sum (share_in u) (take i unit_pickups)
  pub least : pos 0 ≤ℤ b
  pub most : b ≤ℤ pos (i * 1000000000)

pub sum-step : (units u : ℕ) (unit_pickups : List UnitPickup) (i : ℕ) (d : UnitPickup) (b s : ℤ) → All (IsUnitPickup units) unit_pickups → length unit_pickups ≤ 5000 → i < length unit_pickups → s ≡ share_in u (get_or unit_pickups i d)
    → SumSoFar u unit_pickups i b → SumSoFar u unit_pickups (i + 1) (to_z w64 (of_z w64 (b +ℤ to_z w64 (of_z w64 s))))
sum-step units u unit_pickups i d b s all few lt is so =
    let range = share-range units u (get_or unit_pickups i d) (all i d lt) in
    let least : pos 0 ≤ℤ s = subst (λ z. pos 0 ≤ℤ z) (sym is) range.0 in
    let most : s ≤ℤ pos 1000000000 = subst (λ z. z ≤ℤ pos 1000000000) (sym is) range.1 in
    let one : to_z w64 (of_z w64 s) ≡ s = exact s least (omega (arith, ints, most)) in
    let both : to_z w64 (of_z w64 (b +ℤ s)) ≡ b +ℤ s = exact (b +ℤ s) (omega (arith, ints, least, so.least)) (omega (arith, ints, most, so.most, few, lt)) in
    subst (SumSoFar u unit_pickups (i + 1)) (sym (ap (λ z. to_z w64 (of_z w64 (b +ℤ z))) one ∙ both)) (record {
      sum = ap₂ ◌+ℤ◌ so.sum is ∙ sym (int_sum_more (share_in u) unit_pickups i d lt);
      least = omega (arith, ints, least, so.least);
      most = omega (arith, ints, most, so.most);
    })

-- ---- a list that is made item by item
pub mapped-more : {A B : Type 0} (f : A → B) (xs : List A) (i : ℕ) (x : A) (made new : List B) → i < length xs → x ≡ get_or xs i x → made ≡ map f (take i xs) → new ≡ made ++ f x ∷ [] → new ≡ map f (take (i + 1) xs)
mapped-more f xs i x made new lt at is pushed =
    pushed ∙ ap₂ (λ ys y. ys ++ f y ∷ []) is at ∙ sym (map-append f (take i xs) (get_or xs i x ∷ [])) ∙ ap (map f) (sym (take_more xs i x lt))
