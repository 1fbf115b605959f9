-- The outages of units that records list are those of a market.
use Rattle.std.proofs.Common.{◌≡◌, ◌≢◌, ◌<◌, ◌≤◌, ◌*◌, ◌∷◌, ◌++◌, ◌∙◌, ℕ, zero, suc, ℤ, pos, ◌+ℤ◌, List, [], Bool, true, false, All, None, Some, length, map, get_or, refl, sym, ap, ap₂, subst, arith, w64}
use Rattle.std.specs.Prelude.{◌==◌, ◌≤ℤ◌, AllPairs, cond, unwrap_or, if◌then◌else◌}
use Rattle.std.specs.List.{find, list_any, position, position_or_len}
use mir.Val.{to_z, of_z}
use Rattle.std.proofs.lemmas.Bool.{cases_lt, eq-eqb, eqb-true, false_from_ne_true, lt-ltb, not-false, true≢false}
use Rattle.std.proofs.lemmas.Bool.Decides.{Decides-eqb, Decides-int_eq}
use Rattle.std.proofs.lemmas.Int.{ints}
use Rattle.std.proofs.lemmas.List.{length-map}
use Rattle.std.proofs.lemmas.List.Elements.{All-append, All-cons, All-contains, All-map, All-nil, All-tail}
use Rattle.std.proofs.lemmas.List.Folds.{Any-from_list_any, list_any-append}
use Rattle.std.proofs.lemmas.List.Quantifiers.{position-Some}
use Rattle.std.proofs.Math.Logic.{⊎_elim}
use Rattle.std.proofs.lemmas.Map.Made.{IsDistinct-from_AllPairs}
use Rattle.std.proofs.lemmas.Map.Steps.{length-le_from_distinct_below}
use Rattle.market_data.specs.Scales.{share_one}
use Rattle.market_data.specs.WholeSums.{int_sum}
use Rattle.market_model.specs.Market.{AreUnitOutages, IsPickup}
use Rattle.outage_list.specs.declared.pickup_records.UnitPickup.{UnitPickup}
use Rattle.outage_list.specs.PickupRecords.{IsUnitPickup}
use Rattle.outage_list.specs.UnitListing.{PicksUpAll, is_uneven, lost_units, lost_place, pickup_of, share_in, share_sum, with_lost, with_unit}
use Rattle.outage_list.proofs.ListingLemmas.{among, apart-push, not_among}
use Rattle.outage_list.proofs.UnitLemmas.{exact, share-range}

-- ---- the units that are lost are units, none twice
record AreLost (units : ℕ) (us : List ℕ) : Type 0 where
  each : All (λ u. u < units) us
  once : AllPairs (λ a b. a ≢ b) us

lost-more : (units : ℕ) (us : List ℕ) (u : ℕ) → AreLost units us → u < units → AreLost units (with_unit us u)
lost-more units us u are lt = by (list_any (λ v. v == u) us) refl
  where
    by : (b : Bool) → list_any (λ v. v == u) us ≡ b → AreLost units (if b then us else us ++ u ∷ [])
    by true e = are
    by false e = record {
      each = All-append (λ v. v < units) us (u ∷ []) are.each (All-cons (λ v. v < units) u [] lt (All-nil _));
      once = apart-push us u are.once (not_among us u e);
    }

all-lost : (units : ℕ) (us : List ℕ) (ts : List UnitPickup) → AreLost units us → All (IsUnitPickup units) ts → AreLost units (with_lost us ts)
unfolding with_lost
all-lost units us [] are all = are
all-lost units us (t ∷ ts) are all = all-lost units (with_unit us t.lost) ts (lost-more units us t.lost are (all 0 t (omega arith)).lost) (All-tail (IsUnitPickup units) t ts all)

-- ---- each unit that a record loses is among them
has-more : (us : List ℕ) (u v : ℕ) → list_any (λ w. w == v) us ≡ true → list_any (λ w. w == v) (with_unit us u) ≡ true
has-more us u v h = by (list_any (λ w. w == u) us)
  where
    by : (b : Bool) → list_any (λ w. w == v) (if b then us else us ++ u ∷ []) ≡ true
    by true = h
    by false = list_any-append (λ w. w == v) us (u ∷ []) ∙ rw h refl

has-it : (us : List ℕ) (u : ℕ) → list_any (λ w. w == u) (with_unit us u) ≡ true
has-it us u = by (list_any (λ w. w == u) us) refl
  where
    by : (b : Bool) → list_any (λ w. w == u) us ≡ b → list_any (λ w. w == u) (if b then us else us ++ u ∷ []) ≡ true
    by true e = e
    by false e = let it = eq-eqb u u refl in list_any-append (λ w. w == u) us (u ∷ []) ∙ rw (e, it) refl

has-kept : (us : List ℕ) (ts : List UnitPickup) (v : ℕ) → list_any (λ w. w == v) us ≡ true → list_any (λ w. w == v) (with_lost us ts) ≡ true
unfolding with_lost
has-kept us [] v h = h
has-kept us (t ∷ ts) v h = has-kept (with_unit us t.lost) ts v (has-more us t.lost v h)

has-lost : (us : List ℕ) (ts : List UnitPickup) (k : ℕ) (d : UnitPickup) → k < length ts → list_any (λ w. w == (get_or ts k d).lost) (with_lost us ts) ≡ true
unfolding with_lost
has-lost us [] k d lt = absurd (omega (arith, lt))
has-lost us (t ∷ ts) zero d lt = has-kept (with_unit us t.lost) ts t.lost (has-it us t.lost)
has-lost us (t ∷ ts) (suc k) d lt = has-lost (with_unit us t.lost) ts k d (omega (arith, lt))

-- ---- the place of a unit among those that are lost
any-below : (p : ℕ → Bool) (us : List ℕ) → list_any p us ≡ true → position_or_len p us < length us
any-below p [] found = cc
any-below p (u ∷ us) found = by (any-below p us) (p u) refl
  where
    by : (list_any p us ≡ true → position_or_len p us < length us) → (b : Bool) → p u ≡ b → position_or_len p (u ∷ us) < length (u ∷ us)
    by rest true e = rw e (omega arith)
    by rest false e = let r = rest (rw e at found) in rw e (omega (arith, r))

module _ (us : List ℕ) (u : ℕ) (found : list_any (λ v. v == u) us ≡ true) where
  stands-at : position (λ v. v == u) us ≡ Some (position_or_len (λ v. v == u) us)
  stands-at = ap (λ b. cond b (Some (position_or_len (λ v. v == u) us)) None) (lt-ltb _ _ (any-below (λ v. v == u) us found))

  outage-is : lost_place us u ≡ position_or_len (λ v. v == u) us
  outage-is = ap (λ o. unwrap_or o 0) stands-at

  outage-range : lost_place us u < length us
  outage-range = omega (arith, outage-is, any-below (λ v. v == u) us found)

  outage-at : get_or us (lost_place us u) 0 ≡ u
  outage-at =
      let (within, same, first) = position-Some (λ v. v == u) us (position_or_len (λ v. v == u) us) 0 stands-at in
      ap (λ (i : ℕ). get_or us i 0) outage-is ∙ eqb-true _ _ same

  -- its outage is that of the unit at a place where it is that unit
  outage-test : AllPairs (λ a b. a ≢ b) us → (k : ℕ) → k < length us → (lost_place us u == k) ≡ (u == get_or us k 0)
  outage-test once k lt = by (u == get_or us k 0) refl
    where
      place : u ≡ get_or us k 0 → lost_place us u ≡ k
      place same =
          ⊎_elim
          (λ before. absurd (once (lost_place us u) k 0 before lt (outage-at ∙ same)))
          (λ other. ⊎_elim
          (λ behind. absurd (once k (lost_place us u) 0 behind outage-range (sym (outage-at ∙ same))))
          (λ le. omega (arith, other, le))
          (cases_lt k (lost_place us u)))
          (cases_lt (lost_place us u) k)

      by : (b : Bool) → (u == get_or us k 0) ≡ b → (lost_place us u == k) ≡ b
      by true e = eq-eqb _ _ (place (eqb-true _ _ e))
      by false e = false_from_ne_true _ (λ h. true≢false (sym (eq-eqb u (get_or us k 0) (sym outage-at ∙ ap (λ (i : ℕ). get_or us i 0) (eqb-true _ _ h))) ∙ e))

few-lost : (units : ℕ) (us : List ℕ) → AreLost units us → length us ≤ units
few-lost units us are =
    length-le_from_distinct_below us units (IsDistinct-from_AllPairs Decides-eqb us are.once) (λ q found.
    let (k, y, lt, at, passes) = Any-from_list_any (λ y. q == y) us found in
    let same : q ≡ y = eqb-true q y passes in
    subst (λ (n : ℕ). n < units) (sym same) (All-contains (λ u. u < units) us y are.each (k, lt, at)))

-- ---- what is picked up
sum-least : (units u : ℕ) (ts : List UnitPickup) → All (IsUnitPickup units) ts → pos 0 ≤ℤ int_sum (share_in u) ts
sum-least units u [] all = omega (arith, ints)
sum-least units u (t ∷ ts) all =
    let first = share-range units u t (all 0 t (omega arith)) in
    let rest = sum-least units u ts (All-tail (IsUnitPickup units) t ts all) in
    omega (arith, ints, first.0, rest)

sum-most : (units u : ℕ) (ts : List UnitPickup) → All (IsUnitPickup units) ts → int_sum (share_in u) ts ≤ℤ pos (length ts * 1000000000)
sum-most units u [] all = omega (arith, ints)
sum-most units u (t ∷ ts) all =
    let first = share-range units u t (all 0 t (omega arith)) in
    let rest = sum-most units u ts (All-tail (IsUnitPickup units) t ts all) in
    omega (arith, ints, first.1, rest)

-- the sum is a machine number
pub sum-exact : (units u : ℕ) (ts : List UnitPickup) (s : ℤ) → All (IsUnitPickup units) ts → length ts ≤ 5000 → s ≡ share_sum ts u → to_z w64 (of_z w64 s) ≡ share_sum ts u
sum-exact units u ts s all few is =
    ap (λ z. to_z w64 (of_z w64 z)) is ∙ exact (share_sum ts u) (sum-least units u ts all) (omega (arith, ints, sum-most units u ts all, few))

-- a share is at most the sum of those of its outage
share-le : (units : ℕ) (ts : List UnitPickup) (k : ℕ) (d : UnitPickup) → All (IsUnitPickup units) ts → k < length ts → (get_or ts k d).share ≤ℤ share_sum ts (get_or ts k d).lost
share-le units [] k d all lt = absurd (omega (arith, lt))
share-le units (t ∷ ts) zero d all lt =
    let rest = sum-least units t.lost ts (All-tail (IsUnitPickup units) t ts all) in
    let it = eq-eqb t.lost t.lost refl in
    let here : share_in t.lost t ≡ t.share = rw it refl in
    omega (arith, ints, rest, here)
share-le units (t ∷ ts) (suc k) d all lt =
    let first = share-range units (get_or ts k d).lost t (all 0 t (omega arith)) in
    let rest = share-le units ts k d (All-tail (IsUnitPickup units) t ts all) (omega (arith, lt)) in
    omega (arith, ints, first.0, rest)

-- where none passes, each fails
none-all : {X : Type 0} (test : X → Bool) (xs : List X) → find test xs ≡ None → All (λ x. test x ≡ false) xs
none-all test [] e = All-nil _
none-all {X} test (x ∷ xs) e = by (none-all test xs) (test x) refl
  where
    by : (find test xs ≡ None → All (λ (y : X). test y ≡ false) xs) → (b : Bool) → test x ≡ b → All (λ (y : X). test y ≡ false) (x ∷ xs)
    by rest true h = let found : ◌≡◌ (Some x) None = rw h at e in cc
    by rest false h = All-cons (λ (y : X). test y ≡ false) x xs h (rest (rw h at e))

whole-sum : (ts : List UnitPickup) (u : ℕ) → is_uneven ts u ≡ false → share_sum ts u ≡ pos share_one
whole-sum ts u even = (Decides-int_eq (share_sum ts u) (pos share_one)).0 (not-false _ even)

-- the shares of an outage are those of its unit
shares-by : (lost : List ℕ) (k v : ℕ) (ts : List UnitPickup) → ((j : ℕ) (d : UnitPickup) → j < length ts → (lost_place lost (get_or ts j d).lost == k) ≡ ((get_or ts j d).lost == v))
    → int_sum (λ p. if p.outage == k then p.share else pos 0) (map (pickup_of lost) ts) ≡ share_sum ts v
shares-by lost k v [] same = refl
shares-by lost k v (t ∷ ts) same =
    ap₂ ◌+ℤ◌ (ap (λ (b : Bool). if b then t.share else pos 0) (same 0 t (omega arith))) (shares-by lost k v ts (λ j d lt. same (suc j) d (omega (arith, lt))))

-- ---- the outages that are listed
module _ (units : ℕ) (ts : List UnitPickup) (most : units ≤ 1000) (few : length ts ≤ 5000) (all : All (IsUnitPickup units) ts) (even : find (is_uneven ts) (lost_units ts) ≡ None) where
  lost-are : AreLost units (lost_units ts)
  lost-are = all-lost units [] ts (record { each = All-nil _; once = λ i j d lt within. absurd (omega (arith, within)) }) all

  pickup-is : (k : ℕ) (d : UnitPickup) → k < length ts → IsPickup (length (lost_units ts)) units (pickup_of (lost_units ts) (get_or ts k d))
  pickup-is k d lt =
      let t = get_or ts k d in
      let has = has-lost [] ts k d lt in
      let sum = whole-sum ts t.lost (All-contains (λ u. is_uneven ts u ≡ false) (lost_units ts) t.lost (none-all (is_uneven ts) (lost_units ts) even) (among (lost_units ts) t.lost has)) in
      record {
        outage = outage-range (lost_units ts) t.lost has;
        taker = (all k d lt).taker;
        above = (all k d lt).above;
        most = subst (λ z. t.share ≤ℤ z) sum (share-le units ts k d all lt);
      }

  pub outages-whole : PicksUpAll (record { lost = lost_units ts; pickups = map (pickup_of (lost_units ts)) ts })
  outages-whole k lt =
      shares-by (lost_units ts) k (get_or (lost_units ts) k 0) ts (λ j d within. outage-test (lost_units ts) (get_or ts j d).lost (has-lost [] ts j d within) lost-are.once k lt)
      ∙ whole-sum ts (get_or (lost_units ts) k 0) (none-all (is_uneven ts) (lost_units ts) even k 0 lt)

  pub outages-kept : AreUnitOutages units (lost_units ts) (map (pickup_of (lost_units ts)) ts)
  outages-kept = record {
    count = omega (arith, most, few-lost units (lost_units ts) lost-are);
    each = lost-are.each;
    distinct = lost-are.once;
    record_count = omega (arith, few, length-map ts (pickup_of (lost_units ts)));
    pickups = All-map (IsPickup (length (lost_units ts)) units) (pickup_of (lost_units ts)) ts pickup-is;
  }
