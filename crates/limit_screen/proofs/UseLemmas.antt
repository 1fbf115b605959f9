-- Sums by unit in the making: those of units that count, and nothing at the others.
use Rattle.std.specs.Prelude.{◌≡◌, ◌≢◌, ◌==◌, ◌||◌, ℕ, ◌+◌, ◌<◌, Bool, true, false, List, [], ◌∷◌, ◌++◌, length, map, replicate, Option, Some, None, if◌then◌else◌, refl}
use Rattle.std.specs.Option.{option_map}
use Rattle.std.specs.List.{range_with_len}
use Rattle.std.proofs.Common.{zero as nought, suc, arith, ap, sym, ◌∙◌, inl, inr, get_or, set, take}
use Rattle.std.proofs.lemmas.Bool.{eq-eqb, ne_eqb}
use Rattle.std.proofs.lemmas.Option.{same_Some}
use Rattle.std.proofs.lemmas.List.{get_or-map, get_or-set_same, get_or-set_other, length-map, length-set, take_more}
use Rattle.std.proofs.lemmas.List.FromFn.{length-map-range_with_len}
use Rattle.fraction_theory.specs.Fraction.{Fraction, ◌+ℚ◌}
use Rattle.fraction_theory.proofs.FieldLaws.{+ℚ_nil}
use Rattle.fraction_theory.proofs.ListSums.{same_or_not}
use Rattle.market_model.specs.declared.participants.Parts.{Parts}
use Rattle.market_model.specs.declared.participants.ReserveOffer.{ReserveOffer}
use Rattle.market_model.specs.Dispatch.{Dispatch, places, zero}
use Rattle.market_model.specs.Reserves.{offers_among, offers_reserve, room_used}
use Rattle.market_model.proofs.PlaceLists.{all_put, filled_at, map_same}
use Rattle.limit_screen.specs.Rooms.{HaveSums, IsUseOf, counted}

-- ---- what stands at a place
pub some_counts : (b : Bool) (x y : Fraction) → Some x ≡ counted b y → (b ≡ true) × (x ≡ y)
some_counts true x y e = (refl, same_Some x y e)
some_counts false x y e = absurd Prim.cc

pub none_counts : (b : Bool) (y : Fraction) → None ≡ counted b y → b ≡ false
none_counts true y e = absurd Prim.cc
none_counts false y e = refl

module _ {N : Type 0} (value : N → Fraction) where
  pub have_count : (counts : ℕ → Bool) (sum : ℕ → Fraction) (units : ℕ) (used : List (Option N)) → HaveSums value counts sum units used → length used ≡ units
  have_count counts sum units used have = sym (length-map used (option_map value)) ∙ ap length have ∙ length-map-range_with_len (λ u. counted (counts u) (sum u)) 0 units

  pub sum_read : (counts : ℕ → Bool) (sum : ℕ → Fraction) (units i : ℕ) (used : List (Option N)) (o : Option N) → HaveSums value counts sum units used → i < length used → o ≡ get_or used i o
      → option_map value o ≡ counted (counts i) (sum i)
  sum_read counts sum units i used o have inside is =
      let count = have_count counts sum units used have in
      ap (option_map value) is ∙ sym (get_or-map (option_map value) used i o None inside) ∙ filled_at (λ u. counted (counts u) (sum u)) (map (option_map value) used) units None have i (Prim.omega (arith, inside, count))

  -- sums that are the same
  pub sums_same : (counts : ℕ → Bool) (f g : ℕ → Fraction) (units : ℕ) (used : List (Option N)) → HaveSums value counts f units used → ((u : ℕ) → f u ≡ g u) → HaveSums value counts g units used
  sums_same counts f g units used have same = have ∙ map_same (λ u. counted (counts u) (f u)) (λ u. counted (counts u) (g u)) units (λ u lt. ap (counted (counts u)) (same u))

  -- one place is set
  pub one_put : (before after : ℕ → Option Fraction) (units i : ℕ) (used : List (Option N)) (o : Option N) → length used ≡ units → i < units → map (option_map value) used ≡ map before (places units) → option_map value o ≡ after i
      → ((k : ℕ) → k ≢ i → after k ≡ before k) → map (option_map value) (set used i o) ≡ map after (places units)
  one_put before after units i used o count inside all here others = all_put (option_map value) after (set used i o) units units (length-set used i o ∙ count) (Prim.omega arith) each
    where
      each : (k : ℕ) (d : Option N) → k < units → option_map value (get_or (set used i o) k d) ≡ after k
      each k d lt = elim (same_or_not k i) [
        | inl e ↦ ap (λ (j : ℕ). option_map value (get_or (set used i o) j d)) e ∙ ap (option_map value) (get_or-set_same used i o d (Prim.omega (arith, inside, count))) ∙ here ∙ ap after (sym e)
        | inr other ↦
            ap (option_map value) (get_or-set_other used i k o d other) ∙ sym (get_or-map (option_map value) used k d None (Prim.omega (arith, lt, count)))
            ∙ filled_at before (map (option_map value) used) units None all k lt ∙ sym (others k other)
      ]

  -- ---- so much more at one place
  module _ (counts : ℕ → Bool) (sum : ℕ → Fraction) (units i : ℕ) (used : List (Option N)) (mw : Fraction) (have : HaveSums value counts sum units used) where
    abbrev pub more : ℕ → Fraction
    more u = sum u +ℚ (if i == u then mw else zero)

    more_elsewhere : (u : ℕ) → u ≢ i → more u ≡ sum u
    more_elsewhere u other = ap (λ (b : Bool). sum u +ℚ (if b then mw else zero)) (ne_eqb i u (λ e. other (sym e))) ∙ +ℚ_nil (sum u)

    pub more_put : (new : N) → i < length used → counts i ≡ true → value new ≡ sum i +ℚ mw → HaveSums value counts more units (set used i (Some new))
    more_put new inside here is =
        let count = have_count counts sum units used have in
        one_put (λ u. counted (counts u) (sum u)) (λ u. counted (counts u) (more u)) units i used (Some new) count (Prim.omega (arith, inside, count)) have
        (ap (λ (x : Fraction). Some x) (is ∙ ap (λ (b : Bool). sum i +ℚ (if b then mw else zero)) (sym (eq-eqb i i refl))) ∙ ap (λ (b : Bool). counted b (more i)) (sym here))
        (λ k other. ap (counted (counts k)) (more_elsewhere k other))

    -- it does not count there
    pub more_nowhere : counts i ≡ false → HaveSums value counts more units used
    more_nowhere none = have ∙ map_same (λ u. counted (counts u) (sum u)) (λ u. counted (counts u) (more u)) units each
      where
        each : (u : ℕ) → u < units → counted (counts u) (sum u) ≡ counted (counts u) (more u)
        each u lt = elim (same_or_not u i) [
          | inl e ↦ let out : counts u ≡ false = ap counts e ∙ none in ap (λ (b : Bool). counted b (sum u)) out ∙ ap (λ (b : Bool). counted b (more u)) (sym out)
          | inr other ↦ ap (counted (counts u)) (sym (more_elsewhere u other))
        ]

-- ---- units that offer reserve
none_from : (a n : ℕ) → {N : Type 0} (value : N → Fraction) → map (option_map value) (replicate n None) ≡ map (λ u. counted false zero) (range_with_len a n)
none_from a nought value = refl
none_from a (suc n) value = ap (λ os. None ∷ os) (none_from (a + 1) n value)

pub none_offered : {N : Type 0} (value : N → Fraction) (units : ℕ) (used : List (Option N)) → used ≡ replicate units None → HaveSums value (λ u. false) (λ u. zero) units used
none_offered value units used e = ap (map (option_map value)) e ∙ none_from 0 units value

offers_one_more : (os : List ReserveOffer) (k : ℕ) (o : ReserveOffer) (u : ℕ) → k < length os → offers_among (take (k + 1) os) u ≡ (offers_among (take k os) u || ((get_or os k o).unit == u))
offers_one_more os k o u lt = ap (λ (ps : List ReserveOffer). offers_among ps u) (take_more os k o lt) ∙ behind (take k os) (get_or os k o)
  where
    last : (b : Bool) → (b || false) ≡ b
    last true = refl
    last false = refl

    assoc : (a b c : Bool) → (a || (b || c)) ≡ ((a || b) || c)
    assoc true b c = refl
    assoc false b c = refl

    behind : (ps : List ReserveOffer) (p : ReserveOffer) → offers_among (ps ++ p ∷ []) u ≡ (offers_among ps u || (p.unit == u))
    behind [] p = last (p.unit == u)
    behind (q ∷ ps) p = ap (λ (b : Bool). (q.unit == u) || b) (behind ps p) ∙ assoc (q.unit == u) (offers_among ps u) (p.unit == u)

module _ {N : Type 0} (value : N → Fraction) (os : List ReserveOffer) (k : ℕ) (o : ReserveOffer) (units : ℕ) (used : List (Option N)) (new : N) where
  pub offering_more : k < length os → o ≡ get_or os k o → o.unit < units → value new ≡ zero → HaveSums value (offers_among (take k os)) (λ u. zero) units used
      → HaveSums value (offers_among (take (k + 1) os)) (λ u. zero) units (set used o.unit (Some new))
  offering_more lt at inside is have =
      one_put value (λ u. counted (offers_among (take k os) u) zero) (λ u. counted (offers_among (take (k + 1) os) u) zero) units o.unit used (Some new) (have_count value (offers_among (take k os)) (λ u. zero) units used have) inside have
      (ap (λ (x : Fraction). Some x) is ∙ ap (λ (b : Bool). counted b zero) (sym (here)))
      (λ u other. ap (λ (b : Bool). counted b zero) (elsewhere u other))
    where
      one : (u : ℕ) → offers_among (take (k + 1) os) u ≡ (offers_among (take k os) u || (o.unit == u))
      one u = offers_one_more os k o u lt ∙ ap (λ (p : ReserveOffer). offers_among (take k os) u || (p.unit == u)) (sym at)

      last_true : (b : Bool) → (b || true) ≡ true
      last_true true = refl
      last_true false = refl

      last_false : (b : Bool) → (b || false) ≡ b
      last_false true = refl
      last_false false = refl

      here : offers_among (take (k + 1) os) o.unit ≡ true
      here = one o.unit ∙ ap (λ (b : Bool). offers_among (take k os) o.unit || b) (eq-eqb o.unit o.unit refl) ∙ last_true (offers_among (take k os) o.unit)

      elsewhere : (u : ℕ) → u ≢ o.unit → offers_among (take (k + 1) os) u ≡ offers_among (take k os) u
      elsewhere u other = one u ∙ ap (λ (b : Bool). offers_among (take k os) u || b) (ne_eqb o.unit u (λ e. other (sym e))) ∙ last_false (offers_among (take k os) u)

-- ---- what a unit uses of its room
module _ {N : Type 0} (value : N → Fraction) (m : Parts) (x : Dispatch) (u : ℕ) (used : Option N) (is : IsUseOf value m x u used) where
  pub use_there : (mw : N) → used ≡ Some mw → (offers_reserve m u ≡ true) × (value mw ≡ room_used m x u)
  use_there mw e = some_counts (offers_reserve m u) (value mw) (room_used m x u) (sym (ap (option_map value) e) ∙ is)

  pub none_there : used ≡ None → offers_reserve m u ≡ false
  none_there e = none_counts (offers_reserve m u) (room_used m x u) (sym (ap (option_map value) e) ∙ is)
