-- The surplus of a settlement, and what it is at the prices of duals.
use Rattle.std.specs.Prelude.{◌≡◌, ℕ, ◌+◌, ◌<◌, pos, false, List, [], ◌∷◌, ◌++◌, map, length, take, refl}
use Rattle.std.proofs.Common.{ap, ap₂, sym, ◌∙◌, subst, get_or, drop}
use Rattle.std.proofs.lemmas.List.{length-map}
use Rattle.std.proofs.lemmas.List.FromFn.{length-map-range_with_len}
use Rattle.fraction_theory.specs.Fraction.{Fraction, whole, neg_ℚ, ◌+ℚ◌, ◌-ℚ◌, ◌*ℚ◌}
use Rattle.fraction_theory.specs.Order.{◌≤ℚ◌}
use Rattle.fraction_theory.specs.Sums.{sum_by, Term, Plain, total}
use Rattle.fraction_theory.proofs.FieldLaws.{ring_ℚ}
use Rattle.fraction_theory.proofs.Ring.{by_ring, at, padd, pmul, pneg, pnil}
use Rattle.fraction_theory.proofs.SumLaws.{total-append, total-Plain}
use Rattle.exact_fraction.specs.declared.Op.TheVariants.{Plus}
use Rattle.exact_fraction.specs.declared.Passed.{Passed}
use Rattle.market_model.specs.declared.answered.Dual.{Dual}
use Rattle.market_model.specs.declared.answered.Duals.{Duals}
use Rattle.market_model.specs.declared.answered.Load.{Load}
use Rattle.market_model.specs.declared.answered.Money.{Money}
use Rattle.market_model.specs.declared.answered.Rent.{Rent}
use Rattle.market_model.specs.declared.answered.UnitPay.{UnitPay}
use Rattle.market_model.specs.declared.participants.Parts.{Parts}
use Rattle.market_model.specs.Dispatch.{Dispatch, places}
use Rattle.market_model.specs.Laws.{HasOffsetsWithin}
use Rattle.market_model.specs.declared.limits.Row.{Row}
use Rattle.market_model.specs.LimitRows.{flow, lost_unit, rows, row_id, row_offset}
use Rattle.market_model.specs.Market.{IsMarket}
use Rattle.market_model.specs.NamedSums.{IsRefusal, IsRefusedIn}
use Rattle.market_model.specs.Optimality.{bus_price, names_row, named_rows, own_price, ArePricesOf, IsSupportedAt}
use Rattle.market_model.specs.RightAnswers.{rent_of, settlement_at}
use Rattle.market_model.specs.Reserves.{offer_places}
use Rattle.market_model.specs.Settlement.{rent, surplus, pay_of_reserve, pay_of_unit, pay_of_load, surplus_terms_by, priced_flow, paid_terms}
use Rattle.market_model.specs.Valued.{dual_at, duals_at, load_at, rent_at, unit_pay_at}
use Rattle.market_model.proofs.Optimum.{law_of_the_surplus, law_of_its_sign}
use Rattle.market_model.proofs.RowMembers.{lost_unit-in}
use Rattle.market_model.proofs.SumSteps.{plus_at, behind, in_front}
use Rattle.market_model.proofs.UnitPrices.{at_unit, left_at, loads_same, units_same}
use Rattle.limit_rows.proofs.DualLemmas.{up_unnamed, down_unnamed, sum_named}
use Rattle.market_model.proofs.PlaceLists.{map_same}
use Rattle.settlement.specs.Laws.{LawOfRightMoney}
use Rattle.market_model.proofs.ListSteps.{map-map, mapped_at}
use Rattle.settlement.proofs.ListLemmas.{sum_by-map}

-- ---- adding up
module _ {N : Type 0} (value : N → Fraction) (loads : List (Load N)) (units : List (UnitPay N)) where
  abbrev paid_load_term : Load N → Term
  paid_load_term l = Plain (value l.pays)

  abbrev paid_unit_term : UnitPay N → Term
  paid_unit_term u = Plain (neg_ℚ (value u.paid))

  abbrev made_terms : List Term
  made_terms = map paid_load_term loads ++ map paid_unit_term units

  made_are : made_terms ≡ paid_terms (map (load_at value) loads) (map (unit_pay_at value) units)
  made_are =
      sym (ap₂ ◌++◌ (map-map (load_at value) (λ (l : Load Fraction). Plain l.pays) loads) (map-map (unit_pay_at value) (λ (u : UnitPay Fraction). Plain (neg_ℚ u.paid)) units))

  pub paid_total : sum_by (λ (l : Load N). value l.pays) loads +ℚ sum_by (λ (u : UnitPay N). neg_ℚ (value u.paid)) units ≡ total (paid_terms (map (load_at value) loads) (map (unit_pay_at value) units))
  paid_total =
      sym (total-append (map paid_load_term loads) (map paid_unit_term units)
      ∙ ap₂ ◌+ℚ◌ (total-Plain (λ (l : Load N). value l.pays) loads) (total-Plain (λ (u : UnitPay N). neg_ℚ (value u.paid)) units))
      ∙ ap total made_are

  module _ (bound : ℕ) (p : Passed Fraction) where
    pub load_refused : (k : ℕ) (load : Load N) (sum : Fraction) → k < length loads → load ≡ get_or loads k load → sum ≡ sum_by (λ l. value l.pays) (take k loads)
        → IsRefusal Plus sum (value load.pays) bound p → IsRefusedIn (paid_terms (map (load_at value) loads) (map (unit_pay_at value) units)) bound p
    load_refused k load sum below found is h =
        subst (λ (ts : List Term). IsRefusedIn ts bound p) made_are
        (plus_at made_terms (map paid_load_term (take k loads)) (map paid_load_term (drop (k + 1) loads) ++ map paid_unit_term units) (paid_load_term load)
        (in_front (map paid_load_term loads) (map paid_load_term (take k loads)) (map paid_load_term (drop (k + 1) loads)) (map paid_unit_term units) (paid_load_term load) (mapped_at paid_load_term loads k load below found))
        bound p sum (value load.pays) (is ∙ sym (total-Plain (λ (l : Load N). value l.pays) (take k loads))) refl h)

    pub unit_refused : (k : ℕ) (unit : UnitPay N) (sum : Fraction) → k < length units → unit ≡ get_or units k unit
        → sum ≡ sum_by (λ l. value l.pays) loads +ℚ sum_by (λ u. neg_ℚ (value u.paid)) (take k units)
        → IsRefusal Plus sum (neg_ℚ (value unit.paid)) bound p → IsRefusedIn (paid_terms (map (load_at value) loads) (map (unit_pay_at value) units)) bound p
    unit_refused k unit sum below found is h =
        subst (λ (ts : List Term). IsRefusedIn ts bound p) made_are
        (plus_at made_terms (map paid_load_term loads ++ map paid_unit_term (take k units)) (map paid_unit_term (drop (k + 1) units)) (paid_unit_term unit)
        (behind (map paid_load_term loads) (map paid_unit_term units) (map paid_unit_term (take k units)) (map paid_unit_term (drop (k + 1) units)) (paid_unit_term unit) (mapped_at paid_unit_term units k unit below found))
        bound p sum (neg_ℚ (value unit.paid))
        (is ∙ sym (total-append (map paid_load_term loads) (map paid_unit_term (take k units))
        ∙ ap₂ ◌+ℚ◌ (total-Plain (λ (l : Load N). value l.pays) loads) (total-Plain (λ (u : UnitPay N). neg_ℚ (value u.paid)) (take k units)))) refl h)

-- ---- what is added up is what loads pay and units are paid
module _ {N : Type 0} (value : N → Fraction) (m : Parts) (x : Dispatch) (price : ℕ → Fraction) (d : Duals Fraction) (loads : List (Load N)) (units : List (UnitPay N))
    (load_each : map (load_at value) loads ≡ map (pay_of_load m price) (places (length m.buses))) (unit_each : map (unit_pay_at value) units ≡ map (pay_of_unit m x price d) (places (length m.units))) where
  pub surplus_is : (s : Fraction) → s ≡ total (paid_terms (map (load_at value) loads) (map (unit_pay_at value) units)) → s ≡ total (surplus_terms_by m x price d)
  surplus_is s e = e ∙ ap total (ap₂ paid_terms load_each unit_each)

  pub surplus_refused : (bound : ℕ) (p : Passed Fraction) → IsRefusedIn (paid_terms (map (load_at value) loads) (map (unit_pay_at value) units)) bound p → IsRefusedIn (surplus_terms_by m x price d) bound p
  surplus_refused bound p h = subst (λ (ts : List Term). IsRefusedIn ts bound p) (ap₂ paid_terms load_each unit_each) h

-- ---- at the prices of duals
module _ (m : Parts) (x : Dispatch) (price : ℕ → Fraction) (d : Duals Fraction) (market : IsMarket m) (priced : ArePricesOf m d price) where
  left_is_surplus : total (surplus_terms_by m x price d) ≡ surplus m x d
  unfolding surplus
  left_is_surplus = ap total (left_at m d price market priced x)

  own_same : map (λ k. own_price m d price (lost_unit m k)) (places (length m.unit_outages)) ≡ map (λ k. own_price m d (bus_price m d) (lost_unit m k)) (places (length m.unit_outages))
  own_same =
      map_same (λ k. own_price m d price (lost_unit m k)) (λ k. own_price m d (bus_price m d) (lost_unit m k)) (length m.unit_outages)
      (λ k lt. at_unit m d price market priced (lost_unit m k) (lost_unit-in m market k lt))

-- a settlement at the prices of its duals is what a right answer says of money
pub law_of_right_money : LawOfRightMoney
unfolding surplus
law_of_right_money m x price d market priced = λ i. record {
  units = units_same m d price market priced x i;
  own = own_same m x price d market priced i;
  loads = loads_same m d price market priced i;
  rents = map (rent_of m x d) (named_rows m d);
  surplus = left_is_surplus m x price d market priced i;
  reserve = map (pay_of_reserve x d) (offer_places m);
}

-- ---- what rows without duals earn
module _ (m : Parts) (x : Dispatch) (d : Duals Fraction) where
  no_rent : (r : Row) → names_row d.limits (row_id m r) ≡ false → rent m x d r ≡ whole (pos 0)
  unfolding rent
  no_rent r h =
      ap₂ (λ u v. u *ℚ (priced_flow m r (flow m x r) -ℚ row_offset m r) +ℚ (v *ℚ (priced_flow m r (flow m x r) +ℚ row_offset m r) +ℚ whole (pos 0))) (up_unnamed d.limits (row_id m r) h) (down_unnamed d.limits (row_id m r) h)
      ∙ by_ring ring_ℚ (priced_flow m r (flow m x r) ∷ row_offset m r ∷ []) (padd (pmul pnil (padd (at 0) (pneg (at 1)))) (padd (pmul pnil (padd (at 0) (at 1))) pnil)) pnil refl

  rents_of_named : sum_by (rent m x d) (rows m) ≡ sum_by (λ (t : Rent Fraction). t.rent) (map (rent_of m x d) (named_rows m d))
  unfolding rent
  rents_of_named = sum_named m d (rent m x d) (rows m) no_rent ∙ sym (sum_by-map (rent_of m x d) (λ (t : Rent Fraction). t.rent) (named_rows m d))

  module _ (price : ℕ → Fraction) (market : IsMarket m) (money : Money Fraction) (is : money ≡ settlement_at m x price d) (best : IsSupportedAt m x price d) where
    is_surplus : money.surplus ≡ surplus m x d
    is_surplus = ap (λ (w : Money Fraction). w.surplus) is ∙ left_is_surplus m x price d market best.prices

    pub rents_are_left : money.surplus ≡ sum_by (λ (t : Rent Fraction). t.rent) money.rents
    rents_are_left = is_surplus ∙ law_of_the_surplus m d x market best.feasible best.supported ∙ rents_of_named ∙ sym (ap (λ (w : Money Fraction). sum_by (λ (t : Rent Fraction). t.rent) w.rents) is)

    pub left_not_negative : HasOffsetsWithin m d → whole (pos 0) ≤ℚ money.surplus
    left_not_negative h = subst (λ s. whole (pos 0) ≤ℚ s) (sym is_surplus) (law_of_its_sign m d x market best.feasible best.supported h)

-- ---- an entry for each part
pub count_fits : {X Y : Type 0} (value : X → Y) (f : ℕ → Y) (xs : List X) (n : ℕ) → map value xs ≡ map f (places n) → length xs ≡ n
count_fits value f xs n e = sym (length-map xs value) ∙ ap length e ∙ length-map-range_with_len f 0 n

pub rows_fit : {N : Type 0} (value : N → Fraction) (m : Parts) (x : Dispatch) (duals : Duals N) (rents : List (Rent N))
    → map (λ (e : Dual Fraction). e.row) (duals_at value duals).limits ≡ map (row_id m) (named_rows m (duals_at value duals))
    → map (rent_at value) rents ≡ map (rent_of m x (duals_at value duals)) (named_rows m (duals_at value duals)) → map (λ (r : Rent N). r.row) rents ≡ map (λ (e : Dual N). e.row) duals.limits
rows_fit {N} value m x duals rents named e =
    sym (map-map (rent_at value) (λ (r : Rent Fraction). r.row) rents) ∙ ap (map (λ (r : Rent Fraction). r.row)) e
    ∙ map-map (rent_of m x (duals_at value duals)) (λ (r : Rent Fraction). r.row) (named_rows m (duals_at value duals))
    ∙ sym named ∙ map-map (dual_at value) (λ (e : Dual Fraction). e.row) duals.limits
