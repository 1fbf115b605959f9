-- A right answer has an entry for each part of its market.
use Rattle.std.specs.Prelude.{length, map}
use Rattle.std.proofs.Common.{ap, sym, ◌∙◌}
use Rattle.std.proofs.lemmas.List.{length-map}
use Rattle.std.proofs.lemmas.List.FromFn.{length-map-range_with_len}
use Rattle.std.proofs.lemmas.Simd.{map-map}
use Rattle.fraction_theory.specs.Fraction.{Fraction}
use Rattle.market_model.specs.declared.answered.Answer.{Answer}
use Rattle.market_model.specs.declared.answered.Dual.{Dual}
use Rattle.market_model.specs.declared.answered.Rent.{Rent}
use Rattle.market_model.specs.declared.participants.Parts.{Parts}
use Rattle.market_model.specs.Fitting.{FitsMarket}
use Rattle.market_model.specs.LimitRows.{lost_unit}
use Rattle.market_model.specs.Optimality.{bus_price, named_rows, own_price}
use Rattle.market_model.specs.Settlement.{pay_of_unit, pay_of_load, pay_of_reserve}
use Rattle.market_model.specs.RightAnswers.{IsRight, dispatch_in, price_made, rent_of}
use Rattle.market_model.specs.Valued.{answer_at, dual_at, load_at, price_at, rent_at, reserve_pay_at, unit_pay_at}

-- the rents are those of the rows that the duals name, and proper duals name them in the same order
pub fits_by_right : (m : Parts) (a : Answer Fraction) → IsRight m a → FitsMarket m a
fits_by_right m a right = record {
  dispatch = right.feasible.blocks.count;
  reserve = right.feasible.blocks.reserve_count;
  prices = ap (λ (b : Answer Fraction). length b.prices) right.made ∙ length-map-range_with_len (price_made m a.duals) 0 (length m.buses);
  money = record {
    units = ap (λ (b : Answer Fraction). length b.money.units) right.made ∙ length-map-range_with_len (pay_of_unit m (dispatch_in a) (bus_price m a.duals) a.duals) 0 (length m.units);
    own = ap (λ (b : Answer Fraction). length b.money.own) right.made ∙ length-map-range_with_len (λ k. own_price m a.duals (bus_price m a.duals) (lost_unit m k)) 0 (length m.unit_outages);
    loads = ap (λ (b : Answer Fraction). length b.money.loads) right.made ∙ length-map-range_with_len (pay_of_load m (bus_price m a.duals)) 0 (length m.buses);
    rents = ap (λ (b : Answer Fraction). map (λ (r : Rent Fraction). r.row) b.money.rents) right.made
        ∙ map-map (λ (r : Rent Fraction). r.row) (rent_of m (dispatch_in a) a.duals) (named_rows m a.duals)
        ∙ sym right.proper.named;
    reserve = ap (λ (b : Answer Fraction). length b.money.reserve) right.made ∙ length-map-range_with_len (pay_of_reserve (dispatch_in a) a.duals) 0 (length m.reserve.offers);
  };
}

-- the same of the answer in numbers of its type
pub fits_by_value : {N : Type 0} (value : N → Fraction) (m : Parts) (a : Answer N) → FitsMarket m (answer_at value a) → FitsMarket m a
fits_by_value value m a fits = record {
  dispatch = sym (length-map a.dispatch value) ∙ fits.dispatch;
  reserve = sym (length-map a.reserve value) ∙ fits.reserve;
  prices = sym (length-map a.prices (price_at value)) ∙ fits.prices;
  money = record {
    units = sym (length-map a.money.units (unit_pay_at value)) ∙ fits.money.units;
    own = sym (length-map a.money.own value) ∙ fits.money.own;
    loads = sym (length-map a.money.loads (load_at value)) ∙ fits.money.loads;
    rents = sym (map-map (λ (r : Rent Fraction). r.row) (rent_at value) a.money.rents)
        ∙ fits.money.rents ∙ map-map (λ (d : Dual Fraction). d.row) (dual_at value) a.duals.limits;
    reserve = sym (length-map a.money.reserve (reserve_pay_at value)) ∙ fits.money.reserve;
  };
}
