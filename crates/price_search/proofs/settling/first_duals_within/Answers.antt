use Rattle.std.proofs.Common.{Err, ◌≡◌, ◌∙◌, ap, sym}
use Rattle.std.proofs.lemmas.Result.{err_from_is_err_and}
use Rattle.fraction_theory.specs.Fraction.{Fraction}
use Rattle.market_model.specs.declared.answered.Duals.{Duals}
use Rattle.market_model.specs.declared.stops.Stop.TheVariants.{Passed as StoppedBy}
use Rattle.market_model.specs.Dispatch.{Dispatch, accepted}
use Rattle.market_model.specs.Valued.{duals_at}
use Rattle.price_dict.specs.Refusals.{IsEntriesRefusal}
use Rattle.price_system.specs.PriceSystem.{duals_of}
use Rattle.price_search.specs.Points.{caps_at}
use Rattle.price_search.specs.Refusals.{IsBoundsRefusal}
use Rattle.price_search.specs.Searching.{HoldsFirstPrices}
use Rattle.price_search.specs.Settling.{IsPointRefusal, IsSearchRefusal, of_bounds, of_energy, of_entries, of_point}
use Rattle.price_search.proofs.OnlyPointLemmas.{only_are_first}
use Rattle.price_search.proofs.SettlingLemmas.{bounds_posed, first_are, point, same_dispatch, shows_worths, stops_weaker, supported_within}
use Rattle.price_search.proofs.settling.first_duals_within.Goals as goal

pub returns-in_err-posing-clause-stops : goal.returns-in_err-posing-clause-stops
returns-in_err-posing-clause-stops g c = λ x is.
    let value = g.N.Exact.value in
    let m = c.args.market.now in
    let caps = caps_at value c.args.caps in
    let stop = c.in_err-posing.field-0.0 in
    let p = err_from_is_err_and c.from_residual.result c.from_residual.ensures.1 in
    let given : c.from_residual.result ≡ Err stop = p.1 ∙ ap Err p.2 in
    rw given (stops_weaker value (IsBoundsRefusal m x caps g.N.Exact.bound) (IsSearchRefusal m x caps g.N.Exact.bound) stop (λ q h. of_point (of_bounds h)) (c.in_err-posing.ensures.stops x is))

pub has_one_point-requires : goal.has_one_point-requires
has_one_point-requires g c =
    let caps = caps_at g.N.Exact.value c.args.caps in (
      c.requires.0,
      caps,
      c.requires.1,
      bounds_posed g.N.Exact.value c.args.market.now c.requires.0 caps c.in_ok-posing.posing c.slice.result.now (c.in_ok-posing.ensures.posing c.requires.0 c.requires.1) c.slice.ensures,
    )

pub returns-in_err-has_one_point-clause-stops : goal.returns-in_err-has_one_point-clause-stops
returns-in_err-has_one_point-clause-stops g c = λ x is.
    let value = g.N.Exact.value in
    let m = c.args.market.now in
    let caps = caps_at value c.args.caps in
    let stop = c.in_err-has_one_point.field-0.0 in
    let p = err_from_is_err_and c.from_residual-in_err-has_one_point.result c.from_residual-in_err-has_one_point.ensures.1 in
    let given : c.from_residual-in_err-has_one_point.result ≡ Err stop = p.1 ∙ ap Err p.2 in
    rw given (stops_weaker value (IsEntriesRefusal m x g.N.Exact.bound) (IsSearchRefusal m x caps g.N.Exact.bound) stop (λ q h. of_point (of_entries h)) (c.in_err-has_one_point.ensures.stops x is))

pub returns-then-branch-clause-first : goal.returns-then-branch-clause-first
returns-then-branch-clause-first g c = λ x is has.
    let value = g.N.Exact.value in
    let m = c.args.market.now in
    let caps = caps_at value c.args.caps in
    only_are_first m x caps c.lines-lines.ensures.market has.duals has.proper has.supported has.caps
    (c.in_ok-has_one_point.ensures.alone x caps is (bounds_posed value m x caps c.in_ok-posing.posing c.slice.result.now (c.in_ok-posing.ensures.posing x is) c.slice.ensures) c.if-branch.true)

pub first_point_dict-requires : goal.first_point_dict-requires
first_point_dict-requires g c =
    let m = c.args.market.now in
    let caps = caps_at g.N.Exact.value c.args.caps in (
      c.requires.0,
      caps,
      record {
        point = c.requires.1;
        supported = supported_within m c.requires.0 caps c.lines-lines.ensures.market c.requires.2;
        posing = c.in_ok-posing.ensures.posing c.requires.0 c.requires.1;
      },
    )

pub returns-in_err-dict-clause-stops : goal.returns-in_err-dict-clause-stops
returns-in_err-dict-clause-stops g c = λ x is.
    let value = g.N.Exact.value in
    let bound = g.N.Exact.bound in
    let m = c.args.market.now in
    let caps = caps_at value c.args.caps in
    let stop = c.in_err-dict.field-0.0 in
    let p = err_from_is_err_and c.from_residual-in_err-dict.result c.from_residual-in_err-dict.ensures.1 in
    let given : c.from_residual-in_err-dict.result ≡ Err stop = p.1 ∙ ap Err p.2 in
    let supported = same_dispatch value m caps c.args.point c.requires.0 x c.requires.1 is (supported_within m c.requires.0 caps c.lines-lines.ensures.market c.requires.2) in
    rw given (stops_weaker value (IsPointRefusal m x caps bound) (IsSearchRefusal m x caps bound) stop (λ q h. of_point h)
    (c.in_err-dict.ensures.stops x caps (record { point = is; supported = supported; posing = c.in_ok-posing.ensures.posing x is })))

pub duals_shown-requires : goal.duals_shown-requires
duals_shown-requires g c =
    let x = c.requires.0 in
    let is = c.requires.1 in
    let m = c.args.market.now in
    let caps = caps_at g.N.Exact.value c.args.caps in
    let shows : HoldsFirstPrices m x caps c.in_ok-dict.dict =
    c.in_ok-dict.ensures.first x caps
    (record { point = is; supported = supported_within m x caps c.lines-lines.ensures.market c.requires.2; posing = c.in_ok-posing.ensures.posing x is }) in
    record { holds = (x, is.reached, shows.holds.holds) }

pub energy_price-requires-clause-shows : goal.energy_price-requires-clause-shows
energy_price-requires-clause-shows g c =
    let x = c.requires.0 in
    let is = c.requires.1 in
    let m = c.args.market.now in
    let caps = caps_at g.N.Exact.value c.args.caps in
    let d = c.in_ok-dict.dict in
    let market = c.lines-lines.ensures.market in
    let shows : HoldsFirstPrices m x caps d =
    c.in_ok-dict.ensures.first x caps
    (record { point = is; supported = supported_within m x caps market c.requires.2; posing = c.in_ok-posing.ensures.posing x is }) in
    (duals_of m (point m x caps d market shows), shows_worths m x caps d market shows)

pub returns-in_err-energy-clause-stops : goal.returns-in_err-energy-clause-stops
returns-in_err-energy-clause-stops g c = λ x is.
    let value = g.N.Exact.value in
    let m = c.args.market.now in
    let caps = caps_at value c.args.caps in
    let d = c.in_ok-dict.dict in
    let market = c.lines-lines.ensures.market in
    let supported = same_dispatch value m caps c.args.point c.requires.0 x c.requires.1 is (supported_within m c.requires.0 caps market c.requires.2) in
    let shows : HoldsFirstPrices m x caps d = c.in_ok-dict.ensures.first x caps (record { point = is; supported = supported; posing = c.in_ok-posing.ensures.posing x is }) in
    let v = point m x caps d market shows in
    let same = c.in_ok-duals.ensures x is.reached shows.holds.holds in
    let p = err_from_is_err_and c.from_residual-in_err-energy.result c.from_residual-in_err-energy.ensures.1 in
    let given : c.from_residual-in_err-energy.result ≡ Err (StoppedBy c.in_err-energy.field-0.0) = p.1 ∙ ap Err p.2 in
    rw given (of_energy v shows.first
    (c.in_err-energy.ensures.stops x (duals_of m v) (λ j lt. ap (λ (z : Dispatch). accepted z j) (sym is.dispatch)) (shows_worths m x caps d market shows) (ap (λ (f : Duals Fraction). f.energy) same)))

pub returns-clause-first : goal.returns-clause-first
returns-clause-first g c = λ x is has.
    let value = g.N.Exact.value in
    let m = c.args.market.now in
    let caps = caps_at value c.args.caps in
    let d = c.in_ok-dict.dict in
    let market = c.lines-lines.ensures.market in
    let shows : HoldsFirstPrices m x caps d =
    c.in_ok-dict.ensures.first x caps
    (record { point = is; supported = supported_within m x caps market has; posing = c.in_ok-posing.ensures.posing x is }) in
    let v = point m x caps d market shows in
    let same = c.in_ok-duals.ensures x is.reached shows.holds.holds in
    first_are m x caps d market shows has (duals_at value c.in_ok-duals.duals) (value c.in_ok-energy.energy) same
    (c.in_ok-energy.ensures.price x (duals_of m v) (λ j lt. ap (λ (z : Dispatch). accepted z j) (sym is.dispatch)) (shows_worths m x caps d market shows) (ap (λ (f : Duals Fraction). f.energy) same))
