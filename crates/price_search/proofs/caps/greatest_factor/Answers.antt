use Rattle.std.proofs.Common.{◌≡◌, Err, List, [], arith, rules, subst, sym}
use Rattle.std.proofs.lemmas.List.{take_all}
use Rattle.std.proofs.lemmas.List.Elements.{Contains-get_or}
use Rattle.fraction_theory.specs.Fraction.{Fraction}
use Rattle.market_model.specs.declared.limits.Cause.TheVariants.{Base}
use Rattle.market_model.specs.declared.limits.Row.{Row}
use Rattle.price_search.specs.Caps.{IsGreatestFactor}
use Rattle.price_search.proofs.GreatestLemmas.{factor_none, row_next}
use Rattle.price_search.proofs.caps.greatest_factor.Goals as goal

abbrev none : Row
none = record { line = 0; cause = Base }

pub loop-row-init : goal.loop-row-init
loop-row-init g c = subst (λ (t : Fraction). IsGreatestFactor c.args.market.now [] t) (sym c.datum-greatest.ensures) (factor_none c.args.market.now)

pub greatest_with-requires : goal.greatest_with-requires
greatest_with-requires g c = c.requires _ (Contains-get_or c.args.reached.now c.loop-row.row-index none c.loop-row-test.true)

pub returns-in_err-greatest-clause-stops : goal.returns-in_err-greatest-clause-stops
returns-in_err-greatest-clause-stops g c =
    let given : c.from_residual.result ≡ Err c.in_err-greatest.field-0.0 = search rules in
    rw given (_, Contains-get_or c.args.reached.now c.loop-row.row-index none c.loop-row-test.true, c.in_err-greatest.ensures.stops)

pub loop-row-preserved : goal.loop-row-preserved
loop-row-preserved g c =
    row_next c.args.market.now c.args.reached.now c.loop-row.row-index none (g.N.Exact.value c.loop-row.greatest) _ c.loop-row-test.true c.loop-row.invariant c.in_ok-greatest.ensures.greatest

pub returns-clause-greatest : goal.returns-clause-greatest
returns-clause-greatest g c =
    let k = c.loop-row.row-index in
    subst (λ (rs : List Row). IsGreatestFactor c.args.market.now rs (g.N.Exact.value c.loop-row.greatest)) (take_all k c.args.reached.now (omega arith)) c.loop-row.invariant
