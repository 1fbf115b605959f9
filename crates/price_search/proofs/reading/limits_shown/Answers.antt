use Rattle.std.specs.List.{flat_map}
use Rattle.std.proofs.Common.{◌∙◌, ap, arith}
use Rattle.std.proofs.lemmas.List.{take_all}
use Rattle.market_model.specs.declared.limits.Cause.TheVariants.{Base}
use Rattle.market_model.specs.declared.limits.Row.{Row}
use Rattle.price_search.specs.Reading.{limit_noted}
use Rattle.price_search.proofs.ReadingLemmas.{column_count, limit_more, row_inside}
use Rattle.price_search.proofs.reading.limits_shown.Goals as goal

abbrev no_row : Row
no_row = record { line = 0; cause = Base }

pub price_shown-up-requires-clause-place : goal.price_shown-up-requires-clause-place
price_shown-up-requires-clause-place g c =
    let h = c.requires.holds in
    omega (arith, c.loop-place-test.true, column_count c.args.market.now h.0 c.args.reached c.args.dict.now h.1 h.2)

pub price_shown-down-requires-clause-place : goal.price_shown-down-requires-clause-place
price_shown-down-requires-clause-place g c =
    let h = c.requires.holds in
    omega (arith, c.loop-place-test.true, column_count c.args.market.now h.0 c.args.reached c.args.dict.now h.1 h.2)

pub name_at-requires-clause-line : goal.name_at-requires-clause-line
name_at-requires-clause-line g c =
    let h = c.requires.holds in
    let in_market =
    row_inside c.args.market.now h.0 c.args.reached c.args.dict.now h.1 h.2 c.loop-place.place no_row c.loop-place-test.true c.lines-lines.ensures.market in
    in_market.0

pub name_at-requires-clause-lost : goal.name_at-requires-clause-lost
name_at-requires-clause-lost g c =
    let h = c.requires.holds in
    let in_market =
    row_inside c.args.market.now h.0 c.args.reached c.args.dict.now h.1 h.2 c.loop-place.place no_row c.loop-place-test.true c.lines-lines.ensures.market in
    in_market.1

pub loop-place-preserved : goal.loop-place-preserved
loop-place-preserved g c =
    let h = c.requires.holds in
    limit_more c.args.market.now h.0 c.args.reached c.args.dict.now h.1 h.2 c.loop-place.place no_row c.loop-place-test.true _ _ c.name_at.result _ _
    c.loop-place.invariant c.in_ok-push_limit.ensures c.name_at.ensures c.price_shown-up.ensures c.price_shown-down.ensures

pub returns : goal.returns
returns g c = λ x are holds.
    c.loop-place.invariant
    ∙ ap (flat_map (limit_noted c.args.market.now c.args.dict.now))
    (take_all c.loop-place.place c.args.reached.rows.now (omega (arith, c.loop-place-test.false)) ∙ are.rows)
