use Rattle.std.proofs.Common.{rules, tests, ◌≢◌, List, subst, sym, arith}
use Rattle.std.specs.Prelude.{Contains}
use Rattle.std.proofs.lemmas.Option.{slice_get_within}
use Rattle.market_model.specs.declared.limits.Row.{Row}
use Rattle.limit_rows.specs.Walk.{rows_from}
use Rattle.limit_rows.proofs.CountLemmas.{none_before, of_other, stand_at, stand_past}
use Rattle.limit_rows.proofs.WalkLemmas.{all_from_start, rows_few}
use Rattle.limit_rows.proofs.numbering.place_of.Goals as goal

pub loop-place-init : goal.loop-place-init
loop-place-init c =
    let m = c.args.market.now in
    (none_before m, subst (λ (rs : List Row). Contains rs c.args.row) (sym (all_from_start m)) c.requires)

pub overflow_add-result : goal.overflow_add-result
overflow_add-result c =
    let m = c.args.market.now in
    let stand = c.loop-place.invariant.0 in
    let counted = stand.count in
    omega (arith, counted, slice_get_within (rows_from m c.loop-place.place 0) c.place_from.result c.args.row c.place_from.ensures, rows_few m c.lines-lines.ensures.market)

pub returns-then-eq : goal.returns-then-eq
returns-then-eq c = stand_at c.args.market.now c.loop-place.place c.loop-place.before c.loop-place.invariant.0 c.place_from.result c.args.row c.place_from.ensures

pub overflow_add-before : goal.overflow_add-before
overflow_add-before c =
    let m = c.args.market.now in
    let past = stand_past m c.loop-place.place c.loop-place.before c.loop-place.invariant.0 c.cause_at-cause.result c.count_under-before.result c.cause_at-cause.ensures.is c.count_under-before.ensures in
    let counted = past.count in
    omega (arith, counted, rows_few m c.lines-lines.ensures.market)

pub loop-place-preserved : goal.loop-place-preserved
loop-place-preserved c =
    let m = c.args.market.now in
    let apart : c.cause_at-cause.result ≢ c.args.row.cause = search (rules, tests) in (
      stand_past m c.loop-place.place c.loop-place.before c.loop-place.invariant.0 c.cause_at-cause.result c.count_under-before.result c.cause_at-cause.ensures.is c.count_under-before.ensures,
      of_other m c.loop-place.place c.cause_at-cause.result c.args.row c.cause_at-cause.ensures.is apart c.loop-place.invariant.1,
    )
