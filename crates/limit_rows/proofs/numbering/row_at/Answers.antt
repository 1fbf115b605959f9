use Rattle.std.proofs.Common.{◌≡◌, ◌+◌, ◌-◌, ◌∙◌, ℕ, slice_get, ap, sym, arith}
use Rattle.market_model.specs.LimitRows.{rows}
use Rattle.limit_rows.proofs.CountLemmas.{none_before, stand_at, stand_past}
use Rattle.limit_rows.proofs.WalkLemmas.{rows_few}
use Rattle.limit_rows.proofs.numbering.row_at.Goals as goal

pub loop-cause-init : goal.loop-cause-init
loop-cause-init c = (none_before c.args.market.now, omega arith)

pub overflow_add-behind : goal.overflow_add-behind
overflow_add-behind c =
    let m = c.args.market.now in
    let past = stand_past m c.loop-cause.cause c.loop-cause.before c.loop-cause.invariant.0 c.cause_at.result c.count_under.result c.cause_at.ensures.is c.count_under.ensures in
    let counted = past.count in
    omega (arith, counted, rows_few m c.lines-lines.ensures.market)

pub returns-then-place-behind : goal.returns-then-place-behind
returns-then-place-behind c =
    let m = c.args.market.now in
    let least = c.loop-cause.invariant.1 in
    let here : c.loop-cause.before + (c.args.place - c.loop-cause.before) ≡ c.args.place = omega (arith, least) in
    ap (λ (k : ℕ). slice_get (rows m) k) (sym here) ∙ stand_at m c.loop-cause.cause c.loop-cause.before c.loop-cause.invariant.0 (c.args.place - c.loop-cause.before) c.row_from.result c.row_from.ensures

pub loop-cause-preserved : goal.loop-cause-preserved
loop-cause-preserved c =
    (stand_past c.args.market.now c.loop-cause.cause c.loop-cause.before c.loop-cause.invariant.0 c.cause_at.result c.count_under.result c.cause_at.ensures.is c.count_under.ensures, omega (arith, c.if-place-behind.false))
