use Rattle.std.proofs.Common.{◌≡◌, ◌∙◌, ap, sym, w64}
use Rattle.std.proofs.lemmas.Int.{to_z-of_z}
use mir.Val.{to_z, of_z}
use Rattle.fraction_theory.specs.Fraction.{whole, neg_ℚ}
use Rattle.market_model.proofs.RowMembers.{at_places}
use Rattle.market_system.specs.MarketSystem.{objective_price, low as low_of, high as high_of}
use Rattle.simplex_core.specs.declared.bounds.Bounds.{Bounds}
use Rattle.market_dict.proofs.ColumnLists.{pushed_twice}
use Rattle.market_dict.proofs.posing.take_columns.Goals as goal

pub is_soft-requires : goal.is_soft-requires
is_soft-requires g c = (at_places c.args.market.now c.lines-lines.ensures.market c.args.row c.requires.row).0

pub returns-clause-prices : goal.returns-clause-prices
returns-clause-prices g c =
    let m = c.args.market.now in
    let known : to_z w64 (of_z w64 c.penalty_at.result) ≡ c.penalty_at.result = to_z-of_z w64 c.penalty_at.result (record { sfits = c.penalty_at.type_inv }) in
    let is = ap neg_ℚ (c.datum-penalty.ensures ∙ ap whole known ∙ c.penalty_at.ensures.penalty) in
    pushed_twice m g.N.Exact.value (objective_price m) c.args.row c.args.posing.now.prices c.push.new.self c.push-2.new.self c.neg.result c.neg-2.result (sym c.is_soft.ensures ∙ c.if-not-is_soft.false) c.in_ok-push.ensures c.in_ok-push-2.ensures
    (c.neg.ensures ∙ is) (c.neg-2.ensures ∙ is)

pub returns-clause-lows : goal.returns-clause-lows
returns-clause-lows g c =
    let m = c.args.market.now in
    let bounds : Bounds g.row.N.Denot = record { low = c.datum.result; high = c.datum-2.result } in
    pushed_twice m (λ (b : Bounds g.row.N.Denot). g.N.Exact.value b.low) (low_of m) c.args.row c.args.posing.now.column_bounds c.push-3.new.self c.push-4.new.self bounds bounds (sym c.is_soft.ensures ∙ c.if-not-is_soft.false)
    c.in_ok-push-3.ensures c.in_ok-push-4.ensures c.datum.ensures c.datum.ensures

pub returns-clause-highs : goal.returns-clause-highs
returns-clause-highs g c =
    let m = c.args.market.now in
    let bounds : Bounds g.row.N.Denot = record { low = c.datum.result; high = c.datum-2.result } in
    let known : to_z w64 (of_z w64 c.most_excess_at.result) ≡ c.most_excess_at.result = to_z-of_z w64 c.most_excess_at.result (record { sfits = c.most_excess_at.type_inv }) in
    let is = c.datum-2.ensures ∙ ap whole known ∙ c.most_excess_at.ensures.excess in
    pushed_twice m (λ (b : Bounds g.row.N.Denot). g.N.Exact.value b.high) (high_of m) c.args.row c.args.posing.now.column_bounds c.push-3.new.self c.push-4.new.self bounds bounds (sym c.is_soft.ensures ∙ c.if-not-is_soft.false)
    c.in_ok-push-3.ensures c.in_ok-push-4.ensures is is
