use Rattle.std.proofs.Common.{◌≡◌, ◌∙◌, ◌++◌, List, Err, map, ap, sym}
use Rattle.std.proofs.lemmas.Result.{err_from_is_err_and}
use Rattle.std.specs.Prelude.{[], ◌∷◌}
use Rattle.fraction_theory.specs.Fraction.{Fraction}
use Rattle.market_system.specs.MarketSystem.{objective_price, low as low_of, high as high_of, excess_columns}
use Rattle.simplex_core.specs.declared.bounds.Bounds.{Bounds}
use Rattle.market_model.specs.declared.stops.Stop.TheVariants.{Passed as StoppedBy}
use Rattle.market_dict.specs.Takings.{rows_put}
use Rattle.market_dict.specs.declared.taking.Taking.TheVariants.{Limit}
use Rattle.market_dict.proofs.ColumnLists.{mapped_limit, mapped_rows}
use Rattle.market_dict.proofs.ListedLemmas.{map-pushed}
use Rattle.market_dict.proofs.posing.take_limit_bounds.Goals as goal

pub returns-in_err-bounds-clause-stops : goal.returns-in_err-bounds-clause-stops
returns-in_err-bounds-clause-stops g c =
    let p = err_from_is_err_and c.from_residual.result c.from_residual.ensures.1 in
    let given : c.from_residual.result ≡ Err (StoppedBy c.in_err-bounds.field-0.0) = p.1 ∙ ap Err p.2 in
    rw given c.in_err-bounds.ensures.stops

pub returns-clause-taken : goal.returns-clause-taken
returns-clause-taken g c = λ ts are.
    let m = c.args.market.now in
    let r = c.args.row in
    let low = λ (b : Bounds g.row.N.Denot). g.N.Exact.value b.low in
    let high = λ (b : Bounds g.row.N.Denot). g.N.Exact.value b.high in
    let columns = c.in_ok-take_columns.ensures in
    let pushed = c.in_ok-push.ensures ∙ ap (λ (bs : List (Bounds g.row.N.Denot)). bs ++ c.in_ok-bounds.bounds ∷ []) columns.rest.0 in
    record {
      prices = columns.prices ∙ ap (λ (xs : List Fraction). xs ++ map (objective_price m) (excess_columns m (r ∷ []))) are.prices ∙ sym (mapped_limit m (objective_price m) ts r);
      columns = record {
        lows = columns.lows ∙ ap (λ (xs : List Fraction). xs ++ map (low_of m) (excess_columns m (r ∷ []))) are.columns.lows ∙ sym (mapped_limit m (low_of m) ts r);
        highs = columns.highs ∙ ap (λ (xs : List Fraction). xs ++ map (high_of m) (excess_columns m (r ∷ []))) are.columns.highs ∙ sym (mapped_limit m (high_of m) ts r);
      };
      rows = record {
        lows = ap (map low) pushed ∙ map-pushed low c.args.posing.now.row_bounds (map (low_of m) (rows_put m ts)) c.in_ok-bounds.bounds _ are.rows.lows c.in_ok-bounds.ensures.low ∙ sym (mapped_rows m (low_of m) ts (Limit r));
        highs =
            ap (map high) pushed ∙ map-pushed high c.args.posing.now.row_bounds (map (high_of m) (rows_put m ts)) c.in_ok-bounds.bounds _ are.rows.highs c.in_ok-bounds.ensures.high ∙ sym (mapped_rows m (high_of m) ts (Limit r));
      };
      base_flows = ap (map g.N.Exact.value) (ap (λ v. v.items) columns.rest.1) ∙ are.base_flows;
    }
