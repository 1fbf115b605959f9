use Rattle.std.specs.Prelude.{[], ◌∷◌}
use Rattle.std.proofs.Common.{◌∙◌, ◌++◌, List, map, ap, ap₂, sym, subst}
use Rattle.std.proofs.lemmas.List.{map-append}
use Rattle.fraction_theory.specs.Fraction.{Fraction}
use Rattle.market_system.specs.MarketSystem.{objective_price, low as low_of, high as high_of}
use Rattle.simplex_core.specs.declared.bounds.Bounds.{Bounds}
use Rattle.market_dict.specs.PricesAndBounds.{ArePricesAndBounds}
use Rattle.market_dict.specs.declared.taking.Taking.{Taking}
use Rattle.market_dict.specs.declared.taking.Taking.TheVariants.{Room}
use Rattle.market_dict.proofs.ColumnLists.{mapped_room, mapped_rows}
use Rattle.market_dict.proofs.posing.take_bounds.Goals as goal

pub returns-in_ok-push-in-Room-clause-taken : goal.returns-in_ok-push-in-Room-clause-taken
returns-in_ok-push-in-Room-clause-taken g c = λ ts are.
    let m = c.args.market.now in
    let u = c.in-Room.unit in
    let value = g.N.Exact.value in
    let low = λ (b : Bounds g.row.N.Denot). value b.low in
    let high = λ (b : Bounds g.row.N.Denot). value b.high in
    let old = c.args.posing.now.row_bounds in
    let room = c.room_bounds.result ∷ [] in
    subst (λ (t : Taking). ArePricesAndBounds value m (ts ++ t ∷ []) (record c.args.posing.now { row_bounds = c.push.new.self })) (sym c.in-Room.is)
    (record {
      prices = are.prices ∙ sym (mapped_room m (objective_price m) ts u);
      columns = record { lows = are.columns.lows ∙ sym (mapped_room m (low_of m) ts u); highs = are.columns.highs ∙ sym (mapped_room m (high_of m) ts u) };
      rows = record {
        lows = ap (map low) c.in_ok-push-in-Room.ensures ∙ map-append low old room ∙ ap₂ (λ (xs ys : List Fraction). xs ++ ys) are.rows.lows c.room_bounds.ensures.lows ∙ sym (mapped_rows m (low_of m) ts (Room u));
        highs = ap (map high) c.in_ok-push-in-Room.ensures ∙ map-append high old room ∙ ap₂ (λ (xs ys : List Fraction). xs ++ ys) are.rows.highs c.room_bounds.ensures.highs ∙ sym (mapped_rows m (high_of m) ts (Room u));
      };
      base_flows = are.base_flows;
    })
