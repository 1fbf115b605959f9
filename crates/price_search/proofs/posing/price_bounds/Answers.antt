use Rattle.std.proofs.Common.{◌∙◌, ◌++◌, ◌∷◌, [], ◌≡◌, List, Err, ap, ap₂, map, subst, sym, ℕ}
use Rattle.std.specs.List.{flat_map}
use Rattle.std.proofs.lemmas.Result.{err_from_is_err_and}
use Rattle.market_model.specs.declared.limits.Row.{Row}
use Rattle.market_model.specs.Dispatch.{Dispatch}
use Rattle.market_model.specs.Stops.{StopsBy}
use Rattle.price_system.specs.declared.variables.Variable.TheVariants.{Energy, Reserve, Room}
use Rattle.price_system.specs.PriceSystem.{column_price, two_sides}
use Rattle.price_dict.specs.Reached.{columns_put}
use Rattle.price_search.specs.Points.{IsPointOf, caps_at}
use Rattle.price_search.specs.PriceBounds.{ArePriceBounds, dispatch_at}
use Rattle.price_search.specs.Refusals.{IsBoundsRefusal}
use Rattle.price_search.proofs.posing.price_bounds.Goals as goal

pub column_bounds-requires : goal.column_bounds-requires
column_bounds-requires g c = subst (λ (x : Dispatch). IsPointOf g.N.Exact.value c.args.market.now x c.args.point) c.requires.point.1.dispatch c.requires.point.1

pub push_worth_bounds-requires : goal.push_worth_bounds-requires
push_worth_bounds-requires g c = subst (λ (x : Dispatch). IsPointOf g.N.Exact.value c.args.market.now x c.args.point) c.requires.point.1.dispatch c.requires.point.1

pub returns-clause-posing : goal.returns-clause-posing
returns-clause-posing g c = λ x is.
    let m = c.args.market.now in
    let value = g.N.Exact.value in
    let y = dispatch_at value c.args.point in
    let here = subst (λ (z : Dispatch). IsPointOf value m z c.args.point) is.dispatch is in
    let are = c.in_ok-push_worth_bounds.ensures.bounds (columns_put m y) c.in_ok-bounds.ensures.bounds in
    subst (λ (z : Dispatch). ArePriceBounds value m z (caps_at value c.args.caps) (record { prices = c.in_ok-prices.prices; bounds = c.push_worth_bounds.new.bounds })) (sym is.dispatch)
    (record {
      prices = c.in_ok-prices.ensures ∙ ap₂ (λ (rs : List Row) (us : List ℕ). map column_price ((Energy ∷ Reserve ∷ []) ++ (flat_map two_sides rs ++ map Room us))) here.reached.rows here.reached.units;
      lows = are.lows;
      highs = are.highs;
    })

pub returns-in_err-bounds-clause-stops : goal.returns-in_err-bounds-clause-stops
returns-in_err-bounds-clause-stops g c = λ x is.
    let value = g.N.Exact.value in
    let p = err_from_is_err_and c.from_residual-in_err-bounds.result c.from_residual-in_err-bounds.ensures.1 in
    let given : c.from_residual-in_err-bounds.result ≡ Err c.in_err-bounds.field-0.0 = p.1 ∙ ap Err p.2 in
    rw given (subst (λ (z : Dispatch). StopsBy value (IsBoundsRefusal c.args.market.now z (caps_at value c.args.caps) g.N.Exact.bound) c.in_err-bounds.field-0.0) (sym is.dispatch) c.in_err-bounds.ensures.stops)

pub returns-in_err-push_worth_bounds-clause-stops : goal.returns-in_err-push_worth_bounds-clause-stops
returns-in_err-push_worth_bounds-clause-stops g c = λ x is.
    let value = g.N.Exact.value in
    let p = err_from_is_err_and c.from_residual-in_err-push_worth_bounds.result c.from_residual-in_err-push_worth_bounds.ensures.1 in
    let given : c.from_residual-in_err-push_worth_bounds.result ≡ Err c.in_err-push_worth_bounds.field-0.0 = p.1 ∙ ap Err p.2 in
    rw given (subst (λ (z : Dispatch). StopsBy value (IsBoundsRefusal c.args.market.now z (caps_at value c.args.caps) g.N.Exact.bound) c.in_err-push_worth_bounds.field-0.0) (sym is.dispatch) c.in_err-push_worth_bounds.ensures.stops)
