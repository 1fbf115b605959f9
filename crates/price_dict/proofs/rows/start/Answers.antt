use Rattle.std.proofs.Common.{◌≡◌, ◌∙◌, ap, Err, subst, sym, List}
use Rattle.std.proofs.lemmas.Result.{err_from_is_err_and}
use Rattle.market_model.specs.declared.stops.Stop.TheVariants.{Memory}
use Rattle.market_model.specs.Valued.{passed_at}
use Rattle.market_model.proofs.StopLemmas.{on_passed_weaker}
use Rattle.price_system.specs.declared.variables.Variable.{Variable}
use Rattle.price_system.specs.PriceSystem.{worths}
use Rattle.price_dict.specs.Holding.{HasPutIn}
use Rattle.price_dict.specs.Reached.{AreColumns}
use Rattle.price_dict.specs.Refusals.{IsColumnsRefusal}
use Rattle.price_dict.proofs.ColumnLists.{are_columns, column_refused, columns_reached}
use Rattle.price_dict.proofs.HoldingLaws.{put_in_holds}
use Rattle.price_dict.proofs.rows.start.Goals as goal

pub summed-requires-clause-columns : goal.summed-requires-clause-columns
summed-requires-clause-columns g c =
    let m = c.args.market.now in
    subst (AreColumns m) (sym (c.slice.ensures ∙ c.in_ok-columns.ensures)) (are_columns m c.requires.0 c.args.reached c.lines-lines.ensures.market c.requires.1)

pub put_blocks-requires-clause-columns : goal.put_blocks-requires-clause-columns
put_blocks-requires-clause-columns g c =
    let m = c.args.market.now in
    subst (AreColumns m) (sym (c.slice-2.ensures ∙ c.in_ok-columns.ensures)) (are_columns m c.requires.0 c.args.reached c.lines-lines.ensures.market c.requires.1)

pub returns-in_err-put_blocks-clause-stops : goal.returns-in_err-put_blocks-clause-stops
returns-in_err-put_blocks-clause-stops g c = λ x are.
    let m = c.args.market.now in
    let p = err_from_is_err_and c.from_residual-in_err-put_blocks.result c.from_residual-in_err-put_blocks.ensures.1 in
    let given : c.from_residual-in_err-put_blocks.result ≡ Err c.in_err-put_blocks.field-0.0 = p.1 ∙ ap Err p.2 in
    let reached = c.slice-2.ensures ∙ c.in_ok-columns.ensures ∙ columns_reached m x c.args.reached are in
    rw given (on_passed_weaker c.in_err-put_blocks.field-0.0 _ _
    (λ pair why. column_refused m x g.N.Exact.bound (passed_at g.N.Exact.value pair)
    (subst (λ (vs : List Variable). IsColumnsRefusal m vs g.N.Exact.bound (passed_at g.N.Exact.value pair)) reached why)) c.in_err-put_blocks.ensures.stops)

pub put_offers-requires-clause-columns : goal.put_offers-requires-clause-columns
put_offers-requires-clause-columns g c =
    let m = c.args.market.now in
    subst (AreColumns m) (sym (c.slice-3.ensures ∙ c.in_ok-columns.ensures)) (are_columns m c.requires.0 c.args.reached c.lines-lines.ensures.market c.requires.1)

pub returns-in_err-put_offers-clause-stops : goal.returns-in_err-put_offers-clause-stops
returns-in_err-put_offers-clause-stops g c = λ x are.
    let p = err_from_is_err_and c.from_residual-in_err-put_offers.result c.from_residual-in_err-put_offers.ensures.1 in
    let given : c.from_residual-in_err-put_offers.result ≡ Err Memory = p.1 ∙ ap Err p.2 in
    rw given tt

pub returns-clause-holds : goal.returns-clause-holds
returns-clause-holds g c = λ x are.
    let m = c.args.market.now in
    let reached = c.slice-3.ensures ∙ c.in_ok-columns.ensures ∙ columns_reached m x c.args.reached are in
    put_in_holds m x c.put_offers.new.dict c.lines-lines.ensures.market
    (subst (λ (vs : List Variable). HasPutIn m vs (worths m) c.put_offers.new.dict) reached c.in_ok-put_offers.ensures)
