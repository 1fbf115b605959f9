use Rattle.std.proofs.Common.{◌≡◌, ◌∙◌, ap, Err, length, subst, sym, List}
use Rattle.std.proofs.lemmas.Result.{err_from_is_err_and}
use Rattle.market_model.specs.Valued.{passed_at}
use Rattle.market_model.proofs.StopLemmas.{on_passed_weaker}
use Rattle.price_system.specs.declared.variables.Variable.{Variable}
use Rattle.price_dict.specs.Marked.{HoldsMarked}
use Rattle.price_dict.specs.Reached.{AreColumns}
use Rattle.price_dict.specs.Refusals.{IsColumnsRefusal}
use Rattle.price_dict.proofs.ColumnLists.{are_columns, column_refused, columns_reached}
use Rattle.price_dict.proofs.MarkedLaws.{holds_blocks, marked_none}
use Rattle.price_dict.proofs.blocks.start_with_marked.Goals as goal

pub summed-requires-clause-columns : goal.summed-requires-clause-columns
summed-requires-clause-columns g c =
    let m = c.args.market.now in
    subst (AreColumns m) (sym (c.slice.ensures ∙ c.in_ok-columns.ensures)) (are_columns m c.requires.reached.0 c.args.reached c.lines-lines.ensures.market c.requires.reached.1)

pub put_marked-requires-clause-columns : goal.put_marked-requires-clause-columns
put_marked-requires-clause-columns g c =
    let m = c.args.market.now in
    subst (AreColumns m) (sym (c.slice-2.ensures ∙ c.in_ok-columns.ensures)) (are_columns m c.requires.reached.0 c.args.reached c.lines-lines.ensures.market c.requires.reached.1)

pub put_marked-requires-clause-put : goal.put_marked-requires-clause-put
put_marked-requires-clause-put g c =
    let same = c.slice.ensures ∙ sym c.slice-2.ensures in
    subst (λ (vs : List Variable). HoldsMarked c.args.market.now vs c.args.marks.now 0 c.in_ok-dict.dict) same
    (marked_none c.args.market.now c.slice.result.now c.args.marks.now c.in_ok-dict.dict c.in_ok-dict.ensures.put c.in_ok-dict.ensures.basics)

pub returns-in_err-put_marked-clause-stops : goal.returns-in_err-put_marked-clause-stops
returns-in_err-put_marked-clause-stops g c = λ x are.
    let m = c.args.market.now in
    let p = err_from_is_err_and c.from_residual-in_err-put_marked.result c.from_residual-in_err-put_marked.ensures.1 in
    let given : c.from_residual-in_err-put_marked.result ≡ Err c.in_err-put_marked.field-0.0 = p.1 ∙ ap Err p.2 in
    let reached = c.slice-2.ensures ∙ c.in_ok-columns.ensures ∙ columns_reached m x c.args.reached are in
    rw given (on_passed_weaker c.in_err-put_marked.field-0.0 _ _
    (λ pair why. column_refused m x g.N.Exact.bound (passed_at g.N.Exact.value pair)
    (subst (λ (vs : List Variable). IsColumnsRefusal m vs g.N.Exact.bound (passed_at g.N.Exact.value pair)) reached why)) c.in_err-put_marked.ensures.stops)

pub returns-clause-holds : goal.returns-clause-holds
returns-clause-holds g c = λ x are.
    let m = c.args.market.now in
    let reached = c.slice-2.ensures ∙ c.in_ok-columns.ensures ∙ columns_reached m x c.args.reached are in
    holds_blocks m x c.lines-lines.ensures.market c.args.marks.now c.put_marked.new.dict
    (subst (λ (vs : List Variable). HoldsMarked m vs c.args.marks.now (length m.blocks) c.put_marked.new.dict) reached c.in_ok-put_marked.ensures.put)
