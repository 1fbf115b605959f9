use Rattle.std.proofs.Common.{◌≡◌, ◌≤◌, ◌∙◌, ap, Err, length, rules, subst, sym, true}
use Rattle.std.proofs.lemmas.Result.{err_from_is_err_and}
use Rattle.market_model.specs.Dispatch.{Dispatch}
use Rattle.market_model.specs.declared.stops.Stop.TheVariants.{Memory as NoMemory}
use Rattle.one_point.specs.Known.{LeavesOnePoint}
use Rattle.price_search.specs.OnlyPoint.{AreFixed, AreMarginal, HasMarked}
use Rattle.price_search.specs.PriceBounds.{dispatch_at}
use Rattle.price_search.proofs.OnlyPointLemmas.{columns_within, one_alone}
use Rattle.price_search.proofs.only_point.has_one_point.Goals as goal

pub fixed_columns-requires : goal.fixed_columns-requires
fixed_columns-requires g c =
    let value = g.N.Exact.value in
    let m = c.args.market.now in
    let x = c.requires.0 in
    let is = c.requires.2 in
    let marks = c.slice-2.result.now in
    let marginal : AreMarginal m x (length m.blocks) marks =
    subst (λ (y : Dispatch). AreMarginal m y (length m.blocks) marks) (sym is.dispatch) (subst (AreMarginal m (dispatch_at value c.args.point) (length m.blocks)) (sym c.slice-2.ensures) c.in_ok-marks.ensures) in
    subst (λ n. n ≤ length c.args.bounds.now) (sym c.column_count.ensures)
    (columns_within m x c.requires.1 c.lines-lines.ensures.market value c.args.bounds.now c.requires.3 marks marginal c.in_ok-dict.dict (c.in_ok-dict.ensures.holds x is.reached))

pub returns-in_err-known-clause-stops : goal.returns-in_err-known-clause-stops
returns-in_err-known-clause-stops g c = λ x is.
    let p = err_from_is_err_and c.from_residual-in_err-known.result c.from_residual-in_err-known.ensures.1 in
    let given : c.from_residual-in_err-known.result ≡ Err NoMemory = p.1 ∙ ap Err p.2 in
    rw given tt

pub returns-clause-alone : goal.returns-clause-alone
returns-clause-alone g c = λ x caps is are all.
    let value = g.N.Exact.value in
    let m = c.args.market.now in
    let marks = c.slice-2.result.now in
    let marginal : AreMarginal m x (length m.blocks) marks =
    subst (λ (y : Dispatch). AreMarginal m y (length m.blocks) marks) (sym is.dispatch) (subst (AreMarginal m (dispatch_at value c.args.point) (length m.blocks)) (sym c.slice-2.ensures) c.in_ok-marks.ensures) in
    let some : c.is_some_marked.result ≡ true = search rules in
    one_alone m x caps c.lines-lines.ensures.market value c.args.bounds.now are marks marginal c.in_ok-dict.dict (c.in_ok-dict.ensures.holds x is.reached)
    c.points_stay.ensures (subst HasMarked (c.slice.ensures ∙ sym c.slice-2.ensures) (c.is_some_marked.ensures some)) c.in_ok-known.known
    (subst (λ n. AreFixed value c.args.bounds.now n c.in_ok-known.known) c.column_count.ensures c.in_ok-known.ensures)
    (subst (LeavesOnePoint c.in_ok-dict.dict) c.slice_mut.ensures.value (c.leaves_one_point.ensures all))
