use Rattle.std.proofs.Common.{Err, List, ◌≡◌, ◌∙◌, ap, ap₂, sym, subst}
use Rattle.std.proofs.lemmas.Result.{err_from_is_err_and}
use Rattle.fraction_theory.specs.Fraction.{Fraction}
use Rattle.linear_dict.specs.Dictionaries.{choice_of}
use Rattle.market_model.specs.Dispatch.{dispatch_with}
use Rattle.market_model.specs.declared.stops.Stop.TheVariants.{Memory as NoMemory}
use Rattle.market_system.specs.Ties.{IsFirstFor}
use Rattle.market_dict.specs.Takings.{taken_of}
use Rattle.market_dict.proofs.FirstLemmas.{first_for, first_holds, pair_over, solved_by}
use Rattle.market_dict.proofs.solving.go_first.Goals as goal

pub returns-in_err-dict-clause-pair : goal.returns-in_err-dict-clause-pair
returns-in_err-dict-clause-pair g c = λ ts best.
    let x = c.in_err-dict.field-0.0 in
    let p = err_from_is_err_and c.from_residual.result c.from_residual.ensures.1 in
    let given : c.from_residual.result ≡ Err x = p.1 ∙ ap Err p.2 in
    rw given (pair_over g.N.Exact.value g.N.Exact.bound c.args.market.now ts c.args.dict x best.0 c.in_err-dict.ensures.pair)

pub dispatch-requires-clause-holds : goal.dispatch-requires-clause-holds
dispatch-requires-clause-holds g c =
    let b = c.requires.best in (b.0, first_holds c.args.market.now b.0 c.args.dict c.in_ok-dict.dict b.1.0 c.in_ok-dict.ensures.first)

pub reserved-requires-clause-holds : goal.reserved-requires-clause-holds
reserved-requires-clause-holds g c =
    let b = c.requires.best in (b.0, first_holds c.args.market.now b.0 c.args.dict c.in_ok-dict.dict b.1.0 c.in_ok-dict.ensures.first)

pub returns-clause-first : goal.returns-clause-first
returns-clause-first g c = λ ts best.
    let m = c.args.market.now in
    let market = c.lines-lines.ensures.market in
    let e = c.in_ok-dict.dict in
    let goes = c.in_ok-dict.ensures.first in
    let holds = first_holds m ts c.args.dict e best.0 goes in
    let is = ap₂ (λ (xs ys : List Fraction). dispatch_with xs ys) (c.in_ok-dispatch.ensures ts holds) (c.in_ok-reserve.ensures ts holds) in (
      ((holds, goes.shows, goes.solved), solved_by m ts e market (holds, goes.shows, goes.solved) _ is),
      subst (IsFirstFor m (taken_of ts)) (sym is) (first_for m ts c.args.dict e market best.0 goes),
    )

pub returns-in_err-dispatch-clause-pair : goal.returns-in_err-dispatch-clause-pair
returns-in_err-dispatch-clause-pair g c = λ ts best.
    let p = err_from_is_err_and c.from_residual-in_err-dispatch.result c.from_residual-in_err-dispatch.ensures.1 in
    let given : c.from_residual-in_err-dispatch.result ≡ Err NoMemory = p.1 ∙ ap Err p.2 in
    rw given tt

pub returns-in_err-reserve-clause-pair : goal.returns-in_err-reserve-clause-pair
returns-in_err-reserve-clause-pair g c = λ ts best.
    let p = err_from_is_err_and c.from_residual-in_err-reserve.result c.from_residual-in_err-reserve.ensures.1 in
    let given : c.from_residual-in_err-reserve.result ≡ Err NoMemory = p.1 ∙ ap Err p.2 in
    rw given tt
