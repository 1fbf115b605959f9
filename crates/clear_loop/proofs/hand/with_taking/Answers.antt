use Rattle.std.specs.Prelude.{[], ◌∷◌, ◌++◌}
use Rattle.std.proofs.Common.{Err, ap, ◌∙◌, ◌≡◌}
use Rattle.std.proofs.lemmas.Result.{err_from_is_err_and}
use Rattle.linear_dict.specs.Dictionaries.{choice_of}
use Rattle.market_dict.proofs.HoldingLaws.{holds_choice}
use Rattle.clear_loop.proofs.HandLemmas.{grown_behind, hand_grown}
use Rattle.clear_loop.proofs.StopLemmas.{last_stop}
use Rattle.clear_loop.proofs.hand.with_taking.Goals as goal

pub returns-in_err-take-clause-stops : goal.returns-in_err-take-clause-stops
returns-in_err-take-clause-stops g c =
    let m = c.args.market.now in
    let ts = c.args.taken.takings in
    let p = err_from_is_err_and c.from_residual.result c.from_residual.ensures.1 in
    let given : c.from_residual.result ≡ Err c.in_err-take.field-0.0 = p.1 ∙ ap Err p.2 in
    rw given (c.in_err-take.ensures.stops ts c.requires.holds (grown_behind m ts c.args.taking c.requires.taking c.requires.new c.requires.passed))

pub returns-in_err-take_bounds-clause-stops : goal.returns-in_err-take_bounds-clause-stops
returns-in_err-take_bounds-clause-stops g c =
    let m = c.args.market.now in
    let ts = c.args.taken.takings in
    let p = err_from_is_err_and c.from_residual-in_err-take_bounds.result c.from_residual-in_err-take_bounds.ensures.1 in
    let given : c.from_residual-in_err-take_bounds.result ≡ Err c.in_err-take_bounds.field-0.0 = p.1 ∙ ap Err p.2 in
    rw given
    (last_stop g.N.Exact.value g.N.Exact.bound m ts c.args.taking (choice_of c.take.new.dict) c.in_err-take_bounds.field-0.0 c.lines-lines.ensures.market
    (grown_behind m ts c.args.taking c.requires.taking c.requires.new c.requires.passed) (holds_choice m (ts ++ c.args.taking ∷ []) c.take.new.dict (c.in_ok-take.ensures.taken ts c.requires.holds)) c.in_err-take_bounds.ensures.stops)

pub returns-clause-hand : goal.returns-clause-hand
returns-clause-hand g c =
    let ts = c.args.taken.takings in
    hand_grown g.N.Exact.value c.args.market.now c.put.new.taken (ts ++ c.args.taking ∷ []) c.started.result c.take.new.dict c.take_bounds.new.posing c.in_ok-put.ensures.takings c.in_ok-put.ensures.listed
    c.started.ensures (c.in_ok-take.ensures.taken ts c.requires.holds) (c.in_ok-take_bounds.ensures.taken ts c.requires.posing)
