use Rattle.std.proofs.Common.{Err, ◌≡◌, ◌∙◌, ap, sym}
use Rattle.std.proofs.lemmas.Result.{err_from_is_err_and}
use Rattle.clear_loop.specs.Keeping.{Kept}
use Rattle.clear_loop.proofs.StartLemmas.{first_in_hand, first_inside, first_stop}
use Rattle.clear_loop.proofs.clearer.first_hand.Goals as goal

pub prices_and_bounds-requires : goal.prices_and_bounds-requires
prices_and_bounds-requires g c = record {
  takings = first_inside c.args.market.now c.args.clearer c.clearer.inside.warm c.clearer.inside.taken c.clearer.view_is c.requires c.taken_or_none-taken.result c.taken_or_none-taken.ensures c.slice.result.now c.slice.ensures;
}

pub returns-in_err-posing-clause-stops : goal.returns-in_err-posing-clause-stops
returns-in_err-posing-clause-stops g c =
    let start = c.in_ok-warm.ensures.start c.args.clearer (sym (ap (λ (k : Kept). k.dict) c.clearer.view_is)) c.requires in
    let p = err_from_is_err_and c.from_residual-in_err-posing.result c.from_residual-in_err-posing.ensures.1 in
    let given : c.from_residual-in_err-posing.result ≡ Err c.in_err-posing.field-0.0 = p.1 ∙ ap Err p.2 in
    rw given
    (first_stop c.args.market.now c.args.clearer c.clearer.inside.warm c.clearer.inside.taken c.clearer.view_is c.requires c.taken_or_none-taken.result c.taken_or_none-taken.ensures
    g.N.Exact.value c.in_ok-warm.warm start g.N.Exact.bound c.slice.result.now c.in_err-posing.field-0.0 c.lines-lines.ensures.market c.slice.ensures c.in_err-posing.ensures.stops)

pub returns-clause-hand : goal.returns-clause-hand
returns-clause-hand g c =
    let start = c.in_ok-warm.ensures.start c.args.clearer (sym (ap (λ (k : Kept). k.dict) c.clearer.view_is)) c.requires in
    first_in_hand c.args.market.now c.args.clearer c.clearer.inside.warm c.clearer.inside.taken c.clearer.view_is c.requires c.taken_or_none-taken.result c.taken_or_none-taken.ensures
    g.N.Exact.value c.in_ok-warm.warm start c.in_ok-posing.posing c.slice.result.now c.slice.ensures c.in_ok-posing.ensures.posing
