use Rattle.std.proofs.lemmas.Result.{err_from_is_err_and}
use Rattle.preparation.proofs.TextLemmas.{texts-told}
use Rattle.preparation.proofs.prepared.prepare.Goals as goal

pub returns-in_err-text : goal.returns-in_err-text
returns-in_err-text c =
    let p = err_from_is_err_and c.from_residual-in_err-text.result c.from_residual-in_err-text.ensures.1 in
    Prim.rw (p.1, p.2) tt

pub returns : goal.returns
returns c =
    texts-told c.args.wanted.now c.args.case.now c.in_ok-prepared.prepared _ _ _ _ c.in_ok-prepared.ensures.told c.in_ok-offers_part.ensures c.in_ok-outages_part.ensures c.in_ok-penalties_part.ensures c.in_ok-text.ensures
