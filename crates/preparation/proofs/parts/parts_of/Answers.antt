use Rattle.std.proofs.Common.{◌≡◌, Err, rules}
use Rattle.preparation.proofs.PartLemmas.{parts-stop, parts-told}
use Rattle.preparation.proofs.parts.parts_of.Goals as goal

pub returns-in_err-outages-clause-told : goal.returns-in_err-outages-clause-told
returns-in_err-outages-clause-told c =
    let given : c.from_residual-in_err-outages.result ≡ Err c.in_err-outages.field-0.0 = search rules in
    parts-stop c.args.wanted.now c.args.case.now c.args.inputs c.in_ok-units.units c.in_ok-offers.offers c.in_err-outages.field-0.0 c.from_residual-in_err-outages.result
    c.in_ok-units.ensures.is c.in_ok-offers.ensures c.in_err-outages.ensures given

pub returns-clause-told : goal.returns-clause-told
returns-clause-told c =
    parts-told c.args.wanted.now c.args.case.now c.args.inputs c.in_ok-units.units c.in_ok-offers.offers c.in_ok-outages.outages c.in_ok-units.ensures.is c.in_ok-offers.ensures c.in_ok-outages.ensures
