use Rattle.std.proofs.Common.{sym, subst, ap, ◌∙◌, Err}
use Rattle.std.proofs.lemmas.Result.{err_from_is_err_and}
use Rattle.scaled_decimal.specs.Reading.{Reads}
use Rattle.scaled_decimal.specs.View.{view}
use Rattle.scaled_decimal.proofs.ReadingLaws.{units_of-Some, units_of-None, Reads-units_of}
use Rattle.scaled_decimal.proofs.cut_units.Goals as goal

pub returns-in_err-found-clause-is : goal.returns-in_err-found-clause-is
returns-in_err-found-clause-is c =
    let p = err_from_is_err_and c.from_residual.result c.from_residual.ensures.1 in
    Prim.rw (p.1, p.2) (ap Err c.in_err-found.ensures.fault ∙ sym (units_of-None c.args.places c.args.bytes.now c.in_err-found.ensures.parts))

pub returns-in_err-found-clause-means : goal.returns-in_err-found-clause-means
returns-in_err-found-clause-means c = subst (Reads c.args.places c.args.bytes.now) (sym (returns-in_err-found-clause-is c)) (Reads-units_of c.args.places c.args.bytes.now)

pub returns-clause-is : goal.returns-clause-is
returns-clause-is c = c.units.ensures ∙ sym (units_of-Some c.args.places c.args.bytes.now (view c.in_ok-found.found) c.in_ok-found.ensures.parts)

pub returns-clause-means : goal.returns-clause-means
returns-clause-means c = subst (Reads c.args.places c.args.bytes.now) (sym (returns-clause-is c)) (Reads-units_of c.args.places c.args.bytes.now)
