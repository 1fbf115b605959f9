use Rattle.std.proofs.Common.{◌≡◌, ◌∙◌, ap, Err}
use Rattle.std.proofs.lemmas.List.Elements.{Contains-get_or}
use Rattle.std.proofs.lemmas.Result.{err_from_is_err_and}
use Rattle.market_model.specs.declared.stops.Stop.TheVariants.{Passed}
use Rattle.price_system.specs.declared.variables.Variable.TheVariants.{Energy}
use Rattle.price_dict.proofs.entries.energy_entries.Goals as goal

pub returns-in_err-energy_entry-clause-stops : goal.returns-in_err-energy_entry-clause-stops
returns-in_err-energy_entry-clause-stops g c =
    let p = err_from_is_err_and c.from_residual.result c.from_residual.ensures.1 in
    let given : c.from_residual.result ≡ Err (Passed c.in_err-energy_entry.field-0.0) = p.1 ∙ ap Err p.2 in
    rw given (_, Contains-get_or c.args.columns.now c.loop-column.column-index Energy c.loop-column-test.true, c.in_err-energy_entry.ensures.stops)
