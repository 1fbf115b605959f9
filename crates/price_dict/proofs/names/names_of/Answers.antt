use Rattle.std.proofs.lemmas.List.Elements.{Contains-append_left, Contains-get_or}
use Rattle.price_system.specs.declared.variables.Variable.TheVariants.{Energy}
use Rattle.price_system.specs.PriceSystem.{prices, worths}
use Rattle.price_dict.proofs.names.names_of.Goals as goal

pub name_of-requires-clause-variable : goal.name_of-requires-clause-variable
name_of-requires-clause-variable c =
    let m = c.args.market.now in
    Contains-append_left (prices m) (worths m) _ (c.requires.columns.prices _ (Contains-get_or c.args.columns.now c.loop-column.column-index Energy c.loop-column-test.true))
