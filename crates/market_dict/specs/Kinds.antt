-- What a variable of a market is to its duals: a row, and which, or a column.
use Rattle.market_model.specs.declared.participants.Parts.{Parts}
use Rattle.market_system.specs.declared.variables.Variable.{Variable}
use Rattle.market_system.specs.declared.variables.Variable.TheVariants as variable
use Rattle.market_system.specs.MarketSystem.{row_place}
use Rattle.market_dict.specs.declared.names.DualKind.{DualKind}
use Rattle.market_dict.specs.declared.names.DualKind.TheVariants as kind

abbrev pub kind_of : Parts → Variable → DualKind
kind_of m (variable.Block j) = kind.Column
kind_of m variable.Balance = kind.Balance
kind_of m (variable.Limit r) = kind.Limit (row_place m r)
kind_of m (variable.Over r) = kind.Column
kind_of m (variable.Under r) = kind.Column
kind_of m (variable.Offer n) = kind.Column
kind_of m variable.Need = kind.Need
kind_of m (variable.Room u) = kind.Room u
