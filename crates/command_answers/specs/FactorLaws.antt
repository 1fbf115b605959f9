-- What is said of tables of factors that are told as made: they are read back, and a check of them finds nothing that rounding does not explain.
use Rattle.std.specs.Prelude.{◌≡◌, ℕ, Bool, List, Option, Some, None, IfSome, Ok}
use Rattle.market_data.specs.declared.scales.FactorPlaces.{FactorPlaces}
use Rattle.net_case.specs.Networks.{LiveNetwork}
use Rattle.factor_tables.specs.Factors.{FactorRecords}
use Rattle.factor_tables.specs.Tables.{loss_of, shift_of}
use Rattle.factor_maker.specs.Made.{IsMadeLoss}
use Rattle.market_inputs.specs.Making.{AreFitToMake}
use Rattle.market_inputs.specs.declared.checking.Inputs.{Inputs}
use Rattle.market_inputs.specs.declared.making.FactorInputs.{FactorInputs}
use Rattle.command_answers.specs.declared.factors.MadeTables.{MadeTables}
use Rattle.command_answers.specs.declared.status.Status.TheVariants as status
use Rattle.command_answers.specs.declared.told.Outputs.{Outputs}
use Rattle.command_answers.specs.Checking.{TellsCheck}
use Rattle.command_answers.specs.Factors.{AreMadeTables, IsShiftTable, TellsFactors}
use Rattle.command_answers.specs.Tellings.{Telling}

-- ---- read back
-- the bytes of an outage table are read back as it; where there is none, there are no bytes
abbrev pub LossIsReadBack : LiveNetwork → FactorPlaces → Option FactorRecords → Option (List ℕ) → Type 0
LossIsReadBack network places (Some loss) (Some lodf) = loss_of network lodf places ≡ Ok loss
LossIsReadBack network places None None = Unit {0}
LossIsReadBack network places (Some loss) None = ⊥
LossIsReadBack network places None (Some lodf) = ⊥

-- the bytes of outputs are read back as tables that are made
pub record AreReadBack (inputs : FactorInputs) (wanted : Bool) (places : FactorPlaces) (ptdf : List ℕ) (lodf : Option (List ℕ)) : Type 0 where
  pub tables : MadeTables
  pub made : AreMadeTables inputs wanted places tables
  pub shift : shift_of inputs.network ptdf places ≡ Ok tables.shift
  pub loss : LossIsReadBack inputs.network places tables.loss lodf

-- Where there is a shift table to write, both tables that there are to write are read over the network of the case as those that were made.
abbrev pub LawOfMadeTables : Type 0
LawOfMadeTables = (wanted : Bool) (places : FactorPlaces) (inputs : FactorInputs) (t : Telling) → TellsFactors wanted places inputs t
    → IfSome t.outputs.ptdf (λ ptdf. AreReadBack inputs wanted places ptdf t.outputs.lodf)

-- ---- checked
-- what a check works on, of a case and its tables
abbrev pub checked_with : FactorInputs → FactorRecords → FactorRecords → Inputs
checked_with inputs shift loss = record { network = inputs.network; reactances = inputs.reactances; shift = shift; loss = loss; outages = inputs.outages }

-- A check of tables that are made of a case, with the outages that they are made for, tells that all is within rounding. Without listed outages a table without
-- records is that of outage factors.
abbrev pub LawOfCheckedTables : Type 0
LawOfCheckedTables = (places : FactorPlaces) (inputs : FactorInputs) (shift loss : FactorRecords) (t : Telling) → AreFitToMake inputs → IsShiftTable inputs places shift
    → IsMadeLoss inputs.network inputs.reactances inputs.outages places loss → TellsCheck (checked_with inputs shift loss) t → t.status ≡ status.Done
