-- What a case comes to of which tables of factors are to be made.
use Rattle.std.specs.Prelude.{◌≡◌, ℕ, ◌≤◌, Bool, true, false, List, [], ◌++◌, codes, decimal, length, Option, Some, None, option_map}
use Rattle.fraction_theory.specs.Fraction.{Fraction}
use Rattle.market_data.specs.declared.scales.FactorPlaces.{FactorPlaces}
use Rattle.market_model.specs.Valued.{passed_at}
use Rattle.factor_tables.specs.declared.by_pair.Column.TheVariants as column
use Rattle.factor_tables.specs.Factors.{FactorRecords}
use Rattle.factor_text.specs.Texts.{factor_table_text}
use Rattle.dc_network.specs.DcNetworks.{ArePositive}
use Rattle.factor_maker.specs.Made.{IsMadeLoss, IsMadeShift}
use Rattle.factor_maker.specs.Stops.{IsLossStop, IsShiftStop, loss_count, most_made, shift_count}
use Rattle.factor_maker.specs.declared.stops.MakeStop.{MakeStop}
use Rattle.factor_maker.specs.declared.stops.MakeStop.TheVariants as stop
use Rattle.refusal_text.specs.declared.refusals.FactorFault.TheVariants as fault
use Rattle.refusal_text.specs.declared.refusals.Refusal.TheVariants as refusal
use Rattle.report_text.specs.Reports.{range_text}
use Rattle.market_inputs.specs.Making.{AreFitToMake}
use Rattle.market_inputs.specs.declared.making.FactorInputs.{FactorInputs}
use Rattle.command_answers.specs.declared.factors.MadeTables.{MadeTables}
use Rattle.command_answers.specs.declared.status.Status.TheVariants as status
use Rattle.command_answers.specs.declared.told.Outputs.{Outputs}
use Rattle.command_answers.specs.Bounds.{ArePassedWithin}
use Rattle.command_answers.specs.Tellings.{Telling, refusal_of, tabled, uncertified}
use Rattle.number_bits.specs.Bits.{most_of}
use Rattle.number_bits.specs.declared.NumberBits.TheVariants.{Bits127}

-- ---- the tables
-- a table of shift factors is made where there are not too many of them and all reactances are above 0
pub record IsShiftTable (inputs : FactorInputs) (places : FactorPlaces) (shift : FactorRecords) : Type 0 where
  pub few : shift_count inputs.network ≤ most_made
  pub positive : ArePositive inputs.reactances
  pub made : IsMadeShift inputs.network inputs.reactances places shift

-- and one of outage factors likewise
pub record IsLossTable (inputs : FactorInputs) (places : FactorPlaces) (loss : FactorRecords) : Type 0 where
  pub few : loss_count inputs.network inputs.outages ≤ most_made
  pub positive : ArePositive inputs.reactances
  pub made : IsMadeLoss inputs.network inputs.reactances inputs.outages places loss

-- outage factors are there where they are wanted, and nowhere else
abbrev pub IsLossIfWanted : FactorInputs → Bool → FactorPlaces → Option FactorRecords → Type 0
IsLossIfWanted inputs true places (Some loss) = IsLossTable inputs places loss
IsLossIfWanted inputs true places None = ⊥
IsLossIfWanted inputs false places (Some loss) = ⊥
IsLossIfWanted inputs false places None = Unit {0}

pub record AreMadeTables (inputs : FactorInputs) (wanted : Bool) (places : FactorPlaces) (tables : MadeTables) : Type 0 where
  pub shift : IsShiftTable inputs places tables.shift
  pub loss : IsLossIfWanted inputs wanted places tables.loss

-- ---- why none are made
-- by the fractions that two numbers stand for
abbrev pub stop_at : {N : Type 0} → (N → Fraction) → MakeStop N → MakeStop Fraction
stop_at value (stop.TooMany count) = stop.TooMany count
stop_at value (stop.NotPositive branch) = stop.NotPositive branch
stop_at value (stop.Passed p) = stop.Passed (passed_at value p)
stop_at value stop.Memory = stop.Memory

-- No shift factors are made; or they are, and no outage factors, which are wanted. It is why there are none.
pub data IsFactorsStop (bound : ℕ) (inputs : FactorInputs) (wanted : Bool) (places : FactorPlaces) (why : MakeStop Fraction) : Type 0 where
  of_shift : IsShiftStop (λ x. x) bound inputs.network inputs.reactances why → IsFactorsStop bound inputs wanted places why
  of_loss : (shift : FactorRecords) → IsShiftTable inputs places shift → wanted ≡ true → IsLossStop (λ x. x) bound inputs.network inputs.reactances inputs.outages why
      → IsFactorsStop bound inputs wanted places why

-- ---- what is told
-- how many records a table has, behind its name
unfoldable pub count_line : List ℕ → FactorRecords → List ℕ
count_line name table = name ++ decimal (length table.entries) ++ codes "\n"

abbrev pub loss_line : Option FactorRecords → List ℕ
loss_line (Some loss) = count_line (codes "outage records ") loss
loss_line None = []

abbrev pub tables_text : MadeTables → List ℕ
tables_text tables = count_line (codes "shift records ") tables.shift ++ loss_line tables.loss

-- the texts of the tables
abbrev pub table_outputs : MadeTables → Outputs (List ℕ)
table_outputs tables = tabled (factor_table_text column.Bus tables.shift.entries) (option_map (λ loss. factor_table_text column.Outage loss.entries) tables.loss)

abbrev pub tables_telling : MadeTables → Telling
tables_telling tables = record { status = status.Done; text = tables_text tables; outputs = table_outputs tables }

-- the line of a refusal, or that of two numbers, each within the bound, whose outcome passes it; for want of memory there is nothing to tell
abbrev pub TellsStop : ℕ → MakeStop Fraction → Telling → Type 0
TellsStop bound (stop.TooMany count) t = t ≡ refusal_of (refusal.Factors (fault.TooMany count))
TellsStop bound (stop.NotPositive branch) t = t ≡ refusal_of (refusal.Factors (fault.NotPositive branch))
TellsStop bound (stop.Passed p) t = ArePassedWithin bound p × (t ≡ uncertified status.Range (range_text p))
TellsStop bound stop.Memory t = ⊥

-- What is told is how many factors were made, with the tables that there are to write; or, with nothing to write, why they are not made.
pub data MakesFactors (bound : ℕ) (inputs : FactorInputs) (wanted : Bool) (places : FactorPlaces) (t : Telling) : Type 0 where
  made : (tables : MadeTables) → AreMadeTables inputs wanted places tables → t ≡ tables_telling tables → MakesFactors bound inputs wanted places t
  stopped : (why : MakeStop Fraction) → IsFactorsStop bound inputs wanted places why → TellsStop bound why t → MakesFactors bound inputs wanted places t

-- the same of what tables may be made of, by numbers of 127 bits
abbrev pub TellsFactors : Bool → FactorPlaces → FactorInputs → Telling → Type 0
TellsFactors wanted places inputs t = AreFitToMake inputs × MakesFactors (most_of Bits127) inputs wanted places t
