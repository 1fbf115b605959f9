-- The parts that are prepared of a case, one after the other.
use Rattle.std.specs.Prelude.{◌≡◌, ◌≢◌, ℕ, ◌<◌, ◌≤◌, Bool, true, false, List, length, All, Option, Some, None, Result, Ok, Err, IfSome}
use Rattle.market_data.specs.Scales.{most_outages}
use Rattle.market_data.specs.declared.participants.UnitList.{UnitList}
use Rattle.market_model.specs.declared.participants.Block.{Block}
use Rattle.record_reading.specs.declared.FrameFault.TheVariants as frame_fault
use Rattle.case_text.specs.Matrices.{Rows}
use Rattle.net_case.specs.Networks.{LiveNetwork}
use Rattle.net_case.specs.NetworkReading.{unit_list_of}
use Rattle.factor_tables.specs.Penalties.{IsSoftness}
use Rattle.factor_tables.specs.declared.table_fault.TableFault.TheVariants as table_fault
use Rattle.outage_choice.specs.Choices.{IsOutageChoice}
use Rattle.outage_choice.specs.declared.OutageChoice.{OutageChoice}
use Rattle.unit_offers.specs.UnitOffers.{AreUnitOffers, IsOfferStop}
use Rattle.unit_offers.specs.declared.offers.UnitOffers.{UnitOffers}
use Rattle.unit_offers.specs.declared.stops.OfferStop.{OfferStop}
use Rattle.unit_offers.specs.declared.stops.OfferStop.TheVariants as offer_stop
use Rattle.refusal_text.specs.declared.refusals.Input.TheVariants as input
use Rattle.refusal_text.specs.declared.refusals.Refusal.{Refusal}
use Rattle.refusal_text.specs.declared.refusals.Refusal.TheVariants as refusal
use Rattle.market_inputs.specs.Files.{sized}
use Rattle.market_inputs.specs.Preparing.{AreCaseInputs, costs_in}
use Rattle.market_inputs.specs.Steps.{Is, Then}
use Rattle.market_inputs.specs.declared.preparing.CaseInputs.{CaseInputs}
use Rattle.market_inputs.specs.declared.stops.InputStop.{InputStop}
use Rattle.market_inputs.specs.declared.stops.InputStop.TheVariants as stop
use Rattle.preparation.specs.declared.parts.Prepared.{Prepared}
use Rattle.preparation.specs.declared.parts.Wanted.{Wanted}

-- the most steps on a side of a quadratic cost
abbrev pub most_steps : ℕ
most_steps = 20

-- from 1 to so many steps, and a penalty that a table may have
pub record IsWanted (wanted : Wanted) : Type 0 where
  pub some : IfSome wanted.steps (λ count. (1 ≤ count) × (count ≤ most_steps))
  pub penalty : IfSome wanted.softness IsSoftness

-- ---- what is made only where it is wanted
abbrev pub IfWanted : {W A : Type 0} → (W → Result A Refusal → Type 0) → Option W → Result (Option A) Refusal → Type 0
IfWanted made None told = told ≡ Ok None
IfWanted made (Some w) (Ok None) = ⊥
IfWanted made (Some w) (Ok (Some x)) = made w (Ok x)
IfWanted made (Some w) (Err r) = made w (Err r)

abbrev pub IfAsked : {A : Type 0} → (Result A Refusal → Type 0) → Bool → Result (Option A) Refusal → Type 0
IfAsked made false told = told ≡ Ok None
IfAsked made true (Ok None) = ⊥
IfAsked made true (Ok (Some x)) = made (Ok x)
IfAsked made true (Err r) = made (Err r)

-- ---- offers
-- by the rows of costs: the offers of the units, or why there are none
abbrev pub AreOffersBy : UnitList → ℕ → Rows → Result UnitOffers Refusal → Type 0
AreOffersBy units count costs (Ok offers) = AreUnitOffers units costs count offers
AreOffersBy units count costs (Err r) = (why : OfferStop) × IsOfferStop units costs count why × (why ≢ offer_stop.Memory) × (r ≡ refusal.Unoffered why)

-- by the bytes of a case, where a quadratic cost is cut into so many steps
abbrev pub AreOffered : List ℕ → UnitList → ℕ → Result UnitOffers Refusal → Type 0
AreOffered case units count told = Then (Is (costs_in (sized (refusal.TooLong input.Case) case))) (AreOffersBy units count) told

abbrev pub unoffered_stop : OfferStop → InputStop
unoffered_stop offer_stop.Memory = stop.Memory
unoffered_stop why = stop.Refused (refusal.Unoffered why)

-- each block is of a unit of the list
abbrev pub AreOfUnits : UnitList → List Block → Type 0
AreOfUnits units blocks = All (λ block. block.unit < length units.units) blocks

-- ---- outages
-- those that the network stands, where they may all be listed; a list that is cut short would be a hole in security
abbrev pub AreChosen : LiveNetwork → Result OutageChoice Refusal → Type 0
AreChosen network (Ok choice) = IsOutageChoice network choice × (length choice.listed ≤ most_outages)
AreChosen network (Err r) =
    (choice : OutageChoice) × IsOutageChoice network choice × (most_outages < length choice.listed)
    × (r ≡ refusal.Table input.Contingencies (table_fault.Frame (frame_fault.TooMany (length choice.listed))))

-- ---- all parts
-- what is wanted of a case with its network, or the first step's fault: of its costs, or of its outages
abbrev pub AreParts : Wanted → List ℕ → CaseInputs → Result Prepared Refusal → Type 0
AreParts wanted case inputs told =
    Then (IfWanted (AreOffered case (unit_list_of inputs.network)) wanted.steps) (λ offers.
    Then (IfAsked (AreChosen inputs.network) wanted.outages) (λ outages.
    Is (Ok (record { inputs = inputs; units = unit_list_of inputs.network; offers = offers; outages = outages })))) told

-- what is wanted of the bytes of a case, of which its network comes first
abbrev pub ArePrepared : Wanted → List ℕ → Result Prepared Refusal → Type 0
ArePrepared wanted case told = Then (AreCaseInputs wanted.rating case) (λ inputs. AreParts wanted case inputs) told
