-- Tables of factors that are made, and why none are.
use Rattle.std.proofs.Common.{◌≡◌, ◌∙◌, ◌++◌, ℕ, ℤ, List, ap, subst, sym, refl, Bool, true, false, Option, Some, None, Result, Ok, Err, inl, inr}
use Rattle.std.specs.Prelude.{IfErr, IfSome, not, is_some, option_map, ◌&&◌, ◌⊎◌, if◌then◌else◌}
use Rattle.fraction_theory.specs.Fraction.{Fraction}
use Rattle.market_data.specs.declared.scales.FactorPlaces.{FactorPlaces}
use Rattle.net_case.specs.Networks.{LiveNetwork}
use Rattle.factor_residuals.specs.declared.spots.Spot.{Spot}
use Rattle.factor_tables.specs.Factors.{FactorRecords}
use Rattle.factor_tables.specs.declared.by_pair.Column.TheVariants as column
use Rattle.factor_text.specs.Texts.{factor_table_text}
use Rattle.dc_network.specs.DcNetworks.{ArePositive}
use Rattle.dc_network.specs.Laws.{IsSound}
use Rattle.factor_maker.specs.Made.{IsMadeLoss}
use Rattle.factor_maker.specs.Stops.{IsDifference, IsLossStop, IsOutagePair, IsShiftStop}
use Rattle.factor_maker.specs.declared.stops.MakeStop.{MakeStop}
use Rattle.factor_maker.specs.declared.stops.MakeStop.TheVariants as stop
use Rattle.factor_laws.proofs.LossTables.{loss_explained, loss_read_back}
use Rattle.factor_laws.proofs.ShiftTables.{shift_explained, shift_read_back}
use Rattle.market_inputs.specs.Making.{AreFitToMake}
use Rattle.market_inputs.specs.declared.making.FactorInputs.{FactorInputs}
use Rattle.command_answers.specs.declared.factors.MadeTables.{MadeTables}
use Rattle.command_answers.specs.declared.checking.Residuals.{Residuals}
use Rattle.command_answers.specs.declared.status.Status.{Status}
use Rattle.command_answers.specs.declared.status.Status.TheVariants as status
use Rattle.command_answers.specs.declared.told.Outputs.{Outputs}
use Rattle.command_answers.specs.Checking.{AreResiduals, TellsCheck, are_within}
use Rattle.command_answers.specs.Factors.{AreMadeTables, IsFactorsStop, IsLossIfWanted, IsLossTable, IsShiftTable, MakesFactors, TellsFactors, TellsStop, made, of_loss, of_shift, stop_at, stopped, tables_telling}
use Rattle.command_answers.specs.FactorLaws.{AreReadBack, LawOfCheckedTables, LawOfMadeTables, LossIsReadBack, checked_with}
use Rattle.command_answers.specs.Tellings.{Telling}

-- ---- stops by fractions
module _ {N : Type 0} (value : N → Fraction) (bound : ℕ) (network : LiveNetwork) (xs : List ℤ) where
  pub shift-stop : (why : MakeStop N) → IsShiftStop value bound network xs why → IsShiftStop (λ x. x) bound network xs (stop_at value why)
  shift-stop (stop.TooMany count) h = h
  shift-stop (stop.NotPositive row) h = h
  shift-stop (stop.Passed e) h = h
  shift-stop stop.Memory h = tt

  pub loss-stop : (outages : List ℕ) (why : MakeStop N) → IsLossStop value bound network xs outages why → IsLossStop (λ x. x) bound network xs outages (stop_at value why)
  loss-stop outages (stop.TooMany count) h = h
  loss-stop outages (stop.NotPositive row) h = h
  loss-stop outages (stop.Passed e) (few, positive, (row, k, there, of, pair)) = (
    few,
    positive,
    (
      row,
      k,
      there,
      of,
      elim pair [
        | inl flow ↦ inl flow
        | inr d ↦ inr (record { branch = d.branch; there = d.there; op_is = d.op_is; from_source = d.from_source; from_sink = d.from_sink; passes = d.passes })
      ],
    ),
  )
  loss-stop outages stop.Memory h = tt

-- ---- what is handed on
-- why there is no shift table is why there are none
pub shift-stopped : {A B N : Type 0} (value : N → Fraction) (bound : ℕ) (inputs : FactorInputs) (wanted : Bool) (places : FactorPlaces) (r : Result A (MakeStop N)) (out : Result B (MakeStop N)) (why : MakeStop N)
    → IfErr r (IsShiftStop value bound inputs.network inputs.reactances) → r ≡ Err why → out ≡ Err why → IfErr out (λ e. IsFactorsStop bound inputs wanted places (stop_at value e))
shift-stopped value bound inputs wanted places r out why is was gives =
    subst (λ o. IfErr o (λ e. IsFactorsStop bound inputs wanted places (stop_at value e))) (sym gives)
    (of_shift (shift-stop value bound inputs.network inputs.reactances why (subst (λ q. IfErr q (IsShiftStop value bound inputs.network inputs.reactances)) was is)))

-- and so is why there is no outage table, behind a shift table
pub loss-stopped : {A B N : Type 0} (value : N → Fraction) (bound : ℕ) (inputs : FactorInputs) (wanted : Bool) (places : FactorPlaces) (shift : FactorRecords) (r : Result A (MakeStop N)) (out : Result B (MakeStop N))
    (why : MakeStop N) → IsShiftTable inputs places shift → IfErr r (λ e. (wanted ≡ true) × IsLossStop value bound inputs.network inputs.reactances inputs.outages e) → r ≡ Err why → out ≡ Err why
    → IfErr out (λ e. IsFactorsStop bound inputs wanted places (stop_at value e))
loss-stopped value bound inputs wanted places shift r out why table is was gives =
    let cause = subst (λ q. IfErr q (λ e. (wanted ≡ true) × IsLossStop value bound inputs.network inputs.reactances inputs.outages e)) was is in
    subst (λ o. IfErr o (λ e. IsFactorsStop bound inputs wanted places (stop_at value e))) (sym gives)
    (of_loss shift table cause.0 (loss-stop value bound inputs.network inputs.reactances inputs.outages why cause.1))

-- an outage table that is wanted
pub loss-wanted : (inputs : FactorInputs) (wanted : Bool) (places : FactorPlaces) (loss : FactorRecords) → wanted ≡ true → IsLossTable inputs places loss → IsLossIfWanted inputs wanted places (Some loss)
loss-wanted inputs true places loss is table = table
loss-wanted inputs false places loss is table = cc is

-- ---- what tables are made of is sound
sound : (inputs : FactorInputs) → AreFitToMake inputs → ArePositive inputs.reactances → IsSound inputs.network inputs.reactances None
sound inputs fit positive = record { network_is = fit.network; reactances = fit.reactances; positive = positive; joined = fit.joined }

-- ---- read back
loss-back : (inputs : FactorInputs) (wanted : Bool) (places : FactorPlaces) (loss : Option FactorRecords) → AreFitToMake inputs → ArePositive inputs.reactances → IsLossIfWanted inputs wanted places loss
    → LossIsReadBack inputs.network places loss (option_map (λ (table : FactorRecords). factor_table_text column.Outage table.entries) loss)
loss-back inputs true places (Some loss) fit positive is = (loss_read_back inputs.network inputs.reactances inputs.outages places loss (sound inputs fit positive) fit.outages is.made).1
loss-back inputs true places None fit positive is = absurd is
loss-back inputs false places (Some loss) fit positive is = absurd is
loss-back inputs false places None fit positive is = tt

tables-back : (inputs : FactorInputs) (wanted : Bool) (places : FactorPlaces) (tables : MadeTables) → AreFitToMake inputs → AreMadeTables inputs wanted places tables
    → IfSome (tables_telling tables).outputs.ptdf (λ ptdf. AreReadBack inputs wanted places ptdf (tables_telling tables).outputs.lodf)
tables-back inputs wanted places tables fit are = record {
  tables = tables;
  made = are;
  shift = (shift_read_back inputs.network inputs.reactances places tables.shift (sound inputs fit are.shift.positive) are.shift.made).1;
  loss = loss-back inputs wanted places tables.loss fit are.shift.positive are.loss;
}

-- nothing is written where none are made
none-back : (bound : ℕ) (inputs : FactorInputs) (wanted : Bool) (places : FactorPlaces) (why : MakeStop Fraction) (t : Telling) → TellsStop bound why t
    → IfSome t.outputs.ptdf (λ ptdf. AreReadBack inputs wanted places ptdf t.outputs.lodf)
none-back bound inputs wanted places (stop.TooMany count) t is = subst (λ (u : Telling). IfSome u.outputs.ptdf (λ ptdf. AreReadBack inputs wanted places ptdf u.outputs.lodf)) (sym is) tt
none-back bound inputs wanted places (stop.NotPositive row) t is = subst (λ (u : Telling). IfSome u.outputs.ptdf (λ ptdf. AreReadBack inputs wanted places ptdf u.outputs.lodf)) (sym is) tt
none-back bound inputs wanted places (stop.Passed p) t is = subst (λ (u : Telling). IfSome u.outputs.ptdf (λ ptdf. AreReadBack inputs wanted places ptdf u.outputs.lodf)) (sym is.1) tt
none-back bound inputs wanted places stop.Memory t is = absurd is

pub law_of_made_tables : LawOfMadeTables
law_of_made_tables wanted places inputs t (fit, made tables are is) =
    subst (λ (u : Telling). IfSome u.outputs.ptdf (λ ptdf. AreReadBack inputs wanted places ptdf u.outputs.lodf)) (sym is) (tables-back inputs wanted places tables fit are)
law_of_made_tables wanted places inputs t (fit, stopped why cause told) = none-back _ inputs wanted places why t told

-- ---- checked
within : (a b c d : Option Spot) → a ≡ None → b ≡ None → c ≡ None → d ≡ None → (not (is_some a) && not (is_some b) && not (is_some c) && not (is_some d)) ≡ true
within a b c d p q r s = rw (p, q, r, s) refl

pub law_of_checked_tables : LawOfCheckedTables
law_of_checked_tables places inputs shift loss t fit is lost (r, residuals, told) =
    let is_sound = sound inputs fit is.positive in
    let (bus, round) = shift_explained inputs.network inputs.reactances places shift is_sound is.made in
    let (outage_bus, outage_round) = loss_explained inputs.network inputs.reactances inputs.outages places loss is_sound fit.outages lost in
    let all : are_within r ≡ true = within r.bus.over r.round.over r.outage_bus.over r.outage_round.over
    (bus r.bus residuals.bus) (round r.round residuals.round) (outage_bus r.outage_bus residuals.outage_bus) (outage_round r.outage_round residuals.outage_round) in
    ap (λ (u : Telling). u.status) told ∙ ap (λ (b : Bool). if b then status.Done else status.Refuted) all
