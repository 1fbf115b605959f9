-- The tables that are prepared of a case, and what is told of them.
use Rattle.std.specs.Prelude.{ℕ, List, Option, Result, Ok, Err}
use Rattle.std.specs.Option.{option_map}
use Rattle.net_case.specs.Networks.{LiveNetwork}
use Rattle.factor_tables.specs.declared.penalty_list.Softness.{Softness}
use Rattle.refusal_text.specs.declared.refusals.Refusal.{Refusal}
use Rattle.market_inputs.specs.Steps.{Is, Then}
use Rattle.market_inputs.specs.declared.stops.InputStop.{InputStop}
use Rattle.prepared_text.specs.OfferText.{offer_text}
use Rattle.prepared_text.specs.OutageText.{outage_text}
use Rattle.prepared_text.specs.PenaltyText.{penalty_text}
use Rattle.preparation.specs.declared.parts.Prepared.{Prepared}
use Rattle.preparation.specs.declared.parts.Wanted.{Wanted}
use Rattle.preparation.specs.declared.prepared.Preparation as declared
use Rattle.preparation.specs.declared.prepared.PreparedTables.{PreparedTables}
use Rattle.preparation.specs.Parts.{ArePrepared}
use Rattle.preparation.specs.Lines.{prepared_text}

-- the texts of tables, and what is told of them
pub record Texts : Type 0 where
  pub tables : PreparedTables (List ℕ)
  pub text : List ℕ

-- the text of each table that is wanted
abbrev pub offers_part : Prepared → Option (List ℕ)
offers_part p = option_map (λ offers. offer_text p.units offers.blocks) p.offers

abbrev pub outages_part : Prepared → Option (List ℕ)
outages_part p = option_map (λ choice. outage_text choice.listed) p.outages

abbrev pub penalties_part : LiveNetwork → Option Softness → Option (List ℕ)
penalties_part network softness = option_map (penalty_text network) softness

-- those of what was made
abbrev pub texts_of : Wanted → Prepared → Texts
texts_of wanted p = record {
  tables = record { offers = offers_part p; contingencies = outages_part p; penalties = penalties_part p.inputs.network wanted.softness };
  text = prepared_text wanted p;
}

-- what is prepared of a case, or its first fault
abbrev pub IsPreparation : Wanted → List ℕ → Result Texts Refusal → Type 0
IsPreparation wanted case told = Then (ArePrepared wanted case) (λ p. Is (Ok (texts_of wanted p))) told

-- what was returned, by its bytes
abbrev pub prepared_with : Result declared.Preparation InputStop → Result Texts InputStop
prepared_with (Ok made) = Ok (record {
  tables = record {
    offers = option_map (λ bytes. bytes.items) made.tables.offers;
    contingencies = option_map (λ bytes. bytes.items) made.tables.contingencies;
    penalties = option_map (λ bytes. bytes.items) made.tables.penalties;
  };
  text = made.text.items;
})
prepared_with (Err stop) = Err stop
