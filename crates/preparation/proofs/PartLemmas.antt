-- The parts that are made of a case, one after the other.
use Rattle.std.proofs.Common.{◌≡◌, ℕ, List, Option, Result, Ok, Err, refl, sym, subst}
use Rattle.market_data.specs.declared.participants.UnitList.{UnitList}
use Rattle.net_case.specs.NetworkReading.{unit_list_of}
use Rattle.outage_choice.specs.declared.OutageChoice.{OutageChoice}
use Rattle.unit_offers.specs.declared.offers.UnitOffers.{UnitOffers}
use Rattle.market_inputs.specs.Steps.{Is, Then}
use Rattle.market_inputs.specs.Stops.{IsToldAs}
use Rattle.market_inputs.specs.declared.preparing.CaseInputs.{CaseInputs}
use Rattle.market_inputs.specs.declared.stops.InputStop.{InputStop}
use Rattle.market_inputs.proofs.StepLemmas.{goes-on, made-then, stops}
use Rattle.preparation.specs.Parts.{AreChosen, AreOffered, AreParts, IfAsked, IfWanted}
use Rattle.preparation.specs.declared.parts.Prepared.{Prepared}
use Rattle.preparation.specs.declared.parts.Wanted.{Wanted}

module _ (wanted : Wanted) (case : List ℕ) (inputs : CaseInputs) (units : UnitList) (offers : Option UnitOffers) where
  -- the offers are those of the network's units
  of-network : units ≡ unit_list_of inputs.network → IfWanted (AreOffered case units) wanted.steps (Ok offers) → IfWanted (AreOffered case (unit_list_of inputs.network)) wanted.steps (Ok offers)
  of-network is first = subst (λ u. IfWanted (AreOffered case u) wanted.steps (Ok offers)) is first

  pub parts-told : (outages : Option OutageChoice) → units ≡ unit_list_of inputs.network → IfWanted (AreOffered case units) wanted.steps (Ok offers)
      → IfAsked (AreChosen inputs.network) wanted.outages (Ok outages) → AreParts wanted case inputs (Ok (record { inputs = inputs; units = units; offers = offers; outages = outages }))
  parts-told outages is first second =
      subst (λ u. AreParts wanted case inputs (Ok (record { inputs = inputs; units = u; offers = offers; outages = outages }))) (sym is)
      (made-then (IfWanted (AreOffered case (unit_list_of inputs.network)) wanted.steps) _ offers _ (of-network is first) (made-then (IfAsked (AreChosen inputs.network) wanted.outages) _ outages _ second refl))

  pub parts-stop : (e : InputStop) (out : Result Prepared InputStop) → units ≡ unit_list_of inputs.network → IfWanted (AreOffered case units) wanted.steps (Ok offers)
      → IsToldAs (IfAsked (AreChosen inputs.network) wanted.outages) (Err e) → out ≡ Err e → IsToldAs (AreParts wanted case inputs) out
  parts-stop e out is first second gives =
      goes-on (IfWanted (AreOffered case (unit_list_of inputs.network)) wanted.steps) _ offers out (of-network is first)
      (stops (IfAsked (AreChosen inputs.network) wanted.outages) _ (Err e) out e second refl gives)
