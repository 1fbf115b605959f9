-- Steps keep the frame of a market, and what fits one market of a frame fits all.
use Rattle.std.specs.Prelude.{◌≡◌, List, [], ◌∷◌, length, take, All, refl}
use Rattle.std.proofs.Common.{ap, sym, ◌∙◌}
use Rattle.std.proofs.lemmas.List.{length-map}
use Rattle.std.proofs.lemmas.List.Elements.{All-head, All-tail}
use Rattle.market_model.specs.declared.answered.Outcome.{Outcome}
use Rattle.market_model.specs.declared.answered.Outcome.TheVariants as outcome
use Rattle.market_model.specs.declared.participants.Parts.{Parts}
use Rattle.market_model.specs.Fitting.{FitsOutcome}
use Rattle.market_model.specs.Frame.{SameFrame, block_frame, bus_frame, frame}
use Rattle.market_model.specs.Market.{IsMarket}
use Rattle.offer_book.proofs.EditedMarkets.{stepped as edited_market}
use Rattle.offer_book.proofs.FrameOfEdits.{law_of_the_edited_frame}
use Rattle.edit_table.specs.EditTable.{IsStep}
use Rattle.edit_table.specs.declared.Step.{Step}
use Rattle.edit_table.specs.declared.Step.TheVariants as step
use Rattle.edit_replay.specs.declared.step_outcome.StepOutcome.{StepOutcome}
use Rattle.edit_replay.specs.declared.step_outcome.StepOutcome.TheVariants as reply
use Rattle.edit_replay.specs.Replays.{FitsStep, IsEditedPart, edited_by, stepped}

-- ---- steps
pub stepped_frame : (m : Parts) (s : Step) → SameFrame m (stepped m s)
stepped_frame m (step.Edit e) = law_of_the_edited_frame m e
stepped_frame m step.Clear = refl

pub steps_frame : (m : Parts) (steps : List Step) → SameFrame m (edited_by m steps)
steps_frame m [] = refl
steps_frame m (s ∷ steps) = stepped_frame m s ∙ steps_frame (stepped m s) steps

-- of some of the steps too
pub part_frame : (m : Parts) (steps : List Step) (n : Parts) → IsEditedPart m steps n → SameFrame m n
part_frame m steps n part = steps_frame m (take part.count steps) ∙ sym (ap frame part.market)

stepped_market : (m : Parts) (s : Step) → IsMarket m → IsStep s → IsMarket (stepped m s)
stepped_market m (step.Edit e) market datum = edited_market m market e datum
stepped_market m step.Clear market datum = market

pub steps_market : (m : Parts) (steps : List Step) → IsMarket m → All IsStep steps → IsMarket (edited_by m steps)
steps_market m [] market data_ok = market
steps_market m (s ∷ steps) market data_ok = steps_market (stepped m s) steps (stepped_market m s market (All-head IsStep s steps data_ok)) (All-tail IsStep s steps data_ok)

-- ---- what fits
as_many_blocks : (m n : Parts) → SameFrame m n → length m.blocks ≡ length n.blocks
as_many_blocks m n same = sym (length-map m.blocks block_frame) ∙ ap (λ (p : Parts). length p.blocks) same ∙ length-map n.blocks block_frame

as_many_buses : (m n : Parts) → SameFrame m n → length m.buses ≡ length n.buses
as_many_buses m n same = sym (length-map m.buses bus_frame) ∙ ap (λ (p : Parts). length p.buses) same ∙ length-map n.buses bus_frame

as_many_units : (m n : Parts) → SameFrame m n → length m.units ≡ length n.units
as_many_units m n same = ap (λ (p : Parts). length p.units) same

as_many_offers : (m n : Parts) → SameFrame m n → length m.reserve.offers ≡ length n.reserve.offers
as_many_offers m n same = ap (λ (p : Parts). length p.reserve.offers) same

outcome_fits : {N : Type 0} (m n : Parts) (o : Outcome N) → SameFrame m n → FitsOutcome m o → FitsOutcome n o
outcome_fits m n (outcome.Cleared a) same fits = record {
  dispatch = fits.dispatch ∙ as_many_blocks m n same;
  reserve = fits.reserve ∙ as_many_offers m n same;
  prices = fits.prices ∙ as_many_buses m n same;
  money = record {
    units = fits.money.units ∙ as_many_units m n same;
    own = fits.money.own ∙ ap (λ (p : Parts). length p.unit_outages) same;
    loads = fits.money.loads ∙ as_many_buses m n same;
    rents = fits.money.rents;
    reserve = fits.money.reserve ∙ as_many_offers m n same;
  };
}
outcome_fits m n (outcome.Infeasible f) same fits = tt
outcome_fits m n (outcome.Range p) same fits = tt

pub fits_in_frame : {N : Type 0} (m n : Parts) (o : StepOutcome N) → SameFrame m n → FitsStep m o → FitsStep n o
fits_in_frame m n reply.Accepted same fits = tt
fits_in_frame m n (reply.Refused f) same fits = tt
fits_in_frame m n (reply.Clear o) same fits = outcome_fits m n o same fits
