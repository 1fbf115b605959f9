-- What files stand for is one thing.
use Rattle.std.specs.Prelude.{ℕ, List, Ok}
use Rattle.market_data.specs.declared.scales.FactorPlaces.{FactorPlaces}
use Rattle.market_tables.specs.Tables.{GridTexts, MarketTexts}
use Rattle.net_case.specs.declared.live_parts.PostRating.{PostRating}
use Rattle.refusal_text.specs.declared.refusals.Input.TheVariants as input
use Rattle.refusal_text.specs.declared.refusals.Refusal.TheVariants as refusal
use Rattle.market_inputs.specs.Files.{sized, sized_grid, sized_tables}
use Rattle.market_inputs.proofs.OnceLemmas.{clear-once, factor-inputs-once, inputs-once, is-once, pool-once, then-once}
use Rattle.market_inputs.specs.Replaying.{certificate_in, steps_in}
use Rattle.market_inputs.specs.RightsInputs.{rights_in}
use Rattle.market_inputs.specs.Texts.{IsPool, IsLimited, IsCheck}
use Rattle.command_answers.specs.Inputs.{AreEntitled, IsCertificate, IsCertified, IsFactorWork, IsReplayed}
use Rattle.edit_replay.specs.Replays.{edited_by}
use Rattle.one_market.specs.OneMarket.{IsOne}

pub one-pool : (case offers : List ℕ) → IsOne (IsPool case offers)
one-pool case offers = pool-once (sized (refusal.TooLong input.Case) case) (sized (refusal.TooLong input.Offers) offers)

pub one-clear : (rating : PostRating) (places : FactorPlaces) (texts : MarketTexts) → IsOne (IsLimited rating places texts)
one-clear rating places texts = clear-once rating places (sized_tables texts)

pub one-check : (places : FactorPlaces) (texts : GridTexts) → IsOne (IsCheck places texts)
one-check places texts = inputs-once places (sized_grid texts)

pub one-factor-work : (case contingencies : List ℕ) → IsOne (IsFactorWork case contingencies)
one-factor-work case contingencies = factor-inputs-once case contingencies

-- ---- a market with what else is read
pub one-replay : (rating : PostRating) (places : FactorPlaces) (texts : MarketTexts) (edits : List ℕ) → IsOne (IsReplayed rating places texts edits)
one-replay rating places texts edits =
    then-once _ _ (one-clear rating places texts)
    (λ market _. then-once _ _ (is-once (steps_in (sized (refusal.TooLong input.Edits) edits))) (λ steps _. is-once (Ok (record { market = market; steps = steps }))))

pub one-certificate : (most : ℕ) (certificate : List ℕ) → IsOne (IsCertificate most certificate)
one-certificate most certificate = is-once (certificate_in most (sized (refusal.TooLong input.Certificate) certificate))

pub one-verification : (most : ℕ) (rating : PostRating) (places : FactorPlaces) (texts : MarketTexts) (edits certificate : List ℕ) → IsOne (IsCertified most rating places texts edits certificate)
one-verification most rating places texts edits certificate =
    then-once _ _ (one-replay rating places texts edits)
    (λ replayed _. then-once _ _ (one-certificate most certificate) (λ read _. is-once (Ok (record { market = edited_by replayed.market replayed.steps; certificate = read }))))

pub one-rights : (rating : PostRating) (places : FactorPlaces) (texts : MarketTexts) (rights : List ℕ) → IsOne (AreEntitled rating places texts rights)
one-rights rating places texts rights =
    then-once _ _ (one-clear rating places texts)
    (λ market _. then-once _ _ (is-once (rights_in market (sized (refusal.TooLong input.Rights) rights))) (λ held _. is-once (Ok (record { market = market; rights = held }))))
