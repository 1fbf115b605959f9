-- The texts that are returned are those of what was made.
use Rattle.std.proofs.Common.{◌≡◌, ℕ, List, Option, Ok, refl}
use Rattle.market_inputs.specs.Steps.{Is, Then}
use Rattle.market_inputs.proofs.StepLemmas.{made-then}
use Rattle.preparation.specs.Parts.{ArePrepared}
use Rattle.preparation.specs.Lines.{prepared_text}
use Rattle.preparation.specs.Preparations.{IsPreparation, offers_part, outages_part, penalties_part, texts_of}
use Rattle.preparation.specs.declared.parts.Prepared.{Prepared}
use Rattle.preparation.specs.declared.parts.Wanted.{Wanted}

pub texts-told : (wanted : Wanted) (case : List ℕ) (p : Prepared) (offers outages penalties : Option (List ℕ)) (text : List ℕ) → ArePrepared wanted case (Ok p) → offers ≡ offers_part p → outages ≡ outages_part p
    → penalties ≡ penalties_part p.inputs.network wanted.softness → text ≡ prepared_text wanted p
    → IsPreparation wanted case (Ok (record { tables = record { offers = offers; contingencies = outages; penalties = penalties }; text = text }))
texts-told wanted case p offers outages penalties text told a b c d =
    made-then (ArePrepared wanted case) (λ made. Is (Ok (texts_of wanted made))) p _ told (rw (a, b, c, d) refl)
