-- What is written of outages is read back, and those that are chosen are listed as they are.
-- Source: own.
use Rattle.std.specs.Prelude.{◌≡◌, ◌⊎◌, ℕ, ◌<◌, ◌≤◌, ◌^◌, ℤ, pos, List, length, map, All, Result, Ok, Err}
use Rattle.market_data.specs.Scales.{most_outages}
use Rattle.net_case.specs.Networks.{LiveNetwork, IsNetwork}
use Rattle.factor_tables.specs.OutageNumbers.{outage_rows_of}
use Rattle.outage_list.specs.Listing.{IsListed}
use Rattle.outage_list.specs.declared.listing.OutageFault.{OutageFault}
use Rattle.outage_list.specs.declared.listing.OutageFault.TheVariants as fault
use Rattle.outage_choice.specs.Choices.{IsOutageChoice}
use Rattle.outage_choice.specs.declared.OutageChoice.{OutageChoice}
use Rattle.prepared_text.specs.OutageText.{outage_text}

-- what is written of rows of 32 bits, not more than may be listed, is read back as these
abbrev pub LawOfOutagesRead : Type 0
LawOfOutagesRead = (rows : List ℕ) → length rows ≤ most_outages → All (λ row. row < 2 ^ 32) rows → outage_rows_of (outage_text rows) ≡ Ok (map pos rows)

-- numbers are listed as these rows, and as nothing else, but where memory is refused
pub record AreListedAs (network : LiveNetwork) (numbers : List ℤ) (rows : List ℕ) : Type 0 where
  pub so : IsListed network numbers (Ok rows)
  pub alone : (told : Result (List ℕ) OutageFault) → IsListed network numbers told → (told ≡ Ok rows) ⊎ (told ≡ Err fault.Memory)

-- what is written of the outages that are chosen is read as their rows, which are listed as they are
abbrev pub LawOfChosenRead : Type 0
LawOfChosenRead =
    (network : LiveNetwork) (choice : OutageChoice) → IsNetwork network → IsOutageChoice network choice → length choice.listed ≤ most_outages
    → (outage_rows_of (outage_text choice.listed) ≡ Ok (map pos choice.listed)) × AreListedAs network (map pos choice.listed) choice.listed
