-- The market that files stand for is of energy alone exactly where their table of reserves has no records.
use Rattle.std.proofs.Common.{◌≡◌, subst, refl, ℕ, Bool, true, false, if◌then◌else◌, List, length, Result, Ok, Err}
use Rattle.std.specs.Prelude.{◌↔◌, nat_lt}
use Rattle.market_data.specs.declared.participants.UnitList.{UnitList}
use Rattle.market_model.specs.declared.participants.Parts.{Parts}
use Rattle.market_model.specs.declared.participants.Reserve.{Reserve}
use Rattle.market_model.specs.Reserves.{no_reserve}
use Rattle.net_case.specs.Networks.{LiveNetwork}
use Rattle.net_case.specs.NetworkReading.{unit_list_of}
use Rattle.offer_book.specs.Reserving.{reserve_of_table}
use Rattle.offer_book.specs.declared.reserve_reading.ReserveFault.{ReserveFault}
use Rattle.record_reading.specs.Steps.{and_then, or_as}
use Rattle.refusal_text.specs.declared.refusals.Input.TheVariants as input
use Rattle.refusal_text.specs.declared.refusals.Refusal.{Refusal}
use Rattle.refusal_text.specs.declared.refusals.Refusal.TheVariants as refusal
use Rattle.market_inputs.specs.Files.{most_file, sized}
use Rattle.market_inputs.specs.Steps.{Is, Onward, Then}
use Rattle.market_inputs.specs.Tables.{ListsNoReserve, reserves_in}
use Rattle.market_inputs.proofs.ReserveLemmas.{none-listed}
use Rattle.command_answers.specs.Laws.{LawOfListedReserve}

-- what comes of steps that make something comes of what the first makes, and of the steps behind it
onward : {A B C : Type 0} (next : A → Result B Refusal → Type 0) (b : B) (made : Result A Refusal) → ((x : A) → made ≡ Ok x → next x (Ok b) → C) → Onward made next (Ok b) → C
onward next b (Ok x) goes rest = goes x refl rest
onward next b (Err r) goes refused = absurd (cc refused)

through : {A B C : Type 0} (first : Result A Refusal → Type 0) (next : A → Result B Refusal → Type 0) (b : B) → ((x : A) → first (Ok x) → next x (Ok b) → C) → Then first next (Ok b) → C
through first next b goes h = onward next b h.made (λ x made rest. goes x (subst first made h.is) rest) h.rest

-- ---- the reserve of a table that is read is that of its text
seen : (made : Result Reserve ReserveFault) (reserve : Reserve) → or_as refusal.Reserves made ≡ Ok reserve → made ≡ Ok reserve
seen (Ok x) reserve is = cc is
seen (Err e) reserve is = absurd (cc is)

of_text : (units : UnitList) (text : List ℕ) (reserve : Reserve) (too_long : Refusal) (over : Bool)
    → and_then (if over then Err too_long else Ok text) (λ t. or_as refusal.Reserves (reserve_of_table units t)) ≡ Ok reserve → reserve_of_table units text ≡ Ok reserve
of_text units text reserve too_long true is = absurd (cc is)
of_text units text reserve too_long false is = seen (reserve_of_table units text) reserve is

listed : (network : LiveNetwork) (text : List ℕ) (reserve : Reserve) → reserves_in network (sized (refusal.TooLong input.Reserves) text) ≡ Ok reserve → (reserve ≡ no_reserve) ↔ ListsNoReserve text
unfolding sized
listed network text reserve is =
    none-listed (unit_list_of network) text reserve (of_text (unit_list_of network) text reserve (refusal.TooLong input.Reserves) (nat_lt most_file (length text)) is)

-- ---- the market has it
of_made : (text : List ℕ) (made m : Parts) → (made.reserve ≡ no_reserve) ↔ ListsNoReserve text → Is (Ok made) (Ok m) → (m.reserve ≡ no_reserve) ↔ ListsNoReserve text
of_made text made m lists is = let same : made ≡ m = cc is in subst (λ (p : Parts). (p.reserve ≡ no_reserve) ↔ ListsNoReserve text) same lists

pub law_of_listed_reserve : LawOfListedReserve
law_of_listed_reserve rating places files m limited =
    through _ _ m (λ matrices _.
    through _ _ m (λ network _.
    through _ _ m (λ tables _.
    through _ _ m (λ lost _.
    through _ _ m (λ covered _.
    through _ _ m (λ offered _.
    through _ _ m (λ reserve is.
    through _ _ m (λ moved _.
    through _ _ m (λ priced _. of_made files.reserves _ m (listed network files.reserves reserve is)))))))))) limited
