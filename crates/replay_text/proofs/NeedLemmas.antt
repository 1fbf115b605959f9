-- The need of reserve after an edit and after a step.
use Rattle.std.specs.Prelude.{◌≡◌, ℕ, pos, Bool, true, false, Option, Some, None, is_some, if◌then◌else◌, refl}
use Rattle.std.specs.Int.Signed.{lt_z}
use Rattle.std.specs.Option.{option_map_or}
use Rattle.std.proofs.Common.{ap, sym, ◌∙◌}
use Rattle.market_model.specs.declared.participants.Parts.{Parts}
use Rattle.market_model.specs.Changes.{with_demand, with_limit, with_need, with_price, with_quantity}
use Rattle.market_model.specs.Frame.{SameFrame}
use Rattle.market_model.specs.Dispatch.{place_of_bus}
use Rattle.offer_book.specs.declared.edit_parts.Edit.{Edit}
use Rattle.offer_book.specs.declared.edit_parts.Edit.TheVariants as edit
use Rattle.offer_book.specs.declared.edit_parts.EditFault.{EditFault}
use Rattle.offer_book.specs.declared.edit_parts.EditFault.TheVariants as fault
use Rattle.offer_book.specs.Edits.{judge, place_of_block, place_of_limit, step_of}
use Rattle.edit_table.specs.declared.Step.{Step}
use Rattle.edit_table.specs.declared.Step.TheVariants as step
use Rattle.edit_replay.specs.Replays.{stepped}

-- ---- edits of something else keep it
kept : (m : Parts) (changed : ℕ → Parts) → ((j : ℕ) → m.reserve.need ≡ (changed j).reserve.need) → (refused : Bool) (place : Option ℕ)
    → m.reserve.need ≡ (if refused then m else option_map_or changed place m).reserve.need
kept m changed each true place = refl
kept m changed each false None = refl
kept m changed each false (Some j) = each j

-- an edit of something else than the need
abbrev IsOther : Edit → Type 0
IsOther (edit.Price row side block price) = Unit {0}
IsOther (edit.Quantity row side block mw) = Unit {0}
IsOther (edit.Demand bus mw) = Unit {0}
IsOther (edit.Limit branch post mw) = Unit {0}
IsOther (edit.Need mw) = ⊥

other_keeps : (m : Parts) (e : Edit) → IsOther e → m.reserve.need ≡ (step_of m e).reserve.need
other_keeps m (edit.Price row side block price) other = kept m (λ j. with_price m j price) (λ j. refl) (is_some (judge m (edit.Price row side block price))) (place_of_block m row side block)
other_keeps m (edit.Quantity row side block mw) other = kept m (λ j. with_quantity m j mw) (λ j. refl) (is_some (judge m (edit.Quantity row side block mw))) (place_of_block m row side block)
other_keeps m (edit.Demand bus mw) other = kept m (λ i. with_demand m i mw) (λ i. refl) (is_some (judge m (edit.Demand bus mw))) (place_of_bus m.buses bus)
other_keeps m (edit.Limit branch post mw) other = kept m (λ l. with_limit m l post mw) (λ l. refl) (is_some (judge m (edit.Limit branch post mw))) (place_of_limit m branch post)
other_keeps m (edit.Need mw) none = absurd none

-- ---- an edit of the need
-- why it is refused
abbrev why : Bool → Bool → Option EditFault
why listed below = if listed then (if below then Some fault.Negative else None) else Some fault.NoReserve

-- ---- of markets of one frame
-- both list reserve or neither does
as_listed : (m n : Parts) → SameFrame m n → m.reserve.listed ≡ n.reserve.listed
as_listed m n same = ap (λ (p : Parts). p.reserve.listed) same

-- where they need as much they need as much after an edit and after a step
edit_needs : (m n : Parts) (e : Edit) → SameFrame m n → m.reserve.need ≡ n.reserve.need → (step_of m e).reserve.need ≡ (step_of n e).reserve.need
edit_needs m n (edit.Price row side block price) same needs = sym (other_keeps m (edit.Price row side block price) tt) ∙ needs ∙ other_keeps n (edit.Price row side block price) tt
edit_needs m n (edit.Quantity row side block mw) same needs = sym (other_keeps m (edit.Quantity row side block mw) tt) ∙ needs ∙ other_keeps n (edit.Quantity row side block mw) tt
edit_needs m n (edit.Demand bus mw) same needs = sym (other_keeps m (edit.Demand bus mw) tt) ∙ needs ∙ other_keeps n (edit.Demand bus mw) tt
edit_needs m n (edit.Limit branch post mw) same needs = sym (other_keeps m (edit.Limit branch post mw) tt) ∙ needs ∙ other_keeps n (edit.Limit branch post mw) tt
edit_needs m n (edit.Need mw) same needs = by m.reserve.listed n.reserve.listed (lt_z mw (pos 0)) (as_listed m n same)
  where
    by : (b c below : Bool) → b ≡ c → (if is_some (why b below) then m else with_need m mw).reserve.need ≡ (if is_some (why c below) then n else with_need n mw).reserve.need
    by true true true e = needs
    by true true false e = refl
    by false false below e = needs
    by true false below e = absurd Prim.cc
    by false true below e = absurd Prim.cc

pub step_needs : (m n : Parts) (s : Step) → SameFrame m n → m.reserve.need ≡ n.reserve.need → (stepped m s).reserve.need ≡ (stepped n s).reserve.need
step_needs m n (step.Edit e) same needs = edit_needs m n e same needs
step_needs m n step.Clear same needs = needs
