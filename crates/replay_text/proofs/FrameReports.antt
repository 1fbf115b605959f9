-- A report tells of its market only the need of reserve and what no edit changes.
use Rattle.std.specs.Prelude.{◌≡◌, ℕ, ◌+◌, ℤ, pos, Bool, List, [], ◌∷◌, ◌++◌, length, map, count_by, slice_index_or, refl}
use Rattle.std.specs.List.{flat_map}
use Rattle.std.proofs.Common.{zero, suc, ap, ap₂, sym, ◌∙◌}
use Rattle.std.proofs.lemmas.List.{length-map}
use mathlib.Core.Path.{fun_ext}
use Rattle.fraction_theory.specs.Fraction.{Fraction}
use Rattle.market_data.specs.Scales.{price_places}
use Rattle.market_data.specs.declared.participants.Bus.{Bus}
use Rattle.market_model.specs.declared.answered.Answer.{Answer}
use Rattle.market_model.specs.declared.answered.Outcome.TheVariants as outcome
use Rattle.market_model.specs.declared.participants.Block.{Block}
use Rattle.market_model.specs.declared.participants.Parts.{Parts}
use Rattle.market_model.specs.declared.participants.Side.TheVariants.{Sell}
use Rattle.market_model.specs.Dispatch.{places, bus_at, unit_at, block_at}
use Rattle.market_model.specs.Changes.{with_need}
use Rattle.market_model.specs.Frame.{block_frame, bus_frame, frame}
use Rattle.market_model.specs.RightAnswers.{mw_of, price_of, load_of}
use Rattle.report_text.specs.Reports.{alike, block_number, block_text, bus_text, load_text, head_text, infeasible_text, need_text, surplus_text, cleared_text, lines_of_blocks, lines_of_buses, lines_of_limits, lines_of_loads, lines_of_offers, lines_of_rooms, lines_of_units}
use Rattle.replay_text.specs.ReplayTextLaws.{LawOfReports}

mapped_at : {X Y : Type 0} (f : X → Y) (d : X) (e : Y) → f d ≡ e → (xs : List X) (i : ℕ) → slice_index_or (map f xs) i e ≡ f (slice_index_or xs i d)
mapped_at f d e h [] i = sym h
mapped_at f d e h (x ∷ xs) zero = refl
mapped_at f d e h (x ∷ xs) (suc i) = mapped_at f d e h xs i

module _ (m : Parts) where
  bus_framed : (i : ℕ) → bus_at (frame m) i ≡ bus_frame (bus_at m i)
  bus_framed i = mapped_at bus_frame (record { number = 0; pd = pos 0; gs = pos 0 }) (record { number = 0; pd = pos 0; gs = pos 0 }) refl m.buses i

  block_framed : (j : ℕ) → block_at (frame m) j ≡ block_frame (block_at m j)
  block_framed j = mapped_at block_frame (record { unit = 0; side = Sell; quantity = pos 0; price = pos 0 }) (record { unit = 0; side = Sell; quantity = pos 0; price = pos 0 }) refl m.blocks j

  bus_count : length (frame m).buses ≡ length m.buses
  bus_count = length-map m.buses bus_frame

  block_count : length (frame m).blocks ≡ length m.blocks
  block_count = length-map m.blocks block_frame

  number_framed : (need : ℤ) (j : ℕ) → block_number (with_need (frame m) need) j ≡ block_number (with_need m need) j
  unfolding block_number
  number_framed need j = ap (λ (p : ℕ → Bool). 1 + count_by p (places j)) (fun_ext (λ k. ap₂ alike (block_framed k) (block_framed j)))

  module _ (need : ℤ) (a : Answer Fraction) where
    abbrev framed : Parts
    framed = with_need (frame m) need

    abbrev given : Parts
    given = with_need m need

    buses_framed : lines_of_buses framed a ≡ lines_of_buses given a
    buses_framed = ap₂ (λ (f : ℕ → List ℕ) (n : ℕ). flat_map f (places n)) (fun_ext (λ i. ap (λ (b : Bus). bus_text b.number (price_of a i)) (bus_framed i))) bus_count

    loads_framed : lines_of_loads framed a ≡ lines_of_loads given a
    loads_framed = ap₂ (λ (f : ℕ → List ℕ) (n : ℕ). flat_map f (places n)) (fun_ext (λ i. ap (λ (b : Bus). load_text b.number (load_of a i)) (bus_framed i))) bus_count

    blocks_framed : lines_of_blocks framed a ≡ lines_of_blocks given a
    blocks_framed =
        ap₂ (λ (f : ℕ → List ℕ) (n : ℕ). flat_map f (places n))
        (fun_ext (λ j. ap₂ (λ (b : Block) (n : ℕ). block_text (unit_at m b.unit).row b.side n (mw_of a j)) (block_framed j) (number_framed need j))) block_count

    cleared_framed : cleared_text framed a ≡ cleared_text given a
    unfolding cleared_text
    cleared_framed =
        let head : List ℕ = head_text a.welfare a.duals.energy ++ need_text m.reserve.listed need a.duals.reserve in
        let duals : List ℕ = lines_of_limits a in
        let rooms : List ℕ = lines_of_rooms price_places a.duals.rooms in
        let units : List ℕ = lines_of_units given a in
        let offers : List ℕ = lines_of_offers given a in
        let last : List ℕ = surplus_text a.money.surplus in
        ap₂ (λ (bs ks : List ℕ). head ++ bs ++ ks ++ duals ++ rooms ++ units ++ offers ++ lines_of_loads framed a ++ last) buses_framed blocks_framed
        ∙ ap (λ (ls : List ℕ). head ++ lines_of_buses given a ++ lines_of_blocks given a ++ duals ++ rooms ++ units ++ offers ++ ls ++ last) loads_framed

pub law_of_reports : LawOfReports
law_of_reports m n need (outcome.Cleared a) same = sym (cleared_framed m need a) ∙ ap (λ (p : Parts). cleared_text (with_need p need) a) same ∙ cleared_framed n need a
law_of_reports m n need (outcome.Infeasible f) same = ap (λ (p : Parts). infeasible_text p.reserve.listed f) same
law_of_reports m n need (outcome.Range p) same = refl
