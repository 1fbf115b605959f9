-- Duals and prices that name no limit and no room.
use Rattle.std.specs.Prelude.{◌≡◌, Bool, true, false, filter, map, refl, pos, List, [], ◌∷◌}
use Rattle.std.proofs.Common.{ap, sym}
use Rattle.std.proofs.lemmas.List.Elements.{All-nil}
use Rattle.fraction_theory.specs.Fraction.{Fraction, whole}
use Rattle.fraction_theory.specs.Order.{◌<ℚ◌}
use Rattle.market_model.specs.declared.answered.Duals.{Duals}
use Rattle.market_model.specs.declared.answered.RoomDual.{RoomDual}
use Rattle.market_model.specs.declared.participants.Parts.{Parts}
use Rattle.market_model.specs.Dispatch.{unit_at}
use Rattle.market_model.specs.LimitRows.{row_id, rows}
use Rattle.market_model.specs.Optimality.{IsOneSided, ProperDuals, named_rooms, named_rows}
use Rattle.market_model.specs.Reserves.{reserve_units}
use Rattle.market_model.specs.Valued.{energy_duals}

none_kept : {X : Type 0} (xs : List X) → filter (λ x. false) xs ≡ []
none_kept [] = refl
none_kept (x ∷ xs) = none_kept xs

clash : (b : Bool) → b ≡ true → b ≡ false → ⊥
clash true e f = absurd Prim.cc
clash false e f = absurd Prim.cc

pub proper_unlimited : (m : Parts) (energy reserve : Fraction) → m.reserve.listed ≡ true → ProperDuals m (record { energy = energy; limits = []; reserve = reserve; rooms = [] })
proper_unlimited m energy reserve listed = record {
  named = sym (ap (map (row_id m)) (none_kept (rows m)));
  one_sided = All-nil IsOneSided;
  rooms_named = sym (ap (map (λ u. (unit_at m u).row)) (none_kept (reserve_units m)));
  rooms_priced = All-nil (λ (e : RoomDual Fraction). whole (pos 0) <ℚ e.price);
  energy_alone = λ none. absurd (clash m.reserve.listed listed none);
}

abbrev pub unpriced : Duals Fraction
unpriced = energy_duals (whole (pos 0)) []

pub nothing_named : (m : Parts) → named_rows m unpriced ≡ []
nothing_named m = none_kept (rows m)

pub no_room_named : (m : Parts) → named_rooms m unpriced ≡ []
no_room_named m = none_kept (reserve_units m)
