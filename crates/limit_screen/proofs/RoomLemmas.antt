-- What units use of their rooms, part by part, and the worst of some units, with one more.
use Rattle.std.specs.Prelude.{◌≡◌, ◌⊎◌, ℕ, ◌+◌, ◌<◌, ◌≤◌, Bool, true, false, length, Option, Some, None, Contains}
use Rattle.std.proofs.Common.{arith, inl, inr, subst}
use Rattle.std.proofs.lemmas.Bool.{cases_lt}
use Rattle.fraction_theory.specs.Fraction.{Fraction}
use Rattle.fraction_theory.specs.Order.{◌<ℚ◌, ◌≤ℚ◌}
use Rattle.fraction_theory.proofs.OrderLaws.{<ℚ-≤ℚ, ≤ℚ_refl, ≤ℚ-<ℚ_trans}
use Rattle.market_model.specs.declared.participants.Parts.{Parts}
use Rattle.market_model.specs.Dispatch.{Dispatch, zero}
use Rattle.market_model.specs.Reserves.{offers_reserve, reserve_units, room, room_used}
use Rattle.market_model.proofs.RoomLemmas.{listed-inside, listed-offers}
use Rattle.limit_screen.specs.Rooms.{AllKeepRooms, IsWorstRoom, IsWorstRoomBefore, IsWorstRoomTo, room_overrun}
use Rattle.limit_screen.specs.declared.sharing.RoomOverrun.{RoomOverrun}
use Rattle.limit_screen.proofs.ScreenLemmas.{above_nil, below_nil}

-- ---- units that offer reserve
clash : (b : Bool) → b ≡ false → b ≡ true → ⊥
clash true e f = absurd Prim.cc
clash false e f = absurd Prim.cc

pub not-listed : (m : Parts) (u : ℕ) → offers_reserve m u ≡ false → ¬ (Contains (reserve_units m) u)
not-listed m u none c = clash (offers_reserve m u) none (listed-offers m u c)

-- ---- the worst, with one unit more
module _ {N : Type 0} (value : N → Fraction) (m : Parts) (x : Dispatch) (u : ℕ) where
  before_or_here : (P : ℕ → Type 0) → ((v : ℕ) → v < u → P v) → P u → (v : ℕ) → v < u + 1 → P v
  before_or_here P before here v lt = by (cases_lt v u)
    where
      by : (v < u) ⊎ (u ≤ v) → P v
      by (inl less) = before v less
      by (inr more) = let same : u ≡ v = Prim.omega (arith, lt, more) in subst P same here

  -- a unit that keeps its room, or offers none
  pub still_worst : (worst : Option (RoomOverrun N)) → (Contains (reserve_units m) u → room_used m x u ≤ℚ room m u) → IsWorstRoomTo value m x u worst → IsWorstRoomTo value m x (u + 1) worst
  still_worst None keeps none = before_or_here (λ v. Contains (reserve_units m) v → room_used m x v ≤ℚ room m v) none keeps
  still_worst (Some b) keeps (h, is) = (
    record {
      before = Prim.omega (arith, h.before);
      offers = h.offers;
      passed = h.passed;
      most =
          before_or_here (λ v. Contains (reserve_units m) v → room_overrun m x v ≤ℚ room_overrun m x b.unit) h.most
          (λ c. <ℚ-≤ℚ (room_overrun m x u) (room_overrun m x b.unit) (≤ℚ-<ℚ_trans (room_overrun m x u) zero (room_overrun m x b.unit) (below_nil (room_used m x u) (room m u) (keeps c)) (above_nil (room_used m x b.unit) (room m b.unit) h.passed)));
      first = h.first;
    },
    is,
  )

  -- a unit that passes its room by no more
  pub old_worst_room : (b : RoomOverrun N) → room_overrun m x u ≤ℚ room_overrun m x b.unit → IsWorstRoomBefore m x u b.unit → IsWorstRoomBefore m x (u + 1) b.unit
  old_worst_room b less h = record {
    before = Prim.omega (arith, h.before);
    offers = h.offers;
    passed = h.passed;
    most = before_or_here (λ v. Contains (reserve_units m) v → room_overrun m x v ≤ℚ room_overrun m x b.unit) h.most (λ c. less);
    first = h.first;
  }

  -- and one that is the worst now
  module _ (offers : Contains (reserve_units m) u) (passed : room m u <ℚ room_used m x u) where
    new_worst_room : ((v : ℕ) → v < u → Contains (reserve_units m) v → room_overrun m x v <ℚ room_overrun m x u) → IsWorstRoomBefore m x (u + 1) u
    new_worst_room more = record {
      before = Prim.omega arith;
      offers = offers;
      passed = passed;
      most =
          before_or_here (λ v. Contains (reserve_units m) v → room_overrun m x v ≤ℚ room_overrun m x u) (λ v lt c. <ℚ-≤ℚ (room_overrun m x v) (room_overrun m x u) (more v lt c))
          (λ c. ≤ℚ_refl (room_overrun m x u));
      first = more;
    }

    pub worse_than_old_room : (b : RoomOverrun N) → IsWorstRoomBefore m x u b.unit → room_overrun m x b.unit <ℚ room_overrun m x u → IsWorstRoomBefore m x (u + 1) u
    worse_than_old_room b h more = new_worst_room (λ v lt c. ≤ℚ-<ℚ_trans (room_overrun m x v) (room_overrun m x b.unit) (room_overrun m x u) (h.most v lt c) more)

    pub first_worst_room : ((v : ℕ) → v < u → Contains (reserve_units m) v → room_used m x v ≤ℚ room m v) → IsWorstRoomBefore m x (u + 1) u
    first_worst_room none =
        new_worst_room
        (λ v lt c. ≤ℚ-<ℚ_trans (room_overrun m x v) zero (room_overrun m x u) (below_nil (room_used m x v) (room m v) (none v lt c)) (above_nil (room_used m x u) (room m u) passed))

-- ---- all units
module _ (m : Parts) (x : Dispatch) (place : ℕ) (all : length m.units ≤ place) where
  pub keep_rooms : ((v : ℕ) → v < place → Contains (reserve_units m) v → room_used m x v ≤ℚ room m v) → AllKeepRooms m x
  keep_rooms none u c = let lt = listed-inside m u c in none u (Prim.omega (arith, lt, all)) c

  pub worst_of_all : (u : ℕ) → IsWorstRoomBefore m x place u → IsWorstRoom m x u
  worst_of_all u h = record {
    before = listed-inside m u h.offers;
    offers = h.offers;
    passed = h.passed;
    most = λ v lt c. h.most v (Prim.omega (arith, lt, all)) c;
    first = h.first;
  }
