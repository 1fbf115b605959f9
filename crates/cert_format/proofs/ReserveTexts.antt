-- What is written of reserve is read as it.
use Rattle.std.specs.Prelude.{◌≡◌, ℕ, ◌<◌, ◌≤◌, ◌^◌, List, [], ◌∷◌, map, codes, false, All, Some}
use Rattle.std.proofs.Common.{suc, arith, refl}
use Rattle.std.proofs.lemmas.Bool.{lt-ltb}
use Rattle.fraction_theory.specs.Fraction.{Fraction}
use Rattle.market_model.specs.declared.answered.RoomDual.{RoomDual}
use Rattle.json.specs.Tree as tree
use Rattle.serde_json.specs.Read.{of_items, of_json}
use Rattle.serde_json.specs.View.{items_of}
use Rattle.serde_json.specs.Written.{has_float, items_have_float, items_outline, outline}
use Rattle.serde_json.proofs.Numbers.{number_of-decimal}
use Rattle.serde_json.proofs.OnLiterals.{serde_json_on_literals}
use Rattle.cert_format.specs.declared.certificate.ClearedReserve.{ClearedReserve}
use Rattle.cert_format.specs.declared.certificate.ReserveDuals.{ReserveDuals}
use Rattle.cert_format.specs.Certificates.{ClearedReserveFits, ReserveDualsFit, RoomFits}
use Rattle.cert_format.specs.Grammar.{cleared_reserve_in, each, reserve_duals_in, room_dual_in}
use Rattle.cert_format.specs.Written.{cleared_reserve_data, reserve_duals_data, room_data}
use Rattle.cert_format.proofs.NumberTexts.{float-fractions, flat-fractions, fraction-back, fractions-again, fractions-back, key_utf8, plain-fractions}
use Rattle.cert_format.proofs.TextLemmas.{IsPlain, ItemsArePlain, utf8-parts_text}

abbrev Rooms : Type 0
Rooms = List (RoomDual Fraction)

-- units have 32 bits
abbrev pub UnitsFit : {N : Type 0} → List (RoomDual N) → Type 0
UnitsFit rooms = All (λ d. d.unit < 2 ^ 32) rooms

-- ---- it has no floats, and texts in UTF-8
plain-rooms : (ds : Rooms) → UnitsFit ds → ItemsArePlain (items_of (map room_data ds))
plain-rooms [] h = tt
plain-rooms (d ∷ ds) h =
    let unit = h 0 d (omega arith) in
    ((key_utf8 (codes "dual") refl, utf8-parts_text d.price, (key_utf8 (codes "unit") refl, omega (arith, unit), tt)), plain-rooms ds (λ k x lt. h (suc k) x (omega (arith, lt))))

pub plain-duals : (d : ReserveDuals Fraction) → UnitsFit d.rooms → IsPlain (reserve_duals_data d)
plain-duals d h = (key_utf8 (codes "price") refl, utf8-parts_text d.price, (key_utf8 (codes "units") refl, plain-rooms d.rooms h, tt))

pub plain-cleared : (r : ClearedReserve Fraction) → UnitsFit r.duals.rooms → IsPlain (cleared_reserve_data r)
plain-cleared r h = (
  key_utf8 (codes "price") refl,
  utf8-parts_text r.duals.price,
  (
    key_utf8 (codes "quantities") refl,
    plain-fractions r.quantities,
    (key_utf8 (codes "units") refl, plain-rooms r.duals.rooms h, tt),
  ),
)

float-rooms : (ds : Rooms) → items_have_float (items_of (map room_data ds)) ≡ false
float-rooms [] = refl
float-rooms (d ∷ ds) = float-rooms ds

pub float-duals : (d : ReserveDuals Fraction) → has_float (reserve_duals_data d) ≡ false
float-duals d = rw (float-rooms d.rooms) refl

pub float-cleared : (r : ClearedReserve Fraction) → has_float (cleared_reserve_data r) ≡ false
float-cleared r = rw (float-fractions r.quantities, float-rooms r.duals.rooms) refl

-- ---- nests three deep at most
flat-rooms : (ds : Rooms) → tree.items_depth (items_outline (items_of (map room_data ds))) ≤ 1
flat-rooms [] = omega arith
flat-rooms (d ∷ ds) = let h = flat-rooms ds in omega (arith, h)

pub flat-duals : (d : ReserveDuals Fraction) → tree.depth (outline (reserve_duals_data d)) ≤ 3
flat-duals d = let h = flat-rooms d.rooms in omega (arith, h)

pub flat-cleared : (r : ClearedReserve Fraction) → tree.depth (outline (cleared_reserve_data r)) ≤ 3
flat-cleared r = let h = flat-fractions r.quantities in let k = flat-rooms r.duals.rooms in omega (arith, h, k)

-- ---- and is read as the value that was written
room-again : (d : RoomDual Fraction) → d.unit < 2 ^ 32 → of_json (outline (room_data d)) ≡ Some (room_data d)
unfolding serde_json_on_literals
room-again d u = rw (number_of-decimal d.unit (omega (arith, u))) refl

rooms-again : (ds : Rooms) → UnitsFit ds → of_items (items_outline (items_of (map room_data ds))) ≡ Some (items_of (map room_data ds))
rooms-again [] h = refl
rooms-again (d ∷ ds) h = rw (room-again d (h 0 d (omega arith)), rooms-again ds (λ k x lt. h (suc k) x (omega (arith, lt)))) refl

pub duals-again : (d : ReserveDuals Fraction) → UnitsFit d.rooms → of_json (outline (reserve_duals_data d)) ≡ Some (reserve_duals_data d)
unfolding serde_json_on_literals
duals-again d h = rw (rooms-again d.rooms h) refl

pub cleared-again : (r : ClearedReserve Fraction) → UnitsFit r.duals.rooms → of_json (outline (cleared_reserve_data r)) ≡ Some (cleared_reserve_data r)
unfolding serde_json_on_literals
cleared-again r h = rw (fractions-again r.quantities, rooms-again r.duals.rooms h) refl

module _ (most : ℕ) where
  -- ---- which is in the grammar
  room-back : (d : RoomDual Fraction) → RoomFits most d → room_dual_in most (room_data d) ≡ Some d
  unfolding serde_json_on_literals room_dual_in
  room-back d h = rw (fraction-back most d.price h.price, lt-ltb _ _ h.unit) refl

  rooms-back : (ds : Rooms) → All (RoomFits most) ds → each (room_dual_in most) (items_of (map room_data ds)) ≡ Some ds
  unfolding each
  rooms-back [] h = refl
  rooms-back (d ∷ ds) h = rw (room-back d (h 0 d (omega arith)), rooms-back ds (λ k x lt. h (suc k) x (omega (arith, lt)))) refl

  pub duals-back : (d : ReserveDuals Fraction) → ReserveDualsFit most d → reserve_duals_in 2 most (reserve_duals_data d) ≡ Some d
  unfolding serde_json_on_literals reserve_duals_in
  duals-back d h = rw (fraction-back most d.price h.price, rooms-back d.rooms h.rooms) refl

  pub cleared-back : (r : ClearedReserve Fraction) → ClearedReserveFits most r → cleared_reserve_in most (cleared_reserve_data r) ≡ Some r
  unfolding serde_json_on_literals cleared_reserve_in reserve_duals_in
  cleared-back r h = rw (fractions-back most r.quantities h.quantities, fraction-back most r.duals.price h.duals.price, rooms-back r.duals.rooms h.duals.rooms) refl
