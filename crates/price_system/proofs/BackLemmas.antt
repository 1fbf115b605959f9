-- The duals of the point of proper duals are these.
use Rattle.std.specs.Prelude.{◌≡◌, ◌⊎◌, ℕ, Bool, true, false, List, [], ◌∷◌, ◌++◌, map, reverse, if◌then◌else◌, All, Contains, refl}
use Rattle.std.specs.List.{flat_map}
use Rattle.std.proofs.Common.{suc, arith, ap, ap₂, sym, ◌∙◌, subst, inl, inr}
use Rattle.std.proofs.lemmas.List.{reverse-reverse}
use Rattle.fraction_theory.specs.Fraction.{Fraction, neg_ℚ}
use Rattle.fraction_theory.specs.Order.{◌<ℚ◌}
use Rattle.fraction_theory.proofs.FieldLaws.{ring_ℚ}
use Rattle.fraction_theory.proofs.ListSums.{Contains-cons, Contains-head}
use Rattle.fraction_theory.proofs.Ring.{by_ring, at, pneg}
use Rattle.market_model.specs.declared.answered.Dual.{Dual}
use Rattle.market_model.specs.declared.answered.Duals.{Duals}
use Rattle.market_model.specs.declared.answered.RowId.{RowId}
use Rattle.market_model.specs.declared.limits.Row.{Row}
use Rattle.market_model.specs.declared.participants.Parts.{Parts}
use Rattle.market_model.specs.Dispatch.{Dispatch, zero as nil}
use Rattle.market_model.specs.LimitRows.{row_id, rows}
use Rattle.market_model.specs.Market.{IsMarket}
use Rattle.market_model.specs.Optimality.{IsOneSided, ProperDuals, Supports, down_in, down_of, room_price, same_id, up_in, up_of}
use Rattle.market_model.specs.Reserves.{reserve_units}
use Rattle.market_model.proofs.Excesses.{nil_or_above}
use Rattle.one_price.specs.FirstPrices.{limit_prices, other_prices, room_prices, two_prices, with_energy}
use Rattle.one_price.proofs.ListLemmas.{Contains-reverse}
use Rattle.one_price.proofs.NamedLemmas.{law_of_other_prices}
use Rattle.price_system.specs.Laws.{LawOfDuals, LawOfPoints}
use Rattle.price_system.specs.PriceSystem.{Caps, down_name, duals_of, point_of, room_name, up_name}
use Rattle.price_system.proofs.DualLemmas.{agrees-made, down-made, proper-made, room-made, up-made}
use Rattle.price_system.proofs.PointLaws.{point_agrees, point_bounds, point_meets, supported}

-- ---- plain lists
pub map-members : {X Y : Type 0} (f g : X → Y) (xs : List X) → ((x : X) → Contains xs x → f x ≡ g x) → map f xs ≡ map g xs
map-members f g [] same = refl
map-members f g (x ∷ xs) same = ap₂ ◌∷◌ (same x (Contains-head x xs)) (map-members f g xs (λ y c. same y (Contains-cons x xs y c)))

pub flat-members : {X Y : Type 0} (f g : X → List Y) (xs : List X) → ((x : X) → Contains xs x → f x ≡ g x) → flat_map f xs ≡ flat_map g xs
flat-members f g [] same = refl
flat-members f g (x ∷ xs) same = ap₂ ◌++◌ (same x (Contains-head x xs)) (flat-members f g xs (λ y c. same y (Contains-cons x xs y c)))

pub Contains-from_reverse : {X : Type 0} (xs : List X) (x : X) → Contains (reverse xs) x → Contains xs x
Contains-from_reverse {X} xs x c = subst (λ (ys : List X). Contains ys x) (reverse-reverse xs) (Contains-reverse (reverse xs) x c)

-- duals with one-sided limits name a limit with one price, or it has none
pub sided : (ds : List (Dual Fraction)) (id : RowId) → All IsOneSided ds
    → ((up_in ds id ≡ nil) × (down_in ds id ≡ nil)) ⊎ IsOneSided (record { row = id; up = up_in ds id; down = down_in ds id })
sided [] id all = inl (refl, refl)
sided (d ∷ ds) id all = by (same_id d.row id) (sided ds id (λ i e lt. all (suc i) e (Prim.omega (arith, lt))))
  where
    own : IsOneSided d
    own = all 0 d (Prim.omega arith)

    by : (b : Bool) → ((up_in ds id ≡ nil) × (down_in ds id ≡ nil)) ⊎ IsOneSided (record { row = id; up = up_in ds id; down = down_in ds id })
        → (((if b then d.up else up_in ds id) ≡ nil) × ((if b then d.down else down_in ds id) ≡ nil))
        ⊎ IsOneSided (record { row = id; up = if b then d.up else up_in ds id; down = if b then d.down else down_in ds id })
    by true more = inr (record { up = own.up; down = own.down; one = own.one })
    by false more = more

twice : (x : Fraction) → neg_ℚ (neg_ℚ x) ≡ x
twice x = by_ring ring_ℚ (x ∷ []) (pneg (pneg (at 0))) (at 0) refl

module _ (m : Parts) (x : Dispatch) (c : Caps) (d : Duals Fraction) (market : IsMarket m) (proper : ProperDuals m d) (holds : Supports m x d) where
  abbrev point : ℕ → Fraction
  point = point_of m d

  abbrev back : Duals Fraction
  back = duals_of m point

  -- what is read is the price
  read : (a b : Fraction) → a ≡ neg_ℚ b → neg_ℚ a ≡ b
  read a b e = ap neg_ℚ e ∙ twice b

  up_read : (r : Row) → Contains (rows m) r → neg_ℚ (point (up_name m r)) ≡ up_of m d r
  up_read r k = let agrees = point_agrees m x c market d in read (point (up_name m r)) (up_of m d r) (agrees.up r k)

  down_read : (r : Row) → Contains (rows m) r → neg_ℚ (point (down_name m r)) ≡ down_of m d r
  down_read r k = let agrees = point_agrees m x c market d in read (point (down_name m r)) (down_of m d r) (agrees.down r k)

  room_read : (u : ℕ) → Contains (reserve_units m) u → neg_ℚ (point (room_name m u)) ≡ room_price m d u
  room_read u k = let agrees = point_agrees m x c market d in read (point (room_name m u)) (room_price m d u) (agrees.room u k)

  reserve_read : back.reserve ≡ d.reserve
  reserve_read = twice d.reserve

  energy_read : back.energy ≡ d.energy
  energy_read = twice d.energy

  back_proper : ProperDuals m back
  back_proper = proper-made m market point limits rooms (λ e. reserve_read ∙ proper.energy_alone e)
    where
      limits : (r : Row) → Contains (rows m) r → ((neg_ℚ (point (up_name m r)) ≡ nil) × (neg_ℚ (point (down_name m r)) ≡ nil))
          ⊎ IsOneSided (record { row = row_id m r; up = neg_ℚ (point (up_name m r)); down = neg_ℚ (point (down_name m r)) })
      limits r k =
          subst (λ (a : Fraction). ((a ≡ nil) × (neg_ℚ (point (down_name m r)) ≡ nil)) ⊎ IsOneSided (record { row = row_id m r; up = a; down = neg_ℚ (point (down_name m r)) })) (sym (up_read r k))
          (subst (λ (a : Fraction). ((up_of m d r ≡ nil) × (a ≡ nil)) ⊎ IsOneSided (record { row = row_id m r; up = up_of m d r; down = a })) (sym (down_read r k))
          (sided d.limits (row_id m r) proper.one_sided))

      rooms : (u : ℕ) → Contains (reserve_units m) u → (neg_ℚ (point (room_name m u)) ≡ nil) ⊎ (nil <ℚ neg_ℚ (point (room_name m u)))
      rooms u k =
          let room = holds.rooms u k in
          subst (λ (a : Fraction). (a ≡ nil) ⊎ (nil <ℚ a)) (sym (room_read u k)) (nil_or_above (room_price m d u) room.sign)

  -- its prices are those of the duals
  same_rooms : room_prices m d ≡ room_prices m back
  same_rooms = map-members (room_price m d) (room_price m back) (reverse (reserve_units m))
      (λ u k. let l = Contains-from_reverse (reserve_units m) u k in sym (room-made m market point u l ∙ room_read u l))

  same_limits : limit_prices m d ≡ limit_prices m back
  same_limits = flat-members (two_prices m d) (two_prices m back) (reverse (rows m))
      (λ r k.
      let l = Contains-from_reverse (rows m) r k in
      ap₂ (λ (a b : Fraction). a ∷ b ∷ []) (sym (down-made m market point r l ∙ down_read r l)) (sym (up-made m market point r l ∙ up_read r l)))

  same_others : other_prices m d ≡ other_prices m back
  same_others = ap₂ ◌++◌ (ap₂ ◌++◌ same_rooms same_limits) (ap (λ (p : Fraction). p ∷ []) (sym reserve_read))

  pub is_back : back ≡ d
  is_back = law_of_other_prices m d back market proper back_proper same_others ∙ ap (with_energy d) energy_read

-- ---- the laws
pub law_of_points : LawOfPoints
law_of_points m x c v market meets bounds = supported m x c market v (duals_of m v) (agrees-made m market v) meets bounds

pub law_of_duals : LawOfDuals
law_of_duals m x c d market proper holds keeps = record {
  rows = point_meets m x c market d;
  bounds = point_bounds m x c market d proper holds keeps;
  back = is_back m x c d market proper holds;
}
