-- Tests that compute whether an answer with its numbers written out is right, and what they show.
use Rattle.std.specs.Prelude.{◌≡◌, ◌⊎◌, ℕ, ◌<◌, ◌==◌, ◌&&◌, ◌||◌, ℤ, pos, ◌*ℤ◌, ◌≤ℤ◌, ◌<ℤ◌, int_le, int_lt, Bool, true, false, List, [], ◌∷◌, length, map, All, Contains, refl}
use Rattle.std.specs.List.{list_all}
use Rattle.std.proofs.Common.{arith, inl, inr, sym, subst, ◌∙◌}
use Rattle.std.proofs.lemmas.Bool.{true≢false, eqb-true, and_parts, or_cases}
use Rattle.std.proofs.lemmas.Int.{ints}
use Rattle.std.proofs.lemmas.List.Elements.{All-cons, All-nil, All-contains}
use Rattle.fraction_theory.specs.Fraction.{Fraction, neg_ℚ, same_fraction}
use Rattle.fraction_theory.specs.Order.{◌≤ℚ◌, ◌<ℚ◌}
use Rattle.fraction_theory.proofs.OrderLaws.{<ℚ-not-≤ℚ}
use Rattle.market_model.specs.declared.answered.Answer.{Answer}
use Rattle.market_model.specs.declared.answered.Dual.{Dual}
use Rattle.market_model.specs.declared.answered.Duals.{Duals}
use Rattle.market_model.specs.declared.answered.Farkas.{Farkas}
use Rattle.market_model.specs.declared.answered.Load.{Load}
use Rattle.market_model.specs.declared.answered.Price.{Price}
use Rattle.market_model.specs.declared.answered.Rent.{Rent}
use Rattle.market_model.specs.declared.answered.ReservePay.{ReservePay}
use Rattle.market_model.specs.declared.answered.RoomDual.{RoomDual}
use Rattle.market_model.specs.declared.answered.RowId.{RowId}
use Rattle.market_model.specs.declared.answered.UnitPay.{UnitPay}
use Rattle.market_model.specs.declared.participants.Parts.{Parts}
use Rattle.market_model.specs.declared.participants.Side.{Side}
use Rattle.market_model.specs.declared.participants.Side.TheVariants.{Sell, Buy}
use Rattle.market_model.specs.Dispatch.{Dispatch, zero, places, block_at, offer_at, unit_at, accepted, quantity, reserved, reserve_quantity, balance}
use Rattle.market_model.specs.Infeasibility.{IsFarkas, farkas_bound}
use Rattle.market_model.specs.declared.limits.Row.{Row}
use Rattle.market_model.specs.LimitRows.{rows, row_id, limit, penalty, flow, most_flow}
use Rattle.market_model.specs.Optimality.{BlockSupported, Feasible, Gains, IsOneSided, Loses, OfferSupported, ProperDuals, RoomSupported, RowSupported, SideSupported, Supports, down_of, energy_worth, named_rooms, named_rows, price, reserve_worth, room_price, same_id, up_of}
use Rattle.market_model.specs.Reserves.{offer_places, reserve, reserve_need, offer_price, reserve_units, room, room_used}
use Rattle.market_model.specs.RightAnswers.{IsRight, answer_of, dispatch_in}
use Rattle.market_system.proofs.LawsOfSolving.{law_of_the_answer}
use Rattle.market_model.specs.Overrun.{Within}
use Rattle.market_model.proofs.RowMembers.{Contains-places}

-- ---- tests of numbers, and of two things at once
both : {s t : Bool} {P Q : Type 0} → (s ≡ true → P) → (t ≡ true → Q) → (s && t) ≡ true → P × Q
both {s} {t} p q e = let parts = and_parts s t e in (p parts.0, q parts.1)

either : {s t : Bool} {P Q : Type 0} → (s ≡ true → P) → (t ≡ true → Q) → (s || t) ≡ true → P ⊎ Q
either {s} {t} p q e = elim (or_cases s t e) [ inl h ↦ inl (p h) | inr h ↦ inr (q h) ]

int_le-true : (a b : ℤ) → int_le a b ≡ true → a ≤ℤ b
int_le-true a b e = Prim.grind (arith, ints)

int_lt-true : (a b : ℤ) → int_lt a b ≡ true → a <ℤ b
int_lt-true a b e = Prim.grind (arith, ints)

abbrev at_most : Fraction → Fraction → Bool
at_most x y = int_le (x.num *ℤ pos y.den) (y.num *ℤ pos x.den)

at_most-true : (x y : Fraction) → at_most x y ≡ true → x ≤ℚ y
at_most-true x y e = record { cross = int_le-true _ _ e }

not_below : (x y : Fraction) → at_most y x ≡ true → ¬ (x <ℚ y)
not_below x y e h = <ℚ-not-≤ℚ x y h (at_most-true y x e)

abbrev below : Fraction → Fraction → Bool
below x y = int_lt (x.num *ℤ pos y.den) (y.num *ℤ pos x.den)

below-true : (x y : Fraction) → below x y ≡ true → x <ℚ y
below-true x y e = record { cross = int_lt-true _ _ e }

abbrev same : Fraction → Fraction → Bool
same x y = (int_le x.num y.num && int_le y.num x.num) && (x.den == y.den)

same-true : (x y : Fraction) → same x y ≡ true → x ≡ y
same-true x y e =
    let parts = both (both (int_le-true x.num y.num) (int_le-true y.num x.num)) (eqb-true x.den y.den) e in
    same_fraction x y (Prim.omega (arith, ints, parts.0.0, parts.0.1)) parts.1

-- ---- lists
all_of : {X : Type 0} (test : X → Bool) (P : X → Type 0) → ((x : X) → test x ≡ true → P x) → (xs : List X) → list_all test xs ≡ true → All P xs
all_of test P means [] e = All-nil P
all_of test P means (x ∷ xs) e = let parts = both (means x) (all_of test P means xs) e in All-cons P x xs parts.0 parts.1

each_of : {X : Type 0} (test : X → Bool) (P : X → Type 0) → ((x : X) → test x ≡ true → P x) → (xs : List X) → list_all test xs ≡ true → (x : X) → Contains xs x → P x
each_of test P means xs e x c = All-contains P xs x (all_of test P means xs e) c

each_place : (test : ℕ → Bool) (P : ℕ → Type 0) → ((j : ℕ) → test j ≡ true → P j) → (n : ℕ) → list_all test (places n) ≡ true → (j : ℕ) → j < n → P j
each_place test P means n e j lt = each_of test P means (places n) e j (Contains-places n j lt)

abbrev same_list : {X : Type 0} → (X → X → Bool) → List X → List X → Bool
same_list test [] [] = true
same_list test [] (y ∷ ys) = false
same_list test (x ∷ xs) [] = false
same_list test (x ∷ xs) (y ∷ ys) = test x y && same_list test xs ys

same_list-true : {X : Type 0} (test : X → X → Bool) → ((x y : X) → test x y ≡ true → x ≡ y) → (xs ys : List X) → same_list test xs ys ≡ true → xs ≡ ys
same_list-true test means [] [] e = refl
same_list-true test means [] (y ∷ ys) e = absurd (true≢false (sym e))
same_list-true test means (x ∷ xs) [] e = absurd (true≢false (sym e))
same_list-true test means (x ∷ xs) (y ∷ ys) e = let parts = both (means x y) (same_list-true test means xs ys) e in λ i. parts.0 i ∷ parts.1 i

-- ---- feasible
abbrev is_accepted : Parts → Dispatch → ℕ → Bool
is_accepted m x j = at_most zero (accepted x j) && at_most (accepted x j) (quantity m j)

abbrev is_within : Parts → Dispatch → Row → Bool
is_within m x r = at_most (neg_ℚ (most_flow m r)) (flow m x r) && at_most (flow m x r) (most_flow m r)

is_within-true : (m : Parts) (x : Dispatch) (r : Row) → is_within m x r ≡ true → Within (most_flow m r) (flow m x r)
is_within-true m x r e =
    let parts = both (at_most-true (neg_ℚ (most_flow m r)) (flow m x r)) (at_most-true (flow m x r) (most_flow m r)) e in
    record { above = parts.0; below = parts.1 }

abbrev is_reserved : Parts → Dispatch → ℕ → Bool
is_reserved m x n = at_most zero (reserved x n) && at_most (reserved x n) (reserve_quantity m n)

abbrev has_room : Parts → Dispatch → ℕ → Bool
has_room m x u = at_most (room_used m x u) (room m u)

abbrev is_energy_feasible : Parts → Dispatch → Bool
is_energy_feasible m x =
    (length x.blocks == length m.blocks) && (list_all (is_accepted m x) (places (length m.blocks)) && (same (balance m x) zero && list_all (is_within m x) (rows m)))

abbrev is_reserve_feasible : Parts → Dispatch → Bool
is_reserve_feasible m x =
    (length x.reserve == length m.reserve.offers) && (list_all (is_reserved m x) (offer_places m) && (at_most (reserve_need m) (reserve m x) && list_all (has_room m x) (reserve_units m)))

abbrev pub is_feasible : Parts → Dispatch → Bool
is_feasible m x = is_energy_feasible m x && is_reserve_feasible m x

is_feasible-true : (m : Parts) (x : Dispatch) → is_feasible m x ≡ true → Feasible m x
is_feasible-true m x e =
    let bounds = λ (j : ℕ). both (at_most-true zero (accepted x j)) (at_most-true (accepted x j) (quantity m j)) in
    let blocks = each_place (is_accepted m x) (λ j. (zero ≤ℚ accepted x j) × (accepted x j ≤ℚ quantity m j)) bounds (length m.blocks) in
    let limits = each_of (is_within m x) (λ r. Within (most_flow m r) (flow m x r)) (is_within-true m x) (rows m) in
    let energy = both (eqb-true (length x.blocks) (length m.blocks)) (both blocks (both (same-true (balance m x) zero) limits)) in
    let reserve_bounds = λ (n : ℕ). both (at_most-true zero (reserved x n)) (at_most-true (reserved x n) (reserve_quantity m n)) in
    let offers = each_place (is_reserved m x) (λ n. (zero ≤ℚ reserved x n) × (reserved x n ≤ℚ reserve_quantity m n)) reserve_bounds (length m.reserve.offers) in
    let rooms = each_of (has_room m x) (λ u. room_used m x u ≤ℚ room m u) (λ u. at_most-true (room_used m x u) (room m u)) (reserve_units m) in
    let of_reserve = both (eqb-true (length x.reserve) (length m.reserve.offers)) (both offers (both (at_most-true (reserve_need m) (reserve m x)) rooms)) in
    let parts = both energy of_reserve e in
    record {
      blocks = record {
        count = parts.0.0;
        above = λ j lt. (parts.0.1.0 j lt).0;
        within = λ j lt. (parts.0.1.0 j lt).1;
        reserve_count = parts.1.0;
        reserve_above = λ n lt. (parts.1.1.0 n lt).0;
        reserve_within = λ n lt. (parts.1.1.0 n lt).1;
      };
      balanced = parts.0.1.1.0;
      limits = parts.0.1.1.1;
      need = parts.1.1.1.0;
      rooms = parts.1.1.1.1;
    }

-- ---- supported
-- either a number is the wanted one, or what asks for that is not so
same_or : (x y : Fraction) {t : Bool} {P : Type 0} → (t ≡ true → ¬ P) → (same x y || t) ≡ true → P → x ≡ y
same_or x y {t} refutes e p = elim (or_cases (same x y) t e) [ inl h ↦ same-true x y h | inr h ↦ absurd (refutes h p) ]

abbrev gains_not : Side → Fraction → Fraction → Bool
gains_not Sell price worth = at_most worth price
gains_not Buy price worth = at_most price worth

refutes_gain : (s : Side) (p w : Fraction) → gains_not s p w ≡ true → ¬ (Gains s p w)
refutes_gain Sell p w e h = not_below p w e h
refutes_gain Buy p w e h = not_below w p e h

abbrev loses_not : Side → Fraction → Fraction → Bool
loses_not Sell price worth = at_most price worth
loses_not Buy price worth = at_most worth price

refutes_loss : (s : Side) (p w : Fraction) → loses_not s p w ≡ true → ¬ (Loses s p w)
refutes_loss Sell p w e h = not_below w p e h
refutes_loss Buy p w e h = not_below p w e h

abbrev worth : Parts → Duals Fraction → ℕ → Fraction
worth m d j = energy_worth m d (block_at m j).unit

abbrev is_block_supported : Parts → Dispatch → Duals Fraction → ℕ → Bool
is_block_supported m x d j = (same (accepted x j) (quantity m j) || gains_not (block_at m j).side (price m j) (worth m d j))
    && (same (accepted x j) zero || loses_not (block_at m j).side (price m j) (worth m d j))

is_block_supported-true : (m : Parts) (x : Dispatch) (d : Duals Fraction) (j : ℕ) → is_block_supported m x d j ≡ true → BlockSupported m x d j
is_block_supported-true m x d j e =
    let full = same_or (accepted x j) (quantity m j) (refutes_gain (block_at m j).side (price m j) (worth m d j)) in
    let empty = same_or (accepted x j) zero (refutes_loss (block_at m j).side (price m j) (worth m d j)) in
    let parts = both full empty e in
    record { full = parts.0; empty = parts.1 }

abbrev has_prices : Fraction → Fraction → Bool
has_prices up down = at_most zero up && at_most zero down

has_prices-true : (up down : Fraction) → has_prices up down ≡ true → (zero ≤ℚ up) × (zero ≤ℚ down)
has_prices-true up down e = both (at_most-true zero up) (at_most-true zero down) e

-- either x is at most y, or what asks for that is not so
at_most_or : (x y : Fraction) {t : Bool} {P : Type 0} → (t ≡ true → ¬ P) → (at_most x y || t) ≡ true → P → x ≤ℚ y
at_most_or x y {t} refutes e p = elim (or_cases (at_most x y) t e) [ inl h ↦ at_most-true x y h | inr h ↦ absurd (refutes h p) ]

abbrev is_side_supported : Parts → Row → Fraction → Fraction → Bool
is_side_supported m r price f = at_most zero price
    && ((at_most (limit m r) f || at_most price zero) && ((at_most (penalty m r) price || at_most f (limit m r)) && (same f (most_flow m r) || at_most price (penalty m r))))

is_side_supported-true : (m : Parts) (r : Row) (price f : Fraction) → is_side_supported m r price f ≡ true → SideSupported m r price f
is_side_supported-true m r price f e =
    let reached = at_most_or (limit m r) f (not_below zero price) in
    let exceeded = at_most_or (penalty m r) price (not_below (limit m r) f) in
    let used_up = same_or f (most_flow m r) (not_below (penalty m r) price) in
    let parts = both (at_most-true zero price) (both reached (both exceeded used_up)) e in
    record { sign = parts.0; reached = parts.1.0; exceeded = parts.1.1.0; used_up = parts.1.1.1 }

abbrev is_row_supported : Parts → Dispatch → Duals Fraction → Row → Bool
is_row_supported m x d r = is_side_supported m r (up_of m d r) (flow m x r) && is_side_supported m r (down_of m d r) (neg_ℚ (flow m x r))

is_row_supported-true : (m : Parts) (x : Dispatch) (d : Duals Fraction) (r : Row) → is_row_supported m x d r ≡ true → RowSupported m x d r
is_row_supported-true m x d r e =
    let parts = both (is_side_supported-true m r (up_of m d r) (flow m x r)) (is_side_supported-true m r (down_of m d r) (neg_ℚ (flow m x r))) e in
    record { up = parts.0; down = parts.1 }

abbrev is_offer_supported : Parts → Dispatch → Duals Fraction → ℕ → Bool
is_offer_supported m x d n = (same (reserved x n) (reserve_quantity m n) || at_most (reserve_worth m d (offer_at m n).unit) (offer_price m n))
    && (same (reserved x n) zero || at_most (offer_price m n) (reserve_worth m d (offer_at m n).unit))

is_offer_supported-true : (m : Parts) (x : Dispatch) (d : Duals Fraction) (n : ℕ) → is_offer_supported m x d n ≡ true → OfferSupported m x d n
is_offer_supported-true m x d n e =
    let full = same_or (reserved x n) (reserve_quantity m n) (not_below (offer_price m n) (reserve_worth m d (offer_at m n).unit)) in
    let empty = same_or (reserved x n) zero (not_below (reserve_worth m d (offer_at m n).unit) (offer_price m n)) in
    let parts = both full empty e in
    record { full = parts.0; empty = parts.1 }

-- a price of at least 0, and above 0 only where two numbers are the same
abbrev binds_where : Fraction → Fraction → Fraction → Bool
binds_where price a b = at_most zero price && (same a b || at_most price zero)

binds_where-true : (price a b : Fraction) → binds_where price a b ≡ true → (zero ≤ℚ price) × (zero <ℚ price → a ≡ b)
binds_where-true price a b e = both (at_most-true zero price) (same_or a b (not_below zero price)) e

abbrev is_room_supported : Parts → Dispatch → Duals Fraction → ℕ → Bool
is_room_supported m x d u = binds_where (room_price m d u) (room_used m x u) (room m u)

is_room_supported-true : (m : Parts) (x : Dispatch) (d : Duals Fraction) (u : ℕ) → is_room_supported m x d u ≡ true → RoomSupported m x d u
is_room_supported-true m x d u e = let parts = binds_where-true (room_price m d u) (room_used m x u) (room m u) e in record { sign = parts.0; used_up = parts.1 }

abbrev pub is_supported : Parts → Dispatch → Duals Fraction → Bool
is_supported m x d = (list_all (is_block_supported m x d) (places (length m.blocks)) && list_all (is_row_supported m x d) (rows m))
    && (list_all (is_offer_supported m x d) (offer_places m) && (binds_where d.reserve (reserve m x) (reserve_need m) && list_all (is_room_supported m x d) (reserve_units m)))

is_supported-true : (m : Parts) (x : Dispatch) (d : Duals Fraction) → is_supported m x d ≡ true → Supports m x d
is_supported-true m x d e =
    let blocks = each_place (is_block_supported m x d) (BlockSupported m x d) (is_block_supported-true m x d) (length m.blocks) in
    let limits = each_of (is_row_supported m x d) (RowSupported m x d) (is_row_supported-true m x d) (rows m) in
    let offers = each_place (is_offer_supported m x d) (OfferSupported m x d) (is_offer_supported-true m x d) (length m.reserve.offers) in
    let rooms = each_of (is_room_supported m x d) (RoomSupported m x d) (is_room_supported-true m x d) (reserve_units m) in
    let parts = both (both blocks limits) (both offers (both (binds_where-true d.reserve (reserve m x) (reserve_need m)) rooms)) e in
    record {
      blocks = parts.0.0;
      rows = parts.0.1;
      offers = parts.1.0;
      need = record { sign = parts.1.1.0.0; met = parts.1.1.0.1 };
      rooms = parts.1.1.1;
    }

-- ---- proper duals
same_id-true : (a b : RowId) → same_id a b ≡ true → a ≡ b
same_id-true a b e =
    let parts = both (both (eqb-true a.branch b.branch) (eqb-true a.outage b.outage)) (eqb-true a.unit b.unit) e in
    λ i. record { branch = parts.0.0 i; outage = parts.0.1 i; unit = parts.1 i }

abbrev is_one_sided : Dual Fraction → Bool
is_one_sided d = has_prices d.up d.down && ((below zero d.up && same d.down zero) || (same d.up zero && below zero d.down))

is_one_sided-true : (d : Dual Fraction) → is_one_sided d ≡ true → IsOneSided d
is_one_sided-true d e =
    let up = both (below-true zero d.up) (same-true d.down zero) in
    let down = both (same-true d.up zero) (below-true zero d.down) in
    let parts = both (has_prices-true d.up d.down) (either up down) e in
    record { up = parts.0.0; down = parts.0.1; one = parts.1 }

-- a number is 0 where none is asked for
nil_unless : (asked : Bool) (x : Fraction) → (asked || same x zero) ≡ true → asked ≡ false → x ≡ zero
nil_unless asked x e none = elim (or_cases asked (same x zero) e) [ inl h ↦ absurd (true≢false (sym h ∙ none)) | inr h ↦ same-true x zero h ]

abbrev pub are_proper : Parts → Duals Fraction → Bool
are_proper m d = (same_list same_id (map (λ e. e.row) d.limits) (map (row_id m) (named_rows m d)) && list_all is_one_sided d.limits)
    && (same_list ◌==◌ (map (λ e. e.unit) d.rooms) (map (λ u. (unit_at m u).row) (named_rooms m d)) && (list_all (λ e. below zero e.price) d.rooms && (m.reserve.listed || same d.reserve zero)))

are_proper-true : (m : Parts) (d : Duals Fraction) → are_proper m d ≡ true → ProperDuals m d
are_proper-true m d e =
    let named = same_list-true same_id same_id-true (map (λ e. e.row) d.limits) (map (row_id m) (named_rows m d)) in
    let rooms = same_list-true ◌==◌ eqb-true (map (λ e. e.unit) d.rooms) (map (λ u. (unit_at m u).row) (named_rooms m d)) in
    let priced = all_of (λ (r : RoomDual Fraction). below zero r.price) (λ (r : RoomDual Fraction). zero <ℚ r.price) (λ r. below-true zero r.price) d.rooms in
    let parts = both (both named (all_of is_one_sided IsOneSided is_one_sided-true d.limits)) (both rooms (both priced (nil_unless m.reserve.listed d.reserve))) e in
    record { named = parts.0.0; one_sided = parts.0.1; rooms_named = parts.1.0; rooms_priced = parts.1.1.0; energy_alone = parts.1.1.1 }

-- ---- an answer
abbrev same_price : Price Fraction → Price Fraction → Bool
same_price a b = same a.energy b.energy && (same a.congestion b.congestion && same a.total b.total)

same_price-true : (a b : Price Fraction) → same_price a b ≡ true → a ≡ b
same_price-true a b e =
    let parts = both (same-true a.energy b.energy) (both (same-true a.congestion b.congestion) (same-true a.total b.total)) e in
    λ i. record { energy = parts.0 i; congestion = parts.1.0 i; total = parts.1.1 i }

abbrev same_pay : UnitPay Fraction → UnitPay Fraction → Bool
same_pay a b = same a.mw b.mw && same a.paid b.paid

same_pay-true : (a b : UnitPay Fraction) → same_pay a b ≡ true → a ≡ b
same_pay-true a b e = let parts = both (same-true a.mw b.mw) (same-true a.paid b.paid) e in λ i. record { mw = parts.0 i; paid = parts.1 i }

abbrev same_reserve_pay : ReservePay Fraction → ReservePay Fraction → Bool
same_reserve_pay a b = same a.mw b.mw && same a.paid b.paid

same_reserve_pay-true : (a b : ReservePay Fraction) → same_reserve_pay a b ≡ true → a ≡ b
same_reserve_pay-true a b e = let parts = both (same-true a.mw b.mw) (same-true a.paid b.paid) e in λ i. record { mw = parts.0 i; paid = parts.1 i }

abbrev same_load : Load Fraction → Load Fraction → Bool
same_load a b = same a.mw b.mw && same a.pays b.pays

same_load-true : (a b : Load Fraction) → same_load a b ≡ true → a ≡ b
same_load-true a b e = let parts = both (same-true a.mw b.mw) (same-true a.pays b.pays) e in λ i. record { mw = parts.0 i; pays = parts.1 i }

abbrev same_rent : Rent Fraction → Rent Fraction → Bool
same_rent a b = same_id a.row b.row && (same a.flow b.flow && (same a.over b.over && same a.rent b.rent))

same_rent-true : (a b : Rent Fraction) → same_rent a b ≡ true → a ≡ b
same_rent-true a b e =
    let parts = both (same_id-true a.row b.row) (both (same-true a.flow b.flow) (both (same-true a.over b.over) (same-true a.rent b.rent))) e in
    λ i. record { row = parts.0 i; flow = parts.1.0 i; over = parts.1.1.0 i; rent = parts.1.1.1 i }

-- prices, welfare and settlement are the same
abbrev pub same_money : Answer Fraction → Answer Fraction → Bool
same_money a b = same_list same_price a.prices b.prices && (same a.welfare b.welfare && (same_list same_pay a.money.units b.money.units
    && (same_list same a.money.own b.money.own && (same_list same_load a.money.loads b.money.loads && (same_list same_rent a.money.rents b.money.rents
    && (same a.money.surplus b.money.surplus && same_list same_reserve_pay a.money.reserve b.money.reserve))))))

-- an answer with the prices, the welfare and the settlement that its dispatch and duals make
abbrev pub made_of : Parts → Answer Fraction → Answer Fraction
made_of m a = answer_of m (dispatch_in a) a.duals

same_money-true : (m : Parts) (a : Answer Fraction) → same_money (made_of m a) a ≡ true → made_of m a ≡ a
same_money-true m a e =
    let b = made_of m a in
    let prices = same_list-true same_price same_price-true b.prices a.prices in
    let units = same_list-true same_pay same_pay-true b.money.units a.money.units in
    let own = same_list-true same same-true b.money.own a.money.own in
    let loads = same_list-true same_load same_load-true b.money.loads a.money.loads in
    let rents = same_list-true same_rent same_rent-true b.money.rents a.money.rents in
    let reserve_pays = same_list-true same_reserve_pay same_reserve_pay-true b.money.reserve a.money.reserve in
    let settled = both units (both own (both loads (both rents (both (same-true b.money.surplus a.money.surplus) reserve_pays)))) in
    let parts = both prices (both (same-true b.welfare a.welfare) settled) e in
    λ i. record {
      dispatch = a.dispatch;
      reserve = a.reserve;
      duals = a.duals;
      prices = parts.0 i;
      welfare = parts.1.0 i;
      money = record {
        units = parts.1.1.0 i;
        own = parts.1.1.1.0 i;
        loads = parts.1.1.1.1.0 i;
        rents = parts.1.1.1.1.1.0 i;
        surplus = parts.1.1.1.1.1.1.0 i;
        reserve = parts.1.1.1.1.1.1.1 i;
      };
    }

-- an answer that passes all of these is right
pub right_by : (m : Parts) (a : Answer Fraction) → is_feasible m (dispatch_in a) ≡ true → is_supported m (dispatch_in a) a.duals ≡ true
    → are_proper m a.duals ≡ true → same_money (made_of m a) a ≡ true → IsRight m a
right_by m a feasible supported proper money =
    let x = dispatch_in a in
    let law = law_of_the_answer m x a.duals (is_feasible-true m x feasible) (is_supported-true m x a.duals supported) (are_proper-true m a.duals proper) in
    subst (IsRight m) (same_money-true m a money) law

-- ---- duals that show that nothing is feasible
abbrev has_prices_at : Parts → Duals Fraction → Row → Bool
has_prices_at m d r = has_prices (up_of m d r) (down_of m d r)

abbrev has_room_price : Parts → Duals Fraction → ℕ → Bool
has_room_price m d u = at_most zero (room_price m d u)

abbrev pub shows_infeasible : Parts → Farkas Fraction → Bool
shows_infeasible m f =
    list_all (has_prices_at m f.duals) (rows m) && (at_most zero f.duals.reserve && (list_all (has_room_price m f.duals) (reserve_units m) && (below f.bound zero && same f.bound (farkas_bound m f.duals))))

-- duals with a bound that pass both tests show it
pub infeasible_by : (m : Parts) (f : Farkas Fraction) → shows_infeasible m f ≡ true → are_proper m f.duals ≡ true → IsFarkas m f
infeasible_by m f shows proper =
    let d = f.duals in
    let signs = each_of (has_prices_at m d) (λ r. (zero ≤ℚ up_of m d r) × (zero ≤ℚ down_of m d r)) (λ r. has_prices-true (up_of m d r) (down_of m d r)) (rows m) in
    let rooms = each_of (has_room_price m d) (λ u. zero ≤ℚ room_price m d u) (λ u. at_most-true zero (room_price m d u)) (reserve_units m) in
    let parts = both signs (both (at_most-true zero d.reserve) (both rooms (both (below-true f.bound zero) (same-true f.bound (farkas_bound m d))))) shows in
    record {
      shows = record {
        up_signs = λ r c. (parts.0 r c).0;
        down_signs = λ r c. (parts.0 r c).1;
        need_sign = parts.1.0;
        room_signs = parts.1.1.0;
        below = subst (λ t. t <ℚ zero) parts.1.1.1.1 parts.1.1.1.0;
      };
      proper = are_proper-true m d proper;
      bound = parts.1.1.1.1;
    }
