-- Equal reports of cleared markets are of equal answers, and what comes after them is then the same.
use Rattle.std.specs.Prelude.{◌≡◌, ◌≢◌, ◌⊎◌, ◌==◌, ℕ, ◌+◌, ◌<◌, AllPairs, List, [], ◌∷◌, ◌++◌, true, false, length, map, codes, decimal, slice_index_or, Option, Some, None, refl}
use Rattle.std.specs.List.{AllByRecursion, flat_map, range_with_len, zip}
use Rattle.std.specs.Map.{lookup}
use Rattle.std.proofs.Common.{zero, suc, arith, ap, sym, ◌∙◌, subst, append_assoc, get_or, inl, inr}
use Rattle.std.proofs.lemmas.Bool.{eq-eqb, eqb-true, false_from_ne_true}
use Rattle.std.proofs.lemmas.List.{append_cancel_left, ext_get_or}
use Rattle.std.proofs.lemmas.Map.Entries.{lookup_head, lookup_tail}
use Rattle.std.proofs.lemmas.Option.{same_Some}
use Rattle.fraction_theory.specs.Fraction.{Fraction}
use Rattle.exact_fraction.specs.Written.{written}
use Rattle.market_data.specs.Scales.{money_places, mw_places, price_places}
use Rattle.market_model.specs.declared.participants.Side.{Side}
use Rattle.market_model.specs.declared.participants.Parts.{Parts}
use Rattle.market_model.specs.declared.answered.Price.{Price}
use Rattle.market_model.specs.declared.answered.UnitPay.{UnitPay}
use Rattle.market_model.specs.declared.answered.ReservePay.{ReservePay}
use Rattle.market_model.specs.declared.answered.Load.{Load}
use Rattle.market_model.specs.declared.answered.Duals.{Duals}
use Rattle.market_model.specs.declared.answered.Money.{Money}
use Rattle.market_model.specs.declared.answered.Answer.{Answer}
use Rattle.market_model.specs.Dispatch.{zero as none, places, bus_at, unit_at, block_at, offer_at}
use Rattle.market_model.specs.LimitRows.{lost_unit}
use Rattle.market_model.specs.Optimality.{unit_price}
use Rattle.market_model.specs.Reserves.{offer_places}
use Rattle.market_model.specs.RightAnswers.{mw_of, price_of, pay_of, load_of}
use Rattle.report_text.specs.Reports.{side_text, block_number, head_text, bus_text, block_text, own_of, own_text, unit_text, load_text, surplus_text, need_text, reserve_pay_of, bus_line_at, block_line_at, unit_line_at, offer_line_at, load_line_at, lines_of_buses, lines_of_blocks, lines_of_limits, lines_of_rooms, lines_of_units, lines_of_offers, lines_of_loads, cleared_text}
use Rattle.report_text.specs.ReportLaws.{FitsReport, LosesUnitsOnce, MakesOwnPrices}
use Rattle.report_text.proofs.Amounts.{amount_apart, amount_ends, head_of, named_apart, one_apart, two_apart}
use Rattle.report_text.proofs.LimitReading.{rents_apart}
use Rattle.report_text.proofs.ReserveReading.{EndsDuals, needs_apart, offer_apart, offer_ends, rooms_apart, rooms_follow}

head_apart : (w x e f : Fraction) (us vs : List ℕ) → head_text w e ++ us ≡ head_text x f ++ vs → (w ≡ x) × (e ≡ f) × (us ≡ vs)
unfolding head_text
head_apart w x e f us vs h = two_apart (codes "cleared\nwelfare ") money_places price_places 10 (codes "energy ") w x e f us vs (Prim.omega arith) h

record SamePrice (p q : Price Fraction) : Type 0 where
  total : p.total ≡ q.total
  congestion : p.congestion ≡ q.congestion

bus_apart : (n : ℕ) (p q : Price Fraction) (us vs : List ℕ) → bus_text n p ++ us ≡ bus_text n q ++ vs → SamePrice p q × (us ≡ vs)
unfolding bus_text
bus_apart n p q us vs h =
    let t = two_apart (codes "bus " ++ decimal n ++ codes " price ") price_places price_places 32 (codes "congestion ") p.total q.total p.congestion q.congestion us vs (Prim.omega arith) h in
    (record { total = t.0; congestion = t.1 }, t.2)

block_apart : (row : ℕ) (side : Side) (n : ℕ) (x y : Fraction) (us vs : List ℕ) → block_text row side n x ++ us ≡ block_text row side n y ++ vs → (x ≡ y) × (us ≡ vs)
unfolding block_text
block_apart row side n x y us vs h = one_apart (codes "block " ++ decimal row ++ side_text side ++ decimal n ++ codes " mw ") mw_places x y us vs h

same_pay : (p q : UnitPay Fraction) → p.mw ≡ q.mw → p.paid ≡ q.paid → p ≡ q
same_pay p q e f =
    let make : Fraction → Fraction → UnitPay Fraction = λ v w. record { mw = v; paid = w } in
    ap (λ v. make v p.paid) e ∙ ap (make q.mw) f

-- what stands behind what a unit is paid: its own price, or at once the end of the line
abbrev own_behind : Option Fraction → List ℕ → List ℕ
own_behind None ts = 10 ∷ ts
own_behind (Some own) ts = 32 ∷ (codes "own " ++ (written price_places own ++ 10 ∷ ts))

own_first : (own : Option Fraction) (ts : List ℕ) → own_text own ++ 10 ∷ ts ≡ own_behind own ts
own_first None ts = refl
own_first (Some own) ts = append_assoc (codes " own ") (written price_places own) (10 ∷ ts)

owns_apart : (k : ℕ) (x y : Fraction) (s t : Option Fraction) (us vs : List ℕ) → written k x ++ own_behind s us ≡ written k y ++ own_behind t vs → (x ≡ y) × (s ≡ t) × (us ≡ vs)
owns_apart k x y None None us vs e = let t = amount_apart k 10 x y us vs (Prim.omega arith) e in (t.0, refl, t.1)
owns_apart k x y None (Some w) us vs e = let t = amount_ends k 10 32 x y us _ (Prim.omega arith) (Prim.omega arith) e in absurd (Prim.omega (arith, head_of 10 32 _ _ t.1))
owns_apart k x y (Some v) None us vs e = let t = amount_ends k 32 10 x y _ vs (Prim.omega arith) (Prim.omega arith) e in absurd (Prim.omega (arith, head_of 32 10 _ _ t.1))
owns_apart k x y (Some v) (Some w) us vs e =
    let first = amount_apart k 32 x y _ _ (Prim.omega arith) e in
    let second = named_apart (codes "own ") price_places 10 v w us vs (Prim.omega arith) first.1 in
    (first.0, ap Some second.0, second.1)

abbrev unit_front : ℕ → List ℕ
unit_front row = codes "unit " ++ decimal row ++ codes " mw "

unit_opened : (row : ℕ) (p : UnitPay Fraction) (own : Option Fraction) (ts : List ℕ)
    → unit_text row p own ++ ts ≡ unit_front row ++ (written mw_places p.mw ++ 32 ∷ (codes "paid " ++ (written money_places p.paid ++ own_behind own ts)))
unfolding unit_text
unit_opened row p own ts =
    in_order (codes "unit ") (decimal row) (codes " mw ") (written mw_places p.mw) (codes " paid ") (written money_places p.paid) (own_text own) (codes "\n") ts
    ∙ ap (λ o. unit_front row ++ (written mw_places p.mw ++ (codes " paid " ++ (written money_places p.paid ++ o)))) (own_first own ts)
  where
    in_order : (a b c x d y o n ts : List ℕ) → (a ++ b ++ c ++ x ++ d ++ y ++ o ++ n) ++ ts ≡ (a ++ b ++ c) ++ (x ++ (d ++ (y ++ (o ++ (n ++ ts)))))
    in_order a b c x d y o n ts = Prim.simp append_assoc

unit_apart : (row : ℕ) (p q : UnitPay Fraction) (s t : Option Fraction) (us vs : List ℕ) → unit_text row p s ++ us ≡ unit_text row q t ++ vs → ((p ≡ q) × (s ≡ t)) × (us ≡ vs)
unit_apart row p q s t us vs h =
    let mw = named_apart (unit_front row) mw_places 32 p.mw q.mw _ _ (Prim.omega arith) (sym (unit_opened row p s us) ∙ h ∙ unit_opened row q t vs) in
    let rest = owns_apart money_places p.paid q.paid s t us vs (append_cancel_left (codes "paid ") _ _ mw.1) in
    ((same_pay p q mw.0 rest.0, rest.1), rest.2)

same_load : (p q : Load Fraction) → p.mw ≡ q.mw → p.pays ≡ q.pays → p ≡ q
same_load p q e f =
    let make : Fraction → Fraction → Load Fraction = λ v w. record { mw = v; pays = w } in
    ap (λ v. make v p.pays) e ∙ ap (make q.mw) f

load_apart : (n : ℕ) (p q : Load Fraction) (us vs : List ℕ) → load_text n p ++ us ≡ load_text n q ++ vs → (p ≡ q) × (us ≡ vs)
unfolding load_text
load_apart n p q us vs h =
    let t = two_apart (codes "load " ++ decimal n ++ codes " mw ") mw_places money_places 32 (codes "pays ") p.mw q.mw p.pays q.pays us vs (Prim.omega arith) h in
    (same_load p q t.0 t.1, t.2)

surplus_apart : (x y : Fraction) (us vs : List ℕ) → surplus_text x ++ us ≡ surplus_text y ++ vs → (x ≡ y) × (us ≡ vs)
unfolding surplus_text
surplus_apart x y us vs h = one_apart (codes "surplus ") money_places x y us vs h

-- the lines of some places, and what comes after them
lines_apart : (f g : ℕ → List ℕ) (Same : ℕ → Type 0) → ((k : ℕ) (us vs : List ℕ) → f k ++ us ≡ g k ++ vs → Same k × (us ≡ vs))
    → (ps us vs : List ℕ) → flat_map f ps ++ us ≡ flat_map g ps ++ vs → AllByRecursion Same ps × (us ≡ vs)
lines_apart f g Same line [] us vs e = (tt, e)
lines_apart f g Same line (p ∷ ps) us vs e =
    let first = line p (flat_map f ps ++ us) (flat_map g ps ++ vs) (sym (append_assoc (f p) (flat_map f ps) us) ∙ e ∙ append_assoc (g p) (flat_map g ps) vs) in
    let rest = lines_apart f g Same line ps us vs first.1 in
    ((first.0, rest.0), rest.1)

at_place : (P : ℕ → Type 0) (a n k : ℕ) → AllByRecursion P (range_with_len a n) → k < n → P (a + k)
at_place P a zero k all h = absurd (Prim.omega arith)
at_place P a (suc n) zero all h = let e : a ≡ a + 0 = Prim.omega arith in subst P e all.0
at_place P a (suc n) (suc k) all h = let e : (a + 1) + k ≡ a + suc k = Prim.omega arith in subst P e (at_place P (a + 1) n k all.1 (Prim.omega arith))

at_places : (P : ℕ → Type 0) (n k : ℕ) → AllByRecursion P (places n) → k < n → P k
at_places P n k all h = let e : 0 + k ≡ k = Prim.omega arith in subst P e (at_place P 0 n k all h)

-- lists of one entry for each place are one where each entry is
same_entries : {X : Type 0} (d : X) (xs ys : List X) (n : ℕ) → length xs ≡ n → length ys ≡ n → AllByRecursion (λ k. slice_index_or xs k d ≡ slice_index_or ys k d) (places n) → xs ≡ ys
same_entries d xs ys n p q all = ext_get_or d xs ys (p ∙ sym q) (λ i h. at_places (λ k. slice_index_or xs k d ≡ slice_index_or ys k d) n i all (Prim.omega (arith, h, p)))

same_price : (p q : Price Fraction) → p.energy ≡ q.energy → SamePrice p q → p ≡ q
same_price p q e s =
    let make : Fraction → Fraction → Fraction → Price Fraction = λ u v w. record { energy = u; congestion = v; total = w } in
    ap (λ u. make u p.congestion p.total) e ∙ ap (λ v. make q.energy v p.total) s.congestion ∙ ap (make q.energy q.congestion) s.total

same_prices : (m : Parts) (a b : Answer Fraction) → FitsReport m a → FitsReport m b → a.duals.energy ≡ b.duals.energy
    → AllByRecursion (λ k. SamePrice (price_of a k) (price_of b k)) (places (length m.buses)) → a.prices ≡ b.prices
same_prices m a b p q e all =
    let d : Price Fraction = record { energy = none; congestion = none; total = none } in
    ext_get_or d a.prices b.prices (p.fits.prices ∙ sym q.fits.prices) (λ i h.
    same_price (price_of a i) (price_of b i) (p.energy i d h ∙ e ∙ sym (q.energy i d (Prim.omega (arith, h, p.fits.prices, q.fits.prices))))
    (at_places (λ k. SamePrice (price_of a k) (price_of b k)) (length m.buses) i all (Prim.omega (arith, h, p.fits.prices))))

pub same_duals : (d e : Duals Fraction) → d.energy ≡ e.energy → d.reserve ≡ e.reserve → d.limits ≡ e.limits → d.rooms ≡ e.rooms → d ≡ e
same_duals d e p q r s = λ i. record { energy = p i; limits = r i; reserve = q i; rooms = s i }

same_money : (d e : Money Fraction) → d.units ≡ e.units → d.own ≡ e.own → d.loads ≡ e.loads → d.rents ≡ e.rents → d.surplus ≡ e.surplus → d.reserve ≡ e.reserve → d ≡ e
same_money d e p o q r s t = λ i. record { units = p i; own = o i; loads = q i; rents = r i; surplus = s i; reserve = t i }

-- ---- own prices
-- prices of one list of units, none of which is there twice, are one where they are the same by each unit
owns_by_unit : (lost : List ℕ) (ps qs : List Fraction) → length ps ≡ length lost → length qs ≡ length lost → AllPairs (λ a b. a ≢ b) lost
    → ((k d : ℕ) → k < length lost → lookup (λ u. u == get_or lost k d) (zip lost ps) ≡ lookup (λ u. u == get_or lost k d) (zip lost qs)) → ps ≡ qs
owns_by_unit [] [] [] p q once same = refl
owns_by_unit [] (x ∷ ps) qs p q once same = absurd (Prim.omega (arith, p))
owns_by_unit [] [] (y ∷ qs) p q once same = absurd (Prim.omega (arith, q))
owns_by_unit (u ∷ lost) [] qs p q once same = absurd (Prim.omega (arith, p))
owns_by_unit (u ∷ lost) (x ∷ ps) [] p q once same = absurd (Prim.omega (arith, q))
owns_by_unit (u ∷ lost) (x ∷ ps) (y ∷ qs) p q once same =
    let it : (u == u) ≡ true = eq-eqb u u refl in
    let first = sym (lookup_head (λ v. v == u) (u, x) (zip lost ps) it) ∙ same 0 u (Prim.omega arith) ∙ lookup_head (λ v. v == u) (u, y) (zip lost qs) it in
    let rest = owns_by_unit lost ps qs (Prim.omega (arith, p)) (Prim.omega (arith, q)) (λ i j d lt within. once (suc i) (suc j) d (Prim.omega (arith, lt)) (Prim.omega (arith, within))) (λ k d lt.
    let other : (u == get_or lost k d) ≡ false = false_from_ne_true _ (λ e. once 0 (suc k) d (Prim.omega arith) (Prim.omega (arith, lt)) (eqb-true u (get_or lost k d) e)) in
    sym (lookup_tail (λ v. v == get_or lost k d) (u, x) (zip lost ps) other) ∙ same (suc k) d (Prim.omega (arith, lt)) ∙ lookup_tail (λ v. v == get_or lost k d) (u, y) (zip lost qs) other) in
    let head : x ≡ y = same_Some x y first in
    Prim.cc (head, rest)

owns_told : (m : Parts) (a b : Answer Fraction) → FitsReport m a → FitsReport m b → LosesUnitsOnce m → AllByRecursion (λ k. own_of m a k ≡ own_of m b k) (places (length m.units)) → a.money.own ≡ b.money.own
owns_told m a b p q told all =
    owns_by_unit m.unit_outages a.money.own b.money.own p.fits.money.own q.fits.money.own told.once
    (λ k d lt. at_places (λ u. own_of m a u ≡ own_of m b u) (length m.units) (get_or m.unit_outages k d) all (told.each k d lt))

same_owns : (m : Parts) (a b : Answer Fraction) → FitsReport m a → FitsReport m b → a.duals ≡ b.duals → AllByRecursion (λ k. own_of m a k ≡ own_of m b k) (places (length m.units)) → a.money.own ≡ b.money.own
same_owns m a b p q duals all = by p.own q.own
  where
    by : LosesUnitsOnce m ⊎ MakesOwnPrices m a → LosesUnitsOnce m ⊎ MakesOwnPrices m b → a.money.own ≡ b.money.own
    by (inl told) other = owns_told m a b p q told all
    by (inr made) (inl told) = owns_told m a b p q told all
    by (inr made) (inr too) = made ∙ ap (λ (d : Duals Fraction). map (λ k. unit_price m d (lost_unit m k)) (places (length m.unit_outages))) duals ∙ sym too

-- two things that hold of each
firsts : (P Q : ℕ → Type 0) (ks : List ℕ) → AllByRecursion (λ k. P k × Q k) ks → AllByRecursion P ks
firsts P Q [] h = tt
firsts P Q (k ∷ ks) h = (h.0.0, firsts P Q ks h.1)

seconds : (P Q : ℕ → Type 0) (ks : List ℕ) → AllByRecursion (λ k. P k × Q k) ks → AllByRecursion Q ks
seconds P Q [] h = tt
seconds P Q (k ∷ ks) h = (h.0.1, seconds P Q ks h.1)

same_answer : (a b : Answer Fraction) → a.dispatch ≡ b.dispatch → a.reserve ≡ b.reserve → a.duals ≡ b.duals → a.prices ≡ b.prices → a.welfare ≡ b.welfare → a.money ≡ b.money → a ≡ b
same_answer a b p n q r s t = λ i. record { dispatch = p i; reserve = n i; duals = q i; prices = r i; welfare = s i; money = t i }

-- ---- what follows the lines of limits and rooms
unit_ends : (row : ℕ) (pay : UnitPay Fraction) (own : Option Fraction) (us : List ℕ) → EndsDuals (unit_text row pay own ++ us)
unfolding unit_text
unit_ends row pay own us = (λ e. Prim.omega (arith, e), λ e. Prim.omega (arith, e))

load_ends : (n : ℕ) (load : Load Fraction) (us : List ℕ) → EndsDuals (load_text n load ++ us)
unfolding load_text
load_ends n load us = (λ e. Prim.omega (arith, e), λ e. Prim.omega (arith, e))

surplus_ends : (x : Fraction) (us : List ℕ) → EndsDuals (surplus_text x ++ us)
unfolding surplus_text
surplus_ends x us = (λ e. Prim.omega (arith, e), λ e. Prim.omega (arith, e))

all_end : (f : ℕ → List ℕ) → ((k : ℕ) (us : List ℕ) → EndsDuals (f k ++ us)) → (ps us : List ℕ) → EndsDuals us → EndsDuals (flat_map f ps ++ us)
all_end f line [] us h = h
all_end f line (p ∷ ps) us h = subst EndsDuals (sym (append_assoc (f p) (flat_map f ps) us)) (line p (flat_map f ps ++ us))

-- the lines behind those of rooms, and what comes after them
abbrev last_lines : Parts → Answer Fraction → List ℕ → List ℕ
last_lines m a us = lines_of_units m a ++ (lines_of_offers m a ++ (lines_of_loads m a ++ (surplus_text a.money.surplus ++ us)))

last_ends : (m : Parts) (a : Answer Fraction) (us : List ℕ) → EndsDuals (last_lines m a us)
last_ends m a us =
    let surplus = surplus_text a.money.surplus ++ us in
    let loads = lines_of_loads m a ++ surplus in
    all_end (unit_line_at m a) (λ k. unit_ends (unit_at m k).row (pay_of a k) (own_of m a k)) (places (length m.units)) (lines_of_offers m a ++ loads)
    (all_end (offer_line_at m a) (λ k. offer_ends (unit_at m (offer_at m k).unit).row (reserve_pay_of a k)) (offer_places m) loads
    (all_end (load_line_at m a) (λ k. load_ends (bus_at m k).number (load_of a k)) (places (length m.buses)) surplus (surplus_ends a.money.surplus us)))

in_order : (h n b k r d u o l s us : List ℕ) → (h ++ n ++ b ++ k ++ r ++ d ++ u ++ o ++ l ++ s) ++ us ≡ h ++ (n ++ (b ++ (k ++ (r ++ (d ++ (u ++ (o ++ (l ++ (s ++ us)))))))))
in_order h n b k r d u o l s us = Prim.simp append_assoc

-- the report of an answer, and what comes after it
pub answers_apart : (m : Parts) (a b : Answer Fraction) → FitsReport m a → FitsReport m b → (us vs : List ℕ) → cleared_text m a ++ us ≡ cleared_text m b ++ vs → (a ≡ b) × (us ≡ vs)
unfolding cleared_text
answers_apart m a b p q us vs e =
    let buses = places (length m.buses) in
    let blocks = places (length m.blocks) in
    let units = places (length m.units) in
    let rooms_of = λ (x : Answer Fraction) (ts : List ℕ). lines_of_rooms price_places x.duals.rooms ++ last_lines m x ts in
    let split = λ (x : Answer Fraction) (ts : List ℕ). in_order (head_text x.welfare x.duals.energy) (need_text m.reserve.listed m.reserve.need x.duals.reserve) (lines_of_buses m x) (lines_of_blocks m x) (lines_of_limits x) (lines_of_rooms price_places x.duals.rooms) (lines_of_units m x) (lines_of_offers m x) (lines_of_loads m x) (surplus_text x.money.surplus) ts in
    let head = head_apart a.welfare b.welfare a.duals.energy b.duals.energy _ _ (sym (split a us) ∙ e ∙ split b vs) in
    let need = needs_apart m.reserve.listed m.reserve.need a.duals.reserve b.duals.reserve p.duals.unlisted q.duals.unlisted _ _ head.2 in
    let prices = lines_apart (bus_line_at m a) (bus_line_at m b) (λ k. SamePrice (price_of a k) (price_of b k)) (λ k. bus_apart (bus_at m k).number (price_of a k) (price_of b k)) buses _ _ need.1 in
    let dispatch = lines_apart (block_line_at m a) (block_line_at m b) (λ k. mw_of a k ≡ mw_of b k)
    (λ k. block_apart (unit_at m (block_at m k).unit).row (block_at m k).side (block_number m k) (mw_of a k) (mw_of b k)) blocks _ _ prices.1 in
    let rents = rents_apart a.duals.limits b.duals.limits a.money.rents b.money.rents p.fits.money.rents q.fits.money.rents p.over q.over (rooms_of a us) (rooms_of b vs)
    (rooms_follow price_places a.duals.rooms p.duals.rooms (last_lines m a us) (last_ends m a us).0) (rooms_follow price_places b.duals.rooms q.duals.rooms (last_lines m b vs) (last_ends m b vs).0) dispatch.1 in
    let rooms = rooms_apart price_places a.duals.rooms b.duals.rooms p.duals.rooms q.duals.rooms (last_lines m a us) (last_lines m b vs) (last_ends m a us).1 (last_ends m b vs).1 rents.2 in
    let pays = lines_apart (unit_line_at m a) (unit_line_at m b) (λ k. (pay_of a k ≡ pay_of b k) × (own_of m a k ≡ own_of m b k)) (λ k. unit_apart (unit_at m k).row (pay_of a k) (pay_of b k) (own_of m a k) (own_of m b k)) units _ _ rooms.1 in
    let paid = firsts (λ k. pay_of a k ≡ pay_of b k) (λ k. own_of m a k ≡ own_of m b k) units pays.0 in
    let owns = seconds (λ k. pay_of a k ≡ pay_of b k) (λ k. own_of m a k ≡ own_of m b k) units pays.0 in
    let duals = same_duals a.duals b.duals head.1 need.0 rents.0 rooms.0 in
    let offers = lines_apart (offer_line_at m a) (offer_line_at m b) (λ k. reserve_pay_of a k ≡ reserve_pay_of b k) (λ k. offer_apart (unit_at m (offer_at m k).unit).row (reserve_pay_of a k) (reserve_pay_of b k)) (offer_places m) _ _ pays.1 in
    let reserve = same_entries (record { mw = none; paid = none }) a.money.reserve b.money.reserve (length m.reserve.offers) p.fits.money.reserve q.fits.money.reserve offers.0 in
    let loads = lines_apart (load_line_at m a) (load_line_at m b) (λ k. load_of a k ≡ load_of b k) (λ k. load_apart (bus_at m k).number (load_of a k) (load_of b k)) buses _ _ offers.1 in
    let last = surplus_apart a.money.surplus b.money.surplus us vs loads.1 in (
      same_answer a b
          (same_entries none a.dispatch b.dispatch (length m.blocks) p.fits.dispatch q.fits.dispatch dispatch.0)
          (sym p.reserve ∙ ap (λ (ps : List (ReservePay Fraction)). map (λ (x : ReservePay Fraction). x.mw) ps) reserve ∙ q.reserve)
          duals
          (same_prices m a b p q head.1 prices.0)
          head.0
          (same_money a.money b.money
          (same_entries (record { mw = none; paid = none }) a.money.units b.money.units (length m.units) p.fits.money.units q.fits.money.units paid)
          (same_owns m a b p q duals owns)
          (same_entries (record { mw = none; pays = none }) a.money.loads b.money.loads (length m.buses) p.fits.money.loads q.fits.money.loads loads.0)
          rents.1
          last.0
          reserve),
      last.1,
    )
