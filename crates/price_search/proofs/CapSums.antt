-- What the prices of duals add up to, term by term, and that it is the sum of the prices of all limits and rooms of the market.
use Rattle.std.specs.Prelude.{◌≡◌, ◌≢◌, ◌==◌, ◌||◌, ℕ, ◌+◌, ◌<◌, Bool, true, false, List, [], ◌∷◌, ◌++◌, length, map, take, AllPairs, Contains, if◌then◌else◌, refl, IfErr, IfOk, Result}
use Rattle.std.proofs.Common.{suc, Err, Ok, arith, ap, ap₂, inl, inr, sym, ◌∙◌, append_assoc, drop, get_or}
use Rattle.std.proofs.lemmas.Bool.Decides.{eqb_tells}
use Rattle.std.proofs.lemmas.List.{drop_more, get_or-map, length-map, map-append, take-append-drop, take_more}
use Rattle.std.proofs.lemmas.List.Concat.{flat_map-append}
use Rattle.std.proofs.lemmas.List.FromFn.{length-range_with_len}
use Rattle.std.proofs.lemmas.List.Kept.{AllPairs-filter}
use Rattle.fraction_theory.specs.Fraction.{Fraction, ◌+ℚ◌}
use Rattle.fraction_theory.specs.Sums.{Term, Plain, sum_by, total}
use Rattle.fraction_theory.proofs.FieldLaws.{ring_ℚ, +ℚ_nil}
use Rattle.fraction_theory.proofs.ListSums.{kept, sum_by-filter, sum_by-members}
use Rattle.fraction_theory.proofs.Ring.{by_ring, at, pnil, ◌⊕◌}
use Rattle.fraction_theory.proofs.SumLaws.{total-append, total-Plain}
use Rattle.exact_fraction.specs.declared.Op.TheVariants.{Plus}
use Rattle.exact_fraction.specs.declared.Passed.{Passed}
use Rattle.exact_fraction.specs.Passes.{IsExactValue}
use Rattle.market_model.specs.declared.answered.Dual.{Dual}
use Rattle.market_model.specs.declared.answered.Duals.{Duals}
use Rattle.market_model.specs.declared.answered.RoomDual.{RoomDual}
use Rattle.market_model.specs.declared.limits.Row.{Row}
use Rattle.market_model.specs.declared.limits.Cause.TheVariants.{Base}
use Rattle.market_model.specs.declared.participants.Parts.{Parts}
use Rattle.market_model.specs.Dispatch.{places, unit_at, zero}
use Rattle.market_model.specs.LimitRows.{row_id, rows}
use Rattle.market_model.specs.Market.{IsMarket}
use Rattle.market_model.specs.NamedSums.{IsRefusal, IsRefusedIn}
use Rattle.market_model.specs.Optimality.{ProperDuals, down_of, named_rooms, named_rows, names_room, room_price, room_price_in, up_of}
use Rattle.market_model.specs.Valued.{passed_at}
use Rattle.market_model.specs.Reserves.{offers_reserve, reserve_units}
use Rattle.market_model.proofs.ChangeLemmas.{same_default}
use Rattle.market_model.proofs.ListSteps.{mapped_at}
use Rattle.market_model.proofs.LostLemmas.{place_at}
use Rattle.market_model.proofs.RoomLemmas.{listed-offers}
use Rattle.market_model.proofs.SumSteps.{behind, in_front, plus_at, refusal}
use Rattle.limit_rows.proofs.ApartLemmas.{unit_of_row}
use Rattle.limit_rows.proofs.DualLemmas.{down_unnamed, named_count, row_of_dual, sum_named, up_unnamed}
use Rattle.one_price.specs.FirstPrices.{sum_of_prices}
use Rattle.one_price.proofs.ListLemmas.{same_head, same_tail}
use Rattle.price_search.specs.Caps.{limit_price_terms, named_price_terms, room_price_terms}

-- an item as it is read, with its numbers as fractions
pub item_at : {X Y : Type 0} (f : X → Y) (xs : List X) (k : ℕ) (x : X) → k < length xs → x ≡ get_or xs k x → f x ≡ get_or (map f xs) k (f x)
item_at f xs k x h is = ap f is ∙ sym (get_or-map f xs k x (f x) h)

pub item_inside : {X Y : Type 0} (f : X → Y) (xs : List X) (k : ℕ) → k < length xs → k < length (map f xs)
item_inside f xs k h = Prim.omega (arith, h, length-map xs f)

-- ---- limits, one by one
module _ (es : List (Dual Fraction)) (k : ℕ) (e : Dual Fraction) (inside : k < length es) (is : e ≡ get_or es k e) where
  abbrev front : List Term
  front = limit_price_terms (take k es)

  abbrev rest_of : List Term
  rest_of = limit_price_terms (drop (k + 1) es)

  abbrev two : Dual Fraction → List Term
  two d = Plain d.up ∷ Plain d.down ∷ []

  parts : limit_price_terms es ≡ front ++ Plain e.up ∷ Plain e.down ∷ rest_of
  parts =
      ap limit_price_terms (sym (take-append-drop k es) ∙ ap (λ ys. take k es ++ ys) (drop_more es k e inside ∙ ap (λ y. y ∷ drop (k + 1) es) (sym is)))
      ∙ flat_map-append two (take k es) (e ∷ drop (k + 1) es)

  pub limit_step : (sum half new : Fraction) → sum ≡ total front → half ≡ sum +ℚ e.up → new ≡ half +ℚ e.down → new ≡ total (limit_price_terms (take (k + 1) es))
  limit_step sum half new before up down =
      down ∙ ap (λ t. t +ℚ e.down) (up ∙ ap (λ t. t +ℚ e.up) before)
      ∙ by_ring ring_ℚ (total front ∷ e.up ∷ e.down ∷ []) ((at 0 ⊕ at 1) ⊕ at 2) (at 0 ⊕ (at 1 ⊕ (at 2 ⊕ pnil))) refl
      ∙ sym (ap (λ ys. total (limit_price_terms ys)) (take_more es k e inside ∙ ap (λ y. take k es ++ y ∷ []) (sym is))
      ∙ ap total (flat_map-append two (take k es) (e ∷ [])) ∙ total-append front (two e))

  module _ (rest : List Term) (bound : ℕ) (p : Passed Fraction) (sum : Fraction) (before : sum ≡ total front) where
    pub up_refused : IsRefusal Plus sum e.up bound p → IsRefusedIn (limit_price_terms es ++ rest) bound p
    up_refused h = plus_at (limit_price_terms es ++ rest) front ((Plain e.down ∷ rest_of) ++ rest) (Plain e.up)
        (in_front (limit_price_terms es) front (Plain e.down ∷ rest_of) rest (Plain e.up) parts) bound p sum e.up before refl h

    pub down_refused : (half : Fraction) → half ≡ sum +ℚ e.up → IsRefusal Plus half e.down bound p → IsRefusedIn (limit_price_terms es ++ rest) bound p
    down_refused half up h = plus_at (limit_price_terms es ++ rest) (front ++ Plain e.up ∷ []) (rest_of ++ rest) (Plain e.down)
        (in_front (limit_price_terms es) (front ++ Plain e.up ∷ []) rest_of rest (Plain e.down) (parts ∙ sym (append_assoc front (Plain e.up ∷ []) (Plain e.down ∷ rest_of)))) bound p half e.down
        (up ∙ ap (λ t. t +ℚ e.up) before ∙ ap (λ t. total front +ℚ t) (sym (+ℚ_nil e.up)) ∙ sym (total-append front (Plain e.up ∷ []))) refl h

-- ---- rooms, one by one
module _ (front : List Term) (es : List (RoomDual Fraction)) (k : ℕ) (e : RoomDual Fraction) (inside : k < length es) (is : e ≡ get_or es k e) where
  abbrev term : RoomDual Fraction → Term
  term d = Plain d.price

  abbrev so_far : List Term
  so_far = front ++ room_price_terms (take k es)

  pub room_step : (sum new : Fraction) → sum ≡ total so_far → new ≡ sum +ℚ e.price → new ≡ total (front ++ room_price_terms (take (k + 1) es))
  room_step sum new before more =
      more ∙ ap (λ t. t +ℚ e.price) before ∙ ap (λ t. total so_far +ℚ t) (sym (+ℚ_nil e.price)) ∙ sym (total-append so_far (term e ∷ []))
      ∙ ap total (append_assoc front (room_price_terms (take k es)) (term e ∷ []) ∙ ap (λ ts. front ++ ts)
      (sym (ap room_price_terms (take_more es k e inside ∙ ap (λ y. take k es ++ y ∷ []) (sym is)) ∙ map-append term (take k es) (e ∷ []))))

  pub room_refused : (rest : List Term) (bound : ℕ) (p : Passed Fraction) (sum : Fraction) → sum ≡ total so_far → IsRefusal Plus sum e.price bound p
      → IsRefusedIn ((front ++ room_price_terms es) ++ rest) bound p
  room_refused rest bound p sum before h =
      let behind_it = room_price_terms (drop (k + 1) es) in
      plus_at ((front ++ room_price_terms es) ++ rest) so_far (behind_it ++ rest) (term e)
      (in_front (front ++ room_price_terms es) so_far behind_it rest (term e)
      (behind front (room_price_terms es) (room_price_terms (take k es)) behind_it (term e) (mapped_at term es k e inside is))) bound p sum e.price before refl h

-- ---- and that of reserve
module _ (d : Duals Fraction) where
  abbrev both : List Term
  both = limit_price_terms d.limits ++ room_price_terms d.rooms

  all_step : (sum new : Fraction) → sum ≡ total both → new ≡ sum +ℚ d.reserve → new ≡ total (named_price_terms d)
  all_step sum new before more = more ∙ ap (λ t. t +ℚ d.reserve) before ∙ ap (λ t. total both +ℚ t) (sym (+ℚ_nil d.reserve)) ∙ sym (total-append both (Plain d.reserve ∷ []))

  reserve_refused : (bound : ℕ) (p : Passed Fraction) (sum : Fraction) → sum ≡ total both → IsRefusal Plus sum d.reserve bound p → IsRefusedIn (named_price_terms d) bound p
  reserve_refused bound p sum before h = plus_at (named_price_terms d) both [] (Plain d.reserve) refl bound p sum d.reserve before refl h

-- ---- over the whole market
-- sums of the same numbers by place
same_sum : {X Y : Type 0} (f : X → Fraction) (g : Y → Fraction) (xs : List X) (ys : List Y) (x : X) (y : Y) → length xs ≡ length ys
    → ((k : ℕ) → k < length xs → f (get_or xs k x) ≡ g (get_or ys k y)) → sum_by f xs ≡ sum_by g ys
same_sum f g [] [] x y long same = refl
same_sum f g [] (b ∷ ys) x y long same = let wrong : 0 ≡ suc (length ys) = long in absurd (Prim.omega (arith, wrong))
same_sum f g (a ∷ xs) [] x y long same = let wrong : suc (length xs) ≡ 0 = long in absurd (Prim.omega (arith, wrong))
same_sum f g (a ∷ xs) (b ∷ ys) x y long same =
    ap₂ ◌+ℚ◌ (same 0 (Prim.omega arith)) (same_sum f g xs ys x y (Prim.omega (arith, long)) (λ k lt. same (suc k) (Prim.omega (arith, lt))))

limits_total : (es : List (Dual Fraction)) → total (limit_price_terms es) ≡ sum_by (λ e. e.up +ℚ e.down) es
limits_total [] = refl
limits_total (e ∷ es) =
    ap (λ t. e.up +ℚ (e.down +ℚ t)) (limits_total es)
    ∙ by_ring ring_ℚ (e.up ∷ e.down ∷ sum_by (λ f. f.up +ℚ f.down) es ∷ []) (at 0 ⊕ (at 1 ⊕ at 2)) ((at 0 ⊕ at 1) ⊕ at 2) refl

-- a room that is not named is free
unnamed : (ds : List (RoomDual Fraction)) (row : ℕ) → names_room ds row ≡ false → room_price_in ds row ≡ zero
unnamed [] row h = refl
unnamed (d ∷ ds) row h = by (d.unit == row) h (unnamed ds row)
  where
    by : (b : Bool) → (b || names_room ds row) ≡ false → (names_room ds row ≡ false → room_price_in ds row ≡ zero) → (if b then d.price else room_price_in ds row) ≡ zero
    by true k more = absurd Prim.cc
    by false k more = more k

module _ (m : Parts) (market : IsMarket m) where
  abbrev row_of : ℕ → ℕ
  row_of u = (unit_at m u).row

  abbrev Apart : List ℕ → Type 0
  Apart us = AllPairs (λ u v. row_of u ≢ row_of v) us

  rooms_total : (us : List ℕ) (ds : List (RoomDual Fraction)) → Apart us → map (λ e. e.unit) ds ≡ map row_of us → sum_by (λ u. room_price_in ds (row_of u)) us ≡ sum_by (λ e. e.price) ds
  rooms_total [] [] apart names = refl
  rooms_total [] (d ∷ ds) apart names = absurd Prim.cc
  rooms_total (u ∷ us) [] apart names = absurd Prim.cc
  rooms_total (u ∷ us) (d ∷ ds) apart names =
      ap₂ ◌+ℚ◌ own
      (sum_by-members (λ v. room_price_in (d ∷ ds) (row_of v)) (λ v. room_price_in ds (row_of v)) us other
      ∙ rooms_total us ds (λ i j e p q. apart (suc i) (suc j) e (Prim.omega (arith, p)) (Prim.omega (arith, q))) (same_tail d.unit (row_of u) (map (λ e. e.unit) ds) (map row_of us) names))
    where
      first : d.unit ≡ row_of u
      first = same_head d.unit (row_of u) (map (λ (e : RoomDual Fraction). e.unit) ds) (map row_of us) names

      own : room_price_in (d ∷ ds) (row_of u) ≡ d.price
      own = elim (eqb_tells d.unit (row_of u)) [
        | inl t ↦ ap (λ (b : Bool). if b then d.price else room_price_in ds (row_of u)) t.0
        | inr t ↦ absurd (t.1 first)
      ]

      other : (v : ℕ) → Contains us v → room_price_in (d ∷ ds) (row_of v) ≡ room_price_in ds (row_of v)
      other v c = elim (eqb_tells d.unit (row_of v)) [
        | inl t ↦ absurd (apart 0 (suc c.0) v (Prim.omega arith) (Prim.omega (arith, c.1)) (sym first ∙ t.1 ∙ sym (ap row_of c.2)))
        | inr t ↦ ap (λ (b : Bool). if b then d.price else room_price_in ds (row_of v)) t.0
      ]

  units_apart : Apart (places (length m.units))
  units_apart i j e p q =
      let inside : j < length m.units = Prim.omega (arith, q, length-range_with_len 0 (length m.units)) in
      let below : i < length m.units = Prim.omega (arith, p, inside) in
      λ same.
      let here : i ≡ j = unit_of_row m market i j below inside (ap row_of (sym (place_at (length m.units) i e below)) ∙ same ∙ ap row_of (place_at (length m.units) j e inside)) in
      Prim.omega (arith, p, here)

  module _ (d : Duals Fraction) (proper : ProperDuals m d) where
    -- the limits that are named have all prices of limits
    limits_all : total (limit_price_terms d.limits) ≡ sum_by (λ r. up_of m d r +ℚ down_of m d r) (rows m)
    limits_all =
        limits_total d.limits
        ∙ same_sum (λ (e : Dual Fraction). e.up +ℚ e.down) prices d.limits (named_rows m d) none_dual none (named_count m market d proper.named) by_place
        ∙ sym (sum_named m d prices (rows m) (λ r h. ap₂ ◌+ℚ◌ (up_unnamed d.limits (row_id m r) h) (down_unnamed d.limits (row_id m r) h) ∙ +ℚ_nil zero))
      where
        prices : Row → Fraction
        prices r = up_of m d r +ℚ down_of m d r

        none : Row
        none = record { line = 0; cause = Base }

        none_dual : Dual Fraction
        none_dual = record { row = row_id m none; up = zero; down = zero }

        by_place : (k : ℕ) → k < length d.limits → (get_or d.limits k none_dual).up +ℚ (get_or d.limits k none_dual).down ≡ prices (get_or (named_rows m d) k none)
        by_place k lt =
            let e : Dual Fraction = get_or d.limits k none_dual in
            let found = row_of_dual m market d proper.named k e lt (same_default d.limits k none_dual e lt) in
            let is = found.1 in
            ap₂ ◌+ℚ◌ (sym is.up) (sym is.down) ∙ ap prices (is.at ∙ same_default (named_rows m d) k found.0 none is.inside)

    rooms_all : total (room_price_terms d.rooms) ≡ sum_by (room_price m d) (reserve_units m)
    rooms_all =
        total-Plain (λ (e : RoomDual Fraction). e.price) d.rooms
        ∙ sym (rooms_total (named_rooms m d) d.rooms apart proper.rooms_named)
        ∙ sum_by-filter (λ u. room_price_in d.rooms (row_of u)) named (reserve_units m)
        ∙ sum_by-members (λ u. kept (named u) (room_price_in d.rooms (row_of u))) (room_price m d) (reserve_units m) (λ u c. by u (named u) refl ∙ sym (offered u c))
      where
        named : ℕ → Bool
        named u = names_room d.rooms (row_of u)

        apart : Apart (named_rooms m d)
        apart = AllPairs-filter (λ u v. row_of u ≢ row_of v) named (reserve_units m) (AllPairs-filter (λ u v. row_of u ≢ row_of v) (offers_reserve m) (places (length m.units)) units_apart)

        by : (u : ℕ) (b : Bool) → named u ≡ b → kept b (room_price_in d.rooms (row_of u)) ≡ room_price_in d.rooms (row_of u)
        by u true h = refl
        by u false h = sym (unnamed d.rooms (row_of u) h)

        offered : (u : ℕ) → Contains (reserve_units m) u → room_price m d u ≡ room_price_in d.rooms (row_of u)
        offered u c = ap (λ (b : Bool). if b then room_price_in d.rooms (row_of u) else zero) (listed-offers m u c)

    pub prices_all : total (named_price_terms d) ≡ sum_of_prices m d
    prices_all =
        total-append (limit_price_terms d.limits ++ room_price_terms d.rooms) (Plain d.reserve ∷ [])
        ∙ ap₂ ◌+ℚ◌ (total-append (limit_price_terms d.limits) (room_price_terms d.rooms) ∙ ap₂ ◌+ℚ◌ limits_all rooms_all) (+ℚ_nil d.reserve)

-- the last operation of the sum
module _ {N : Type 0} (value : N → Fraction) (bound : ℕ) (d : Duals Fraction) (l r : N) (left : value l ≡ total (both d)) (right : value r ≡ d.reserve) where
  pub all_summed : (result : Result N (Passed N)) → IsExactValue value bound Plus l r result → IfOk result (λ z. value z ≡ total (named_price_terms d))
  all_summed (Ok z) h = all_step d (value l) (value z) left (h.exact ∙ ap (λ t. value l +ℚ t) right)
  all_summed (Err p) h = tt

  pub all_refused : (result : Result N (Passed N)) → IsExactValue value bound Plus l r result → IfErr result (λ p. IsRefusedIn (named_price_terms d) bound (passed_at value p))
  all_refused (Ok z) h = tt
  all_refused (Err p) h = reserve_refused d bound (passed_at value p) (value l) left (refusal value bound Plus l r (value l) d.reserve p refl right h)
