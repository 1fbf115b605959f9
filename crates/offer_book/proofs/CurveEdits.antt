-- An edit keeps offer curves.
use Rattle.std.specs.Prelude.{◌≡◌, ◌≢◌, ◌⊎◌, ◌==◌, ◌&&◌, ℕ, ◌-◌, ◌<◌, ◌≤◌, ℤ, pos, ◌+ℤ◌, ◌-ℤ◌, ◌≤ℤ◌, Bool, true, false, List, [], ◌∷◌, length, map, filter, take, slice_set, unsigned_abs, AllPairs, Option, Some, None, is_some, option_map, refl, if◌then◌else◌}
use Rattle.std.specs.Int.Signed.{lt_z}
use Rattle.std.specs.List.{slice_get}
use Rattle.std.specs.Option.{option_map_or}
use Rattle.std.specs.Ordering.{int_eq}
use Rattle.std.proofs.Common.{suc, arith, inl, inr, get_or, ap, sym, ◌∙◌, subst}
use Rattle.std.proofs.Math.Seq.{take-length}
use Rattle.std.proofs.lemmas.Bool.{cases_lt}
use Rattle.std.proofs.lemmas.Bool.Decides.{eqb_tells, Decides-int_eq}
use Rattle.std.proofs.lemmas.Int.{ints}
use Rattle.std.proofs.lemmas.List.{get_or-map, length-map, map-set}
use Rattle.std.proofs.lemmas.Option.{slice_get-get_or, slice_get-map}
use Rattle.market_data.specs.declared.participants.Unit as unit
use Rattle.market_model.specs.declared.participants.Block.{Block}
use Rattle.market_model.specs.declared.participants.Parts.{Parts}
use Rattle.market_model.specs.declared.participants.Side.{Side}
use Rattle.market_model.specs.declared.participants.Side.TheVariants.{Sell, Buy}
use Rattle.market_model.specs.Changes.{with_price, with_quantity, with_demand, with_limit, with_need}
use Rattle.market_model.specs.Dispatch.{places, unit_at, block_at, place_of_bus}
use Rattle.market_model.specs.Market.{IsMarket}
use Rattle.market_model.specs.Stairs.{same_side, is_on_stair, stair_in}
use Rattle.market_model.proofs.ChangeLemmas.{offered-set, on_stair}
use Rattle.market_model.proofs.PlainMarkets.{distinct_by_rise}
use Rattle.offer_book.specs.declared.edit_parts.Edit.{Edit}
use Rattle.offer_book.specs.declared.edit_parts.Edit.TheVariants as edit
use Rattle.offer_book.specs.declared.edit_parts.EditFault.TheVariants as fault
use Rattle.offer_book.specs.OfferTable.{follows}
use Rattle.offer_book.specs.Edits.{is_block_of, blocks_of_side, place_of_block, price_of_block, place_of_limit, rival, rival_of, judge_quantity, step_of}
use Rattle.offer_book.specs.EditLaws.{HasOfferCurves, LawOfOfferCurves, LawOfEditedCurves, block_prices}
use Rattle.offer_book.proofs.CurveLemmas.{follows_order, order-set, filter-set_off, filter-set_on, map-filter-set, filter-places}
use Rattle.offer_book.proofs.EditedMarkets.{IsNamed, named, block_inside, quantity_kept, stepped}
use Rattle.offer_book.specs.Offers.{InOrder}

-- ---- a price that no other breaks against
-- it follows the one before, and the one after follows it
record Fits (side : Side) (before : Option ℤ) (price : ℤ) (after : Option ℤ) : Type 0 where
  behind : follows side before price ≡ true
  ahead : (a : ℤ) → after ≡ Some a → follows side (Some price) a ≡ true

fits : (side : Side) (before : Option ℤ) (price : ℤ) (after : Option ℤ) → rival side before price after ≡ None → Fits side before price after
unfolding rival
fits side before price None e = by before e
  where
    by : (o : Option ℤ) → (if follows side o price then None else o) ≡ None → Fits side o price None
    by None e = record { behind = refl; ahead = λ a f. absurd Prim.cc }
    by (Some b) e = some (follows side (Some b) price) refl e
      where
        some : (t : Bool) → follows side (Some b) price ≡ t → (if t then None else Some b) ≡ None → Fits side (Some b) price None
        some true f e = record { behind = f; ahead = λ a f. absurd Prim.cc }
        some false f e = absurd Prim.cc
fits side before price (Some a) e = by before e
  where
    by : (o : Option ℤ) → (if follows side o price then (if follows side (Some price) a then None else Some a) else o) ≡ None → Fits side o price (Some a)
    by None e = at (follows side (Some price) a) refl e
      where
        at : (t : Bool) → follows side (Some price) a ≡ t → (if t then None else Some a) ≡ None → Fits side None price (Some a)
        at true f e = record { behind = refl; ahead = λ x g. let same : a ≡ x = Prim.cc in subst (λ (y : ℤ). follows side (Some price) y ≡ true) same f }
        at false f e = absurd Prim.cc
    by (Some b) e = at (follows side (Some b) price) (follows side (Some price) a) refl refl e
      where
        at : (s t : Bool) → follows side (Some b) price ≡ s → follows side (Some price) a ≡ t → (if s then (if t then None else Some a) else Some b) ≡ None → Fits side (Some b) price (Some a)
        at true true f g e = record { behind = f; ahead = λ x h. let same : a ≡ x = Prim.cc in subst (λ (y : ℤ). follows side (Some price) y ≡ true) same g }
        at true false f g e = absurd Prim.cc
        at false t f g e = absurd Prim.cc

-- ---- the blocks of a row and those of a unit
both_true : (a b : Bool) → a && b ≡ true → (a ≡ true) × (b ≡ true)
both_true true b e = (refl, e)
both_true false b e = absurd Prim.cc

same_sides : (r s : Side) → same_side r s ≡ true → r ≡ s
same_sides Sell Sell e = refl
same_sides Buy Buy e = refl
same_sides Sell Buy e = absurd Prim.cc
same_sides Buy Sell e = absurd Prim.cc

-- ---- a stair with one block changed
stair-set_off : (place : ℕ) (side : Side) (blocks : List Block) (j : ℕ) (b d : Block) → is_on_stair place side (get_or blocks j d) ≡ false → is_on_stair place side b ≡ false
    → stair_in place side (slice_set blocks j b) ≡ stair_in place side blocks
unfolding stair_in
stair-set_off place side blocks j b d e f = filter-set_off (is_on_stair place side) blocks j b d e f

stair-set_on : (place : ℕ) (side : Side) (blocks : List Block) (j : ℕ) (b d : Block) → j < length blocks → is_on_stair place side (get_or blocks j d) ≡ true → is_on_stair place side b ≡ true
    → stair_in place side (slice_set blocks j b) ≡ slice_set (stair_in place side blocks) (length (filter (is_on_stair place side) (take j blocks))) b
unfolding stair_in
stair-set_on place side blocks j b d inside e f = filter-set_on (is_on_stair place side) blocks j b d inside e f

stair-prices : (place : ℕ) (side : Side) (blocks : List Block) (j : ℕ) (b d : Block) → is_on_stair place side b ≡ is_on_stair place side (get_or blocks j d) → b.price ≡ (get_or blocks j d).price
    → block_prices (stair_in place side (slice_set blocks j b)) ≡ block_prices (stair_in place side blocks)
unfolding stair_in
stair-prices place side blocks j b d e f = map-filter-set (is_on_stair place side) (λ (x : Block). x.price) blocks j b d e f

module _ (m : Parts) (market : IsMarket m) where
  -- two units of one row are one
  rows_apart : (u v : ℕ) → u < v → v < length m.units → (unit_at m u).row ≢ (unit_at m v).row
  rows_apart u v below inside e =
      let long = length-map m.units (λ (x : unit.Unit). x.row) in
      let left : get_or (map (λ (x : unit.Unit). x.row) m.units) u 0 ≡ (unit_at m u).row = get_or-map (λ (x : unit.Unit). x.row) m.units u _ 0 (Prim.omega (arith, below, inside)) in
      let right : get_or (map (λ (x : unit.Unit). x.row) m.units) v 0 ≡ (unit_at m v).row = get_or-map (λ (x : unit.Unit). x.row) m.units v _ 0 inside in
      distinct_by_rise (map (λ (x : unit.Unit). x.row) m.units) market.unit_rows u v 0 below (Prim.omega (arith, long, inside)) (left ∙ e ∙ sym right)

  row_tells : (row : ℤ) (place : ℕ) → place < length m.units → int_eq (pos (unit_at m place).row) row ≡ true → (u : ℕ) → u < length m.units → int_eq (pos (unit_at m u).row) row ≡ (u == place)
  row_tells row place inside is u within = by (eqb_tells u place)
    where
      same : int_eq (pos (unit_at m u).row) row ≡ true → (unit_at m u).row ≡ (unit_at m place).row
      same e =
          let a : pos (unit_at m u).row ≡ row = (Decides-int_eq (pos (unit_at m u).row) row).0 e in
          let b : pos (unit_at m place).row ≡ row = (Decides-int_eq (pos (unit_at m place).row) row).0 is in
          Prim.omega (arith, ints, a, b)

      apart : u ≢ place → int_eq (pos (unit_at m u).row) row ≡ true → ⊥
      apart n e = order (cases_lt u place)
        where
          order : (u < place) ⊎ (place ≤ u) → ⊥
          order (inl h) = rows_apart u place h inside (same e)
          order (inr h) = rows_apart place u (Prim.omega (arith, h, n)) within (sym (same e))

      by : ((u == place ≡ true) × (u ≡ place)) ⊎ ((u == place ≡ false) × (u ≢ place)) → int_eq (pos (unit_at m u).row) row ≡ (u == place)
      by (inl t) = subst (λ (v : ℕ). int_eq (pos (unit_at m v).row) row ≡ true) (sym t.1) is ∙ sym t.0
      by (inr t) = not_so (int_eq (pos (unit_at m u).row) row) refl ∙ sym t.0
        where
          not_so : (b : Bool) → int_eq (pos (unit_at m u).row) row ≡ b → b ≡ false
          not_so true e = absurd (apart t.1 e)
          not_so false e = refl

  -- a row's blocks on a side are those of the unit at a place
  module _ (row : ℤ) (side : Side) (place : ℕ) (inside : place < length m.units) (is : int_eq (pos (unit_at m place).row) row ≡ true) where
    agree : (i : ℕ) → i < length m.blocks → is_block_of m row side i ≡ is_on_stair place side (block_at m i)
    agree i within =
        let of : (block_at m i).unit < length m.units = (market.blocks i _ within).unit in
        ap (λ (t : Bool). t && same_side (block_at m i).side side) (row_tells row place inside is (block_at m i).unit of)

    before_is : (i : ℕ) → i ≤ length m.blocks → length (filter (is_on_stair place side) (take i m.blocks)) ≡ length (filter (is_block_of m row side) (places i))
    before_is i within =
        ap length (filter-places (is_on_stair place side) (is_block_of m row side) m.blocks (record { unit = 0; side = Sell; quantity = pos 0; price = pos 0 }) i within agree)
        ∙ length-map (filter (is_block_of m row side) (places i)) (block_at m)

    curve_is : stair_in place side m.blocks ≡ map (block_at m) (blocks_of_side m row side)
    unfolding stair_in
    curve_is =
        ap (filter (is_on_stair place side)) (sym (take-length m.blocks))
        ∙ filter-places (is_on_stair place side) (is_block_of m row side) m.blocks (record { unit = 0; side = Sell; quantity = pos 0; price = pos 0 }) (length m.blocks) (Prim.omega arith) agree

    -- the price of the block of a number
    nth_price : (number : ℤ) → pos 1 ≤ℤ number → price_of_block m row side number ≡ slice_get (block_prices (stair_in place side m.blocks)) (unsigned_abs number - 1)
    unfolding place_of_block
    nth_price number least =
        by (lt_z number (pos 1)) refl
        ∙ sym (ap (λ bs. slice_get (block_prices bs) (unsigned_abs number - 1)) curve_is
        ∙ slice_get-map (λ (b : Block). b.price) (map (block_at m) (blocks_of_side m row side)) (unsigned_abs number - 1)
        ∙ ap (option_map (λ (b : Block). b.price)) (slice_get-map (block_at m) (blocks_of_side m row side) (unsigned_abs number - 1))
        ∙ twice (slice_get (blocks_of_side m row side) (unsigned_abs number - 1)))
      where
        twice : (o : Option ℕ) → option_map (λ (b : Block). b.price) (option_map (block_at m) o) ≡ option_map (λ j. (block_at m j).price) o
        twice None = refl
        twice (Some j) = refl

        by : (t : Bool) → lt_z number (pos 1) ≡ t
            → option_map (λ j. (block_at m j).price) (if t then None else slice_get (blocks_of_side m row side) (unsigned_abs number - 1))
            ≡ option_map (λ j. (block_at m j).price) (slice_get (blocks_of_side m row side) (unsigned_abs number - 1))
        by true e = absurd (Prim.omega (arith, ints, e, least))
        by false e = refl

  -- ---- a price
  neighbours : (row : ℤ) (side : Side) (number price : ℤ) → rival_of m row side number price ≡ None
      → Fits side (price_of_block m row side (number -ℤ pos 1)) price (price_of_block m row side (number +ℤ pos 1))
  unfolding rival_of
  neighbours row side number price accepted = fits side (price_of_block m row side (number -ℤ pos 1)) price (price_of_block m row side (number +ℤ pos 1)) accepted

  module _ (row : ℤ) (side : Side) (number price : ℤ) (j : ℕ) (at : place_of_block m row side number ≡ Some j) (accepted : rival_of m row side number price ≡ None) (curves : HasOfferCurves m) where
    abbrev none : Block
    none = record { unit = 0; side = Sell; quantity = pos 0; price = pos 0 }

    abbrev new : Block
    new = record (block_at m j) { price = price }

    name : IsNamed m row side number j
    name = named m row side number j at

    inside : j < length m.blocks
    inside = block_inside m row side number j at

    owner : (block_at m j).unit < length m.units
    owner = (market.blocks j _ inside).unit

    tells : (int_eq (pos (unit_at m (block_at m j).unit).row) row ≡ true) × (same_side (block_at m j).side side ≡ true)
    tells = both_true _ _ name.nth.passes

    side_is : (block_at m j).side ≡ side
    side_is = same_sides (block_at m j).side side tells.1

    abbrev old : List ℤ
    old = block_prices (stair_in (block_at m j).unit side m.blocks)

    before : (i : ℕ) (d : ℤ) → suc i ≡ unsigned_abs number - 1 → i < length old → InOrder side (get_or old i d) price
    before i d e within =
        let positive = name.positive in
        let least : pos 1 ≤ℤ (number -ℤ pos 1) = Prim.omega (arith, ints, positive, e) in
        let same : unsigned_abs (number -ℤ pos 1) - 1 ≡ i = Prim.omega (arith, ints, positive, e) in
        let read : price_of_block m row side (number -ℤ pos 1) ≡ Some (get_or old i d) =
        nth_price row side (block_at m j).unit owner tells.0 (number -ℤ pos 1) least ∙ ap (slice_get old) same ∙ slice_get-get_or old i d within in
        follows_order side (get_or old i d) price (subst (λ (o : Option ℤ). follows side o price ≡ true) read (neighbours row side number price accepted).behind)

    after : (d : ℤ) → suc (unsigned_abs number - 1) < length old → InOrder side price (get_or old (suc (unsigned_abs number - 1)) d)
    after d within =
        let positive = name.positive in
        let least : pos 1 ≤ℤ (number +ℤ pos 1) = Prim.omega (arith, ints, positive) in
        let same : unsigned_abs (number +ℤ pos 1) - 1 ≡ suc (unsigned_abs number - 1) = Prim.omega (arith, ints, positive) in
        let read : price_of_block m row side (number +ℤ pos 1) ≡ Some (get_or old (suc (unsigned_abs number - 1)) d) =
        nth_price row side (block_at m j).unit owner tells.0 (number +ℤ pos 1) least ∙ ap (slice_get old) same ∙ slice_get-get_or old (suc (unsigned_abs number - 1)) d within in
        follows_order side price (get_or old (suc (unsigned_abs number - 1)) d) ((neighbours row side number price accepted).ahead (get_or old (suc (unsigned_abs number - 1)) d) read)

    -- the block is that of its number in its stair
    number_is : length (filter (is_on_stair (block_at m j).unit side) (take j m.blocks)) ≡ unsigned_abs number - 1
    number_is =
        let steps : j ≡ name.nth.steps = let is = name.nth.is in Prim.omega (arith, is) in
        before_is row side (block_at m j).unit owner tells.0 j (Prim.omega (arith, inside)) ∙ ap (λ (i : ℕ). length (filter (is_block_of m row side) (places i))) steps ∙ sym name.nth.count

    own_order : is_on_stair (block_at m j).unit side (block_at m j) ≡ true → AllPairs (InOrder side) (block_prices (stair_in (block_at m j).unit side (slice_set m.blocks j new)))
    own_order on =
        let stair : stair_in (block_at m j).unit side (slice_set m.blocks j new) ≡ slice_set (stair_in (block_at m j).unit side m.blocks) (unsigned_abs number - 1) new =
        stair-set_on (block_at m j).unit side m.blocks j new none inside on on ∙ ap (λ (k : ℕ). slice_set (stair_in (block_at m j).unit side m.blocks) k new) number_is in
        let put : block_prices (stair_in (block_at m j).unit side (slice_set m.blocks j new)) ≡ slice_set old (unsigned_abs number - 1) price =
        ap block_prices stair ∙ map-set (λ (b : Block). b.price) (stair_in (block_at m j).unit side m.blocks) (unsigned_abs number - 1) new in
        subst (AllPairs (InOrder side)) (sym put) (order-set side old (unsigned_abs number - 1) price (curves (block_at m j).unit side owner).monotone before after)

    price_order : (other : ℕ) (s : Side) → other < length m.units → AllPairs (InOrder s) (block_prices (stair_in other s (slice_set m.blocks j new)))
    price_order other s h = by (is_on_stair other s (block_at m j)) refl
      where
        by : (t : Bool) → is_on_stair other s (block_at m j) ≡ t → AllPairs (InOrder s) (block_prices (stair_in other s (slice_set m.blocks j new)))
        by true on =
            let of = on_stair other s (block_at m j) on in
            let side_same : side ≡ s = sym side_is ∙ of.1 in
            let own : AllPairs (InOrder side) (block_prices (stair_in (block_at m j).unit side (slice_set m.blocks j new))) =
            own_order (subst (λ (r : Side). is_on_stair (block_at m j).unit r (block_at m j) ≡ true) (sym side_same) (subst (λ (p : ℕ). is_on_stair p s (block_at m j) ≡ true) (sym of.0) on)) in
            subst (λ (r : Side). AllPairs (InOrder r) (block_prices (stair_in other r (slice_set m.blocks j new)))) side_same
            (subst (λ (p : ℕ). AllPairs (InOrder side) (block_prices (stair_in p side (slice_set m.blocks j new)))) of.0 own)
        by false off = subst (λ bs. AllPairs (InOrder s) (block_prices bs)) (sym (stair-set_off other s m.blocks j new none off off)) (curves other s h).monotone

    price_curves : HasOfferCurves (with_price m j price)
    price_curves = λ other s h. record {
      monotone = price_order other s h;
      room = let change = offered-set other s m.blocks j new none inside in let room = (curves other s h).room in Prim.omega (arith, ints, change, room);
    }

  -- ---- a quantity
  quantity_curves : (j : ℕ) (mw : ℤ) → IsMarket (with_quantity m j mw) → HasOfferCurves m → HasOfferCurves (with_quantity m j mw)
  quantity_curves j mw after curves = λ other s h. record {
    monotone = subst (AllPairs (InOrder s)) (sym (stair-prices other s m.blocks j (record (block_at m j) { quantity = mw }) (record { unit = 0; side = Sell; quantity = pos 0; price = pos 0 }) refl refl)) (curves other s h).monotone;
    room = after.room other _ h s;
  }

  -- ---- an edit
  edit_curves : HasOfferCurves m → (e : Edit) → HasOfferCurves (step_of m e)
  edit_curves curves (edit.Price row side number price) = by (place_of_block m row side number) (rival_of m row side number price) refl refl
    where
      by : (o : Option ℕ) (r : Option ℤ) → place_of_block m row side number ≡ o → rival_of m row side number price ≡ r
          → HasOfferCurves (if is_some (if is_some o then option_map (λ other. fault.OutOfOrder other) r else Some fault.NoBlock) then m else option_map_or (λ j. with_price m j price) o m)
      by None r e f = curves
      by (Some j) (Some other) e f = curves
      by (Some j) None e f = price_curves row side number price j e f curves
  edit_curves curves (edit.Quantity row side number mw) = by (place_of_block m row side number) refl
    where
      judged : (j : ℕ) → IsMarket (if is_some (judge_quantity m mw j) then m else with_quantity m j mw) → HasOfferCurves (if is_some (judge_quantity m mw j) then m else with_quantity m j mw)
      judged j kept = by (is_some (judge_quantity m mw j)) kept
        where
          by : (t : Bool) → IsMarket (if t then m else with_quantity m j mw) → HasOfferCurves (if t then m else with_quantity m j mw)
          by true kept = curves
          by false kept = quantity_curves j mw kept curves

      by : (o : Option ℕ) → place_of_block m row side number ≡ o
          → HasOfferCurves (if is_some (option_map_or (judge_quantity m mw) o (Some fault.NoBlock)) then m else option_map_or (λ j. with_quantity m j mw) o m)
      by None e = curves
      by (Some j) e = judged j (quantity_kept m market j mw (block_inside m row side number j e))
  edit_curves curves (edit.Demand number mw) = by (place_of_bus m.buses number)
    where
      by : (o : Option ℕ) → HasOfferCurves (if is_some (if is_some o then None else Some fault.NoBus) then m else option_map_or (λ i. with_demand m i mw) o m)
      by None = curves
      by (Some i) = curves
  edit_curves curves (edit.Limit row post mw) = by (place_of_limit m row post) (lt_z mw (pos 0))
    where
      by : (o : Option ℕ) (negative : Bool)
          → HasOfferCurves (if is_some (if is_some o then (if negative then Some fault.Negative else None) else Some fault.NoLimit) then m else option_map_or (λ l. with_limit m l post mw) o m)
      by None negative = curves
      by (Some l) true = curves
      by (Some l) false = curves
  edit_curves curves (edit.Need mw) = by m.reserve.listed (lt_z mw (pos 0))
    where
      by : (listed negative : Bool) → HasOfferCurves (if is_some (if listed then (if negative then Some fault.Negative else None) else Some fault.NoReserve) then m else with_need m mw)
      by false negative = curves
      by true true = curves
      by true false = curves

pub law_of_offer_curves : LawOfOfferCurves
law_of_offer_curves m e market curves = edit_curves m market curves e

-- ---- edits
pub law_of_edited_curves : LawOfEditedCurves
law_of_edited_curves m [] market small curves = curves
law_of_edited_curves m (e ∷ edits) market small curves =
    law_of_edited_curves (step_of m e) edits (stepped m market e (small 0 e (Prim.omega arith))) (λ i d within. small (suc i) d (Prim.omega (arith, within)))
    (law_of_offer_curves m e market curves)
