-- The blocks of a unit's side among the offers of all, and what they keep.
use Rattle.std.specs.Prelude.{◌≡◌, ◌≢◌, ℕ, ◌+◌, ◌<◌, ◌≤◌, ◌&&◌, ℤ, pos, ◌+ℤ◌, ◌-ℤ◌, ◌≤ℤ◌, ◌<ℤ◌, Bool, true, false, cond, List, [], ◌∷◌, ◌++◌, length, map, filter, All, AllPairs}
use Rattle.std.specs.List.{AllZip}
use Rattle.std.proofs.Common.{zero, suc, arith, ap, sym, ◌∙◌, subst, subst₂, refl, get_or}
use Rattle.std.proofs.lemmas.Int.{ints}
use Rattle.std.proofs.lemmas.Bool.{eq-eqb, ne_eqb}
use Rattle.std.proofs.lemmas.List.{append-nil, get_or-map, length-map}
use Rattle.std.proofs.lemmas.List.Elements.{All-append, All-cons, All-head, All-nil, All-tail, filter-append}
use Rattle.std.proofs.lemmas.Slice.Zip.{AllZip-long}
use Rattle.record_reading.specs.Records.{Record}
use Rattle.market_data.specs.WholeSums.{int_sum}
use Rattle.market_data.specs.declared.participants.Unit as unit
use Rattle.market_data.specs.declared.participants.UnitList.{UnitList}
use Rattle.market_model.specs.declared.participants.Block.{Block}
use Rattle.market_model.specs.declared.participants.Side.{Side}
use Rattle.market_model.specs.declared.participants.Side.TheVariants.{Sell, Buy}
use Rattle.market_model.specs.Market.{IsBlock}
use Rattle.market_model.specs.Stairs.{is_on_stair, offered, room_of, same_side, stair_in}
use Rattle.market_model.proofs.ChangeLemmas.{same_default}
use Rattle.cost_steps.specs.declared.steps.Step.{Step}
use Rattle.cost_steps.specs.Parts.{Part}
use Rattle.cost_steps.specs.Steps.{AreInOrder, IsStepOf}
use Rattle.offer_book.specs.EditLaws.{block_prices, IsOfferCurve}
use Rattle.offer_book.specs.Offers.{InOrder}
use Rattle.offer_book.specs.OfferTable.{unit_of_place}
use Rattle.unit_offers.specs.declared.unit_steps.UnitSteps.{UnitSteps}
use Rattle.unit_offers.specs.declared.offers.UnitOffers.{UnitOffers}
use Rattle.unit_offers.specs.UnitOffers.{AreSideSteps, AreStepsOf, AreUnitOffers, block_of, blocks_from, range_of, side_parts, unit_blocks}
use Rattle.unit_offers.specs.OfferLaws.{LawOfUnitOffers}

abbrev steps_on : Side → UnitSteps → List Step
steps_on Sell steps = steps.sells
steps_on Buy steps = steps.bids

-- ---- blocks of a stair
module _ (test : Block → Bool) (f : Step → Block) where
  all-kept : ((step : Step) → test (f step) ≡ true) → (steps : List Step) → filter test (map f steps) ≡ map f steps
  all-kept on [] = refl
  all-kept on (x ∷ xs) = ap (λ (b : Bool). cond b (f x ∷ filter test (map f xs)) (filter test (map f xs))) (on x) ∙ ap (λ bs. f x ∷ bs) (all-kept on xs)

  none-kept : ((step : Step) → test (f step) ≡ false) → (steps : List Step) → filter test (map f steps) ≡ []
  none-kept off [] = refl
  none-kept off (x ∷ xs) = ap (λ (b : Bool). cond b (f x ∷ filter test (map f xs)) (filter test (map f xs))) (off x) ∙ none-kept off xs

module _ (place : ℕ) (side : Side) where
  on-place : (n : ℕ) (s : Side) → n ≡ place → same_side s side ≡ true → (step : Step) → is_on_stair place side (block_of n s step) ≡ true
  on-place n s e same step = ap (λ (b : Bool). b && same_side s side) (eq-eqb n place e) ∙ same

  off-place : (n : ℕ) (s : Side) → n ≢ place → (step : Step) → is_on_stair place side (block_of n s step) ≡ false
  off-place n s e step = ap (λ (b : Bool). b && same_side s side) (ne_eqb n place e)

  off-side : (n : ℕ) (s : Side) → n ≡ place → same_side s side ≡ false → (step : Step) → is_on_stair place side (block_of n s step) ≡ false
  off-side n s e other step = ap (λ (b : Bool). b && same_side s side) (eq-eqb n place e) ∙ other

  stair-append : (xs ys : List Block) → stair_in place side (xs ++ ys) ≡ stair_in place side xs ++ stair_in place side ys
  unfolding stair_in
  stair-append xs ys = filter-append (is_on_stair place side) xs ys

  same-stair : (n : ℕ) (s : Side) (steps : List Step) → n ≡ place → same_side s side ≡ true → stair_in place side (map (block_of n s) steps) ≡ map (block_of n s) steps
  unfolding stair_in
  same-stair n s steps e same = all-kept (is_on_stair place side) (block_of n s) (on-place n s e same) steps

  side-stair : (n : ℕ) (s : Side) (steps : List Step) → n ≡ place → same_side s side ≡ false → stair_in place side (map (block_of n s) steps) ≡ []
  unfolding stair_in
  side-stair n s steps e other = none-kept (is_on_stair place side) (block_of n s) (off-side n s e other) steps

  other-stair : (n : ℕ) (s : Side) (steps : List Step) → n ≢ place → stair_in place side (map (block_of n s) steps) ≡ []
  unfolding stair_in
  other-stair n s steps e = none-kept (is_on_stair place side) (block_of n s) (off-place n s e) steps

  none-on-stair : stair_in place side [] ≡ []
  unfolding stair_in
  none-on-stair = refl

  other-unit : (n : ℕ) (steps : UnitSteps) → n ≢ place → stair_in place side (unit_blocks n steps) ≡ []
  other-unit n steps e = stair-append (map (block_of n Sell) steps.sells) (map (block_of n Buy) steps.bids)
      ∙ ap (λ bs. bs ++ stair_in place side (map (block_of n Buy) steps.bids)) (other-stair n Sell steps.sells e) ∙ other-stair n Buy steps.bids e

  -- the blocks of later units
  later-units : (n : ℕ) (each : List UnitSteps) → place < n → stair_in place side (blocks_from n each) ≡ []
  later-units n [] h = none-on-stair
  later-units n (x ∷ each) h = stair-append (unit_blocks n x) (blocks_from (n + 1) each)
      ∙ ap (λ bs. bs ++ stair_in place side (blocks_from (n + 1) each)) (other-unit n x (λ e. Prim.omega (arith, h, e))) ∙ later-units (n + 1) each (Prim.omega (arith, h))

own-unit : (place : ℕ) (side : Side) (steps : UnitSteps) → stair_in place side (unit_blocks place steps) ≡ map (block_of place side) (steps_on side steps)
own-unit place Sell steps = stair-append place Sell (map (block_of place Sell) steps.sells) (map (block_of place Buy) steps.bids)
    ∙ ap (λ bs. bs ++ stair_in place Sell (map (block_of place Buy) steps.bids)) (same-stair place Sell place Sell steps.sells refl refl)
    ∙ ap (λ bs. map (block_of place Sell) steps.sells ++ bs) (side-stair place Sell place Buy steps.bids refl refl) ∙ append-nil (map (block_of place Sell) steps.sells)
own-unit place Buy steps = stair-append place Buy (map (block_of place Sell) steps.sells) (map (block_of place Buy) steps.bids)
    ∙ ap (λ bs. bs ++ stair_in place Buy (map (block_of place Buy) steps.bids)) (side-stair place Buy place Sell steps.sells refl refl)
    ∙ same-stair place Buy place Buy steps.bids refl refl

-- the blocks of the unit of a place, so many places behind the first
unit-stair : (side : Side) (n i : ℕ) (each : List UnitSteps) (d : UnitSteps) → i < length each → stair_in (n + i) side (blocks_from n each) ≡ map (block_of (n + i) side) (steps_on side (get_or each i d))
unit-stair side n i [] d h = absurd (Prim.omega (arith, h))
unit-stair side n zero (x ∷ each) d h = subst (λ p. stair_in p side (unit_blocks n x ++ blocks_from (n + 1) each) ≡ map (block_of p side) (steps_on side x)) (none n)
    (stair-append n side (unit_blocks n x) (blocks_from (n + 1) each)
    ∙ ap (λ bs. stair_in n side (unit_blocks n x) ++ bs) (later-units n side (n + 1) each (Prim.omega arith)) ∙ append-nil (stair_in n side (unit_blocks n x)) ∙ own-unit n side x)
  where
    none : (n : ℕ) → n ≡ n + 0
    none n = Prim.omega arith
unit-stair side n (suc i) (x ∷ each) d h =
    stair-append (n + suc i) side (unit_blocks n x) (blocks_from (n + 1) each)
    ∙ ap (λ bs. bs ++ stair_in (n + suc i) side (blocks_from (n + 1) each)) (other-unit (n + suc i) side n x (λ e. Prim.omega (arith, e)))
    ∙ subst (λ p. stair_in p side (blocks_from (n + 1) each) ≡ map (block_of p side) (steps_on side (get_or each i d))) (next n i) (unit-stair side (n + 1) i each d (Prim.omega (arith, h)))
  where
    next : (n i : ℕ) → n + 1 + i ≡ n + suc i
    next n i = Prim.omega arith

-- ---- what a side's blocks keep
zip-at : {A B : Type 0} (R : A → B → Type 0) (xs : List A) (ys : List B) (i : ℕ) (a : A) (b : B) → AllZip R xs ys → i < length xs → R (get_or xs i a) (get_or ys i b)
zip-at R [] [] i a b h lt = absurd (Prim.omega (arith, lt))
zip-at R [] (y ∷ ys) i a b h lt = absurd h
zip-at R (x ∷ xs) [] i a b h lt = absurd h
zip-at R (x ∷ xs) (y ∷ ys) zero a b h lt = h.0
zip-at R (x ∷ xs) (y ∷ ys) (suc i) a b h lt = zip-at R xs ys i a b h.1 (Prim.omega (arith, lt))

offered-steps : (place : ℕ) (side : Side) (steps : List Step) → offered (map (block_of place side) steps) ≡ int_sum (λ step. step.quantity) steps
offered-steps place side [] = refl
offered-steps place side (x ∷ xs) = ap (λ t. x.quantity +ℤ t) (offered-steps place side xs)

prices-of : (place : ℕ) (side : Side) (steps : List Step) → block_prices (map (block_of place side) steps) ≡ map (λ (step : Step). step.price) steps
prices-of place side [] = refl
prices-of place side (x ∷ xs) = ap (λ ps. x.price ∷ ps) (prices-of place side xs)

no_step : Step
no_step = record { quantity = pos 0; price = pos 0; exact = false }

mapped-order : (R : ℤ → ℤ → Type 0) (steps : List Step) → AllPairs (λ first second. R first.price second.price) steps → AllPairs R (map (λ (step : Step). step.price) steps)
mapped-order R steps pairs i j d p q =
    let lt : j < length steps = Prim.omega (arith, q, length-map steps (λ (step : Step). step.price)) in
    subst₂ R (sym (get_or-map (λ (step : Step). step.price) steps i no_step d (Prim.omega (arith, p, lt)))) (sym (get_or-map (λ (step : Step). step.price) steps j no_step d lt)) (pairs i j no_step p lt)

side-order : (side : Side) (u : unit.Unit) (steps : List Step) → AreInOrder (range_of side u).way steps → AllPairs (InOrder side) (map (λ (step : Step). step.price) steps)
side-order Sell u steps order = mapped-order (InOrder Sell) steps order
side-order Buy u steps order = mapped-order (InOrder Buy) steps order

side-room : (side : Side) (u : unit.Unit) → (range_of side u).high -ℤ (range_of side u).low ≡ room_of side u
side-room Sell u = up u.fixed u.up
  where
    up : (x y : ℤ) → (x +ℤ y) -ℤ x ≡ y
    up x y = Prim.omega (arith, ints)
side-room Buy u = down u.fixed u.down
  where
    down : (x y : ℤ) → x -ℤ (x -ℤ y) ≡ y
    down x y = Prim.omega (arith, ints)

side-steps : (costs : List Record) (count : ℕ) (side : Side) (u : unit.Unit) (steps : UnitSteps) → (is : AreStepsOf costs count u steps) → AreSideSteps count is.cost u side (steps_on side steps)
side-steps costs count Sell u steps is = is.sells
side-steps costs count Buy u steps is = is.bids

-- ---- each block
step-blocks : (units place : ℕ) (side : Side) (parts : List Part) (steps : List Step) → place < units → AllZip IsStepOf parts steps → All (λ step. pos 0 <ℤ step.quantity) steps → All (IsBlock units) (map (block_of place side) steps)
step-blocks units place side [] [] lt zip above = All-nil (IsBlock units)
step-blocks units place side [] (s ∷ steps) lt zip above = absurd zip
step-blocks units place side (p ∷ parts) [] lt zip above = absurd zip
step-blocks units place side (p ∷ parts) (s ∷ steps) lt zip above = All-cons (IsBlock units) (block_of place side s) (map (block_of place side) steps)
    (record { unit = lt; quantity = least s.quantity (All-head (λ step. pos 0 <ℤ step.quantity) s steps above); price = zip.0.fits })
    (step-blocks units place side parts steps lt zip.1 (All-tail (λ step. pos 0 <ℤ step.quantity) s steps above))
  where
    least : (x : ℤ) → pos 0 <ℤ x → pos 0 ≤ℤ x
    least x h = Prim.omega (arith, ints, h)

are-blocks : (costs : List Record) (count n first : ℕ) (units : List unit.Unit) (each : List UnitSteps) → first + length units ≤ n → AllZip (AreStepsOf costs count) units each → All (IsBlock n) (blocks_from first each)
are-blocks costs count n first [] [] h zip = All-nil (IsBlock n)
are-blocks costs count n first [] (s ∷ each) h zip = absurd zip
are-blocks costs count n first (u ∷ units) [] h zip = absurd zip
are-blocks costs count n first (u ∷ units) (s ∷ each) h zip =
    let is = zip.0 in
    All-append (IsBlock n) (unit_blocks first s) (blocks_from (first + 1) each)
    (All-append (IsBlock n) (map (block_of first Sell) s.sells) (map (block_of first Buy) s.bids)
    (step-blocks n first Sell (side_parts count is.cost u Sell) s.sells (Prim.omega (arith, h)) is.sells.are is.sells.go.above)
    (step-blocks n first Buy (side_parts count is.cost u Buy) s.bids (Prim.omega (arith, h)) is.bids.are is.bids.go.above))
    (are-blocks costs count n (first + 1) units each (Prim.omega (arith, h)) zip.1)

-- ---- the law
module _ (list : UnitList) (costs : List Record) (count : ℕ) (offers : UnitOffers) (is : AreUnitOffers list costs count offers) (place : ℕ) (side : Side) (lt : place < length list.units) where
  no_steps : UnitSteps
  no_steps = record { sells = []; bids = [] }

  abbrev u : unit.Unit
  u = unit_of_place list.units place

  abbrev own : UnitSteps
  own = get_or is.steps place no_steps

  own-are : AreStepsOf costs count u own
  own-are = zip-at (AreStepsOf costs count) list.units is.steps place _ no_steps is.are lt

  stair-is : stair_in place side offers.blocks ≡ map (block_of place side) (steps_on side own)
  stair-is = ap (stair_in place side) is.blocks ∙ subst (λ p. stair_in p side (blocks_from 0 is.steps) ≡ map (block_of p side) (steps_on side own)) (from_zero place)
      (unit-stair side 0 place is.steps no_steps (subst (λ n. place < n) (sym (AllZip-long (AreStepsOf costs count) list.units is.steps is.are)) lt))
    where
      from_zero : (n : ℕ) → 0 + n ≡ n
      from_zero n = Prim.omega arith

  pub all-room : offered (stair_in place side offers.blocks) ≡ room_of side u
  all-room = ap offered stair-is ∙ offered-steps place side (steps_on side own) ∙ (side-steps costs count side u own own-are).go.total ∙ side-room side u

  pub curve : IsOfferCurve u side (stair_in place side offers.blocks)
  curve = record {
    monotone = subst (AllPairs (InOrder side)) (sym (ap block_prices stair-is ∙ prices-of place side (steps_on side own))) (side-order side u (steps_on side own) (side-steps costs count side u own own-are).go.order);
    room = subst (λ t. t ≤ℤ room_of side u) (sym all-room) (itself (room_of side u));
  }
    where
      itself : (x : ℤ) → x ≤ℤ x
      itself x = Prim.omega (arith, ints)

pub offer_blocks : LawOfUnitOffers
offer_blocks list costs count offers is = record {
  are = record {
    count = is.few;
    blocks = subst (All (IsBlock (length list.units))) (sym is.blocks) (are-blocks costs count (length list.units) 0 list.units is.steps (Prim.omega arith) is.are);
  };
  room = λ place d lt side. subst (λ (u : unit.Unit). offered (stair_in place side offers.blocks) ≤ℤ room_of side u) (same_default list.units place _ d lt) (curve list costs count offers is place side lt).room;
  curves = λ place side lt. curve list costs count offers is place side lt;
  all = λ place side lt. all-room list costs count offers is place side lt;
}
