-- The offers of some units, of one more, and why there are none.
use Rattle.std.specs.Prelude.{◌≡◌, ℕ, ◌+◌, ◌<◌, ◌≤◌, List, [], ◌∷◌, ◌++◌, length, take}
use Rattle.std.specs.List.{AllZip, Contains}
use Rattle.std.proofs.Common.{arith, ap, sym, ◌∙◌, subst, inl, inr, append_assoc, suc}
use Rattle.std.proofs.lemmas.List.{append-nil, length-append}
use Rattle.std.proofs.lemmas.Slice.Zip.{all_zipped_more, AllZip-long}
use Rattle.record_reading.specs.Records.{Record}
use Rattle.market_data.specs.Scales.{most_blocks}
use Rattle.market_data.specs.declared.participants.Unit as unit
use Rattle.market_data.specs.declared.participants.UnitList.{UnitList}
use Rattle.unit_offers.specs.declared.unit_steps.UnitSteps.{UnitSteps}
use Rattle.unit_offers.specs.declared.offers.UnitOffers.{UnitOffers}
use Rattle.unit_offers.specs.declared.stops.OfferStop.{OfferStop}
use Rattle.unit_offers.specs.declared.stops.OfferStop.TheVariants as stop
use Rattle.unit_offers.specs.Adding.{AreUnitBlocks, IsAddStop, IsUnitStop, IsWithin}
use Rattle.unit_offers.specs.UnitOffers.{AreStepsOf, AreTooMany, AreUnitOffers, IsOfferStop, blocks_from, rounded_in, rounded_of, unit_blocks}

-- ---- blocks of one unit more
blocks-more : (place : ℕ) (each : List UnitSteps) (steps : UnitSteps) → blocks_from place (each ++ steps ∷ []) ≡ blocks_from place each ++ unit_blocks (place + length each) steps
blocks-more place [] steps = append-nil (unit_blocks place steps) ∙ ap (λ n. unit_blocks n steps) (none place)
  where
    none : (n : ℕ) → n ≡ n + 0
    none n = Prim.omega arith
blocks-more place (x ∷ each) steps =
    ap (λ bs. unit_blocks place x ++ bs) (blocks-more (place + 1) each steps ∙ ap (λ n. blocks_from (place + 1) each ++ unit_blocks n steps) (next place (length each)))
    ∙ sym (append_assoc (unit_blocks place x) (blocks_from (place + 1) each) (unit_blocks (place + suc (length each)) steps))
  where
    next : (n m : ℕ) → n + 1 + m ≡ n + suc m
    next n m = Prim.omega arith

rounded-more : (each : List UnitSteps) (steps : UnitSteps) → rounded_of (each ++ steps ∷ []) ≡ rounded_of each + (rounded_in steps.sells + rounded_in steps.bids)
rounded-more [] steps = Prim.omega arith
rounded-more (x ∷ each) steps = let rest = rounded-more each steps in Prim.omega (arith, rest)

-- ---- the offers of some units
pub record AreOffered (costs : List Record) (count : ℕ) (units : List unit.Unit) (offers : UnitOffers) : Type 0 where
  pub steps : List UnitSteps
  pub are : AllZip (AreStepsOf costs count) units steps
  pub blocks : offers.blocks ≡ blocks_from 0 steps
  pub rounded : offers.rounded ≡ rounded_of steps

pub offered-none : (costs : List Record) (count : ℕ) (offers : UnitOffers) → offers.blocks ≡ [] → offers.rounded ≡ 0 → AreOffered costs count [] offers
offered-none costs count offers blocks rounded = record { steps = []; are = tt; blocks = blocks; rounded = rounded }

module _ (costs : List Record) (count : ℕ) (units : List unit.Unit) (place : ℕ) (u : unit.Unit) (old : UnitOffers) (steps : UnitSteps)
    (long : length units ≡ place) (are : AreOffered costs count units old) (more : AreStepsOf costs count u steps) where
  at_place : blocks_from 0 (are.steps ++ steps ∷ []) ≡ old.blocks ++ unit_blocks place steps
  at_place =
      blocks-more 0 are.steps steps
      ∙ ap (λ n. blocks_from 0 are.steps ++ unit_blocks n steps) (from_zero (length are.steps) ∙ AllZip-long (AreStepsOf costs count) units are.steps are.are ∙ long)
      ∙ ap (λ bs. bs ++ unit_blocks place steps) (sym are.blocks)
    where
      from_zero : (n : ℕ) → 0 + n ≡ n
      from_zero n = Prim.omega arith

  zip_more : AllZip (AreStepsOf costs count) (units ++ u ∷ []) (are.steps ++ steps ∷ [])
  zip_more = all_zipped_more (AreStepsOf costs count) units are.steps u steps are.are more

  pub unit-more : (new : UnitOffers) → AreUnitBlocks place steps old new → AreOffered costs count (units ++ u ∷ []) new
  unit-more new added = record {
    steps = are.steps ++ steps ∷ [];
    are = zip_more;
    blocks = added.blocks ∙ sym at_place;
    rounded = let e = rounded-more are.steps steps in Prim.omega (arith, e, added.rounded, are.rounded);
  }

  -- too many blocks of the first units
  pub too-many : (list : UnitList) (k : ℕ) → take k list.units ≡ units ++ u ∷ [] → most_blocks < length old.blocks + length (unit_blocks place steps) → AreTooMany list costs count
  too-many list k first many = record {
    units = k;
    steps = are.steps ++ steps ∷ [];
    are = subst (λ us. AllZip (AreStepsOf costs count) us (are.steps ++ steps ∷ [])) (sym first) zip_more;
    many = let e = ap length at_place ∙ length-append old.blocks (unit_blocks place steps) in Prim.omega (arith, e, many);
  }

  pub add-stop : (list : UnitList) (k : ℕ) (told : OfferStop) → take k list.units ≡ units ++ u ∷ [] → IsAddStop old (length (unit_blocks place steps)) told → IsOfferStop list costs count told
  add-stop list k told first (inl m) = subst (IsOfferStop list costs count) (sym m) tt
  add-stop list k told first (inr (t, many)) = subst (IsOfferStop list costs count) (sym t) (too-many list k first many)

pub unit-stop : (list : UnitList) (costs : List Record) (count : ℕ) (u : unit.Unit) (told : OfferStop) → Contains list.units u → IsUnitStop costs count u told → IsOfferStop list costs count told
unit-stop list costs count u (stop.TooFew rows) c (inl h) = absurd h
unit-stop list costs count u (stop.TooFew rows) c (inr h) = absurd h.3
unit-stop list costs count u (stop.Cost row f) c (inl h) = (u, c, h)
unit-stop list costs count u (stop.Cost row f) c (inr h) = absurd h.3
unit-stop list costs count u (stop.Price row) c (inl h) = absurd h
unit-stop list costs count u (stop.Price row) c (inr h) = (u, c, h.0, h.1, h.2, h.3)
unit-stop list costs count u stop.TooMany c (inl h) = absurd h
unit-stop list costs count u stop.TooMany c (inr h) = absurd h.3
unit-stop list costs count u stop.Memory c h = tt

pub all-offered : (list : UnitList) (costs : List Record) (count : ℕ) (offers : UnitOffers) → list.rows ≤ length costs → AreOffered costs count list.units offers → IsWithin offers → AreUnitOffers list costs count offers
all-offered list costs count offers enough are within = record {
  enough = enough;
  steps = are.steps;
  are = are.are;
  blocks = are.blocks;
  rounded = are.rounded;
  few = within.few;
}
