-- A block of blocks that are in order and have room is taken behind those before it.
use Rattle.std.proofs.Common.{◌≡◌, ℕ, suc, ◌<◌, ℤ, pos, ◌+ℤ◌, Bool, true, false, List, [], ◌∷◌, ◌++◌, length, get_or, arith, refl, ap, subst, ◌∙◌, Option, Some, None}
use Rattle.std.specs.Prelude.{◌≤ℤ◌, AllPairs, filter, if◌then◌else◌}
use Rattle.std.specs.Int.Signed.{lt_z, le_z}
use Rattle.std.specs.List.{AllByRecursion, last_or}
use Rattle.std.proofs.Math.Seq.{get_or-append_seam}
use Rattle.std.proofs.lemmas.Bool.{eq-eqb}
use Rattle.std.proofs.lemmas.Int.{ints}
use Rattle.std.proofs.lemmas.List.{get_or_append_left, length-append, map-append}
use Rattle.std.proofs.lemmas.List.Elements.{filter-append}
use Rattle.market_data.specs.declared.participants.Unit as unit
use Rattle.market_model.specs.declared.participants.Block.{Block}
use Rattle.market_model.specs.declared.participants.Side.{Side}
use Rattle.market_model.specs.declared.participants.Side.TheVariants.{Sell, Buy}
use Rattle.market_model.specs.Stairs.{is_on_stair, offered, room_of, same_side, stair_in}
use Rattle.market_model.proofs.ChangeLemmas.{offered-more, part}
use Rattle.offer_book.specs.EditLaws.{IsOfferCurve, block_prices}
use Rattle.offer_book.specs.Offers.{InOrder, MayFollow}
use Rattle.offer_book.specs.OfferTable.{follows, last_price}

-- ---- whole numbers and tests
pub not-less : (a b : ℤ) → b ≤ℤ a → lt_z a b ≡ false
not-less a b h = grind (arith, ints)

no-more : (a b : ℤ) → a ≤ℤ b → le_z a b ≡ true
no-more a b h = grind (arith, ints)

-- ---- a price that is in order with those before it follows the last of these
follows-from : (side : Side) (a b : ℤ) → InOrder side a b → follows side (Some a) b ≡ true
follows-from Sell a b h = no-more a b h
follows-from Buy a b h = no-more b a h

follows-last : (side : Side) (price : ℤ) (o : Option ℤ) (ps : List ℤ) → MayFollow side o price → ((k : ℕ) (d : ℤ) → k < length ps → InOrder side (get_or ps k d) price) → follows side (last_or o ps) price ≡ true
follows-last side price None [] first order = refl
follows-last side price (Some a) [] first order = follows-from side a price first
follows-last side price o (x ∷ ps) first order = follows-last side price (Some x) ps (order 0 x (omega arith)) (λ k d lt. order (suc k) d (omega (arith, lt)))

follows-front : (side : Side) (price : ℤ) (ps qs : List ℤ) → AllPairs (InOrder side) (ps ++ price ∷ qs) → follows side (last_or None ps) price ≡ true
follows-front side price ps qs order =
    follows-last side price None ps tt (λ k d lt.
    let within : length ps < length (ps ++ price ∷ qs) = omega (arith, length-append ps (price ∷ qs)) in
    subst (λ (a : ℤ). InOrder side a price) (get_or_append_left ps (price ∷ qs) d k lt)
    (subst (InOrder side (get_or (ps ++ price ∷ qs) k d)) (get_or-append_seam ps price qs d) (order k (length ps) d lt within)))

-- ---- stairs of blocks before and behind
pub offered-join : (place : ℕ) (side : Side) (xs ys : List Block) → offered (stair_in place side (xs ++ ys)) ≡ offered (stair_in place side xs) +ℤ offered (stair_in place side ys)
unfolding stair_in
offered-join place side [] ys = omega (arith, ints)
offered-join place side (x ∷ xs) ys =
    let one = offered-more place side x (xs ++ ys) in
    let two = offered-more place side x xs in
    let rest = offered-join place side xs ys in
    omega (arith, ints, one, two, rest)

part-least : (t : Bool) (q : ℤ) → pos 0 ≤ℤ q → pos 0 ≤ℤ (if t then q else pos 0)
part-least true q h = h
part-least false q h = omega (arith, ints)

offered-least : (place : ℕ) (side : Side) (blocks : List Block) → AllByRecursion (λ block. pos 0 ≤ℤ block.quantity) blocks → pos 0 ≤ℤ offered (stair_in place side blocks)
unfolding stair_in
offered-least place side [] least = omega (arith, ints)
offered-least place side (b ∷ blocks) least =
    let more = offered-more place side b blocks in
    let here = part-least (is_on_stair place side b) b.quantity least.0 in
    let rest = offered-least place side blocks least.1 in
    omega (arith, ints, more, here, rest)

side-same : (side : Side) → same_side side side ≡ true
side-same Sell = refl
side-same Buy = refl

on-own : (block : Block) → is_on_stair block.unit block.side block ≡ true
on-own block = rw (eq-eqb block.unit block.unit refl, side-same block.side) refl

own-stair : (done rest : List Block) (block : Block) → stair_in block.unit block.side (done ++ block ∷ rest) ≡ stair_in block.unit block.side done ++ block ∷ stair_in block.unit block.side rest
unfolding stair_in
own-stair done rest block =
    let p = is_on_stair block.unit block.side in
    filter-append p done (block ∷ rest) ∙ ap (λ (t : Bool). filter p done ++ (if t then block ∷ filter p rest else filter p rest)) (on-own block)

-- ---- the two rules
module _ (u : unit.Unit) (done rest : List Block) (block : Block) (curve : IsOfferCurve u block.side (stair_in block.unit block.side (done ++ block ∷ rest))) where
  pub block-follows : follows block.side (last_price (stair_in block.unit block.side done)) block.price ≡ true
  block-follows =
      let prices : block_prices (stair_in block.unit block.side (done ++ block ∷ rest)) ≡ block_prices (stair_in block.unit block.side done) ++ block.price ∷ block_prices (stair_in block.unit block.side rest) =
      ap block_prices (own-stair done rest block) ∙ map-append (λ (b : Block). b.price) (stair_in block.unit block.side done) (block ∷ stair_in block.unit block.side rest) in
      follows-front block.side block.price (block_prices (stair_in block.unit block.side done)) (block_prices (stair_in block.unit block.side rest)) (subst (AllPairs (InOrder block.side)) prices curve.monotone)

  pub block-fits : AllByRecursion (λ b. pos 0 ≤ℤ b.quantity) rest → (offered (stair_in block.unit block.side done) +ℤ block.quantity) ≤ℤ room_of block.side u
  block-fits least =
      let join = offered-join block.unit block.side done (block ∷ rest) in
      let more = offered-more block.unit block.side block rest in
      let own : part block.unit block.side block ≡ block.quantity = ap (λ (t : Bool). if t then block.quantity else pos 0) (on-own block) in
      let behind = offered-least block.unit block.side rest least in
      let room = curve.room in
      omega (arith, ints, join, more, own, behind, room)
