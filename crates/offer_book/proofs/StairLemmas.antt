-- A stair with one block more.
use Rattle.std.proofs.Common.{◌≡◌, ℕ, ◌+◌, ◌<◌, ℤ, pos, ◌+ℤ◌, List, [], ◌∷◌, ◌++◌, take, length, get_or, arith, map, refl, append-nil, Option, Some, None, Bool, true, false}
use Rattle.std.proofs.lemmas.Int.{ints}
use Rattle.std.proofs.lemmas.List.Elements.{filter_more}
use Rattle.std.specs.Prelude.{filter, if◌then◌else◌}
use Rattle.std.specs.List.{last_or}
use Rattle.market_model.specs.declared.participants.Block.{Block}
use Rattle.market_model.specs.declared.participants.Side.{Side}
use Rattle.market_model.specs.Stairs.{is_on_stair, stair_in, offered}
use Rattle.offer_book.specs.OfferTable.{last_price, ends_of}

pub offered-push : (blocks : List Block) (block : Block) → offered (blocks ++ block ∷ []) ≡ offered blocks +ℤ block.quantity
offered-push [] block = Prim.omega (arith, ints)
offered-push (b ∷ blocks) block = let rest = offered-push blocks block in Prim.omega (arith, ints)

last_or-push : (o : Option ℤ) (blocks : List Block) (block : Block) → last_or o (map (λ b. b.price) (blocks ++ block ∷ [])) ≡ Some block.price
last_or-push o [] block = refl
last_or-push o (b ∷ blocks) block = last_or-push (Some b.price) blocks block

pub last_price-push : (blocks : List Block) (block : Block) → last_price (blocks ++ block ∷ []) ≡ Some block.price
last_price-push blocks block = last_or-push None blocks block

pub ends_of-none : (place : ℕ) (side : Side) → ends_of (stair_in place side []) ≡ record { sum = pos 0; last = None }
unfolding stair_in
ends_of-none place side = refl

-- a block of the stair is its last one, and another block leaves the stair as it is
pub ends_of-more : (place : ℕ) (side : Side) (blocks : List Block) (i : ℕ) (d : Block) → i < length blocks
    → ends_of (stair_in place side (take (i + 1) blocks))
    ≡ (if is_on_stair place side (get_or blocks i d)
    then (record { sum = offered (stair_in place side (take i blocks)) +ℤ (get_or blocks i d).quantity; last = Some (get_or blocks i d).price })
    else ends_of (stair_in place side (take i blocks)))
unfolding stair_in
ends_of-more place side blocks i d lt =
    rw (filter_more (is_on_stair place side) blocks i d lt) (by (filter (is_on_stair place side) (take i blocks)) (get_or blocks i d) (is_on_stair place side (get_or blocks i d)))
  where
    by : (stair : List Block) (block : Block) (belongs : Bool) → ends_of (stair ++ (if belongs then block ∷ [] else []))
        ≡ (if belongs then (record { sum = offered stair +ℤ block.quantity; last = Some block.price }) else ends_of stair)
    by stair block true = rw (offered-push stair block, last_price-push stair block) refl
    by stair block false = rw (append-nil stair) refl
