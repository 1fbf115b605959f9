-- What a side's blocks would offer beyond a room, with one quantity replaced by another.
use Rattle.std.specs.Prelude.{◌≡◌, ℕ, ◌<◌, ◌^◌, ◌&&◌, ℤ, pos, ◌+ℤ◌, ◌-ℤ◌, ◌≤ℤ◌, Bool, true, List, unsigned_abs, length, slice_set, refl, if◌then◌else◌}
use Rattle.std.proofs.Common.{arith, get_or, ap, sym, ◌∙◌, w64}
use Rattle.std.proofs.lemmas.Bool.{eq-eqb}
use Rattle.std.proofs.lemmas.Int.{ints}
use mir.Syntax.{w128}
use mir.Val.{SFits}
use Rattle.market_data.specs.declared.participants.Unit as unit
use Rattle.market_model.specs.declared.participants.Block.{Block}
use Rattle.market_model.specs.declared.participants.Parts.{Parts}
use Rattle.market_model.specs.declared.participants.Side.{Side}
use Rattle.market_model.specs.declared.participants.Side.TheVariants.{Sell, Buy}
use Rattle.market_model.specs.Changes.{with_quantity}
use Rattle.market_model.specs.Dispatch.{unit_at, block_at}
use Rattle.market_model.specs.Stairs.{same_side, is_on_stair, stair_in, offered, room_of}
use Rattle.market_model.proofs.ChangeLemmas.{offered-set, part}
use Rattle.offer_book.specs.Edits.{over_capacity}

-- ---- no step passes 128 bits
module _ (sum old new room : ℤ) (small : unsigned_abs sum < 2 ^ 80) (old_fits : SFits w64 old) (new_fits : SFits w64 new) (room_fits : SFits w64 room) where
  pub without_fits : SFits w128 (sum -ℤ old)
  without_fits = Prim.omega (arith, ints)

  pub replaced_fits : SFits w128 ((sum -ℤ old) +ℤ new)
  replaced_fits = Prim.omega (arith, ints)

  pub excess_fits : SFits w128 (((sum -ℤ old) +ℤ new) -ℤ room)
  excess_fits = Prim.omega (arith, ints)

-- ---- a block of a stair with another quantity
same_side-refl : (side : Side) → same_side side side ≡ true
same_side-refl Sell = refl
same_side-refl Buy = refl

own_part : (b : Block) → part b.unit b.side b ≡ b.quantity
own_part b =
    let own : is_on_stair b.unit b.side b ≡ true = ap (λ (t : Bool). t && same_side b.side b.side) (eq-eqb b.unit b.unit refl) ∙ same_side-refl b.side in
    ap (λ (t : Bool). if t then b.quantity else pos 0) own

pub offered-replaced : (blocks : List Block) (j : ℕ) (mw : ℤ) (d : Block) → j < length blocks
    → offered (stair_in (get_or blocks j d).unit (get_or blocks j d).side (slice_set blocks j (record (get_or blocks j d) { quantity = mw })))
    ≡ (offered (stair_in (get_or blocks j d).unit (get_or blocks j d).side blocks) -ℤ (get_or blocks j d).quantity) +ℤ mw
offered-replaced blocks j mw d inside = by (get_or blocks j d) (record (get_or blocks j d) { quantity = mw }) _ _ refl (offered-set _ _ blocks j _ d inside)
  where
    by : (b b' : Block) (after before : ℤ) → b' ≡ record b { quantity = mw } → after +ℤ part b.unit b.side b ≡ before +ℤ part b.unit b.side b' → after ≡ (before -ℤ b.quantity) +ℤ mw
    by b b' after before e h =
        let old = own_part b in
        let new : part b.unit b.side b' ≡ mw = ap (part b.unit b.side) e ∙ own_part (record b { quantity = mw }) in
        Prim.omega (arith, ints, old, new, h)

-- by how much blocks are over the capacity, from what is read of a market
pub over_capacity-is : (m : Parts) (j : ℕ) (mw sum room : ℤ) (block : Block) (u : unit.Unit) → j < length m.blocks → block ≡ block_at m j → u ≡ unit_at m block.unit
    → sum ≡ offered (stair_in block.unit block.side m.blocks) → room ≡ room_of block.side u → ((sum -ℤ block.quantity) +ℤ mw) -ℤ room ≡ over_capacity m j mw
unfolding over_capacity
over_capacity-is m j mw sum room block u inside at here all rooms =
    ap (λ (r : ℤ). ((sum -ℤ block.quantity) +ℤ mw) -ℤ r) (rooms ∙ ap (room_of block.side) here)
    ∙ ap (λ (s : ℤ). ((s -ℤ block.quantity) +ℤ mw) -ℤ room_of block.side (unit_at m block.unit)) all
    ∙ ap (λ (b : Block). ((offered (stair_in b.unit b.side m.blocks) -ℤ b.quantity) +ℤ mw) -ℤ room_of b.side (unit_at m b.unit)) at
    ∙ ap (λ (s : ℤ). s -ℤ room_of (block_at m j).side (unit_at m (block_at m j).unit)) (sym (offered-replaced m.blocks j mw _ inside))

-- where they are not, the blocks are within the room
pub within_room : (m : Parts) (j : ℕ) (mw : ℤ) → over_capacity m j mw ≤ℤ pos 0
    → offered (stair_in (block_at m j).unit (block_at m j).side (with_quantity m j mw).blocks) ≤ℤ room_of (block_at m j).side (unit_at m (block_at m j).unit)
unfolding over_capacity
within_room m j mw none = Prim.omega (arith, ints)
