-- The blocks of a table have room in their units.
use Rattle.std.specs.Prelude.{◌≡◌, ◌==◌, ◌<◌, ◌≤ℤ◌, ◌+ℤ◌, ℕ, ◌+◌, ℤ, pos, Bool, true, false, not, List, [], ◌∷◌, ◌++◌, length, All, Option, Some, None, Ok, Err, slice_index_or, if◌then◌else◌, refl}
use Rattle.std.specs.List.{position}
use Rattle.std.specs.Int.Signed.{lt_z, lt_z_no}
use Rattle.std.proofs.Common.{arith, sym, ap, ◌∙◌, subst, append-nil}
use Rattle.std.proofs.lemmas.Int.{ints}
use Rattle.std.proofs.lemmas.List.Quantifiers.{position-Some}
use Rattle.record_reading.specs.Records.{Record}
use Rattle.record_reading.specs.Steps.{and_then}
use Rattle.record_reading.proofs.StepLemmas.{ok-same, some-ok, then-ok}
use Rattle.record_reading.specs.Gathering.{listed, gather}
use Rattle.market_data.specs.declared.participants.Unit as unit
use Rattle.market_data.specs.declared.participants.UnitList.{UnitList}
use Rattle.market_model.specs.declared.participants.Block.{Block}
use Rattle.market_model.specs.declared.participants.Side.{Side}
use Rattle.market_model.specs.declared.participants.Side.TheVariants.{Sell, Buy}
use Rattle.market_model.specs.Market.{HaveRoom}
use Rattle.market_model.specs.Stairs.{is_on_stair, stair_in, offered, room_of}
use Rattle.market_model.proofs.ChangeLemmas.{part, offered-push, on_stair, same_default}
use Rattle.offer_book.specs.declared.offer_table.Offer.{Offer}
use Rattle.offer_book.specs.declared.offer_table.OfferFault.TheVariants as fault
use Rattle.offer_book.specs.Offers.{HasSides}
use Rattle.offer_book.specs.OfferTable.{offer_in, row_in, block_after, block_where, block_in, unit_of_place, follows, last_price}

not_less : (a b : ℤ) → lt_z a b ≡ false → b ≤ℤ a
not_less a b e = lt_z_no {a = a} {b = b} (Prim.rw e tt)

-- a block that is taken is of its unit and side, and has room behind the stair
pub record IsTaken (u : unit.Unit) (stair : List Block) (place : ℕ) (s : Side) (block : Block) : Type 0 where
  pub unit : block.unit ≡ place
  pub side : block.side ≡ s
  pub room : (offered stair +ℤ block.quantity) ≤ℤ room_of s u

taken : (u : unit.Unit) (stair : List Block) (place line : ℕ) (offer : Offer) (block : Block) → block_after u stair place line offer ≡ Ok block → IsTaken u stair place offer.side block
unfolding block_after
taken u stair place line offer block e = by (lt_z offer.quantity (pos 0)) (not (follows offer.side (last_price stair) offer.price)) (lt_z (room_of offer.side u) (offered stair +ℤ offer.quantity)) refl e
  where
    made : Block
    made = record { unit = place; side = offer.side; quantity = offer.quantity; price = offer.price }

    by : (a b c : Bool) → c ≡ lt_z (room_of offer.side u) (offered stair +ℤ offer.quantity)
        → (if a then Err (fault.Negative line) else if b then Err (fault.OutOfOrder line) else if c then Err (fault.OverCapacity line) else Ok (record { unit = place; side = offer.side; quantity = offer.quantity; price = offer.price })) ≡ Ok block
        → IsTaken u stair place offer.side block
    by true b c is h = absurd Prim.cc
    by false true c is h = absurd Prim.cc
    by false false true is h = absurd Prim.cc
    by false false false is h =
        let same : (record { unit = place; side = offer.side; quantity = offer.quantity; price = offer.price }) ≡ block = ok-same _ block h in
        subst (IsTaken u stair place offer.side) same (record { unit = refl; side = refl; room = not_less (room_of offer.side u) (offered stair +ℤ offer.quantity) (sym is) })

-- ---- a record more
room-more : (units : List unit.Unit) (blocks : List Block) (place line : ℕ) (offer : Offer) (block : Block) → place < length units
    → block_after (unit_of_place units place) (stair_in place offer.side blocks) place line offer ≡ Ok block → HaveRoom units blocks → HaveRoom units (blocks ++ block ∷ [])
room-more units blocks place line offer block inside e room other d h side = by (is_on_stair other side block) refl
  where
    is : IsTaken (unit_of_place units place) (stair_in place offer.side blocks) place offer.side block
    is = taken (unit_of_place units place) (stair_in place offer.side blocks) place line offer block e

    pushed : offered (stair_in other side (blocks ++ block ∷ [])) ≡ offered (stair_in other side blocks) +ℤ part other side block
    pushed = offered-push other side blocks block

    by : (t : Bool) → t ≡ is_on_stair other side block → offered (stair_in other side (blocks ++ block ∷ [])) ≤ℤ room_of side (slice_index_or units other d)
    by true on =
        let at = on_stair other side block (sym on) in
        let place_is : place ≡ other = sym is.unit ∙ at.0 in
        let side_is : offer.side ≡ side = sym is.side ∙ at.1 in
        let sum : offered (stair_in other side (blocks ++ block ∷ [])) ≡ offered (stair_in other side blocks) +ℤ block.quantity =
        pushed ∙ ap (λ (t : Bool). offered (stair_in other side blocks) +ℤ (if t then block.quantity else pos 0)) (sym on) in
        let fits : (offered (stair_in other side blocks) +ℤ block.quantity) ≤ℤ room_of side (slice_index_or units other d) =
        subst (λ (u : unit.Unit). (offered (stair_in other side blocks) +ℤ block.quantity) ≤ℤ room_of side u) (same_default units other _ d h)
        (subst (λ (s : Side). (offered (stair_in other s blocks) +ℤ block.quantity) ≤ℤ room_of s (unit_of_place units other)) side_is
        (subst (λ (p : ℕ). (offered (stair_in p offer.side blocks) +ℤ block.quantity) ≤ℤ room_of offer.side (unit_of_place units p)) place_is is.room)) in
        subst (λ t. t ≤ℤ room_of side (slice_index_or units other d)) (sym sum) fits
    by false off =
        let before = room other d h side in
        let sum : offered (stair_in other side (blocks ++ block ∷ [])) ≡ offered (stair_in other side blocks) +ℤ pos 0 =
        pushed ∙ ap (λ (t : Bool). offered (stair_in other side blocks) +ℤ (if t then block.quantity else pos 0)) (sym off) in
        Prim.omega (arith, ints, before, sum)

room-where : (units : List unit.Unit) (blocks : List Block) (line : ℕ) (offer : Offer) (place : Option ℕ) (o : Option Block) → ((p : ℕ) → place ≡ Some p → p < length units)
    → block_where units blocks line offer place ≡ Ok o → HaveRoom units blocks → HaveRoom units (blocks ++ listed o)
room-where units blocks line offer None o inside e room =
    subst (λ (x : Option Block). HaveRoom units (blocks ++ listed x)) (ok-same None o e) (subst (HaveRoom units) (sym (append-nil blocks)) room)
room-where units blocks line offer (Some place) o inside e room =
    let s = some-ok (block_after (unit_of_place units place) (stair_in place offer.side blocks) place line offer) o e in
    subst (λ (x : Option Block). HaveRoom units (blocks ++ listed x)) (sym s.2) (room-more units blocks place line offer s.0 (inside place refl) s.1 room)

room-record : (list : UnitList) (blocks : List Block) (line : ℕ) (r : Record) (o : Option Block) → block_in list blocks line r ≡ Ok o → HaveRoom list.units blocks → HaveRoom list.units (blocks ++ listed o)
unfolding block_in
room-record list blocks line r o e room =
    let first = then-ok (offer_in line r) (λ offer. and_then (row_in list.rows line offer.unit) (λ row. block_where list.units blocks line offer (position (λ u. u.row == row) list.units))) o e in
    let second = then-ok (row_in list.rows line first.0.unit) (λ row. block_where list.units blocks line first.0 (position (λ u. u.row == row) list.units)) o first.2 in
    room-where list.units blocks line first.0 (position (λ u. u.row == second.0) list.units) o
    (λ p is. let found = position-Some (λ u. u.row == second.0) list.units p (record { row = 0; bus = 0; fixed = pos 0; up = pos 0; down = pos 0 }) is in found.0) second.2 room

pub room-records : (list : UnitList) (done : List Block) (line : ℕ) (records : List Record) (all : List Block) → gather (block_in list) done line records ≡ Ok all → HaveRoom list.units done → HaveRoom list.units all
unfolding gather
room-records list done line [] all e room = subst (HaveRoom list.units) (ok-same done all e) room
room-records list done line (r ∷ records) all e room =
    let t = then-ok (block_in list done line r) (λ x. gather (block_in list) (done ++ listed x) (line + 1) records) all e in
    room-records list (done ++ listed t.0) (line + 1) records all t.2 (room-record list done line r t.0 t.1 room)

-- ---- the whole table, where units have a room of at least 0
pub room-none : (units : List unit.Unit) → All HasSides units → HaveRoom units []
unfolding stair_in
room-none units sides place d h side = by side (sides place d h)
  where
    by : (s : Side) → HasSides (slice_index_or units place d) → pos 0 ≤ℤ room_of s (slice_index_or units place d)
    by Sell r = r.up
    by Buy r = r.down
