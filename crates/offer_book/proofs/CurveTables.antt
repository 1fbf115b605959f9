-- A table of offers makes offer curves.
use Rattle.std.specs.Prelude.{◌≡◌, ◌==◌, ◌+◌, ◌+ℤ◌, ℕ, Bool, true, false, not, List, [], ◌∷◌, ◌++◌, cond, AllPairs, Option, Some, None, Ok, Err, if◌then◌else◌, refl}
use Rattle.std.specs.List.{position}
use Rattle.std.specs.Int.Signed.{lt_z}
use Rattle.std.proofs.Common.{arith, sym, ◌∙◌, subst, append-nil}
use Rattle.std.proofs.lemmas.List.{map-append}
use Rattle.std.proofs.lemmas.List.Elements.{filter-append}
use Rattle.std.proofs.lemmas.List.Quantifiers.{all_pairs_push}
use Rattle.record_reading.specs.Records.{Record}
use Rattle.record_reading.specs.Steps.{and_then}
use Rattle.record_reading.specs.Gathering.{listed, gather}
use Rattle.record_reading.proofs.StepLemmas.{ok-same, some-ok, then-ok}
use Rattle.csv_table.specs.Table.{framed}
use Rattle.market_data.specs.declared.participants.Unit as unit
use Rattle.market_data.specs.declared.participants.UnitList.{UnitList}
use Rattle.market_model.specs.declared.participants.Block.{Block}
use Rattle.market_model.specs.declared.participants.Side.{Side}
use Rattle.market_data.specs.Scales.{most_blocks}
use Rattle.market_model.specs.Stairs.{is_on_stair, stair_in, offered, room_of}
use Rattle.market_model.proofs.ChangeLemmas.{on_stair}
use Rattle.offer_book.specs.declared.offer_table.Offer.{Offer}
use Rattle.offer_book.specs.declared.offer_table.OfferFault.TheVariants as fault
use Rattle.offer_book.specs.OfferTable.{offer_header, offer_in, row_in, block_after, block_where, block_in, unit_of_place, follows, last_price, blocks_of_table}
use Rattle.offer_book.specs.EditLaws.{block_prices, LawOfOfferTables}
use Rattle.offer_book.proofs.CurveLemmas.{last_follows}
use Rattle.offer_book.proofs.RoomLemmas.{room-none, room-records}
use Rattle.offer_book.specs.Offers.{InOrder}

-- the prices of each stair are in order
abbrev AreInOrder : List Block → Type 0
AreInOrder blocks = (place : ℕ) (side : Side) → AllPairs (InOrder side) (block_prices (stair_in place side blocks))

-- ---- a block that is taken
record IsBehind (stair : List Block) (place : ℕ) (s : Side) (block : Block) : Type 0 where
  unit : block.unit ≡ place
  side : block.side ≡ s
  order : follows s (last_price stair) block.price ≡ true

not_false : (t : Bool) → not t ≡ false → t ≡ true
not_false true e = refl
not_false false e = absurd Prim.cc

taken : (u : unit.Unit) (stair : List Block) (place line : ℕ) (offer : Offer) (block : Block) → block_after u stair place line offer ≡ Ok block → IsBehind stair place offer.side block
unfolding block_after
taken u stair place line offer block e = by (lt_z offer.quantity _) (not (follows offer.side (last_price stair) offer.price)) (lt_z (room_of offer.side u) (offered stair +ℤ offer.quantity)) refl e
  where
    by : (a b c : Bool) → not (follows offer.side (last_price stair) offer.price) ≡ b
        → (if a then Err (fault.Negative line) else if b then Err (fault.OutOfOrder line) else if c then Err (fault.OverCapacity line) else Ok (record { unit = place; side = offer.side; quantity = offer.quantity; price = offer.price })) ≡ Ok block
        → IsBehind stair place offer.side block
    by true b c is h = absurd Prim.cc
    by false true c is h = absurd Prim.cc
    by false false true is h = absurd Prim.cc
    by false false false is h =
        let same : (record { unit = place; side = offer.side; quantity = offer.quantity; price = offer.price }) ≡ block = ok-same _ block h in
        subst (IsBehind stair place offer.side) same (record { unit = refl; side = refl; order = not_false (follows offer.side (last_price stair) offer.price) is })

-- ---- a record more
order-more : (u : unit.Unit) (blocks : List Block) (place line : ℕ) (offer : Offer) (block : Block) → block_after u (stair_in place offer.side blocks) place line offer ≡ Ok block
    → AreInOrder blocks → AreInOrder (blocks ++ block ∷ [])
unfolding stair_in
order-more u blocks place line offer block e order other side =
    subst (λ bs. AllPairs (InOrder side) (block_prices bs)) (sym (filter-append (is_on_stair other side) blocks (block ∷ []))) (by (is_on_stair other side block) refl)
  where
    is : IsBehind (stair_in place offer.side blocks) place offer.side block
    is = taken u (stair_in place offer.side blocks) place line offer block e

    by : (t : Bool) → is_on_stair other side block ≡ t → AllPairs (InOrder side) (block_prices (stair_in other side blocks ++ cond t (block ∷ []) []))
    by true on =
        let at = on_stair other side block on in
        let follow : follows side (last_price (stair_in other side blocks)) block.price ≡ true =
        subst (λ (s : Side). follows s (last_price (stair_in other s blocks)) block.price ≡ true) (sym is.side ∙ at.1)
        (subst (λ (p : ℕ). follows offer.side (last_price (stair_in p offer.side blocks)) block.price ≡ true) (sym is.unit ∙ at.0) is.order) in
        subst (AllPairs (InOrder side)) (sym (map-append (λ (b : Block). b.price) (stair_in other side blocks) (block ∷ [])))
        (all_pairs_push (InOrder side) (block_prices (stair_in other side blocks)) block.price (order other side)
        (λ k d within. last_follows side block.price None (block_prices (stair_in other side blocks)) follow (order other side) k d within))
    by false off = subst (λ bs. AllPairs (InOrder side) (block_prices bs)) (sym (append-nil (stair_in other side blocks))) (order other side)

order-where : (units : List unit.Unit) (blocks : List Block) (line : ℕ) (offer : Offer) (place : Option ℕ) (o : Option Block) → block_where units blocks line offer place ≡ Ok o
    → AreInOrder blocks → AreInOrder (blocks ++ listed o)
order-where units blocks line offer None o e order =
    subst (λ (x : Option Block). AreInOrder (blocks ++ listed x)) (ok-same None o e) (subst AreInOrder (sym (append-nil blocks)) order)
order-where units blocks line offer (Some place) o e order =
    let s = some-ok (block_after (unit_of_place units place) (stair_in place offer.side blocks) place line offer) o e in
    subst (λ (x : Option Block). AreInOrder (blocks ++ listed x)) (sym s.2) (order-more (unit_of_place units place) blocks place line offer s.0 s.1 order)

order-record : (list : UnitList) (blocks : List Block) (line : ℕ) (r : Record) (o : Option Block) → block_in list blocks line r ≡ Ok o → AreInOrder blocks → AreInOrder (blocks ++ listed o)
unfolding block_in
order-record list blocks line r o e order =
    let first = then-ok (offer_in line r) (λ offer. and_then (row_in list.rows line offer.unit) (λ row. block_where list.units blocks line offer (position (λ u. u.row == row) list.units))) o e in
    let second = then-ok (row_in list.rows line first.0.unit) (λ row. block_where list.units blocks line first.0 (position (λ u. u.row == row) list.units)) o first.2 in
    order-where list.units blocks line first.0 (position (λ u. u.row == second.0) list.units) o second.2 order

order-records : (list : UnitList) (done : List Block) (line : ℕ) (records : List Record) (all : List Block) → gather (block_in list) done line records ≡ Ok all → AreInOrder done → AreInOrder all
unfolding gather
order-records list done line [] all e order = subst AreInOrder (ok-same done all e) order
order-records list done line (r ∷ records) all e order =
    let t = then-ok (block_in list done line r) (λ x. gather (block_in list) (done ++ listed x) (line + 1) records) all e in
    order-records list (done ++ listed t.0) (line + 1) records all t.2 (order-record list done line r t.0 t.1 order)

-- ---- the whole table
order-none : AreInOrder []
unfolding stair_in
order-none place side i j d below inside = absurd (Prim.omega (arith, inside))

pub law_of_offer_tables : LawOfOfferTables
unfolding blocks_of_table
law_of_offer_tables list bytes blocks sides e =
    let records = then-ok (framed fault.Frame offer_header (Some most_blocks) bytes) (gather (block_in list) [] 2) blocks e in
    let order : AreInOrder blocks = order-records list [] 2 records.0 blocks records.2 order-none in
    let room = room-records list [] 2 records.0 blocks records.2 (room-none list.units sides) in
    λ place side h. record { monotone = order place side; room = room place _ h side }
