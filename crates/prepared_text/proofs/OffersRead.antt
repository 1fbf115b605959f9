-- Blocks that are written are read back.
use Rattle.std.proofs.Common.{◌≡◌, ◌≢◌, ℕ, ◌+◌, ◌<◌, ◌≤◌, ◌^◌, ℤ, pos, ◌+ℤ◌, Bool, true, false, List, [], ◌∷◌, ◌++◌, length, map, get_or, arith, refl, sym, ap, subst, ◌∙◌, Some, Ok, append_assoc, append-nil}
use Rattle.std.specs.Prelude.{◌==◌, ◌≤ℤ◌, AllPairs, codes, decimal}
use Rattle.std.specs.Int.Signed.{lt_z}
use Rattle.std.specs.List.{AllByRecursion, flat_map, position, position_or_len}
use Rattle.std.proofs.lemmas.Bool.{eq-eqb, le-ltb, ne_eqb}
use Rattle.std.proofs.lemmas.Grind.{common_steps}
use Rattle.std.proofs.lemmas.List.{get_or-map, length-map}
use Rattle.std.proofs.lemmas.List.Elements.{recursion_from_All}
use Rattle.std.proofs.lemmas.List.Sums.{position_or_len_is}
use Rattle.record_reading.specs.Records.{Record}
use Rattle.record_reading.specs.Gathering.{gather}
use Rattle.record_reading.specs.Steps.{and_then, or_as, some_of}
use Rattle.scaled_decimal.specs.Reading.{units_of}
use Rattle.csv_table.specs.Table.{framed, header_line}
use Rattle.line_text.specs.Decimals.{decimal_text}
use Rattle.market_data.specs.Participants.{IsDatum}
use Rattle.market_data.specs.Scales.{most_blocks}
use Rattle.market_data.specs.declared.participants.Unit as unit
use Rattle.market_data.specs.declared.participants.UnitList.{UnitList}
use Rattle.market_model.specs.declared.participants.Block.{Block}
use Rattle.market_model.specs.declared.participants.Side.{Side}
use Rattle.market_model.specs.declared.participants.Side.TheVariants.{Sell, Buy}
use Rattle.market_model.specs.Stairs.{offered, room_of, stair_in}
use Rattle.offer_book.specs.EditLaws.{HaveOfferCurves}
use Rattle.offer_book.specs.OfferTable.{block_after, block_in, block_where, blocks_of_table, follows, last_price, offer_header, offer_in, row_in, side_in, unit_of_place}
use Rattle.offer_book.specs.declared.offer_table.OfferFault.TheVariants as fault
use Rattle.prepared_text.specs.OfferText.{offer_line, offer_text, side_word}
use Rattle.prepared_text.specs.OfferLaws.{HaveGenRows, LawOfOffersRead}
use Rattle.prepared_text.proofs.NumbersRead.{IsCellText, word, decimal-cell, decimal-read, number-cell, number-read}
use Rattle.prepared_text.proofs.StairsRead.{block-fits, block-follows, not-less}
use Rattle.prepared_text.proofs.TablesRead.{IsPlainRecord, cells_line, four-cells, table-framed, then-ok}

-- ---- the cells of a block
abbrev step_cells : ℕ → Block → Record
step_cells row block = decimal row ∷ side_word block.side ∷ decimal_text 9 block.quantity ∷ decimal_text 6 block.price ∷ []

abbrev cells_of : UnitList → Block → Record
cells_of list block = step_cells (unit_of_place list.units block.unit).row block

lines-cells : (list : UnitList) (blocks : List Block) → flat_map (offer_line list) blocks ≡ flat_map cells_line (map (cells_of list) blocks)
unfolding offer_line
lines-cells list [] = refl
lines-cells list (block ∷ blocks) =
    ap (λ t. t ++ flat_map (offer_line list) blocks) (four-cells (codes ",") (codes "\n") (decimal (unit_of_place list.units block.unit).row) (side_word block.side) (decimal_text 9 block.quantity) (decimal_text 6 block.price))
    ∙ ap (λ t. cells_line (cells_of list block) ++ t) (lines-cells list blocks)

text-cells : (list : UnitList) (blocks : List Block) → offer_text list blocks ≡ flat_map cells_line (offer_header ∷ map (cells_of list) blocks)
unfolding offer_text
text-cells list blocks = ap (λ t. header_line offer_header ++ t) (lines-cells list blocks)

-- ---- a block that is read
-- a block of a unit of the list, whose numbers are data
record IsStep (units : ℕ) (block : Block) : Type 0 where
  unit : block.unit < units
  least : pos 0 ≤ℤ block.quantity
  quantity : IsDatum block.quantity
  price : IsDatum block.price

offer-is : (line : ℕ) (a b c d : List ℕ) (x y z : ℤ) (side : Side) → units_of 0 a ≡ Ok x → units_of 9 c ≡ Ok y → units_of 6 d ≡ Ok z → side_in line b ≡ Ok side
    → offer_in line (a ∷ b ∷ c ∷ d ∷ []) ≡ Ok (record { unit = x; side = side; quantity = y; price = z })
unfolding offer_in
offer-is line a b c d x y z side first third fourth second = rw (first, third, fourth, second) refl

side-read : (line : ℕ) (side : Side) → side_in line (side_word side) ≡ Ok side
side-read line Sell = refl
side-read line Buy = refl

row-read : (rows line row : ℕ) → 1 ≤ row → row ≤ rows → row_in rows line (pos row) ≡ Ok row
unfolding row_in
row-read rows line row low high = rw (le-ltb row 1 low, le-ltb rows row high) refl

abbrev row_at : List unit.Unit → ℕ → ℕ
row_at units place = (unit_of_place units place).row

row-in-list : (units : List unit.Unit) (place : ℕ) → place < length units → get_or (map (λ (u : unit.Unit). u.row) units) place 0 ≡ row_at units place
row-in-list units place within = get_or-map (λ (u : unit.Unit). u.row) units place (record { row = 0; bus = 0; fixed = pos 0; up = pos 0; down = pos 0 }) 0 within

rows-apart : (units : List unit.Unit) (place k : ℕ) → place < length units → AllPairs (λ a b. a ≢ b) (map (λ u. u.row) units) → k < place → (row_at units k == row_at units place) ≡ false
rows-apart units place k within distinct lt =
    let inside : place < length (map (λ (u : unit.Unit). u.row) units) = omega (arith, within, length-map units (λ (u : unit.Unit). u.row)) in
    let early : k < length units = omega (arith, lt, within) in
    ne_eqb (row_at units k) (row_at units place) (λ e. distinct k place 0 lt inside (row-in-list units k early ∙ (e ∙ sym (row-in-list units place within))))

at-first : (test : unit.Unit → Bool) (units : List unit.Unit) (place : ℕ) → position_or_len test units ≡ place → place < length units → position test units ≡ Some place
at-first test units place is within = grind (arith, common_steps)

place-read : (units : List unit.Unit) (place : ℕ) → place < length units → AllPairs (λ a b. a ≢ b) (map (λ u. u.row) units) → position (λ u. u.row == row_at units place) units ≡ Some place
place-read units place within distinct =
    at-first (λ u. u.row == row_at units place) units place
    (position_or_len_is (λ (u : unit.Unit). u.row == row_at units place) units place (record { row = 0; bus = 0; fixed = pos 0; up = pos 0; down = pos 0 }) (omega (arith, within))
    (λ k lt. rows-apart units place k within distinct lt)
    (λ _. eq-eqb (row_at units place) (row_at units place) refl))
    within

block-taken : (u : unit.Unit) (stair : List Block) (place line : ℕ) (row : ℤ) (side : Side) (quantity price : ℤ) → lt_z quantity (pos 0) ≡ false → follows side (last_price stair) price ≡ true
    → lt_z (room_of side u) (offered stair +ℤ quantity) ≡ false
    → block_after u stair place line (record { unit = row; side = side; quantity = quantity; price = price }) ≡ Ok (record { unit = place; side = side; quantity = quantity; price = price })
unfolding block_after
block-taken u stair place line row side quantity price least follow fit = rw (least, follow, fit) refl

-- ---- one block, and all of them
least-of : (units : ℕ) (blocks : List Block) → AllByRecursion (IsStep units) blocks → AllByRecursion (λ b. pos 0 ≤ℤ b.quantity) blocks
least-of units [] are = tt
least-of units (block ∷ blocks) are = (are.0.least, least-of units blocks are.1)

row-small : (list : UnitList) (place : ℕ) → HaveGenRows list → place < length list.units → row_at list.units place < 2 ^ 63
row-small list place rows within =
    let range = rows.range place (record { row = 0; bus = 0; fixed = pos 0; up = pos 0; down = pos 0 }) within in
    let few = rows.rows in
    let most = range.1 in
    omega (arith, few, most)

block-read : (list : UnitList) (done rest : List Block) (line : ℕ) (block : Block) → HaveGenRows list → IsStep (length list.units) block → AllByRecursion (IsStep (length list.units)) rest
    → HaveOfferCurves list.units (done ++ block ∷ rest) → block_in list done line (cells_of list block) ≡ Ok (Some block)
unfolding block_in
block-read list done rest line block rows step steps curves =
    let row : ℕ = row_at list.units block.unit in
    let range = rows.range block.unit (record { row = 0; bus = 0; fixed = pos 0; up = pos 0; down = pos 0 }) step.unit in
    let curve = curves block.unit block.side step.unit in
    let u : unit.Unit = unit_of_place list.units block.unit in
    then-ok (offer_in line (cells_of list block)) (record { unit = pos row; side = block.side; quantity = block.quantity; price = block.price }) _ (Ok (Some block))
    (offer-is line (decimal row) (side_word block.side) (decimal_text 9 block.quantity) (decimal_text 6 block.price) (pos row) block.quantity block.price block.side
    (number-read row (row-small list block.unit rows step.unit)) (decimal-read 9 block.quantity step.quantity) (decimal-read 6 block.price step.price) (side-read line block.side))
    (then-ok (row_in list.rows line (pos row)) row _ (Ok (Some block)) (row-read list.rows line row range.0 range.1)
    (ap (block_where list.units done line (record { unit = pos row; side = block.side; quantity = block.quantity; price = block.price })) (place-read list.units block.unit step.unit rows.distinct)
    ∙ ap some_of (block-taken u (stair_in block.unit block.side done) block.unit line (pos row) block.side block.quantity block.price
    (not-less block.quantity (pos 0) step.least) (block-follows u done rest block curve)
    (not-less (room_of block.side u) (offered (stair_in block.unit block.side done) +ℤ block.quantity) (block-fits u done rest block curve (least-of (length list.units) rest steps))))))

all-read : (list : UnitList) (rest done : List Block) (line : ℕ) → HaveGenRows list → AllByRecursion (IsStep (length list.units)) rest → HaveOfferCurves list.units (done ++ rest)
    → gather (block_in list) done line (map (cells_of list) rest) ≡ Ok (done ++ rest)
unfolding gather
all-read list [] done line rows steps curves = ap Ok (sym (append-nil done))
all-read list (block ∷ rest) done line rows steps curves =
    let again : HaveOfferCurves list.units ((done ++ block ∷ []) ++ rest) = subst (HaveOfferCurves list.units) (sym (append_assoc done (block ∷ []) rest)) curves in
    then-ok (block_in list done line (cells_of list block)) (Some block) _ (Ok (done ++ block ∷ rest))
    (block-read list done rest line block rows steps.0 steps.1 curves)
    (all-read list rest (done ++ block ∷ []) (line + 1) rows steps.1 again ∙ ap Ok (append_assoc done (block ∷ []) rest))

-- ---- the table
side-cell : (side : Side) → IsCellText (side_word side)
side-cell Sell = word (codes "sell") (omega arith) refl
side-cell Buy = word (codes "buy") (omega arith) refl

plain-records : (list : UnitList) (blocks : List Block) → HaveGenRows list → AllByRecursion (IsStep (length list.units)) blocks → AllByRecursion IsPlainRecord (map (cells_of list) blocks)
plain-records list [] rows steps = tt
plain-records list (block ∷ blocks) rows steps = (
  record {
    some = omega arith;
    cells = (
      number-cell (row_at list.units block.unit) (row-small list block.unit rows steps.0.unit),
      (side-cell block.side, (decimal-cell 9 block.quantity steps.0.quantity, (decimal-cell 6 block.price steps.0.price, tt))),
    );
  },
  plain-records list blocks rows steps.1,
)

plain-header : IsPlainRecord offer_header
plain-header = record {
  some = omega arith;
  cells = (word (codes "unit") (omega arith) refl, (word (codes "side") (omega arith) refl, (word (codes "mw") (omega arith) refl, (word (codes "price") (omega arith) refl, tt))));
}

wide : (list : UnitList) (blocks : List Block) → AllByRecursion (λ r. length r ≡ length offer_header) (map (cells_of list) blocks)
wide list [] = tt
wide list (block ∷ blocks) = (refl, wide list blocks)

pub offers-back : LawOfOffersRead
unfolding blocks_of_table
offers-back list blocks rows rules =
    let steps : AllByRecursion (IsStep (length list.units)) blocks = recursion_from_All (IsStep (length list.units)) blocks (λ k d lt.
    let is = rules.each.blocks k d lt in
    record { unit = is.unit; least = is.quantity; quantity = rules.quantities k d lt; price = is.price }) in
    let few : length (map (cells_of list) blocks) ≤ most_blocks = omega (arith, rules.each.count, length-map blocks (cells_of list)) in
    ap (λ text. and_then (framed fault.Frame offer_header (Some most_blocks) text) (gather (block_in list) [] 2)) (text-cells list blocks)
    ∙ then-ok (framed fault.Frame offer_header (Some most_blocks) (flat_map cells_line (offer_header ∷ map (cells_of list) blocks))) (map (cells_of list) blocks) _ (Ok blocks)
    (ap (or_as fault.Frame) (table-framed offer_header (Some most_blocks) (map (cells_of list) blocks) plain-header (plain-records list blocks rows steps) (wide list blocks) few))
    (all-read list blocks [] 2 rows steps rules.curves)
