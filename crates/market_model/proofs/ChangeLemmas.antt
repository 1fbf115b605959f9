-- A market with one number changed keeps what every market keeps.
use Rattle.std.specs.Prelude.{◌≡◌, ◌≢◌, ◌⊎◌, ◌==◌, ◌&&◌, ℕ, ◌<◌, ℤ, pos, ◌+ℤ◌, ◌≤ℤ◌, Bool, true, false, List, [], ◌∷◌, ◌++◌, length, map, filter, slice_get, slice_set, slice_index_or, All, AllPairs, Contains, Some, None, refl, if◌then◌else◌}
use Rattle.std.proofs.Common.{zero, suc, arith, inl, inr, get_or, sym, ap, ◌∙◌, subst}
use Rattle.std.proofs.lemmas.Int.{ints}
use Rattle.std.proofs.lemmas.Bool.Decides.{eqb_tells}
use Rattle.std.proofs.lemmas.Option.{get_or_from_slice_get}
use Rattle.std.proofs.lemmas.List.{length-set}
use Rattle.std.proofs.lemmas.List.Elements.{All-set}
use Rattle.market_data.specs.Participants.{IsDatum, IsBus, IsUnit}
use Rattle.market_data.specs.declared.participants.Bus.{Bus}
use Rattle.market_data.specs.declared.participants.Unit as unit
use Rattle.market_model.specs.declared.participants.Block.{Block}
use Rattle.market_model.specs.declared.participants.Line.{Line}
use Rattle.market_model.specs.declared.participants.Parts.{Parts}
use Rattle.market_model.specs.declared.participants.Side.{Side}
use Rattle.market_model.specs.declared.participants.Side.TheVariants.{Sell, Buy}
use Rattle.market_model.specs.Changes.{with_price, with_quantity, with_demand, with_limit, with_need, line_with}
use Rattle.market_model.specs.Dispatch.{bus_at, unit_at, block_at, line_at}
use Rattle.market_model.specs.Market.{IsMarket, IsBlock, IsLine, AreTableFactors, HasRoom}
use Rattle.market_model.specs.Stairs.{same_side, is_on_stair, stair_in, offered, room_of}
use Rattle.market_model.specs.Lines.{hard_line}

-- ---- stairs with one block changed
-- what a block adds to a stair
abbrev pub part : ℕ → Side → Block → ℤ
part place side b = if is_on_stair place side b then b.quantity else pos 0

pub offered-more : (place : ℕ) (side : Side) (b : Block) (bs : List Block) → offered (stair_in place side (b ∷ bs)) ≡ part place side b +ℤ offered (stair_in place side bs)
unfolding stair_in
offered-more place side b bs = by (is_on_stair place side b)
  where
    by : (t : Bool) → offered (if t then b ∷ filter (is_on_stair place side) bs else filter (is_on_stair place side) bs) ≡ (if t then b.quantity else pos 0) +ℤ offered (filter (is_on_stair place side) bs)
    by true = refl
    by false = Prim.omega (arith, ints)

pub offered-push : (place : ℕ) (side : Side) (bs : List Block) (b : Block) → offered (stair_in place side (bs ++ b ∷ [])) ≡ offered (stair_in place side bs) +ℤ part place side b
unfolding stair_in
offered-push place side [] b = let one = offered-more place side b [] in Prim.omega (arith, ints, one)
offered-push place side (x ∷ xs) b =
    let one = offered-more place side x (xs ++ b ∷ []) in
    let two = offered-more place side x xs in
    let rest = offered-push place side xs b in
    Prim.omega (arith, ints, one, two, rest)

pub offered-set : (place : ℕ) (side : Side) (bs : List Block) (j : ℕ) (b d : Block) → j < length bs
    → offered (stair_in place side (slice_set bs j b)) +ℤ part place side (get_or bs j d) ≡ offered (stair_in place side bs) +ℤ part place side b
offered-set place side [] j b d h = absurd (Prim.omega arith)
offered-set place side (x ∷ xs) zero b d h =
    let one = offered-more place side b xs in
    let two = offered-more place side x xs in
    Prim.omega (arith, ints, one, two)
offered-set place side (x ∷ xs) (suc j) b d h =
    let one = offered-more place side x (slice_set xs j b) in
    let two = offered-more place side x xs in
    let rest = offered-set place side xs j b d (Prim.omega arith) in
    Prim.omega (arith, ints, one, two, rest)

-- a block of a stair is of its unit and side
pub on_stair : (place : ℕ) (side : Side) (b : Block) → is_on_stair place side b ≡ true → (b.unit ≡ place) × (b.side ≡ side)
on_stair place side b e = by (eqb_tells b.unit place) b.side side e
  where
    by : ((b.unit == place ≡ true) × (b.unit ≡ place)) ⊎ ((b.unit == place ≡ false) × (b.unit ≢ place)) → (r s : Side) → ((b.unit == place) && same_side r s) ≡ true → (b.unit ≡ place) × (r ≡ s)
    by (inr t) r s e = let wrong : true ≡ false = sym e ∙ ap (λ (u : Bool). u && same_side r s) t.0 in absurd Prim.cc
    by (inl t) Sell Sell e = (t.1, refl)
    by (inl t) Buy Buy e = (t.1, refl)
    by (inl t) Sell Buy e = let wrong : true ≡ false = sym e ∙ ap (λ (u : Bool). u && false) t.0 in absurd Prim.cc
    by (inl t) Buy Sell e = let wrong : true ≡ false = sym e ∙ ap (λ (u : Bool). u && false) t.0 in absurd Prim.cc

-- ---- a list with one item changed
pub same_default : {X : Type 0} (xs : List X) (i : ℕ) (d e : X) → i < length xs → slice_index_or xs i d ≡ slice_index_or xs i e
same_default [] i d e h = absurd (Prim.omega arith)
same_default (x ∷ xs) zero d e h = refl
same_default (x ∷ xs) (suc i) d e h = same_default xs i d e (Prim.omega arith)

pub map-set_same : {X Y : Type 0} (f : X → Y) (xs : List X) (i : ℕ) (x d : X) → f x ≡ f (get_or xs i d) → map f (slice_set xs i x) ≡ map f xs
map-set_same f [] i x d e = refl
map-set_same f (y ∷ ys) zero x d e = ap (λ t. t ∷ map f ys) e
map-set_same f (y ∷ ys) (suc i) x d e = ap (λ t. f y ∷ t) (map-set_same f ys i x d e)

-- ---- other blocks
module _ (m : Parts) (market : IsMarket m) where
  pub kept_blocks : (blocks : List Block) → length blocks ≡ length m.blocks → All (IsBlock (length m.units)) blocks
      → ((place : ℕ) (d : unit.Unit) → place < length m.units → HasRoom blocks place (slice_index_or m.units place d)) → IsMarket (record m { blocks = blocks })
  kept_blocks blocks long all room = record {
    bus_count = market.bus_count;
    unit_count = market.unit_count;
    block_count = Prim.omega (arith, long, market.block_count);
    line_count = market.line_count;
    outage_count = market.outage_count;
    buses = market.buses;
    bus_numbers = market.bus_numbers;
    units = market.units;
    unit_rows = market.unit_rows;
    blocks = all;
    room = room;
    lines = market.lines;
    line_rows = market.line_rows;
    outages = market.outages;
    outages_distinct = market.outages_distinct;
    shift = market.shift;
    loss = market.loss;
    unit_outages = market.unit_outages;
    reserve = market.reserve;
  }

  -- a block in place of another of its unit and side
  module _ (j : ℕ) (b : Block) (inside : j < length m.blocks) where
    pub kept_set : IsBlock (length m.units) b → ((place : ℕ) (side : Side) (d : unit.Unit) → place < length m.units → offered (stair_in place side (slice_set m.blocks j b)) ≤ℤ room_of side (slice_index_or m.units place d))
        → IsMarket (record m { blocks = slice_set m.blocks j b })
    kept_set is room = kept_blocks (slice_set m.blocks j b) (length-set m.blocks j b) (All-set (IsBlock (length m.units)) m.blocks j b is market.blocks) (λ place d h side. room place side d h)

  pub kept_price : (j : ℕ) (p : ℤ) → j < length m.blocks → IsDatum p → IsMarket (with_price m j p)
  kept_price j p inside datum =
      let old : IsBlock (length m.units) (block_at m j) = market.blocks j _ inside in
      kept_set j (record (block_at m j) { price = p }) inside
      (record { unit = old.unit; quantity = old.quantity; price = datum })
      (λ place side d h.
      let change = offered-set place side m.blocks j (record (block_at m j) { price = p }) (record { unit = 0; side = Sell; quantity = pos 0; price = pos 0 }) inside in
      let room = market.room place d h side in
      Prim.omega (arith, ints, change, room))

  pub kept_quantity : (j : ℕ) (q : ℤ) → j < length m.blocks → pos 0 ≤ℤ q
      → offered (stair_in (block_at m j).unit (block_at m j).side (with_quantity m j q).blocks) ≤ℤ room_of (block_at m j).side (unit_at m (block_at m j).unit) → IsMarket (with_quantity m j q)
  kept_quantity j q inside least within =
      let old : IsBlock (length m.units) (block_at m j) = market.blocks j _ inside in
      kept_set j (record (block_at m j) { quantity = q }) inside
      (record { unit = old.unit; quantity = least; price = old.price })
      (λ place side d h. by place side d h (is_on_stair place side (block_at m j)) refl)
    where
      by : (place : ℕ) (side : Side) (d : unit.Unit) → place < length m.units → (t : Bool) → t ≡ is_on_stair place side (block_at m j)
          → offered (stair_in place side (slice_set m.blocks j (record (block_at m j) { quantity = q }))) ≤ℤ room_of side (slice_index_or m.units place d)
      by place side d h true e =
          let at = on_stair place side (block_at m j) (sym e) in
          let unit_is : slice_index_or m.units place d ≡ unit_at m place = same_default m.units place d _ h in
          subst (λ (u : unit.Unit). offered (stair_in place side (slice_set m.blocks j (record (block_at m j) { quantity = q }))) ≤ℤ room_of side u) (sym unit_is)
          (subst (λ (s : Side). offered (stair_in place s (slice_set m.blocks j (record (block_at m j) { quantity = q }))) ≤ℤ room_of s (unit_at m place)) at.1
          (subst (λ (p : ℕ). offered (stair_in p (block_at m j).side (slice_set m.blocks j (record (block_at m j) { quantity = q }))) ≤ℤ room_of (block_at m j).side (unit_at m p)) at.0 within))
      by place side d h false e =
          let change : offered (stair_in place side (slice_set m.blocks j (record (block_at m j) { quantity = q }))) +ℤ pos 0 ≡ offered (stair_in place side m.blocks) +ℤ pos 0 =
          subst (λ (t : Bool). offered (stair_in place side (slice_set m.blocks j (record (block_at m j) { quantity = q }))) +ℤ (if t then (block_at m j).quantity else pos 0) ≡ offered (stair_in place side m.blocks) +ℤ (if t then q else pos 0)) (sym e)
          (offered-set place side m.blocks j (record (block_at m j) { quantity = q }) (record { unit = 0; side = Sell; quantity = pos 0; price = pos 0 }) inside) in
          let room = market.room place d h side in
          Prim.omega (arith, ints, change, room)

  pub kept_demand : (i : ℕ) (pd : ℤ) → i < length m.buses → IsDatum pd → IsMarket (with_demand m i pd)
  kept_demand i pd inside datum =
      let old : IsBus (bus_at m i) = market.buses i _ inside in
      let long : length m.buses ≡ length (slice_set m.buses i (record (bus_at m i) { pd = pd })) = sym (length-set m.buses i (record (bus_at m i) { pd = pd })) in
      record {
        bus_count = Prim.omega (arith, long, market.bus_count);
        unit_count = market.unit_count;
        block_count = market.block_count;
        line_count = market.line_count;
        outage_count = market.outage_count;
        buses = All-set IsBus m.buses i (record (bus_at m i) { pd = pd }) (record { load = datum; shunt = old.shunt }) market.buses;
        bus_numbers = subst (AllPairs (λ a b. a ≢ b)) (sym (map-set_same (λ (b : Bus). b.number) m.buses i (record (bus_at m i) { pd = pd }) (record { number = 0; pd = pos 0; gs = pos 0 }) refl)) market.bus_numbers;
        units = subst (λ (n : ℕ). All (IsUnit n) m.units) long market.units;
        unit_rows = market.unit_rows;
        blocks = market.blocks;
        room = market.room;
        lines = market.lines;
        line_rows = market.line_rows;
        outages = market.outages;
        outages_distinct = market.outages_distinct;
        shift = subst (λ (n : ℕ). AreTableFactors (length m.lines) n m.shift) long market.shift;
        loss = market.loss;
        unit_outages = market.unit_outages;
        reserve = market.reserve;
      }

  pub kept_limit : (l : ℕ) (post : Bool) (mw : ℤ) → l < length m.lines → pos 0 ≤ℤ mw → IsMarket (with_limit m l post mw)
  kept_limit l post mw inside least =
      let old : IsLine (line_at m l) = market.lines l _ inside in
      let long : length m.lines ≡ length (slice_set m.lines l (line_with (line_at m l) post mw)) = sym (length-set m.lines l (line_with (line_at m l) post mw)) in
      let rows : map (λ (k : Line). k.row) m.lines ≡ map (λ (k : Line). k.row) (slice_set m.lines l (line_with (line_at m l) post mw)) =
      sym (map-set_same (λ (k : Line). k.row) m.lines l (line_with (line_at m l) post mw) (hard_line 0 None None (pos 0)) (row_is (line_at m l) post)) in
      record {
        bus_count = market.bus_count;
        unit_count = market.unit_count;
        block_count = market.block_count;
        line_count = Prim.omega (arith, long, market.line_count);
        outage_count = market.outage_count;
        buses = market.buses;
        bus_numbers = market.bus_numbers;
        units = market.units;
        unit_rows = market.unit_rows;
        blocks = market.blocks;
        room = market.room;
        lines = All-set IsLine m.lines l (line_with (line_at m l) post mw) (is_line (line_at m l) post old) market.lines;
        line_rows = subst (AllPairs (λ a b. a ≢ b)) rows market.line_rows;
        outages = subst (λ (rs : List ℕ). All (Contains rs) m.outages) rows market.outages;
        outages_distinct = market.outages_distinct;
        shift = subst (λ (n : ℕ). AreTableFactors n (length m.buses) m.shift) long market.shift;
        loss = subst (λ (n : ℕ). AreTableFactors n n m.loss) long market.loss;
        unit_outages = market.unit_outages;
        reserve = market.reserve;
      }
    where
      row_is : (k : Line) (t : Bool) → (line_with k t mw).row ≡ k.row
      row_is k true = refl
      row_is k false = refl

      is_line : (k : Line) (t : Bool) → IsLine k → IsLine (line_with k t mw)
      is_line k true h = record { row = h.row; base = h.base; post = least; base_penalty = h.base_penalty; post_penalty = h.post_penalty; offset = h.offset }
      is_line k false h = record { row = h.row; base = least; post = h.post; base_penalty = h.base_penalty; post_penalty = h.post_penalty; offset = h.offset }

-- ---- the changes by what was put
pub put_price : (m : Parts) (j : ℕ) (p : ℤ) (old : Block) (blocks : List Block) → slice_get m.blocks j ≡ Some old → blocks ≡ slice_set m.blocks j (record old { price = p })
    → (record m { blocks = blocks }) ≡ with_price m j p
put_price m j p old blocks at is =
    ap (λ (bs : List Block). record m { blocks = bs })
    (is ∙ ap (λ (b : Block). slice_set m.blocks j (record b { price = p })) (sym (get_or_from_slice_get m.blocks j old (record { unit = 0; side = Sell; quantity = pos 0; price = pos 0 }) at)))

pub put_quantity : (m : Parts) (j : ℕ) (q : ℤ) (old : Block) (blocks : List Block) → slice_get m.blocks j ≡ Some old → blocks ≡ slice_set m.blocks j (record old { quantity = q })
    → (record m { blocks = blocks }) ≡ with_quantity m j q
put_quantity m j q old blocks at is =
    ap (λ (bs : List Block). record m { blocks = bs })
    (is ∙ ap (λ (b : Block). slice_set m.blocks j (record b { quantity = q })) (sym (get_or_from_slice_get m.blocks j old (record { unit = 0; side = Sell; quantity = pos 0; price = pos 0 }) at)))

pub put_demand : (m : Parts) (i : ℕ) (pd : ℤ) (old : Bus) (buses : List Bus) → slice_get m.buses i ≡ Some old → buses ≡ slice_set m.buses i (record old { pd = pd })
    → (record m { buses = buses }) ≡ with_demand m i pd
put_demand m i pd old buses at is =
    ap (λ (bs : List Bus). record m { buses = bs })
    (is ∙ ap (λ (b : Bus). slice_set m.buses i (record b { pd = pd })) (sym (get_or_from_slice_get m.buses i old (record { number = 0; pd = pos 0; gs = pos 0 }) at)))

pub put_limit : (m : Parts) (l : ℕ) (post : Bool) (mw : ℤ) (old : Line) (lines : List Line) → slice_get m.lines l ≡ Some old → lines ≡ slice_set m.lines l (line_with old post mw)
    → (record m { lines = lines }) ≡ with_limit m l post mw
put_limit m l post mw old lines at is =
    ap (λ (ls : List Line). record m { lines = ls })
    (is ∙ ap (λ (k : Line). slice_set m.lines l (line_with k post mw)) (sym (get_or_from_slice_get m.lines l old (hard_line 0 None None (pos 0)) at)))

-- a need at least 0, where reserve is listed
pub kept_need : (m : Parts) → IsMarket m → (mw : ℤ) → m.reserve.listed ≡ true → pos 0 ≤ℤ mw → IsMarket (with_need m mw)
kept_need m market mw listed least = record {
  bus_count = market.bus_count;
  unit_count = market.unit_count;
  block_count = market.block_count;
  line_count = market.line_count;
  outage_count = market.outage_count;
  buses = market.buses;
  bus_numbers = market.bus_numbers;
  units = market.units;
  unit_rows = market.unit_rows;
  blocks = market.blocks;
  room = market.room;
  lines = market.lines;
  line_rows = market.line_rows;
  outages = market.outages;
  outages_distinct = market.outages_distinct;
  shift = market.shift;
  loss = market.loss;
  unit_outages = market.unit_outages;
  reserve = record {
    count = market.reserve.count;
    each = market.reserve.each;
    distinct = market.reserve.distinct;
    need = least;
    unlisted = λ none. let clash : true ≡ false = sym listed ∙ none in absurd Prim.cc;
  };
}
