-- The markets of files keep what every market keeps.
use Rattle.std.proofs.Common.{◌≡◌, ◌≢◌, ℕ, ℤ, pos, List, [], ◌∷◌, length, map, get_or, refl, sym, subst, ap, ◌∙◌, arith}
use Rattle.std.specs.Prelude.{◌<◌, unwrap_or, All, AllPairs, Contains, IfSome, Option, Some, None, ◌≤ℤ◌}
use Rattle.std.proofs.lemmas.Int.{ints}
use Rattle.std.proofs.lemmas.List.{length-map, get_or-map}
use Rattle.std.proofs.lemmas.List.Elements.{All-map}
use Rattle.std.proofs.lemmas.Simd.{map-map}
use Rattle.market_data.specs.declared.participants.Bus.{Bus}
use Rattle.market_data.specs.declared.participants.Unit as unit
use Rattle.market_model.specs.declared.participants.Factor.{Factor}
use Rattle.market_model.specs.declared.participants.Line.{Line}
use Rattle.market_model.specs.Lines.{IsPenalty}
use Rattle.market_model.specs.declared.participants.Parts.{Parts}
use Rattle.market_model.specs.declared.participants.Reserve.{Reserve}
use Rattle.market_model.specs.Market.{AreTableFactors, AreUnitOutages, IsLine, IsMarket, IsReserve, bare_parts}
use Rattle.market_model.proofs.LinePenalties.{no_cost}
use Rattle.market_model.proofs.PlainMarkets.{plain_market, distinct_by_rise}
use Rattle.market_data.specs.declared.scales.FactorPlaces.{FactorPlaces}
use Rattle.net_case.specs.Networks.{LiveNetwork, IsNetwork, IsNetBranch, IsLimit}
use Rattle.net_case.specs.NetworkReading.{unit_list_of, unit_within}
use Rattle.net_case.specs.declared.live_parts.NetBranch.{NetBranch}
use Rattle.net_case.specs.declared.live_parts.NetUnit.{NetUnit}
use Rattle.net_paths.specs.Detours.{IsLiveRow}
use Rattle.factor_tables.specs.Factors.{Entry, factor_at}
use Rattle.factor_tables.specs.Offsets.{OffsetEntry}
use Rattle.factor_tables.specs.Penalties.{IsSoftness, PenaltyEntry}
use Rattle.factor_tables.specs.declared.penalty_list.Softness.{Softness}
use Rattle.outage_list.specs.declared.unit_listing.UnitOutages.{UnitOutages}
use Rattle.market_inputs.specs.declared.covering.Covered.{Covered}
use Rattle.market_inputs.specs.declared.offers.Offered.{Offered}
use Rattle.market_inputs.specs.declared.tables.Tables.{Tables}
use Rattle.market_inputs.specs.Clearing.{AreLimited, AreLinesOf, AreSmall, IsTabled, limited_of, line_of, loss_by, shift_by, whole_of}
use Rattle.market_inputs.specs.Pooling.{pool_of}
use Rattle.market_inputs.specs.Tables.{AreOffered, MayBeLost, MayLoseUnits}
use Rattle.market_inputs.proofs.FactorLemmas.{factors_by-are}

-- ---- units
unit_rows : (us : List NetUnit) → map (λ u. u.row) (map unit_within us) ≡ map (λ u. u.row) us
unfolding unit_within
unit_rows [] = refl
unit_rows (u ∷ us) = ap (λ rows. u.row ∷ rows) (unit_rows us)

rows-rise : (network : LiveNetwork) (offered : Offered) → IsNetwork network → AreOffered network offered → AllPairs (λ a b. a < b) (map (λ (u : unit.Unit). u.row) offered.units)
rows-rise network offered net given =
    let rows : map (λ (u : unit.Unit). u.row) offered.units ≡ map (λ (u : NetUnit). u.row) network.units = ap (map (λ (u : unit.Unit). u.row)) given.units_are ∙ unit_rows network.units in
    subst (AllPairs (λ a b. a < b)) (sym rows) net.unit_rows.rise

-- outages of a network's units are outages of the units that have offers
lost-units : (network : LiveNetwork) (offered : Offered) (lost : UnitOutages) → AreOffered network offered → MayLoseUnits network lost → AreUnitOutages (length offered.units) lost.lost lost.pickups
lost-units network offered lost given may =
    let count : length offered.units ≡ length network.units = ap length given.units_are ∙ length-map network.units unit_within in
    subst (λ (n : ℕ). AreUnitOutages n lost.lost lost.pickups) (sym count) may

-- ---- the market without branches
pub pool-market : (network : LiveNetwork) (offered : Offered) → IsNetwork network → AreOffered network offered → IsMarket (pool_of network offered)
pool-market network offered net given = plain_market network.buses offered.units offered.blocks (record {
  bus_count = net.bus_count;
  unit_count = given.count;
  block_count = given.blocks.count;
  buses = net.buses;
  bus_numbers = net.distinct;
  units = given.units;
  unit_rows = rows-rise network offered net given;
  blocks = given.blocks.blocks;
  room = given.room;
})

-- ---- outages
-- listed outages are rows of live branches
pub live-rows : (network : LiveNetwork) (rows : List ℕ) → MayBeLost network rows → All (IsLiveRow network) rows
live-rows network rows lost i d lt = let o = lost.are.each i d lt in (o.branch, o.live)

-- ---- lines
-- the penalty of a record, or of nothing
pub penalty_is : (given : Option Softness) → IfSome given IsSoftness → IsPenalty (unwrap_or given (record { price = pos 0; most_excess = pos 0 })).price (unwrap_or given (record { price = pos 0; most_excess = pos 0 })).most_excess
penalty_is None h = no_cost
penalty_is (Some penalty) h = let above = h.costs in record { costs = Prim.grind (arith, ints, above); exceeds = h.exceeds; priced = λ _. h.costs }

not-below : (limit : Option ℤ) → IfSome limit IsLimit → IfSome limit (λ mw. pos 0 ≤ℤ mw)
not-below None h = tt
not-below (Some mw) h = h.least

Contains-map : {X Y : Type 0} (f : X → Y) (xs : List X) (x : X) → Contains xs x → Contains (map f xs) (f x)
Contains-map f xs x (k, lt, e) = (k, omega (arith, lt, length-map xs f), get_or-map f xs k x (f x) lt ∙ ap f e)

module _ (network : LiveNetwork) (offsets : List OffsetEntry) (penalties : List PenaltyEntry) (net : IsNetwork network) where
  abbrev lines : List Line
  lines = map (line_of offsets penalties) network.branches

  abbrev branch_rows : List ℕ
  branch_rows = map (λ (b : NetBranch). b.row) network.branches

  line-rows : map (λ (l : Line). l.row) lines ≡ branch_rows
  line-rows = map-map (λ (l : Line). l.row) (line_of offsets penalties) network.branches

  are-lines : All IsTabled lines → All IsLine lines
  are-lines tabled = All-map IsLine (line_of offsets penalties) network.branches each
    where
      each : All (λ (b : NetBranch). IsLine (line_of offsets penalties b)) network.branches
      each i d lt =
          let b : NetBranch = get_or network.branches i d in
          let is : IsNetBranch (length network.buses) b = net.branches i d lt in
          let row : get_or branch_rows i d.row ≡ b.row = get_or-map (λ (x : NetBranch). x.row) network.branches i d d.row lt in
          let range = net.rows_of_branches.range i d.row (omega (arith, lt, length-map network.branches (λ (x : NetBranch). x.row))) in
          let there : get_or lines i (line_of offsets penalties d) ≡ line_of offsets penalties b = get_or-map (line_of offsets penalties) network.branches i d (line_of offsets penalties d) lt in
          let given : IsTabled (line_of offsets penalties b) = subst IsTabled there (tabled i (line_of offsets penalties d) (omega (arith, lt, length-map network.branches (line_of offsets penalties)))) in
          record {
            row = omega (arith, range.0, row);
            base = not-below b.base is.base;
            post = not-below b.post is.post;
            base_penalty = given.base;
            post_penalty = given.post;
            offset = given.offset;
          }

  pub lines-of : All IsTabled lines → AreLinesOf network lines
  lines-of tabled = record { each = are-lines tabled; rows = line-rows }

line-count : (network : LiveNetwork) (lines : List Line) → AreLinesOf network lines → length lines ≡ length network.branches
line-count network lines are = sym (length-map lines (λ (l : Line). l.row)) ∙ ap length are.rows ∙ length-map network.branches (λ (b : NetBranch). b.row)

-- ---- the factors of lines
shift-are : (shift : List Entry) (network : LiveNetwork) → AreSmall (shift_by shift network.branches network.buses) → AreTableFactors (length network.branches) (length network.buses) (shift_by shift network.branches network.buses)
shift-are shift network small = factors_by-are (λ branch bus. factor_at shift (branch.row, bus.number)) network.buses network.branches small

loss-are : (loss : List Entry) (network : LiveNetwork) → AreSmall (loss_by loss network.branches) → AreTableFactors (length network.branches) (length network.branches) (loss_by loss network.branches)
loss-are loss network small = factors_by-are (λ branch other. factor_at loss (branch.row, other.row)) network.branches network.branches small

-- ---- the market with limits
-- the lists that are made one after the other are the parts
pub limited-is : (network : LiveNetwork) (tables : Tables) (offered : Offered) (reserve : Reserve) (listed : List Line) (none : List Bus) (bare : Parts) (branches : List NetBranch) (buses : List Bus) (shift loss : List Factor)
    → none ≡ [] → bare ≡ bare_parts none offered.units offered.blocks → branches ≡ network.branches → buses ≡ network.buses → shift ≡ shift_by tables.shift.entries branches buses → loss ≡ loss_by tables.loss.entries branches
    → record bare { reserve = reserve; lines = listed; shift = shift; loss = loss } ≡ limited_of network tables offered reserve listed
limited-is network tables offered reserve listed none bare branches buses shift loss none_is bare_is branches_are buses_are shift_is loss_is = rw (bare_is, none_is, shift_is, loss_is, branches_are, buses_are) refl

-- parts whose lists are those of a network are as every market has them
pub limited-are : (network : LiveNetwork) (tables : Tables) (offered : Offered) (reserve : Reserve) (listed : List Line) → AreOffered network offered
    → IsReserve (length (unit_list_of network).units) reserve → AreLinesOf network listed
    → AreSmall (shift_by tables.shift.entries network.branches network.buses) → AreSmall (loss_by tables.loss.entries network.branches) → AreLimited network (limited_of network tables offered reserve listed)
limited-are network tables offered reserve listed given kept are small_shift small_loss = record {
  offered = given;
  lines = are;
  shift = shift-are tables.shift.entries network small_shift;
  loss = loss-are tables.loss.entries network small_loss;
  reserve = subst (λ (us : List unit.Unit). IsReserve (length us) reserve) (sym given.units_are) kept;
}

pub whole-market : (places : FactorPlaces) (network : LiveNetwork) (covered : Covered) (limited : Parts) → IsNetwork network → MayBeLost network covered.tables.outages → MayLoseUnits network covered.lost → AreLimited network limited
    → IsMarket (whole_of places network covered limited)
whole-market places network covered limited net may units given =
    let offered : Offered = record { units = limited.units; blocks = limited.blocks } in
    let count : length limited.lines ≡ length network.branches = line-count network limited.lines given.lines in
    record {
      bus_count = net.bus_count;
      unit_count = given.offered.count;
      block_count = given.offered.blocks.count;
      line_count = omega (arith, count, net.branch_count);
      outage_count = may.count;
      buses = net.buses;
      bus_numbers = net.distinct;
      units = given.offered.units;
      unit_rows = rows-rise network offered net given.offered;
      blocks = given.offered.blocks.blocks;
      room = given.offered.room;
      lines = given.lines.each;
      line_rows = subst (AllPairs (λ a b. a ≢ b)) (sym given.lines.rows) (distinct_by_rise (map (λ (b : NetBranch). b.row) network.branches) net.rows_of_branches.rise);
      outages = subst (λ rs. All (Contains rs) covered.tables.outages) (sym given.lines.rows) (λ i d lt.
          let o = may.are.each i d lt in
          subst (Contains (map (λ (b : NetBranch). b.row) network.branches)) o.live.row_is (Contains-map (λ (b : NetBranch). b.row) network.branches o.branch o.live.live));
      outages_distinct = may.are.distinct;
      shift = rw count given.shift;
      loss = rw count given.loss;
      unit_outages = lost-units network offered covered.lost given.offered units;
      reserve = given.reserve;
    }
