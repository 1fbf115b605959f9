use Rattle.std.proofs.Common.{◌∙◌, [], ◌∷◌, ◌++◌, ℕ, arith, map, ap, sym, subst}
use Rattle.std.specs.List.{Contains}
use Rattle.linear_dict.specs.Causes.{IsPairWith}
use Rattle.linear_dict.specs.Dictionaries.{AddsRow}
use Rattle.market_system.specs.declared.variables.Variable.TheVariants.{Room}
use Rattle.market_system.specs.MarketSystem.{coefficient}
use Rattle.market_dict.specs.Takings.{rows_put}
use Rattle.market_dict.specs.declared.taking.Taking.TheVariants as taking
use Rattle.market_dict.proofs.ColumnLists.{mapped_room}
use Rattle.market_dict.proofs.HoldingLaws.{room_absent_from, room_no_row, room_put_in, put_count, row_is_new, entry_count, holds_taken, pair_taken}
use Rattle.market_dict.proofs.TakingLists.{one_room_more, put_columns_count, rows_more}
use Rattle.market_dict.proofs.rows.take_room.Goals as goal

pub column_count-requires : goal.column_count-requires
column_count-requires g c = c.requires.holds.1.live

pub room_entries-requires : goal.room_entries-requires
room_entries-requires g c =
    let m = c.args.market.now in
    let h = c.requires.holds in
    let count = put_count m h.0 c.args.dict.now h.1 c.column_count.result c.column_count.ensures in
    omega (arith, count, put_columns_count m h.0)

pub add_row-requires-clause-live : goal.add_row-requires-clause-live
add_row-requires-clause-live g c = c.requires.holds.1.live

pub add_row-requires-clause-absent : goal.add_row-requires-clause-absent
add_row-requires-clause-absent g c =
    let m = c.args.market.now in
    let market = c.lines-lines.ensures.market in
    let h = c.requires.holds in
    let d = c.args.dict.now in
    let u = c.args.unit in
    subst (λ (n : ℕ). ¬ (Contains d.names n)) (sym c.name_of-name.ensures)
    (row_is_new m market (h.0 ++ taking.Room u ∷ []) (one_room_more m h.0 u h.1.takings c.requires.unit h.2) (rows_put m h.0) (Room u) (rows_more m h.0 (taking.Room u)) d (room_put_in m market h.0 d u h.1)
    (room_no_row m market h.0 d u h.1 h.2))

pub add_row-requires-clause-entries : goal.add_row-requires-clause-entries
add_row-requires-clause-entries g c =
    let m = c.args.market.now in
    let market = c.lines-lines.ensures.market in
    let h = c.requires.holds in
    let d = c.args.dict.now in
    let u = c.args.unit in
    let count = put_count m h.0 d h.1 c.column_count.result c.column_count.ensures in
    entry_count m market (h.0 ++ taking.Room u ∷ []) (one_room_more m h.0 u h.1.takings c.requires.unit h.2) (rows_put m h.0) (Room u) (rows_more m h.0 (taking.Room u)) d (room_put_in m market h.0 d u h.1)
    g.N.Exact.value c.slice.result.now (ap (map g.N.Exact.value) c.slice.ensures ∙ c.in_ok-entries.ensures h.0 count ∙ sym (mapped_room m (coefficient m (Room u)) h.0 u))

pub returns-in-Ok-clause-taken : goal.returns-in-Ok-clause-taken
returns-in-Ok-clause-taken g c = λ ts holds.
    let m = c.args.market.now in
    let market = c.lines-lines.ensures.market in
    let h = c.requires.holds in
    let d = c.args.dict.now in
    let u = c.args.unit in
    let absent = room_absent_from m market h.0 ts d h.1 holds u h.2 in
    let count = put_count m ts d holds c.column_count.result c.column_count.ensures in
    holds_taken m market (ts ++ taking.Room u ∷ []) (one_room_more m ts u holds.takings c.requires.unit absent) (rows_put m ts) (Room u) (rows_more m ts (taking.Room u)) d (room_put_in m market ts d u holds)
    g.N.Exact.value c.slice.result.now (ap (map g.N.Exact.value) c.slice.ensures ∙ c.in_ok-entries.ensures ts count ∙ sym (mapped_room m (coefficient m (Room u)) ts u)) c.add_row.new.self
    (subst (λ (n : ℕ). AddsRow g.N.Exact.value d n c.slice.result.now c.add_row.new.self) c.name_of-name.ensures c.in-Ok.ensures.added)

pub returns-in-Err-Passed-clause-pair : goal.returns-in-Err-Passed-clause-pair
returns-in-Err-Passed-clause-pair g c = λ ts holds.
    let m = c.args.market.now in
    let market = c.lines-lines.ensures.market in
    let h = c.requires.holds in
    let d = c.args.dict.now in
    let u = c.args.unit in
    let absent = room_absent_from m market h.0 ts d h.1 holds u h.2 in
    let count = put_count m ts d holds c.column_count.result c.column_count.ensures in
    let pair = rw c.in-Err-Passed.field-0-is at c.in-Err-Passed.ensures.pair in
    pair_taken m market (ts ++ taking.Room u ∷ []) (one_room_more m ts u holds.takings c.requires.unit absent) (rows_put m ts) (Room u) (rows_more m ts (taking.Room u)) d (room_put_in m market ts d u holds)
    g.N.Exact.value c.slice.result.now (ap (map g.N.Exact.value) c.slice.ensures ∙ c.in_ok-entries.ensures ts count ∙ sym (mapped_room m (coefficient m (Room u)) ts u)) g.N.Exact.bound c.in-Err-Passed.passed
    (subst (λ (n : ℕ). IsPairWith g.N.Exact.value g.N.Exact.bound d n c.slice.result.now c.in-Err-Passed.passed) c.name_of-name.ensures pair)
