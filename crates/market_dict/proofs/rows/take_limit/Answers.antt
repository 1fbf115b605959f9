use Rattle.std.proofs.Common.{◌≡◌, ◌∙◌, [], ◌∷◌, ◌++◌, Err, ℕ, arith, inl, inr, map, ap, sym, subst}
use Rattle.std.proofs.lemmas.Result.{err_from_is_err_and}
use Rattle.std.specs.List.{Contains}
use Rattle.linear_dict.specs.Causes.{IsPairWith}
use Rattle.linear_dict.specs.Dictionaries.{AddsRow}
use Rattle.market_model.proofs.StopLemmas.{on_passed_weaker}
use Rattle.market_system.specs.declared.variables.Variable.TheVariants.{Limit}
use Rattle.market_dict.specs.Takings.{rows_put}
use Rattle.market_dict.specs.declared.taking.Taking.TheVariants as taking
use Rattle.market_dict.proofs.HoldingLaws.{limit_absent_from, limit_more, limit_no_row, put_count, row_is_new, entry_count, holds_taken, pair_taken}
use Rattle.market_dict.proofs.TakingLists.{put_columns_count, rows_more}
use Rattle.market_dict.proofs.rows.take_limit.Goals as goal

pub row_entries-requires-clause-columns : goal.row_entries-requires-clause-columns
row_entries-requires-clause-columns g c =
    let m = c.args.market.now in
    let h = c.requires.holds in
    let count = put_count m h.0 c.args.dict.now h.1 c.column_count.result c.column_count.ensures in
    omega (arith, count, put_columns_count m h.0)

pub add_row-requires-clause-live : goal.add_row-requires-clause-live
add_row-requires-clause-live g c = let h = c.requires.holds in (c.in_ok-put_columns.ensures h.0 h.1 h.2).live

pub add_row-requires-clause-absent : goal.add_row-requires-clause-absent
add_row-requires-clause-absent g c =
    let m = c.args.market.now in
    let market = c.lines-lines.ensures.market in
    let h = c.requires.holds in
    let d = c.args.dict.now in
    let r = c.args.row in
    let put = c.put_columns.new.dict in
    subst (λ (n : ℕ). ¬ (Contains put.names n)) (sym c.name_of-name.ensures)
    (row_is_new m market (h.0 ++ taking.Limit r ∷ []) (limit_more m market h.0 d r h.1 c.requires.row h.2) (rows_put m h.0) (Limit r) (rows_more m h.0 (taking.Limit r)) put (c.in_ok-put_columns.ensures h.0 h.1 h.2)
    (limit_no_row m market h.0 d r h.1 c.requires.row h.2))

pub add_row-requires-clause-entries : goal.add_row-requires-clause-entries
add_row-requires-clause-entries g c =
    let m = c.args.market.now in
    let market = c.lines-lines.ensures.market in
    let h = c.requires.holds in
    let d = c.args.dict.now in
    let r = c.args.row in
    let count = put_count m h.0 d h.1 c.column_count.result c.column_count.ensures in
    entry_count m market (h.0 ++ taking.Limit r ∷ []) (limit_more m market h.0 d r h.1 c.requires.row h.2) (rows_put m h.0) (Limit r) (rows_more m h.0 (taking.Limit r)) c.put_columns.new.dict (c.in_ok-put_columns.ensures h.0 h.1 h.2)
    g.N.Exact.value c.slice.result.now (ap (map g.N.Exact.value) c.slice.ensures ∙ c.in_ok-entries.ensures.entries h.0 h.2 count)

pub returns-in-Ok-clause-taken : goal.returns-in-Ok-clause-taken
returns-in-Ok-clause-taken g c = λ ts holds.
    let m = c.args.market.now in
    let market = c.lines-lines.ensures.market in
    let h = c.requires.holds in
    let d = c.args.dict.now in
    let r = c.args.row in
    let absent = limit_absent_from m market h.0 ts d h.1 holds r h.2 in
    let count = put_count m ts d holds c.column_count.result c.column_count.ensures in
    holds_taken m market (ts ++ taking.Limit r ∷ []) (limit_more m market ts d r holds c.requires.row absent) (rows_put m ts) (Limit r) (rows_more m ts (taking.Limit r)) c.put_columns.new.dict (c.in_ok-put_columns.ensures ts holds absent)
    g.N.Exact.value c.slice.result.now (ap (map g.N.Exact.value) c.slice.ensures ∙ c.in_ok-entries.ensures.entries ts absent count) c.add_row.new.self
    (subst (λ (n : ℕ). AddsRow g.N.Exact.value c.put_columns.new.dict n c.slice.result.now c.add_row.new.self) c.name_of-name.ensures c.in-Ok.ensures.added)

pub returns-in-Err-Passed-clause-stops : goal.returns-in-Err-Passed-clause-stops
returns-in-Err-Passed-clause-stops g c = λ ts holds.
    let m = c.args.market.now in
    let market = c.lines-lines.ensures.market in
    let h = c.requires.holds in
    let d = c.args.dict.now in
    let r = c.args.row in
    let absent = limit_absent_from m market h.0 ts d h.1 holds r h.2 in
    let count = put_count m ts d holds c.column_count.result c.column_count.ensures in
    let pair = rw c.in-Err-Passed.field-0-is at c.in-Err-Passed.ensures.pair in
    inl (pair_taken m market (ts ++ taking.Limit r ∷ []) (limit_more m market ts d r holds c.requires.row absent) (rows_put m ts) (Limit r) (rows_more m ts (taking.Limit r)) c.put_columns.new.dict (c.in_ok-put_columns.ensures ts holds absent)
    g.N.Exact.value c.slice.result.now (ap (map g.N.Exact.value) c.slice.ensures ∙ c.in_ok-entries.ensures.entries ts absent count) g.N.Exact.bound c.in-Err-Passed.passed
    (subst (λ (n : ℕ). IsPairWith g.N.Exact.value g.N.Exact.bound c.put_columns.new.dict n c.slice.result.now c.in-Err-Passed.passed) c.name_of-name.ensures pair))

pub returns-in_err-entries-clause-stops : goal.returns-in_err-entries-clause-stops
returns-in_err-entries-clause-stops g c = λ ts holds.
    let p = err_from_is_err_and c.from_residual.result c.from_residual.ensures.1 in
    let given : c.from_residual.result ≡ Err c.in_err-entries.field-0.0 = p.1 ∙ ap Err p.2 in
    rw given (on_passed_weaker c.in_err-entries.field-0.0 _ _ (λ pair why. inr why) c.in_err-entries.ensures.stops)
