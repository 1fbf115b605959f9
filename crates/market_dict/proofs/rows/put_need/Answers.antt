use Rattle.std.proofs.Common.{◌∙◌, [], ◌∷◌, ℕ, map, ap, sym, subst}
use Rattle.std.specs.List.{Contains}
use Rattle.linear_dict.specs.Causes.{IsPairWith}
use Rattle.linear_dict.specs.Dictionaries.{AddsRow}
use Rattle.market_system.specs.declared.variables.Variable.TheVariants.{Balance, Need}
use Rattle.market_dict.proofs.HoldingLaws.{need_is_no_balance, row_is_new, entry_count, holds_taken, pair_taken}
use Rattle.market_dict.proofs.TakingLists.{no_takings, rows_need}
use Rattle.market_dict.proofs.rows.put_need.Goals as goal

pub add_row-requires-clause-live : goal.add_row-requires-clause-live
add_row-requires-clause-live g c = c.requires.put.live

pub add_row-requires-clause-absent : goal.add_row-requires-clause-absent
add_row-requires-clause-absent g c =
    let m = c.args.market.now in
    let d = c.args.dict.now in
    subst (λ (n : ℕ). ¬ (Contains d.names n)) (sym c.name_of-name.ensures)
    (row_is_new m c.lines-lines.ensures.market [] (no_takings m) (Balance ∷ []) Need (rows_need m c.requires.listed) d c.requires.put need_is_no_balance)

pub add_row-requires-clause-entries : goal.add_row-requires-clause-entries
add_row-requires-clause-entries g c =
    let m = c.args.market.now in
    entry_count m c.lines-lines.ensures.market [] (no_takings m) (Balance ∷ []) Need (rows_need m c.requires.listed) c.args.dict.now c.requires.put g.N.Exact.value c.slice.result.now
    (ap (map g.N.Exact.value) c.slice.ensures ∙ c.in_ok-entries.ensures)

pub returns-in-Ok-clause-holds : goal.returns-in-Ok-clause-holds
returns-in-Ok-clause-holds g c =
    let m = c.args.market.now in
    holds_taken m c.lines-lines.ensures.market [] (no_takings m) (Balance ∷ []) Need (rows_need m c.requires.listed) c.args.dict.now c.requires.put g.N.Exact.value c.slice.result.now
    (ap (map g.N.Exact.value) c.slice.ensures ∙ c.in_ok-entries.ensures) c.add_row.new.self
    (subst (λ (n : ℕ). AddsRow g.N.Exact.value c.args.dict.now n c.slice.result.now c.add_row.new.self) c.name_of-name.ensures c.in-Ok.ensures.added)

pub returns-in-Err-Passed-clause-pair : goal.returns-in-Err-Passed-clause-pair
returns-in-Err-Passed-clause-pair g c =
    let m = c.args.market.now in
    let pair = rw c.in-Err-Passed.field-0-is at c.in-Err-Passed.ensures.pair in
    pair_taken m c.lines-lines.ensures.market [] (no_takings m) (Balance ∷ []) Need (rows_need m c.requires.listed) c.args.dict.now c.requires.put g.N.Exact.value c.slice.result.now
    (ap (map g.N.Exact.value) c.slice.ensures ∙ c.in_ok-entries.ensures) g.N.Exact.bound c.in-Err-Passed.passed
    (subst (λ (n : ℕ). IsPairWith g.N.Exact.value g.N.Exact.bound c.args.dict.now n c.slice.result.now c.in-Err-Passed.passed) c.name_of-name.ensures pair)
