use Rattle.std.proofs.Common.{◌≡◌, ◌∙◌, ℕ, true, false, sym, subst}
use Rattle.std.specs.List.{Contains}
use Rattle.linear_dict.specs.Dictionaries.{AddsColumn}
use Rattle.market_model.specs.LimitRows.{is_soft}
use Rattle.market_model.proofs.RowMembers.{at_places}
use Rattle.market_system.specs.MarketSystem.{over_name}
use Rattle.market_dict.proofs.HoldingLaws.{over_is_new, under_is_new, soft_put, hard_put}
use Rattle.market_dict.proofs.rows.put_columns.Goals as goal

pub is_soft-requires : goal.is_soft-requires
is_soft-requires g c = (at_places c.args.market.now c.lines-lines.ensures.market c.args.row c.requires.row).0

pub returns-then-not-is_soft : goal.returns-then-not-is_soft
returns-then-not-is_soft g c = λ rs holds absent.
    let hard : is_soft c.args.market.now c.args.row ≡ false = sym c.is_soft.ensures ∙ c.if-not-is_soft.true in
    hard_put c.args.market.now c.lines-lines.ensures.market rs c.args.dict.now c.args.row holds c.requires.row absent hard

pub add_column-requires-clause-absent : goal.add_column-requires-clause-absent
add_column-requires-clause-absent g c =
    let m = c.args.market.now in
    let h = c.requires.holds in
    let soft : is_soft m c.args.row ≡ true = sym c.is_soft.ensures ∙ c.if-not-is_soft.false in
    subst (λ (n : ℕ). ¬ (Contains c.args.dict.now.names n)) (sym c.name_of.ensures) (over_is_new m c.lines-lines.ensures.market h.0 c.args.dict.now c.args.row h.1 c.requires.row h.2 soft)

pub add_column-requires-2-clause-absent : goal.add_column-requires-2-clause-absent
add_column-requires-2-clause-absent g c =
    let m = c.args.market.now in
    let h = c.requires.holds in
    let one = c.add_column.new.self in
    let soft : is_soft m c.args.row ≡ true = sym c.is_soft.ensures ∙ c.if-not-is_soft.false in
    let first : AddsColumn c.args.dict.now (over_name m c.args.row) one = subst (λ (n : ℕ). AddsColumn c.args.dict.now n one) c.name_of.ensures c.in_ok-add_column.ensures in
    subst (λ (n : ℕ). ¬ (Contains one.names n)) (sym c.name_of-2.ensures) (under_is_new m c.lines-lines.ensures.market h.0 c.args.dict.now c.args.row h.1 c.requires.row h.2 one soft first)

pub returns : goal.returns
returns g c = λ rs holds absent.
    let m = c.args.market.now in
    let one = c.add_column.new.self in
    let two = c.add_column-2.new.self in
    let soft : is_soft m c.args.row ≡ true = sym c.is_soft.ensures ∙ c.if-not-is_soft.false in
    soft_put m c.lines-lines.ensures.market rs c.args.dict.now c.args.row holds c.requires.row absent one two soft
    (subst (λ (n : ℕ). AddsColumn c.args.dict.now n one) c.name_of.ensures c.in_ok-add_column.ensures)
    (subst (λ (n : ℕ). AddsColumn one n two) c.name_of-2.ensures c.in_ok-add_column-2.ensures)
