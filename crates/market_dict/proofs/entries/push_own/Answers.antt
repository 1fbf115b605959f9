use Rattle.std.proofs.Common.{◌∙◌, ◌++◌, List, Bool, map, ap, sym, pos}
use Rattle.std.specs.Prelude.{if◌then◌else◌}
use Rattle.std.proofs.lemmas.List.{append-nil}
use Rattle.fraction_theory.specs.Fraction.{whole, neg_ℚ}
use Rattle.market_model.specs.Dispatch.{zero}
use Rattle.market_model.proofs.RowMembers.{at_places}
use Rattle.market_system.specs.declared.variables.Variable.{Variable}
use Rattle.market_system.specs.MarketSystem.{limit_coefficient}
use Rattle.market_system.proofs.RowOrder.{same_row-itself}
use Rattle.market_dict.proofs.ColumnLists.{hard_columns, pushed_twice}
use Rattle.market_dict.proofs.entries.push_own.Goals as goal

pub is_soft-requires : goal.is_soft-requires
is_soft-requires g c = (at_places c.args.market.now c.lines-lines.ensures.market c.args.row c.requires.row).0

pub returns-then-not-is_soft : goal.returns-then-not-is_soft
returns-then-not-is_soft g c =
    let m = c.args.market.now in
    let old = map g.N.Exact.value c.args.entries.now in
    sym (ap (λ (vs : List Variable). old ++ map (limit_coefficient m c.args.row) vs) (hard_columns m c.args.row (sym c.is_soft.ensures ∙ c.if-not-is_soft.true)) ∙ append-nil old)

pub returns : goal.returns
returns g c =
    let m = c.args.market.now in
    let r = c.args.row in
    pushed_twice m g.N.Exact.value (limit_coefficient m r) r c.args.entries.now c.push.new.self c.push-2.new.self c.neg.result c.datum-one.result (sym c.is_soft.ensures ∙ c.if-not-is_soft.false) c.in_ok-push.ensures c.in_ok-push-2.ensures
    (c.neg.ensures ∙ ap neg_ℚ c.datum-one.ensures ∙ sym (ap (λ (b : Bool). if b then neg_ℚ (whole (pos 1)) else zero) (same_row-itself r)))
    (c.datum-one.ensures ∙ sym (ap (λ (b : Bool). if b then whole (pos 1) else zero) (same_row-itself r)))
