use Rattle.std.proofs.Common.{◌≡◌, ◌∙◌, ap, arith, map, subst, sym, ℕ, List}
use Rattle.std.proofs.lemmas.Result.{IfOk-weaker}
use Rattle.std.specs.List.{Contains}
use Rattle.linear_dict.specs.Dictionaries.{IsStart}
use Rattle.price_system.specs.PriceSystem.{name, sum_name}
use Rattle.price_dict.proofs.HoldingLaws.{start_put, sum_absent}
use Rattle.price_dict.proofs.rows.summed.Goals as goal

pub start-requires-clause-absent : goal.start-requires-clause-absent
start-requires-clause-absent g c =
    let m = c.args.market.now in
    let named : c.row_name_behind-sum.result ≡ sum_name m = omega (arith, c.row_name_behind-sum.ensures) in
    subst (λ (ns : List ℕ). ¬ (Contains ns c.row_name_behind-sum.result)) (sym (c.slice.ensures ∙ c.in_ok-names.ensures))
    (subst (λ (w : ℕ). ¬ (Contains (map (name m) c.args.columns.now) w)) (sym named) (sum_absent m c.args.columns.now c.lines-lines.ensures.market c.requires.columns))

pub returns-clause-put : goal.returns-clause-put
returns-clause-put g c =
    let m = c.args.market.now in
    let named : c.row_name_behind-sum.result ≡ sum_name m = omega (arith, c.row_name_behind-sum.ensures) in
    IfOk-weaker c.start.result _ _
    (λ d is. start_put g.N.Exact.value m c.args.columns.now c.slice.result.now c.slice-2.result.now d (c.slice.ensures ∙ c.in_ok-names.ensures)
    (ap (map g.N.Exact.value) c.slice-2.ensures ∙ c.in_ok-entries.ensures)
    (subst (λ (n : ℕ). IsStart g.N.Exact.value c.slice.result.now n c.slice-2.result.now d) named is))
    c.start.ensures

pub returns-clause-basics : goal.returns-clause-basics
returns-clause-basics g c = IfOk-weaker c.start.result _ _ (λ d is. is.basics ∙ sym is.rows) c.start.ensures
