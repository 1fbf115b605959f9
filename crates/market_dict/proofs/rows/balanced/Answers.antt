use Rattle.std.proofs.Common.{◌≢◌, ◌∙◌, [], ℕ, List, map, ap, sym, subst, length}
use Rattle.std.specs.List.{AllPairs, Contains}
use Rattle.std.proofs.lemmas.List.{length-map}
use Rattle.std.proofs.lemmas.Result.{IfOk-weaker}
use Rattle.linear_dict.specs.Dictionaries.{IsStart}
use Rattle.market_system.specs.declared.variables.Variable.TheVariants.{Balance}
use Rattle.market_system.specs.MarketSystem.{name, coefficient}
use Rattle.market_dict.specs.Takings.{columns_put}
use Rattle.market_dict.proofs.HoldingLaws.{first_distinct, balance_absent, start_put}
use Rattle.market_dict.proofs.rows.balanced.Goals as goal

pub start-requires-clause-distinct : goal.start-requires-clause-distinct
start-requires-clause-distinct g c = subst (AllPairs (λ x y. x ≢ y)) (sym (c.slice.ensures ∙ c.in_ok-names.ensures)) (first_distinct c.args.market.now c.lines-lines.ensures.market)

pub start-requires-clause-absent : goal.start-requires-clause-absent
start-requires-clause-absent g c =
    let m = c.args.market.now in
    subst (λ (ns : List ℕ). ¬ (Contains ns c.name_of-balance.result)) (sym (c.slice.ensures ∙ c.in_ok-names.ensures))
    (subst (λ (w : ℕ). ¬ (Contains (map (name m) (columns_put m [])) w)) (sym c.name_of-balance.ensures) (balance_absent m c.lines-lines.ensures.market))

pub start-requires-clause-entries : goal.start-requires-clause-entries
start-requires-clause-entries g c =
    let m = c.args.market.now in
    sym (length-map c.slice-2.result.now g.N.Exact.value) ∙ ap length (ap (map g.N.Exact.value) c.slice-2.ensures ∙ c.in_ok-entries.ensures) ∙ length-map (columns_put m []) (coefficient m Balance)
    ∙ sym (ap length (c.slice.ensures ∙ c.in_ok-names.ensures) ∙ length-map (columns_put m []) (name m))

pub returns : goal.returns
returns g c =
    let m = c.args.market.now in
    IfOk-weaker c.start.result _ _
    (λ d is. start_put g.N.Exact.value m (columns_put m []) c.slice.result.now c.slice-2.result.now d (c.slice.ensures ∙ c.in_ok-names.ensures)
    (ap (map g.N.Exact.value) c.slice-2.ensures ∙ c.in_ok-entries.ensures)
    (subst (λ (n : ℕ). IsStart g.N.Exact.value c.slice.result.now n c.slice-2.result.now d) c.name_of-balance.ensures is))
    c.start.ensures
