use Rattle.std.proofs.Common.{◌≡◌, ◌≢◌, ◌+◌, ℕ, arith, sym, subst, pos, length}
use Rattle.std.proofs.lemmas.List.{length-map}
use Rattle.std.proofs.lemmas.Result.{MatchResult-weaker, IfErr-weaker}
use Rattle.fraction_theory.specs.Fraction.{whole}
use Rattle.linear_dict.specs.Dictionaries.{IsDictionary, pivoted, system_in}
use Rattle.linear_dict.specs.Tables.{cell}
use Rattle.network_theory.specs.Networks.{Network}
use Rattle.exact_flows.proofs.Exchanges.{next_entry, exchanged_more}
use Rattle.exact_flows.specs.Building.{IsExchanged}
use Rattle.exact_flows.specs.FlowSystems.{of_system}
use Rattle.exact_flows.specs.Lines.{line_branch, line_network}
use Rattle.exact_flows.proofs.solving.exchange.Goals as goal

pub overflow_add-lines : goal.overflow_add-lines
overflow_add-lines g c = Prim.omega (arith, c.requires.few.0, c.requires.few.1, c.requires.column)

pub pivot-requires-clause-entry : goal.pivot-requires-clause-entry
pivot-requires-clause-entry g c =
    let n : Network = line_network g.N.Exact.value c.args.buses c.args.lines.now in
    let d = c.args.dict.now in
    let h = c.requires.exchanged in
    subst (λ (k : ℕ). cell (length d.others) d.table (k + c.args.column) c.args.column ≢ whole (pos 0)) (length-map c.args.lines.now (line_branch g.N.Exact.value))
    (next_entry n c.args.reference c.requires.network c.requires.connected c.requires.reference d c.args.column h (Prim.omega (arith, c.requires.column, h.other_count)))

pub returns-clause-exchanged : goal.returns-clause-exchanged
returns-clause-exchanged g c =
    let n : Network = line_network g.N.Exact.value c.args.buses c.args.lines.now in
    let d = c.args.dict.now in
    let h = c.requires.exchanged in
    let count = length-map c.args.lines.now (line_branch g.N.Exact.value) in
    MatchResult-weaker c.pivot.result c.pivot.ensures.pivoted
    (λ _ e.
    let same : c.pivot.new.self ≡ pivoted d (length n.branches + c.args.column) c.args.column = subst (λ (k : ℕ). c.pivot.new.self ≡ pivoted d (k + c.args.column) c.args.column) (sym count) e in
    subst (IsExchanged n c.args.reference (c.args.column + 1)) (sym same)
    (exchanged_more n c.args.reference c.requires.network c.requires.connected c.requires.reference d c.args.column h (Prim.omega (arith, c.requires.column, h.other_count))
    (subst IsDictionary same c.pivot.ensures.sound)))
    (λ _ _. tt)

pub returns-clause-pair : goal.returns-clause-pair
returns-clause-pair g c = IfErr-weaker c.pivot.result _ _ (λ e p. of_system (system_in c.args.dict.now) c.requires.exchanged.system p) c.pivot.ensures.pair
