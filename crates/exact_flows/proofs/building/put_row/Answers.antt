use Rattle.std.proofs.Common.{◌∙◌, ℕ, List, arith, ap, length, subst, sym}
use Rattle.std.proofs.lemmas.List.{length-map}
use Rattle.linear_dict.specs.Adding.{AreSums}
use Rattle.network_theory.specs.Networks.{Network}
use Rattle.exact_flows.specs.Building.{bus_of, row_at}
use Rattle.exact_flows.specs.FlowSystems.{IsRowOf, coefficient, name}
use Rattle.exact_flows.specs.Lines.{line_branch, line_network}
use Rattle.exact_flows.specs.declared.rows.Row.{Row}
use Rattle.exact_flows.proofs.PutIn.{at_place, place_row, row_is_new, small_row, more_built, stopped_pair}
use Rattle.exact_flows.proofs.building.put_row.Goals as goal

pub coefficients-requires-clause-row : goal.coefficients-requires-clause-row
coefficients-requires-clause-row g c =
    let n : Network = line_network g.N.Exact.value c.args.buses c.args.lines.now in
    let count = length-map c.args.lines.now (line_branch g.N.Exact.value) in
    let here = c.row_at_place-row.ensures ∙ ap (λ (t : ℕ). row_at t c.args.reference c.args.place) (sym count) in
    subst (IsRowOf n c.args.reference) (sym here) (place_row n c.args.reference c.requires.reference c.args.place (Prim.omega (arith, c.requires.place, count)))

pub row_name-name-requires-clause-row : goal.row_name-name-requires-clause-row
row_name-name-requires-clause-row g c =
    let n : Network = line_network g.N.Exact.value c.args.buses c.args.lines.now in
    let count = length-map c.args.lines.now (line_branch g.N.Exact.value) in
    let here = c.row_at_place-row.ensures ∙ ap (λ (t : ℕ). row_at t c.args.reference c.args.place) (sym count) in
    small_row n c.args.reference c.requires.reference c.row_at_place-row.result
    (subst (IsRowOf n c.args.reference) (sym here) (place_row n c.args.reference c.requires.reference c.args.place (Prim.omega (arith, c.requires.place, count))))
    c.requires.few.0 (Prim.omega (arith, c.requires.few.1, count))

pub add_row-requires-clause-live : goal.add_row-requires-clause-live
add_row-requires-clause-live g c = c.requires.built.live

pub add_row-requires-clause-absent : goal.add_row-requires-clause-absent
add_row-requires-clause-absent g c =
    let n : Network = line_network g.N.Exact.value c.args.buses c.args.lines.now in
    let count = length-map c.args.lines.now (line_branch g.N.Exact.value) in
    let here = c.row_at_place-row.ensures ∙ ap (λ (t : ℕ). row_at t c.args.reference c.args.place) (sym count) in
    row_is_new n c.args.reference c.requires.reference c.args.place c.args.dict.now c.requires.built (Prim.omega (arith, c.requires.place, count)) c.row_name-name.result
    (c.row_name-name.ensures ∙ ap (name c.args.buses) here)

pub add_row-requires-clause-entries : goal.add_row-requires-clause-entries
add_row-requires-clause-entries g c =
    ap length c.slice.ensures ∙ (c.in_ok-numbers.ensures.numbers (length c.args.dict.now.columns) c.requires.built.columns.count).size

pub returns-in-Ok-clause-built : goal.returns-in-Ok-clause-built
returns-in-Ok-clause-built g c =
    let value = g.N.Exact.value in
    let n : Network = line_network value c.args.buses c.args.lines.now in
    let d = c.args.dict.now in
    let count = length-map c.args.lines.now (line_branch value) in
    let here = c.row_at_place-row.ensures ∙ ap (λ (t : ℕ). row_at t c.args.reference c.args.place) (sym count) in
    let sums = subst (λ (row : Row). AreSums value c.in_ok-numbers.numbers (length d.columns) (λ i. coefficient n.branches row (bus_of c.args.reference i))) here
    (c.in_ok-numbers.ensures.numbers (length d.columns) c.requires.built.columns.count) in
    more_built n c.args.reference c.requires.reference c.args.place d c.requires.built value c.row_name-name.result c.slice.result.now c.add_row.new.self
    (c.row_name-name.ensures ∙ ap (name c.args.buses) here)
    (subst (λ (xs : List g.row.N.Denot). AreSums value xs (length d.columns) (λ i. coefficient n.branches (at_place n c.args.reference c.requires.reference c.args.place) (bus_of c.args.reference i))) (sym c.slice.ensures) sums)
    c.in-Ok.ensures.added

pub returns-in-Err-Passed-clause-pair : goal.returns-in-Err-Passed-clause-pair
returns-in-Err-Passed-clause-pair g c =
    let value = g.N.Exact.value in
    let n : Network = line_network value c.args.buses c.args.lines.now in
    let d = c.args.dict.now in
    let count = length-map c.args.lines.now (line_branch value) in
    let here = c.row_at_place-row.ensures ∙ ap (λ (t : ℕ). row_at t c.args.reference c.args.place) (sym count) in
    let sums = subst (λ (row : Row). AreSums value c.in_ok-numbers.numbers (length d.columns) (λ i. coefficient n.branches row (bus_of c.args.reference i))) here
    (c.in_ok-numbers.ensures.numbers (length d.columns) c.requires.built.columns.count) in
    let pair = rw c.in-Err-Passed.field-0-is at c.in-Err-Passed.ensures.pair in
    stopped_pair n c.args.reference c.requires.reference value g.N.Exact.bound c.args.place d c.row_name-name.result c.slice.result.now c.in-Err-Passed.passed c.requires.built
    (Prim.omega (arith, c.requires.place, count))
    (c.row_name-name.ensures ∙ ap (name c.args.buses) here)
    (subst (λ (xs : List g.row.N.Denot). AreSums value xs (length d.columns) (λ i. coefficient n.branches (at_place n c.args.reference c.requires.reference c.args.place) (bus_of c.args.reference i))) (sym c.slice.ensures) sums)
    pair
