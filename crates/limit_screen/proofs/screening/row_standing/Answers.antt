use Rattle.std.proofs.Common.{◌≡◌, ◌∙◌, ap, map, subst₂, sym, w64}
use Rattle.std.proofs.lemmas.Int.{to_z-of_z}
use mir.Val.{to_z, of_z}
use Rattle.fraction_theory.specs.Fraction.{whole}
use Rattle.fraction_theory.specs.Signs.{abs_ℚ}
use Rattle.fraction_theory.proofs.OrderLaws.{<ℚ-≤ℚ, ≤ℚ_of_same}
use Rattle.market_model.specs.LimitRows.{Carried, flow_by, limit}
use Rattle.market_model.proofs.RowMembers.{at_places}
use Rattle.limit_screen.specs.Flows.{carried_at}
use Rattle.limit_screen.specs.Screening.{StandsTo, taken_rows}
use Rattle.limit_screen.specs.declared.screening.Standing.{Standing}
use Rattle.limit_screen.specs.declared.screening.Standing.TheVariants as standing
use Rattle.limit_screen.proofs.ScreenLemmas.{below_nil, keeps_limit, limit_passed}
use Rattle.limit_screen.proofs.screening.row_standing.Given.{Over}
use Rattle.limit_screen.proofs.screening.row_standing.Goals as goal
use Rattle.limit_screen.proofs.screening.row_standing.Goals.{After-against_limit}

pub row_flow-requires-clause-line : goal.row_flow-requires-clause-line
row_flow-requires-clause-line g c = (at_places c.args.market.now c.lines-lines.ensures.market c.args.row c.requires.row).0

pub row_flow-requires-clause-lost : goal.row_flow-requires-clause-lost
row_flow-requires-clause-lost g c = (at_places c.args.market.now c.lines-lines.ensures.market c.args.row c.requires.row).1

pub limit_at-requires : goal.limit_at-requires
limit_at-requires g c = (at_places c.args.market.now c.lines-lines.ensures.market c.args.row c.requires.row).0

-- how the flow of the row stands to its limit
stands : (g : Over) (c : After-against_limit g) → let m = c.args.market.now in let value = g.N.Exact.value in (s : Standing g.row.N.Denot)
    → StandsTo value (abs_ℚ (value c.in_ok-flow.flow)) (value c.datum.result) s → StandsTo value (abs_ℚ (flow_by m (carried_at m (map value c.args.flows.now)) c.args.row)) (limit m c.args.row) s
stands g c = λ s is.
    let m = c.args.market.now in
    let known : to_z w64 (of_z w64 c.limit_at.result) ≡ c.limit_at.result = to_z-of_z w64 c.limit_at.result (record { sfits = c.limit_at.type_inv }) in
    subst₂ (λ f l. StandsTo g.N.Exact.value (abs_ℚ f) l s) (c.in_ok-flow.ensures.flow ∙ ap (λ (f : Carried). flow_by m f c.args.row) c.carried_flows.ensures.is) (c.datum.ensures ∙ ap whole known ∙ c.limit_at.ensures.limit) is

pub returns-in-Below-clause-standing : goal.returns-in-Below-clause-standing
returns-in-Below-clause-standing g c =
    let m = c.args.market.now in
    let f = flow_by m (carried_at m (map g.N.Exact.value c.args.flows.now)) c.args.row in
    let below = stands g (goal.at.returns-in-Below-clause-standing g c).After-against_limit standing.Below (rw c.in-Below.is at c.in_ok-against_limit.ensures.stands) in
    (keeps_limit m (taken_rows m c.args.taken) c.args.row f c.lines-lines.ensures.market (below_nil (abs_ℚ f) (limit m c.args.row) (<ℚ-≤ℚ (abs_ℚ f) (limit m c.args.row) below)), below)

pub returns-in-Reached-clause-standing : goal.returns-in-Reached-clause-standing
returns-in-Reached-clause-standing g c =
    let m = c.args.market.now in
    let f = flow_by m (carried_at m (map g.N.Exact.value c.args.flows.now)) c.args.row in
    let same = stands g (goal.at.returns-in-Reached-clause-standing g c).After-against_limit standing.Reached (rw c.in-Reached.is at c.in_ok-against_limit.ensures.stands) in (
      keeps_limit m (taken_rows m c.args.taken) c.args.row f c.lines-lines.ensures.market (below_nil (abs_ℚ f) (limit m c.args.row) (≤ℚ_of_same (abs_ℚ f) (limit m c.args.row) same)),
      ≤ℚ_of_same (limit m c.args.row) (abs_ℚ f) (sym same),
    )

pub returns-then-keeps_excess-clause-standing : goal.returns-then-keeps_excess-clause-standing
returns-then-keeps_excess-clause-standing g c =
    let m = c.args.market.now in
    let value = g.N.Exact.value in
    let f = flow_by m (carried_at m (map value c.args.flows.now)) c.args.row in
    let past = stands g (goal.at.returns-then-keeps_excess-clause-standing g c).After-against_limit (standing.Beyond c.in-Beyond.overrun) (rw c.in-Beyond.is at c.in_ok-against_limit.ensures.stands) in
    (c.if-keeps_excess.ensures f past.1, <ℚ-≤ℚ (limit m c.args.row) (abs_ℚ f) (limit_passed (abs_ℚ f) (limit m c.args.row) (rw past.1 at past.0)))

pub returns-else-keeps_excess-clause-standing : goal.returns-else-keeps_excess-clause-standing
returns-else-keeps_excess-clause-standing g c =
    let m = c.args.market.now in
    let value = g.N.Exact.value in
    let f = flow_by m (carried_at m (map value c.args.flows.now)) c.args.row in
    let past = stands g (goal.at.returns-else-keeps_excess-clause-standing g c).After-against_limit (standing.Beyond c.in-Beyond.overrun) (rw c.in-Beyond.is at c.in_ok-against_limit.ensures.stands) in
    (c.if-keeps_excess.ensures f past.1, past.0, past.1)
