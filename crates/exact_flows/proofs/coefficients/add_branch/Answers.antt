use Rattle.std.proofs.Common.{◌∙◌, ap, inl, inr, refl}
use Rattle.std.proofs.lemmas.Result.{MatchResult-weaker}
use Rattle.fraction_theory.specs.Fraction.{◌+ℚ◌}
use Rattle.network_theory.specs.Networks.{Branch}
use Rattle.exact_flows.specs.Lines.{line_branch}
use Rattle.exact_flows.proofs.Terms.{nothing_taken, term_taken}
use Rattle.exact_flows.proofs.coefficients.add_branch.Goals as goal
use Rattle.exact_flows.proofs.coefficients.add_branch.Goals.{then-is_away-via-then-is_away, then-is_away-via-else-is_away+then-is_away-2}

pub returns-then-is_away-clause-sum : goal.returns-then-is_away-clause-sum
returns-then-is_away-clause-sum g c =
    let b : Branch = line_branch g.N.Exact.value c.args.line in
    nothing_taken c.args.bus c.args.other b (g.N.Exact.value c.args.sum)
    (elim c.then-is_away.branch [
      | then-is_away-via-then-is_away w ↦ inl (w.if-is_away.ensures refl)
      | then-is_away-via-else-is_away+then-is_away-2 w ↦ inr (w.if-is_away-2.ensures refl)
    ])

pub returns-clause-sum : goal.returns-clause-sum
returns-clause-sum g c =
    let value = g.N.Exact.value in
    let b : Branch = line_branch value c.args.line in
    MatchResult-weaker c.exact_sum.result c.exact_sum.ensures
    (λ more is. is.exact ∙ ap (λ t. value c.args.sum +ℚ t) (term_taken c.args.bus c.args.other b (value c.at_end-through.result) (value c.at_end-term.result) c.at_end-through.ensures c.at_end-term.ensures))
    (λ _ _. tt)

pub returns-clause-stops : goal.returns-clause-stops
returns-clause-stops g c =
    let value = g.N.Exact.value in
    let b : Branch = line_branch value c.args.line in
    MatchResult-weaker c.exact_sum.result c.exact_sum.ensures (λ _ _. tt)
    (λ e is. (
      c.args.sum,
      c.at_end-term.result,
      refl,
      term_taken c.args.bus c.args.other b (value c.at_end-through.result) (value c.at_end-term.result) c.at_end-through.ensures c.at_end-term.ensures,
      is,
    ))
