use Rattle.std.proofs.Common.{rules, Err, ◌≡◌, ◌∙◌, ap₂, inl}
use Rattle.std.proofs.lemmas.Result.{MatchResult-weaker}
use Rattle.fraction_theory.specs.Fraction.{◌+ℚ◌}
use Rattle.exact_fraction.specs.declared.Op.TheVariants.{Plus}
use Rattle.market_model.specs.Optimality.{congestion, price_by}
use Rattle.market_model.specs.SumTables.{price_at}
use Rattle.market_model.specs.Valued.{passed_at}
use Rattle.market_model.proofs.SumSteps.{refusal}
use Rattle.cert_sums.proofs.NamedLemmas.{in_congestion, price_refused}
use Rattle.cert_sums.proofs.pricing.bus_price.Goals as goal

pub returns-clause-price : goal.returns-clause-price
unfolding price_by
returns-clause-price g c = λ d energy are. MatchResult-weaker c.exact_sum.result c.exact_sum.ensures (λ r is. is.exact ∙ ap₂ ◌+ℚ◌ energy (c.in_ok-congestion.ensures.sum d are)) (λ _ _. tt)

pub returns-in_err-congestion-clause-stops : goal.returns-in_err-congestion-clause-stops
returns-in_err-congestion-clause-stops g c =
    let given : c.from_residual.result ≡ Err c.in_err-congestion.field-0.0 = search rules in
    λ d energy are. rw given (in_congestion c.args.market.now d c.args.bus g.N.Exact.bound (passed_at g.N.Exact.value c.in_err-congestion.field-0.0) (c.in_err-congestion.ensures.stops d are))

pub returns-clause-stops : goal.returns-clause-stops
returns-clause-stops g c = λ d energy are.
    MatchResult-weaker c.exact_sum.result c.exact_sum.ensures (λ _ _. tt)
    (λ p is. inl (
      _,
      price_at,
      price_refused c.args.market.now d c.args.bus g.N.Exact.bound (passed_at g.N.Exact.value p)
          (refusal g.N.Exact.value g.N.Exact.bound Plus c.args.energy c.in_ok-congestion.congestion d.energy (congestion c.args.market.now d c.args.bus) p energy (c.in_ok-congestion.ensures.sum d are) is),
    ))
