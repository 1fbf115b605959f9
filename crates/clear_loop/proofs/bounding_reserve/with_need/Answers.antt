use Rattle.std.proofs.Common.{◌≡◌, ◌∙◌, ap, true, sym, refl}
use Rattle.std.proofs.lemmas.Result.{MatchResult-weaker}
use Rattle.fraction_theory.specs.Fraction.{whole, neg_ℚ, ◌+ℚ◌, ◌*ℚ◌}
use Rattle.exact_fraction.proofs.Shares.{share_refused}
use Rattle.market_model.specs.declared.participants.Reserve.{Reserve}
use Rattle.market_model.specs.Valued.{duals_at, passed_at}
use Rattle.market_model.proofs.FarkasParts.{need_made}
use Rattle.clear_loop.proofs.FarkasSums.{need_refused}
use Rattle.clear_loop.proofs.bounding_reserve.with_need.Goals as goal

pub returns-then-reserve-clause-sum : goal.returns-then-reserve-clause-sum
returns-then-reserve-clause-sum g c =
    let m = c.args.market.now in
    let value = g.N.Exact.value in
    let d = duals_at value c.args.duals.now in
    let listed : m.reserve.listed ≡ true = ap (λ (r : Reserve). r.listed) (sym c.reserve.ensures.reserve) ∙ c.if-reserve.true in
    let need = c.neg.ensures ∙ ap neg_ℚ (c.need_quantity-need.ensures ∙ ap (λ (r : Reserve). whole r.need) c.reserve-then-reserve.ensures.reserve) in
    MatchResult-weaker c.plus_product.result c.plus_product.ensures
    (λ r is. need_made m d listed (value c.args.of_energy) (value r) c.requires (is.exact ∙ ap (λ t. value c.args.of_energy +ℚ d.reserve *ℚ t) need)) (λ _ _. tt)

pub returns-then-reserve-clause-stops : goal.returns-then-reserve-clause-stops
returns-then-reserve-clause-stops g c =
    let m = c.args.market.now in
    let value = g.N.Exact.value in
    let d = duals_at value c.args.duals.now in
    let listed : m.reserve.listed ≡ true = ap (λ (r : Reserve). r.listed) (sym c.reserve.ensures.reserve) ∙ c.if-reserve.true in
    let need = c.neg.ensures ∙ ap neg_ℚ (c.need_quantity-need.ensures ∙ ap (λ (r : Reserve). whole r.need) c.reserve-then-reserve.ensures.reserve) in
    MatchResult-weaker c.plus_product.result c.plus_product.ensures (λ _ _. tt)
    (λ p is. need_refused m d listed (value c.args.of_energy) g.N.Exact.bound (passed_at value p) c.requires
    (share_refused value g.N.Exact.bound c.args.of_energy c.args.duals.now.reserve c.neg.result p _ _ _ is refl refl need))
