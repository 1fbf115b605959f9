use Rattle.std.proofs.Common.{◌≡◌, Err, List, refl, rules, subst}
use Rattle.std.specs.Prelude.{Contains}
use Rattle.exact_fraction.specs.declared.Op.TheVariants.{Plus, Times}
use Rattle.market_model.specs.declared.limits.Row.{Row}
use Rattle.market_model.specs.Valued.{duals_at}
use Rattle.market_model.proofs.SumSteps.{product_too_large, refusal}
use Rattle.price_search.specs.Caps.{IsFactor, IsGreatestFactor, IsMost, IsRoundedUp, of_factor, of_more, of_range, of_share, of_shares}
use Rattle.price_search.specs.Points.{caps_at}
use Rattle.price_search.proofs.BoundLists.{with_one}
use Rattle.price_search.proofs.CapLemmas.{are_caps, share_is, told_caps, twice}
use Rattle.price_search.proofs.RowLemmas.{is_row}
use Rattle.price_search.proofs.caps.price_caps.Goals as goal

pub greatest_factor-requires : goal.greatest_factor-requires
greatest_factor-requires g c = λ r k.
    is_row c.args.market.now c.requires.0 r (subst (λ (rs : List Row). Contains rs r) c.requires.1.rows k)

pub returns-in_err-greatest-clause-stops : goal.returns-in_err-greatest-clause-stops
returns-in_err-greatest-clause-stops g c = λ x reached.
    let why = c.in_err-greatest.ensures.stops in
    let given : c.from_residual-in_err-greatest.result ≡ Err c.in_err-greatest.field-0.0 = search rules in
    rw given (of_factor (why.0, subst (λ (rs : List Row). Contains rs why.0) reached.rows why.1, why.2))

pub returns-in_err-all-clause-stops : goal.returns-in_err-all-clause-stops
returns-in_err-all-clause-stops g c = λ x reached.
    let value = g.N.Exact.value in
    let bound = g.N.Exact.bound in
    let m = c.args.market.now in
    let factor = value c.rounded_up-factor.result in
    let also : IsFactor m x factor =
    (value c.in_ok-greatest.greatest, subst (λ (rs : List Row). IsGreatestFactor m rs (value c.in_ok-greatest.greatest)) reached.rows c.in_ok-greatest.ensures.greatest, c.rounded_up-factor.ensures.rounded) in
    let p = c.in_err-all.field-0.0 in
    let given : c.from_residual-in_err-all.result ≡ Err p = search rules in
    rw given (of_more factor also (refusal value bound Plus c.datum.result c.rounded_up-factor.result _ _ p c.datum.ensures refl c.in_err-all.ensures))

pub returns-in_err-share-clause-stops : goal.returns-in_err-share-clause-stops
returns-in_err-share-clause-stops g c = λ x reached.
    let value = g.N.Exact.value in
    let bound = g.N.Exact.bound in
    let m = c.args.market.now in
    let most = value c.rounded_up-most.result in
    let factor = value c.rounded_up-factor.result in
    let is : IsMost (duals_at value c.args.duals.now) most = subst (λ t. IsRoundedUp t most) c.in_ok-sum_of_prices.ensures.sum c.rounded_up-most.ensures.rounded in
    let also : IsFactor m x factor =
    (value c.in_ok-greatest.greatest, subst (λ (rs : List Row). IsGreatestFactor m rs (value c.in_ok-greatest.greatest)) reached.rows c.in_ok-greatest.ensures.greatest, c.rounded_up-factor.ensures.rounded) in
    let p = c.in_err-share.field-0.0 in
    let given : c.from_residual-in_err-share.result ≡ Err p = search rules in
    let one = with_one (value c.in_ok-all.all) (value c.datum.result) factor c.in_ok-all.ensures.exact c.datum.ensures in
    rw given
    (of_share most factor is also (refusal value bound Times c.rounded_up-most.result c.in_ok-all.all _ _ p refl one
    (product_too_large value bound c.rounded_up-most.result c.in_ok-all.all p c.in_err-share.ensures)))

pub returns-in_err-shares-clause-stops : goal.returns-in_err-shares-clause-stops
returns-in_err-shares-clause-stops g c = λ x reached.
    let value = g.N.Exact.value in
    let bound = g.N.Exact.bound in
    let m = c.args.market.now in
    let most = value c.rounded_up-most.result in
    let factor = value c.rounded_up-factor.result in
    let is : IsMost (duals_at value c.args.duals.now) most = subst (λ t. IsRoundedUp t most) c.in_ok-sum_of_prices.ensures.sum c.rounded_up-most.ensures.rounded in
    let also : IsFactor m x factor =
    (value c.in_ok-greatest.greatest, subst (λ (rs : List Row). IsGreatestFactor m rs (value c.in_ok-greatest.greatest)) reached.rows c.in_ok-greatest.ensures.greatest, c.rounded_up-factor.ensures.rounded) in
    let p = c.in_err-shares.field-0.0 in
    let given : c.from_residual-in_err-shares.result ≡ Err p = search rules in
    let share = share_is most factor (value c.in_ok-all.all) (value c.datum.result) (value c.in_ok-share.share) c.datum.ensures c.in_ok-all.ensures.exact c.in_ok-share.ensures.exact in
    rw given (of_shares most factor is also (refusal value bound Plus c.in_ok-share.share c.in_ok-share.share _ _ p share share c.in_err-shares.ensures))

pub returns-in_err-range-clause-stops : goal.returns-in_err-range-clause-stops
returns-in_err-range-clause-stops g c = λ x reached.
    let value = g.N.Exact.value in
    let bound = g.N.Exact.bound in
    let m = c.args.market.now in
    let most = value c.rounded_up-most.result in
    let factor = value c.rounded_up-factor.result in
    let is : IsMost (duals_at value c.args.duals.now) most = subst (λ t. IsRoundedUp t most) c.in_ok-sum_of_prices.ensures.sum c.rounded_up-most.ensures.rounded in
    let also : IsFactor m x factor =
    (value c.in_ok-greatest.greatest, subst (λ (rs : List Row). IsGreatestFactor m rs (value c.in_ok-greatest.greatest)) reached.rows c.in_ok-greatest.ensures.greatest, c.rounded_up-factor.ensures.rounded) in
    let p = c.in_err-range.field-0.0 in
    let given : c.from_residual-in_err-range.result ≡ Err p = search rules in
    let share = share_is most factor (value c.in_ok-all.all) (value c.datum.result) (value c.in_ok-share.share) c.datum.ensures c.in_ok-all.ensures.exact c.in_ok-share.ensures.exact in
    rw given
    (of_range most factor (value c.rounded_up-energy.result) is also (subst (λ t. IsRoundedUp t (value c.rounded_up-energy.result)) c.size.ensures c.rounded_up-energy.ensures.rounded)
    (refusal value bound Plus c.rounded_up-energy.result c.in_ok-shares.shares _ _ p refl
    (twice most factor (value c.in_ok-share.share) (value c.in_ok-shares.shares) share c.in_ok-shares.ensures.exact) c.in_err-range.ensures))

pub returns-clause-caps : goal.returns-clause-caps
returns-clause-caps g c = λ x reached proper.
    let value = g.N.Exact.value in
    let m = c.args.market.now in
    let d = duals_at value c.args.duals.now in
    let most = value c.rounded_up-most.result in
    let factor = value c.rounded_up-factor.result in
    let share = share_is most factor (value c.in_ok-all.all) (value c.datum.result) (value c.in_ok-share.share) c.datum.ensures c.in_ok-all.ensures.exact c.in_ok-share.ensures.exact in
    let shares = twice most factor (value c.in_ok-share.share) (value c.in_ok-shares.shares) share c.in_ok-shares.ensures.exact in
    are_caps m x d (caps_at value (record { most = c.rounded_up-most.result; factor = c.rounded_up-factor.result; range = c.in_ok-range.range }))
    (value c.in_ok-sum_of_prices.field-0) (value c.size.result) (value c.rounded_up-energy.result) (value c.in_ok-shares.shares) c.in_ok-sum_of_prices.ensures.sum c.size.ensures
    shares c.in_ok-range.ensures.exact c.lines-lines.ensures.market proper c.rounded_up-most.ensures.least (value c.in_ok-greatest.greatest)
    (subst (λ (rs : List Row). IsGreatestFactor m rs (value c.in_ok-greatest.greatest)) reached.rows c.in_ok-greatest.ensures.greatest)
    c.rounded_up-factor.ensures.least c.rounded_up-energy.ensures.least

pub returns-clause-told : goal.returns-clause-told
returns-clause-told g c = λ x reached.
    let value = g.N.Exact.value in
    let m = c.args.market.now in
    let d = duals_at value c.args.duals.now in
    let most = value c.rounded_up-most.result in
    let factor = value c.rounded_up-factor.result in
    let share = share_is most factor (value c.in_ok-all.all) (value c.datum.result) (value c.in_ok-share.share) c.datum.ensures c.in_ok-all.ensures.exact c.in_ok-share.ensures.exact in
    let shares = twice most factor (value c.in_ok-share.share) (value c.in_ok-shares.shares) share c.in_ok-shares.ensures.exact in
    told_caps m x d (caps_at value (record { most = c.rounded_up-most.result; factor = c.rounded_up-factor.result; range = c.in_ok-range.range }))
    (value c.in_ok-sum_of_prices.field-0) (value c.size.result) (value c.rounded_up-energy.result) (value c.in_ok-shares.shares) c.in_ok-sum_of_prices.ensures.sum c.size.ensures
    shares c.in_ok-range.ensures.exact c.rounded_up-most.ensures.rounded
    (value c.in_ok-greatest.greatest, subst (λ (rs : List Row). IsGreatestFactor m rs (value c.in_ok-greatest.greatest)) reached.rows c.in_ok-greatest.ensures.greatest, c.rounded_up-factor.ensures.rounded)
    c.rounded_up-energy.ensures.rounded
