use Rattle.std.specs.Prelude.{Bool, if◌then◌else◌}
use Rattle.std.proofs.Common.{◌≡◌, ◌<◌, ◌∙◌, true, false, ap, sym, subst, length, arith}
use Rattle.std.specs.List.{Contains}
use Rattle.fraction_theory.specs.Fraction.{neg_ℚ}
use Rattle.fraction_theory.specs.Signs.{part_above}
use Rattle.market_model.specs.declared.participants.Reserve.{Reserve}
use Rattle.market_model.specs.Dispatch.{zero}
use Rattle.market_system.specs.declared.variables.Variable.TheVariants.{Need}
use Rattle.market_system.specs.MarketSystem.{need_name}
use Rattle.market_dict.proofs.HoldingLaws.{variable_named}
use Rattle.market_dict.proofs.ReadingLemmas.{cost_at}
use Rattle.market_dict.proofs.reserve_prices.reserve_price.Goals as goal

pub returns-then-not-reserve : goal.returns-then-not-reserve
returns-then-not-reserve g c = λ ts cost holds same.
    let m = c.args.market.now in
    let unlisted : m.reserve.listed ≡ false = sym (ap (λ (r : Reserve). r.listed) c.reserve.ensures.reserve) ∙ c.if-not-reserve.true in
    c.datum.ensures ∙ sym (ap (λ (b : Bool). if b then part_above (neg_ℚ (cost (need_name m))) else zero) unlisted)

pub rank_of-rank-requires-clause-named : goal.rank_of-rank-requires-clause-named
rank_of-rank-requires-clause-named g c =
    let m = c.args.market.now in
    let h = c.requires.holds in
    let listed : m.reserve.listed ≡ true = sym (ap (λ (r : Reserve). r.listed) c.reserve.ensures.reserve) ∙ c.if-not-reserve.false in
    subst (Contains c.args.dict.now.names) (sym c.name_of.ensures) (variable_named m h.0 c.args.dict.now h.1 Need listed)

pub returns : goal.returns
returns g c = λ ts cost holds same.
    let m = c.args.market.now in
    let d = c.args.dict.now in
    let k = c.rank_of-rank.result in
    let listed : m.reserve.listed ≡ true = sym (ap (λ (r : Reserve). r.listed) c.reserve.ensures.reserve) ∙ c.if-not-reserve.false in
    let lt : k < length c.args.costs.now = omega (arith, c.rank_of-rank.ensures.within, c.requires.costs) in
    let priced = cost_at g.N.Exact.value cost c.args.costs.now d.names k c.index-costs-rank.result same lt c.index-costs-rank.is ∙ ap cost (c.rank_of-rank.ensures.name ∙ c.name_of.ensures) in
    c.clamped.ensures ∙ ap part_above (c.neg.ensures ∙ ap neg_ℚ priced) ∙ sym (ap (λ (b : Bool). if b then part_above (neg_ℚ (cost (need_name m))) else zero) listed)
