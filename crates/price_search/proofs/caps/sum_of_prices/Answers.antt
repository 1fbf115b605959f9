use Rattle.std.proofs.Common.{◌≡◌, ◌++◌, refl}
use Rattle.fraction_theory.specs.Sums.{total}
use Rattle.market_model.specs.Valued.{duals_at}
use Rattle.price_search.specs.Caps.{limit_price_terms, room_price_terms}
use Rattle.price_search.proofs.CapSums.{all_refused, all_summed}
use Rattle.price_search.proofs.caps.sum_of_prices.Goals as goal

pub returns-clause-sum : goal.returns-clause-sum
returns-clause-sum g c =
    let value = g.N.Exact.value in
    let d = duals_at value c.args.duals.now in
    let limits : value c.in_ok-of_limits.of_limits ≡ total (limit_price_terms d.limits) = rw c.slice.ensures at c.in_ok-of_limits.ensures.sum in
    let both : value c.in_ok-of_both.of_both ≡ total (limit_price_terms d.limits ++ room_price_terms d.rooms) = rw c.slice-2.ensures at c.in_ok-of_both.ensures.sum (limit_price_terms d.limits) limits in
    all_summed value g.N.Exact.bound d c.in_ok-of_both.of_both c.args.duals.now.reserve both refl c.exact_sum.result c.exact_sum.ensures

pub returns-clause-stops : goal.returns-clause-stops
returns-clause-stops g c =
    let value = g.N.Exact.value in
    let d = duals_at value c.args.duals.now in
    let limits : value c.in_ok-of_limits.of_limits ≡ total (limit_price_terms d.limits) = rw c.slice.ensures at c.in_ok-of_limits.ensures.sum in
    let both : value c.in_ok-of_both.of_both ≡ total (limit_price_terms d.limits ++ room_price_terms d.rooms) = rw c.slice-2.ensures at c.in_ok-of_both.ensures.sum (limit_price_terms d.limits) limits in
    all_refused value g.N.Exact.bound d c.in_ok-of_both.of_both c.args.duals.now.reserve both refl c.exact_sum.result c.exact_sum.ensures
