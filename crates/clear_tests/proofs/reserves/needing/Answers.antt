use Rattle.std.proofs.Common.{rules, ◌≡◌, subst, sym, w64}
use mir.Val.{to_z, of_z}
use Rattle.std.specs.Prelude.{ℤ}
use Rattle.market_model.specs.Market.{IsMarket}
use Rattle.limit_screen.proofs.TestMarkets.{needing, needing_is_market}
use Rattle.clear_tests.proofs.reserves.needing.Goals as goal

pub assemble-requires : goal.assemble-requires
assemble-requires c =
    let given : to_z w64 (of_z w64 c.args.need) ≡ c.args.need = search rules in
    rw (c.in_ok-offers.ensures, c.bare-parts.ensures, c.in_ok-buses.ensures, c.in_ok-units.ensures, c.in_ok-blocks.ensures)
    (subst (λ (n : ℤ). IsMarket (needing n)) (sym given) (needing_is_market c.args.need c.requires))
