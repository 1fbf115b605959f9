use Rattle.std.proofs.Common.{rules, Err, refl, ◌≡◌, ◌∙◌, map, sym}
use Rattle.std.proofs.lemmas.List.{length-map}
use Rattle.exact_fraction.specs.declared.Op.TheVariants.{Times}
use Rattle.market_model.specs.Dispatch.{empty}
use Rattle.market_model.specs.SumTables.{balance_of_all, flow_in_balance}
use Rattle.market_model.specs.Valued.{duals_at, passed_at}
use Rattle.market_model.proofs.SumSteps.{product_too_large, refusal}
use Rattle.limit_screen.proofs.ScreenLemmas.{flow_count}
use Rattle.clear_loop.specs.Bounding.{in_flow}
use Rattle.clear_loop.proofs.FarkasSums.{energy_refused}
use Rattle.clear_loop.proofs.bounding.left_of_energy.Goals as goal

pub bus_injections-requires : goal.bus_injections-requires
bus_injections-requires g c = sym (length-map c.args.flows.now g.N.Exact.value) ∙ flow_count c.args.market.now (empty c.args.market.now) (map g.N.Exact.value c.args.flows.now) c.requires.flows

pub returns-in_err-all-clause-stops : goal.returns-in_err-all-clause-stops
returns-in_err-all-clause-stops g c =
    let m = c.args.market.now in
    let given : c.from_residual.result ≡ Err c.in_err-all.field-0.0 = search rules in
    rw given (in_flow (_, flow_in_balance _ balance_of_all, c.in_err-all.ensures.stops (empty m) (c.bus_injections.ensures (empty m) c.requires.flows)))

pub returns-in_err-of_energy-clause-stops : goal.returns-in_err-of_energy-clause-stops
returns-in_err-of_energy-clause-stops g c =
    let m = c.args.market.now in
    let value = g.N.Exact.value in
    let energy = c.args.duals.now.energy in
    let given : c.from_residual-in_err-of_energy.result ≡ Err c.in_err-of_energy.field-0.0 = search rules in
    rw given
    (energy_refused m (duals_at value c.args.duals.now) (value c.in_ok-all.all) g.N.Exact.bound (passed_at value c.in_err-of_energy.field-0.0)
    (c.in_ok-all.ensures.sum (empty m) (c.bus_injections.ensures (empty m) c.requires.flows))
    (refusal value g.N.Exact.bound Times energy c.in_ok-all.all (value energy) _ c.in_err-of_energy.field-0.0 refl refl
    (product_too_large value g.N.Exact.bound energy c.in_ok-all.all c.in_err-of_energy.field-0.0 c.in_err-of_energy.ensures)))
