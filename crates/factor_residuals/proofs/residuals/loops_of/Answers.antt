use Rattle.std.proofs.Common.{length}
use Rattle.std.proofs.lemmas.Result.{IfOk-weaker}
use Rattle.net_paths.specs.Loops.{kept}
use Rattle.factor_residuals.proofs.ShortLoops.{loops_are_short, ends_kept}
use Rattle.factor_residuals.proofs.residuals.loops_of.Goals as goal

pub returns-clause-short : goal.returns-clause-short
returns-clause-short c =
    let n = length c.args.network.now.buses in
    let network = c.buses-buses.ensures.network in
    IfOk-weaker c.loops.result _ _ (λ loops are. loops_are_short n (kept c.args.lost c.args.network.now.branches) loops (ends_kept n c.args.lost c.args.network.now.branches network.branches) are network.bus_count) c.loops.ensures
