use Rattle.std.proofs.Common.{ℕ, None, false}
use Rattle.factor_tables.specs.Factors.{factor_at}
use Rattle.net_case.specs.declared.live_parts.NetBranch.{NetBranch}
use Rattle.market_inputs.specs.Clearing.{factors_of_line}
use Rattle.market_inputs.proofs.FactorLemmas.{flat-step}
use Rattle.market_inputs.proofs.limits.factors_of.Goals as goal

pub loop-line-preserved : goal.loop-line-preserved
loop-line-preserved g c =
    let d : NetBranch = record { row = 0; from = 0; to = 0; base = None; post = None; shifted = false } in
    record {
      small = c.in_ok-place.ensures.small;
      are = flat-step (λ (line : ℕ × NetBranch). factors_of_line (λ (other : g.row.T.Denot). factor_at c.args.table.now.entries (line.1.row, g.T.Named.name other)) line.0 c.args.others.now) c.args.branches.now c.loop-line.line d
          _ c.loop-line.factors c.push_factors.new.factors c.loop-line-test.true c.in_ok-place.ensures.are c.loop-line.invariant.are;
    }
