use Rattle.std.proofs.Common.{◌≡◌, ◌<◌, ◌^◌, ◌++◌, ◌∙◌, ap, arith, ℕ, ℤ, List, get_or}
use Rattle.std.specs.Prelude.{unsigned_abs}
use Rattle.market_data.proofs.Data.{datum_fits}
use Rattle.std.proofs.lemmas.Int.{to_z-of_z}
use mir.Syntax.{w64}
use mir.Val.{to_z, of_z}
use Rattle.factor_tables.specs.Factors.{factor_at}
use Rattle.market_model.specs.declared.participants.Factor.{Factor}
use Rattle.market_inputs.specs.Clearing.{unless_0}
use Rattle.market_inputs.proofs.FactorLemmas.{flat-step, small-more}
use Rattle.market_inputs.proofs.limits.push_factors.Goals as goal

pub loop-of-preserved : goal.loop-of-preserved
loop-of-preserved g c =
    let i = c.loop-of.of in
    let d = c.index-others-of.result in
    let others : List g.row.T.Denot = c.args.others.now in
    let at : ℕ × g.row.T.Denot → Factor = λ other. record { line = c.args.line; of = other.0; value = factor_at c.args.table.now.entries (c.args.row, g.T.Named.name other.1) } in
    let with = λ (v : ℤ). let f : Factor = record { line = c.args.line; of = i; value = v } in f in
    let value = c.factor_near-value.result.0 in
    let factor : Factor = with value in
    let datum : unsigned_abs value < 2 ^ 63 = omega (arith, c.factor_near-value.ensures.size) in
    let known : to_z w64 (of_z w64 value) ≡ value = to_z-of_z w64 value (datum_fits value datum) in
    let pushed : c.push_factor.new.factors ≡ c.loop-of.factors ++ unless_0 (with (to_z w64 (of_z w64 value))) = c.in_ok-push_factor.ensures in
    let more : c.push_factor.new.factors ≡ c.loop-of.factors ++ unless_0 factor = pushed ∙ ap (λ v. c.loop-of.factors ++ unless_0 (with v)) known in
    let is : factor ≡ at (i, get_or others i d) = ap with (c.factor_near-value.ensures.is ∙ ap (λ n. factor_at c.args.table.now.entries (c.args.row, n)) (c.name.ensures ∙ ap g.T.Named.name c.index-others-of.is)) in
    record {
      small = small-more c.loop-of.factors c.push_factor.new.factors factor c.loop-of.invariant.small c.factor_near-value.ensures.size more;
      are = flat-step (λ other. unless_0 (at other)) others i d _ c.loop-of.factors c.push_factor.new.factors c.loop-of-test.true (more ∙ ap (λ f. c.loop-of.factors ++ unless_0 f) is) c.loop-of.invariant.are;
    }
