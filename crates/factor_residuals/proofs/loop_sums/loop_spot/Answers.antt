use Rattle.std.proofs.Common.{◌∙◌, ◌∷◌, [], ℤ, pos, ◌+ℤ◌, ◌*ℤ◌, unsigned_abs, false, take, get_or, w64, ap, sym, arith}
use mir.Syntax.{w128}
use mathlib.Core.Path.{ap₂}
use Rattle.std.specs.Prelude.{sum_by}
use Rattle.std.proofs.lemmas.Int.{to_z-of_z}
use Rattle.std.proofs.lemmas.List.{take_more}
use Rattle.std.proofs.lemmas.List.Sums.{sum_by-append}
use Rattle.market_data.proofs.WholeSumLaws.{int_sum_more}
use Rattle.net_paths.specs.declared.loops_of_tree.Member.{Member}
use Rattle.factor_residuals.specs.Kirchhoff.{reactance_at, directed}
use Rattle.factor_residuals.specs.Columns.{flows_of}
use Rattle.factor_residuals.specs.declared.loop_sums.LoopSum.{LoopSum}
use Rattle.factor_residuals.proofs.loop_sums.loop_spot.Goals as goal

pub loop-member-preserved : goal.loop-member-preserved
loop-member-preserved g c =
    let inv = c.loop-member.invariant in
    let members = c.args.members.now in
    let i = c.loop-member.member-index in
    let d : Member = record { branch = 0; forward = false } in
    let m : Member = get_or members i d in
    let within = c.loop-member-test.true in
    let reactance = reactance_at c.args.network.now c.args.reactances.now in
    let flow = flows_of c.args.factors.now c.args.column.now.name in
    let f = λ (t : Member). directed t.forward (reactance t.branch *ℤ flow t.branch) in
    let h = λ (t : Member). unsigned_abs (reactance t.branch) in
    let is = c.with_drop-loop_sum.ensures.is in
    let x = to_z-of_z w128 c.reactance_at-reactance.result (record { sfits = c.reactance_at-reactance.type_inv }) ∙ c.reactance_at-reactance.ensures.is in
    let y = to_z-of_z w64 c.factor-flow.result (record { sfits = c.factor-flow.type_inv }) ∙ c.factor-flow.ensures.is in
    let total = ap (sum_by h) (take_more members i d within) ∙ sum_by-append h (take i members) (m ∷ []) in (
      c.with_drop-loop_sum.ensures.grows i inv.0,
      ap (λ (r : LoopSum). r.miss) is ∙ ap₂ ◌+ℤ◌ inv.1 (ap₂ (λ (p q : ℤ). directed m.forward (p *ℤ q)) x y) ∙ sym (int_sum_more f members i d within),
      ap (λ (r : LoopSum). r.sizes) is ∙ ap₂ ◌+ℤ◌ inv.2 (ap (λ (p : ℤ). pos (unsigned_abs p)) x) ∙ ap pos (omega (arith, total)),
    )
