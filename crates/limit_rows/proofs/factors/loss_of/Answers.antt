use Rattle.std.proofs.Common.{◌≡◌, ◌≤◌, ℤ, length, sym, subst, w64}
use Rattle.std.specs.Prelude.{unsigned_abs}
use Rattle.std.proofs.lemmas.Int.{to_z-of_z}
use mir.Val.{to_z, of_z}
use Rattle.market_data.specs.Scales.{most_factor}
use Rattle.market_model.proofs.PickupLemmas.{factor_size}
use Rattle.limit_rows.proofs.factors.loss_of.Goals as goal

pub returns-clause-size : goal.returns-clause-size
returns-clause-size c =
    let m = c.args.market.now in
    let known : to_z w64 (of_z w64 c.loss.result) ≡ c.loss.result = to_z-of_z w64 c.loss.result (record { sfits = c.loss.type_inv }) in
    let size = factor_size (length m.lines) (length c.args.market.now.lines) m.loss c.args.line c.args.lost c.lines-lines.ensures.market.loss.each in
    rw known (subst (λ (z : ℤ). unsigned_abs z ≤ most_factor) (sym c.loss.ensures) size)
