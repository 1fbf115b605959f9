use Rattle.std.proofs.Common.{◌≡◌, ◌≤◌, ℤ, length, sym, subst, w64}
use Rattle.std.specs.Prelude.{unsigned_abs}
use Rattle.std.proofs.lemmas.Int.{to_z-of_z}
use mir.Val.{to_z, of_z}
use Rattle.market_data.specs.Scales.{most_factor}
use Rattle.market_model.proofs.PickupLemmas.{factor_size}
use Rattle.limit_rows.proofs.factors.shift_of.Goals as goal

pub returns-clause-size : goal.returns-clause-size
returns-clause-size c =
    let m = c.args.market.now in
    let known : to_z w64 (of_z w64 c.shift.result) ≡ c.shift.result = to_z-of_z w64 c.shift.result (record { sfits = c.shift.type_inv }) in
    let size = factor_size (length m.lines) (length c.args.market.now.buses) m.shift c.args.line c.args.bus c.lines-lines.ensures.market.shift.each in
    rw known (subst (λ (z : ℤ). unsigned_abs z ≤ most_factor) (sym c.shift.ensures) size)
