use Rattle.std.proofs.Common.{arith, ap, sym, ◌∙◌, [], ◌∷◌, refl}
use Rattle.std.proofs.lemmas.Int.{ints}
use Rattle.std.specs.Prelude.{pos}
use Rattle.fraction_theory.specs.Fraction.{whole, ◌*ℚ◌}
use Rattle.fraction_theory.proofs.Ring.{by_ring, at, pnil, pone, ◌⊗◌}
use Rattle.fraction_theory.proofs.FieldLaws.{ring_ℚ}
use Rattle.flow_guess.proofs.NetSums.{where_same, where_other}
use Rattle.flow_guess.proofs.bounds.parts_at.Goals as goal

pub returns-then-place-bus : goal.returns-then-place-bus
returns-then-place-bus c =
    ap whole (omega (arith, ints))
    ∙ by_ring ring_ℚ (whole c.args.transfer.now.parts ∷ []) (at 0) (at 0 ⊗ pone) refl
    ∙ ap (λ t. whole c.args.transfer.now.parts *ℚ t) (sym (where_same c.args.place c.args.bus (whole (pos 1)) (whole (pos 0)) c.if-place-bus.true))

pub returns-else-place-bus : goal.returns-else-place-bus
returns-else-place-bus c =
    by_ring ring_ℚ (whole c.args.transfer.now.parts ∷ []) pnil (at 0 ⊗ pnil) refl
    ∙ ap (λ t. whole c.args.transfer.now.parts *ℚ t) (sym (where_other c.args.place c.args.bus (whole (pos 1)) (whole (pos 0)) c.if-place-bus.false))
