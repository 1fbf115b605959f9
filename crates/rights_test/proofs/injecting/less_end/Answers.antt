use Rattle.std.proofs.Common.{[], ◌∷◌, refl}
use Rattle.fraction_theory.proofs.FieldLaws.{ring_ℚ}
use Rattle.fraction_theory.proofs.Ring.{by_ring, at, pneg, pnil, ◌⊕◌}
use Rattle.rights_test.proofs.injecting.less_end.Goals as goal

pub returns-else-belongs-clause-left : goal.returns-else-belongs-clause-left
returns-else-belongs-clause-left g c = rw c.if-belongs.false (by_ring ring_ℚ (g.N.Exact.value c.args.sum ∷ []) (at 0) (at 0 ⊕ pneg pnil) refl)
