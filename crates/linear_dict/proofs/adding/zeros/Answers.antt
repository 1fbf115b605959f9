use Rattle.std.proofs.Common.{◌+◌, ◌∙◌, List, pos, subst, sym}
use Rattle.fraction_theory.specs.Fraction.{whole}
use Rattle.fraction_theory.proofs.FieldLaws.{over-one}
use Rattle.linear_dict.specs.Adding.{AreSums}
use Rattle.linear_dict.proofs.AddingLemmas.{sums_push}
use Rattle.linear_dict.proofs.adding.zeros.Goals as goal

pub loop-preserved : goal.loop-preserved
loop-preserved g c =
    subst (λ (xs : List g.row.N.Denot). AreSums g.N.Exact.value xs (c.loop.counter + 1) (λ _. whole (pos 0))) (sym c.in-Ok.ensures.items)
    (sums_push g.N.Exact.value c.loop.sums.items c.loop.counter c.of_parts-zero.result (λ _. whole (pos 0)) c.loop.invariant (c.of_parts-zero.ensures ∙ over-one (pos 0)))
