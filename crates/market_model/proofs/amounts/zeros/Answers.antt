use Rattle.std.proofs.Common.{◌∙◌, arith, ap, ap₂, [], ◌∷◌, ◌++◌, map}
use Rattle.std.proofs.lemmas.List.{map-append, replicate_more}
use Rattle.fraction_theory.specs.Fraction.{Fraction}
use Rattle.market_model.specs.Dispatch.{zero}
use Rattle.market_model.proofs.amounts.zeros.Goals as goal

pub loop-preserved : goal.loop-preserved
loop-preserved g c = record {
  count = omega (arith, c.in-Ok.ensures.len, c.loop.invariant.count);
  zeros = ap (map g.N.Exact.value) c.in-Ok.ensures.items ∙ map-append g.N.Exact.value c.loop.zeros.items (c.datum-zero.result ∷ [])
      ∙ ap₂ (λ xs (x : Fraction). xs ++ x ∷ []) c.loop.invariant.zeros c.datum-zero.ensures ∙ replicate_more c.loop.counter zero;
}
