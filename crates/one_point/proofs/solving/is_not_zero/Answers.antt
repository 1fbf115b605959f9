use Rattle.std.proofs.Common.{inl, inr, sym, ◌∙◌}
use Rattle.fraction_theory.specs.declared.Sign.TheVariants.{Below, Above}
use Rattle.fraction_theory.proofs.SignLaws.{not_nil_by_sign}
use Rattle.one_point.proofs.solving.is_not_zero.Goals as goal

pub returns-in-Below : goal.returns-in-Below
returns-in-Below g c = λ _ zero. elim c.in-Below.is [
  | inl e ↦ not_nil_by_sign (g.N.Exact.value c.args.number) Below (sym e ∙ c.sign.ensures) (λ f. absurd Prim.cc) zero
  | inr e ↦ not_nil_by_sign (g.N.Exact.value c.args.number) Above (sym e ∙ c.sign.ensures) (λ f. absurd Prim.cc) zero
]
