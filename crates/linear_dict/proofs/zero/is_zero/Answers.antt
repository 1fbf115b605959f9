use Rattle.std.proofs.Common.{◌∙◌, refl, sym, inl, inr}
use Rattle.fraction_theory.specs.declared.Sign.TheVariants.{Below, Zero, Above}
use Rattle.fraction_theory.proofs.SignLaws.{not_nil_by_sign, sign_of_is}
use Rattle.linear_dict.proofs.zero.is_zero.Goals as goal

pub returns-in-Zero : goal.returns-in-Zero
returns-in-Zero g c = (λ _. sign_of_is (g.N.Exact.value c.args.number) Zero c.in-Zero.ensures, λ _. refl)

pub returns-in-Below : goal.returns-in-Below
returns-in-Below g c = (
  λ t. absurd Prim.cc,
  λ z. absurd (elim c.in-Below.is [
    | inl e ↦ not_nil_by_sign (g.N.Exact.value c.args.number) Below (sym e ∙ c.sign.ensures) (λ f. absurd Prim.cc) z
    | inr e ↦ not_nil_by_sign (g.N.Exact.value c.args.number) Above (sym e ∙ c.sign.ensures) (λ f. absurd Prim.cc) z
  ]),
)
