use Rattle.std.proofs.Common.{ap, sym, ◌∙◌, inl, inr}
use Rattle.fraction_theory.specs.Signs.{abs_by, abs_ℚ}
use Rattle.fraction_theory.specs.declared.Sign.{Sign}
use Rattle.exact_fraction.proofs.sizes.size.Goals as goal

pub returns-in-Below : goal.returns-in-Below
unfolding abs_ℚ
returns-in-Below g c = c.neg.ensures ∙ ap (λ (s : Sign). abs_by s (g.N.Exact.value c.args.x)) (sym c.in-Below.is ∙ c.sign.ensures)

pub returns-in-Zero : goal.returns-in-Zero
unfolding abs_ℚ
returns-in-Zero g c = elim c.in-Zero.is [
  | inl e ↦ ap (λ (s : Sign). abs_by s (g.N.Exact.value c.args.x)) (sym e ∙ c.sign.ensures)
  | inr e ↦ ap (λ (s : Sign). abs_by s (g.N.Exact.value c.args.x)) (sym e ∙ c.sign.ensures)
]
