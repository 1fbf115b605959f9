use Rattle.std.proofs.Common.{inl, inr, subst}
use Rattle.fraction_theory.specs.Signs.{abs_ℚ}
use Rattle.fraction_theory.proofs.OrderLaws.{<ℚ-≤ℚ, ≤ℚ_of_same}
use Rattle.limit_screen.specs.Screening.{StandsTo}
use Rattle.limit_screen.proofs.ScreenLemmas.{below_nil}
use Rattle.limit_screen.proofs.screening.beyond.Goals as goal

pub returns-in-Below : goal.returns-in-Below
returns-in-Below g c =
    let value = g.N.Exact.value in
    let size = abs_ℚ (value c.args.flow) in
    let limit = value c.args.limit in
    record {
      overrun = elim c.in-Below.is [
        | inl e ↦ below_nil size limit (<ℚ-≤ℚ size limit (subst (StandsTo value size limit) e c.in_ok-overrun.ensures.stands))
        | inr e ↦ below_nil size limit (≤ℚ_of_same size limit (subst (StandsTo value size limit) e c.in_ok-overrun.ensures.stands))
      ];
      fits = tt;
    }
