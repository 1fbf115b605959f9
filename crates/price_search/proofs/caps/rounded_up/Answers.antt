use Rattle.std.proofs.Common.{◌≡◌, ◌∙◌, ◌<ℤ◌, ◌+ℤ◌, FitsSigned, pos, rules, arith, ap, to_z, of_z, w64}
use Rattle.std.proofs.lemmas.Int.{ints, to_z-of_z}
use Rattle.fraction_theory.specs.Fraction.{whole}
use Rattle.market_data.proofs.Data.{datum_fits}
use Rattle.price_search.specs.Caps.{to_next}
use Rattle.price_search.proofs.caps.rounded_up.Goals as goal

pub returns-then-floor-lt9223372036854775807-clause-rounded : goal.returns-then-floor-lt9223372036854775807-clause-rounded
returns-then-floor-lt9223372036854775807-clause-rounded g c =
    let n = c.in-Some.floor in
    let fits : FitsSigned w64 n = search rules in
    let known : to_z w64 (of_z w64 n) ≡ n = search rules in
    let less : n <ℤ pos 9223372036854775807 = search rules in
    let more : to_z w64 (of_z w64 (n +ℤ pos 1)) ≡ n +ℤ pos 1 = to_z-of_z w64 (n +ℤ pos 1) (datum_fits (n +ℤ pos 1) (omega (arith, ints, fits, less))) in
    to_next n c.in-Some.ensures (c.datum.ensures ∙ ap (λ k. whole (to_z w64 (of_z w64 (k +ℤ pos 1)))) known ∙ ap whole more)
