-- Where a fraction stands against 0.
use Rattle.std.specs.Prelude.{ℤ, pos, negsuc}
use Rattle.std.proofs.Common.{zero, suc}
use Rattle.fraction_theory.specs.Fraction.{Fraction, whole, neg_ℚ}
use Rattle.fraction_theory.specs.declared.Sign.{Sign}
use Rattle.fraction_theory.specs.declared.Sign.TheVariants.{Below, Zero, Above}

-- the sign of a whole number
abbrev pub sign_of_int : ℤ → Sign
sign_of_int (pos zero) = Zero
sign_of_int (pos (suc n)) = Above
sign_of_int (negsuc n) = Below

-- the sign of x, which is that of its numerator
unfoldable pub sign_of : Fraction → Sign
sign_of x = sign_of_int x.num

-- x by its sign, at least 0
abbrev pub abs_by : Sign → Fraction → Fraction
abs_by Below x = neg_ℚ x
abs_by Zero x = x
abs_by Above x = x

-- the absolute value of x
unfoldable pub abs_ℚ : Fraction → Fraction
abs_ℚ x = abs_by (sign_of x) x

-- x where its sign is above, and else 0
abbrev pub where_above : Sign → Fraction → Fraction
where_above Below x = whole (pos 0)
where_above Zero x = whole (pos 0)
where_above Above x = x

-- the greater of x and 0
abbrev pub part_above : Fraction → Fraction
part_above x = where_above (sign_of x) x
