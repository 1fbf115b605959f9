-- The lines that tell of transmission rights: whether limits could carry them together, and what they are paid.
use Rattle.std.specs.Prelude.{ℕ, ◌+◌, List, ◌++◌, codes, decimal, length, slice_index_or}
use Rattle.std.specs.List.{flat_map}
use Rattle.fraction_theory.specs.Fraction.{Fraction}
use Rattle.exact_fraction.specs.Written.{written}
use Rattle.market_data.specs.Scales.{money_places, mw_places}
use Rattle.market_model.specs.Dispatch.{places, zero}
use Rattle.report_text.specs.Reports.{row_text}
use Rattle.rights_test.specs.declared.right_parts.Fit.{Fit}
use Rattle.rights_test.specs.declared.right_parts.Fit.TheVariants as fit
use Rattle.rights_test.specs.declared.right_parts.Payments.{Payments}

-- that they fit, or the first limit that they break with their flow there
unfoldable pub fit_text : Fit Fraction → List ℕ
fit_text fit.Fits = codes "rights fit\n"
fit_text (fit.Breaks row flow) = codes "rights break " ++ row_text row ++ codes " flow " ++ written mw_places flow ++ codes "\n"

-- what the right of this number is paid
unfoldable pub payment_text : ℕ → Fraction → List ℕ
payment_text number paid = codes "right " ++ decimal number ++ codes " pays " ++ written money_places paid ++ codes "\n"

-- what the right at a place is paid, of which the first is number 1
abbrev pub payment_at : List Fraction → ℕ → List ℕ
payment_at each place = payment_text (place + 1) (slice_index_or each place zero)

abbrev pub lines_of_payments : List Fraction → List ℕ
lines_of_payments each = flat_map (payment_at each) (places (length each))

-- what they are paid together
unfoldable pub total_text : Fraction → List ℕ
total_text total = codes "rights pay " ++ written money_places total ++ codes "\n"

abbrev pub rights_lines : Fit Fraction → Payments Fraction → List ℕ
rights_lines fit payments = fit_text fit ++ lines_of_payments payments.each ++ total_text payments.total
