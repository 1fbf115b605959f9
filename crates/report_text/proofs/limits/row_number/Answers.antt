use Rattle.std.proofs.Common.{◌≡◌, ◌++◌, List, ℕ, IfOk, arith, subst}
use Rattle.exact_fraction.proofs.Digits.{decimal_short}
use Rattle.report_text.proofs.limits.row_number.Goals as goal

pub returns : goal.returns
returns c =
    subst (λ (digits : List ℕ). IfOk c.number.result (λ x. c.number.new.self ≡ c.args.text.now ++ digits)) (decimal_short c.args.row (omega (arith, c.ranges.row.fits))) c.number.ensures
