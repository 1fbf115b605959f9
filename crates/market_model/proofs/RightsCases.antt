-- Rights over the case of a limit of 40 MW: 50 MW from bus 1 to bus 3 and 5 MW to bus 2 fill it and are paid the surplus, 1600; 60 MW to bus 3 pass it.
use Rattle.std.specs.Prelude.{◌≡◌, ℕ, pos, List, [], ◌∷◌, refl}
use Rattle.fraction_theory.specs.Divisors.{gcd, gcd_in}
use Rattle.fraction_theory.specs.Fraction.{whole, over, ◌+ℚ◌, ◌*ℚ◌, neg_ℚ, same_fraction}
use Rattle.market_model.specs.LimitRows.{rows, line_flow, row_factor, row_flow}
use Rattle.market_model.specs.Optimality.{congestion_by, price_by}
use Rattle.market_model.specs.declared.participants.TransmissionRight.{TransmissionRight}
use Rattle.market_model.specs.Rights.{rights_injection, paid_to_rights}
use Rattle.market_model.proofs.LimitCases.{mw, money, second, shunted, up_alone}

-- MW from bus 1 to another, by place
abbrev right_to : ℕ → ℕ → TransmissionRight
right_to place n = record { from = 0; to = place; mw = mw n }

abbrev fitting : List TransmissionRight
fitting = right_to 2 50 ∷ right_to 1 5 ∷ []

abbrev breaking : List TransmissionRight
breaking = right_to 2 60 ∷ []

fitting-flow : row_flow shunted (rights_injection fitting) (λ k. whole (pos 0)) second ≡ whole (mw 40)
unfolding line_flow rights_injection ◌+ℚ◌ ◌*ℚ◌ neg_ℚ over whole gcd gcd_in
fitting-flow = same_fraction (row_flow shunted (rights_injection fitting) (λ k. whole (pos 0)) second) (whole (mw 40)) refl refl

fitting-paid : paid_to_rights shunted (up_alone 10 0 40) fitting ≡ whole (money 1600)
unfolding rows row_factor congestion_by price_by paid_to_rights ◌+ℚ◌ ◌*ℚ◌ neg_ℚ over whole gcd gcd_in
fitting-paid = same_fraction (paid_to_rights shunted (up_alone 10 0 40) fitting) (whole (money 1600)) refl refl

breaking-flow : row_flow shunted (rights_injection breaking) (λ k. whole (pos 0)) second ≡ whole (mw 45)
unfolding line_flow rights_injection ◌+ℚ◌ ◌*ℚ◌ neg_ℚ over whole gcd gcd_in
breaking-flow = same_fraction (row_flow shunted (rights_injection breaking) (λ k. whole (pos 0)) second) (whole (mw 45)) refl refl

breaking-paid : paid_to_rights shunted (up_alone 10 0 40) breaking ≡ whole (money 1800)
unfolding rows row_factor congestion_by price_by paid_to_rights ◌+ℚ◌ ◌*ℚ◌ neg_ℚ over whole gcd gcd_in
breaking-paid = same_fraction (paid_to_rights shunted (up_alone 10 0 40) breaking) (whole (money 1800)) refl refl
