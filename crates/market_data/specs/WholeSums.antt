-- Sums of whole numbers.
use Rattle.std.specs.Prelude.{ℤ, pos, ◌+ℤ◌, List, [], ◌∷◌}

-- the sum of a whole number of each element
abbrev pub int_sum : {A : Type 0} → (A → ℤ) → List A → ℤ
int_sum f [] = pos 0
int_sum f (x ∷ xs) = f x +ℤ int_sum f xs
