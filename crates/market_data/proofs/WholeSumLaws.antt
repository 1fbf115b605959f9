-- Sums of whole numbers, one element more.
use Rattle.std.proofs.Common.{◌≡◌, ℕ, suc, zero, ◌+◌, ◌<◌, ℤ, ◌+ℤ◌, List, [], ◌∷◌, take, length, get_or, arith, add-one}
use Rattle.std.proofs.lemmas.Int.{ints}
use Rattle.market_data.specs.WholeSums.{int_sum}

module _ {A : Type 0} (f : A → ℤ) where
  pub int_sum_suc : (xs : List A) (i : ℕ) (d : A) → i < length xs → int_sum f (take (suc i) xs) ≡ int_sum f (take i xs) +ℤ f (get_or xs i d)
  int_sum_suc [] i d h = absurd (Prim.omega arith)
  int_sum_suc (x ∷ xs) zero d h = Prim.omega (arith, ints)
  int_sum_suc (x ∷ xs) (suc i) d h = let rest = int_sum_suc xs i d (Prim.omega arith) in Prim.omega (arith, ints)

  pub int_sum_more : (xs : List A) (i : ℕ) (d : A) → i < length xs → int_sum f (take (i + 1) xs) ≡ int_sum f (take i xs) +ℤ f (get_or xs i d)
  int_sum_more xs i d h = Prim.rw add-one (int_sum_suc xs i d h)
