-- numbers as the reader holds them
use Rattle.std.specs.Prelude.{◌≡◌, ◌≢◌, ℕ, ◌*◌, ◌%◌, ◌^◌, ◌⊎◌, min}

abbrev pub EndsInNoZero : ℕ → Type 0
EndsInNoZero n = (n ≡ 0) ⊎ (n % 10 ≢ 0)

-- n is a size that ends in no zero, with these zeros behind it; the size is cut off at 2^63
pub record IsSignificand (n size zeros : ℕ) : Type 0 where
  pub exact : ℕ
  pub number : n ≡ exact * 10 ^ zeros
  pub cut_off : size ≡ min exact (2 ^ 63)
  pub ends : EndsInNoZero exact
