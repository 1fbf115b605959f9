-- What a plain decimal is made of.
use Rattle.std.specs.Prelude.{◌≡◌, ℕ, Bool, List, ◌++◌, length}
use Rattle.std.specs.Str.Parse.{digits_value}
use Rattle.scaled_decimal.specs.Decimal.{IsSign, IsMantissa}

-- a sign and what stands behind it
pub record IsSigned (bytes : List ℕ) (negative : Bool) (body : List ℕ) : Type 0 where
  pub sign : List ℕ
  pub signs : IsSign sign negative
  pub text_is : bytes ≡ sign ++ body

-- digits with a point among them or none: the number that they write, and how many stand behind the point
pub record IsPlain (body : List ℕ) (number behind : ℕ) : Type 0 where
  pub whole : List ℕ
  pub part : List ℕ
  pub mantissas : IsMantissa body whole part
  pub number_is : number ≡ digits_value 10 (whole ++ part)
  pub behind_is : behind ≡ length part
