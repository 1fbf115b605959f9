-- a decimal's parts, without where they lie in memory
use Rattle.std.specs.List.{AllPass}
use Rattle.std.specs.Char.{is_ascii_digit}
use Rattle.scaled_decimal.specs.declared.text.Numeral.{Numeral}
use Rattle.scaled_decimal.specs.Decimal.{Decimal}

abbrev pub view : Numeral → Decimal
view n = record { negative = n.negative; whole = n.whole.now; part = n.part.now; exponent_negative = n.exponent_negative; exponent = n.exponent.now }

pub record HasDigits (d : Decimal) : Type 0 where
  pub whole : AllPass is_ascii_digit d.whole
  pub part : AllPass is_ascii_digit d.part
  pub exponent : AllPass is_ascii_digit d.exponent
