-- The greatest size of a numerator and of a denominator.
use Rattle.std.specs.Prelude.{ℕ, ◌-◌, ◌^◌}
use Rattle.number_bits.specs.declared.NumberBits.{NumberBits}
use Rattle.number_bits.specs.declared.NumberBits.TheVariants.{Bits127, Bits1023}

abbrev pub most_of : NumberBits → ℕ
most_of Bits127 = 2 ^ 127 - 1
most_of Bits1023 = 2 ^ 1023 - 1
