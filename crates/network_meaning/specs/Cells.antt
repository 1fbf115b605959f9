-- What the cells of a case say.
--
-- Where rows say something of a network, `IsX` or `AreX` tells when. A record lists conditions that hold together, `×` is "and", `⊎` is "or",
-- `⊥` never holds, `Unit {0}` always does, and `≢` is "is not". `Option` is for what may be missing: `None` where it is, `Some x` where x is
-- there. Of lists: `AllZip R xs ys` says that they are as long, and that R holds of each x and the y at its place; `filter_map h xs` has what h
-- gives of each x in order, without those of which it gives none; `enumerate_from 1 xs` has each x with its number, from 1; `AllPairs R xs`
-- says that R holds of each x and every later one, `AllByRecursion P xs` that P holds of each; `slice_get xs n` is the x at place n, the first
-- being 0.
use Rattle.std.specs.Prelude.{◌≡◌, ℕ, ◌-◌, ◌^◌, ◌<◌, ℤ, List, [], slice_index_or, unsigned_abs}
use Rattle.fraction_theory.specs.Fraction.{Fraction, over}
use Rattle.fraction_theory.specs.declared.Sign.{Sign}
use Rattle.fraction_theory.specs.Signs.{sign_of}
use Rattle.scaled_decimal.specs.Decimal.{Denotes}
use Rattle.record_reading.specs.Records.{Record}
use Rattle.market_data.specs.Scales.{mw_places}

-- the text of a row's cell, the first column being 1
abbrev pub cell : Record → ℕ → List ℕ
cell row column = slice_index_or row (column - 1) []

-- The text is a decimal whose value is so many units of 10^-places, exactly, and at most 2^63 - 1 of them in size.
abbrev pub IsAmount : ℕ → List ℕ → ℤ → Type 0
IsAmount places text n = Denotes text (over n (10 ^ places)) × (unsigned_abs n < 2 ^ 63)

-- a whole number
abbrev pub IsWhole : List ℕ → ℤ → Type 0
IsWhole text n = IsAmount 0 text n

-- MW, in units of 10^-9
abbrev pub IsMegawatts : List ℕ → ℤ → Type 0
IsMegawatts text n = IsAmount mw_places text n

-- The text is a decimal whose value has this sign: `Below` 0, `Zero` or `Above` 0. Its size and its fineness do not matter.
abbrev pub IsOfSign : List ℕ → Sign → Type 0
IsOfSign text sign = (value : Fraction) × Denotes text value × (sign ≡ sign_of value)
