-- The columns of a case's matrices, the first being 1, by their names in MATPOWER.
use Rattle.std.specs.Prelude.{ℕ}

-- ---- bus
abbrev pub BUS_I : ℕ
BUS_I = 1

abbrev pub BUS_TYPE : ℕ
BUS_TYPE = 2

abbrev pub PD : ℕ
PD = 3

abbrev pub GS : ℕ
GS = 5

-- ---- gen
abbrev pub GEN_BUS : ℕ
GEN_BUS = 1

abbrev pub GEN_STATUS : ℕ
GEN_STATUS = 8

abbrev pub PMAX : ℕ
PMAX = 9

abbrev pub PMIN : ℕ
PMIN = 10

-- ---- branch
abbrev pub F_BUS : ℕ
F_BUS = 1

abbrev pub T_BUS : ℕ
T_BUS = 2

abbrev pub BR_X : ℕ
BR_X = 4

abbrev pub RATE_A : ℕ
RATE_A = 6

abbrev pub RATE_B : ℕ
RATE_B = 7

abbrev pub RATE_C : ℕ
RATE_C = 8

abbrev pub TAP : ℕ
TAP = 9

abbrev pub SHIFT : ℕ
SHIFT = 10

abbrev pub BR_STATUS : ℕ
BR_STATUS = 11
