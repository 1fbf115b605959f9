-- NCOST that is no count.
use Rattle.std.specs.Prelude.{◌≡◌, ℕ, ◌+◌, ◌*◌, ◌<◌, ◌≤◌, ℤ, pos, ◌<ℤ◌, length}
use Rattle.std.proofs.Common.{arith}
use Rattle.std.proofs.Math.Nat.{lt_of_not-le}
use Rattle.std.proofs.lemmas.Int.{ints}
use Rattle.record_reading.specs.Records.{Record}
use Rattle.cost_reading.specs.CostRows.{HasNoCount, Says}

pos-inj : (a b : ℕ) → pos a ≡ pos b → a ≡ b
pos-inj a b e = cc

-- a number below 0
pub none_below : (r : Record) (least width : ℕ) (told : ℤ) → Says r 4 0 told → told <ℤ pos 0 → HasNoCount r least width
none_below r least width told says below = (told, says, λ m is _. absurd (Prim.omega (arith, ints, is, below)))

few : (r : Record) (least width n m : ℕ) → m ≡ n → ¬ ((least ≤ n) × (4 + n * width ≤ length r)) → least ≤ m → length r < 4 + m * width
few r least width n m e not enough = rw e (lt_of_not-le (λ cells. not (rw e at enough, cells)))

-- too few parameters, or too few cells
pub none_of : (r : Record) (least width n : ℕ) (told : ℤ) → Says r 4 0 told → told ≡ pos n → ¬ ((least ≤ n) × (4 + n * width ≤ length r)) → HasNoCount r least width
none_of r least width n told says is not = (told, says, λ m told_is enough. few r least width n m (cc) not enough)
