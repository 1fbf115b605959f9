use Rattle.std.proofs.Common.{◌≡◌, List, map}
use Rattle.fraction_theory.specs.Fraction.{Fraction}
use Rattle.market_model.specs.declared.answered.RoomDual.{RoomDual}
use Rattle.market_model.specs.Valued.{dual_at, duals_with}
use Rattle.cert_sums.specs.Named.{priced_at}
use Rattle.cert_verify.specs.Naming.{prices_of}
use Rattle.cert_verify.proofs.naming.named_rows.Given as goal

abbrev pub invariant-loop-row : goal.invariant-loop-row
invariant-loop-row g l = (energy reserve_price : Fraction) (rooms : List (RoomDual Fraction)) → map (priced_at g.N.Exact.value) l.named ≡ prices_of l.market (duals_with energy (map (dual_at g.N.Exact.value) l.limits) reserve_price rooms) l.yielded
