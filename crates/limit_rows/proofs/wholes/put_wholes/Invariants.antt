use Rattle.std.proofs.Common.{◌≡◌, ℕ, ℤ, ◌<◌, Some, None, map, get_or}
use Rattle.market_model.specs.PutIn.{put_in}
use Rattle.limit_rows.specs.Wholes.{IsWhole}
use Rattle.limit_rows.proofs.wholes.put_wholes.Given as goal

abbrev pub invariant-loop-place : goal.invariant-loop-place
invariant-loop-place g l = (k : ℕ) (n : ℤ) → k < l.place → get_or l.out k None ≡ Some n → IsWhole (put_in (map g.N.Exact.value l.numbers) k) n
