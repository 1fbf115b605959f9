use Rattle.std.proofs.Common.{◌≡◌, ℕ, ◌<◌, ◌==◌, false}
use Rattle.market_model.specs.Dispatch.{line_at}
use Rattle.market_model.proofs.outages.place_of_line.Given as goal

abbrev pub invariant-loop-place : goal.invariant-loop-place
invariant-loop-place l = (k : ℕ) → k < l.place → ((line_at l.parts k).row == l.row) ≡ false
