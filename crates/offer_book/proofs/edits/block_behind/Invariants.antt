use Rattle.std.proofs.Common.{◌≡◌, ◌+◌, length}
use Rattle.std.specs.Prelude.{filter}
use Rattle.market_model.specs.Dispatch.{places}
use Rattle.offer_book.specs.Edits.{is_block_of}
use Rattle.offer_book.proofs.edits.block_behind.Given as goal

abbrev pub invariant-loop-place : goal.invariant-loop-place
invariant-loop-place l = l.left + length (filter (is_block_of l.market l.row l.side) (places l.place)) ≡ l.count
