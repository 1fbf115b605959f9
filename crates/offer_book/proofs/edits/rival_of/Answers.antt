use Rattle.std.proofs.Common.{◌≡◌, ◌≤ℤ◌, ℤ, pos, ◌+ℤ◌, ◌-ℤ◌, arith, w64}
use Rattle.std.proofs.lemmas.Int.{ints, to_z-of_z}
use mir.Val.{SFits, to_z, of_z}
use Rattle.market_data.specs.Scales.{most_blocks}
use Rattle.offer_book.specs.Edits.{price_of_block, rival_of}
use Rattle.offer_book.proofs.edits.rival_of.Goals as goal

pub returns : goal.returns
unfolding rival_of
returns c =
    let m = c.args.market.now in
    let row : to_z w64 (of_z w64 c.args.row) ≡ c.args.row = to_z-of_z w64 c.args.row c.ranges.row in
    let number : to_z w64 (of_z w64 c.args.number) ≡ c.args.number = to_z-of_z w64 c.args.number c.ranges.number in
    let price : to_z w64 (of_z w64 c.args.price) ≡ c.args.price = to_z-of_z w64 c.args.price c.ranges.price in
    let down : to_z w64 (of_z w64 (c.args.number -ℤ pos 1)) ≡ c.args.number -ℤ pos 1 = to_z-of_z w64 _ (one_less c.args.number c.requires.0 c.requires.1) in
    let up : to_z w64 (of_z w64 (c.args.number +ℤ pos 1)) ≡ c.args.number +ℤ pos 1 = to_z-of_z w64 _ (one_more c.args.number c.requires.0 c.requires.1) in
    let before : c.price_of_block-before.result ≡ price_of_block m c.args.row c.args.side (c.args.number -ℤ pos 1) = rw (row, number, down) at c.price_of_block-before.ensures in
    let after : c.price_of_block-after.result ≡ price_of_block m c.args.row c.args.side (c.args.number +ℤ pos 1) = rw (row, number, up) at c.price_of_block-after.ensures in
    rw (price, before, after) at c.rival.ensures
  where
    one_less : (n : ℤ) → pos 1 ≤ℤ n → n ≤ℤ pos most_blocks → SFits w64 (n -ℤ pos 1)
    one_less n least most = omega (arith, ints)

    one_more : (n : ℤ) → pos 1 ≤ℤ n → n ≤ℤ pos most_blocks → SFits w64 (n +ℤ pos 1)
    one_more n least most = omega (arith, ints)
