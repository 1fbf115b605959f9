use Rattle.std.proofs.Common.{◌≡◌, ◌<◌, ◌≤◌, ◌+◌, ◌∙◌, Some, arith, ap, sym, subst, length, slice_get}
use Rattle.std.proofs.lemmas.Option.{get_or_from_slice_get}
use Rattle.fraction_theory.specs.Fraction.{whole}
use Rattle.linear_dict.specs.Notes.{noted}
use Rattle.market_data.specs.Participants.{IsDatum}
use Rattle.market_data.specs.Scales.{most_blocks}
use Rattle.market_model.specs.declared.participants.Block.{Block}
use Rattle.market_model.specs.Dispatch.{block_at}
use Rattle.market_model.specs.Optimality.{energy_worth, price}
use Rattle.price_search.proofs.EnergyLemmas.{difference, difference_refused, row_named, shown}
use Rattle.price_search.proofs.energy.margin.Goals as goal

pub overflow_add-place : goal.overflow_add-place
overflow_add-place g c =
    let few : length c.args.market.now.blocks ≤ most_blocks = c.blocks-2.ensures.market.block_count in
    let inside : c.args.place < length c.args.market.now.blocks = c.requires.place in
    omega (arith, few, inside)

pub note-note-requires-clause-named : goal.note-note-requires-clause-named
note-note-requires-clause-named g c =
    let shows = c.requires.shows.1 in
    row_named c.args.dict.now shows.sound _ (c.args.place + 1) (let inside = shows.row c.args.place c.requires.place in omega (arith, inside)) c.row_name.ensures

pub block_price-requires : goal.block_price-requires
block_price-requires g c =
    let m = c.args.market.now in
    let list : slice_get m.blocks c.args.place ≡ Some c.at-block.result.now = rw c.blocks-2.ensures.list at c.at-block.ensures in
    let block : block_at m c.args.place ≡ c.at-block.result.now = get_or_from_slice_get m.blocks c.args.place c.at-block.result.now _ list in
    subst (λ (b : Block). IsDatum b.price) block (c.blocks-2.ensures.market.blocks c.args.place _ c.requires.place).price

pub returns-clause-margin : goal.returns-clause-margin
returns-clause-margin g c = λ d shows.
    let m = c.args.market.now in
    let k = c.args.place in
    let list : slice_get m.blocks k ≡ Some c.at-block.result.now = rw c.blocks-2.ensures.list at c.at-block.ensures in
    let block : block_at m k ≡ c.at-block.result.now = get_or_from_slice_get m.blocks k c.at-block.result.now _ list in
    let left = shown m d c.args.dict.now shows k c.row_name.result c.requires.place c.row_name.ensures (noted g.N.Exact.value c.note-note.result) c.note-note.ensures in
    let right : g.N.Exact.value c.block_price.result ≡ price m k = c.block_price.ensures ∙ sym (ap (λ (b : Block). whole b.price) block) in
    difference g.N.Exact.value g.N.Exact.bound c.note-note.result.value c.block_price.result (energy_worth m d (block_at m k).unit) (price m k) left right c.exact_difference.result c.exact_difference.ensures

pub returns-clause-stops : goal.returns-clause-stops
returns-clause-stops g c = λ d shows.
    let m = c.args.market.now in
    let k = c.args.place in
    let list : slice_get m.blocks k ≡ Some c.at-block.result.now = rw c.blocks-2.ensures.list at c.at-block.ensures in
    let block : block_at m k ≡ c.at-block.result.now = get_or_from_slice_get m.blocks k c.at-block.result.now _ list in
    let left = shown m d c.args.dict.now shows k c.row_name.result c.requires.place c.row_name.ensures (noted g.N.Exact.value c.note-note.result) c.note-note.ensures in
    let right : g.N.Exact.value c.block_price.result ≡ price m k = c.block_price.ensures ∙ sym (ap (λ (b : Block). whole b.price) block) in
    difference_refused g.N.Exact.value g.N.Exact.bound c.note-note.result.value c.block_price.result (energy_worth m d (block_at m k).unit) (price m k) left right c.exact_difference.result c.exact_difference.ensures
