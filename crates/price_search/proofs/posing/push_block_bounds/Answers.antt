use Rattle.std.proofs.Common.{◌≡◌, ◌∙◌, ◌++◌, ◌<◌, List, ap, arith, length, map, pos, subst, ℕ}
use Rattle.std.specs.Prelude.{slice_index_or}
use Rattle.market_model.specs.declared.participants.Block.{Block}
use Rattle.market_model.specs.declared.participants.Side.TheVariants.{Sell}
use Rattle.market_model.specs.Dispatch.{places}
use Rattle.price_system.specs.declared.variables.Variable.TheVariants as variable
use Rattle.price_system.specs.PriceSystem.{greatest_worth, least_worth}
use Rattle.price_search.specs.Points.{caps_at}
use Rattle.price_search.specs.PriceBounds.{AreBounds, dispatch_at}
use Rattle.price_search.proofs.BoundLists.{are_alone, are_more, places_mapped}
use Rattle.price_search.proofs.RowLemmas.{block_worth, read_at}
use Rattle.price_search.proofs.posing.push_block_bounds.Goals as goal

abbrev none : Block
none = record { unit = 0; side = Sell; quantity = pos 0; price = pos 0 }

pub loop-place-init : goal.loop-place-init
loop-place-init g c = λ vs are. are_alone g.N.Exact.value c.args.market.now _ _ vs c.args.bounds.now are

pub loop-place-preserved : goal.loop-place-preserved
loop-place-preserved g c = λ vs are.
    let m = c.args.market.now in
    let value = g.N.Exact.value in
    let x = dispatch_at value c.args.point in
    let caps = caps_at value c.args.caps in
    let k = c.loop-place.place in
    let blocks = c.slice-block-items.ensures ∙ c.blocks-2.ensures.list in
    let at = ap (λ (bs : List Block). slice_index_or bs k none) blocks in
    let lt : k < length c.args.point.accepted.now = omega (arith, c.loop-place-test.true, ap length blocks, c.requires) in
    let mw = read_at value c.args.point.accepted.now k c.index-point-place.result lt in
    are_more value m x caps vs (map variable.Block (places k)) _ (variable.Block k) c.loop-place.bounds c.push.new.self c.worth_bounds.result (places_mapped variable.Block k) c.in_ok-push.ensures (c.loop-place.invariant vs are)
    (block_worth least_worth m x k _ _ _ _ _ _ _ at mw c.block_quantity-quantity.ensures c.block_price-price.ensures c.requires.cap c.worth_bounds.ensures.low)
    (block_worth greatest_worth m x k _ _ _ _ _ _ _ at mw c.block_quantity-quantity.ensures c.block_price-price.ensures c.requires.cap c.worth_bounds.ensures.high)

pub returns : goal.returns
returns g c = λ vs are.
    let m = c.args.market.now in
    let value = g.N.Exact.value in
    let blocks = c.slice-block-items.ensures ∙ c.blocks-2.ensures.list in
    let all : c.loop-place.place ≡ length m.blocks = omega (arith, ap length blocks) in
    subst (λ (n : ℕ). AreBounds value m (dispatch_at value c.args.point) (caps_at value c.args.caps) (vs ++ map variable.Block (places n)) c.loop-place.bounds) all (c.loop-place.invariant vs are)
