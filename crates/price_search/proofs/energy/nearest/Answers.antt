use Rattle.std.proofs.Common.{◌≡◌, ◌∙◌, ◌+◌, ◌<◌, ℕ, List, Err, Some, rules, arith, length, slice_get, ap, sym, subst}
use Rattle.std.proofs.lemmas.Option.{get_or_from_slice_get}
use Rattle.fraction_theory.specs.Fraction.{whole}
use Rattle.market_model.specs.declared.participants.Block.{Block}
use Rattle.market_model.specs.Dispatch.{accepted as accepted_of, block_at}
use Rattle.market_model.proofs.PlaceLists.{put_read}
use Rattle.price_search.specs.Energy.{IsNearest}
use Rattle.price_search.proofs.EnergyLemmas.{found_holding, holding, passed_by}
use Rattle.price_search.proofs.energy.nearest.Goals.{then-holds+in_ok-margin, else-holds}
use Rattle.price_search.proofs.energy.nearest.Goals as goal

pub returns-in_err-margin-clause-stops : goal.returns-in_err-margin-clause-stops
returns-in_err-margin-clause-stops g c = λ x d accepted shows.
    let value = g.N.Exact.value in
    let m = c.args.market.now in
    let k = c.loop-place.place in
    let given : c.from_residual.result ≡ Err c.in_err-margin.field-0.0 = search rules in
    let inside : k < length m.blocks = omega (arith, ap (λ (bs : List Block). length bs) c.blocks-2.ensures.list) in
    let numbered : k < length c.args.accepted.now = omega (arith, inside, c.requires.accepted) in
    let list : slice_get m.blocks k ≡ Some c.at-block.result.now = rw c.blocks-in-loop-place.ensures.list at c.at-block.ensures in
    let block : block_at m k ≡ c.at-block.result.now = get_or_from_slice_get m.blocks k c.at-block.result.now _ list in
    let taken : value c.index-accepted-place.result ≡ accepted_of x k = put_read value c.args.accepted.now k c.index-accepted-place.result numbered c.index-accepted-place.is ∙ accepted k inside in
    rw given (record {
      block = k;
      within = inside;
      holds = holding c.args.hold m x k c.at-block.result.now (value c.index-accepted-place.result) (value c.block_quantity.result) block taken c.block_quantity.ensures c.if-holds.ensures;
      refused = c.in_err-margin.ensures.stops d shows;
    })

pub loop-place-preserved : goal.loop-place-preserved
loop-place-preserved g c = λ x d accepted shows.
    let value = g.N.Exact.value in
    let m = c.args.market.now in
    let k = c.loop-place.place in
    let before = c.loop-place.invariant x d accepted shows in
    let inside : k < length m.blocks = omega (arith, ap (λ (bs : List Block). length bs) c.blocks-2.ensures.list) in
    let numbered : k < length c.args.accepted.now = omega (arith, inside, c.requires.accepted) in
    let list : slice_get m.blocks k ≡ Some c.at-block.result.now = rw c.blocks-in-loop-place.ensures.list at c.at-block.ensures in
    let block : block_at m k ≡ c.at-block.result.now = get_or_from_slice_get m.blocks k c.at-block.result.now _ list in
    let taken : value c.index-accepted-place.result ≡ accepted_of x k = put_read value c.args.accepted.now k c.index-accepted-place.result numbered c.index-accepted-place.is ∙ accepted k inside in
    let all : value c.block_quantity.result ≡ whole c.at-block.result.now.quantity = c.block_quantity.ensures in
    elim c.if-holds.branch [
      | then-holds+in_ok-margin w ↦
          let holds = holding c.args.hold m x k c.at-block.result.now (value c.index-accepted-place.result) (value c.block_quantity.result) block taken all w.if-holds.ensures in
          subst (IsNearest value c.args.hold m x d (k + 1)) (sym w.nearest-is) (w.nearer.ensures m x d before holds (w.in_ok-margin.ensures.margin d shows))
      | else-holds w ↦
          subst (IsNearest value c.args.hold m x d (k + 1)) (sym w.nearest-is) (passed_by value c.args.hold m x d k c.loop-place.nearest before
          (λ h. w.if-holds.ensures (found_holding c.args.hold m x k c.at-block.result.now (value c.index-accepted-place.result) (value c.block_quantity.result) block taken all h)))
    ]

pub returns-clause-nearest : goal.returns-clause-nearest
returns-clause-nearest g c = λ x d accepted shows.
    let all : c.loop-place.place ≡ length c.args.market.now.blocks = omega (arith, ap (λ (bs : List Block). length bs) c.blocks-2.ensures.list) in
    subst (λ (n : ℕ). IsNearest g.N.Exact.value c.args.hold c.args.market.now x d n c.loop-place.nearest) all (c.loop-place.invariant x d accepted shows)
