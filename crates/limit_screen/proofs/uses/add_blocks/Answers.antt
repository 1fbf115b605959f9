use Rattle.std.proofs.Common.{rules, Err, [], refl, ◌+◌, ◌<◌, ◌≡◌, ◌∙◌, ap, length, map, pos, arith, sym, subst, List}
use Rattle.std.specs.Prelude.{slice_index_or, ◌==◌, if◌then◌else◌}
use Rattle.std.proofs.lemmas.Bool.{eq-eqb}
use Rattle.fraction_theory.specs.Fraction.{◌+ℚ◌}
use Rattle.fraction_theory.specs.Sums.{total}
use Rattle.market_model.specs.declared.participants.Block.{Block}
use Rattle.market_model.specs.declared.participants.Side.TheVariants.{Sell}
use Rattle.market_model.specs.Dispatch.{block_at, dispatch_with, raised_by, signed_by_side, zero}
use Rattle.market_model.specs.PutIn.{dispatch_of}
use Rattle.market_model.specs.Reserves.{offers_of, offers_reserve, reserved_term, room_terms}
use Rattle.market_model.specs.SumTables.{used_of_room}
use Rattle.market_model.specs.Valued.{passed_at}
use Rattle.market_model.proofs.PutInSteps.{accepted_is}
use Rattle.market_model.proofs.RoomLemmas.{counted_refused, counted_step, counted_to, offers-listed}
use Rattle.limit_screen.proofs.UseLemmas.{sums_same}
use Rattle.limit_screen.proofs.uses.add_blocks.Goals as goal

-- what stands where there is no block
abbrev nothing : Block
nothing = record { unit = 0; side = Sell; quantity = pos 0; price = pos 0 }

pub add_use-requires : goal.add_use-requires
add_use-requires g c =
    let m = c.args.market.now in
    let k = c.loop-at.at in
    let blocks = c.slice-block-items.ensures ∙ c.blocks-2.ensures.list in
    let below : k < length m.blocks = omega (arith, c.loop-at-test.true, ap length blocks) in
    let inside : (slice_index_or c.slice-block-items.result.now k nothing).unit < length m.units =
    subst (λ (bs : List Block). (slice_index_or bs k nothing).unit < length m.units) (sym blocks) (c.blocks-2.ensures.market.blocks k nothing below).unit in
    omega (arith, inside, c.loop-at.auto.used, c.requires.count)

pub loop-at-preserved : goal.loop-at-preserved
loop-at-preserved g c =
    let m = c.args.market.now in
    let value = g.N.Exact.value in
    let k = c.loop-at.at in
    let ds = c.args.dispatch.now in
    let blocks = c.slice-block-items.ensures ∙ c.blocks-2.ensures.list in
    let b = slice_index_or c.slice-block-items.result.now k nothing in
    let block = ap (λ (bs : List Block). slice_index_or bs k nothing) blocks in
    let inside : k < length ds = omega (arith, c.loop-at-test.true, c.requires.dispatch, ap length blocks) in
    let part = c.by_side.ensures ∙ ap (λ (d : Block). signed_by_side d.side (value c.index-dispatch-at.result)) block ∙ ap (signed_by_side (block_at m k).side) (sym (accepted_is value ds k c.index-dispatch-at.result inside c.index-dispatch-at.is)) in
    let sum = λ (n : _) (u : _). total (counted_to [] (λ j. (block_at m j).unit == u) (raised_by m (dispatch_of value ds)) n) in
    sums_same value (offers_reserve m) (λ u. sum k u +ℚ (if b.unit == u then value c.by_side.result else zero)) (sum (k + 1)) (length m.units) _ (c.in_ok-add_use.ensures.sums (offers_reserve m) (sum k) (length m.units) c.loop-at.invariant)
    (λ u. counted_step [] (λ j. (block_at m j).unit == u) (raised_by m (dispatch_of value ds)) k (b.unit == u) (value c.by_side.result) (sum k u) (sum k u +ℚ (if b.unit == u then value c.by_side.result else zero))
    (ap (λ (d : Block). d.unit == u) block) part refl refl)

pub returns-clause-sums : goal.returns-clause-sums
returns-clause-sums g c = λ reserve.
    let m = c.args.market.now in
    let blocks = c.slice-block-items.ensures ∙ c.blocks-2.ensures.list in
    let all : c.loop-at.at ≡ length m.blocks = omega (arith, c.loop-at-test.false, c.loop-at.auto.at-end, ap length blocks) in
    rw all at c.loop-at.invariant

pub returns-in_err-add_use-clause-stops : goal.returns-in_err-add_use-clause-stops
returns-in_err-add_use-clause-stops g c =
    let m = c.args.market.now in
    let value = g.N.Exact.value in
    let k = c.loop-at.at in
    let ds = c.args.dispatch.now in
    let blocks = c.slice-block-items.ensures ∙ c.blocks-2.ensures.list in
    let b = slice_index_or c.slice-block-items.result.now k nothing in
    let block = ap (λ (bs : List Block). slice_index_or bs k nothing) blocks in
    let below : k < length m.blocks = omega (arith, c.loop-at-test.true, ap length blocks) in
    let inside : k < length ds = omega (arith, below, c.requires.dispatch) in
    let part = c.by_side.ensures ∙ ap (λ (d : Block). signed_by_side d.side (value c.index-dispatch-at.result)) block ∙ ap (signed_by_side (block_at m k).side) (sym (accepted_is value ds k c.index-dispatch-at.result inside c.index-dispatch-at.is)) in
    let sum = λ (u : _). total (counted_to [] (λ j. (block_at m j).unit == u) (raised_by m (dispatch_of value ds)) k) in
    let why = c.in_err-add_use.ensures.stops (offers_reserve m) sum (length m.units) c.loop-at.invariant in
    let unit_inside = subst (λ (bs : List Block). (slice_index_or bs k nothing).unit < length m.units) (sym blocks) (c.blocks-2.ensures.market.blocks k nothing below).unit in
    let given : c.from_residual.result ≡ Err c.in_err-add_use.field-0.0 = search rules in
    λ reserve. rw given (
      _,
      used_of_room b.unit (offers-listed m b.unit unit_inside why.0),
      counted_refused [] (λ j. (block_at m j).unit == b.unit) (raised_by m (dispatch_of value ds))
          (map (reserved_term (dispatch_with (map value ds) reserve)) (offers_of m b.unit)) (room_terms m (dispatch_with (map value ds) reserve) b.unit)
          (length m.blocks) k (b.unit == b.unit) (value c.by_side.result) (sum b.unit) g.N.Exact.bound (passed_at value c.in_err-add_use.field-0.0) refl below
          (ap (λ (d : Block). d.unit == b.unit) block) (eq-eqb b.unit b.unit refl) part refl why.1,
    )
