use Rattle.std.proofs.Common.{◌≡◌, ◌∙◌, ℕ, Some, arith, length, slice_get, ap, sym, subst}
use Rattle.std.proofs.lemmas.Option.{get_or_from_slice_get}
use Rattle.fraction_theory.specs.Fraction.{Fraction}
use Rattle.fraction_theory.specs.Signs.{abs_ℚ}
use Rattle.market_model.specs.declared.participants.Block.{Block}
use Rattle.market_model.specs.Dispatch.{block_at}
use Rattle.market_model.specs.LimitRows.{unit_factor}
use Rattle.market_model.proofs.RowMembers.{at_places}
use Rattle.price_search.specs.Caps.{IsGreater, IsGreatestWith, factor_size}
use Rattle.price_search.proofs.GreatestLemmas.{with_next, with_none}
use Rattle.price_search.proofs.caps.greatest_with.Goals as goal

pub loop-place-init : goal.loop-place-init
loop-place-init g c = with_none c.args.market.now c.args.row (g.N.Exact.value c.args.number)

pub unit_factor-requires-clause-line : goal.unit_factor-requires-clause-line
unit_factor-requires-clause-line g c = (at_places c.args.market.now c.lines-lines.ensures.market c.args.row c.requires).0

pub unit_factor-requires-clause-lost : goal.unit_factor-requires-clause-lost
unit_factor-requires-clause-lost g c = (at_places c.args.market.now c.lines-lines.ensures.market c.args.row c.requires).1

pub loop-place-preserved : goal.loop-place-preserved
loop-place-preserved g c =
    let value = g.N.Exact.value in
    let m = c.args.market.now in
    let k = c.loop-place.place in
    let list : slice_get m.blocks k ≡ Some c.at.result.now = rw c.blocks-in-loop-place.ensures.list at c.at.ensures in
    let block : block_at m k ≡ c.at.result.now = get_or_from_slice_get m.blocks k c.at.result.now _ list in
    let size : value c.size.result ≡ factor_size m c.args.row k =
    c.size.ensures ∙ ap abs_ℚ (c.in_ok-factor.ensures.factor ∙ sym (ap (λ (b : Block). unit_factor m c.args.row b.unit) block)) in
    with_next m c.args.row k (value c.args.number) (value c.loop-place.greatest) (value c.greater-greatest.result) c.loop-place.invariant
    (subst (λ (t : Fraction). IsGreater (value c.loop-place.greatest) t (value c.greater-greatest.result)) size c.greater-greatest.ensures)

pub returns-clause-greatest : goal.returns-clause-greatest
returns-clause-greatest g c =
    let m = c.args.market.now in
    let blocks : c.len-place-end.result ≡ length m.blocks = c.len-place-end.ensures ∙ ap length c.blocks-2.ensures.list in
    let all : c.loop-place.place ≡ length m.blocks = omega (arith, blocks, c.loop-place-test.false, c.loop-place.auto.place-end) in
    subst (λ (n : ℕ). IsGreatestWith m c.args.row n (g.N.Exact.value c.args.number) (g.N.Exact.value c.loop-place.greatest)) all c.loop-place.invariant
