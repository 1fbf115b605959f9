use Rattle.std.proofs.Common.{◌≡◌, ◌*◌, ◌∙◌, ap, sym, subst, IfOk}
use Rattle.market_model.specs.declared.participants.Parts.{Parts}
use Rattle.market_model.specs.Market.{IsMarket}
use Rattle.case_maker.specs.Rings.{state, with_bus}
use Rattle.case_maker.proofs.RingMarkets.{ring-kept, size-few}
use Rattle.case_maker.proofs.RingParts.{all-buses, no-bus, one-bus_more}
use Rattle.case_maker.proofs.rings.ring.Goals as goal

pub loop-place-init : goal.loop-place-init
unfolding state
loop-place-init c = record {
  state = c.new-draws.ensures;
  parts = no-bus c.args.buses c.args.seed c.bare.result c.new.result c.new-2.result c.new-3.result c.in_ok-shift_factors.field-0 c.in_ok-loss_factors.field-0
      c.bare.ensures c.new.ensures c.new-2.ensures c.new-3.ensures c.in_ok-shift_factors.ensures c.in_ok-loss_factors.ensures;
}

pub loop-place-preserved : goal.loop-place-preserved
loop-place-preserved c =
    let i = c.loop-place.place in
    let start : c.loop-place.draws.state ≡ state c.args.seed (4 * i) = c.loop-place.invariant.state in
    record {
      state = c.bus-drawn.ensures.state c.args.seed i start;
      parts = one-bus_more c.args.buses c.args.seed i c.loop-place.parts c.push_bus.new.parts c.loop-place.invariant.parts
          (c.in_ok-push_bus.ensures ∙ ap (with_bus c.loop-place.parts i) (c.bus-drawn.ensures.drawn c.args.seed i start));
    }

pub assemble-requires : goal.assemble-requires
assemble-requires c =
    let whole = all-buses c.args.buses c.args.seed c.loop-place.place c.loop-place.parts c.loop-place.auto.place-end c.loop-place-test.false c.loop-place.invariant.parts in
    subst IsMarket (sym whole) (ring-kept c.args.buses c.args.seed (size-few c.args.buses c.requires.size))

pub returns-clause-ring : goal.returns-clause-ring
returns-clause-ring c =
    let whole = all-buses c.args.buses c.args.seed c.loop-place.place c.loop-place.parts c.loop-place.auto.place-end c.loop-place-test.false c.loop-place.invariant.parts in
    subst (λ (parts : Parts). IfOk c.assemble.result (λ market. market ≡ parts)) whole c.assemble.ensures
