use Rattle.std.proofs.Common.{rules, ◌≡◌, ◌∙◌, ap, map, subst, sym, get_or}
use Rattle.std.specs.Prelude.{IfSome}
use Rattle.std.proofs.lemmas.List.{get_or-map}
use Rattle.exact_fraction.specs.Floor.{IsFloor}
use Rattle.market_model.specs.Dispatch.{zero}
use Rattle.limit_screen.specs.Bounds.{AreFloors}
use Rattle.limit_screen.proofs.PartLemmas.{floors_more}
use Rattle.limit_screen.proofs.parts.floors.Goals as goal

pub loop-number-preserved : goal.loop-number-preserved
loop-number-preserved g c =
    let fs = map g.N.Exact.value c.args.numbers.now in
    let i = c.loop-number.number-index in
    let at : g.N.Exact.value c.number-item.result ≡ get_or fs i zero =
    ap g.N.Exact.value c.number-item.is ∙ sym (get_or-map g.N.Exact.value c.args.numbers.now i c.number-item.result zero c.loop-number-test.true) in
    let last : IfSome c.floor.result (IsFloor (get_or fs i zero)) = subst (λ x. IfSome c.floor.result (IsFloor x)) at c.floor.ensures in
    record {
      count = search rules;
      floors = subst (AreFloors fs) (sym c.in-Ok.ensures.items) (floors_more fs c.loop-number.parts.items c.floor.result i c.loop-number.invariant.count c.loop-number.invariant.floors last);
    }
