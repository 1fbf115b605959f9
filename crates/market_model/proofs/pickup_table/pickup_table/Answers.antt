use Rattle.std.proofs.Common.{rules, ◌≡◌, ◌∙◌, ◌<◌, ◌+◌, ◌++◌, [], ◌∷◌, ap, sym, arith, subst, length}
use Rattle.std.specs.Prelude.{ℤ}
use Rattle.std.specs.Int.{w128}
use Rattle.std.proofs.lemmas.Int.{to_z-of_z}
use Rattle.std.proofs.lemmas.List.{length-append}
use mir.Val.{to_z, of_z}
use Rattle.market_model.proofs.PickupLemmas.{ArePickups, pickups_more}
use Rattle.market_model.proofs.pickup_table.pickup_table.Goals as goal

pub loop-line-preserved : goal.loop-line-preserved
loop-line-preserved c =
    let m = c.args.parts.now in
    let n = c.whole_pickup.result in
    let old = c.loop-line.table.items in
    let inside : c.loop-line.line < length m.lines = search rules in
    let known : to_z w128 (of_z w128 n) ≡ n = to_z-of_z w128 n (record { sfits = c.whole_pickup.type_inv }) in
    let items : c.push.new.self.items ≡ old ++ n ∷ [] = c.in-Ok.ensures.items ∙ ap (λ (z : ℤ). old ++ z ∷ []) known in
    let long = ap length items ∙ length-append old (n ∷ []) in
    record {
      count = omega (arith, long, c.loop-line.invariant.count);
      are = subst (ArePickups m) (sym items) (pickups_more m old c.loop-line.invariant.are c.loop-outage.outage c.loop-line.line n inside c.loop-line.invariant.count c.whole_pickup.ensures);
    }
