use Rattle.std.proofs.Common.{◌≡◌, ◌∙◌, ◌≤◌, ◌+◌, ◌*◌, ap, sym, arith, subst, get_or, pos, length}
use Rattle.std.specs.Prelude.{◌==◌, ℤ, List, All, map, unsigned_abs}
use Rattle.std.specs.Int.{w128}
use Rattle.std.proofs.lemmas.List.{take_all}
use mir.Val.{to_z}
use Rattle.fraction_theory.specs.Fraction.{over}
use Rattle.fraction_theory.specs.Sums.{total}
use Rattle.market_data.specs.Scales.{most_factor, most_pickups, share_one, pickup_one}
use Rattle.market_model.specs.declared.participants.Pickup.{Pickup}
use Rattle.market_model.specs.LimitRows.{pickups_of, taker_term}
use Rattle.market_model.specs.Market.{IsPickup}
use Rattle.market_model.proofs.ChangeLemmas.{same_default}
use Rattle.market_model.proofs.PickupLemmas.{all_kept, difference_is, no_parts, pickup_is, sum_is, sum_size, takers_few, taken_more}
use Rattle.market_model.proofs.pickup_table.whole_pickup.Goals as goal

-- what stands where there is no record
abbrev nothing : Pickup
nothing = record { outage = 0; taker = 0; share = pos 0 }

pub loop-pickup-init : goal.loop-pickup-init
loop-pickup-init c = record { size = omega arith; taken = no_parts }

pub taker_share-requires-clause-pickup : goal.taker_share-requires-clause-pickup
taker_share-requires-clause-pickup c =
    let m = c.args.parts.now in
    let each = all_kept (IsPickup (length m.unit_outages) (length m.units)) (λ (p : Pickup). p.outage == c.args.outage) m.pickups c.requires.market.unit_outages.pickups in
    subst (λ (ps : List Pickup). All (IsPickup (length m.unit_outages) (length m.units)) ps) (sym c.requires.takers) each c.loop-pickup.pickup-index nothing c.loop-pickup-test.true

pub loop-pickup-preserved : goal.loop-pickup-preserved
loop-pickup-preserved c =
    let m = c.args.parts.now in
    let ps = c.args.takers.now in
    let i = c.loop-pickup.pickup-index in
    let p : Pickup = get_or ps i nothing in
    let t = to_z w128 c.loop-pickup.taken-bits in
    let s = c.taker_share.result in
    let all : length ps ≤ most_pickups = subst (λ (qs : List Pickup). length qs ≤ most_pickups) (sym c.requires.takers) (takers_few m c.args.outage c.requires.market) in
    let few : i ≤ most_pickups = omega (arith, all, c.loop-pickup-test.true) in
    let sum = sum_is t s c.from-taken.result i few c.loop-pickup.invariant.size c.taker_share.ensures.size c.from-taken.ensures in
    record {
      size = subst (λ (z : ℤ). unsigned_abs z ≤ (i + 1) * (share_one * most_factor)) (sym sum) (sum_size t s c.from-taken.result i few c.loop-pickup.invariant.size c.taker_share.ensures.size c.from-taken.ensures);
      taken = taken_more m c.args.line ps i p c.loop-pickup-test.true (same_default ps i nothing p c.loop-pickup-test.true) t _ s c.loop-pickup.invariant.taken c.taker_share.ensures.is sum;
    }

pub returns : goal.returns
returns c =
    let m = c.args.parts.now in
    let ps = c.args.takers.now in
    let i = c.loop-pickup.pickup-index in
    let t = to_z w128 c.loop-pickup.taken-bits in
    let all : length ps ≤ most_pickups = subst (λ (qs : List Pickup). length qs ≤ most_pickups) (sym c.requires.takers) (takers_few m c.args.outage c.requires.market) in
    let few : i ≤ most_pickups = omega (arith, all, c.loop-pickup.auto.pickup-index-end) in
    let takers : over t pickup_one ≡ total (map (taker_term m c.args.line) (pickups_of m c.args.outage)) =
    c.loop-pickup.invariant.taken ∙ ap (λ (qs : List Pickup). total (map (taker_term m c.args.line) qs)) (take_all i ps c.loop-pickup-test.false ∙ c.requires.takers) in
    pickup_is m c.args.line c.args.outage t c.own_share.result _ takers c.own_share.ensures.is
    (difference_is t c.own_share.result c.from.result i few c.loop-pickup.invariant.size c.own_share.ensures.size c.from.ensures)
