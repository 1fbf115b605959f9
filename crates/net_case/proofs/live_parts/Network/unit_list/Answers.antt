use Rattle.std.proofs.Common.{◌≡◌, ◌∷◌, ◌∙◌, [], refl, length, get_or, take, arith, pos, ap, subst}
use Rattle.net_case.specs.Networks.{LiveNetwork, IsNetwork}
use Rattle.std.proofs.lemmas.Grind.{common_steps}
use Rattle.std.proofs.lemmas.List.{map-append, take_more}
use Rattle.market_data.specs.Participants.{IsUnit}
use Rattle.market_data.proofs.Data.{All-push}
use Rattle.net_case.specs.NetworkReading.{unit_within}
use Rattle.net_case.specs.declared.live_parts.NetUnit.{NetUnit}
use Rattle.net_case.proofs.live_parts.Network.unit_list.Goals as goal

pub loop-unit-preserved : goal.loop-unit-preserved
loop-unit-preserved c =
    let i = c.loop-unit.unit-index in
    let d : NetUnit = record { row = 0; bus = 0; low = pos 0; high = pos 0 } in
    let kept : IsNetwork c.args.self.now = subst IsNetwork c.self.view_is c.self.invariant in
    let items : c.slice-unit-items.result.now ≡ c.args.self.now.units = c.slice-unit-items.ensures ∙ ap (λ (n : LiveNetwork). n.units) c.self.view_is in
    let lt = rw items at c.loop-unit-test.true in
    let unit = kept.units i d lt in
    let here : c.unit_of.result ≡ unit_within (get_or c.args.self.now.units i d) = rw items at c.unit_of.ensures.is in
    record {
      count = grind (arith, common_steps);
      is = c.in_ok-push.ensures ∙ rw (take_more c.args.self.now.units i d lt, map-append unit_within (take i c.args.self.now.units) (get_or c.args.self.now.units i d ∷ []), ← c.loop-unit.invariant.is, here) refl;
      units = All-push (IsUnit (length c.args.self.now.buses)) c.loop-unit.units c.push.new.self c.unit_of.result c.in_ok-push.ensures c.loop-unit.invariant.units
          (c.unit_of.ensures.unit (length c.args.self.now.buses) (rw items unit));
    }
