use Rattle.std.proofs.Common.{◌≡◌, ◌∙◌, sym, ap, subst, w64}
use Rattle.std.proofs.lemmas.Int.{to_z-of_z}
use Rattle.std.specs.Prelude.{is_some}
use Rattle.net_case.specs.Networks.{LiveNetwork, IsNetwork}
use Rattle.net_case.specs.NetworkReading.{place_of_number}
use Rattle.net_case.proofs.PlaceLemmas.{noted-bus}
use Rattle.net_case.proofs.live_parts.Network.has_bus.Goals as goal

pub returns : goal.returns
returns c =
    let kept : IsNetwork c.args.self.now = subst IsNetwork c.self.view_is c.self.invariant in
    let here : c.place_of_number.result ≡ place_of_number c.args.self.now.bus_rows c.args.number = rw (to_z-of_z w64 c.args.number c.ranges.number) at c.place_of_number.ensures ∙ ap (λ (n : LiveNetwork). place_of_number n.bus_rows c.args.number) c.self.view_is in
    c.is_some.ensures ∙ ap is_some here ∙ sym (noted-bus c.args.self.now.buses c.args.self.now.bus_rows kept.bus_rows c.args.number)
