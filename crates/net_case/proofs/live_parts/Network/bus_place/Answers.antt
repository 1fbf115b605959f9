use Rattle.std.proofs.Common.{◌≡◌, ◌∙◌, sym, ap, subst, w64}
use Rattle.std.proofs.lemmas.Int.{to_z-of_z}
use Rattle.net_case.specs.Networks.{LiveNetwork, IsNetwork}
use Rattle.net_case.specs.NetworkReading.{place_of_number}
use Rattle.net_case.proofs.PlaceLemmas.{some-bus, no-bus}
use Rattle.net_case.proofs.live_parts.Network.bus_place.Goals as goal

pub returns-in-Some : goal.returns-in-Some
returns-in-Some c =
    let kept : IsNetwork c.args.self.now = subst IsNetwork c.self.view_is c.self.invariant in
    let here : c.place_of_number.result ≡ place_of_number c.args.self.now.bus_rows c.args.number = rw (to_z-of_z w64 c.args.number c.ranges.number) at c.place_of_number.ensures ∙ ap (λ (n : LiveNetwork). place_of_number n.bus_rows c.args.number) c.self.view_is in
    sym (some-bus c.args.self.now.buses c.args.self.now.bus_rows kept.bus_rows c.args.number c.in-Some.place (sym here ∙ c.in-Some.is))

pub returns-in-None : goal.returns-in-None
returns-in-None c =
    let kept : IsNetwork c.args.self.now = subst IsNetwork c.self.view_is c.self.invariant in
    let here : c.place_of_number.result ≡ place_of_number c.args.self.now.bus_rows c.args.number = rw (to_z-of_z w64 c.args.number c.ranges.number) at c.place_of_number.ensures ∙ ap (λ (n : LiveNetwork). place_of_number n.bus_rows c.args.number) c.self.view_is in
    sym (no-bus c.args.self.now.buses c.args.self.now.bus_rows kept.bus_rows c.args.number (sym here ∙ c.in-None.is))
