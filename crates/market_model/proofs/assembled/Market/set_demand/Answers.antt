use Rattle.std.proofs.Common.{rules, ◌≡◌, ◌<◌, ◌∙◌, ℕ, length, slice_set, w64, refl, sym, ap, subst}
use mir.Val.{to_z, of_z}
use Rattle.market_data.specs.declared.participants.Bus.{Bus}
use Rattle.market_model.specs.declared.participants.Parts.{Parts}
use Rattle.market_model.specs.Changes.{with_demand}
use Rattle.market_model.specs.Factors.{factor_in, IsTable}
use Rattle.market_model.specs.Market.{IsMarket}
use Rattle.std.proofs.lemmas.List.{length-set}
use Rattle.market_model.proofs.ChangeLemmas.{put_demand, kept_demand}
use Rattle.market_model.proofs.PickupLemmas.{pickups_kept}
use Rattle.market_model.proofs.assembled.Market.set_demand.Goals as goal

changed : (c : goal.After-set) → (record c.self.inside.parts { buses = c.set.new.self }) ≡ with_demand c.self.inside.parts c.args.bus c.args.pd
changed c =
    let old : Bus = c.at-old.result.now in
    let kept : to_z w64 (of_z w64 c.at-old.result.now.gs) ≡ c.at-old.result.now.gs = search rules in
    let given : to_z w64 (of_z w64 c.args.pd) ≡ c.args.pd = search rules in
    put_demand c.self.inside.parts c.args.bus c.args.pd old c.set.new.self c.at-old.ensures
    (c.set.ensures ∙ ap (λ (b : Bus). slice_set c.self.inside.parts.buses c.args.bus b) (rw (kept, given) refl))

pub invariant_of-self : goal.invariant_of-self
invariant_of-self c =
    let long : length c.self.inside.parts.buses ≡ length c.set.new.self = sym (ap length c.set.ensures ∙ length-set c.self.inside.parts.buses c.args.bus _) in (
      subst IsMarket (sym (changed c)) (kept_demand c.self.inside.parts c.self.invariant.0 c.args.bus c.args.pd
          (subst (λ (m : Parts). c.args.bus < length m.buses) (sym c.self.view_is) c.requires.bus) c.requires.load),
      subst (λ (n : ℕ). IsTable (length c.self.inside.parts.lines) n (factor_in c.self.inside.parts.shift) c.self.inside.shift.items) long c.self.invariant.1,
      record { lines = c.self.invariant.2.lines; index = c.self.invariant.2.index; factors = c.self.invariant.2.factors },
      pickups_kept c.self.inside.parts c.self.inside.pickup_factors.items c.self.invariant.3 c.set.new.self c.self.inside.parts.blocks c.self.inside.parts.lines c.self.inside.parts.reserve refl,
    )

pub returns : goal.returns
returns c = changed c ∙ ap (λ (m : Parts). with_demand m c.args.bus c.args.pd) c.self.view_is
