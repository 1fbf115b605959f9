use Rattle.std.proofs.Common.{rules, ◌≡◌, w64, sym, ap, ◌∙◌, subst, refl}
use mir.Val.{to_z, of_z}
use Rattle.std.specs.Prelude.{true}
use Rattle.market_model.specs.declared.participants.Parts.{Parts}
use Rattle.market_model.specs.Changes.{with_need}
use Rattle.market_model.specs.Market.{IsMarket}
use Rattle.market_model.proofs.ChangeLemmas.{kept_need}
use Rattle.market_model.proofs.PickupLemmas.{pickups_kept}
use Rattle.market_model.proofs.assembled.Market.set_need.Goals as goal

changed : (c : goal.After-self-1) → with_need c.self.inside.parts (to_z w64 (of_z w64 c.args.mw)) ≡ with_need c.self.inside.parts c.args.mw
changed c =
    let given : to_z w64 (of_z w64 c.args.mw) ≡ c.args.mw = search rules in
    ap (with_need c.self.inside.parts) given

pub invariant_of-self : goal.invariant_of-self
invariant_of-self c = (
  subst IsMarket (sym (changed c)) (kept_need c.self.inside.parts c.self.invariant.0 c.args.mw
      (subst (λ (m : Parts). m.reserve.listed ≡ true) (sym c.self.view_is) c.requires.listed) c.requires.least),
  c.self.invariant.1,
  record { lines = c.self.invariant.2.lines; index = c.self.invariant.2.index; factors = c.self.invariant.2.factors },
  pickups_kept c.self.inside.parts c.self.inside.pickup_factors.items c.self.invariant.3 c.self.inside.parts.buses c.self.inside.parts.blocks c.self.inside.parts.lines (record c.self.inside.parts.reserve { need = to_z w64 (of_z w64 c.args.mw) }) refl,
)

pub returns : goal.returns
returns c = changed c ∙ ap (λ (m : Parts). with_need m c.args.mw) c.self.view_is
