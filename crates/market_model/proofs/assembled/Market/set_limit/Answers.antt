use Rattle.std.proofs.Common.{rules, ◌≡◌, ◌<◌, ◌∙◌, ℕ, length, slice_set, w64, sym, ap, subst}
use mir.Val.{to_z, of_z}
use Rattle.market_model.specs.declared.participants.Line.{Line}
use Rattle.market_model.specs.declared.participants.Parts.{Parts}
use Rattle.market_model.specs.Changes.{with_limit}
use Rattle.market_model.specs.Factors.{factor_in, IsTable}
use Rattle.market_model.specs.LostLines.{AreLostLines}
use Rattle.market_model.specs.Market.{IsMarket}
use Rattle.std.proofs.lemmas.List.{length-set}
use Rattle.market_model.proofs.ChangeLemmas.{put_limit, kept_limit}
use Rattle.market_model.proofs.LostLemmas.{lost_kept}
use Rattle.market_model.proofs.PickupLemmas.{pickups_kept}
use Rattle.market_model.proofs.assembled.Market.set_limit.Goals as goal

changed : (c : goal.After-set) → (record c.self.inside.parts { lines = c.set.new.self }) ≡ with_limit c.self.inside.parts c.args.line c.args.post c.args.mw
changed c =
    let given : to_z w64 (of_z w64 c.args.mw) ≡ c.args.mw = search rules in
    put_limit c.self.inside.parts c.args.line c.args.post c.args.mw c.at-old.result.now c.set.new.self c.at-old.ensures
    (rw given at (c.set.ensures ∙ ap (λ (l : Line). slice_set c.self.inside.parts.lines c.args.line l) c.limited.ensures))

pub invariant_of-self : goal.invariant_of-self
invariant_of-self c =
    let long : length c.self.inside.parts.lines ≡ length c.set.new.self = sym (ap length c.set.ensures ∙ length-set c.self.inside.parts.lines c.args.line _) in (
      subst IsMarket (sym (changed c)) (kept_limit c.self.inside.parts c.self.invariant.0 c.args.line c.args.post c.args.mw
          (subst (λ (m : Parts). c.args.line < length m.lines) (sym c.self.view_is) c.requires.line) c.requires.least),
      subst (λ (n : ℕ). IsTable n (length c.self.inside.parts.buses) (factor_in c.self.inside.parts.shift) c.self.inside.shift.items) long c.self.invariant.1,
      subst (λ (m : Parts). AreLostLines m c.self.inside.lost c.self.inside.index.items c.self.inside.loss.items) (sym (changed c))
          (lost_kept c.self.inside.parts c.args.line c.args.post c.args.mw c.self.inside.lost c.self.inside.index.items c.self.inside.loss.items c.self.invariant.2),
      pickups_kept c.self.inside.parts c.self.inside.pickup_factors.items c.self.invariant.3 c.self.inside.parts.buses c.self.inside.parts.blocks c.set.new.self c.self.inside.parts.reserve (sym long),
    )

pub returns : goal.returns
returns c = changed c ∙ ap (λ (m : Parts). with_limit m c.args.line c.args.post c.args.mw) c.self.view_is
