use Rattle.std.proofs.Common.{rules, ◌≡◌, ◌<◌, ◌∙◌, length, slice_set, w64, refl, sym, ap, subst}
use mir.Val.{to_z, of_z}
use Rattle.market_model.specs.declared.participants.Block.{Block}
use Rattle.market_model.specs.declared.participants.Parts.{Parts}
use Rattle.market_model.specs.Changes.{with_price}
use Rattle.market_model.specs.Market.{IsMarket}
use Rattle.market_model.proofs.ChangeLemmas.{put_price, kept_price}
use Rattle.market_model.proofs.PickupLemmas.{pickups_kept}
use Rattle.market_model.proofs.assembled.Market.set_price.Goals as goal

changed : (c : goal.After-set) → (record c.self.inside.parts { blocks = c.set.new.self }) ≡ with_price c.self.inside.parts c.args.block c.args.price
changed c =
    let old : Block = c.at-old.result.now in
    let kept : to_z w64 (of_z w64 c.at-old.result.now.quantity) ≡ c.at-old.result.now.quantity = search rules in
    let given : to_z w64 (of_z w64 c.args.price) ≡ c.args.price = search rules in
    put_price c.self.inside.parts c.args.block c.args.price old c.set.new.self c.at-old.ensures
    (c.set.ensures ∙ ap (λ (b : Block). slice_set c.self.inside.parts.blocks c.args.block b) (rw (kept, given) refl))

pub invariant_of-self : goal.invariant_of-self
invariant_of-self c = (
  subst IsMarket (sym (changed c)) (kept_price c.self.inside.parts c.self.invariant.0 c.args.block c.args.price
      (subst (λ (m : Parts). c.args.block < length m.blocks) (sym c.self.view_is) c.requires.block) c.requires.price),
  c.self.invariant.1,
  record { lines = c.self.invariant.2.lines; index = c.self.invariant.2.index; factors = c.self.invariant.2.factors },
  pickups_kept c.self.inside.parts c.self.inside.pickup_factors.items c.self.invariant.3 c.self.inside.parts.buses c.set.new.self c.self.inside.parts.lines c.self.inside.parts.reserve refl,
)

pub returns : goal.returns
returns c = changed c ∙ ap (λ (m : Parts). with_price m c.args.block c.args.price) c.self.view_is
