use Rattle.std.proofs.Common.{rules, ◌≡◌, ◌<◌, ◌∙◌, length, slice_set, w64, refl, sym, ap, subst}
use mir.Val.{to_z, of_z}
use Rattle.market_model.specs.declared.participants.Block.{Block}
use Rattle.market_model.specs.declared.participants.Parts.{Parts}
use Rattle.market_model.specs.Changes.{with_quantity}
use Rattle.std.specs.Prelude.{◌≤ℤ◌}
use Rattle.market_model.specs.Dispatch.{block_at, unit_at}
use Rattle.market_model.specs.Stairs.{stair_in, offered, room_of}
use Rattle.market_model.specs.Market.{IsMarket}
use Rattle.market_model.proofs.ChangeLemmas.{put_quantity, kept_quantity}
use Rattle.market_model.proofs.PickupLemmas.{pickups_kept}
use Rattle.market_model.proofs.assembled.Market.set_quantity.Goals as goal

changed : (c : goal.After-set) → (record c.self.inside.parts { blocks = c.set.new.self }) ≡ with_quantity c.self.inside.parts c.args.block c.args.mw
changed c =
    let old : Block = c.at-old.result.now in
    let kept : to_z w64 (of_z w64 c.at-old.result.now.price) ≡ c.at-old.result.now.price = search rules in
    let given : to_z w64 (of_z w64 c.args.mw) ≡ c.args.mw = search rules in
    put_quantity c.self.inside.parts c.args.block c.args.mw old c.set.new.self c.at-old.ensures
    (c.set.ensures ∙ ap (λ (b : Block). slice_set c.self.inside.parts.blocks c.args.block b) (rw (kept, given) refl))

pub invariant_of-self : goal.invariant_of-self
invariant_of-self c = (
  subst IsMarket (sym (changed c)) (kept_quantity c.self.inside.parts c.self.invariant.0 c.args.block c.args.mw
      (subst (λ (m : Parts). c.args.block < length m.blocks) (sym c.self.view_is) c.requires.block) c.requires.least
      (subst (λ (m : Parts). offered (stair_in (block_at m c.args.block).unit (block_at m c.args.block).side (with_quantity m c.args.block c.args.mw).blocks) ≤ℤ room_of (block_at m c.args.block).side (unit_at m (block_at m c.args.block).unit)) (sym c.self.view_is) c.requires.room)),
  c.self.invariant.1,
  record { lines = c.self.invariant.2.lines; index = c.self.invariant.2.index; factors = c.self.invariant.2.factors },
  pickups_kept c.self.inside.parts c.self.inside.pickup_factors.items c.self.invariant.3 c.self.inside.parts.buses c.set.new.self c.self.inside.parts.lines c.self.inside.parts.reserve refl,
)

pub returns : goal.returns
returns c = changed c ∙ ap (λ (m : Parts). with_quantity m c.args.block c.args.mw) c.self.view_is
