-- What is certified, with each number as the fraction that it stands for.
use Rattle.std.specs.Prelude.{◌≡◌, length, map}
use Rattle.fraction_theory.specs.Fraction.{Fraction}
use Rattle.market_model.specs.declared.answered.Duals.{Duals}
use Rattle.market_model.specs.declared.participants.Parts.{Parts}
use Rattle.market_model.specs.Dispatch.{Dispatch, dispatch_with}
use Rattle.market_model.specs.Valued.{dual_at, room_dual_at, duals_with}
use Rattle.cert_verify.specs.declared.certified.CertifiedDispatch.{CertifiedDispatch}
use Rattle.cert_verify.specs.declared.certified.CertifiedDuals.{CertifiedDuals}

abbrev pub certified_dispatch : {N : Type 0} → (N → Fraction) → CertifiedDispatch N → Dispatch
certified_dispatch value x = dispatch_with (map value x.blocks.now) (map value x.quantities.now)

abbrev pub certified_duals : {N : Type 0} → (N → Fraction) → CertifiedDuals N → Duals Fraction
certified_duals value d = duals_with (value d.energy) (map (dual_at value) d.limits.now) (value d.reserve_price) (map (room_dual_at value) d.rooms.now)

-- there is one quantity for each block and for each offer of reserve
pub record HasEachQuantity {N : Type 0} (m : Parts) (x : CertifiedDispatch N) : Type 0 where
  pub blocks : length x.blocks.now ≡ length m.blocks
  pub quantities : length x.quantities.now ≡ length m.reserve.offers
