use Rattle.std.proofs.Common.{sym, ◌∙◌, arith}
use Rattle.fraction_theory.specs.Fraction.{Fraction}
use Rattle.market_model.specs.declared.answered.RoomDual.{RoomDual}
use Rattle.market_model.specs.Dispatch.{zero}
use Rattle.market_model.specs.Valued.{room_dual_at}
use Rattle.cert_verify.specs.declared.verdicts.Reason.TheVariants as reason
use Rattle.cert_verify.specs.Reasons.{is_below}
use Rattle.cert_verify.proofs.FindLemmas.{item_here, item_more, item_none}
use Rattle.cert_verify.proofs.rooms.negative_room.Goals as goal

pub returns-then-is_negative : goal.returns-then-is_negative
returns-then-is_negative g c =
    item_here (λ (e : RoomDual Fraction). reason.RoomSign e.unit) (λ (e : RoomDual Fraction). is_below e.price zero) (room_dual_at g.N.Exact.value) c.args.rooms.now c.loop-dual.dual-index c.dual-item.result c.loop-dual.invariant
    (omega (arith, c.loop-dual-test.true)) c.dual-item.is (sym c.is_negative.ensures ∙ c.if-is_negative.true)

pub loop-dual-preserved : goal.loop-dual-preserved
loop-dual-preserved g c =
    item_more (λ (e : RoomDual Fraction). reason.RoomSign e.unit) (λ (e : RoomDual Fraction). is_below e.price zero) (room_dual_at g.N.Exact.value) c.args.rooms.now c.loop-dual.dual-index c.dual-item.result c.loop-dual.invariant
    (omega (arith, c.loop-dual-test.true)) c.dual-item.is (sym c.is_negative.ensures ∙ c.if-is_negative.false)

pub returns : goal.returns
returns g c =
    item_none (λ (e : RoomDual Fraction). reason.RoomSign e.unit) (λ (e : RoomDual Fraction). is_below e.price zero) (room_dual_at g.N.Exact.value) c.args.rooms.now c.loop-dual.dual-index c.loop-dual.invariant (omega (arith, c.loop-dual-test.false))
