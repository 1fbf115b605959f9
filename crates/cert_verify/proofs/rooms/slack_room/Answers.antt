use Rattle.std.proofs.Common.{rules, Err, ◌≡◌, sym, ◌∙◌, arith}
use Rattle.fraction_theory.specs.Fraction.{Fraction}
use Rattle.market_model.specs.declared.answered.RoomDual.{RoomDual}
use Rattle.market_model.specs.Valued.{room_dual_at}
use Rattle.cert_verify.specs.Certified.{certified_dispatch}
use Rattle.cert_verify.specs.declared.verdicts.Reason.TheVariants as reason
use Rattle.cert_verify.specs.Reasons.{has_room_slack}
use Rattle.cert_verify.proofs.FindLemmas.{item_here, item_more, item_none}
use Rattle.cert_verify.proofs.rooms.slack_room.Goals as goal

pub returns-then-slack-clause-first : goal.returns-then-slack-clause-first
returns-then-slack-clause-first g c =
    item_here (λ (e : RoomDual Fraction). reason.RoomSlack e.unit) (has_room_slack c.args.market.now (certified_dispatch g.N.Exact.value c.args.dispatch.now)) (room_dual_at g.N.Exact.value) c.args.rooms.now c.loop-dual.dual-index c.dual-item.result c.loop-dual.invariant
    (omega (arith, c.loop-dual-test.true)) c.dual-item.is (sym c.in_ok-slack.ensures.slack ∙ c.if-slack.true)

pub loop-dual-preserved : goal.loop-dual-preserved
loop-dual-preserved g c =
    item_more (λ (e : RoomDual Fraction). reason.RoomSlack e.unit) (has_room_slack c.args.market.now (certified_dispatch g.N.Exact.value c.args.dispatch.now)) (room_dual_at g.N.Exact.value) c.args.rooms.now c.loop-dual.dual-index c.dual-item.result c.loop-dual.invariant
    (omega (arith, c.loop-dual-test.true)) c.dual-item.is (sym c.in_ok-slack.ensures.slack ∙ c.if-slack.false)

pub returns-clause-first : goal.returns-clause-first
returns-clause-first g c =
    item_none (λ (e : RoomDual Fraction). reason.RoomSlack e.unit) (has_room_slack c.args.market.now (certified_dispatch g.N.Exact.value c.args.dispatch.now)) (room_dual_at g.N.Exact.value) c.args.rooms.now c.loop-dual.dual-index c.loop-dual.invariant (omega (arith, c.loop-dual-test.false))

pub returns-in_err-slack-clause-stops : goal.returns-in_err-slack-clause-stops
returns-in_err-slack-clause-stops g c =
    let given : c.from_residual.result ≡ Err c.in_err-slack.field-0.0 = search rules in
    rw given c.in_err-slack.ensures.stops
