use Rattle.std.proofs.Common.{Err, ◌≡◌, ◌∙◌, ap, subst}
use Rattle.std.proofs.lemmas.Result.{err_from_is_err_and}
use Rattle.market_system.proofs.GrowthLaws.{growth_none}
use Rattle.market_dict.specs.Takings.{limits_of}
use Rattle.clear_loop.specs.Growing.{none_more, one_more}
use Rattle.clear_loop.specs.Rounds.{IsRound}
use Rattle.clear_loop.specs.declared.rounds.Round.{Round}
use Rattle.clear_loop.specs.declared.rounds.Round.TheVariants as round
use Rattle.clear_loop.proofs.HandLemmas.{comes_nearer, grown_more}
use Rattle.clear_loop.proofs.StopLemmas.{earlier_stop}
use Rattle.clear_loop.proofs.rounds.all_rounds.Goals as goal

pub loop-next-init : goal.loop-next-init
loop-next-init g c = (c.requires, growth_none c.args.market.now (limits_of c.args.first.taken.takings), none_more)

pub returns-in_err-next-clause-stops : goal.returns-in_err-next-clause-stops
returns-in_err-next-clause-stops g c =
    let p = err_from_is_err_and c.from_residual.result c.from_residual.ensures.1 in
    let given : c.from_residual.result ≡ Err c.in_err-next.field-0.0 = p.1 ∙ ap Err p.2 in
    rw given
    (earlier_stop g.N.Exact.value g.N.Exact.bound c.args.market.now (limits_of c.args.first.taken.takings) (limits_of c.loop-next.hand.taken.takings) c.in_err-next.field-0.0 c.loop-next.invariant.1 c.in_err-next.ensures.stops)

pub loop-next-smaller : goal.loop-next-smaller
loop-next-smaller g c =
    let more : IsRound g.N.Exact.value c.args.market.now c.loop-next.hand.taken.takings (round.Grown c.in-Grown.next) =
    subst (λ (r : Round g.row.N.Denot). IsRound g.N.Exact.value c.args.market.now c.loop-next.hand.taken.takings r) c.in-Grown.is c.in_ok-next.ensures.round in
    comes_nearer c.args.market.now c.loop-next.hand.taken.takings c.in-Grown.next.taken.takings more.1 more.0.start.2.takings

pub loop-next-preserved : goal.loop-next-preserved
loop-next-preserved g c =
    let more : IsRound g.N.Exact.value c.args.market.now c.loop-next.hand.taken.takings (round.Grown c.in-Grown.next) =
    subst (λ (r : Round g.row.N.Denot). IsRound g.N.Exact.value c.args.market.now c.loop-next.hand.taken.takings r) c.in-Grown.is c.in_ok-next.ensures.round in (
      more.0,
      grown_more c.args.market.now (limits_of c.args.first.taken.takings) c.loop-next.hand.taken.takings c.in-Grown.next.taken.takings c.loop-next.invariant.1 more.1,
      one_more c.loop-next.hand.taken.takings c.in-Grown.next.taken.takings c.loop-next.invariant.2 more.1,
    )
