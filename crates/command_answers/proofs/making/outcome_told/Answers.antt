use Rattle.std.proofs.Common.{◌∙◌, ap}
use Rattle.command_answers.specs.Tellings.{uncertified}
use Rattle.command_answers.specs.declared.status.Status.TheVariants as status
use Rattle.command_answers.proofs.RingLemmas.{ring_cleared, ring_passed, ring_served}
use Rattle.command_answers.proofs.making.outcome_told.Goals as goal

pub returns-in_ok-cleared_text-in-Cleared-clause-makes : goal.returns-in_ok-cleared_text-in-Cleared-clause-makes
returns-in_ok-cleared_text-in-Cleared-clause-makes g c =
    let ring = c.args.ring.now in
    ring_cleared g.N.Exact.value g.N.Exact.bound ring.buses ring.seed ring.market.now c.requires.ring c.args.outcome.now c.requires.right c.in-Cleared.answer _ c.requires.kept c.in-Cleared.is c.requires.priced c.requires.within
    (c.uncertified.ensures.telling ∙ ap (uncertified status.Done) c.in_ok-cleared_text-in-Cleared.ensures)

pub unreachable-requires : goal.unreachable-requires
unreachable-requires g c =
    let ring = c.args.ring.now in
    ring_served g.N.Exact.value g.N.Exact.bound ring.buses ring.seed ring.market.now c.requires.ring c.args.outcome.now c.requires.right c.in-Infeasible.field-0 c.in-Infeasible.is c.requires.kept

pub returns-in_ok-reported_text-in-Range-clause-makes : goal.returns-in_ok-reported_text-in-Range-clause-makes
returns-in_ok-reported_text-in-Range-clause-makes g c =
    let ring = c.args.ring.now in
    ring_passed g.N.Exact.value g.N.Exact.bound ring.buses ring.seed ring.market.now c.requires.ring c.args.outcome.now c.requires.right c.in-Range.field-0 _ c.in-Range.is c.requires.within
    (c.uncertified-in-Range.ensures.telling ∙ ap (uncertified status.Range) c.in_ok-reported_text-in-Range.ensures)
