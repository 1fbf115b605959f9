use Rattle.market_model.specs.Valued.{outcome_at}
use Rattle.command_answers.proofs.WiderLemmas.{entitles-wider}
use Rattle.command_answers.proofs.rights.rights_outcome.Goals as goal

pub returns-clause-entitles : goal.returns-clause-entitles
returns-clause-entitles g c = record {
  outcome = outcome_at g.N.Exact.value c.in_ok-cleared.cleared.outcome;
  right = c.in_ok-cleared.ensures.right;
  priced = c.in_ok-cleared.ensures.priced;
  within = c.in_ok-cleared.ensures.within;
  told = c.in_ok-told.ensures.tells;
}

pub returns-clause-wider : goal.returns-clause-wider
returns-clause-wider g c = λ bound wide none.
    let fine = c.is_told_passed-is_passed.ensures.none none in
    entitles-wider g.N.Exact.bound bound wide c.args.market.now c.args.rights.now _
    (record {
      outcome = outcome_at g.N.Exact.value c.in_ok-cleared.cleared.outcome;
      right = c.in_ok-cleared.ensures.right;
      priced = c.in_ok-cleared.ensures.priced;
      within = c.in_ok-cleared.ensures.within;
      told = c.in_ok-told.ensures.tells;
    })
    fine.1 (c.in_ok-cleared.ensures.first fine.0)
