use Rattle.simplex_core.proofs.RunLemmas.{answered}
use Rattle.simplex_core.proofs.laws.run_answers.Goals as goal

pub returns-clause-answered : goal.returns-clause-answered
returns-clause-answered g c = answered g.N.Exact.value g.N.Exact.bound c.args.posed c.run.result c.requires c.run.ensures.outcome
