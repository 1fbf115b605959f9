use Rattle.market_inputs.proofs.making.factor_inputs_of.Goals as goal

pub returns-clause-fit : goal.returns-clause-fit
returns-clause-fit c = record {
  network = c.in_ok-network.ensures.kept;
  joined = c.in_ok-network.ensures.joined;
  reactances = c.in_ok-reactances.ensures.fit;
  outages = c.in_ok-outages.ensures.kept.are;
}
