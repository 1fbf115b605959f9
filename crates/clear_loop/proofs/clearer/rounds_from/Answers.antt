use Rattle.clear_loop.proofs.clearer.rounds_from.Goals as goal

pub returns-clause-taken : goal.returns-clause-taken
returns-clause-taken g c = rw c.in_ok-hand.ensures.taken at c.all_rounds.ensures.taken
