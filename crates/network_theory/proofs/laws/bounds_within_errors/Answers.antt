use Rattle.network_theory.proofs.Guesses.{law_of_guessed_bounds}
use Rattle.network_theory.proofs.laws.bounds_within_errors.Goals as goal

pub returns : goal.returns
returns c = law_of_guessed_bounds
