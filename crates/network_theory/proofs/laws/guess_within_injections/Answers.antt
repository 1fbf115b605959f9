use Rattle.network_theory.proofs.Guesses.{law_of_the_guess}
use Rattle.network_theory.proofs.laws.guess_within_injections.Goals as goal

pub returns : goal.returns
returns c = law_of_the_guess
