use Rattle.std.proofs.Common.{◌∙◌, ℕ, List, subst}
use Rattle.std.specs.List.{Contains}
use Rattle.first_best.specs.Outcomes.{GoesFirst}
use Rattle.price_system.proofs.BackLemmas.{Contains-from_reverse}
use Rattle.price_search.proofs.solving.first_dict.Goals as goal

pub names_back-requires-clause-live : goal.names_back-requires-clause-live
names_back-requires-clause-live g c = let b = c.requires.best in b.3.holds.holds.live

pub names_back-requires-clause-sound : goal.names_back-requires-clause-sound
names_back-requires-clause-sound g c = let b = c.requires.best in b.3.holds.holds.sound

pub first_of_best-requires-clause-live : goal.first_of_best-requires-clause-live
first_of_best-requires-clause-live g c = let b = c.requires.best in b.3.holds.holds.live

pub first_of_best-requires-clause-shows : goal.first_of_best-requires-clause-shows
first_of_best-requires-clause-shows g c = let b = c.requires.best in b.3.shows

pub first_of_best-requires-clause-solved : goal.first_of_best-requires-clause-solved
first_of_best-requires-clause-solved g c = let b = c.requires.best in b.3.solved

pub first_of_best-requires-clause-columns : goal.first_of_best-requires-clause-columns
first_of_best-requires-clause-columns g c = λ j k.
    Contains-from_reverse c.args.dict.columns j (subst (λ (ws : List ℕ). Contains ws j) (c.slice.ensures ∙ c.in_ok-order.ensures) k)

pub returns-in-Ok-clause-first : goal.returns-in-Ok-clause-first
returns-in-Ok-clause-first g c = subst (λ (ws : List ℕ). GoesFirst c.args.dict ws c.in-Ok.first) (c.slice.ensures ∙ c.in_ok-order.ensures) c.in-Ok.ensures.first
