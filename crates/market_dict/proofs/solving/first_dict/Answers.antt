use Rattle.std.proofs.Common.{List, ◌∙◌, ℕ, subst}
use Rattle.std.specs.List.{Contains}
use Rattle.first_best.specs.Outcomes.{GoesFirst}
use Rattle.market_dict.proofs.FirstLemmas.{order_columns, order_is}
use Rattle.market_dict.proofs.solving.first_dict.Goals as goal

pub first_of_best-requires-clause-live : goal.first_of_best-requires-clause-live
first_of_best-requires-clause-live g c = let b = c.requires.best in b.1.0.holds.live

pub first_of_best-requires-clause-shows : goal.first_of_best-requires-clause-shows
first_of_best-requires-clause-shows g c = let b = c.requires.best in b.1.1

pub first_of_best-requires-clause-solved : goal.first_of_best-requires-clause-solved
first_of_best-requires-clause-solved g c = let b = c.requires.best in b.1.2

pub first_of_best-requires-clause-columns : goal.first_of_best-requires-clause-columns
first_of_best-requires-clause-columns g c = λ j k.
    let b = c.requires.best in
    order_columns c.args.market.now b.0 c.args.dict b.1.0 j (subst (λ (ws : List ℕ). Contains ws j) (c.slice.ensures ∙ c.in_ok-order.ensures) k)

pub returns-in-Ok-clause-first : goal.returns-in-Ok-clause-first
returns-in-Ok-clause-first g c =
    subst (λ (ws : List ℕ). GoesFirst c.args.dict ws c.in-Ok.first) (c.slice.ensures ∙ c.in_ok-order.ensures ∙ order_is c.args.market.now) c.in-Ok.ensures.first
