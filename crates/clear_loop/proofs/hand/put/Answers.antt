use Rattle.std.specs.Prelude.{[], ◌∷◌, ◌++◌, ◌≡◌, refl}
use Rattle.std.proofs.Common.{ap, ◌∙◌}
use Rattle.std.proofs.lemmas.Result.{IfOk-weaker}
use Rattle.market_dict.specs.declared.taking.Taking.{Taking}
use Rattle.clear_loop.proofs.HandLemmas.{listed_room, pushed}
use Rattle.clear_loop.proofs.hand.put.Goals as goal

pub returns-in-Room-clause-listed : goal.returns-in-Room-clause-listed
returns-in-Room-clause-listed c =
    let old = c.args.taken.now in
    IfOk-weaker c.push.result (λ _. c.push.new.self ≡ old.takings ++ c.args.taking ∷ []) _
    (λ _ grown. listed_room c.args.market.now old (record { takings = c.push.new.self; rows = old.rows; names = old.names }) c.in-Room.field-0 c.requires.listed
    (grown ∙ ap (λ (t : Taking). old.takings ++ t ∷ []) c.in-Room.is) refl refl)
    (pushed old.takings c.push.new.self c.args.taking c.push.result c.push.ensures)
