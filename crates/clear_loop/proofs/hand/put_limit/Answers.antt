use Rattle.std.specs.Prelude.{[], ◌∷◌, ◌++◌, ◌≡◌}
use Rattle.std.proofs.Common.{ap, ◌∙◌}
use Rattle.std.proofs.lemmas.Result.{IfOk-weaker}
use Rattle.market_model.specs.declared.answered.RowId.{RowId}
use Rattle.market_model.proofs.RowMembers.{at_places}
use Rattle.clear_loop.proofs.HandLemmas.{listed_limit, pushed}
use Rattle.clear_loop.proofs.hand.put_limit.Goals as goal

pub name_at-name-requires-clause-line : goal.name_at-name-requires-clause-line
name_at-name-requires-clause-line c = (at_places c.args.market.now c.lines-lines.ensures.market c.args.row c.requires.row).0

pub name_at-name-requires-clause-lost : goal.name_at-name-requires-clause-lost
name_at-name-requires-clause-lost c = (at_places c.args.market.now c.lines-lines.ensures.market c.args.row c.requires.row).1

pub returns-clause-listed : goal.returns-clause-listed
returns-clause-listed c =
    let old = c.args.taken.now in
    IfOk-weaker c.push-3.result (λ _. c.push-3.new.self ≡ old.names ++ c.name_at-name.result ∷ []) _
    (λ _ named. listed_limit c.args.market.now old (record { takings = c.push.new.self; rows = c.push-2.new.self; names = c.push-3.new.self }) c.args.row c.requires.listed
    c.in_ok-push.ensures c.in_ok-push-2.ensures (named ∙ ap (λ (n : RowId). old.names ++ n ∷ []) c.name_at-name.ensures))
    (pushed old.names c.push-3.new.self c.name_at-name.result c.push-3.result c.push-3.ensures)
