use Rattle.std.proofs.Common.{rules, tests, ◌≡◌, Some, ap, ◌∙◌}
use Rattle.std.proofs.lemmas.Iterator.{IsFirst-from_position}
use Rattle.std.proofs.lemmas.Iterator.Consumers.{YieldsList-from_first}
use Rattle.std.proofs.lemmas.Option.{slice_get-get_or}
use Rattle.limit_rows.specs.Walk.{rows_from}
use Rattle.limit_rows.proofs.numbering.place_from.Goals as goal

pub returns : goal.returns
returns c =
    let all = rows_from c.args.market.now c.args.cause 0 in
    let found = IsFirst-from_position c.position.new.self _ (Some c.in-Some.place) (λ row. row ≡ c.args.row) (λ row. row ≡ row) c.in-Some.ensures.ran (YieldsList-from_first (λ row. row) (λ left. left) all c.rows_behind.ensures.rows) (λ row after call. search (rules, tests)) (λ row after call. search (rules, tests)) in
    slice_get-get_or all c.in-Some.place c.args.row found.0 ∙ ap Some (found.1 c.args.row)
