use Rattle.std.proofs.Common.{◌≡◌, ◌∙◌, ◌++◌, ap, arith, w64, to_z, of_z}
use Rattle.std.specs.Int.{w128}
use Rattle.std.specs.Prelude.{codes}
use Rattle.std.proofs.lemmas.Int.{to_z-of_z, ints}
use Rattle.std.proofs.lemmas.Result.{IfOk-equal}
use Rattle.line_text.specs.Decimals.{decimal_text}
use Rattle.replay_text.proofs.fault.fault_words.Goals as goal

pub returns-in-OutOfOrder : goal.returns-in-OutOfOrder
returns-in-OutOfOrder c =
    let other = c.in-OutOfOrder.other in
    let wide : to_z w128 (of_z w128 c.from.result) ≡ c.from.result = search (arith, ints, to_z-of_z) in
    let same : to_z w64 (of_z w64 other) ≡ other = search (arith, ints, to_z-of_z) in
    rw c.in-OutOfOrder.is
    (IfOk-equal c.amount_words.result c.amount_words.new.text (c.args.text.now ++ (codes "OutOfOrder " ++ decimal_text 6 (to_z w128 (of_z w128 c.from.result)))) (c.args.text.now ++ (codes "OutOfOrder " ++ decimal_text 6 other)) c.amount_words.ensures
    (ap (λ n. c.args.text.now ++ (codes "OutOfOrder " ++ decimal_text 6 n)) (wide ∙ c.from.ensures ∙ same)))

pub returns-in-OverCapacity : goal.returns-in-OverCapacity
returns-in-OverCapacity c =
    let over = c.in-OverCapacity.over in
    let same : to_z w128 (of_z w128 over) ≡ over = search (arith, ints, to_z-of_z) in
    rw c.in-OverCapacity.is
    (IfOk-equal c.amount_words-in-OverCapacity.result c.amount_words-in-OverCapacity.new.text (c.args.text.now ++ (codes "OverCapacity " ++ decimal_text 9 (to_z w128 (of_z w128 over)))) (c.args.text.now ++ (codes "OverCapacity " ++ decimal_text 9 over)) c.amount_words-in-OverCapacity.ensures
    (ap (λ n. c.args.text.now ++ (codes "OverCapacity " ++ decimal_text 9 n)) same))
