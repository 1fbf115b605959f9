use Rattle.std.proofs.Common.{◌++◌, ◌∙◌, ap₂, codes, decimal}
use Rattle.std.specs.List.{flat_map}
use Rattle.std.proofs.lemmas.Result.{IfOk-weaker}
use Rattle.preparation.specs.Lines.{no_steps_line, rounded_words}
use Rattle.preparation.proofs.LineLemmas.{join}
use Rattle.preparation.proofs.lines.put_steps.Goals as goal

pub returns : goal.returns
returns c =
    let t0 = c.args.text.now in
    let t1 = c.put_counted.new.text in
    let t2 = c.put_counted-2.new.text in
    let t3 = c.put_rounded.new.text in
    let t4 = c.word.new.self in
    let t5 = c.put_no_steps.new.text in
    let steps = codes "offers " ++ decimal c.len.result ++ codes " steps of " in
    let units = decimal c.ranged_count.result ++ codes " units" in
    let rounded = rounded_words c.args.offers.now.rounded in
    let others = flat_map no_steps_line c.args.units.now in
    IfOk-weaker c.put_no_steps.result _ _
    (λ _ e. join t0 t1 t5 steps (units ++ (rounded ++ (codes "\n" ++ others))) c.in_ok-put_counted.ensures
    (join t1 t2 t5 units (rounded ++ (codes "\n" ++ others)) c.in_ok-put_counted-2.ensures
    (join t2 t3 t5 rounded (codes "\n" ++ others) c.in_ok-put_rounded.ensures (join t3 t4 t5 (codes "\n") others c.in_ok-word.ensures e)))
    ∙ ap₂ (λ a b. t0 ++ (codes "offers " ++ decimal a ++ codes " steps of " ++ (decimal b ++ codes " units" ++ (rounded ++ (codes "\n" ++ others))))) c.len.ensures c.ranged_count.ensures)
    c.put_no_steps.ensures
