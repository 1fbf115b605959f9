use Rattle.std.proofs.Common.{◌++◌, ◌∙◌, ap₂, codes, decimal, length}
use Rattle.std.proofs.lemmas.Result.{IfOk-weaker}
use Rattle.preparation.specs.Lines.{share_text}
use Rattle.preparation.proofs.LineLemmas.{join}
use Rattle.preparation.proofs.lines.put_limited.Goals as goal

pub returns : goal.returns
returns c =
    let t0 = c.args.text.now in
    let t1 = c.put_counted.new.text in
    let t2 = c.number.new.self in
    let t3 = c.word.new.self in
    let t4 = c.put_share.new.text in
    let total = length c.args.branches.now in
    let base = codes "ratings base " ++ decimal c.limited_count.result ++ codes " of " in
    let post = share_text c.limited_count-2.result total in
    IfOk-weaker c.put_share.result _ _
    (λ _ e. join t0 t1 t4 base (decimal total ++ (codes " post " ++ post)) c.in_ok-put_counted.ensures
    (join t1 t2 t4 (decimal total) (codes " post " ++ post) c.in_ok-number.ensures (join t2 t3 t4 (codes " post ") post c.in_ok-word.ensures e))
    ∙ ap₂ (λ a b. t0 ++ (codes "ratings base " ++ decimal a ++ codes " of " ++ (decimal total ++ (codes " post " ++ share_text b total)))) c.limited_count.ensures c.limited_count-2.ensures)
    c.put_share.ensures
