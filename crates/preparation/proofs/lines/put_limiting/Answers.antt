use Rattle.std.proofs.Common.{◌++◌, ◌∙◌, ap, sym, codes}
use Rattle.std.proofs.lemmas.Result.{IfOk-weaker}
use Rattle.preparation.specs.Lines.{rating_letter, share_text}
use Rattle.preparation.proofs.LineLemmas.{join, limiting-some}
use Rattle.preparation.proofs.lines.put_limiting.Goals as goal

pub returns : goal.returns
returns c =
    let t0 = c.args.text.now in
    let t1 = c.word.new.self in
    let t2 = c.word-2.new.self in
    let t3 = c.word-3.new.self in
    let t4 = c.put_share.new.text in
    let letter = rating_letter c.args.rating in
    let share = share_text c.args.count c.args.total in
    IfOk-weaker c.put_share.result _ _
    (λ _ e. join t0 t1 t4 (codes "post-rating ") (letter ++ (codes " " ++ share)) c.in_ok-word.ensures
    (join t1 t2 t4 letter (codes " " ++ share) (c.in_ok-word-2.ensures ∙ ap (λ l. t1 ++ l) c.letter.ensures) (join t2 t3 t4 (codes " ") share c.in_ok-word-3.ensures e))
    ∙ ap (λ l. t0 ++ l) (sym (limiting-some c.args.rating c.args.count c.args.total c.if-count-eq0.false)))
    c.put_share.ensures
