use Rattle.std.proofs.Common.{◌≡◌, ◌∙◌, ◌++◌, ℤ, List, ℕ, IfOk, ap, subst, w64}
use Rattle.std.specs.Prelude.{codes}
use Rattle.std.proofs.lemmas.Int.{to_z-of_z}
use Rattle.line_text.specs.Decimals.{decimal_text}
use Rattle.market_data.specs.Scales.{mw_places}
use Rattle.report_text.proofs.ReserveLemmas.{need_grown, need_unlisted}
use Rattle.report_text.proofs.reserve.need_line.Goals as goal

pub returns-then-not-listed : goal.returns-then-not-listed
returns-then-not-listed g c = need_unlisted c.args.listed (g.N.Exact.value c.args.price) c.args.text.now c.args.need c.if-not-listed.true

pub returns : goal.returns
returns g c =
    subst (λ (text : List ℕ). IfOk c.word.result (λ x. c.word.new.self ≡ text))
    (need_grown c.args.listed (g.N.Exact.value c.args.price) c.args.text.now c.args.need c.named.new.self c.need_words.new.text c.if-not-listed.false c.in_ok-named.ensures
    (c.in_ok-need_words.ensures ∙ ap (λ (n : ℤ). c.named.new.self ++ codes " need " ++ decimal_text mw_places n) (to_z-of_z w64 c.args.need c.ranges.need)))
    c.word.ensures
