use Rattle.std.proofs.Common.{◌≡◌, List, ℕ, IfOk, subst}
use Rattle.report_text.proofs.ReserveLemmas.{plain_grown, plain_unlisted}
use Rattle.report_text.proofs.reserve.reserve_line.Goals as goal

pub returns-then-not-listed : goal.returns-then-not-listed
returns-then-not-listed g c = plain_unlisted c.args.listed (g.N.Exact.value c.args.price) c.args.text.now c.if-not-listed.true

pub returns : goal.returns
returns g c =
    subst (λ (text : List ℕ). IfOk c.word.result (λ x. c.word.new.self ≡ text))
    (plain_grown c.args.listed (g.N.Exact.value c.args.price) c.args.text.now c.named.new.self c.if-not-listed.false c.in_ok-named.ensures)
    c.word.ensures
