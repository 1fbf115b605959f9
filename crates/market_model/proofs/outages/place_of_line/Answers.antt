use Rattle.std.proofs.Common.{rules, ◌≡◌, ◌<◌, ◌≤◌, ◌==◌, false, length, sym, ap, ◌∙◌, arith}
use Rattle.std.proofs.lemmas.Bool.{eq-eqb, ne_eqb}
use Rattle.std.proofs.lemmas.Option.{get_or_from_slice_get}
use borrow.Author.Count.{below_more}
use Rattle.market_model.specs.declared.participants.Line.{Line}
use Rattle.market_model.specs.Dispatch.{line_at}
use Rattle.market_model.proofs.LostLemmas.{place-first}
use Rattle.market_model.proofs.outages.place_of_line.Goals as goal

pub returns-then-at-row : goal.returns-then-at-row
returns-then-at-row c =
    let m = c.args.parts.now in
    let read : line_at m c.loop-place.place ≡ c.at.result.now = get_or_from_slice_get m.lines c.loop-place.place c.at.result.now _ c.at.ensures in
    let inside : c.loop-place.place < length m.lines = search rules in
    sym (place-first m c.args.row c.loop-place.place (omega (arith, inside)) c.loop-place.invariant (λ h. eq-eqb _ _ (ap (λ (l : Line). l.row) read ∙ c.if-at-row.true)))

pub loop-place-preserved : goal.loop-place-preserved
loop-place-preserved c =
    let m = c.args.parts.now in
    let read : line_at m c.loop-place.place ≡ c.at.result.now = get_or_from_slice_get m.lines c.loop-place.place c.at.result.now _ c.at.ensures in
    below_more (λ k. ((line_at m k).row == c.args.row) ≡ false) c.loop-place.place c.loop-place.invariant
    (ne_eqb _ _ (λ e. c.if-at-row.false (ap (λ (l : Line). l.row) (sym read) ∙ e)))

pub returns : goal.returns
returns c =
    let m = c.args.parts.now in
    let all : c.len.result ≡ length m.lines = search rules in
    let end : length m.lines ≤ c.loop-place.place = search rules in
    all ∙ sym (place-first m c.args.row (length m.lines) (omega arith) (λ k h. c.loop-place.invariant k (omega (arith, h, end))) (λ h. absurd (omega (arith, h))))
