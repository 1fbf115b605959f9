use Rattle.std.proofs.Common.{◌≡◌, ◌∙◌, ◌++◌, ◌∷◌, [], ℕ, List, ap, arith, append_assoc}
use Rattle.std.proofs.lemmas.Result.{IfOk-weaker}
use Rattle.exact_fraction.specs.Written.{last_digits}
use Rattle.line_text.proofs.DecimalLemmas.{trimmed-zero, trimmed-digits}
use Rattle.line_text.proofs.decimals.+put_places.Goals as goal

pub returns-then-number-eq0 : goal.returns-then-number-eq0
returns-then-number-eq0 fuel c =
    IfOk-weaker c.put_places.result _ _ (λ _ h. h ∙ ap (λ (t : List ℕ). c.args.text.now ++ t) (trimmed-zero c.args.count c.args.number (omega (arith, c.if-count-eq0.false)) c.if-number-eq0.true)) c.put_places.ensures

pub returns-in_ok-word : goal.returns-in_ok-word
returns-in_ok-word fuel c =
    let old = c.args.text.now in
    let point : c.word.new.self ≡ old ++ 46 ∷ [] = c.in_ok-word.ensures in
    IfOk-weaker c.put_last.result _ _ (λ _ h. h ∙ ap (λ (t : List ℕ). t ++ last_digits c.args.count c.args.number) point
    ∙ append_assoc old (46 ∷ []) (last_digits c.args.count c.args.number)
    ∙ ap (λ (t : List ℕ). old ++ t) (trimmed-digits c.args.count c.args.number (omega (arith, c.if-count-eq0.false)) c.if-number-eq0.false)) c.put_last.ensures
