use Rattle.std.proofs.Common.{◌≡◌, ◌∙◌, ◌++◌, ◌∷◌, [], ℕ, List, ap, arith, append_assoc, ◌-◌, ◌/◌, ◌%◌, ◌+◌}
use Rattle.std.proofs.lemmas.Result.{IfOk-weaker}
use Rattle.exact_fraction.specs.Written.{last_digits}
use Rattle.line_text.proofs.DecimalLemmas.{last-step}
use Rattle.line_text.proofs.decimals.+put_last.Goals as goal

pub returns : goal.returns
returns fuel c =
    let k = c.args.count in
    let n = c.args.number in
    let old = c.args.text.now in
    let digit : List ℕ = (48 + n % 10) ∷ [] in
    let front : c.put_last.new.text ≡ old ++ last_digits (k - 1) (n / 10) = c.in_ok-put_last.ensures in
    let last : c.as_slice.result.now ≡ digit = c.as_slice.ensures in
    IfOk-weaker c.word.result _ _ (λ _ h. h ∙ ap (λ (t : List ℕ). t ++ c.as_slice.result.now) front ∙ ap (λ (d : List ℕ). (old ++ last_digits (k - 1) (n / 10)) ++ d) last
    ∙ append_assoc old (last_digits (k - 1) (n / 10)) digit ∙ ap (λ (t : List ℕ). old ++ t) (last-step k n (omega (arith, c.if-count-eq0.false)))) c.word.ensures
