use Rattle.std.proofs.Common.{◌≡◌, ◌∙◌, sym, ap, [], ◌∷◌, Some, None, true, false, refl}
use Rattle.std.specs.List.{find}
use Rattle.std.specs.Option.{option_or}
use Rattle.std.proofs.lemmas.List.Folds.{find-append}
use Rattle.factor_residuals.specs.Residuals.{exceeds}
use Rattle.factor_residuals.proofs.spots.over_with.Goals as goal

pub returns-in-Some : goal.returns-in-Some
returns-in-Some c = λ spots is. let last = c.args.spot ∷ [] in
    let found : Some c.in-Some.over ≡ find exceeds spots = sym c.in-Some.is ∙ is in
    ap (λ o. option_or o (find exceeds last)) found ∙ sym (find-append exceeds spots last)

pub returns-in-None : goal.returns-in-None
returns-in-None c = λ spots is. let last = c.args.spot ∷ [] in
    let none : None ≡ find exceeds spots = sym c.in-None.is ∙ is in
    let here : exceeds c.args.spot ≡ true = sym c.exceeds.ensures ∙ c.if-exceeds.true in
    let found : Some c.args.spot ≡ find exceeds last = rw here refl in
    found ∙ ap (λ o. option_or o (find exceeds last)) none ∙ sym (find-append exceeds spots last)

pub returns-in-None-2 : goal.returns-in-None-2
returns-in-None-2 c = λ spots is. let last = c.args.spot ∷ [] in
    let none : None ≡ find exceeds spots = sym c.in-None-2.is ∙ is in
    let here : exceeds c.args.spot ≡ false = sym c.exceeds.ensures ∙ c.if-exceeds.false in
    let found : None ≡ find exceeds last = rw here refl in
    found ∙ ap (λ o. option_or o (find exceeds last)) none ∙ sym (find-append exceeds spots last)
