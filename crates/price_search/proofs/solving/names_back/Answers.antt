use Rattle.std.proofs.Common.{◌≡◌, ◌<◌, ◌+◌, ◌-◌, ◌∙◌, ◌++◌, ◌∷◌, [], ℕ, List, ap, arith, get_or, length, reverse, sym, take}
use Rattle.std.proofs.lemmas.List.{get_or-reverse, length-reverse, take_all, take_more}
use Rattle.price_search.proofs.solving.names_back.Goals as goal

-- one name more from behind
name_more : (ns old new : List ℕ) (k w count : ℕ) → k < count → count ≡ length ns → old ≡ take k (reverse ns) → w ≡ get_or ns (count - 1 - k) 0 → new ≡ old ++ w ∷ [] → new ≡ take (k + 1) (reverse ns)
name_more ns old new k w count lt size before is more =
    let inside : k < length ns = omega (arith, lt, size) in
    let within : k < length (reverse ns) = omega (arith, inside, length-reverse ns) in
    let named : w ≡ get_or (reverse ns) k 0 =
    is ∙ ap (λ (n : ℕ). get_or ns (n - 1 - k) 0) size ∙ sym (get_or-reverse ns k 0 inside) in
    more ∙ ap (λ (xs : List ℕ). xs ++ w ∷ []) before ∙ ap (λ (x : ℕ). take k (reverse ns) ++ x ∷ []) named ∙ sym (take_more (reverse ns) k 0 within)

pub loop-place-preserved : goal.loop-place-preserved
loop-place-preserved g c =
    let count = c.column_count-count in
    name_more c.args.dict.now.columns c.loop-place.names c.push.new.self c.loop-place.place c.column_name.result count.result c.loop-place-test.true
    (omega (arith, count.ensures, c.requires.sound.column_count)) c.loop-place.invariant c.column_name.ensures c.in_ok-push.ensures

pub returns : goal.returns
returns g c =
    let ns : List ℕ = c.args.dict.now.columns in
    c.loop-place.invariant
    ∙ take_all c.loop-place.place (reverse ns) (omega (arith, c.loop-place-test.false, c.column_count-count.ensures, c.requires.sound.column_count, length-reverse ns))
