-- A list whose items were written to is as they were left.
use Rattle.std.specs.Prelude.{◌≡◌, List, [], ◌∷◌, ◌++◌, length, refl, take, drop}
use Rattle.std.proofs.Common.{ap, sym, ◌∙◌}
use Rattle.plain_list.specs.Lending.{with_items}

take_front : {X : Type 0} (xs ys : List X) → take (length xs) (xs ++ ys) ≡ xs
take_front [] ys = refl
take_front (x ∷ xs) ys = ap (λ zs. x ∷ zs) (take_front xs ys)

pub all_written : {X : Type 0} (xs items : List X) → length items ≡ length xs → with_items xs items ≡ items
all_written xs items e = ap (λ n. take n (items ++ drop (length items) xs)) (sym e) ∙ take_front items (drop (length items) xs)
