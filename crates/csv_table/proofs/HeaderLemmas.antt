-- The cells of a header in one line.
use Rattle.std.proofs.Common.{◌≡◌, refl, ap, sym, List, ℕ, [], ◌∷◌, ◌++◌, map, Bor}
use Rattle.std.specs.List.{join_by}
use Rattle.std.proofs.lemmas.List.Folds.{flat_map-map}

pub join-cells : (separator : List ℕ) (names : List (Bor (List ℕ))) → join_by (λ name. name.now) separator names ≡ join_by (λ cell. cell) separator (map (λ name. name.now) names)
join-cells separator [] = refl
join-cells separator (name ∷ names) = ap (λ rest. name.now ++ rest) (sym (flat_map-map (λ cell. separator ++ cell) (λ name. name.now) names))
