-- Lists of places that rise and have the same members are one.
use Rattle.std.proofs.Common.{◌≡◌, ◌⊎◌, ◌<◌, refl, sym, arith, ℕ, zero, suc, List, [], ◌∷◌, inl, inr}
use Rattle.std.specs.Prelude.{AllPairs, Contains}
use Rattle.std.proofs.Math.Logic.{⊎_elim}

abbrev Rise : List ℕ → Type 0
Rise xs = AllPairs (λ a b. a < b) xs

-- the first is below the others
first-below : (x : ℕ) (xs : List ℕ) (y : ℕ) → Rise (x ∷ xs) → Contains xs y → x < y
first-below x xs y rise (k, within, at) = let up = rise 0 (suc k) y (omega arith) (omega arith) in omega (arith, up, at)

rise-tail : (x : ℕ) (xs : List ℕ) → Rise (x ∷ xs) → Rise xs
rise-tail x xs rise i j d lt within = rise (suc i) (suc j) d (omega arith) (omega arith)

contains-first : (x : ℕ) (xs : List ℕ) → Contains (x ∷ xs) x
contains-first x xs = (0, omega arith, refl)

contains-next : (x : ℕ) (xs : List ℕ) (y : ℕ) → Contains xs y → Contains (x ∷ xs) y
contains-next x xs y (k, within, at) = (suc k, omega arith, at)

contains-cases : (x : ℕ) (xs : List ℕ) (y : ℕ) → Contains (x ∷ xs) y → (x ≡ y) ⊎ Contains xs y
contains-cases x xs y (zero, within, at) = inl at
contains-cases x xs y (suc k, within, at) = inr (k, omega arith, at)

pub members-once : (xs ys : List ℕ) → Rise xs → Rise ys → ((p : ℕ) → Contains xs p → Contains ys p) → ((p : ℕ) → Contains ys p → Contains xs p) → xs ≡ ys
members-once [] [] up up' to from = refl
members-once [] (y ∷ ys) up up' to from = let (k, within, at) = from y (contains-first y ys) in absurd (omega (arith, within))
members-once (x ∷ xs) [] up up' to from = let (k, within, at) = to x (contains-first x xs) in absurd (omega (arith, within))
members-once (x ∷ xs) (y ∷ ys) up up' to from =
    let same : x ≡ y =
    ⊎_elim (λ e. sym e)
    (λ far. ⊎_elim (λ e. e) (λ far'. absurd (let a = first-below y ys x up' far in let b = first-below x xs y up far' in omega (arith, a, b)))
    (contains-cases x xs y (from y (contains-first y ys))))
    (contains-cases y ys x (to x (contains-first x xs))) in
    let inside : (p : ℕ) → Contains xs p → Contains ys p =
    λ p here. ⊎_elim (λ (e : y ≡ p). absurd (let a = first-below x xs p up here in omega (arith, a, e, same))) (λ there. there) (contains-cases y ys p (to p (contains-next x xs p here))) in
    let outside : (p : ℕ) → Contains ys p → Contains xs p =
    λ p there. ⊎_elim (λ (e : x ≡ p). absurd (let a = first-below y ys p up' there in omega (arith, a, e, same))) (λ here. here) (contains-cases x xs p (from p (contains-next y ys p there))) in
    let rest = members-once xs ys (rise-tail x xs up) (rise-tail y ys up') inside outside in
    rw (same, rest) refl
