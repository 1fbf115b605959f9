-- The place of a block behind others of its unit and side.
use Rattle.std.specs.Prelude.{◌≡◌, ℕ, ◌+◌, ◌<◌, ◌≤◌, Bool, true, false, List, [], ◌∷◌, ◌++◌, filter, length, Some, refl, cond}
use Rattle.std.specs.List.{range_with_len, slice_get}
use Rattle.std.proofs.Common.{zero, suc, add-one, arith, ap, sym, ◌∙◌, length-append}
use Rattle.std.proofs.lemmas.List.Elements.{filter-append}
use Rattle.market_model.specs.Dispatch.{places}
use Rattle.market_model.proofs.MorePlaces.{places_more}

-- the places from one on
range_at : (a n k : ℕ) → k < n → (rest : List ℕ) × (range_with_len a n ≡ range_with_len a k ++ (a + k) ∷ rest)
range_at a zero k h = absurd (Prim.omega (arith, h))
range_at a (suc n) zero h = let e : a + 0 ≡ a = Prim.omega arith in (range_with_len (a + 1) n, ap (λ (i : ℕ). i ∷ range_with_len (a + 1) n) (sym e))
range_at a (suc n) (suc k) h =
    let more = range_at (a + 1) n k (Prim.omega (arith, h)) in
    let e : (a + 1) + k ≡ a + suc k = Prim.omega arith in
    (more.0, ap (λ is. a ∷ is) (more.1 ∙ ap (λ (i : ℕ). range_with_len (a + 1) k ++ i ∷ more.0) e))

places_at : (n k : ℕ) → k < n → (rest : List ℕ) × (places n ≡ places k ++ k ∷ rest)
places_at n k h = let r = range_at 0 n k h in let e : 0 + k ≡ k = Prim.omega arith in (r.0, r.1 ∙ ap (λ (i : ℕ). places k ++ i ∷ r.0) e)

slice_get-seam : (xs ys : List ℕ) (x : ℕ) → slice_get (xs ++ x ∷ ys) (length xs) ≡ Some x
slice_get-seam [] ys x = refl
slice_get-seam (y ∷ xs) ys x = slice_get-seam xs ys x

-- a place that passes a test stands behind those before it that pass
pub behind : (p : ℕ → Bool) (n i count : ℕ) → i < n → p i ≡ true → length (filter p (places i)) ≡ count → slice_get (filter p (places n)) count ≡ Some i
behind p n i count h passes before =
    let r = places_at n i h in
    let split : filter p (places n) ≡ filter p (places i) ++ i ∷ filter p r.0 =
    ap (filter p) r.1 ∙ filter-append p (places i) (i ∷ r.0) ∙ ap (λ (b : Bool). filter p (places i) ++ cond b (i ∷ filter p r.0) (filter p r.0)) passes in
    ap (λ (k : ℕ). slice_get (filter p (places n)) k) (sym before) ∙ ap (λ is. slice_get is (length (filter p (places i)))) split ∙ slice_get-seam (filter p (places i)) (filter p r.0) i

-- how many pass, with one place more
pub passed-more : (p : ℕ → Bool) (i : ℕ) → length (filter p (places (i + 1))) ≡ length (filter p (places i)) + cond (p i) 1 0
passed-more p i =
    ap (λ is. length (filter p is)) (places_more i) ∙ ap length (filter-append p (places i) (i ∷ [])) ∙ length-append (filter p (places i)) (filter p (i ∷ []))
    ∙ by (p i)
  where
    by : (b : Bool) → length (filter p (places i)) + length (cond b (i ∷ []) []) ≡ length (filter p (places i)) + cond b 1 0
    by true = refl
    by false = refl

pub passed-few : (p : ℕ → Bool) (i : ℕ) → length (filter p (places i)) ≤ i
passed-few p zero = Prim.omega arith
passed-few p (suc i) = by (p i) (Prim.rw add-one at (passed-more p i)) (passed-few p i)
  where
    by : (b : Bool) → length (filter p (places (suc i))) ≡ length (filter p (places i)) + cond b 1 0 → length (filter p (places i)) ≤ i → length (filter p (places (suc i))) ≤ suc i
    by true e h = Prim.omega (arith, e, h)
    by false e h = Prim.omega (arith, e, h)
