-- Lists that are filled place by place.
use Rattle.std.specs.Prelude.{◌≡◌, ◌⊎◌, ℕ, ◌+◌, ◌<◌, ◌≤◌, pos, List, [], ◌∷◌, map, length, refl}
use Rattle.std.specs.List.{range_with_len}
use Rattle.std.proofs.Common.{zero, suc, arith, inl, inr, ap, ap₂, sym, ◌∙◌, get_or, set}
use Rattle.std.proofs.lemmas.Bool.{cases_lt}
use Rattle.std.proofs.lemmas.List.FromFn.{get_or-map-range_with_len}
use Rattle.std.proofs.lemmas.List.{get_or-map, get_or-set_same, get_or-set_other}
use Rattle.fraction_theory.specs.Fraction.{Fraction, whole}
use Rattle.market_model.specs.Dispatch.{places}

-- a number that was read by its place
pub put_read : {N : Type 0} (value : N → Fraction) (xs : List N) (k : ℕ) (x : N) → k < length xs → x ≡ get_or xs k x → value x ≡ get_or (map value xs) k (whole (pos 0))
put_read value xs k x h is = sym (get_or-map value xs k x (whole (pos 0)) h ∙ ap value (sym is))

-- a list of what is so at each place, read
pub filled_at : {Y : Type 0} (f : ℕ → Y) (ys : List Y) (n : ℕ) (d : Y) → ys ≡ map f (places n) → (k : ℕ) → k < n → get_or ys k d ≡ f k
filled_at f ys n d all k lt = ap (λ (zs : List _). get_or zs k d) all ∙ get_or-map-range_with_len f 0 n k k d lt (Prim.omega arith)

-- ---- lists by place
pub put_more : {N Y : Type 0} (value : N → Y) (f : ℕ → Y) (out : List N) (i : ℕ) (x : N) → i < length out → ((k : ℕ) (d : N) → k < i → value (get_or out k d) ≡ f k) → value x ≡ f i
    → (k : ℕ) (d : N) → k < i + 1 → value (get_or (set out i x) k d) ≡ f k
put_more value f out i x inside before here k d h = by (cases_lt k i)
  where
    by : (k < i) ⊎ (i ≤ k) → value (get_or (set out i x) k d) ≡ f k
    by (inl lt) = let other : k ≡ i → ⊥ = Prim.omega (arith, lt) in ap value (get_or-set_other out i k x d other) ∙ before k d lt
    by (inr ge) =
        let same : k ≡ i = Prim.omega (arith, h, ge) in
        ap (λ (n : ℕ). value (get_or (set out i x) n d)) same ∙ ap value (get_or-set_same out i x d inside) ∙ here ∙ ap f (sym same)

all_from : {N Y : Type 0} (value : N → Y) (f : ℕ → Y) (a : ℕ) (out : List N) → ((k : ℕ) (d : N) → k < length out → value (get_or out k d) ≡ f (a + k)) → map value out ≡ map f (range_with_len a (length out))
all_from value f a [] h = refl
all_from value f a (x ∷ xs) h =
    let first : a + 0 ≡ a = Prim.omega arith in
    ap₂ (λ y ys. y ∷ ys) (h 0 x (Prim.omega arith) ∙ ap f first)
    (all_from value f (a + 1) xs (λ k d lt. let e : a + suc k ≡ (a + 1) + k = Prim.omega arith in h (suc k) d (Prim.omega (arith, lt)) ∙ ap f e))

-- all places are put
pub all_put : {N Y : Type 0} (value : N → Y) (f : ℕ → Y) (out : List N) (i n : ℕ) → length out ≡ n → n ≤ i → ((k : ℕ) (d : N) → k < i → value (get_or out k d) ≡ f k) → map value out ≡ map f (places n)
all_put value f out i n count most h =
    all_from value f 0 out (λ k d lt. let e : k ≡ 0 + k = Prim.omega arith in h k d (Prim.omega (arith, lt, count, most)) ∙ ap f e) ∙ ap (λ (j : ℕ). map f (places j)) count

-- the same at each place
map_from : {X : Type 0} (f g : ℕ → X) (a n : ℕ) → ((k : ℕ) → k < a + n → f k ≡ g k) → map f (range_with_len a n) ≡ map g (range_with_len a n)
map_from f g a zero h = refl
map_from f g a (suc n) h = ap₂ (λ y ys. y ∷ ys) (h a (Prim.omega arith)) (map_from f g (a + 1) n (λ k lt. h k (Prim.omega (arith, lt))))

pub map_same : {X : Type 0} (f g : ℕ → X) (n : ℕ) → ((k : ℕ) → k < n → f k ≡ g k) → map f (places n) ≡ map g (places n)
map_same f g n h = map_from f g 0 n (λ k lt. h k (Prim.omega (arith, lt)))
