-- Lists that are made place by place.
use Rattle.std.proofs.Common.{◌≡◌, ◌≢◌, ◌⊎◌, ◌≤◌, ◌<◌, ◌+◌, ◌*◌, ◌∙◌, ℕ, Bool, true, false, cond, not, ◌==◌, List, [], ◌∷◌, ◌++◌, length, map, get_or, filter, flat_map, zero, suc, refl, sym, subst, ap, append-nil, arith, inl, inr, length-append, All, AllPairs, Contains}
use Rattle.std.specs.List.{range_with_len}
use Rattle.std.proofs.Math.ListN.{get_or-eq_default}
use Rattle.std.proofs.lemmas.Bool.Decides.{eqb_tells}
use Rattle.std.proofs.lemmas.Bool.{ne_eqb}
use Rattle.std.proofs.lemmas.List.{map-append}
use Rattle.std.proofs.lemmas.List.Concat.{flat_map-append}
use Rattle.std.proofs.lemmas.List.Elements.{All-append, All-nil}
use Rattle.std.proofs.lemmas.List.FromFn.{get_or-map-range_with_len, get_or-range_with_len, length-map-range_with_len, length-range_with_len}
use Rattle.std.proofs.lemmas.List.Kept.{AllPairs-cons}
use Rattle.market_model.specs.Dispatch.{places}
use Rattle.market_model.proofs.MorePlaces.{places_more}
use Rattle.market_model.proofs.PlainMarkets.{distinct_by_rise}

-- ---- one place more
pub map-more : {X : Type 0} (f : ℕ → X) (n : ℕ) → map f (places n) ++ f n ∷ [] ≡ map f (places (n + 1))
map-more f n = sym (ap (map f) (places_more n) ∙ map-append f (places n) (n ∷ []))

pub flat-more : {X : Type 0} (f : ℕ → List X) (n : ℕ) → flat_map f (places n) ++ f n ≡ flat_map f (places (n + 1))
flat-more f n = sym (ap (flat_map f) (places_more n) ∙ flat_map-append f (places n) (n ∷ []) ∙ ap (λ xs. flat_map f (places n) ++ xs) (append-nil (f n)))

-- ---- one element for each place
pub at-place : {X : Type 0} (f : ℕ → X) (n i : ℕ) (d : X) → i < n → get_or (map f (places n)) i d ≡ f i
at-place f n i d lt = get_or-map-range_with_len f 0 n i i d lt (omega arith)

pub places-at : (n i d : ℕ) → i < n → get_or (places n) i d ≡ i
places-at n i d lt = get_or-range_with_len 0 n i d lt ∙ (let e : 0 + i ≡ i = omega arith in e)

pub All-places : {X : Type 0} (P : X → Type 0) (f : ℕ → X) (n : ℕ) → ((i : ℕ) → i < n → P (f i)) → All P (map f (places n))
All-places P f n h i d lt =
    let in_range : i < n = omega (arith, lt, length-map-range_with_len f 0 n) in
    subst P (sym (at-place f n i d in_range)) (h i in_range)

-- what holds of each element and of the default holds at each place
pub at-any : {X : Type 0} (P : X → Type 0) (xs : List X) (d : X) → All P xs → P d → (i : ℕ) → P (get_or xs i d)
at-any {X} P xs d all past i = by (eqb_or (length xs) i)
  where
    eqb_or : (n k : ℕ) → (k < n) ⊎ (n ≤ k)
    eqb_or zero k = inr (omega arith)
    eqb_or (suc n) zero = inl (omega arith)
    eqb_or (suc n) (suc k) = elim (eqb_or n k) [ inl h ↦ inl (omega arith) | inr h ↦ inr (omega arith) ]

    by : (i < length xs) ⊎ (length xs ≤ i) → P (get_or xs i d)
    by (inl h) = all i d h
    by (inr h) = subst P (sym (get_or-eq_default xs d h)) past

-- ---- places rise
pub places-rise : (n : ℕ) → AllPairs (λ a b. a < b) (places n)
places-rise n i j d p q =
    let j' : j < n = omega (arith, q, length-range_with_len 0 n) in
    let low : get_or (places n) i d ≡ i = places-at n i d (omega (arith, p, j')) in
    let high : get_or (places n) j d ≡ j = places-at n j d j' in
    omega (arith, p, low, high)

pub numbers-rise : (n : ℕ) → AllPairs (λ a b. a < b) (map (λ i. i + 1) (places n))
numbers-rise n i j d p q =
    let j' : j < n = omega (arith, q, length-map-range_with_len (λ k. k + 1) 0 n) in
    let low : get_or (map (λ k. k + 1) (places n)) i d ≡ i + 1 = at-place (λ k. k + 1) n i d (omega (arith, p, j')) in
    let high : get_or (map (λ k. k + 1) (places n)) j d ≡ j + 1 = at-place (λ k. k + 1) n j d j' in
    omega (arith, p, low, high)

pub numbers-differ : (n : ℕ) → AllPairs (λ a b. a ≢ b) (map (λ i. i + 1) (places n))
numbers-differ n = distinct_by_rise (map (λ i. i + 1) (places n)) (numbers-rise n)

pub Contains-place : (n i : ℕ) → i < n → Contains (places n) i
Contains-place n i lt = (i, omega (arith, lt, length-range_with_len 0 n), places-at n i i lt)

pub place-below : (n i : ℕ) → Contains (places n) i → i < n
place-below n i (k, lt, at) =
    let k' : k < n = omega (arith, lt, length-range_with_len 0 n) in
    let is : get_or (places n) k i ≡ k = places-at n k i k' in
    omega (arith, k', is, at)

-- ---- several elements for each place
pub All-flat : {X : Type 0} (P : X → Type 0) (f : ℕ → List X) (a n : ℕ) → ((i : ℕ) → a ≤ i → i < a + n → All P (f i)) → All P (flat_map f (range_with_len a n))
All-flat P f a zero h = All-nil P
All-flat P f a (suc n) h = All-append P (f a) (flat_map f (range_with_len (a + 1) n)) (h a (omega arith) (omega arith)) (All-flat P f (a + 1) n (λ i p q. h i (omega (arith, p)) (omega (arith, q))))

pub length-flat : {X : Type 0} (f : ℕ → List X) (a n c : ℕ) → ((i : ℕ) → a ≤ i → i < a + n → length (f i) ≡ c) → length (flat_map f (range_with_len a n)) ≡ n * c
length-flat f a zero c h = let e : 0 ≡ 0 * c = omega arith in e
length-flat f a (suc n) c h =
    let here : length (f a) ≡ c = h a (omega arith) (omega arith) in
    let rest : length (flat_map f (range_with_len (a + 1) n)) ≡ n * c = length-flat f (a + 1) n c (λ i p q. h i (omega (arith, p)) (omega (arith, q))) in
    let both : length (f a ++ flat_map f (range_with_len (a + 1) n)) ≡ length (f a) + length (flat_map f (range_with_len (a + 1) n)) = length-append (f a) (flat_map f (range_with_len (a + 1) n)) in
    omega (arith, here, rest, both)

pub AllPairs-append : {X : Type 0} (R : X → X → Type 0) (xs ys : List X) → AllPairs R xs → AllPairs R ys → All (λ x. All (R x) ys) xs → AllPairs R (xs ++ ys)
AllPairs-append R [] ys a b c = b
AllPairs-append R (x ∷ xs) ys a b c =
    AllPairs-cons R x (xs ++ ys)
    (All-append (R x) xs ys (λ k d lt. a zero (suc k) d (omega arith) (omega (arith, lt))) (c zero x (omega arith)))
    (AllPairs-append R xs ys (λ i j d p q. a (suc i) (suc j) d (omega (arith, p)) (omega (arith, q))) b (λ k d lt. c (suc k) d (omega (arith, lt))))

-- ---- two elements for each place
module _ {X : Type 0} (f g : ℕ → X) where
  abbrev pub pairs : ℕ → ℕ → List X
  pairs a n = flat_map (λ i. f i ∷ g i ∷ []) (range_with_len a n)

  pub first-of : (a n k j : ℕ) (d : X) → k < n → a + k ≡ j → get_or (pairs a n) (2 * k) d ≡ f j
  first-of a zero k j d lt e = absurd (omega (arith, lt))
  first-of a (suc n) zero j d lt e = ap f (let h : a ≡ j = omega (arith, e) in h)
  first-of a (suc n) (suc k) j d lt e =
      let up : 2 * suc k ≡ suc (suc (2 * k)) = omega arith in
      ap (λ (w : ℕ). get_or (pairs a (suc n)) w d) up ∙ first-of (a + 1) n k j d (omega (arith, lt)) (omega (arith, e))

  pub second-of : (a n k j : ℕ) (d : X) → k < n → a + k ≡ j → get_or (pairs a n) (2 * k + 1) d ≡ g j
  second-of a zero k j d lt e = absurd (omega (arith, lt))
  second-of a (suc n) zero j d lt e = ap g (let h : a ≡ j = omega (arith, e) in h)
  second-of a (suc n) (suc k) j d lt e =
      let up : 2 * suc k + 1 ≡ suc (suc (2 * k + 1)) = omega arith in
      ap (λ (w : ℕ). get_or (pairs a (suc n)) w d) up ∙ second-of (a + 1) n k j d (omega (arith, lt)) (omega (arith, e))

-- the place that a number of the doubled places belongs to
pub halves : (n w : ℕ) → w < 2 * n → (k : ℕ) × (k < n) × ((w ≡ 2 * k) ⊎ (w ≡ 2 * k + 1))
halves zero w lt = absurd (omega (arith, lt))
halves (suc n) zero lt = (zero, omega arith, inl (omega arith))
halves (suc n) (suc zero) lt = (zero, omega arith, inr (omega arith))
halves (suc n) (suc (suc w)) lt = let (k, below, is) = halves n w (omega (arith, lt)) in (suc k, omega (arith, below), elim is [ inl e ↦ inl (omega (arith, e)) | inr e ↦ inr (omega (arith, e)) ])

-- ---- counting
pub count-all : (p : ℕ → Bool) (a n : ℕ) → ((l : ℕ) → a ≤ l → l < a + n → p l ≡ true) → length (filter p (range_with_len a n)) ≡ n
count-all p a zero h = refl
count-all p a (suc n) h =
    let rest : length (filter p (range_with_len (a + 1) n)) ≡ n = count-all p (a + 1) n (λ l u v. h l (omega (arith, u)) (omega (arith, v))) in
    ap (λ (b : Bool). length (cond b (a ∷ filter p (range_with_len (a + 1) n)) (filter p (range_with_len (a + 1) n)))) (h a (omega arith) (omega arith))
    ∙ ap suc rest

-- all but one
module _ (p : ℕ → Bool) (lost : ℕ) where
  abbrev kept_from : ℕ → ℕ → List ℕ
  kept_from a n = filter p (range_with_len a n)

  abbrev OthersPass : ℕ → ℕ → Type 0
  OthersPass a n = (l : ℕ) → a ≤ l → l < a + n → p l ≡ not (l == lost)

  count-step : (a n : ℕ) (b : Bool) → OthersPass a (suc n) → a == lost ≡ b → length (kept_from a (suc n)) ≡ length (cond (not b) (a ∷ kept_from (a + 1) n) (kept_from (a + 1) n))
  count-step a n b h e = ap (λ (t : Bool). length (cond t (a ∷ kept_from (a + 1) n) (kept_from (a + 1) n))) (h a (omega arith) (omega arith) ∙ ap not e)

  behind : (a n : ℕ) → OthersPass a (suc n) → a ≡ lost → (l : ℕ) → a + 1 ≤ l → l < (a + 1) + n → p l ≡ true
  behind a n h e l u v = h l (omega (arith, u)) (omega (arith, v)) ∙ ap not (ne_eqb l lost (λ s. omega (arith, s, e, u)))

  pub count-others : (a n : ℕ) → OthersPass a n → a ≤ lost → lost < a + n → length (kept_from a n) + 1 ≡ n
  count-others a zero h low high = absurd (omega (arith, low, high))
  count-others a (suc n) h low high = by (eqb_tells a lost) (λ further. count-others (a + 1) n (λ l u v. h l (omega (arith, u)) (omega (arith, v))) (omega (arith, low, further)) (omega (arith, high)))
    where
      by : ((a == lost ≡ true) × (a ≡ lost)) ⊎ ((a == lost ≡ false) × (a ≢ lost)) → (a ≢ lost → length (kept_from (a + 1) n) + 1 ≡ n) → length (kept_from a (suc n)) + 1 ≡ suc n
      by (inl t) fewer =
          let all : length (kept_from (a + 1) n) ≡ n = count-all p (a + 1) n (behind a n h t.1) in
          let here : length (kept_from a (suc n)) ≡ length (kept_from (a + 1) n) = count-step a n true h t.0 in
          omega (arith, here, all)
      by (inr t) fewer =
          let rest : length (kept_from (a + 1) n) + 1 ≡ n = fewer t.1 in
          let here : length (kept_from a (suc n)) ≡ suc (length (kept_from (a + 1) n)) = count-step a n false h t.0 in
          omega (arith, here, rest)
