-- Sums of terms by place, one place more.
use Rattle.std.specs.Prelude.{◌≡◌, ℕ, ◌+◌, ◌<◌, pos, List, [], ◌∷◌, ◌++◌, map, filter, length, refl, Bool, true, false, if◌then◌else◌}
use Rattle.std.proofs.Common.{zero, suc, ap, sym, ◌∙◌, arith, get_or, add-one, take}
use Rattle.std.specs.List.{range_with_len}
use Rattle.std.proofs.lemmas.List.{map-append, take_more}
use Rattle.std.proofs.lemmas.List.Elements.{filter-append}
use Rattle.fraction_theory.specs.Fraction.{Fraction, whole, ◌+ℚ◌}
use Rattle.fraction_theory.specs.Sums.{sum_by, Term, term_value, total}
use Rattle.fraction_theory.proofs.FieldLaws.{+ℚ_nil}
use Rattle.fraction_theory.proofs.SumLaws.{sum_by-append, total-append}
use Rattle.market_model.specs.Dispatch.{places}

range_suc : (a n : ℕ) → range_with_len a (suc n) ≡ range_with_len a n ++ (a + n) ∷ []
range_suc a zero = let e : a + 0 ≡ a = Prim.omega arith in ap (λ (k : ℕ). k ∷ []) (sym e)
range_suc a (suc n) =
    let e : (a + 1) + n ≡ a + suc n = Prim.omega arith in
    ap (λ t. a ∷ t) (range_suc (a + 1) n ∙ ap (λ (k : ℕ). range_with_len (a + 1) n ++ k ∷ []) e)

pub places_more : (n : ℕ) → places (n + 1) ≡ places n ++ n ∷ []
places_more n = let e : 0 + n ≡ n = Prim.omega arith in Prim.rw add-one (range_suc 0 n ∙ ap (λ (k : ℕ). range_with_len 0 n ++ k ∷ []) e)

-- the sum over a list's first elements, with one more
pub sum_by_more : {T : Type 0} (f : T → Fraction) (xs : List T) (i : ℕ) (x : T) → i < length xs → sum_by f (take (i + 1) xs) ≡ sum_by f (take i xs) +ℚ f (get_or xs i x)
sum_by_more f xs i x h = ap (sum_by f) (take_more xs i x h) ∙ sum_by-append f (take i xs) (get_or xs i x ∷ []) ∙ ap (λ r. sum_by f (take i xs) +ℚ r) (+ℚ_nil (f (get_or xs i x)))

total_push : (ts : List Term) (t : Term) → total (ts ++ t ∷ []) ≡ total ts +ℚ term_value t
total_push ts t = total-append ts (t ∷ []) ∙ ap (λ r. total ts +ℚ r) (+ℚ_nil (term_value t))

-- the terms of all places
pub total-places_more : (f : ℕ → Term) (n : ℕ) → total (map f (places (n + 1))) ≡ total (map f (places n)) +ℚ term_value (f n)
total-places_more f n = ap (λ ps. total (map f ps)) (places_more n) ∙ ap total (map-append f (places n) (n ∷ [])) ∙ total_push (map f (places n)) (f n)

-- the terms of the places that pass a test
pub total-filter_more : (p : ℕ → Bool) (f : ℕ → Term) (n : ℕ)
    → total (map f (filter p (places (n + 1)))) ≡ total (map f (filter p (places n))) +ℚ (if p n then term_value (f n) else whole (pos 0))
total-filter_more p f n =
    ap (λ ps. total (map f (filter p ps))) (places_more n)
    ∙ ap (λ ps. total (map f ps)) (filter-append p (places n) (n ∷ []))
    ∙ by_test (p n) refl
  where
    by_test : (b : Bool) → p n ≡ b → total (map f (filter p (places n) ++ filter p (n ∷ []))) ≡ total (map f (filter p (places n))) +ℚ (if b then term_value (f n) else whole (pos 0))
    by_test true e = Prim.rw e (ap total (map-append f (filter p (places n)) (n ∷ [])) ∙ total_push (map f (filter p (places n))) (f n))
    by_test false e = Prim.rw e (ap total (map-append f (filter p (places n)) []) ∙ total-append (map f (filter p (places n))) [])
