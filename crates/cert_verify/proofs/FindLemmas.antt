-- The first that a test finds, as a loop comes to it.
use Rattle.std.specs.Prelude.{◌≡◌, ℕ, ◌+◌, ◌<◌, ◌≤◌, Bool, true, false, cond, List, [], ◌∷◌, ◌++◌, length, map, Some, None, option_map, refl}
use Rattle.std.specs.List.{find}
use Rattle.std.specs.Option.{option_or}
use Rattle.std.proofs.Common.{zero, suc, arith, ap, sym, subst, ◌∙◌, get_or, take}
use Rattle.std.proofs.lemmas.List.{take_more}
use Rattle.std.proofs.lemmas.List.Folds.{find-append}
use Rattle.market_model.specs.Dispatch.{places}
use Rattle.market_model.proofs.MorePlaces.{places_more}
use Rattle.market_model.proofs.SumSteps.{places_at}
use Rattle.cert_verify.specs.declared.verdicts.Reason.{Reason}
use Rattle.cert_verify.specs.Reasons.{of_first}

-- ---- in a list with parts
none_before : {X : Type 0} (p : X → Bool) (xs ys : List X) → find p xs ≡ None → find p (xs ++ ys) ≡ find p ys
none_before p xs ys e = find-append p xs ys ∙ ap (λ o. option_or o (find p ys)) e

found_first : {X : Type 0} (p : X → Bool) (x : X) (ys : List X) → p x ≡ true → find p (x ∷ ys) ≡ Some x
found_first p x ys t = ap (λ (b : Bool). cond b (Some x) (find p ys)) t

none_one : {X : Type 0} (p : X → Bool) (x : X) → p x ≡ false → find p (x ∷ []) ≡ None
none_one p x t = ap (λ (b : Bool). cond b (Some x) None) t

-- ---- element by element, where each stands for another
module _ {X Y : Type 0} (because : Y → Reason) (p : Y → Bool) (f : X → Y) where
  abbrev test : X → Bool
  test x = p (f x)

  of_mapped : (xs : List X) → of_first because p (map f xs) ≡ of_first (λ x. because (f x)) test xs
  of_mapped [] = refl
  of_mapped (x ∷ xs) = by (p (f x)) (of_mapped xs)
    where
      by : (b : Bool) → option_map because (find p (map f xs)) ≡ option_map (λ z. because (f z)) (find test xs)
          → option_map because (cond b (Some (f x)) (find p (map f xs))) ≡ option_map (λ z. because (f z)) (cond b (Some x) (find test xs))
      by true e = refl
      by false e = e

  found : (xs : List X) (i : ℕ) (x : X) → find test (take i xs) ≡ None → i < length xs → x ≡ get_or xs i x → test x ≡ true → find test xs ≡ Some x
  found [] i x e lt at t = absurd (Prim.omega (arith, lt))
  found (y ∷ ys) zero x e lt at t = found_first test y ys (subst (λ z. test z ≡ true) at t) ∙ ap (λ z. Some z) (sym at)
  found (y ∷ ys) (suc i) x e lt at t = by (test y) e (λ d. found ys i x d (Prim.omega (arith, lt)) at t)
    where
      by : (b : Bool) → cond b (Some y) (find test (take i ys)) ≡ None → (find test (take i ys) ≡ None → find test ys ≡ Some x) → cond b (Some y) (find test ys) ≡ Some x
      by true d more = absurd Prim.cc
      by false d more = more d

  pub item_here : (xs : List X) (i : ℕ) (x : X) → find test (take i xs) ≡ None → i < length xs → x ≡ get_or xs i x → test x ≡ true → Some (because (f x)) ≡ of_first because p (map f xs)
  item_here xs i x e lt at t = sym (of_mapped xs ∙ ap (option_map (λ z. because (f z))) (found xs i x e lt at t))

  pub item_more : (xs : List X) (i : ℕ) (x : X) → find test (take i xs) ≡ None → i < length xs → x ≡ get_or xs i x → test x ≡ false → find test (take (i + 1) xs) ≡ None
  item_more xs i x e lt at t =
      ap (find test) (take_more xs i x lt) ∙ none_before test (take i xs) (get_or xs i x ∷ []) e ∙ none_one test (get_or xs i x) (subst (λ z. test z ≡ false) at t)

  pub item_none : (xs : List X) (i : ℕ) → find test (take i xs) ≡ None → length xs ≤ i → None ≡ of_first because p (map f xs)
  item_none xs i e all = sym (of_mapped xs ∙ ap (λ zs. option_map (λ z. because (f z)) (find test zs)) (sym (whole_taken xs i all)) ∙ ap (option_map (λ z. because (f z))) e)
    where
      whole_taken : (zs : List X) (n : ℕ) → length zs ≤ n → take n zs ≡ zs
      whole_taken [] zero h = refl
      whole_taken [] (suc n) h = refl
      whole_taken (z ∷ zs) zero h = absurd (Prim.omega (arith, h))
      whole_taken (z ∷ zs) (suc n) h = ap (λ ws. z ∷ ws) (whole_taken zs n (Prim.omega (arith, h)))

-- ---- place by place
module _ (because : ℕ → Reason) (p : ℕ → Bool) where
  pub place_here : (n k : ℕ) → find p (places k) ≡ None → k < n → p k ≡ true → Some (because k) ≡ of_first because p (places n)
  place_here n k e lt t =
      let r = places_at n k lt in
      sym (ap (λ ks. option_map because (find p ks)) r.1 ∙ ap (option_map because) (none_before p (places k) (k ∷ r.0) e ∙ found_first p k r.0 t))

  pub place_more : (k : ℕ) → find p (places k) ≡ None → p k ≡ false → find p (places (k + 1)) ≡ None
  place_more k e t = ap (find p) (places_more k) ∙ none_before p (places k) (k ∷ []) e ∙ none_one p k t

  pub place_none : (n k : ℕ) → k ≡ n → find p (places k) ≡ None → None ≡ of_first because p (places n)
  place_none n k same e = sym (ap (λ (j : ℕ). option_map because (find p (places j))) (sym same) ∙ ap (option_map because) e)

-- ---- item by item
module _ {X : Type 0} (because : X → Reason) (p : X → Bool) (before : List X) (x : X) (none : find p before ≡ None) where
  pub found_behind : (xs rest : List X) → xs ≡ before ++ x ∷ rest → p x ≡ true → Some (because x) ≡ of_first because p xs
  found_behind xs rest is t = sym (ap (of_first because p) is ∙ ap (option_map because) (none_before p before (x ∷ rest) none ∙ found_first p x rest t))

  pub none_more : p x ≡ false → find p (before ++ x ∷ []) ≡ None
  none_more t = none_before p before (x ∷ []) none ∙ none_one p x t
