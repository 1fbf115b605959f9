-- Lists that grow by an item.
use Rattle.std.proofs.Common.{◌≡◌, ◌∙◌, ◌<◌, ◌+◌, ◌*◌, ◌++◌, ◌∷◌, [], ℕ, suc, List, length, sym, ap, subst, arith, Some, get_or}
use Rattle.std.proofs.Math.Logic.{⊎_elim}
use mathlib.Core.Path.{ap₂}
use Rattle.std.proofs.Common.{ℤ, pos, zero, take, drop, map, refl, append_assoc}
use Rattle.std.proofs.lemmas.List.{length-append, take_more, drop_more, get_or-map}
use Rattle.std.specs.Prelude.{◌≤ℤ◌}
use Rattle.std.specs.List.{AllZip}
use Rattle.net_case.specs.Networks.{LiveNetwork}
use Rattle.net_case.specs.declared.live_parts.NetBranch.{NetBranch}
use Rattle.factor_residuals.specs.Residuals.{places_below}
use Rattle.factor_residuals.proofs.ColumnLemmas.{map_last, places_more}
use Rattle.dc_network.specs.DcNetworks.{ArePositive}
use Rattle.factor_maker.specs.Stops.{IsFirstNotPositive}
use Rattle.std.specs.Prelude.{slice_get}
use Rattle.fraction_theory.specs.Fraction.{Fraction, ◌-ℚ◌}
use Rattle.factor_maker.specs.ExactLists.{AreDifferences, AreEntries}
use Rattle.factor_maker.proofs.Lists.{at_place, get_last, zip-last}

-- the differences at the first places
pub record AreFirstDifferences {N : Type 0} (value : N → Fraction) (left right : List N) (n : ℕ) (list : List N) : Type 0 where
  pub count : length list ≡ n
  pub each : (k : ℕ) (a b d : N) → slice_get left k ≡ Some a → slice_get right k ≡ Some b → slice_get list k ≡ Some d → value d ≡ value a -ℚ value b

module _ {N : Type 0} (value : N → Fraction) (left right : List N) where
  pub first_none : AreFirstDifferences value left right 0 []
  first_none = record { count = Rattle.std.proofs.Common.refl; each = λ k a b d p q r. absurd (let h = at_place [] k d d r in omega (arith, h.0)) }

  pub first_more : (n : ℕ) (list : List N) (d x y : N) → AreFirstDifferences value left right n list → n < length left → n < length right → get_or left n x ≡ x → get_or right n y ≡ y → value d ≡ value x -ℚ value y
      → AreFirstDifferences value left right (n + 1) (list ++ d ∷ [])
  first_more n list d x y are lt lu atx aty is = record {
    count = length-append list (d ∷ []) ∙ (let c = are.count in omega (arith, c));
    each = λ k a b e p q r. ⊎_elim (λ h. are.each k a b e p q h)
        (λ h.
        let here : k ≡ n = h.0 ∙ are.count in
        let xa : x ≡ a = sym atx ∙ ap (λ (i : ℕ). get_or left i x) (sym here) ∙ (at_place left k a x p).1 in
        let yb : y ≡ b = sym aty ∙ ap (λ (i : ℕ). get_or right i y) (sym here) ∙ (at_place right k b y q).1 in
        subst (λ (f : N). value f ≡ value a -ℚ value b) (sym h.1) (subst (λ (s : N). value d ≡ value s -ℚ value b) xa (subst (λ (s : N). value d ≡ value x -ℚ value s) yb is)))
        (get_last list d k e r);
  }

  pub all_differences : (n : ℕ) (list : List N) → AreFirstDifferences value left right n list → n ≡ length left → AreDifferences value left right list
  all_differences n list are e = record { count = are.count ∙ e; each = are.each }

module _ {N : Type 0} (flows : List N) (buses bus : ℕ) where
  pub no_entries : AreEntries flows buses bus []
  no_entries k flow e = absurd (let h = at_place [] k flow flow e in omega (arith, h.0))

  pub more_entries : (branch : ℕ) (list : List N) (x : N) → length list ≡ branch → AreEntries flows buses bus list → slice_get flows (branch * buses + bus) ≡ Some x → AreEntries flows buses bus (list ++ x ∷ [])
  more_entries branch list x count are here k flow e = ⊎_elim (λ h. are k flow h)
      (λ h. subst (λ (y : N). slice_get flows (k * buses + bus) ≡ Some y) (sym h.1) (subst (λ (i : ℕ). slice_get flows (i * buses + bus) ≡ Some x) (sym (h.0 ∙ count)) here)) (get_last list x k flow e)

pub zip-take : {A B : Type 0} (R : A → B → Type 0) (xs : List A) (ys : List B) (i : ℕ) (x : A) (y : B) → i < length xs → get_or xs i x ≡ x → AllZip R (take i xs) ys → R x y
    → AllZip R (take (i + 1) xs) (ys ++ y ∷ [])
zip-take R xs ys i x y lt here zip r =
    subst (λ (zs : List _). AllZip R zs (ys ++ y ∷ [])) (sym (take_more xs i x lt ∙ ap (λ (z : _). take i xs ++ z ∷ []) here)) (zip-last R (take i xs) ys x y zip r)

-- one more record
pub one_more : {A : Type 0} (f : ℕ → A) (i : ℕ) (before old new : List A) (x : A) → old ≡ before ++ map f (places_below i) → new ≡ old ++ x ∷ [] → x ≡ f i → new ≡ before ++ map f (places_below (i + 1))
one_more f i before old new x is pushed here =
    pushed ∙ ap₂ (λ (xs : List _) (y : _). xs ++ y ∷ []) is here ∙ append_assoc before (map f (places_below i)) (f i ∷ []) ∙ ap (λ (xs : List _). before ++ xs) (map_last f (places_below i) i ∙ ap (map f) (sym (places_more i)))

-- ---- the first number that is not above 0
rejoin : (xs : List ℤ) (k : ℕ) → xs ≡ take k xs ++ drop k xs
rejoin [] zero = refl
rejoin [] (suc k) = refl
rejoin (x ∷ xs) zero = refl
rejoin (x ∷ xs) (suc k) = ap (λ (ys : List ℤ). x ∷ ys) (rejoin xs k)

split_at : (xs : List ℤ) (k : ℕ) (x : ℤ) → k < length xs → get_or xs k x ≡ x → xs ≡ take k xs ++ x ∷ drop (k + 1) xs
split_at xs k x lt here = rejoin xs k ∙ ap (λ (rest : List ℤ). take k xs ++ rest) (drop_more xs k x lt ∙ ap (λ (z : ℤ). z ∷ drop (k + 1) xs) here)

pub first_not_positive : (network : LiveNetwork) (xs : List ℤ) (place : ℕ) (x : ℤ) (branch : NetBranch) → ArePositive (take place xs) → place < length xs → get_or xs place x ≡ x → x ≤ℤ pos 0
    → place < length network.branches → get_or network.branches place branch ≡ branch → IsFirstNotPositive network xs branch.row
first_not_positive network xs place x branch above lt here low within there = record {
  before = take place xs;
  x = x;
  after = drop (place + 1) xs;
  xs_are = split_at xs place x lt here;
  above = above;
  not_above = low;
  row_is = sym (ap (λ (k : ℕ). get_or (map (λ (l : NetBranch). l.row) network.branches) k 0) (length_take xs place lt) ∙ get_or-map (λ (l : NetBranch). l.row) network.branches place branch 0 within ∙ ap (λ (l : NetBranch). l.row) there);
}
  where
    length_take : (ys : List ℤ) (k : ℕ) → k < length ys → length (take k ys) ≡ k
    length_take [] k lt = absurd (omega (arith, lt))
    length_take (y ∷ ys) zero lt = refl
    length_take (y ∷ ys) (suc k) lt = ap suc (length_take ys k (omega (arith, lt)))
