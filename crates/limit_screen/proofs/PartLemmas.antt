-- Whole parts, one after the other.
use Rattle.std.specs.Prelude.{◌≡◌, ℕ, ◌+◌, ℤ, List, [], ◌∷◌, ◌++◌, length, Option, Some, None, IfSome, refl}
use Rattle.std.specs.List.{slice_get}
use Rattle.std.proofs.Common.{arith, ap, sym, inl, inr, subst, ◌∙◌, get_or}
use Rattle.std.proofs.lemmas.Bool.{cases_lt}
use Rattle.std.proofs.lemmas.List.{length-append}
use Rattle.std.proofs.lemmas.Option.{same_Some, slice_get_within}
use Rattle.fraction_theory.specs.Fraction.{Fraction}
use Rattle.exact_fraction.specs.Floor.{IsFloor}
use Rattle.market_model.specs.declared.participants.Parts.{Parts}
use Rattle.market_model.specs.Dispatch.{zero}
use Rattle.market_model.specs.LimitRows.{Carried}
use Rattle.market_model.specs.PutIn.{carried_in}
use Rattle.limit_screen.specs.declared.parts.WholeParts.{WholeParts}
use Rattle.limit_screen.specs.Bounds.{AreFloors, AreWholeParts, EachAt, IsFloorOf}
use Rattle.limit_screen.proofs.ScreenLemmas.{slice_get-left, slice_get-seam}

-- ---- lists made element by element
pub each_none : {X : Type 0} (is : ℕ → X → Type 0) → EachAt is []
each_none is place x e = Prim.cc

pub each_more : {X : Type 0} (is : ℕ → X → Type 0) (xs : List X) (x : X) → EachAt is xs → is (length xs) x → EachAt is (xs ++ x ∷ [])
each_more is xs x before last place y e = elim (cases_lt place (length xs)) [
  | inl below ↦ before place y (sym (slice_get-left xs (x ∷ []) place below) ∙ e)
  | inr above ↦
      let inside = slice_get_within (xs ++ x ∷ []) place y e in
      let at : length xs ≡ place = Prim.omega (arith, above, inside, length-append xs (x ∷ [])) in
      let same : x ≡ y = same_Some x y (sym (slice_get-seam xs x) ∙ ap (slice_get (xs ++ x ∷ [])) at ∙ e) in
      subst (λ i. is i y) at (subst (is (length xs)) same last)
]

-- what holds of the number that is there
of_some : {X : Type 0} (p : X → Type 0) (o : Option X) → IfSome o p → (x : X) → o ≡ Some x → p x
of_some p None h x e = Prim.cc
of_some p (Some y) h x e = subst p (same_Some y x e) h

-- ---- what is carried
pub floors_more : (fs : List Fraction) (parts : List (Option ℤ)) (o : Option ℤ) (k : ℕ) → length parts ≡ k → AreFloors fs parts → IfSome o (IsFloor (get_or fs k zero)) → AreFloors fs (parts ++ o ∷ [])
floors_more fs parts o k count before last =
    each_more (λ place part. IsFloorOf (get_or fs place zero) part) parts o before (of_some (IsFloor (get_or fs (length parts) zero)) o (subst (λ i. IfSome o (IsFloor (get_or fs i zero))) (sym count) last))

pub parts_of : (m : Parts) (fs : List Fraction) (c : Carried) (parts : WholeParts) → carried_in m fs ≡ c → AreFloors fs parts.carried.items → AreWholeParts m c parts
parts_of m fs c parts e floors = subst (λ d. AreWholeParts m d parts) e
    (record { line = λ l n at. floors l (Some n) at n refl; lost = λ k n at. floors (length m.lines + k) (Some n) at n refl })
