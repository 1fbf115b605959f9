-- Refused sums of a pivot and of a row that is added.
use Rattle.std.specs.Prelude.{◌≡◌, ◌≢◌, ℕ, ◌<◌, pos}
use Rattle.std.proofs.Common.{sym, subst₂, inl, inr}
use Rattle.std.proofs.Math.Path.{subst₃}
use Rattle.exact_fraction.specs.declared.Op.{Op}
use Rattle.exact_fraction.specs.declared.Op.TheVariants.{Plus, Times}
use Rattle.exact_fraction.specs.declared.Passed.{Passed}
use Rattle.exact_fraction.specs.Passes.{IsPassed, IsPassedWith, IsShareRefused, IsTooLargeAt}
use Rattle.exact_fraction.proofs.Shares.{product_refused, share_refused, sum_refused}
use Rattle.fraction_theory.specs.Fraction.{Fraction, whole, ◌+ℚ◌, ◌*ℚ◌}
use Rattle.linear_system.specs.Choices.{Choice, IsChoice}
use Rattle.linear_system.specs.Numbers.{Kind, SolvingNumber, SystemNumber, is_number}
use Rattle.linear_system.specs.Pairs.{AreNear, AtEither, IsSystemPair, OfEither}
use Rattle.linear_system.specs.Systems.{System}
use Rattle.linear_system.proofs.PairLaws.{IsScaling, share_case, share_large}
use Rattle.linear_dict.specs.Causes.{OnPassed, ClearShare, IsRefused, PivotShare, SolveShare, divide, scale, add, solving, scaling, adding}
use Rattle.linear_dict.specs.declared.adding.AddStop.{AddStop}
use Rattle.linear_dict.specs.declared.adding.AddStop.TheVariants.{Passed as StoppedBy, Memory as NoMemory}
use Rattle.linear_dict.specs.Tables.{pivoted_row}

module _ {N : Type 0} (value : N → Fraction) (bound : ℕ) (Asked : Fraction → Fraction → Fraction → Type 0) where
  -- a product alone
  pub refused_product : (first second : N) (e : Passed N) (a b : Fraction)
      → IsPassed value bound Times first second e → value first ≡ a → value second ≡ b → Asked (whole (pos 0)) a b → IsRefused value bound Asked e
  refused_product first second e a b p ea eb asked = record {
    x = whole (pos 0);
    a = a;
    b = b;
    asked = asked;
    refused = product_refused value bound first second e a b p ea eb;
  }

  -- a sum with a product
  pub refused_share : (number first second : N) (e : Passed N) (x a b : Fraction)
      → IsPassedWith value bound number first second e → value number ≡ x → value first ≡ a → value second ≡ b → Asked x a b → IsRefused value bound Asked e
  refused_share number first second e x a b p ex ea eb asked = record { x = x; a = a; b = b; asked = asked; refused = share_refused value bound number first second e x a b p ex ea eb }

  -- a sum, whose second part is a product
  pub refused_sum : (left right : N) (e : Passed N) (x a b : Fraction)
      → IsTooLargeAt value bound Plus left right e → value left ≡ x → value right ≡ a *ℚ b → Asked x a b → IsRefused value bound Asked e
  refused_sum left right e x a b p ex ey asked = record { x = x; a = a; b = b; asked = asked; refused = sum_refused value bound left right e x a b p ex ey }

pub refused_as : {N : Type 0} (value : N → Fraction) (bound : ℕ) (Asked Other : Fraction → Fraction → Fraction → Type 0) (e : Passed N) → ((x a b : Fraction) → Asked x a b → Other x a b)
    → IsRefused value bound Asked e → IsRefused value bound Other e
refused_as value bound Asked Other e f r = record { x = r.x; a = r.a; b = r.b; asked = f r.x r.a r.b r.asked; refused = r.refused }

pub solve_of_pivot : (rows columns : ℕ) (f : ℕ → ℕ → Fraction) (r c : ℕ) (x a b : Fraction) → SolveShare columns f r c x a b → PivotShare rows columns f r c x a b
solve_of_pivot rows columns f r c _ _ _ (divide j hj n) = solving j hj n

-- what a row asks that is cleared with the rows before it
pub clear_of_pivot : (rows columns : ℕ) (f g : ℕ → ℕ → Fraction) (i r c : ℕ) → i < rows → i ≢ r → c < columns → ((j : ℕ) → j < columns → g i j ≡ f i j) → ((j : ℕ) → j < columns → g r j ≡ pivoted_row f r c j)
    → (x a b : Fraction) → ClearShare columns g i r c x a b → PivotShare rows columns f r c x a b
clear_of_pivot rows columns f g i r c hi n hc row solved _ _ _ scale =
    subst₂ (PivotShare rows columns f r c (whole (pos 0))) (sym (row c hc)) (sym (solved c hc)) (scaling i hi n)
clear_of_pivot rows columns f g i r c hi n hc row solved _ _ _ (add j hj m) =
    subst₃ (PivotShare rows columns f r c) (sym (row j hj)) (sym (row c hc)) (sym (solved j hj)) (adding i j hi n hj m)

pub on_passed_as : {N : Type 0} (stop : AddStop N) (P Q : Passed N → Type 0) → ((e : Passed N) → P e → Q e) → OnPassed stop P → OnPassed stop Q
on_passed_as (StoppedBy e) P Q f h = f e h
on_passed_as NoMemory P Q f h = h

-- numbers of one choice or of the other are to be written at these
pub written : (s : System) (one near : Choice) (kind : Kind) (x : Fraction) → OfEither (SystemNumber s) one near kind x → AtEither (SolvingNumber s) one near x
written s one near kind x (inl n) = inl (is_number kind x n)
written s one near kind x (inr n) = inr (is_number kind x n)

-- A refused sum of a number and a product of one choice or of two near ones is a working pair, where the whole of it is to be written at these.
pub share_pair : (s : System) (one near : Choice) → IsChoice s one → IsChoice s near → AreNear s one near → (kind : Kind) (x a b : Fraction)
    → OfEither (SystemNumber s) one near kind x → IsScaling (OfEither (SystemNumber s) one near) kind a b → AtEither (SolvingNumber s) one near (x +ℚ a *ℚ b)
    → (bound : ℕ) (op : Op) (left right : Fraction) → IsShareRefused bound x a b op left right → IsSystemPair s bound op left right
share_pair s one near choice near_choice are_near kind x a b number product whole_sum bound op left right refused = record {
  passes = refused.passes;
  one = one;
  near = near;
  is_choice = choice;
  near_is_choice = near_choice;
  are_near = are_near;
  sides = share_case (OfEither (SystemNumber s) one near) kind x a b number product bound op left right refused;
  large = share_large (OfEither (SystemNumber s) one near) kind x a b number product bound op left right refused (AtEither (SolvingNumber s) one near) (written s one near kind x number) whole_sum;
}
