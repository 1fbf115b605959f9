-- Numbers of more than one origin: what holds of pairs where numbers of one sort are numbers of another.
use Rattle.std.specs.Prelude.{◌≡◌, ℕ, ◌⊎◌}
use Rattle.std.proofs.Common.{sym, subst, subst₂, inl, inr}
use Rattle.fraction_theory.specs.Fraction.{Fraction, ◌+ℚ◌, ◌-ℚ◌, ◌*ℚ◌}
use Rattle.fraction_theory.proofs.FieldLaws.{ring_ℚ}
use Rattle.exact_fraction.specs.declared.Op.{Op}
use Rattle.exact_fraction.specs.declared.Op.TheVariants.{Plus, Minus, Times}
use Rattle.exact_fraction.specs.Passes.{IsShareRefused, IsTooLarge}
use Rattle.linear_system.specs.Numbers.{Kind, Factor}
use Rattle.linear_system.specs.Pairs.{IsCombined, alone, sum, difference, IsSummand, plain, scaled, IsPairCase, added, subtracted, scaled_right, scaled_left, Makes, itself, added_to, IsForLarge}

module _ {N O : Kind → Fraction → Type 0} (each : (kind : Kind) (x : Fraction) → N kind x → O kind x) where
  pub IsCombined-each : (kind : Kind) (x : Fraction) → IsCombined N kind x → IsCombined O kind x
  IsCombined-each kind _ (alone x h) = alone x (each kind x h)
  IsCombined-each kind _ (sum x y h k) = sum x y (each kind x h) (each kind y k)
  IsCombined-each kind _ (difference x y h k) = difference x y (each kind x h) (each kind y k)

  pub IsSummand-each : (kind : Kind) (x : Fraction) → IsSummand N kind x → IsSummand O kind x
  IsSummand-each kind _ (plain x h) = plain x (IsCombined-each kind x h)
  IsSummand-each kind _ (scaled f x h k) = scaled f x (each Factor f h) (IsCombined-each kind x k)

  -- a case of the numbers of one sort is one of those of the other
  pub IsPairCase-each : (op : Op) (l r : Fraction) → IsPairCase N op l r → IsPairCase O op l r
  IsPairCase-each _ _ _ (added kind l r h k) = added kind l r (IsSummand-each kind l h) (IsSummand-each kind r k)
  IsPairCase-each _ _ _ (subtracted kind l r h k) = subtracted kind l r (IsSummand-each kind l h) (IsSummand-each kind r k)
  IsPairCase-each _ _ _ (scaled_right kind l r h k) = scaled_right kind l r (each Factor l h) (IsCombined-each kind r k)
  IsPairCase-each _ _ _ (scaled_left kind l r h k) = scaled_left kind l r (IsCombined-each kind l h) (each Factor r k)

-- numbers of one sort are numbers of another
pub Makes-each : {N O : Fraction → Type 0} → ((x : Fraction) → N x → O x) → (op : Op) (l r v : Fraction) → Makes N op l r v → Makes O op l r v
Makes-each each _ _ _ _ (itself op l r) = itself op l r
Makes-each each _ _ _ _ (added_to x l r n) = added_to x l r (each x n)

pub IsForLarge-each : {N O : Fraction → Type 0} → ((x : Fraction) → N x → O x) → (bound : ℕ) (op : Op) (l r : Fraction) → IsForLarge N bound op l r → IsForLarge O bound op l r
IsForLarge-each each bound op l r h = record { number = h.number; is_number = each h.number h.is_number; too_large = h.too_large; made = Makes-each each op l r h.number h.made }

-- a factor and what it scales, in either order
abbrev pub IsScaling : (Kind → Fraction → Type 0) → Kind → Fraction → Fraction → Type 0
IsScaling N kind a b = (N Factor a × IsCombined N kind b) ⊎ (IsCombined N kind a × N Factor b)

-- a number x and a product that is added to it
module _ (N : Kind → Fraction → Type 0) (kind : Kind) (x a b : Fraction) (number : N kind x) (scaling : IsScaling N kind a b) where
  product_case : IsPairCase N Times a b
  product_case = elim scaling [ inl n ↦ scaled_right kind a b n.0 n.1 | inr n ↦ scaled_left kind a b n.0 n.1 ]

  product_summand : IsSummand N kind (a *ℚ b)
  product_summand = elim scaling [ inl n ↦ scaled a b n.0 n.1 | inr n ↦ subst (IsSummand N kind) (ring_ℚ.times_comm b a) (scaled b a n.1 n.0) ]

  module _ (bound : ℕ) (op : Op) (l r : Fraction) (refused : IsShareRefused bound x a b op l r) where
    -- where their sum is refused, the operation is a case of a pair
    pub share_case : IsPairCase N op l r
    share_case = elim refused.way [
      | inl w ↦ subst (λ (o : Op). IsPairCase N o l r) (sym w.0) (subst₂ (IsPairCase N Times) (sym w.1) (sym w.2) product_case)
      | inr w ↦ subst (λ (o : Op). IsPairCase N o l r) (sym w.0) (subst₂ (IsPairCase N Plus) (sym w.1) (sym w.2) (added kind x (a *ℚ b) (plain x (alone x number)) product_summand))
    ]

    -- and on the way to that sum
    pub share_large : (M : Fraction → Type 0) → M x → M (x +ℚ a *ℚ b) → IsForLarge M bound op l r
    share_large M from whole = record {
      number = x +ℚ a *ℚ b;
      is_number = whole;
      too_large = refused.too_large;
      made = elim refused.way [
        | inl w ↦ subst (λ (o : Op). Makes M o l r (x +ℚ a *ℚ b)) (sym w.0) (subst₂ (λ (y z : Fraction). Makes M Times y z (x +ℚ a *ℚ b)) (sym w.1) (sym w.2) (added_to x a b from))
        | inr w ↦ subst (λ (o : Op). Makes M o l r (x +ℚ a *ℚ b)) (sym w.0) (subst₂ (λ (y z : Fraction). Makes M Plus y z (x +ℚ a *ℚ b)) (sym w.1) (sym w.2) (itself Plus x (a *ℚ b)))
      ];
    }

-- a difference that is refused is on the way to itself
pub less_large : (M : Fraction → Type 0) (bound : ℕ) (x y : Fraction) (op : Op) (l r : Fraction) → op ≡ Minus → l ≡ x → r ≡ y → M (x -ℚ y) → IsTooLarge bound (x -ℚ y) → IsForLarge M bound op l r
less_large M bound x y op l r o left right number large = record {
  number = x -ℚ y;
  is_number = number;
  too_large = large;
  made = subst (λ (p : Op). Makes M p l r (x -ℚ y)) (sym o) (subst₂ (λ (a b : Fraction). Makes M Minus a b (x -ℚ y)) (sym left) (sym right) (itself Minus x y));
}
