-- A working pair of a posed dictionary whose other variables with equal bounds stay others is one of the system without these bounds.
use Rattle.std.specs.Prelude.{◌≡◌, ℕ, false, List, Some}
use Rattle.std.specs.List.{Contains}
use Rattle.std.proofs.Common.{sym, subst, inl, inr}
use Rattle.exact_fraction.specs.declared.Op.{Op}
use Rattle.fraction_theory.specs.Fraction.{Fraction}
use Rattle.linear_system.specs.Choices.{Choice}
use Rattle.linear_system.specs.Numbers.{Kind, SolvingNumber, SystemNumber}
use Rattle.linear_system.specs.Pairs.{AreNear, AtEither, IsSystemPair, OfEither}
use Rattle.linear_system.specs.SameSystems.{SameSystem}
use Rattle.linear_system.specs.Systems.{System, IsSystem}
use Rattle.linear_system.proofs.PairLaws.{IsForLarge-each, IsPairCase-each}
use Rattle.linear_system.proofs.SameSystems.{same_choice_of, same_number, same_solving}
use Rattle.optimal_face.specs.Faces.{Held, held_at, price_of_one}
use Rattle.optimal_face.specs.Laws.{KeepsHeld}
use Rattle.optimal_face.proofs.NumberLemmas.{law_of_the_pairs}

same_near : (s t : System) → SameSystem s t → (h k : Choice) → AreNear s h k → AreNear t h k
same_near s t same h k (inl e) = inl e
same_near s t same h k (inr (a, b, x)) = inr (
  a,
  b,
  record {
    leaving = subst (λ (ws : List ℕ). Contains ws a) same.same_rows.variables x.leaving;
    entering = subst (λ (ws : List ℕ). Contains ws b) same.same_rows.variables x.entering;
    leaves = x.leaves;
    enters = x.enters;
    stays = λ w c. x.stays w (subst (λ (ws : List ℕ). Contains ws w) (sym same.same_rows.variables) c);
  },
)

module _ (t s : System) (held : Held) (j : ℕ) (system : IsSystem s) (column : Contains s.columns j) (same : SameSystem t (held_at s held (price_of_one j))) where
  pub pair_of_face : (bound : ℕ) (op : Op) (l r : Fraction) (pair : IsSystemPair t bound op l r) → KeepsHeld s held pair.one → KeepsHeld s held pair.near → IsSystemPair s bound op l r
  pair_of_face bound op l r pair one near = law_of_the_pairs s held j bound op l r system column (record {
    passes = pair.passes;
    one = pair.one;
    near = pair.near;
    is_choice = same_choice_of t (held_at s held (price_of_one j)) same pair.one pair.is_choice;
    near_is_choice = same_choice_of t (held_at s held (price_of_one j)) same pair.near pair.near_is_choice;
    are_near = same_near t (held_at s held (price_of_one j)) same pair.one pair.near pair.are_near;
    sides = IsPairCase-each (λ kind x n. either kind x n) op l r pair.sides;
    large = IsForLarge-each written bound op l r pair.large;
  }) one near
    where
      either : (kind : Kind) (x : Fraction) → OfEither (SystemNumber t) pair.one pair.near kind x → OfEither (SystemNumber (held_at s held (price_of_one j))) pair.one pair.near kind x
      either kind x (inl n) = inl (same_number t (held_at s held (price_of_one j)) same pair.one kind x n)
      either kind x (inr n) = inr (same_number t (held_at s held (price_of_one j)) same pair.near kind x n)

      written : (x : Fraction) → AtEither (SolvingNumber t) pair.one pair.near x → AtEither (SolvingNumber (held_at s held (price_of_one j))) pair.one pair.near x
      written x (inl n) = inl (same_solving t (held_at s held (price_of_one j)) same pair.one x n)
      written x (inr n) = inr (same_solving t (held_at s held (price_of_one j)) same pair.near x n)
