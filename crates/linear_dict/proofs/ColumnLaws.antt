-- What one more column means for a dictionary's system and for the choice of its table.
use Rattle.std.specs.Prelude.{◌≡◌, ℕ, pos, List}
use Rattle.std.specs.List.{Contains}
use Rattle.std.proofs.Common.{sym, subst, inl, inr}
use Rattle.std.proofs.lemmas.List.Elements.{Contains-push}
use Rattle.fraction_theory.specs.Fraction.{Fraction, whole}
use Rattle.fraction_theory.proofs.ListSums.{Distinct}
use Rattle.linear_system.specs.Choices.{IsChoice}
use Rattle.linear_system.specs.Systems.{activity}
use Rattle.linear_dict.specs.Dictionaries.{AddsColumn, Dictionary, IsDictionary, choice_of, system_in}
use Rattle.linear_dict.proofs.ColumnLemmas.{IsWider}
use Rattle.linear_dict.proofs.ColumnLemmas as wider
use Rattle.linear_dict.proofs.GrowLemmas.{Distinct-last}

module _ (old new : Dictionary) (column : ℕ) (sound : IsDictionary old) (adds : AddsColumn old column new) where
  lists : IsWider old column new
  lists = wider.wider_of old column new adds

  among_columns : Contains new.columns column
  among_columns = subst (λ (ws : List ℕ). Contains ws column) (sym adds.columns) (Contains-push old.columns column)

  -- its name is new
  pub new_name : ¬ (Contains old.names column)
  new_name m = elim (sound.put_in.either column m) [
    | inl r ↦ adds.sound.put_in.apart column (subst (λ (ws : List ℕ). Contains ws column) (sym adds.rows) r) among_columns
    | inr c ↦ Distinct-last old.columns column (subst (λ (ws : List ℕ). Distinct ws) adds.columns adds.sound.put_in.second_distinct) c
  ]

  -- the rows stay, with 0 at the column
  pub same_rows : (system_in new).rows ≡ (system_in old).rows
  same_rows = wider.same_rows old new column sound new_name lists

  pub kept_coefficient : (r j : ℕ) → Contains old.rows r → Contains old.columns j → (system_in new).coefficient r j ≡ (system_in old).coefficient r j
  kept_coefficient = wider.kept_coefficient old new column sound new_name lists

  pub nil_coefficient : (r : ℕ) → Contains old.rows r → (system_in new).coefficient r column ≡ whole (pos 0)
  nil_coefficient = wider.new_coefficient old new column sound new_name lists

  pub same_activity : (v : ℕ → Fraction) (r : ℕ) → Contains old.rows r → activity (system_in new) v r ≡ activity (system_in old) v r
  same_activity = wider.same_activity old new column sound new_name lists

  -- the choice stays, with 0 at the column, and is one of the system with it
  pub kept_entry : (b w : ℕ) → Contains old.basics b → Contains old.others w → (choice_of new).entry b w ≡ (choice_of old).entry b w
  kept_entry = wider.kept_entry old new column sound new_name lists

  pub nil_entry : (b : ℕ) → Contains old.basics b → (choice_of new).entry b column ≡ whole (pos 0)
  nil_entry = wider.new_entry old new column sound new_name lists

  pub is_choice : IsChoice (system_in new) (choice_of new)
  is_choice = adds.sound.solutions adds.live
