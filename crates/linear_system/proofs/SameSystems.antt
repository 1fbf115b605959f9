-- Systems with the same rows have the same choices and factors, and systems that agree at their names have the same
-- numbers and working pairs.
use Rattle.std.specs.Prelude.{◌≡◌, ℕ, List, [], ◌∷◌, map, filter, not, if◌then◌else◌, refl}
use Rattle.std.specs.List.{Contains}
use Rattle.std.proofs.Common.{ap, ap₂, sym, ◌∙◌, subst, subst₂, inl, inr}
use Rattle.fraction_theory.specs.Fraction.{Fraction, ◌*ℚ◌, ◌-ℚ◌}
use Rattle.fraction_theory.specs.Order.{◌<ℚ◌, ◌≤ℚ◌}
use Rattle.fraction_theory.specs.Sums.{Term, Product, sum_by, prefix, total}
use Rattle.fraction_theory.proofs.ListSums.{Contains-head, Contains-cons, sum_by-members}
use Rattle.exact_fraction.specs.declared.Op.{Op}
use Rattle.linear_system.specs.Choices.{Choice, basics, others, MeetsTable, IsChoice, at_bound, value, value_terms, column_entry, row_entry_terms, reduced_terms}
use Rattle.linear_system.specs.Numbers.{Kind, Factor, Quantity, Price, SystemNumber, is_zero, is_one, is_coefficient, is_entry, is_row_entry, is_low, is_high, is_value, is_price, is_reduced, is_opposite, IsFirst, SolvingNumber, is_number, is_fall, is_rise, is_turned}
use Rattle.linear_system.specs.Pairs.{AreNear, AtEither, OfEither, IsSystemPair}
use Rattle.linear_system.specs.SameSystems.{SameRows, SameSystem}
use Rattle.linear_system.specs.Systems.{System, MeetsRows, activity}
use Rattle.linear_system.proofs.ChoiceLaws.{basics_are, others_are}
use Rattle.linear_system.proofs.PairLaws.{IsForLarge-each, IsPairCase-each}

map-members : {X Y : Type 0} (f g : X → Y) (xs : List X) → ((x : X) → Contains xs x → f x ≡ g x) → map f xs ≡ map g xs
map-members f g [] h = refl
map-members f g (x ∷ xs) h = ap₂ (λ y ys. y ∷ ys) (h x (Contains-head x xs)) (map-members f g xs (λ z c. h z (Contains-cons x xs z c)))

pub rows_turned_round : (s t : System) → SameRows s t → SameRows t s
rows_turned_round s t same = record {
  variables = sym same.variables;
  columns = sym same.columns;
  rows = sym same.rows;
  coefficient = λ r j c k. sym (same.coefficient r j (subst (λ (ws : List ℕ). Contains ws r) (sym same.rows) c) (subst (λ (ws : List ℕ). Contains ws j) (sym same.columns) k));
}

pub turned_round : (s t : System) → SameSystem s t → SameSystem t s
turned_round s t same =
    let rows = same.same_rows in record {
      same_rows = rows_turned_round s t rows;
      price = λ j c. sym (same.price j (subst (λ (ws : List ℕ). Contains ws j) (sym rows.columns) c));
      low = λ w c. sym (same.low w (subst (λ (ws : List ℕ). Contains ws w) (sym rows.variables) c));
      high = λ w c. sym (same.high w (subst (λ (ws : List ℕ). Contains ws w) (sym rows.variables) c));
    }

module _ (s t : System) (same : SameRows s t) where
  rows_activity : (v : ℕ → Fraction) (r : ℕ) → Contains s.rows r → activity s v r ≡ activity t v r
  unfolding activity
  rows_activity v r c =
      sum_by-members (λ j. s.coefficient r j *ℚ v j) (λ j. t.coefficient r j *ℚ v j) s.columns (λ j k. ap (λ x. x *ℚ v j) (same.coefficient r j c k))
      ∙ ap (sum_by (λ j. t.coefficient r j *ℚ v j)) same.columns

  rows_met : (v : ℕ → Fraction) → MeetsRows s v → MeetsRows t v
  rows_met v meets = record {
    row = λ r c. let here : Contains s.rows r = subst (λ (ws : List ℕ). Contains ws r) (sym same.rows) c in meets.row r here ∙ rows_activity v r here;
  }

  rows_basics : (h : Choice) → basics s h ≡ basics t h
  unfolding basics
  rows_basics h = ap (filter h.basic) same.variables

  rows_others : (h : Choice) → others s h ≡ others t h
  unfolding others
  rows_others h = ap (filter (λ w. not (h.basic w))) same.variables

  rows_table_met : (h : Choice) (v : ℕ → Fraction) → MeetsTable s h v → MeetsTable t h v
  rows_table_met h v meets = record {
    basic = λ b c. meets.basic b (subst (λ (ws : List ℕ). Contains ws b) (sym (rows_basics h)) c) ∙ ap (sum_by (λ w. h.entry b w *ℚ v w)) (rows_others h);
  }

  rows_row_entry_terms : (h : Choice) (r w : ℕ) → Contains s.rows r → row_entry_terms s h r w ≡ row_entry_terms t h r w
  unfolding row_entry_terms
  rows_row_entry_terms h r w c =
      map-members (λ j. Product (s.coefficient r j) (column_entry h j w)) (λ j. Product (t.coefficient r j) (column_entry h j w)) s.columns
      (λ j k. ap (λ x. Product x (column_entry h j w)) (same.coefficient r j c k))
      ∙ ap (map (λ j. Product (t.coefficient r j) (column_entry h j w))) same.columns

  -- the factors of the one are those of the other: no price and no bound is one
  pub same_rows_factor : (h : Choice) (kind : Kind) (x : Fraction) → SystemNumber s h kind x → kind ≡ Factor → SystemNumber t h kind x
  same_rows_factor h _ _ is_zero e = is_zero
  same_rows_factor h _ _ is_one e = is_one
  same_rows_factor h _ _ (is_coefficient r j c k) e =
      subst (SystemNumber t h Factor) (sym (same.coefficient r j c k)) (is_coefficient r j (subst (λ (ws : List ℕ). Contains ws r) same.rows c) (subst (λ (ws : List ℕ). Contains ws j) same.columns k))
  same_rows_factor h _ _ (is_entry b w c k) e = is_entry b w (subst (λ (ws : List ℕ). Contains ws b) (rows_basics h) c) (subst (λ (ws : List ℕ). Contains ws w) (rows_others h) k)
  same_rows_factor h _ _ (is_row_entry r w n c k) e =
      subst (λ (ts : List Term). SystemNumber t h Factor (prefix n ts)) (sym (rows_row_entry_terms h r w c))
      (is_row_entry r w n (subst (λ (ws : List ℕ). Contains ws r) same.rows c) (subst (λ (ws : List ℕ). Contains ws w) (rows_others h) k))
  same_rows_factor h _ _ (is_low w c) e = absurd cc
  same_rows_factor h _ _ (is_high w c) e = absurd cc
  same_rows_factor h _ _ (is_value b n c) e = absurd cc
  same_rows_factor h _ _ (is_price j c) e = absurd cc
  same_rows_factor h _ _ (is_reduced w n c) e = absurd cc
  same_rows_factor h _ _ (is_opposite kind x n) e = is_opposite kind x (same_rows_factor h kind x n e)

-- their choices
pub same_rows_choice : (s t : System) → SameRows s t → (h : Choice) → IsChoice s h → IsChoice t h
same_rows_choice s t same h choice = record {
  to_table = λ v meets. rows_table_met s t same h v (choice.to_table v (rows_met t s (rows_turned_round s t same) v meets));
  to_rows = λ v meets. rows_met s t same v (choice.to_rows v (rows_table_met t s (rows_turned_round s t same) h v meets));
}

module _ (s t : System) (same : SameSystem s t) where
  pub same_rows_met : (v : ℕ → Fraction) → MeetsRows s v → MeetsRows t v
  same_rows_met v meets = rows_met s t same.same_rows v meets

  pub same_basics : (h : Choice) → basics s h ≡ basics t h
  same_basics h = rows_basics s t same.same_rows h

  pub same_others : (h : Choice) → others s h ≡ others t h
  same_others h = rows_others s t same.same_rows h

  pub same_table_met : (h : Choice) (v : ℕ → Fraction) → MeetsTable s h v → MeetsTable t h v
  same_table_met h v meets = rows_table_met s t same.same_rows h v meets

  same_bound : (h : Choice) (w : ℕ) → Contains s.variables w → at_bound s h w ≡ at_bound t h w
  unfolding at_bound
  same_bound h w c = ap₂ (λ x y. if h.high w then x else y) (same.high w c) (same.low w c)

  same_value_terms : (h : Choice) (b : ℕ) → value_terms s h b ≡ value_terms t h b
  unfolding value_terms
  same_value_terms h b =
      map-members (λ w. Product (h.entry b w) (at_bound s h w)) (λ w. Product (h.entry b w) (at_bound t h w)) (others s h)
      (λ w c. ap (Product (h.entry b w)) (same_bound h w (others_are s h w c).0))
      ∙ ap (map (λ w. Product (h.entry b w) (at_bound t h w))) (same_others h)

  same_row_entry_terms : (h : Choice) (r w : ℕ) → Contains s.rows r → row_entry_terms s h r w ≡ row_entry_terms t h r w
  same_row_entry_terms h r w c = rows_row_entry_terms s t same.same_rows h r w c

  same_reduced_terms : (h : Choice) (w : ℕ) → reduced_terms s h w ≡ reduced_terms t h w
  unfolding reduced_terms
  same_reduced_terms h w =
      map-members (λ j. Product (s.price j) (column_entry h j w)) (λ j. Product (t.price j) (column_entry h j w)) s.columns
      (λ j k. ap (λ x. Product x (column_entry h j w)) (same.price j k))
      ∙ ap (map (λ j. Product (t.price j) (column_entry h j w))) same.same_rows.columns

  in_variables : (w : ℕ) → Contains s.variables w → Contains t.variables w
  in_variables w c = subst (λ (ws : List ℕ). Contains ws w) same.same_rows.variables c

  in_columns : (w : ℕ) → Contains s.columns w → Contains t.columns w
  in_columns w c = subst (λ (ws : List ℕ). Contains ws w) same.same_rows.columns c

  in_rows : (w : ℕ) → Contains s.rows w → Contains t.rows w
  in_rows w c = subst (λ (ws : List ℕ). Contains ws w) same.same_rows.rows c

  in_basics : (h : Choice) (w : ℕ) → Contains (basics s h) w → Contains (basics t h) w
  in_basics h w c = subst (λ (ws : List ℕ). Contains ws w) (same_basics h) c

  in_others : (h : Choice) (w : ℕ) → Contains (others s h) w → Contains (others t h) w
  in_others h w c = subst (λ (ws : List ℕ). Contains ws w) (same_others h) c

  -- their numbers
  pub same_number : (h : Choice) (kind : Kind) (x : Fraction) → SystemNumber s h kind x → SystemNumber t h kind x
  same_number h _ _ is_zero = is_zero
  same_number h _ _ is_one = is_one
  same_number h _ _ (is_coefficient r j c k) = subst (SystemNumber t h Factor) (sym (same.same_rows.coefficient r j c k)) (is_coefficient r j (in_rows r c) (in_columns j k))
  same_number h _ _ (is_entry b w c k) = is_entry b w (in_basics h b c) (in_others h w k)
  same_number h _ _ (is_row_entry r w n c k) = subst (λ (ts : List Term). SystemNumber t h Factor (prefix n ts)) (sym (same_row_entry_terms h r w c)) (is_row_entry r w n (in_rows r c) (in_others h w k))
  same_number h _ _ (is_low w c) = subst (SystemNumber t h Quantity) (sym (same.low w c)) (is_low w (in_variables w c))
  same_number h _ _ (is_high w c) = subst (SystemNumber t h Quantity) (sym (same.high w c)) (is_high w (in_variables w c))
  same_number h _ _ (is_value b n c) = subst (λ (ts : List Term). SystemNumber t h Quantity (prefix n ts)) (sym (same_value_terms h b)) (is_value b n (in_basics h b c))
  same_number h _ _ (is_price j c) = subst (SystemNumber t h Price) (sym (same.price j c)) (is_price j (in_columns j c))
  same_number h _ _ (is_reduced w n c) = subst (λ (ts : List Term). SystemNumber t h Price (prefix n ts)) (sym (same_reduced_terms h w)) (is_reduced w n (in_others h w c))
  same_number h _ _ (is_opposite kind x n) = is_opposite kind x (same_number h kind x n)

module _ (s t : System) (same : SameSystem s t) (h : Choice) where
  value_same : (b : ℕ) → Contains (basics s h) b → value s h b ≡ value t h b
  unfolding value
  value_same b c =
      ap (λ (x : _). if x then total (value_terms s h b) else at_bound s h b) (basics_are s h b c).1
      ∙ ap total (same_value_terms s t same h b)
      ∙ sym (ap (λ (x : _). if x then total (value_terms t h b) else at_bound t h b) (basics_are s h b c).1)

  first_same : (b : ℕ) → IsFirst s h b → IsFirst t h b
  first_same b first c at below =
      let here : Contains (basics s h) c = subst (λ (ws : List ℕ). Contains ws c) (sym (same_basics s t same h)) at in
      let v = basics_are s h c here in
      let is = first c here below in (
        subst₂ ◌≤ℚ◌ (same.low c v.0) (value_same c here) is.0,
        subst₂ ◌≤ℚ◌ (value_same c here) (same.high c v.0) is.1,
      )

  -- and what solving writes down
  pub same_solving : (x : Fraction) → SolvingNumber s h x → SolvingNumber t h x
  same_solving _ (is_number kind x n) = is_number kind x (same_number s t same h kind x n)
  same_solving _ (is_fall b c beyond first) =
      let v = basics_are s h b c in
      subst (SolvingNumber t h) (sym (ap₂ ◌-ℚ◌ (same.high b v.0) (value_same b c)))
      (is_fall b (in_basics s t same h b c) (subst₂ ◌<ℚ◌ (same.high b v.0) (value_same b c) beyond) (first_same b first))
  same_solving _ (is_rise b c beyond first) =
      let v = basics_are s h b c in
      subst (SolvingNumber t h) (sym (ap₂ ◌-ℚ◌ (value_same b c) (same.low b v.0)))
      (is_rise b (in_basics s t same h b c) (subst₂ ◌<ℚ◌ (value_same b c) (same.low b v.0) beyond) (first_same b first))
  same_solving _ (is_turned x n) = is_turned x (same_solving x n)

pub same_choice_of : (s t : System) → SameSystem s t → (h : Choice) → IsChoice s h → IsChoice t h
same_choice_of s t same h choice = same_rows_choice s t same.same_rows h choice

same_near : (s t : System) → SameSystem s t → (h k : Choice) → AreNear s h k → AreNear t h k
same_near s t same h k (inl e) = inl e
same_near s t same h k (inr (a, b, x)) = inr (
  a,
  b,
  record {
    leaving = subst (λ (ws : List ℕ). Contains ws a) same.same_rows.variables x.leaving;
    entering = subst (λ (ws : List ℕ). Contains ws b) same.same_rows.variables x.entering;
    leaves = x.leaves;
    enters = x.enters;
    stays = λ w c. x.stays w (subst (λ (ws : List ℕ). Contains ws w) (sym same.same_rows.variables) c);
  },
)

-- and their working pairs
pub same_pair : (s t : System) → SameSystem s t → (bound : ℕ) (op : Op) (l r : Fraction) → IsSystemPair s bound op l r → IsSystemPair t bound op l r
same_pair s t same bound op l r pair = record {
  passes = pair.passes;
  one = pair.one;
  near = pair.near;
  is_choice = same_choice_of s t same pair.one pair.is_choice;
  near_is_choice = same_choice_of s t same pair.near pair.near_is_choice;
  are_near = same_near s t same pair.one pair.near pair.are_near;
  sides = IsPairCase-each (λ kind x n. either kind x n) op l r pair.sides;
  large = IsForLarge-each written bound op l r pair.large;
}
  where
    either : (kind : Kind) (x : Fraction) → OfEither (SystemNumber s) pair.one pair.near kind x → OfEither (SystemNumber t) pair.one pair.near kind x
    either kind x (inl n) = inl (same_number s t same pair.one kind x n)
    either kind x (inr n) = inr (same_number s t same pair.near kind x n)

    written : (x : Fraction) → AtEither (SolvingNumber s) pair.one pair.near x → AtEither (SolvingNumber t) pair.one pair.near x
    written x (inl n) = inl (same_solving s t same pair.one x n)
    written x (inr n) = inr (same_solving s t same pair.near x n)
