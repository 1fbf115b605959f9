-- The laws of choices: a split has one table, the values of the others fix all, and every sum over the columns is a sum
-- over the others.
use Rattle.std.specs.Prelude.{◌≡◌, ◌≢◌, ℕ, ◌==◌, pos, Bool, true, false, not, if◌then◌else◌, List, [], ◌∷◌, refl}
use Rattle.std.specs.List.{Contains}
use Rattle.std.proofs.Common.{ap, sym, ◌∙◌, subst}
use Rattle.fraction_theory.specs.Fraction.{Fraction, whole, ◌*ℚ◌}
use Rattle.fraction_theory.specs.Sums.{sum_by, total}
use Rattle.fraction_theory.proofs.Ring.{by_ring, at, pnil, pone, pmul}
use Rattle.fraction_theory.proofs.FieldLaws.{ring_ℚ}
use Rattle.fraction_theory.proofs.SumLaws.{sum_by-exchange, sum_by-same, sum_by-times, total-Product}
use Rattle.fraction_theory.proofs.ListSums.{Distinct, Distinct-filter, Distinct-increasing, Contains-filter, Contains-from_filter, filter-members, put_at-here, put_at-elsewhere, sum_by-members, sum_by-one}
use Rattle.linear_system.specs.Systems.{System, IsSystem, MeetsRows, activity, objective}
use Rattle.linear_system.specs.Choices.{Choice, basics, others, MeetsTable, IsChoice, at_bound, value, value_terms, column_entry, row_entry_terms, reduced, reduced_terms}

is_false : (b : Bool) → not b ≡ true → b ≡ false
is_false true e = absurd cc
is_false false e = refl

by_bool : {P : Type 0} (b : Bool) → (b ≡ true → P) → (b ≡ false → P) → P
by_bool true p q = p refl
by_bool false p q = q refl

module _ (s : System) (h : Choice) where
  pub others_are : (w : ℕ) → Contains (others s h) w → Contains s.variables w × (h.basic w ≡ false)
  unfolding others
  others_are w c = let r = Contains-from_filter (λ x. not (h.basic x)) s.variables w c in (r.0, is_false (h.basic w) r.1)

  pub is_other : (w : ℕ) → Contains s.variables w → h.basic w ≡ false → Contains (others s h) w
  unfolding others
  is_other w c e = Contains-filter (λ x. not (h.basic x)) s.variables w c (ap not e)

  pub basics_are : (b : ℕ) → Contains (basics s h) b → Contains s.variables b × (h.basic b ≡ true)
  unfolding basics
  basics_are b c = Contains-from_filter h.basic s.variables b c

  pub is_basic : (b : ℕ) → Contains s.variables b → h.basic b ≡ true → Contains (basics s h) b
  unfolding basics
  is_basic b c e = Contains-filter h.basic s.variables b c e

  pub others_distinct : Distinct s.variables → Distinct (others s h)
  unfolding others
  others_distinct d = Distinct-filter (λ x. not (h.basic x)) s.variables d

-- the entries at a name: those of the table, of an other variable itself, and of two others
pub column_entry-basic : (h : Choice) (j w : ℕ) → h.basic j ≡ true → column_entry h j w ≡ h.entry j w
unfolding column_entry
column_entry-basic h j w e = ap (λ (b : Bool). if b then h.entry j w else if j == w then whole (pos 1) else whole (pos 0)) e

pub column_entry-itself : (h : Choice) (w : ℕ) → h.basic w ≡ false → column_entry h w w ≡ whole (pos 1)
unfolding column_entry
column_entry-itself h w e = ap (λ (b : Bool). if b then h.entry w w else if w == w then whole (pos 1) else whole (pos 0)) e ∙ put_at-here w (whole (pos 1)) (λ _. whole (pos 0)) w refl

pub column_entry-other : (h : Choice) (j w : ℕ) → h.basic j ≡ false → j ≢ w → column_entry h j w ≡ whole (pos 0)
unfolding column_entry
column_entry-other h j w e n = ap (λ (b : Bool). if b then h.entry j w else if j == w then whole (pos 1) else whole (pos 0)) e ∙ put_at-elsewhere w (whole (pos 1)) (λ _. whole (pos 0)) j n

-- the point at which the other variable w is 1 and the rest of the others 0
unfoldable pub unit_point : Choice → ℕ → ℕ → Fraction
unit_point h w j = column_entry h j w

module _ (s : System) (distinct : Distinct s.variables) where
  -- a sum over the others at that point is one term
  pub at_unit : (h : Choice) (f : ℕ → Fraction) (w : ℕ) → Contains (others s h) w → sum_by (λ o. f o *ℚ unit_point h w o) (others s h) ≡ f w
  unfolding unit_point
  at_unit h f w c =
      sum_by-one (λ o. f o *ℚ column_entry h o w) w (others s h) (others_distinct s h distinct) c
      (λ o k n. ap (λ t. f o *ℚ t) (column_entry-other h o w (others_are s h o k).1 n) ∙ by_ring ring_ℚ (f o ∷ []) (pmul (at 0) pnil) pnil refl)
      ∙ ap (λ t. f w *ℚ t) (column_entry-itself h w (others_are s h w c).1) ∙ ring_ℚ.times_one (f w)

  pub unit_meets : (h : Choice) (w : ℕ) → Contains (others s h) w → MeetsTable s h (unit_point h w)
  unfolding unit_point
  unit_meets h w c = record { basic = λ b k. column_entry-basic h b w (basics_are s h b k).1 ∙ sym (at_unit h (h.entry b) w c) }

  -- choices with the same basic variables have the same others
  pub same_others : (f g : Choice) → ((x : ℕ) → Contains s.variables x → f.basic x ≡ g.basic x) → others s f ≡ others s g
  unfolding others
  same_others f g e = filter-members (λ x. not (f.basic x)) (λ x. not (g.basic x)) s.variables (λ x c. ap not (e x c))

  pub same_basics : (f g : Choice) → ((x : ℕ) → Contains s.variables x → f.basic x ≡ g.basic x) → basics s f ≡ basics s g
  unfolding basics
  same_basics f g e = filter-members f.basic g.basic s.variables e

  same_table : (h k : Choice) → ((w : ℕ) → Contains s.variables w → h.basic w ≡ k.basic w) → ((b w : ℕ) → Contains (basics s h) b → Contains (others s h) w → h.entry b w ≡ k.entry b w)
      → (v : ℕ → Fraction) (b : ℕ) → Contains (basics s h) b → sum_by (λ w. h.entry b w *ℚ v w) (others s h) ≡ sum_by (λ w. k.entry b w *ℚ v w) (others s k)
  same_table h k same entries v b c =
      sum_by-members (λ w. h.entry b w *ℚ v w) (λ w. k.entry b w *ℚ v w) (others s h) (λ w m. ap (λ t. t *ℚ v w) (entries b w c m))
      ∙ ap (sum_by (λ w. k.entry b w *ℚ v w)) (same_others h k same)

  -- the same split with the same entries is a choice too
  pub same_choice : (h k : Choice) → ((w : ℕ) → Contains s.variables w → h.basic w ≡ k.basic w) → ((b w : ℕ) → Contains (basics s h) b → Contains (others s h) w → h.entry b w ≡ k.entry b w)
      → IsChoice s h → IsChoice s k
  same_choice h k same entries choice = record {
    to_table = λ v m. record {
      basic = λ b c.
          let old : Contains (basics s h) b = subst (λ bs. Contains bs b) (sym (same_basics h k same)) c in
          (choice.to_table v m).basic b old ∙ same_table h k same entries v b old;
    };
    to_rows = λ v m. choice.to_rows v (record {
      basic = λ b c. m.basic b (subst (λ bs. Contains bs b) (same_basics h k same) c) ∙ sym (same_table h k same entries v b c);
    });
  }

  -- The entries of a split are unique: two choices with the same basic variables have the same entries.
  pub entries_are_one : (h k : Choice) → IsChoice s h → IsChoice s k → ((w : ℕ) → Contains s.variables w → h.basic w ≡ k.basic w)
      → (b w : ℕ) → Contains (basics s h) b → Contains (others s h) w → h.entry b w ≡ k.entry b w
  unfolding unit_point
  entries_are_one h k hh hk same b w cb cw =
      let basic : h.basic b ≡ true = (basics_are s h b cb).1 in
      let in_k : Contains (basics s k) b = is_basic s k b (basics_are s h b cb).0 (sym (same b (basics_are s h b cb).0) ∙ basic) in
      sym (column_entry-basic h b w basic)
      ∙ (hk.to_table (unit_point h w) (hh.to_rows (unit_point h w) (unit_meets h w cw))).basic b in_k
      ∙ ap (λ os. sum_by (λ o. k.entry b o *ℚ column_entry h o w) os) (same_others k h (λ x c. sym (same x c)))
      ∙ at_unit h (k.entry b) w cw

  -- The values of the others fix all: two solutions that agree on the others agree on every variable.
  pub others_fix_all : (h : Choice) → IsChoice s h → (v u : ℕ → Fraction) → MeetsRows s v → MeetsRows s u
      → ((w : ℕ) → Contains (others s h) w → v w ≡ u w) → (w : ℕ) → Contains s.variables w → v w ≡ u w
  others_fix_all h hh v u mv mu same w c = by_bool (h.basic w)
      (λ e. (hh.to_table v mv).basic w (is_basic s h w c e)
      ∙ sum_by-members (λ o. h.entry w o *ℚ v o) (λ o. h.entry w o *ℚ u o) (others s h) (λ o k. ap (λ t. h.entry w o *ℚ t) (same o k))
      ∙ sym ((hh.to_table u mu).basic w (is_basic s h w c e)))
      (λ e. same w (is_other s h w c e))

  -- the point with these values of the others
  pub solution : Choice → (ℕ → Fraction) → ℕ → Fraction
  solution h t w = if h.basic w then sum_by (λ o. h.entry w o *ℚ t o) (others s h) else t w

  pub solution_keeps : (h : Choice) (t : ℕ → Fraction) (w : ℕ) → Contains (others s h) w → solution h t w ≡ t w
  unfolding solution
  solution_keeps h t w c = ap (λ (b : Bool). if b then sum_by (λ o. h.entry w o *ℚ t o) (others s h) else t w) (others_are s h w c).1

  -- whatever values the others take, there is a solution with these
  pub solution_meets : (h : Choice) → IsChoice s h → (t : ℕ → Fraction) → MeetsRows s (solution h t)
  unfolding solution
  solution_meets h hh t = hh.to_rows (solution h t) (record {
    basic = λ b c.
        ap (λ (x : Bool). if x then sum_by (λ o. h.entry b o *ℚ t o) (others s h) else t b) (basics_are s h b c).1
        ∙ sum_by-members (λ o. h.entry b o *ℚ t o) (λ o. h.entry b o *ℚ solution h t o) (others s h) (λ o k. ap (λ z. h.entry b o *ℚ z) (sym (solution_keeps h t o k)));
  })

  -- the values of a choice are a solution
  pub value_meets : (h : Choice) → IsChoice s h → MeetsRows s (value s h)
  unfolding value value_terms
  value_meets h hh = hh.to_rows (value s h) (record {
    basic = λ b c.
        ap (λ (x : Bool). if x then total (value_terms s h b) else at_bound s h b) (basics_are s h b c).1
        ∙ total-Product (λ w. h.entry b w) (λ w. at_bound s h w) (others s h)
        ∙ sum_by-members (λ o. h.entry b o *ℚ at_bound s h o) (λ o. h.entry b o *ℚ value s h o) (others s h)
        (λ o k. ap (λ z. h.entry b o *ℚ z) (sym (ap (λ (x : Bool). if x then total (value_terms s h o) else at_bound s h o) (others_are s h o k).1)));
  })

  -- every variable by the others, at a point that meets the table
  pub by_others : (h : Choice) (v : ℕ → Fraction) → MeetsTable s h v → (j : ℕ) → Contains s.variables j → v j ≡ sum_by (λ w. column_entry h j w *ℚ v w) (others s h)
  by_others h v m j c = by_bool (h.basic j)
      (λ e. m.basic j (is_basic s h j c e) ∙ sum_by-same (λ w. h.entry j w *ℚ v w) (λ w. column_entry h j w *ℚ v w) (others s h) (λ w. ap (λ t. t *ℚ v w) (sym (column_entry-basic h j w e))))
      (λ e. sym
      (sum_by-one (λ w. column_entry h j w *ℚ v w) j (others s h) (others_distinct s h distinct) (is_other s h j c e)
      (λ w k n. ap (λ t. t *ℚ v w) (column_entry-other h j w e (λ d. n (sym d))) ∙ by_ring ring_ℚ (v w ∷ []) (pmul pnil (at 0)) pnil refl)
      ∙ ap (λ t. t *ℚ v j) (column_entry-itself h j e) ∙ by_ring ring_ℚ (v j ∷ []) (pmul pone (at 0)) (at 0) refl))

  -- a sum over variables, by the others
  pub sum_by_others : (h : Choice) (v : ℕ → Fraction) → MeetsTable s h v → (f : ℕ → Fraction) (js : List ℕ) → ((j : ℕ) → Contains js j → Contains s.variables j)
      → sum_by (λ j. f j *ℚ v j) js ≡ sum_by (λ w. sum_by (λ j. f j *ℚ column_entry h j w) js *ℚ v w) (others s h)
  sum_by_others h v m f js c =
      sum_by-members (λ j. f j *ℚ v j) (λ j. sum_by (λ w. f j *ℚ column_entry h j w *ℚ v w) (others s h)) js
      (λ j k. ap (λ t. f j *ℚ t) (by_others h v m j (c j k))
      ∙ sym (sum_by-times (f j) (λ w. column_entry h j w *ℚ v w) (others s h))
      ∙ sum_by-same (λ w. f j *ℚ (column_entry h j w *ℚ v w)) (λ w. f j *ℚ column_entry h j w *ℚ v w) (others s h) (λ w. sym (ring_ℚ.times_assoc (f j) (column_entry h j w) (v w))))
      ∙ sum_by-exchange (λ j w. f j *ℚ column_entry h j w *ℚ v w) js (others s h)
      ∙ sum_by-same (λ w. sum_by (λ j. f j *ℚ column_entry h j w *ℚ v w) js) (λ w. sum_by (λ j. f j *ℚ column_entry h j w) js *ℚ v w) (others s h)
      (λ w. sum_by-same (λ j. f j *ℚ column_entry h j w *ℚ v w) (λ j. v w *ℚ (f j *ℚ column_entry h j w)) js (λ j. ring_ℚ.times_comm (f j *ℚ column_entry h j w) (v w))
      ∙ sum_by-times (v w) (λ j. f j *ℚ column_entry h j w) js
      ∙ ring_ℚ.times_comm (v w) (sum_by (λ j. f j *ℚ column_entry h j w) js))

module _ (s : System) (system : IsSystem s) (h : Choice) (choice : IsChoice s h) where
  distinct : Distinct s.variables
  distinct = Distinct-increasing s.variables system.ascending

  -- the objective by the others: its coefficients are the reduced prices
  pub objective_by_others : (v : ℕ → Fraction) → MeetsRows s v → objective s v ≡ sum_by (λ w. reduced s h w *ℚ v w) (others s h)
  unfolding objective reduced reduced_terms
  objective_by_others v m =
      sum_by_others s distinct h v (choice.to_table v m) s.price s.columns system.column
      ∙ sum_by-members (λ w. sum_by (λ j. s.price j *ℚ column_entry h j w) s.columns *ℚ v w) (λ w. reduced s h w *ℚ v w) (others s h)
      (λ w k. ap (λ t. t *ℚ v w)
      (sym (ap (λ (b : Bool). if b then whole (pos 0) else total (reduced_terms s h w)) (others_are s h w k).1 ∙ total-Product s.price (λ j. column_entry h j w) s.columns)))

  -- Reduced prices are the only coefficients of the others that give the objective at every solution.
  pub reduced_is_one : (d : ℕ → Fraction) → ((v : ℕ → Fraction) → MeetsRows s v → objective s v ≡ sum_by (λ w. d w *ℚ v w) (others s h))
      → (w : ℕ) → Contains (others s h) w → d w ≡ reduced s h w
  unfolding unit_point
  reduced_is_one d identity w c =
      let meets : MeetsRows s (unit_point h w) = choice.to_rows (unit_point h w) (unit_meets s distinct h w c) in
      sym (at_unit s distinct h d w c) ∙ sym (identity (unit_point h w) meets) ∙ objective_by_others (unit_point h w) meets ∙ at_unit s distinct h (reduced s h) w c

  -- A row's entry is the named sum of its coefficients times the entries of the columns.
  pub row_entry : (r w : ℕ) → Contains s.rows r → Contains (others s h) w → total (row_entry_terms s h r w) ≡ column_entry h r w
  unfolding row_entry_terms unit_point activity
  row_entry r w k c =
      total-Product (s.coefficient r) (λ j. column_entry h j w) s.columns
      ∙ sym ((choice.to_rows (unit_point h w) (unit_meets s distinct h w c)).row r k)

  -- the activity of a row by the others, also of a row that the system does not have
  pub activity_by_others : (v : ℕ → Fraction) → MeetsRows s v → (r : ℕ) → activity s v r ≡ sum_by (λ w. total (row_entry_terms s h r w) *ℚ v w) (others s h)
  unfolding row_entry_terms activity
  activity_by_others v m r =
      sum_by_others s distinct h v (choice.to_table v m) (s.coefficient r) s.columns system.column
      ∙ sum_by-same (λ w. sum_by (λ j. s.coefficient r j *ℚ column_entry h j w) s.columns *ℚ v w) (λ w. total (row_entry_terms s h r w) *ℚ v w) (others s h)
      (λ w. ap (λ t. t *ℚ v w) (sym (total-Product (s.coefficient r) (λ j. column_entry h j w) s.columns)))
