-- Reading and writing a flat list as a table.
use Rattle.std.specs.Prelude.{◌≡◌, ℕ, ◌+◌, ◌*◌, ◌/◌, ◌%◌, ◌<◌, ◌≤◌, pos, List, [], ◌∷◌, length, map, slice_set, ◌⊎◌, refl}
use Rattle.std.specs.List.{range_with_len}
use Rattle.std.proofs.Common.{zero, suc, arith, ap, sym, ◌∙◌, inl, inr, get_or}
use Rattle.std.proofs.lemmas.List.{get_or-map, length-map, length-set, get_or-set_same, get_or-set_other, same_lists}
use Rattle.std.proofs.lemmas.List.FromFn.{get_or-map-range_with_len, length-map-range_with_len}
use Rattle.std.proofs.lemmas.Nat.{div-mul-add, mod-mul-add}
use Rattle.std.proofs.Math.Nat.{mul-le-mul_right, div-add-mod, mod-lt}
use mathlib.Core.Path.{ap₂}
use Rattle.fraction_theory.specs.Fraction.{Fraction, whole}
use Rattle.fraction_theory.proofs.ListSums.{same_or_not}
use Rattle.linear_dict.proofs.NameLemmas.{lt_or_le}
use Rattle.linear_dict.specs.Tables.{cell, table_of, Shows}

-- a cell's flat place is in the list
pub within : (rows columns i j : ℕ) → i < rows → j < columns → i * columns + j < rows * columns
within rows columns i j hi hj =
    let a : suc i * columns ≤ rows * columns = mul-le-mul_right columns hi in
    let b : suc i * columns ≡ i * columns + columns = Prim.omega arith in
    Prim.omega (arith, a, b)

-- flat places are those of one cell alone
pub same_place : (columns i j i' j' : ℕ) → j < columns → j' < columns → i * columns + j ≡ i' * columns + j' → (i ≡ i') × (j ≡ j')
same_place columns i j i' j' hj hj' e = (
  sym (div-mul-add i columns j hj) ∙ ap (λ (t : ℕ). t / columns) e ∙ div-mul-add i' columns j' hj',
  sym (mod-mul-add i columns j hj) ∙ ap (λ (t : ℕ). t % columns) e ∙ mod-mul-add i' columns j' hj',
)

pub shows_itself : (rows columns : ℕ) (xs : List Fraction) → length xs ≡ rows * columns → Shows rows columns xs (cell columns xs)
shows_itself rows columns xs e = record { count = e; at = λ i j hi hj. refl }

pub shows_same : (rows columns : ℕ) (xs : List Fraction) (f g : ℕ → ℕ → Fraction) → Shows rows columns xs f → ((i j : ℕ) → i < rows → j < columns → f i j ≡ g i j) → Shows rows columns xs g
shows_same rows columns xs f g s e = record { count = s.count; at = λ i j hi hj. s.at i j hi hj ∙ e i j hi hj }

-- one number written
pub shows_set : (rows columns : ℕ) (xs : List Fraction) (f g : ℕ → ℕ → Fraction) (r c : ℕ) (x : Fraction) → Shows rows columns xs f → r < rows → c < columns
    → g r c ≡ x → ((i j : ℕ) → ¬ ((i ≡ r) × (j ≡ c)) → f i j ≡ g i j) → Shows rows columns (slice_set xs (r * columns + c) x) g
unfolding cell
shows_set rows columns xs f g r c x s hr hc here other = record {
  count = length-set xs (r * columns + c) x ∙ s.count;
  at = λ i j hi hj. elim (both i j) [
    | inl e ↦ ap (λ (k : ℕ). get_or (slice_set xs (r * columns + c) x) k (whole (pos 0))) (ap₂ (λ (a b : ℕ). a * columns + b) e.0 e.1)
        ∙ get_or-set_same xs (r * columns + c) x (whole (pos 0)) (Prim.omega (arith, within rows columns r c hr hc, s.count))
        ∙ sym here ∙ ap₂ g (sym e.0) (sym e.1)
    | inr n ↦ get_or-set_other xs (r * columns + c) (i * columns + j) x (whole (pos 0)) (λ e. n (same_place columns i j r c hj hc e))
        ∙ s.at i j hi hj ∙ other i j n
  ];
}
  where
    both : (i j : ℕ) → ((i ≡ r) × (j ≡ c)) ⊎ (¬ ((i ≡ r) × (j ≡ c)))
    both i j = elim (same_or_not i r) [
      | inl e ↦ elim (same_or_not j c) [ inl d ↦ inl (e, d) | inr n ↦ inr (λ p. n p.1) ]
      | inr n ↦ inr (λ p. n p.0)
    ]

-- a list is the table that it shows
pub shows_is : (rows columns : ℕ) (xs : List Fraction) (f : ℕ → ℕ → Fraction) → Shows rows columns xs f → xs ≡ table_of rows columns f
unfolding table_of cell
shows_is rows columns xs f s =
    let g : ℕ → Fraction = λ k. f (k / columns) (k % columns) in
    same_lists xs (map g (range_with_len 0 (rows * columns))) (s.count ∙ sym (length-map-range_with_len g 0 (rows * columns)))
    (λ k d h.
    let below : k < rows * columns = Prim.omega (arith, h, s.count) in
    let some : 0 < columns = above rows columns k below in
    let split : columns * (k / columns) + k % columns ≡ k = div-add-mod k columns in
    let flat : k / columns * columns + k % columns ≡ k = Prim.omega (arith, split) in
    let low : k % columns < columns = mod-lt k some in
    let row : k / columns < rows = row_below rows columns k (k / columns) (k % columns) flat below in
    get_or_any xs k d (whole (pos 0)) h
    ∙ ap (λ (t : ℕ). get_or xs t (whole (pos 0))) (sym flat)
    ∙ s.at (k / columns) (k % columns) row low
    ∙ sym (get_or-map-range_with_len g 0 (rows * columns) k k d below (Prim.omega arith)))
  where
    above : (rows columns k : ℕ) → k < rows * columns → 0 < columns
    above rows zero k h = absurd (Prim.omega arith)
    above rows (suc n) k h = Prim.omega arith

    row_below : (rows columns k q m : ℕ) → q * columns + m ≡ k → k < rows * columns → q < rows
    row_below rows columns k q m e h = elim (lt_or_le q rows) [
      | inl l ↦ l
      | inr l ↦ let a : rows * columns ≤ q * columns = mul-le-mul_right columns l in absurd (Prim.omega (arith, a, e, h))
    ]

    get_or_any : (ys : List Fraction) (k : ℕ) (d e : Fraction) → k < length ys → get_or ys k d ≡ get_or ys k e
    get_or_any [] k d e h = absurd (Prim.omega arith)
    get_or_any (y ∷ ys) zero d e h = refl
    get_or_any (y ∷ ys) (suc k) d e h = get_or_any ys k d e (Prim.omega arith)

pub shows_table : (rows columns : ℕ) (f : ℕ → ℕ → Fraction) → Shows rows columns (table_of rows columns f) f
unfolding table_of cell
shows_table rows columns f =
    let g : ℕ → Fraction = λ k. f (k / columns) (k % columns) in record {
      count = length-map-range_with_len g 0 (rows * columns);
      at = λ i j hi hj.
          get_or-map-range_with_len g 0 (rows * columns) (i * columns + j) (i * columns + j) (whole (pos 0)) (within rows columns i j hi hj) (Prim.omega arith)
          ∙ ap₂ f (div-mul-add i columns j hj) (mod-mul-add i columns j hj);
    }

-- a number read in code is the value in the table
pub cell_read : {N : Type 0} (value : N → Fraction) (xs : List N) (rows columns i j : ℕ) (x : N) → length (map value xs) ≡ rows * columns → i < rows → j < columns
    → x ≡ get_or xs (i * columns + j) x → value x ≡ cell columns (map value xs) i j
unfolding cell
cell_read value xs rows columns i j x e hi hj is =
    ap value is ∙ sym (get_or-map value xs (i * columns + j) x (whole (pos 0)) (Prim.omega (arith, within rows columns i j hi hj, e, length-map xs value)))

pub cell_read_within : {N : Type 0} (value : N → Fraction) (xs : List N) (columns i j : ℕ) (x : N) → i * columns + j < length xs → x ≡ get_or xs (i * columns + j) x → value x ≡ cell columns (map value xs) i j
unfolding cell
cell_read_within value xs columns i j x h is = ap value is ∙ sym (get_or-map value xs (i * columns + j) x (whole (pos 0)) h)
