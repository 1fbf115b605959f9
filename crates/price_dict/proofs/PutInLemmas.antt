-- The coefficients of a dictionary's system, as its rows are put in.
use Rattle.std.specs.Prelude.{◌≡◌, ℕ, ◌+◌, ◌*◌, ◌<◌, pos, List, [], ◌∷◌, ◌++◌, length, map, slice_index, Contains}
use Rattle.std.proofs.Common.{arith, ap, ap₂, sym, ◌∙◌, get_or}
use Rattle.std.proofs.lemmas.List.{length-append, get_or_append_left, get_or-append-add}
use Rattle.fraction_theory.specs.Fraction.{Fraction, whole}
use Rattle.linear_dict.specs.Dictionaries.{Dictionary, IsDictionary, IsStart, AddsRow, system_in}
use Rattle.linear_dict.specs.Places.{place_in}
use Rattle.linear_dict.specs.Tables.{cell}
use Rattle.linear_dict.proofs.NameLemmas.{place_in-at, place_in-within}
use Rattle.linear_dict.proofs.TableLemmas.{within}

abbrev nil : Fraction
nil = whole (pos 0)

-- by the places of a row and a column
module _ (d : Dictionary) (sound : IsDictionary d) where
  by_places : (i k r j : ℕ) → i < length d.rows → slice_index d.rows i ≡ r → k < length d.columns → slice_index d.columns k ≡ j → (system_in d).coefficient r j ≡ cell (length d.columns) d.coefficients i k
  unfolding system_in
  by_places i k r j hi at_i hk at_k = ap₂ (cell (length d.columns) d.coefficients) (place_in-at d.rows i r sound.put_in.first_distinct hi at_i) (place_in-at d.columns k j sound.put_in.second_distinct hk at_k)

-- of the first row
pub start_coefficient : {N : Type 0} (value : N → Fraction) (names : List ℕ) (row : ℕ) (entries : List N) (d : Dictionary) → IsStart value names row entries d
    → (k : ℕ) → k < length names → (system_in d).coefficient row (slice_index names k) ≡ get_or (map value entries) k nil
unfolding cell
start_coefficient value names row entries d start k lt =
    let wide : length d.columns ≡ length names = ap length start.columns in
    let long : length d.rows ≡ 1 = ap length start.rows in
    let first : 0 * length d.columns + k ≡ k = Prim.omega arith in
    by_places d start.sound 0 k row (slice_index names k) (Prim.omega (arith, long)) (ap (λ (rs : List ℕ). slice_index rs 0) start.rows) (Prim.omega (arith, wide, lt)) (ap (λ (cs : List ℕ). slice_index cs k) start.columns)
    ∙ ap₂ (λ (xs : List Fraction) (i : ℕ). get_or xs i nil) start.coefficients first

-- with a row more: of the rows before it, and of this one
module _ {N : Type 0} (value : N → Fraction) (old new : Dictionary) (row : ℕ) (entries : List N) (sound : IsDictionary old) (adds : AddsRow value old row entries new) where
  row_count : length new.rows ≡ length old.rows + 1
  row_count = ap length adds.rows ∙ length-append old.rows (row ∷ [])

  wide : length new.columns ≡ length old.columns
  wide = ap length adds.columns

  pub kept_coefficient : (r j : ℕ) → Contains old.rows r → Contains old.columns j → (system_in new).coefficient r j ≡ (system_in old).coefficient r j
  unfolding cell
  kept_coefficient r j c k =
      let p = place_in-within old.rows r c in
      let q = place_in-within old.columns j k in
      let i : ℕ = place_in old.rows r in
      let l : ℕ = place_in old.columns j in
      let inside : i * length old.columns + l < length old.coefficients = Prim.omega (arith, within (length old.rows) (length old.columns) i l p.0 q.0, sound.coefficient_count) in
      by_places new adds.sound i l r j (Prim.omega (arith, row_count, p.0)) (ap (λ (rs : List ℕ). slice_index rs i) adds.rows ∙ get_or_append_left old.rows (row ∷ []) 0 i p.0 ∙ p.1)
      (Prim.omega (arith, wide, q.0)) (ap (λ (cs : List ℕ). slice_index cs l) adds.columns ∙ q.1)
      ∙ ap₂ (λ (n : ℕ) (xs : List Fraction). get_or xs (i * n + l) nil) wide adds.coefficients
      ∙ get_or_append_left old.coefficients (map value entries) nil (i * length old.columns + l) inside
      ∙ sym (by_places old sound i l r j p.0 p.1 q.0 q.1)

  pub added_coefficient : (k : ℕ) → k < length old.columns → (system_in new).coefficient row (slice_index old.columns k) ≡ get_or (map value entries) k nil
  unfolding cell
  added_coefficient k lt =
      let last : length old.rows ≡ length old.rows + 0 = Prim.omega arith in
      let place : length old.rows * length old.columns + k ≡ length old.coefficients + k = Prim.omega (arith, sound.coefficient_count) in
      by_places new adds.sound (length old.rows) k row (slice_index old.columns k) (Prim.omega (arith, row_count))
      (ap₂ (λ (rs : List ℕ) (i : ℕ). slice_index rs i) adds.rows last ∙ get_or-append-add old.rows (row ∷ []) 0 0)
      (Prim.omega (arith, wide, lt)) (ap (λ (cs : List ℕ). slice_index cs k) adds.columns)
      ∙ ap₂ (λ (n : ℕ) (xs : List Fraction). get_or xs (length old.rows * n + k) nil) wide adds.coefficients
      ∙ ap (λ (i : ℕ). get_or (old.coefficients ++ map value entries) i nil) place
      ∙ get_or-append-add old.coefficients (map value entries) k nil
