-- A dictionary that is posed as variables are held, at a price of 1 for one column, has the system of the face.
use Rattle.std.specs.Prelude.{◌≡◌, ℕ, ◌<◌, ◌+◌, ◌++◌, pos, List, filter, length, map, slice_index, slice_index_or, refl}
use Rattle.std.specs.List.{All, Contains}
use Rattle.std.proofs.Common.{arith, ap, ap₂, sym, ◌∙◌, subst, subst₂, inl, inr}
use Rattle.std.proofs.lemmas.Grind.{get_or_default_zero}
use Rattle.std.proofs.lemmas.List.{get_or-append-add, get_or-map, get_or_append_left, length-append, length-map}
use Rattle.fraction_theory.specs.Fraction.{Fraction, whole}
use Rattle.fraction_theory.specs.Order.{◌≤ℚ◌}
use Rattle.fraction_theory.proofs.ListSums.{Contains-from_filter}
use Rattle.linear_dict.specs.Dictionaries.{Dictionary, IsDictionary, system_in}
use Rattle.linear_dict.specs.Places.{is_among, place_in}
use Rattle.linear_dict.specs.Tables.{cell}
use Rattle.linear_dict.proofs.NameLemmas.{among-from, place_in-within}
use Rattle.linear_system.specs.SameSystems.{SameRows, SameSystem}
use Rattle.linear_system.specs.Systems.{System}
use Rattle.optimal_face.specs.Faces.{Held, held_at, price_of_one}
use Rattle.simplex_core.specs.Posings.{IsPosing}
use Rattle.simplex_core.specs.declared.bounds.Bounds.{Bounds}

-- what stands at the place of a name in a list that a function makes of names, of which the first are these, or those behind them
module _ (f : ℕ → Fraction) (z : Fraction) where
  pub at_name : (xs : List ℕ) (w : ℕ) → Contains xs w → slice_index_or (map f xs) (place_in xs w) z ≡ f w
  at_name xs w c =
      let at = place_in-within xs w c in
      get_or-map f xs (place_in xs w) 0 z at.0 ∙ ap f at.1

  at_first : (xs ys : List ℕ) (w : ℕ) → Contains xs w → slice_index_or (map f (xs ++ ys)) (place_in xs w) z ≡ f w
  at_first xs ys w c =
      let at = place_in-within xs w c in
      get_or-map f (xs ++ ys) (place_in xs w) 0 z (Prim.omega (arith, at.0, length-append xs ys))
      ∙ ap f (get_or_append_left xs ys 0 (place_in xs w) at.0 ∙ at.1)

  at_second : (xs ys : List ℕ) (w : ℕ) → Contains ys w → slice_index_or (map f (xs ++ ys)) (length xs + place_in ys w) z ≡ f w
  at_second xs ys w c =
      let at = place_in-within ys w c in
      get_or-map f (xs ++ ys) (length xs + place_in ys w) 0 z (Prim.omega (arith, at.0, length-append xs ys))
      ∙ ap f (get_or-append-add xs ys (place_in ys w) 0 ∙ at.1)

-- a dictionary with the same columns and rows
pub same_put : (d e : Dictionary) → e.names ≡ d.names → e.columns ≡ d.columns → e.rows ≡ d.rows → e.coefficients ≡ d.coefficients → SameRows (system_in e) (system_in d)
unfolding system_in
same_put d e names columns rows coefficients = record {
  variables = names;
  columns = ap₂ (λ (cs ns : List ℕ). filter (is_among cs) ns) columns names;
  rows = ap₂ (λ (rs ns : List ℕ). filter (is_among rs) ns) rows names;
  coefficient = λ r j c k.
      ap (λ (cs : List ℕ). cell (length cs) e.coefficients (place_in e.rows r) (place_in cs j)) columns
      ∙ ap₂ (λ (rs : List ℕ) (ks : List Fraction). cell (length d.columns) ks (place_in rs r) (place_in d.columns j)) rows coefficients;
}

module _ {N : Type 0} (value : N → Fraction) (d e : Dictionary) (h : IsDictionary d) (held : Held) (j : ℕ) (prices : List N) (bounds : List (Bounds N))
    (posing : IsPosing value d prices bounds e) (priced : map value prices ≡ map (price_of_one j) d.columns)
    (lows : map (λ (b : Bounds N). value b.low) bounds ≡ map (held_at (system_in d) held (price_of_one j)).low (d.columns ++ d.rows))
    (highs : map (λ (b : Bounds N). value b.high) bounds ≡ map (held_at (system_in d) held (price_of_one j)).high (d.columns ++ d.rows)) where
  abbrev face : System
  face = held_at (system_in d) held (price_of_one j)

  price_is : (w : ℕ) → Contains d.columns w → (system_in e).price w ≡ price_of_one j w
  price_is w c =
      let at = place_in-within d.columns w c in
      ap (system_in e).price (sym at.1) ∙ posing.price (place_in d.columns w) at.0
      ∙ ap (λ (xs : List Fraction). slice_index_or xs (place_in d.columns w) (whole (pos 0))) priced ∙ at_name (price_of_one j) (whole (pos 0)) d.columns w c

  -- a bound of a column and of a row
  bound_is : (has bound : ℕ → Fraction) (numbers : List Fraction) → numbers ≡ map bound (d.columns ++ d.rows)
      → ((k : ℕ) → k < length d.columns → has (slice_index d.columns k) ≡ slice_index_or numbers k (whole (pos 0)))
      → ((k : ℕ) → k < length d.rows → has (slice_index d.rows k) ≡ slice_index_or numbers (length d.columns + k) (whole (pos 0)))
      → (w : ℕ) → Contains d.names w → has w ≡ bound w
  bound_is has bound numbers list column row w c = elim (h.put_in.either w c) [
    | inl k ↦
        let at = place_in-within d.rows w k in
        ap has (sym at.1) ∙ row (place_in d.rows w) at.0 ∙ ap (λ (xs : List Fraction). slice_index_or xs (length d.columns + place_in d.rows w) (whole (pos 0))) list
        ∙ at_second bound (whole (pos 0)) d.columns d.rows w k
    | inr k ↦
        let at = place_in-within d.columns w k in
        ap has (sym at.1) ∙ column (place_in d.columns w) at.0 ∙ ap (λ (xs : List Fraction). slice_index_or xs (place_in d.columns w) (whole (pos 0))) list
        ∙ at_first bound (whole (pos 0)) d.columns d.rows w k
  ]

  in_columns : (w : ℕ) → Contains (system_in e).columns w → Contains d.columns w
  unfolding system_in
  in_columns w c = subst (λ (ws : List ℕ). Contains ws w) posing.columns (among-from e.columns w (Contains-from_filter (is_among e.columns) e.names w c).1)

  in_names : (w : ℕ) → Contains (system_in e).variables w → Contains d.names w
  unfolding system_in
  in_names w c = subst (λ (ws : List ℕ). Contains ws w) posing.names c

  face_rows : SameRows (system_in e) (held_at (system_in d) held (price_of_one j))
  unfolding held_at
  face_rows =
      let same : SameRows (system_in e) (system_in d) = same_put d e posing.names posing.columns posing.rows posing.coefficients in
      record { variables = same.variables; columns = same.columns; rows = same.rows; coefficient = same.coefficient }

  pub posed_face : SameSystem (system_in e) (held_at (system_in d) held (price_of_one j))
  unfolding held_at
  posed_face = record {
    same_rows = face_rows;
    price = λ w c. price_is w (in_columns w c) ∙ face_price w;
    low = λ w c. bound_is (system_in e).low face.low (map (λ (b : Bounds N). value b.low) bounds) lows posing.column_low posing.row_low w (in_names w c);
    high = λ w c. bound_is (system_in e).high face.high (map (λ (b : Bounds N). value b.high) bounds) highs posing.column_high posing.row_high w (in_names w c);
  }
    where
      face_price : (w : ℕ) → price_of_one j w ≡ (held_at (system_in d) held (price_of_one j)).price w
      face_price w = refl

-- the low bounds are at most the high ones, where they are so in the system
pub bounds_in_order : {N : Type 0} (value : N → Fraction) (s : System) (names : List ℕ) (bounds : List (Bounds N)) → ((w : ℕ) → Contains names w → s.low w ≤ℚ s.high w)
    → map (λ (b : Bounds N). value b.low) bounds ≡ map s.low names → map (λ (b : Bounds N). value b.high) bounds ≡ map s.high names → All (λ b. value b.low ≤ℚ value b.high) bounds
bounds_in_order {N} value s names bounds order lows highs k b lt =
    let size : length bounds ≡ length names = sym (length-map bounds (λ (b : Bounds N). value b.low)) ∙ ap length lows ∙ length-map names s.low in
    let inside : k < length names = Prim.omega (arith, lt, size) in
    subst₂ ◌≤ℚ◌
    (sym (get_or-map s.low names k 0 (whole (pos 0)) inside) ∙ ap (λ (xs : List Fraction). slice_index_or xs k (whole (pos 0))) (sym lows) ∙ get_or-map (λ (b : Bounds N). value b.low) bounds k b (whole (pos 0)) lt)
    (sym (get_or-map s.high names k 0 (whole (pos 0)) inside) ∙ ap (λ (xs : List Fraction). slice_index_or xs k (whole (pos 0))) (sym highs) ∙ get_or-map (λ (b : Bounds N). value b.high) bounds k b (whole (pos 0)) lt)
    (order (slice_index names k) (k, inside, get_or_default_zero names k (slice_index names k) inside))
