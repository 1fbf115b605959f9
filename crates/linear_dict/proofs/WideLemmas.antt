-- Rows of a table that move, from the last to the first, to where they stand with one more column.
use Rattle.std.specs.Prelude.{◌≡◌, ℕ, ◌+◌, ◌*◌, ◌-◌, ◌<◌, ◌≤◌, pos, List, [], ◌∷◌, ◌++◌, length, map, slice_set, refl}
use Rattle.std.proofs.Common.{zero, suc, arith, ap, sym, ◌∙◌, inl, inr, get_or}
use Rattle.std.proofs.Math.Nat.{mul-le-mul_right}
use Rattle.std.proofs.lemmas.List.{get_or_append_left, get_or-set_same, get_or-set_other, length-append, length-map}
use Rattle.fraction_theory.specs.Fraction.{Fraction, whole}
use Rattle.linear_dict.specs.Tables.{cell, widened, widened_cell}
use Rattle.linear_dict.proofs.ColumnLemmas.{widened_cell-new, widened_cell-old}
use Rattle.linear_dict.proofs.NameLemmas.{lt_or_le}
use Rattle.linear_dict.proofs.TableLemmas.{shows_is, within}

abbrev nil : Fraction
nil = whole (pos 0)

-- n items were copied to a place, and those before a place or from one on stay
abbrev CopiedTo : {X : Type 0} → List X → List X → ℕ → ℕ → ℕ → Type 0
CopiedTo {X} xs ys from to n = (k : ℕ) (d : X) → to ≤ k → k < to + n → get_or ys k d ≡ get_or xs (from + (k - to)) d

abbrev SameBelow : {X : Type 0} → List X → List X → ℕ → Type 0
SameBelow {X} xs ys n = (k : ℕ) (d : X) → k < n → get_or ys k d ≡ get_or xs k d

abbrev SameFrom : {X : Type 0} → List X → List X → ℕ → Type 0
SameFrom {X} xs ys n = (k : ℕ) (d : X) → n ≤ k → get_or ys k d ≡ get_or xs k d

-- what a mapped list has at a place, past its end too
mapped_at : {X Y : Type 0} (f : X → Y) (xs : List X) (k : ℕ) (d : X) → get_or (map f xs) k (f d) ≡ f (get_or xs k d)
mapped_at f [] k d = refl
mapped_at f (x ∷ xs) zero d = refl
mapped_at f (x ∷ xs) (suc k) d = mapped_at f xs k d

later : (i row columns : ℕ) → row < i → (row + 1) * (columns + 1) ≤ i * (columns + 1)
later i row columns h = let a : suc row * (columns + 1) ≤ i * (columns + 1) = mul-le-mul_right (columns + 1) h in Prim.omega (arith, a)

module _ {N : Type 0} (value : N → Fraction) (z : N) (none : value z ≡ nil) where
  at : (columns : ℕ) (xs : List N) (i j : ℕ) → cell columns (map value xs) i j ≡ value (get_or xs (i * columns + j) z)
  unfolding cell
  at columns xs i j = ap (get_or (map value xs) (i * columns + j)) (sym none) ∙ mapped_at value xs (i * columns + j) z

  -- a row is copied, and a 0 is put behind it
  module _ (xs ys : List N) (columns row : ℕ) (room : row * columns + row + columns < length ys)
      (copied : CopiedTo xs ys (row * columns) (row * columns + row) (row * columns + columns - row * columns))
      (below : SameBelow xs ys (row * columns + row)) (behind : SameFrom xs ys (row * columns + row + (row * columns + columns - row * columns))) where
    abbrev zs : List N
    zs = slice_set ys (row * columns + row + columns) z

    pub moved_below : (i j : ℕ) → i < row → j < columns → cell columns (map value zs) i j ≡ cell columns (map value xs) i j
    moved_below i j h k =
        let few = within row columns i j h k in
        at columns zs i j
        ∙ ap value (get_or-set_other ys (row * columns + row + columns) (i * columns + j) z z (λ e. Prim.omega (arith, few, e)) ∙ below (i * columns + j) z (Prim.omega (arith, few)))
        ∙ sym (at columns xs i j)

    pub moved_here : (j : ℕ) → j < columns + 1 → cell (columns + 1) (map value zs) row j ≡ widened_cell (cell columns (map value xs)) columns row j
    moved_here j h =
        let place : row * (columns + 1) + j ≡ row * columns + row + j = Prim.omega arith in
        at (columns + 1) zs row j ∙ ap (λ (k : ℕ). value (get_or zs k z)) place
        ∙ elim (lt_or_le j columns) [
          | inl l ↦
              let from : row * columns + (row * columns + row + j - (row * columns + row)) ≡ row * columns + j = Prim.omega arith in
              ap value (get_or-set_other ys (row * columns + row + columns) (row * columns + row + j) z z (λ e. Prim.omega (arith, l, e))
              ∙ copied (row * columns + row + j) z (Prim.omega arith) (Prim.omega (arith, l)) ∙ ap (λ (k : ℕ). get_or xs k z) from)
              ∙ sym (at columns xs row j) ∙ sym (widened_cell-old (cell columns (map value xs)) columns row j l)
          | inr l ↦
              let last : j ≡ columns = Prim.omega (arith, h, l) in
              ap (λ (k : ℕ). value (get_or zs (row * columns + row + k) z)) last ∙ ap value (get_or-set_same ys (row * columns + row + columns) z z room) ∙ none
              ∙ sym (ap (widened_cell (cell columns (map value xs)) columns row) last ∙ widened_cell-new (cell columns (map value xs)) columns row)
        ]

    pub moved_behind : (i j : ℕ) → row < i → j < columns + 1 → cell (columns + 1) (map value zs) i j ≡ cell (columns + 1) (map value xs) i j
    moved_behind i j h k =
        let far = later i row columns h in
        at (columns + 1) zs i j
        ∙ ap value (get_or-set_other ys (row * columns + row + columns) (i * (columns + 1) + j) z z (λ e. Prim.omega (arith, far, e)) ∙ behind (i * (columns + 1) + j) z (Prim.omega (arith, far)))
        ∙ sym (at (columns + 1) xs i j)

-- ---- items behind the table, and then rows that have moved
module _ {N : Type 0} (value : N → Fraction) (rows columns : ℕ) (old : List N) where
  -- so many items behind it
  pub record IsGrown (k : ℕ) (now : List N) : Type 0 where
    pub count : length now ≡ rows * columns + k
    pub same : (i j : ℕ) → i < rows → j < columns → cell columns (map value now) i j ≡ cell columns (map value old) i j

  -- the last so many rows
  pub record IsMoved (k : ℕ) (now : List N) : Type 0 where
    pub count : length now ≡ rows * columns + rows
    pub below : (i j : ℕ) → i + k < rows → j < columns → cell columns (map value now) i j ≡ cell columns (map value old) i j
    pub behind : (i j : ℕ) → rows ≤ i + k → i < rows → j < columns + 1 → cell (columns + 1) (map value now) i j ≡ widened_cell (cell columns (map value old)) columns i j

  pub grown_none : length old ≡ rows * columns → IsGrown 0 old
  grown_none size = record { count = Prim.omega (arith, size); same = λ i j h k. refl }

  pub grown_more : (k : ℕ) (now new : List N) (z : N) → new ≡ now ++ z ∷ [] → value z ≡ nil → IsGrown k now → IsGrown (k + 1) new
  grown_more k now new z is none grown = record {
    count = ap length is ∙ length-append now (z ∷ []) ∙ Prim.omega (arith, grown.count);
    same = λ i j h l.
        let few : i * columns + j < length now = Prim.omega (arith, within rows columns i j h l, grown.count) in
        at value z none columns new i j ∙ ap value (ap (λ (xs : List N). get_or xs (i * columns + j) z) is ∙ get_or_append_left now (z ∷ []) z (i * columns + j) few)
        ∙ sym (at value z none columns now i j) ∙ grown.same i j h l;
  }

  pub moved_none : (now : List N) → IsGrown rows now → IsMoved 0 now
  moved_none now grown = record { count = grown.count; below = λ i j h k. grown.same i j (Prim.omega (arith, h)) k; behind = λ i j h k l. absurd (Prim.omega (arith, h, k)) }

  pub moved_more : (k row : ℕ) (now new : List N) → row + k + 1 ≡ rows → length new ≡ length now → IsMoved k now
      → ((i j : ℕ) → i < row → j < columns → cell columns (map value new) i j ≡ cell columns (map value now) i j)
      → ((j : ℕ) → j < columns + 1 → cell (columns + 1) (map value new) row j ≡ widened_cell (cell columns (map value now)) columns row j)
      → ((i j : ℕ) → row < i → j < columns + 1 → cell (columns + 1) (map value new) i j ≡ cell (columns + 1) (map value now) i j)
      → IsMoved (k + 1) new
  moved_more k row now new place count moved under here over = record {
    count = count ∙ moved.count;
    below = λ i j h l. under i j (Prim.omega (arith, h, place)) l ∙ moved.below i j (Prim.omega (arith, h)) l;
    behind = λ i j h l n. elim (lt_or_le i (row + 1)) [
      | inl lt ↦
          let same : i ≡ row = Prim.omega (arith, lt, h, place) in
          ap (λ (t : ℕ). cell (columns + 1) (map value new) t j) same ∙ here j n ∙ widened_same j n ∙ ap (λ (t : ℕ). widened_cell (cell columns (map value old)) columns t j) (sym same)
      | inr ge ↦ over i j (Prim.omega (arith, ge)) n ∙ moved.behind i j (Prim.omega (arith, ge, place)) l n
    ];
  }
    where
      widened_same : (j : ℕ) → j < columns + 1 → widened_cell (cell columns (map value now)) columns row j ≡ widened_cell (cell columns (map value old)) columns row j
      widened_same j n = elim (lt_or_le j columns) [
        | inl l ↦ widened_cell-old (cell columns (map value now)) columns row j l ∙ moved.below row j (Prim.omega (arith, place)) l ∙ sym (widened_cell-old (cell columns (map value old)) columns row j l)
        | inr l ↦
            let last : j ≡ columns = Prim.omega (arith, n, l) in
            ap (widened_cell (cell columns (map value now)) columns row) last ∙ widened_cell-new (cell columns (map value now)) columns row
            ∙ sym (ap (widened_cell (cell columns (map value old)) columns row) last ∙ widened_cell-new (cell columns (map value old)) columns row)
      ]

  pub moved_all : (now : List N) → IsMoved rows now → map value now ≡ widened rows columns (map value old)
  unfolding widened
  moved_all now moved =
      shows_is rows (columns + 1) (map value now) (widened_cell (cell columns (map value old)) columns)
      (record { count = length-map now value ∙ moved.count ∙ Prim.omega arith; at = λ i j h k. moved.behind i j (Prim.omega arith) h k })
