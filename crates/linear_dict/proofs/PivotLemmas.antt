-- The stages of a pivot in place.
use Rattle.std.specs.Prelude.{pos, ◌≡◌, ◌≢◌, ℕ, ◌+◌, ◌*◌, ◌<◌, ◌≤◌, ◌==◌, ◌&&◌, Bool, true, false, not, nat_lt, if◌then◌else◌, List, length, map, slice_set, ◌⊎◌, refl}
use Rattle.std.proofs.Common.{arith, ap, sym, ◌∙◌, subst, inl, inr, get_or}
use Rattle.std.proofs.lemmas.Bool.Decides.{nat_tests}
use mathlib.Core.Path.{ap₂}
use Rattle.fraction_theory.specs.Fraction.{Fraction, whole, ◌+ℚ◌, ◌*ℚ◌, neg_ℚ, recip_ℚ}
use Rattle.fraction_theory.proofs.ListSums.{same_or_not, put_at-here, put_at-elsewhere}
use Rattle.linear_dict.proofs.NameLemmas.{lt_or_le}
use Rattle.std.proofs.lemmas.List.{length-map, length-set, map-set}
use Rattle.std.proofs.Math.Nat.{mul-le-mul_right}
use Rattle.linear_dict.proofs.ProductLemmas.{stays_by_left, zero_times}
use Rattle.linear_dict.proofs.TableLemmas.{cell_read, shows_itself, shows_same, shows_set}
use Rattle.linear_dict.specs.Tables.{Shows, with_row, cell, pivoted_cell, pivoted_row, solved_cell, cleared_cell}

-- whether a cell is of the row, at a place below so many, and not at column c
unfoldable pub is_done : ℕ → ℕ → ℕ → ℕ → ℕ → Bool
is_done row c upto i j = (i == row) && nat_lt j upto && not (j == c)

-- a row changed as far as column upto
unfoldable pub stage : (ℕ → Fraction) → (ℕ → ℕ → Fraction) → ℕ → ℕ → ℕ → ℕ → ℕ → Fraction
stage g f row c upto i j = if is_done row c upto i j then g j else f i j

done-none : (row c i j : ℕ) → is_done row c 0 i j ≡ false
unfolding is_done
done-none row c i j = Prim.grind (arith, nat_tests)

done-here : (row c j : ℕ) → j ≢ c → is_done row c (j + 1) row j ≡ true
unfolding is_done
done-here row c j n = Prim.grind (arith, nat_tests)

done-other : (row c upto i j : ℕ) → ¬ ((i ≡ row) × (j ≡ upto)) → is_done row c upto i j ≡ is_done row c (upto + 1) i j
unfolding is_done
done-other row c upto i j n = Prim.grind (arith, nat_tests)

pub done-yet : (row c upto i j : ℕ) → (i ≢ row) ⊎ (upto ≤ j) ⊎ (j ≡ c) → is_done row c upto i j ≡ false
unfolding is_done
done-yet row c upto i j h = Prim.grind (arith, nat_tests)

done-skip : (row c upto i j : ℕ) → upto ≡ c → is_done row c upto i j ≡ is_done row c (upto + 1) i j
unfolding is_done
done-skip row c upto i j e = Prim.grind (arith, nat_tests)

below-no : (i n : ℕ) → n ≤ i → nat_lt i n ≡ false
below-no i n h = Prim.grind (arith, nat_tests)

below-yes : (i n : ℕ) → i < n → nat_lt i n ≡ true
below-yes i n h = Prim.grind (arith, nat_tests)

pub done-all : (row c upto j : ℕ) → j < upto → j ≢ c → is_done row c upto row j ≡ true
unfolding is_done
done-all row c upto j h n = Prim.grind (arith, nat_tests)

pub stage-done : (g : ℕ → Fraction) (f : ℕ → ℕ → Fraction) (row c upto i j : ℕ) → is_done row c upto i j ≡ true → stage g f row c upto i j ≡ g j
unfolding stage
stage-done g f row c upto i j e = ap (λ (b : Bool). if b then g j else f i j) e

-- a branch that makes no difference
any_branch : (b b' : Bool) (x y : Fraction) → x ≡ y → (if b then x else y) ≡ (if b' then x else y)
any_branch true true x y e = refl
any_branch true false x y e = e
any_branch false true x y e = sym e
any_branch false false x y e = refl

pub stage-yet : (g : ℕ → Fraction) (f : ℕ → ℕ → Fraction) (row c upto i j : ℕ) → is_done row c upto i j ≡ false → stage g f row c upto i j ≡ f i j
unfolding stage
stage-yet g f row c upto i j e = ap (λ (b : Bool). if b then g j else f i j) e

module _ (rows columns : ℕ) (xs : List Fraction) (g : ℕ → Fraction) (f : ℕ → ℕ → Fraction) (row c : ℕ) where
  pub stage_start : Shows rows columns xs f → Shows rows columns xs (stage g f row c 0)
  stage_start s = shows_same rows columns xs f (stage g f row c 0) s (λ i j hi hj. sym (stage-yet g f row c 0 i j (done-none row c i j)))

  pub stage_step : (j : ℕ) (x : Fraction) → Shows rows columns xs (stage g f row c j) → row < rows → j < columns → j ≢ c → x ≡ g j
      → Shows rows columns (slice_set xs (row * columns + j) x) (stage g f row c (j + 1))
  unfolding stage
  stage_step j x s hr hj n e = shows_set rows columns xs (stage g f row c j) (stage g f row c (j + 1)) row j x s hr hj
      (stage-done g f row c (j + 1) row j (done-here row c j n) ∙ sym e)
      (λ i k o. ap (λ (b : Bool). if b then g k else f i k) (done-other row c j i k o))

  pub stage_skip : (j : ℕ) → Shows rows columns xs (stage g f row c j) → j ≡ c → Shows rows columns xs (stage g f row c (j + 1))
  unfolding stage
  stage_skip j s e = shows_same rows columns xs (stage g f row c j) (stage g f row c (j + 1)) s
      (λ i k hi hk. ap (λ (b : Bool). if b then g k else f i k) (done-skip row c j i k e))

  -- a number that is what it is to be
  pub stage_keep : (j : ℕ) → Shows rows columns xs (stage g f row c j) → g j ≡ f row j → Shows rows columns xs (stage g f row c (j + 1))
  unfolding stage
  stage_keep j s e = shows_same rows columns xs (stage g f row c j) (stage g f row c (j + 1)) s (λ i k hi hk. elim (same_or_not i row) [
    | inl d ↦ elim (same_or_not k j) [
      | inl q ↦ any_branch (is_done row c j i k) (is_done row c (j + 1) i k) (g k) (f i k) (ap g q ∙ e ∙ ap₂ f (sym d) (sym q))
      | inr n ↦ ap (λ (b : Bool). if b then g k else f i k) (done-other row c j i k (λ p. n p.1))
    ]
    | inr n ↦ ap (λ (b : Bool). if b then g k else f i k) (done-other row c j i k (λ p. n p.0))
  ])

  pub stage_read : (upto i j : ℕ) → Shows rows columns xs (stage g f row c upto) → i < rows → j < columns → (i ≢ row) ⊎ (upto ≤ j) ⊎ (j ≡ c) → cell columns xs i j ≡ f i j
  stage_read upto i j s hi hj h = s.at i j hi hj ∙ stage-yet g f row c upto i j (done-yet row c upto i j h)

  pub stage_end : (upto : ℕ) (last : Fraction) → Shows rows columns xs (stage g f row c upto) → row < rows → c < columns → columns ≤ upto
      → Shows rows columns (slice_set xs (row * columns + c) last) (with_row g last f row c)
  unfolding with_row
  stage_end upto last s hr hc h =
      let between : ℕ → ℕ → Fraction = λ i j. if i == row then (if j == c then f i j else g j) else f i j in
      shows_set rows columns xs between (with_row g last f row c) row c last
      (shows_same rows columns xs (stage g f row c upto) between s (λ i j hi hj. elim (same_or_not i row) [
        | inl e ↦ elim (same_or_not j c) [
          | inl d ↦ stage-yet g f row c upto i j (done-yet row c upto i j (inr (inr d)))
              ∙ sym (put_at-here row (if j == c then f i j else g j) (λ k. f k j) i e ∙ put_at-here c (f i j) g j d)
          | inr d ↦ stage-done g f row c upto i j (ap (λ (k : ℕ). is_done row c upto k j) e ∙ done-all row c upto j (Prim.omega (arith, hj, h)) d)
              ∙ sym (put_at-here row (if j == c then f i j else g j) (λ k. f k j) i e ∙ put_at-elsewhere c (f i j) g j d)
        ]
        | inr n ↦ stage-yet g f row c upto i j (done-yet row c upto i j (inl n)) ∙ sym (put_at-elsewhere row (if j == c then f i j else g j) (λ k. f k j) i n)
      ]))
      hr hc
      (put_at-here row (if c == c then last else g c) (λ k. f k c) row refl ∙ put_at-here c last g c refl)
      (λ i j n. elim (same_or_not i row) [
        | inr m ↦ put_at-elsewhere row (if j == c then f i j else g j) (λ k. f k j) i m ∙ sym (put_at-elsewhere row (if j == c then last else g j) (λ k. f k j) i m)
        | inl e ↦ elim (same_or_not j c) [
          | inl d ↦ absurd (n (e, d))
          | inr d ↦ put_at-here row (if j == c then f i j else g j) (λ k. f k j) i e ∙ put_at-elsewhere c (f i j) g j d
              ∙ sym (put_at-here row (if j == c then last else g j) (λ k. f k j) i e ∙ put_at-elsewhere c last g j d)
        ]
      ])

-- a row with 0 at the column is cleared as it stands
pub clear_nothing : (rows columns : ℕ) (xs : List Fraction) (row solved c : ℕ) → length xs ≡ rows * columns → cell columns xs row c ≡ whole (pos 0) → Shows rows columns xs (cleared_cell (cell columns xs) row solved c)
unfolding cleared_cell with_row
clear_nothing rows columns xs row solved c count zero =
    let f : ℕ → ℕ → Fraction = cell columns xs in
    let g : ℕ → Fraction = λ j. f row j +ℚ f row c *ℚ f solved j in
    let last : Fraction = f row c *ℚ f solved c in
    shows_same rows columns xs f (cleared_cell f row solved c) (shows_itself rows columns xs count) (λ i j hi hj. elim (same_or_not i row) [
      | inl e ↦ elim (same_or_not j c) [
        | inl d ↦ ap₂ f e d ∙ sym (zero_times (f row c) (f solved c) zero)
            ∙ sym (put_at-here row (if j == c then last else g j) (λ z. f z j) i e ∙ put_at-here c last g j d)
        | inr d ↦ ap (λ (z : ℕ). f z j) e ∙ sym (stays_by_left (f row j) (f row c) (f solved j) zero)
            ∙ sym (put_at-here row (if j == c then last else g j) (λ z. f z j) i e ∙ put_at-elsewhere c last g j d)
      ]
      | inr n ↦ sym (put_at-elsewhere row (if j == c then last else g j) (λ z. f z j) i n)
    ])

-- a table whose rows below so many are those of the pivoted one, as its solved row is
unfoldable pub pivoting : (ℕ → ℕ → Fraction) → ℕ → ℕ → ℕ → ℕ → ℕ → Fraction
pivoting f r c upto i j = if i == r then pivoted_row f r c j else if nat_lt i upto then pivoted_cell f r c i j else f i j

module _ (f : ℕ → ℕ → Fraction) (r c : ℕ) where
  pub pivoting-solved : (upto i j : ℕ) → i ≡ r → pivoting f r c upto i j ≡ pivoted_row f r c j
  unfolding pivoting
  pivoting-solved upto i j e = put_at-here r (pivoted_row f r c j) (λ k. if nat_lt k upto then pivoted_cell f r c k j else f k j) i e

  pivoting-other : (upto i j : ℕ) → i ≢ r → pivoting f r c upto i j ≡ (if nat_lt i upto then pivoted_cell f r c i j else f i j)
  unfolding pivoting
  pivoting-other upto i j n = put_at-elsewhere r (pivoted_row f r c j) (λ k. if nat_lt k upto then pivoted_cell f r c k j else f k j) i n

  pub pivoting-yet : (upto i j : ℕ) → i ≢ r → upto ≤ i → pivoting f r c upto i j ≡ f i j
  pivoting-yet upto i j n h = pivoting-other upto i j n ∙ ap (λ (b : Bool). if b then pivoted_cell f r c i j else f i j) (below-no i upto h)

  pivoting-done : (upto i j : ℕ) → i ≢ r → i < upto → pivoting f r c upto i j ≡ pivoted_cell f r c i j
  pivoting-done upto i j n h = pivoting-other upto i j n ∙ ap (λ (b : Bool). if b then pivoted_cell f r c i j else f i j) (below-yes i upto h)

  pub pivoted-solved : (i j : ℕ) → i ≡ r → pivoted_cell f r c i j ≡ pivoted_row f r c j
  unfolding pivoted_cell
  pivoted-solved i j e = put_at-here r (pivoted_row f r c j) (λ k. if j == c then f k c *ℚ recip_ℚ (f r c) else f k j +ℚ f k c *ℚ pivoted_row f r c j) i e

  pub pivoted-column : (i j : ℕ) → i ≢ r → j ≡ c → pivoted_cell f r c i j ≡ f i c *ℚ recip_ℚ (f r c)
  unfolding pivoted_cell
  pivoted-column i j n e = put_at-elsewhere r (pivoted_row f r c j) (λ k. if j == c then f k c *ℚ recip_ℚ (f r c) else f k j +ℚ f k c *ℚ pivoted_row f r c j) i n
      ∙ put_at-here c (f i c *ℚ recip_ℚ (f r c)) (λ k. f i k +ℚ f i c *ℚ pivoted_row f r c k) j e

  pub pivoted-other : (i j : ℕ) → i ≢ r → j ≢ c → pivoted_cell f r c i j ≡ f i j +ℚ f i c *ℚ pivoted_row f r c j
  unfolding pivoted_cell
  pivoted-other i j n m = put_at-elsewhere r (pivoted_row f r c j) (λ k. if j == c then f k c *ℚ recip_ℚ (f r c) else f k j +ℚ f k c *ℚ pivoted_row f r c j) i n
      ∙ put_at-elsewhere c (f i c *ℚ recip_ℚ (f r c)) (λ k. f i k +ℚ f i c *ℚ pivoted_row f r c k) j m

  pub row-itself : (j : ℕ) → j ≡ c → pivoted_row f r c j ≡ recip_ℚ (f r c)
  unfolding pivoted_row
  row-itself j e = put_at-here c (recip_ℚ (f r c)) (λ k. neg_ℚ (f r k) *ℚ recip_ℚ (f r c)) j e

  pub row-other : (j : ℕ) → j ≢ c → pivoted_row f r c j ≡ neg_ℚ (f r j) *ℚ recip_ℚ (f r c)
  unfolding pivoted_row
  row-other j n = put_at-elsewhere c (recip_ℚ (f r c)) (λ k. neg_ℚ (f r k) *ℚ recip_ℚ (f r c)) j n

  module _ (rows columns : ℕ) (xs : List Fraction) where
    pub pivoting_start : Shows rows columns xs (solved_cell f r c) → Shows rows columns xs (pivoting f r c 0)
    unfolding solved_cell with_row pivoted_row
    pivoting_start s = shows_same rows columns xs (solved_cell f r c) (pivoting f r c 0) s (λ i j hi hj. elim (same_or_not i r) [
      | inl e ↦ put_at-here r (pivoted_row f r c j) (λ k. f k j) i e ∙ sym (pivoting-solved 0 i j e)
      | inr n ↦ put_at-elsewhere r (pivoted_row f r c j) (λ k. f k j) i n ∙ sym (pivoting-yet 0 i j n (Prim.omega arith))
    ])

    pub pivoting_skip : (k : ℕ) → Shows rows columns xs (pivoting f r c k) → k ≡ r → Shows rows columns xs (pivoting f r c (k + 1))
    pivoting_skip k s e = shows_same rows columns xs (pivoting f r c k) (pivoting f r c (k + 1)) s (λ i j hi hj. elim (same_or_not i r) [
      | inl d ↦ pivoting-solved k i j d ∙ sym (pivoting-solved (k + 1) i j d)
      | inr n ↦ elim (lt_or_le i k) [
        | inl l ↦ pivoting-done k i j n l ∙ sym (pivoting-done (k + 1) i j n (Prim.omega (arith, l)))
        | inr l ↦ pivoting-yet k i j n l ∙ sym (pivoting-yet (k + 1) i j n (stay i n l))
      ]
    ])
      where
        stay : (i : ℕ) → i ≢ r → k ≤ i → k + 1 ≤ i
        stay i n l = elim (lt_or_le k i) [ inl m ↦ Prim.omega (arith, m) | inr m ↦ absurd (n (Prim.omega (arith, m, l, e))) ]

    pub pivoting_step : (k : ℕ) (ys : List Fraction) → Shows rows columns xs (pivoting f r c k) → Shows rows columns ys (cleared_cell (cell columns xs) k r c) → k ≢ r
        → k < rows → r < rows → c < columns → Shows rows columns ys (pivoting f r c (k + 1))
    unfolding cleared_cell with_row
    pivoting_step k ys s t nk hk hr hc =
        let old : ℕ → ℕ → Fraction = cell columns xs in
        let g : ℕ → Fraction = λ j. old k j +ℚ old k c *ℚ old r j in
        let last : Fraction = old k c *ℚ old r c in
        let at_k : (j : ℕ) → j < columns → old k j ≡ f k j = λ j hj. s.at k j hk hj ∙ pivoting-yet k k j nk (Prim.omega arith) in
        let at_r : (j : ℕ) → j < columns → old r j ≡ pivoted_row f r c j = λ j hj. s.at r j hr hj ∙ pivoting-solved k r j refl in
        shows_same rows columns ys (cleared_cell old k r c) (pivoting f r c (k + 1)) t (λ i j hi hj. elim (same_or_not i k) [
          | inl e ↦ put_at-here k (if j == c then last else g j) (λ z. old z j) i e
              ∙ elim (same_or_not j c) [
                | inl d ↦ put_at-here c last g j d ∙ ap₂ ◌*ℚ◌ (at_k c hc) (at_r c hc ∙ row-itself c refl)
                    ∙ ap (λ (z : ℕ). f z c *ℚ recip_ℚ (f r c)) (sym e) ∙ sym (pivoted-column i j (λ q. nk (sym e ∙ q)) d)
                | inr d ↦ put_at-elsewhere c last g j d ∙ ap₂ ◌+ℚ◌ (at_k j hj) (ap₂ ◌*ℚ◌ (at_k c hc) (at_r j hj))
                    ∙ ap (λ (z : ℕ). f z j +ℚ f z c *ℚ pivoted_row f r c j) (sym e) ∙ sym (pivoted-other i j (λ q. nk (sym e ∙ q)) d)
              ]
              ∙ sym (pivoting-done (k + 1) i j (λ q. nk (sym e ∙ q)) (Prim.omega (arith, e)))
          | inr n ↦ put_at-elsewhere k (if j == c then last else g j) (λ z. old z j) i n ∙ s.at i j hi hj
              ∙ elim (same_or_not i r) [
                | inl d ↦ pivoting-solved k i j d ∙ sym (pivoting-solved (k + 1) i j d)
                | inr m ↦ elim (lt_or_le i k) [
                  | inl l ↦ pivoting-done k i j m l ∙ sym (pivoting-done (k + 1) i j m (Prim.omega (arith, l)))
                  | inr l ↦ pivoting-yet k i j m l ∙ sym (pivoting-yet (k + 1) i j m (beyond i k n l))
                ]
              ]
        ])
      where
        beyond : (i k : ℕ) → i ≢ k → k ≤ i → k + 1 ≤ i
        beyond i k n l = elim (lt_or_le k i) [ inl m ↦ Prim.omega (arith, m) | inr m ↦ absurd (n (Prim.omega (arith, m, l))) ]

    pub pivoting_end : (k : ℕ) → Shows rows columns xs (pivoting f r c k) → rows ≤ k → Shows rows columns xs (pivoted_cell f r c)
    pivoting_end k s h = shows_same rows columns xs (pivoting f r c k) (pivoted_cell f r c) s (λ i j hi hj. elim (same_or_not i r) [
      | inl e ↦ pivoting-solved k i j e ∙ sym (pivoted-solved i j e)
      | inr n ↦ pivoting-done k i j n (Prim.omega (arith, hi, h))
    ])

row_within : (rows columns row c : ℕ) → c < columns → row * columns + columns ≤ rows * columns → row < rows
row_within rows columns row c hc h = elim (lt_or_le row rows) [
  | inl l ↦ l
  | inr l ↦ let a : rows * columns ≤ row * columns = mul-le-mul_right columns l in absurd (Prim.omega (arith, a, h, hc))
]

module _ {N : Type 0} (value : N → Fraction) (columns : ℕ) (old cur : List N) where
  -- the table old, a row of which is changed to g as far as column j
  abbrev pub IsStage : (ℕ → Fraction) → ℕ → ℕ → ℕ → Type 0
  IsStage g row c j = (length cur ≡ length old)
      × ((rows : ℕ) → length old ≡ rows * columns → Shows rows columns (map value cur) (stage g (cell columns (map value old)) row c j))

-- a row that is being solved, and one that is being cleared
abbrev pub solved_number : {N : Type 0} → (N → Fraction) → ℕ → List N → ℕ → ℕ → ℕ → Fraction
solved_number value columns old row c j = neg_ℚ (cell columns (map value old) row j) *ℚ recip_ℚ (cell columns (map value old) row c)

abbrev pub cleared_number : {N : Type 0} → (N → Fraction) → ℕ → List N → ℕ → ℕ → ℕ → ℕ → Fraction
cleared_number value columns old row solved c j = cell columns (map value old) row j +ℚ cell columns (map value old) row c *ℚ cell columns (map value old) solved j

module _ {N : Type 0} (value : N → Fraction) (columns : ℕ) (old : List N) where
  -- an old number read at the start
  pub read_old : (rows i j : ℕ) (x : N) → length old ≡ rows * columns → i < rows → j < columns → x ≡ get_or old (i * columns + j) x → value x ≡ cell columns (map value old) i j
  read_old rows i j x e hi hj is = cell_read value old rows columns i j x (length-map old value ∙ e) hi hj is

  pub is_stage_start : (g : ℕ → Fraction) (row c : ℕ) → IsStage value columns old old g row c 0
  is_stage_start g row c = (refl, λ rows e. stage_start rows columns (map value old) g (cell columns (map value old)) row c (shows_itself rows columns (map value old) (length-map old value ∙ e)))

  pub is_stage_skip : (cur : List N) (g : ℕ → Fraction) (row c j : ℕ) → j ≡ c → IsStage value columns old cur g row c j → IsStage value columns old cur g row c (j + 1)
  is_stage_skip cur g row c j e s = (s.0, λ rows f. stage_skip rows columns (map value cur) g (cell columns (map value old)) row c j (s.1 rows f) e)

  pub is_stage_keep : (cur : List N) (g : ℕ → Fraction) (row c j : ℕ) → ((rows : ℕ) → length old ≡ rows * columns → g j ≡ cell columns (map value old) row j)
      → IsStage value columns old cur g row c j → IsStage value columns old cur g row c (j + 1)
  is_stage_keep cur g row c j e s = (s.0, λ rows f. stage_keep rows columns (map value cur) g (cell columns (map value old)) row c j (s.1 rows f) (e rows f))

  pub is_stage_step : (cur : List N) (g : ℕ → Fraction) (row c j : ℕ) (x : N) → c < columns → row * columns + columns ≤ length old → j < columns → j ≢ c
      → ((rows : ℕ) → length old ≡ rows * columns → value x ≡ g j) → IsStage value columns old cur g row c j → IsStage value columns old (slice_set cur (row * columns + j) x) g row c (j + 1)
  is_stage_step cur g row c j x hc room hj n e s = (
    length-set cur (row * columns + j) x ∙ s.0,
    λ rows f. subst (λ xs. Shows rows columns xs (stage g (cell columns (map value old)) row c (j + 1))) (sym (map-set value cur (row * columns + j) x))
        (stage_step rows columns (map value cur) g (cell columns (map value old)) row c j (value x) (s.1 rows f)
        (row_within rows columns row c hc (Prim.omega (arith, room, f))) hj n (e rows f)),
  )

  pub is_stage_end : (cur : List N) (g : ℕ → Fraction) (row c j : ℕ) (last : N) (l : Fraction) → c < columns → row * columns + columns ≤ length old → columns ≤ j
      → IsStage value columns old cur g row c j → (rows : ℕ) → length old ≡ rows * columns → value last ≡ l
      → Shows rows columns (map value (slice_set cur (row * columns + c) last)) (with_row g l (cell columns (map value old)) row c)
  is_stage_end cur g row c j last l hc room h s rows f e =
      subst (λ xs. Shows rows columns xs (with_row g l (cell columns (map value old)) row c)) (ap (slice_set (map value cur) (row * columns + c)) (sym e) ∙ sym (map-set value cur (row * columns + c) last))
      (stage_end rows columns (map value cur) g (cell columns (map value old)) row c j l (s.1 rows f) (row_within rows columns row c hc (Prim.omega (arith, room, f))) hc h)

  -- a number read on the way, that is still the old one
  pub read_stage : (cur : List N) (g : ℕ → Fraction) (row c upto : ℕ) (i j : ℕ) (x : N) → c < columns → i * columns + columns ≤ length old → j < columns
      → (i ≢ row) ⊎ (upto ≤ j) ⊎ (j ≡ c) → IsStage value columns old cur g row c upto → x ≡ get_or cur (i * columns + j) x
      → (rows : ℕ) → length old ≡ rows * columns → value x ≡ cell columns (map value old) i j
  read_stage cur g row c upto i j x hc room hj h s is rows f =
      let hi : i < rows = row_within rows columns i c hc (Prim.omega (arith, room, f)) in
      cell_read value cur rows columns i j x (length-map cur value ∙ s.0 ∙ f) hi hj is
      ∙ stage_read rows columns (map value cur) g (cell columns (map value old)) row c upto i j (s.1 rows f) hi hj h
