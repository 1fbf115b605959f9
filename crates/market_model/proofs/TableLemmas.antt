-- Tables of factors, one factor more.
use Rattle.std.specs.Prelude.{◌≡◌, ◌≢◌, ℕ, ◌+◌, ◌*◌, ◌/◌, ◌%◌, ◌<◌, ◌==◌, ◌&&◌, ◌⊎◌, ℤ, pos, Bool, true, false, List, [], ◌∷◌, length, slice_set, slice_index_or, AllPairs, Option, Some, None, refl, if◌then◌else◌, unsigned_abs, ◌≤◌}
use Rattle.std.proofs.Common.{zero, suc, arith, w64, take, drop, get_or, sym, ap, ◌∙◌, inl, inr, add-one, subst}
use Rattle.std.proofs.lemmas.Bool.Decides.{eqb_tells}
use Rattle.std.proofs.lemmas.List.{get_or-set_same, get_or-set_other, length-set, drop_more}
use mir.Val.{SFits}
use Rattle.std.proofs.lemmas.Int.{ints}
use Rattle.std.proofs.lemmas.Nat.{div-mul-add, mod-mul-add, mul-add-lt}
use Rattle.market_model.specs.declared.participants.Factor.{Factor}
use Rattle.market_data.specs.Scales.{most_factor}
use Rattle.market_model.specs.Factors.{is_pair, factor_in, IsTable}
use Rattle.market_model.specs.LostLines.{factor_after, IsOutageIndex}
use Rattle.market_model.proofs.LostLemmas.{none_some}

abbrev pub NotOnePair : Factor → Factor → Type 0
NotOnePair f g = f.line ≡ g.line → f.of ≢ g.of

pub pair_true : (l o : ℕ) (f : Factor) → is_pair l o f ≡ true → (f.line ≡ l) × (f.of ≡ o)
pair_true l o f e = by (eqb_tells f.line l) (eqb_tells f.of o)
  where
    by : ((f.line == l ≡ true) × (f.line ≡ l)) ⊎ ((f.line == l ≡ false) × (f.line ≢ l)) → ((f.of == o ≡ true) × (f.of ≡ o)) ⊎ ((f.of == o ≡ false) × (f.of ≢ o)) → (f.line ≡ l) × (f.of ≡ o)
    by (inl a) (inl b) = (a.1, b.1)
    by (inl a) (inr b) = let wrong : true ≡ false = sym e ∙ ap (λ (t : Bool). t && (f.of == o)) a.0 ∙ b.0 in absurd Prim.cc
    by (inr a) b = let wrong : true ≡ false = sym e ∙ ap (λ (t : Bool). t && (f.of == o)) a.0 in absurd Prim.cc

true_not_false : true ≡ false → ⊥
true_not_false e = absurd Prim.cc

pub pair_both : (l o : ℕ) (f : Factor) → f.line ≡ l → f.of ≡ o → is_pair l o f ≡ true
pair_both l o f p q = by (eqb_tells f.line l) (eqb_tells f.of o)
  where
    by : ((f.line == l ≡ true) × (f.line ≡ l)) ⊎ ((f.line == l ≡ false) × (f.line ≢ l)) → ((f.of == o ≡ true) × (f.of ≡ o)) ⊎ ((f.of == o ≡ false) × (f.of ≢ o)) → is_pair l o f ≡ true
    by (inl a) (inl b) = ap (λ (t : Bool). t && (f.of == o)) a.0 ∙ b.0
    by (inl a) (inr b) = absurd (b.1 q)
    by (inr a) b = absurd (a.1 p)

-- a factor more, of a pair that has none before
pub factor_in-more : (l o : ℕ) (fs : List Factor) (i : ℕ) (d : Factor) → i < length fs → AllPairs NotOnePair fs
    → factor_in (take (i + 1) fs) l o ≡ (if is_pair l o (get_or fs i d) then (get_or fs i d).value else factor_in (take i fs) l o)
factor_in-more l o fs i d lt apart = Prim.rw add-one (go fs i lt apart)
  where
    test : (b c : Bool) (v w rest : ℤ) → ((b ≡ true) → (c ≡ true) → ⊥) → (if b then v else (if c then w else rest)) ≡ (if c then w else (if b then v else rest))
    test true true v w rest = λ no. absurd (no refl refl)
    test true false v w rest = λ no. refl
    test false c v w rest = λ no. refl

    go : (gs : List Factor) (n : ℕ) → n < length gs → AllPairs NotOnePair gs
        → factor_in (take (suc n) gs) l o ≡ (if is_pair l o (get_or gs n d) then (get_or gs n d).value else factor_in (take n gs) l o)
    go [] n h p = absurd (Prim.omega arith)
    go (g ∷ gs) zero h p = refl
    go (g ∷ gs) (suc n) h p =
        ap (λ t. if is_pair l o g then g.value else t) (go gs n (Prim.omega arith) (λ a b e x y. p (suc a) (suc b) e (Prim.omega arith) (Prim.omega arith)))
        ∙ test (is_pair l o g) (is_pair l o (get_or gs n d)) g.value (get_or gs n d).value (factor_in (take n gs) l o)
        (λ first second.
        let a = pair_true l o g first in
        let b = pair_true l o (get_or gs n d) second in
        p 0 (suc n) d (Prim.omega arith) (Prim.omega arith) (a.0 ∙ sym b.0) (a.1 ∙ sym b.1))

-- a factor more changes no number but its own
module _ (fs : List Factor) (i : ℕ) (d : Factor) (inside : i < length fs) (apart : AllPairs NotOnePair fs) where
  pub factor_in-here : factor_in (take (i + 1) fs) (get_or fs i d).line (get_or fs i d).of ≡ (get_or fs i d).value
  factor_in-here =
      factor_in-more (get_or fs i d).line (get_or fs i d).of fs i d inside apart
      ∙ ap (λ (b : Bool). if b then (get_or fs i d).value else factor_in (take i fs) (get_or fs i d).line (get_or fs i d).of) (pair_both (get_or fs i d).line (get_or fs i d).of (get_or fs i d) refl refl)

  pub factor_in-other : (l o : ℕ) → ((get_or fs i d).line ≡ l → (get_or fs i d).of ≢ o) → factor_in (take (i + 1) fs) l o ≡ factor_in (take i fs) l o
  factor_in-other l o other = factor_in-more l o fs i d inside apart ∙ by (is_pair l o (get_or fs i d)) refl
    where
      by : (b : Bool) → b ≡ is_pair l o (get_or fs i d) → (if b then (get_or fs i d).value else factor_in (take i fs) l o) ≡ factor_in (take i fs) l o
      by true e = let is = pair_true l o (get_or fs i d) (sym e) in absurd (other is.0 is.1)
      by false e = refl

-- ---- tables
-- two places of a table are one only where row and column are
place_apart : (columns row column i j : ℕ) → column < columns → j < columns → (i ≡ row → j ≢ column) → (i * columns + j) ≢ (row * columns + column)
place_apart columns row column i j p q other same =
    other (sym (div-mul-add i columns j q) ∙ ap (λ (t : ℕ). t / columns) same ∙ div-mul-add row columns column p)
    (sym (mod-mul-add i columns j q) ∙ ap (λ (t : ℕ). t % columns) same ∙ mod-mul-add row columns column p)

module _ (rows columns : ℕ) (f g : ℕ → ℕ → ℤ) (table : List ℤ) (h : IsTable rows columns f table) where
  -- of the same numbers
  pub table_same : ((i j : ℕ) → i < rows → j < columns → g i j ≡ f i j) → IsTable rows columns g table
  table_same same = record { count = h.count; each = λ i j p q. h.each i j p q ∙ sym (same i j p q) }

  -- with one number put
  pub table_put : (row column : ℕ) (value : ℤ) → row < rows → column < columns → g row column ≡ value
      → ((i j : ℕ) → i < rows → j < columns → (i ≡ row → j ≢ column) → g i j ≡ f i j)
      → IsTable rows columns g (slice_set table (row * columns + column) value)
  table_put row column value p q here other = record {
    count = length-set table (row * columns + column) value ∙ h.count;
    each = λ i j r s. by i j r s (eqb_tells i row) (eqb_tells j column);
  }
    where
      put : (i j : ℕ) → Type 0
      put i j = slice_index_or (slice_set table (row * columns + column) value) (i * columns + j) (pos 0) ≡ g i j

      away : (i j : ℕ) → i < rows → j < columns → (i ≡ row → j ≢ column) → put i j
      away i j r s apart = get_or-set_other table (row * columns + column) (i * columns + j) value (pos 0) (place_apart columns row column i j q s apart) ∙ h.each i j r s ∙ sym (other i j r s apart)

      by : (i j : ℕ) → i < rows → j < columns → ((i == row ≡ true) × (i ≡ row)) ⊎ ((i == row ≡ false) × (i ≢ row)) → ((j == column ≡ true) × (j ≡ column)) ⊎ ((j == column ≡ false) × (j ≢ column)) → put i j
      by i j r s (inr a) b = away i j r s (λ e. absurd (a.1 e))
      by i j r s (inl a) (inr b) = away i j r s (λ e. b.1)
      by i j r s (inl a) (inl b) =
          let inside : row * columns + column < length table = Prim.omega (arith, mul-add-lt row columns column rows p q, h.count) in
          subst (λ (k : ℕ). put k j) (sym a.1) (subst (λ (k : ℕ). put row k) (sym b.1) (get_or-set_same table (row * columns + column) value (pos 0) inside ∙ sym here))

-- one factor more in the table of all pairs
pub table_more : (lines others : ℕ) (fs : List Factor) (i : ℕ) (d : Factor) (table : List ℤ) → i < length fs → AllPairs NotOnePair fs
    → (get_or fs i d).line < lines → (get_or fs i d).of < others → IsTable lines others (factor_in (take i fs)) table
    → IsTable lines others (factor_in (take (i + 1) fs)) (slice_set table ((get_or fs i d).line * others + (get_or fs i d).of) (get_or fs i d).value)
table_more lines others fs i d table inside apart p q h =
    table_put lines others (factor_in (take i fs)) (factor_in (take (i + 1) fs)) table h (get_or fs i d).line (get_or fs i d).of (get_or fs i d).value p q
    (factor_in-here fs i d inside apart)
    (λ l o r s other. factor_in-other fs i d inside apart l o (λ e f. other (sym e) (sym f)))

-- one factor more in the table of lost lines
module _ (lines : ℕ) (lost : List ℕ) (index : List (Option ℕ)) (is : IsOutageIndex lines lost index) (fs : List Factor) (i : ℕ) (d : Factor) (inside : i < length fs) (apart : AllPairs NotOnePair fs)
    (table : List ℤ) (h : IsTable (length lost) lines (factor_after (take i fs) lost) table) where
  abbrev outage_of : Option ℕ
  outage_of = slice_index_or index (get_or fs i d).of None

  pub loss_more : (outage : ℕ) → outage_of ≡ Some outage → (get_or fs i d).line < lines
      → IsTable (length lost) lines (factor_after (take (i + 1) fs) lost) (slice_set table (outage * lines + (get_or fs i d).line) (get_or fs i d).value)
  loss_more outage e p =
      let at = is.found (get_or fs i d).of outage e in
      table_put (length lost) lines (factor_after (take i fs) lost) (factor_after (take (i + 1) fs) lost) table h outage (get_or fs i d).line (get_or fs i d).value at.0 p
      (ap (factor_in (take (i + 1) fs) (get_or fs i d).line) at.1 ∙ factor_in-here fs i d inside apart)
      (λ k l r s other. factor_in-other fs i d inside apart l (slice_index_or lost k 0)
      (λ line of. other (some_same k outage (sym (is.all k r) ∙ ap (λ (n : ℕ). slice_index_or index n None) (sym of) ∙ e)) (sym line)))
    where
      some_same : (a b : ℕ) → Some a ≡ Some b → a ≡ b
      some_same a b f = Prim.cc

  pub loss_none : outage_of ≡ None → IsTable (length lost) lines (factor_after (take (i + 1) fs) lost) table
  loss_none e =
      table_same (length lost) lines (factor_after (take i fs) lost) (factor_after (take (i + 1) fs) lost) table h
      (λ k l r s. factor_in-other fs i d inside apart l (slice_index_or lost k 0)
      (λ line of. none_some outage_of k e (ap (λ (n : ℕ). slice_index_or index n None) of ∙ is.all k r)))

-- ---- the factor of a pair by a search: the first that is left, or those behind it
pub search_here : (l o : ℕ) (fs : List Factor) (i : ℕ) (d : Factor) → i < length fs → (get_or fs i d).line ≡ l → (get_or fs i d).of ≡ o → factor_in (drop i fs) l o ≡ (get_or fs i d).value
search_here l o fs i d lt p q =
    ap (λ (gs : List Factor). factor_in gs l o) (drop_more fs i d lt)
    ∙ ap (λ (b : Bool). if b then (get_or fs i d).value else factor_in (drop (i + 1) fs) l o) (pair_both l o (get_or fs i d) p q)

pub search_on : (l o : ℕ) (fs : List Factor) (i : ℕ) (d : Factor) → i < length fs → ((get_or fs i d).line ≡ l → (get_or fs i d).of ≢ o) → factor_in (drop i fs) l o ≡ factor_in (drop (i + 1) fs) l o
search_on l o fs i d lt other = ap (λ (gs : List Factor). factor_in gs l o) (drop_more fs i d lt) ∙ by (is_pair l o (get_or fs i d)) refl
  where
    by : (b : Bool) → b ≡ is_pair l o (get_or fs i d) → (if b then (get_or fs i d).value else factor_in (drop (i + 1) fs) l o) ≡ factor_in (drop (i + 1) fs) l o
    by true e = let is = pair_true l o (get_or fs i d) (sym e) in absurd (other is.0 is.1)
    by false e = refl

-- a factor is a signed number of 64 bits
pub factor_fits : (n : ℤ) → unsigned_abs n ≤ most_factor → SFits w64 n
factor_fits n h = Prim.omega (arith, ints)
