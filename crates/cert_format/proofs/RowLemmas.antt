-- Rows that are named once.
use Rattle.std.proofs.Common.{◌≡◌, ◌<◌, ◌∙◌, sym, ap, refl, zero, suc, arith, ℕ, List, [], ◌∷◌, ◌++◌, map, length, get_or, Bool, true, false, Option, Some, None}
use Rattle.std.specs.Prelude.{◌≢◌, ◌==◌, ◌&&◌, ◌||◌, not, if◌then◌else◌, option_map, option_and_then}
use Rattle.std.specs.List.{list_any}
use Rattle.std.proofs.lemmas.Bool.{and_parts, and_from, eq-eqb, eqb-true, false_from_ne_true, or_from, or_parts, or_right, true≢false}
use Rattle.std.proofs.lemmas.List.{map-append}
use Rattle.std.proofs.lemmas.List.Folds.{list_any-append}
use Rattle.fraction_theory.specs.Fraction.{Fraction}
use Rattle.market_model.specs.declared.answered.Dual.{Dual}
use Rattle.market_model.specs.declared.answered.RowId.{RowId}
use Rattle.market_model.specs.Valued.{dual_at}
use Rattle.cert_format.specs.Certificates.{NamesNoRowTwice, name_of, same_triple}
use Rattle.cert_format.specs.Grammar.{distinct, if_distinct, is_of}

abbrev Duals : Type 0
Duals = List (Dual Fraction)

pub not_0 : (n : ℕ) → (suc n == 0) ≡ false
not_0 n = false_from_ne_true (suc n == 0) (λ e. let same = eqb-true (suc n) 0 e in absurd (omega (arith, same)))

-- ---- the test and the relation
one_row : (row : RowId) (d : Dual Fraction) → is_of row d ≡ true → row ≡ d.row
one_row row d h =
    let p = and_parts _ _ h in
    let q = and_parts _ _ p.0 in
    let branch : row.branch ≡ d.row.branch = eqb-true _ _ q.0 in
    let outage : row.outage ≡ d.row.outage = eqb-true _ _ q.1 in
    let unit : row.unit ≡ d.row.unit = eqb-true _ _ p.1 in
    λ i. record { branch = branch i; outage = outage i; unit = unit i }

its_own : (row : RowId) (d : Dual Fraction) → row ≡ d.row → is_of row d ≡ true
its_own row d e = and_from _ _ (and_from _ _ (eq-eqb _ _ (ap (λ (r : RowId). r.branch) e)) (eq-eqb _ _ (ap (λ (r : RowId). r.outage) e))) (eq-eqb _ _ (ap (λ (r : RowId). r.unit) e))

-- no dual of a list is of the row
apart : (row : RowId) (ds : Duals) → list_any (is_of row) ds ≡ false → (i : ℕ) (d : Dual Fraction) → i < length ds → row ≢ (get_or ds i d).row
apart row [] h i d lt e = absurd (omega (arith, lt))
apart row (x ∷ ds) h zero d lt e = let p = or_parts _ _ h in true≢false (sym (its_own row x e) ∙ p.0)
apart row (x ∷ ds) h (suc i) d lt e = let p = or_parts (is_of row x) (list_any (is_of row) ds) h in apart row ds p.1 i d (omega (arith, lt)) e

none_of : (row : RowId) (ds : Duals) → ((i : ℕ) (d : Dual Fraction) → i < length ds → row ≢ (get_or ds i d).row) → list_any (is_of row) ds ≡ false
none_of row [] h = refl
none_of row (x ∷ ds) h = or_from _ _ (false_from_ne_true (is_of row x) (λ e. h 0 x (omega arith) (one_row row x e))) (none_of row ds (λ i d lt. h (suc i) d (omega (arith, lt))))

not_any : (b c : Bool) → (not b && c) ≡ true → (b ≡ false) × (c ≡ true)
not_any true c h = absurd (true≢false (sym h))
not_any false c h = (refl, h)

pub distinct-names : (ds : Duals) → distinct ds ≡ true → NamesNoRowTwice ds
distinct-names [] h i j d lt within = absurd (omega (arith, within))
distinct-names (x ∷ ds) h zero zero d lt within = absurd (omega (arith, lt))
distinct-names (x ∷ ds) h zero (suc j) d lt within = let p = not_any (list_any (is_of x.row) ds) (distinct ds) h in apart x.row ds p.0 j d (omega (arith, within))
distinct-names (x ∷ ds) h (suc i) zero d lt within = absurd (omega (arith, lt))
distinct-names (x ∷ ds) h (suc i) (suc j) d lt within = let p = not_any (list_any (is_of x.row) ds) (distinct ds) h in distinct-names ds p.1 i j d (omega (arith, lt)) (omega (arith, within))

pub names-distinct : (ds : Duals) → NamesNoRowTwice ds → distinct ds ≡ true
names-distinct [] h = refl
names-distinct (x ∷ ds) h =
    let first = none_of x.row ds (λ i d lt. h 0 (suc i) d (omega arith) (omega (arith, lt))) in
    rw first (names-distinct ds (λ i j d lt within. h (suc i) (suc j) d (omega (arith, lt)) (omega (arith, within))))

-- ---- one dual more
same_either_way : (a b : RowId) (x y : Dual Fraction) → a ≡ y.row → b ≡ x.row → is_of a x ≡ is_of b y
same_either_way a b x y p q = by (is_of a x) refl
  where
    by : (t : Bool) → is_of a x ≡ t → t ≡ is_of b y
    by true e = sym (its_own b y (q ∙ sym (one_row a x e) ∙ p))
    by false e = other (is_of b y) refl
      where
        other : (t : Bool) → is_of b y ≡ t → false ≡ t
        other true f = absurd (true≢false (sym (its_own a x (p ∙ sym (one_row b y f) ∙ q)) ∙ e))
        other false f = refl

-- a row that is new
pub distinct-push : (ds : Duals) (x : Dual Fraction) → distinct ds ≡ true → list_any (is_of x.row) ds ≡ false → distinct (ds ++ x ∷ []) ≡ true
distinct-push [] x h new = refl
distinct-push (d ∷ ds) x h new =
    let p = not_any (list_any (is_of d.row) ds) (distinct ds) h in
    let q = or_parts (is_of x.row d) (list_any (is_of x.row) ds) new in
    let rest = distinct-push ds x p.1 q.1 in
    let other : is_of d.row x ≡ false = same_either_way d.row x.row x d refl refl ∙ q.0 in
    rw (list_any-append (is_of d.row) ds (x ∷ []), p.0, other) rest

-- and one that is there
found_in : (ds : Duals) (row : RowId) (x : Dual Fraction) (more : Duals) → is_of row x ≡ true → list_any (is_of row) ((ds ++ x ∷ []) ++ more) ≡ true
found_in [] row x more e = rw e refl
found_in (d ∷ ds) row x more e = or_right _ _ (found_in ds row x more e)

and_nothing : (b : Bool) → (b && false) ≡ false
and_nothing true = refl
and_nothing false = refl

pub distinct-twice : (ds : Duals) (x : Dual Fraction) (more : Duals) → list_any (is_of x.row) ds ≡ true → distinct ((ds ++ x ∷ []) ++ more) ≡ false
distinct-twice [] x more h = absurd (true≢false (sym h))
distinct-twice (d ∷ ds) x more h = by (distinct-twice ds x more) (is_of x.row d) refl
  where
    by : (list_any (is_of x.row) ds ≡ true → distinct ((ds ++ x ∷ []) ++ more) ≡ false) → (b : Bool) → is_of x.row d ≡ b → distinct (((d ∷ ds) ++ x ∷ []) ++ more) ≡ false
    by again true e =
        let other : is_of d.row x ≡ true = same_either_way d.row x.row x d refl refl ∙ e in
        let found : list_any (is_of d.row) ((ds ++ x ∷ []) ++ more) ≡ true = found_in ds d.row x more other in
        rw found refl
    by again false e = rw (again (rw e at h)) (and_nothing (not (list_any (is_of d.row) ((ds ++ x ∷ []) ++ more))))

-- so that the limits are none, whatever follows
pub repeated : (done : Duals) (x : Dual Fraction) (o : Option Duals) → list_any (is_of x.row) done ≡ true → option_and_then if_distinct (option_map (λ xs. (done ++ x ∷ []) ++ xs) o) ≡ None
repeated done x None h = refl
repeated done x (Some xs) h = rw (distinct-twice done x xs h) refl

-- ---- the rows of duals with any numbers
same_test : {N : Type 0} (value : N → Fraction) (limits : List (Dual N)) (row : RowId) → list_any (same_triple (name_of row)) (map (λ d. name_of d.row) limits) ≡ list_any (is_of row) (map (dual_at value) limits)
same_test value [] row = refl
same_test value (d ∷ limits) row = ap (λ b. ((row.branch == d.row.branch) && (row.outage == d.row.outage) && (row.unit == d.row.unit)) || b) (same_test value limits row)

module _ {N : Type 0} (value : N → Fraction) (limits : List (Dual N)) (x : Dual N) (keys : List (ℕ × ℕ × ℕ)) (rows : keys ≡ map (λ d. name_of d.row) limits) where
  abbrev has : Bool
  has = list_any (same_triple (name_of x.row)) keys

  -- whether the row is there
  pub test_is : has ≡ list_any (is_of x.row) (map (dual_at value) limits)
  test_is = ap (λ ks. list_any (same_triple (name_of x.row)) ks) rows ∙ same_test value limits x.row

  module _ (fresh : has ≡ false) (next : List (Dual N)) (pushed : next ≡ limits ++ x ∷ []) where
    -- the rows with one more
    pub rows-push : (more : List (ℕ × ℕ × ℕ)) → more ≡ keys ++ name_of x.row ∷ [] → more ≡ map (λ d. name_of d.row) next
    rows-push more e = e ∙ ap (λ ks. ks ++ name_of x.row ∷ []) rows ∙ sym (map-append (λ d. name_of d.row) limits (x ∷ [])) ∙ ap (map (λ d. name_of d.row)) (sym pushed)

    pub seen-push : map (dual_at value) next ≡ map (dual_at value) limits ++ dual_at value x ∷ []
    seen-push = ap (map (dual_at value)) pushed ∙ map-append (dual_at value) limits (x ∷ [])

    pub once-push : distinct (map (dual_at value) limits) ≡ true → distinct (map (dual_at value) next) ≡ true
    once-push h = ap distinct seen-push ∙ distinct-push (map (dual_at value) limits) (dual_at value x) h (sym test_is ∙ fresh)

-- the same choice, by whether the row is new
pub by_new : {A : Type 0} (there new : Bool) (a b : A) → new ≡ not there → (if there then a else b) ≡ (if new then b else a)
by_new true new a b e = rw e refl
by_new false new a b e = rw e refl
