-- The duals of rows by their names.
use Rattle.std.specs.Prelude.{◌≡◌, ◌≢◌, ◌==◌, ◌&&◌, ◌||◌, ℕ, ◌<◌, ◌+◌, Bool, true, false, cond, List, [], ◌∷◌, ◌++◌, length, map, filter, AllPairs, Option, Result, Ok, Err, MatchResult, is_err, is_some, Some, None, if◌then◌else◌, refl}
use Rattle.std.specs.Map.{lookup}
use Rattle.std.proofs.Common.{zero, suc, arith, ap, ap₂, sym, subst, ◌∙◌, get_or, take}
use Rattle.std.proofs.lemmas.Bool.{and_parts, eq-eqb, eqb-true, true≢false}
use Rattle.std.proofs.lemmas.List.{append-nil, get_or-map, length-map, map-append, take_more}
use Rattle.std.proofs.lemmas.List.Elements.{filter-append}
use Rattle.std.proofs.lemmas.List.FromFn.{length-range_with_len}
use Rattle.std.proofs.lemmas.Map.Entries.{lookup_tail}
use Rattle.fraction_theory.specs.Fraction.{Fraction}
use Rattle.market_model.specs.declared.answered.Dual.{Dual}
use Rattle.market_model.specs.declared.answered.RoomDual.{RoomDual}
use Rattle.market_model.specs.declared.answered.Duals.{Duals}
use Rattle.market_model.specs.declared.answered.RowId.{RowId}
use Rattle.market_model.specs.declared.participants.Parts.{Parts}
use Rattle.market_model.specs.declared.limits.Row.{Row}
use Rattle.market_model.specs.LimitRows.{row_id}
use Rattle.market_model.specs.Optimality.{names_row, same_id, up_in, down_in}
use Rattle.market_model.specs.Valued.{dual_at, duals_with}
use Rattle.market_model.specs.Dispatch.{places}
use Rattle.market_model.proofs.MorePlaces.{places_more}
use Rattle.limit_rows.proofs.PlaceLemmas.{same_name}
use Rattle.cert_format.specs.Certificates.{NamesNoRowTwice, name_of, same_triple}
use Rattle.cert_sums.specs.declared.pricing.NamedRow.{NamedRow}
use Rattle.cert_sums.specs.Named.{PricedRow, priced_at, priced_by}
use Rattle.cert_verify.specs.Naming.{IsNamedAt, entry_of, prices_of}
use Rattle.cert_verify.proofs.VerdictLemmas.{other_id, own_id}

-- triples are the same where names are
same_triple-id : (id row : RowId) → same_triple (name_of id) (name_of row) ≡ same_id row id
same_triple-id id row = by (same_id row id) (same_triple (name_of id) (name_of row)) refl refl
  where
    by : (a b : Bool) → same_id row id ≡ a → same_triple (name_of id) (name_of row) ≡ b → b ≡ a
    by true true e f = refl
    by false false e f = refl
    by true false e f = absurd (true≢false (sym (subst (λ (r : RowId). same_triple (name_of id) (name_of r) ≡ true) (sym (same_name row id e)) (own_id id)) ∙ f))
    by false true e f =
        let parts = and_parts ((id.branch == row.branch) && (id.outage == row.outage)) (id.unit == row.unit) f in
        let front = and_parts (id.branch == row.branch) (id.outage == row.outage) parts.0 in
        absurd
        (true≢false
        (sym
        (Prim.rw
        (eq-eqb row.branch id.branch (sym (eqb-true id.branch row.branch front.0)), eq-eqb row.outage id.outage (sym (eqb-true id.outage row.outage front.1)), eq-eqb row.unit id.unit (sym (eqb-true id.unit row.unit parts.1))) refl)
        ∙ e))

-- what a name has among duals
pub record IsDualOf {N : Type 0} (value : N → Fraction) (ds : List (Dual N)) (id : RowId) (e : Dual N) : Type 0 where
  pub named : names_row (map (dual_at value) ds) id ≡ true
  pub up : up_in (map (dual_at value) ds) id ≡ value e.up
  pub down : down_in (map (dual_at value) ds) id ≡ value e.down

module _ {N : Type 0} (value : N → Fraction) (id : RowId) where
  abbrev found : List (Dual N) → Option (Dual N)
  found ds = lookup (same_triple (name_of id)) (map entry_of ds)

  pub not_named : (ds : List (Dual N)) → found ds ≡ None → names_row (map (dual_at value) ds) id ≡ false
  not_named [] e = refl
  not_named (d ∷ ds) e = by (same_id d.row id) refl (subst (λ (b : Bool). (if b then Some d else found ds) ≡ None) (same_triple-id id d.row) e) (λ h. not_named ds h)
    where
      by : (b : Bool) → same_id d.row id ≡ b → (if b then Some d else found ds) ≡ None → (found ds ≡ None → names_row (map (dual_at value) ds) id ≡ false) → (same_id d.row id || names_row (map (dual_at value) ds) id) ≡ false
      by true t h more = absurd Prim.cc
      by false t h more = ap (λ (b : Bool). b || names_row (map (dual_at value) ds) id) t ∙ more h

  pub dual_named : (ds : List (Dual N)) (e : Dual N) → found ds ≡ Some e → IsDualOf value ds id e
  dual_named [] e h = absurd Prim.cc
  dual_named (d ∷ ds) e h = by (same_id d.row id) refl (subst (λ (b : Bool). (if b then Some d else found ds) ≡ Some e) (same_triple-id id d.row) h) (λ g. dual_named ds e g)
    where
      by : (b : Bool) → same_id d.row id ≡ b → (if b then Some d else found ds) ≡ Some e → (found ds ≡ Some e → IsDualOf value ds id e) → IsDualOf value (d ∷ ds) id e
      by true t g more =
          let same : d ≡ e = Prim.cc in record {
            named = ap (λ (b : Bool). b || names_row (map (dual_at value) ds) id) t;
            up = ap (λ (b : Bool). if b then value d.up else up_in (map (dual_at value) ds) id) t ∙ ap (λ (f : Dual N). value f.up) same;
            down = ap (λ (b : Bool). if b then value d.down else down_in (map (dual_at value) ds) id) t ∙ ap (λ (f : Dual N). value f.down) same;
          }
      by false t g more =
          let r = more g in record {
            named = ap (λ (b : Bool). b || names_row (map (dual_at value) ds) id) t ∙ r.named;
            up = ap (λ (b : Bool). if b then value d.up else up_in (map (dual_at value) ds) id) t ∙ r.up;
            down = ap (λ (b : Bool). if b then value d.down else down_in (map (dual_at value) ds) id) t ∙ r.down;
          }

-- ---- each name once
-- no dual has the name of an earlier one
abbrev Apart : {N : Type 0} → List (Dual N) → Type 0
Apart ds = AllPairs (λ a b. a.row ≢ b.row) ds

apart_of : {N : Type 0} (value : N → Fraction) (ds : List (Dual N)) → NamesNoRowTwice (map (dual_at value) ds) → Apart ds
apart_of {N} value ds h i j d p q = λ same.
    let inside : j < length (map (dual_at value) ds) = Prim.omega (arith, q, length-map ds (dual_at value)) in
    h i j (dual_at value d) p inside
    (ap (λ (e : Dual Fraction). e.row) (get_or-map (dual_at value) ds i d (dual_at value d) (Prim.omega (arith, p, q))) ∙ same
    ∙ sym (ap (λ (e : Dual Fraction). e.row) (get_or-map (dual_at value) ds j d (dual_at value d) q)))

absent_by : {N : Type 0} (ds : List (Dual N)) → Apart ds → (i : ℕ) (e : Dual N) → i < length ds → e ≡ get_or ds i e → lookup (same_triple (name_of e.row)) (map entry_of (take i ds)) ≡ None
absent_by [] apart i e lt at = absurd (Prim.omega (arith, lt))
absent_by (d ∷ ds) apart zero e lt at = refl
absent_by {N} (d ∷ ds) apart (suc i) e lt at =
    let other = same_triple-id e.row d.row ∙ other_id d.row e.row (λ same. apart 0 (suc i) e (Prim.omega arith) lt (same ∙ ap (λ (f : Dual N). f.row) at)) in
    lookup_tail (same_triple (name_of e.row)) (entry_of d) (map entry_of (take i ds)) other ∙ absent_by ds (λ k j f p q. apart (suc k) (suc j) f (Prim.omega (arith, p)) (Prim.omega (arith, q))) i e (Prim.omega (arith, lt)) at

pub absent : {N : Type 0} (value : N → Fraction) (ds : List (Dual N)) (i : ℕ) (e : Dual N) → NamesNoRowTwice (map (dual_at value) ds) → i < length ds → e ≡ get_or ds i e
    → lookup (same_triple (name_of e.row)) (map entry_of (take i ds)) ≡ None
absent value ds i e h lt at = absent_by ds (apart_of value ds h) i e lt at

pub entries_more : {N : Type 0} (ds : List (Dual N)) (i : ℕ) (e : Dual N) → i < length ds → e ≡ get_or ds i e → map entry_of (take i ds) ++ entry_of e ∷ [] ≡ map entry_of (take (i + 1) ds)
entries_more {N} ds i e lt at =
    ap (λ (f : Dual N). map entry_of (take i ds) ++ entry_of f ∷ []) at ∙ sym (map-append entry_of (take i ds) (get_or ds i e ∷ [])) ∙ ap (map entry_of) (sym (take_more ds i e lt))

-- ---- the rows that are named, one by one
module _ {N : Type 0} (value : N → Fraction) (m : Parts) where
  -- what is found under the name of a row
  pub named_is : (ds : List (Dual N)) (energy reserve_price : Fraction) (rooms : List (RoomDual Fraction)) (row : Row) (e : Dual N) → lookup (same_triple (name_of (row_id m row))) (map entry_of ds) ≡ Some e
      → IsNamedAt value m (duals_with energy (map (dual_at value) ds) reserve_price rooms) row (Some (record { row = row; up = e.up; down = e.down }))
  named_is ds energy reserve_price rooms row e found =
      let is = dual_named value (row_id m row) ds e found in
      (is.named, ap₂ (λ (u w : Fraction). record { row = row; up = u; down = w }) (sym is.up) (sym is.down))

  -- whether duals name a row, where it was looked for among them
  pub names_by : (d : Duals Fraction) (row : Row) (found : Option (NamedRow N)) → IsNamedAt value m d row found → names_row d.limits (row_id m row) ≡ is_some found
  names_by d row None is = is
  names_by d row (Some e) is = is.0

  module _ (d : Duals Fraction) where
    pub row_kept : (r : Row) (xs : List (NamedRow N)) (e : NamedRow N) → IsNamedAt value m d r (Some e) → map (priced_at value) (xs ++ e ∷ []) ≡ map (priced_at value) xs ++ prices_of m d (r ∷ [])
    row_kept r xs e is =
        map-append (priced_at value) xs (e ∷ []) ∙ ap (λ (y : PricedRow). map (priced_at value) xs ++ y ∷ []) is.1
        ∙ ap (λ (b : Bool). map (priced_at value) xs ++ map (priced_by m d) (cond b (r ∷ []) [])) (sym is.0)

    pub row_passed : (r : Row) (xs : List (NamedRow N)) → names_row d.limits (row_id m r) ≡ false → map (priced_at value) xs ≡ map (priced_at value) xs ++ prices_of m d (r ∷ [])
    row_passed r xs free =
        sym (append-nil (map (priced_at value) xs)) ∙ ap (λ (b : Bool). map (priced_at value) xs ++ map (priced_by m d) (cond b (r ∷ []) [])) (sym free)

    prices_join : (rs ss : List Row) → prices_of m d (rs ++ ss) ≡ prices_of m d rs ++ prices_of m d ss
    prices_join rs ss =
        ap (map (priced_by m d)) (filter-append (λ r. names_row d.limits (row_id m r)) rs ss)
        ∙ map-append (priced_by m d) (filter (λ r. names_row d.limits (row_id m r)) rs) (filter (λ r. names_row d.limits (row_id m r)) ss)

    pub row_more : (before : List Row) (r : Row) (old new : List PricedRow) → old ≡ prices_of m d before → new ≡ old ++ prices_of m d (r ∷ []) → new ≡ prices_of m d (before ++ r ∷ [])
    row_more before r old new so_far more = more ∙ ap (λ (ys : List PricedRow). ys ++ prices_of m d (r ∷ [])) so_far ∙ sym (prices_join before (r ∷ []))

-- what a push leaves
pub pushed : {A B : Type 0} (r : Result A B) (P Q : Type 0) → MatchResult r (λ _. P) (λ _. Q) → is_err r ≡ false → P
pushed (Ok a) P Q h e = h
pushed (Err b) P Q h e = absurd (true≢false e)

-- so many numbers as places
pub counted : {N : Type 0} (value : N → Fraction) (f : ℕ → Fraction) (xs : List N) (n : ℕ) → map value xs ≡ map f (places n) → length xs ≡ n
counted value f xs n e = sym (length-map xs value) ∙ ap length e ∙ length-map (places n) f ∙ length-range_with_len 0 n

pub price_more : {N : Type 0} (value : N → Fraction) (f : ℕ → Fraction) (xs : List N) (x : N) (k : ℕ) → map value xs ≡ map f (places k) → value x ≡ f k → map value (xs ++ x ∷ []) ≡ map f (places (k + 1))
price_more value f xs x k before here =
    map-append value xs (x ∷ []) ∙ ap₂ (λ (ys : List Fraction) (y : Fraction). ys ++ y ∷ []) before here ∙ sym (ap (map f) (places_more k) ∙ map-append f (places k) (k ∷ []))
