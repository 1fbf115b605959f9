-- The rows that duals name, and sums over them.
use Rattle.std.specs.Prelude.{◌≡◌, ◌≢◌, ◌⊎◌, ◌||◌, ℕ, ◌<◌, pos, Bool, true, false, cond, List, [], ◌∷◌, ◌++◌, map, filter, length, take, AllPairs, Contains, if◌then◌else◌, refl}
use Rattle.std.proofs.Common.{zero, suc, inl, inr, arith, ap, sym, subst, ◌∙◌, get_or}
use Rattle.std.proofs.lemmas.Bool.{eq-eqb}
use Rattle.std.proofs.lemmas.List.{get_or-map, map-append}
use Rattle.std.proofs.lemmas.List.Kept.{AllPairs-filter}
use Rattle.fraction_theory.specs.Fraction.{Fraction, whole, ◌+ℚ◌, ◌*ℚ◌}
use Rattle.fraction_theory.specs.Signs.{sign_of, where_above, part_above}
use Rattle.fraction_theory.specs.declared.Sign.{Sign}
use Rattle.fraction_theory.specs.declared.Sign.TheVariants.{Below, Zero}
use Rattle.fraction_theory.specs.Sums.{sum_by, Term, term_value, total}
use Rattle.fraction_theory.proofs.FieldLaws.{ring_ℚ}
use Rattle.fraction_theory.proofs.ListSums.{kept, sum_by-filter, Contains-from_filter}
use Rattle.fraction_theory.proofs.Ring.{by_ring, at as nth, padd, pmul, pnil}
use Rattle.fraction_theory.proofs.SumLaws.{sum_by-same, total-map}
use Rattle.market_model.specs.declared.answered.Dual.{Dual}
use Rattle.market_model.specs.declared.answered.Duals.{Duals}
use Rattle.market_model.specs.declared.answered.RowId.{RowId}
use Rattle.market_model.specs.declared.participants.Parts.{Parts}
use Rattle.market_model.specs.declared.limits.Row.{Row}
use Rattle.market_model.specs.declared.limits.Cause.TheVariants.{Base}
use Rattle.market_model.specs.LimitRows.{rows, row_id}
use Rattle.market_model.specs.Market.{IsMarket}
use Rattle.market_model.specs.Optimality.{IsOneSided, ProperDuals, same_id, up_in, down_in, up_of, down_of, names_row, named_rows}
use Rattle.market_model.specs.Valued.{dual_at, duals_at}
use Rattle.market_model.proofs.ChangeLemmas.{same_default}
use Rattle.limit_rows.proofs.ApartLemmas.{names_apart}
use Rattle.limit_rows.proofs.GroupLemmas.{length-map}
use Rattle.limit_rows.proofs.PlaceLemmas.{same_name}

no_dual : Dual Fraction
no_dual = record { row = record { branch = 0; outage = 0; unit = 0 }; up = whole (pos 0); down = whole (pos 0) }

-- ---- the prices of a name
own_id : (a : RowId) → same_id a a ≡ true
own_id a = Prim.rw (eq-eqb a.branch a.branch refl, eq-eqb a.outage a.outage refl, eq-eqb a.unit a.unit refl) refl

other_id : (a b : RowId) → a ≢ b → same_id a b ≡ false
other_id a b h = by (same_id a b) refl
  where
    by : (t : Bool) → same_id a b ≡ t → t ≡ false
    by true e = absurd (h (same_name a b e))
    by false e = refl

abbrev pub NamesApart : List (Dual Fraction) → Type 0
NamesApart ds = AllPairs (λ a b. a.row ≢ b.row) ds

up_at : (ds : List (Dual Fraction)) (k : ℕ) (e : Dual Fraction) → NamesApart ds → k < length ds → up_in ds (get_or ds k e).row ≡ (get_or ds k e).up
up_at [] k e apart h = absurd (Prim.omega (arith, h))
up_at (d ∷ ds) zero e apart h = ap (λ (b : Bool). if b then d.up else up_in ds d.row) (own_id d.row)
up_at (d ∷ ds) (suc k) e apart h =
    let inside : k < length ds = Prim.omega (arith, h) in
    ap (λ (b : Bool). if b then d.up else up_in ds (get_or ds k e).row) (other_id d.row (get_or ds k e).row (apart 0 (suc k) e (Prim.omega arith) h))
    ∙ up_at ds k e (λ i j f p q. apart (suc i) (suc j) f (Prim.omega (arith, p)) (Prim.omega (arith, q))) inside

down_at : (ds : List (Dual Fraction)) (k : ℕ) (e : Dual Fraction) → NamesApart ds → k < length ds → down_in ds (get_or ds k e).row ≡ (get_or ds k e).down
down_at [] k e apart h = absurd (Prim.omega (arith, h))
down_at (d ∷ ds) zero e apart h = ap (λ (b : Bool). if b then d.down else down_in ds d.row) (own_id d.row)
down_at (d ∷ ds) (suc k) e apart h =
    let inside : k < length ds = Prim.omega (arith, h) in
    ap (λ (b : Bool). if b then d.down else down_in ds (get_or ds k e).row) (other_id d.row (get_or ds k e).row (apart 0 (suc k) e (Prim.omega arith) h))
    ∙ down_at ds k e (λ i j f p q. apart (suc i) (suc j) f (Prim.omega (arith, p)) (Prim.omega (arith, q))) inside

-- a name that no dual has
or_false : (a b : Bool) → (a || b) ≡ false → (a ≡ false) × (b ≡ false)
or_false true b h = absurd Prim.cc
or_false false b h = (refl, h)

pub up_unnamed : (ds : List (Dual Fraction)) (id : RowId) → names_row ds id ≡ false → up_in ds id ≡ whole (pos 0)
up_unnamed [] id h = refl
up_unnamed (d ∷ ds) id h =
    let both = or_false (same_id d.row id) (names_row ds id) h in ap (λ (b : Bool). if b then d.up else up_in ds id) both.0 ∙ up_unnamed ds id both.1

pub down_unnamed : (ds : List (Dual Fraction)) (id : RowId) → names_row ds id ≡ false → down_in ds id ≡ whole (pos 0)
down_unnamed [] id h = refl
down_unnamed (d ∷ ds) id h =
    let both = or_false (same_id d.row id) (names_row ds id) h in ap (λ (b : Bool). if b then d.down else down_in ds id) both.0 ∙ down_unnamed ds id both.1

-- ---- prices of 0 make nothing
pub nothing_made : (s price room : Fraction) → price ≡ whole (pos 0) → s ≡ s +ℚ price *ℚ room
nothing_made s price room e =
    by_ring ring_ℚ (s ∷ room ∷ []) (nth 0) (padd (nth 0) (pmul pnil (nth 1))) refl ∙ ap (λ t. s +ℚ t *ℚ room) (sym e)

-- nor does a number that is not above 0, by its part above 0
pub none_above : (s w room : Fraction) (t : Sign) → t ≡ sign_of w → (t ≡ Below) ⊎ (t ≡ Zero) → s ≡ s +ℚ part_above w *ℚ room
none_above s w room t is some = nothing_made s (part_above w) room (sym (ap (λ (u : Sign). where_above u w) is) ∙ by some)
  where
    by : (t ≡ Below) ⊎ (t ≡ Zero) → where_above t w ≡ whole (pos 0)
    by (inl e) = ap (λ (u : Sign). where_above u w) e
    by (inr e) = ap (λ (u : Sign). where_above u w) e

-- ---- a list round one of those that pass a test
pub filter_at : {X : Type 0} (p : X → Bool) (xs : List X) (k : ℕ) (e : X) → k < length (filter p xs)
    → (front : List X) × (rest : List X) × (xs ≡ front ++ get_or (filter p xs) k e ∷ rest) × (filter p front ≡ take k (filter p xs))
filter_at p [] k e h = absurd (Prim.omega (arith, h))
filter_at {X} p (x ∷ xs) k e h = by (p x) refl k (λ j lt. filter_at p xs j e lt) h
  where
    by : (b : Bool) → p x ≡ b → (j : ℕ)
        → ((i : ℕ) → i < length (filter p xs) → (front : List X) × (rest : List X) × (xs ≡ front ++ get_or (filter p xs) i e ∷ rest) × (filter p front ≡ take i (filter p xs)))
        → j < length (cond b (x ∷ filter p xs) (filter p xs))
        → (front : List X) × (rest : List X) × (x ∷ xs ≡ front ++ get_or (cond b (x ∷ filter p xs) (filter p xs)) j e ∷ rest) × (filter p front ≡ take j (cond b (x ∷ filter p xs) (filter p xs)))
    by true t zero more lt = ([], xs, refl, refl)
    by true t (suc j) more lt =
        let r = more j (Prim.omega (arith, lt)) in
        (x ∷ r.0, r.1, ap (λ ys. x ∷ ys) r.2, ap (λ (b : Bool). cond b (x ∷ filter p r.0) (filter p r.0)) t ∙ ap (λ ys. x ∷ ys) r.3)
    by false t j more lt =
        let r = more j lt in
        (x ∷ r.0, r.1, ap (λ ys. x ∷ ys) r.2, ap (λ (b : Bool). cond b (x ∷ filter p r.0) (filter p r.0)) t ∙ r.3)

-- ---- sums over rows that duals name
module _ (m : Parts) (d : Duals Fraction) where
  abbrev named : Row → Bool
  named r = names_row d.limits (row_id m r)

  -- what is 0 for rows without duals has one sum over all rows and over those with duals
  pub sum_named : (f : Row → Fraction) (rs : List Row) → ((r : Row) → names_row d.limits (row_id m r) ≡ false → f r ≡ whole (pos 0)) → sum_by f rs ≡ sum_by f (filter named rs)
  sum_named f rs none = sum_by-same f (λ r. kept (named r) (f r)) rs (λ r. by (named r) (none r)) ∙ sym (sum_by-filter f named rs)
    where
      by : {x : Fraction} (b : Bool) → (b ≡ false → x ≡ whole (pos 0)) → x ≡ kept b x
      by true h = refl
      by false h = h refl

  -- terms round that of one of the rows with duals
  pub terms_named : (t : Row → Term) → ((r : Row) → names_row d.limits (row_id m r) ≡ false → term_value (t r) ≡ whole (pos 0)) → (k : ℕ) (r : Row) → k < length (named_rows m d) → r ≡ get_or (named_rows m d) k r
      → (front : List Term) × (rest : List Term) × (map t (rows m) ≡ front ++ t r ∷ rest) × (total front ≡ sum_by (λ s. term_value (t s)) (take k (named_rows m d)))
  terms_named t none k r h at =
      let s = filter_at named (rows m) k r h in (
        map t s.0,
        map t s.1,
        ap (map t) s.2 ∙ map-append t s.0 (get_or (named_rows m d) k r ∷ s.1) ∙ ap (λ (x : Row). map t s.0 ++ t x ∷ map t s.1) (sym at),
        total-map t s.0 ∙ sum_named (λ x. term_value (t x)) s.0 none ∙ ap (sum_by (λ x. term_value (t x))) s.3,
      )

-- ---- the row of a dual
-- a row of the market with the prices of a dual, at its place
pub record IsRowOfDual (m : Parts) (d : Duals Fraction) (k : ℕ) (e : Dual Fraction) (r : Row) : Type 0 where
  pub row : Contains (rows m) r
  pub name : row_id m r ≡ e.row
  pub inside : k < length (named_rows m d)
  pub at : r ≡ get_or (named_rows m d) k r
  pub up : up_of m d r ≡ e.up
  pub down : down_of m d r ≡ e.down

module _ (m : Parts) (market : IsMarket m) (d : Duals Fraction) (names : map (λ e. e.row) d.limits ≡ map (row_id m) (named_rows m d)) where
  abbrev none : Row
  none = record { line = 0; cause = Base }

  pub named_count : length d.limits ≡ length (named_rows m d)
  named_count = sym (length-map (λ (e : Dual Fraction). e.row) d.limits) ∙ ap length names ∙ length-map (row_id m) (named_rows m d)

  name_at : (k : ℕ) (e : Dual Fraction) (r : Row) → k < length d.limits → (get_or d.limits k e).row ≡ row_id m (get_or (named_rows m d) k r)
  name_at k e r h =
      sym (get_or-map (λ (f : Dual Fraction). f.row) d.limits k e e.row h) ∙ ap (λ (ids : List RowId). get_or ids k e.row) names
      ∙ get_or-map (row_id m) (named_rows m d) k r e.row (Prim.omega (arith, h, named_count))

  apart : NamesApart d.limits
  apart i j e p q = λ same.
      let inside : j < length (named_rows m d) = Prim.omega (arith, q, named_count) in
      AllPairs-filter (λ r s. row_id m r ≢ row_id m s) (λ r. names_row d.limits (row_id m r)) (rows m) (names_apart m market) i j none p inside
      (sym (name_at i e none (Prim.omega (arith, p, q))) ∙ same ∙ name_at j e none q)

  pub row_of_dual : (k : ℕ) (e : Dual Fraction) → k < length d.limits → e ≡ get_or d.limits k e → (r : Row) × IsRowOfDual m d k e r
  row_of_dual k e h at =
      let r : Row = get_or (named_rows m d) k none in
      let inside : k < length (named_rows m d) = Prim.omega (arith, h, named_count) in
      let name : row_id m r ≡ e.row = sym (name_at k e none h) ∙ ap (λ (f : Dual Fraction). f.row) (sym at) in (
        r,
        record {
          row = (Contains-from_filter (λ s. names_row d.limits (row_id m s)) (rows m) r (k, inside, same_default (named_rows m d) k r none inside)).0;
          name = name;
          inside = inside;
          at = same_default (named_rows m d) k none r inside;
          up = ap (up_in d.limits) (name ∙ ap (λ (f : Dual Fraction). f.row) at) ∙ up_at d.limits k e apart h ∙ ap (λ (f : Dual Fraction). f.up) (sym at);
          down = ap (down_in d.limits) (name ∙ ap (λ (f : Dual Fraction). f.row) at) ∙ down_at d.limits k e apart h ∙ ap (λ (f : Dual Fraction). f.down) (sym at);
        },
      )

-- a dual of a list that was read
module _ {N : Type 0} (value : N → Fraction) (m : Parts) (duals : Duals N) (proper : ProperDuals m (duals_at value duals)) (items : List (Dual N)) (k : ℕ) (item : Dual N)
    (listed : items ≡ duals.limits) (inside : k < length items) (is : item ≡ get_or items k item) where
  below : k < length (duals_at value duals).limits
  below = Prim.omega (arith, inside, ap length listed, length-map (dual_at value) duals.limits)

  read : dual_at value item ≡ get_or (duals_at value duals).limits k (dual_at value item)
  read =
      sym (get_or-map (dual_at value) duals.limits k item (dual_at value item) (Prim.omega (arith, inside, ap length listed))
      ∙ ap (λ (es : List (Dual N)). dual_at value (get_or es k item)) (sym listed) ∙ ap (dual_at value) (sym is))

  pub dual_one_sided : IsOneSided (dual_at value item)
  dual_one_sided = subst IsOneSided (sym read) (proper.one_sided k (dual_at value item) below)

  pub dual_row : IsMarket m → (r : Row) × IsRowOfDual m (duals_at value duals) k (dual_at value item) r
  dual_row market = row_of_dual m market (duals_at value duals) proper.named k (dual_at value item) below read
