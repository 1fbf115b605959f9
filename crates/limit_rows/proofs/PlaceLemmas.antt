-- The rows of a market by the places of their lines, and by name.
use Rattle.std.specs.Prelude.{◌≡◌, ◌≢◌, ◌⊎◌, ◌==◌, ℕ, ◌<◌, ◌&&◌, Bool, true, false, List, ◌++◌, map, length, All, Contains, Some, option_map, refl}
use Rattle.std.specs.List.{slice_get, position}
use Rattle.std.proofs.Common.{arith, inl, inr, ap, ap₂, sym, subst, ◌∙◌, get_or}
use Rattle.std.proofs.lemmas.List.FromFn.{length-range_with_len}
use Rattle.std.proofs.lemmas.List.Elements.{All-contains, Contains-append_left, Contains-append_right}
use Rattle.std.proofs.lemmas.Bool.{eq-eqb, eqb-true}
use Rattle.std.proofs.lemmas.List.Quantifiers.{position-Some}
use Rattle.limit_rows.proofs.PositionLemmas.{Fails, position-is}
use Rattle.market_model.specs.Optimality.{same_id}
use Rattle.std.proofs.lemmas.List.Sums.{passes_at_first, position_or_len_is}
use Rattle.std.proofs.lemmas.Option.{slice_get_within, get_or_from_slice_get, slice_get-get_or, slice_get-map}
use Rattle.fraction_theory.proofs.ListSums.{Contains-cons}
use Rattle.market_model.specs.declared.answered.RowId.{RowId}
use Rattle.market_model.specs.declared.participants.Parts.{Parts}
use Rattle.market_model.specs.Dispatch.{places, line_at, unit_at}
use Rattle.market_model.specs.Market.{IsMarket}
use Rattle.market_model.specs.declared.limits.Row.{Row}
use Rattle.market_model.specs.declared.limits.Cause.TheVariants.{Base, Branch, UnitOutage}
use Rattle.market_model.specs.declared.limits.Cause.{Cause}
use Rattle.market_model.specs.LimitRows.{outage_of, unit_of, place_of_line, row_id, rows, bears, causes, lost_lines, lost_unit}
use Rattle.market_model.proofs.ChangeLemmas.{same_default}
use Rattle.market_model.proofs.RowMembers.{Contains-map, Contains-from_map, Contains-places, cause_from, row_parts}
use Rattle.limit_rows.specs.Naming.{IsCauseNamed, has_name}
use Rattle.limit_rows.proofs.ApartLemmas.{names_apart, same_cause}
use Rattle.market_model.proofs.LostLemmas.{place_at, place-own, row-of_outage}

pub listed : {X : Type 0} (xs : List X) (k : ℕ) (x : X) → slice_get xs k ≡ Some x → Contains xs x
listed xs k x e = (k, slice_get_within xs k x e, get_or_from_slice_get xs k x x e)

-- ---- rows by causes
pub none_of_loss : (m : Parts) (name : RowId) → All (λ cause. ¬ (IsCauseNamed m cause name.outage name.unit)) (causes m) → (r : Row) → Contains (rows m) r → row_id m r ≢ name
none_of_loss m name none r c =
    λ e. All-contains (λ cause. ¬ (IsCauseNamed m cause name.outage name.unit)) (causes m) r.cause none (row_parts m r c).group
    (record { branch = ap (λ (n : RowId). n.outage) e; unit = ap (λ (n : RowId). n.unit) e })

-- ---- causes by what they lose
pub all_causes : (m : Parts) (P : Cause → Type 0) → ((cause : Cause) → Contains (causes m) cause → P cause) → All P (causes m)
all_causes m P h i d lt = h (get_or (causes m) i d) (i, lt, same_default (causes m) i (get_or (causes m) i d) d lt)

module _ (m : Parts) (market : IsMarket m) where
  outage_own : (row : ℕ) → Contains m.outages row → (line_at m (place_of_line m row)).row ≡ row
  outage_own row (k, lt, e) = ap (λ (o : ℕ). (line_at m (place_of_line m o)).row) (sym e) ∙ row-of_outage m market k row lt ∙ e

  -- the row of a lost line is a listed outage
  lost_listed : (l : ℕ) → Contains (lost_lines m) l → Contains m.outages (line_at m l).row
  lost_listed l c =
      let row = Contains-from_map (place_of_line m) m.outages l c in
      subst (Contains m.outages) (sym (outage_own row.0 row.1) ∙ ap (λ (k : ℕ). (line_at m k).row) row.2) row.1

  -- the cause of a listed outage
  pub of_outage : (k row : ℕ) → k < length m.outages → get_or m.outages k row ≡ row → Contains (causes m) (Branch (place_of_line m row)) × IsCauseNamed m (Branch (place_of_line m row)) row 0
  of_outage k row lt e = (
    Contains-cons Base (map Branch (lost_lines m) ++ map UnitOutage (places (length m.unit_outages))) (Branch (place_of_line m row))
        (Contains-append_left (map Branch (lost_lines m)) (map UnitOutage (places (length m.unit_outages))) (Branch (place_of_line m row))
        (Contains-map Branch (lost_lines m) (place_of_line m row) (Contains-map (place_of_line m) m.outages row (k, lt, e)))),
    record { branch = outage_own row (k, lt, e); unit = refl },
  )

  pub of_unit : (k row : ℕ) → k < length m.unit_outages → (unit_at m (lost_unit m k)).row ≡ row → Contains (causes m) (UnitOutage k) × IsCauseNamed m (UnitOutage k) 0 row
  of_unit k row lt e = (
    Contains-cons Base (map Branch (lost_lines m) ++ map UnitOutage (places (length m.unit_outages))) (UnitOutage k)
        (Contains-append_right (map Branch (lost_lines m)) (map UnitOutage (places (length m.unit_outages))) (UnitOutage k)
        (Contains-map UnitOutage (places (length m.unit_outages)) k (Contains-places (length m.unit_outages) k lt))),
    record { branch = refl; unit = e },
  )

  -- no cause of an outage that is not listed
  pub of_no_outage : (row : ℕ) → (row ≡ 0 → ⊥) → ((k : ℕ) → k < length m.outages → get_or m.outages k 0 ≡ row → ⊥) → All (λ cause. ¬ (IsCauseNamed m cause row 0)) (causes m)
  of_no_outage row some none = all_causes m (λ cause. ¬ (IsCauseNamed m cause row 0)) (λ cause c same. by (cause_from m cause c) same)
    where
      by : {g : Cause} → (g ≡ Base) ⊎ (((l : ℕ) × Contains (lost_lines m) l × (Branch l ≡ g)) ⊎ ((k : ℕ) × (k < length m.unit_outages) × (UnitOutage k ≡ g))) → IsCauseNamed m g row 0 → ⊥
      by (inl a) same = some (sym same.branch ∙ ap (outage_of m) a)
      by (inr (inr (k, lt, a))) same = some (sym same.branch ∙ ap (outage_of m) (sym a))
      by (inr (inl (l, c, a))) same =
          let listed = lost_listed l c in
          none listed.0 listed.1 (same_default m.outages listed.0 0 (line_at m l).row listed.1 ∙ listed.2 ∙ ap (outage_of m) a ∙ same.branch)

  pub of_no_unit : (row : ℕ) → (row ≡ 0 → ⊥) → ((k : ℕ) → k < length m.unit_outages → (unit_at m (lost_unit m k)).row ≡ row → ⊥) → All (λ cause. ¬ (IsCauseNamed m cause 0 row)) (causes m)
  of_no_unit row some none = all_causes m (λ cause. ¬ (IsCauseNamed m cause 0 row)) (λ cause c same. by (cause_from m cause c) same)
    where
      by : {g : Cause} → (g ≡ Base) ⊎ (((l : ℕ) × Contains (lost_lines m) l × (Branch l ≡ g)) ⊎ ((k : ℕ) × (k < length m.unit_outages) × (UnitOutage k ≡ g))) → IsCauseNamed m g 0 row → ⊥
      by (inl a) same = some (sym same.unit ∙ ap (unit_of m) a)
      by (inr (inl (l, c, a))) same = some (sym same.unit ∙ ap (unit_of m) (sym a))
      by (inr (inr (k, lt, a))) same = none k lt (ap (unit_of m) a ∙ same.unit)

  -- no cause loses both a branch and a unit
  pub of_both : (outage unit : ℕ) → (outage ≡ 0 → ⊥) → (unit ≡ 0 → ⊥) → All (λ cause. ¬ (IsCauseNamed m cause outage unit)) (causes m)
  of_both outage unit some other = all_causes m (λ cause. ¬ (IsCauseNamed m cause outage unit)) (λ cause c same. by cause same)
    where
      by : (g : Cause) → IsCauseNamed m g outage unit → ⊥
      by Base same = some (sym same.branch)
      by (Branch l) same = other (sym same.unit)
      by (UnitOutage k) same = some (sym same.branch)

  -- ---- a row by its name
  module _ (name : RowId) where
    pub none_of_branch : (cause : Cause) → Contains (causes m) cause → IsCauseNamed m cause name.outage name.unit
        → (place_of_line m name.branch < length m.lines → bears m cause (place_of_line m name.branch) ≡ true → ⊥) → (r : Row) → Contains (rows m) r → row_id m r ≢ name
    none_of_branch cause listed is none r c =
        λ e.
        let row = row_parts m r c in
        let group : r.cause ≡ cause =
        same_cause m market r.cause cause row.group listed
        (record { branch = ap (λ (n : RowId). n.outage) e ∙ sym is.branch; unit = ap (λ (n : RowId). n.unit) e ∙ sym is.unit }) in
        let line : r.line ≡ place_of_line m name.branch = sym (place-own m market r.line row.line) ∙ ap (λ (n : RowId). place_of_line m n.branch) e in
        none (subst (λ (k : ℕ). k < length m.lines) line row.line)
        (ap (λ (k : ℕ). bears m cause k) (sym line) ∙ ap (λ (h : Cause). bears m h r.line) (sym group) ∙ row.bears)

-- a line that was found has the row that was asked for
pub found_row : (m : Parts) (row l : ℕ) → l ≡ place_of_line m row → l < length m.lines → (line_at m l).row ≡ row
found_row m row l e h =
    let count : length (places (length m.lines)) ≡ length m.lines = length-range_with_len 0 (length m.lines) in
    let first : place_of_line m row < length (places (length m.lines)) = Prim.omega (arith, h, e, count) in
    let passes = passes_at_first (λ k. (line_at m k).row == row) (places (length m.lines)) 0 first in
    let is : get_or (places (length m.lines)) (place_of_line m row) 0 ≡ l = place_at (length m.lines) (place_of_line m row) 0 (Prim.omega (arith, h, e)) ∙ sym e in
    eqb-true _ _ (ap (λ (k : ℕ). (line_at m k).row == row) (sym is) ∙ passes)

-- ---- places by name
pub same_name : (a b : RowId) → same_id a b ≡ true → a ≡ b
same_name a b h = by (a.branch == b.branch) (a.outage == b.outage) (a.unit == b.unit) refl refl refl h
  where
    by : (x y z : Bool) → (a.branch == b.branch) ≡ x → (a.outage == b.outage) ≡ y → (a.unit == b.unit) ≡ z → (x && y && z) ≡ true → a ≡ b
    by true true z e f g h =
        ap₂ (λ (i j : ℕ). record { branch = i; outage = j; unit = a.unit }) (eqb-true _ _ e) (eqb-true _ _ f)
        ∙ ap (λ (k : ℕ). record { branch = b.branch; outage = b.outage; unit = k }) (eqb-true _ _ (g ∙ h))
    by true false z e f g h = absurd Prim.cc
    by false y z e f g h = absurd Prim.cc

-- the row of a place is the first of its name
pub position_named : (m : Parts) → IsMarket m → (place : ℕ) (name : RowId) (r : Row) → slice_get (rows m) place ≡ Some r → name ≡ row_id m r → position (has_name m name) (rows m) ≡ Some place
position_named m market place name r is e =
    let inside : place < length (rows m) = slice_get_within (rows m) place r is in
    let here : (d : Row) → row_id m (get_or (rows m) place d) ≡ name = λ d. ap (row_id m) (get_or_from_slice_get (rows m) place r d is) ∙ sym e in
    position-is (has_name m name) (rows m) place
    (position_or_len_is (has_name m name) (rows m) place r (Prim.omega (arith, inside))
    (λ k lt. other k lt (has_name m name (get_or (rows m) k r)) refl inside (here r))
    (λ lt. named (here r)))
    inside
  where
    named : {n : RowId} → n ≡ name → same_id n name ≡ true
    named {n} f = subst (λ (b : RowId). same_id b name ≡ true) (sym f) (both name)
      where
        both : (a : RowId) → same_id a a ≡ true
        both a = Prim.rw (eq-eqb a.branch a.branch refl, eq-eqb a.outage a.outage refl, eq-eqb a.unit a.unit refl) refl

    other : (k : ℕ) → k < place → (b : Bool) → has_name m name (get_or (rows m) k r) ≡ b → place < length (rows m) → row_id m (get_or (rows m) place r) ≡ name → b ≡ false
    other k lt true t inside f = absurd (names_apart m market k place r lt inside (same_name _ _ t ∙ sym f))
    other k lt false t inside f = refl

pub name_of_position : (m : Parts) (name : RowId) (place : ℕ) → position (has_name m name) (rows m) ≡ Some place → slice_get (map (row_id m) (rows m)) place ≡ Some name
name_of_position m name place e =
    let none : Row = record { line = 0; cause = Base } in
    let found = position-Some (has_name m name) (rows m) place none e in
    slice_get-map (row_id m) (rows m) place ∙ ap (option_map (row_id m)) (slice_get-get_or (rows m) place none found.0) ∙ ap (λ (n : RowId). Some n) (same_name _ _ found.1)

-- where no row has a name, none of them passes the test for it
pub none_named : (m : Parts) (name : RowId) → ((r : Row) → Contains (rows m) r → row_id m r ≢ name) → Fails (has_name m name) (rows m)
none_named m name none k d lt = by (has_name m name (get_or (rows m) k d)) refl
  where
    by : (b : Bool) → has_name m name (get_or (rows m) k d) ≡ b → b ≡ false
    by true t = absurd (none (get_or (rows m) k d) (k, lt, same_default (rows m) k (get_or (rows m) k d) d lt) (same_name _ _ t))
    by false t = refl
