-- The branches that are read of branch rows.
use Rattle.std.proofs.Common.{◌≡◌, ℕ, zero, suc, ◌==◌, ◌||◌, ℤ, pos, negsuc, Bool, true, false, List, codes, refl, sym, ap, subst, ◌∙◌, arith, Option, Some, None, Ok, Err, inl, inr, ◌⊎◌}
use Rattle.std.specs.Prelude.{if◌then◌else◌, ◌<ℤ◌}
use Rattle.std.specs.Int.Signed.{lt_z, lt_z_yes}
use Rattle.std.specs.Str.{bytes_eq}
use Rattle.std.proofs.lemmas.Bool.{eq-eqb, ne_eqb, or_cases}
use Rattle.std.proofs.lemmas.Grind.{common_steps}
use Rattle.std.proofs.lemmas.Int.{by_lt_z, ints}
use Rattle.std.proofs.lemmas.Slice.Eq.{bytes_eq-Decides}
use Rattle.fraction_theory.specs.declared.Sign.{Sign}
use Rattle.fraction_theory.specs.declared.Sign.TheVariants as sign
use Rattle.market_data.specs.Scales.{mw_places}
use Rattle.scaled_decimal.specs.declared.DecimalFault.TheVariants.{NotFinite}
use Rattle.scaled_decimal.specs.Reading.{units_of, decimal_in}
use Rattle.scaled_decimal.proofs.ReadingLaws.{units_of-Reads}
use Rattle.record_reading.specs.Records.{Record}
use Rattle.record_reading.specs.Steps.{and_then, some_of}
use Rattle.record_reading.specs.declared.Why.TheVariants as why
use Rattle.record_reading.proofs.StepLemmas.{then-ok, some-ok, ok-same}
use Rattle.case_text.specs.declared.Field.TheVariants as field
use Rattle.net_case.specs.declared.live_parts.NetBranch.{NetBranch}
use Rattle.net_case.specs.declared.live_parts.NetFault.TheVariants as fault
use Rattle.net_case.specs.declared.live_parts.PostRating.{PostRating}
use Rattle.net_case.specs.declared.live_parts.PostRating.TheVariants as post
use Rattle.net_case.specs.Columns.{BR_STATUS, F_BUS, T_BUS, RATE_A, SHIFT}
use Rattle.net_case.specs.NetworkReading.{number_in, sign_at, service_in, is_above, is_infinite, is_below_all, rated_limit, limit_in, is_off_zero, shifted_in, post_column, limits_in, branch_where, branch_row, Places, place_of_number, named_place}
use Rattle.network_meaning.specs.Cells.{cell, IsAmount, IsMegawatts, IsOfSign}
use Rattle.network_meaning.specs.BranchRows.{IsInfinite, GivesLimit, rating_column, IsShifted, IsBranchInService, IsBranch, IsBranchRow}
use Rattle.network_meaning.proofs.CellsRead.{amount-read, read-amount, sign-read, read-sign, service-read, read-service}
use Rattle.network_meaning.proofs.UnitsRead.{AreFound, named-read}

-- ---- infinity
same-bytes : (text word : List ℕ) → bytes_eq text word ≡ true → text ≡ word
same-bytes text word e = (bytes_eq-Decides text word).0 e

infinite-read : (text : List ℕ) → is_infinite text ≡ true → IsInfinite text
infinite-read text e = elim (or_cases (bytes_eq text (codes "Inf") || bytes_eq text (codes "inf") || bytes_eq text (codes "+Inf")) (bytes_eq text (codes "+inf")) e) as (λ _. IsInfinite text) [
  | inr d ↦ inr (inr (inr (same-bytes text (codes "+inf") d)))
  | inl c ↦ elim (or_cases (bytes_eq text (codes "Inf") || bytes_eq text (codes "inf")) (bytes_eq text (codes "+Inf")) c) as (λ _. IsInfinite text) [
    | inr d ↦ inr (inr (inl (same-bytes text (codes "+Inf") d)))
    | inl b ↦ elim (or_cases (bytes_eq text (codes "Inf")) (bytes_eq text (codes "inf")) b) as (λ _. IsInfinite text) [
      | inr d ↦ inr (inl (same-bytes text (codes "inf") d))
      | inl a ↦ inl (same-bytes text (codes "Inf") a)
    ]
  ]
]

read-infinite : (text : List ℕ) → IsInfinite text → is_infinite text ≡ true
read-infinite text (inl e) = rw e refl
read-infinite text (inr (inl e)) = rw e refl
read-infinite text (inr (inr (inl e))) = rw e refl
read-infinite text (inr (inr (inr e))) = rw e refl

below-read : (text : List ℕ) → is_below_all text ≡ true → (text ≡ codes "-Inf") ⊎ (text ≡ codes "-inf")
below-read text e = elim (or_cases (bytes_eq text (codes "-Inf")) (bytes_eq text (codes "-inf")) e) as (λ _. (text ≡ codes "-Inf") ⊎ (text ≡ codes "-inf")) [
  | inl a ↦ inl (same-bytes text (codes "-Inf") a)
  | inr b ↦ inr (same-bytes text (codes "-inf") b)
]

-- infinity is no amount
no-units : (places : ℕ) (text word : List ℕ) (n : ℤ) → IsAmount places text n → text ≡ word → units_of places word ≡ Err NotFinite → ⊥
no-units places text word n h is infinite = let e : Ok n ≡ Err NotFinite = sym (units_of-Reads places text (Ok n) h) ∙ ap (units_of places) is ∙ infinite in cc e

not-infinite : (places : ℕ) (text : List ℕ) (n : ℤ) → IsAmount places text n → IsInfinite text → ⊥
unfolding units_of decimal_in
not-infinite places text n h (inl e) = no-units places text (codes "Inf") n h e refl
not-infinite places text n h (inr (inl e)) = no-units places text (codes "inf") n h e refl
not-infinite places text n h (inr (inr (inl e))) = no-units places text (codes "+Inf") n h e refl
not-infinite places text n h (inr (inr (inr e))) = no-units places text (codes "+inf") n h e refl

not-below : (places : ℕ) (text : List ℕ) (n : ℤ) → IsAmount places text n → (text ≡ codes "-Inf") ⊎ (text ≡ codes "-inf") → ⊥
unfolding units_of decimal_in
not-below places text n h (inl e) = no-units places text (codes "-Inf") n h e refl
not-below places text n h (inr e) = no-units places text (codes "-inf") n h e refl

is-false : (b : Bool) → (b ≡ true → ⊥) → b ≡ false
is-false true never = absurd (never refl)
is-false false never = refl

-- ---- limits
zero-between : (n : ℤ) → lt_z n (pos 0) ≡ false → lt_z (pos 0) n ≡ false → n ≡ pos 0
zero-between (pos zero) low up = refl
zero-between (pos (suc k)) low up = absurd (grind (arith, common_steps))
zero-between (negsuc k) low up = absurd cc

rated-read : (row col : ℕ) (text : List ℕ) (n : ℤ) (limit : Option ℤ) → IsMegawatts text n → rated_limit row col n ≡ Ok limit → GivesLimit text limit
unfolding rated_limit
rated-read row col text n limit h e = by (lt_z n (pos 0)) refl (lt_z (pos 0) n) refl e
  where
    by : (below : Bool) → lt_z n (pos 0) ≡ below → (above : Bool) → lt_z (pos 0) n ≡ above
        → (if below then Err (fault.Cell field.Branch row col why.Bounds) else (if above then Ok (Some n) else Ok None)) ≡ Ok limit → GivesLimit text limit
    by true b above a e = absurd cc
    by false b true a e = subst (GivesLimit text) (ok-same (Some n) limit e) (h, lt_z_yes {a = pos 0} {b = n} (rw a tt))
    by false b false a e = subst (GivesLimit text) (ok-same None limit e) (inl (subst (IsMegawatts text) (zero-between n b a) h))

limit-read : (row : ℕ) (r : Record) (col : ℕ) (limit : Option ℤ) → limit_in row r col ≡ Ok limit → GivesLimit (cell r col) limit
unfolding limit_in
limit-read row r col limit e = by (is_infinite (cell r col)) refl (is_below_all (cell r col)) e
  where
    by : (infinite : Bool) → is_infinite (cell r col) ≡ infinite → (below : Bool)
        → (if infinite then Ok None else (if below then Err (fault.Cell field.Branch row col why.Bounds) else and_then (number_in field.Branch row r col mw_places) (rated_limit row col))) ≡ Ok limit → GivesLimit (cell r col) limit
    by true i below e = subst (GivesLimit (cell r col)) (ok-same None limit e) (inr (infinite-read (cell r col) i))
    by false i true e = absurd cc
    by false i false e =
        let t = then-ok (number_in field.Branch row r col mw_places) (rated_limit row col) limit e in
        rated-read row col (cell r col) t.0 limit (amount-read field.Branch row r col mw_places t.0 t.1) t.2

read-rated : (row : ℕ) (r : Record) (col : ℕ) (n : ℤ) → IsMegawatts (cell r col) n → limit_in row r col ≡ rated_limit row col n
unfolding limit_in
read-rated row r col n h =
    let i = is-false (is_infinite (cell r col)) (λ e. not-infinite mw_places (cell r col) n h (infinite-read (cell r col) e)) in
    let b = is-false (is_below_all (cell r col)) (λ e. not-below mw_places (cell r col) n h (below-read (cell r col) e)) in
    rw (i, b, read-amount field.Branch row r col mw_places n h) refl

above-zero : (n : ℤ) → pos 0 <ℤ n → (lt_z n (pos 0) ≡ false) × (lt_z (pos 0) n ≡ true)
above-zero (pos k) h = (grind (arith, common_steps), by_lt_z (pos 0) (pos k) (λ lt. grind (arith, common_steps, ints)) (λ le. absurd (omega (arith, ints))))
above-zero (negsuc k) h = absurd (omega (arith, ints))

read-limit : (row : ℕ) (r : Record) (col : ℕ) (limit : Option ℤ) → GivesLimit (cell r col) limit → limit_in row r col ≡ Ok limit
unfolding limit_in rated_limit
read-limit row r col None (inl h) = read-rated row r col (pos 0) h
read-limit row r col None (inr h) = rw (read-infinite (cell r col) h) refl
read-limit row r col (Some n) h = let a = above-zero n h.1 in read-rated row r col n h.0 ∙ rw (a.0, a.1) refl

-- ---- phase shifters
shifted-read : (row : ℕ) (r : Record) (shifted : Bool) → shifted_in row r ≡ Ok shifted → IsShifted (cell r SHIFT) shifted
unfolding shifted_in
shifted-read row r shifted e =
    let t = then-ok (sign_at field.Branch row r SHIFT) (λ s. Ok (is_off_zero s)) shifted e in
    subst (IsShifted (cell r SHIFT)) (ok-same (is_off_zero t.0) shifted t.2) (by t.0 (sign-read field.Branch row r SHIFT t.0 t.1))
  where
    by : (s : Sign) → IsOfSign (cell r SHIFT) s → IsShifted (cell r SHIFT) (is_off_zero s)
    by sign.Below h = inl h
    by sign.Zero h = h
    by sign.Above h = inr h

read-shifted : (row : ℕ) (r : Record) (shifted : Bool) → IsShifted (cell r SHIFT) shifted → shifted_in row r ≡ Ok shifted
unfolding shifted_in
read-shifted row r true (inl h) = rw (read-sign field.Branch row r SHIFT sign.Below h) refl
read-shifted row r true (inr h) = rw (read-sign field.Branch row r SHIFT sign.Above h) refl
read-shifted row r false h = rw (read-sign field.Branch row r SHIFT sign.Zero h) refl

-- ---- a branch
post-column : (rating : PostRating) → post_column rating ≡ rating_column rating
post-column post.A = refl
post-column post.B = refl
post-column post.C = refl

abbrev made : ℕ → ℕ → ℕ → Option ℤ → Option ℤ → Bool → NetBranch
made row from to base after shifted = record { row = row; from = from; to = to; base = base; post = after; shifted = shifted }

limits-read : (rating : PostRating) (row : ℕ) (r : Record) (from to : ℕ) (branch : NetBranch) → limits_in rating row r from to ≡ Ok branch → IsBranchInService rating row r (Some from) (Some to) sign.Above branch
unfolding limits_in
limits-read rating row r from to branch e = by (from == to) refl e
  where
    by : (test : Bool) → (from == to) ≡ test
        → (if test then Err (fault.SameEnds row)
        else and_then (limit_in row r RATE_A) (λ base. and_then (limit_in row r (post_column rating)) (λ after. and_then (shifted_in row r) (λ shifted. Ok (made row from to base after shifted))))) ≡ Ok branch
        → IsBranchInService rating row r (Some from) (Some to) sign.Above branch
    by true is e = absurd cc
    by false is e =
        let t = then-ok (limit_in row r RATE_A) (λ base. and_then (limit_in row r (post_column rating)) (λ after. and_then (shifted_in row r) (λ shifted. Ok (made row from to base after shifted)))) branch e in
        let u = then-ok (limit_in row r (post_column rating)) (λ after. and_then (shifted_in row r) (λ shifted. Ok (made row from to t.0 after shifted))) branch t.2 in
        let v = then-ok (shifted_in row r) (λ shifted. Ok (made row from to t.0 u.0 shifted)) branch u.2 in
        subst (IsBranchInService rating row r (Some from) (Some to) sign.Above) (ok-same (made row from to t.0 u.0 v.0) branch v.2) (record {
          status_above = refl;
          from_in_service = refl;
          to_in_service = refl;
          ends = λ same. let never : true ≡ false = sym (eq-eqb from to same) ∙ is in cc never;
          row_is = refl;
          base = limit-read row r RATE_A t.0 t.1;
          post = subst (λ col. GivesLimit (cell r col) u.0) (post-column rating) (limit-read row r (post_column rating) u.0 u.1);
          shift = shifted-read row r v.0 v.1;
        })

read-limits : (rating : PostRating) (row : ℕ) (r : Record) (from to : ℕ) (branch : NetBranch) → IsBranchInService rating row r (Some from) (Some to) sign.Above branch → limits_in rating row r from to ≡ Ok branch
unfolding limits_in
read-limits rating row r from to branch h =
    let from_is : from ≡ branch.from = cc (h.from_in_service) in
    let to_is : to ≡ branch.to = cc (h.to_in_service) in
    let base = read-limit row r RATE_A branch.base h.base in
    let after = read-limit row r (post_column rating) branch.post (subst (λ col. GivesLimit (cell r col) branch.post) (sym (post-column rating)) h.post) in
    rw (from_is, to_is, ne_eqb branch.from branch.to h.ends, base, after, read-shifted row r branch.shifted h.shift, ← h.row_is) refl

branch-read : (rating : PostRating) (row : ℕ) (r : Record) (from to : Option ℕ) (s : Sign) (gives : Option NetBranch) → branch_where rating row r from to (is_above s) ≡ Ok gives → IsBranch rating row r from to s gives
unfolding branch_where
branch-read rating row r None to s gives e = subst (IsBranch rating row r None to s) (ok-same None gives e) (inl refl)
branch-read rating row r (Some from) None s gives e = subst (IsBranch rating row r (Some from) None s) (ok-same None gives e) (inr (inl refl))
branch-read rating row r (Some from) (Some to) sign.Below gives e = subst (IsBranch rating row r (Some from) (Some to) sign.Below) (ok-same None gives e) (inr (inr (λ above. cc above)))
branch-read rating row r (Some from) (Some to) sign.Zero gives e = subst (IsBranch rating row r (Some from) (Some to) sign.Zero) (ok-same None gives e) (inr (inr (λ above. cc above)))
branch-read rating row r (Some from) (Some to) sign.Above gives e =
    let t = some-ok (limits_in rating row r from to) gives e in
    subst (IsBranch rating row r (Some from) (Some to) sign.Above) (sym t.2) (limits-read rating row r from to t.0 t.1)

read-branch : (rating : PostRating) (row : ℕ) (r : Record) (from to : Option ℕ) (s : Sign) (gives : Option NetBranch) → IsBranch rating row r from to s gives → branch_where rating row r from to (is_above s) ≡ Ok gives
unfolding branch_where
read-branch rating row r None to s None h = refl
read-branch rating row r None to s (Some branch) h = absurd (cc (h.from_in_service))
read-branch rating row r (Some from) None s None h = refl
read-branch rating row r (Some from) None s (Some branch) h = absurd (cc (h.to_in_service))
read-branch rating row r (Some from) (Some to) sign.Below None h = refl
read-branch rating row r (Some from) (Some to) sign.Zero None h = refl
read-branch rating row r (Some from) (Some to) sign.Above None (inl e) = absurd (cc e)
read-branch rating row r (Some from) (Some to) sign.Above None (inr (inl e)) = absurd (cc e)
read-branch rating row r (Some from) (Some to) sign.Above None (inr (inr other)) = absurd (other refl)
read-branch rating row r (Some from) (Some to) sign.Below (Some branch) h = absurd (cc (h.status_above))
read-branch rating row r (Some from) (Some to) sign.Zero (Some branch) h = absurd (cc (h.status_above))
read-branch rating row r (Some from) (Some to) sign.Above (Some branch) h = ap some_of (read-limits rating row r from to branch h)

-- ---- a branch row
pub branch_row-read : (rating : PostRating) (places : Places) → AreFound places → (row : ℕ) (r : Record) (gives : Option NetBranch) → branch_row rating places row r ≡ Ok gives → IsBranchRow rating places row r gives
unfolding branch_row
branch_row-read rating places f row r gives e =
    let a = then-ok (number_in field.Branch row r F_BUS 0)
    (λ f_bus. and_then (number_in field.Branch row r T_BUS 0) (λ t_bus. and_then (named_place field.Branch row (place_of_number places f_bus)) (λ from.
    and_then (named_place field.Branch row (place_of_number places t_bus)) (λ to. and_then (service_in field.Branch row r BR_STATUS) (branch_where rating row r from to))))) gives e in
    let b = then-ok (number_in field.Branch row r T_BUS 0)
    (λ t_bus. and_then (named_place field.Branch row (place_of_number places a.0)) (λ from.
    and_then (named_place field.Branch row (place_of_number places t_bus)) (λ to. and_then (service_in field.Branch row r BR_STATUS) (branch_where rating row r from to)))) gives a.2 in
    let c = then-ok (named_place field.Branch row (place_of_number places a.0))
    (λ from. and_then (named_place field.Branch row (place_of_number places b.0)) (λ to. and_then (service_in field.Branch row r BR_STATUS) (branch_where rating row r from to))) gives b.2 in
    let d = then-ok (named_place field.Branch row (place_of_number places b.0)) (λ to. and_then (service_in field.Branch row r BR_STATUS) (branch_where rating row r c.0 to)) gives c.2 in
    let v = then-ok (service_in field.Branch row r BR_STATUS) (branch_where rating row r c.0 d.0) gives d.2 in
    let s = service-read field.Branch row r BR_STATUS v.0 v.1 in
    let at_from = f.found a.0 c.0 (named-read field.Branch row (place_of_number places a.0) c.0 c.1) in
    let at_to = f.found b.0 d.0 (named-read field.Branch row (place_of_number places b.0) d.0 d.1) in
    record {
      from_bus = at_from.0;
      to_bus = at_to.0;
      from = c.0;
      to = d.0;
      status = s.0;
      f_bus = amount-read field.Branch row r F_BUS 0 (pos at_from.0) (a.1 ∙ ap Ok at_from.1);
      t_bus = amount-read field.Branch row r T_BUS 0 (pos at_to.0) (b.1 ∙ ap Ok at_to.1);
      from_has_row = at_from.2;
      to_has_row = at_to.2;
      br_status = s.1;
      branch = branch-read rating row r c.0 d.0 s.0 gives (subst (λ above. branch_where rating row r c.0 d.0 above ≡ Ok gives) s.2 v.2);
    }

pub read-branch_row : (rating : PostRating) (places : Places) → AreFound places → (row : ℕ) (r : Record) (gives : Option NetBranch) → IsBranchRow rating places row r gives → branch_row rating places row r ≡ Ok gives
unfolding branch_row
read-branch_row rating places f row r gives h =
    rw (
      read-amount field.Branch row r F_BUS 0 (pos h.from_bus) h.f_bus,
      read-amount field.Branch row r T_BUS 0 (pos h.to_bus) h.t_bus,
      f.finds h.from_bus h.from h.from_has_row,
      f.finds h.to_bus h.to h.to_has_row,
      read-service field.Branch row r BR_STATUS h.status h.br_status,
    )
    (read-branch rating row r h.from h.to h.status gives h.branch)
