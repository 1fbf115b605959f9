-- The worst of some rows, with one row more.
use Rattle.std.specs.Prelude.{◌≡◌, ℕ, ◌+◌, ◌-◌, ◌<◌, pos, List, [], ◌∷◌, ◌++◌, map, length, All, Option, Some, None, Contains, refl}
use Rattle.std.specs.List.{slice_get}
use Rattle.std.proofs.Common.{zero, suc, arith, inl, inr, ap, sym, subst, ◌∙◌, get_or, drop, take}
use Rattle.std.proofs.lemmas.List.{length-append, drop-map, take-map, take_rest, drop_at}
use Rattle.std.proofs.Math.Seq.{take-append_seam}
use Rattle.std.proofs.lemmas.List.FromFn.{length-map-range_with_len}
use Rattle.std.proofs.lemmas.List.Elements.{All-append, All-cons, All-nil}
use Rattle.std.proofs.lemmas.Option.{slice_get_within, get_or_from_slice_get}
use Rattle.fraction_theory.specs.Fraction.{Fraction, whole, neg_ℚ, ◌+ℚ◌, ◌-ℚ◌}
use Rattle.fraction_theory.specs.Order.{◌<ℚ◌, ◌≤ℚ◌}
use Rattle.fraction_theory.specs.Signs.{abs_ℚ}
use Rattle.fraction_theory.specs.Sums.{total}
use Rattle.fraction_theory.proofs.FieldLaws.{+ℚ_neg}
use Rattle.fraction_theory.proofs.OrderLaws.{NonNeg-one, by_le1, not-≤ℚ, <ℚ-not-≤ℚ, ≤ℚ_refl, ≤ℚ_trans, <ℚ-≤ℚ, ≤ℚ-<ℚ_trans, +ℚ-≤ℚ, +ℚ-<ℚ}
use Rattle.fraction_theory.proofs.Ring.{at, padd, pneg, pnil, pone}
use Rattle.exact_fraction.specs.declared.Passed.{Passed}
use Rattle.market_model.specs.declared.participants.Parts.{Parts}
use Rattle.market_model.specs.Dispatch.{Dispatch, places, injection}
use Rattle.market_model.specs.Overrun.{IsBeyond, IsFirstMost, Keeps, Within, overrun}
use Rattle.market_model.specs.declared.limits.Row.{Row}
use Rattle.market_model.specs.LimitRows.{Carried, carried, flow_by, flow_terms, limit, line_flow, line_flows, lost_output, lost_outputs, most_excess, most_flow, rows}
use Rattle.market_model.specs.NamedSums.{IsRefusedIn}
use Rattle.market_model.specs.PutIn.{AreCarried, carried_in}
use Rattle.market_model.specs.SumTables.{IsFlowRefusal, flow_of_row}
use Rattle.limit_rows.proofs.FlowSteps.{row_terms_are}
use Rattle.limit_rows.proofs.FlowSizes.{not_passed, size_kept}
use Rattle.market_model.proofs.RowMembers.{at_places}
use Rattle.limit_screen.specs.declared.screening.RowOverrun.{RowOverrun}
use Rattle.market_model.specs.Market.{IsMarket}
use Rattle.market_model.proofs.Excesses.{within_most}
use Rattle.limit_screen.specs.Flows.{carried_at, flows_at, LawOfRowFlows}
use Rattle.limit_screen.specs.Screening.{AllKeep, IsWorstOf}

-- ---- differences
pub above_nil : (x y : Fraction) → y <ℚ x → whole (pos 0) <ℚ (x -ℚ y)
above_nil x y h = subst (λ z. z <ℚ (x -ℚ y)) (+ℚ_neg y) (+ℚ-<ℚ y x (neg_ℚ y) (neg_ℚ y) h (≤ℚ_refl (neg_ℚ y)))

pub below_nil : (x y : Fraction) → x ≤ℚ y → (x -ℚ y) ≤ℚ whole (pos 0)
below_nil x y h = subst (λ z. (x -ℚ y) ≤ℚ z) (+ℚ_neg y) (+ℚ-≤ℚ x y (neg_ℚ y) (neg_ℚ y) h (≤ℚ_refl (neg_ℚ y)))

from_below : (x y : Fraction) → (x -ℚ y) ≤ℚ whole (pos 0) → x ≤ℚ y
from_below x y h = by_le1 (x ∷ y ∷ []) (at 0) (at 1) pone (padd (at 0) (pneg (at 1))) pnil NonNeg-one h refl

-- ---- one row more
pub slice_get-seam : {X : Type 0} (xs : List X) (x : X) → slice_get (xs ++ x ∷ []) (length xs) ≡ Some x
slice_get-seam [] x = refl
slice_get-seam (y ∷ xs) x = slice_get-seam xs x

pub slice_get-left : {X : Type 0} (xs ys : List X) (i : ℕ) → i < length xs → slice_get (xs ++ ys) i ≡ slice_get xs i
slice_get-left [] ys i h = absurd (Prim.omega (arith, h))
slice_get-left (x ∷ xs) ys zero h = refl
slice_get-left (x ∷ xs) ys (suc i) h = slice_get-left xs ys i (Prim.omega (arith, h))

All-one : (P : Row → Type 0) (r : Row) → P r → All P (r ∷ [])
All-one P r h = All-cons P r [] h (All-nil P)

-- the new row is the worst
module _ (Counts : Row → Type 0) (e : Row → Fraction) (rs : List Row) (r : Row) where
  pub new_worst : All (λ s. Counts s → e s <ℚ e r) rs → Counts r → IsFirstMost Counts e (rs ++ r ∷ []) (length rs) r
  new_worst less counts = record {
    stands = slice_get-seam rs r;
    counts = counts;
    most = All-append (λ s. Counts s → e s ≤ℚ e r) rs (r ∷ []) (λ k d lt c. <ℚ-≤ℚ (e (get_or rs k d)) (e r) (less k d lt c)) (All-one (λ s. Counts s → e s ≤ℚ e r) r (λ _. ≤ℚ_refl (e r)));
    first = λ i s lt at. subst (λ t. Counts t → e t <ℚ e r) (get_or_from_slice_get rs i s s (sym (slice_get-left rs (r ∷ []) i lt) ∙ at)) (less i s lt);
  }

  module _ (place : ℕ) (old : Row) (h : IsFirstMost Counts e rs place old) where
    pub worse_than_old : e old <ℚ e r → All (λ s. Counts s → e s <ℚ e r) rs
    worse_than_old more k d lt c = ≤ℚ-<ℚ_trans (e (get_or rs k d)) (e old) (e r) (h.most k d lt c) more

    -- the old one stays the worst
    pub old_worst : (Counts r → e r ≤ℚ e old) → IsFirstMost Counts e (rs ++ r ∷ []) place old
    old_worst less =
        let inside : place < length rs = slice_get_within rs place old h.stands in record {
          stands = slice_get-left rs (r ∷ []) place inside ∙ h.stands;
          counts = h.counts;
          most = All-append (λ s. Counts s → e s ≤ℚ e old) rs (r ∷ []) h.most (All-one (λ s. Counts s → e s ≤ℚ e old) r less);
          first = λ i s lt at. h.first i s lt (sym (slice_get-left rs (r ∷ []) i (Prim.omega (arith, lt, inside))) ∙ at);
        }

-- ---- what a flow may be
pub limit_passed : (s F : Fraction) → whole (pos 0) <ℚ (s -ℚ F) → F <ℚ s
limit_passed s F h = not-≤ℚ s F (λ n. <ℚ-not-≤ℚ (whole (pos 0)) (s -ℚ F) h (below_nil s F n))

most_passed : (s F e : Fraction) → e <ℚ (s -ℚ F) → (F +ℚ e) <ℚ s
most_passed s F e h = not-≤ℚ s (F +ℚ e) (λ n. <ℚ-not-≤ℚ e (s -ℚ F) h (by_le1 (s ∷ F ∷ e ∷ []) (padd (at 0) (pneg (at 1))) (at 2) pone (at 0) (padd (at 1) (at 2)) NonNeg-one n refl))

most_kept : (s F e : Fraction) → (s -ℚ F) ≤ℚ e → s ≤ℚ (F +ℚ e)
most_kept s F e h = by_le1 (s ∷ F ∷ e ∷ []) (at 0) (padd (at 1) (at 2)) pone (padd (at 0) (pneg (at 1))) (at 2) NonNeg-one h refl

-- where some rows are taken, a flow f of a row
module _ (m : Parts) (taken : List Row) (r : Row) (f : Fraction) where
  -- it doesn't pass its limit
  pub keeps_limit : IsMarket m → overrun m r f ≤ℚ whole (pos 0) → Keeps m taken r f
  keeps_limit market h =
      let within : Within (limit m r) f = size_kept (limit m r) f (from_below (abs_ℚ f) (limit m r) h) in
      record { limit = λ _. within; most = λ _. within_most m market r f within }

  -- it passes that, by no more than its excess or by more
  pub keeps_most : Contains taken r → overrun m r f ≤ℚ most_excess m r → Keeps m taken r f
  keeps_most c h = record { limit = λ new. absurd (new c); most = λ _. size_kept (most_flow m r) f (most_kept (abs_ℚ f) (limit m r) (most_excess m r) h) }

  pub beyond_limit : ¬ (Contains taken r) → whole (pos 0) <ℚ overrun m r f → IsBeyond m taken r f
  beyond_limit new h = λ keeps. not_passed (limit m r) f (keeps.limit new) (limit_passed (abs_ℚ f) (limit m r) h)

  pub beyond_most : whole (pos 0) <ℚ overrun m r f → most_excess m r <ℚ overrun m r f → IsBeyond m taken r f
  beyond_most h more = λ keeps.
      let new : ¬ (Contains taken r) = λ c. not_passed (most_flow m r) f (keeps.most c) (most_passed (abs_ℚ f) (limit m r) (most_excess m r) more) in
      beyond_limit new h keeps

-- ---- the worst of some rows, with one more
module _ {N : Type 0} (value : N → Fraction) (m : Parts) (taken : List Row) (f : Row → Fraction) (rs : List Row) (r : Row) where
  pub worse_than_kept : All (λ s. Keeps m taken s (f s)) rs → All (λ s. IsBeyond m taken s (f s) → overrun m s (f s) <ℚ overrun m r (f r)) rs
  worse_than_kept all k d lt beyond = absurd (beyond (all k d lt))

  -- one that keeps what it may be changes nothing
  pub kept : (worst : Option (RowOverrun N)) → IsWorstOf value m taken f rs worst → Keeps m taken r (f r) → IsWorstOf value m taken f (rs ++ r ∷ []) worst
  kept None before keeps = All-append (λ s. Keeps m taken s (f s)) rs (r ∷ []) before (All-one (λ s. Keeps m taken s (f s)) r keeps)
  kept (Some b) ((place, worst), is, low) keeps =
      ((place, old_worst (λ s. IsBeyond m taken s (f s)) (λ s. overrun m s (f s)) rs r place b.row worst (λ beyond. absurd (beyond keeps))), is, low)

  -- one whose overrun is not above a number that is not above that of the worst changes nothing
  pub no_worse : (b : RowOverrun N) → IsWorstOf value m taken f rs (Some b) → overrun m r (f r) ≤ℚ whole b.least → IsWorstOf value m taken f (rs ++ r ∷ []) (Some b)
  no_worse b ((place, worst), same, low) less =
      let under : whole b.least ≤ℚ overrun m b.row (f b.row) = subst (λ t. whole b.least ≤ℚ t) same low in
      ((place, old_worst (λ s. IsBeyond m taken s (f s)) (λ s. overrun m s (f s)) rs r place b.row worst (λ _. ≤ℚ_trans (overrun m r (f r)) (whole b.least) (overrun m b.row (f b.row)) less under)), same, low)

-- ---- the flows of a dispatch
module _ (m : Parts) (x : Dispatch) (fs : List Fraction) (puts : fs ≡ flows_at m x) where
  abbrev bus_part : List Fraction
  bus_part = map (injection m x) (places (length m.buses))

  buses_count : length bus_part ≡ length m.buses
  buses_count = length-map-range_with_len (injection m x) 0 (length m.buses)

  carried_there : AreCarried m x (drop (length m.buses) fs)
  carried_there = ap (λ (ys : List Fraction). drop (length m.buses) ys) puts ∙ drop_at bus_part (line_flows m x ++ lost_outputs m x) (length m.buses) buses_count

  pub flow_count : length fs ≡ length m.buses + length m.lines + length m.unit_outages
  flow_count =
      let lines : length (line_flows m x) ≡ length m.lines = length-map-range_with_len (line_flow m (injection m x)) 0 (length m.lines) in
      let lost : length (lost_outputs m x) ≡ length m.unit_outages = length-map-range_with_len (lost_output m x) 0 (length m.unit_outages) in
      let all : length fs ≡ length bus_part + (length (line_flows m x) + length (lost_outputs m x)) =
      ap length puts ∙ length-append bus_part (line_flows m x ++ lost_outputs m x) ∙ ap (λ (n : ℕ). length bus_part + n) (length-append (line_flows m x) (lost_outputs m x)) in
      Prim.omega (arith, all, buses_count, lines, lost)

  -- the terms of a row's flow
  pub row_terms : (r : Row) → IsMarket m → Contains (rows m) r → flow_terms m (carried_at m fs) r ≡ flow_terms m (carried m x) r
  row_terms r market c =
      let places = at_places m market r c in
      row_terms_are m x (drop (length m.buses) fs) carried_there r places.0 places.1

pub law_of_row_flows : LawOfRowFlows
law_of_row_flows m x fs r market puts c = ap total (row_terms m x fs puts r market c)

-- of flows of buses, of lines and of lost units, what buses put in
pub buses_before : {N : Type 0} (value : N → Fraction) (m : Parts) (x : Dispatch) (fs : List N) (n : ℕ) → n ≡ length m.buses → map value fs ≡ flows_at m x → map value (take n fs) ≡ map (injection m x) (places (length m.buses))
buses_before value m x fs n count puts =
    let front : List Fraction = map (injection m x) (places (length m.buses)) in
    let long : n ≡ length front = count ∙ sym (length-map-range_with_len (injection m x) 0 (length m.buses)) in
    sym (take-map value n fs) ∙ ap (take n) puts ∙ ap (λ (k : ℕ). take k (flows_at m x)) long ∙ take-append_seam front (line_flows m x ++ lost_outputs m x)

-- and what is carried
pub carried_behind : {N : Type 0} (value : N → Fraction) (m : Parts) (fs : List N) (n : ℕ) → n ≡ length m.buses → carried_in m (map value (take (length fs - n) (drop n fs))) ≡ carried_at m (map value fs)
carried_behind value m fs n count = ap (λ (ys : List Fraction). carried_in m ys) (ap (map value) (take_rest fs n) ∙ sym (drop-map value n fs) ∙ ap (λ (k : ℕ). drop k (map value fs)) count)

-- where the flow of a row is refused
pub flow_refusal_same : (m : Parts) (a b : Carried) (r : Row) (bound : ℕ) (p : Passed Fraction) → flow_terms m a r ≡ flow_terms m b r → IsFlowRefusal m a r bound p → IsFlowRefusal m b r bound p
flow_refusal_same m a b r bound p e (inl (_, flow_of_row, why)) = inl (_, flow_of_row, subst (λ ts. IsRefusedIn ts bound p) e why)
flow_refusal_same m a b r bound p e (inr why) = inr why

-- ---- the worst of all rows
pub all_keep_by : (m : Parts) (taken : List Row) (by : Carried) → All (λ s. Keeps m taken s (flow_by m by s)) (rows m) → AllKeep m taken by
all_keep_by m taken by all r c = subst (λ s. Keeps m taken s (flow_by m by s)) c.2 (all c.0 r c.1)

pub listed_row : (rs : List Row) (place : ℕ) (r : Row) → slice_get rs place ≡ Some r → Contains rs r
listed_row rs place r e = (place, slice_get_within rs place r e, get_or_from_slice_get rs place r r e)
