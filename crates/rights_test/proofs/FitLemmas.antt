-- Flows of rights, and which limit they break first.
use Rattle.std.specs.Prelude.{◌≡◌, ℕ, ◌+◌, ◌<◌, pos, List, [], ◌∷◌, ◌++◌, length, map, replicate, All, Contains, refl}
use Rattle.std.proofs.Common.{suc, zero, arith, inl, inr, ap, ap₂, sym, subst, ◌∙◌, get_or}
use Rattle.std.proofs.lemmas.List.{get_or_append_left, get_or-append-add, length-append, length-map, map-append}
use Rattle.std.proofs.lemmas.List.FromFn.{length-map-range_with_len}
use Rattle.std.proofs.lemmas.List.Elements.{All-append, All-cons, All-contains, All-nil, Contains-append_left, Contains-append_right}
use Rattle.std.specs.List.{range_with_len}
use Rattle.fraction_theory.specs.Fraction.{Fraction, whole, ◌-ℚ◌}
use Rattle.fraction_theory.specs.Order.{◌≤ℚ◌}
use Rattle.fraction_theory.specs.Sums.{Term, Product, total}
use Rattle.fraction_theory.proofs.ListSums.{Contains-head}
use Rattle.exact_fraction.specs.declared.Passed.{Passed}
use Rattle.market_model.specs.declared.answered.RowId.{RowId}
use Rattle.market_model.specs.declared.limits.Row.{Row}
use Rattle.market_model.specs.declared.participants.Parts.{Parts}
use Rattle.market_model.specs.declared.participants.TransmissionRight.{TransmissionRight}
use Rattle.market_model.specs.Dispatch.{places}
use Rattle.market_model.specs.LimitRows.{flow_by, flow_terms, limit, line_flow, row_id, rows, carried_list}
use Rattle.market_model.specs.Market.{IsMarket}
use Rattle.market_model.specs.NamedSums.{IsRefusedIn}
use Rattle.market_model.specs.Optimality.{bus_price}
use Rattle.market_model.specs.Overrun.{Within}
use Rattle.market_model.specs.PutIn.{carried_in, put_in}
use Rattle.market_model.specs.Rights.{IsTransmissionRight, paid_to_rights, right_terms, rights_injection, carried_for}
use Rattle.market_model.specs.Settlement.{surplus}
use Rattle.market_model.specs.SumTables.{IsFlowRefusal, IsRefusedAmong, LineFlowSum, flow_of_line, flow_of_row}
use Rattle.market_model.proofs.ChangeLemmas.{same_default}
use Rattle.market_model.proofs.PlaceLists.{filled_at, map_same}
use Rattle.market_model.specs.Laws.{LawOfTheRights}
use Rattle.market_model.proofs.RowMembers.{at_places}
use Rattle.limit_rows.proofs.FlowSteps.{flow_terms-same, line_flow-same, line_terms-same}
use Rattle.rights_test.specs.declared.right_parts.Fit.{Fit}
use Rattle.rights_test.specs.declared.right_parts.Fit.TheVariants.{Fits, Breaks}
use Rattle.rights_test.specs.Fits.{IsFirstBroken, IsFitBy}
use Rattle.rights_test.specs.RightsLaws.{LawOfTheFit, LawOfOneFit, LawOfCoveredPayments}

-- ---- what is carried
module _ (m : Parts) (rights : List TransmissionRight) where
  -- where buses put in what rights make them
  module _ (mws : List Fraction) (puts : mws ≡ map (rights_injection rights) (places (length m.buses))) where
    put_is : (i : ℕ) → i < length m.buses → put_in mws i ≡ rights_injection rights i
    put_is = filled_at (rights_injection rights) mws (length m.buses) (whole (pos 0)) puts

    pub lines_put : (flows : List Fraction) → flows ≡ map (line_flow m (put_in mws)) (places (length m.lines)) → flows ≡ map (line_flow m (rights_injection rights)) (places (length m.lines))
    lines_put flows e = e ∙ map_same (line_flow m (put_in mws)) (line_flow m (rights_injection rights)) (length m.lines) (λ l lt. line_flow-same m (put_in mws) (rights_injection rights) put_is l)

    pub line_refusal : (bound : ℕ) (p : Passed Fraction) → IsRefusedAmong (LineFlowSum m (put_in mws)) bound p → IsRefusedAmong (LineFlowSum m (rights_injection rights)) bound p
    line_refusal bound p (_, flow_of_line l lt, why) = (_, flow_of_line l lt, subst (λ ts. IsRefusedIn ts bound p) (line_terms-same m (put_in mws) (rights_injection rights) put_is l) why)

  -- what is carried, read off its list
  module _ (mws : List Fraction) (are : mws ≡ carried_list m (carried_for m rights)) where
    abbrev by_line : List Fraction
    by_line = map (line_flow m (rights_injection rights)) (places (length m.lines))

    abbrev nothing_lost : List Fraction
    nothing_lost = map (λ (k : ℕ). whole (pos 0)) (places (length m.unit_outages))

    line_count : length by_line ≡ length m.lines
    line_count = length-map-range_with_len (line_flow m (rights_injection rights)) 0 (length m.lines)

    flow_is : (l : ℕ) → l < length m.lines → put_in mws l ≡ line_flow m (rights_injection rights) l
    flow_is l lt =
        ap (λ (ys : List Fraction). get_or ys l (whole (pos 0))) are
        ∙ get_or_append_left by_line nothing_lost (whole (pos 0)) l (Prim.omega (arith, lt, line_count))
        ∙ filled_at (line_flow m (rights_injection rights)) by_line (length m.lines) (whole (pos 0)) refl l lt

    lost_is : (k : ℕ) → k < length m.unit_outages → put_in mws (length m.lines + k) ≡ whole (pos 0)
    lost_is k lt =
        let there : length m.lines + k ≡ length by_line + k = Prim.omega (arith, line_count) in
        ap (λ (ys : List Fraction). get_or ys (length m.lines + k) (whole (pos 0))) are
        ∙ ap (λ (n : ℕ). get_or (by_line ++ nothing_lost) n (whole (pos 0))) there
        ∙ get_or-append-add by_line nothing_lost k (whole (pos 0))
        ∙ filled_at (λ (i : ℕ). whole (pos 0)) nothing_lost (length m.unit_outages) (whole (pos 0)) refl k lt

    row_terms_are : IsMarket m → (r : Row) → Contains (rows m) r → flow_terms m (carried_in m mws) r ≡ flow_terms m (carried_for m rights) r
    row_terms_are market r c =
        let here = at_places m market r c in
        flow_terms-same m (carried_in m mws) (carried_for m rights) flow_is lost_is r here.0 here.1

    pub row_flow_is : IsMarket m → (r : Row) → Contains (rows m) r → flow_by m (carried_in m mws) r ≡ flow_by m (carried_for m rights) r
    row_flow_is market r c = ap total (row_terms_are market r c)

    pub row_refusal : IsMarket m → (r : Row) (bound : ℕ) (p : Passed Fraction) → Contains (rows m) r → IsFlowRefusal m (carried_in m mws) r bound p → IsFlowRefusal m (carried_for m rights) r bound p
    row_refusal market r bound p c (inl (_, flow_of_row, why)) = inl (_, flow_of_row, subst (λ ts. IsRefusedIn ts bound p) (row_terms_are market r c) why)
    row_refusal market r bound p c (inr why) = inr why

-- lines are put in front of zeros
abbrev rest : List Fraction → List Fraction
rest [] = []
rest (x ∷ xs) = xs

behind_front : {N : Type 0} (value : N → Fraction) (front back : List N) (n : ℕ) → map value (front ++ back) ≡ replicate (length front + n) (whole (pos 0)) → map value back ≡ replicate n (whole (pos 0))
behind_front value [] back n e = let none : 0 + n ≡ n = Prim.omega arith in e ∙ ap (λ (k : ℕ). replicate k (whole (pos 0))) none
behind_front value (x ∷ front) back n e =
    let one : length (x ∷ front) + n ≡ suc (length front + n) = Prim.omega arith in
    behind_front value front back n (ap rest (e ∙ ap (λ (k : ℕ). replicate k (whole (pos 0))) one))

nothing_from : (first n : ℕ) → replicate n (whole (pos 0)) ≡ map (λ (k : ℕ). whole (pos 0)) (range_with_len first n)
nothing_from first zero = refl
nothing_from first (suc n) = ap (λ (xs : List Fraction). whole (pos 0) ∷ xs) (nothing_from (first + 1) n)

pub flows_put : {N : Type 0} (value : N → Fraction) (m : Parts) (rights : List TransmissionRight) (old front back new : List N) → map value old ≡ replicate (length m.lines + length m.unit_outages) (whole (pos 0)) → old ≡ front ++ back
    → length front ≡ length m.lines → map value new ≡ map (line_flow m (rights_injection rights)) (places (length m.lines)) → map value (new ++ back) ≡ carried_list m (carried_for m rights)
flows_put value m rights old front back new zeros split count flows =
    let lines : length m.lines + length m.unit_outages ≡ length front + length m.unit_outages = Prim.omega (arith, count) in
    let none : map value (front ++ back) ≡ replicate (length front + length m.unit_outages) (whole (pos 0)) = ap (map value) (sym split) ∙ zeros ∙ ap (λ (k : ℕ). replicate k (whole (pos 0))) lines in
    map-append value new back ∙ ap₂ (λ (xs ys : List Fraction). xs ++ ys) flows (behind_front value front back (length m.unit_outages) none ∙ nothing_from 0 (length m.unit_outages))

pub carried_count : {N : Type 0} (value : N → Fraction) (m : Parts) (rights : List TransmissionRight) (ns : List N) → map value ns ≡ carried_list m (carried_for m rights) → length ns ≡ length m.lines + length m.unit_outages
carried_count value m rights ns are =
    let flows : List Fraction = map (line_flow m (rights_injection rights)) (places (length m.lines)) in
    let count : length flows ≡ length m.lines = length-map-range_with_len (line_flow m (rights_injection rights)) 0 (length m.lines) in
    let lost : List Fraction = map (λ (k : ℕ). whole (pos 0)) (places (length m.unit_outages)) in
    let lost_count : length lost ≡ length m.unit_outages = length-map-range_with_len (λ (k : ℕ). whole (pos 0)) 0 (length m.unit_outages) in
    let all : length (map value ns) ≡ length flows + length lost = ap length are ∙ length-append flows lost in
    Prim.omega (arith, all, count, lost_count, length-map ns value)

-- ---- the first row that is broken
pub broken_listed : (m : Parts) (f : Row → Fraction) (r : Row) → IsFirstBroken m f r → Contains (rows m) r
broken_listed m f r h = subst (λ rs. Contains rs r) (sym h.order) (Contains-append_right h.before (r ∷ h.behind) r (Contains-head r h.behind))

-- flows that are the same have the same fit
pub fit_same : (m : Parts) (f g : Row → Fraction) (fit : Fit Fraction) → ((r : Row) → Contains (rows m) r → f r ≡ g r) → IsFitBy m f fit → IsFitBy m g fit
fit_same m f g Fits same h = λ r c. subst (Within (limit m r)) (same r c) (h r c)
fit_same m f g (Breaks name flow) same (r, first, name_is, flow_is) =
    let here = same r (broken_listed m f r first) in (
      r,
      record {
        before = first.before;
        behind = first.behind;
        order = first.order;
        kept = λ k d lt.
            let s : Row = get_or first.before k d in
            let stands : Contains first.before s = (k, lt, same_default first.before k s d lt) in
            let listed : Contains (rows m) s = subst (λ rs. Contains rs s) (sym first.order) (Contains-append_left first.before (r ∷ first.behind) s stands) in
            subst (Within (limit m s)) (same s listed) (first.kept k d lt);
        broken = λ within. first.broken (subst (Within (limit m r)) (sym here) within);
      },
      name_is,
      flow_is ∙ here,
    )

-- a row more that is kept
pub kept_more : (m : Parts) (f : Row → Fraction) (rs : List Row) (r : Row) → All (λ s. Within (limit m s) (f s)) rs → Within (limit m r) (f r) → All (λ s. Within (limit m s) (f s)) (rs ++ r ∷ [])
kept_more m f rs r all here = All-append (λ s. Within (limit m s) (f s)) rs (r ∷ []) all (All-cons (λ s. Within (limit m s) (f s)) r [] here (All-nil (λ s. Within (limit m s) (f s))))

-- all of them
pub all_kept : (m : Parts) (f : Row → Fraction) (rs : List Row) → rs ≡ rows m → All (λ s. Within (limit m s) (f s)) rs → IsFitBy m f Fits
all_kept m f rs e all r c = All-contains (λ s. Within (limit m s) (f s)) rs r all (subst (λ ss. Contains ss r) (sym e) c)

-- ---- laws
pub law_of_the_fit : LawOfTheFit
law_of_the_fit m rights Fits h = (λ e. h, λ together. refl)
law_of_the_fit m rights (Breaks name flow) (r, first, name_is, flow_is) = (λ e. absurd Prim.cc, λ together. absurd (first.broken (together r (broken_listed m _ r first))))

-- of two rows that some others stand before, those of which P holds, the first of which it does not hold is one
abbrev head_or : Row → List Row → Row
head_or d [] = d
head_or d (r ∷ rs) = r

abbrev rest_of : List Row → List Row
rest_of [] = []
rest_of (r ∷ rs) = rs

same_first : (P : Row → Type 0) (xs ys : List Row) (a b : Row) (us vs : List Row) → xs ++ a ∷ us ≡ ys ++ b ∷ vs → All P xs → ¬ (P a) → All P ys → ¬ (P b) → a ≡ b
same_first P [] [] a b us vs e p not_a q not_b = ap (head_or a) e
same_first P [] (y ∷ ys) a b us vs e p not_a q not_b = absurd (not_a (subst P (sym (ap (head_or a) e)) (q 0 y (Prim.omega arith))))
same_first P (x ∷ xs) [] a b us vs e p not_a q not_b = absurd (not_b (subst P (ap (head_or x) e) (p 0 x (Prim.omega arith))))
same_first P (x ∷ xs) (y ∷ ys) a b us vs e p not_a q not_b =
    same_first P xs ys a b us vs (ap rest_of e) (λ k d lt. p (suc k) d (Prim.omega (arith, lt))) not_a (λ k d lt. q (suc k) d (Prim.omega (arith, lt))) not_b

one_fit_by : (m : Parts) (f : Row → Fraction) (a b : Fit Fraction) → IsFitBy m f a → IsFitBy m f b → a ≡ b
one_fit_by m f Fits Fits h k = refl
one_fit_by m f Fits (Breaks name flow) h (r, first, name_is, flow_is) = absurd (first.broken (h r (broken_listed m f r first)))
one_fit_by m f (Breaks name flow) Fits (r, first, name_is, flow_is) k = absurd (first.broken (k r (broken_listed m f r first)))
one_fit_by m f (Breaks name flow) (Breaks name' flow') (r, first, name_is, flow_is) (s, other, name_is', flow_is') =
    let same : r ≡ s = same_first (λ t. Within (limit m t) (f t)) first.before other.before r s first.behind other.behind (sym first.order ∙ other.order) first.kept first.broken other.kept other.broken in
    ap₂ (λ (i : RowId) (x : Fraction). Breaks i x) (name_is ∙ ap (row_id m) same ∙ sym name_is') (flow_is ∙ ap f same ∙ sym flow_is')

pub law_of_one_fit : LawOfOneFit
law_of_one_fit m rights = one_fit_by m (flow_by m (carried_for m rights))

same_terms : (n : ℕ) (p q : ℕ → Fraction) → ((i : ℕ) → i < n → p i ≡ q i) → (rights : List TransmissionRight) → All (IsTransmissionRight n) rights → right_terms p rights ≡ right_terms q rights
same_terms n p q same [] are = refl
same_terms n p q same (t ∷ ts) are =
    let here = are 0 t (Prim.omega arith) in
    ap₂ (λ (u : Term) (us : List Term). u ∷ us) (ap₂ (λ (a b : Fraction). Product (whole t.mw) (a -ℚ b)) (same t.to here.to) (same t.from here.from))
    (same_terms n p q same ts (λ k d lt. are (suc k) d (Prim.omega (arith, lt))))

pub law_of_covered_payments : LawOfTheRights → LawOfCoveredPayments
unfolding paid_to_rights
law_of_covered_payments law m d x price rights market best are fits =
    subst (λ paid. paid ≤ℚ surplus m x d) (sym (ap total (same_terms (length m.buses) price (bus_price m d) best.prices rights are))) (law m d x rights market best.feasible best.supported are fits)
