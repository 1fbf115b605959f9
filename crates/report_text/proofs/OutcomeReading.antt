-- Equal reports are of equal outcomes, and what comes after them is then the same.
use Rattle.std.specs.Prelude.{◌≡◌, Bool, ℕ, All, List, [], ◌∷◌, ◌++◌, codes, length, map, refl}
use Rattle.std.specs.List.{flat_map}
use Rattle.std.proofs.Common.{ap, sym, subst, ◌∙◌, arith, append_assoc, inr}
use Rattle.std.proofs.lemmas.List.{append_cancel_left, ext_get_or}
use Rattle.std.proofs.lemmas.List.Elements.{All-map}
use Rattle.std.proofs.lemmas.List.FromFn.{get_or-map-range_with_len, length-map-range_with_len}
use Rattle.std.proofs.lemmas.Simd.{map-map}
use Rattle.fraction_theory.specs.Fraction.{Fraction}
use Rattle.fraction_theory.specs.Order.{◌≤ℚ◌}
use Rattle.fraction_theory.proofs.SignLaws.{part_least}
use Rattle.exact_fraction.specs.Written.{written, parts_text}
use Rattle.exact_fraction.specs.declared.Op.{Op}
use Rattle.exact_fraction.specs.declared.Op.TheVariants as op
use Rattle.exact_fraction.specs.declared.Passed.{Passed}
use Rattle.market_data.specs.Scales.{mw_places}
use Rattle.market_model.specs.declared.participants.Parts.{Parts}
use Rattle.market_model.specs.declared.answered.Answer.{Answer}
use Rattle.market_model.specs.declared.answered.Duals.{Duals}
use Rattle.market_model.specs.declared.answered.Farkas.{Farkas}
use Rattle.market_model.specs.declared.answered.Outcome.{Outcome}
use Rattle.market_model.specs.declared.answered.Outcome.TheVariants as outcome
use Rattle.market_model.specs.declared.answered.Price.{Price}
use Rattle.market_model.specs.declared.answered.Rent.{Rent}
use Rattle.market_model.specs.declared.answered.ReservePay.{ReservePay}
use Rattle.market_model.specs.Dispatch.{Dispatch, places, reserved, zero}
use Rattle.market_model.specs.Optimality.{ProperDuals, named_rows, unit_price}
use Rattle.market_model.specs.Settlement.{pay_of_reserve}
use Rattle.market_model.specs.RightAnswers.{IsRight, IsRightBy, dispatch_in, price_made, rent_of}
use Rattle.market_model.proofs.RightFits.{fits_by_right}
use Rattle.report_text.specs.Reports.{head_text, cleared_text, limit_text, bound_text, plain_energy_text, plain_reserve_text, lines_of_rooms, infeasible_text, op_text, range_text, report_text}
use Rattle.report_text.specs.ReportLaws.{DualsFitReport, FitsReport, MakesOwnPrices, OutcomeFitsReport, ReportsApart, RightReportsApart}
use Rattle.report_text.proofs.Amounts.{head_of, two_apart, parts_line_apart}
use Rattle.report_text.proofs.LimitReading.{limits_apart}
use Rattle.report_text.proofs.ReserveReading.{EndsDuals, prices_apart, rooms_apart, rooms_follow}
use Rattle.report_text.proofs.ReportReading.{same_duals, answers_apart}

-- ---- infeasible
-- the lines of the bound and of the price of energy, that of the price of reserve, those of limits and rooms, and what comes after them
as_lines : (a b c n xs ys ps ls rs us : List ℕ) → (a ++ (b ++ xs ++ n) ++ (c ++ ys ++ n) ++ ps ++ ls ++ rs) ++ us ≡ ((a ++ b) ++ xs ++ (n ++ c) ++ ys ++ n) ++ (ps ++ (ls ++ (rs ++ us)))
as_lines a b c n xs ys ps ls rs us = Prim.simp append_assoc

-- the lines of the duals, and what comes after them
abbrev dual_lines : Bool → Farkas Fraction → List ℕ → List ℕ
dual_lines listed f us = plain_reserve_text listed f.duals.reserve ++ (flat_map limit_text f.duals.limits ++ (lines_of_rooms 0 f.duals.rooms ++ us))

told : (listed : Bool) (f : Farkas Fraction) (us : List ℕ) → infeasible_text listed f ++ us ≡ (codes "infeasible\nbound " ++ written mw_places f.bound ++ 10 ∷ codes "energy " ++ written 0 f.duals.energy ++ 10 ∷ []) ++ dual_lines listed f us
unfolding infeasible_text bound_text plain_energy_text
told listed f us =
    as_lines (codes "infeasible\n") (codes "bound ") (codes "energy ") (codes "\n") (written mw_places f.bound) (written 0 f.duals.energy) (plain_reserve_text listed f.duals.reserve) (flat_map limit_text f.duals.limits) (lines_of_rooms 0 f.duals.rooms) us

same_farkas : (f g : Farkas Fraction) → f.duals ≡ g.duals → f.bound ≡ g.bound → f ≡ g
same_farkas f g p q =
    let make : Duals Fraction → Fraction → Farkas Fraction = λ d b. record { duals = d; bound = b } in
    ap (λ d. make d f.bound) p ∙ ap (make g.duals) q

farkas_apart : (m : Parts) (f g : Farkas Fraction) → DualsFitReport m f.duals → DualsFitReport m g.duals → (us vs : List ℕ) → EndsDuals us → EndsDuals vs → infeasible_text m.reserve.listed f ++ us ≡ infeasible_text m.reserve.listed g ++ vs → (f ≡ g) × (us ≡ vs)
farkas_apart m f g p q us vs ends follows e =
    let t = two_apart (codes "infeasible\nbound ") mw_places 0 10 (codes "energy ") f.bound g.bound f.duals.energy g.duals.energy (dual_lines m.reserve.listed f us) (dual_lines m.reserve.listed g vs) (Prim.omega arith)
    (sym (told m.reserve.listed f us) ∙ e ∙ told m.reserve.listed g vs) in
    let price = prices_apart m.reserve.listed f.duals.reserve g.duals.reserve p.unlisted q.unlisted _ _ t.2 in
    let limits = limits_apart f.duals.limits g.duals.limits (lines_of_rooms 0 f.duals.rooms ++ us) (lines_of_rooms 0 g.duals.rooms ++ vs)
    (rooms_follow 0 f.duals.rooms p.rooms us ends.0) (rooms_follow 0 g.duals.rooms q.rooms vs follows.0) price.1 in
    let rooms = rooms_apart 0 f.duals.rooms g.duals.rooms p.rooms q.rooms us vs ends.1 follows.1 limits.1 in
    (same_farkas f g (same_duals f.duals g.duals t.1 price.0 limits.0 rooms.0) t.0, rooms.1)

-- ---- range
same_passed : (p q : Passed Fraction) → p.op ≡ q.op → p.left ≡ q.left → p.right ≡ q.right → p ≡ q
same_passed p q e f g =
    let make : Op → Fraction → Fraction → Passed Fraction = λ o l r. record { op = o; left = l; right = r } in
    ap (λ o. make o p.left p.right) e ∙ ap (λ l. make q.op l p.right) f ∙ ap (make q.op q.left) g

in_order : (front xs b ys n us : List ℕ) → (front ++ xs ++ b ++ ys ++ n) ++ us ≡ front ++ (xs ++ (b ++ (ys ++ (n ++ us))))
in_order front xs b ys n us = Prim.simp append_assoc

-- the line of an operation and its two sides
abbrev line_of : Op → Fraction → Fraction → List ℕ
line_of o a b = codes "range " ++ op_text o ++ parts_text a ++ codes " " ++ parts_text b ++ codes "\n"

sides_apart : (o : Op) (a b c d : Fraction) (us vs : List ℕ) → line_of o a b ++ us ≡ line_of o c d ++ vs → (a ≡ c) × (b ≡ d) × (us ≡ vs)
sides_apart o a b c d us vs e =
    let opened = λ (x y : Fraction) (ts : List ℕ). in_order (codes "range " ++ op_text o) (parts_text x) (codes " ") (parts_text y) (codes "\n") ts in
    parts_line_apart a c b d us vs (append_cancel_left (codes "range " ++ op_text o) (parts_text a ++ (32 ∷ (parts_text b ++ 10 ∷ us))) (parts_text c ++ (32 ∷ (parts_text d ++ 10 ∷ vs)))
    (sym (opened a b us) ∙ e ∙ opened c d vs))

-- behind `range ` each operation begins with another letter
after_word : (c d : ℕ) (us vs : List ℕ) → codes "range " ++ c ∷ us ≡ codes "range " ++ d ∷ vs → c ≡ d
after_word c d us vs e = head_of c d us vs (append_cancel_left (codes "range ") (c ∷ us) (d ∷ vs) e)

ops_apart : (o q : Op) (a b c d : Fraction) (us vs : List ℕ) → line_of o a b ++ us ≡ line_of q c d ++ vs → o ≡ q
ops_apart op.Plus op.Plus a b c d us vs e = refl
ops_apart op.Plus op.Minus a b c d us vs e = absurd (Prim.omega (arith, after_word 112 109 _ _ e))
ops_apart op.Plus op.Times a b c d us vs e = absurd (Prim.omega (arith, after_word 112 116 _ _ e))
ops_apart op.Minus op.Plus a b c d us vs e = absurd (Prim.omega (arith, after_word 109 112 _ _ e))
ops_apart op.Minus op.Minus a b c d us vs e = refl
ops_apart op.Minus op.Times a b c d us vs e = absurd (Prim.omega (arith, after_word 109 116 _ _ e))
ops_apart op.Times op.Plus a b c d us vs e = absurd (Prim.omega (arith, after_word 116 112 _ _ e))
ops_apart op.Times op.Minus a b c d us vs e = absurd (Prim.omega (arith, after_word 116 109 _ _ e))
ops_apart op.Times op.Times a b c d us vs e = refl

passed_apart : (p q : Passed Fraction) (us vs : List ℕ) → range_text p ++ us ≡ range_text q ++ vs → (p ≡ q) × (us ≡ vs)
unfolding range_text
passed_apart p q us vs e =
    let same : p.op ≡ q.op = ops_apart p.op q.op p.left p.right q.left q.right us vs e in
    let sides = sides_apart q.op p.left p.right q.left q.right us vs (ap (λ o. line_of o p.left p.right ++ us) (sym same) ∙ e) in
    (same_passed p q same sides.0 sides.1, sides.2)

-- ---- all together: the first letter tells which of the three it is
-- two outcomes that fit a market are one where their reports are, and so is what comes after these, where it does not go on with a line of a limit or a room
pub outcomes_apart : (m : Parts) (a b : Outcome Fraction) → OutcomeFitsReport m a → OutcomeFitsReport m b → (us vs : List ℕ) → EndsDuals us → EndsDuals vs
    → report_text m a ++ us ≡ report_text m b ++ vs → (a ≡ b) × (us ≡ vs)
unfolding cleared_text head_text infeasible_text range_text
outcomes_apart m (outcome.Cleared a) (outcome.Cleared b) p q us vs g h e = let t = answers_apart m a b p q us vs e in (ap outcome.Cleared t.0, t.1)
outcomes_apart m (outcome.Cleared a) (outcome.Infeasible f) p q us vs g h e = absurd (Prim.omega (arith, head_of 99 105 _ _ e))
outcomes_apart m (outcome.Cleared a) (outcome.Range s) p q us vs g h e = absurd (Prim.omega (arith, head_of 99 114 _ _ e))
outcomes_apart m (outcome.Infeasible f) (outcome.Cleared b) p q us vs g h e = absurd (Prim.omega (arith, head_of 105 99 _ _ e))
outcomes_apart m (outcome.Infeasible f) (outcome.Infeasible k) p q us vs g h e = let t = farkas_apart m f k p q us vs g h e in (ap outcome.Infeasible t.0, t.1)
outcomes_apart m (outcome.Infeasible f) (outcome.Range s) p q us vs g h e = absurd (Prim.omega (arith, head_of 105 114 _ _ e))
outcomes_apart m (outcome.Range r) (outcome.Cleared b) p q us vs g h e = absurd (Prim.omega (arith, head_of 114 99 _ _ e))
outcomes_apart m (outcome.Range r) (outcome.Infeasible f) p q us vs g h e = absurd (Prim.omega (arith, head_of 114 105 _ _ e))
outcomes_apart m (outcome.Range r) (outcome.Range s) p q us vs g h e = let t = passed_apart r s us vs e in (ap outcome.Range t.0, t.1)

pub reports_apart : ReportsApart
reports_apart m a b p q e = (outcomes_apart m a b p q [] [] (tt, tt) (tt, tt) (ap (λ t. t ++ []) e)).0

-- ---- right outcomes fit
own_made : (m : Parts) (a : Answer Fraction) → IsRight m a → MakesOwnPrices m a
unfolding unit_price
own_made m a right = ap (λ (b : Answer Fraction). b.money.own) right.made

-- what is accepted is what is paid for
reserve_told : (n : ℕ) (x : Dispatch) (d : Duals Fraction) → length x.reserve ≡ n → map (λ p. p.mw) (map (pay_of_reserve x d) (places n)) ≡ x.reserve
reserve_told n x d count =
    map-map (λ (p : ReservePay Fraction). p.mw) (pay_of_reserve x d) (places n)
    ∙ ext_get_or zero (map (reserved x) (places n)) x.reserve (length-map-range_with_len (reserved x) 0 n ∙ sym count) (λ i h.
    get_or-map-range_with_len (reserved x) 0 n i i zero (Prim.omega (arith, h, length-map-range_with_len (reserved x) 0 n)) (Prim.omega arith))

duals_fit : (m : Parts) (d : Duals Fraction) → ProperDuals m d → DualsFitReport m d
duals_fit m d proper = record { rooms = proper.rooms_priced; unlisted = proper.energy_alone }

answer_fits : (m : Parts) (a : Answer Fraction) → IsRight m a → FitsReport m a
answer_fits m a right = record {
  fits = fits_by_right m a right;
  energy = subst (All (λ (p : Price Fraction). p.energy ≡ a.duals.energy)) (sym (ap (λ (b : Answer Fraction). b.prices) right.made))
      (All-map (λ (p : Price Fraction). p.energy ≡ a.duals.energy) (price_made m a.duals) (places (length m.buses)) (λ k d lt. refl));
  over = subst (All (λ (r : Rent Fraction). zero ≤ℚ r.over)) (sym (ap (λ (b : Answer Fraction). b.money.rents) right.made))
      (All-map (λ (r : Rent Fraction). zero ≤ℚ r.over) (rent_of m (dispatch_in a) a.duals) (named_rows m a.duals) (λ k d lt. (part_least _).0));
  own = inr (own_made m a right);
  reserve = ap (λ (b : Answer Fraction). map (λ (p : ReservePay Fraction). p.mw) b.money.reserve) right.made
      ∙ reserve_told (length m.reserve.offers) (dispatch_in a) a.duals right.feasible.blocks.reserve_count;
  duals = duals_fit m a.duals right.proper;
}

pub outcome_fits : (P : Passed Fraction → Type 0) (m : Parts) (a : Outcome Fraction) → IsRightBy P m a → OutcomeFitsReport m a
outcome_fits P m (outcome.Cleared a) right = answer_fits m a right
outcome_fits P m (outcome.Infeasible f) right = duals_fit m f.duals right.proper
outcome_fits P m (outcome.Range p) right = tt

pub right_reports_apart : RightReportsApart
right_reports_apart m a b p q e = reports_apart m a b (outcome_fits _ m a p) (outcome_fits _ m b q) e
