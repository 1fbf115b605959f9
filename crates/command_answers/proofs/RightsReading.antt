-- What is told of a market and of rights has one reading.
use Rattle.std.specs.Prelude.{◌≡◌, ℕ, ◌+◌, List, [], ◌∷◌, ◌++◌, codes, decimal, length, slice_index_or, refl}
use Rattle.std.specs.List.{flat_map, range_with_len}
use Rattle.std.proofs.Common.{suc, arith, ap, ap₂, sym, ◌∙◌, append_assoc}
use Rattle.std.proofs.lemmas.List.{append_cancel_left}
use Rattle.fraction_theory.specs.Fraction.{Fraction}
use Rattle.exact_fraction.specs.Written.{written}
use Rattle.exact_fraction.specs.declared.Passed.{Passed}
use Rattle.market_data.specs.Scales.{money_places, mw_places}
use Rattle.market_model.specs.declared.answered.Farkas.{Farkas}
use Rattle.market_model.specs.declared.answered.Outcome.{Outcome}
use Rattle.market_model.specs.declared.answered.Outcome.TheVariants as outcome
use Rattle.market_model.specs.declared.answered.RowId.{RowId}
use Rattle.market_model.specs.declared.participants.Parts.{Parts}
use Rattle.market_model.specs.declared.participants.TransmissionRight.{TransmissionRight}
use Rattle.market_model.specs.Dispatch.{zero}
use Rattle.market_model.specs.Valued.{total_at}
use Rattle.market_system.proofs.Completeness.{right_by}
use Rattle.report_text.specs.ReportLaws.{OutcomeFitsReport}
use Rattle.report_text.specs.Reports.{cleared_text, head_text, infeasible_text, range_text, row_text}
use Rattle.report_text.proofs.Amounts.{head_of, named_apart, one_apart}
use Rattle.report_text.proofs.LimitReading.{rows_apart}
use Rattle.report_text.proofs.OutcomeReading.{outcome_fits, reports_apart}
use Rattle.report_text.proofs.ReportReading.{answers_apart}
use Rattle.replay_text.proofs.FaultReading.{next_letter}
use Rattle.rights_test.specs.declared.right_parts.Fit.{Fit}
use Rattle.rights_test.specs.declared.right_parts.Fit.TheVariants as fit
use Rattle.rights_test.specs.declared.right_parts.Payments.{Payments}
use Rattle.rights_test.specs.Paid.{payments_of}
use Rattle.command_answers.specs.Laws.{LawOfTheRightsTelling, LawOfTheRightsText, FitsRightsReport, RightsReport, outcome_in, rights_report_text, paid, unpaid, infeasible, range}
use Rattle.command_answers.specs.Rights.{TellsOutcome, fitted, passed, fit_status}
use Rattle.command_answers.specs.RightsLines.{fit_text, lines_of_payments, payment_at, payment_text, rights_lines, total_text}
use Rattle.command_answers.specs.Tellings.{Telling, uncertified}
use Rattle.command_answers.specs.declared.status.Status.{Status}
use Rattle.command_answers.specs.declared.status.Status.TheVariants as status

-- ---- whether rights fit, and what comes after it
broken_apart : (a b : RowId) (x y : Fraction) (us vs : List ℕ) → fit_text (fit.Breaks a x) ++ us ≡ fit_text (fit.Breaks b y) ++ vs → (a ≡ b) × (x ≡ y) × (us ≡ vs)
unfolding fit_text
broken_apart a b x y us vs e =
    let behind = λ (flow : Fraction) (ts : List ℕ). codes "flow " ++ (written mw_places flow ++ 10 ∷ ts) in
    let opened = λ (row : RowId) (flow : Fraction) (ts : List ℕ). in_order (codes "rights break ") (row_text row) (codes " flow ") (written mw_places flow) (codes "\n") ts in
    let row = rows_apart a b (behind x us) (behind y vs) (λ z. Prim.omega (arith, z)) (λ z. Prim.omega (arith, z))
    (append_cancel_left (codes "rights break ") (row_text a ++ 32 ∷ behind x us) (row_text b ++ 32 ∷ behind y vs) (sym (opened a x us) ∙ e ∙ opened b y vs)) in
    let flow = named_apart (codes "flow ") mw_places 10 x y us vs (Prim.omega arith) row.1 in
    (row.0, flow.0, flow.1)
  where
    in_order : (w r f x n ts : List ℕ) → (w ++ r ++ f ++ x ++ n) ++ ts ≡ w ++ (r ++ (f ++ (x ++ (n ++ ts))))
    in_order w r f x n ts = Prim.simp append_assoc

fits_apart : (f g : Fit Fraction) (us vs : List ℕ) → fit_text f ++ us ≡ fit_text g ++ vs → (f ≡ g) × (us ≡ vs)
unfolding fit_text
fits_apart fit.Fits fit.Fits us vs e = (refl, append_cancel_left (codes "rights fit\n") us vs e)
fits_apart fit.Fits (fit.Breaks b y) us vs e = absurd (Prim.omega (arith, next_letter (codes "rights ") 102 98 _ _ e))
fits_apart (fit.Breaks a x) fit.Fits us vs e = absurd (Prim.omega (arith, next_letter (codes "rights ") 98 102 _ _ e))
fits_apart (fit.Breaks a x) (fit.Breaks b y) us vs e =
    let t = broken_apart a b x y us vs e in
    (ap₂ (λ (row : RowId) (flow : Fraction). fit.Breaks row flow) t.0 t.1, t.2)

-- ---- what they are paid
-- the lines of payments, of which the first has this number
abbrev numbered : ℕ → List Fraction → List ℕ
numbered k [] = []
numbered k (x ∷ xs) = payment_text k x ++ numbered (k + 1) xs

numbered_by : (k a : ℕ) (line : ℕ → List ℕ) (xs : List Fraction) → ((i : ℕ) → line (a + i) ≡ payment_text (k + i) (slice_index_or xs i zero)) → flat_map line (range_with_len a (length xs)) ≡ numbered k xs
numbered_by k a line [] each = refl
numbered_by k a line (x ∷ xs) each =
    let here : a ≡ a + 0 = Prim.omega arith in
    let first : k + 0 ≡ k = Prim.omega arith in
    let there : (i : ℕ) → (a + 1) + i ≡ a + suc i = λ i. Prim.omega arith in
    let next : (i : ℕ) → k + suc i ≡ (k + 1) + i = λ i. Prim.omega arith in
    ap₂ (λ (t u : List ℕ). t ++ u) (ap line here ∙ each 0 ∙ ap (λ (n : ℕ). payment_text n x) first)
    (numbered_by (k + 1) (a + 1) line xs (λ i. ap line (there i) ∙ each (suc i) ∙ ap (λ (n : ℕ). payment_text n (slice_index_or xs i zero)) (next i)))

are_numbered : (xs : List Fraction) → lines_of_payments xs ≡ numbered 1 xs
are_numbered xs =
    let number : (i : ℕ) → (0 + i) + 1 ≡ 1 + i = λ i. Prim.omega arith in
    let place : (i : ℕ) → 0 + i ≡ i = λ i. Prim.omega arith in
    numbered_by 1 0 (payment_at xs) xs (λ i. ap₂ (λ (n p : ℕ). payment_text n (slice_index_or xs p zero)) (number i) (place i))

payment_apart : (k : ℕ) (x y : Fraction) (us vs : List ℕ) → payment_text k x ++ us ≡ payment_text k y ++ vs → (x ≡ y) × (us ≡ vs)
unfolding payment_text
payment_apart k x y us vs e = one_apart (codes "right " ++ decimal k ++ codes " pays ") money_places x y us vs e

totals_apart : (x y : Fraction) → total_text x ≡ total_text y → x ≡ y
unfolding total_text
totals_apart x y e = (one_apart (codes "rights pay ") money_places x y [] [] (ap (λ (t : List ℕ). t ++ []) e)).0

-- behind `right` a payment goes on with a blank, and the total with a letter
total_is_none : (k : ℕ) (x total : Fraction) (us : List ℕ) → total_text total ≡ payment_text k x ++ us → ⊥
unfolding payment_text total_text
total_is_none k x total us e = absurd (Prim.omega (arith, next_letter (codes "right") 115 32 _ _ e))

paid_apart : (k : ℕ) (xs ys : List Fraction) (x y : Fraction) → numbered k xs ++ total_text x ≡ numbered k ys ++ total_text y → (xs ≡ ys) × (x ≡ y)
paid_apart k [] [] x y e = (refl, totals_apart x y e)
paid_apart k [] (w ∷ ys) x y e = absurd (total_is_none k w x (numbered (k + 1) ys ++ total_text y) (e ∙ append_assoc (payment_text k w) (numbered (k + 1) ys) (total_text y)))
paid_apart k (v ∷ xs) [] x y e = absurd (total_is_none k v y (numbered (k + 1) xs ++ total_text x) (sym e ∙ append_assoc (payment_text k v) (numbered (k + 1) xs) (total_text x)))
paid_apart k (v ∷ xs) (w ∷ ys) x y e =
    let first = payment_apart k v w (numbered (k + 1) xs ++ total_text x) (numbered (k + 1) ys ++ total_text y)
    (sym (append_assoc (payment_text k v) (numbered (k + 1) xs) (total_text x)) ∙ e ∙ append_assoc (payment_text k w) (numbered (k + 1) ys) (total_text y)) in
    let rest = paid_apart (k + 1) xs ys x y first.1 in
    (Prim.cc (first.0, rest.0), rest.1)

-- ---- both
same_payments : (p q : Payments Fraction) → p.each ≡ q.each → p.total ≡ q.total → p ≡ q
same_payments p q each total = λ i. record { each = each i; total = total i }

lines_apart : (f g : Fit Fraction) (p q : Payments Fraction) → rights_lines f p ≡ rights_lines g q → (f ≡ g) × (p ≡ q)
lines_apart f g p q e =
    let opened = λ (h : Fit Fraction) (x : Payments Fraction). append_assoc (fit_text h) (lines_of_payments x.each) (total_text x.total) in
    let first = fits_apart f g (lines_of_payments p.each ++ total_text p.total) (lines_of_payments q.each ++ total_text q.total) (sym (opened f p) ∙ e ∙ opened g q) in
    let line = λ (x : Payments Fraction). ap (λ (t : List ℕ). t ++ total_text x.total) (are_numbered x.each) in
    let paid = paid_apart 1 p.each q.each p.total q.total (sym (line p) ∙ first.1 ∙ line q) in
    (first.0, same_payments p q paid.0 paid.1)

-- they are no line of numbers that became too large
lines_no_range : (f : Fit Fraction) (p : Payments Fraction) (r : Passed Fraction) → rights_lines f p ≡ range_text r → ⊥
unfolding fit_text range_text
lines_no_range fit.Fits p r e = absurd (Prim.omega (arith, next_letter (codes "r") 105 97 _ _ e))
lines_no_range (fit.Breaks a x) p r e = absurd (Prim.omega (arith, next_letter (codes "r") 105 97 _ _ e))

same_infeasible : (k l : Farkas Fraction) → outcome.Infeasible k ≡ outcome.Infeasible l → k ≡ l
same_infeasible k l e = Prim.cc

same_range : (r s : Passed Fraction) → outcome.Range r ≡ outcome.Range s → r ≡ s
same_range r s e = Prim.cc

range_apart : (m : Parts) (r s : Passed Fraction) → range_text r ≡ range_text s → r ≡ s
range_apart m r s e = same_range r s (reports_apart m (outcome.Range r) (outcome.Range s) tt tt e)

-- ---- all together: the first letter tells whether there is an answer
pub law_of_the_rights_text : LawOfTheRightsText
unfolding cleared_text head_text infeasible_text range_text
law_of_the_rights_text m (paid a f p) (paid b g q) fits others e =
    let t = answers_apart m a b fits others (rights_lines f p) (rights_lines g q) e in
    let lines = lines_apart f g p q t.1 in
    Prim.cc (t.0, lines.0, lines.1)
law_of_the_rights_text m (paid a f p) (unpaid b s) fits others e = absurd (lines_no_range f p s (answers_apart m a b fits others (rights_lines f p) (range_text s) e).1)
law_of_the_rights_text m (paid a f p) (infeasible k) fits others e = absurd (Prim.omega (arith, head_of 99 105 _ _ e))
law_of_the_rights_text m (paid a f p) (range s) fits others e = absurd (Prim.omega (arith, head_of 99 114 _ _ e))
law_of_the_rights_text m (unpaid a r) (paid b g q) fits others e = absurd (lines_no_range g q r (sym (answers_apart m a b fits others (range_text r) (rights_lines g q) e).1))
law_of_the_rights_text m (unpaid a r) (unpaid b s) fits others e =
    let t = answers_apart m a b fits others (range_text r) (range_text s) e in
    let pair : r ≡ s = range_apart m r s t.1 in
    Prim.cc (t.0, pair)
law_of_the_rights_text m (unpaid a r) (infeasible k) fits others e = absurd (Prim.omega (arith, head_of 99 105 _ _ e))
law_of_the_rights_text m (unpaid a r) (range s) fits others e = absurd (Prim.omega (arith, head_of 99 114 _ _ e))
law_of_the_rights_text m (infeasible k) (paid b g q) fits others e = absurd (Prim.omega (arith, head_of 105 99 _ _ e))
law_of_the_rights_text m (infeasible k) (unpaid b s) fits others e = absurd (Prim.omega (arith, head_of 105 99 _ _ e))
law_of_the_rights_text m (infeasible k) (infeasible l) fits others e =
    let same : k ≡ l = same_infeasible k l (reports_apart m (outcome.Infeasible k) (outcome.Infeasible l) fits others e) in
    ap infeasible same
law_of_the_rights_text m (infeasible k) (range s) fits others e = absurd (Prim.omega (arith, head_of 105 114 _ _ e))
law_of_the_rights_text m (range r) (paid b g q) fits others e = absurd (Prim.omega (arith, head_of 114 99 _ _ e))
law_of_the_rights_text m (range r) (unpaid b s) fits others e = absurd (Prim.omega (arith, head_of 114 99 _ _ e))
law_of_the_rights_text m (range r) (infeasible k) fits others e = absurd (Prim.omega (arith, head_of 114 105 _ _ e))
law_of_the_rights_text m (range r) (range s) fits others e = ap range (range_apart m r s e)

-- ---- what a run tells
abbrev pub status_of : RightsReport → Status
status_of (paid a f p) = fit_status f
status_of (unpaid a p) = status.Range
status_of (infeasible f) = status.Infeasible
status_of (range p) = status.Range

-- it is the text of one of these, of the same outcome
pub record IsTold (m : Parts) (o : Outcome Fraction) (t : Telling) : Type 0 where
  pub report : RightsReport
  pub fits : FitsRightsReport m report
  pub outcome : outcome_in report ≡ o
  pub told : t ≡ uncertified (status_of report) (rights_report_text m report)

pub outcome_told : (bound : ℕ) (m : Parts) (rights : List TransmissionRight) (o : Outcome Fraction) (t : Telling) → OutcomeFitsReport m o → TellsOutcome bound m rights o t → IsTold m o t
outcome_told bound m rights (outcome.Cleared a) t fits (fitted f is within pays e) = record { report = paid a f (payments_of (total_at (λ x. x) a.prices) rights); fits = fits; outcome = refl; told = e }
outcome_told bound m rights (outcome.Cleared a) t fits (passed p is within e) = record { report = unpaid a p; fits = fits; outcome = refl; told = e }
outcome_told bound m rights (outcome.Infeasible f) t fits e = record { report = infeasible f; fits = fits; outcome = refl; told = e }
outcome_told bound m rights (outcome.Range p) t fits e = record { report = range p; fits = tt; outcome = refl; told = e }

pub law_of_the_rights_telling : LawOfTheRightsTelling
law_of_the_rights_telling bound m rights others t u x y e =
    let first = outcome_told bound m rights x.outcome t (outcome_fits _ m x.outcome (right_by bound m [] x.outcome x.right)) x.told in
    let second = outcome_told bound m others y.outcome u (outcome_fits _ m y.outcome (right_by bound m [] y.outcome y.right)) y.told in
    let same : first.report ≡ second.report = law_of_the_rights_text m first.report second.report first.fits second.fits
    (sym (ap (λ (z : Telling). z.text) first.told) ∙ e ∙ ap (λ (z : Telling). z.text) second.told) in
    (sym first.outcome ∙ ap outcome_in same ∙ second.outcome, first.told ∙ ap (λ (r : RightsReport). uncertified (status_of r) (rights_report_text m r)) same ∙ sym second.told)
