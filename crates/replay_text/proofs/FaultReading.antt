-- The line of an edit has one reading.
use Rattle.std.specs.Prelude.{◌≡◌, ℕ, ◌/◌, ◌%◌, ◌^◌, ℤ, unsigned_abs, List, ◌∷◌, ◌++◌, codes, refl}
use Rattle.std.proofs.Common.{arith, ap, ap₂, sym, ◌∙◌, append_assoc}
use Rattle.std.proofs.lemmas.List.{append_cancel_left}
use Rattle.fraction_theory.specs.Fraction.{Fraction, whole}
use Rattle.exact_fraction.specs.Written.{number_text, sign_text, trimmed_places, units_text, written}
use Rattle.offer_book.specs.declared.edit_parts.EditFault.{EditFault}
use Rattle.offer_book.specs.declared.edit_parts.EditFault.TheVariants as fault
use Rattle.line_text.specs.Decimals.{decimal_text}
use Rattle.report_text.proofs.Amounts.{head_of, named_apart}
use Rattle.replay_text.specs.ReplayTexts.{fault_text}

-- ---- decimals
-- a decimal is the text of a whole number of units
decimal_is_written : (k : ℕ) (n : ℤ) → decimal_text k n ≡ written k (whole n)
unfolding decimal_text written units_text whole
decimal_is_written k n =
    let quotient : unsigned_abs n ≡ unsigned_abs n / 1 = Prim.omega arith in
    let rest : 0 ≡ unsigned_abs n % 1 = Prim.omega arith in
    append_assoc (sign_text n) (number_text (unsigned_abs n / 10 ^ k)) (trimmed_places k (unsigned_abs n % 10 ^ k))
    ∙ ap₂ (λ (q r : ℕ). sign_text n ++ units_text k q r 1) quotient rest

-- a word, a decimal, the end of the line and what comes after it
decimal_apart : (word : List ℕ) (k : ℕ) (x y : ℤ) (us vs : List ℕ) → word ++ (decimal_text k x ++ 10 ∷ us) ≡ word ++ (decimal_text k y ++ 10 ∷ vs) → (x ≡ y) × (us ≡ vs)
unfolding whole
decimal_apart word k x y us vs e =
    let line = λ (n : ℤ) (ts : List ℕ). ap (λ (t : List ℕ). word ++ (t ++ 10 ∷ ts)) (decimal_is_written k n) in
    let t = named_apart word k 10 (whole x) (whole y) us vs (Prim.omega arith) (sym (line x us) ∙ e ∙ line y vs) in
    (ap (λ (z : Fraction). z.num) t.0, t.1)

-- ---- faults
-- behind some letters that two lines share each goes on with its own
pub next_letter : (front : List ℕ) (c d : ℕ) (us vs : List ℕ) → front ++ c ∷ us ≡ front ++ d ∷ vs → c ≡ d
next_letter front c d us vs e = head_of c d us vs (append_cancel_left front (c ∷ us) (d ∷ vs) e)

-- the fault of an edit, the end of the line and what comes after it
pub faults_apart : (f g : EditFault) (us vs : List ℕ) → fault_text f ++ 10 ∷ us ≡ fault_text g ++ 10 ∷ vs → (f ≡ g) × (us ≡ vs)
faults_apart fault.NoBlock fault.NoBlock us vs e = (refl, append_cancel_left (codes "NoBlock\n") us vs e)
faults_apart fault.NoBlock fault.NoBus us vs e = absurd (Prim.omega (arith, next_letter (codes "NoB") 108 117 _ _ e))
faults_apart fault.NoBlock fault.NoLimit us vs e = absurd (Prim.omega (arith, next_letter (codes "No") 66 76 _ _ e))
faults_apart fault.NoBlock fault.NoReserve us vs e = absurd (Prim.omega (arith, next_letter (codes "No") 66 82 _ _ e))
faults_apart fault.NoBlock fault.Negative us vs e = absurd (Prim.omega (arith, next_letter (codes "N") 111 101 _ _ e))
faults_apart fault.NoBlock (fault.OutOfOrder y) us vs e = absurd (Prim.omega (arith, head_of 78 79 _ _ e))
faults_apart fault.NoBlock (fault.OverCapacity y) us vs e = absurd (Prim.omega (arith, head_of 78 79 _ _ e))
faults_apart fault.NoBus fault.NoBlock us vs e = absurd (Prim.omega (arith, next_letter (codes "NoB") 117 108 _ _ e))
faults_apart fault.NoBus fault.NoBus us vs e = (refl, append_cancel_left (codes "NoBus\n") us vs e)
faults_apart fault.NoBus fault.NoLimit us vs e = absurd (Prim.omega (arith, next_letter (codes "No") 66 76 _ _ e))
faults_apart fault.NoBus fault.NoReserve us vs e = absurd (Prim.omega (arith, next_letter (codes "No") 66 82 _ _ e))
faults_apart fault.NoBus fault.Negative us vs e = absurd (Prim.omega (arith, next_letter (codes "N") 111 101 _ _ e))
faults_apart fault.NoBus (fault.OutOfOrder y) us vs e = absurd (Prim.omega (arith, head_of 78 79 _ _ e))
faults_apart fault.NoBus (fault.OverCapacity y) us vs e = absurd (Prim.omega (arith, head_of 78 79 _ _ e))
faults_apart fault.NoLimit fault.NoBlock us vs e = absurd (Prim.omega (arith, next_letter (codes "No") 76 66 _ _ e))
faults_apart fault.NoLimit fault.NoBus us vs e = absurd (Prim.omega (arith, next_letter (codes "No") 76 66 _ _ e))
faults_apart fault.NoLimit fault.NoLimit us vs e = (refl, append_cancel_left (codes "NoLimit\n") us vs e)
faults_apart fault.NoLimit fault.NoReserve us vs e = absurd (Prim.omega (arith, next_letter (codes "No") 76 82 _ _ e))
faults_apart fault.NoLimit fault.Negative us vs e = absurd (Prim.omega (arith, next_letter (codes "N") 111 101 _ _ e))
faults_apart fault.NoLimit (fault.OutOfOrder y) us vs e = absurd (Prim.omega (arith, head_of 78 79 _ _ e))
faults_apart fault.NoLimit (fault.OverCapacity y) us vs e = absurd (Prim.omega (arith, head_of 78 79 _ _ e))
faults_apart fault.NoReserve fault.NoBlock us vs e = absurd (Prim.omega (arith, next_letter (codes "No") 82 66 _ _ e))
faults_apart fault.NoReserve fault.NoBus us vs e = absurd (Prim.omega (arith, next_letter (codes "No") 82 66 _ _ e))
faults_apart fault.NoReserve fault.NoLimit us vs e = absurd (Prim.omega (arith, next_letter (codes "No") 82 76 _ _ e))
faults_apart fault.NoReserve fault.NoReserve us vs e = (refl, append_cancel_left (codes "NoReserve\n") us vs e)
faults_apart fault.NoReserve fault.Negative us vs e = absurd (Prim.omega (arith, next_letter (codes "N") 111 101 _ _ e))
faults_apart fault.NoReserve (fault.OutOfOrder y) us vs e = absurd (Prim.omega (arith, head_of 78 79 _ _ e))
faults_apart fault.NoReserve (fault.OverCapacity y) us vs e = absurd (Prim.omega (arith, head_of 78 79 _ _ e))
faults_apart fault.Negative fault.NoBlock us vs e = absurd (Prim.omega (arith, next_letter (codes "N") 101 111 _ _ e))
faults_apart fault.Negative fault.NoBus us vs e = absurd (Prim.omega (arith, next_letter (codes "N") 101 111 _ _ e))
faults_apart fault.Negative fault.NoLimit us vs e = absurd (Prim.omega (arith, next_letter (codes "N") 101 111 _ _ e))
faults_apart fault.Negative fault.NoReserve us vs e = absurd (Prim.omega (arith, next_letter (codes "N") 101 111 _ _ e))
faults_apart fault.Negative fault.Negative us vs e = (refl, append_cancel_left (codes "Negative\n") us vs e)
faults_apart fault.Negative (fault.OutOfOrder y) us vs e = absurd (Prim.omega (arith, head_of 78 79 _ _ e))
faults_apart fault.Negative (fault.OverCapacity y) us vs e = absurd (Prim.omega (arith, head_of 78 79 _ _ e))
faults_apart (fault.OutOfOrder x) fault.NoBlock us vs e = absurd (Prim.omega (arith, head_of 79 78 _ _ e))
faults_apart (fault.OutOfOrder x) fault.NoBus us vs e = absurd (Prim.omega (arith, head_of 79 78 _ _ e))
faults_apart (fault.OutOfOrder x) fault.NoLimit us vs e = absurd (Prim.omega (arith, head_of 79 78 _ _ e))
faults_apart (fault.OutOfOrder x) fault.NoReserve us vs e = absurd (Prim.omega (arith, head_of 79 78 _ _ e))
faults_apart (fault.OutOfOrder x) fault.Negative us vs e = absurd (Prim.omega (arith, head_of 79 78 _ _ e))
faults_apart (fault.OutOfOrder x) (fault.OutOfOrder y) us vs e = let t = decimal_apart (codes "OutOfOrder ") 6 x y us vs e in (ap fault.OutOfOrder t.0, t.1)
faults_apart (fault.OutOfOrder x) (fault.OverCapacity y) us vs e = absurd (Prim.omega (arith, next_letter (codes "O") 117 118 _ _ e))
faults_apart (fault.OverCapacity x) fault.NoBlock us vs e = absurd (Prim.omega (arith, head_of 79 78 _ _ e))
faults_apart (fault.OverCapacity x) fault.NoBus us vs e = absurd (Prim.omega (arith, head_of 79 78 _ _ e))
faults_apart (fault.OverCapacity x) fault.NoLimit us vs e = absurd (Prim.omega (arith, head_of 79 78 _ _ e))
faults_apart (fault.OverCapacity x) fault.NoReserve us vs e = absurd (Prim.omega (arith, head_of 79 78 _ _ e))
faults_apart (fault.OverCapacity x) fault.Negative us vs e = absurd (Prim.omega (arith, head_of 79 78 _ _ e))
faults_apart (fault.OverCapacity x) (fault.OutOfOrder y) us vs e = absurd (Prim.omega (arith, next_letter (codes "O") 118 117 _ _ e))
faults_apart (fault.OverCapacity x) (fault.OverCapacity y) us vs e = let t = decimal_apart (codes "OverCapacity ") 9 x y us vs e in (ap fault.OverCapacity t.0, t.1)
