-- What is read of cells is what they say.
use Rattle.std.proofs.Common.{◌≡◌, ℕ, ◌≤◌, ◌&&◌, ℤ, pos, negsuc, Bool, true, false, List, refl, sym, ap, subst, ◌∙◌, arith, Result, Ok, Err}
use Rattle.std.specs.Prelude.{unsigned_abs, if◌then◌else◌}
use Rattle.std.specs.Int.Signed.{le_z}
use Rattle.std.proofs.lemmas.Grind.{common_steps}
use Rattle.fraction_theory.specs.declared.Sign.{Sign}
use Rattle.record_reading.specs.Records.{Record}
use Rattle.record_reading.specs.Steps.{and_then}
use Rattle.record_reading.specs.declared.Why.TheVariants as why
use Rattle.record_reading.proofs.StepLemmas.{then-ok, ok-same}
use Rattle.scaled_decimal.specs.declared.DecimalFault.{DecimalFault}
use Rattle.scaled_decimal.specs.Reading.{Reads, HasSign, units_of, sign_in}
use Rattle.scaled_decimal.proofs.ReadingLaws.{Reads-units_of, units_of-Reads, HasSign-sign_in, sign_in-HasSign}
use Rattle.case_text.specs.declared.Field.{Field}
use Rattle.case_text.specs.declared.Field.TheVariants as field
use Rattle.net_case.specs.declared.live_parts.NetFault.TheVariants as fault
use Rattle.net_case.specs.NetworkReading.{in_cell, number_in, sign_at, service_in, is_above, counted_in}
use Rattle.network_meaning.specs.Cells.{cell, IsAmount, IsWhole, IsOfSign}

in_cell-ok : {A : Type 0} (f : Field) (row col : ℕ) (found : Result A DecimalFault) (x : A) → in_cell f row col found ≡ Ok x → found ≡ Ok x
in_cell-ok f row col (Ok y) x e = ap Ok (ok-same y x e)
in_cell-ok f row col (Err e) x is = absurd cc

-- ---- amounts
pub amount-read : (f : Field) (row : ℕ) (r : Record) (col places : ℕ) (n : ℤ) → number_in f row r col places ≡ Ok n → IsAmount places (cell r col) n
amount-read f row r col places n e = subst (Reads places (cell r col)) (in_cell-ok f row col (units_of places (cell r col)) n e) (Reads-units_of places (cell r col))

pub read-amount : (f : Field) (row : ℕ) (r : Record) (col places : ℕ) (n : ℤ) → IsAmount places (cell r col) n → number_in f row r col places ≡ Ok n
read-amount f row r col places n h = ap (in_cell f row col) (units_of-Reads places (cell r col) (Ok n) h)

-- ---- signs
pub sign-read : (f : Field) (row : ℕ) (r : Record) (col : ℕ) (s : Sign) → sign_at f row r col ≡ Ok s → IsOfSign (cell r col) s
sign-read f row r col s e = subst (HasSign (cell r col)) (in_cell-ok f row col (sign_in (cell r col)) s e) (HasSign-sign_in (cell r col))

pub read-sign : (f : Field) (row : ℕ) (r : Record) (col : ℕ) (s : Sign) → IsOfSign (cell r col) s → sign_at f row r col ≡ Ok s
read-sign f row r col s h = ap (in_cell f row col) (sign_in-HasSign (cell r col) (Ok s) h)

pub read-service : (f : Field) (row : ℕ) (r : Record) (col : ℕ) (s : Sign) → IsOfSign (cell r col) s → service_in f row r col ≡ Ok (is_above s)
read-service f row r col s h = ap (λ found. and_then found (λ t. Ok (is_above t))) (read-sign f row r col s h)

pub service-read : (f : Field) (row : ℕ) (r : Record) (col : ℕ) (above : Bool) → service_in f row r col ≡ Ok above → (s : Sign) × IsOfSign (cell r col) s × (above ≡ is_above s)
service-read f row r col above e =
    let t = then-ok (sign_at f row r col) (λ s. Ok (is_above s)) above e in
    (t.0, sign-read f row r col t.0 t.1, sym (ok-same (is_above t.0) above t.2))

-- ---- whole numbers of a range
pub record IsCounted (text : List ℕ) (last k : ℕ) : Type 0 where
  pub is : IsWhole text (pos k)
  pub least : 1 ≤ k
  pub most : k ≤ last

pub between : (n : ℤ) (most : ℕ) → (le_z (pos 1) n && le_z n (pos most)) ≡ true → (n ≡ pos (unsigned_abs n)) × (1 ≤ unsigned_abs n) × (unsigned_abs n ≤ most)
between (pos k) most e = (refl, grind (arith, common_steps), grind (arith, common_steps))
between (negsuc k) most e = absurd cc

pub is_between : (k most : ℕ) → 1 ≤ k → k ≤ most → (le_z (pos 1) (pos k) && le_z (pos k) (pos most)) ≡ true
is_between k most least up = grind (arith, common_steps)

pub counted-read : (row : ℕ) (r : Record) (col most k : ℕ) → counted_in row r col most ≡ Ok k → IsCounted (cell r col) most k
unfolding counted_in
counted-read row r col most k e =
    let t = then-ok (number_in field.Bus row r col 0) (λ n. if le_z (pos 1) n && le_z n (pos most) then Ok (unsigned_abs n) else Err (fault.Cell field.Bus row col why.Bounds)) k e in
    by t.0 (amount-read field.Bus row r col 0 t.0 t.1) (le_z (pos 1) t.0 && le_z t.0 (pos most)) refl t.2
  where
    by : (n : ℤ) → IsWhole (cell r col) n → (test : Bool) → (le_z (pos 1) n && le_z n (pos most)) ≡ test →
        (if test then Ok (unsigned_abs n) else Err (fault.Cell field.Bus row col why.Bounds)) ≡ Ok k → IsCounted (cell r col) most k
    by n is true inside e =
        let b = between n most inside in
        let same : unsigned_abs n ≡ k = ok-same (unsigned_abs n) k e in
        record { is = subst (IsWhole (cell r col)) (b.0 ∙ ap pos same) is; least = rw same at b.1; most = rw same at b.2 }
    by n is false inside e = absurd cc

pub read-counted : (row : ℕ) (r : Record) (col most k : ℕ) → IsCounted (cell r col) most k → counted_in row r col most ≡ Ok k
unfolding counted_in
read-counted row r col most k h = rw (read-amount field.Bus row r col 0 (pos k) h.is, is_between k most h.least h.most) refl
