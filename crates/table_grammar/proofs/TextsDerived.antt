-- Every text gives records by the grammar, which are those that are read.
use Rattle.std.proofs.Common.{◌≡◌, ◌==◌, ℕ, true, false, List, [], ◌∷◌, get_or, sym, ap, subst, ◌∙◌, inl, inr, refl}
use Rattle.std.proofs.lemmas.Bool.{cases_Bool, eqb-true, eqb-false}
use Rattle.csv_table.specs.Table.{table_of}
use Rattle.record_reading.specs.Records.{Record}
use Rattle.table_grammar.specs.TableTexts.{records_of, BeginsUnmarked, IsTableText}
use Rattle.table_grammar.proofs.LinesRead.{derived-read}
use Rattle.table_grammar.proofs.LinesDerived.{derived}

-- ---- whether a byte order mark stands at the start
pub data Mark (bytes : List ℕ) : Type 0 where
  marked : (rest : List ℕ) → bytes ≡ 239 ∷ 187 ∷ 191 ∷ rest → Mark bytes
  unmarked : BeginsUnmarked false bytes → Mark bytes

place-is : (n : ℕ) (xs ys : List ℕ) → xs ≡ ys → get_or xs n 0 ≡ get_or ys n 0
place-is n xs ys e = ap (λ zs. get_or zs n 0) e

marked-by : (a b c : ℕ) (rest : List ℕ) → a ≡ 239 → b ≡ 187 → c ≡ 191 → a ∷ b ∷ c ∷ rest ≡ 239 ∷ 187 ∷ 191 ∷ rest
marked-by a b c rest e f g = ap (λ x. x ∷ b ∷ c ∷ rest) e ∙ ap (λ x. 239 ∷ x ∷ c ∷ rest) f ∙ ap (λ x. 239 ∷ 187 ∷ x ∷ rest) g

mark-of : (bytes : List ℕ) → Mark bytes
mark-of [] = unmarked (λ rest e. cc e)
mark-of (a ∷ []) = unmarked (λ rest e. cc e)
mark-of (a ∷ b ∷ []) = unmarked (λ rest e. cc e)
mark-of (a ∷ b ∷ c ∷ rest) = elim (cases_Bool (a == 239)) [
  | inr e ↦ unmarked (λ others same. eqb-false a 239 e (place-is 0 (a ∷ b ∷ c ∷ rest) (239 ∷ 187 ∷ 191 ∷ others) same))
  | inl e ↦ elim (cases_Bool (b == 187)) [
    | inr f ↦ unmarked (λ others same. eqb-false b 187 f (place-is 1 (a ∷ b ∷ c ∷ rest) (239 ∷ 187 ∷ 191 ∷ others) same))
    | inl f ↦ elim (cases_Bool (c == 191)) [
      | inr g ↦ unmarked (λ others same. eqb-false c 191 g (place-is 2 (a ∷ b ∷ c ∷ rest) (239 ∷ 187 ∷ 191 ∷ others) same))
      | inl g ↦ marked rest (marked-by a b c rest (eqb-true a 239 e) (eqb-true b 187 f) (eqb-true c 191 g))
    ]
  ]
]

-- ---- some records are derived from each text
pub record OfText (bytes : List ℕ) : Type 0 where
  pub records : List Record
  pub derived : IsTableText bytes records

of-lines : (bytes : List ℕ) → Mark bytes → OfText bytes
of-lines bytes (marked rest e) =
    let d = (derived rest).lines in
    record {
      records = records_of d.lines;
      derived = (record { mark = true; lines = d.lines }, e ∙ ap (λ u. 239 ∷ 187 ∷ 191 ∷ u) (sym d.is), record { lines = d.are; unmarked = tt }, refl);
    }
of-lines bytes (unmarked un) =
    let d = (derived bytes).lines in
    record {
      records = records_of d.lines;
      derived = (record { mark = false; lines = d.lines }, sym d.is, record { lines = d.are; unmarked = subst (BeginsUnmarked false) (sym d.is) un }, refl);
    }

pub read-derived : (bytes : List ℕ) (records : List Record) → table_of bytes ≡ records → IsTableText bytes records
read-derived bytes records read =
    let text = of-lines bytes (mark-of bytes) in
    subst (IsTableText bytes) (sym (derived-read bytes text.records text.derived) ∙ read) text.derived
