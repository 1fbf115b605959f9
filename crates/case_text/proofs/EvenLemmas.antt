-- The matrices of a case have even rows.
use Rattle.std.proofs.Common.{◌≡◌, ℕ, zero, suc, ◌+◌, ◌-◌, ◌==◌, Bool, true, false, List, [], ◌∷◌, length, refl, subst, arith, Option, Some, None, Result, Ok, Err, cond}
use Rattle.std.specs.Prelude.{nat_lt}
use Rattle.std.specs.List.{AllByRecursion}
use Rattle.std.specs.Option.{option_map_or}
use Rattle.std.proofs.lemmas.Bool.{eqb-true, ltb-false}
use Rattle.std.proofs.lemmas.List.Elements.{All-from_recursion}
use Rattle.case_tokens.specs.declared.Token.{Token}
use Rattle.case_tokens.specs.TokenLists.{token_list}
use Rattle.case_text.specs.declared.CaseFault.{CaseFault}
use Rattle.case_text.specs.declared.CaseFault.TheVariants as fault
use Rattle.case_text.specs.declared.Field.{Field}
use Rattle.case_text.specs.declared.Field.TheVariants as field
use Rattle.case_text.specs.Words.{word_of, is_separator}
use Rattle.record_reading.specs.Records.{first_ragged}
use Rattle.case_text.specs.Matrices.{Rows, least_columns, IsEven, AreEven, CaseMatrices}
use Rattle.case_text.specs.Statements.{statement_at}
use Rattle.case_text.specs.Settings.{Settings, no_settings, uneven, is_set, with_field, with_setting, matrices, all_set}
use Rattle.case_text.specs.Cases.{case_from, named_from, function_from, statements_from, without_mark, case_of, at_end}
use Rattle.record_reading.proofs.StepLemmas.{then-ok}
use Rattle.case_text.proofs.StatementLemmas.{allowed, refused, no-ok, same-ok}

ragged-none : (width number : ℕ) (rows : Rows) → first_ragged width number rows ≡ None → AllByRecursion (λ row. length row ≡ width) rows
unfolding first_ragged
ragged-none width number [] e = tt
ragged-none width number (row ∷ rows) e = by_test (length row == width) refl e (ragged-none width (number + 1) rows) where
  by_test : (test : Bool) → (length row == width) ≡ test → cond test (first_ragged width (number + 1) rows) (Some number) ≡ None →
      (first_ragged width (number + 1) rows ≡ None → AllByRecursion (λ r. length r ≡ width) rows) → (length row ≡ width) × AllByRecursion (λ r. length r ≡ width) rows
  by_test true t e h = (eqb-true (length row) width t, h e)
  by_test false t e h = absurd (Prim.cc)

-- the faults of rows that are none
both-none : (ragged : Option ℕ) (f : Field) (narrow : Bool) → option_map_or (λ number. Some (fault.Ragged f number)) ragged (cond narrow (Some (fault.Narrow f)) None) ≡ None →
    (ragged ≡ None) × (narrow ≡ false)
both-none None f true e = absurd (Prim.cc)
both-none None f false e = (refl, refl)
both-none (Some n) f narrow e = absurd (Prim.cc)

even-rows : (f : Field) (rows : Rows) → uneven f rows ≡ None → IsEven (least_columns f) rows
unfolding uneven
even-rows f [] e = record { alike = All-from_recursion (λ row. length row ≡ 0) [] tt; wide = λ h. absurd (Prim.omega arith) }
even-rows f (row ∷ rows) e =
    let p = both-none (first_ragged (length row) 1 (row ∷ rows)) f (nat_lt (length row) (least_columns f)) e in
    record {
      alike = All-from_recursion (λ r. length r ≡ length row) (row ∷ rows) (ragged-none (length row) 1 (row ∷ rows) p.0);
      wide = λ _. ltb-false (length row) (least_columns f) p.1;
    }

-- what is set so far is even
pub record SetEven (settings : Settings) : Type 0 where
  pub bus : (rows : Rows) → settings.bus ≡ Some rows → IsEven (least_columns field.Bus) rows
  pub generators : (rows : Rows) → settings.generators ≡ Some rows → IsEven (least_columns field.Gen) rows
  pub branch : (rows : Rows) → settings.branch ≡ Some rows → IsEven (least_columns field.Branch) rows

even-none : SetEven no_settings
even-none = record { bus = λ rows e. absurd (Prim.cc); generators = λ rows e. absurd (Prim.cc); branch = λ rows e. absurd (Prim.cc) }

set-same : (f : Field) (rows other : Rows) → Some rows ≡ Some other → IsEven (least_columns f) rows → IsEven (least_columns f) other
set-same f rows other e h = let same : rows ≡ other = Prim.cc in subst (λ r. IsEven (least_columns f) r) same h

even-field : (settings : Settings) (f : Field) (rows : Rows) → SetEven settings → IsEven (least_columns f) rows → SetEven (with_field settings f rows)
even-field settings field.Version rows h k = record { bus = h.bus; generators = h.generators; branch = h.branch }
even-field settings field.BaseMva rows h k = record { bus = h.bus; generators = h.generators; branch = h.branch }
even-field settings field.Bus rows h k = record { bus = λ r e. set-same field.Bus rows r e k; generators = h.generators; branch = h.branch }
even-field settings field.Gen rows h k = record { bus = h.bus; generators = λ r e. set-same field.Gen rows r e k; branch = h.branch }
even-field settings field.Branch rows h k = record { bus = h.bus; generators = h.generators; branch = λ r e. set-same field.Branch rows r e k }

faultless : {A : Type 0} (why : Option CaseFault) (value result : A) → option_map_or (λ e. Err e) why (Ok value) ≡ Ok result → (why ≡ None) × (value ≡ result)
faultless None value result e = (refl, same-ok value result (Ok value) refl e)
faultless (Some why) value result e = absurd (no-ok why result (Err why) refl e)

even-setting : (settings next : Settings) (f : Option Field) (rows : Rows) → SetEven settings → with_setting settings f rows ≡ Ok next → SetEven next
unfolding with_setting
even-setting settings next None rows h e = subst SetEven (same-ok settings next (Ok settings) refl e) h
even-setting settings next (Some f) rows h e =
    let p = faultless (uneven f rows) (with_field settings f rows) next (refused (is_set settings f) (fault.Twice f) next _ e) in
    subst SetEven p.1 (even-field settings f rows h (even-rows f rows p.0))

even-matrices : (bus generators branch : Option Rows) (case : CaseMatrices) → SetEven (record { version = true; base = true; bus = bus; generators = generators; branch = branch }) →
    matrices bus generators branch ≡ Ok case → AreEven case
unfolding matrices
even-matrices None generators branch case h e = absurd (no-ok (fault.Missing field.Bus) case _ refl e)
even-matrices (Some bus) None branch case h e = absurd (no-ok (fault.Missing field.Gen) case _ refl e)
even-matrices (Some bus) (Some generators) None case h e = absurd (no-ok (fault.Missing field.Branch) case _ refl e)
even-matrices (Some bus) (Some generators) (Some branch) case h e =
    subst AreEven (same-ok (record { bus = bus; generators = generators; branch = branch }) case _ refl e) all where
      nothing : IsEven 0 []
      nothing = record { alike = All-from_recursion (λ row. length row ≡ 0) [] tt; wide = λ _. Prim.omega arith }

      all : AreEven (record { bus = bus; generators = generators; branch = branch })
      all field.Version = nothing
      all field.BaseMva = nothing
      all field.Bus = h.bus bus refl
      all field.Gen = h.generators generators refl
      all field.Branch = h.branch branch refl

even-set : (settings : Settings) (case : CaseMatrices) → SetEven settings → all_set settings ≡ Ok case → AreEven case
unfolding all_set
even-set settings case h e =
    even-matrices settings.bus settings.generators settings.branch case (record { bus = h.bus; generators = h.generators; branch = h.branch })
    (allowed settings.base (fault.Missing field.BaseMva) case _ (allowed settings.version fault.NoVersion case _ e))

at_end-ok : (stop : Option ℕ) (read : Result CaseMatrices CaseFault) (case : CaseMatrices) → at_end stop read ≡ Ok case → read ≡ Ok case
at_end-ok None read case e = e
at_end-ok (Some at) read case e = absurd (no-ok (fault.BadToken at) case _ refl e)

either : {A : Type 0} (P : Type 0) (test : Bool) (x y : A) (value : A) → cond test x y ≡ value → (x ≡ value → P) → (y ≡ value → P) → P
either P true x y value e h k = h e
either P false x y value e h k = k e

case-even : (text : List ℕ) (stop : Option ℕ) (settings : Settings) (n : ℕ) (tokens : List Token) (case : CaseMatrices) → SetEven settings →
    case_from text stop settings n tokens ≡ Ok case → AreEven case
unfolding case_from
case-even text stop settings n [] case h e = even-set settings case h (at_end-ok stop (all_set settings) case e)
case-even text stop settings (suc n) (token ∷ tokens) case h e = case-even text stop settings n tokens case h e
case-even text stop settings zero (token ∷ tokens) case h e =
    either (AreEven case) (is_separator (word_of text token)) (case_from text stop settings 0 tokens) _ (Ok case) e
    (λ d. case-even text stop settings 0 tokens case h d)
    (λ d. let p = then-ok (statement_at text stop token tokens) _ case d in
    let q = then-ok (with_setting settings (p.0).0.field (p.0).0.rows) _ case p.2 in
    case-even text stop q.0 (length tokens - length (p.0).1) tokens case (even-setting settings q.0 (p.0).0.field (p.0).0.rows h q.1) q.2)

named-even : (text : List ℕ) (stop : Option ℕ) (line : ℕ) (tokens : List Token) (case : CaseMatrices) → named_from text stop line tokens ≡ Ok case → AreEven case
unfolding named_from
named-even text stop line [] case e = absurd (no-ok (fault.Code line) case _ refl e)
named-even text stop line (equals ∷ []) case e = absurd (no-ok (fault.Code line) case _ refl e)
named-even text stop line (equals ∷ name ∷ tokens) case e = case-even text stop no_settings 0 tokens case even-none (allowed _ (fault.Code line) case _ e)

function-even : (text : List ℕ) (stop : Option ℕ) (head : Token) (tokens : List Token) (case : CaseMatrices) → function_from text stop head tokens ≡ Ok case → AreEven case
unfolding function_from
function-even text stop head [] case e = absurd (no-ok (fault.Code head.line) case _ refl e)
function-even text stop head (next ∷ tokens) case e =
    named-even text stop head.line tokens case
    (allowed _ (fault.Code head.line) case _ (refused _ fault.VersionOne case _ (allowed _ (fault.Code head.line) case _ e)))

statements-even : (text : List ℕ) (stop : Option ℕ) (tokens : List Token) (case : CaseMatrices) → statements_from text stop tokens ≡ Ok case → AreEven case
unfolding statements_from
statements-even text stop [] case e = absurd (no-ok fault.NoVersion case _ refl (at_end-ok stop (Err fault.NoVersion) case e))
statements-even text stop (token ∷ tokens) case e =
    either (AreEven case) (is_separator (word_of text token)) (statements_from text stop tokens) _ (Ok case) e
    (λ d. statements-even text stop tokens case d) (λ d. function-even text stop token tokens case d)

pub cases_even : (bytes : List ℕ) (case : CaseMatrices) → case_of bytes ≡ Ok case → AreEven case
unfolding case_of
cases_even bytes case e = statements-even (without_mark bytes) (token_list (without_mark bytes)).fault (token_list (without_mark bytes)).tokens case e
