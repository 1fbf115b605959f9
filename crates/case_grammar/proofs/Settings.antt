-- What statements set, field by field.
use Rattle.std.proofs.Common.{◌≡◌, ℕ, ◌+◌, ◌==◌, Bool, true, false, List, [], ◌∷◌, ◌++◌, length, refl, sym, ap, ◌∙◌, arith, Option, Some, None, Ok, Err, cond, codes, append-nil, eq-eqb}
use Rattle.std.specs.Prelude.{is_some, nat_lt}
use Rattle.std.specs.List.{AllByRecursion}
use Rattle.std.specs.Option.{option_map_or}
use Rattle.std.specs.Str.{bytes_eq}
use Rattle.std.proofs.lemmas.Bool.{cond-true, cond-false, le-ltb, false≢true}
use Rattle.std.proofs.lemmas.List.Elements.{recursion_from_All}
use Rattle.std.proofs.lemmas.Slice.Eq.{bytes_eq-Decides}
use Rattle.record_reading.specs.Records.{Record, first_ragged}
use Rattle.case_text.specs.declared.CaseFault.{CaseFault}
use Rattle.case_text.specs.declared.CaseFault.TheVariants as fault
use Rattle.case_text.specs.declared.Field.{Field}
use Rattle.case_text.specs.declared.Field.TheVariants as field
use Rattle.case_text.specs.Names.{field_of}
use Rattle.case_text.specs.Matrices.{CaseMatrices, matrix_of, IsEven, least_columns}
use Rattle.case_text.specs.Settings.{Settings, no_settings, is_set, with_field, uneven, with_setting, matrices, all_set}
use Rattle.case_grammar.specs.Statements.{name_of}

-- ---- fields by their names
abbrev pub full_name : Field → List ℕ
full_name f = codes "mpc." ++ name_of f

abbrev pub same_field : Field → Field → Bool
same_field field.Version field.Version = true
same_field field.BaseMva field.BaseMva = true
same_field field.Bus field.Bus = true
same_field field.Gen field.Gen = true
same_field field.Branch field.Branch = true
same_field _ _ = false

abbrev pub is_that : Option Field → Field → Bool
is_that None f = false
is_that (Some g) f = same_field g f

same-names : (g f : Field) → bytes_eq (full_name g) (full_name f) ≡ same_field g f
same-names field.Version field.Version = refl
same-names field.BaseMva field.BaseMva = refl
same-names field.Bus field.Bus = refl
same-names field.Gen field.Gen = refl
same-names field.Branch field.Branch = refl
same-names _ _ = refl

named : (text : List ℕ) (g : Field) → bytes_eq text (full_name g) ≡ true → (f : Field) → bytes_eq text (full_name f) ≡ same_field g f
named text g h f = ap (λ xs. bytes_eq xs (full_name f)) ((bytes_eq-Decides text (full_name g)).0 h) ∙ same-names g f

-- which field a target sets
pub field-is : (text : List ℕ) (o : Option Field) → field_of text ≡ o → (f : Field) → bytes_eq text (full_name f) ≡ is_that o f
unfolding field_of
field-is text o e f =
    by_tests (bytes_eq text (full_name field.Version)) (bytes_eq text (full_name field.BaseMva)) (bytes_eq text (full_name field.Bus)) (bytes_eq text (full_name field.Gen))
    (bytes_eq text (full_name field.Branch)) refl refl refl refl refl e f where
      by_tests : (a b c d e : Bool) → bytes_eq text (full_name field.Version) ≡ a → bytes_eq text (full_name field.BaseMva) ≡ b → bytes_eq text (full_name field.Bus) ≡ c →
          bytes_eq text (full_name field.Gen) ≡ d → bytes_eq text (full_name field.Branch) ≡ e →
          cond a (Some field.Version) (cond b (Some field.BaseMva) (cond c (Some field.Bus) (cond d (Some field.Gen) (cond e (Some field.Branch) None)))) ≡ o →
          (f : Field) → bytes_eq text (full_name f) ≡ is_that o f
      by_tests true b c d e ha hb hc hd he is f = named text field.Version ha f ∙ ap (λ (x : Option Field). is_that x f) is
      by_tests false true c d e ha hb hc hd he is f = named text field.BaseMva hb f ∙ ap (λ (x : Option Field). is_that x f) is
      by_tests false false true d e ha hb hc hd he is f = named text field.Bus hc f ∙ ap (λ (x : Option Field). is_that x f) is
      by_tests false false false true e ha hb hc hd he is f = named text field.Gen hd f ∙ ap (λ (x : Option Field). is_that x f) is
      by_tests false false false false true ha hb hc hd he is f = named text field.Branch he f ∙ ap (λ (x : Option Field). is_that x f) is
      by_tests false false false false false ha hb hc hd he is field.Version = ha ∙ ap (λ (x : Option Field). is_that x field.Version) is
      by_tests false false false false false ha hb hc hd he is field.BaseMva = hb ∙ ap (λ (x : Option Field). is_that x field.BaseMva) is
      by_tests false false false false false ha hb hc hd he is field.Bus = hc ∙ ap (λ (x : Option Field). is_that x field.Bus) is
      by_tests false false false false false ha hb hc hd he is field.Gen = hd ∙ ap (λ (x : Option Field). is_that x field.Gen) is
      by_tests false false false false false ha hb hc hd he is field.Branch = he ∙ ap (λ (x : Option Field). is_that x field.Branch) is

-- ---- what a field is set to so far
abbrev pub set_once : Bool → List (List Record)
set_once true = [] ∷ []
set_once false = []

abbrev pub set_to : Option (List Record) → List (List Record)
set_to None = []
set_to (Some rows) = rows ∷ []

abbrev pub told : Settings → Field → List (List Record)
told settings field.Version = set_once settings.version
told settings field.BaseMva = set_once settings.base
told settings field.Bus = set_to settings.bus
told settings field.Gen = set_to settings.generators
told settings field.Branch = set_to settings.branch

pub told-none : (f : Field) → told no_settings f ≡ []
told-none field.Version = refl
told-none field.BaseMva = refl
told-none field.Bus = refl
told-none field.Gen = refl
told-none field.Branch = refl

unset-once : (b : Bool) → set_once b ≡ [] → b ≡ false
unset-once true e = absurd (Prim.cc)
unset-once false e = refl

unset-to : (o : Option (List Record)) → set_to o ≡ [] → is_some o ≡ false
unset-to None e = refl
unset-to (Some rows) e = absurd (Prim.cc)

pub unset : (settings : Settings) (f : Field) → told settings f ≡ [] → is_set settings f ≡ false
unset settings field.Version e = unset-once settings.version e
unset settings field.BaseMva e = unset-once settings.base e
unset settings field.Bus e = unset-to settings.bus e
unset settings field.Gen e = unset-to settings.generators e
unset settings field.Branch e = unset-to settings.branch e

once-unset : (b : Bool) → b ≡ false → set_once b ≡ []
once-unset true e = absurd (false≢true (sym e))
once-unset false e = refl

to-unset : (o : Option (List Record)) → is_some o ≡ false → set_to o ≡ []
to-unset None e = refl
to-unset (Some rows) e = absurd (false≢true (sym e))

pub told-unset : (settings : Settings) (f : Field) → is_set settings f ≡ false → told settings f ≡ []
told-unset settings field.Version e = once-unset settings.version e
told-unset settings field.BaseMva e = once-unset settings.base e
told-unset settings field.Bus e = to-unset settings.bus e
told-unset settings field.Gen e = to-unset settings.generators e
told-unset settings field.Branch e = to-unset settings.branch e

-- the version and the base have no rows
abbrev pub FitsField : Field → List Record → Type 0
FitsField field.Version rows = rows ≡ []
FitsField field.BaseMva rows = rows ≡ []
FitsField field.Bus rows = IsEven (least_columns field.Bus) rows
FitsField field.Gen rows = IsEven (least_columns field.Gen) rows
FitsField field.Branch rows = IsEven (least_columns field.Branch) rows

first-told : (before : List (List Record)) (rows : List Record) → before ≡ [] → rows ∷ [] ≡ before ++ rows ∷ []
first-told before rows e = ap (λ xs. xs ++ rows ∷ []) (sym e)

pub told-next : (settings : Settings) (g : Field) (rows : List Record) (f : Field) → FitsField g rows → told settings g ≡ [] →
    told (with_field settings g rows) f ≡ told settings f ++ cond (same_field g f) (rows ∷ []) []
told-next settings field.Version rows field.Version fits none = ap (λ r. r ∷ []) (sym fits) ∙ first-told (told settings field.Version) rows none
told-next settings field.BaseMva rows field.BaseMva fits none = ap (λ r. r ∷ []) (sym fits) ∙ first-told (told settings field.BaseMva) rows none
told-next settings field.Bus rows field.Bus fits none = first-told (told settings field.Bus) rows none
told-next settings field.Gen rows field.Gen fits none = first-told (told settings field.Gen) rows none
told-next settings field.Branch rows field.Branch fits none = first-told (told settings field.Branch) rows none
told-next settings g rows f fits none = sym (append-nil (told settings f))

-- ---- rows that are even have no fault
ragged-none : (width number : ℕ) (rows : List Record) → AllByRecursion (λ row. length row ≡ width) rows → first_ragged width number rows ≡ None
unfolding first_ragged
ragged-none width number [] h = refl
ragged-none width number (row ∷ rows) h = cond-true (length row == width) _ _ (eq-eqb (length row) width h.0) ∙ ragged-none width (number + 1) rows h.1

even-none : (f : Field) (rows : List Record) → IsEven (least_columns f) rows → uneven f rows ≡ None
unfolding uneven
even-none f [] h = refl
even-none f (row ∷ rows) h =
    ap (λ (o : Option ℕ). option_map_or (λ number. Some (fault.Ragged f number)) o (cond (nat_lt (length row) (least_columns f)) (Some (fault.Narrow f)) None))
    (ragged-none (length row) 1 (row ∷ rows) (recursion_from_All (λ r. length r ≡ length row) (row ∷ rows) h.alike))
    ∙ cond-false (nat_lt (length row) (least_columns f)) _ _ (le-ltb (length row) (least_columns f) (h.wide (Prim.omega arith)))

fits-none : (f : Field) (rows : List Record) → FitsField f rows → uneven f rows ≡ None
unfolding uneven
fits-none field.Version rows h = ap (uneven field.Version) h
fits-none field.BaseMva rows h = ap (uneven field.BaseMva) h
fits-none field.Bus rows h = even-none field.Bus rows h
fits-none field.Gen rows h = even-none field.Gen rows h
fits-none field.Branch rows h = even-none field.Branch rows h

pub setting-next : (settings : Settings) (f : Field) (rows : List Record) → FitsField f rows → told settings f ≡ [] → with_setting settings (Some f) rows ≡ Ok (with_field settings f rows)
unfolding with_setting
setting-next settings f rows fits none =
    cond-false (is_set settings f) _ _ (unset settings f none) ∙ ap (λ (why : Option CaseFault). option_map_or (λ e. Err e) why (Ok (with_field settings f rows))) (fits-none f rows fits)

pub setting-other : (settings : Settings) (rows : List Record) → with_setting settings None rows ≡ Ok settings
unfolding with_setting
setting-other settings rows = refl

-- ---- all are set
once-true : (b : Bool) (rows : List Record) → set_once b ≡ rows ∷ [] → b ≡ true
once-true true rows e = refl
once-true false rows e = absurd (Prim.cc)

to-some : (o : Option (List Record)) (rows : List Record) → set_to o ≡ rows ∷ [] → o ≡ Some rows
to-some None rows e = absurd (Prim.cc)
to-some (Some r) rows e = Prim.cc

pub all-told : (settings : Settings) (case : CaseMatrices) → ((f : Field) → told settings f ≡ matrix_of case f ∷ []) → all_set settings ≡ Ok case
unfolding all_set matrices
all-told settings case h =
    cond-true settings.version _ _ (once-true settings.version [] (h field.Version))
    ∙ cond-true settings.base _ _ (once-true settings.base [] (h field.BaseMva))
    ∙ ap (λ o. matrices o settings.generators settings.branch) (to-some settings.bus case.bus (h field.Bus))
    ∙ ap (λ o. matrices (Some case.bus) o settings.branch) (to-some settings.generators case.generators (h field.Gen))
    ∙ ap (λ o. matrices (Some case.bus) (Some case.generators) o) (to-some settings.branch case.branch (h field.Branch))
