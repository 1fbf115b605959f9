-- The text of a value without floats is UTF-8, and reads as the value.
use Rattle.std.specs.Prelude.{◌≡◌, ℕ, ◌<◌, ◌≤◌, ◌^◌, List, [], ◌∷◌, ◌++◌, Bool, true, false, Option, Some, option_and_then, IsUtf8, ℤ, pos, negsuc, unsigned_abs, Result, Ok, Err, MatchResult, IsOk}
use Rattle.std.specs.List.{AllByRecursion}
use Rattle.std.specs.Str.{IsAscii}
use Rattle.std.proofs.Common.{zero, suc, arith, ap, sym, ◌∙◌, subst, refl, append-nil}
use Rattle.std.proofs.lemmas.Str.{IsUtf8-append, IsUtf8-from_ascii}
use Rattle.json.specs.Json as json
use Rattle.json.specs.Lex.{tokens}
use Rattle.json.specs.Print.{quoted}
use Rattle.json.specs.Tree as tree
use Rattle.json.specs.Token.{Token}
use Rattle.json.proofs.Printed.Decimals.{IsNumber-decimal}
use Rattle.json.proofs.Printed.Tokens.{tokens-print}
use Rattle.json.proofs.Printed.Trees.{ArePrintable-json_tokens, value-json_tokens}
use Rattle.json.proofs.Printed.Utf8.{IsUtf8-quoted}
use Rattle.serde_json.specs.Data.{Data, null, boolean, number, string, array, object, Items, no_items, item, Members, no_members, member, Num, unsigned, negative, float}
use Rattle.serde_json.specs.Read.{max_depth, of_json, read}
use Rattle.serde_json.specs.Written.{comma_if, compact_text, items_outline, items_text, members_outline, members_text, outline}
use Rattle.serde_json.specs.Written as serde
use Rattle.serde_json.proofs.Texts.{print-outline}
use Rattle.exact_fraction.specs.Written.{number_text, parts_text, sign_text}
use Rattle.exact_fraction.proofs.Digits.{decimal_short}
use Rattle.fraction_theory.specs.Fraction.{Fraction}
use Rattle.cert_format.proofs.FractionLemmas.{OnlyDigits, OnlyDigits-number_text}

-- ---- bytes below 128
IsAscii-from_recursion : (cs : List ℕ) → AllByRecursion (λ c. c < 128) cs → IsAscii cs
IsAscii-from_recursion [] h i = omega arith
IsAscii-from_recursion (c ∷ cs) h zero = h.0
IsAscii-from_recursion (c ∷ cs) h (suc i) = IsAscii-from_recursion cs h.1 i

utf8 : (cs : List ℕ) → AllByRecursion (λ c. c < 128) cs → IsUtf8 cs
utf8 cs h = IsUtf8-from_ascii cs (IsAscii-from_recursion cs h)

ascii-digits : (cs : List ℕ) → OnlyDigits cs → AllByRecursion (λ c. c < 128) cs
ascii-digits [] h = tt
ascii-digits (c ∷ cs) h = (omega (arith, h.0), ascii-digits cs h.1)

utf8-number_text : (n : ℕ) → IsUtf8 (number_text n)
utf8-number_text n = utf8 (number_text n) (ascii-digits (number_text n) (OnlyDigits-number_text n))

utf8-sign : (z : ℤ) → IsUtf8 (sign_text z)
utf8-sign (pos n) = utf8 [] tt
utf8-sign (negsuc n) = utf8 (45 ∷ []) (omega arith, tt)

pub utf8-parts_text : (x : Fraction) → IsUtf8 (parts_text x)
unfolding parts_text
utf8-parts_text x =
    IsUtf8-append (sign_text x.num ++ number_text (unsigned_abs x.num)) (47 ∷ number_text x.den)
    (IsUtf8-append (sign_text x.num) (number_text (unsigned_abs x.num)) (utf8-sign x.num) (utf8-number_text (unsigned_abs x.num)))
    (IsUtf8-append (47 ∷ []) (number_text x.den) (utf8 (47 ∷ []) (omega arith, tt)) (utf8-number_text x.den))

-- ---- values of texts and whole numbers
abbrev pub IsPlainNumber : Num → Type 0
IsPlainNumber (unsigned n) = n < 2 ^ 64
IsPlainNumber (negative z) = ⊥
IsPlainNumber (float x) = ⊥

-- a value of lists, objects, texts in UTF-8 and whole numbers of 64 bits
abbrev mutual
  pub IsPlain : Data → Type 0
  IsPlain null = ⊥
  IsPlain (boolean b) = ⊥
  IsPlain (number n) = IsPlainNumber n
  IsPlain (string s) = IsUtf8 s
  IsPlain (array ds) = ItemsArePlain ds
  IsPlain (object ms) = MembersArePlain ms

  pub ItemsArePlain : Items → Type 0
  ItemsArePlain no_items = Unit {0}
  ItemsArePlain (item d ds) = IsPlain d × ItemsArePlain ds

  pub MembersArePlain : Members → Type 0
  MembersArePlain no_members = Unit {0}
  MembersArePlain (member k d ms) = IsUtf8 k × IsPlain d × MembersArePlain ms

-- its text is UTF-8
utf8-number : (n : Num) → IsPlainNumber n → IsUtf8 (serde.number_text n)
utf8-number (unsigned n) h = subst IsUtf8 (sym (decimal_short n (omega (arith, h)))) (utf8-number_text n)
utf8-number (negative z) h = absurd h
utf8-number (float x) h = absurd h

utf8-comma : (b : Bool) → IsUtf8 (comma_if b)
utf8-comma true = utf8 (44 ∷ []) (omega arith, tt)
utf8-comma false = utf8 [] tt

mutual
  pub utf8-data : (d : Data) → IsPlain d → IsUtf8 (compact_text d)
  utf8-data null h = absurd h
  utf8-data (boolean b) h = absurd h
  utf8-data (number n) h = utf8-number n h
  utf8-data (string s) h = IsUtf8-quoted s h
  utf8-data (array ds) h = IsUtf8-append (91 ∷ []) (items_text false ds) (utf8 (91 ∷ []) (omega arith, tt)) (utf8-items false ds h)
  utf8-data (object ms) h = IsUtf8-append (123 ∷ []) (members_text false ms) (utf8 (123 ∷ []) (omega arith, tt)) (utf8-members false ms h)

  utf8-items : (later : Bool) (ds : Items) → ItemsArePlain ds → IsUtf8 (items_text later ds)
  utf8-items later no_items h = utf8 (93 ∷ []) (omega arith, tt)
  utf8-items later (item d ds) h = IsUtf8-append (comma_if later) (compact_text d ++ items_text true ds) (utf8-comma later) (IsUtf8-append (compact_text d) (items_text true ds) (utf8-data d h.0) (utf8-items true ds h.1))

  utf8-members : (later : Bool) (ms : Members) → MembersArePlain ms → IsUtf8 (members_text later ms)
  utf8-members later no_members h = utf8 (125 ∷ []) (omega arith, tt)
  utf8-members later (member k d ms) h =
      IsUtf8-append (comma_if later) (quoted k ++ 58 ∷ (compact_text d ++ members_text true ms)) (utf8-comma later)
      (IsUtf8-append (quoted k) (58 ∷ (compact_text d ++ members_text true ms)) (IsUtf8-quoted k h.0)
      (IsUtf8-append (58 ∷ []) (compact_text d ++ members_text true ms) (utf8 (58 ∷ []) (omega arith, tt))
      (IsUtf8-append (compact_text d) (members_text true ms) (utf8-data d h.1) (utf8-members true ms h.2))))

-- its numbers are numbers of JSON
mutual
  numbers : (d : Data) → IsPlain d → tree.HasNumbers (outline d)
  numbers null h = tt
  numbers (boolean b) h = tt
  numbers (number (unsigned n)) h = IsNumber-decimal n h
  numbers (number (negative z)) h = absurd h
  numbers (number (float x)) h = absurd h
  numbers (string s) h = tt
  numbers (array ds) h = numbers-items ds h
  numbers (object ms) h = numbers-members ms h

  numbers-items : (ds : Items) → ItemsArePlain ds → tree.ItemsHaveNumbers (items_outline ds)
  numbers-items no_items h = tt
  numbers-items (item d ds) h = (numbers d h.0, numbers-items ds h.1)

  numbers-members : (ms : Members) → MembersArePlain ms → tree.MembersHaveNumbers (members_outline ms)
  numbers-members no_members h = tt
  numbers-members (member k d ms) h = (numbers d h.1, numbers-members ms h.2)

-- what JSON there is of a text
abbrev whole : Option (json.Json × List Token) → Option Data
whole o = option_and_then of_json (option_and_then (λ p. json.if_last p.0 p.1) o)

-- a text reads as the value that it was written for, if that nests no deeper than is read, and its outline gives it again
pub read-compact_text : (d : Data) → IsPlain d → tree.depth (outline d) ≤ max_depth → of_json (outline d) ≡ Some d → read (compact_text d) ≡ Some d
read-compact_text d plain shallow again =
    let text : tokens (compact_text d) ≡ tree.json_tokens (outline d) = ap tokens (sym (print-outline d)) ∙ tokens-print (tree.json_tokens (outline d)) (ArePrintable-json_tokens (outline d) (numbers d plain)) in
    ap (λ ts. whole (json.value max_depth ts)) (text ∙ sym (append-nil (tree.json_tokens (outline d))))
    ∙ ap whole (value-json_tokens (outline d) max_depth [] shallow) ∙ again

-- bytes that are UTF-8 are taken as a text
pub is_ok : {T E P : Type 0} (r : Result T E) (Q : T → Type 0) (R : E → Type 0) → P → MatchResult r Q (λ e. ¬ P × R e) → IsOk r
is_ok (Ok x) Q R p h = refl
is_ok (Err e) Q R p h = absurd (h.0 p)
