-- The words of `make` that the command takes give one of the sizes, and the text of a seed.
use Rattle.std.proofs.Common.{◌≡◌, ◌⊎◌, ◌∙◌, ◌≤◌, ◌<◌, ◌&&◌, ◌||◌, refl, sym, ap, subst, arith, ℕ, ℤ, zero, suc, Bool, true, false, List, [], ◌∷◌, length, nat_lt, codes, Option, Some, None, inl, inr, ltb-true, drop, cond, ◌==◌}
use Rattle.std.specs.Prelude.{if◌then◌else◌, pos, neg_ℤ, int_le, unwrap_or}
use Rattle.std.specs.Char.{digit_value}
use Rattle.std.specs.List.{list_all}
use Rattle.std.specs.Option.{option_map_or}
use Rattle.std.specs.Str.{bytes_eq}
use Rattle.std.specs.Str.Parse.{AllDigits, IsNumeral, digits_value, without_leading_plus}
use Rattle.std.proofs.lemmas.Bool.{eqb-true, leb-true}
use Rattle.std.proofs.lemmas.Slice.Eq.{bytes_eq-Decides}
use Rattle.clap.specs.Lexer.{without_minus}
use Rattle.clap.specs.ValueTests.{accepts, fits_i64, is_numeral, is_signed_in}
use Rattle.clap.specs.Walk.{Row, Text}
use Rattle.clap.specs.Words.{one_of, read_as}
use Rattle.clap.specs.declared.builder.value_parser.Reading.{Reading}
use Rattle.clap.specs.declared.builder.value_parser.Reading.TheVariants as reading
use Rattle.clap.specs.declared.builder.value_parser.ValueParser.TheVariants.{Names}
use Rattle.clap.proofs.WalkLemmas.{both}
use Rattle.command_words.specs.Words.{AsksMake, Enters, ReadsSeed, Writes, size_named, size_of, size_words, spelled}
use Rattle.command_words.proofs.EnteredLemmas.{make_rules, seed-given, size-given}
use Rattle.command_words.proofs.GivenLemmas.{IsReadSo, Passes}
use Rattle.command_words.proofs.WordsLemmas.{names-apart}
use Rattle.market_data.specs.Scales.{IsRingSize}

-- ---- the size

size-passes : (text : Text) → Passes make_rules (codes "N") text → accepts false (Names (spelled size_words)) text ≡ true
size-passes text (inl h) = h.1
size-passes text (inr (inl h)) = absurd (names-apart (codes "SEED") (codes "N") refl h.0)
size-passes text (inr (inr (inl h))) = absurd (names-apart (codes "help") (codes "N") refl h.0)
size-passes text (inr (inr (inr none))) = absurd none

either : (a b : Bool) → (a || b) ≡ true → (a ≡ true) ⊎ (b ≡ true)
either true b h = inl refl
either false b h = inr h

abbrev Sized : Text → Type 0
Sized text = Writes text (size_named text)

same-sized : (word text : Text) → bytes_eq word text ≡ true → Sized word → Sized text
same-sized word text same sized = subst Sized ((bytes_eq-Decides word text).0 same) sized

size-writes : (text : Text) → accepts false (Names (spelled size_words)) text ≡ true → Sized text
size-writes text h =
    let four = either (bytes_eq (codes "4") text) _ h in
    elim four [
      | inl same ↦ same-sized (codes "4") text same ((some 1 refl, (digit 52 refl, tt)), refl)
      | inr h ↦ elim (either (bytes_eq (codes "8") text) _ h) [
        | inl same ↦ same-sized (codes "8") text same ((some 1 refl, (digit 56 refl, tt)), refl)
        | inr h ↦ elim (either (bytes_eq (codes "16") text) _ h) [
          | inl same ↦ same-sized (codes "16") text same ((some 2 refl, (digit 49 refl, (digit 54 refl, tt))), refl)
          | inr h ↦ elim (either (bytes_eq (codes "32") text) _ h) [
            | inl same ↦ same-sized (codes "32") text same ((some 2 refl, (digit 51 refl, (digit 50 refl, tt))), refl)
            | inr h ↦ elim (either (bytes_eq (codes "64") text) _ h) [
              | inl same ↦ same-sized (codes "64") text same ((some 2 refl, (digit 54 refl, (digit 52 refl, tt))), refl)
              | inr h ↦ let bad : false ≡ true = h in cc bad
            ]
          ]
        ]
      ]
    ]
  where
    some : (n : ℕ) → nat_lt 0 n ≡ true → 0 < n
    some n h = ltb-true 0 n h

    digit : (c : ℕ) → nat_lt (digit_value c) 10 ≡ true → digit_value c < 10
    digit c h = ltb-true (digit_value c) 10 h

-- ---- the seed

seed-passes : (text : Text) → Passes make_rules (codes "SEED") text → is_signed_in (pos 0) (pos 4294967295) text ≡ true
seed-passes text (inl h) = absurd (names-apart (codes "N") (codes "SEED") refl h.0)
seed-passes text (inr (inl h)) = h.1
seed-passes text (inr (inr (inl h))) = absurd (names-apart (codes "help") (codes "SEED") refl h.0)
seed-passes text (inr (inr (inr none))) = absurd none

seed-read-so : (how : Reading) → IsReadSo make_rules (codes "SEED") how → how ≡ reading.WithoutMinus
seed-read-so how (inl h) = absurd (names-apart (codes "N") (codes "SEED") refl h.0)
seed-read-so how (inr (inl h)) = sym h.1
seed-read-so how (inr (inr (inl h))) = absurd (names-apart (codes "help") (codes "SEED") refl h.0)
seed-read-so how (inr (inr (inr none))) = absurd none

digits-are : (digits : Text) → list_all (λ d. nat_lt (digit_value d) 10) digits ≡ true → AllDigits 10 digits
digits-are [] pass = tt
digits-are (d ∷ ds) pass =
    let parts = both _ _ pass in
    (ltb-true _ _ parts.0, digits-are ds parts.1)

numeral-is : (digits : Text) → is_numeral digits ≡ true → IsNumeral 10 digits
numeral-is digits h =
    let parts = both (nat_lt 0 (length digits)) _ h in
    (ltb-true 0 (length digits) parts.0, digits-are digits parts.1)

-- a number of 32 bits that a text writes
abbrev Seeded : Text → Type 0
Seeded text = (n : ℕ) × Writes text n × (n ≤ 4294967295)

-- digits have no plus before them
no-plus : (digits : Text) → is_numeral digits ≡ true → without_leading_plus digits ≡ digits
no-plus [] h = refl
no-plus (d ∷ ds) h = go (d == 43) refl
  where
    go : (b : Bool) → (d == 43) ≡ b → drop (cond b 1 0) (d ∷ ds) ≡ d ∷ ds
    go false is = refl
    go true is =
        let all = (both (nat_lt 0 (length (d ∷ ds))) _ h).1 in
        let first = (both (nat_lt (digit_value d) 10) _ all).0 in
        let bad : false ≡ true = subst (λ (c : ℕ). nat_lt (digit_value c) 10 ≡ true) (eqb-true d 43 is) first in
        cc bad

-- the number that is not below 0 behind a minus
zero-below : (n : ℕ) → int_le (pos 0) (neg_ℤ (pos n)) ≡ true → n ≤ 4294967295
zero-below zero h = omega arith
zero-below (suc n) h = cc h

-- the tests of a text by its value
abbrev InSeeds : ℤ → Text → Bool
InSeeds z digits = is_numeral digits && (fits_i64 z && (int_le (pos 0) z && int_le z (pos 4294967295)))

seed-writes : (text : Text) → is_signed_in (pos 0) (pos 4294967295) text ≡ true → Seeded (without_minus text)
seed-writes [] h = cc h
seed-writes (x ∷ xs) h = go (x == 45) refl h
  where
    go : (b : Bool) → (x == 45) ≡ b
        → InSeeds (cond b (neg_ℤ (pos (digits_value 10 (cond b xs (without_leading_plus (x ∷ xs)))))) (pos (digits_value 10 (cond b xs (without_leading_plus (x ∷ xs))))))
        (cond b xs (without_leading_plus (x ∷ xs))) ≡ true
        → Seeded (unwrap_or (if b then Some xs else None) (x ∷ xs))
    go true is h =
        let numeral = both (is_numeral xs) _ h in
        let z : ℤ = neg_ℤ (pos (digits_value 10 xs)) in
        let low = (both (int_le (pos 0) z) _ (both (fits_i64 z) _ numeral.1).1).0 in
        let same = no-plus xs numeral.0 in (
          digits_value 10 xs,
          subst (λ (ds : Text). IsNumeral 10 ds × (digits_value 10 xs ≡ digits_value 10 ds)) (sym same) (numeral-is xs numeral.0, refl),
          zero-below (digits_value 10 xs) low,
        )
    go false is h =
        let digits : Text = without_leading_plus (x ∷ xs) in
        let numeral = both (is_numeral digits) _ h in
        let z : ℤ = pos (digits_value 10 digits) in
        let high = (both (int_le (pos 0) z) _ (both (fits_i64 z) _ numeral.1).1).1 in
        (digits_value 10 digits, (numeral-is digits numeral.0, refl), leb-true (digits_value 10 digits) 4294967295 high)

-- what is read of the words is what they ask for
pub asks-ring : (words : List Text) (rows : List Row) (buses seed : ℕ) → Enters words (codes "make") rows → buses ≡ size_of rows → ReadsSeed rows seed
    → IsRingSize buses → AsksMake words buses seed
asks-ring words rows buses seed enters sized reads ring =
    let size = size-given words rows enters in
    let given = seed-given words rows enters in
    let one : one_of (codes "SEED") rows ≡ Some (without_minus given.text) =
    given.one ∙ ap (λ (how : Reading). Some (read_as how given.text)) (seed-read-so given.how given.read_so) in
    let written = seed-writes given.text (seed-passes given.text given.passes) in
    let named : buses ≡ size_named size.text = sized ∙ ap (λ (o : Option Text). option_map_or size_named o 4) size.first in
    let is : seed ≡ written.0 = reads (without_minus given.text) written.0 one written.1 written.2 in
    record {
      rows = rows;
      enters = enters;
      size_text = size.text;
      size_given = size.first;
      size_written = subst (Writes size.text) (sym named) (size-writes size.text (size-passes size.text size.passes));
      seed_text = without_minus given.text;
      seed_given = one;
      seed_written = subst (Writes (without_minus given.text)) (sym is) written.1;
      is_size = ring;
      is_small = subst (λ (n : ℕ). n ≤ 4294967295) (sym is) written.2;
    }
