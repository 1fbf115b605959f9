-- What is read in one pass is the reading of the text.
use Rattle.std.specs.Prelude.{◌≡◌, ◌≤◌, ◌<◌, ℕ, ◌+◌, ◌*◌, ◌-◌, ◌^◌, ◌%◌, refl, Bool, true, List, [], ◌∷◌, ◌++◌, length, take, drop}
use Rattle.std.proofs.Common.{zero, suc, inr, arith, ap, sym, subst, ◌∙◌, get_or}
use Rattle.std.proofs.lemmas.Bool.{le-leb}
use Rattle.std.proofs.Math.Nat.{mul_assoc, mul-le-mul_right, pow-le-pow_right}
use Rattle.std.proofs.lemmas.Nat.{pow-add}
use Rattle.std.proofs.lemmas.Grind.{pow_more}
use Rattle.std.specs.Int.{IsInRange}
use Rattle.std.specs.Char.{is_ascii_digit}
use Rattle.std.specs.List.{AllPass}
use Rattle.std.specs.Str.Parse.{digits_value_after}
use Rattle.std.proofs.lemmas.List.{take_all, take_more, take-append-drop, length-append, length-take, length-drop}
use Rattle.std.proofs.lemmas.List.Elements.{All-push}
use Rattle.std.proofs.lemmas.Str.{digit_value_digit}
use Rattle.scaled_decimal.specs.Decimal.{IsSign}
use Rattle.scaled_decimal.proofs.AmountLemmas.{digits_value_after_more, digits_value_after-append}
use Rattle.scaled_decimal.specs.Plain.{IsSigned, IsPlain}

-- a first byte and what stands behind it
pub first_byte : (bytes : List ℕ) (first : ℕ) → 1 ≤ length bytes → get_or bytes 0 0 ≡ first → bytes ≡ first ∷ take (length bytes - 1) (drop 1 bytes)
first_byte [] first some is = absurd (Prim.omega arith)
first_byte (b ∷ bs) first some is = ap (λ c. c ∷ bs) is ∙ ap (λ t. first ∷ t) (sym (take_all (length (b ∷ bs) - 1) bs (Prim.omega arith)))

pub signed_by : (bytes : List ℕ) (sign : ℕ) (negative : Bool) → 1 ≤ length bytes → get_or bytes 0 0 ≡ sign → IsSign (sign ∷ []) negative
    → IsSigned bytes negative (take (length bytes - 1) (drop 1 bytes))
signed_by bytes sign negative some first signs = record { sign = sign ∷ []; signs = signs; text_is = first_byte bytes sign some first }

-- one digit more: it is one of the digits, and it is added to their number
pub digits_more : (ds : List ℕ) (i : ℕ) → i < length ds → AllPass is_ascii_digit (take i ds) → is_ascii_digit (get_or ds i 0) ≡ true → AllPass is_ascii_digit (take (i + 1) ds)
digits_more ds i h all more = subst (AllPass is_ascii_digit) (sym (take_more ds i 0 h)) (All-push (λ x. is_ascii_digit x ≡ true) (take i ds) (get_or ds i 0) all more)

pub number_more : (front : ℕ) (ds : List ℕ) (i number digit : ℕ) → i < length ds → IsInRange 48 57 (get_or ds i 0) → digit ≡ get_or ds i 0 - 48 → number ≡ digits_value_after 10 front (take i ds)
    → number * 10 + digit ≡ digits_value_after 10 front (take (i + 1) ds)
number_more front ds i number digit h range digit_is is = Prim.omega (arith, digits_value_after_more front ds i h, digit_value_digit (get_or ds i 0) range)

-- so many powers of ten, from this one on
abbrev pub powers : ℕ → ℕ → List ℕ
powers first zero = []
powers first (suc n) = first ∷ powers (first * 10) n

power_at : (first n k : ℕ) → k < n → get_or (powers first n) k 0 ≡ first * 10 ^ k
power_at first zero k h = absurd (Prim.omega arith)
power_at first (suc n) zero h = Prim.omega arith
power_at first (suc n) (suc k) h = power_at (first * 10) n k (Prim.omega arith) ∙ (mul_assoc first 10 (10 ^ k) ∙ ap (λ t. first * t) (Prim.omega (arith, pow_more 10 k)))

pub power_of_ten : (n k : ℕ) → k < n → get_or (powers 1 n) k 0 ≡ 10 ^ k
power_of_ten n k h = power_at 1 n k h ∙ Prim.omega arith

-- digits, a point and digits
plain_behind : (body part : List ℕ) (count behind first number : ℕ) → body ≡ take count body ++ 46 ∷ part → 1 < length body → behind ≡ length part
    → AllPass is_ascii_digit (take count body) → first ≡ digits_value_after 10 0 (take count body)
    → AllPass is_ascii_digit (take behind part) → number ≡ digits_value_after 10 first (take behind part) → IsPlain body number behind
plain_behind body part count behind first number text some all whole_digits first_is part_digits number_is =
    let same : take behind part ≡ part = take_all behind part (Prim.omega arith) in
    record {
      whole = take count body;
      part = part;
      mantissas = record {
        text_is = inr text;
        whole_digits = whole_digits;
        part_digits = subst (AllPass is_ascii_digit) same part_digits;
        some_digit = Prim.omega (arith, ap length text ∙ length-append (take count body) (46 ∷ part));
      };
      number_is = number_is ∙ (ap (digits_value_after 10 first) same ∙ (ap (λ n. digits_value_after 10 n part) first_is ∙ sym (digits_value_after-append 0 (take count body) part)));
      behind_is = all;
    }

-- what stands behind the first digits, and behind a point there
abbrev pub rest_of : ℕ → List ℕ → List ℕ
rest_of count body = take (length body - count) (drop count body)

abbrev pub part_of : ℕ → List ℕ → List ℕ
part_of count body = take (length (rest_of count body) - 1) (drop 1 (rest_of count body))

rest_is : (count : ℕ) (body : List ℕ) → rest_of count body ≡ drop count body
rest_is count body = take_all (length body - count) (drop count body) (Prim.omega (arith, length-drop count body))

part_length : (count : ℕ) (body : List ℕ) → length (part_of count body) ≤ length body - count
part_length count body = Prim.omega (arith, length-take (length (rest_of count body) - 1) (drop 1 (rest_of count body)), length-take (length body - count) (drop count body))

-- the number before a point leaves room for the digits behind it
pub room_behind : (body : List ℕ) (count first : ℕ) → length body ≤ 19 → first < 10 ^ (19 - length body + count) → count ≤ length body → first < 10 ^ (19 - length (part_of count body))
room_behind body count first short low within =
    let more : 19 - length body + count ≤ 19 - length (part_of count body) = Prim.omega (arith, part_length count body) in
    let most : 10 ^ (19 - length body + count) ≤ 10 ^ (19 - length (part_of count body)) = pow-le-pow_right (Prim.omega arith) more in
    Prim.omega arith

pub plain_point : (body : List ℕ) (count behind first number : ℕ) → 1 ≤ length (rest_of count body) → get_or (rest_of count body) 0 0 ≡ 46 → 1 < length body → behind ≡ length (part_of count body)
    → AllPass is_ascii_digit (take count body) → first ≡ digits_value_after 10 0 (take count body)
    → AllPass is_ascii_digit (take behind (part_of count body)) → number ≡ digits_value_after 10 first (take behind (part_of count body)) → IsPlain body number behind
plain_point body count behind first number some point =
    let text : body ≡ take count body ++ 46 ∷ part_of count body =
    sym (take-append-drop count body) ∙ ap (λ t. take count body ++ t) (sym (rest_is count body) ∙ first_byte (rest_of count body) 46 some point) in
    plain_behind body (part_of count body) count behind first number text

-- one digit more, of any number of digits
pub size_more : (k count number digit : ℕ) → digit < 10 → number < 10 ^ (k + count) → number * 10 + digit < 10 ^ (k + (count + 1))
size_more k count number digit below low =
    let more : 10 ^ (k + (count + 1)) ≡ 10 ^ (k + count) * 10 = ap (λ n. 10 ^ n) (Prim.omega arith) ∙ pow_more 10 (k + count) in
    Prim.omega (arith, more, low, below)

-- a number of few digits with powers of ten behind it is in range
pub raised_fits : (number tens : ℕ) → tens ≤ 18 → number < 10 ^ (18 - tens) → number * 10 ^ tens < 2 ^ 63
raised_fits number tens within few =
    let together : 18 - tens + tens ≡ 18 = Prim.omega arith in
    let all : 10 ^ (18 - tens) * 10 ^ tens ≡ 10 ^ 18 = sym (pow-add 10 (18 - tens) tens) ∙ ap (λ (n : ℕ). 10 ^ n) together in
    let below : number ≤ 10 ^ (18 - tens) = Prim.omega (arith, few) in
    let less : number * 10 ^ tens ≤ 10 ^ (18 - tens) * 10 ^ tens = mul-le-mul_right (10 ^ tens) below in
    Prim.omega (arith, all, less)

-- so many digits leave room for the powers of ten behind them
pub few_digits : (number whole behind places : ℕ) → number < 10 ^ (whole + behind) → behind ≤ places → whole ≤ 18 - places → places ≤ 18 → number < 10 ^ (18 - (places - behind))
few_digits number whole behind places low within few most =
    let room : whole + behind ≤ 18 - (places - behind) = Prim.omega arith in
    let more : 10 ^ (whole + behind) ≤ 10 ^ (18 - (places - behind)) = pow-le-pow_right (Prim.omega arith) room in
    Prim.omega (arith, low, more)

-- a byte that is at most 9 above the code of 0, where bytes before it wrap round
pub digit_code : (byte digit : ℕ) → byte < 2 ^ 64 → digit ≡ (byte + (2 ^ 64 - 48)) % 2 ^ 64 → digit ≤ 9 → IsInRange 48 57 byte × (digit ≡ byte - 48)
digit_code byte digit fits is below = ((Prim.omega arith, Prim.omega arith), Prim.omega arith)

pub digit_in_range : (byte : ℕ) → IsInRange 48 57 byte → is_ascii_digit byte ≡ true
digit_in_range byte range = Prim.rw (le-leb 48 byte range.0, le-leb byte 57 range.1) refl
