-- Fractions in the text of a certificate.
use Rattle.std.specs.Prelude.{◌≡◌, ℕ, ◌≤◌, List, [], ◌∷◌, map, true, false, All, Some, IsUtf8}
use Rattle.std.proofs.Common.{suc, arith, refl}
use Rattle.fraction_theory.specs.Fraction.{Fraction}
use Rattle.exact_fraction.specs.Written.{parts_text}
use Rattle.json.specs.Tree as tree
use Rattle.json.proofs.Printed.Utf8.{IsUtf8-are_ascii, are_ascii}
use Rattle.serde_json.specs.Read.{of_items}
use Rattle.serde_json.specs.View.{items_of}
use Rattle.serde_json.specs.Written.{items_have_float, items_outline}
use Rattle.cert_format.specs.Certificates.{Fits}
use Rattle.cert_format.specs.FractionTexts.{fraction_of_text}
use Rattle.cert_format.specs.Grammar.{each, fraction_in}
use Rattle.cert_format.specs.Written.{fraction_data}
use Rattle.cert_format.proofs.FractionLemmas.{fraction_of_text-read}
use Rattle.cert_format.proofs.TextLemmas.{ItemsArePlain, utf8-parts_text}

pub key_utf8 : (cs : List ℕ) → are_ascii cs ≡ true → IsUtf8 cs
key_utf8 cs h = IsUtf8-are_ascii cs h

-- ---- what is written of them has no floats, and texts in UTF-8
pub plain-fractions : (xs : List Fraction) → ItemsArePlain (items_of (map fraction_data xs))
plain-fractions [] = tt
plain-fractions (x ∷ xs) = (utf8-parts_text x, plain-fractions xs)

pub float-fractions : (xs : List Fraction) → items_have_float (items_of (map fraction_data xs)) ≡ false
float-fractions [] = refl
float-fractions (x ∷ xs) = float-fractions xs

pub flat-fractions : (xs : List Fraction) → tree.items_depth (items_outline (items_of (map fraction_data xs))) ≤ 0
flat-fractions [] = omega arith
flat-fractions (x ∷ xs) = let h = flat-fractions xs in omega (arith, h)

-- ---- and is read as them
pub fractions-again : (xs : List Fraction) → of_items (items_outline (items_of (map fraction_data xs))) ≡ Some (items_of (map fraction_data xs))
fractions-again [] = refl
fractions-again (x ∷ xs) = rw (fractions-again xs) refl

pub fraction-back : (most : ℕ) (x : Fraction) → Fits most x → fraction_of_text most (parts_text x) ≡ Some x
fraction-back most x h = fraction_of_text-read most (parts_text x) x (record { spelling = refl; fits = h })

pub fractions-back : (most : ℕ) (xs : List Fraction) → All (Fits most) xs → each (fraction_in most) (items_of (map fraction_data xs)) ≡ Some xs
unfolding each
fractions-back most [] h = refl
fractions-back most (x ∷ xs) h = rw (fraction-back most x (h 0 x (omega arith)), fractions-back most xs (λ k d lt. h (suc k) d (omega (arith, lt)))) refl
