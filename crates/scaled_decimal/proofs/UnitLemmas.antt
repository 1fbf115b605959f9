-- A plain decimal has no exponent, so its units are its number times a power of ten.
use Rattle.std.specs.Prelude.{◌≡◌, ◌≤◌, ℕ, ◌*◌, ◌-◌, ◌^◌, ℤ, Bool, false, List, [], ◌++◌, Option, Some, None, Ok, IfSome}
use Rattle.std.proofs.Common.{refl, inl, arith, ap, sym, subst, ◌∙◌}
use Rattle.std.proofs.lemmas.List.{append-nil}
use Rattle.scaled_decimal.specs.Decimal.{Decimal, Spells}
use Rattle.scaled_decimal.specs.Reading.{Reads, units_of, units_in, whole_number, in_range}
use Rattle.scaled_decimal.proofs.AmountLemmas.{shifted_by}
use Rattle.scaled_decimal.proofs.ReadingLaws.{units_of-Spells, Reads-units_of}
use Rattle.scaled_decimal.specs.Plain.{IsSigned, IsPlain}

by_parts : (negative : Bool) (n number above places under behind : ℕ) → n ≡ number → above ≡ places → under ≡ behind
    → whole_number negative (n * 10 ^ above) (10 ^ under) ≡ whole_number negative (number * 10 ^ places) (10 ^ behind)
by_parts negative n number above places under behind a b c = Prim.rw (a, b, c) refl

pub units_of-plain : (places : ℕ) (bytes body : List ℕ) (negative : Bool) (number behind tens : ℕ) → IsSigned bytes negative body → IsPlain body number behind → behind ≤ places → tens ≡ places - behind
    → units_of places bytes ≡ in_range negative (number * 10 ^ tens)
unfolding units_in
units_of-plain places bytes body negative number behind tens s p within left =
    let d : Decimal = record { negative = negative; whole = p.whole; part = p.part; exponent_negative = false; exponent = [] } in
    let spells : Spells bytes d = record {
      sign = s.sign;
      mantissa = body;
      tail = [];
      text_is = s.text_is ∙ ap (λ t. s.sign ++ t) (sym (append-nil body));
      signs = s.signs;
      mantissas = p.mantissas;
      exponents = inl (refl, refl, refl);
    } in
    units_of-Spells places bytes d spells
    ∙ (by_parts negative _ number _ places _ behind (sym p.number_is) (Prim.omega arith) (Prim.omega (arith, p.behind_is))
    ∙ (shifted_by negative number places behind within ∙ ap (λ k. in_range negative (number * 10 ^ k)) (sym left)))

-- a number that the function of the text gives is its reading
pub Reads-told : (places : ℕ) (bytes : List ℕ) (told : Option ℤ) → IfSome told (λ units. units_of places bytes ≡ Ok units) → IfSome told (λ units. Reads places bytes (Ok units))
Reads-told places bytes None is = is
Reads-told places bytes (Some units) is = subst (Reads places bytes) is (Reads-units_of places bytes)
