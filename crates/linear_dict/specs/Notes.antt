-- What is noted of a variable.
use Rattle.std.specs.Prelude.{pos, Bool, false, refl}
use Rattle.std.specs.Coded.{Coded, code_by, coded×, coded_bool}
use Rattle.fraction_theory.specs.Code.{fraction_code}
use Rattle.fraction_theory.specs.Fraction.{Fraction, whole}
use Rattle.linear_dict.specs.declared.note.Note.{Note}

-- the numbers of a variable's note
pub record Noted : Type 0 where
  pub price : Fraction
  pub low : Fraction
  pub high : Fraction
  pub value : Fraction
  pub reduced : Fraction
  pub at_high : Bool

abbrev pub noted : {N : Type 0} → (N → Fraction) → Note N → Noted
noted value n = record { price = value n.price; low = value n.low; high = value n.high; value = value n.value; reduced = value n.reduced; at_high = n.at_high }

-- the note of a variable that is new
abbrev pub blank : Noted
blank = record { price = whole (pos 0); low = whole (pos 0); high = whole (pos 0); value = whole (pos 0); reduced = whole (pos 0); at_high = false }

abbrev pub noted_code : Coded Noted
noted_code = code_by (Fraction × (Fraction × (Fraction × (Fraction × (Fraction × Bool)))))
    (coded× fraction_code (coded× fraction_code (coded× fraction_code (coded× fraction_code (coded× fraction_code coded_bool)))))
    (λ n. (n.price, (n.low, (n.high, (n.value, (n.reduced, n.at_high))))))
    (λ p. record { price = p.0; low = p.1.0; high = p.1.1.0; value = p.1.1.1.0; reduced = p.1.1.1.1.0; at_high = p.1.1.1.1.1 })
    (λ _. refl)
