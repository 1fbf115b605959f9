-- Which way an other variable takes the leaving one, as the code tells it.
use Rattle.std.specs.Prelude.{◌≡◌, ℕ, pos, Bool, true, false, refl}
use Rattle.std.specs.List.{Contains}
use Rattle.std.proofs.Common.{ap, sym, ◌∙◌, subst}
use mathlib.Core.Bool.{beq}
use Rattle.fraction_theory.specs.Fraction.{Fraction, whole, neg_ℚ}
use Rattle.fraction_theory.specs.Order.{◌<ℚ◌}
use Rattle.fraction_theory.proofs.FieldLaws.{whole-neg}
use Rattle.fraction_theory.proofs.OrderLaws.{<ℚ-≤ℚ}
use Rattle.linear_dict.specs.Dictionaries.{Dictionary, IsDictionary, system_in, choice_of, note_of}
use Rattle.linear_dict.specs.Notes.{Noted}
use Rattle.linear_dict.proofs.SplitLemmas.{other_in}
use Rattle.simplex_theory.specs.Steps.{opposite_if, Helps}
use Rattle.simplex_theory.proofs.Signs.{signed-twice, abs_signed, abs_above}
use Rattle.simplex_core.specs.States.{state_of}
use Rattle.fraction_theory.specs.Signs.{abs_ℚ}

pub signed_same : (a f : Bool) (e : Fraction) → beq a f ≡ true → e ≡ opposite_if f (opposite_if a e)
signed_same true true e h = sym (signed-twice true e)
signed_same true false e h = absurd Prim.cc
signed_same false true e h = absurd Prim.cc
signed_same false false e h = refl

pub signed_apart : (a f : Bool) (e : Fraction) → beq a f ≡ false → neg_ℚ e ≡ opposite_if f (opposite_if a e)
signed_apart true true e h = absurd Prim.cc
signed_apart true false e h = refl
signed_apart false true e h = refl
signed_apart false false e h = absurd Prim.cc

-- a number above 0 that is another one but for signs is its size
pub size_of_signed : (a f : Bool) (e t : Fraction) → t ≡ opposite_if f (opposite_if a e) → whole (pos 0) <ℚ t → t ≡ abs_ℚ e
size_of_signed a f e t q h = sym (abs_above t (<ℚ-≤ℚ (whole (pos 0)) t h)) ∙ ap abs_ℚ q ∙ abs_signed f (opposite_if a e) ∙ abs_signed a e

-- a note that the code reads says what the system, the choice and the state have
module _ (d : Dictionary) (w : ℕ) (n : Noted) (is : n ≡ note_of d w) where
  pub low_is : n.low ≡ (system_in d).low w
  unfolding system_in
  low_is = ap Noted.low is

  pub high_is : n.high ≡ (system_in d).high w
  unfolding system_in
  high_is = ap Noted.high is

  pub price_is : n.price ≡ (system_in d).price w
  unfolding system_in
  price_is = ap Noted.price is

  pub value_is : n.value ≡ (state_of d).value w
  unfolding state_of
  value_is = ap Noted.value is

  pub reduced_is : n.reduced ≡ (state_of d).reduced w
  unfolding state_of
  reduced_is = ap Noted.reduced is

  pub flag_is : n.at_high ≡ (choice_of d).high w
  unfolding choice_of
  flag_is = ap Noted.at_high is

  module _ (v : ℕ) (above : Bool) where
    -- w's entry as the code turns it
    abbrev pub turned_entry : Fraction
    turned_entry = opposite_if n.at_high (opposite_if above ((choice_of d).entry v w))

    pub helps_is : IsDictionary d → Contains d.others w → n.low <ℚ n.high → whole (pos 0) <ℚ turned_entry → Helps (system_in d) (state_of d) v above w
    unfolding state_of
    helps_is h c free towards = record {
      other = other_in d h w c;
      free = subst (λ t. t <ℚ (system_in d).high w) low_is (subst (λ t. n.low <ℚ t) high_is free);
      towards = subst (λ (f : Bool). whole (pos 0) <ℚ opposite_if f (opposite_if above ((choice_of d).entry v w))) flag_is towards;
    }

    pub helps_free : Helps (system_in d) (state_of d) v above w → n.low <ℚ n.high
    helps_free h = subst (λ t. t <ℚ n.high) (sym low_is) (subst (λ t. (system_in d).low w <ℚ t) (sym high_is) h.free)

    pub helps_towards : Helps (system_in d) (state_of d) v above w → whole (pos 0) <ℚ turned_entry
    unfolding state_of
    helps_towards h = subst (λ (f : Bool). whole (pos 0) <ℚ opposite_if f (opposite_if above ((choice_of d).entry v w))) (sym flag_is) h.towards

-- 0 turned is 0
pub turned_nil : (f above : Bool) → opposite_if f (opposite_if above (whole (pos 0))) ≡ whole (pos 0)
turned_nil true true = ap neg_ℚ (sym (whole-neg (pos 0))) ∙ sym (whole-neg (pos 0))
turned_nil true false = sym (whole-neg (pos 0))
turned_nil false true = sym (whole-neg (pos 0))
turned_nil false false = refl
