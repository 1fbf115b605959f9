-- Variables whose bounds are equal stay others.
use Rattle.std.specs.Prelude.{◌≡◌, ℕ, false}
use Rattle.std.specs.List.{Contains}
use Rattle.std.proofs.Common.{sym, subst}
use Rattle.exact_fraction.specs.declared.Op.{Op}
use Rattle.exact_fraction.specs.Passes.{IsShareRefused}
use Rattle.fraction_theory.specs.Fraction.{Fraction, ◌+ℚ◌, ◌*ℚ◌}
use Rattle.fraction_theory.specs.Order.{◌<ℚ◌}
use Rattle.fraction_theory.proofs.OrderLaws.{<ℚ_irrefl}
use Rattle.linear_system.specs.Systems.{System}
use Rattle.linear_system.specs.Choices.{Choice, IsChoice, OneExchange, others}
use Rattle.linear_system.specs.Numbers.{Kind, SolvingNumber, SystemNumber}
use Rattle.linear_system.specs.Pairs.{AreNear, AtEither, IsSystemPair, OfEither}
use Rattle.linear_system.proofs.ChoiceLaws.{is_other, others_are}
use Rattle.linear_system.proofs.PairLaws.{IsScaling, share_case, share_large}
use Rattle.linear_dict.specs.Dictionaries.{Dictionary, IsDictionary, system_in, choice_of}
use Rattle.linear_dict.proofs.CauseLemmas.{written}
use Rattle.linear_dict.proofs.SplitLemmas.{in_others, other_in}
use Rattle.simplex_theory.proofs.Exchanges.{other_after}
use Rattle.simplex_core.specs.Fixed.{IsFixedSystemPair, KeepsFixed}
use Rattle.simplex_core.proofs.StandLemmas.{choice_other}

module _ (d : Dictionary) (h : IsDictionary d) where
  -- they are others of the dictionary's own choice
  pub fixed_own : KeepsFixed d (choice_of d)
  fixed_own = record { others = λ w o equal. choice_other d h w o }

  -- and of one after an exchange, where the variable that enters can move
  pub fixed_after : (k : Choice) (v w : ℕ) → OneExchange (system_in d) (choice_of d) k v w → (system_in d).low w <ℚ (system_in d).high w → KeepsFixed d k
  fixed_after k v w once free = record {
    others = λ u o equal.
        let after : Contains (others (system_in d) k) u =
        other_after (system_in d) (choice_of d) k v w once u (other_in d h u o)
        (λ q. <ℚ_irrefl ((system_in d).low w) (subst (λ (x : Fraction). (system_in d).low w <ℚ x) (sym (subst (λ (i : ℕ). (system_in d).low i ≡ (system_in d).high i) q equal)) free)) in
        (others_are (system_in d) k u after).1;
  }

-- From d to e, which has the same system, they stay others.
module _ (d e : Dictionary) (same : system_in e ≡ system_in d) where
  -- where they are others of e, a working pair of e is one of d
  pub fixed_of : ((w : ℕ) → Contains d.others w → (system_in d).low w ≡ (system_in d).high w → Contains e.others w)
      → (bound : ℕ) (op : Op) (left right : Fraction) → IsFixedSystemPair e bound op left right → IsFixedSystemPair d bound op left right
  fixed_of among bound op left right p =
      let q = subst (λ (s : System). (x : IsSystemPair s bound op left right) × ((w : ℕ) → Contains e.others w → s.low w ≡ s.high w → x.one.basic w ≡ false)
      × ((w : ℕ) → Contains e.others w → s.low w ≡ s.high w → x.near.basic w ≡ false)) same (p.pair, p.one.others, p.near.others) in
      record {
        pair = q.0;
        one = record { others = λ w o equal. q.1 w (among w o equal) equal };
        near = record { others = λ w o equal. q.2 w (among w o equal) equal };
      }

  module _ (dh : IsDictionary d) (eh : IsDictionary e) (kept : KeepsFixed d (choice_of e)) where
    named : (w : ℕ) → Contains d.names w → Contains (system_in d).variables w
    unfolding system_in
    named w m = m

    fixed_among : (w : ℕ) → Contains d.others w → (system_in d).low w ≡ (system_in d).high w → Contains e.others w
    fixed_among w o equal =
        in_others e eh w (is_other (system_in e) (choice_of e) w (subst (λ (s : System). Contains s.variables w) (sym same) (named w (dh.split.second_named w o))) (kept.others w o equal))

    -- so of the choices that have those of e among their others
    pub fixed_through : (k : Choice) → KeepsFixed e k → KeepsFixed d k
    fixed_through k p = record { others = λ w o equal. p.others w (fixed_among w o equal) (subst (λ (s : System). s.low w ≡ s.high w) (sym same) equal) }

    pub fixed_pair : (bound : ℕ) (op : Op) (left right : Fraction) → IsFixedSystemPair e bound op left right → IsFixedSystemPair d bound op left right
    fixed_pair bound op left right p = fixed_of fixed_among bound op left right p

-- A refused sum of a number and a product of two near choices is a working pair of these.
module _ (d : Dictionary) (one near : Choice) (kept : KeepsFixed d one) (near_kept : KeepsFixed d near) where
  pub fixed_share : IsChoice (system_in d) one → IsChoice (system_in d) near → AreNear (system_in d) one near → (kind : Kind) (x a b : Fraction)
      → OfEither (SystemNumber (system_in d)) one near kind x → IsScaling (OfEither (SystemNumber (system_in d)) one near) kind a b → AtEither (SolvingNumber (system_in d)) one near (x +ℚ a *ℚ b)
      → (bound : ℕ) (op : Op) (left right : Fraction) → IsShareRefused bound x a b op left right → IsFixedSystemPair d bound op left right
  fixed_share choice near_choice are_near kind x a b number product whole_sum bound op left right refused = record {
    pair = record {
      passes = refused.passes;
      one = one;
      near = near;
      is_choice = choice;
      near_is_choice = near_choice;
      are_near = are_near;
      sides = share_case (OfEither (SystemNumber (system_in d)) one near) kind x a b number product bound op left right refused;
      large = share_large (OfEither (SystemNumber (system_in d)) one near) kind x a b number product bound op left right refused (AtEither (SolvingNumber (system_in d)) one near)
          (written (system_in d) one near kind x number) whole_sum;
    };
    one = kept;
    near = near_kept;
  }
