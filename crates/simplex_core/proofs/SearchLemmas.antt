-- What the two searches have found so far.
use Rattle.std.specs.Prelude.{◌≡◌, ℕ, ◌+◌, ◌<◌, ◌≤◌, Bool, true, false, Some, None, length, slice_index}
use Rattle.std.specs.List.{Contains}
use Rattle.std.proofs.Common.{arith, sym, subst, subst₂, inl, inr}
use Rattle.std.proofs.lemmas.Bool.{cases_lt}
use Rattle.fraction_theory.specs.Fraction.{Fraction}
use Rattle.fraction_theory.specs.Order.{◌≤ℚ◌, ◌<ℚ◌}
use Rattle.linear_system.specs.Systems.{System}
use Rattle.linear_system.specs.Choices.{basics}
use Rattle.linear_dict.specs.Dictionaries.{Dictionary, IsDictionary, system_in, choice_of}
use Rattle.linear_dict.specs.Places.{place_in}
use Rattle.linear_dict.proofs.SplitLemmas.{Contains-at, basic_in, in_basics}
use Rattle.simplex_theory.specs.States.{IsWithin, Violates}
use Rattle.simplex_theory.specs.Steps.{Leaves}
use Rattle.simplex_core.specs.States.{state_of}
use Rattle.simplex_core.specs.Searches.{IsSide}
use Rattle.simplex_core.proofs.Ranks.{rank_below, at_rank}

-- the side on which a value violates a bound, or that it violates none
pub side_violates : (s : System) (v : ℕ → Fraction) (w : ℕ) (low high x : Fraction) → low ≡ s.low w → high ≡ s.high w → x ≡ v w → (above : Bool) → IsSide low high x (Some above) → Violates s v above w
side_violates s v w low high x el eh ex true l = subst₂ ◌<ℚ◌ eh ex l
side_violates s v w low high x el eh ex false l = subst₂ ◌<ℚ◌ ex el l

pub side_within : (s : System) (v : ℕ → Fraction) (w : ℕ) (low high x : Fraction) → low ≡ s.low w → high ≡ s.high w → x ≡ v w → IsSide low high x None → IsWithin s v w
side_within s v w low high x el eh ex p = record { low = subst₂ ◌≤ℚ◌ el ex p.0; high = subst₂ ◌≤ℚ◌ ex eh p.1 }

-- the basic variables of the ranks below k keep their bounds
pub record AllWithin (d : Dictionary) (k : ℕ) : Type 0 where
  pub each : (j : ℕ) → j < k → j < length d.names → Contains d.basics (slice_index d.names j) → IsWithin (system_in d) (state_of d).value (slice_index d.names j)

pub all_within_start : (d : Dictionary) → AllWithin d 0
all_within_start d = record { each = λ j l. absurd (Prim.omega arith) }

pub all_within_more : (d : Dictionary) (k : ℕ) → AllWithin d k → (Contains d.basics (slice_index d.names k) → IsWithin (system_in d) (state_of d).value (slice_index d.names k)) → AllWithin d (k + 1)
all_within_more d k a here = record {
  each = λ j l m c. elim (cases_lt j k) [
    | inl less ↦ a.each j less m c
    | inr more ↦
        let e : k ≡ j = Prim.omega (arith, l, more) in
        subst (λ (i : ℕ). IsWithin (system_in d) (state_of d).value (slice_index d.names i)) e (here (subst (λ (i : ℕ). Contains d.basics (slice_index d.names i)) (sym e) c))
  ];
}

module _ (d : Dictionary) (h : IsDictionary d) where
  -- the first one that violates a bound leaves
  pub first_leaves : (k r : ℕ) (above : Bool) → AllWithin d k → k < length d.names → r < length d.basics → slice_index d.basics r ≡ slice_index d.names k
      → Violates (system_in d) (state_of d).value above (slice_index d.names k) → Leaves (system_in d) (state_of d) (slice_index d.names k) above
  unfolding state_of
  first_leaves k r above a hk hr e past = record {
    basic = basic_in d h (slice_index d.names k) (subst (Contains d.basics) e (Contains-at d.basics r hr));
    violates = past;
    least = λ b c l.
        let m : Contains d.basics b = in_basics d h b c in
        let at = at_rank d h b (h.split.first_named b m) in
        let j : ℕ = place_in d.names b in
        let less : j < k = rank_below d h j k at.0 hk (Prim.omega (arith, l, at.1)) in
        subst (λ (w : ℕ). IsWithin (system_in d) (state_of d).value w) at.1 (a.each j less at.0 (subst (Contains d.basics) (sym at.1) m));
  }

  pub all_within : (k : ℕ) → AllWithin d k → length d.names ≤ k → (b : ℕ) → Contains (basics (system_in d) (choice_of d)) b → IsWithin (system_in d) (state_of d).value b
  all_within k a past b c =
      let m : Contains d.basics b = in_basics d h b c in
      let at = at_rank d h b (h.split.first_named b m) in
      subst (λ (w : ℕ). IsWithin (system_in d) (state_of d).value w) at.1 (a.each (place_in d.names b) (Prim.omega (arith, at.0, past)) at.0 (subst (Contains d.basics) (sym at.1) m))
