-- A run keeps the rows, prices and bounds, and how it ends.
use Rattle.std.specs.Prelude.{◌≡◌, ℕ, ◌<◌, pos, Bool, true, false, length, slice_index, refl}
use Rattle.std.specs.List.{Contains}
use Rattle.std.proofs.Common.{◌∙◌, sym, subst}
use Rattle.fraction_theory.specs.Order.{◌<ℚ◌}
use Rattle.linear_system.specs.Systems.{System}
use Rattle.linear_system.specs.Choices.{Choice, basics, value}
use Rattle.linear_system.proofs.ChoiceLaws.{basics_are}
use Rattle.linear_dict.specs.Dictionaries.{Dictionary, system_in, choice_of}
use Rattle.linear_dict.specs.ReducedPrices.{HasReducedPrices}
use Rattle.simplex_theory.specs.States.{IsWithin, IsSolved, IsOutOfReach, Violates}
use Rattle.simplex_theory.specs.Steps.{IsStep, Leaves, Helps, opposite_if}
use Rattle.simplex_theory.proofs.PosedNumbers.{posed_value, posed_reduced}
use Rattle.simplex_theory.proofs.Signs.{neg_at_least, not_above}
use Rattle.simplex_theory.proofs.Outcomes.{solved, out_of_reach, no_point}
use Rattle.exact_fraction.specs.declared.Op.{Op}
use Rattle.exact_fraction.specs.declared.Passed.{Passed}
use Rattle.fraction_theory.specs.Fraction.{Fraction, whole, neg_ℚ}
use Rattle.linear_system.specs.Numbers.{IsFirst}
use Rattle.linear_system.specs.Pairs.{IsSystemPair}
use Rattle.simplex_core.specs.declared.solving.Run.{Run}
use Rattle.simplex_core.specs.declared.solving.Run.TheVariants.{Solved, Empty, Passed as StoppedBy}
use Rattle.simplex_core.specs.Fixed.{IsFixedPair, KeepsFixed}
use Rattle.simplex_core.specs.Outcomes.{Keeps, IsAnswered, IsEmptyAt, IsRunOutcome, ShowsChoice}
use Rattle.simplex_theory.specs.Stuck.{IsStuck}
use Rattle.simplex_core.specs.States.{state_of, IsReady}
use Rattle.simplex_core.specs.Turns.{turned}
use Rattle.simplex_core.proofs.FixedLemmas.{fixed_after, fixed_pair, fixed_through}
use Rattle.simplex_core.proofs.Nexts.{IsTurn}
use Rattle.simplex_core.proofs.Pairs.{first_leaving}
use Rattle.simplex_core.proofs.TurnLaws.{turned_ready, turned_step, turned_system, turned_columns, turned_rows, turned_coefficients, turned_names}

-- the reduced prices of a ready dictionary are those of its table
pub ready_reduced : (d : Dictionary) → IsReady d → HasReducedPrices d
unfolding state_of choice_of system_in
ready_reduced d ready = record { of = λ w c. posed_reduced (system_in d) (state_of d) ready.posed w c }

pub keeps_itself : (d : Dictionary) → IsReady d → Keeps d d
keeps_itself d ready = record { columns = refl; rows = refl; coefficients = refl; names = refl; system = refl; ready = ready }

pub keeps_turned : (d e : Dictionary) → Keeps d e → (v k : ℕ) (above : Bool) → IsTurn e v k above → Keeps d (turned e v k above)
keeps_turned d e h v k above t =
    let ready = turned_ready e h.ready v k above t.leaves t.enters in
    record {
      columns = turned_columns e h.ready v k above t.leaves t.enters ∙ h.columns;
      rows = turned_rows e h.ready v k above t.leaves t.enters ∙ h.rows;
      coefficients = turned_coefficients e h.ready v k above t.leaves t.enters ∙ h.coefficients;
      names = turned_names e h.ready v k above t.leaves t.enters ∙ h.names;
      system = turned_system e h.ready v k above t.leaves t.enters ∙ h.system;
      ready = ready;
    }

-- and the variables whose bounds are equal stay others
pub fixed_turned : (d e : Dictionary) → IsReady d → Keeps d e → KeepsFixed d (choice_of e) → (v k : ℕ) (above : Bool) → IsTurn e v k above → KeepsFixed d (choice_of (turned e v k above))
unfolding state_of
fixed_turned d e ready h kept v k above t =
    let step : IsStep (system_in e) (state_of e) (state_of (turned e v k above)) v k above = turned_step e h.ready v k above t.leaves t.enters in
    fixed_through d e h.system ready.sound h.ready.sound kept (choice_of (turned e v k above))
    (fixed_after e h.ready.sound (choice_of (turned e v k above)) v k step.exchanged.exchange t.enters.helps.free)

-- so a working pair on the way is one of the dictionary at the start
pub fixed_before : {N : Type 0} (value : N → Fraction) (bound : ℕ) (d e : Dictionary) → IsReady d → Keeps d e → KeepsFixed d (choice_of e) → (p : Passed N) → IsFixedPair value bound e p → IsFixedPair value bound d p
fixed_before value bound d e ready h kept p pair = fixed_pair d e h.system ready.sound h.ready.sound kept bound p.op (value p.left) (value p.right) pair

-- all basic variables are within their bounds
pub solved_at : (d : Dictionary) → IsReady d → ((b : ℕ) → Contains (basics (system_in d) (choice_of d)) b → IsWithin (system_in d) (state_of d).value b) → IsSolved (system_in d) (state_of d)
unfolding state_of
solved_at d ready inside = solved (system_in d) (state_of d) ready.posed inside

-- the numbers of a ready dictionary are those of its choice
pub shows_choice : (d : Dictionary) → IsReady d → ShowsChoice d
unfolding state_of system_in
shows_choice d ready = record {
  choice = ready.posed.choice;
  values = λ w c. posed_value (system_in d) (state_of d) ready.posed w c;
  prices = λ w c. posed_reduced (system_in d) (state_of d) ready.posed w c;
}

-- what is violated at the state's values is violated at the choice's
violates_by_value : (s : System) (v u : ℕ → Fraction) (above : Bool) (b : ℕ) → v b ≡ u b → Violates s v above b → Violates s u above b
violates_by_value s v u true b e p = subst (λ x. s.high b <ℚ x) e p
violates_by_value s v u false b e p = subst (λ x. x <ℚ s.low b) e p

-- none of the others helps the variable of the row
pub stuck_at : (d : Dictionary) → IsReady d → (v : ℕ) (above : Bool) → Leaves (system_in d) (state_of d) v above → ((w : ℕ) → ¬ (Helps (system_in d) (state_of d) v above w))
    → IsStuck (system_in d) (choice_of d) v above
unfolding state_of
stuck_at d ready v above leaves idle =
    let s : System = system_in d in
    let h : Choice = choice_of d in
    record {
      basic = leaves.basic;
      violates = violates_by_value s (state_of d).value (value s h) above v (posed_value s (state_of d) ready.posed v (basics_are s h v leaves.basic).0) leaves.violates;
      at_low = λ w c free flag. not_above (opposite_if above (h.entry v w))
          (λ l. idle w (record { other = c; free = free; towards = subst (λ (f : Bool). whole (pos 0) <ℚ opposite_if f (opposite_if above (h.entry v w))) (sym flag) l }));
      at_high = λ w c free flag. neg_at_least (opposite_if above (h.entry v w)) (not_above (neg_ℚ (opposite_if above (h.entry v w)))
          (λ l. idle w (record { other = c; free = free; towards = subst (λ (f : Bool). whole (pos 0) <ℚ opposite_if f (opposite_if above (h.entry v w))) (sym flag) l })));
    }

pub empty_at : (d : Dictionary) → IsReady d → (v row : ℕ) (above : Bool) → Leaves (system_in d) (state_of d) v above → ((w : ℕ) → ¬ (Helps (system_in d) (state_of d) v above w))
    → row < length d.basics → slice_index d.basics row ≡ v → IsEmptyAt d row above
unfolding state_of
empty_at d ready v row above leaves idle within e = record {
  none = no_point (system_in d) (state_of d) ready.posed v above leaves.basic leaves.violates idle;
  within = within;
  stuck = subst (λ (w : ℕ). IsStuck (system_in d) (choice_of d) w above) (sym e) (stuck_at d ready v above leaves idle);
  first = subst (IsFirst (system_in d) (choice_of d)) (sym e) (first_leaving d ready v above leaves);
  out_of_reach = subst (λ (w : ℕ). IsOutOfReach (system_in d) (choice_of d) w) (sym e) (out_of_reach (system_in d) (state_of d) ready.posed v above leaves.basic leaves.violates idle);
}

-- with no working pair there is no refusal
pub answered : {N : Type 0} (value : N → Fraction) (bound : ℕ) (d : Dictionary) (r : Run N) → ((op : Op) (left right : Fraction) → ¬ (IsSystemPair (system_in d) bound op left right)) → IsRunOutcome value bound d r → IsAnswered r
answered value bound d (Solved e) none o = tt
answered value bound d (Empty e row above) none o = tt
answered value bound d (StoppedBy p) none o = none p.op (value p.left) (value p.right) o
