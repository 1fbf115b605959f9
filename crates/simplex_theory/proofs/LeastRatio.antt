-- The least of several ratios, and of those that tie the one of the least name, as a search over ascending names finds it.
use Rattle.std.specs.Prelude.{◌≡◌, ℕ, ◌<◌, ◌≤◌, pos, [], ◌∷◌, Bool, ◌⊎◌, refl}
use Rattle.std.proofs.Common.{arith, ap, sym, ◌∙◌, subst, inl, inr}
use Rattle.fraction_theory.specs.Fraction.{Fraction, whole, ◌*ℚ◌}
use Rattle.fraction_theory.specs.Order.{◌≤ℚ◌, ◌<ℚ◌, NonNeg}
use Rattle.fraction_theory.proofs.Ring.{at, ◌⊗◌}
use Rattle.fraction_theory.proofs.OrderLaws.{by_le2, *ℚ-≤ℚ_cancel, ≤ℚ_of_same, ≤ℚ-or-<ℚ, <ℚ-≤ℚ, <ℚ_irrefl, <ℚ-not-≤ℚ, not-≤ℚ, NonNeg_from}
use Rattle.linear_system.specs.Systems.{System}
use Rattle.simplex_theory.specs.States.{State}
use Rattle.simplex_theory.specs.Steps.{opposite_if, Helps, Enters}
use Rattle.simplex_theory.proofs.Signs.{abs_signed, abs_above}
use Rattle.fraction_theory.specs.Signs.{abs_ℚ}

-- Of the candidates k has the least d over e, compared by products, and of those that tie with it the least name.
pub record IsLeast (candidate : ℕ → Type 0) (d e : ℕ → Fraction) (k : ℕ) : Type 0 where
  pub one : candidate k
  pub ratio : (w : ℕ) → candidate w → (d k *ℚ e w) ≤ℚ (d w *ℚ e k)
  pub least : (w : ℕ) → candidate w → d k *ℚ e w ≡ d w *ℚ e k → k ≤ w

-- ratios over numbers above 0, one strictly below another that is at most a third
ratio_below : (d e d' e' d'' e'' : Fraction) → whole (pos 0) <ℚ e → whole (pos 0) <ℚ e' → whole (pos 0) <ℚ e'' → (d *ℚ e') <ℚ (d' *ℚ e) → (d' *ℚ e'') ≤ℚ (d'' *ℚ e') → (d *ℚ e'') <ℚ (d'' *ℚ e)
ratio_below d e d' e' d'' e'' h h' h'' p q = not-≤ℚ (d'' *ℚ e) (d *ℚ e'')
    (λ r. <ℚ-not-≤ℚ (d *ℚ e') (d' *ℚ e) p
    (*ℚ-≤ℚ_cancel e'' (d' *ℚ e) (d *ℚ e') h''
    (by_le2 (d ∷ e ∷ d' ∷ e' ∷ d'' ∷ e'' ∷ []) (at 5 ⊗ (at 2 ⊗ at 1)) (at 5 ⊗ (at 0 ⊗ at 3)) (at 1) (at 2 ⊗ at 5) (at 4 ⊗ at 3) (at 3) (at 4 ⊗ at 1) (at 0 ⊗ at 5)
    (above e h) q (above e' h') r refl)))
  where
    above : (x : Fraction) → whole (pos 0) <ℚ x → NonNeg x
    above x l = NonNeg_from x (<ℚ-≤ℚ (whole (pos 0)) x l)

-- a lone candidate
pub least_alone : (candidate : ℕ → Type 0) (d e : ℕ → Fraction) (k : ℕ) → candidate k → ((w : ℕ) → candidate w → w ≡ k) → IsLeast candidate d e k
least_alone candidate d e k c only = record {
  one = c;
  ratio = λ w m. ≤ℚ_of_same (d k *ℚ e w) (d w *ℚ e k) (ap (λ t. d k *ℚ e t) (only w m) ∙ ap (λ t. d t *ℚ e k) (sym (only w m)));
  least = λ w m q. Prim.omega (arith, only w m);
}

module _ (before after : ℕ → Type 0) (d e : ℕ → Fraction) (k j : ℕ) (found : IsLeast before d e k) (one_more : (w : ℕ) → after w → before w ⊎ (w ≡ j)) where
  -- one more candidate of a later name, whose ratio is not below: what was found stays
  pub least_kept : after k → k < j → ¬ ((d j *ℚ e k) <ℚ (d k *ℚ e j)) → IsLeast after d e k
  least_kept c later not_below = record {
    one = c;
    ratio = λ w m. elim (one_more w m) [
      | inl b ↦ found.ratio w b
      | inr q ↦ subst (λ (t : ℕ). (d k *ℚ e t) ≤ℚ (d t *ℚ e k)) (sym q) (elim (≤ℚ-or-<ℚ (d k *ℚ e j) (d j *ℚ e k)) [ inl l ↦ l | inr l ↦ absurd (not_below l) ])
    ];
    least = λ w m q. elim (one_more w m) [
      | inl b ↦ found.least w b q
      | inr s ↦ Prim.omega arith
    ];
  }

  -- one more candidate, whose ratio is below: it takes the place
  pub least_replaced : after j → ((w : ℕ) → after w → whole (pos 0) <ℚ e w) → ((w : ℕ) → before w → whole (pos 0) <ℚ e w) → (d j *ℚ e k) <ℚ (d k *ℚ e j) → IsLeast after d e j
  least_replaced c above above' lower = record {
    one = c;
    ratio = λ w m. elim (one_more w m) [
      | inl b ↦ <ℚ-≤ℚ (d j *ℚ e w) (d w *ℚ e j) (strictly w b)
      | inr q ↦ ≤ℚ_of_same (d j *ℚ e w) (d w *ℚ e j) (ap (λ t. d j *ℚ e t) q ∙ ap (λ t. d t *ℚ e j) (sym q))
    ];
    least = λ w m q. elim (one_more w m) [
      | inl b ↦ absurd (<ℚ_irrefl (d w *ℚ e j) (subst (λ t. t <ℚ (d w *ℚ e j)) q (strictly w b)))
      | inr s ↦ Prim.omega arith
    ];
  }
    where
      strictly : (w : ℕ) → before w → (d j *ℚ e w) <ℚ (d w *ℚ e j)
      strictly w b = ratio_below (d j) (e j) (d k) (e k) (d w) (e w) (above j c) (above' k found.one) (above' w b) lower (found.ratio w b)

module _ (s : System) (S : State) (v : ℕ) (above : Bool) where
  -- what helps has an entry that is not 0
  pub help_above : (w : ℕ) → Helps s S v above w → whole (pos 0) <ℚ abs_ℚ (S.choice.entry v w)
  help_above w helps =
      let e = opposite_if (S.choice.high w) (opposite_if above (S.choice.entry v w)) in
      subst (λ t. whole (pos 0) <ℚ t)
      (sym (abs_above e (<ℚ-≤ℚ (whole (pos 0)) e helps.towards)) ∙ abs_signed (S.choice.high w) (opposite_if above (S.choice.entry v w)) ∙ abs_signed above (S.choice.entry v w))
      helps.towards

  -- the search's answer enters
  pub least_enters : (k : ℕ) → IsLeast (Helps s S v above) (λ w. abs_ℚ (S.reduced w)) (λ w. abs_ℚ (S.choice.entry v w)) k → Enters s S v above k
  least_enters k l = record { helps = l.one; ratio = l.ratio; least = l.least }
