-- Solutions exist: in a connected network all buses are of one part, and passing to the reference what each bus is to put in makes angles
-- for any injections.
use Rattle.std.specs.Prelude.{◌≡◌, ℕ, ◌<◌, ◌==◌, pos, Bool, List, [], ◌∷◌, refl}
use Rattle.std.specs.List.{Contains}
use Rattle.std.proofs.Common.{ap, sym, ◌∙◌, inl, inr}
use mathlib.Core.Path.{ap₂}
use Rattle.std.proofs.lemmas.Bool.Decides.{eqb_tells}
use Rattle.fraction_theory.specs.Fraction.{Fraction, whole, ◌+ℚ◌, ◌-ℚ◌, ◌*ℚ◌}
use Rattle.fraction_theory.specs.Sums.{sum_by}
use Rattle.fraction_theory.proofs.Ring.{by_ring, at, pnil, pone, pneg, ◌⊕◌, ◌⊗◌, times_nil}
use Rattle.fraction_theory.proofs.FieldLaws.{ring_ℚ}
use Rattle.fraction_theory.proofs.ListSums.{kept, sum_by-one, Contains-head, Contains-cons}
use Rattle.network_theory.specs.Laws.{LawOfSolutions, LawOfTransfers}
use Rattle.network_theory.specs.Networks.{Network, places, IsTheoryNetwork, injection, IsConnected, IsSolution, IsTransfer, moved}
use Rattle.network_theory.proofs.Chains.{same_along}
use Rattle.network_theory.proofs.Outages.{injection_moved}
use Rattle.network_theory.proofs.Parts.{passed, Passes, AreParts, parts}
use Rattle.network_theory.proofs.Places.{in_places, below_places, distinct_places}
use Rattle.network_theory.proofs.Solutions.{injection_minus, injection_level}

kept_at : (i v : ℕ) → i ≡ v → kept (i == v) (whole (pos 1)) ≡ whole (pos 1)
kept_at i v e = elim (eqb_tells i v) [ inl t ↦ ap (λ (b : Bool). kept b (whole (pos 1))) t.0 | inr t ↦ absurd (t.1 e) ]

kept_else : (i v : ℕ) → ¬ (i ≡ v) → kept (i == v) (whole (pos 1)) ≡ whole (pos 0)
kept_else i v d = elim (eqb_tells i v) [ inl t ↦ absurd (d t.1) | inr t ↦ ap (λ (b : Bool). kept b (whole (pos 1))) t.0 ]

-- what is passed: 1 at the first of two places, -1 at the second, 0 elsewhere
passed_at : (i j : ℕ) → ¬ (i ≡ j) → passed i j i ≡ whole (pos 1)
passed_at i j d = ap₂ ◌-ℚ◌ (kept_at i i refl) (kept_else j i (λ e. d (sym e))) ∙ by_ring ring_ℚ [] (pone ⊕ pneg pnil) pone refl

passed_else : (i j v : ℕ) → ¬ (i ≡ v) → ¬ (j ≡ v) → passed i j v ≡ whole (pos 0)
passed_else i j v d k = ap₂ ◌-ℚ◌ (kept_else i v d) (kept_else j v k) ∙ by_ring ring_ℚ [] (pnil ⊕ pneg pnil) pnil refl

passes_transfer : (n : Network) (angle : ℕ → Fraction) (source sink : ℕ) → source < n.buses → sink < n.buses → ¬ (source ≡ sink)
    → Passes n angle source sink → IsTransfer n angle source sink
passes_transfer n angle source sink p q d h = record {
  source_is = p;
  sink_is = q;
  source_has = h.injections source ∙ passed_at source sink d;
  sink_has = h.injections sink ∙ ap₂ ◌-ℚ◌ (kept_else source sink d) (kept_at sink sink refl) ∙ by_ring ring_ℚ [] (pnil ⊕ pneg pone) (pneg pone) refl;
  elsewhere = λ v _ at_source at_sink. h.injections v ∙ passed_else source sink v (λ e. at_source (sym e)) (λ e. at_sink (sym e));
}

module _ (n : Network) (reference : ℕ) (is : IsTheoryNetwork n) (c : IsConnected n reference) where
  -- the part of each place, and all buses are of that of the reference
  part : ℕ → ℕ
  part = (parts n.buses n.branches is).0

  are_parts : AreParts n part
  unfolding part
  are_parts = (parts n.buses n.branches is).1

  one_part : (i : ℕ) → i < n.buses → part i ≡ part reference
  one_part i p = let way = c.joined i p in same_along n part are_parts.along way.chain i reference way.lead

  -- so much for each bus of a list
  passing_all : (wanted : ℕ → Fraction) (buses : List ℕ) → ((i : ℕ) → Contains buses i → i < n.buses)
      → (angle : ℕ → Fraction) × ((v : ℕ) → injection n angle v ≡ sum_by (λ i. wanted i *ℚ passed i reference v) buses)
  passing_all wanted [] below = (λ _. whole (pos 0), λ v. injection_level n (whole (pos 0)) v)
  passing_all wanted (i ∷ buses) below =
      let more = passing_all wanted buses (λ j k. below j (Contains-cons i buses j k)) in
      let one = are_parts.passing i reference (one_part i (below i (Contains-head i buses))) in (
        moved more.0 (wanted i) one.0,
        λ v. injection_moved n more.0 (wanted i) one.0 v
            ∙ ap₂ (λ x y. x +ℚ wanted i *ℚ y) (more.1 v) (one.1.injections v)
            ∙ ring_ℚ.plus_comm (sum_by (λ j. wanted j *ℚ passed j reference v) buses) (wanted i *ℚ passed i reference v),
      )

  solution : (wanted : ℕ → Fraction) → (angle : ℕ → Fraction) × IsSolution n reference wanted angle
  solution wanted =
      let all = passing_all wanted (places n) (below_places n) in
      let level : ℕ → Fraction = λ _. all.0 reference in (
        λ i. all.0 i -ℚ level i,
        record {
          at_reference = ring_ℚ.plus_neg (all.0 reference);
          injections = λ v p d. injection_minus all.0 level n v
              ∙ ap₂ ◌-ℚ◌ (all.1 v) (injection_level n (all.0 reference) v)
              ∙ ap (λ t. t -ℚ whole (pos 0))
              (sum_by-one (λ i. wanted i *ℚ passed i reference v) v (places n) (distinct_places n) (in_places n v p)
              (λ i _ apart. ap (λ t. wanted i *ℚ t) (passed_else i reference v apart (λ e. d (sym e))) ∙ times_nil ring_ℚ (wanted i))
              ∙ ap (λ t. wanted v *ℚ t) (passed_at v reference d))
              ∙ by_ring ring_ℚ (wanted v ∷ []) ((at 0 ⊗ pone) ⊕ pneg pnil) (at 0) refl;
        },
      )

  transfer : (source sink : ℕ) → source < n.buses → sink < n.buses → ¬ (source ≡ sink) → (angle : ℕ → Fraction) × IsTransfer n angle source sink
  transfer source sink p q d =
      let r = are_parts.passing source sink (one_part source p ∙ sym (one_part sink q)) in
      (r.0, passes_transfer n r.0 source sink p q d r.1)

pub law_of_solutions : LawOfSolutions
law_of_solutions n reference wanted is c = solution n reference is c wanted

pub law_of_transfers : LawOfTransfers
law_of_transfers n reference source sink is c p q d = transfer n reference is c source sink p q d
