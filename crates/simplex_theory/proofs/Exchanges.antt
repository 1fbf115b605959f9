-- What an exchange of a basic variable v and an other variable k does to the split, and to the row of v.
use Rattle.std.specs.Prelude.{◌≡◌, ◌≢◌, ℕ, pos, [], ◌∷◌, refl}
use Rattle.std.specs.List.{Contains}
use Rattle.std.proofs.Common.{ap, sym, ◌∙◌, inl, inr}
use Rattle.fraction_theory.specs.Fraction.{whole, ◌+ℚ◌, ◌*ℚ◌}
use Rattle.fraction_theory.specs.Sums.{sum_by}
use Rattle.fraction_theory.proofs.Ring.{by_ring, at, pnil, ◌⊗◌}
use Rattle.fraction_theory.proofs.FieldLaws.{ring_ℚ}
use Rattle.fraction_theory.proofs.ListSums.{Distinct, same_or_not, sum_by-one}
use Rattle.linear_system.specs.Systems.{System}
use Rattle.linear_system.specs.Choices.{Choice, basics, others, IsChoice, OneExchange, column_entry}
use Rattle.linear_system.proofs.ChoiceLaws.{others_are, is_other, basics_are, is_basic, others_distinct, unit_point, unit_meets, at_unit, column_entry-basic, column_entry-itself, column_entry-other}
use Rattle.simplex_theory.proofs.NameSums.{sum_by-change}
use Rattle.simplex_theory.proofs.Stretches.{two_answers}

module _ (s : System) (h g : Choice) (v k : ℕ) (x : OneExchange s h g v k) where
  pub leaving_basic : Contains (basics s h) v
  leaving_basic = is_basic s h v x.leaving x.leaves.0

  pub leaving_other : Contains (others s g) v
  leaving_other = is_other s g v x.leaving x.leaves.1

  pub entering_other : Contains (others s h) k
  entering_other = is_other s h k x.entering x.enters.0

  pub entering_basic : Contains (basics s g) k
  entering_basic = is_basic s g k x.entering x.enters.1

  pub other_not_leaving : (w : ℕ) → Contains (others s h) w → w ≢ v
  other_not_leaving w c e = two_answers (h.basic v) x.leaves.0 (ap h.basic (sym e) ∙ (others_are s h w c).1)

  pub other_not_entering : (w : ℕ) → Contains (others s g) w → w ≢ k
  other_not_entering w c e = two_answers (g.basic k) x.enters.1 (ap g.basic (sym e) ∙ (others_are s g w c).1)

  -- an other variable that stays one
  pub other_after : (w : ℕ) → Contains (others s h) w → w ≢ k → Contains (others s g) w
  other_after w c n = let a = others_are s h w c in is_other s g w a.0 (sym (x.stays w a.0 (other_not_leaving w c) n) ∙ a.1)

  -- and that was one
  pub other_before : (w : ℕ) → Contains (others s g) w → w ≢ v → Contains (others s h) w
  other_before w c n = let a = others_are s g w c in is_other s h w a.0 (x.stays w a.0 n (other_not_entering w c) ∙ a.1)

  pub basic_before : (b : ℕ) → Contains (basics s g) b → b ≢ k → Contains (basics s h) b
  basic_before b c n =
      let a = basics_are s g b c in
      let not_v : b ≢ v = λ e. two_answers (g.basic v) (ap g.basic (sym e) ∙ a.1) x.leaves.1 in
      is_basic s h b a.0 (x.stays b a.0 not_v n ∙ a.1)

  module _ (distinct : Distinct s.variables) (hh : IsChoice s h) (hg : IsChoice s g) where
    -- v's old row at the point at which w is 1 and the rest of the new others 0
    row_at_unit : (w : ℕ) → Contains (others s g) w → column_entry g v w ≡ sum_by (λ o. h.entry v o *ℚ column_entry g o w) (others s h)
    unfolding unit_point
    row_at_unit w c = (hh.to_table (unit_point g w) (hg.to_rows (unit_point g w) (unit_meets s distinct g w c))).basic v leaving_basic

    -- k's new entry at v is 1 over v's old entry at k
    pub pivot_inverse : h.entry v k *ℚ g.entry k v ≡ whole (pos 1)
    pivot_inverse =
        ap (λ t. h.entry v k *ℚ t) (sym (column_entry-basic g k v x.enters.1))
        ∙ sym (sum_by-one (λ o. h.entry v o *ℚ column_entry g o v) k (others s h) (others_distinct s h distinct) entering_other
        (λ o c n. ap (λ t. h.entry v o *ℚ t) (column_entry-other g o v (others_are s g o (other_after o c n)).1 (other_not_leaving o c)) ∙ by_ring ring_ℚ (h.entry v o ∷ []) (at 0 ⊗ pnil) pnil refl))
        ∙ sym (row_at_unit v leaving_other)
        ∙ column_entry-itself g v x.leaves.1

    same_unit : (w o : ℕ) → Contains (others s h) o → Contains (others s g) o → column_entry g o w ≡ column_entry h o w
    same_unit w o c d = elim (same_or_not o w) [
      | inl e ↦ ap (λ t. column_entry g t w) e ∙ column_entry-itself g w (ap g.basic (sym e) ∙ (others_are s g o d).1)
          ∙ sym (ap (λ t. column_entry h t w) e ∙ column_entry-itself h w (ap h.basic (sym e) ∙ (others_are s h o c).1))
      | inr n ↦ column_entry-other g o w (others_are s g o d).1 n ∙ sym (column_entry-other h o w (others_are s h o c).1 n)
    ]

    -- at another variable w k's new entry is v's old one at w, by that at k, with the sign turned
    pub pivot_row : (w : ℕ) → Contains (others s g) w → w ≢ v → h.entry v w +ℚ h.entry v k *ℚ g.entry k w ≡ whole (pos 0)
    unfolding unit_point
    pivot_row w c n =
        let before = other_before w c n in
        let at_k : h.entry v k *ℚ column_entry h k w ≡ whole (pos 0) =
        ap (λ t. h.entry v k *ℚ t) (column_entry-other h k w x.enters.0 (λ e. other_not_entering w c (sym e))) ∙ by_ring ring_ℚ (h.entry v k ∷ []) (at 0 ⊗ pnil) pnil refl in
        let change = sum_by-change (λ o. h.entry v o *ℚ column_entry g o w) (λ o. h.entry v o *ℚ column_entry h o w) k (others s h) (others_distinct s h distinct) entering_other
        (λ o d m. ap (λ t. h.entry v o *ℚ t) (same_unit w o d (other_after o d m))) in
        ap (λ t. h.entry v w +ℚ h.entry v k *ℚ t) (sym (column_entry-basic g k w x.enters.1))
        ∙ ap (λ t. t +ℚ h.entry v k *ℚ column_entry g k w) (sym (at_unit s distinct h (h.entry v) w before))
        ∙ sym change
        ∙ ap (λ t. sum_by (λ o. h.entry v o *ℚ column_entry g o w) (others s h) +ℚ t) at_k
        ∙ ring_ℚ.plus_nil (sum_by (λ o. h.entry v o *ℚ column_entry g o w) (others s h))
        ∙ sym (row_at_unit w c)
        ∙ column_entry-other g v w x.leaves.1 (λ e. n (sym e))
