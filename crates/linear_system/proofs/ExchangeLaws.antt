-- An exchange makes a choice of a choice.
use Rattle.std.specs.Prelude.{◌≡◌, ◌≢◌, ℕ, ◌==◌, pos, Bool, true, false, not, if◌then◌else◌, [], ◌∷◌, refl}
use Rattle.std.specs.List.{Contains}
use Rattle.std.proofs.Common.{ap, sym, ◌∙◌, inl, inr}
use Rattle.fraction_theory.specs.Fraction.{Fraction, whole, ◌+ℚ◌, ◌*ℚ◌, neg_ℚ, recip_ℚ}
use Rattle.fraction_theory.specs.Sums.{sum_by}
use Rattle.fraction_theory.proofs.Ring.{by_ring, by_ring2, at, pnil, pone, pneg, ◌⊕◌, ◌⊗◌}
use Rattle.fraction_theory.proofs.FieldLaws.{ring_ℚ, *ℚ-recip}
use Rattle.fraction_theory.proofs.SumLaws.{sum_by-nil, sum_by-plus, sum_by-same, sum_by-times}
use Rattle.fraction_theory.proofs.ListSums.{Distinct, Distinct-increasing, kept, sum_by-filter, sum_by-members, sum_by-split, except, put_at, put_at-here, put_at-elsewhere, same_or_not}
use Rattle.linear_system.specs.Systems.{System, IsSystem}
use Rattle.linear_system.specs.Choices.{Choice, basics, others, MeetsTable, IsChoice, OneExchange}
use Rattle.linear_system.specs.Exchanges.{entering_entry, exchanged}
use Rattle.linear_system.proofs.ChoiceLaws.{others_are, basics_are, is_basic, others_distinct}

module _ (s : System) (distinct : Distinct s.variables) (h : Choice) (a b : ℕ) (leaving : Contains (basics s h) a) (entering : Contains (others s h) b) where
  k : Choice
  k = exchanged h a b

  apart : b ≢ a
  apart e = let wrong : true ≡ false = sym (basics_are s h a leaving).1 ∙ ap h.basic (sym e) ∙ (others_are s h b entering).1 in absurd cc

  basic-a : (w : ℕ) → w ≡ a → k.basic w ≡ false
  unfolding k exchanged
  basic-a w e = put_at-here a false (λ x. if x == b then true else h.basic x) w e

  basic-b : (w : ℕ) → w ≡ b → k.basic w ≡ true
  unfolding k exchanged
  basic-b w e = put_at-elsewhere a false (λ x. if x == b then true else h.basic x) w (λ d. apart (sym e ∙ d)) ∙ put_at-here b true h.basic w e

  basic-stays : (w : ℕ) → w ≢ a → w ≢ b → k.basic w ≡ h.basic w
  unfolding k exchanged
  basic-stays w na nb = put_at-elsewhere a false (λ x. if x == b then true else h.basic x) w na ∙ put_at-elsewhere b true h.basic w nb

  -- a sum over the new others is the term of a, and the old others without b
  sum_exchanged : (f : ℕ → Fraction) → sum_by f (others s k) ≡ f a +ℚ sum_by (except b f) (others s h)
  unfolding others
  sum_exchanged f =
      let new : ℕ → Fraction = λ w. kept (not (k.basic w)) (f w) in
      let old : ℕ → Fraction = λ w. kept (not (h.basic w)) (except b f w) in
      sum_by-filter f (λ w. not (k.basic w)) s.variables
      ∙ sum_by-split new a s.variables distinct (basics_are s h a leaving).0
      ∙ ap (λ t. t +ℚ sum_by (except a new) s.variables) (ap (λ (c : Bool). kept (not c) (f a)) (basic-a a refl))
      ∙ ap (λ t. f a +ℚ t)
      (sum_by-members (except a new) old s.variables
      (λ w c. elim (same_or_not w a) [
        | inl e ↦ put_at-here a (whole (pos 0)) new w e
            ∙ sym (ap (λ (z : Bool). kept (not z) (except b f w)) (ap h.basic e ∙ (basics_are s h a leaving).1))
        | inr na ↦ put_at-elsewhere a (whole (pos 0)) new w na
            ∙ elim (same_or_not w b) [
              | inl e ↦ ap (λ (z : Bool). kept (not z) (f w)) (basic-b w e)
                  ∙ sym (ap (λ (z : Bool). kept (not z) (except b f w)) (ap h.basic e ∙ (others_are s h b entering).1) ∙ put_at-here b (whole (pos 0)) f w e)
              | inr nb ↦ ap (λ (z : Bool). kept (not z) (f w)) (basic-stays w na nb)
                  ∙ ap (λ t. kept (not (h.basic w)) t) (sym (put_at-elsewhere b (whole (pos 0)) f w nb))
            ]
      ])
      ∙ sym (sum_by-filter (except b f) (λ w. not (h.basic w)) s.variables))

  module _ (v : ℕ → Fraction) where
    -- a basic variable's terms without that of b
    rest : ℕ → Fraction
    rest x = sum_by (except b (λ w. h.entry x w *ℚ v w)) (others s h)

    old_row : (x : ℕ) → sum_by (λ w. h.entry x w *ℚ v w) (others s h) ≡ h.entry x b *ℚ v b +ℚ rest x
    unfolding rest
    old_row x = sum_by-split (λ w. h.entry x w *ℚ v w) b (others s h) (others_distinct s h distinct) entering

    inverse : Fraction
    inverse = recip_ℚ (h.entry a b)

    -- what the new row of b gives
    entered : Fraction
    entered = inverse *ℚ v a +ℚ neg_ℚ inverse *ℚ rest a

    at_a : entering_entry h a b a ≡ inverse
    unfolding entering_entry inverse
    at_a = put_at-here a (recip_ℚ (h.entry a b)) (λ w. neg_ℚ (h.entry a w) *ℚ recip_ℚ (h.entry a b)) a refl

    at_stays : (w : ℕ) → w ≢ a → entering_entry h a b w ≡ neg_ℚ (h.entry a w) *ℚ inverse
    unfolding entering_entry inverse
    at_stays w n = put_at-elsewhere a (recip_ℚ (h.entry a b)) (λ x. neg_ℚ (h.entry a x) *ℚ recip_ℚ (h.entry a b)) w n

    not_a : (w : ℕ) → Contains (others s h) w → w ≢ a
    not_a w c e = let wrong : true ≡ false = sym (basics_are s h a leaving).1 ∙ ap h.basic (sym e) ∙ (others_are s h w c).1 in absurd cc

    -- the sum over the old others without b, of terms that are a line of one row's
    without : (g f : ℕ → Fraction) (c : Fraction) → ((w : ℕ) → Contains (others s h) w → w ≢ b → g w ≡ f w +ℚ c *ℚ (h.entry a w *ℚ v w))
        → sum_by (except b g) (others s h) ≡ sum_by (except b f) (others s h) +ℚ c *ℚ rest a
    unfolding rest
    without g f c each =
        let e : ℕ → Fraction = except b (λ w. h.entry a w *ℚ v w) in
        sum_by-members (except b g) (λ w. except b f w +ℚ c *ℚ e w) (others s h)
        (λ w m. elim (same_or_not w b) [
          | inl d ↦ put_at-here b (whole (pos 0)) g w d
              ∙ by_ring ring_ℚ (c ∷ []) pnil (pnil ⊕ at 0 ⊗ pnil) refl
              ∙ ap (λ t. t +ℚ c *ℚ whole (pos 0)) (sym (put_at-here b (whole (pos 0)) f w d))
              ∙ ap (λ t. except b f w +ℚ c *ℚ t) (sym (put_at-here b (whole (pos 0)) (λ x. h.entry a x *ℚ v x) w d))
          | inr n ↦ put_at-elsewhere b (whole (pos 0)) g w n ∙ each w m n
              ∙ ap (λ t. t +ℚ c *ℚ (h.entry a w *ℚ v w)) (sym (put_at-elsewhere b (whole (pos 0)) f w n))
              ∙ ap (λ t. except b f w +ℚ c *ℚ t) (sym (put_at-elsewhere b (whole (pos 0)) (λ x. h.entry a x *ℚ v x) w n))
        ])
        ∙ sum_by-plus (except b f) (λ w. c *ℚ e w) (others s h)
        ∙ ap (λ t. sum_by (except b f) (others s h) +ℚ t) (sum_by-times c e (others s h))

    new_row-b : (x : ℕ) → x ≡ b → sum_by (λ w. k.entry x w *ℚ v w) (others s k) ≡ entered
    unfolding k exchanged entered
    new_row-b x e =
        sum_by-same (λ w. k.entry x w *ℚ v w) (λ w. entering_entry h a b w *ℚ v w) (others s k)
        (λ w. ap (λ t. t *ℚ v w) (put_at-here b (entering_entry h a b w) (λ y. (if w == a then whole (pos 0) else h.entry y w) +ℚ h.entry y b *ℚ entering_entry h a b w) x e))
        ∙ sum_exchanged (λ w. entering_entry h a b w *ℚ v w)
        ∙ ap (λ t. t *ℚ v a +ℚ sum_by (except b (λ w. entering_entry h a b w *ℚ v w)) (others s h)) at_a
        ∙ ap (λ t. inverse *ℚ v a +ℚ t)
        (without (λ w. entering_entry h a b w *ℚ v w) (λ _. whole (pos 0)) (neg_ℚ inverse)
        (λ w m n. ap (λ t. t *ℚ v w) (at_stays w (not_a w m))
        ∙ by_ring ring_ℚ (h.entry a w ∷ inverse ∷ v w ∷ []) (pneg (at 0) ⊗ at 1 ⊗ at 2) (pnil ⊕ pneg (at 1) ⊗ (at 0 ⊗ at 2)) refl)
        ∙ ap (λ t. t +ℚ neg_ℚ inverse *ℚ rest a) nothing
        ∙ by_ring ring_ℚ ((neg_ℚ inverse *ℚ rest a) ∷ []) (pnil ⊕ at 0) (at 0) refl)
      where
        nothing : sum_by (except b (λ _. whole (pos 0))) (others s h) ≡ whole (pos 0)
        nothing = sum_by-members (except b (λ _. whole (pos 0))) (λ _. whole (pos 0)) (others s h)
            (λ w m. elim (same_or_not w b) [ inl d ↦ put_at-here b (whole (pos 0)) (λ _. whole (pos 0)) w d | inr n ↦ put_at-elsewhere b (whole (pos 0)) (λ _. whole (pos 0)) w n ])
            ∙ sum_by-nil (others s h)

    new_row-stays : (x : ℕ) → x ≢ b → sum_by (λ w. k.entry x w *ℚ v w) (others s k) ≡ rest x +ℚ h.entry x b *ℚ entered
    unfolding k exchanged entered rest
    new_row-stays x n =
        let g : ℕ → Fraction = λ w. (put_at a (whole (pos 0)) (h.entry x) w +ℚ h.entry x b *ℚ entering_entry h a b w) *ℚ v w in
        sum_by-same (λ w. k.entry x w *ℚ v w) g (others s k)
        (λ w. ap (λ t. t *ℚ v w) (put_at-elsewhere b (entering_entry h a b w) (λ y. (if w == a then whole (pos 0) else h.entry y w) +ℚ h.entry y b *ℚ entering_entry h a b w) x n))
        ∙ sum_exchanged g
        ∙ ap (λ t. (t +ℚ h.entry x b *ℚ entering_entry h a b a) *ℚ v a +ℚ sum_by (except b g) (others s h)) (put_at-here a (whole (pos 0)) (h.entry x) a refl)
        ∙ ap (λ t. (whole (pos 0) +ℚ h.entry x b *ℚ t) *ℚ v a +ℚ sum_by (except b g) (others s h)) at_a
        ∙ ap (λ t. (whole (pos 0) +ℚ h.entry x b *ℚ inverse) *ℚ v a +ℚ t)
        (without g (λ w. h.entry x w *ℚ v w) (h.entry x b *ℚ neg_ℚ inverse)
        (λ w m d. ap (λ t. (t +ℚ h.entry x b *ℚ entering_entry h a b w) *ℚ v w) (put_at-elsewhere a (whole (pos 0)) (h.entry x) w (not_a w m))
        ∙ ap (λ t. (h.entry x w +ℚ h.entry x b *ℚ t) *ℚ v w) (at_stays w (not_a w m))
        ∙ by_ring ring_ℚ (h.entry x w ∷ h.entry x b ∷ h.entry a w ∷ inverse ∷ v w ∷ []) ((at 0 ⊕ at 1 ⊗ (pneg (at 2) ⊗ at 3)) ⊗ at 4) (at 0 ⊗ at 4 ⊕ at 1 ⊗ pneg (at 3) ⊗ (at 2 ⊗ at 4)) refl))
        ∙ by_ring ring_ℚ (h.entry x b ∷ inverse ∷ v a ∷ rest x ∷ rest a ∷ [])
        ((pnil ⊕ at 0 ⊗ at 1) ⊗ at 2 ⊕ (at 3 ⊕ at 0 ⊗ pneg (at 1) ⊗ at 4)) (at 3 ⊕ at 0 ⊗ (at 1 ⊗ at 2 ⊕ pneg (at 1) ⊗ at 4)) refl

    module _ (not_nil : h.entry a b ≢ whole (pos 0)) where
      one : h.entry a b *ℚ inverse ≡ whole (pos 1)
      unfolding inverse
      one = *ℚ-recip (h.entry a b) not_nil

      exchange_forth : MeetsTable s h v → MeetsTable s k v
      unfolding entered
      exchange_forth m =
          let row_a : v a ≡ h.entry a b *ℚ v b +ℚ rest a = m.basic a leaving ∙ old_row a in
          let enters : v b ≡ entered =
          by_ring2 ring_ℚ (v a ∷ v b ∷ h.entry a b ∷ inverse ∷ rest a ∷ []) (at 1) (at 3 ⊗ at 0 ⊕ pneg (at 3) ⊗ at 4)
          (pneg (at 3)) (at 0) (at 2 ⊗ at 1 ⊕ at 4) (pneg (at 1)) (at 2 ⊗ at 3) pone row_a one refl in
          record {
            basic = λ x c. elim (same_or_not x b) [
              | inl e ↦ ap v e ∙ enters ∙ sym (new_row-b x e)
              | inr n ↦
                  let nx : x ≢ a = λ e. let wrong : true ≡ false = sym (basics_are s k x c).1 ∙ basic-a x e in absurd cc in
                  let old : Contains (basics s h) x = is_basic s h x (basics_are s k x c).0 (sym (basic-stays x nx n) ∙ (basics_are s k x c).1) in
                  m.basic x old ∙ old_row x ∙ ap (λ t. h.entry x b *ℚ t +ℚ rest x) enters ∙ ring_ℚ.plus_comm (h.entry x b *ℚ entered) (rest x) ∙ sym (new_row-stays x n)
            ];
          }

      exchange_back : MeetsTable s k v → MeetsTable s h v
      unfolding entered
      exchange_back m =
          let in_k : Contains (basics s k) b = is_basic s k b (others_are s h b entering).0 (basic-b b refl) in
          let enters : v b ≡ entered = m.basic b in_k ∙ new_row-b b refl in
          let row_a : v a ≡ h.entry a b *ℚ v b +ℚ rest a =
          by_ring2 ring_ℚ (v a ∷ v b ∷ h.entry a b ∷ inverse ∷ rest a ∷ []) (at 0) (at 2 ⊗ at 1 ⊕ at 4)
          (pneg (at 2)) (at 1) (at 3 ⊗ at 0 ⊕ pneg (at 3) ⊗ at 4) (pneg (at 0) ⊕ at 4) (at 2 ⊗ at 3) pone enters one refl in
          record {
            basic = λ x c. elim (same_or_not x a) [
              | inl e ↦ ap v e ∙ row_a ∙ sym (old_row a) ∙ ap (λ (t : ℕ). sum_by (λ w. h.entry t w *ℚ v w) (others s h)) (sym e)
              | inr na ↦
                  let nb : x ≢ b = λ e. let wrong : true ≡ false = sym (basics_are s h x c).1 ∙ ap h.basic e ∙ (others_are s h b entering).1 in absurd cc in
                  let new : Contains (basics s k) x = is_basic s k x (basics_are s h x c).0 (basic-stays x na nb ∙ (basics_are s h x c).1) in
                  m.basic x new ∙ new_row-stays x nb ∙ ring_ℚ.plus_comm (rest x) (h.entry x b *ℚ entered) ∙ ap (λ t. h.entry x b *ℚ t +ℚ rest x) (sym enters) ∙ sym (old_row x)
            ];
          }

-- The exchange of a basic variable for an other one whose entry is not 0 makes a choice, of one exchange.
pub exchanged_is : (s : System) → IsSystem s → (h : Choice) (a b : ℕ) → IsChoice s h → Contains (basics s h) a → Contains (others s h) b → h.entry a b ≢ whole (pos 0) → IsChoice s (exchanged h a b)
unfolding k
exchanged_is s system h a b choice ca cb n =
    let d : Distinct s.variables = Distinct-increasing s.variables system.ascending in record {
      to_table = λ v m. exchange_forth s d h a b ca cb v n (choice.to_table v m);
      to_rows = λ v m. choice.to_rows v (exchange_back s d h a b ca cb v n m);
    }

pub exchanged_once : (s : System) → IsSystem s → (h : Choice) (a b : ℕ) → Contains (basics s h) a → Contains (others s h) b → OneExchange s h (exchanged h a b) a b
unfolding k
exchanged_once s system h a b ca cb =
    let d : Distinct s.variables = Distinct-increasing s.variables system.ascending in record {
      leaving = (basics_are s h a ca).0;
      entering = (others_are s h b cb).0;
      leaves = ((basics_are s h a ca).1, basic-a s d h a b ca cb a refl);
      enters = ((others_are s h b cb).1, basic-b s d h a b ca cb b refl);
      stays = λ w c na nb. sym (basic-stays s d h a b ca cb w na nb);
    }
