-- The search for the variable that enters: the best candidate of the ranks so far.
use Rattle.std.specs.Prelude.{◌≡◌, ℕ, ◌+◌, ◌<◌, ◌≤◌, pos, Bool, [], ◌∷◌, Option, Some, None, length, slice_index, ◌⊎◌, refl}
use Rattle.std.specs.List.{Contains}
use Rattle.std.proofs.Common.{arith, ap, sym, ◌∙◌, subst, subst₂, inl, inr}
use Rattle.std.proofs.lemmas.Bool.{cases_lt}
use Rattle.fraction_theory.specs.Fraction.{Fraction, whole, ◌*ℚ◌, recip_ℚ}
use Rattle.fraction_theory.specs.Order.{◌<ℚ◌, ◌≤ℚ◌}
use Rattle.fraction_theory.proofs.FieldLaws.{ring_ℚ, *ℚ-recip}
use Rattle.fraction_theory.proofs.OrderLaws.{NonNeg_from, *ℚ-≤ℚ, *ℚ-<ℚ, <ℚ-≤ℚ, <ℚ-not-≤ℚ, <ℚ_irrefl, not-≤ℚ}
use Rattle.fraction_theory.proofs.Ring.{at, by_ring, by_ring1, pmul, pnil, pone}
use Rattle.linear_system.proofs.ChoiceLaws.{others_are}
use Rattle.linear_dict.specs.Dictionaries.{Dictionary, IsDictionary, system_in}
use Rattle.linear_dict.specs.Places.{place_in}
use Rattle.simplex_theory.specs.Steps.{Helps}
use Rattle.simplex_theory.proofs.LeastRatio.{IsLeast, least_alone, least_kept, least_replaced, help_above, least_enters}
use Rattle.simplex_core.specs.States.{state_of}
use Rattle.simplex_core.specs.Searches.{IsSized, IsLesser, IsEntering}
use Rattle.simplex_core.specs.declared.enter.Candidate.{Candidate}
use Rattle.simplex_core.proofs.Ranks.{name_below, rank_of, at_rank}
use Rattle.fraction_theory.specs.Signs.{abs_ℚ}

-- the same candidates have the same least ratio
pub least_same : (p q : ℕ → Type 0) (d e : ℕ → Fraction) (k : ℕ) → ((w : ℕ) → p w → q w) → ((w : ℕ) → q w → p w) → IsLeast p d e k → IsLeast q d e k
least_same p q d e k to from l = record { one = to k l.one; ratio = λ w c. l.ratio w (from w c); least = λ w c s. l.least w (from w c) s }

-- a variable of a rank below k that helps v
pub record Earlier (d : Dictionary) (v : ℕ) (above : Bool) (k : ℕ) (w : ℕ) : Type 0 where
  pub helps : Helps (system_in d) (state_of d) v above w
  pub rank : place_in d.names w < k

abbrev pub price_of : Dictionary → ℕ → Fraction
price_of d w = abs_ℚ ((state_of d).reduced w)

abbrev pub row_of : Dictionary → ℕ → ℕ → Fraction
row_of d v w = abs_ℚ ((state_of d).choice.entry v w)

-- the best candidate of the ranks below k
abbrev pub IsBestSoFar : {N : Type 0} → (N → Fraction) → Dictionary → ℕ → Bool → ℕ → Option (Candidate N) → Type 0
IsBestSoFar value d v above k None = (w : ℕ) → ¬ (Earlier d v above k w)
IsBestSoFar value d v above k (Some j) = IsSized value d v j × IsLeast (Earlier d v above k) (price_of d) (row_of d v) j.name

-- two ratios over numbers above 0, and their products across
module _ (p e q f : Fraction) (he : whole (pos 0) <ℚ e) (hf : whole (pos 0) <ℚ f) where
  abbrev both : Fraction
  both = e *ℚ f

  both_above : whole (pos 0) <ℚ both
  both_above = subst (λ t. t <ℚ (e *ℚ f)) (by_ring ring_ℚ (e ∷ []) (pmul (at 0) pnil) pnil refl) (*ℚ-<ℚ e (whole (pos 0)) f he hf)

  inverse : (x : Fraction) → whole (pos 0) <ℚ x → x *ℚ recip_ℚ x ≡ whole (pos 1)
  inverse x h = *ℚ-recip x (λ z. <ℚ_irrefl x (subst (λ t. t <ℚ x) (sym z) h))

  left : both *ℚ (p *ℚ recip_ℚ e) ≡ p *ℚ f
  left = by_ring1 ring_ℚ (p ∷ e ∷ f ∷ recip_ℚ e ∷ []) (pmul (pmul (at 1) (at 2)) (pmul (at 0) (at 3))) (pmul (at 0) (at 2)) (pmul (at 0) (at 2)) (pmul (at 1) (at 3)) pone (inverse e he) refl

  right : both *ℚ (q *ℚ recip_ℚ f) ≡ q *ℚ e
  right = by_ring1 ring_ℚ (q ∷ e ∷ f ∷ recip_ℚ f ∷ []) (pmul (pmul (at 1) (at 2)) (pmul (at 0) (at 3))) (pmul (at 0) (at 1)) (pmul (at 0) (at 1)) (pmul (at 2) (at 3)) pone (inverse f hf) refl

  products_of_ratios : (p *ℚ recip_ℚ e) <ℚ (q *ℚ recip_ℚ f) → (p *ℚ f) <ℚ (q *ℚ e)
  products_of_ratios l = subst₂ ◌<ℚ◌ left right (*ℚ-<ℚ both (p *ℚ recip_ℚ e) (q *ℚ recip_ℚ f) both_above l)

  ratios_of_products : (p *ℚ f) <ℚ (q *ℚ e) → (p *ℚ recip_ℚ e) <ℚ (q *ℚ recip_ℚ f)
  ratios_of_products l = not-≤ℚ (q *ℚ recip_ℚ f) (p *ℚ recip_ℚ e) (λ h. <ℚ-not-≤ℚ (p *ℚ f) (q *ℚ e) l
      (subst₂ ◌≤ℚ◌ right left (*ℚ-≤ℚ both (q *ℚ recip_ℚ f) (p *ℚ recip_ℚ e) (NonNeg_from both (<ℚ-≤ℚ (whole (pos 0)) both both_above)) h)))

module _ {N : Type 0} (value : N → Fraction) (d : Dictionary) (h : IsDictionary d) (v : ℕ) (above : Bool) where
  pub best_start : IsBestSoFar value d v above 0 None
  best_start = λ w e. Prim.omega (arith, e.rank)

  helper_named : (w : ℕ) → Helps (system_in d) (state_of d) v above w → Contains d.names w
  unfolding system_in
  helper_named w p = (others_are (system_in d) (state_of d).choice w p.other).0

  earlier_more : (k w : ℕ) → Earlier d v above k w → Earlier d v above (k + 1) w
  earlier_more k w e = record { helps = e.helps; rank = Prim.omega (arith, e.rank) }

  -- one of a rank below k + 1 is of one below k, or the one of rank k
  earlier_cases : (k w : ℕ) → Earlier d v above (k + 1) w → Earlier d v above k w ⊎ (w ≡ slice_index d.names k)
  earlier_cases k w e = elim (cases_lt (place_in d.names w) k) [
    | inl l ↦ inl (record { helps = e.helps; rank = l })
    | inr l ↦
        let at = at_rank d h w (helper_named w e.helps) in
        let same : place_in d.names w ≡ k = Prim.omega (arith, e.rank, l) in
        inr (sym at.1 ∙ ap (slice_index d.names) same)
  ]

  earlier_below : (k w : ℕ) → k < length d.names → Earlier d v above k w → w < slice_index d.names k
  earlier_below k w hk e =
      let at = at_rank d h w (helper_named w e.helps) in
      Prim.omega (arith, at.1, name_below d h (place_in d.names w) k e.rank hk)

  entry_above : (k w : ℕ) → Earlier d v above k w → whole (pos 0) <ℚ row_of d v w
  entry_above k w e = help_above (system_in d) (state_of d) v above w e.helps

  module _ (k : ℕ) (hk : k < length d.names) where
    pub best_skip : (b : Option (Candidate N)) → ¬ (Helps (system_in d) (state_of d) v above (slice_index d.names k)) → IsBestSoFar value d v above k b → IsBestSoFar value d v above (k + 1) b
    best_skip None idle p = λ w e. elim (earlier_cases k w e) [
      | inl l ↦ p w l
      | inr q ↦ idle (subst (λ (x : ℕ). Helps (system_in d) (state_of d) v above x) q e.helps)
    ]
    best_skip (Some j) idle p = (
      p.0,
      least_same (Earlier d v above k) (Earlier d v above (k + 1)) (price_of d) (row_of d v) j.name (earlier_more k)
          (λ w e. elim (earlier_cases k w e) [
            | inl l ↦ l
            | inr q ↦ absurd (idle (subst (λ (x : ℕ). Helps (system_in d) (state_of d) v above x) q e.helps))
          ])
          p.1,
    )

    module _ (next : Candidate N) (name : next.name ≡ slice_index d.names k) (helps : Helps (system_in d) (state_of d) v above next.name) (sized : IsSized value d v next) where
      newest : Earlier d v above (k + 1) next.name
      newest = record { helps = helps; rank = Prim.omega (arith, ap (place_in d.names) name, rank_of d h k hk) }

      or_newest : (w : ℕ) → Earlier d v above (k + 1) w → Earlier d v above k w ⊎ (w ≡ next.name)
      or_newest w e = elim (earlier_cases k w e) [ inl l ↦ inl l | inr q ↦ inr (q ∙ sym name) ]

      -- the ratios are in the order of the products
      below_by : (one other : Candidate N) → IsSized value d v one → IsSized value d v other → whole (pos 0) <ℚ row_of d v one.name → whole (pos 0) <ℚ row_of d v other.name
          → (value one.ratio <ℚ value other.ratio → (price_of d one.name *ℚ row_of d v other.name) <ℚ (price_of d other.name *ℚ row_of d v one.name))
          × ((price_of d one.name *ℚ row_of d v other.name) <ℚ (price_of d other.name *ℚ row_of d v one.name) → value one.ratio <ℚ value other.ratio)
      unfolding state_of
      below_by one other p q h k = (
        λ l. products_of_ratios (price_of d one.name) (row_of d v one.name) (price_of d other.name) (row_of d v other.name) h k (subst₂ ◌<ℚ◌ p.ratio q.ratio l),
        λ l. subst₂ ◌<ℚ◌ (sym p.ratio) (sym q.ratio) (ratios_of_products (price_of d one.name) (row_of d v one.name) (price_of d other.name) (row_of d v other.name) h k l),
      )

      pub best_more : (b : Option (Candidate N)) (r : Candidate N) → IsLesser value b next r → IsBestSoFar value d v above k b → IsBestSoFar value d v above (k + 1) (Some r)
      best_more None r e p = subst (λ (x : Candidate N). IsSized value d v x × IsLeast (Earlier d v above (k + 1)) (price_of d) (row_of d v) x.name) (sym e) (
        sized,
        least_alone (Earlier d v above (k + 1)) (price_of d) (row_of d v) next.name newest (λ w f. elim (or_newest w f) [ inl l ↦ absurd (p w l) | inr q ↦ q ]),
      )
      best_more (Some j) r e p = elim e [
        | inl lower ↦ subst (λ (x : Candidate N). IsSized value d v x × IsLeast (Earlier d v above (k + 1)) (price_of d) (row_of d v) x.name) (sym lower.1) (
          sized,
          least_replaced (Earlier d v above k) (Earlier d v above (k + 1)) (price_of d) (row_of d v) j.name next.name p.1 or_newest newest (entry_above (k + 1)) (entry_above k)
              ((below_by next j sized p.0 (entry_above (k + 1) next.name newest) (entry_above k j.name p.1.one)).0 lower.0),
        )
        | inr kept ↦ subst (λ (x : Candidate N). IsSized value d v x × IsLeast (Earlier d v above (k + 1)) (price_of d) (row_of d v) x.name) (sym kept.1) (
          p.0,
          least_kept (Earlier d v above k) (Earlier d v above (k + 1)) (price_of d) (row_of d v) j.name next.name p.1 or_newest (earlier_more k j.name p.1.one)
              (Prim.omega (arith, name, earlier_below k j.name hk p.1.one))
              (λ l. kept.0 ((below_by next j sized p.0 (entry_above (k + 1) next.name newest) (entry_above k j.name p.1.one)).1 l)),
        )
      ]

  pub best_end : (k : ℕ) (b : Option (Candidate N)) → length d.names ≤ k → IsBestSoFar value d v above k b → IsEntering d v above b
  best_end k None past p = λ w helps. p w (record { helps = helps; rank = Prim.omega (arith, past, (at_rank d h w (helper_named w helps)).0) })
  best_end k (Some j) past p = (
    p.0.within,
    p.0.place,
    least_enters (system_in d) (state_of d) v above j.name
        (least_same (Earlier d v above k) (Helps (system_in d) (state_of d) v above) (price_of d) (row_of d v) j.name (λ w e. e.helps)
        (λ w helps. record { helps = helps; rank = Prim.omega (arith, past, (at_rank d h w (helper_named w helps)).0) }) p.1),
  )
