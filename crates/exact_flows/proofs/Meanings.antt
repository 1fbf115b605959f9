-- What the rows of a network's system say of a point that meets them: its angles have these flows and injections.
use Rattle.std.specs.Prelude.{◌≡◌, ◌≢◌, ℕ, ◌<◌, pos, Bool, if◌then◌else◌, List, [], ◌∷◌, length, slice_index_or, refl}
use Rattle.std.specs.List.{Contains}
use Rattle.std.proofs.Common.{zero, suc, arith, ap, ap₂, sym, ◌∙◌, inl, inr}
use Rattle.std.proofs.lemmas.Bool.Decides.{eqb_tells}
use Rattle.exact_flows.specs.FlowSystems.{IsFlowSystem, IsRowOf, IsSystemRow, bus_term, coefficient, flow_coefficient, name, no_branch}
use Rattle.exact_flows.specs.declared.rows.Row.{Row}
use Rattle.exact_flows.specs.declared.rows.Row.TheVariants.{Flow, Injection}
use Rattle.fraction_theory.specs.Fraction.{Fraction, whole, ◌-ℚ◌, ◌*ℚ◌}
use Rattle.fraction_theory.specs.Sums.{sum_by}
use Rattle.fraction_theory.proofs.Ring.{by_ring, at, pone, pneg, ◌⊕◌, ◌⊗◌}
use Rattle.fraction_theory.proofs.FieldLaws.{ring_ℚ}
use Rattle.fraction_theory.proofs.SumLaws.{sum_by-same, sum_by-nil, sum_by-times, sum_by-exchange}
use Rattle.fraction_theory.proofs.ListSums.{Distinct-increasing, except, put_at-here, put_at-elsewhere, same_or_not, sum_by-members, sum_by-one}
use Rattle.linear_system.specs.Systems.{System, MeetsRows, activity}
use Rattle.network_theory.specs.Carrying.{one_at, put_through}
use Rattle.network_theory.specs.Networks.{Branch, Network, IsTheoryNetwork, StandsAt, flow, injection}
use Rattle.network_theory.proofs.ByParts.{taken, injection_taken}
use Rattle.network_theory.proofs.Outages.{taken_ends}
use Rattle.network_theory.proofs.SignedSums.{sum_by-minus}
use Rattle.exact_flows.proofs.Losses.{nil_times}

pub one_here : (p w : ℕ) → p ≡ w → one_at p w ≡ whole (pos 1)
one_here p w e = elim (eqb_tells p w) [ inl t ↦ ap (λ (b : Bool). if b then whole (pos 1) else whole (pos 0)) t.0 | inr t ↦ absurd (t.1 e) ]

pub one_else : (p w : ℕ) → p ≢ w → one_at p w ≡ whole (pos 0)
one_else p w d = elim (eqb_tells p w) [ inl t ↦ absurd (d t.1) | inr t ↦ ap (λ (b : Bool). if b then whole (pos 1) else whole (pos 0)) t.0 ]

-- a default says nothing of a place that is within
pub read_any : {X : Type 0} (xs : List X) (k : ℕ) (x y : X) → k < length xs → slice_index_or xs k x ≡ slice_index_or xs k y
read_any [] k x y h = absurd (Prim.omega (arith, h))
read_any (z ∷ zs) zero x y h = refl
read_any (z ∷ zs) (suc k) x y h = read_any zs k x y (Prim.omega (arith, h))

module _ (n : Network) (reference : ℕ) (is : IsTheoryNetwork n) (s : System) (system : IsFlowSystem n reference s) (v : ℕ → Fraction) (meets : MeetsRows s v) where
  -- its angles, with 0 at the reference
  abbrev pub angle : ℕ → Fraction
  angle = except reference v

  pub angle_reference : angle reference ≡ whole (pos 0)
  angle_reference = put_at-here reference (whole (pos 0)) v reference refl

  pub angle_other : (i : ℕ) → i ≢ reference → angle i ≡ v i
  angle_other i d = put_at-elsewhere reference (whole (pos 0)) v i d

  at_one : (p : ℕ) → p < n.buses → sum_by (λ j. one_at p j *ℚ v j) s.columns ≡ angle p
  at_one p h = elim (same_or_not p reference) [
    | inl e ↦ sum_by-members (λ j. one_at p j *ℚ v j) (λ _. whole (pos 0)) s.columns
        (λ j c. ap (λ t. t *ℚ v j) (one_else p j (λ f. ((system.column j).0 c).1 (sym f ∙ e))) ∙ nil_times (v j))
        ∙ sum_by-nil s.columns ∙ sym (put_at-here reference (whole (pos 0)) v p e)
    | inr d ↦ sum_by-one (λ j. one_at p j *ℚ v j) p s.columns (Distinct-increasing s.columns system.is_system.columns_ascend) ((system.column p).1 (h, d))
        (λ j c apart. ap (λ t. t *ℚ v j) (one_else p j (λ f. apart (sym f))) ∙ nil_times (v j))
        ∙ ap (λ t. t *ℚ v p) (one_here p p refl) ∙ by_ring ring_ℚ (v p ∷ []) (pone ⊗ at 0) (at 0) refl ∙ sym (angle_other p d)
  ]

  flow_sum : (b : Branch) → Contains n.branches b → sum_by (λ j. flow_coefficient b j *ℚ v j) s.columns ≡ flow angle b
  unfolding flow_coefficient
  flow_sum b c =
      sum_by-same (λ j. flow_coefficient b j *ℚ v j) (λ j. b.susceptance *ℚ (one_at b.from j *ℚ v j -ℚ one_at b.to j *ℚ v j)) s.columns
      (λ j. by_ring ring_ℚ (one_at b.from j ∷ one_at b.to j ∷ b.susceptance ∷ v j ∷ [])
      (((at 0 ⊕ pneg (at 1)) ⊗ at 2) ⊗ at 3) (at 2 ⊗ ((at 0 ⊗ at 3) ⊕ pneg (at 1 ⊗ at 3))) refl)
      ∙ sum_by-times b.susceptance (λ j. one_at b.from j *ℚ v j -ℚ one_at b.to j *ℚ v j) s.columns
      ∙ ap (λ t. b.susceptance *ℚ t)
      (sum_by-minus (λ j. one_at b.from j *ℚ v j) (λ j. one_at b.to j *ℚ v j) s.columns
      ∙ ap₂ ◌-ℚ◌ (at_one b.from (is.branches b c).from) (at_one b.to (is.branches b c).to))

  bus_sum : (i : ℕ) → sum_by (λ j. sum_by (bus_term i j) n.branches *ℚ v j) s.columns ≡ injection n angle i
  unfolding bus_term
  bus_sum i =
      sum_by-same (λ j. sum_by (bus_term i j) n.branches *ℚ v j) (λ j. sum_by (λ b. v j *ℚ bus_term i j b) n.branches) s.columns
      (λ j. ring_ℚ.times_comm (sum_by (bus_term i j) n.branches) (v j) ∙ sym (sum_by-times (v j) (bus_term i j) n.branches))
      ∙ sum_by-exchange (λ j b. v j *ℚ bus_term i j b) s.columns n.branches
      ∙ sum_by-members (λ b. sum_by (λ j. v j *ℚ bus_term i j b) s.columns) (taken angle i) n.branches
      (λ b c.
      sum_by-same (λ j. v j *ℚ bus_term i j b) (λ j. put_through b.from b.to i *ℚ (flow_coefficient b j *ℚ v j)) s.columns
      (λ j. by_ring ring_ℚ (v j ∷ put_through b.from b.to i ∷ flow_coefficient b j ∷ []) (at 0 ⊗ (at 1 ⊗ at 2)) (at 1 ⊗ (at 2 ⊗ at 0)) refl)
      ∙ sum_by-times (put_through b.from b.to i) (λ j. flow_coefficient b j *ℚ v j) s.columns
      ∙ ap (λ t. put_through b.from b.to i *ℚ t) (flow_sum b c)
      ∙ sym (taken_ends angle i b))
      ∙ sym (injection_taken n angle i)

  row_value : (r : ℕ) → Contains s.rows r → (row : IsSystemRow n reference s r) → v r ≡ sum_by (λ j. coefficient n.branches row.row j *ℚ v j) s.columns
  unfolding activity
  row_value r c row = meets.row r c ∙ sum_by-members (λ j. s.coefficient r j *ℚ v j) (λ j. coefficient n.branches row.row j *ℚ v j) s.columns (λ j k. ap (λ t. t *ℚ v j) (row.coefficients j k))

  -- rows of one name are one
  pub flow_row : (l : ℕ) (b : Branch) → StandsAt n l b → Contains s.rows (name n.buses (Flow l)) → v (name n.buses (Flow l)) ≡ flow angle b
  flow_row l b stands c = of_row (system.row (name n.buses (Flow l)) c).row (system.row (name n.buses (Flow l)) c).is (system.row (name n.buses (Flow l)) c).named
      (row_value (name n.buses (Flow l)) c (system.row (name n.buses (Flow l)) c))
    where
      of_row : (row : Row) → IsRowOf n reference row → name n.buses (Flow l) ≡ name n.buses row
          → v (name n.buses (Flow l)) ≡ sum_by (λ j. coefficient n.branches row j *ℚ v j) s.columns → v (name n.buses (Flow l)) ≡ flow angle b
      of_row (Flow k) _ e f =
          let same : k ≡ l = Prim.omega (arith, e) in
          let branch : slice_index_or n.branches k no_branch ≡ b = ap (λ (t : ℕ). slice_index_or n.branches t no_branch) same ∙ read_any n.branches l no_branch b stands.within ∙ stands.there in
          f ∙ ap (λ (t : Branch). sum_by (λ j. flow_coefficient t j *ℚ v j) s.columns) branch
          ∙ flow_sum b (l, stands.within, stands.there)
      of_row (Injection i) h e f = absurd (Prim.omega (arith, e, h.0))

  pub bus_row : (i : ℕ) → i < n.buses → Contains s.rows (name n.buses (Injection i)) → v (name n.buses (Injection i)) ≡ injection n angle i
  bus_row i below c = of_row (system.row (name n.buses (Injection i)) c).row (system.row (name n.buses (Injection i)) c).is (system.row (name n.buses (Injection i)) c).named
      (row_value (name n.buses (Injection i)) c (system.row (name n.buses (Injection i)) c))
    where
      of_row : (row : Row) → IsRowOf n reference row → name n.buses (Injection i) ≡ name n.buses row
          → v (name n.buses (Injection i)) ≡ sum_by (λ j. coefficient n.branches row j *ℚ v j) s.columns → v (name n.buses (Injection i)) ≡ injection n angle i
      of_row (Flow k) _ e f = absurd (Prim.omega (arith, e, below))
      of_row (Injection k) h e f =
          let same : k ≡ i = Prim.omega (arith, e) in
          f ∙ bus_sum k ∙ ap (injection n angle) same
