-- What a branch has at a bus, and the sums of what branches take out of one.
use Rattle.std.specs.Prelude.{◌≡◌, ◌≢◌, ◌⊎◌, ℕ, ◌+◌, ◌<◌, ◌≤◌, ◌==◌, pos, true, false, not, List, [], ◌∷◌, length, map, take, refl}
use Rattle.std.proofs.Common.{arith, ap, ap₂, sym, ◌∙◌, subst, get_or, inl, inr}
use Rattle.std.proofs.lemmas.Bool.Decides.{eqb_tells}
use Rattle.std.proofs.lemmas.List.{get_or-map, length-map, take_all, take_more}
use Rattle.exact_flows.specs.FlowSystems.{IsSumPair, bus_term, coefficient, flow_coefficient, no_branch}
use Rattle.exact_flows.specs.Lines.{line_branch}
use Rattle.exact_flows.specs.declared.line.Line.{Line}
use Rattle.exact_flows.specs.declared.rows.Row.{Row}
use Rattle.exact_flows.specs.declared.rows.Row.TheVariants.{Flow}
use Rattle.exact_fraction.specs.declared.Op.{Op}
use Rattle.exact_fraction.specs.declared.Op.TheVariants.{Plus}
use Rattle.exact_fraction.specs.declared.Passed.{Passed}
use Rattle.exact_fraction.specs.Passes.{IsTooLarge, IsTooLargeAt, Passes}
use Rattle.fraction_theory.specs.Fraction.{Fraction, whole, ◌+ℚ◌, ◌-ℚ◌, ◌*ℚ◌, neg_ℚ}
use Rattle.fraction_theory.specs.Sums.{sum_by}
use Rattle.fraction_theory.proofs.Ring.{by_ring, at, pnil, pone, pneg, ◌⊕◌, ◌⊗◌, times_nil}
use Rattle.fraction_theory.proofs.FieldLaws.{ring_ℚ}
use Rattle.fraction_theory.proofs.SumLaws.{sum_by-append}
use Rattle.network_theory.specs.Carrying.{one_at, put_through}
use Rattle.network_theory.specs.Networks.{Branch}
use Rattle.exact_flows.proofs.Losses.{nil_times}
use Rattle.exact_flows.proofs.Meanings.{one_here, one_else}

-- ---- at a bus
pub both_ends : (from to bus : ℕ) (x : Fraction) → from ≡ to → whole (pos 0) ≡ put_through from to bus *ℚ x
both_ends from to bus x e =
    let same : one_at from bus ≡ one_at to bus = ap (λ (p : ℕ). one_at p bus) e in
    sym (ap (λ t. t *ℚ x) (ap (λ t. t -ℚ one_at to bus) same ∙ ring_ℚ.plus_neg (one_at to bus)) ∙ nil_times x)

pub first_end : (from to bus : ℕ) (x : Fraction) → from ≡ bus → to ≢ bus → x ≡ put_through from to bus *ℚ x
first_end from to bus x e d =
    by_ring ring_ℚ (x ∷ []) (at 0) ((pone ⊕ pneg pnil) ⊗ at 0) refl ∙ ap (λ t. t *ℚ x) (sym (ap₂ ◌-ℚ◌ (one_here from bus e) (one_else to bus d)))

pub second_end : (from to bus : ℕ) (x : Fraction) → from ≢ bus → to ≡ bus → neg_ℚ x ≡ put_through from to bus *ℚ x
second_end from to bus x d e =
    by_ring ring_ℚ (x ∷ []) (pneg (at 0)) ((pnil ⊕ pneg pone) ⊗ at 0) refl ∙ ap (λ t. t *ℚ x) (sym (ap₂ ◌-ℚ◌ (one_else from bus d) (one_here to bus e)))

pub no_end : (from to bus : ℕ) → from ≢ bus → to ≢ bus → put_through from to bus ≡ whole (pos 0)
no_end from to bus d e = ap₂ ◌-ℚ◌ (one_else from bus d) (one_else to bus e) ∙ by_ring ring_ℚ [] (pnil ⊕ pneg pnil) pnil refl

pub away : (from to bus : ℕ) (x : Fraction) → from ≢ bus → to ≢ bus → whole (pos 0) ≡ put_through from to bus *ℚ x
away from to bus x d e = sym (ap (λ t. t *ℚ x) (no_end from to bus d e) ∙ nil_times x)

pub not_same : (a b : ℕ) → not (a == b) ≡ true → a ≢ b
not_same a b e f = elim (eqb_tells a b) [ inl t ↦ let wrong : false ≡ true = sym (ap not t.0) ∙ e in absurd cc | inr t ↦ t.1 f ]

-- a branch that is not at both adds nothing
pub nothing_taken : (i j : ℕ) (b : Branch) (x : Fraction) → (put_through b.from b.to i ≡ whole (pos 0)) ⊎ (put_through b.from b.to j ≡ whole (pos 0)) → x ≡ x +ℚ bus_term i j b
unfolding bus_term flow_coefficient
nothing_taken i j b x apart =
    let none : put_through b.from b.to i *ℚ (put_through b.from b.to j *ℚ b.susceptance) ≡ whole (pos 0) = elim apart [
      | inl e ↦ ap (λ t. t *ℚ (put_through b.from b.to j *ℚ b.susceptance)) e ∙ nil_times (put_through b.from b.to j *ℚ b.susceptance)
      | inr e ↦ ap (λ t. put_through b.from b.to i *ℚ (t *ℚ b.susceptance)) e ∙ ap (λ t. put_through b.from b.to i *ℚ t) (nil_times b.susceptance) ∙ times_nil ring_ℚ (put_through b.from b.to i)
    ] in
    sym (ap (λ t. x +ℚ t) none ∙ ring_ℚ.plus_nil x)

pub term_taken : (i j : ℕ) (b : Branch) (through term : Fraction) → through ≡ put_through b.from b.to j *ℚ b.susceptance → term ≡ put_through b.from b.to i *ℚ through → term ≡ bus_term i j b
unfolding bus_term flow_coefficient
term_taken i j b through term e f = f ∙ ap (λ t. put_through b.from b.to i *ℚ t) e

-- what a row of a branch gives
pub flow_number : {N : Type 0} (value : N → Fraction) (lines : List (Line N)) (row : Row) (l j : ℕ) (line : Line N) (x : Fraction) → row ≡ Flow l → l < length lines → line ≡ get_or lines l line
    → x ≡ put_through line.from line.to j *ℚ value line.susceptance → x ≡ coefficient (map (line_branch value) lines) row j
unfolding flow_coefficient
flow_number value lines row l j line x e h is f =
    f
    ∙ ap (λ (b : Branch). put_through b.from b.to j *ℚ b.susceptance) (sym (get_or-map (line_branch value) lines l line no_branch h ∙ ap (line_branch value) (sym is)))
    ∙ ap (λ (r : Row). coefficient (map (line_branch value) lines) r j) (sym e)

-- ---- sums
module _ {N : Type 0} (value : N → Fraction) (lines : List (Line N)) (i j : ℕ) where
  abbrev pub branches : List Branch
  branches = map (line_branch value) lines

  pub sum_none : sum_by (bus_term i j) (take 0 (map (line_branch value) lines)) ≡ whole (pos 0)
  sum_none = refl

  branch_at_place : (k : ℕ) (line : Line N) (b : Branch) → k < length lines → line ≡ get_or lines k line → get_or (map (line_branch value) lines) k b ≡ line_branch value line
  branch_at_place k line b h is = get_or-map (line_branch value) lines k line b h ∙ ap (line_branch value) (sym is)

  pub sum_more : (k : ℕ) (line : Line N) → k < length lines → line ≡ get_or lines k line
      → sum_by (bus_term i j) (take (k + 1) (map (line_branch value) lines)) ≡ sum_by (bus_term i j) (take k (map (line_branch value) lines)) +ℚ bus_term i j (line_branch value line)
  sum_more k line h is =
      let b : Branch = line_branch value line in
      let short : k < length (map (line_branch value) lines) = Prim.omega (arith, h, length-map lines (line_branch value)) in
      ap (sum_by (bus_term i j)) (take_more (map (line_branch value) lines) k b short)
      ∙ sum_by-append (bus_term i j) (take k (map (line_branch value) lines)) (get_or (map (line_branch value) lines) k b ∷ [])
      ∙ ap (λ t. sum_by (bus_term i j) (take k (map (line_branch value) lines)) +ℚ t)
      (ring_ℚ.plus_nil (bus_term i j (get_or (map (line_branch value) lines) k b)) ∙ ap (bus_term i j) (branch_at_place k line b h is))

  pub sum_all : (k : ℕ) → length lines ≤ k → sum_by (bus_term i j) (take k (map (line_branch value) lines)) ≡ sum_by (bus_term i j) (map (line_branch value) lines)
  sum_all k h = ap (sum_by (bus_term i j)) (take_all k (map (line_branch value) lines) (Prim.omega (arith, h, length-map lines (line_branch value))))

  -- the two sides of the sum that is refused
  pub sum_pair : (bound k : ℕ) (sum : N) (line : Line N) (e : Passed N) → k < length lines → line ≡ get_or lines k line → value sum ≡ sum_by (bus_term i j) (take k (map (line_branch value) lines))
      → (left : N) × (right : N) × (value left ≡ value sum) × (value right ≡ bus_term i j (line_branch value line)) × IsTooLargeAt value bound Plus left right e
      → IsSumPair (map (line_branch value) lines) bound i j e.op (value e.left) (value e.right)
  sum_pair bound k sum line e h is first (left, right, l, r, large) =
      let p = large.passed in record {
        k = k;
        within = Prim.omega (arith, h, length-map lines (line_branch value));
        adds = p.same_op;
        first = ap value p.same_left ∙ l ∙ first;
        next = ap value p.same_right ∙ r ∙ ap (bus_term i j) (sym (branch_at_place k line no_branch h is));
        too_large = subst (λ (x : N). IsTooLarge bound (value x +ℚ value e.right)) (sym p.same_left) (subst (λ (y : N). IsTooLarge bound (value left +ℚ value y)) (sym p.same_right) large.too_large);
        passes = subst (λ (o : Op). Passes bound o (value e.left) (value e.right)) (sym p.same_op)
            (subst (λ (x : N). Passes bound Plus (value x) (value e.right)) (sym p.same_left) (subst (λ (y : N). Passes bound Plus (value left) (value y)) (sym p.same_right) p.passes));
      }
