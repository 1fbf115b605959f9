-- What leaves a bus over one more branch.
use Rattle.std.proofs.Common.{◌≡◌, ◌≢◌, ◌∙◌, ℕ, ◌+◌, ◌*◌, ◌≤◌, ◌<◌, ◌==◌, ◌||◌, ℤ, pos, ◌+ℤ◌, ◌-ℤ◌, neg_ℤ, unsigned_abs, Bool, true, false, cond, List, [], ◌∷◌, ◌++◌, length, get_or, set, length-set, sym, ap, subst, refl, arith, inl, inr, get_or-set_same, get_or-set_other}
use Rattle.std.specs.Prelude.{◌⊎◌}
use mathlib.Core.Path.{ap₂}
use Rattle.std.proofs.Common.{w64, to_z, of_z}
use Rattle.std.proofs.lemmas.Int.{ints, to_z-of_z}
use Rattle.std.proofs.lemmas.Bool.{ne_eqb, eq-eqb}
use Rattle.std.proofs.lemmas.List.Sums.{sum_by-append}
use Rattle.market_data.specs.WholeSums.{int_sum}
use Rattle.market_data.specs.Scales.{factor_one, most_factor, most_lines}
use Rattle.net_case.specs.declared.live_parts.NetBranch.{NetBranch}
use Rattle.factor_residuals.specs.declared.spots.Spot.{Spot}
use Rattle.factor_residuals.specs.declared.node_sums.Node.{Node}
use Rattle.factor_residuals.specs.Kirchhoff.{Flows, taken, net_outflow, branches_at}
use Rattle.factor_residuals.specs.Columns.{HoldNodes, IsWithin, left_by, node_at}

pub int_sum-last : {A : Type 0} (f : A → ℤ) (xs : List A) (x : A) → int_sum f (xs ++ x ∷ []) ≡ int_sum f xs +ℤ f x
int_sum-last f [] x = omega (arith, ints)
int_sum-last f (y ∷ xs) x = let rest = int_sum-last f xs x in omega (arith, ints)

at_bus : ℕ → NetBranch → Bool
at_bus b l = l.from == b || l.to == b

branches-last : (before : List NetBranch) (l : NetBranch) (b : ℕ) → branches_at (before ++ l ∷ []) b ≡ branches_at before b + cond (l.from == b || l.to == b) 1 0
branches-last before l b = sum_by-append (λ m. cond (m.from == b || m.to == b) 1 0) before (l ∷ []) ∙ omega arith

same_or_not : (a b : ℕ) → (a ≡ b) ⊎ (a ≢ b)
same_or_not a b = Rattle.fraction_theory.proofs.ListSums.same_or_not a b

node-is : (n m : Node) → n.outflow ≡ m.outflow → n.branches ≡ m.branches → n ≡ m
node-is n m e f = ap₂ (λ (o b : ℤ). record { outflow = o; branches = b }) e f

module _ (flow : Flows) (before : List NetBranch) (n : ℕ) (nodes nodes1 nodes2 : List Node) (l : NetBranch) (x y : ℤ)
    (from : l.from < n) (to : l.to < n) (ends : l.from ≢ l.to) (opposite : y ≡ neg_ℤ x)
    (first : (d : Node) → nodes1 ≡ set nodes l.from (left_by (get_or nodes l.from d) x)) (second : (d : Node) → nodes2 ≡ set nodes1 l.to (left_by (get_or nodes1 l.to d) y)) where
  module _ (count : length nodes ≡ n) where
    count1 : length nodes1 ≡ n
    count1 = subst (λ ns. length ns ≡ n) (sym (first (record { outflow = pos 0; branches = pos 0 }))) (length-set nodes l.from _ ∙ count)

    pub count2 : length nodes2 ≡ n
    count2 = subst (λ ns. length ns ≡ n) (sym (second (record { outflow = pos 0; branches = pos 0 }))) (length-set nodes1 l.to _ ∙ count1)

    pub at_from : (d : Node) → get_or nodes2 l.from d ≡ left_by (get_or nodes l.from d) x
    at_from d =
        ap (λ ns. get_or ns l.from d) (second d) ∙ get_or-set_other nodes1 l.to l.from (left_by (get_or nodes1 l.to d) y) d ends
        ∙ ap (λ ns. get_or ns l.from d) (first d) ∙ get_or-set_same nodes l.from (left_by (get_or nodes l.from d) x) d (omega (arith, from, count))

    turned_round : l.to ≢ l.from
    turned_round e = ends (sym e)

    pub at_to : (d : Node) → get_or nodes2 l.to d ≡ left_by (get_or nodes l.to d) y
    at_to d =
        ap (λ ns. get_or ns l.to d) (second d) ∙ get_or-set_same nodes1 l.to (left_by (get_or nodes1 l.to d) y) d (omega (arith, to, count1))
        ∙ ap (λ node. left_by node y) (ap (λ ns. get_or ns l.to d) (first d) ∙ get_or-set_other nodes l.from l.to (left_by (get_or nodes l.from d) x) d turned_round)

    pub elsewhere : (b : ℕ) (d : Node) → b ≢ l.from → b ≢ l.to → get_or nodes2 b d ≡ get_or nodes b d
    elsewhere b d nf nt =
        ap (λ ns. get_or ns b d) (second d) ∙ get_or-set_other nodes1 l.to b (left_by (get_or nodes1 l.to d) y) d nt
        ∙ ap (λ ns. get_or ns b d) (first d) ∙ get_or-set_other nodes l.from b (left_by (get_or nodes l.from d) x) d nf

    pub within-more : (k p : ℕ) (d : Node) → unsigned_abs x ≤ most_factor → IsWithin k (get_or nodes p d) → IsWithin (k + 1) (get_or nodes2 p d)
    within-more k p d small h = by (same_or_not p l.from) (same_or_not p l.to)
      where
        added : (node : Node) (z : ℤ) → unsigned_abs z ≤ most_factor → IsWithin k node → IsWithin (k + 1) (left_by node z)
        added node z s w = record { outflow = omega (arith, ints, s, w.outflow); branches = omega (arith, ints, w.branches) }

        kept_within : (node : Node) → IsWithin k node → IsWithin (k + 1) node
        kept_within node w = record { outflow = omega (arith, w.outflow); branches = omega (arith, w.branches) }

        by : (p ≡ l.from) ⊎ (p ≢ l.from) → (p ≡ l.to) ⊎ (p ≢ l.to) → IsWithin (k + 1) (get_or nodes2 p d)
        by (inl e) t = subst (λ b. IsWithin (k + 1) (get_or nodes2 b d)) (sym e) (subst (IsWithin (k + 1)) (sym (at_from d)) (added (get_or nodes l.from d) x small (subst (λ b. IsWithin k (get_or nodes b d)) e h)))
        by (inr ne) (inl e) = subst (λ b. IsWithin (k + 1) (get_or nodes2 b d)) (sym e) (subst (IsWithin (k + 1)) (sym (at_to d))
            (added (get_or nodes l.to d) y (omega (arith, ints, small, opposite)) (subst (λ b. IsWithin k (get_or nodes b d)) e h)))
        by (inr nf) (inr nt) = subst (IsWithin (k + 1)) (sym (elsewhere p d nf nt)) (kept_within (get_or nodes p d) h)

  module _ (h : HoldNodes flow before n nodes) (is : x ≡ flow l.row) where
    pub passed : HoldNodes flow (before ++ l ∷ []) n nodes2
    passed = record { count = count2 h.count; each = λ b d within. by b d within (same_or_not b l.from) (same_or_not b l.to) }
      where
        more : (b : ℕ) → net_outflow flow (before ++ l ∷ []) b ≡ net_outflow flow before b +ℤ taken flow b l
        more b = int_sum-last (taken flow b) before l

        by : (b : ℕ) (d : Node) → b < n → (b ≡ l.from) ⊎ (b ≢ l.from) → (b ≡ l.to) ⊎ (b ≢ l.to) → get_or nodes2 b d ≡ node_at flow (before ++ l ∷ []) b
        by b d within (inl e) t =
            let here : (l.from == l.from) ≡ true = eq-eqb l.from l.from refl in
            let there : (l.to == l.from) ≡ false = ne_eqb l.to l.from (λ q. ends (sym q)) in
            let outflow : net_outflow flow (before ++ l ∷ []) l.from ≡ net_outflow flow before l.from +ℤ x = more l.from ∙ rw (here, there, is) (omega (arith, ints)) in
            let branches : branches_at (before ++ l ∷ []) l.from ≡ branches_at before l.from + 1 = branches-last before l l.from ∙ rw here refl in
            subst (λ c. get_or nodes2 c d ≡ node_at flow (before ++ l ∷ []) c) (sym e)
            (at_from h.count d ∙ ap (λ node. left_by node x) (h.each l.from d from) ∙ node-is _ _ (sym outflow) (omega (arith, ints, branches)))
        by b d within (inr nf) (inl e) =
            let here : (l.to == l.to) ≡ true = eq-eqb l.to l.to refl in
            let there : (l.from == l.to) ≡ false = ne_eqb l.from l.to ends in
            let outflow : net_outflow flow (before ++ l ∷ []) l.to ≡ net_outflow flow before l.to +ℤ y = more l.to ∙ rw (here, there, opposite, is) (omega (arith, ints)) in
            let branches : branches_at (before ++ l ∷ []) l.to ≡ branches_at before l.to + 1 = branches-last before l l.to ∙ rw (here, there) refl in
            subst (λ c. get_or nodes2 c d ≡ node_at flow (before ++ l ∷ []) c) (sym e)
            (at_to h.count d ∙ ap (λ node. left_by node y) (h.each l.to d to) ∙ node-is _ _ (sym outflow) (omega (arith, ints, branches)))
        by b d within (inr nf) (inr nt) =
            let here : (l.from == b) ≡ false = ne_eqb l.from b (λ q. nf (sym q)) in
            let there : (l.to == b) ≡ false = ne_eqb l.to b (λ q. nt (sym q)) in
            let outflow : net_outflow flow (before ++ l ∷ []) b ≡ net_outflow flow before b = more b ∙ rw (here, there) (omega (arith, ints)) in
            let branches : branches_at (before ++ l ∷ []) b ≡ branches_at before b = branches-last before l b ∙ rw (here, there) (omega arith) in
            elsewhere h.count b d nf nt ∙ h.each b d within ∙ node-is _ _ (sym outflow) (omega (arith, ints, branches))

-- at first nothing leaves a bus
pub nodes-none : (flow : Flows) (n : ℕ) (nodes : List Node) → length nodes ≡ n → ((b : ℕ) (d : Node) → b < n → get_or nodes b d ≡ record { outflow = pos 0; branches = pos 0 }) → HoldNodes flow [] n nodes
nodes-none flow n nodes count each = record { count = count; each = each }

pub within-wider : (k m : ℕ) (node : Node) → k ≤ m → IsWithin k node → IsWithin m node
within-wider k m node h w = record { outflow = omega (arith, h, w.outflow); branches = omega (arith, h, w.branches) }

-- a flow that is read as its opposite
pub back-is : (x : ℤ) → unsigned_abs x ≤ most_factor → to_z w64 (of_z w64 (pos 0 -ℤ to_z w64 (of_z w64 x))) ≡ neg_ℤ x
back-is x h =
    let read : to_z w64 (of_z w64 x) ≡ x = to_z-of_z w64 x (omega (arith, ints, h)) in
    let back : to_z w64 (of_z w64 (pos 0 -ℤ x)) ≡ pos 0 -ℤ x = to_z-of_z w64 (pos 0 -ℤ x) (omega (arith, ints, h)) in
    ap (λ (z : ℤ). to_z w64 (of_z w64 (pos 0 -ℤ z))) read ∙ back ∙ omega (arith, ints)

pub spot-is : (v v' b b' : ℤ) (n n' of : ℕ) → v ≡ v' → b ≡ b' → n ≡ n' → ◌≡◌ {A = Spot} (record { value = v; bound = b; at = n; of = of }) (record { value = v'; bound = b'; at = n'; of = of })
spot-is v v' b b' n n' of e f g =
    ap₂ (λ (x y : ℤ). record { value = x; bound = y; at = n; of = of }) e f ∙ ap (λ (m : ℕ). record { value = v'; bound = b'; at = m; of = of }) g

-- what is missing, read with 64 bits
pub missing-is : (o i g : ℤ) → unsigned_abs o ≤ most_factor * most_lines → unsigned_abs i ≤ factor_one → unsigned_abs g ≤ factor_one
    → to_z w64 (of_z w64 (to_z w64 (of_z w64 (to_z w64 (of_z w64 o) -ℤ to_z w64 (of_z w64 i))) +ℤ to_z w64 (of_z w64 g))) ≡ o -ℤ i +ℤ g
missing-is o i g h j k =
    let outflow : to_z w64 (of_z w64 o) ≡ o = to_z-of_z w64 o (omega (arith, ints, h)) in
    let goes_in : to_z w64 (of_z w64 i) ≡ i = to_z-of_z w64 i (omega (arith, ints, j)) in
    let goes_out : to_z w64 (of_z w64 g) ≡ g = to_z-of_z w64 g (omega (arith, ints, k)) in
    let less : to_z w64 (of_z w64 (o -ℤ i)) ≡ o -ℤ i = to_z-of_z w64 (o -ℤ i) (omega (arith, ints, h, j)) in
    let all : to_z w64 (of_z w64 (o -ℤ i +ℤ g)) ≡ o -ℤ i +ℤ g = to_z-of_z w64 (o -ℤ i +ℤ g) (omega (arith, ints, h, j, k)) in
    ap (λ (z : ℤ). to_z w64 (of_z w64 z)) (ap₂ ◌+ℤ◌ (ap (λ (z : ℤ). to_z w64 (of_z w64 z)) (ap₂ ◌-ℤ◌ outflow goes_in) ∙ less) goes_out) ∙ all
