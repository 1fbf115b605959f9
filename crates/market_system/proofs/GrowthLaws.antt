-- What grows by rows that best dispatches break.
use Rattle.std.specs.Prelude.{◌≡◌, ◌≢◌, ◌+◌, ◌≤◌, List, [], ◌∷◌, ◌++◌, length, AllPairs, Contains, ◌⊎◌}
use Rattle.std.proofs.Common.{suc, arith, ap, sym, ◌∙◌, subst, inl, inr, append_assoc, length-append}
use Rattle.std.proofs.lemmas.List.{append-nil}
use Rattle.fraction_theory.proofs.ListSums.{Contains-head, Contains-cons, Contains-cases}
use Rattle.market_model.specs.declared.participants.Parts.{Parts}
use Rattle.market_model.specs.Dispatch.{Dispatch}
use Rattle.market_model.specs.declared.limits.Row.{Row}
use Rattle.market_model.specs.LimitRows.{rows, flow}
use Rattle.market_model.specs.Optimality.{Taken, FeasibleFor}
use Rattle.market_system.specs.Growth.{Broken, IsBestOver, GrowsBy, Growth}
use Rattle.market_system.specs.SolvedLaws.{AreRows}
use Rattle.market_system.proofs.RowOrder.{pairs-append}
use Rattle.market_model.specs.Overrun.{IsBeyond}

-- a row whose flow at a feasible dispatch is beyond what it may be is not in the list
pub beyond_is_new : (m : Parts) (t : Taken) (x : Dispatch) (r : Row) → FeasibleFor m t x → IsBeyond m t.limits r (flow m x r) → ¬ (Contains t.limits r)
beyond_is_new m t x r f beyond c = beyond (record { limit = λ new. absurd (new c); most = λ _. f.limits r c })

-- nothing more is grown
pub growth_none : (m : Parts) (g : List Row) → Growth m g g
growth_none m g = ([], sym (append-nil g), tt)

-- a row behind a grown list
pub growth_more : (m : Parts) (t g : List Row) (x : Dispatch) (r : Row) → Growth m t g → IsBestOver m g x → Broken m x r → Contains (rows m) r → ¬ (Contains g r) → Growth m t (g ++ r ∷ [])
growth_more m t g x r (more, e, by) best broken c new =
    (more ++ r ∷ [], ap (λ rs. rs ++ r ∷ []) e ∙ append_assoc t more (r ∷ []), grown t more by (subst (λ rs. IsBestOver m rs x) e best) (subst (λ rs. ¬ (Contains rs r)) e new))
  where
    grown : (old news : List Row) → GrowsBy m old news → IsBestOver m (old ++ news) x → ¬ (Contains (old ++ news) r) → GrowsBy m old (news ++ r ∷ [])
    grown old [] by b n = ((x, subst (λ rs. IsBestOver m rs x) (append-nil old) b, broken), c, subst (λ rs. ¬ (Contains rs r)) (append-nil old) n, tt)
    grown old (s ∷ news) by b n =
        let along = sym (append_assoc old (s ∷ []) news) in
        (by.0, by.1, by.2, grown (old ++ s ∷ []) news by.3 (subst (λ rs. IsBestOver m rs x) along b) (subst (λ rs. ¬ (Contains rs r)) along n))

-- grown from grown is grown
pub growth_again : (m : Parts) (t g h : List Row) → Growth m t g → Growth m g h → Growth m t h
growth_again m t g h (first, e, by) (second, f, more) =
    (first ++ second, f ∙ ap (λ rs. rs ++ second) e ∙ append_assoc t first second, joined t first by (subst (λ rs. GrowsBy m rs second) e more))
  where
    joined : (old news : List Row) → GrowsBy m old news → GrowsBy m (old ++ news) second → GrowsBy m old (news ++ second)
    joined old [] by k = subst (λ rs. GrowsBy m rs second) (append-nil old) k
    joined old (s ∷ news) by k = (by.0, by.1, by.2, joined (old ++ s ∷ []) news by.3 (subst (λ rs. GrowsBy m rs second) (sym (append_assoc old (s ∷ []) news)) k))

cases_append : (xs ys : List Row) (r : Row) → Contains (xs ++ ys) r → Contains xs r ⊎ Contains ys r
cases_append [] ys r c = inr c
cases_append (x ∷ xs) ys r c = elim (Contains-cases x (xs ++ ys) r c) [
  | inl e ↦ inl (subst (λ (z : Row). Contains (x ∷ xs) z) e (Contains-head x xs))
  | inr k ↦ elim (cases_append xs ys r k) [ inl d ↦ inl (Contains-cons x xs r d) | inr d ↦ inr d ]
]

one_more : (m : Parts) (g : List Row) (r : Row) → AreRows m g → Contains (rows m) r → ¬ (Contains g r) → AreRows m (g ++ r ∷ [])
one_more m g r are c new = record {
  rows = λ s k. elim (cases_append g (r ∷ []) s k) [
    | inl d ↦ are.rows s d
    | inr d ↦ elim (Contains-cases r [] s d) [ inl e ↦ subst (λ (z : Row). Contains (rows m) z) e c | inr n ↦ absurd (Prim.omega (arith, n.1)) ]
  ];
  distinct = pairs-append (λ (a b : Row). a ≢ b) g (r ∷ []) are.distinct (λ i j d lt h. absurd (Prim.omega (arith, lt, h)))
      (λ a b k d e. elim (Contains-cases r [] b d) [ inl s ↦ new (subst (λ (z : Row). Contains g z) (e ∙ sym s) k) | inr n ↦ Prim.omega (arith, n.1) ]);
}

-- a list grown from distinct rows of the market has distinct rows of it
pub growth_rows : (m : Parts) (t g : List Row) → AreRows m t → Growth m t g → AreRows m g
growth_rows m t g are (more, e, by) = subst (AreRows m) (sym e) (grown t more are by)
  where
    grown : (old news : List Row) → AreRows m old → GrowsBy m old news → AreRows m (old ++ news)
    grown old [] are by = subst (AreRows m) (sym (append-nil old)) are
    grown old (s ∷ news) are by =
        subst (AreRows m) (append_assoc old (s ∷ []) news)
        (grown (old ++ s ∷ []) news (one_more m old s are by.1 by.2) by.3)

in_front : (xs ys : List Row) (r : Row) → Contains xs r → Contains (xs ++ ys) r
in_front [] ys r c = absurd (Prim.omega (arith, c.1))
in_front (x ∷ xs) ys r c = elim (Contains-cases x xs r c) [
  | inl e ↦ subst (λ (z : Row). Contains (x ∷ (xs ++ ys)) z) e (Contains-head x (xs ++ ys))
  | inr k ↦ Contains-cons x (xs ++ ys) r (in_front xs ys r k)
]

behind_all : (xs ys : List Row) (r : Row) → Contains ys r → Contains (xs ++ ys) r
behind_all [] ys r c = c
behind_all (x ∷ xs) ys r c = Contains-cons x (xs ++ ys) r (behind_all xs ys r c)

split_at : (ys : List Row) (x : Row) → Contains ys x → (front : List Row) × (back : List Row) × (ys ≡ front ++ x ∷ back)
split_at [] x c = absurd (Prim.omega (arith, c.1))
split_at (y ∷ ys) x c = elim (Contains-cases y ys x c) [
  | inl e ↦ ([], ys, ap (λ (z : Row). z ∷ ys) e)
  | inr k ↦ more (split_at ys x k)
]
  where
    more : (front : List Row) × (back : List Row) × (ys ≡ front ++ x ∷ back) → (front : List Row) × (back : List Row) × (y ∷ ys ≡ front ++ x ∷ back)
    more (front, back, e) = (y ∷ front, back, ap (λ rs. y ∷ rs) e)

-- so it is no longer than all rows
pub rows_few : (m : Parts) (g : List Row) → AreRows m g → length g ≤ length (rows m)
rows_few m g are = within g (rows m) are.distinct are.rows
  where
    within : (xs ys : List Row) → AllPairs (λ (a b : Row). a ≢ b) xs → ((r : Row) → Contains xs r → Contains ys r) → length xs ≤ length ys
    within [] ys d all = Prim.omega arith
    within (x ∷ xs) ys d all = by (split_at ys x (all x (Contains-head x xs))) (λ zs h. within xs zs (λ i j e lt k. d (suc i) (suc j) e (Prim.omega (arith, lt)) (Prim.omega (arith, k))) h)
      where
        apart : (r : Row) → Contains xs r → r ≢ x
        apart r (k, lt, is) e = d 0 (suc k) r (Prim.omega arith) (Prim.omega (arith, lt)) (sym e ∙ sym is)

        by : (front : List Row) × (back : List Row) × (ys ≡ front ++ x ∷ back) → ((zs : List Row) → ((r : Row) → Contains xs r → Contains zs r) → length xs ≤ length zs) → length (x ∷ xs) ≤ length ys
        by (front, back, e) fewer =
            let kept : (r : Row) → Contains xs r → Contains (front ++ back) r =
            λ r c. elim (cases_append front (x ∷ back) r (subst (λ rs. Contains rs r) e (all r (Contains-cons x xs r c)))) [
              | inl k ↦ in_front front back r k
              | inr k ↦ elim (Contains-cases x back r k) [ inl s ↦ absurd (apart r c (sym s)) | inr n ↦ behind_all front back r n ]
            ] in
            let short = fewer (front ++ back) kept in
            let first = length-append front back in
            let all_of : length ys ≡ length front + length (x ∷ back) = ap length e ∙ length-append front (x ∷ back) in
            Prim.omega (arith, short, first, all_of)
