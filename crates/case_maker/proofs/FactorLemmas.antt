-- Factors that are listed for each pair: no two of one pair, and none out of range.
use Rattle.std.proofs.Common.{◌≡◌, ◌≢◌, ◌≤◌, ◌<◌, ◌+◌, ◌-◌, ◌*◌, ◌/◌, ◌∙◌, ℕ, ℤ, pos, neg_ℤ, Bool, true, false, List, [], ◌∷◌, ◌++◌, append_assoc, map, get_or, flat_map, zero, suc, sym, subst, ap, ap₂, arith, div-le_self, unsigned_abs, ltb, ◌==◌, All, AllPairs, if◌then◌else◌}
use Rattle.std.specs.List.{range_with_len}
use Rattle.std.proofs.lemmas.List.Elements.{All-weaker}
use Rattle.std.proofs.lemmas.List.FromFn.{length-map-range_with_len}
use Rattle.fraction_theory.specs.Fraction.{unsigned_abs-neg}
use Rattle.market_data.specs.Scales.{factor_one, most_factor}
use Rattle.market_model.specs.declared.participants.Factor.{Factor}
use Rattle.market_model.specs.Dispatch.{places}
use Rattle.market_model.specs.Market.{AreTableFactors, IsTableFactor}
use Rattle.case_maker.specs.Rings.{factor_by, ring_factors, ring_loss, share, ring_shift}
use Rattle.case_maker.proofs.PlaceLists.{All-flat, All-places, AllPairs-append, at-place, flat-more, map-more}

module _ (value : ℕ → ℕ → ℤ) where
  abbrev factor : ℕ → ℕ → Factor
  factor l i = factor_by value l i

  abbrev pub row : ℕ → ℕ → List Factor
  row n l = map (factor l) (places n)

  abbrev Apart : Factor → Factor → Type 0
  Apart f g = f.line ≡ g.line → f.of ≢ g.of

  row-apart : (n l : ℕ) → AllPairs Apart (row n l)
  row-apart n l i j d p q same e =
      let j' : j < n = omega (arith, q, length-map-range_with_len (factor l) 0 n) in
      let low : (get_or (row n l) i d).of ≡ i = ap (λ (f : Factor). f.of) (at-place (factor l) n i d (omega (arith, p, j'))) in
      let high : (get_or (row n l) j d).of ≡ j = ap (λ (f : Factor). f.of) (at-place (factor l) n j d j') in
      omega (arith, p, low, high, e)

  rows-apart : (n a m : ℕ) → AllPairs Apart (flat_map (row n) (range_with_len a m))
  rows-apart n a zero = λ i j d p q. absurd (omega (arith, q))
  rows-apart n a (suc m) =
      let later : All (λ (g : Factor). a + 1 ≤ g.line) (flat_map (row n) (range_with_len (a + 1) m)) = All-flat (λ (g : Factor). a + 1 ≤ g.line) (row n) (a + 1) m (λ l p q. All-places (λ (g : Factor). a + 1 ≤ g.line) (factor l) n (λ i lt. p)) in
      AllPairs-append Apart (row n a) (flat_map (row n) (range_with_len (a + 1) m)) (row-apart n a) (rows-apart n (a + 1) m)
      (All-places (λ (f : Factor). All (Apart f) (flat_map (row n) (range_with_len (a + 1) m))) (factor a) n
      (λ i lt. All-weaker (λ (g : Factor). a + 1 ≤ g.line) (Apart (factor a i)) (λ g up same. absurd (omega (arith, up, same))) (flat_map (row n) (range_with_len (a + 1) m)) later))

  pub are-factors : (n : ℕ) → ((l i : ℕ) → l < n → i < n → unsigned_abs (value l i) ≤ most_factor) → AreTableFactors n n (ring_factors value n)
  are-factors n small = record {
    each = All-flat (IsTableFactor n n) (row n) 0 n (λ l p q. let l' : l < n = omega (arith, q) in All-places (IsTableFactor n n) (factor l) n (λ i lt. record { line = l'; of = lt; size = small l i l' lt }));
    distinct = rows-apart n 0 n;
  }

  -- ---- one more
  pub one-factor_more : (n l i : ℕ) (old new : List Factor) (more : Factor) → old ≡ flat_map (row n) (places l) ++ map (factor l) (places i) → more ≡ factor l i
      → new ≡ old ++ more ∷ [] → new ≡ flat_map (row n) (places l) ++ map (factor l) (places (i + 1))
  one-factor_more n l i old new more is here pushed =
      pushed ∙ ap₂ (λ fs f. fs ++ f ∷ []) is here
      ∙ append_assoc (flat_map (row n) (places l)) (map (factor l) (places i)) (factor l i ∷ [])
      ∙ ap (λ fs. flat_map (row n) (places l) ++ fs) (map-more (factor l) i)

  pub one-row_more : (n l i : ℕ) (factors : List Factor) → i ≤ n → n ≤ i → factors ≡ flat_map (row n) (places l) ++ map (factor l) (places i) → factors ≡ flat_map (row n) (places (l + 1))
  one-row_more n l i factors p q is = is ∙ ap (λ (k : ℕ). flat_map (row n) (places l) ++ map (factor l) (places k)) (let e : i ≡ n = omega (arith, p, q) in e) ∙ flat-more (row n) l

-- ---- sizes
share-small : (parts n : ℕ) → parts ≤ 64 → unsigned_abs (share parts n) ≤ most_factor
share-small parts n few = let h : parts * factor_one / n ≤ parts * factor_one = div-le_self (parts * factor_one) n in omega (arith, h, few)

pub shift-small : (n l i : ℕ) → n ≤ 64 → i < n → unsigned_abs (ring_shift n l i) ≤ most_factor
shift-small n l i few lt = by (ltb l i)
  where
    by : (b : Bool) → unsigned_abs (if b then neg_ℤ (share (n - i) n) else share i n) ≤ most_factor
    by true = subst (λ (k : ℕ). k ≤ most_factor) (sym (unsigned_abs-neg (share (n - i) n))) (share-small (n - i) n (omega (arith, few)))
    by false = share-small i n (omega (arith, few, lt))

pub loss-small : (l lost : ℕ) → unsigned_abs (ring_loss l lost) ≤ most_factor
loss-small l lost = by (l == lost)
  where
    by : (b : Bool) → unsigned_abs (if b then pos 0 else neg_ℤ (pos factor_one)) ≤ most_factor
    by true = omega arith
    by false = omega arith
