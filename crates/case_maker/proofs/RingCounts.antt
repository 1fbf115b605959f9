-- How many limits a ring has.
use Rattle.std.proofs.Common.{◌≡◌, ◌<◌, ◌+◌, ◌-◌, ◌*◌, ◌∙◌, ℕ, Bool, true, false, not, ◌==◌, ◌&&◌, is_some, length, map, filter, flat_map, get_or, refl, ap, sym, subst, arith, eq-eqb, ne_eqb, length-append, List, ◌++◌}
use Rattle.std.proofs.lemmas.List.{length-map}
use Rattle.std.proofs.lemmas.List.Folds.{flat_map-map}
use Rattle.std.proofs.lemmas.List.FromFn.{length-map-range_with_len, length-range_with_len}
use Rattle.std.proofs.lemmas.List.Sums.{position_or_len_is}
use Rattle.std.specs.List.{position_or_len}
use Rattle.std.proofs.lemmas.List.{append-nil}
use Rattle.market_model.specs.declared.participants.Line.{Line}
use Rattle.market_model.specs.declared.participants.Parts.{Parts}
use Rattle.market_model.specs.Dispatch.{places, line_at}
use Rattle.market_model.specs.declared.limits.Cause.{Cause}
use Rattle.market_model.specs.declared.limits.Row.{Row}
use Rattle.market_model.specs.declared.limits.Cause.TheVariants.{Base, Branch}
use Rattle.market_model.specs.LimitRows.{bears, lost_lines, place_of_line, rows, rows_of}
use Rattle.market_model.proofs.RowMembers.{lines_of}
use Rattle.case_maker.specs.Laws.{HasCounts}
use Rattle.case_maker.specs.Rings.{ring_blocks, ring_bus, drawn, ring_branch, ring_of, ring_unit}
use Rattle.case_maker.proofs.PlaceLists.{count-all, count-others, length-flat, places-at}
use Rattle.case_maker.proofs.RingParts.{line-at}

module _ (n seed : ℕ) where
  abbrev m : Parts
  m = ring_of n seed

  lines-count : length m.lines ≡ n
  lines-count = length-map-range_with_len (λ i. ring_branch i (drawn seed i)) 0 n

  -- those under a cause are as many as the lines that bear it
  kept-count : (cause : Cause) → length (rows_of m cause) ≡ length (filter (bears m cause) (places n))
  kept-count cause =
      length-map (lines_of m cause) (λ l. let r : Row = record { line = l; cause = cause } in r)
      ∙ ap (λ (k : ℕ). length (filter (bears m cause) (places k))) lines-count

  base-count : length (rows_of m Base) ≡ n
  base-count = kept-count Base ∙ count-all (bears m Base) 0 n (λ l p q. ap (λ (line : Line). is_some line.base) (line-at n seed l (omega (arith, q))))

  after-count : (lost : ℕ) → lost < n → length (rows_of m (Branch lost)) + 1 ≡ n
  after-count lost lt =
      let mapped : length (rows_of m (Branch lost)) ≡ length (filter (bears m (Branch lost)) (places n)) = kept-count (Branch lost) in
      let kept : length (filter (bears m (Branch lost)) (places n)) + 1 ≡ n = count-others (bears m (Branch lost)) lost 0 n (λ l p q. post-of l (omega (arith, q))) (omega arith) (omega (arith, lt)) in
      omega (arith, mapped, kept)
    where
      and-true : (b : Bool) → (b && true) ≡ b
      and-true true = refl
      and-true false = refl

      post-of : (l : ℕ) → l < n → bears m (Branch lost) l ≡ not (l == lost)
      post-of l lt' = ap (λ (line : Line). not (l == lost) && is_some line.post) (line-at n seed l lt') ∙ and-true (not (l == lost))

  row-place : (i : ℕ) → i < n → place_of_line m (i + 1) ≡ i
  row-place i lt =
      ap (λ (k : ℕ). position_or_len (λ l. (line_at m l).row == (i + 1)) (places k)) lines-count
      ∙ position_or_len_is (λ l. (line_at m l).row == (i + 1)) (places n) i 0 (omega (arith, lt, length-range_with_len 0 n)) below (λ h. here)
    where
      row-of : (k : ℕ) → k < n → (line_at m (get_or (places n) k 0)).row ≡ k + 1
      row-of k p = ap (λ (l : ℕ). (line_at m l).row) (places-at n k 0 p) ∙ ap (λ (line : Line). line.row) (line-at n seed k p)

      below : (k : ℕ) → k < i → ((line_at m (get_or (places n) k 0)).row == (i + 1)) ≡ false
      below k p = let is : (line_at m (get_or (places n) k 0)).row ≡ k + 1 = row-of k (omega (arith, p, lt)) in ne_eqb (line_at m (get_or (places n) k 0)).row (i + 1) (λ e. omega (arith, is, e, p))

      here : ((line_at m (get_or (places n) i 0)).row == (i + 1)) ≡ true
      here = eq-eqb (line_at m (get_or (places n) i 0)).row (i + 1) (row-of i lt)

  -- the outage of a branch row
  abbrev lost_in : ℕ → Cause
  lost_in row = Branch (place_of_line m row)

  pub limits-count : 0 < n → length (rows m) ≡ n * n
  unfolding rows
  limits-count some =
      let after : length (flat_map (rows_of m) (map Branch (lost_lines m))) ≡ n * (n - 1) =
      ap length (flat_map-map (rows_of m) Branch (lost_lines m) ∙ flat_map-map (λ l. rows_of m (Branch l)) (place_of_line m) m.outages ∙ flat_map-map (λ row. rows_of m (lost_in row)) (λ i. i + 1) (places n))
      ∙ length-flat (λ i. rows_of m (lost_in (i + 1))) 0 n (n - 1) (λ i p q.
      let lt : i < n = omega (arith, q) in
      let one : length (rows_of m (lost_in (i + 1))) ≡ length (rows_of m (Branch i)) = ap (λ (k : ℕ). length (rows_of m (Branch k))) (row-place i lt) in
      let others : length (rows_of m (Branch i)) + 1 ≡ n = after-count i lt in
      omega (arith, one, others)) in
      let both : length (rows m) ≡ length (rows_of m Base) + length (flat_map (rows_of m) (map Branch (lost_lines m))) =
      ap (λ (causes : List Cause). length (rows_of m Base ++ flat_map (rows_of m) causes)) (append-nil (map Branch (lost_lines m))) ∙ length-append (rows_of m Base) (flat_map (rows_of m) (map Branch (lost_lines m))) in
      let base : length (rows_of m Base) ≡ n = base-count in
      square (n - 1) n (length (rows m)) (omega (arith, some)) (omega (arith, both, base, after))
    where
      square : (k n c : ℕ) → k + 1 ≡ n → c ≡ n + n * k → c ≡ n * n
      square k n c e h =
          let q : (k + 1) + (k + 1) * k ≡ (k + 1) * (k + 1) = omega arith in
          subst (λ (t : ℕ). c ≡ t * t) e (subst (λ (t : ℕ). c ≡ t + t * k) (sym e) h ∙ q)

  pub has-counts : 0 < n → HasCounts n seed
  has-counts some = record {
    buses = length-map-range_with_len (λ i. ring_bus i (drawn seed i)) 0 n;
    units = length-map-range_with_len ring_unit 0 n;
    blocks = (let h : length m.blocks ≡ n * 2 = length-flat (λ i. ring_blocks i (drawn seed i)) 0 n 2 (λ i p q. refl) in omega (arith, h));
    lines = lines-count;
    outages = length-map-range_with_len (λ i. i + 1) 0 n;
    limits = limits-count some;
  }
