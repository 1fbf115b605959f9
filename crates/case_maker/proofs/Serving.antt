-- In a ring each bus can serve itself by its unit's first block: nothing flows, so all limits hold.
use Rattle.std.proofs.Common.{◌≡◌, ◌≢◌, ◌<◌, ◌+◌, ◌*◌, ◌∙◌, ℕ, ℤ, pos, ◌+ℤ◌, ◌≤ℤ◌, ◌==◌, List, [], ◌∷◌, length, map, flat_map, get_or, refl, ap, ap₂, sym, subst, arith, eq-eqb, eqb-true, All, Contains, inl, inr}
use Rattle.std.proofs.lemmas.Int.{ints}
use Rattle.std.proofs.lemmas.List.{length-map, get_or-map}
use Rattle.std.proofs.lemmas.List.Elements.{All-cons, All-nil}
use Rattle.std.proofs.lemmas.List.FromFn.{length-map-range_with_len}
use Rattle.fraction_theory.specs.Fraction.{whole, ◌+ℚ◌, ◌-ℚ◌, ◌*ℚ◌}
use Rattle.fraction_theory.specs.Order.{◌≤ℚ◌}
use Rattle.fraction_theory.specs.Sums.{sum_by}
use Rattle.fraction_theory.proofs.FieldLaws.{ring_ℚ}
use Rattle.fraction_theory.proofs.ListSums.{Contains-filter, Contains-from_filter, Distinct, Distinct-filter, sum_by-members, sum_by-one}
use Rattle.fraction_theory.proofs.OrderLaws.{NonNeg-one, by_le1, whole-≤ℚ, ≤ℚ_refl}
use Rattle.fraction_theory.proofs.Ring.{by_ring, at, nil_plus, pneg, pnil, pone, times_nil, ◌⊕◌}
use Rattle.fraction_theory.proofs.SumLaws.{sum_by-nil, sum_by-same, total-Product}
use Rattle.market_data.specs.declared.participants.Bus.{Bus}
use Rattle.market_data.specs.declared.participants.Unit as unit
use Rattle.market_model.specs.declared.participants.Block.{Block}
use Rattle.market_model.specs.declared.participants.Line.{Line}
use Rattle.market_model.specs.declared.participants.Parts.{Parts}
use Rattle.market_model.specs.Dispatch.{Dispatch, IsDispatch, accepted, balance, block_at, block_bus, blocks_at, demand, injection, line_at, places, raised_by, signed_by_side, unit_at, units_at, zero, dispatch_by}
use Rattle.market_model.specs.declared.limits.Cause.{Cause}
use Rattle.market_model.specs.declared.limits.Row.{Row}
use Rattle.market_model.specs.declared.limits.Cause.TheVariants.{Base, Branch, UnitOutage}
use Rattle.market_model.specs.LimitRows.{IsCauseOf, flow, limit, limit_under, line_flow, loss_factor, mw_or_zero, shift_factor}
use Rattle.market_model.proofs.RowMembers.{at_places}
use Rattle.market_model.specs.Market.{IsMarket}
use Rattle.market_model.specs.Optimality.{Feasible, all_of}
use Rattle.market_model.proofs.EnergyAlone.{feasible_alone}
use Rattle.market_model.proofs.Excesses.{within_most}
use Rattle.market_model.proofs.MarketSums.{balance-by_injections, demand-by_parts, fixed_part, injection-by_parts}
use Rattle.market_model.proofs.PlainMarkets.{distinct_by_rise}
use Rattle.market_model.proofs.WholeDispatch.{is_dispatch-by_whole}
use Rattle.case_maker.specs.Rings.{ring_blocks, ring_bus, drawn, half_sold, ring_branch, mw, ring_of, ring_unit}
use Rattle.case_maker.proofs.DrawLemmas.{drawn-small}
use Rattle.case_maker.proofs.PlaceLists.{All-flat, All-places, Contains-place, at-any, first-of, halves, length-flat, place-below, places-rise, second-of}
use Rattle.case_maker.proofs.RingParts.{bus-at, first-block, second-block, unit-at}
use Rattle.market_model.specs.Overrun.{Within}

module _ (n seed : ℕ) where
  abbrev m : Parts
  m = ring_of n seed

  -- each first block gives its bus's load
  abbrev load : ℕ → ℤ
  load i = mw (drawn seed i).load

  abbrev taken : List ℤ
  taken = flat_map (λ i. load i ∷ pos 0 ∷ []) (places n)

  abbrev pub serving : Dispatch
  serving = dispatch_by (map whole taken)

  taken-count : length taken ≡ n * 2
  taken-count = length-flat (λ i. load i ∷ pos 0 ∷ []) 0 n 2 (λ i p q. refl)

  blocks-count : length m.blocks ≡ n * 2
  blocks-count = length-flat (λ i. ring_blocks i (drawn seed i)) 0 n 2 (λ i p q. refl)

  buses-count : length m.buses ≡ n
  buses-count = length-map-range_with_len (λ i. ring_bus i (drawn seed i)) 0 n

  accepted-is : (j : ℕ) → j < n * 2 → accepted serving j ≡ whole (get_or taken j (pos 0))
  accepted-is j lt = get_or-map whole taken j (pos 0) zero (omega (arith, lt, taken-count))

  accepted-first : (i : ℕ) → i < n → accepted serving (2 * i) ≡ whole (load i)
  accepted-first i lt = accepted-is (2 * i) (omega (arith, lt)) ∙ ap whole (first-of load (λ k. pos 0) 0 n i i (pos 0) lt (omega arith))

  accepted-second : (i : ℕ) → i < n → accepted serving (2 * i + 1) ≡ zero
  accepted-second i lt = accepted-is (2 * i + 1) (omega (arith, lt)) ∙ ap whole (second-of load (λ k. pos 0) 0 n i i (pos 0) lt (omega arith))

  -- ---- within the blocks' bounds
  record IsTaken (z : ℤ) : Type 0 where
    least : pos 0 ≤ℤ z
    most : z ≤ℤ mw 50

  all-taken : All IsTaken taken
  all-taken = All-flat IsTaken (λ i. load i ∷ pos 0 ∷ []) 0 n (λ i p q.
      let small = (drawn-small seed i).load in
      All-cons IsTaken (load i) (pos 0 ∷ []) (record { least = omega (arith, ints); most = omega (arith, ints, small) })
      (All-cons IsTaken (pos 0) [] (record { least = omega (arith, ints); most = omega (arith, ints) }) (All-nil IsTaken)))

  all-halves : All (λ (b : Block). b.quantity ≡ mw 50) m.blocks
  all-halves = All-flat (λ (b : Block). b.quantity ≡ mw 50) (λ i. ring_blocks i (drawn seed i)) 0 n (λ i p q.
      All-cons (λ (b : Block). b.quantity ≡ mw 50) (half_sold i (drawn seed i).first_price) (half_sold i (drawn seed i).second_price ∷ []) refl
      (All-cons (λ (b : Block). b.quantity ≡ mw 50) (half_sold i (drawn seed i).second_price) [] refl (All-nil (λ (b : Block). b.quantity ≡ mw 50))))

  is-dispatch : IsDispatch m serving
  is-dispatch =
      is_dispatch-by_whole m serving (λ j. get_or taken j (pos 0)) refl refl (length-map taken whole ∙ taken-count ∙ sym blocks-count)
      (λ j lt. accepted-is j (omega (arith, lt, blocks-count)))
      (λ j lt. let t : IsTaken (get_or taken j (pos 0)) = all-taken j (pos 0) (omega (arith, lt, blocks-count, taken-count)) in t.least)
      (λ j lt. let t : IsTaken (get_or taken j (pos 0)) = all-taken j (pos 0) (omega (arith, lt, blocks-count, taken-count)) in
      let q : (block_at m j).quantity ≡ mw 50 = all-halves j _ lt in
      subst (λ (z : ℤ). get_or taken j (pos 0) ≤ℤ z) (sym q) t.most)

  -- ---- no bus puts anything in
  first-bus : (i : ℕ) → i < n → block_bus m (2 * i) ≡ i
  first-bus i lt = ap (λ (b : Block). (unit_at m b.unit).bus) (first-block n seed i lt) ∙ ap (λ (u : unit.Unit). u.bus) (unit-at n seed i lt)

  second-bus : (i : ℕ) → i < n → block_bus m (2 * i + 1) ≡ i
  second-bus i lt = ap (λ (b : Block). (unit_at m b.unit).bus) (second-block n seed i lt) ∙ ap (λ (u : unit.Unit). u.bus) (unit-at n seed i lt)

  raised-first : (i : ℕ) → i < n → raised_by m serving (2 * i) ≡ whole (load i)
  raised-first i lt = ap (λ (b : Block). signed_by_side b.side (accepted serving (2 * i))) (first-block n seed i lt) ∙ accepted-first i lt

  raised-second : (i : ℕ) → i < n → raised_by m serving (2 * i + 1) ≡ zero
  raised-second i lt = ap (λ (b : Block). signed_by_side b.side (accepted serving (2 * i + 1))) (second-block n seed i lt) ∙ accepted-second i lt

  raised-at : (i : ℕ) → i < n → sum_by (raised_by m serving) (blocks_at m i) ≡ whole (load i)
  raised-at i lt = sum_by-one (raised_by m serving) (2 * i) (blocks_at m i) apart here others ∙ raised-first i lt
    where
      count : length m.blocks ≡ 2 * n
      count = omega (arith, blocks-count)

      apart : Distinct (blocks_at m i)
      apart = Distinct-filter (λ j. block_bus m j == i) (places (length m.blocks)) (distinct_by_rise (places (length m.blocks)) (places-rise (length m.blocks)))

      here : Contains (blocks_at m i) (2 * i)
      here = Contains-filter (λ j. block_bus m j == i) (places (length m.blocks)) (2 * i) (Contains-place (length m.blocks) (2 * i) (omega (arith, lt, count))) (eq-eqb (block_bus m (2 * i)) i (first-bus i lt))

      others : (w : ℕ) → Contains (blocks_at m i) w → w ≢ 2 * i → raised_by m serving w ≡ zero
      others w c other =
          let (within, test) = Contains-from_filter (λ j. block_bus m j == i) (places (length m.blocks)) w c in
          let bus : block_bus m w ≡ i = eqb-true (block_bus m w) i test in
          let w' : w < 2 * n = omega (arith, place-below (length m.blocks) w within, count) in
          let (k, below, is) = halves n w w' in
          elim is [
            | inl e ↦ let first : block_bus m w ≡ k = ap (block_bus m) e ∙ first-bus k below in absurd (other (let same : w ≡ 2 * i = omega (arith, first, bus, e) in same))
            | inr e ↦ ap (raised_by m serving) e ∙ raised-second k below
          ]

  no-fixed : (u : ℕ) → (unit_at m u).fixed ≡ pos 0
  no-fixed = at-any (λ (u : unit.Unit). u.fixed ≡ pos 0) m.units _ (All-places (λ (u : unit.Unit). u.fixed ≡ pos 0) ring_unit n (λ i lt. refl)) refl

  fixed-at : (i : ℕ) → sum_by (fixed_part m) (units_at m i) ≡ zero
  fixed-at i = sum_by-same (fixed_part m) (λ u. zero) (units_at m i) (λ u. ap whole (no-fixed u)) ∙ sum_by-nil (units_at m i)

  demand-at : (i : ℕ) → i < n → demand m i ≡ whole (load i)
  demand-at i lt =
      demand-by_parts m i
      ∙ ap (λ (b : Bus). whole (b.pd +ℤ b.gs)) (bus-at n seed i lt)
      ∙ ap whole (let e : load i +ℤ pos 0 ≡ load i = omega (arith, ints) in e)

  pub nothing-put_in : (i : ℕ) → i < n → injection m serving i ≡ zero
  nothing-put_in i lt =
      injection-by_parts m serving i
      ∙ ap₂ (λ a b. (a +ℚ b) -ℚ demand m i) (fixed-at i) (raised-at i lt)
      ∙ ap (λ d. (zero +ℚ whole (load i)) -ℚ d) (demand-at i lt)
      ∙ by_ring ring_ℚ (whole (load i) ∷ []) ((pnil ⊕ at 0) ⊕ pneg (at 0)) pnil refl

  in-balance : balance m serving ≡ zero
  in-balance =
      balance-by_injections m serving
      ∙ sum_by-members (injection m serving) (λ i. zero) (places (length m.buses)) (λ i c. nothing-put_in i (omega (arith, place-below (length m.buses) i c, buses-count)))
      ∙ sum_by-nil (places (length m.buses))

  -- ---- nothing flows
  record IsPlain (line : Line) : Type 0 where
    offset : line.offset ≡ pos 0
    base : zero ≤ℚ mw_or_zero line.base
    post : zero ≤ℚ mw_or_zero line.post

  lines-plain : (l : ℕ) → IsPlain (line_at m l)
  lines-plain = at-any IsPlain m.lines _
      (All-places IsPlain (λ i. ring_branch i (drawn seed i)) n (λ i lt. record {
        offset = refl;
        base = whole-≤ℚ (pos 0) (mw (drawn seed i).base_limit) (omega (arith, ints));
        post = whole-≤ℚ (pos 0) (mw (drawn seed i).post_limit) (omega (arith, ints));
      }))
      (record { offset = refl; base = ≤ℚ_refl zero; post = ≤ℚ_refl zero })

  no-line_flow : (l : ℕ) → line_flow m (injection m serving) l ≡ zero
  unfolding line_flow
  no-line_flow l =
      ap₂ ◌+ℚ◌ (ap whole (lines-plain l).offset)
      (total-Product (shift_factor m l) (injection m serving) (places (length m.buses))
      ∙ sum_by-members (λ i. shift_factor m l i *ℚ injection m serving i) (λ i. zero) (places (length m.buses))
      (λ i c. ap (λ p. shift_factor m l i *ℚ p) (nothing-put_in i (omega (arith, place-below (length m.buses) i c, buses-count))) ∙ times_nil ring_ℚ (shift_factor m l i))
      ∙ sum_by-nil (places (length m.buses)))
      ∙ nil_plus ring_ℚ zero

  no-flow : (l : ℕ) (cause : Cause) → IsCauseOf m cause → flow m serving (record { line = l; cause = cause }) ≡ zero
  no-flow l Base is = ap (λ a. a +ℚ zero) (no-line_flow l) ∙ nil_plus ring_ℚ zero
  no-flow l (UnitOutage k) is = absurd (omega (arith, is))
  no-flow l (Branch lost) is =
      ap₂ (λ a b. a +ℚ (loss_factor m l lost *ℚ b +ℚ zero)) (no-line_flow l) (no-line_flow lost)
      ∙ ap (λ t. zero +ℚ (t +ℚ zero)) (times_nil ring_ℚ (loss_factor m l lost))
      ∙ ap (λ t. zero +ℚ t) (nil_plus ring_ℚ zero)
      ∙ nil_plus ring_ℚ zero

  limit-least : (l : ℕ) (cause : Cause) → zero ≤ℚ limit_under m l cause
  limit-least l Base = (lines-plain l).base
  limit-least l (Branch lost) = (lines-plain l).post
  limit-least l (UnitOutage k) = (lines-plain l).post

  within : (r : Row) → IsCauseOf m r.cause → Within (limit m r) (flow m serving r)
  within r is = subst (Within (limit m r)) (sym (no-flow r.line r.cause is)) (record {
    above = by_le1 (limit m r ∷ []) (pneg (at 0)) pnil pone pnil (at 0) NonNeg-one (limit-least r.line r.cause) refl;
    below = limit-least r.line r.cause;
  })

  pub is-feasible : IsMarket m → Feasible m serving
  is-feasible market = feasible_alone m refl (all_of m) serving (λ u c. c) is-dispatch in-balance (λ r c. within_most m market r (flow m serving r) (within r (at_places m market r c).1))
