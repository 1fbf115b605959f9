-- A market stays one through edits.
use Rattle.std.specs.Prelude.{◌≡◌, ℕ, ◌+◌, ◌-◌, ◌<◌, ◌&&◌, ℤ, pos, ◌≤ℤ◌, Bool, true, false, [], ◌∷◌, length, filter, cond, Option, Some, None, is_some, option_map, unsigned_abs, refl, if◌then◌else◌}
use Rattle.std.specs.Int.Signed.{lt_z, lt_z_no}
use Rattle.std.specs.List.{range_with_len, slice_get}
use Rattle.std.specs.Option.{option_map_or}
use Rattle.std.specs.Ordering.{int_eq}
use Rattle.std.proofs.Common.{zero, suc, arith, ap, sym, ◌∙◌, subst}
use Rattle.std.proofs.lemmas.List.Quantifiers.{position-Some}
use Rattle.market_data.specs.Participants.{IsDatum}
use Rattle.market_model.specs.declared.participants.Parts.{Parts}
use Rattle.market_model.specs.declared.participants.Side.{Side}
use Rattle.market_model.specs.Changes.{with_price, with_quantity, with_demand, with_limit, with_need}
use Rattle.market_model.specs.Market.{IsMarket}
use Rattle.market_model.proofs.ChangeLemmas.{kept_price, kept_quantity, kept_demand, kept_limit, kept_need}
use Rattle.offer_book.specs.declared.edit_parts.Edit.{Edit}
use Rattle.offer_book.specs.declared.edit_parts.Edit.TheVariants as edit
use Rattle.offer_book.specs.declared.edit_parts.EditFault.TheVariants as fault
use Rattle.market_model.specs.LimitRows.{has_limit}
use Rattle.offer_book.specs.Edits.{number_of, is_block_of, place_of_block, place_of_limit, rival_of, over_capacity, judge_quantity, step_of}
use Rattle.offer_book.specs.EditLaws.{LawOfEditedMarkets}
use Rattle.offer_book.proofs.CapacityLemmas.{within_room}
use Rattle.market_model.specs.Lines.{hard_line}
use Rattle.market_model.specs.Dispatch.{place_of_bus}

some_same : (x y : ℕ) → ◌≡◌ {A = Option ℕ} (Some x) (Some y) → x ≡ y
some_same x y e = Prim.cc

-- ---- the number that passes a test behind k others, in a range
pub record IsNth (p : ℕ → Bool) (from n k j : ℕ) : Type 0 where
  pub steps : ℕ
  pub is : j ≡ from + steps
  pub within : steps < n
  pub passes : p j ≡ true
  pub count : k ≡ length (filter p (range_with_len from steps))

pub nth : (p : ℕ → Bool) (from n k j : ℕ) → slice_get (filter p (range_with_len from n)) k ≡ Some j → IsNth p from n k j
nth p from zero k j e = absurd Prim.cc
nth p from (suc n) k j e = by (p from) refl (λ k. nth p (from + 1) n k j) k e
  where
    more : (steps k : ℕ) (t : Bool) → p from ≡ t → k ≡ length (cond t (from ∷ filter p (range_with_len (from + 1) steps)) (filter p (range_with_len (from + 1) steps))) → k ≡ length (filter p (range_with_len from (suc steps)))
    more steps k t is e = e ∙ ap (λ (t : Bool). length (cond t (from ∷ filter p (range_with_len (from + 1) steps)) (filter p (range_with_len (from + 1) steps)))) (sym is)

    by : (t : Bool) → p from ≡ t → ((k : ℕ) → slice_get (filter p (range_with_len (from + 1) n)) k ≡ Some j → IsNth p (from + 1) n k j) → (k : ℕ)
        → slice_get (cond t (from ∷ filter p (range_with_len (from + 1) n)) (filter p (range_with_len (from + 1) n))) k ≡ Some j → IsNth p from (suc n) k j
    by true is rest zero e =
        let same : from ≡ j = some_same from j e in
        record { steps = 0; is = Prim.omega (arith, same); within = Prim.omega arith; passes = subst (λ (i : ℕ). p i ≡ true) same is; count = refl }
    by true is rest (suc k) e =
        let r = rest k e in
        let at = r.is in
        let inside = r.within in
        record { steps = suc r.steps; is = Prim.omega (arith, at); within = Prim.omega (arith, inside); passes = r.passes; count = more r.steps (suc k) true is (ap suc r.count) }
    by false is rest k e =
        let r = rest k e in
        let at = r.is in
        let inside = r.within in
        record { steps = suc r.steps; is = Prim.omega (arith, at); within = Prim.omega (arith, inside); passes = r.passes; count = more r.steps k false is r.count }

-- ---- the block, bus or limit that an edit names
pub record IsNamed (m : Parts) (row : ℤ) (side : Side) (number : ℤ) (j : ℕ) : Type 0 where
  pub positive : pos 1 ≤ℤ number
  pub nth : IsNth (is_block_of m row side) 0 (length m.blocks) (unsigned_abs number - 1) j

pub named : (m : Parts) (row : ℤ) (side : Side) (number : ℤ) (j : ℕ) → place_of_block m row side number ≡ Some j → IsNamed m row side number j
unfolding place_of_block
named m row side number j e = by (lt_z number (pos 1)) refl e
  where
    by : (t : Bool) → lt_z number (pos 1) ≡ t → (if t then None else slice_get (filter (is_block_of m row side) (range_with_len 0 (length m.blocks))) (unsigned_abs number - 1)) ≡ Some j → IsNamed m row side number j
    by true is e = absurd Prim.cc
    by false is e = record { positive = lt_z_no {a = number} {b = pos 1} (Prim.rw is tt); nth = nth (is_block_of m row side) 0 (length m.blocks) (unsigned_abs number - 1) j e }

pub block_inside : (m : Parts) (row : ℤ) (side : Side) (number : ℤ) (j : ℕ) → place_of_block m row side number ≡ Some j → j < length m.blocks
block_inside m row side number j e = let at = (named m row side number j e).nth in let is = at.is in let within = at.within in Prim.omega (arith, is, within)

bus_inside : (m : Parts) (number : ℤ) (i : ℕ) → place_of_bus m.buses number ≡ Some i → i < length m.buses
unfolding place_of_bus
bus_inside m number i e = (position-Some (λ bus. int_eq (pos bus.number) number) m.buses i (record { number = 0; pd = pos 0; gs = pos 0 }) e).0

limit_inside : (m : Parts) (row : ℤ) (post : Bool) (l : ℕ) → place_of_limit m row post ≡ Some l → l < length m.lines
unfolding place_of_limit
limit_inside m row post l e = (position-Some (λ line. int_eq (pos line.row) row && has_limit post line) m.lines l (hard_line 0 None None (pos 0)) e).0

-- ---- an edit
not_below : (a b : ℤ) → lt_z a b ≡ false → b ≤ℤ a
not_below a b e = lt_z_no {a = a} {b = b} (Prim.rw e tt)

module _ (m : Parts) (market : IsMarket m) where
  pub quantity_kept : (j : ℕ) (mw : ℤ) → j < length m.blocks → IsMarket (if is_some (judge_quantity m mw j) then m else with_quantity m j mw)
  quantity_kept j mw inside = by (lt_z mw (pos 0)) (lt_z (pos 0) (over_capacity m j mw)) refl refl
    where
      by : (negative over : Bool) → lt_z mw (pos 0) ≡ negative → lt_z (pos 0) (over_capacity m j mw) ≡ over
          → IsMarket (if is_some (if negative then Some fault.Negative else if over then Some (fault.OverCapacity (over_capacity m j mw)) else None) then m else with_quantity m j mw)
      by true over e f = market
      by false true e f = market
      by false false e f = kept_quantity m market j mw inside (not_below mw (pos 0) e) (within_room m j mw (not_below (pos 0) (over_capacity m j mw) f))

  pub stepped : (e : Edit) → IsDatum (number_of e) → IsMarket (step_of m e)
  stepped (edit.Price row side number price) datum = by (place_of_block m row side number) (rival_of m row side number price) refl
    where
      by : (o : Option ℕ) (r : Option ℤ) → place_of_block m row side number ≡ o
          → IsMarket (if is_some (if is_some o then option_map (λ other. fault.OutOfOrder other) r else Some fault.NoBlock) then m else option_map_or (λ j. with_price m j price) o m)
      by None r e = market
      by (Some j) (Some other) e = market
      by (Some j) None e = kept_price m market j price (block_inside m row side number j e) datum
  stepped (edit.Quantity row side number mw) datum = by (place_of_block m row side number) refl
    where
      by : (o : Option ℕ) → place_of_block m row side number ≡ o
          → IsMarket (if is_some (option_map_or (judge_quantity m mw) o (Some fault.NoBlock)) then m else option_map_or (λ j. with_quantity m j mw) o m)
      by None e = market
      by (Some j) e = quantity_kept j mw (block_inside m row side number j e)
  stepped (edit.Demand number mw) datum = by (place_of_bus m.buses number) refl
    where
      by : (o : Option ℕ) → place_of_bus m.buses number ≡ o → IsMarket (if is_some (if is_some o then None else Some fault.NoBus) then m else option_map_or (λ i. with_demand m i mw) o m)
      by None e = market
      by (Some i) e = kept_demand m market i mw (bus_inside m number i e) datum
  stepped (edit.Limit row post mw) datum = by (place_of_limit m row post) (lt_z mw (pos 0)) refl refl
    where
      by : (o : Option ℕ) (negative : Bool) → place_of_limit m row post ≡ o → lt_z mw (pos 0) ≡ negative
          → IsMarket (if is_some (if is_some o then (if negative then Some fault.Negative else None) else Some fault.NoLimit) then m else option_map_or (λ l. with_limit m l post mw) o m)
      by None negative e f = market
      by (Some l) true e f = market
      by (Some l) false e f = kept_limit m market l post mw (limit_inside m row post l e) (not_below mw (pos 0) f)
  stepped (edit.Need mw) datum = by m.reserve.listed (lt_z mw (pos 0)) refl refl
    where
      by : (listed negative : Bool) → m.reserve.listed ≡ listed → lt_z mw (pos 0) ≡ negative
          → IsMarket (if is_some (if listed then (if negative then Some fault.Negative else None) else Some fault.NoReserve) then m else with_need m mw)
      by false negative e f = market
      by true true e f = market
      by true false e f = kept_need m market mw e (not_below mw (pos 0) f)

-- ---- edits
pub law_of_edited_markets : LawOfEditedMarkets
law_of_edited_markets m [] market small = market
law_of_edited_markets m (e ∷ edits) market small =
    law_of_edited_markets (step_of m e) edits (stepped m market e (small 0 e (Prim.omega arith))) (λ i d within. small (suc i) d (Prim.omega (arith, within)))
