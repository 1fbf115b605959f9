-- Steps of the sums of injections and of outputs.
use Rattle.std.specs.Prelude.{◌≡◌, ◌⊎◌, ℕ, ◌+◌, ◌<◌, ◌≤◌, ◌==◌, pos, Bool, true, List, [], ◌∷◌, ◌++◌, map, filter, length, Some, if◌then◌else◌, refl}
use Rattle.std.specs.List.{slice_get}
use Rattle.std.proofs.Common.{arith, inl, inr, ap, ap₂, sym, subst, ◌∙◌, get_or, append_assoc, length-append}
use Rattle.std.proofs.lemmas.Option.{get_or_from_slice_get}
use Rattle.std.proofs.lemmas.List.{get_or-map, get_or_append_left, take-append-le}
use Rattle.fraction_theory.specs.Fraction.{Fraction, whole, neg_ℚ, ◌+ℚ◌, ◌-ℚ◌}
use Rattle.fraction_theory.specs.Sums.{Term, Plain, term_value, total, prefix}
use Rattle.fraction_theory.proofs.FieldLaws.{ring_ℚ, +ℚ_nil, +ℚ_assoc}
use Rattle.fraction_theory.proofs.Ring.{neg_neg}
use Rattle.fraction_theory.proofs.SumLaws.{total-append}
use Rattle.exact_fraction.specs.declared.Op.{Op}
use Rattle.exact_fraction.specs.declared.Op.TheVariants.{Plus, Minus, Times}
use Rattle.exact_fraction.specs.declared.Passed.{Passed}
use Rattle.exact_fraction.specs.Passes.{IsTooLarge, outcome}
use Rattle.market_data.specs.declared.participants.Bus.{Bus}
use Rattle.market_data.specs.declared.participants.Unit as unit
use Rattle.market_model.specs.declared.participants.Block.{Block}
use Rattle.market_model.specs.declared.participants.Parts.{Parts}
use Rattle.market_model.specs.Dispatch.{Dispatch, zero, places, bus_at, unit_at, block_at, block_bus, fixed_term, block_term, accepted, signed_by_side, units_at, blocks_at, injection, injection_terms, output_terms}
use Rattle.market_model.specs.NamedSums.{SameSize, IsNextTerm, IsSumStep, IsRefusal, IsRefusedIn}
use Rattle.market_model.specs.PutIn.{dispatch_of, put_in, AreInjections, IsDemandRefusal}
use Rattle.market_model.proofs.MorePlaces.{total-filter_more}
use Rattle.market_model.proofs.PlaceLists.{filled_at}
use Rattle.market_model.proofs.SumSteps.{plus_at, minus_at, tested_at, behind}

-- the accepted MW of a block, as a number
pub accepted_is : {N : Type 0} (value : N → Fraction) (ds : List N) (k : ℕ) (d : N) → k < length ds → d ≡ get_or ds k d → accepted (dispatch_of value ds) k ≡ value d
accepted_is value ds k d h is = get_or-map value ds k d (whole (pos 0)) h ∙ ap value (sym is)

-- ---- the fixed parts of the units at a bus
module _ (m : Parts) (bus : ℕ) where
  abbrev pub at_bus : ℕ → Bool
  at_bus u = (unit_at m u).bus == bus

  abbrev pub fixed_to : ℕ → List Term
  fixed_to k = map (fixed_term m) (filter at_bus (places k))

  pub fixed_step : (k : ℕ) (u : unit.Unit) (old new : Fraction) → u ≡ unit_at m k → old ≡ total (fixed_to k) → new ≡ old +ℚ (if u.bus == bus then whole u.fixed else whole (pos 0)) → new ≡ total (fixed_to (k + 1))
  fixed_step k u old new at before e =
      e ∙ ap (λ (v : unit.Unit). old +ℚ (if v.bus == bus then whole v.fixed else whole (pos 0))) at
      ∙ ap (λ t. t +ℚ (if (unit_at m k).bus == bus then whole (unit_at m k).fixed else whole (pos 0))) before
      ∙ sym (total-filter_more at_bus (fixed_term m) k)

  pub fixed_refused : (k : ℕ) (u : unit.Unit) (sum : Fraction) (bound : ℕ) (p : Passed Fraction) → k < length m.units → u ≡ unit_at m k → (u.bus == bus) ≡ true → sum ≡ total (fixed_to k)
      → IsRefusal Plus sum (whole u.fixed) bound p → IsRefusedIn (map (fixed_term m) (units_at m bus)) bound p
  fixed_refused k u sum bound p below at belongs is h =
      let r = tested_at at_bus (fixed_term m) (length m.units) k below (ap (λ (v : unit.Unit). v.bus == bus) (sym at) ∙ belongs) in
      plus_at (map (fixed_term m) (units_at m bus)) (fixed_to k) r.0 (fixed_term m k) r.1 bound p sum (whole u.fixed) is (ap (λ (v : unit.Unit). whole v.fixed) at) h

  -- ---- and what their blocks raise them by
  module _ (x : Dispatch) where
    abbrev pub bus_block : ℕ → Bool
    bus_block j = block_bus m j == bus

    abbrev pub raised_to : ℕ → List Term
    raised_to k = map (fixed_term m) (units_at m bus) ++ map (block_term m x) (filter bus_block (places k))

    pub raised_step : (k : ℕ) (block : Block) (belongs : Bool) (mw old new : Fraction) → block ≡ block_at m k → belongs ≡ bus_block k → accepted x k ≡ mw → old ≡ total (raised_to k)
        → new ≡ old +ℚ (if belongs then signed_by_side block.side mw else whole (pos 0)) → new ≡ total (raised_to (k + 1))
    raised_step k block belongs mw old new at is accept before e =
        let f : List Term = map (fixed_term m) (units_at m bus) in
        let t : List Term = map (block_term m x) (filter bus_block (places k)) in
        let more : Fraction = if bus_block k then signed_by_side (block_at m k).side (accepted x k) else whole (pos 0) in
        e ∙ ap (λ (b : Bool). old +ℚ (if b then signed_by_side block.side mw else whole (pos 0))) is
        ∙ ap (λ (b : Block). old +ℚ (if bus_block k then signed_by_side b.side mw else whole (pos 0))) at
        ∙ ap (λ v. old +ℚ (if bus_block k then signed_by_side (block_at m k).side v else whole (pos 0))) (sym accept)
        ∙ ap (λ s. s +ℚ more) (before ∙ total-append f t)
        ∙ +ℚ_assoc (total f) (total t) more
        ∙ ap (λ s. total f +ℚ s) (sym (total-filter_more bus_block (block_term m x) k))
        ∙ sym (total-append f (map (block_term m x) (filter bus_block (places (k + 1)))))

    pub raised_refused : (k : ℕ) (block : Block) (belongs : Bool) (mw sum : Fraction) (bound : ℕ) (p : Passed Fraction) → k < length m.blocks → block ≡ block_at m k → belongs ≡ bus_block k → belongs ≡ true
        → accepted x k ≡ mw → sum ≡ total (raised_to k) → IsRefusal Plus sum (signed_by_side block.side mw) bound p
        → IsRefusedIn (map (fixed_term m) (units_at m bus) ++ map (block_term m x) (filter bus_block (places (length m.blocks)))) bound p
    raised_refused k block belongs mw sum bound p below at is sure accept before h =
        let f : List Term = map (fixed_term m) (units_at m bus) in
        let r = tested_at bus_block (block_term m x) (length m.blocks) k below (sym is ∙ sure) in
        plus_at (f ++ map (block_term m x) (filter bus_block (places (length m.blocks)))) (raised_to k) r.0 (block_term m x k)
        (behind f (map (block_term m x) (filter bus_block (places (length m.blocks)))) (map (block_term m x) (filter bus_block (places k))) r.0 (block_term m x k) r.1)
        bound p sum (signed_by_side block.side mw) before
        (ap (λ (b : Block). signed_by_side b.side mw) at ∙ ap (signed_by_side (block_at m k).side) (sym accept)) h

-- ---- what was put in
module _ (m : Parts) (x : Dispatch) (fs : List Fraction) (puts : AreInjections m x fs) where
  pub put_is : (i : ℕ) → i < length m.buses → put_in fs i ≡ injection m x i
  put_is = filled_at (injection m x) fs (length m.buses) (whole (pos 0)) puts

-- steps of sums in front of more terms
prefix-front : (k : ℕ) (ts us : List Term) → k ≤ length ts → prefix k (ts ++ us) ≡ prefix k ts
prefix-front k ts us h = ap total (take-append-le k ts us h)

next_in_front : (ts us : List Term) (op : Op) (l r : Fraction) (k : ℕ) → IsNextTerm ts op l r k → IsNextTerm (ts ++ us) op l r k
next_in_front ts us op l r k next =
    let inside : k < length ts = next.inside in
    record {
      inside = Prim.omega (arith, inside, length-append ts us);
      before = subst (SameSize l) (sym (prefix-front k ts us (Prim.omega (arith, inside)))) next.before;
      next = subst (λ (t : Term). SameSize r (term_value t)) (sym (get_or_append_left ts us (Plain (whole (pos 0))) k inside)) next.next;
      after = subst (SameSize (outcome op l r)) (sym (prefix-front (k + 1) ts us (Prim.omega (arith, inside)))) next.after;
    }

step_in_front : (ts us : List Term) (op : Op) (l r : Fraction) (k : ℕ) → IsSumStep ts op l r k → IsSumStep (ts ++ us) op l r k
step_in_front ts us Plus l r k next = next_in_front ts us Plus l r k next
step_in_front ts us Minus l r k next = next_in_front ts us Minus l r k next
step_in_front ts us Times l r k (a, b, factors) =
    let inside : k < length ts = factors.inside in (
      a,
      b,
      record {
        inside = Prim.omega (arith, inside, length-append ts us);
        product = get_or_append_left ts us (Plain (whole (pos 0))) k inside ∙ factors.product;
        sides = factors.sides;
      },
    )

-- a step is at one of the terms
step_inside : (ts : List Term) (op : Op) (l r : Fraction) (k : ℕ) → IsSumStep ts op l r k → k < length ts
step_inside ts Plus l r k next = next.inside
step_inside ts Minus l r k next = next.inside
step_inside ts Times l r k (a, b, factors) = factors.inside

refused_in_front : (ts us : List Term) (bound : ℕ) (p : Passed Fraction) → IsRefusedIn ts bound p → IsRefusedIn (ts ++ us) bound p
refused_in_front ts us bound p h =
    let inside : h.place < length ts = step_inside ts p.op p.left p.right h.place h.step in
    record {
      place = h.place;
      step = step_in_front ts us p.op p.left p.right h.place h.step;
      passes = h.passes;
      too_large = subst (IsTooLarge bound) (sym (prefix-front (h.place + 1) ts us (Prim.omega (arith, inside)))) h.too_large;
    }

-- ---- what a bus puts in
pub demand_less : (m : Parts) (x : Dispatch) (i : ℕ) (b : Bus) (sum left : Fraction) → b ≡ bus_at m i → sum ≡ total (map (fixed_term m) (units_at m i) ++ map (block_term m x) (blocks_at m i))
    → left ≡ (sum -ℚ whole b.pd) -ℚ whole b.gs → left ≡ injection m x i
unfolding injection
demand_less m x i b sum left at is e =
    let f : List Term = map (fixed_term m) (units_at m i) in
    let t : List Term = map (block_term m x) (blocks_at m i) in
    let d : List Term = Plain (neg_ℚ (whole (bus_at m i).pd)) ∷ Plain (neg_ℚ (whole (bus_at m i).gs)) ∷ [] in
    e ∙ ap (λ (c : Bus). (sum -ℚ whole c.pd) -ℚ whole c.gs) at
    ∙ ap (λ s. (s -ℚ whole (bus_at m i).pd) -ℚ whole (bus_at m i).gs) is
    ∙ +ℚ_assoc (total (f ++ t)) (neg_ℚ (whole (bus_at m i).pd)) (neg_ℚ (whole (bus_at m i).gs))
    ∙ ap (λ s. total (f ++ t) +ℚ (neg_ℚ (whole (bus_at m i).pd) +ℚ s)) (sym (+ℚ_nil (neg_ℚ (whole (bus_at m i).gs))))
    ∙ sym (total-append (f ++ t) d)

module _ (m : Parts) (x : Dispatch) (i : ℕ) (bound : ℕ) (p : Passed Fraction) where
  abbrev front : List Term
  front = map (fixed_term m) (units_at m i) ++ map (block_term m x) (blocks_at m i)

  abbrev less_load : Term
  less_load = Plain (neg_ℚ (whole (bus_at m i).pd))

  abbrev less_shunt : Term
  less_shunt = Plain (neg_ℚ (whole (bus_at m i).gs))

  parts-are : injection_terms m x i ≡ front ++ less_load ∷ less_shunt ∷ []
  parts-are = refl

  pub demand_refused : (b : Bus) (sum : Fraction) → b ≡ bus_at m i → sum ≡ total front → IsDemandRefusal sum b bound p → IsRefusedIn (injection_terms m x i) bound p
  demand_refused b sum at is why = by why
    where
      by : IsRefusal Minus sum (whole b.pd) bound p ⊎ IsRefusal Minus (sum -ℚ whole b.pd) (whole b.gs) bound p → IsRefusedIn (injection_terms m x i) bound p
      by (inl h) =
          minus_at (injection_terms m x i) front (less_shunt ∷ []) less_load parts-are bound p sum (whole b.pd) is
          (ap (λ (c : Bus). whole c.pd) at ∙ sym (neg_neg ring_ℚ (whole (bus_at m i).pd))) h
      by (inr h) =
          minus_at (injection_terms m x i) (front ++ less_load ∷ []) [] less_shunt (parts-are ∙ sym (append_assoc front (less_load ∷ []) (less_shunt ∷ []))) bound p (sum -ℚ whole b.pd) (whole b.gs)
          (ap (λ (c : Bus). sum -ℚ whole c.pd) at ∙ ap (λ s. s -ℚ whole (bus_at m i).pd) is ∙ ap (λ s. total front +ℚ s) (sym (+ℚ_nil (neg_ℚ (whole (bus_at m i).pd)))) ∙ sym (total-append front (less_load ∷ [])))
          (ap (λ (c : Bus). whole c.gs) at ∙ sym (neg_neg ring_ℚ (whole (bus_at m i).gs))) h

  -- a step in front of load and shunt is a step of the injection
  pub raised_refusal : IsRefusedIn front bound p → IsRefusedIn (injection_terms m x i) bound p
  raised_refusal h = subst (λ ts. IsRefusedIn ts bound p) (sym parts-are) (refused_in_front front (less_load ∷ less_shunt ∷ []) bound p h)

  pub fixed_refusal : IsRefusedIn (map (fixed_term m) (units_at m i)) bound p → IsRefusedIn (injection_terms m x i) bound p
  fixed_refusal h = raised_refusal (refused_in_front (map (fixed_term m) (units_at m i)) (map (block_term m x) (blocks_at m i)) bound p h)

-- the sum of the units with no block
pub raised_none : (m : Parts) (x : Dispatch) (bus : ℕ) (sum : Fraction) → sum ≡ total (map (fixed_term m) (units_at m bus)) → sum ≡ total (raised_to m bus x 0)
raised_none m x bus sum e = e ∙ sym (+ℚ_nil (total (map (fixed_term m) (units_at m bus)))) ∙ sym (total-append (map (fixed_term m) (units_at m bus)) [])

-- a unit that was read
pub unit_read : (m : Parts) (us : List unit.Unit) (j k : ℕ) (u : unit.Unit) → us ≡ m.units → j ≡ k → slice_get us j ≡ Some u → u ≡ unit_at m k
unit_read m us j k u e f at =
    sym (get_or_from_slice_get us j u (record { row = 0; bus = 0; fixed = pos 0; up = pos 0; down = pos 0 }) at)
    ∙ ap₂ (λ (vs : List unit.Unit) (n : ℕ). get_or vs n (record { row = 0; bus = 0; fixed = pos 0; up = pos 0; down = pos 0 })) e f

-- ---- what a unit puts out
module _ {N : Type 0} (value : N → Fraction) (m : Parts) (ds : List N) where
  abbrev pub output_to : ℕ → ℕ → Fraction
  output_to place k = total (fixed_term m place ∷ map (block_term m (dispatch_of value ds)) (filter (λ j. (block_at m j).unit == place) (places k)))

  -- an output with one block more
  pub output_step : (place k : ℕ) (block : Block) (d : N) (old new : Fraction) → k < length ds → d ≡ get_or ds k d → block ≡ block_at m k → old ≡ output_to place k
      → new ≡ old +ℚ (if block.unit == place then signed_by_side block.side (value d) else zero) → new ≡ output_to place (k + 1)
  output_step place k block d old new h is at before e =
      let f : Fraction = whole (unit_at m place).fixed in
      let t : Fraction = total (map (block_term m (dispatch_of value ds)) (filter (λ j. (block_at m j).unit == place) (places k))) in
      let more : Fraction = if (block_at m k).unit == place then signed_by_side (block_at m k).side (accepted (dispatch_of value ds) k) else zero in
      e
      ∙ ap (λ (b : Block). old +ℚ (if b.unit == place then signed_by_side b.side (value d) else zero)) at
      ∙ ap (λ v. old +ℚ (if (block_at m k).unit == place then signed_by_side (block_at m k).side v else zero)) (sym (accepted_is value ds k d h is))
      ∙ ap (λ s. s +ℚ more) before
      ∙ +ℚ_assoc f t more
      ∙ ap (λ s. f +ℚ s) (sym (total-filter_more (λ j. (block_at m j).unit == place) (block_term m (dispatch_of value ds)) k))

  module _ (bound : ℕ) (p : Passed Fraction) where
    -- a block of a unit's output
    pub output_refused : (place k : ℕ) (block : Block) (d : N) (sum : Fraction) → k < length m.blocks → k < length ds → d ≡ get_or ds k d → block ≡ block_at m k → (block.unit == place) ≡ true
        → sum ≡ output_to place k → IsRefusal Plus sum (signed_by_side block.side (value d)) bound p → IsRefusedIn (output_terms m (dispatch_of value ds) place) bound p
    output_refused place k block d sum below lt at same belongs is h =
        let x = dispatch_of value ds in
        let test : ℕ → _ = λ j. (block_at m j).unit == place in
        let r = tested_at test (block_term m x) (length m.blocks) k below (ap (λ (b : Block). b.unit == place) (sym same) ∙ belongs) in
        plus_at (output_terms m x place) (fixed_term m place ∷ map (block_term m x) (filter test (places k))) r.0 (block_term m x k) (ap (λ ts. fixed_term m place ∷ ts) r.1)
        bound p sum (signed_by_side block.side (value d)) is
        ((ap (λ (b : Block). signed_by_side b.side (value d)) same ∙ ap (signed_by_side (block_at m k).side) (sym (accepted_is value ds k d lt at)))) h
