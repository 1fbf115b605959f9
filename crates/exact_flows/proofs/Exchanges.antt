-- The entry of an angle and of what is put in at its bus is never 0 while the angle waits; after the exchange the next angle waits.
use Rattle.std.specs.Prelude.{◌≡◌, ◌≢◌, ◌⊎◌, ℕ, ◌+◌, ◌<◌, pos, [], length, slice_index, slice_set, false, refl}
use Rattle.std.specs.List.{Contains}
use Rattle.std.proofs.Common.{arith, ap, ap₂, sym, ◌∙◌, subst, inl, inr}
use Rattle.std.proofs.lemmas.List.{length-set, get_or-set_same, get_or-set_other}
use Rattle.exact_flows.specs.Building.{IsExchanged, bus_of, column_place}
use Rattle.exact_flows.specs.FlowSystems.{name}
use Rattle.exact_flows.specs.declared.rows.Row.TheVariants.{Flow, Injection}
use Rattle.fraction_theory.specs.Fraction.{Fraction, whole, ◌-ℚ◌}
use Rattle.fraction_theory.proofs.Ring.{by_ring, pnil, pone, pneg, ◌⊕◌}
use Rattle.fraction_theory.proofs.FieldLaws.{ring_ℚ}
use Rattle.fraction_theory.proofs.ListSums.{Contains-filter, Distinct-increasing, same_or_not}
use Rattle.linear_system.specs.Choices.{column_entry}
use Rattle.linear_system.specs.Systems.{MeetsRows}
use Rattle.linear_system.proofs.ChoiceLaws.{unit_point, unit_meets, column_entry-basic, column_entry-itself, column_entry-other, basics_are, others_are}
use Rattle.linear_dict.specs.Dictionaries.{Dictionary, IsDictionary, choice_of, entry_of, note_of, pivoted, system_in}
use Rattle.linear_dict.specs.Places.{is_among}
use Rattle.linear_dict.specs.Tables.{cell}
use Rattle.linear_dict.proofs.NameLemmas.{among-tells, entry_at, lt_or_le}
use Rattle.linear_dict.proofs.SplitLemmas.{Contains-at, basic_in, other_in}
use Rattle.network_theory.specs.Carrying.{IsCarried}
use Rattle.network_theory.specs.Networks.{Branch, Network, IsConnected, IsTheoryNetwork, StandsAt, injection}
use Rattle.network_theory.proofs.Solutions.{apart}
use Rattle.exact_flows.proofs.Losses.{at_rest}
use Rattle.exact_flows.proofs.Meanings.{angle, angle_reference, angle_other, bus_row, flow_row, one_here, one_else}
use Rattle.exact_flows.proofs.Places.{bus_is, place_is, bus_apart}

-- the dictionary's rows are those of its system
pub in_rows : (d : Dictionary) → IsDictionary d → (r : ℕ) → Contains d.rows r → Contains (system_in d).rows r
unfolding system_in
in_rows d sound r c = Contains-filter (is_among d.rows) d.names r (sound.put_in.first_named r c) (among-tells d.rows r c)

-- what a point says where one of the others is 1 and the rest of them are 0
module _ (d : Dictionary) (sound : IsDictionary d) (w : ℕ) (there : Contains d.others w) where
  abbrev pub point : ℕ → Fraction
  point j = column_entry (choice_of d) j w

  pub point_meets : d.spent ≡ false → MeetsRows (system_in d) point
  unfolding unit_point system_in
  point_meets live = (sound.solutions live).to_rows (unit_point (choice_of d) w)
      (unit_meets (system_in d) (Distinct-increasing d.names sound.ascending) (choice_of d) w (other_in d sound w there))

  pub point_itself : point w ≡ whole (pos 1)
  point_itself = column_entry-itself (choice_of d) w (others_are (system_in d) (choice_of d) w (other_in d sound w there)).1

  pub point_other : (j : ℕ) → Contains d.others j → j ≢ w → point j ≡ whole (pos 0)
  point_other j c n = column_entry-other (choice_of d) j w (others_are (system_in d) (choice_of d) j (other_in d sound j c)).1 n

  pub point_basic : (j : ℕ) → Contains d.basics j → point j ≡ (choice_of d).entry j w
  point_basic j c = column_entry-basic (choice_of d) j w (basics_are (system_in d) (choice_of d) j (basic_in d sound j c)).1

module _ (n : Network) (reference : ℕ) (is : IsTheoryNetwork n) (connected : IsConnected n reference) (r : reference < n.buses) (d : Dictionary) (done : ℕ) (e : IsExchanged n reference done d) where
  at_other : (c : ℕ) → c < length d.others → (x : ℕ) → slice_index d.others c ≡ x → Contains d.others x
  at_other c h x f = subst (Contains d.others) f (Contains-at d.others c h)

  at_basic : (k : ℕ) → k < length d.basics → (x : ℕ) → slice_index d.basics k ≡ x → Contains d.basics x
  at_basic k h x f = subst (Contains d.basics) f (Contains-at d.basics k h)

  bus_there : (i : ℕ) → i < n.buses → i ≢ reference → Contains (system_in d).rows (name n.buses (Injection i))
  bus_there i h a = in_rows d e.sound (name n.buses (Injection i)) (e.complete (Injection i) (h, a))

  -- the angle of the next column is not in the way of its exchange
  pub next_entry : done < length d.others → cell (length d.others) d.table (length n.branches + done) done ≢ whole (pos 0)
  unfolding choice_of
  next_entry h nothing =
      let w : ℕ = slice_index d.others done in
      let here : w ≡ bus_of reference done = (e.waiting done h (Prim.omega arith)).0 in
      let there : Contains d.others w = Contains-at d.others done h in
      let wide : done + 1 < n.buses = Prim.omega (arith, h, e.other_count) in
      let own = bus_is n.buses reference done wide in
      let v : ℕ → Fraction = point d e.sound w there in
      let meets : MeetsRows (system_in d) v = point_meets d e.sound w there e.live in
      let a : ℕ → Fraction = angle n reference is (system_in d) e.system v meets in
      let apart_w : (x c : ℕ) → bus_of reference c ≡ x → c ≢ done → x ≢ w = λ x c f g q. g (bus_apart reference c done (f ∙ q ∙ here)) in
      let rest : (i : ℕ) → i < n.buses → (a i ≡ whole (pos 0)) ⊎ (injection n a i ≡ whole (pos 0)) = λ i below. elim (same_or_not i reference) [
        | inl f ↦ inl (ap a f ∙ angle_reference n reference is (system_in d) e.system v meets)
        | inr f ↦
            let p = place_is n.buses reference i r below f in
            let c : ℕ = column_place reference i in
            let inside : c < length d.others = Prim.omega (arith, p.0, e.other_count) in
            let row = bus_row n reference is (system_in d) e.system v meets i below (bus_there i below f) in
            elim (lt_or_le c done) [
              | inl l ↦
                  let x = (e.exchanged c inside l).0 ∙ ap (λ (t : ℕ). n.buses + t) p.1 in
                  inr (sym row ∙ point_other d e.sound w there (name n.buses (Injection i)) (at_other c inside (name n.buses (Injection i)) x) (λ q. Prim.omega (arith, q, here, own.0)))
              | inr l ↦ elim (same_or_not c done) [
                | inl q ↦
                    let x = (e.waiting c inside l).1 ∙ ap (λ (t : ℕ). n.buses + t) p.1 in
                    let k : length n.branches + c < length d.basics = Prim.omega (arith, inside, e.basic_count) in
                    let b : slice_index d.basics (length n.branches + done) ≡ name n.buses (Injection i) = ap (λ (t : ℕ). slice_index d.basics (length n.branches + t)) (sym q) ∙ x in
                    inr (sym row
                    ∙ point_basic d e.sound w there (name n.buses (Injection i)) (at_basic (length n.branches + c) k (name n.buses (Injection i)) x)
                    ∙ ap (λ (t : ℕ). entry_of d t w) (sym b)
                    ∙ sym (entry_at d e.sound (length n.branches + done) done (Prim.omega (arith, h, e.basic_count)) h)
                    ∙ nothing)
                | inr q ↦
                    let x = (e.waiting c inside l).0 ∙ p.1 in
                    inl (angle_other n reference is (system_in d) e.system v meets i f ∙ point_other d e.sound w there i (at_other c inside i x) (apart_w i c p.1 q))
              ]
            ]
      ] in
      let not_reference : w ≢ reference = λ q. own.1 (sym here ∙ q) in
      apart (sym (point_itself d e.sound w there)
      ∙ sym (angle_other n reference is (system_in d) e.system v meets w not_reference)
      ∙ at_rest n reference a is connected rest w (Prim.omega (arith, here, own.0))
      ∙ angle_reference n reference is (system_in d) e.system v meets)

  -- the entries of the solved dictionary are the flows
  module _ (all : done ≡ length d.others) where
    solved_other : (i : ℕ) → i < n.buses → i ≢ reference → (column_place reference i < length d.others) × (slice_index d.others (column_place reference i) ≡ name n.buses (Injection i))
    solved_other i h a =
        let p = place_is n.buses reference i r h a in
        let inside : column_place reference i < length d.others = Prim.omega (arith, p.0, e.other_count) in
        (inside, (e.exchanged (column_place reference i) inside (Prim.omega (arith, inside, all))).0 ∙ ap (λ (t : ℕ). n.buses + t) p.1)

    pub entry_carried : (i l : ℕ) (b : Branch) → i < n.buses → i ≢ reference → StandsAt n l b
        → (x : Fraction) → x ≡ (choice_of d).entry (slice_index d.basics l) (slice_index d.others (column_place reference i)) → IsCarried n reference i reference b x
    entry_carried i l b h a stands x is_entry =
        let w : ℕ = name n.buses (Injection i) in
        let o = solved_other i h a in
        let there : Contains d.others w = at_other (column_place reference i) o.0 w o.1 in
        let v : ℕ → Fraction = point d e.sound w there in
        let meets : MeetsRows (system_in d) v = point_meets d e.sound w there e.live in
        let f : ℕ = name n.buses (Flow l) in
        let basic : Contains d.basics f = at_basic l (Prim.omega (arith, stands.within, e.basic_count)) f (e.flow l stands.within) in
        record {
          angle = angle n reference is (system_in d) e.system v meets;
          solution = record {
            at_reference = angle_reference n reference is (system_in d) e.system v meets;
            injections = λ k below other.
                let q = solved_other k below other in
                sym (bus_row n reference is (system_in d) e.system v meets k below (bus_there k below other))
                ∙ elim (same_or_not i k) [
                  | inl s ↦ ap v (ap (λ (t : ℕ). n.buses + t) (sym s)) ∙ point_itself d e.sound w there
                      ∙ by_ring ring_ℚ [] pone (pone ⊕ pneg pnil) refl
                      ∙ sym (ap₂ ◌-ℚ◌ (one_here i k s) (one_else reference k (λ t. other (sym t))))
                  | inr s ↦ point_other d e.sound w there (name n.buses (Injection k)) (at_other (column_place reference k) q.0 (name n.buses (Injection k)) q.1) (λ t. s (Prim.omega (arith, t)))
                      ∙ by_ring ring_ℚ [] pnil (pnil ⊕ pneg pnil) refl
                      ∙ sym (ap₂ ◌-ℚ◌ (one_else i k s) (one_else reference k (λ t. other (sym t))))
                ];
          };
          is = sym (flow_row n reference is (system_in d) e.system v meets l b stands (in_rows d e.sound f (e.complete (Flow l) stands.within)))
              ∙ point_basic d e.sound w there f basic
              ∙ ap₂ (λ (t u : ℕ). (choice_of d).entry t u) (sym (e.flow l stands.within)) (sym o.1)
              ∙ sym is_entry;
        }

  -- the next angle waits
  pub exchanged_more : done < length d.others → IsDictionary (pivoted d (length n.branches + done) done) → IsExchanged n reference (done + 1) (pivoted d (length n.branches + done) done)
  unfolding note_of pivoted system_in
  exchanged_more h sound =
      let k : ℕ = length n.branches + done in
      let inside : k < length d.basics = Prim.omega (arith, h, e.basic_count) in
      let now = e.waiting done h (Prim.omega arith) in
      let a : ℕ = slice_index d.basics k in
      let b : ℕ = slice_index d.others done in
      let wide : length (slice_set d.others done a) ≡ length d.others = length-set d.others done a in
      let tall : length (slice_set d.basics k b) ≡ length d.basics = length-set d.basics k b in
      record {
        live = e.live;
        sound = sound;
        system = e.system;
        complete = e.complete;
        other_count = Prim.omega (arith, wide, e.other_count);
        basic_count = Prim.omega (arith, wide, tall, e.basic_count);
        flow = λ l q. get_or-set_other d.basics k l b 0 (λ t. Prim.omega (arith, t, q)) ∙ e.flow l q;
        exchanged = λ c q l. elim (same_or_not c done) [
          | inl s ↦ (
            ap (slice_index (slice_set d.others done a)) s ∙ get_or-set_same d.others done a 0 h ∙ now.1 ∙ ap (λ (t : ℕ). n.buses + bus_of reference t) (sym s),
            ap (λ (t : ℕ). slice_index (slice_set d.basics k b) (length n.branches + t)) s ∙ get_or-set_same d.basics k b 0 inside ∙ now.0 ∙ ap (bus_of reference) (sym s),
          )
          | inr s ↦
              let was = e.exchanged c (Prim.omega (arith, q, wide)) (below c done l s) in (
                get_or-set_other d.others done c a 0 s ∙ was.0,
                get_or-set_other d.basics k (length n.branches + c) b 0 (λ t. s (Prim.omega (arith, t))) ∙ was.1,
              )
        ];
        waiting = λ c q l.
            let s : c ≢ done = λ t. Prim.omega (arith, t, l) in
            let was = e.waiting c (Prim.omega (arith, q, wide)) (Prim.omega (arith, l)) in (
              get_or-set_other d.others done c a 0 s ∙ was.0,
              get_or-set_other d.basics k (length n.branches + c) b 0 (λ t. s (Prim.omega (arith, t))) ∙ was.1,
            );
      }
    where
      below : (x y : ℕ) → x < y + 1 → x ≢ y → x < y
      below x y l s = elim (lt_or_le x y) [ inl p ↦ p | inr p ↦ absurd (s (Prim.omega (arith, l, p))) ]
