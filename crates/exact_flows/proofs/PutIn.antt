-- The rows that are put in are the network's: they make a system of some of its rows, and at last of all.
use Rattle.std.specs.Prelude.{◌≡◌, ◌≢◌, ℕ, ◌+◌, ◌*◌, ◌-◌, ◌<◌, ◌≤◌, pos, List, [], ◌∷◌, ◌++◌, length, map, slice_index, refl}
use Rattle.std.specs.List.{AllPairs, Contains}
use Rattle.std.proofs.Common.{arith, ap, ap₂, sym, ◌∙◌, subst, get_or, inl, inr}
use Rattle.std.proofs.lemmas.List.{length-append, get_or_append_left, get_or-append-add}
use Rattle.std.proofs.lemmas.List.Elements.{Contains-append_cases}
use Rattle.std.proofs.lemmas.Grind.{get_or_default_zero}
use Rattle.exact_flows.specs.Building.{AreAngles, IsBuilt, IsExchanged, IsSmall, bus_of, column_place, row_at}
use Rattle.exact_flows.specs.FlowSystems.{IsFlowSystem, IsRowOf, IsFlowPassed, coefficient, name, of_system}
use Rattle.exact_flows.specs.declared.rows.Row.{Row}
use Rattle.exact_flows.specs.declared.rows.Row.TheVariants.{Flow, Injection}
use Rattle.exact_fraction.specs.declared.Passed.{Passed}
use Rattle.fraction_theory.specs.Fraction.{Fraction, whole}
use Rattle.fraction_theory.proofs.ListSums.{Contains-cases, Contains-filter, Contains-from_filter}
use Rattle.linear_dict.specs.Adding.{AreSums}
use Rattle.linear_dict.specs.Causes.{IsPairWith}
use Rattle.linear_dict.specs.Dictionaries.{Dictionary, IsDictionary, IsStart, AddsRow, note_of, system_in}
use Rattle.linear_dict.specs.Notes.{Noted, blank}
use Rattle.linear_dict.specs.Places.{is_among}
use Rattle.linear_dict.specs.Tables.{cell}
use Rattle.linear_dict.proofs.NameLemmas.{among-tells, among-from, lt_or_le, place_in-at}
use Rattle.linear_dict.proofs.SplitLemmas.{Contains-at, system_is}
use Rattle.linear_dict.proofs.TableLemmas.{within}
use Rattle.network_theory.specs.Networks.{Network}
use Rattle.exact_flows.proofs.Places.{bus_is, place_is, bus_apart, row_before, row_after}
use Rattle.market_data.specs.Scales.{most_buses, most_lines}

abbrev nil : Fraction
nil = whole (pos 0)

-- a coefficient by the places of its row and its column
by_places : (d : Dictionary) → IsDictionary d → (i k r j : ℕ) → i < length d.rows → slice_index d.rows i ≡ r → k < length d.columns → slice_index d.columns k ≡ j
    → (system_in d).coefficient r j ≡ cell (length d.columns) d.coefficients i k
unfolding system_in
by_places d sound i k r j hi at_i hk at_k =
    ap₂ (cell (length d.columns) d.coefficients) (place_in-at d.rows i r sound.put_in.first_distinct hi at_i) (place_in-at d.columns k j sound.put_in.second_distinct hk at_k)

-- of the first row
start_coefficient : {N : Type 0} (value : N → Fraction) (names : List ℕ) (row : ℕ) (entries : List N) (d : Dictionary) → IsStart value names row entries d
    → (k : ℕ) → k < length names → (system_in d).coefficient row (slice_index names k) ≡ get_or (map value entries) k nil
unfolding cell
start_coefficient value names row entries d start k lt =
    let wide : length d.columns ≡ length names = ap length start.columns in
    let long : length d.rows ≡ 1 = ap length start.rows in
    let first : 0 * length d.columns + k ≡ k = Prim.omega arith in
    by_places d start.sound 0 k row (slice_index names k) (Prim.omega (arith, long)) (ap (λ (rs : List ℕ). slice_index rs 0) start.rows) (Prim.omega (arith, wide, lt)) (ap (λ (cs : List ℕ). slice_index cs k) start.columns)
    ∙ ap₂ (λ (xs : List Fraction) (i : ℕ). get_or xs i nil) start.coefficients first

-- with a row more: of the rows before it, and of this one
module _ {N : Type 0} (value : N → Fraction) (old new : Dictionary) (row : ℕ) (entries : List N) (sound : IsDictionary old) (adds : AddsRow value old row entries new) where
  row_count : length new.rows ≡ length old.rows + 1
  row_count = ap length adds.rows ∙ length-append old.rows (row ∷ [])

  wide : length new.columns ≡ length old.columns
  wide = ap length adds.columns

  row_kept : (i : ℕ) → i < length old.rows → slice_index new.rows i ≡ slice_index old.rows i
  row_kept i h = ap (λ (rs : List ℕ). slice_index rs i) adds.rows ∙ get_or_append_left old.rows (row ∷ []) 0 i h

  row_last : slice_index new.rows (length old.rows) ≡ row
  row_last =
      let last : length old.rows ≡ length old.rows + 0 = Prim.omega arith in
      ap₂ (λ (rs : List ℕ) (i : ℕ). slice_index rs i) adds.rows last ∙ get_or-append-add old.rows (row ∷ []) 0 0

  kept_coefficient : (i l : ℕ) → i < length old.rows → l < length old.columns
      → (system_in new).coefficient (slice_index new.rows i) (slice_index new.columns l) ≡ (system_in old).coefficient (slice_index old.rows i) (slice_index old.columns l)
  unfolding cell
  kept_coefficient i l hi hl =
      let inside : i * length old.columns + l < length old.coefficients = Prim.omega (arith, within (length old.rows) (length old.columns) i l hi hl, sound.coefficient_count) in
      by_places new adds.sound i l (slice_index new.rows i) (slice_index new.columns l) (Prim.omega (arith, row_count, hi)) refl (Prim.omega (arith, wide, hl)) refl
      ∙ ap₂ (λ (k : ℕ) (xs : List Fraction). get_or xs (i * k + l) nil) wide adds.coefficients
      ∙ get_or_append_left old.coefficients (map value entries) nil (i * length old.columns + l) inside
      ∙ sym (by_places old sound i l (slice_index old.rows i) (slice_index old.columns l) hi refl hl refl)

  added_coefficient : (l : ℕ) → l < length old.columns → (system_in new).coefficient (slice_index new.rows (length old.rows)) (slice_index new.columns l) ≡ get_or (map value entries) l nil
  unfolding cell
  added_coefficient l hl =
      let place : length old.rows * length old.columns + l ≡ length old.coefficients + l = Prim.omega (arith, sound.coefficient_count) in
      by_places new adds.sound (length old.rows) l (slice_index new.rows (length old.rows)) (slice_index new.columns l) (Prim.omega (arith, row_count)) refl (Prim.omega (arith, wide, hl)) refl
      ∙ ap₂ (λ (k : ℕ) (xs : List Fraction). get_or xs (length old.rows * k + l) nil) wide adds.coefficients
      ∙ ap (λ (i : ℕ). get_or (old.coefficients ++ map value entries) i nil) place
      ∙ get_or-append-add old.coefficients (map value entries) l nil

  -- nothing is noted of the variables before it, nor of this one
  notes_blank : ((w : ℕ) → Contains old.names w → note_of old w ≡ blank) → (w : ℕ) → Contains new.names w → note_of new w ≡ blank
  notes_blank were w c = elim (adds.sound.put_in.either w c) [
    | inl k ↦ elim (Contains-append_cases old.rows (row ∷ []) w (subst (λ (rs : List ℕ). Contains rs w) adds.rows k)) [
      | inl m ↦ let there : Contains old.names w = sound.put_in.first_named w m in adds.notes w there ∙ were w there
      | inr m ↦ elim (Contains-cases row [] w m) [ inl e ↦ ap (note_of new) (sym e) ∙ adds.blank_note | inr none ↦ absurd (Prim.omega (arith, none.1)) ]
    ]
    | inr k ↦
        let there : Contains old.names w = sound.put_in.second_named w (subst (λ (cs : List ℕ). Contains cs w) adds.columns k) in
        adds.notes w there ∙ were w there
  ]

module _ (n : Network) (reference : ℕ) (r : reference < n.buses) where
  abbrev pub at_place : ℕ → Row
  at_place k = row_at (length n.branches) reference k

  flow_name : (k : ℕ) → k < length n.branches → name n.buses (at_place k) ≡ 2 * n.buses + k
  flow_name k h = ap (name n.buses) (row_before (length n.branches) reference k h)

  bus_name : (k : ℕ) → length n.branches ≤ k → name n.buses (at_place k) ≡ n.buses + bus_of reference (k - length n.branches)
  bus_name k h = ap (name n.buses) (row_after (length n.branches) reference k h)

  -- each place has a row of the network
  pub place_row : (k : ℕ) → k + 1 < length n.branches + n.buses → IsRowOf n reference (at_place k)
  place_row k h = elim (lt_or_le k (length n.branches)) [
    | inl l ↦ subst (IsRowOf n reference) (sym (row_before (length n.branches) reference k l)) l
    | inr l ↦ subst (IsRowOf n reference) (sym (row_after (length n.branches) reference k l)) (bus_is n.buses reference (k - length n.branches) (Prim.omega (arith, h, l)))
  ]

  -- small enough for a name
  pub small_row : (row : Row) → IsRowOf n reference row → n.buses ≤ most_buses → length n.branches ≤ most_lines → IsSmall row
  small_row (Flow l) h p q = Prim.omega (arith, h, q)
  small_row (Injection i) h p q = Prim.omega (arith, h.0, p)

  names_apart : (k p : ℕ) → k < p → p + 1 < length n.branches + n.buses → name n.buses (at_place k) ≢ name n.buses (at_place p)
  names_apart k p h q e = elim (lt_or_le p (length n.branches)) [
    | inl l ↦ Prim.omega (arith, e, flow_name k (Prim.omega (arith, h, l)), flow_name p l, h)
    | inr l ↦
        let b = bus_is n.buses reference (p - length n.branches) (Prim.omega (arith, q, l)) in
        elim (lt_or_le k (length n.branches)) [
          | inl m ↦ Prim.omega (arith, e, flow_name k m, bus_name p l, b.0)
          | inr m ↦
              let same : bus_of reference (k - length n.branches) ≡ bus_of reference (p - length n.branches) = Prim.omega (arith, e, bus_name k m, bus_name p l) in
              Prim.omega (arith, bus_apart reference (k - length n.branches) (p - length n.branches) same, h, l, m)
        ]
  ]

  -- no row has the name of a column
  above_columns : (k : ℕ) → n.buses ≤ name n.buses (at_place k)
  above_columns k = elim (lt_or_le k (length n.branches)) [
    | inl l ↦ Prim.omega (arith, flow_name k l)
    | inr l ↦ Prim.omega (arith, bus_name k l)
  ]

  -- ---- the columns
  column_below : (names : List ℕ) → AreAngles n.buses reference names → (j : ℕ) → Contains names j → (j < n.buses) × (j ≢ reference)
  column_below names are j c =
      let is : j ≡ bus_of reference c.0 = sym c.2 ∙ get_or_default_zero names c.0 j c.1 ∙ are.at c.0 c.1 in
      let b = bus_is n.buses reference c.0 (Prim.omega (arith, c.1, are.count)) in
      (Prim.omega (arith, is, b.0), λ e. b.1 (sym is ∙ e))

  column_has : (names : List ℕ) → AreAngles n.buses reference names → (j : ℕ) → j < n.buses → j ≢ reference → Contains names j
  column_has names are j h d =
      let p = place_is n.buses reference j r h d in
      let c : ℕ = column_place reference j in
      let inside : c < length names = Prim.omega (arith, p.0, are.count) in
      subst (Contains names) (are.at c inside ∙ p.1) (Contains-at names c inside)

  pub angles_distinct : (names : List ℕ) → AreAngles n.buses reference names → AllPairs (λ x y. x ≢ y) names
  angles_distinct names are i j d p q e =
      let low : get_or names i d ≡ bus_of reference i = get_or_default_zero names i d (Prim.omega (arith, p, q)) ∙ are.at i (Prim.omega (arith, p, q)) in
      let high : get_or names j d ≡ bus_of reference j = get_or_default_zero names j d q ∙ are.at j q in
      Prim.omega (arith, bus_apart reference i j (sym low ∙ e ∙ high), p)

  pub angles_lack : (names : List ℕ) → AreAngles n.buses reference names → (k : ℕ) → ¬ (Contains names (name n.buses (at_place k)))
  angles_lack names are k c = Prim.omega (arith, (column_below names are (name n.buses (at_place k)) c).0, above_columns k)

  -- ---- one row more
  pub start_built : {N : Type 0} (value : N → Fraction) (names : List ℕ) (row : ℕ) (entries : List N) (d : Dictionary) → AreAngles n.buses reference names
      → row ≡ name n.buses (at_place 0) → AreSums value entries (length names) (λ c. coefficient n.branches (at_place 0) (bus_of reference c))
      → IsStart value names row entries d → IsBuilt n reference 1 d
  start_built value names row entries d are named sums start = record {
    live = start.live;
    sound = start.sound;
    columns = subst (AreAngles n.buses reference) (sym start.columns) are;
    others = start.others ∙ sym start.columns;
    basics = start.basics ∙ sym start.rows;
    row_count = ap length start.rows;
    named = λ k h.
        let first : k ≡ 0 = Prim.omega (arith, h) in
        ap₂ (λ (rs : List ℕ) (i : ℕ). slice_index rs i) start.rows first ∙ named ∙ ap (λ (i : ℕ). name n.buses (at_place i)) (sym first);
    coefficients = λ k c h inside.
        let first : k ≡ 0 = Prim.omega (arith, h) in
        let short : c < length names = Prim.omega (arith, inside, ap length start.columns) in
        ap₂ (λ (x y : ℕ). (system_in d).coefficient x y) (ap₂ (λ (rs : List ℕ) (i : ℕ). slice_index rs i) start.rows first) (ap (λ (cs : List ℕ). slice_index cs c) start.columns)
        ∙ start_coefficient value names row entries d start c short
        ∙ sums.at c short
        ∙ ap₂ (λ (i j : ℕ). coefficient n.branches (at_place i) j) (sym first) (sym (ap (λ (cs : List ℕ). slice_index cs c) start.columns ∙ are.at c short));
    blank_notes = start.blank_notes;
  }

  module _ (place : ℕ) (d : Dictionary) (b : IsBuilt n reference place d) where
    pub row_is_new : place + 1 < length n.branches + n.buses → (row : ℕ) → row ≡ name n.buses (at_place place) → ¬ (Contains d.names row)
    row_is_new h row e c = elim (b.sound.put_in.either row c) [
      | inl k ↦
          let inside : k.0 < place = Prim.omega (arith, k.1, b.row_count) in
          names_apart k.0 place inside h (sym (b.named k.0 inside) ∙ sym (get_or_default_zero d.rows k.0 row k.1) ∙ k.2 ∙ e)
      | inr k ↦ angles_lack d.columns b.columns place (subst (Contains d.columns) e k)
    ]

    pub more_built : {N : Type 0} (value : N → Fraction) (row : ℕ) (entries : List N) (new : Dictionary) → row ≡ name n.buses (at_place place)
        → AreSums value entries (length d.columns) (λ c. coefficient n.branches (at_place place) (bus_of reference c)) → AddsRow value d row entries new → IsBuilt n reference (place + 1) new
    more_built value row entries new is sums adds =
        let tall : length new.rows ≡ length d.rows + 1 = row_count value d new row entries b.sound adds in
        let same : length new.columns ≡ length d.columns = ap length adds.columns in record {
          live = adds.live;
          sound = adds.sound;
          columns = subst (AreAngles n.buses reference) (sym adds.columns) b.columns;
          others = adds.others ∙ b.others ∙ sym adds.columns;
          basics = adds.basics ∙ ap (λ (xs : List ℕ). xs ++ row ∷ []) b.basics ∙ sym adds.rows;
          row_count = Prim.omega (arith, tall, b.row_count);
          named = λ k h. elim (lt_or_le k place) [
            | inl l ↦ row_kept value d new row entries b.sound adds k (Prim.omega (arith, l, b.row_count)) ∙ b.named k l
            | inr l ↦
                let last : k ≡ length d.rows = Prim.omega (arith, l, h, b.row_count) in
                let here : place ≡ k = Prim.omega (arith, l, h) in
                ap (slice_index new.rows) last ∙ row_last value d new row entries b.sound adds ∙ is ∙ ap (λ (i : ℕ). name n.buses (at_place i)) here
          ];
          coefficients = λ k c h inside.
              let short : c < length d.columns = Prim.omega (arith, inside, same) in
              let bus : slice_index new.columns c ≡ slice_index d.columns c = ap (λ (cs : List ℕ). slice_index cs c) adds.columns in
              elim (lt_or_le k place) [
                | inl l ↦ kept_coefficient value d new row entries b.sound adds k c (Prim.omega (arith, l, b.row_count)) short
                    ∙ b.coefficients k c l short ∙ ap (coefficient n.branches (at_place k)) (sym bus)
                | inr l ↦
                    let last : k ≡ length d.rows = Prim.omega (arith, l, h, b.row_count) in
                    let here : place ≡ k = Prim.omega (arith, l, h) in
                    ap (λ (i : ℕ). (system_in new).coefficient (slice_index new.rows i) (slice_index new.columns c)) last
                    ∙ added_coefficient value d new row entries b.sound adds c short
                    ∙ sums.at c short
                    ∙ ap₂ (λ (i j : ℕ). coefficient n.branches (at_place i) j) here (sym (bus ∙ b.columns.at c short))
              ];
          blank_notes = notes_blank value d new row entries b.sound adds b.blank_notes;
        }

    -- ---- the system so far
    pub built_system : place < length n.branches + n.buses → IsFlowSystem n reference (system_in d)
    unfolding system_in
    built_system h = record {
      is_system = system_is d b.sound;
      column = λ j. (
        λ c. column_below d.columns b.columns j (among-from d.columns j (Contains-from_filter (is_among d.columns) d.names j c).1),
        λ p.
            let there : Contains d.columns j = column_has d.columns b.columns j p.0 p.1 in
            Contains-filter (is_among d.columns) d.names j (b.sound.put_in.second_named j there) (among-tells d.columns j there),
      );
      row = λ q c.
          let k = among-from d.rows q (Contains-from_filter (is_among d.rows) d.names q c).1 in
          let inside : k.0 < place = Prim.omega (arith, k.1, b.row_count) in
          let is : slice_index d.rows k.0 ≡ q = sym (get_or_default_zero d.rows k.0 q k.1) ∙ k.2 in
          record {
            row = at_place k.0;
            is = place_row k.0 (Prim.omega (arith, inside, h));
            named = sym is ∙ b.named k.0 inside;
            coefficients = λ j m.
                let l = among-from d.columns j (Contains-from_filter (is_among d.columns) d.names j m).1 in
                let bus : slice_index d.columns l.0 ≡ j = sym (get_or_default_zero d.columns l.0 j l.1) ∙ l.2 in
                subst (λ (x : ℕ). (system_in d).coefficient x j ≡ coefficient n.branches (at_place k.0) j) is
                (subst (λ (y : ℕ). (system_in d).coefficient (slice_index d.rows k.0) y ≡ coefficient n.branches (at_place k.0) y) bus (b.coefficients k.0 l.0 inside l.1));
          };
      blank = λ w c.
          let noted : note_of d w ≡ blank = b.blank_notes w c in
          (ap (λ (t : Noted). t.price) noted, ap (λ (t : Noted). t.low) noted, ap (λ (t : Noted). t.high) noted);
    }

    -- ---- all rows
    pub all_built : place + 1 ≡ length n.branches + n.buses → IsExchanged n reference 0 d
    all_built all =
        let wide : length d.others + 1 ≡ n.buses = ap (λ (xs : List ℕ). length xs + 1) b.others ∙ b.columns.count in
        let tall : length d.basics ≡ place = ap length b.basics ∙ b.row_count in
        let flow : (l : ℕ) → l < length n.branches → slice_index d.rows l ≡ name n.buses (Flow l) = λ l h.
        b.named l (Prim.omega (arith, h, all, r)) ∙ ap (name n.buses) (row_before (length n.branches) reference l h) in
        let bus : (c : ℕ) → c + 1 < n.buses → slice_index d.rows (length n.branches + c) ≡ name n.buses (Injection (bus_of reference c)) = λ c h.
        let back : length n.branches + c - length n.branches ≡ c = Prim.omega arith in
        b.named (length n.branches + c) (Prim.omega (arith, h, all))
        ∙ ap (name n.buses) (row_after (length n.branches) reference (length n.branches + c) (Prim.omega arith) ∙ ap (λ (t : ℕ). Injection (bus_of reference t)) back) in
        record {
          live = b.live;
          sound = b.sound;
          system = built_system (Prim.omega (arith, all));
          complete = there flow bus all;
          other_count = wide;
          basic_count = Prim.omega (arith, wide, tall, all);
          flow = λ l h. ap (λ (xs : List ℕ). slice_index xs l) b.basics ∙ flow l h;
          exchanged = λ c q l. absurd (Prim.omega (arith, l));
          waiting = λ c q _. (
            ap (λ (xs : List ℕ). slice_index xs c) b.others ∙ b.columns.at c (Prim.omega (arith, q, ap length b.others)),
            ap (λ (xs : List ℕ). slice_index xs (length n.branches + c)) b.basics ∙ bus c (Prim.omega (arith, q, wide)),
          );
        }
      where
        there : ((l : ℕ) → l < length n.branches → slice_index d.rows l ≡ name n.buses (Flow l))
            → ((c : ℕ) → c + 1 < n.buses → slice_index d.rows (length n.branches + c) ≡ name n.buses (Injection (bus_of reference c)))
            → place + 1 ≡ length n.branches + n.buses → (row : Row) → IsRowOf n reference row → Contains d.rows (name n.buses row)
        there flow bus all (Flow l) h = subst (Contains d.rows) (flow l h) (Contains-at d.rows l (Prim.omega (arith, h, all, r, b.row_count)))
        there flow bus all (Injection i) h =
            let p = place_is n.buses reference i r h.0 h.1 in
            subst (Contains d.rows) (bus (column_place reference i) p.0 ∙ ap (λ (t : ℕ). n.buses + t) p.1)
            (Contains-at d.rows (length n.branches + column_place reference i) (Prim.omega (arith, p.0, all, b.row_count)))

  -- what stops a row from being put in is a pair of the system with it
  pub stopped_pair : {N : Type 0} (value : N → Fraction) (bound place : ℕ) (d : Dictionary) (row : ℕ) (entries : List N) (e : Passed N) → IsBuilt n reference place d
      → place + 1 < length n.branches + n.buses → row ≡ name n.buses (at_place place)
      → AreSums value entries (length d.columns) (λ c. coefficient n.branches (at_place place) (bus_of reference c)) → IsPairWith value bound d row entries e → IsFlowPassed value bound n reference e
  stopped_pair value bound place d row entries e b h is sums pair =
      of_system (system_in pair.0) (built_system (place + 1) pair.0 (more_built place d b value row entries pair.0 is sums pair.1) h)
      (pair.2 (system_in pair.0) (record { variables = refl; columns = refl; rows = refl; coefficient = λ _ _ _ _. refl }))
