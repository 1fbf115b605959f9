-- A dictionary of one row as put in.
use Rattle.std.specs.Prelude.{◌≡◌, ℕ, ◌*◌, ◌<◌, ◌≤◌, false, not, List, [], ◌∷◌, ◌++◌, length, map, take, filter, insert, pos, slice_get, Some, refl}
use Rattle.std.specs.List.{Contains}
use Rattle.std.proofs.Common.{zero, suc, arith, ap, sym, ◌∙◌, subst, get_or, inl, inr, length-append}
use Rattle.std.proofs.lemmas.List.{length-map, length-take, get_or-take}
use Rattle.std.proofs.Math.Seq.{get_or-append_seam}
use Rattle.linear_dict.specs.Tables.{cell}
use Rattle.fraction_theory.specs.Fraction.{Fraction, over, ◌*ℚ◌}
use Rattle.fraction_theory.proofs.FieldLaws.{over-one}
use Rattle.std.proofs.lemmas.Grind.{get_or_default_zero}
use Rattle.fraction_theory.specs.Sums.{sum_by}
use Rattle.fraction_theory.proofs.ListSums.{Contains-cases, Distinct, filter-members}
use Rattle.linear_system.specs.Choices.{IsChoice, basics, others}
use Rattle.linear_system.specs.Systems.{activity}
use Rattle.linear_dict.specs.declared.index.Variable.{Variable}
use Rattle.linear_dict.specs.declared.place.Place.{Place}
use Rattle.linear_dict.specs.declared.place.Place.TheVariants.{Row, Column}
use Rattle.linear_dict.specs.Dictionaries.{Dictionary, IsStart, seen, system_in, choice_of, entry_of, note_of}
use Rattle.linear_dict.specs.Indexes.{name_of, AddsVariable, IsIndex, IsStartedIndex}
use Rattle.linear_dict.specs.Notes.{noted, blank}
use Rattle.linear_dict.specs.Places.{IsSplit, StandsAt, is_among, place_in}
use Rattle.linear_dict.proofs.GrowLemmas.{insert-cases, split_first, split_second, index_added, stands_more}
use Rattle.linear_dict.proofs.IndexLemmas.{map-insert}
use Rattle.linear_dict.proofs.NameLemmas.{among-tells, among-not, place_in-within}

module _ {N : Type 0} (value : N → Fraction) where
  -- the notes after one more variable
  blank_added : (vs us : List (Variable N)) (v : Variable N) → AddsVariable vs v us → noted value v.note ≡ blank → ((k : ℕ) (x : Variable N) → slice_get vs k ≡ Some x → noted value x.note ≡ blank)
      → (k : ℕ) (x : Variable N) → slice_get us k ≡ Some x → noted value x.note ≡ blank
  blank_added vs us v a e h k x s = elim (insert-cases vs a.rank v k x a.within (ap (λ (ts : List (Variable N)). slice_get ts k) (sym a.is) ∙ s)) [
    | inl d ↦ sym (ap (λ (t : Variable N). noted value t.note) d) ∙ e
    | inr m ↦ h m.0 x m.1
  ]

  names_added : (vs us : List (Variable N)) (v : Variable N) (a : AddsVariable vs v us) → insert (map name_of vs) a.rank v.name ≡ map name_of us
  names_added vs us v a = sym (map-insert name_of vs a.rank v) ∙ ap (map name_of) (sym a.is)

  rank_within : (vs us : List (Variable N)) (v : Variable N) (a : AddsVariable vs v us) → a.rank ≤ length (map name_of vs)
  rank_within vs us v a = Prim.omega (arith, a.within, length-map vs (name_of {N = N}))

  pub started_one : (us : List (Variable N)) (v : Variable N) → AddsVariable [] v us → v.place ≡ Row 0 → v.put ≡ Row 0 → noted value v.note ≡ blank → IsStartedIndex value us v.name []
  started_one us v a ep eq en = record {
    ascending = a.ascending;
    split = subst (λ (ns : List ℕ). IsSplit ns (v.name ∷ []) []) (names_added [] us v a)
        (split_first [] [] [] a.rank v.name a.within (λ c. Prim.omega (arith, c.1))
        (record {
          first_distinct = λ i j d p q. absurd (Prim.omega (arith, q));
          second_distinct = λ i j d p q. absurd (Prim.omega (arith, q));
          apart = λ w c. absurd (Prim.omega (arith, c.1));
          first_named = λ w c. c;
          second_named = λ w c. c;
          either = λ w c. inl c;
        }));
    index = index_added [] us v [] [] [] [] (v.name ∷ []) [] (v.name ∷ []) [] a (λ w p s. stands_more [] [] (v.name ∷ []) [] w p s) (λ w p s. stands_more [] [] (v.name ∷ []) [] w p s)
        (subst (λ (p : Place). StandsAt (v.name ∷ []) [] v.name p) (sym ep) (Prim.omega arith, refl))
        (subst (λ (p : Place). StandsAt (v.name ∷ []) [] v.name p) (sym eq) (Prim.omega arith, refl))
        (record { stands = λ k x e. absurd cc; was_put = λ k x e. absurd cc });
    blank_notes = blank_added [] us v a en (λ k x e. absurd cc);
  }

  pub started_more : (vs us : List (Variable N)) (v : Variable N) (row : ℕ) (cs : List ℕ) → IsStartedIndex value vs row cs → AddsVariable vs v us → ¬ (Contains (map name_of vs) v.name)
      → v.place ≡ Column (length cs) → v.put ≡ Column (length cs) → noted value v.note ≡ blank → IsStartedIndex value us row (cs ++ v.name ∷ [])
  started_more vs us v row cs s a absent ep eq en =
      let here : StandsAt (row ∷ []) (cs ++ v.name ∷ []) v.name (Column (length cs)) = (Prim.omega (arith, length-append cs (v.name ∷ [])), get_or-append_seam cs v.name [] 0) in record {
        ascending = a.ascending;
        split = subst (λ (ns : List ℕ). IsSplit ns (row ∷ []) (cs ++ v.name ∷ [])) (names_added vs us v a) (split_second (map name_of vs) (row ∷ []) cs a.rank v.name (rank_within vs us v a) absent s.split);
        index = index_added vs us v (row ∷ []) cs (row ∷ []) cs (row ∷ []) (cs ++ v.name ∷ []) (row ∷ []) (cs ++ v.name ∷ []) a
            (λ w p t. stands_more (row ∷ []) cs [] (v.name ∷ []) w p t) (λ w p t. stands_more (row ∷ []) cs [] (v.name ∷ []) w p t)
            (subst (λ (p : Place). StandsAt (row ∷ []) (cs ++ v.name ∷ []) v.name p) (sym ep) here)
            (subst (λ (p : Place). StandsAt (row ∷ []) (cs ++ v.name ∷ []) v.name p) (sym eq) here) s.index;
        blank_notes = blank_added vs us v a en s.blank_notes;
      }

  module _ (columns : List ℕ) (row : ℕ) (entries : List N) (vs : List (Variable N)) (s : IsStartedIndex value vs row columns) where
    d : Dictionary
    d = seen value columns (row ∷ []) entries columns (row ∷ []) entries vs false

    same_columns : filter (is_among columns) (map name_of vs) ≡ filter (λ w. not (is_among (row ∷ []) w)) (map name_of vs)
    same_columns = filter-members (is_among columns) (λ w. not (is_among (row ∷ []) w)) (map name_of vs) (λ w c. elim (s.split.either w c) [
      | inl k ↦ among-not columns w (λ m. s.split.apart w k m) ∙ sym (ap not (among-tells (row ∷ []) w k))
      | inr k ↦ among-tells columns w k ∙ sym (ap not (among-not (row ∷ []) w (λ m. s.split.apart w m k)))
    ])

    -- the rows as put in are the table
    start_choice : IsChoice (system_in d) (choice_of d)
    unfolding d system_in choice_of entry_of activity basics others
    start_choice =
        let number : ℕ → ℕ → Fraction = λ b w. cell (length columns) (map value entries) (place_in (row ∷ []) b) (place_in columns w) in record {
          to_table = λ v m. record { basic = λ b c. m.row b c ∙ ap (sum_by (λ w. number b w *ℚ v w)) same_columns };
          to_rows = λ v m. record { row = λ b c. m.basic b c ∙ sym (ap (sum_by (λ w. number b w *ℚ v w)) same_columns) };
        }

    pub start_is : length entries ≡ length columns → IsStart value columns row entries (seen value columns (row ∷ []) entries columns (row ∷ []) entries vs false)
    unfolding note_of d
    start_is e = record {
      live = refl;
      columns = refl;
      rows = refl;
      coefficients = refl;
      others = refl;
      basics = refl;
      table = refl;
      blank_notes = λ w c.
          let p = place_in-within (map name_of vs) w c in
          noted_at vs (place_in (map name_of vs) w) (Prim.omega (arith, p.0, length-map vs (name_of {N = N}))) s.blank_notes;
      sound = record {
        row_count = refl;
        column_count = refl;
        coefficient_count = length-map entries value ∙ e ∙ one;
        table_count = length-map entries value ∙ e ∙ one;
        note_count = length-map vs (λ (v : Variable N). noted value v.note) ∙ sym (length-map vs (name_of {N = N}));
        ascending = s.ascending;
        put_in = s.split;
        split = s.split;
        solutions = λ _. start_choice;
      };
    }
      where
        one : length columns ≡ 1 * length columns
        one = Prim.omega arith

        noted_at : (ws : List (Variable N)) (k : ℕ) → k < length ws → ((k : ℕ) (v : Variable N) → slice_get ws k ≡ Some v → noted value v.note ≡ blank) → get_or (map (λ (v : Variable N). noted value v.note) ws) k blank ≡ blank
        noted_at [] k h b = refl
        noted_at (v ∷ ws) zero h b = b 0 v refl
        noted_at (v ∷ ws) (suc k) h b = noted_at ws k (Prim.omega arith) (λ j x e. b (suc j) x e)

  -- a note of zeros
  pub blank_note : (nil : N) → value nil ≡ over (pos 0) 1 → noted value (record { price = nil; low = nil; high = nil; value = nil; reduced = nil; at_high = false }) ≡ blank
  blank_note nil e = ap (λ (x : Fraction). record { price = x; low = x; high = x; value = x; reduced = x; at_high = false }) (e ∙ over-one (pos 0))

  -- a column that is not among the first ones is a new name
  pub started_absent : (vs : List (Variable N)) (row c w : ℕ) (columns : List ℕ) → Distinct columns → ¬ (Contains columns row) → c < length columns → get_or columns c 0 ≡ w
      → IsStartedIndex value vs row (take c columns) → ¬ (Contains (map name_of vs) w)
  started_absent vs row c w columns d absent h is s m = elim (s.split.either w m) [
    | inl k ↦ elim (Contains-cases row [] w k) [
      | inl e ↦ absent (c, h, get_or_default_zero columns c row h ∙ is ∙ sym e)
      | inr n ↦ Prim.omega (arith, n.1)
    ]
    | inr k ↦
        let below : k.0 < c = Prim.omega (arith, k.1, length-take c columns) in
        d k.0 c w below h (sym (get_or-take c columns k.0 w below) ∙ k.2 ∙ sym (get_or_default_zero columns c w h ∙ is))
  ]

  -- what start in code gives, from copies of its lists
  pub start_in_code : (vs : List (Variable N)) (columns : List ℕ) (row : ℕ) (entries : List N) (cs rs : List ℕ) (es : List N) (os bs : List ℕ) (ts : List N)
      → cs ≡ columns → rs ≡ row ∷ [] → es ≡ entries → os ≡ columns → bs ≡ row ∷ [] → ts ≡ entries → length entries ≡ length columns → IsStartedIndex value vs row columns
      → IsIndex vs bs os rs cs × IsStart value columns row entries (seen value cs rs es os bs ts vs false)
  start_in_code vs columns row entries cs rs es os bs ts ec er ee eo eb et e s =
      let P : List ℕ → List ℕ → List N → List ℕ → List ℕ → List N → Type 0 = λ c r x o b t. IsIndex vs b o r c × IsStart value columns row entries (seen value c r x o b t vs false) in
      let start : P columns (row ∷ []) entries columns (row ∷ []) entries = (s.index, start_is columns row entries vs s e) in
      subst (λ (c : List ℕ). P c rs es os bs ts) (sym ec)
      (subst (λ (r : List ℕ). P columns r es os bs ts) (sym er)
      (subst (λ (x : List N). P columns (row ∷ []) x os bs ts) (sym ee)
      (subst (λ (o : List ℕ). P columns (row ∷ []) entries o bs ts) (sym eo)
      (subst (λ (b : List ℕ). P columns (row ∷ []) entries columns b ts) (sym eb)
      (subst (λ (t : List N). P columns (row ∷ []) entries columns (row ∷ []) t) (sym et) start)))))
