-- What a dictionary has that holds the prices of what is reached, over their sum and some blocks.
use Rattle.std.specs.Prelude.{◌≡◌, ℕ, ◌+◌, ◌<◌, Bool, true, false, List, [], ◌∷◌, ◌++◌, length, map, take, slice_index, slice_index_or, Contains, refl}
use Rattle.std.proofs.Common.{arith, zero, suc, ap, sym, ◌∙◌, subst, inl, inr, get_or}
use Rattle.std.proofs.lemmas.List.{length-map, map-append}
use Rattle.std.proofs.lemmas.List.Elements.{Contains-append_cases}
use Rattle.fraction_theory.specs.Fraction.{Fraction, ◌*ℚ◌}
use Rattle.fraction_theory.specs.Sums.{sum_by}
use Rattle.fraction_theory.proofs.ListSums.{Contains-cases, sum_by-members}
use Rattle.linear_system.specs.Systems.{MeetsRows, activity}
use Rattle.linear_dict.specs.Dictionaries.{AddsRow, Dictionary, system_in}
use Rattle.market_model.specs.declared.participants.Parts.{Parts}
use Rattle.market_model.specs.Dispatch.{Dispatch, block_at}
use Rattle.market_model.specs.Market.{IsMarket}
use Rattle.market_model.proofs.RowMembers.{Contains-from_map, Contains-map}
use Rattle.price_system.specs.declared.variables.Variable.{Variable}
use Rattle.price_system.specs.declared.variables.Variable.TheVariants.{Block, Sum}
use Rattle.price_system.specs.PriceSystem.{Caps, block_name, energy_coefficient, name, prices, sum_name, worths}
use Rattle.price_system.proofs.NameLemmas.{block_listed, sum_listed}
use Rattle.price_dict.specs.Holding.{HasPutIn}
use Rattle.price_dict.specs.Marked.{HoldsMarkedRows, HoldsMarked, IsMarked, IsMarkedRow}
use Rattle.price_dict.specs.Reached.{AreColumns, columns_put, reached_system}
use Rattle.price_dict.proofs.ColumnLists.{worth_apart}
use Rattle.price_dict.proofs.HoldingLaws.{alone, put_more, row_in, rows_are, same_coefficient, same_columns, taken_column, taken_row}

-- the sum alone
pub marked_none : (m : Parts) (cs : List Variable) (marks : List Bool) (d : Dictionary) → HasPutIn m cs (take 1 (worths m)) d → d.basics ≡ d.rows → HoldsMarked m cs marks 0 d
marked_none m cs marks d put basics = record { blocks = []; marked = λ j k. absurd (Prim.omega (arith, k.1)); put = put; basics = basics }

-- ---- a block more
module _ (m : Parts) (cs : List Variable) (marks : List Bool) (k : ℕ) (d : Dictionary) (holds : HoldsMarked m cs marks k d) where
  later : (j : ℕ) → IsMarked marks k j → IsMarked marks (k + 1) j
  later j is = (Prim.omega (arith, is.0), is.1)

  -- that is not marked
  pub marked_over : HoldsMarked m cs marks (k + 1) d
  marked_over = record { blocks = holds.blocks; marked = λ j c. later j (holds.marked j c); put = holds.put; basics = holds.basics }

  block_inside : IsMarket m → k < length m.blocks → Contains (worths m) (Block k)
  block_inside market lt = block_listed m k lt

  -- its name is not there
  pub block_absent : IsMarket m → AreColumns m cs → k < length m.blocks → ¬ (Contains d.names (sum_name m + (1 + k)))
  block_absent market are lt named = elim (holds.put.sound.put_in.either (sum_name m + (1 + k)) named) [
    | inl c ↦
        let v = taken_row m cs (Sum ∷ map Block holds.blocks) d holds.put (sum_name m + (1 + k)) c in
        elim (Contains-cases Sum (map Block holds.blocks) v.0 v.1) [
          | inl e ↦ let same = ap (name m) e ∙ v.2 in Prim.omega (arith, same)
          | inr n ↦
              let j = Contains-from_map Block holds.blocks v.0 n in
              let same = ap (name m) j.2 ∙ v.2 in
              Prim.omega (arith, same, (holds.marked j.0 j.1).0)
        ]
    | inr c ↦
        let v = taken_column m cs (Sum ∷ map Block holds.blocks) d holds.put (sum_name m + (1 + k)) c in
        let place : name m (Block k) ≡ sum_name m + (1 + k) = Prim.omega arith in
        worth_apart m market (sum_name m + (1 + k)) (subst (Contains (map (name m) (prices m))) v.2 (Contains-map (name m) (prices m) v.0 (are.prices v.0 v.1)))
        (subst (Contains (map (name m) (worths m))) place (Contains-map (name m) (worths m) (Block k) (block_inside market lt)))
  ]

  -- that is
  pub marked_more : {N : Type 0} (value : N → Fraction) (row : ℕ) (entries : List N) (new : Dictionary) → slice_index_or marks k false ≡ true → row ≡ sum_name m + (1 + k)
      → map value entries ≡ map (energy_coefficient m (block_at m k).unit) cs → AddsRow value d row entries new → HoldsMarked m cs marks (k + 1) new
  marked_more value row entries new mark named factors adds =
      let place : row ≡ name m (Block k) = Prim.omega (arith, named) in
      let put : HasPutIn m cs ((Sum ∷ map Block holds.blocks) ++ Block k ∷ []) new =
      put_more value m cs (Sum ∷ map Block holds.blocks) (Block k) entries d new holds.put factors (subst (λ (n : ℕ). AddsRow value d n entries new) place adds) in
      record {
        blocks = holds.blocks ++ k ∷ [];
        marked = λ j c. elim (Contains-append_cases holds.blocks (k ∷ []) j c) [
          | inl h ↦ later j (holds.marked j h)
          | inr h ↦ let same = alone k j h in (Prim.omega (arith, same), ap (λ (i : ℕ). slice_index_or marks i false) same ∙ mark)
        ];
        put = subst (λ (vs : List Variable). HasPutIn m cs (Sum ∷ vs) new) (sym (map-append Block holds.blocks (k ∷ []))) put;
        basics = adds.basics ∙ ap (λ (ws : List ℕ). ws ++ row ∷ []) holds.basics ∙ sym adds.rows;
      }

-- ---- all blocks that are marked
module _ (m : Parts) (x : Dispatch) (market : IsMarket m) (marks : List Bool) (d : Dictionary) (holds : HoldsMarked m (columns_put m x) marks (length m.blocks) d) where
  abbrev rs : List Variable
  rs = Sum ∷ map Block holds.blocks

  inside : (v : Variable) → Contains rs v → Contains (worths m) v
  inside v c = elim (Contains-cases Sum (map Block holds.blocks) v c) [
    | inl e ↦ subst (Contains (worths m)) e (sum_listed m)
    | inr n ↦
        let j = Contains-from_map Block holds.blocks v n in
        subst (Contains (worths m)) j.2 (block_listed m j.0 (holds.marked j.0 j.1).0)
  ]

  points : (c : Caps) (v : ℕ → Fraction) → MeetsRows (reached_system m x c) v → MeetsRows (system_in d) v
  unfolding activity
  points c v meets = record {
    row = λ r k.
        let u = taken_row m (columns_put m x) rs d holds.put r (row_in d holds.put.sound r k) in
        let there : Contains (reached_system m x c).rows r =
        subst (λ (ws : List ℕ). Contains ws r) (sym (rows_are m x c market rs d holds.put)) (subst (Contains (map (name m) (worths m))) u.2 (Contains-map (name m) (worths m) u.0 (inside u.0 u.1))) in
        meets.row r there
        ∙ ap (sum_by (λ j. (reached_system m x c).coefficient r j *ℚ v j)) (sym (same_columns m x c market rs d holds.put))
        ∙ sum_by-members (λ j. (reached_system m x c).coefficient r j *ℚ v j) (λ j. (system_in d).coefficient r j *ℚ v j) (system_in d).columns
        (λ j l. ap (λ (a : Fraction). a *ℚ v j) (sym (same_coefficient m x c market rs d holds.put inside r j k l)));
  }

  row_of_block : (i : ℕ) → 0 < i → i < length d.basics → IsMarkedRow m marks (slice_index d.basics i)
  row_of_block zero above lt = absurd (Prim.omega (arith, above))
  row_of_block (suc i) above lt =
      let rows : d.basics ≡ map (name m) rs = holds.basics ∙ holds.put.rows_named in
      let few : i < length holds.blocks = Prim.omega (arith, lt, ap length rows ∙ length-map rs (name m), length-map holds.blocks Block) in
      let j : ℕ = get_or holds.blocks i 0 in
      let there : Contains holds.blocks j = (i, few, get_or-same holds.blocks i j few) in
      record {
        block = j;
        within = (holds.marked j there).0;
        marked = (holds.marked j there).1;
        named = ap (λ (ws : List ℕ). slice_index ws (suc i)) rows ∙ at_block holds.blocks i few;
      }
    where
      get_or-same : (js : List ℕ) (i j : ℕ) → i < length js → get_or js i j ≡ get_or js i 0
      get_or-same [] i j h = absurd (Prim.omega (arith, h))
      get_or-same (k ∷ js) zero j h = refl
      get_or-same (k ∷ js) (suc i) j h = get_or-same js i j (Prim.omega (arith, h))

      at_block : (js : List ℕ) (i : ℕ) → i < length js → get_or (map (name m) (map Block js)) i 0 ≡ block_name m (get_or js i 0)
      at_block [] i h = absurd (Prim.omega (arith, h))
      at_block (k ∷ js) zero h = refl
      at_block (k ∷ js) (suc i) h = at_block js i (Prim.omega (arith, h))

  pub holds_blocks : HoldsMarkedRows m x marks d
  holds_blocks = record {
    live = holds.put.live;
    sound = holds.put.sound;
    others = holds.put.others ∙ holds.put.columns_named;
    points = points;
    blocks = row_of_block;
  }
