-- The lines of branch rows and of outages, and the index of those that are lost.
use Rattle.std.specs.Prelude.{◌≡◌, ◌≢◌, ◌==◌, ◌⊎◌, Contains, ℕ, ◌+◌, ◌*◌, ◌<◌, ◌≤◌, ℤ, pos, Bool, true, false, List, map, length, slice_set, slice_index_or, Option, Some, None, All, AllPairs, refl}
use Rattle.std.specs.List.{position_or_len}
use Rattle.std.proofs.Common.{arith, ap, ap₂, sym, subst, ◌∙◌, inl, inr, get_or}
use Rattle.std.proofs.Math.ListN.{get_or-map as get_or-mapped}
use Rattle.std.proofs.Math.Nat.{mul-le-mul}
use Rattle.std.proofs.Math.Path.{fun_ext}
use Rattle.std.proofs.lemmas.Bool.{cases_lt, eq-eqb, ne_eqb}
use Rattle.std.proofs.lemmas.Bool.Decides.{eqb_tells}
use Rattle.std.proofs.lemmas.List.{get_or_default, get_or-map, get_or-set_same, get_or-set_other, length-map, length-set}
use Rattle.std.proofs.lemmas.List.FromFn.{length-range_with_len, get_or-range_with_len}
use Rattle.std.proofs.lemmas.List.Sums.{position_or_len_is}
use Rattle.std.proofs.lemmas.Nat.{mul-add-lt}
use Rattle.market_model.specs.declared.participants.Line.{Line}
use Rattle.market_model.specs.declared.participants.Parts.{Parts}
use Rattle.market_model.specs.Changes.{line_with, with_limit}
use Rattle.market_model.specs.Dispatch.{places, line_at}
use Rattle.market_model.specs.LimitRows.{place_of_line, lost_lines}
use Rattle.market_model.specs.LostLines.{factor_after, AreLostLines, IsOutageIndex}
use Rattle.market_data.specs.Scales.{most_lines, most_outages}
use Rattle.market_model.specs.Factors.{factor_in, IsTable}
use Rattle.market_model.specs.Market.{IsMarket}
use Rattle.market_model.proofs.ChangeLemmas.{map-set_same}
use Rattle.market_model.specs.Lines.{hard_line}

-- ---- the line of a branch row
pub place_at : (n k d : ℕ) → k < n → get_or (places n) k d ≡ k
place_at n k d h = let e : 0 + k ≡ k = Prim.omega arith in get_or-range_with_len 0 n k d h ∙ e

pub place-first : (m : Parts) (row i : ℕ) → i ≤ length m.lines → ((k : ℕ) → k < i → ((line_at m k).row == row) ≡ false) → (i < length m.lines → ((line_at m i).row == row) ≡ true)
    → place_of_line m row ≡ i
place-first m row i most before here =
    let count : length (places (length m.lines)) ≡ length m.lines = length-range_with_len 0 (length m.lines) in
    position_or_len_is (λ l. (line_at m l).row == row) (places (length m.lines)) i 0 (Prim.omega (arith, count, most))
    (λ k h. let e = place_at (length m.lines) k 0 (Prim.omega (arith, h, most)) in subst (λ (l : ℕ). ((line_at m l).row == row) ≡ false) (sym e) (before k h))
    (λ h. let lt : i < length m.lines = Prim.omega (arith, h, count) in let e = place_at (length m.lines) i 0 lt in subst (λ (l : ℕ). ((line_at m l).row == row) ≡ true) (sym e) (here lt))

module _ (m : Parts) (market : IsMarket m) where
  pub row_at : (k : ℕ) (d : ℕ) → k < length m.lines → get_or (map (λ line. line.row) m.lines) k d ≡ (line_at m k).row
  row_at k d h = get_or-map (λ (line : Line). line.row) m.lines k (hard_line 0 None None (pos 0)) d h

  -- the line of the row of a line is that line
  pub place-own : (k : ℕ) → k < length m.lines → place_of_line m (line_at m k).row ≡ k
  place-own k h = place-first m (line_at m k).row k (Prim.omega (arith, h))
      (λ j lt.
      let long : k < length (map (λ line. line.row) m.lines) = Prim.omega (arith, h, length-map m.lines (λ (line : Line). line.row)) in
      let other = market.line_rows j k 0 lt long in
      by j (line_at m k).row (λ e. other (row_at j 0 (Prim.omega (arith, lt, h)) ∙ e ∙ sym (row_at k 0 h))))
      (λ lt. eq-eqb (line_at m k).row (line_at m k).row refl)
    where
      by : (j row : ℕ) → ((line_at m j).row ≡ row → ⊥) → ((line_at m j).row == row) ≡ false
      by j row different = ne_eqb (line_at m j).row row different

  -- ---- the lines of outages
  -- an outage is the row of a line
  pub record IsRowOfLine (branch : ℕ) : Type 0 where
    pub inside : place_of_line m branch < length m.lines
    pub row : (line_at m (place_of_line m branch)).row ≡ branch

  pub outage_line : (i d : ℕ) → i < length m.outages → IsRowOfLine (get_or m.outages i d)
  outage_line i d h = by (market.outages i d h)
    where
      by : {row : ℕ} → Contains (map (λ line. line.row) m.lines) row → IsRowOfLine row
      by {row} (k, lt, e) =
          let inside : k < length m.lines = Prim.omega (arith, lt, length-map m.lines (λ (line : Line). line.row)) in
          let is : (line_at m k).row ≡ row = sym (row_at k row inside) ∙ e in
          let place : place_of_line m row ≡ k = ap (place_of_line m) (sym is) ∙ place-own k inside in
          record { inside = subst (λ (l : ℕ). l < length m.lines) (sym place) inside; row = ap (λ (l : ℕ). (line_at m l).row) place ∙ is }

  pub row-of_outage : (i d : ℕ) → i < length m.outages → (line_at m (place_of_line m (get_or m.outages i d))).row ≡ get_or m.outages i d
  row-of_outage i d h = (outage_line i d h).row

  lost_at : (i d : ℕ) → i < length m.outages → get_or (lost_lines m) i d ≡ place_of_line m (get_or m.outages i 0)
  lost_at i d h = get_or-map (place_of_line m) m.outages i 0 d h

  pub lost_inside : All (λ line. line < length m.lines) (lost_lines m)
  lost_inside i d h =
      let lt : i < length m.outages = Prim.omega (arith, h, length-map m.outages (place_of_line m)) in
      subst (λ (l : ℕ). l < length m.lines) (sym (lost_at i d lt)) (outage_line i 0 lt).inside

  -- no two outages lose one line
  pub lost_distinct : AllPairs (λ a b. a ≢ b) (lost_lines m)
  lost_distinct i j d p q same =
      let last : j < length m.outages = Prim.omega (arith, q, length-map m.outages (place_of_line m)) in
      let first : i < length m.outages = Prim.omega (arith, p, last) in
      market.outages_distinct i j 0 p last
      (sym (row-of_outage i 0 first) ∙ ap (λ (l : ℕ). (line_at m l).row) (sym (lost_at i d first) ∙ same ∙ lost_at j d last) ∙ row-of_outage j 0 last)

-- ---- the index of lost lines, of the first outages
pub record IndexTo (lines : ℕ) (lost : List ℕ) (n : ℕ) (index : List (Option ℕ)) : Type 0 where
  pub count : length index ≡ lines
  pub found : (line outage : ℕ) → slice_index_or index line None ≡ Some outage → (outage < n) × (slice_index_or lost outage 0 ≡ line)
  pub all : (outage : ℕ) → outage < n → slice_index_or index (slice_index_or lost outage 0) None ≡ Some outage

pub none_some : (o : Option ℕ) (a : ℕ) → o ≡ None → o ≡ Some a → ⊥
none_some o a e f = Prim.cc

module _ (lines : ℕ) (lost : List ℕ) where
  pub index_more : (n : ℕ) (line : ℕ) (index : List (Option ℕ)) → n < length lost → line ≡ slice_index_or lost n 0 → line < lines → AllPairs (λ a b. a ≢ b) lost → IndexTo lines lost n index
      → IndexTo lines lost (n + 1) (slice_set index line (Some n))
  index_more n line index inside is within apart h = record {
    count = length-set index line (Some n) ∙ h.count;
    found = λ l outage e. found l outage (eqb_tells l line) e;
    all = λ outage lt. all outage lt (cases_lt outage n);
  }
    where
      long : line < length index
      long = Prim.omega (arith, within, h.count)

      some_same : (a b : ℕ) → Some a ≡ Some b → a ≡ b
      some_same a b f = Prim.cc

      found : (l outage : ℕ) → ((l == line ≡ true) × (l ≡ line)) ⊎ ((l == line ≡ false) × (l ≢ line)) → slice_index_or (slice_set index line (Some n)) l None ≡ Some outage
          → (outage < n + 1) × (slice_index_or lost outage 0 ≡ l)
      found l outage (inl a) e =
          let here : n ≡ outage = some_same n outage (sym (get_or-set_same index line (Some n) None long) ∙ ap (λ (k : ℕ). slice_index_or (slice_set index line (Some n)) k None) (sym a.1) ∙ e) in
          (Prim.omega (arith, here), ap (λ (k : ℕ). slice_index_or lost k 0) (sym here) ∙ sym is ∙ sym a.1)
      found l outage (inr a) e =
          let before = h.found l outage (sym (get_or-set_other index line l (Some n) None a.1) ∙ e) in
          (let lt = before.0 in Prim.omega (arith, lt), before.1)

      all : (outage : ℕ) → outage < n + 1 → (outage < n) ⊎ (n ≤ outage) → slice_index_or (slice_set index line (Some n)) (slice_index_or lost outage 0) None ≡ Some outage
      all outage lt (inl below) =
          let other : slice_index_or lost outage 0 ≢ line = λ e. apart outage n 0 below inside (e ∙ is) in
          get_or-set_other index line (slice_index_or lost outage 0) (Some n) None other ∙ h.all outage below
      all outage lt (inr above) =
          let here : outage ≡ n = Prim.omega (arith, lt, above) in
          ap (λ (k : ℕ). slice_index_or (slice_set index line (Some n)) (slice_index_or lost k 0) None) here
          ∙ ap (λ (k : ℕ). slice_index_or (slice_set index line (Some n)) k None) (sym is)
          ∙ get_or-set_same index line (Some n) None long
          ∙ ap Some (sym here)

  pub index_all : (n : ℕ) (index : List (Option ℕ)) → n ≡ length lost → IndexTo lines lost n index → IsOutageIndex lines lost index
  index_all n index e h = record {
    count = h.count;
    found = λ line outage f. let at = h.found line outage f in (let lt = at.0 in Prim.omega (arith, lt, e), at.1);
    all = λ outage lt. h.all outage (Prim.omega (arith, lt, e));
  }

-- ---- a line with another limit
module _ (m : Parts) (l : ℕ) (post : Bool) (mw : ℤ) where
  row_kept : (k : ℕ) → (line_at (with_limit m l post mw) k).row ≡ (line_at m k).row
  row_kept k =
      let none : Line = hard_line 0 None None (pos 0) in
      sym (get_or-mapped (λ (line : Line). line.row) (with_limit m l post mw).lines k none)
      ∙ ap (λ (rows : List ℕ). get_or rows k 0) (map-set_same (λ (line : Line). line.row) m.lines l (line_with (line_at m l) post mw) none (same (line_at m l) post))
      ∙ get_or-mapped (λ (line : Line). line.row) m.lines k none
    where
      same : (line : Line) (t : Bool) → (line_with line t mw).row ≡ line.row
      same line true = refl
      same line false = refl

  lines_kept : length (with_limit m l post mw).lines ≡ length m.lines
  lines_kept = length-set m.lines l (line_with (line_at m l) post mw)

  place_kept : (row : ℕ) → place_of_line (with_limit m l post mw) row ≡ place_of_line m row
  place_kept row = ap₂ (λ (p : ℕ → Bool) (n : ℕ). position_or_len p (places n)) (fun_ext (λ k. ap (λ (r : ℕ). r == row) (row_kept k))) lines_kept

  pub lost_kept : (lost : List ℕ) (index : List (Option ℕ)) (table : List ℤ) → AreLostLines m lost index table → AreLostLines (with_limit m l post mw) lost index table
  lost_kept lost index table h = record {
    lines = h.lines ∙ sym (ap (λ (f : ℕ → ℕ). map f m.outages) (fun_ext place_kept));
    index = subst (λ (n : ℕ). IsOutageIndex n lost index) (sym lines_kept) h.index;
    factors = subst (λ (n : ℕ). IsTable (length lost) n (factor_after m.loss lost) table) (sym lines_kept) h.factors;
  }

-- ---- what is kept, read
-- a place in the table of so many outages and lines
module _ (lines outages : ℕ) (few_lines : lines ≤ most_lines) (few_outages : outages ≤ most_outages) (outage line : ℕ) (p : outage < outages) (q : line < lines) where
  pub row_few : outage * lines ≤ most_outages * most_lines
  row_few = let few : outage ≤ most_outages = Prim.omega (arith, p, few_outages) in mul-le-mul few few_lines

  pub place_few : outage * lines + line < most_outages * most_lines + most_lines
  place_few = let r = row_few in Prim.omega (arith, q, few_lines, r)

  pub place_inside : (table : List ℤ) → length table ≡ outages * lines → outage * lines + line < length table
  place_inside table count = let r = mul-add-lt outage lines line outages p q in Prim.omega (arith, r, count)

module _ (m : Parts) (market : IsMarket m) (lost : List ℕ) (outages : List (Option ℕ)) (table : List ℤ) (are : AreLostLines m lost outages table) where
  pub lost_few : length lost ≤ most_outages
  lost_few = let count = ap length are.lines ∙ length-map m.outages (place_of_line m) in Prim.omega (arith, count, market.outage_count)

  -- the outage of a line
  pub outage_read : (line outage : ℕ) (entry : Option ℕ) → line < length m.lines → entry ≡ slice_index_or outages line entry → entry ≡ Some outage → (outage < length lost) × (slice_index_or lost outage 0 ≡ line)
  outage_read line outage entry within read is =
      are.index.found line outage (get_or_default outages line None entry (Prim.omega (arith, within, are.index.count)) ∙ sym read ∙ is)

  -- the factor of a line for one that an outage loses
  pub loss_read : (line lost_line outage : ℕ) (value : ℤ) → line < length m.lines → (outage < length lost) × (slice_index_or lost outage 0 ≡ lost_line)
      → value ≡ slice_index_or table (outage * length m.lines + line) value → value ≡ factor_in m.loss line lost_line
  loss_read line lost_line outage value within at read =
      read ∙ get_or_default table (outage * length m.lines + line) value (pos 0) (place_inside (length m.lines) (length lost) market.line_count lost_few outage line at.0 within table are.factors.count)
      ∙ are.factors.each outage line at.0 within
      ∙ ap (factor_in m.loss line) at.1
