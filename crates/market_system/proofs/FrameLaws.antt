-- The rows of a market's system are of its frame alone.
use Rattle.std.specs.Prelude.{◌≡◌, ℕ, ℤ, ◌+◌, ◌*◌, ◌==◌, ◌&&◌, pos, Bool, not, List, [], ◌∷◌, ◌++◌, length, map, filter, Option, Some, None, is_some, option_map, slice_index_or, refl}
use Rattle.std.specs.Int.{is_positive}
use Rattle.std.specs.List.{Contains, flat_map, position_or_len}
use Rattle.std.proofs.Common.{zero, suc, ap, ap₂, sym, subst, ◌∙◌}
use mathlib.Core.Path.{fun_ext}
use Rattle.fraction_theory.specs.Fraction.{Fraction, whole}
use Rattle.linear_system.specs.Systems.{System}
use Rattle.linear_system.specs.SameSystems.{SameRows}
use Rattle.market_model.specs.declared.participants.Block.{Block}
use Rattle.market_model.specs.declared.participants.Line.{Line}
use Rattle.market_model.specs.declared.participants.Parts.{Parts}
use Rattle.market_model.specs.declared.participants.Side.TheVariants.{Sell}
use Rattle.market_model.specs.Dispatch.{places, block_at, line_at, signed_by_side}
use Rattle.market_model.specs.Frame.{block_frame, line_frame, frame, SameFrame}
use Rattle.market_model.specs.declared.limits.Cause.{Cause}
use Rattle.market_model.specs.declared.limits.Row.{Row}
use Rattle.market_model.specs.declared.limits.Cause.TheVariants.{Base, Branch, UnitOutage}
use Rattle.market_model.specs.LimitRows.{is_outage, is_soft, penalty_of, bears, causes, outage_of, unit_of, row_id, rows, rows_of, place_of_line, row_factor, taker_factor, unit_factor}
use Rattle.linear_system.proofs.SameSystems.{rows_turned_round}
use Rattle.market_system.specs.declared.variables.Variable.{Variable}
use Rattle.market_system.specs.declared.variables.Variable.TheVariants as variable
use Rattle.market_system.specs.FrameLaw.{LawOfTheFrame}
use Rattle.market_model.specs.Optimality.{Taken}
use Rattle.market_system.specs.MarketSystem.{balance_name, row_name, offer_name, need_name, room_name, is_in, in_order, rooms_in_order, taken_in_order, block_sign, block_coefficient, same_row, over_name, at_unit, name, balance_coefficient, limit_coefficient, room_coefficient, coefficient, block_columns, excess_columns, offer_columns, columns, energy_rows, reserve_rows, row_variables, variables, named, variable_of, system_over, system_of}
use Rattle.market_model.specs.Lines.{hard_line}

mapped_at : {X Y : Type 0} (f : X → Y) (d : X) (e : Y) → f d ≡ e → (xs : List X) (i : ℕ) → slice_index_or (map f xs) i e ≡ f (slice_index_or xs i d)
mapped_at f d e h [] i = sym h
mapped_at f d e h (x ∷ xs) zero = refl
mapped_at f d e h (x ∷ xs) (suc i) = mapped_at f d e h xs i

counted : {X Y : Type 0} (f : X → Y) (xs : List X) → length (map f xs) ≡ length xs
counted f [] = refl
counted f (x ∷ xs) = ap suc (counted f xs)

module _ (m : Parts) where
  line_framed : (l : ℕ) → line_at (frame m) l ≡ line_frame (line_at m l)
  line_framed l = mapped_at line_frame (hard_line 0 None None (pos 0)) (hard_line 0 None None (pos 0)) refl m.lines l

  block_framed : (j : ℕ) → block_at (frame m) j ≡ block_frame (block_at m j)
  block_framed j = mapped_at block_frame (record { unit = 0; side = Sell; quantity = pos 0; price = pos 0 }) (record { unit = 0; side = Sell; quantity = pos 0; price = pos 0 }) refl m.blocks j

  some_or_none : (o : Option ℤ) → is_some (option_map (λ mw. pos 0) o) ≡ is_some o
  some_or_none None = refl
  some_or_none (Some mw) = refl

  line_count : length (frame m).lines ≡ length m.lines
  line_count = counted line_frame m.lines

  pub block_count : length (frame m).blocks ≡ length m.blocks
  block_count = counted block_frame m.blocks

  bears_framed : (cause : Cause) → bears (frame m) cause ≡ bears m cause
  bears_framed Base = fun_ext (λ l. ap (λ (k : Line). is_some k.base) (line_framed l) ∙ some_or_none (line_at m l).base)
  bears_framed (Branch lost) = fun_ext (λ l. ap (λ (b : Bool). not (l == lost) && b) (ap (λ (k : Line). is_some k.post) (line_framed l) ∙ some_or_none (line_at m l).post))
  bears_framed (UnitOutage k) = fun_ext (λ l. ap (λ (k : Line). is_some k.post) (line_framed l) ∙ some_or_none (line_at m l).post)

  place_framed : (row : ℕ) → place_of_line (frame m) row ≡ place_of_line m row
  place_framed row =
      ap₂ (λ (p : ℕ → Bool) (n : ℕ). position_or_len p (places n)) (fun_ext (λ l. ap (λ (k : Line). k.row == row) (line_framed l))) line_count

  causes_framed : causes (frame m) ≡ causes m
  causes_framed = ap (λ (f : ℕ → ℕ). Base ∷ (map Branch (map f m.outages) ++ map UnitOutage (places (length m.unit_outages)))) (fun_ext place_framed)

  under_framed : (cause : Cause) → rows_of (frame m) cause ≡ rows_of m cause
  under_framed cause = ap₂ (λ (p : ℕ → Bool) (n : ℕ). map (λ l. record { line = l; cause = cause }) (filter p (places n))) (bears_framed cause) line_count

  pub rows_framed : rows (frame m) ≡ rows m
  unfolding rows
  rows_framed = ap₂ (λ (f : Cause → List Row) (cs : List Cause). flat_map f cs) (fun_ext under_framed) causes_framed

  name_framed : row_name (frame m) ≡ row_name m
  name_framed = fun_ext (λ r. ap₂ (λ (n : ℕ) (rs : List Row). n + 1 + position_or_len (same_row r) rs) block_count rows_framed)

  outage_framed : (c : Cause) → outage_of (frame m) c ≡ outage_of m c
  outage_framed Base = refl
  outage_framed (Branch lost) = ap (λ (k : Line). k.row) (line_framed lost)
  outage_framed (UnitOutage k) = refl

  unit_framed : (c : Cause) → unit_of (frame m) c ≡ unit_of m c
  unit_framed Base = refl
  unit_framed (Branch lost) = refl
  unit_framed (UnitOutage k) = refl

  id_framed : row_id (frame m) ≡ row_id m
  id_framed = fun_ext (λ r. λ i. record { branch = (line_framed r.line i).row; outage = outage_framed r.cause i; unit = unit_framed r.cause i })

  pub sign_framed : block_sign (frame m) ≡ block_sign m
  sign_framed = fun_ext (λ j. ap (λ (b : Block). signed_by_side b.side (whole (pos 1))) (block_framed j))

  pub coefficient_framed : block_coefficient (frame m) ≡ block_coefficient m
  unfolding row_factor taker_factor
  coefficient_framed = fun_ext (λ r. fun_ext (λ j. ap (λ (b : Block). signed_by_side b.side (unit_factor m r b.unit)) (block_framed j)))

  in_order_framed : (g : List Row) → in_order (frame m) g ≡ in_order m g
  in_order_framed [] = refl
  in_order_framed (t ∷ ts) = ap (filter (is_in (t ∷ ts))) rows_framed

  rooms_framed : (us : List ℕ) → rooms_in_order (frame m) us ≡ rooms_in_order m us
  rooms_framed [] = refl
  rooms_framed (u ∷ us) = refl

  taken_framed : (t : Taken) → taken_in_order (frame m) t ≡ taken_in_order m t
  taken_framed t = ap₂ (λ (rs : List Row) (us : List ℕ). taken rs us) (in_order_framed t.limits) (rooms_framed t.rooms)
    where
      taken : List Row → List ℕ → Taken
      taken rs us = record { limits = rs; rooms = us }

  soft_framed : is_soft (frame m) ≡ is_soft m
  soft_framed = fun_ext (λ r. ap (λ (k : Line). is_positive (penalty_of (is_outage r.cause) k)) (line_framed r.line))

  -- the variables, their names and their coefficients
  over_framed : over_name (frame m) ≡ over_name m
  over_framed = fun_ext (λ r. ap₂ (λ (n : ℕ) (rs : List Row). n + 1 + length rs + 2 * position_or_len (same_row r) rs) block_count rows_framed)

  offer_framed : offer_name (frame m) ≡ offer_name m
  offer_framed = fun_ext (λ k. ap₂ (λ (n : ℕ) (rs : List Row). n + 1 + 3 * length rs + k) block_count rows_framed)

  need_framed : need_name (frame m) ≡ need_name m
  need_framed = ap (λ (f : ℕ → ℕ). f (length m.reserve.offers)) offer_framed

  room_framed : room_name (frame m) ≡ room_name m
  room_framed = fun_ext (λ u. ap (λ (n : ℕ). n + 1 + u) need_framed)

  names_framed : name (frame m) ≡ name m
  names_framed = fun_ext by
    where
      by : (v : Variable) → name (frame m) v ≡ name m v
      by (variable.Block j) = refl
      by variable.Balance = block_count
      by (variable.Limit r) = ap (λ (f : Row → ℕ). f r) name_framed
      by (variable.Over r) = ap (λ (f : Row → ℕ). f r) over_framed
      by (variable.Under r) = ap (λ (f : Row → ℕ). f r + 1) over_framed
      by (variable.Offer k) = ap (λ (f : ℕ → ℕ). f k) offer_framed
      by variable.Need = need_framed
      by (variable.Room u) = ap (λ (f : ℕ → ℕ). f u) room_framed

  entries_framed : coefficient (frame m) ≡ coefficient m
  entries_framed = fun_ext (λ r. fun_ext (by r))
    where
      in_balance : (j : Variable) → balance_coefficient (frame m) j ≡ balance_coefficient m j
      in_balance (variable.Block j) = ap (λ (f : ℕ → Fraction). f j) sign_framed
      in_balance variable.Balance = refl
      in_balance (variable.Limit q) = refl
      in_balance (variable.Over q) = refl
      in_balance (variable.Under q) = refl
      in_balance (variable.Offer k) = refl
      in_balance variable.Need = refl
      in_balance (variable.Room u) = refl

      in_limit : (r : Row) (j : Variable) → limit_coefficient (frame m) r j ≡ limit_coefficient m r j
      in_limit r (variable.Block j) = ap (λ (f : Row → ℕ → Fraction). f r j) coefficient_framed
      in_limit r variable.Balance = refl
      in_limit r (variable.Limit q) = refl
      in_limit r (variable.Over q) = refl
      in_limit r (variable.Under q) = refl
      in_limit r (variable.Offer k) = refl
      in_limit r variable.Need = refl
      in_limit r (variable.Room u) = refl

      in_room : (u : ℕ) (j : Variable) → room_coefficient (frame m) u j ≡ room_coefficient m u j
      in_room u (variable.Block j) = ap₂ (λ (b : Block) (x : Fraction). at_unit u b.unit x) (block_framed j) (ap (λ (f : ℕ → Fraction). f j) sign_framed)
      in_room u variable.Balance = refl
      in_room u (variable.Limit q) = refl
      in_room u (variable.Over q) = refl
      in_room u (variable.Under q) = refl
      in_room u (variable.Offer k) = refl
      in_room u variable.Need = refl
      in_room u (variable.Room w) = refl

      by : (r j : Variable) → coefficient (frame m) r j ≡ coefficient m r j
      by (variable.Block i) j = refl
      by variable.Balance j = in_balance j
      by (variable.Limit r) j = in_limit r j
      by (variable.Over q) j = refl
      by (variable.Under q) j = refl
      by (variable.Offer k) j = refl
      by variable.Need j = refl
      by (variable.Room u) j = in_room u j

  blocks_framed : block_columns (frame m) ≡ block_columns m
  blocks_framed = ap (λ (n : ℕ). map variable.Block (places n)) block_count

  excess_framed : (rs : List Row) → excess_columns (frame m) rs ≡ excess_columns m rs
  excess_framed rs = ap (λ (soft : Row → Bool). flat_map (λ (r : Row). variable.Over r ∷ variable.Under r ∷ []) (filter soft rs)) soft_framed

  columns_framed : (t : Taken) → columns (frame m) t ≡ columns m t
  columns_framed t = ap₂ (λ (bs es : List Variable). bs ++ es ++ offer_columns m) blocks_framed (excess_framed t.limits)

  variables_framed : (t : Taken) → variables (frame m) (taken_in_order (frame m) t) ≡ variables m (taken_in_order m t)
  variables_framed t =
      ap (variables (frame m)) (taken_framed t)
      ∙ ap₂ (λ (bs es : List Variable). bs ++ energy_rows (taken_in_order m t) ++ es ++ offer_columns m ++ reserve_rows m (taken_in_order m t)) blocks_framed (excess_framed (in_order m t.limits))

  variable_framed : (t : Taken) → variable_of (frame m) (taken_in_order (frame m) t) ≡ variable_of m (taken_in_order m t)
  variable_framed t = ap₂ named names_framed (variables_framed t)

  -- the system of the frame has the same rows
  frame_rows : (t : Taken) → SameRows (system_of (frame m) t) (system_of m t)
  unfolding system_over
  frame_rows t = record {
    variables = ap₂ map names_framed (variables_framed t);
    columns = ap₂ map names_framed (ap (columns (frame m)) (taken_framed t) ∙ columns_framed (taken_in_order m t));
    rows = ap₂ (λ (f : Variable → ℕ) (taken : Taken). map f (row_variables m taken)) names_framed (taken_framed t);
    coefficient = λ r j _ _. ap₂ (λ (f : Variable → Variable → Fraction) (v : ℕ → Variable). f (v r) (v j)) entries_framed (variable_framed t);
  }

pub rows_in_turn : (s t u : System) → SameRows s t → SameRows t u → SameRows s u
rows_in_turn s t u first second = record {
  variables = first.variables ∙ second.variables;
  columns = first.columns ∙ second.columns;
  rows = first.rows ∙ second.rows;
  coefficient = λ r j c k. first.coefficient r j c k ∙ second.coefficient r j (subst (λ (ws : List ℕ). Contains ws r) first.rows c) (subst (λ (ws : List ℕ). Contains ws j) first.columns k);
}

-- systems over the same rows of markets of one frame have the same rows
same_rows : (m n : Parts) (g : Taken) → SameFrame m n → SameRows (system_of m g) (system_of n g)
same_rows m n g same =
    rows_in_turn (system_of m g) (system_of (frame n) g) (system_of n g)
    (subst (λ (p : Parts). SameRows (system_of m g) (system_of p g)) same (rows_turned_round (system_of (frame m) g) (system_of m g) (frame_rows m g)))
    (frame_rows n g)

-- they have the same columns, and the same names of variables
pub same_columns : (m n : Parts) → SameFrame m n → (t : Taken) → columns m t ≡ columns n t
same_columns m n same t = sym (columns_framed m t) ∙ ap (λ (p : Parts). columns p t) same ∙ columns_framed n t

pub same_names : (m n : Parts) → SameFrame m n → name m ≡ name n
same_names m n same = sym (names_framed m) ∙ ap name same ∙ names_framed n

pub law_of_the_frame : LawOfTheFrame
law_of_the_frame m n g same = (
  record {
    rows = sym (rows_framed m) ∙ ap rows same ∙ rows_framed n;
    ids = sym (id_framed m) ∙ ap row_id same ∙ id_framed n;
    balance = sym (block_count m) ∙ ap balance_name same ∙ block_count n;
    names = sym (name_framed m) ∙ ap row_name same ∙ name_framed n;
    offers = sym (offer_framed m) ∙ ap offer_name same ∙ offer_framed n;
    need = sym (need_framed m) ∙ ap need_name same ∙ need_framed n;
    rooms = sym (room_framed m) ∙ ap room_name same ∙ room_framed n;
  },
  same_rows m n g same,
)
