-- The columns of a market's dictionary in the order in which they were put in, and what they count in its rows.
use Rattle.std.specs.Prelude.{◌≡◌, ◌≢◌, ℕ, ◌+◌, pos, Bool, true, false, cond, if◌then◌else◌, List, [], ◌∷◌, ◌++◌, length, map, filter, replicate, Contains}
use Rattle.std.specs.List.{flat_map}
use Rattle.std.proofs.Common.{ap, ap₂, sym, ◌∙◌, subst, refl, append_assoc}
use Rattle.std.proofs.lemmas.Grind.{flat_map-append}
use Rattle.std.proofs.lemmas.List.{append-nil, length-map, map-append, replicate-append-replicate}
use Rattle.std.proofs.lemmas.List.Elements.{filter-append}
use Rattle.std.proofs.lemmas.List.FromFn.{length-range_with_len}
use Rattle.fraction_theory.specs.Fraction.{Fraction, whole, neg_ℚ}
use Rattle.market_model.specs.declared.limits.Row.{Row}
use Rattle.market_model.specs.declared.participants.Parts.{Parts}
use Rattle.market_model.specs.Dispatch.{places, zero}
use Rattle.market_model.specs.LimitRows.{is_soft}
use Rattle.market_model.proofs.ListSteps.{map-map}
use Rattle.market_system.specs.declared.variables.Variable.{Variable}
use Rattle.market_system.specs.declared.variables.Variable.TheVariants as variable
use Rattle.market_system.specs.MarketSystem.{at_row, block_sign, block_coefficient, limit_coefficient, room_coefficient, balance_coefficient, need_coefficient, coefficient, block_columns, excess_columns, offer_columns}
use Rattle.market_system.proofs.RowOrder.{same_row-not}
use Rattle.market_system.proofs.VariableLaws.{by_excess, by_offer}
use Rattle.market_dict.specs.declared.taking.Taking.{Taking}
use Rattle.market_dict.specs.declared.taking.Taking.TheVariants.{Limit, Room}
use Rattle.market_dict.specs.Takings.{limits_of, taken_of, columns_put, row_of, rows_put}
use Rattle.market_dict.proofs.ListedLemmas.{map-members, map-pushed}
use Rattle.market_dict.proofs.TakingLists.{by_row_put, limits-limit, limits-room, rows_more}

all_nil : (vs : List Variable) → map (λ (v : Variable). zero) vs ≡ replicate (length vs) zero
all_nil [] = refl
all_nil (v ∷ vs) = ap (λ (xs : List Fraction). zero ∷ xs) (all_nil vs)

pub map-alike : (f : ℕ → Fraction) (x : Fraction) (ns : List ℕ) → ((n : ℕ) → f n ≡ x) → map f ns ≡ replicate (length ns) x
map-alike f x [] same = refl
map-alike f x (n ∷ ns) same = ap₂ (λ (y : Fraction) (ys : List Fraction). y ∷ ys) (same n) (map-alike f x ns same)

module _ (m : Parts) where
  -- ---- the columns
  pub columns_none : columns_put m [] ≡ block_columns m ++ offer_columns m
  columns_none = append-nil (block_columns m ++ offer_columns m)

  pub soft_columns : (r : Row) → is_soft m r ≡ true → excess_columns m (r ∷ []) ≡ variable.Over r ∷ variable.Under r ∷ []
  soft_columns r e = ap (λ (b : Bool). flat_map (λ q. variable.Over q ∷ variable.Under q ∷ []) (cond b (r ∷ []) [])) e

  pub hard_columns : (r : Row) → is_soft m r ≡ false → excess_columns m (r ∷ []) ≡ []
  hard_columns r e = ap (λ (b : Bool). flat_map (λ q. variable.Over q ∷ variable.Under q ∷ []) (cond b (r ∷ []) [])) e

  excess_more : (g : List Row) (r : Row) → excess_columns m (g ++ r ∷ []) ≡ excess_columns m g ++ excess_columns m (r ∷ [])
  excess_more g r =
      ap (flat_map (λ q. variable.Over q ∷ variable.Under q ∷ [])) (filter-append (is_soft m) g (r ∷ []))
      ∙ flat_map-append (λ q. variable.Over q ∷ variable.Under q ∷ []) (filter (is_soft m) g) (filter (is_soft m) (r ∷ []))

  -- with a limit more, or a room
  pub columns_limit : (ts : List Taking) (r : Row) → columns_put m (ts ++ Limit r ∷ []) ≡ columns_put m ts ++ excess_columns m (r ∷ [])
  columns_limit ts r =
      ap (λ (vs : List Variable). block_columns m ++ offer_columns m ++ vs) (ap (excess_columns m) (limits-limit ts r) ∙ excess_more (limits_of ts) r)
      ∙ sym (append_assoc (block_columns m ++ offer_columns m) (excess_columns m (limits_of ts)) (excess_columns m (r ∷ [])))

  pub columns_room : (ts : List Taking) (u : ℕ) → columns_put m (ts ++ Room u ∷ []) ≡ columns_put m ts
  columns_room ts u = ap (λ (g : List Row). block_columns m ++ offer_columns m ++ excess_columns m g) (limits-room ts u)

  -- what is of them
  pub mapped_limit : {Y : Type 0} (of : Variable → Y) (ts : List Taking) (r : Row) → map of (columns_put m (ts ++ Limit r ∷ [])) ≡ map of (columns_put m ts) ++ map of (excess_columns m (r ∷ []))
  mapped_limit of ts r = ap (map of) (columns_limit ts r) ∙ map-append of (columns_put m ts) (excess_columns m (r ∷ []))

  pub mapped_room : {Y : Type 0} (of : Variable → Y) (ts : List Taking) (u : ℕ) → map of (columns_put m (ts ++ Room u ∷ [])) ≡ map of (columns_put m ts)
  mapped_room of ts u = ap (map of) (columns_room ts u)

  pub mapped_blocks : {Y : Type 0} (of : Variable → Y) → map of (block_columns m) ≡ map (λ j. of (variable.Block j)) (places (length m.blocks))
  mapped_blocks of = map-map variable.Block of (places (length m.blocks))

  pub mapped_offers : {Y : Type 0} (of : Variable → Y) → map of (offer_columns m) ≡ map (λ n. of (variable.Offer n)) (places (length m.reserve.offers))
  mapped_offers of = map-map variable.Offer of (places (length m.reserve.offers))

  pub mapped_none : {Y : Type 0} (of : Variable → Y) → map of (columns_put m []) ≡ map of (block_columns m) ++ map of (offer_columns m)
  mapped_none of = ap (map of) columns_none ∙ map-append of (block_columns m) (offer_columns m)

  pub mapped_rows : {Y : Type 0} (of : Variable → Y) (ts : List Taking) (t : Taking) → map of (rows_put m (ts ++ t ∷ [])) ≡ map of (rows_put m ts) ++ of (row_of t) ∷ []
  mapped_rows of ts t = ap (map of) (rows_more m ts t) ∙ map-append of (rows_put m ts) (row_of t ∷ [])

  -- a list with what is of a soft limit's two columns put behind it
  pub pushed_twice : {N Y : Type 0} (value : N → Y) (of : Variable → Y) (r : Row) (old first second : List N) (x y : N) → is_soft m r ≡ true → first ≡ old ++ x ∷ [] → second ≡ first ++ y ∷ []
      → value x ≡ of (variable.Over r) → value y ≡ of (variable.Under r) → map value second ≡ map value old ++ map of (excess_columns m (r ∷ []))
  pushed_twice {N} {Y} value of r old first second x y soft one two over under =
      ap (map value) two
      ∙ map-pushed value first (map value old ++ of (variable.Over r) ∷ []) y (of (variable.Under r)) (ap (map value) one ∙ map-pushed value old (map value old) x (of (variable.Over r)) refl over) under
      ∙ append_assoc (map value old) (of (variable.Over r) ∷ []) (of (variable.Under r) ∷ [])
      ∙ sym (ap (λ (vs : List Variable). map value old ++ map of vs) (soft_columns r soft))

  -- ---- what those of one limit count in other rows: nothing
  nil_at : (r s : Row) (x : Fraction) → r ≢ s → at_row r s x ≡ zero
  nil_at r s x n = ap (λ (b : Bool). if b then x else zero) (same_row-not r s n)

  pub own_nil : (ts : List Taking) (r : Row) → ¬ (Contains (limits_of ts) r) → (v : Variable) → Contains (rows_put m ts) v
      → (coefficient m v (variable.Over r) ≡ zero) × (coefficient m v (variable.Under r) ≡ zero)
  own_nil ts r absent = by_row_put m ts (λ (v : Variable). (coefficient m v (variable.Over r) ≡ zero) × (coefficient m v (variable.Under r) ≡ zero)) (refl, refl)
      (λ q c. (nil_at q r (neg_ℚ (whole (pos 1))) (λ e. absent (subst (Contains (limits_of ts)) e c)), nil_at q r (whole (pos 1)) (λ e. absent (subst (Contains (limits_of ts)) e c))))
      (λ e. (refl, refl)) (λ u c. (refl, refl))

  excess_nil : (ts : List Taking) (r : Row) → ¬ (Contains (limits_of ts) r) → map (limit_coefficient m r) (excess_columns m (limits_of ts)) ≡ replicate (length (excess_columns m (limits_of ts))) zero
  excess_nil ts r absent =
      map-members (limit_coefficient m r) (λ (v : Variable). zero) (excess_columns m (limits_of ts))
      (by_excess m (taken_of ts) (λ (v : Variable). limit_coefficient m r v ≡ zero)
      (λ q c e. (nil_at r q (neg_ℚ (whole (pos 1))) (λ s. absent (subst (Contains (limits_of ts)) (sym s) c)), nil_at r q (whole (pos 1)) (λ s. absent (subst (Contains (limits_of ts)) (sym s) c)))))
      ∙ all_nil (excess_columns m (limits_of ts))

  offers_nil : (of : Variable → Fraction) → ((n : ℕ) → of (variable.Offer n) ≡ zero) → map of (offer_columns m) ≡ replicate (length (offer_columns m)) zero
  offers_nil of nothing =
      map-members of (λ (v : Variable). zero) (offer_columns m) (by_offer m (taken_of []) (λ (v : Variable). of v ≡ zero) (λ n lt. nothing n)) ∙ all_nil (offer_columns m)

  -- what all columns count in a limit: those of blocks, nothing for offers and for those of other limits, and its own
  pub limit_entries : (ts : List Taking) (r : Row) → ¬ (Contains (limits_of ts) r) → (blocks own all : List Fraction) (others : ℕ) → others ≡ length (offer_columns m) + length (excess_columns m (limits_of ts))
      → blocks ≡ map (block_coefficient m r) (places (length m.blocks)) → own ≡ map (limit_coefficient m r) (excess_columns m (r ∷ [])) → all ≡ blocks ++ replicate others zero ++ own
      → all ≡ map (coefficient m (variable.Limit r)) (columns_put m (ts ++ Limit r ∷ []))
  limit_entries ts r absent blocks own all others count is_blocks is_own is =
      let of = limit_coefficient m r in
      let excess = excess_columns m (limits_of ts) in
      let other_entries : replicate others zero ≡ map of (offer_columns m) ++ map of excess =
      ap (λ (n : ℕ). replicate n zero) count ∙ sym (replicate-append-replicate (length (offer_columns m)) (length excess) zero)
      ∙ ap₂ (λ (xs ys : List Fraction). xs ++ ys) (sym (offers_nil of (λ n. refl))) (sym (excess_nil ts r absent)) in
      is
      ∙ ap₂ (λ (xs ys : List Fraction). xs ++ ys)
      (ap₂ (λ (xs ys : List Fraction). xs ++ ys) (is_blocks ∙ sym (mapped_blocks of)) other_entries
      ∙ sym (append_assoc (map of (block_columns m)) (map of (offer_columns m)) (map of excess))
      ∙ ap (λ (xs : List Fraction). xs ++ map of excess) (sym (map-append of (block_columns m) (offer_columns m)))
      ∙ sym (map-append of (block_columns m ++ offer_columns m) excess))
      is_own
      ∙ sym (mapped_limit of ts r)

  -- in a room: those of blocks and of offers, and nothing for those of limits
  pub room_entries : (ts : List Taking) (u : ℕ) (all : List Fraction) (others : ℕ) → others ≡ length (excess_columns m (limits_of ts))
      → all ≡ map (room_coefficient m u) (block_columns m) ++ map (room_coefficient m u) (offer_columns m) ++ replicate others zero → all ≡ map (coefficient m (variable.Room u)) (columns_put m ts)
  room_entries ts u all others count is =
      let of = room_coefficient m u in
      let excess = excess_columns m (limits_of ts) in
      let nothing : replicate others zero ≡ map of excess =
      ap (λ (n : ℕ). replicate n zero) count ∙ sym (map-members of (λ (v : Variable). zero) excess (by_excess m (taken_of ts) (λ (v : Variable). of v ≡ zero) (λ q c e. (refl, refl))) ∙ all_nil excess) in
      is
      ∙ ap₂ (λ (xs ys : List Fraction). xs ++ ys) (sym (map-append of (block_columns m) (offer_columns m))) nothing
      ∙ sym (map-append of (block_columns m ++ offer_columns m) excess)

  -- ---- at the start
  pub offers_count : length (offer_columns m) ≡ length m.reserve.offers
  offers_count = length-map (places (length m.reserve.offers)) variable.Offer ∙ length-range_with_len 0 (length m.reserve.offers)

  offer_count : length (places (length m.reserve.offers)) ≡ length m.reserve.offers
  offer_count = length-range_with_len 0 (length m.reserve.offers)

  pub balance_at_start : (all : List Fraction) → all ≡ map (block_sign m) (places (length m.blocks)) ++ replicate (length m.reserve.offers) zero → all ≡ map (coefficient m variable.Balance) (columns_put m [])
  balance_at_start all is =
      let of = balance_coefficient m in
      is
      ∙ ap₂ (λ (xs ys : List Fraction). xs ++ ys) (sym (mapped_blocks of))
      (sym (mapped_offers of ∙ map-alike (λ n. of (variable.Offer n)) zero (places (length m.reserve.offers)) (λ n. refl) ∙ ap (λ (n : ℕ). replicate n zero) offer_count))
      ∙ sym (mapped_none of)

  pub need_at_start : (all : List Fraction) → all ≡ replicate (length m.blocks) zero ++ replicate (length m.reserve.offers) (whole (pos 1)) → all ≡ map (coefficient m variable.Need) (columns_put m [])
  need_at_start all is =
      is
      ∙ ap₂ (λ (xs ys : List Fraction). xs ++ ys)
      (sym (mapped_blocks need_coefficient ∙ map-alike (λ j. need_coefficient (variable.Block j)) zero (places (length m.blocks)) (λ n. refl) ∙ ap (λ (n : ℕ). replicate n zero) (length-range_with_len 0 (length m.blocks))))
      (sym (mapped_offers need_coefficient ∙ map-alike (λ n. need_coefficient (variable.Offer n)) (whole (pos 1)) (places (length m.reserve.offers)) (λ n. refl) ∙ ap (λ (n : ℕ). replicate n (whole (pos 1))) offer_count))
      ∙ sym (mapped_none need_coefficient)
