-- What variables of a market are to its duals, by their names.
use Rattle.std.specs.Prelude.{◌≡◌, ◌≢◌, ℕ, ◌+◌, ◌<◌, ◌≤◌, [], length, Contains, Some, refl}
use Rattle.std.specs.List.{slice_get}
use Rattle.std.proofs.Common.{arith, ap, sym, ◌∙◌, subst}
use Rattle.std.proofs.lemmas.Option.{slice_get-get_or}
use Rattle.fraction_theory.specs.Fraction.{Fraction}
use Rattle.market_model.specs.declared.limits.Row.{Row}
use Rattle.market_model.specs.declared.participants.Parts.{Parts}
use Rattle.market_model.specs.LimitRows.{rows}
use Rattle.market_model.specs.Market.{IsMarket}
use Rattle.market_model.specs.Optimality.{all_of}
use Rattle.limit_rows.proofs.ApartLemmas.{names_apart}
use Rattle.market_system.specs.declared.variables.Variable.{Variable}
use Rattle.market_system.specs.declared.variables.Variable.TheVariants as variable
use Rattle.market_system.specs.MarketSystem.{name, need_name, row_name, row_place, IsVariableOf}
use Rattle.market_system.proofs.DualLists.{rows_apart}
use Rattle.market_system.proofs.RowOrder.{row_name-at, row_place-below}
use Rattle.market_dict.specs.declared.names.DualKind.{DualKind}
use Rattle.market_dict.specs.declared.names.DualKind.TheVariants as kind
use Rattle.market_dict.specs.Kinds.{kind_of}
use Rattle.market_dict.proofs.ReadingLemmas.{dual_of, room_dual_of}

-- ---- by the name
module _ (m : Parts) where
  pub first_columns : (v : Variable) → IsVariableOf m (all_of m) v → name m v < length m.blocks → kind_of m v ≡ kind.Column
  first_columns (variable.Block j) is lt = refl
  first_columns variable.Balance is lt = absurd (Prim.omega (arith, lt))
  first_columns (variable.Limit r) is lt = absurd (Prim.omega (arith, lt))
  first_columns (variable.Over r) is lt = absurd (Prim.omega (arith, lt))
  first_columns (variable.Under r) is lt = absurd (Prim.omega (arith, lt))
  first_columns (variable.Offer n) is lt = absurd (Prim.omega (arith, lt))
  first_columns variable.Need is lt = absurd (Prim.omega (arith, lt))
  first_columns (variable.Room u) is lt = absurd (Prim.omega (arith, lt))

  pub the_balance : (v : Variable) → IsVariableOf m (all_of m) v → name m v ≡ length m.blocks → kind_of m v ≡ kind.Balance
  the_balance (variable.Block j) is at = absurd (Prim.omega (arith, is, at))
  the_balance variable.Balance is at = refl
  the_balance (variable.Limit r) is at = absurd (Prim.omega (arith, at))
  the_balance (variable.Over r) is at = absurd (Prim.omega (arith, at))
  the_balance (variable.Under r) is at = absurd (Prim.omega (arith, at))
  the_balance (variable.Offer n) is at = absurd (Prim.omega (arith, at))
  the_balance variable.Need is at = absurd (Prim.omega (arith, at))
  the_balance (variable.Room u) is at = absurd (Prim.omega (arith, at))

  pub a_limit : (v : Variable) (p : ℕ) → IsVariableOf m (all_of m) v → name m v ≡ length m.blocks + 1 + p → p < length (rows m) → kind_of m v ≡ kind.Limit p
  a_limit (variable.Block j) p is at lt = absurd (Prim.omega (arith, is, at))
  a_limit variable.Balance p is at lt = absurd (Prim.omega (arith, at))
  a_limit (variable.Limit r) p is at lt = ap kind.Limit (Prim.omega (arith, at))
  a_limit (variable.Over r) p is at lt = absurd (Prim.omega (arith, at, lt))
  a_limit (variable.Under r) p is at lt = absurd (Prim.omega (arith, at, lt))
  a_limit (variable.Offer n) p is at lt = absurd (Prim.omega (arith, at, lt))
  a_limit variable.Need p is at lt = absurd (Prim.omega (arith, at, lt))
  a_limit (variable.Room u) p is at lt = absurd (Prim.omega (arith, at, lt))

  pub late_columns : (v : Variable) → IsVariableOf m (all_of m) v → length m.blocks + 1 + length (rows m) ≤ name m v → name m v < need_name m → kind_of m v ≡ kind.Column
  late_columns (variable.Block j) is late lt = refl
  late_columns variable.Balance is late lt = absurd (Prim.omega (arith, late))
  late_columns (variable.Limit r) is late lt = absurd (Prim.omega (arith, row_place-below m r is, late))
  late_columns (variable.Over r) is late lt = refl
  late_columns (variable.Under r) is late lt = refl
  late_columns (variable.Offer n) is late lt = refl
  late_columns variable.Need is late lt = absurd (Prim.omega (arith, lt))
  late_columns (variable.Room u) is late lt = absurd (Prim.omega (arith, lt))

  pub the_need : (v : Variable) → IsVariableOf m (all_of m) v → name m v ≡ need_name m → kind_of m v ≡ kind.Need
  the_need (variable.Block j) is at = absurd (Prim.omega (arith, is, at))
  the_need variable.Balance is at = absurd (Prim.omega (arith, at))
  the_need (variable.Limit r) is at = absurd (Prim.omega (arith, row_place-below m r is, at))
  the_need (variable.Over r) is at = absurd (Prim.omega (arith, row_place-below m r is.0, at))
  the_need (variable.Under r) is at = absurd (Prim.omega (arith, row_place-below m r is.0, at))
  the_need (variable.Offer n) is at = absurd (Prim.omega (arith, is, at))
  the_need variable.Need is at = refl
  the_need (variable.Room u) is at = absurd (Prim.omega (arith, at))

  pub a_room : (v : Variable) (p : ℕ) → IsVariableOf m (all_of m) v → name m v ≡ need_name m + 1 + p → kind_of m v ≡ kind.Room p
  a_room (variable.Block j) p is at = absurd (Prim.omega (arith, is, at))
  a_room variable.Balance p is at = absurd (Prim.omega (arith, at))
  a_room (variable.Limit r) p is at = absurd (Prim.omega (arith, row_place-below m r is, at))
  a_room (variable.Over r) p is at = absurd (Prim.omega (arith, row_place-below m r is.0, at))
  a_room (variable.Under r) p is at = absurd (Prim.omega (arith, row_place-below m r is.0, at))
  a_room (variable.Offer n) p is at = absurd (Prim.omega (arith, is, at))
  a_room variable.Need p is at = absurd (Prim.omega (arith, at))
  a_room (variable.Room u) p is at = ap kind.Room (Prim.omega (arith, at))

-- ---- the variable of a kind
module _ (m : Parts) where
  pub balance_of_kind : (v : Variable) → kind_of m v ≡ kind.Balance → v ≡ variable.Balance
  balance_of_kind (variable.Block j) e = absurd Prim.cc
  balance_of_kind variable.Balance e = refl
  balance_of_kind (variable.Limit r) e = absurd Prim.cc
  balance_of_kind (variable.Over r) e = absurd Prim.cc
  balance_of_kind (variable.Under r) e = absurd Prim.cc
  balance_of_kind (variable.Offer n) e = absurd Prim.cc
  balance_of_kind variable.Need e = absurd Prim.cc
  balance_of_kind (variable.Room u) e = absurd Prim.cc

  pub limit_of_kind : (v : Variable) (p : ℕ) → kind_of m v ≡ kind.Limit p → (r : Row) × (v ≡ variable.Limit r) × (row_place m r ≡ p)
  limit_of_kind (variable.Block j) p e = absurd Prim.cc
  limit_of_kind variable.Balance p e = absurd Prim.cc
  limit_of_kind (variable.Limit r) p e = (r, refl, Prim.cc)
  limit_of_kind (variable.Over r) p e = absurd Prim.cc
  limit_of_kind (variable.Under r) p e = absurd Prim.cc
  limit_of_kind (variable.Offer n) p e = absurd Prim.cc
  limit_of_kind variable.Need p e = absurd Prim.cc
  limit_of_kind (variable.Room u) p e = absurd Prim.cc

  pub room_of_kind : (v : Variable) (p : ℕ) → kind_of m v ≡ kind.Room p → v ≡ variable.Room p
  room_of_kind (variable.Block j) p e = absurd Prim.cc
  room_of_kind variable.Balance p e = absurd Prim.cc
  room_of_kind (variable.Limit r) p e = absurd Prim.cc
  room_of_kind (variable.Over r) p e = absurd Prim.cc
  room_of_kind (variable.Under r) p e = absurd Prim.cc
  room_of_kind (variable.Offer n) p e = absurd Prim.cc
  room_of_kind variable.Need p e = absurd Prim.cc
  room_of_kind (variable.Room u) p e = Prim.cc

  pub no_balance : (v : Variable) (other : DualKind) → other ≡ kind_of m v → other ≢ kind.Balance → v ≢ variable.Balance
  no_balance v other is apart e = apart (is ∙ ap (kind_of m) e)

  -- what is no limit has no dual, and what is no room no price of one
  module _ (cost : ℕ → Fraction) where
    pub no_dual : (v : Variable) (other : DualKind) → other ≡ kind_of m v → ((p : ℕ) → other ≢ kind.Limit p) → dual_of m cost v ≡ []
    no_dual (variable.Block j) other is apart = refl
    no_dual variable.Balance other is apart = refl
    no_dual (variable.Limit r) other is apart = absurd (apart (row_place m r) is)
    no_dual (variable.Over r) other is apart = refl
    no_dual (variable.Under r) other is apart = refl
    no_dual (variable.Offer n) other is apart = refl
    no_dual variable.Need other is apart = refl
    no_dual (variable.Room u) other is apart = refl

    pub no_room_dual : (v : Variable) (other : DualKind) → other ≡ kind_of m v → ((p : ℕ) → other ≢ kind.Room p) → room_dual_of m cost v ≡ []
    no_room_dual (variable.Block j) other is apart = refl
    no_room_dual variable.Balance other is apart = refl
    no_room_dual (variable.Limit r) other is apart = refl
    no_room_dual (variable.Over r) other is apart = refl
    no_room_dual (variable.Under r) other is apart = refl
    no_room_dual (variable.Offer n) other is apart = refl
    no_room_dual variable.Need other is apart = refl
    no_room_dual (variable.Room u) other is apart = absurd (apart u is)

-- ---- the row of a place
pub row_there : (m : Parts) → IsMarket m → (r : Row) → Contains (rows m) r → slice_get (rows m) (row_place m r) ≡ Some r
row_there m market r (k, inside, is) =
    let at : row_name m r ≡ length m.blocks + 1 + k = ap (row_name m) (sym is) ∙ row_name-at m (rows_apart m (names_apart m market)) k r inside in
    let place : k ≡ row_place m r = Prim.omega (arith, at) in
    subst (λ (p : ℕ). slice_get (rows m) p ≡ Some r) place (slice_get-get_or (rows m) k r inside ∙ ap Some is)
