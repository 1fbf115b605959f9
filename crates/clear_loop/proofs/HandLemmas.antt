-- What is in hand, and how it grows.
use Rattle.std.specs.Prelude.{◌≡◌, ℕ, ◌+◌, ◌-◌, ◌<◌, ◌≤◌, List, [], ◌∷◌, ◌++◌, length, map, All, Option, Some, Result, Ok, Err, IfOk, MatchResult, Contains}
use Rattle.std.proofs.Common.{arith, ap, sym, subst, ◌∙◌, length-append}
use Rattle.std.proofs.lemmas.List.{map-append}
use Rattle.std.proofs.lemmas.List.Elements.{All-cons, All-nil}
use Rattle.fraction_theory.specs.Fraction.{Fraction}
use Rattle.fraction_theory.proofs.ListSums.{Contains-head, Contains-cons}
use Rattle.linear_dict.specs.Dictionaries.{Dictionary}
use Rattle.market_model.specs.declared.answered.RowId.{RowId}
use Rattle.market_model.specs.declared.participants.Parts.{Parts}
use Rattle.market_model.specs.Dispatch.{Dispatch}
use Rattle.market_model.specs.declared.limits.Row.{Row}
use Rattle.market_model.specs.LimitRows.{rows, row_id}
use Rattle.market_model.specs.Reserves.{reserve_units}
use Rattle.market_model.specs.Optimality.{BestFor}
use Rattle.market_system.specs.Growth.{Growth}
use Rattle.market_system.proofs.GrowthLaws.{growth_again, growth_more, growth_none, rows_few}
use Rattle.market_dict.specs.Holding.{HoldsMarket}
use Rattle.market_dict.specs.PricesAndBounds.{ArePricesAndBounds}
use Rattle.market_dict.specs.Takings.{AreTakings, IsTaking, limits_of, rooms_of, taken_of}
use Rattle.market_dict.specs.declared.posing.PricesAndBounds.{PricesAndBounds}
use Rattle.market_dict.specs.declared.taking.Taking.{Taking}
use Rattle.market_dict.specs.declared.taking.Taking.TheVariants.{Limit, Room}
use Rattle.market_dict.proofs.TakingLists.{limits-limit, limits-room, rooms-limit, rooms-room}
use Rattle.clear_loop.specs.Growing.{Grown, GrowsByOne, IsNew, IsPassedTaking}
use Rattle.clear_loop.specs.Keeping.{AreListed}
use Rattle.clear_loop.specs.Rounds.{IsInHand}
use Rattle.clear_loop.specs.declared.hand.TakenInOrder.{TakenInOrder}
use Rattle.clear_loop.proofs.CountLemmas.{no_longer}

-- ---- one limit or room more
pub grown_behind : (m : Parts) (ts : List Taking) (t : Taking) → IsTaking m t → IsNew ts t → ((x : Dispatch) × BestFor m (taken_of ts) x × IsPassedTaking m x t) → Growth m (limits_of ts) (limits_of (ts ++ t ∷ []))
grown_behind m ts (Limit r) inside new (x, best, broken) =
    subst (Growth m (limits_of ts)) (sym (limits-limit ts r)) (growth_more m (limits_of ts) (limits_of ts) x r (growth_none m (limits_of ts)) (rooms_of ts, best) broken inside new)
grown_behind m ts (Room u) inside new passed = subst (Growth m (limits_of ts)) (sym (limits-room ts u)) (growth_none m (limits_of ts))

pub grown_more : (m : Parts) (t : List Row) (ts new : List Taking) → Growth m t (limits_of ts) → GrowsByOne m ts new → Growth m t (limits_of new)
grown_more m t ts new grown (k, is, inside, absent, passed) =
    growth_again m t (limits_of ts) (limits_of new) grown (subst (λ (us : List Taking). Growth m (limits_of ts) (limits_of us)) (sym is) (grown_behind m ts k inside absent passed))

-- what has grown, from the same and to the same
pub grown_between : (m : Parts) {before first last after : List Taking} → first ≡ before → after ≡ last → Grown m first last → Grown m before after
grown_between m {before} {first} {last} {after} begins ends grown = subst (λ ts. Grown m ts after) begins (subst (Grown m first) (sym ends) grown)

-- how many limits and rooms of the market are not in hand
abbrev pub left_over : Parts → List Taking → ℕ
left_over m ts = (length (rows m) - length (limits_of ts)) + (length (reserve_units m) - length (rooms_of ts))

-- rounds come nearer to all of them
pub comes_nearer : (m : Parts) (ts new : List Taking) → GrowsByOne m ts new → AreTakings m new → left_over m new < left_over m ts
comes_nearer m ts new (k, is, inside, absent, passed) are = nearer k is
  where
    few : length (limits_of new) ≤ length (rows m)
    few = rows_few m (limits_of new) are.taken.limits

    few_rooms : length (rooms_of new) ≤ length (reserve_units m)
    few_rooms = no_longer (rooms_of new) (reserve_units m) are.rooms_distinct are.taken.rooms

    nearer : (t : Taking) → new ≡ ts ++ t ∷ [] → left_over m new < left_over m ts
    nearer (Limit r) by_one =
        let limits : length (limits_of new) ≡ length (limits_of ts) + 1 = ap (λ (us : List Taking). length (limits_of us)) by_one ∙ ap length (limits-limit ts r) ∙ length-append (limits_of ts) (r ∷ []) in
        let rooms : length (rooms_of new) ≡ length (rooms_of ts) = ap (λ (us : List Taking). length (rooms_of us)) by_one ∙ ap length (rooms-limit ts r) in
        let some = few in
        Prim.omega (arith, limits, rooms, some)
    nearer (Room u) by_one =
        let limits : length (limits_of new) ≡ length (limits_of ts) = ap (λ (us : List Taking). length (limits_of us)) by_one ∙ ap length (limits-room ts u) in
        let rooms : length (rooms_of new) ≡ length (rooms_of ts) + 1 = ap (λ (us : List Taking). length (rooms_of us)) by_one ∙ ap length (rooms-room ts u) ∙ length-append (rooms_of ts) (u ∷ []) in
        let some = few_rooms in
        Prim.omega (arith, limits, rooms, some)

-- each is one of the market
pub all_takings : (m : Parts) (ts : List Taking) → AreTakings m ts → All (IsTaking m) ts
all_takings m ts are = each ts are.taken.limits.rows are.taken.rooms
  where
    each : (us : List Taking) → ((r : Row) → Contains (limits_of us) r → Contains (rows m) r) → ((u : ℕ) → Contains (rooms_of us) u → Contains (reserve_units m) u) → All (IsTaking m) us
    each [] limits rooms = All-nil (IsTaking m)
    each (Limit r ∷ us) limits rooms = All-cons (IsTaking m) (Limit r) us (limits r (Contains-head r (limits_of us))) (each us (λ s c. limits s (Contains-cons r (limits_of us) s c)) rooms)
    each (Room u ∷ us) limits rooms = All-cons (IsTaking m) (Room u) us (rooms u (Contains-head u (rooms_of us))) (each us limits (λ v c. rooms v (Contains-cons u (rooms_of us) v c)))

-- ---- its limits with their names
-- what is pushed stands behind
pub pushed : {X T E : Type 0} (old new : List X) (x : X) (r : Result T E) → MatchResult r (λ _. new ≡ old ++ x ∷ []) (λ _. new ≡ old) → IfOk r (λ _. new ≡ old ++ x ∷ [])
pushed old new x (Ok u) is = is
pushed old new x (Err e) is = tt

pub listed_limit : (m : Parts) (old new : TakenInOrder) (r : Row) → AreListed m old → new.takings ≡ old.takings ++ Limit r ∷ [] → new.rows ≡ old.rows ++ r ∷ [] → new.names ≡ old.names ++ row_id m r ∷ [] → AreListed m new
listed_limit m old new r are grown more named = record {
  rows = more ∙ ap (λ (rs : List Row). rs ++ r ∷ []) are.rows ∙ sym (limits-limit old.takings r) ∙ ap limits_of (sym grown);
  names = named ∙ ap (λ (ns : List RowId). ns ++ row_id m r ∷ []) are.names ∙ sym (map-append (row_id m) old.rows (r ∷ [])) ∙ ap (map (row_id m)) (sym more);
}

pub listed_room : (m : Parts) (old new : TakenInOrder) (u : ℕ) → AreListed m old → new.takings ≡ old.takings ++ Room u ∷ [] → new.rows ≡ old.rows → new.names ≡ old.names → AreListed m new
listed_room m old new u are grown same named = record {
  rows = same ∙ are.rows ∙ sym (limits-room old.takings u) ∙ ap limits_of (sym grown);
  names = named ∙ are.names ∙ ap (map (row_id m)) (sym same);
}

module _ {N : Type 0} (worth : N → Fraction) (m : Parts) where
  pub hand_grown : (new : TakenInOrder) (more : List Taking) (warm : Option Dictionary) (d : Dictionary) (posing : PricesAndBounds N) → new.takings ≡ more → AreListed m new
      → warm ≡ Some d → HoldsMarket m more d → ArePricesAndBounds worth m more posing → IsInHand worth m (record { warm = warm; posing = posing; taken = new })
  hand_grown new more warm d posing grown listed is holds are = record {
    start = (d, is, subst (λ (us : List Taking). HoldsMarket m us d) (sym grown) holds);
    posing = subst (λ (us : List Taking). ArePricesAndBounds worth m us posing) (sym grown) are;
    listed = listed;
  }
