-- What a clearer keeps from one clear to the next: the dictionary of the last one, and the limits and rooms that it has.
use Rattle.std.specs.Prelude.{◌≡◌, ◌⊎◌, ℕ, Option, Some, None, List, [], map, refl}
use Rattle.std.proofs.Common.{ap, inl, inr}
use Rattle.std.specs.Coded.{Coded, code_by, coded×, coded⊎, coded_ℕ, coded_list, coded_option}
use Rattle.linear_dict.specs.Dictionaries.{Dictionary, dictionary_code}
use Rattle.market_model.specs.declared.participants.Parts.{Parts}
use Rattle.market_model.specs.declared.answered.RowId.{RowId}
use Rattle.market_model.specs.declared.limits.Cause.{Cause}
use Rattle.market_model.specs.declared.limits.Row.{Row}
use Rattle.market_model.specs.declared.limits.Cause.TheVariants.{Base, Branch, UnitOutage}
use Rattle.market_model.specs.LimitRows.{row_id}
use Rattle.market_dict.specs.Holding.{HoldsMarket}
use Rattle.market_dict.specs.Takings.{limits_of}
use Rattle.market_dict.specs.declared.taking.Taking.{Taking}
use Rattle.market_dict.specs.declared.taking.Taking.TheVariants.{Limit, Room}
use Rattle.clear_loop.specs.declared.hand.TakenInOrder.{TakenInOrder}

-- the dictionary, and its limits and rooms in the order in which they were taken, with the names of its limits
pub record Kept : Type 0 where
  pub dict : Option Dictionary
  pub taken : TakenInOrder

-- nothing is taken
abbrev pub untaken : TakenInOrder
untaken = record { takings = []; rows = []; names = [] }

-- nothing is kept
abbrev pub cold : Kept
cold = record { dict = None; taken = untaken }

-- the rows are the limits among what is taken, with their names
pub record AreListed (m : Parts) (t : TakenInOrder) : Type 0 where
  pub rows : t.rows ≡ limits_of t.takings
  pub names : t.names ≡ map (row_id m) t.rows

-- a start for a market, with this taken: none where nothing is, or a dictionary that holds the market over it
abbrev pub IsStartOf : Parts → TakenInOrder → Option Dictionary → Type 0
IsStartOf m t None = t ≡ untaken
IsStartOf m t (Some d) = HoldsMarket m t.takings d × AreListed m t

-- what is kept is a start for this market
abbrev pub FitsFrame : Parts → Kept → Type 0
FitsFrame m k = IsStartOf m k.taken k.dict

-- ---- its code
abbrev pub coded_as : Cause → Option (ℕ ⊎ ℕ)
coded_as Base = None
coded_as (Branch k) = Some (inl k)
coded_as (UnitOutage k) = Some (inr k)

abbrev pub read_as : Option (ℕ ⊎ ℕ) → Cause
read_as None = Base
read_as (Some (inl k)) = Branch k
read_as (Some (inr k)) = UnitOutage k

abbrev pub read_back : (c : Cause) → read_as (coded_as c) ≡ c
read_back Base = refl
read_back (Branch k) = refl
read_back (UnitOutage k) = refl

abbrev pub row_code : Coded Row
row_code = code_by (ℕ × Option (ℕ ⊎ ℕ)) (coded× coded_ℕ (coded_option (coded⊎ coded_ℕ coded_ℕ))) (λ r. (r.line, coded_as r.cause)) (λ p. record { line = p.0; cause = read_as p.1 })
    (λ r. ap (λ (c : Cause). record { line = r.line; cause = c }) (read_back r.cause))

abbrev pub taking_as : Taking → Row ⊎ ℕ
taking_as (Limit r) = inl r
taking_as (Room u) = inr u

abbrev pub read_taking : Row ⊎ ℕ → Taking
read_taking (inl r) = Limit r
read_taking (inr u) = Room u

abbrev pub taking_back : (t : Taking) → read_taking (taking_as t) ≡ t
taking_back (Limit r) = refl
taking_back (Room u) = refl

abbrev pub taking_code : Coded Taking
taking_code = code_by (Row ⊎ ℕ) (coded⊎ row_code coded_ℕ) taking_as read_taking taking_back

abbrev pub name_code : Coded RowId
name_code = code_by (ℕ × (ℕ × ℕ)) (coded× coded_ℕ (coded× coded_ℕ coded_ℕ)) (λ n. (n.branch, (n.outage, n.unit))) (λ p. record { branch = p.0; outage = p.1.0; unit = p.1.1 }) (λ _. refl)

abbrev pub taken_code : Coded TakenInOrder
taken_code = code_by (List Taking × (List Row × List RowId)) (coded× (coded_list taking_code) (coded× (coded_list row_code) (coded_list name_code)))
    (λ t. (t.takings, (t.rows, t.names))) (λ p. record { takings = p.0; rows = p.1.0; names = p.1.1 }) (λ _. refl)

abbrev pub kept_code : Coded Kept
kept_code = code_by (Option Dictionary × TakenInOrder) (coded× (coded_option dictionary_code) taken_code) (λ k. (k.dict, k.taken)) (λ p. record { dict = p.0; taken = p.1 }) (λ _. refl)
