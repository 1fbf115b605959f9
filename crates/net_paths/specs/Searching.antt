-- What is kept while the places are visited that branches join to one place.
use Rattle.std.specs.Prelude.{◌≡◌, ◌≢◌, ℕ, ◌<◌, ◌≤◌, List, [], ◌∷◌, ◌++◌, length, All, Contains, slice_index_or, slice_set, count_by, Option, Some, None, is_some, IsSome, MatchOption, map, AllPairs}
use Rattle.net_case.specs.declared.live_parts.NetBranch.{NetBranch}
use Rattle.net_paths.specs.declared.steps.Step.{Step}
use Rattle.net_paths.specs.declared.search.Back.{Back}
use Rattle.net_paths.specs.declared.search.Visit.{Visit}
use Rattle.net_paths.specs.declared.search.Search.{Search}
use Rattle.net_paths.specs.Chains.{start_of, end_of, Pass, Lead}

-- ---- the steps at each place
-- lists of steps by place, with one step more where it begins
abbrev pub with_step : List (List Step) → Step → List (List Step)
with_step lists s = slice_set lists (start_of s) (slice_index_or lists (start_of s) [] ++ s ∷ [])

-- a step along one of the branches, from this place to one of so many
pub record IsStepAt (branches : List NetBranch) (places place : ℕ) (s : Step) : Type 0 where
  pub branch : Contains branches s.branch
  pub start : start_of s ≡ place
  pub end : end_of s < places

-- the lists have the steps along the branches, each where it begins
pub record IsIncidence (branches : List NetBranch) (places : ℕ) (lists : List (List Step)) : Type 0 where
  pub count : length lists ≡ places
  pub sound : (p : ℕ) → All (IsStepAt branches places p) (slice_index_or lists p [])
  pub complete : (s : Step) → Contains branches s.branch → Contains (slice_index_or lists (start_of s) []) s

abbrev pub HasBranches : List (List Step) → Type 0
HasBranches lists = (branches : List NetBranch) × IsIncidence branches (length lists) lists

-- ---- visits
-- the number of the visit at a place, where it is visited
abbrev pub visit_at : List (Option ℕ) → ℕ → Option ℕ
visit_at seen p = slice_index_or seen p None

-- the step back from a place to that of an earlier visit
pub record IsBack (branches : List NetBranch) (visits : List Visit) (i place : ℕ) (back : Back) : Type 0 where
  pub before : back.visit < i
  pub branch : Contains branches back.step.branch
  pub start : start_of back.step ≡ place
  pub end : (d : Visit) → (slice_index_or visits back.visit d).place ≡ end_of back.step

-- a visit at the root, or one with a step back
abbrev pub IsVisit : List NetBranch → ℕ → List Visit → ℕ → Visit → Type 0
IsVisit branches root visits i visit = MatchOption visit.back (visit.place ≡ root) (λ back. IsBack branches visits i visit.place back)

-- visits at places that the branches join to the root, each noted at its place
pub record AreVisits (branches : List NetBranch) (places root : ℕ) (visits : List Visit) (seen : List (Option ℕ)) : Type 0 where
  pub room : length seen ≡ places
  pub begun : visit_at seen root ≡ Some 0
  pub back : (i : ℕ) (d : Visit) → i < length visits → IsVisit branches root visits i (slice_index_or visits i d)
  pub noted : (i : ℕ) (d : Visit) → i < length visits → visit_at seen (slice_index_or visits i d).place ≡ Some i
  pub found : (p i : ℕ) → visit_at seen p ≡ Some i → (i < length visits) × ((d : Visit) → (slice_index_or visits i d).place ≡ p)
  pub count : length visits ≡ count_by is_some seen

-- where a step along the branches leads from one of the first visits is visited too
abbrev pub IsClosed : List NetBranch → List Visit → List (Option ℕ) → ℕ → Type 0
IsClosed branches visits seen count = (i : ℕ) (d : Visit) → i < count → (s : Step) → Contains branches s.branch → start_of s ≡ (slice_index_or visits i d).place
    → IsSome (visit_at seen (end_of s))

-- a search that goes on from another
pub record GoesOn (before after : Search) : Type 0 where
  pub longer : length before.visits ≤ length after.visits
  pub visits : (i : ℕ) (d : Visit) → i < length before.visits → slice_index_or after.visits i d ≡ slice_index_or before.visits i d
  pub seen : (p : ℕ) → IsSome (visit_at before.seen.items p) → IsSome (visit_at after.seen.items p)

-- a search that has visited all places that the branches join to its root
pub record IsSearch (branches : List NetBranch) (places root : ℕ) (search : Search) : Type 0 where
  pub visits : AreVisits branches places root search.visits search.seen.items
  pub closed : IsClosed branches search.visits search.seen.items (length search.visits)

-- ---- the way back
-- the place of a visit
abbrev pub place_at : List Visit → ℕ → ℕ
place_at visits i = (slice_index_or visits i (record { place = 0; back = None })).place

-- steps from a place back to that of a visit, each from the place of a later visit
pub record IsWay (branches : List NetBranch) (visits : List Visit) (seen : List (Option ℕ)) (place visit : ℕ) (steps : List Step) : Type 0 where
  pub pass : Pass branches steps
  pub lead : Lead steps place (place_at visits visit)
  pub apart : AllPairs (λ p q. p ≢ q) (map start_of steps)
  pub later : All (λ s. (m : ℕ) × (visit_at seen (start_of s) ≡ Some m) × (visit < m)) steps

-- steps from a place back to the root, from no place twice and from the root not once
pub record IsWayBack (branches : List NetBranch) (place root : ℕ) (steps : List Step) : Type 0 where
  pub pass : Pass branches steps
  pub lead : Lead steps place root
  pub apart : AllPairs (λ p q. p ≢ q) (map start_of steps)
  pub off_root : All (λ s. start_of s ≢ root) steps

abbrev pub HasVisits : Search → Type 0
HasVisits search = (branches : List NetBranch) × (places : ℕ) × (root : ℕ) × AreVisits branches places root search.visits search.seen.items
