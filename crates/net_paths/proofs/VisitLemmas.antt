-- The visits of a search, with one more.
use Rattle.std.proofs.Common.{◌≡◌, ◌≢◌, ℕ, suc, zero, ◌<◌, ◌≤◌, ◌+◌, List, [], ◌∷◌, ◌++◌, false, cond, refl, sym, ap, ◌∙◌, length, get_or, set, arith, length-set, inl, inr, get_or-set_same, get_or-set_other, Option, Some, None}
use Rattle.std.specs.Prelude.{All, ◌⊎◌, count_by, is_some, IsSome, MatchOption, replicate}
use Rattle.std.proofs.lemmas.Bool.{cases_eq, cases_lt}
use Rattle.std.proofs.lemmas.List.{get_or_append_left, get_or_push, length_push, length-replicate, get_or-replicate, get_or_past, get_or_default}
use Rattle.std.proofs.lemmas.List.Sums.{sum_by-set, count_by-le-length}
use Rattle.std.proofs.lemmas.List.Elements.{All-contains}
use Rattle.std.proofs.lemmas.List.Folds.{sum_by-replicate}
use Rattle.net_case.specs.declared.live_parts.NetBranch.{NetBranch}
use Rattle.net_paths.specs.declared.steps.Step.{Step}
use Rattle.net_paths.specs.declared.search.Back.{Back}
use Rattle.net_paths.specs.declared.search.Visit.{Visit}
use Rattle.net_paths.specs.declared.search.Search.{Search}
use Rattle.net_paths.specs.Chains.{start_of, end_of}
use Rattle.net_paths.specs.Searching.{IsIncidence, IsBack, IsVisit, AreVisits, GoesOn, IsClosed, visit_at}

-- ---- how many places are visited
count-set : (xs : List (Option ℕ)) (i n : ℕ) → i < length xs → get_or xs i None ≡ None → count_by is_some (set xs i (Some n)) ≡ count_by is_some xs + 1
count-set xs i n lt free =
    let one = rw free at (sum_by-set (λ (x : Option ℕ). cond (is_some x) 1 0) xs i (Some n) None lt) in
    omega (arith, one)

count-none : (n : ℕ) → count_by (is_some {T = ℕ}) (replicate n None) ≡ 0
count-none n = omega (arith, sum_by-replicate (λ (x : Option ℕ). cond (is_some x) 1 0) n None)

-- ---- a visit behind those that there are
module _ (branches : List NetBranch) (root : ℕ) (visits : List Visit) (more : Visit) where
  visit-more : (i : ℕ) (v : Visit) → i ≤ length visits → IsVisit branches root visits i v → IsVisit branches root (visits ++ more ∷ []) i v
  visit-more i v le h = by v.back h
    where
      by : (back : Option Back) → MatchOption back (v.place ≡ root) (λ b. IsBack branches visits i v.place b) → MatchOption back (v.place ≡ root) (λ b. IsBack branches (visits ++ more ∷ []) i v.place b)
      by None h = h
      by (Some b) h = record {
        before = h.before;
        branch = h.branch;
        start = h.start;
        end = λ d. rw (get_or_append_left visits (more ∷ []) d b.visit (omega (arith, h.before))) (h.end d);
      }

-- a place that is not visited, of which this is the next visit
abbrev pub noted_next : List Visit → List (Option ℕ) → ℕ → List (Option ℕ)
noted_next visits seen place = set seen place (Some (length visits))

module _ (branches : List NetBranch) (places root : ℕ) (visits : List Visit) (seen : List (Option ℕ)) (good : AreVisits branches places root visits seen) (more : Visit)
    (within : more.place < length seen) (free : visit_at seen more.place ≡ None) (is : IsVisit branches root visits (length visits) more) where
  here : visit_at (noted_next visits seen more.place) more.place ≡ Some (length visits)
  here = get_or-set_same seen more.place (Some (length visits)) None within

  other : (p : ℕ) → p ≢ more.place → visit_at (noted_next visits seen more.place) p ≡ visit_at seen p
  other p ne = get_or-set_other seen more.place p (Some (length visits)) None ne

  apart : (p i : ℕ) → visit_at seen p ≡ Some i → p ≢ more.place
  apart p i at e = let no : Some i ≡ None = sym at ∙ rw e free in cc

  split : (i : ℕ) → i < length (visits ++ more ∷ []) → (i < length visits) ⊎ (length visits ≡ i)
  split i lt = elim (cases_eq (length visits) i) [ inl e ↦ inr e | inr ne ↦ inl (omega (arith, ne, lt, length_push visits more)) ]

  pub visits-more : AreVisits branches places root (visits ++ more ∷ []) (noted_next visits seen more.place)
  visits-more = record {
    room = length-set seen more.place (Some (length visits)) ∙ good.room;
    begun = rw (other root (apart root 0 good.begun)) good.begun;
    back = back;
    noted = noted;
    found = found;
    count = rw (length_push visits more) (ap (λ n. n + 1) good.count ∙ sym (count-set seen more.place (length visits) within free));
  }
    where
      back : (i : ℕ) (d : Visit) → i < length (visits ++ more ∷ []) → IsVisit branches root (visits ++ more ∷ []) i (get_or (visits ++ more ∷ []) i d)
      back i d lt = elim (split i lt) [
        | inl old ↦ rw (get_or_append_left visits (more ∷ []) d i old) (visit-more branches root visits more i (get_or visits i d) (omega (arith, old)) (good.back i d old))
        | inr e ↦ rw (get_or_push visits more d i e) (rw e at (visit-more branches root visits more (length visits) more (omega arith) is))
      ]

      noted : (i : ℕ) (d : Visit) → i < length (visits ++ more ∷ []) → visit_at (noted_next visits seen more.place) (get_or (visits ++ more ∷ []) i d).place ≡ Some i
      noted i d lt = elim (split i lt) [
        | inl old ↦ rw (get_or_append_left visits (more ∷ []) d i old, other (get_or visits i d).place (apart (get_or visits i d).place i (good.noted i d old))) (good.noted i d old)
        | inr e ↦ rw (get_or_push visits more d i e) (here ∙ ap Some e)
      ]

      found : (p i : ℕ) → visit_at (noted_next visits seen more.place) p ≡ Some i → (i < length (visits ++ more ∷ [])) × ((d : Visit) → (get_or (visits ++ more ∷ []) i d).place ≡ p)
      found p i at = elim (cases_eq p more.place) [
        | inl e ↦
            let last : length visits ≡ i = cc (here, e, at) in
            (omega (arith, last, length_push visits more), λ d. rw (get_or_push visits more d i last) (sym e))
        | inr ne ↦
            let old = good.found p i (rw (other p ne) at at) in
            (omega (arith, old.0, length_push visits more), λ d. rw (get_or_append_left visits (more ∷ []) d i old.0) (old.1 d))
      ]

-- the first visit alone
pub visits-begin : (branches : List NetBranch) (places root : ℕ) → root < places → AreVisits branches places root (record { place = root; back = None } ∷ []) (set (replicate places None) root (Some 0))
visits-begin branches places root lt = record {
  room = length-set none root (Some 0) ∙ length-replicate places None;
  begun = here;
  back = back;
  noted = noted;
  found = found;
  count = omega (arith, count-set none root 0 in_room free, count-none places);
}
  where
    none : List (Option ℕ)
    none = replicate places None

    first : List Visit
    first = record { place = root; back = None } ∷ []

    in_room : root < length none
    in_room = omega (arith, lt, length-replicate {A = Option ℕ} places None)

    free : get_or none root None ≡ None
    free = get_or-replicate places root None None lt

    here : visit_at (set none root (Some 0)) root ≡ Some 0
    here = get_or-set_same none root (Some 0) None in_room

    back : (i : ℕ) (d : Visit) → i < 1 → IsVisit branches root first i (get_or first i d)
    back zero d le = refl
    back (suc i) d le = absurd (omega arith)

    noted : (i : ℕ) (d : Visit) → i < 1 → visit_at (set none root (Some 0)) (get_or first i d).place ≡ Some i
    noted zero d le = here
    noted (suc i) d le = absurd (omega arith)

    nowhere : (p : ℕ) → get_or none p None ≡ None
    nowhere p = elim (cases_lt p places) [
      | inl lt ↦ get_or-replicate places p None None lt
      | inr le ↦ get_or_past none p None (omega (arith, le, length-replicate {A = Option ℕ} places None))
    ]

    found : (p i : ℕ) → visit_at (set none root (Some 0)) p ≡ Some i → (i < 1) × ((d : Visit) → (get_or first i d).place ≡ p)
    found p i at = elim (cases_eq p root) [
      | inl e ↦
          let zeroth : 0 ≡ i = cc (here, e, at) in
          (omega arith, rw (← zeroth) (λ d. sym e))
      | inr ne ↦
          let no : None ≡ Some i = sym (nowhere p) ∙ sym (get_or-set_other none root p (Some 0) None ne) ∙ at in cc
    ]

-- a place whose visit's number is read as none
pub free-read : (seen : List (Option ℕ)) (place : ℕ) (r : Option ℕ) → place < length seen → r ≡ get_or seen place r → is_some r ≡ false → visit_at seen place ≡ None
free-read seen place None lt is none = sym is
free-read seen place (Some n) lt is none = cc

-- ---- searches that go on
pub goes_on-itself : (s : Search) → GoesOn s s
goes_on-itself s = record { longer = omega arith; visits = λ i d lt. refl; seen = λ p h. h }

pub goes_on-trans : (r s t : Search) → GoesOn r s → GoesOn s t → GoesOn r t
goes_on-trans r s t h k = record {
  longer = omega (arith, h.longer, k.longer);
  visits = λ i d lt. k.visits i d (omega (arith, h.longer, lt)) ∙ h.visits i d lt;
  seen = λ p at. k.seen p (h.seen p at);
}

-- ---- what is visited, and what is closed
pub place_within : (branches : List NetBranch) (places root : ℕ) (visits : List Visit) (seen : List (Option ℕ)) → AreVisits branches places root visits seen
    → (i : ℕ) (d : Visit) → i < length visits → (get_or visits i d).place < places
place_within branches places root visits seen good i d lt = elim (cases_lt (get_or visits i d).place (length seen)) [
  | inl within ↦ omega (arith, within, good.room)
  | inr past ↦ absurd (no (sym (good.noted i d lt) ∙ get_or_past seen (get_or visits i d).place None past))
]
  where
    no : Some i ≡ None → ⊥
    no e = cc

pub closed-more : (branches : List NetBranch) (places : ℕ) (lists : List (List Step)) → IsIncidence branches places lists → (before after : Search) (visit : ℕ) → GoesOn before after
    → visit < length before.visits → IsClosed branches before.visits before.seen.items visit
    → ((place : ℕ) → ((d : Visit) → (get_or before.visits visit d).place ≡ place) → All (λ s. IsSome (visit_at after.seen.items (end_of s))) (get_or lists place []))
    → IsClosed branches after.visits after.seen.items (visit + 1)
closed-more branches places lists inc before after visit on lt closed here i d below s contains start = elim (cases_lt i visit) [
  | inl old ↦ on.seen (end_of s) (closed i d old s contains (start ∙ ap (λ (v : Visit). v.place) (on.visits i d (omega (arith, old, lt)))))
  | inr le ↦
      let is : i ≡ visit = omega (arith, le, below) in
      let same = λ (e : Visit). get_or_default before.visits visit e d lt ∙ sym (on.visits visit d lt) ∙ ap (λ (k : ℕ). get_or after.visits k d) (sym is) in
      All-contains (λ (t : Step). IsSome (visit_at after.seen.items (end_of t))) (get_or lists (start_of s) []) s
      (here (start_of s) (λ e. ap (λ (v : Visit). v.place) (same e) ∙ sym start)) (inc.complete s contains)
]

-- no more places are visited than there are
pub visits-few : (branches : List NetBranch) (places root : ℕ) (visits : List Visit) (seen : List (Option ℕ)) → AreVisits branches places root visits seen → length visits ≤ places
visits-few branches places root visits seen good = omega (arith, good.count, good.room, count_by-le-length is_some seen)
