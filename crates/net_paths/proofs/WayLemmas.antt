-- What a whole search tells of the places that branches join, and the steps from a place back to its root.
use Rattle.std.proofs.Common.{◌≡◌, ◌≢◌, ℕ, suc, zero, ◌<◌, ◌+◌, List, [], ◌∷◌, ◌++◌, refl, sym, ap, subst, ◌∙◌, length, get_or, arith, Option, Some, None, map}
use Rattle.std.specs.Prelude.{AllPairs, Contains, IsSome, MatchOption}
use Rattle.std.proofs.lemmas.List.{map_push}
use Rattle.std.proofs.lemmas.List.Elements.{All-nil, All-push, All-weaker, All-map}
use Rattle.std.proofs.lemmas.List.Quantifiers.{all_pairs_push}
use Rattle.net_case.specs.declared.live_parts.NetBranch.{NetBranch}
use Rattle.net_paths.specs.declared.steps.Step.{Step}
use Rattle.net_paths.specs.declared.search.Back.{Back}
use Rattle.net_paths.specs.declared.search.Visit.{Visit}
use Rattle.net_paths.specs.declared.search.Search.{Search}
use Rattle.net_paths.specs.Chains.{start_of, end_of, Lead, AreJoined}
use Rattle.net_paths.specs.Searching.{IsBack, AreVisits, IsSearch, IsWay, IsWayBack, visit_at, place_at}
use Rattle.net_paths.proofs.ChainLemmas.{Lead-append, joined_itself, joined_sym, joined_trans, joined_step, kept_along}

-- a visit that stands for any where none is
abbrev pub nowhere : Visit
nowhere = record { place = 0; back = None }

some_is : (o : Option ℕ) → IsSome o → (n : ℕ) × (o ≡ Some n)
some_is None h = absurd cc
some_is (Some n) h = (n, refl)

pub some_visit : (o : Option ℕ) (n : ℕ) → o ≡ Some n → IsSome o
some_visit o n e = rw e refl

pub not_none : (o : Option ℕ) → o ≡ None → IsSome o → ⊥
not_none None e h = cc
not_none (Some n) e h = cc

module _ (branches : List NetBranch) (places root : ℕ) (visits : List Visit) (seen : List (Option ℕ)) (good : AreVisits branches places root visits seen) where
  -- the place of a visit is joined to the root where those of earlier visits are
  by_earlier : (i : ℕ) (d : Visit) → ((k : ℕ) → k < i → AreJoined branches (get_or visits k d).place root) → (place : ℕ) (back : Option Back)
      → MatchOption back (place ≡ root) (λ b. IsBack branches visits i place b) → AreJoined branches place root
  by_earlier i d earlier place None is = subst (λ (p : ℕ). AreJoined branches p root) (sym is) (joined_itself branches root)
  by_earlier i d earlier place (Some b) is =
      joined_trans branches place (end_of b.step) root
      (subst (λ (p : ℕ). AreJoined branches p (end_of b.step)) is.start (joined_step branches b.step is.branch))
      (subst (λ (p : ℕ). AreJoined branches p root) (is.end d) (earlier b.visit is.before))

  -- shown for the first visits
  to_root : (n i : ℕ) (d : Visit) → i < n → i < length visits → AreJoined branches (get_or visits i d).place root
  to_root zero i d lt within = absurd (omega arith)
  to_root (suc n) i d lt within =
      by_earlier i d (λ k before. to_root n k d (omega (arith, before, lt)) (omega (arith, before, within))) (get_or visits i d).place (get_or visits i d).back (good.back i d within)

  pub visited_joined : (p : ℕ) → IsSome (visit_at seen p) → AreJoined branches root p
  visited_joined p h =
      let visit = some_is (visit_at seen p) h in
      let at = good.found p visit.0 visit.1 in
      joined_sym branches p root (subst (λ (q : ℕ). AreJoined branches q root) (at.1 nowhere) (to_root (visit.0 + 1) visit.0 nowhere (omega arith) at.0))

  pub joined_visited : ((i : ℕ) (d : Visit) → i < length visits → (s : Step) → Contains branches s.branch → start_of s ≡ (get_or visits i d).place → IsSome (visit_at seen (end_of s)))
      → (p : ℕ) → AreJoined branches root p → IsSome (visit_at seen p)
  joined_visited closed p h =
      kept_along branches (λ (q : ℕ). IsSome (visit_at seen q)) keeps h.steps root p h.pass h.lead (some_visit (visit_at seen root) 0 good.begun)
    where
      keeps : (s : Step) → Contains branches s.branch → IsSome (visit_at seen (start_of s)) → IsSome (visit_at seen (end_of s))
      keeps s contains at =
          let visit = some_is (visit_at seen (start_of s)) at in
          let found = good.found (start_of s) visit.0 visit.1 in
          closed visit.0 nowhere found.0 s contains (sym (found.1 nowhere))

  -- ---- the way back
  pub way-begin : (visit : ℕ) → IsWay branches visits seen (place_at visits visit) visit []
  way-begin visit = record {
    pass = All-nil (λ (s : Step). Contains branches s.branch);
    lead = refl;
    apart = λ i j d lt within. absurd (omega arith);
    later = All-nil (λ (s : Step). (m : ℕ) × (visit_at seen (start_of s) ≡ Some m) × (visit < m));
  }

  pub way-more : (place visit : ℕ) (steps : List Step) (v : Visit) (b : Back) → visit < length visits → ((d : Visit) → get_or visits visit d ≡ v) → v.back ≡ Some b
      → IsWay branches visits seen place visit steps → (b.visit < length visits) × (b.visit < visit) × IsWay branches visits seen place b.visit (steps ++ b.step ∷ [])
  way-more place visit steps v b lt at is way = (
    omega (arith, lt, here.before),
    here.before,
    record {
      pass = All-push (λ (s : Step). Contains branches s.branch) steps b.step way.pass here.branch;
      lead = Lead-append steps (b.step ∷ []) place (place_at visits visit) (place_at visits b.visit) way.lead (start, sym (here.end nowhere));
      apart = subst (AllPairs (λ p q. p ≢ q)) (sym (map_push start_of steps b.step))
          (all_pairs_push (λ p q. p ≢ q) (map start_of steps) (start_of b.step) way.apart other);
      later = All-push (λ (s : Step). (m : ℕ) × (visit_at seen (start_of s) ≡ Some m) × (b.visit < m)) steps b.step
          (All-weaker (λ (s : Step). (m : ℕ) × (visit_at seen (start_of s) ≡ Some m) × (visit < m)) (λ (s : Step). (m : ℕ) × (visit_at seen (start_of s) ≡ Some m) × (b.visit < m))
          (λ s h. (h.0, h.1, omega (arith, h.2, here.before))) steps way.later)
          (visit, number, here.before);
    },
  )
    where
      from : MatchOption v.back (v.place ≡ root) (λ k. IsBack branches visits visit v.place k)
      from = subst (λ (w : Visit). MatchOption w.back (w.place ≡ root) (λ k. IsBack branches visits visit w.place k)) (at nowhere) (good.back visit nowhere lt)

      here : IsBack branches visits visit v.place b
      here = subst (λ (o : Option Back). MatchOption o (v.place ≡ root) (λ k. IsBack branches visits visit v.place k)) is from

      start : start_of b.step ≡ place_at visits visit
      start = here.start ∙ sym (ap (λ (w : Visit). w.place) (at nowhere))

      number : visit_at seen (start_of b.step) ≡ Some visit
      number = rw start (good.noted visit nowhere lt)

      other : (k : ℕ) (d : ℕ) → k < length (map start_of steps) → get_or (map start_of steps) k d ≢ start_of b.step
      other = All-map (λ (p : ℕ). p ≢ start_of b.step) start_of steps
          (All-weaker (λ (s : Step). (m : ℕ) × (visit_at seen (start_of s) ≡ Some m) × (visit < m)) (λ (s : Step). start_of s ≢ start_of b.step) differs steps way.later)
        where
          differs : (s : Step) → (m : ℕ) × (visit_at seen (start_of s) ≡ Some m) × (visit < m) → start_of s ≢ start_of b.step
          differs s h e = let same : h.0 ≡ visit = cc (h.1, number, e) in absurd (omega (arith, same, h.2))

  pub way-end : (place visit : ℕ) (steps : List Step) (v : Visit) → visit < length visits → ((d : Visit) → get_or visits visit d ≡ v) → v.back ≡ None
      → IsWay branches visits seen place visit steps → IsWayBack branches place root steps
  way-end place visit steps v lt at is way = record {
    pass = way.pass;
    lead = subst (Lead steps place) home way.lead;
    apart = way.apart;
    off_root = All-weaker (λ (s : Step). (m : ℕ) × (visit_at seen (start_of s) ≡ Some m) × (visit < m)) (λ (s : Step). start_of s ≢ root) differs steps way.later;
  }
    where
      from : MatchOption v.back (v.place ≡ root) (λ k. IsBack branches visits visit v.place k)
      from = subst (λ (w : Visit). MatchOption w.back (w.place ≡ root) (λ k. IsBack branches visits visit w.place k)) (at nowhere) (good.back visit nowhere lt)

      at_root : v.place ≡ root
      at_root = subst (λ (o : Option Back). MatchOption o (v.place ≡ root) (λ k. IsBack branches visits visit v.place k)) is from

      home : place_at visits visit ≡ root
      home = ap (λ (w : Visit). w.place) (at nowhere) ∙ at_root

      differs : (s : Step) → (m : ℕ) × (visit_at seen (start_of s) ≡ Some m) × (visit < m) → start_of s ≢ root
      differs s h e = let same : h.0 ≡ 0 = cc (h.1, good.begun, e) in absurd (omega (arith, same, h.2))

-- a search over branches that are read from elsewhere
pub renamed : (given branches : List NetBranch) (places buses : ℕ) (root : ℕ) (search : Search) → given ≡ branches → places ≡ buses → IsSearch given places root search → IsSearch branches buses root search
renamed given branches places buses root search same count whole =
    subst (λ (bs : List NetBranch). IsSearch bs buses root search) same (subst (λ (n : ℕ). IsSearch given n root search) count whole)
