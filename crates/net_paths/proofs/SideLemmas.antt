-- The numbers of the visited places, one place after the other.
use Rattle.std.proofs.Common.{◌≡◌, ℕ, ◌<◌, ◌+◌, List, [], ◌∷◌, ◌++◌, true, false, refl, sym, ap, subst, ◌∙◌, length, map, arith, inl, inr, Option, Some}
use Rattle.std.specs.Prelude.{All, Contains, slice_get, slice_index_or, is_some, IsSome}
use Rattle.std.proofs.lemmas.Bool.{cases_lt}
use Rattle.std.proofs.lemmas.List.{map_push}
use Rattle.std.proofs.lemmas.List.Elements.{All-nil, All-push, All-weaker, Contains-append_left, Contains-push}
use Rattle.std.proofs.lemmas.List.Quantifiers.{all_pairs_push}
use Rattle.std.proofs.lemmas.List.{get_or-map, length-map}
use Rattle.std.proofs.lemmas.List.Elements.{All-contains}
use Rattle.std.proofs.lemmas.Option.{get_or_from_slice_get, slice_get_within}
use Rattle.market_data.specs.declared.participants.Bus.{Bus}
use Rattle.net_case.specs.declared.live_parts.NetBranch.{NetBranch}
use Rattle.net_case.specs.Networks.{IsNetBranch, IsNetwork, LiveNetwork}
use Rattle.net_paths.specs.declared.steps.Step.{Step}
use Rattle.net_paths.specs.declared.search.Search.{Search}
use Rattle.net_paths.specs.Chains.{AreJoined, end_of, start_of}
use Rattle.net_paths.specs.Connection.{bus_number}
use Rattle.net_paths.specs.Detours.{HoldsSide, IsOff, IsSide}
use Rattle.net_paths.specs.Searching.{visit_at, IsSearch}
use Rattle.net_paths.proofs.ChainLemmas.{joined_step, joined_sym, joined_trans}
use Rattle.net_paths.proofs.WayLemmas.{visited_joined, joined_visited}

module _ (network : LiveNetwork) (seen : List (Option ℕ)) where
  pub side-none : HoldsSide network seen 0 []
  side-none = record {
    places = [];
    order = λ i j d lt within. absurd (omega arith);
    within = All-nil (λ (p : ℕ). p < 0);
    visited = All-nil (λ (p : ℕ). IsSome (visit_at seen p));
    all = λ p lt. absurd (omega arith);
    numbers_are = refl;
  }

  pub side-more : (upto : ℕ) (numbers : List ℕ) → HoldsSide network seen upto numbers → IsSome (visit_at seen upto) → HoldsSide network seen (upto + 1) (numbers ++ bus_number network upto ∷ [])
  side-more upto numbers side here = record {
    places = side.places ++ upto ∷ [];
    order = all_pairs_push (λ p q. p < q) side.places upto side.order side.within;
    within = All-push (λ (p : ℕ). p < upto + 1) side.places upto (All-weaker (λ (p : ℕ). p < upto) (λ (p : ℕ). p < upto + 1) (λ p lt. omega arith) side.places side.within) (omega arith);
    visited = All-push (λ (p : ℕ). IsSome (visit_at seen p)) side.places upto side.visited here;
    all = all;
    numbers_are = ap (λ (ns : List ℕ). ns ++ bus_number network upto ∷ []) side.numbers_are ∙ sym (map_push (bus_number network) side.places upto);
  }
    where
      all : (p : ℕ) → p < upto + 1 → IsSome (visit_at seen p) → Contains (side.places ++ upto ∷ []) p
      all p lt at = elim (cases_lt p upto) [
        | inl old ↦ Contains-append_left side.places (upto ∷ []) p (side.all p old at)
        | inr le ↦ let is : upto ≡ p = omega (arith, le, lt) in subst (Contains (side.places ++ upto ∷ [])) is (Contains-push side.places upto)
      ]

  pub side-skip : (upto : ℕ) (numbers : List ℕ) → HoldsSide network seen upto numbers → is_some (visit_at seen upto) ≡ false → HoldsSide network seen (upto + 1) numbers
  side-skip upto numbers side none = record {
    places = side.places;
    order = side.order;
    within = All-weaker (λ (p : ℕ). p < upto) (λ (p : ℕ). p < upto + 1) (λ p lt. omega arith) side.places side.within;
    visited = side.visited;
    all = all;
    numbers_are = side.numbers_are;
  }
    where
      all : (p : ℕ) → p < upto + 1 → IsSome (visit_at seen p) → Contains side.places p
      all p lt at = elim (cases_lt p upto) [
        | inl old ↦ side.all p old at
        | inr le ↦ let is : p ≡ upto = omega (arith, le, lt) in absurd (no (sym at ∙ ap (λ (q : ℕ). is_some (visit_at seen q)) is ∙ none))
      ]
        where
          no : true ≡ false → ⊥
          no e = cc

-- the number of a bus that is read
pub number_read : (network : LiveNetwork) (place : ℕ) (bus : Bus) → slice_get network.buses place ≡ Some bus → bus_number network place ≡ bus.number
number_read network place bus at =
    get_or-map (λ (b : Bus). b.number) network.buses place bus 0 (slice_get_within network.buses place bus at)
    ∙ ap (λ (b : Bus). b.number) (get_or_from_slice_get network.buses place bus bus at)

-- the visited places of a whole search are the side of its root
pub side_is : (network : LiveNetwork) (branches : List NetBranch) (b : ℕ) (search : Search) (numbers : List ℕ) → IsSearch branches (length network.buses) b search
    → All (IsNetBranch (length network.buses)) branches → HoldsSide network search.seen.items (length network.buses) numbers → IsSide network branches b numbers
side_is network branches b search numbers whole within side = record {
  places = side.places;
  order = side.order;
  within = side.within;
  joined = All-weaker (λ (p : ℕ). IsSome (visit_at seen p)) (AreJoined branches b) to_b side.places side.visited;
  all = λ p lt h. side.all p lt (from_b p h);
  closed = λ branch contains. (
    onto (record { branch = branch; forward = true }) contains (All-contains (IsNetBranch n) branches branch within contains).to,
    onto (record { branch = branch; forward = false }) contains (All-contains (IsNetBranch n) branches branch within contains).from,
  );
  numbers_are = side.numbers_are;
}
  where
    n : ℕ
    n = length network.buses

    seen : List (Option ℕ)
    seen = search.seen.items

    to_b : (p : ℕ) → IsSome (visit_at seen p) → AreJoined branches b p
    to_b p = visited_joined branches n b search.visits seen whole.visits p

    from_b : (p : ℕ) → AreJoined branches b p → IsSome (visit_at seen p)
    from_b p = joined_visited branches n b search.visits seen whole.visits whole.closed p

    onto : (s : Step) → Contains branches s.branch → end_of s < n → Contains side.places (start_of s) → Contains side.places (end_of s)
    onto s contains lt here =
        side.all (end_of s) lt (from_b (end_of s) (joined_trans branches b (start_of s) (end_of s)
        (to_b (start_of s) (All-contains (λ (p : ℕ). IsSome (visit_at seen p)) side.places (start_of s) side.visited here)) (joined_step branches s contains)))

-- a bus that the branches don't join to the root is not on its side
pub off_side : (network : LiveNetwork) (branches : List NetBranch) (a b : ℕ) (numbers : List ℕ) → IsNetwork network → a < length network.buses → ¬ AreJoined branches a b
    → IsSide network branches b numbers → IsOff network a numbers
off_side network branches a b numbers net lt apart side here = apart (joined_sym branches b a (subst (AreJoined branches b) same (side.joined k a inside)))
  where
    all : List ℕ
    all = map (λ (bus : Bus). bus.number) network.buses

    on_side : Contains (map (bus_number network) side.places) (bus_number network a)
    on_side = subst (λ (ns : List ℕ). Contains ns (bus_number network a)) side.numbers_are here

    k : ℕ
    k = on_side.0

    inside : k < length side.places
    inside = omega (arith, on_side.1, length-map side.places (bus_number network))

    p : ℕ
    p = slice_index_or side.places k a

    alike : bus_number network p ≡ bus_number network a
    alike = sym (get_or-map (bus_number network) side.places k a (bus_number network a) inside) ∙ on_side.2

    within : p < length all
    within = omega (arith, side.within k a inside, length-map network.buses (λ (bus : Bus). bus.number))

    a_within : a < length all
    a_within = omega (arith, lt, length-map network.buses (λ (bus : Bus). bus.number))

    same : p ≡ a
    same = elim (cases_lt p a) [
      | inl less ↦ absurd (net.distinct p a 0 less a_within alike)
      | inr more ↦ elim (cases_lt a p) [
        | inl less ↦ absurd (net.distinct a p 0 less within (sym alike))
        | inr le ↦ omega (arith, more, le)
      ]
    ]
