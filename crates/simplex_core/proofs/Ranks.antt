-- Names by rank.
use Rattle.std.specs.Prelude.{◌≡◌, ℕ, ◌<◌, length, slice_index, refl}
use Rattle.std.specs.List.{Contains}
use Rattle.std.proofs.Common.{arith, ap, inl, inr}
use Rattle.std.proofs.lemmas.Bool.{cases_order}
use Rattle.std.proofs.lemmas.Grind.{get_or_default_zero}
use Rattle.std.proofs.lemmas.List.Kept.{AllPairs-from_increasing}
use Rattle.fraction_theory.proofs.ListSums.{Distinct-increasing}
use Rattle.linear_dict.specs.Dictionaries.{Dictionary, IsDictionary}
use Rattle.linear_dict.specs.Places.{place_in}
use Rattle.linear_dict.proofs.NameLemmas.{place_in-at, place_in-within}

module _ (d : Dictionary) (h : IsDictionary d) where
  pub ranked_named : (k : ℕ) → k < length d.names → Contains d.names (slice_index d.names k)
  ranked_named k l = (k, l, get_or_default_zero d.names k (slice_index d.names k) l)

  pub rank_of : (k : ℕ) → k < length d.names → place_in d.names (slice_index d.names k) ≡ k
  rank_of k l = place_in-at d.names k (slice_index d.names k) (Distinct-increasing d.names h.ascending) l refl

  -- names ascend with their ranks
  pub rank_below : (i j : ℕ) → i < length d.names → j < length d.names → slice_index d.names i < slice_index d.names j → i < j
  rank_below i j hi hj l = elim (cases_order i j) [
    | inl e ↦ let q : slice_index d.names i ≡ slice_index d.names j = ap (slice_index d.names) e in Prim.omega (arith, l, q)
    | inr w ↦ elim w [
      | inl less ↦ less
      | inr more ↦ Prim.omega (arith, l, AllPairs-from_increasing d.names h.ascending j i 0 more hi)
    ]
  ]

  pub name_below : (i j : ℕ) → i < j → j < length d.names → slice_index d.names i < slice_index d.names j
  name_below i j l hj = AllPairs-from_increasing d.names h.ascending i j 0 l hj

  -- the rank of a name
  pub at_rank : (w : ℕ) → Contains d.names w → (place_in d.names w < length d.names) × (slice_index d.names (place_in d.names w) ≡ w)
  at_rank w c = place_in-within d.names w c
