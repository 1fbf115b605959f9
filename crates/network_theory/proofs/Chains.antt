-- Chains of neighbours turned round and put together: a network that is connected to one bus is connected to each.
use Rattle.std.specs.Prelude.{◌≡◌, ℕ, ◌<◌, List, [], ◌∷◌, ◌++◌, refl}
use Rattle.std.specs.List.{Contains}
use Rattle.std.proofs.Common.{ap, sym, ◌∙◌, subst, inl, inr}
use Rattle.network_theory.specs.Networks.{Branch, Network, AreNeighbours, Lead, AreLinked, IsConnected}

module _ (n : Network) where
  neighbours_sym : (i j : ℕ) → AreNeighbours n i j → AreNeighbours n j i
  neighbours_sym i j h = record { branch = h.branch; there = h.there; ends = elim h.ends [ inl e ↦ inr e | inr e ↦ inl e ] }

  Lead-append : (ks more : List ℕ) (i j k : ℕ) → Lead n ks i j → Lead n more j k → Lead n (ks ++ more) i k
  Lead-append [] more i j k e h = subst (λ (t : ℕ). Lead n more t k) (sym e) h
  Lead-append (c ∷ ks) more i j k h g = (h.0, Lead-append ks more c j k h.1 g)

  joined_trans : (i j k : ℕ) → AreLinked n i j → AreLinked n j k → AreLinked n i k
  joined_trans i j k h g = record { chain = h.chain ++ g.chain; lead = Lead-append h.chain g.chain i j k h.lead g.lead }

  turned_lead : (ks : List ℕ) (i j : ℕ) → Lead n ks i j → AreLinked n j i
  turned_lead [] i j e = record { chain = []; lead = sym e }
  turned_lead (k ∷ ks) i j h = joined_trans j k i (turned_lead ks k j h.1) (record { chain = i ∷ []; lead = (neighbours_sym i k h.0, refl) })

  pub connected_to : (r s : ℕ) → IsConnected n r → s < n.buses → IsConnected n s
  connected_to r s c h =
      let back = c.joined s h in
      record { joined = λ i p. joined_trans i r s (c.joined i p) (turned_lead back.chain s r back.lead) }

  -- two that are joined to a third
  pub joined_by : (i r j : ℕ) → AreLinked n i r → AreLinked n j r → AreLinked n i j
  joined_by i r j h g = joined_trans i r j h (turned_lead g.chain j r g.lead)

  -- what is the same at both ends of each branch is the same at both ends of each chain
  module _ {T : Type 0} (value : ℕ → T) (same : (b : Branch) → Contains n.branches b → value b.from ≡ value b.to) where
    same_beside : (i j : ℕ) → AreNeighbours n i j → value i ≡ value j
    same_beside i j near =
        let ends_same = same near.branch near.there in
        elim near.ends [ inl e ↦ ap value (sym e.0) ∙ ends_same ∙ ap value e.1 | inr e ↦ ap value (sym e.1) ∙ sym ends_same ∙ ap value e.0 ]

    pub same_along : (chain : List ℕ) (i j : ℕ) → Lead n chain i j → value i ≡ value j
    same_along [] i j e = ap value e
    same_along (k ∷ ks) i j lead = same_beside i k lead.0 ∙ same_along ks k j lead.1
