-- A network of three buses in a triangle, one side of which is double: it is one, and connected.
use Rattle.std.specs.Prelude.{ℕ, ◌<◌, pos, List, [], ◌∷◌, refl}
use Rattle.std.specs.List.{Contains}
use Rattle.std.proofs.Common.{zero, suc, arith, subst, inl, inr}
use Rattle.exact_flows.specs.Lines.{line_branch, line_network}
use Rattle.exact_flows.specs.declared.line.Line.{Line}
use Rattle.fraction_theory.specs.Fraction.{Fraction, whole}
use Rattle.fraction_theory.specs.Order.{◌<ℚ◌}
use Rattle.fraction_theory.proofs.ListSums.{Contains-cases}
use Rattle.network_theory.specs.Networks.{Branch, Network, IsBranchOf, IsTheoryNetwork, IsConnected, AreLinked}

module _ {N : Type 0} (value : N → Fraction) (a b c d : N) where
  abbrev line : ℕ → ℕ → N → Line N
  line from to x = record { from = from; to = to; susceptance = x }

  abbrev pub lines : List (Line N)
  lines =
      record { from = 0; to = 1; susceptance = a }
      ∷ record { from = 0; to = 2; susceptance = b }
      ∷ record { from = 1; to = 2; susceptance = c }
      ∷ record { from = 2; to = 1; susceptance = d }
      ∷ []

  abbrev net : Network
  net = line_network value 3 lines

  pub triangle_joined : IsConnected (line_network value 3 lines) 0
  triangle_joined = record { joined = each }
    where
      each : (i : ℕ) → i < 3 → AreLinked net i 0
      each zero h = record { chain = []; lead = refl }
      each (suc zero) h = record {
        chain = 0 ∷ [];
        lead = (record { branch = line_branch value (line 0 1 a); there = (0, Prim.omega arith, refl); ends = inr (refl, refl) }, refl);
      }
      each (suc (suc zero)) h = record {
        chain = 0 ∷ [];
        lead = (record { branch = line_branch value (line 0 2 b); there = (1, Prim.omega arith, refl); ends = inr (refl, refl) }, refl);
      }
      each (suc (suc (suc i))) h = absurd (Prim.omega (arith, h))

  module _ (ha : whole (pos 0) <ℚ value a) (hb : whole (pos 0) <ℚ value b) (hc : whole (pos 0) <ℚ value c) (hd : whole (pos 0) <ℚ value d) where
    pub triangle_is : IsTheoryNetwork (line_network value 3 lines)
    triangle_is = record {
      branches = λ x k. one (line_branch value (line 0 1 a)) (line_branch value (line 0 2 b)) (line_branch value (line 1 2 c)) (line_branch value (line 2 1 d)) x k
          (record { from = Prim.omega arith; to = Prim.omega arith; susceptance = ha })
          (record { from = Prim.omega arith; to = Prim.omega arith; susceptance = hb })
          (record { from = Prim.omega arith; to = Prim.omega arith; susceptance = hc })
          (record { from = Prim.omega arith; to = Prim.omega arith; susceptance = hd });
    }
      where
        one : (p q r s x : Branch) → Contains (p ∷ q ∷ r ∷ s ∷ []) x → IsBranchOf net p → IsBranchOf net q → IsBranchOf net r → IsBranchOf net s → IsBranchOf net x
        one p q r s x k hp hq hr hs = elim (Contains-cases p (q ∷ r ∷ s ∷ []) x k) [
          | inl e ↦ subst (IsBranchOf net) e hp
          | inr k1 ↦ elim (Contains-cases q (r ∷ s ∷ []) x k1) [
            | inl e ↦ subst (IsBranchOf net) e hq
            | inr k2 ↦ elim (Contains-cases r (s ∷ []) x k2) [
              | inl e ↦ subst (IsBranchOf net) e hr
              | inr k3 ↦ elim (Contains-cases s [] x k3) [
                | inl e ↦ subst (IsBranchOf net) e hs
                | inr k4 ↦ absurd (Prim.omega (arith, k4.1))
              ]
            ]
          ]
        ]
