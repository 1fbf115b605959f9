-- The tree and the loops, with a branch more.
use Rattle.std.proofs.Common.{◌≡◌, ◌≢◌, ℕ, List, [], ◌∷◌, ◌++◌, true, false, refl, sym, ◌∙◌, Option, Some, None, map}
use Rattle.std.specs.Prelude.{Result, Ok, Err, IfOk, MatchResult, All, Contains, not, ◌==◌}
use Rattle.std.specs.List.{AllZip}
use Rattle.std.proofs.lemmas.List.{append-nil}
use Rattle.std.proofs.lemmas.List.Elements.{All-map, All-weaker, Contains-append_left, filter-append}
use Rattle.std.proofs.lemmas.List.Kept.{AllPairs-cons}
use Rattle.net_case.specs.declared.live_parts.NetBranch.{NetBranch}
use Rattle.net_paths.specs.declared.steps.Step.{Step}
use Rattle.net_paths.specs.declared.loops_of_tree.Member.{Member}
use Rattle.net_paths.specs.Chains.{start_of, AreJoined}
use Rattle.net_paths.specs.Detours.{others}
use Rattle.net_paths.specs.Searching.{IsIncidence, IsWayBack}
use Rattle.net_paths.specs.Loops.{is_lost, kept, nothing, in_tree, in_rest, members_of, IsLoop, HoldsTree}
use Rattle.net_paths.proofs.ChainLemmas.{joined_sym}

-- ---- lists side by side
zip-push : {A B : Type 0} (R : A → B → Type 0) (xs : List A) (ys : List B) (x : A) (y : B) → AllZip R xs ys → R x y → AllZip R (xs ++ x ∷ []) (ys ++ y ∷ [])
zip-push R [] [] x y h here = (here, tt)
zip-push R [] (z ∷ ys) x y h here = absurd h
zip-push R (z ∷ xs) [] x y h here = absurd h
zip-push R (w ∷ xs) (z ∷ ys) x y h here = (h.0, zip-push R xs ys x y h.1 here)

zip-weaker : {A B : Type 0} (R S : A → B → Type 0) → ((x : A) (y : B) → R x y → S x y) → (xs : List A) (ys : List B) → AllZip R xs ys → AllZip S xs ys
zip-weaker R S f [] [] h = tt
zip-weaker R S f [] (y ∷ ys) h = absurd h
zip-weaker R S f (x ∷ xs) [] h = absurd h
zip-weaker R S f (x ∷ xs) (y ∷ ys) h = (f x y h.0, zip-weaker R S f xs ys h.1)

-- ---- the branches that are kept
pub kept-lost : (lost : Option ℕ) (xs : List NetBranch) (b : NetBranch) → is_lost lost b ≡ true → kept lost (xs ++ b ∷ []) ≡ kept lost xs
kept-lost None xs b is = cc
kept-lost (Some row) xs b is = filter-append (λ (x : NetBranch). not (x.row == row)) xs (b ∷ []) ∙ rw is (append-nil (others row xs))

pub kept-other : (lost : Option ℕ) (xs : List NetBranch) (b : NetBranch) → is_lost lost b ≡ false → kept lost (xs ++ b ∷ []) ≡ kept lost xs ++ b ∷ []
kept-other None xs b is = refl
kept-other (Some row) xs b is = filter-append (λ (x : NetBranch). not (x.row == row)) xs (b ∷ []) ∙ rw is refl

-- ---- the tree and the loops
pub tree-none : (lost : Option ℕ) (places : ℕ) (lists : List (List Step)) → IsIncidence [] places lists → HoldsTree (kept lost []) places lists []
tree-none None places lists inc = record { loops_are = record { tree = []; rest = []; parts = nothing; loops_are = tt }; tree_is = inc }
tree-none (Some row) places lists inc = record { loops_are = record { tree = []; rest = []; parts = nothing; loops_are = tt }; tree_is = inc }

module _ (branches : List NetBranch) (places : ℕ) (lists : List (List Step)) (loops : List (List Member)) (holds : HoldsTree branches places lists loops) (b : NetBranch) where
  pub rest-more : (way : List Step) (made : List Member) → IsWayBack holds.loops_are.tree b.to b.from way → made ≡ members_of (record { branch = b; forward = true } ∷ way)
      → HoldsTree (branches ++ b ∷ []) places lists (loops ++ made ∷ [])
  rest-more way made back is = record {
    loops_are = record {
      tree = tree;
      rest = rest ++ b ∷ [];
      parts = in_rest branches tree rest b holds.loops_are.parts (joined_sym tree b.to b.from (record { steps = way; pass = back.pass; lead = back.lead }));
      loops_are = zip-push (IsLoop tree) rest loops b made holds.loops_are.loops_are closes;
    };
    tree_is = holds.tree_is;
  }
    where
      tree : List NetBranch
      tree = holds.loops_are.tree

      rest : List NetBranch
      rest = holds.loops_are.rest

      there : Step
      there = record { branch = b; forward = true }

      off : All (λ p. b.from ≢ p) (map start_of way)
      off = All-map (λ (p : ℕ). b.from ≢ p) start_of way (All-weaker (λ (s : Step). start_of s ≢ b.from) (λ (s : Step). b.from ≢ start_of s) (λ s ne e. ne (sym e)) way back.off_root)

      closes : IsLoop tree b made
      closes = record { back = way; pass = back.pass; lead = back.lead; apart = AllPairs-cons (λ p q. p ≢ q) b.from (map start_of way) off back.apart; members_are = is }

  pub tree-more : (after : List (List Step)) → ¬ AreJoined holds.loops_are.tree b.from b.to → IsIncidence (holds.loops_are.tree ++ b ∷ []) places after → HoldsTree (branches ++ b ∷ []) places after loops
  tree-more after apart inc = record {
    loops_are = record {
      tree = tree ++ b ∷ [];
      rest = rest;
      parts = in_tree branches tree rest b holds.loops_are.parts apart;
      loops_are = zip-weaker (IsLoop tree) (IsLoop (tree ++ b ∷ [])) more rest loops holds.loops_are.loops_are;
    };
    tree_is = inc;
  }
    where
      tree : List NetBranch
      tree = holds.loops_are.tree

      rest : List NetBranch
      rest = holds.loops_are.rest

      more : (x : NetBranch) (members : List Member) → IsLoop tree x members → IsLoop (tree ++ b ∷ []) x members
      more x members h = record {
        back = h.back;
        pass = All-weaker (λ (s : Step). Contains tree s.branch) (λ (s : Step). Contains (tree ++ b ∷ []) s.branch) (λ s c. Contains-append_left tree (b ∷ []) s.branch c) h.back h.pass;
        lead = h.lead;
        apart = h.apart;
        members_are = h.members_are;
      }

-- what holds at the end holds of an answer that is not an error
pub match_ok : {A E : Type 0} (r : Result A E) (P Q R : Type 0) → (P → Q) → MatchResult r (λ _. P) (λ _. R) → IfOk r (λ _. Q)
match_ok (Ok x) P Q R f h = f h
match_ok (Err e) P Q R f h = tt
