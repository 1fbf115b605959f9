-- Each list of branches has a tree, and each branch of the rest a way back through it from no place twice: it has loops.
use Rattle.std.specs.Prelude.{◌≢◌, ⊤, ℕ, List, [], ◌∷◌, ◌++◌, ◌⊎◌, map, All, AllPairs, Contains, true, refl}
use Rattle.std.specs.List.{AllZip}
use Rattle.std.proofs.Common.{arith, sym, ◌∙◌, subst, inl, inr, append_assoc, append-nil}
use Rattle.std.proofs.lemmas.List.Elements.{All-nil, All-cons, All-head, All-tail, All-map, All-weaker, All-push, Contains-append_left, Contains-push, Contains-push_cases}
use Rattle.std.proofs.lemmas.List.Kept.{AllPairs-cons}
use Rattle.fraction_theory.proofs.ListSums.{same_or_not}
use Rattle.net_case.specs.declared.live_parts.NetBranch.{NetBranch}
use Rattle.net_paths.specs.declared.steps.Step.{Step}
use Rattle.net_paths.specs.declared.loops_of_tree.Member.{Member}
use Rattle.net_paths.specs.Chains.{start_of, end_of, Lead, Pass, AreJoined}
use Rattle.net_paths.specs.Loops.{Parts, nothing, in_tree, in_rest, members_of, IsLoop, AreLoops}
use Rattle.net_paths.proofs.ChainLemmas.{joined_sym}
use Rattle.dc_network.proofs.Partitions.{joined_wider, joined_or_not}

-- ---- ways from no place twice
-- they begin at no place twice, and not at their end
abbrev IsStraight : List Step → ℕ → Type 0
IsStraight [] b = ⊤
IsStraight (s ∷ steps) b = All (λ t. start_of s ≢ start_of t) steps × (start_of s ≢ b) × IsStraight steps b

record IsWay (tree : List NetBranch) (a b : ℕ) (steps : List Step) : Type 0 where
  pass : Pass tree steps
  lead : Lead steps a b
  straight : IsStraight steps b

module _ (tree : List NetBranch) where
  abbrev HasWay : ℕ → ℕ → Type 0
  HasWay a b = (steps : List Step) × IsWay tree a b steps

  -- the way from a place on, where it passes that place
  cut : (steps : List Step) (a b c : ℕ) → IsWay tree c b steps → HasWay a b ⊎ All (λ t. a ≢ start_of t) steps
  cut [] a b c is = inr (All-nil (λ (t : Step). a ≢ start_of t))
  cut (t ∷ steps) a b c is = elim (same_or_not (start_of t) a) [
    | inl e ↦ inl (t ∷ steps, record { pass = is.pass; lead = (e, is.lead.1); straight = is.straight })
    | inr n ↦ elim (cut steps a b (end_of t) (record { pass = All-tail (λ (s : Step). Contains tree s.branch) t steps is.pass; lead = is.lead.1; straight = is.straight.2 })) [
      | inl way ↦ inl way
      | inr off ↦ inr (All-cons (λ (s : Step). a ≢ start_of s) t steps (λ e. n (sym e)) off)
    ]
  ]

  straightened : (steps : List Step) (a b : ℕ) → Pass tree steps → Lead steps a b → HasWay a b
  straightened [] a b pass lead = ([], record { pass = pass; lead = lead; straight = tt })
  straightened (s ∷ steps) a b pass lead =
      let rest = straightened steps (end_of s) b (All-tail (λ (t : Step). Contains tree t.branch) s steps pass) lead.1 in
      elim (same_or_not a b) [
        | inl e ↦ ([], record { pass = All-nil (λ (t : Step). Contains tree t.branch); lead = e; straight = tt })
        | inr n ↦ elim (cut rest.0 a b (end_of s) rest.1) [
          | inl way ↦ way
          | inr off ↦ (
            s ∷ rest.0,
            record {
              pass = All-cons (λ (t : Step). Contains tree t.branch) s rest.0 (All-head (λ (t : Step). Contains tree t.branch) s steps pass) rest.1.pass;
              lead = (lead.0, rest.1.lead);
              straight = (All-weaker (λ (t : Step). a ≢ start_of t) (λ (t : Step). start_of s ≢ start_of t) (λ t m e. m (sym lead.0 ∙ e)) rest.0 off, λ e. n (sym lead.0 ∙ e), rest.1.straight);
            },
          )
        ]
      ]

off_end : (steps : List Step) (b : ℕ) → IsStraight steps b → All (λ t. b ≢ start_of t) steps
off_end [] b h = All-nil (λ (t : Step). b ≢ start_of t)
off_end (s ∷ steps) b h = All-cons (λ (t : Step). b ≢ start_of t) s steps (λ e. h.1 (sym e)) (off_end steps b h.2)

apart_starts : (steps : List Step) (b : ℕ) → IsStraight steps b → AllPairs (λ p q. p ≢ q) (map start_of steps)
apart_starts [] b h = λ i j d lt within. absurd (Prim.omega arith)
apart_starts (s ∷ steps) b h =
    AllPairs-cons (λ p q. p ≢ q) (start_of s) (map start_of steps) (All-map (λ (p : ℕ). start_of s ≢ p) start_of steps h.0) (apart_starts steps b h.2)

-- ---- loops
-- where the tree joins the ends of a branch, it closes a loop
loop_of : (tree : List NetBranch) (b : NetBranch) → AreJoined tree b.from b.to → (members : List Member) × IsLoop tree b members
loop_of tree b h =
    let back = joined_sym tree b.from b.to h in
    let way = straightened tree back.steps b.to b.from back.pass back.lead in (
      members_of (record { branch = b; forward = true } ∷ way.0),
      record {
        back = way.0;
        pass = way.1.pass;
        lead = way.1.lead;
        apart = AllPairs-cons (λ p q. p ≢ q) b.from (map start_of way.0) (All-map (λ (p : ℕ). b.from ≢ p) start_of way.0 (off_end way.0 b.from way.1.straight))
            (apart_starts way.0 b.from way.1.straight);
        members_are = refl;
      },
    )

loops_of : (tree rest : List NetBranch) → All (λ b. AreJoined tree b.from b.to) rest → (loops : List (List Member)) × AllZip (IsLoop tree) rest loops
loops_of tree [] h = ([], tt)
loops_of tree (b ∷ rest) h =
    let first = loop_of tree b (All-head (λ (x : NetBranch). AreJoined tree x.from x.to) b rest h) in
    let more = loops_of tree rest (All-tail (λ (x : NetBranch). AreJoined tree x.from x.to) b rest h) in
    (first.0 ∷ more.0, (first.1, more.1))

-- ---- the tree and the rest
abbrev HasParts : List NetBranch → Type 0
HasParts branches = (tree : List NetBranch) × (rest : List NetBranch) × Parts branches tree rest

parts_from : (done tree rest : List NetBranch) → Parts done tree rest → (more : List NetBranch) → HasParts (done ++ more)
parts_from done tree rest parts [] = subst HasParts (sym (append-nil done)) (tree, rest, parts)
parts_from done tree rest parts (b ∷ more) = subst HasParts (append_assoc done (b ∷ []) more)
    (elim (joined_or_not tree b.from b.to) [
      | inl h ↦ parts_from (done ++ b ∷ []) tree (rest ++ b ∷ []) (in_rest done tree rest b parts h) more
      | inr n ↦ parts_from (done ++ b ∷ []) (tree ++ b ∷ []) rest (in_tree done tree rest b parts n) more
    ])

rest_joined : (branches tree rest : List NetBranch) → Parts branches tree rest → All (λ b. AreJoined tree b.from b.to) rest
rest_joined _ _ _ nothing = All-nil (λ (x : NetBranch). AreJoined [] x.from x.to)
rest_joined _ _ _ (in_tree branches tree rest b parts apart) =
    All-weaker (λ (x : NetBranch). AreJoined tree x.from x.to) (λ (x : NetBranch). AreJoined (tree ++ b ∷ []) x.from x.to)
    (λ x h. joined_wider tree (tree ++ b ∷ []) (λ l c. Contains-append_left tree (b ∷ []) l c) x.from x.to h) rest (rest_joined branches tree rest parts)
rest_joined _ _ _ (in_rest branches tree rest b parts joined) = All-push (λ (x : NetBranch). AreJoined tree x.from x.to) rest b (rest_joined branches tree rest parts) joined

pub loops_exist : (branches : List NetBranch) → (loops : List (List Member)) × AreLoops branches loops
loops_exist branches =
    let cut_up = parts_from [] [] [] nothing branches in
    let made = loops_of cut_up.0 cut_up.1 (rest_joined branches cut_up.0 cut_up.1 cut_up.2) in
    (made.0, record { tree = cut_up.0; rest = cut_up.1; parts = cut_up.2; loops_are = made.1 })

-- each branch is of the tree or of the rest
pub in_parts : (branches tree rest : List NetBranch) → Parts branches tree rest → (l : NetBranch) → Contains branches l → Contains tree l ⊎ Contains rest l
in_parts _ _ _ nothing l c = absurd (Prim.omega (arith, c.1))
in_parts _ _ _ (in_tree branches tree rest b parts apart) l c = elim (Contains-push_cases branches b l c) [
  | inl old ↦ elim (in_parts branches tree rest parts l old) [ inl k ↦ inl (Contains-append_left tree (b ∷ []) l k) | inr k ↦ inr k ]
  | inr e ↦ inl (subst (λ (x : NetBranch). Contains (tree ++ b ∷ []) x) e (Contains-push tree b))
]
in_parts _ _ _ (in_rest branches tree rest b parts joined) l c = elim (Contains-push_cases branches b l c) [
  | inl old ↦ elim (in_parts branches tree rest parts l old) [ inl k ↦ inl k | inr k ↦ inr (Contains-append_left rest (b ∷ []) l k) ]
  | inr e ↦ inr (subst (λ (x : NetBranch). Contains (rest ++ b ∷ []) x) e (Contains-push rest b))
]

-- and there are no others
pub from_parts : (branches tree rest : List NetBranch) → Parts branches tree rest → (l : NetBranch) → Contains tree l ⊎ Contains rest l → Contains branches l
from_parts _ _ _ nothing l c = elim c [ inl k ↦ k | inr k ↦ k ]
from_parts _ _ _ (in_tree branches tree rest b parts apart) l c = elim c [
  | inl k ↦ elim (Contains-push_cases tree b l k) [
    | inl old ↦ Contains-append_left branches (b ∷ []) l (from_parts branches tree rest parts l (inl old))
    | inr e ↦ subst (λ (x : NetBranch). Contains (branches ++ b ∷ []) x) e (Contains-push branches b)
  ]
  | inr k ↦ Contains-append_left branches (b ∷ []) l (from_parts branches tree rest parts l (inr k))
]
from_parts _ _ _ (in_rest branches tree rest b parts joined) l c = elim c [
  | inl k ↦ Contains-append_left branches (b ∷ []) l (from_parts branches tree rest parts l (inl k))
  | inr k ↦ elim (Contains-push_cases rest b l k) [
    | inl old ↦ Contains-append_left branches (b ∷ []) l (from_parts branches tree rest parts l (inr old))
    | inr e ↦ subst (λ (x : NetBranch). Contains (branches ++ b ∷ []) x) e (Contains-push branches b)
  ]
]
