-- The places that branches join fall into parts, so that of any two it can be told whether they are joined.
use Rattle.std.specs.Prelude.{◌≡◌, ℕ, List, [], ◌∷◌, ◌⊎◌, Contains, Bool, true, false, if◌then◌else◌, refl}
use Rattle.std.proofs.Common.{arith, ap, sym, ◌∙◌, subst, inl, inr}
use Rattle.std.proofs.lemmas.List.Elements.{All-weaker}
use Rattle.fraction_theory.proofs.ListSums.{Contains-head, Contains-cons, Contains-cases, put_at, put_at-here, put_at-elsewhere, same_or_not}
use Rattle.net_case.specs.declared.live_parts.NetBranch.{NetBranch}
use Rattle.net_paths.specs.declared.steps.Step.{Step}
use Rattle.net_paths.specs.Chains.{start_of, end_of, AreJoined}
use Rattle.net_paths.proofs.ChainLemmas.{joined_itself, joined_sym, joined_trans, joined_step, kept_along}

-- branches within these are chains within those
pub joined_wider : (few many : List NetBranch) → ((l : NetBranch) → Contains few l → Contains many l) → (a b : ℕ) → AreJoined few a b → AreJoined many a b
joined_wider few many wider a b h = record {
  steps = h.steps;
  pass = All-weaker (λ (s : Step). Contains few s.branch) (λ (s : Step). Contains many s.branch) (λ s. wider s.branch) h.steps h.pass;
  lead = h.lead;
}

-- what is the same at both ends of a branch is the same at both ends of a step along it
pub same_over : {T : Type 0} (value : ℕ → T) (s : Step) → value s.branch.from ≡ value s.branch.to → value (start_of s) ≡ value (end_of s)
same_over {T} value s e = by s.forward
  where
    by : (f : Bool) → value (if f then s.branch.from else s.branch.to) ≡ value (if f then s.branch.to else s.branch.from)
    by true = e
    by false = sym e

-- no branch leaves a part, and all places of a part are joined
pub record IsPartition (branches : List NetBranch) (part : ℕ → ℕ) : Type 0 where
  pub along : (l : NetBranch) → Contains branches l → part l.from ≡ part l.to
  pub joined : (p q : ℕ) → part p ≡ part q → AreJoined branches p q

pub joined_same : (branches : List NetBranch) (part : ℕ → ℕ) → IsPartition branches part → (p q : ℕ) → AreJoined branches p q → part p ≡ part q
joined_same branches part is p q h =
    kept_along branches (λ (r : ℕ). part p ≡ part r) (λ s c e. e ∙ same_over part s (is.along s.branch c)) h.steps p q h.pass h.lead refl

-- the part of T_BUS of a branch more becomes that of its F_BUS
module _ (b : NetBranch) (branches : List NetBranch) (part : ℕ → ℕ) (is : IsPartition branches part) where
  abbrev all : List NetBranch
  all = b ∷ branches

  abbrev one : ℕ → ℕ
  one v = put_at (part b.to) (part b.from) (λ (p : ℕ). p) (part v)

  still : (p q : ℕ) → AreJoined branches p q → AreJoined all p q
  still p q h = joined_wider branches all (λ l c. Contains-cons b branches l c) p q h

  back : AreJoined all b.to b.from
  back = joined_sym all b.from b.to (joined_step all (record { branch = b; forward = true }) (Contains-head b branches))

  -- the part of a place is that which a place that is joined to it had
  leader : (v : ℕ) → (w : ℕ) × (one v ≡ part w) × AreJoined all v w
  leader v = elim (same_or_not (part v) (part b.to)) [
    | inl e ↦ (b.from, put_at-here (part b.to) (part b.from) (λ (p : ℕ). p) (part v) e, joined_trans all v b.to b.from (still v b.to (is.joined v b.to e)) back)
    | inr n ↦ (v, put_at-elsewhere (part b.to) (part b.from) (λ (p : ℕ). p) (part v) n, joined_itself all v)
  ]

  ends : one b.from ≡ one b.to
  ends = from ∙ sym (put_at-here (part b.to) (part b.from) (λ (p : ℕ). p) (part b.to) refl)
    where
      from : one b.from ≡ part b.from
      from = elim (same_or_not (part b.from) (part b.to)) [
        | inl e ↦ put_at-here (part b.to) (part b.from) (λ (p : ℕ). p) (part b.from) e
        | inr n ↦ put_at-elsewhere (part b.to) (part b.from) (λ (p : ℕ). p) (part b.from) n
      ]

  one_more : IsPartition all one
  one_more = record {
    along = λ l c. elim (Contains-cases b branches l c) [
      | inl e ↦ subst (λ (x : NetBranch). one x.from ≡ one x.to) e ends
      | inr k ↦ ap (λ (p : ℕ). put_at (part b.to) (part b.from) (λ (q : ℕ). q) p) (is.along l k)
    ];
    joined = λ p q e.
        let first = leader p in
        let second = leader q in
        joined_trans all p first.0 q first.2
        (joined_trans all first.0 second.0 q (still first.0 second.0 (is.joined first.0 second.0 (sym first.1 ∙ e ∙ second.1))) (joined_sym all q second.0 second.2));
  }

pub partition_of : (branches : List NetBranch) → (part : ℕ → ℕ) × IsPartition branches part
partition_of [] = (
  λ v. v,
  record { along = λ l c. absurd (Prim.omega (arith, c.1)); joined = λ p q e. subst (λ (r : ℕ). AreJoined [] p r) e (joined_itself [] p) },
)
partition_of (b ∷ branches) = let r = partition_of branches in (one b branches r.0 r.1, one_more b branches r.0 r.1)

pub joined_or_not : (branches : List NetBranch) (p q : ℕ) → AreJoined branches p q ⊎ (¬ AreJoined branches p q)
joined_or_not branches p q =
    let r = partition_of branches in
    elim (same_or_not (r.0 p) (r.0 q)) [ inl e ↦ inl (r.1.joined p q e) | inr n ↦ inr (λ h. n (joined_same branches r.0 r.1 p q h)) ]
