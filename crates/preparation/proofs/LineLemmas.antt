-- Texts that are put behind another, and how many branches are limited.
use Rattle.std.proofs.Common.{◌≡◌, ◌<◌, ◌≤◌, ◌+◌, ◌++◌, ◌∙◌, ℕ, List, Bool, true, false, length, subst, sym, ap, arith, append_assoc, [], codes, cond, rules, tests}
use Rattle.std.specs.Prelude.{◌==◌, ◌≢◌}
use Rattle.std.specs.List.{filter}
use Rattle.std.specs.Prelude.{is_some}
use Rattle.std.proofs.lemmas.List.Sums.{length-filter, count_by-le-length}
use Rattle.net_case.specs.declared.live_parts.NetBranch.{NetBranch}
use Rattle.factor_tables.specs.Penalties.{branch_limit}
use Rattle.net_case.specs.declared.live_parts.PostRating.{PostRating}
use Rattle.preparation.specs.Lines.{limited, limiting_line, rating_letter, share_text}

limited-within : (post : Bool) (branches : List NetBranch) → limited post branches ≤ length branches
limited-within post branches =
    subst (λ n. n ≤ length branches) (sym (length-filter (λ branch. is_some (branch_limit post branch)) branches)) (count_by-le-length (λ branch. is_some (branch_limit post branch)) branches)

-- twice the most branches are counted
pub limited-few : (branches : List NetBranch) (a b : ℕ) → length branches ≤ 2000 → a ≡ limited false branches → b ≡ limited true branches → a + b < 18446744073709551616
limited-few branches a b few ea eb = omega (arith, few, ea, eb, limited-within false branches, limited-within true branches)

-- a text behind another, which is put behind a third
pub join : (t0 t1 t2 a r : List ℕ) → t1 ≡ t0 ++ a → t2 ≡ t1 ++ r → t2 ≡ t0 ++ (a ++ r)
join t0 t1 t2 a r e f = f ∙ ap (λ t. t ++ r) e ∙ append_assoc t0 a r

-- a rating that would limit some
pub limiting-some : (r : PostRating) (count total : ℕ) → count ≢ 0 → limiting_line r count total ≡ codes "post-rating " ++ (rating_letter r ++ (codes " " ++ share_text count total))
limiting-some r count total h = ap (λ test. cond test [] (codes "post-rating " ++ (rating_letter r ++ (codes " " ++ share_text count total)))) (is-not count h) where
  is-not : (n : ℕ) → n ≢ 0 → (n == 0) ≡ false
  is-not n h = search (rules, tests)
