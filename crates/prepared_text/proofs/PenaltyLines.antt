-- The lines of a branch's limits.
use Rattle.std.proofs.Common.{◌≡◌, ℕ, Bool, true, false, List, [], ◌∷◌, ◌++◌, refl, sym, ap, ◌∙◌, append-nil, append_assoc}
use Rattle.std.specs.Prelude.{if◌then◌else◌, is_some, map}
use Rattle.std.specs.List.{flat_map}
use Rattle.net_case.specs.declared.live_parts.NetBranch.{NetBranch}
use Rattle.factor_tables.specs.declared.penalty_list.Softness.{Softness}
use Rattle.prepared_text.specs.PenaltyText.{branch_lines, penalty_line}

-- a line that is written where there is a limit
pub line-there : (has : Bool) (line before after : List ℕ) → has ≡ true → after ≡ before ++ line → after ≡ before ++ (if has then line else [])
line-there has line before after is more = more ∙ ap (λ (t : Bool). before ++ (if t then line else [])) (sym is)

pub line-none : (has : Bool) (line before after : List ℕ) → has ≡ false → after ≡ before → after ≡ before ++ (if has then line else [])
line-none has line before after is same = same ∙ (sym (append-nil before) ∙ ap (λ (t : Bool). before ++ (if t then line else [])) (sym is))

module _ (softness : Softness) (branch : NetBranch) where
  abbrev line_of : Bool → List ℕ
  line_of post = penalty_line ((branch.row, post), softness)

  lines-are : branch_lines softness branch ≡ (if is_some branch.base then line_of false else []) ++ (if is_some branch.post then line_of true else [])
  unfolding branch_lines
  lines-are = by (is_some branch.base) (is_some branch.post)
    where
      by : (base post : Bool) → flat_map penalty_line (map (λ limit. (limit, softness)) (map (λ kind. (branch.row, kind)) (if base then false ∷ (if post then true ∷ [] else []) else (if post then true ∷ [] else []))))
          ≡ (if base then line_of false else []) ++ (if post then line_of true else [])
      by true true = ap (λ t. line_of false ++ t) (append-nil (line_of true))
      by true false = refl
      by false true = append-nil (line_of true)
      by false false = refl

  -- the lines of both limits, one behind the other
  pub both-lines : (before middle after : List ℕ) → middle ≡ before ++ (if is_some branch.base then line_of false else []) → after ≡ middle ++ (if is_some branch.post then line_of true else [])
      → after ≡ before ++ branch_lines softness branch
  both-lines before middle after first second =
      second ∙ (ap (λ t. t ++ (if is_some branch.post then line_of true else [])) first
      ∙ (append_assoc before (if is_some branch.base then line_of false else []) (if is_some branch.post then line_of true else []) ∙ ap (λ t. before ++ t) (sym lines-are)))
