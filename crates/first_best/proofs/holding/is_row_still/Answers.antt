use Rattle.std.proofs.Common.{rules, ◌≡◌, ◌≢◌, ◌∙◌, ℕ, arith, ap, sym, pos, subst, slice_index, inl, inr}
use Rattle.std.proofs.lemmas.Bool.{cases_lt}
use Rattle.fraction_theory.specs.Fraction.{whole}
use Rattle.fraction_theory.specs.declared.Sign.TheVariants.{Zero}
use Rattle.fraction_theory.proofs.SignLaws.{sign_of_is}
use Rattle.linear_dict.specs.Dictionaries.{choice_of, system_in}
use Rattle.linear_dict.proofs.NameLemmas.{place_in-within}
use Rattle.linear_dict.specs.Places.{place_in}
use Rattle.optimal_face.specs.Faces.{IsStill}
use Rattle.first_best.specs.Holding.{held_by}
use Rattle.first_best.proofs.holding.is_row_still.Goals as goal

pub loop-column-preserved-in-Zero : goal.loop-column-preserved-in-Zero
loop-column-preserved-in-Zero g c = λ k l n. elim (cases_lt k c.loop-column.column) [
  | inl less ↦ c.loop-column.invariant k less n
  | inr past ↦
      let d = c.args.dict.now in
      let e : k ≡ c.loop-column.column = Prim.omega (arith, l, past) in
      absurd (n (ap (λ (i : ℕ). (choice_of d).entry (slice_index d.basics c.args.row) (slice_index d.others i)) e ∙ sym c.entry.ensures.entry
      ∙ sign_of_is (g.N.Exact.value c.entry.result) Zero (sym c.in-Zero.is ∙ c.sign.ensures)))
]

pub loop-column-preserved : goal.loop-column-preserved
loop-column-preserved g c = λ k l n. elim (cases_lt k c.loop-column.column) [
  | inl less ↦ c.loop-column.invariant k less n
  | inr past ↦
      let d = c.args.dict.now in
      let e : k ≡ c.loop-column.column = Prim.omega (arith, l, past) in
      subst (IsStill (system_in d) (held_by d.names c.args.held.now)) (c.rank_of.ensures.name ∙ c.others.ensures ∙ ap (slice_index d.others) (sym e)) (c.is_still.ensures (Prim.search rules))
]

pub returns : goal.returns
returns g c = λ _ w m n.
    let d = c.args.dict.now in
    let at = place_in-within d.others w m in
    subst (λ (i : ℕ). (choice_of d).entry (slice_index d.basics c.args.row) i ≢ whole (pos 0) → IsStill (system_in d) (held_by d.names c.args.held.now) i) at.1
    (c.loop-column.invariant (place_in d.others w) (Prim.omega (arith, at.0, c.loop-column-test.false, c.column_count-column-end.ensures))) n
