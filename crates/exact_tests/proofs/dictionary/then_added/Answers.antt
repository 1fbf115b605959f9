use Rattle.std.proofs.Common.{◌≡◌, ◌≢◌, ◌*◌, ◌∙◌, [], ℕ, List, zero, suc, arith, ap, sym, subst, length, get_or, inl, inr}
use Rattle.std.specs.List.{Contains}
use Rattle.std.proofs.lemmas.Grind.{get_or_default_zero}
use Rattle.std.proofs.lemmas.List.{length-map}
use Rattle.fraction_theory.specs.Fraction.{Fraction}
use Rattle.fraction_theory.proofs.ListSums.{Contains-cases}
use Rattle.fraction_theory.proofs.SignLaws.{not_nil_by_sign}
use Rattle.linear_dict.specs.Dictionaries.{Dictionary, IsStart, pivoted}
use Rattle.exact_tests.proofs.dictionary.then_added.Goals as goal

one_row : {N : Type 0} {value : N → Fraction} {names : List ℕ} {row : ℕ} {entries : List N} {d : Dictionary} → IsStart value names row entries d → length d.basics ≡ 1
one_row s = ap length s.basics

two_columns : {N : Type 0} {value : N → Fraction} {names : List ℕ} {row : ℕ} {entries : List N} {d : Dictionary} → IsStart value names row entries d → length entries ≡ 2 → length d.others ≡ 2
two_columns {value = value} {entries = entries} {d = d} s e =
    let t : length d.table ≡ length entries = ap length s.table ∙ length-map entries value in
    let one : length d.basics * length d.others ≡ 1 * length d.others = ap (λ (k : ℕ). k * length d.others) (one_row s) in
    Prim.omega (arith, t, e, s.sound.table_count, one)

new_name : {N : Type 0} {value : N → Fraction} {names : List ℕ} {row : ℕ} {entries : List N} {d : Dictionary} → IsStart value names row entries d → length names ≡ 2 → (w : ℕ) → w ≢ row → w ≢ get_or names 0 0 → w ≢ get_or names 1 0 → ¬ (Contains d.names w)
new_name {names = names} {row = row} s l w a b c m = elim (s.sound.put_in.either w m) [
  | inl k ↦ elim (Contains-cases row [] w (subst (λ (xs : List ℕ). Contains xs w) s.rows k)) [ inl e ↦ a (sym e) | inr n ↦ Prim.omega (arith, n.1) ]
  | inr k ↦ column (subst (λ (xs : List ℕ). Contains xs w) s.columns k)
]
  where
    column : Contains names w → ⊥
    column (zero, h, e) = b (sym e ∙ get_or_default_zero names 0 w h)
    column (suc zero, h, e) = c (sym e ∙ get_or_default_zero names 1 w h)
    column (suc (suc k), h, e) = Prim.omega (arith, h, l)

pub entry-requires-clause-row : goal.entry-requires-clause-row
entry-requires-clause-row g c = Prim.omega (arith, one_row c.in-Ok.ensures)

pub entry-requires-clause-column : goal.entry-requires-clause-column
entry-requires-clause-column g c = Prim.omega (arith, two_columns c.in-Ok.ensures (ap length c.deref.ensures.value ∙ c.in_ok-entries.ensures))

pub pivot-requires : goal.pivot-requires
pivot-requires g c = record {
  live = c.in-Ok.ensures.live;
  row = Prim.omega (arith, one_row c.in-Ok.ensures);
  column = Prim.omega (arith, two_columns c.in-Ok.ensures (ap length c.deref.ensures.value ∙ c.in_ok-entries.ensures));
  entry = λ z. not_nil_by_sign (g.N.Exact.value c.entry.result) c.sign.result c.sign.ensures c.in_default.not-Zero (c.entry.ensures.value ∙ z);
}

pub add_row-added-requires : goal.add_row-added-requires
unfolding pivoted
add_row-added-requires g c =
    let s = c.in-Ok.ensures in
    let after = c.in-Ok-pivot.ensures.pivoted in
    let l : length c.args.names ≡ 2 = sym (ap length s.others) ∙ two_columns s (ap length c.deref.ensures.value ∙ c.in_ok-entries.ensures) in record {
      live = ap (λ (d : Dictionary). d.spent) after ∙ s.live;
      absent = λ m. new_name s l (get_or c.args.rows 1 0) c.if-rows.false c.if-rows-names.false c.if-rows-names-2.false (subst (λ (d : Dictionary). Contains d.names (get_or c.args.rows 1 0)) after m);
      entries = ap length c.deref-2.ensures.value ∙ c.in_ok-more.ensures ∙ sym (ap (λ (d : Dictionary). length d.columns) after ∙ ap length s.columns ∙ l);
    }
