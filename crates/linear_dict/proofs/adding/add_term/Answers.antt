use Rattle.std.proofs.Common.{◌<◌, length, subst, ◌≡◌, ◌∙◌, ℕ, List, map, ap, sym, pos, get_or}
use Rattle.std.proofs.lemmas.Result.{IfOk-weaker}
use Rattle.linear_dict.specs.Adding.{IsInTable, IsPutAmong}
use Rattle.std.proofs.lemmas.List.{get_or-map}
use Rattle.std.proofs.lemmas.Result.{err_from_is_err_and, IfErr-weaker}
use Rattle.fraction_theory.specs.Fraction.{Fraction, whole}
use Rattle.fraction_theory.proofs.FieldLaws.{ring_ℚ}
use Rattle.linear_dict.specs.Causes.{MultipleShare, TermShare, of_basic, of_other}
use Rattle.linear_dict.specs.Tables.{cell}
use Rattle.linear_dict.proofs.CauseLemmas.{refused_as, refused_sum}
use Rattle.linear_dict.proofs.AddingLemmas.{sums_read, entry_added, multiple_added, nothing_added, zero_added}
use Rattle.linear_dict.proofs.adding.add_term.Goals as goal

pub returns-in-Row-clause-added : goal.returns-in-Row-clause-added
returns-in-Row-clause-added g c = λ f s.
    nothing_added g.N.Exact.value c.args.columns c.args.table.now c.args.entries.now c.args.variable c.args.sums.now.items f s c.in-Row.field-0 c.in-Row.is

pub returns-then-is_zero-clause-added : goal.returns-then-is_zero-clause-added
returns-then-is_zero-clause-added g c = λ f s.
    let value : g.row.N.Denot → Fraction = g.N.Exact.value in
    let entries : List g.row.N.Denot = c.args.entries.now in
    let hj : c.in-Column.j < length entries = subst (IsPutAmong (length entries)) c.in-Column.is c.requires.within.put in
    zero_added value c.args.columns c.args.table.now entries c.args.variable c.args.sums.now.items f s c.in-Column.j c.in-Column.is
    (get_or-map value entries c.in-Column.j c.index-entries-j.result (whole (pos 0)) hj ∙ sym (ap value c.index-entries-j.is) ∙ c.is_zero.ensures.0 c.if-is_zero.true)

pub returns-in-Row-place-clause-added : goal.returns-in-Row-place-clause-added
returns-in-Row-place-clause-added g c =
    let hj : c.in-Column.j < length c.args.entries.now = subst (IsPutAmong (length c.args.entries.now)) c.in-Column.is c.requires.within.put in
    IfOk-weaker c.add_multiple.result _ _ (λ x h f s.
    multiple_added g.N.Exact.value c.args.columns c.args.table.now c.args.entries.now c.args.variable c.add_multiple.new.sums.items f c.in-Column.j c.in-Row-place.r c.index-entries-j.result
    c.in-Column.is c.in-Row-place.is hj c.index-entries-j.is (h f s)) c.add_multiple.ensures.added

pub returns-in_ok-sum-in-Column-place-clause-added : goal.returns-in_ok-sum-in-Column-place-clause-added
returns-in_ok-sum-in-Column-place-clause-added g c = λ f s.
    let hj : c.in-Column.j < length c.args.entries.now = subst (IsPutAmong (length c.args.entries.now)) c.in-Column.is c.requires.within.put in
    let hk : c.in-Column-place.c < c.args.columns = subst (IsInTable (length c.args.table.now) c.args.columns) c.in-Column-place.is c.requires.within.place in
    entry_added g.N.Exact.value c.args.columns c.args.table.now c.args.entries.now c.args.variable c.args.sums.now.items f s c.in-Column.j c.in-Column-place.c
    c.index-entries-j.result c.index.result.now c.in_ok-sum-in-Column-place.sum c.in-Column.is c.in-Column-place.is hj hk c.index-entries-j.is c.index.ensures
    c.in_ok-sum-in-Column-place.ensures.exact

pub returns-in_err-sum-in-Column-place-clause-stops : goal.returns-in_err-sum-in-Column-place-clause-stops
returns-in_err-sum-in-Column-place-clause-stops g c =
    let value : g.row.N.Denot → Fraction = g.N.Exact.value in
    let entries : List g.row.N.Denot = c.args.entries.now in
    let entry = c.index-entries-j.result in
    let hj : c.in-Column.j < length entries = subst (IsPutAmong (length entries)) c.in-Column.is c.requires.within.put in
    let hk : c.in-Column-place.c < c.args.columns = subst (IsInTable (length c.args.table.now) c.args.columns) c.in-Column-place.is c.requires.within.place in
    let p = err_from_is_err_and c.from_residual.result c.from_residual.ensures.1 in
    rw (p.1, p.2) (λ f s.
    refused_sum value g.N.Exact.bound (TermShare value c.args.columns c.args.table.now entries c.args.variable f) c.index.result.now entry c.in_err-sum-in-Column-place.field-0.0
    (f c.in-Column-place.c) (get_or (map value entries) c.in-Column.j (whole (pos 0))) (whole (pos 1)) c.in_err-sum-in-Column-place.ensures
    (sums_read value c.args.sums.now.items c.args.columns f c.in-Column-place.c c.index.result.now s hk c.index.ensures)
    (ap value c.index-entries-j.is ∙ sym (get_or-map value entries c.in-Column.j entry (whole (pos 0)) hj) ∙ sym (ring_ℚ.times_one (get_or (map value entries) c.in-Column.j (whole (pos 0)))))
    (of_other c.in-Column.j c.in-Column-place.c c.in-Column.is c.in-Column-place.is))

pub returns-in-Row-place-clause-stops : goal.returns-in-Row-place-clause-stops
returns-in-Row-place-clause-stops g c =
    let value : g.row.N.Denot → Fraction = g.N.Exact.value in
    let entries : List g.row.N.Denot = c.args.entries.now in
    let entry = c.index-entries-j.result in
    let hj : c.in-Column.j < length entries = subst (IsPutAmong (length entries)) c.in-Column.is c.requires.within.put in
    let number : value entry ≡ get_or (map value entries) c.in-Column.j (whole (pos 0)) = ap value c.index-entries-j.is ∙ sym (get_or-map value entries c.in-Column.j entry (whole (pos 0)) hj) in
    let t : ℕ → Fraction = cell c.args.columns (map value c.args.table.now) c.in-Row-place.r in
    IfErr-weaker c.add_multiple.result _ _ (λ e h f s.
    refused_as value g.N.Exact.bound (MultipleShare c.args.columns f (value entry) t) (TermShare value c.args.columns c.args.table.now entries c.args.variable f) e
    (λ x a b o. of_basic c.in-Column.j c.in-Row-place.r x a b c.in-Column.is c.in-Row-place.is (subst (λ n. MultipleShare c.args.columns f n t x a b) number o))
    (h f s)) c.add_multiple.ensures.stops
