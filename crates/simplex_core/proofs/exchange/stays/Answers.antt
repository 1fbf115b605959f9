use Rattle.std.proofs.Common.{◌≡◌, ◌≢◌, ◌∙◌, ℕ, pos, sym, subst, slice_index}
use mathlib.Core.Path.{ap₂}
use Rattle.std.specs.List.{Contains}
use Rattle.fraction_theory.specs.Fraction.{whole}
use Rattle.fraction_theory.specs.declared.Sign.TheVariants.{Zero}
use Rattle.fraction_theory.proofs.SignLaws.{sign_of_is}
use Rattle.linear_dict.specs.Dictionaries.{Dictionary, choice_of, entry_of}
use Rattle.linear_dict.proofs.NameLemmas.{place_in-at}
use Rattle.linear_dict.proofs.SplitLemmas.{Contains-at}
use Rattle.simplex_core.proofs.MoveLemmas.{unmoved}
use Rattle.simplex_core.proofs.exchange.stays.Goals as goal

pub returns-in-Zero : goal.returns-in-Zero
unfolding choice_of
returns-in-Zero g c = λ yes.
    let value = g.N.Exact.value in
    let d : Dictionary = c.args.dict.now in
    let name : ℕ = slice_index d.names c.args.rank in
    let s = c.args.step.now in
    let split = c.requires.sound.split in
    let other : Contains d.others name = subst (Contains d.others) c.in-Column.ensures.1 (Contains-at d.others c.in-Column.column c.in-Column.ensures.0) in
    let entry : value c.entry.result ≡ entry_of d s.entering name = c.entry.ensures.entry ∙ ap₂ (entry_of d) c.requires.entering c.in-Column.ensures.1 in
    let nil : value c.entry.result ≡ whole (pos 0) = sign_of_is (value c.entry.result) Zero (sym c.in-Zero.is ∙ c.sign.ensures) in
    let apart : name ≢ s.leaving = λ q. c.if-column-step.false
    (sym (place_in-at d.others c.in-Column.column name split.second_distinct c.in-Column.ensures.0 c.in-Column.ensures.1)
    ∙ place_in-at d.others s.column name split.second_distinct c.requires.column (c.requires.leaving ∙ sym q)) in
    unmoved d c.requires.sound s.leaving s.entering s.above (value s.bound) (value s.displacement) (value s.price) name other apart (sym entry ∙ nil)
