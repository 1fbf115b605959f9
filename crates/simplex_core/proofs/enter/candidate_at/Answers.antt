use Rattle.std.proofs.Common.{◌≡◌, ◌∙◌, ap, refl, sym, subst, subst₂, inl, inr, pos, ℕ, Bool, Ordering, slice_index}
use mathlib.Core.Path.{ap₂}
use Rattle.std.specs.List.{Contains}
use Rattle.std.specs.Ordering.{MatchOrdering}
use Rattle.std.proofs.lemmas.Result.{err_from_is_err_and}
use Rattle.fraction_theory.specs.declared.Sign.TheVariants.{Below, Zero, Above}
use Rattle.fraction_theory.specs.Fraction.{Fraction, whole, ◌*ℚ◌, neg_ℚ, recip_ℚ}
use Rattle.fraction_theory.specs.Order.{◌<ℚ◌}
use Rattle.fraction_theory.proofs.OrderLaws.{<ℚ_irrefl, <ℚ_trans}
use Rattle.fraction_theory.proofs.SignLaws.{sign_of_is}
use Rattle.exact_fraction.proofs.Shares.{product_refused}
use Rattle.linear_dict.specs.Dictionaries.{choice_of, note_of, system_in}
use Rattle.linear_dict.specs.Notes.{Noted, noted}
use Rattle.linear_dict.proofs.SplitLemmas.{Contains-at}
use Rattle.simplex_theory.specs.Steps.{opposite_if}
use Rattle.simplex_core.specs.States.{state_of}
use Rattle.simplex_core.proofs.Helping.{signed_same, signed_apart, size_of_signed, low_is, high_is, reduced_is, helps_is, helps_free, helps_towards, turned_nil}
use Rattle.simplex_core.proofs.Pairs.{ratio_pair}
use Rattle.simplex_core.proofs.enter.candidate_at.Goals as goal
use Rattle.simplex_core.proofs.enter.candidate_at.Goals.{then-leaving-note, else-leaving-note}
use Rattle.fraction_theory.specs.Signs.{abs_ℚ}

pub returns-in-Equal-clause-candidate : goal.returns-in-Equal-clause-candidate
returns-in-Equal-clause-candidate g c = λ h.
    let value = g.N.Exact.value in
    let name : ℕ = slice_index c.args.dict.now.names c.args.rank in
    let low : Fraction = value c.note_at-note.result.low in
    let high : Fraction = value c.note_at-note.result.high in
    let free : low <ℚ high = helps_free c.args.dict.now name (noted value c.note_at-note.result) c.note_at-note.ensures c.args.leaving.now.name c.args.leaving.now.above h in
    elim c.in-Equal.is [
      | inl e ↦ <ℚ_irrefl low (subst (λ (t : Fraction). low <ℚ t) (sym (subst (λ (o : Ordering). MatchOrdering o (low <ℚ high) (low ≡ high) (high <ℚ low)) e c.order.ensures)) free)
      | inr e ↦ <ℚ_irrefl low (<ℚ_trans low high low free (subst (λ (o : Ordering). MatchOrdering o (low <ℚ high) (low ≡ high) (high <ℚ low)) e c.order.ensures))
    ]

pub recip-requires : goal.recip-requires
recip-requires g c = λ e. <ℚ_irrefl (whole (pos 0)) (subst (λ (x : Fraction). whole (pos 0) <ℚ x) e (sign_of_is (g.N.Exact.value c.if-leaving-note.towards) Above c.in-Above.ensures))

pub returns-in_ok-times-in-Above-clause-candidate : goal.returns-in_ok-times-in-Above-clause-candidate
returns-in_ok-times-in-Above-clause-candidate g c =
    let value = g.N.Exact.value in
    let d = c.args.dict.now in
    let name : ℕ = slice_index d.names c.args.rank in
    let v = c.args.leaving.now.name in
    let a : Bool = c.args.leaving.now.above in
    let f : Bool = c.note_at-note.result.at_high in
    let n : Noted = noted value c.note_at-note.result in
    let e : Fraction = (choice_of d).entry v name in
    let entry : value c.entry-entry.result ≡ e = c.entry-entry.ensures.entry ∙ ap₂ (λ (x y : ℕ). (choice_of d).entry x y) c.requires.leaving c.requires.name in
    let t : Fraction = value c.if-leaving-note.towards in
    let turned : t ≡ opposite_if f (opposite_if a e) = elim c.if-leaving-note.branch [
      | then-leaving-note w ↦ ap value w.towards-is ∙ entry ∙ signed_same a f e w.if-leaving-note.true
      | else-leaving-note w ↦ ap value w.towards-is ∙ w.neg-towards.ensures ∙ ap neg_ℚ entry ∙ signed_apart a f e w.if-leaving-note.false
    ] in
    let above : whole (pos 0) <ℚ t = sign_of_is t Above c.in-Above.ensures in
    let is : name ≡ c.ranked.result = sym c.ranked.ensures in
    let price = c.size.ensures ∙ ap abs_ℚ (reduced_is d name n c.note_at-note.ensures) ∙ ap (λ (x : ℕ). abs_ℚ ((state_of d).reduced x)) is in
    let size = size_of_signed a f e t turned above ∙ ap (λ (x : ℕ). abs_ℚ ((choice_of d).entry v x)) is in (
      c.ranked.ensures,
      helps_is d name n c.note_at-note.ensures v a c.requires.sound (subst (Contains d.others) c.requires.name (Contains-at d.others c.args.column c.requires.column)) c.in-Less.ensures
          (subst (λ (x : Fraction). whole (pos 0) <ℚ x) turned above),
      record {
        within = c.requires.column;
        place = c.requires.name ∙ is;
        ratio = c.in_ok-times-in-Above.ensures.exact ∙ ap₂ (λ (x y : Fraction). x *ℚ y) price (c.recip.ensures ∙ ap recip_ℚ size);
      },
    )

pub returns-in_err-times-in-Above-clause-pair : goal.returns-in_err-times-in-Above-clause-pair
returns-in_err-times-in-Above-clause-pair g c =
    let value = g.N.Exact.value in
    let d = c.args.dict.now in
    let name : ℕ = slice_index d.names c.args.rank in
    let v = c.args.leaving.now.name in
    let a : Bool = c.args.leaving.now.above in
    let f : Bool = c.note_at-note.result.at_high in
    let e : Fraction = (choice_of d).entry v name in
    let entry : value c.entry-entry.result ≡ e = c.entry-entry.ensures.entry ∙ ap₂ (λ (x y : ℕ). (choice_of d).entry x y) c.requires.leaving c.requires.name in
    let t : Fraction = value c.if-leaving-note.towards in
    let turned : t ≡ opposite_if f (opposite_if a e) = elim c.if-leaving-note.branch [
      | then-leaving-note w ↦ ap value w.towards-is ∙ entry ∙ signed_same a f e w.if-leaving-note.true
      | else-leaving-note w ↦ ap value w.towards-is ∙ w.neg-towards.ensures ∙ ap neg_ℚ entry ∙ signed_apart a f e w.if-leaving-note.false
    ] in
    let above : whole (pos 0) <ℚ t = sign_of_is t Above c.in-Above.ensures in
    let basic : Contains d.basics v = subst (Contains d.basics) c.requires.leaving (Contains-at d.basics c.args.leaving.now.row c.requires.row) in
    let other : Contains d.others name = subst (Contains d.others) c.requires.name (Contains-at d.others c.args.column c.requires.column) in
    let low : value c.note_at-note.result.low ≡ (system_in d).low name = low_is d name (noted value c.note_at-note.result) c.note_at-note.ensures in
    let high : value c.note_at-note.result.high ≡ (system_in d).high name = high_is d name (noted value c.note_at-note.result) c.note_at-note.ensures in
    let r = c.in_err-times-in-Above.field-0.0 in
    let p = err_from_is_err_and c.from_residual.result c.from_residual.ensures.1 in
    rw (p.1, p.2)
    (ratio_pair d c.requires.ready g.N.Exact.bound v name t basic other (subst₂ ◌<ℚ◌ low high c.in-Less.ensures) above (size_of_signed a f e t turned above) r.op (value r.left) (value r.right)
    (product_refused value g.N.Exact.bound c.size.result c.recip.result r (abs_ℚ (note_of d name).reduced) (recip_ℚ t) c.in_err-times-in-Above.ensures
    (c.size.ensures ∙ ap (λ (n : Noted). abs_ℚ n.reduced) c.note_at-note.ensures) c.recip.ensures))

pub returns-in-Below-sign-clause-candidate : goal.returns-in-Below-sign-clause-candidate
returns-in-Below-sign-clause-candidate g c = λ h.
    let value = g.N.Exact.value in
    let d = c.args.dict.now in
    let name : ℕ = slice_index d.names c.args.rank in
    let v = c.args.leaving.now.name in
    let a : Bool = c.args.leaving.now.above in
    let f : Bool = c.note_at-note.result.at_high in
    let n : Noted = noted value c.note_at-note.result in
    let e : Fraction = (choice_of d).entry v name in
    let entry : value c.entry-entry.result ≡ e = c.entry-entry.ensures.entry ∙ ap₂ (λ (x y : ℕ). (choice_of d).entry x y) c.requires.leaving c.requires.name in
    let t : Fraction = value c.if-leaving-note.towards in
    let turned : t ≡ opposite_if f (opposite_if a e) = elim c.if-leaving-note.branch [
      | then-leaving-note w ↦ ap value w.towards-is ∙ entry ∙ signed_same a f e w.if-leaving-note.true
      | else-leaving-note w ↦ ap value w.towards-is ∙ w.neg-towards.ensures ∙ ap neg_ℚ entry ∙ signed_apart a f e w.if-leaving-note.false
    ] in
    let above : whole (pos 0) <ℚ t = subst (λ (x : Fraction). whole (pos 0) <ℚ x) (sym turned) (helps_towards d name n c.note_at-note.ensures v a h) in
    elim c.in-Below-sign.is [
      | inl q ↦ <ℚ_irrefl t (<ℚ_trans t (whole (pos 0)) t (sign_of_is t Below (sym q ∙ c.sign-2.ensures)) above)
      | inr q ↦ <ℚ_irrefl (whole (pos 0)) (subst (λ (x : Fraction). whole (pos 0) <ℚ x) (sign_of_is t Zero (sym q ∙ c.sign-2.ensures)) above)
    ]

-- an entry of 0 helps no way
pub returns-in-Zero-clause-candidate : goal.returns-in-Zero-clause-candidate
returns-in-Zero-clause-candidate g c = λ h.
    let value = g.N.Exact.value in
    let d = c.args.dict.now in
    let name : ℕ = slice_index d.names c.args.rank in
    let v = c.args.leaving.now.name in
    let a : Bool = c.args.leaving.now.above in
    let n : Noted = note_of d name in
    let e : Fraction = (choice_of d).entry v name in
    let entry : value c.entry-entry.result ≡ e = c.entry-entry.ensures.entry ∙ ap₂ (λ (x y : ℕ). (choice_of d).entry x y) c.requires.leaving c.requires.name in
    let nil : e ≡ whole (pos 0) = sym entry ∙ sign_of_is (value c.entry-entry.result) Zero (sym c.in-Zero.is ∙ c.sign.ensures) in
    <ℚ_irrefl (whole (pos 0)) (subst (λ (x : Fraction). whole (pos 0) <ℚ x) (ap (λ (x : Fraction). opposite_if n.at_high (opposite_if a x)) nil ∙ turned_nil n.at_high a) (helps_towards d name n refl v a h))
