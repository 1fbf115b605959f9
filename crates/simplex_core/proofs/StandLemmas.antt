-- Notes at the asked bound and with their values.
use Rattle.std.specs.Prelude.{◌≡◌, ℕ, pos, Bool, true, false, List, if◌then◌else◌, refl}
use Rattle.std.specs.List.{Contains}
use Rattle.std.proofs.Common.{ap, ◌∙◌}
use Rattle.fraction_theory.specs.Fraction.{Fraction, whole}
use Rattle.fraction_theory.specs.Order.{◌≤ℚ◌}
use Rattle.fraction_theory.specs.Signs.{sign_of}
use Rattle.fraction_theory.specs.declared.Sign.{Sign}
use Rattle.fraction_theory.specs.declared.Sign.TheVariants.{Below, Zero, Above}
use Rattle.fraction_theory.proofs.OrderLaws.{<ℚ-≤ℚ, ≤ℚ_of_same}
use Rattle.fraction_theory.proofs.SignLaws.{IsSign, sign_of_is}
use Rattle.linear_system.specs.Systems.{System}
use Rattle.linear_system.specs.Choices.{Choice, column_entry, reduced, reduced_terms, value}
use Rattle.linear_dict.specs.Dictionaries.{Dictionary, IsDictionary, system_in, choice_of, entry_of, note_of}
use Rattle.linear_dict.specs.Notes.{Noted, noted}
use Rattle.linear_dict.specs.Places.{is_among}
use Rattle.linear_dict.specs.declared.note.Note.{Note}
use Rattle.linear_dict.proofs.NameLemmas.{among-tells, among-not}
use Rattle.simplex_core.specs.Posings.{asks_high, at_asked, value_note}
use Rattle.simplex_core.proofs.NoteLaws.{funext}

-- what a sign asks for
pub asks_not : (s : Sign) → ¬ (s ≡ Above) → false ≡ asks_high s
asks_not Below n = refl
asks_not Zero n = refl
asks_not Above n = absurd (n refl)

pub asked_low : (x : Fraction) → asks_high (sign_of x) ≡ false → x ≤ℚ whole (pos 0)
asked_low x e = by (sign_of x) (sign_of_is x (sign_of x) refl) e
  where
    by : (s : Sign) → IsSign s x → asks_high s ≡ false → x ≤ℚ whole (pos 0)
    by Below p e = <ℚ-≤ℚ x (whole (pos 0)) p
    by Zero p e = ≤ℚ_of_same x (whole (pos 0)) p
    by Above p e = absurd Prim.cc

pub asked_high : (x : Fraction) → asks_high (sign_of x) ≡ true → whole (pos 0) ≤ℚ x
asked_high x e = by (sign_of x) (sign_of_is x (sign_of x) refl) e
  where
    by : (s : Sign) → IsSign s x → asks_high s ≡ true → whole (pos 0) ≤ℚ x
    by Below p e = absurd Prim.cc
    by Zero p e = absurd Prim.cc
    by Above p e = <ℚ-≤ℚ (whole (pos 0)) x p

-- the note that the code makes at the asked bound
pub asked_is : {N : Type 0} (value : N → Fraction) (m : Noted) (n : Note N) (r v : N) (up : Bool) (price : Fraction) → noted value n ≡ m → value r ≡ price → up ≡ asks_high (sign_of (value r)) → v ≡ (if up then n.high else n.low)
    → ◌≡◌ {A = Noted} (record { price = value n.price; low = value n.low; high = value n.high; value = value v; reduced = value r; at_high = up }) (at_asked m price (asks_high (sign_of price)))
asked_is value m n r v up price is er eu ev =
    ap (λ (x : Fraction). let y : Noted = record { price = value n.price; low = value n.low; high = value n.high; value = x; reduced = value r; at_high = up } in y) (ap value ev ∙ by up)
    ∙ ap (λ (y : Noted). at_asked y (value r) up) is
    ∙ ap (at_asked m (value r)) eu
    ∙ ap (λ x. at_asked m x (asks_high (sign_of x))) er
  where
    by : (b : Bool) → value (if b then n.high else n.low) ≡ (if b then value n.high else value n.low)
    by true = refl
    by false = refl

-- an other variable's note with its reduced price, at the bound that this asks for
unfoldable pub stand_note : Dictionary → ℕ → Noted
stand_note d w =
    if (choice_of d).basic w then note_of d w
    else at_asked (note_of d w) (reduced (system_in d) (choice_of d) w) (asks_high (sign_of (reduced (system_in d) (choice_of d) w)))

module _ (d : Dictionary) (h : IsDictionary d) (w : ℕ) where
  pub choice_basic : Contains d.basics w → (choice_of d).basic w ≡ true
  unfolding choice_of
  choice_basic c = among-tells d.basics w c

  pub choice_other : Contains d.others w → (choice_of d).basic w ≡ false
  unfolding choice_of
  choice_other c = among-not d.basics w (λ m. h.split.apart w m c)

  abbrev asked : Noted
  asked = at_asked (note_of d w) (reduced (system_in d) (choice_of d) w) (asks_high (sign_of (reduced (system_in d) (choice_of d) w)))

  pub stand-basic : Contains d.basics w → stand_note d w ≡ note_of d w
  unfolding stand_note
  stand-basic c = ap (λ (b : Bool). if b then note_of d w else asked) (choice_basic c)

  pub stand-other : Contains d.others w → stand_note d w ≡ at_asked (note_of d w) (reduced (system_in d) (choice_of d) w) (asks_high (sign_of (reduced (system_in d) (choice_of d) w)))
  unfolding stand_note
  stand-other c = ap (λ (b : Bool). if b then note_of d w else asked) (choice_other c)

  pub value-basic : Contains d.basics w → value_note d w ≡ record (note_of d w) { value = value (system_in d) (choice_of d) w }
  unfolding value_note
  value-basic c = ap (λ (b : Bool). if b then record (note_of d w) { value = value (system_in d) (choice_of d) w } else note_of d w) (choice_basic c)

  pub value-other : Contains d.others w → value_note d w ≡ note_of d w
  unfolding value_note
  value-other c = ap (λ (b : Bool). if b then record (note_of d w) { value = value (system_in d) (choice_of d) w } else note_of d w) (choice_other c)

-- what the two kinds of note keep
kept_by : {X : Type 0} (p : Noted → X) (b : Bool) (x y : Noted) (z : X) → p x ≡ z → p y ≡ z → p (if b then x else y) ≡ z
kept_by p true x y z e f = e
kept_by p false x y z e f = f

module _ (d : Dictionary) (w : ℕ) where
  pub stand-price : (stand_note d w).price ≡ (note_of d w).price
  unfolding stand_note
  stand-price = kept_by Noted.price ((choice_of d).basic w) _ _ _ refl refl

  pub stand-low : (stand_note d w).low ≡ (note_of d w).low
  unfolding stand_note
  stand-low = kept_by Noted.low ((choice_of d).basic w) _ _ _ refl refl

  pub stand-high : (stand_note d w).high ≡ (note_of d w).high
  unfolding stand_note
  stand-high = kept_by Noted.high ((choice_of d).basic w) _ _ _ refl refl

  pub value-price : (value_note d w).price ≡ (note_of d w).price
  unfolding value_note
  value-price = kept_by Noted.price ((choice_of d).basic w) _ _ _ refl refl

  pub value-low : (value_note d w).low ≡ (note_of d w).low
  unfolding value_note
  value-low = kept_by Noted.low ((choice_of d).basic w) _ _ _ refl refl

  pub value-high : (value_note d w).high ≡ (note_of d w).high
  unfolding value_note
  value-high = kept_by Noted.high ((choice_of d).basic w) _ _ _ refl refl

  pub value-reduced : (value_note d w).reduced ≡ (note_of d w).reduced
  unfolding value_note
  value-reduced = kept_by Noted.reduced ((choice_of d).basic w) _ _ _ refl refl

  pub value-flag : (value_note d w).at_high ≡ (note_of d w).at_high
  unfolding value_note
  value-flag = kept_by Noted.at_high ((choice_of d).basic w) _ _ _ refl refl

-- the same basic variables and entries have the same reduced prices, whatever bounds the others stand at
pub reduced_frame : (s : System) (d : Dictionary) (ns : List Noted) (w : ℕ) → reduced s (choice_of (record d { notes = ns })) w ≡ reduced s (choice_of d) w
unfolding reduced reduced_terms column_entry choice_of entry_of
reduced_frame s d ns w = refl

-- the same bounds are the same choice
pub choice_stays : (d : Dictionary) (ns : List Noted) → ((w : ℕ) → (note_of (record d { notes = ns }) w).at_high ≡ (note_of d w).at_high) → choice_of (record d { notes = ns }) ≡ choice_of d
unfolding choice_of entry_of
choice_stays d ns same = ap (λ (f : ℕ → Bool). let c : Choice = record { basic = is_among d.basics; high = f; entry = entry_of d } in c) (funext (λ w. (note_of (record d { notes = ns }) w).at_high) (λ w. (note_of d w).at_high) same)
