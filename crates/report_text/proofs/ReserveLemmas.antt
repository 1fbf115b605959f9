-- The lines of reserve, part by part.
use Rattle.std.specs.Prelude.{◌≡◌, Bool, true, false, ℕ, ℤ, List, [], ◌++◌, codes, if◌then◌else◌}
use Rattle.std.proofs.Common.{ap, sym, ◌∙◌, append_assoc}
use Rattle.std.proofs.lemmas.List.{append-nil}
use Rattle.fraction_theory.specs.Fraction.{Fraction}
use Rattle.exact_fraction.specs.Written.{written}
use Rattle.line_text.specs.Decimals.{decimal_text}
use Rattle.market_data.specs.Scales.{mw_places, price_places}
use Rattle.market_model.specs.declared.participants.Parts.{Parts}
use Rattle.market_model.specs.Changes.{with_need}
use Rattle.report_text.specs.Reports.{need_text, plain_reserve_text}

-- a line that is told where a test holds
told : (b c : Bool) (line : List ℕ) → b ≡ c → (if b then line else []) ≡ (if c then line else [])
told b c line e = ap (λ (d : Bool). if d then line else []) e

module _ (listed : Bool) (price : Fraction) (t : List ℕ) where
  pub need_unlisted : (need : ℤ) → listed ≡ false → t ≡ t ++ need_text listed need price
  unfolding need_text
  need_unlisted need e = sym (append-nil t) ∙ ap (λ (line : List ℕ). t ++ line) (sym (told listed false _ e))

  pub plain_unlisted : listed ≡ false → t ≡ t ++ plain_reserve_text listed price
  unfolding plain_reserve_text
  plain_unlisted e = sym (append-nil t) ∙ ap (λ (line : List ℕ). t ++ line) (sym (told listed false _ e))

  pub need_grown : (need : ℤ) (u v : List ℕ) → listed ≡ true → u ≡ t ++ codes "reserve price " ++ written price_places price → v ≡ u ++ codes " need " ++ decimal_text mw_places need
      → v ++ codes "\n" ≡ t ++ need_text listed need price
  unfolding need_text
  need_grown need u v e g h =
      grown (codes "reserve price ") (written price_places price) (codes " need ") (decimal_text mw_places need) (codes "\n") u v g h
      ∙ ap (λ (line : List ℕ). t ++ line) (sym (told listed true _ e))
    where
      grown : (a x b y n u v : List ℕ) → u ≡ t ++ a ++ x → v ≡ u ++ b ++ y → v ++ n ≡ t ++ (a ++ x ++ b ++ y ++ n)
      grown a x b y n u v g h = Prim.rw (h, g) Prim.simp append_assoc

  pub plain_grown : (u : List ℕ) → listed ≡ true → u ≡ t ++ codes "reserve dual " ++ written 0 price → u ++ codes "\n" ≡ t ++ plain_reserve_text listed price
  unfolding plain_reserve_text
  plain_grown u e h =
      grown (codes "reserve dual ") (written 0 price) (codes "\n") u h ∙ ap (λ (line : List ℕ). t ++ line) (sym (told listed true _ e))
    where
      grown : (a x n u : List ℕ) → u ≡ t ++ a ++ x → u ++ n ≡ t ++ (a ++ x ++ n)
      grown a x n u h = Prim.rw h Prim.simp append_assoc

-- the report of an answer, part by part
pub report_grown : (h n b k r d u o l a x c t₀ t₁ t₂ t₃ t₄ t₅ t₆ t₇ t₈ t₉ t₁₀ t₁₁ : List ℕ) → t₀ ≡ [] → t₁ ≡ t₀ ++ h → t₂ ≡ t₁ ++ n → t₃ ≡ t₂ ++ b → t₄ ≡ t₃ ++ k → t₅ ≡ t₄ ++ r → t₆ ≡ t₅ ++ d → t₇ ≡ t₆ ++ u → t₈ ≡ t₇ ++ o → t₉ ≡ t₈ ++ l → t₁₀ ≡ t₉ ++ a ++ x → t₁₁ ≡ t₁₀ ++ c
    → t₁₁ ≡ h ++ n ++ b ++ k ++ r ++ d ++ u ++ o ++ l ++ (a ++ x ++ c)
report_grown h n b k r d u o l a x c t₀ t₁ t₂ t₃ t₄ t₅ t₆ t₇ t₈ t₉ t₁₀ t₁₁ e₀ e₁ e₂ e₃ e₄ e₅ e₆ e₇ e₈ e₉ e₁₀ e₁₁ = Prim.rw (e₁₁, e₁₀, e₉, e₈, e₇, e₆, e₅, e₄, e₃, e₂, e₁, e₀) Prim.simp append_assoc

-- a market with the need that it has
pub need_kept : (m : Parts) (need : ℤ) → need ≡ m.reserve.need → with_need m need ≡ m
need_kept m need e = λ i. record m { reserve = record m.reserve { need = e i } }
