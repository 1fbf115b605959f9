-- What tests ask of names: one above all others is new.
use Rattle.std.specs.Prelude.{◌≡◌, ◌≢◌, ℕ, ◌<◌, List, [], ◌∷◌}
use Rattle.std.specs.List.{Contains}
use Rattle.std.proofs.Common.{arith, subst, inl, inr}
use Rattle.fraction_theory.proofs.ListSums.{Contains-cases}
use Rattle.linear_dict.specs.Dictionaries.{Dictionary, IsDictionary}

none_cons : (a : ℕ) (xs : List ℕ) (w : ℕ) → a ≢ w → ¬ (Contains xs w) → ¬ (Contains (a ∷ xs) w)
none_cons a xs w n h m = elim (Contains-cases a xs w m) [ inl e ↦ n e | inr k ↦ h k ]

none : (w : ℕ) → ¬ (Contains [] w)
none w m = Prim.omega (arith, m.1)

differ : (a w : ℕ) → a < w → a ≢ w
differ a w h e = Prim.omega (arith, h, e)

-- a name above all columns and rows is new
pub is_new : {d : Dictionary} (w : ℕ) (rows columns : List ℕ) → IsDictionary d → d.rows ≡ rows → d.columns ≡ columns → ¬ (Contains rows w) → ¬ (Contains columns w) → ¬ (Contains d.names w)
is_new w rows columns h er ec nr nc m = elim (h.put_in.either w m) [
  | inl k ↦ nr (subst (λ (ws : List ℕ). Contains ws w) er k)
  | inr k ↦ nc (subst (λ (ws : List ℕ). Contains ws w) ec k)
]

pub above_one : (w a : ℕ) → a < w → ¬ (Contains (a ∷ []) w)
above_one w a ha = none_cons a [] w (differ a w ha) (none w)

pub above_two : (w a b : ℕ) → a < w → b < w → ¬ (Contains (a ∷ b ∷ []) w)
above_two w a b ha hb = none_cons a (b ∷ []) w (differ a w ha) (above_one w b hb)

pub above_three : (w a b c : ℕ) → a < w → b < w → c < w → ¬ (Contains (a ∷ b ∷ c ∷ []) w)
above_three w a b c ha hb hc = none_cons a (b ∷ c ∷ []) w (differ a w ha) (above_two w b c hb hc)
