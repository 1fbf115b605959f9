-- The lines of records, one record more.
use Rattle.std.proofs.Common.{◌≡◌, ℕ, ◌+◌, ◌<◌, ◌≤◌, List, [], ◌∷◌, ◌++◌, length, take, sym, ap, ◌∙◌, Some}
use Rattle.std.specs.Prelude.{slice_get}
use Rattle.std.specs.List.{flat_map}
use Rattle.std.proofs.lemmas.List.{append-nil, flat_map_more, take_all, take_more}
use Rattle.std.proofs.lemmas.Option.{get_or_from_slice_get}

module _ {X : Type 0} (f : X → List ℕ) (start : List ℕ) (xs : List X) where
  pub lines-none : start ≡ start ++ flat_map f (take 0 xs)
  lines-none = sym (append-nil start)

  pub lines-more : (before after : List ℕ) (k : ℕ) (x : X) → k < length xs → slice_get xs k ≡ Some x → before ≡ start ++ flat_map f (take k xs) → after ≡ before ++ f x
      → after ≡ start ++ flat_map f (take (k + 1) xs)
  lines-more before after k x lt is e more =
      more ∙ (ap (λ t. t ++ f x) e ∙ (flat_map_more f start (take k xs) x
      ∙ (ap (λ y. start ++ flat_map f (take k xs ++ y ∷ [])) (sym (get_or_from_slice_get xs k x x is)) ∙ ap (λ ys. start ++ flat_map f ys) (sym (take_more xs k x lt)))))

  pub lines-all : (text : List ℕ) (k : ℕ) → length xs ≤ k → text ≡ start ++ flat_map f (take k xs) → text ≡ start ++ flat_map f xs
  lines-all text k le e = e ∙ ap (λ ys. start ++ flat_map f ys) (take_all k xs le)
