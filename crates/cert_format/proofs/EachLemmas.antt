-- Reading item after item.
use Rattle.std.proofs.Common.{◌≡◌, ◌<◌, ◌≤◌, ◌+◌, sym, ap, refl, ℕ, List, [], ◌∷◌, ◌++◌, length, drop, get_or, Option, Some, None, append_assoc}
use Rattle.std.specs.Prelude.{option_map, option_and_then}
use Rattle.std.proofs.lemmas.List.{append-nil, drop_all, drop_more}
use Rattle.serde_json.specs.Data.{Data}
use Rattle.serde_json.specs.View.{items_view, view}
use Rattle.serde_json.specs.declared.value.Value.{Value}
use Rattle.cert_format.specs.Grammar.{each}

module _ {A : Type 0} (read : Data → Option A) where
  -- what is read of the values from i on
  abbrev pub left_of : List Value → ℕ → Option (List A)
  left_of vs i = each read (items_view (drop i vs))

  -- and after those that were read before
  abbrev pub rest_of : List A → List Value → ℕ → Option (List A)
  rest_of done vs i = option_map (λ xs. done ++ xs) (left_of vs i)

  joined : (done : List A) (x : A) (o : Option (List A)) → option_map (λ xs. done ++ xs) (option_and_then (λ xs. Some (x ∷ xs)) o) ≡ option_map (λ xs. (done ++ x ∷ []) ++ xs) o
  joined done x None = refl
  joined done x (Some xs) = ap Some (sym (append_assoc done (x ∷ []) xs))

  pub rest-step : (done : List A) (vs : List Value) (i : ℕ) (d : Value) (x : A) → i < length vs → read (view (get_or vs i d)) ≡ Some x → rest_of done vs i ≡ rest_of (done ++ x ∷ []) vs (i + 1)
  unfolding each
  rest-step done vs i d x lt e = rw (drop_more vs i d lt, e) (joined done x (each read (items_view (drop (i + 1) vs))))

  pub rest-none : (done : List A) (vs : List Value) (i : ℕ) (d : Value) → i < length vs → read (view (get_or vs i d)) ≡ None → rest_of done vs i ≡ None
  unfolding each
  rest-none done vs i d lt e = rw (drop_more vs i d lt, e) refl

  pub rest-end : (done : List A) (vs : List Value) (i : ℕ) → length vs ≤ i → rest_of done vs i ≡ Some done
  unfolding each
  rest-end done vs i le = rw (drop_all i vs le, append-nil done) refl

  start : (o : Option (List A)) → o ≡ option_map (λ xs. [] ++ xs) o
  start None = refl
  start (Some xs) = refl

  pub rest-start : (vs : List Value) → each read (items_view vs) ≡ rest_of [] vs 0
  rest-start vs = start (each read (items_view vs))
