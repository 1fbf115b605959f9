-- The first item that passes, from the place of a loop on.
use Rattle.std.proofs.Common.{◌≡◌, ℕ, ◌≤◌, ◌<◌, ◌+◌, List, length, get_or, drop, refl, Some, None, Bool, true, false}
use Rattle.std.specs.List.{find}
use Rattle.std.proofs.lemmas.List.{drop_all, drop_more}

module _ {X : Type 0} (test : X → Bool) (items : List X) (i : ℕ) where
  -- an item that fails is passed over
  pub find-next : (d : X) → i < length items → test (get_or items i d) ≡ false → find test (drop i items) ≡ find test (drop (i + 1) items)
  find-next d lt fails = rw (drop_more items i d lt, fails) refl

  -- an item that passes is the first
  pub find-here : (d : X) → i < length items → test (get_or items i d) ≡ true → find test (drop i items) ≡ Some (get_or items i d)
  find-here d lt passes = rw (drop_more items i d lt, passes) refl

  -- no item is left
  pub find-end : length items ≤ i → find test (drop i items) ≡ None
  find-end le = rw (drop_all i items le) refl
