-- Options that are added to a command one after another.
use Rattle.std.proofs.Common.{◌≡◌, ◌∙◌, ◌<◌, ◌+◌, ℕ, List, length, get_or, take, sym, ap}
use Rattle.std.specs.Prelude.{fold}
use Rattle.std.proofs.lemmas.List.Sums.{fold_more}
use Rattle.clap.specs.Words.{App}

-- with one more added, a command has those before it and this one
pub one-more : {X : Type 0} (add : App → X → App) (first now next : App) (options : List X) (i : ℕ) (d : X)
    → i < length options → now ≡ fold add first (take i options) → next ≡ add now (get_or options i d) → next ≡ fold add first (take (i + 1) options)
one-more add first now next options i d h before added = added ∙ ap (λ a. add a (get_or options i d)) before ∙ sym (fold_more add first options i d h)
