-- What reads a text as a number of 32 bits gives the number that the text writes.
use Rattle.std.proofs.Common.{◌≡◌, ◌≤◌, ◌<◌, ◌∙◌, sym, ap, subst, arith, ℕ, Option, Some, None, Result, Ok, Err}
use Rattle.std.specs.Str.Parse.{ParsesUnsigned}
use Rattle.clap.specs.Words.{ReadsOne, Text}
use Rattle.command_words.specs.Words.{Writes}

parsed : {E : Type 0} (text : Text) (n : ℕ) (r : Result ℕ E) → ParsesUnsigned 32 10 text r → Writes text n → n ≤ 4294967295 → r ≡ Ok n
parsed text n (Ok v) h writes most = ap (λ (k : ℕ). Ok k) (h.1 ∙ sym writes.1)
parsed text n (Err e) h writes most =
    let under : n < 4294967296 = omega arith in
    absurd (h (writes.0, subst (λ (k : ℕ). k < 4294967296) writes.1 under))

pub seed-read : {E : Type 0} (gives : Text → Result ℕ E → Type 0) → ((text : Text) (r : Result ℕ E) → gives text r → ParsesUnsigned 32 10 text r)
    → (text : Text) (n : ℕ) (o : Option ℕ) → ReadsOne gives text o → Writes text n → n ≤ 4294967295 → o ≡ Some n
seed-read gives parses text n (Some v) h writes most =
    let same = parsed text n (Ok v) (parses text (Ok v) h) writes most in
    ap (λ (k : ℕ). Some k) (ok-same v n same)
  where
    ok-same : (v n : ℕ) → ◌≡◌ {A = Result ℕ ℕ} (Ok v) (Ok n) → v ≡ n
    ok-same v n same = cc same
seed-read gives parses text n None h writes most =
    let bad = parsed text n (Err h.0) (parses text (Err h.0) h.1) writes most in
    cc bad
