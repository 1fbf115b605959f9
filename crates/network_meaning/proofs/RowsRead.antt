-- Rows that are read one by one, each apart from the others.
use Rattle.std.proofs.Common.{◌≡◌, ℕ, ◌+◌, List, [], ◌∷◌, ◌++◌, sym, ap, ◌∙◌, Option, Some, None, Result, Ok}
use Rattle.std.specs.List.{AllZip, filter_map, enumerate_from}
use Rattle.std.proofs.lemmas.List.{append_assoc, append-nil}
use Rattle.record_reading.specs.Records.{Record}
use Rattle.record_reading.specs.Gathering.{gather, listed}
use Rattle.record_reading.proofs.StepLemmas.{then-ok, ok-same}
use Rattle.network_meaning.specs.Units.{AreGiven}

module _ {A F : Type 0} (read : ℕ → Record → Result (Option A) F) (gives : ℕ → Record → Option A → Type 0) where
  abbrev pub reader : List A → ℕ → Record → Result (Option A) F
  reader done number row = read number row

  abbrev items : List (Option A) → List A
  items given = filter_map (λ item. item) given

  abbrev Give : ℕ → List Record → List (Option A) → Type 0
  Give number rows given = AllZip (λ numbered item. gives numbered.0 numbered.1 item) (enumerate_from number rows) given

  items-cons : (done : List A) (x : Option A) (given : List (Option A)) → (done ++ listed x) ++ items given ≡ done ++ items (x ∷ given)
  items-cons done None given = ap (λ t. t ++ items given) (append-nil done)
  items-cons done (Some x) given = append_assoc done (x ∷ []) (items given)

  record Gathered (done : List A) (number : ℕ) (rows : List Record) (all : List A) : Type 0 where
    given : List (Option A)
    give : Give number rows given
    are : all ≡ done ++ items given

  gathered : ((number : ℕ) (r : Record) (x : Option A) → read number r ≡ Ok x → gives number r x) →
      (rows : List Record) (done : List A) (number : ℕ) (all : List A) → gather reader done number rows ≡ Ok all → Gathered done number rows all
  unfolding gather
  gathered sound [] done number all e = record { given = []; give = tt; are = sym (ok-same done all e) ∙ sym (append-nil done) }
  gathered sound (r ∷ rows) done number all e =
      let t = then-ok (read number r) (λ x. gather reader (done ++ listed x) (number + 1) rows) all e in
      let rest = gathered sound rows (done ++ listed t.0) (number + 1) all t.2 in
      record { given = t.0 ∷ rest.given; give = (sound number r t.0 t.1, rest.give); are = rest.are ∙ items-cons done t.0 rest.given }

  gathers : ((number : ℕ) (r : Record) (x : Option A) → gives number r x → read number r ≡ Ok x) →
      (rows : List Record) (given : List (Option A)) (done : List A) (number : ℕ) → Give number rows given → gather reader done number rows ≡ Ok (done ++ items given)
  unfolding gather
  gathers complete [] [] done number h = ap Ok (sym (append-nil done))
  gathers complete [] (x ∷ given) done number h = absurd h
  gathers complete (r ∷ rows) [] done number h = absurd h
  gathers complete (r ∷ rows) (x ∷ given) done number h =
      rw (complete number r x h.0) (gathers complete rows given (done ++ listed x) (number + 1) h.1 ∙ ap Ok (items-cons done x given))

  pub given-read : ((number : ℕ) (r : Record) (x : Option A) → read number r ≡ Ok x → gives number r x) →
      (rows : List Record) (all : List A) → gather reader [] 1 rows ≡ Ok all → AreGiven gives rows all
  given-read sound rows all e = let g = gathered sound rows [] 1 all e in record { given = g.given; rows = g.give; items_are = g.are }

  pub read-given : ((number : ℕ) (r : Record) (x : Option A) → gives number r x → read number r ≡ Ok x) →
      (rows : List Record) (all : List A) → AreGiven gives rows all → gather reader [] 1 rows ≡ Ok all
  read-given complete rows all h = gathers complete rows h.given [] 1 h.rows ∙ ap Ok (sym h.items_are)
