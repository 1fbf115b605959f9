-- The file of a name, before and after it is written.
use Rattle.std.specs.Prelude.{◌≡◌, ◌≢◌, ℕ, ◌+◌, ◌-◌, ◌<◌, ◌∷◌, List, [], length, Some, None, Bool, true, false, is_some, cond, ◌++◌}
use Rattle.std.proofs.Common.{suc, arith, ap, sym, ◌∙◌, refl, subst, get_or, take, length-take, length-set}
use Rattle.std.proofs.Math.ListN.{set}
use Rattle.std.proofs.Math.Seq.{take-set-lt}
use Rattle.std.specs.List.{position, position_from}
use Rattle.std.specs.Str.{bytes_eq}
use Rattle.std.proofs.lemmas.Iterator.Adapters.{position_from-zero}
use Rattle.std.proofs.lemmas.List.{take_more_set, get_or-take}
use Rattle.std.proofs.lemmas.Slice.Eq.{bytes_eq-Decides}
use Rattle.outside_store.specs.Memory.{find}
use Rattle.outside_store.specs.Places.{shown, shown_all}
use Rattle.outside_store.specs.declared.named_file.NamedFile.{NamedFile}

-- the test that a place is of this name
abbrev pub is_of : List ℕ → NamedFile → Bool
is_of name file = bytes_eq file.name.bytes name

-- in the new files the name has the bytes, and other names what they had
pub record Changed (name bytes : List ℕ) (old new : List (List ℕ × List ℕ)) : Type 0 where
  pub here : find new name ≡ Some bytes
  pub others : (n : List ℕ) → n ≢ name → find new n ≡ find old n

differs : (xs ys : List ℕ) → xs ≢ ys → bytes_eq xs ys ≡ false
differs xs ys n = by_test (bytes_eq xs ys) refl
  where
    by_test : (t : Bool) → bytes_eq xs ys ≡ t → t ≡ false
    by_test true e = absurd (n ((bytes_eq-Decides xs ys).0 e))
    by_test false e = refl

same : (xs : List ℕ) → bytes_eq xs xs ≡ true
same xs = (bytes_eq-Decides xs xs).1 refl

-- ---- a name that no place has

find_none_at : (files : List NamedFile) (name : List ℕ) (i : ℕ) → position_from (is_of name) i files ≡ None → find (shown_all files) name ≡ None
find_none_at [] name i e = refl
find_none_at (x ∷ xs) name i e = by_test (bytes_eq x.name.bytes name) refl e (find_none_at xs name (i + 1))
  where
    by_test : (t : Bool) → bytes_eq x.name.bytes name ≡ t → cond t (Some i) (position_from (is_of name) (i + 1) xs) ≡ None
        → (position_from (is_of name) (i + 1) xs ≡ None → find (shown_all xs) name ≡ None) → cond t (Some x.bytes.bytes) (find (shown_all xs) name) ≡ None
    by_test true t e rec = Prim.cc
    by_test false t e rec = rec e

-- no place has the name, so there is no file of this name
pub find_none : (files : List NamedFile) (name : List ℕ) → position (is_of name) files ≡ None → find (shown_all files) name ≡ None
find_none files name e = find_none_at files name 0 (sym (position_from-zero (is_of name) files) ∙ e)

-- ---- a name that a place has

-- the place that is found, when it is given new bytes
record Found (files : List NamedFile) (name bytes : List ℕ) (j : ℕ) (old new : NamedFile) : Type 0 where
  within : j < length files
  was : is_some (find (shown_all files) name) ≡ true
  changed : old ≡ get_or files j old → shown new ≡ (old.name.bytes, bytes) → Changed name bytes (shown_all files) (shown_all (set files j new))

found_at : (files : List NamedFile) (name bytes : List ℕ) (i k : ℕ) (old new : NamedFile) → position_from (is_of name) i files ≡ Some k → (j : ℕ) × (k ≡ i + j) × Found files name bytes j old new
found_at [] name bytes i k old new e = Prim.cc
found_at (x ∷ xs) name bytes i k old new e = by_test (bytes_eq x.name.bytes name) refl e (found_at xs name bytes (i + 1) k old new)
  where
    by_test : (t : Bool) → bytes_eq x.name.bytes name ≡ t → cond t (Some i) (position_from (is_of name) (i + 1) xs) ≡ Some k
        → (position_from (is_of name) (i + 1) xs ≡ Some k → (j : ℕ) × (k ≡ (i + 1) + j) × Found xs name bytes j old new)
        → (j : ℕ) × (k ≡ i + j) × Found (x ∷ xs) name bytes j old new
    by_test true t e rec =
        let at_i : i ≡ k = Prim.cc in
        let is_name : x.name.bytes ≡ name = (bytes_eq-Decides x.name.bytes name).0 t in (
          0,
          Prim.omega arith,
          record {
            within = Prim.omega arith;
            was = ap (λ (b : Bool). is_some (cond b (Some x.bytes.bytes) (find (shown_all xs) name))) t;
            changed = λ is h. let new_name : new.name.bytes ≡ name = ap (λ p. p.0) h ∙ ap (λ (f : NamedFile). f.name.bytes) is ∙ is_name in record {
              here = ap (λ (b : Bool). cond b (Some new.bytes.bytes) (find (shown_all xs) name)) (ap (λ m. bytes_eq m name) new_name ∙ same name) ∙ ap Some (ap (λ p. p.1) h);
              others = λ n ne. let f = differs name n (λ q. ne (sym q)) in
                  ap (λ (b : Bool). cond b (Some new.bytes.bytes) (find (shown_all xs) n)) (ap (λ m. bytes_eq m n) new_name ∙ f)
                  ∙ sym (ap (λ (b : Bool). cond b (Some x.bytes.bytes) (find (shown_all xs) n)) (ap (λ m. bytes_eq m n) is_name ∙ f));
            };
          },
        )
    by_test false t e rec =
        let r = rec e in (
          suc (r.0),
          Prim.omega (arith, r.1),
          record {
            within = Prim.omega (arith, r.2.within);
            was = ap (λ (b : Bool). is_some (cond b (Some x.bytes.bytes) (find (shown_all xs) name))) t ∙ r.2.was;
            changed = λ is h. let s = r.2.changed is h in record {
              here = ap (λ (b : Bool). cond b (Some x.bytes.bytes) (find (shown_all (set xs (r.0) new)) name)) t ∙ s.here;
              others = λ n ne. ap (λ z. cond (bytes_eq x.name.bytes n) (Some x.bytes.bytes) z) (s.others n ne);
            };
          },
        )

found : (files : List NamedFile) (name bytes : List ℕ) (k : ℕ) (old new : NamedFile) → position (is_of name) files ≡ Some k → Found files name bytes k old new
found files name bytes k old new e = let r = found_at files name bytes 0 k old new (sym (position_from-zero (is_of name) files) ∙ e) in
    let q : k ≡ r.0 = Prim.omega (arith, r.1) in
    subst (λ t. Found files name bytes t old new) (sym q) r.2

-- a place has the name, so there is a file of this name
pub find_some : (files : List NamedFile) (name : List ℕ) (k : ℕ) (any : NamedFile) → position (is_of name) files ≡ Some k → is_some (find (shown_all files) name) ≡ true
find_some files name k any e = (found files name [] k any any e).was

-- the place of the name is given new bytes
pub replaced : (places : List NamedFile) (used k : ℕ) (name bytes : List ℕ) (old new : NamedFile) → position (is_of name) (take used places) ≡ Some k → old ≡ get_or places k old → shown new ≡ (old.name.bytes, bytes)
    → Changed name bytes (shown_all (take used places)) (shown_all (take used (set places k new)))
replaced places used k name bytes old new e is h = let f = found (take used places) name bytes k old new e in
    let below : k < used = Prim.omega (arith, f.within, length-take used places) in
    subst (λ files. Changed name bytes (shown_all (take used places)) (shown_all files)) (sym (take-set-lt used places k new below)) (f.changed (is ∙ sym (get_or-take used places k old below)) h)

-- ---- a place for a new name

appended : (files : List NamedFile) (name bytes : List ℕ) (new : NamedFile) → find (shown_all files) name ≡ None → shown new ≡ (name, bytes) → Changed name bytes (shown_all files) (shown_all (files ++ new ∷ []))
appended [] name bytes new e h = record {
  here = ap (λ (b : Bool). cond b (Some new.bytes.bytes) None) (ap (λ p. bytes_eq (p.0) name) h ∙ same name) ∙ ap (λ p. Some (p.1)) h;
  others = λ n ne. ap (λ (b : Bool). cond b (Some new.bytes.bytes) None) (ap (λ p. bytes_eq (p.0) n) h ∙ differs name n (λ q. ne (sym q)));
}
appended (x ∷ xs) name bytes new e h = by_test (bytes_eq x.name.bytes name) refl e (λ f. appended xs name bytes new f h)
  where
    by_test : (t : Bool) → bytes_eq x.name.bytes name ≡ t → cond t (Some x.bytes.bytes) (find (shown_all xs) name) ≡ None
        → (find (shown_all xs) name ≡ None → Changed name bytes (shown_all xs) (shown_all (xs ++ new ∷ []))) → Changed name bytes (shown_all (x ∷ xs)) (shown_all ((x ∷ xs) ++ new ∷ []))
    by_test true t e rec = Prim.cc
    by_test false t e rec = let s = rec e in record {
      here = ap (λ (b : Bool). cond b (Some x.bytes.bytes) (find (shown_all (xs ++ new ∷ [])) name)) t ∙ s.here;
      others = λ n ne. ap (λ z. cond (bytes_eq x.name.bytes n) (Some x.bytes.bytes) z) (s.others n ne);
    }

-- the first free place is given to a new name
pub put_at_end : (places : List NamedFile) (used : ℕ) (name bytes : List ℕ) (new : NamedFile) → used < length places → position (is_of name) (take used places) ≡ None → shown new ≡ (name, bytes)
    → Changed name bytes (shown_all (take used places)) (shown_all (take (used + 1) (set places used new)))
put_at_end places used name bytes new h e is = subst (λ files. Changed name bytes (shown_all (take used places)) (shown_all files)) (sym (take_more_set places used new h))
    (appended (take used places) name bytes new (find_none (take used places) name e) is)

-- ---- room

-- a name that is there is not one that is missing
pub is_there : (files : List (List ℕ × List ℕ)) (name : List ℕ) → is_some (find files name) ≡ true → find files name ≡ None → ⊥
is_there files name e none = let f : is_some (find files name) ≡ false = ap is_some none in Prim.cc

-- no place is taken or given back where a name that was there is written
pub free_kept : (places : List NamedFile) (used k : ℕ) (new : NamedFile) (t : Bool) → t ≡ true → length (set places k new) - used ≡ (length places - used) - cond t 0 1
free_kept places used k new t e = let l = length-set places k new in let q : (length places - used) - cond t 0 1 ≡ (length places - used) - 0 = ap (λ (b : Bool). (length places - used) - cond b 0 1) e in Prim.omega (arith, l, q)

-- one place is taken where a new name is written
pub free_taken : (places : List NamedFile) (used : ℕ) (new : NamedFile) (t : Bool) → t ≡ false → length (set places used new) - (used + 1) ≡ (length places - used) - cond t 0 1
free_taken places used new t e = let l = length-set places used new in let q : (length places - used) - cond t 0 1 ≡ (length places - used) - 1 = ap (λ (b : Bool). (length places - used) - cond b 0 1) e in Prim.omega (arith, l, q)
