-- The lines of limits are of the limits that they tell.
use Rattle.std.specs.Prelude.{◌≡◌, ◌≢◌, ◌&&◌, ℕ, ◌==◌, All, Bool, true, false, List, [], ◌∷◌, ◌++◌, length, map, codes, if◌then◌else◌, refl}
use Rattle.std.specs.List.{AllByRecursion, flat_map, zip}
use Rattle.std.proofs.Common.{arith, ap, sym, ◌∙◌, subst, append_assoc}
use Rattle.std.proofs.lemmas.Bool.Decides.{nat_tests}
use Rattle.std.proofs.lemmas.List.{append_cancel_left, length-map}
use Rattle.std.proofs.lemmas.List.Elements.{All-tail}
use Rattle.std.proofs.lemmas.Slice.Zip.{firsts-zip, seconds-zip}
use Rattle.fraction_theory.specs.Fraction.{Fraction}
use Rattle.fraction_theory.specs.Order.{◌≤ℚ◌}
use Rattle.fraction_theory.specs.Signs.{sign_of}
use Rattle.fraction_theory.specs.declared.Sign.{Sign}
use Rattle.fraction_theory.specs.declared.Sign.TheVariants.{Below, Zero, Above}
use Rattle.fraction_theory.proofs.OrderLaws.{<ℚ-not-≤ℚ}
use Rattle.fraction_theory.proofs.SignLaws.{IsSign, sign_of_is}
use Rattle.exact_fraction.specs.Written.{number_text, written}
use Rattle.market_data.specs.Scales.{money_places, mw_places, price_places}
use Rattle.market_model.specs.declared.answered.Dual.{Dual}
use Rattle.market_model.specs.declared.answered.Rent.{Rent}
use Rattle.market_model.specs.declared.answered.RowId.{RowId}
use Rattle.market_model.specs.Dispatch.{zero}
use Rattle.report_text.specs.Reports.{outage_text, over_text, over_text_by, row_text, rent_text, limit_text}
use Rattle.report_text.proofs.Amounts.{head_of, named_apart, number_apart}

-- ---- the name of a limit
-- what stands behind the blank: of a unit that is lost, and of the base, or of a branch that is lost and then of a unit
abbrev unit_words : Bool → ℕ → List ℕ → List ℕ
unit_words true unit ts = ts
unit_words false unit ts = codes "lost " ++ (number_text unit ++ 32 ∷ ts)

abbrev words : Bool → Bool → ℕ → ℕ → List ℕ → List ℕ
words true true outage unit ts = codes "base " ++ ts
words true false outage unit ts = unit_words false unit ts
words false b outage unit ts = codes "after " ++ (number_text outage ++ 32 ∷ unit_words b unit ts)

words_behind : (outage unit : ℕ) (ts : List ℕ) → outage_text outage unit ++ 32 ∷ ts ≡ 32 ∷ words (outage == 0) (unit == 0) outage unit ts
words_behind outage unit ts = by_test (outage == 0) (unit == 0)
  where
    by_test : (b c : Bool)
        → (if b && c then codes " base" else (if b then [] else codes " after " ++ number_text outage) ++ (if c then [] else codes " lost " ++ number_text unit)) ++ 32 ∷ ts ≡ 32 ∷ words b c outage unit ts
    by_test true true = refl
    by_test true false = append_assoc (codes " lost ") (number_text unit) (32 ∷ ts)
    by_test false true = Prim.simp append_assoc
    by_test false false = Prim.simp append_assoc

is_zero : (n : ℕ) → (n == 0) ≡ true → n ≡ 0
is_zero n e = Prim.grind (arith, nat_tests)

-- another word than `lost` comes next
abbrev pub Next : List ℕ → Type 0
Next [] = ⊥
Next (c ∷ us) = c ≢ 108

next_not : (us vs : List ℕ) → Next us → us ≡ codes "lost " ++ vs → ⊥
next_not [] vs h e = h
next_not (c ∷ us) vs h e = h (head_of c 108 us _ e)

units_apart : (b c : Bool) (j k : ℕ) (us vs : List ℕ) → (j == 0) ≡ b → (k == 0) ≡ c → Next us → Next vs → unit_words b j us ≡ unit_words c k vs → (j ≡ k) × (us ≡ vs)
units_apart true true j k us vs p q g h e = (is_zero j p ∙ sym (is_zero k q), e)
units_apart true false j k us vs p q g h e = absurd (next_not us (number_text k ++ 32 ∷ vs) g e)
units_apart false true j k us vs p q g h e = absurd (next_not vs (number_text j ++ 32 ∷ us) h (sym e))
units_apart false false j k us vs p q g h e = number_apart j k us vs (append_cancel_left (codes "lost ") (number_text j ++ 32 ∷ us) (number_text k ++ 32 ∷ vs) e)

record SameLoss (j k l n : ℕ) (us vs : List ℕ) : Type 0 where
  outage : j ≡ k
  unit : l ≡ n
  rest : us ≡ vs

words_apart : (b c d f : Bool) (j k l n : ℕ) (us vs : List ℕ) → (j == 0) ≡ b → (k == 0) ≡ c → (l == 0) ≡ d → (n == 0) ≡ f → Next us → Next vs → words b d j l us ≡ words c f k n vs → SameLoss j k l n us vs
words_apart true true true true j k l n us vs p q r s g h e =
    record { outage = is_zero j p ∙ sym (is_zero k q); unit = is_zero l r ∙ sym (is_zero n s); rest = append_cancel_left (codes "base ") us vs e }
words_apart true true true false j k l n us vs p q r s g h e = absurd (Prim.omega (arith, head_of 98 108 _ _ e))
words_apart true true false true j k l n us vs p q r s g h e = absurd (Prim.omega (arith, head_of 108 98 _ _ e))
words_apart true true false false j k l n us vs p q r s g h e =
    let t = units_apart false false l n us vs r s g h e in record { outage = is_zero j p ∙ sym (is_zero k q); unit = t.0; rest = t.1 }
words_apart true false true f j k l n us vs p q r s g h e = absurd (Prim.omega (arith, head_of 98 97 _ _ e))
words_apart true false false f j k l n us vs p q r s g h e = absurd (Prim.omega (arith, head_of 108 97 _ _ e))
words_apart false true d true j k l n us vs p q r s g h e = absurd (Prim.omega (arith, head_of 97 98 _ _ e))
words_apart false true d false j k l n us vs p q r s g h e = absurd (Prim.omega (arith, head_of 97 108 _ _ e))
words_apart false false d f j k l n us vs p q r s g h e =
    let first = number_apart j k (unit_words d l us) (unit_words f n vs) (append_cancel_left (codes "after ") (number_text j ++ 32 ∷ unit_words d l us) (number_text k ++ 32 ∷ unit_words f n vs) e) in
    let t = units_apart d f l n us vs r s g h first.1 in
    record { outage = first.0; unit = t.0; rest = t.1 }

same_row : (a b : RowId) → a.branch ≡ b.branch → a.outage ≡ b.outage → a.unit ≡ b.unit → a ≡ b
same_row a b e f g = λ i. record { branch = e i; outage = f i; unit = g i }

-- the name of a limit, a blank and what comes after it
pub rows_apart : (a b : RowId) (us vs : List ℕ) → Next us → Next vs → row_text a ++ 32 ∷ us ≡ row_text b ++ 32 ∷ vs → (a ≡ b) × (us ≡ vs)
unfolding row_text
rows_apart a b us vs g h e =
    let behind = λ (r : RowId) (ts : List ℕ). words (r.outage == 0) (r.unit == 0) r.outage r.unit ts in
    let opened = λ (r : RowId) (ts : List ℕ). in_order (codes "limit ") (number_text r.branch) (outage_text r.outage r.unit) (32 ∷ ts) ∙ ap (λ o. codes "limit " ++ (number_text r.branch ++ o)) (words_behind r.outage r.unit ts) in
    let first = number_apart a.branch b.branch (behind a us) (behind b vs) (append_cancel_left (codes "limit ") _ _ (sym (opened a us) ∙ e ∙ opened b vs)) in
    let second = words_apart (a.outage == 0) (b.outage == 0) (a.unit == 0) (b.unit == 0) a.outage b.outage a.unit b.unit us vs refl refl refl refl g h first.1 in
    (same_row a b first.0 second.outage second.unit, second.rest)
  where
    in_order : (front n o ts : List ℕ) → (front ++ n ++ o) ++ ts ≡ front ++ (n ++ (o ++ ts))
    in_order front n o ts = Prim.simp append_assoc

-- ---- the lines
same_dual : (d e : Dual Fraction) → d.row ≡ e.row → d.up ≡ e.up → d.down ≡ e.down → d ≡ e
same_dual d e p q r =
    let make : RowId → Fraction → Fraction → Dual Fraction = λ u v w. record { row = u; up = v; down = w } in
    ap (λ u. make u d.up d.down) p ∙ ap (λ v. make e.row v d.down) q ∙ ap (make e.row e.up) r

limit_apart : (d e : Dual Fraction) (us vs : List ℕ) → limit_text d ++ us ≡ limit_text e ++ vs → (d ≡ e) × (us ≡ vs)
unfolding limit_text
limit_apart d e us vs h =
    let opened = λ (x : Dual Fraction) (ts : List ℕ). in_order (row_text x.row) (codes " up ") (written 0 x.up) (codes " down ") (written 0 x.down) (codes "\n") ts in
    let row = rows_apart d.row e.row (codes "up " ++ (written 0 d.up ++ 32 ∷ (codes "down " ++ (written 0 d.down ++ 10 ∷ us)))) (codes "up " ++ (written 0 e.up ++ 32 ∷ (codes "down " ++ (written 0 e.down ++ 10 ∷ vs))))
    (λ z. Prim.omega (arith, z)) (λ z. Prim.omega (arith, z)) (sym (opened d us) ∙ h ∙ opened e vs) in
    let up = named_apart (codes "up ") 0 32 d.up e.up _ _ (Prim.omega arith) row.1 in
    let down = named_apart (codes "down ") 0 10 d.down e.down us vs (Prim.omega arith) up.1 in
    (same_dual d e row.0 up.0 down.0, down.1)
  where
    in_order : (r a x b y n ts : List ℕ) → (r ++ a ++ x ++ b ++ y ++ n) ++ ts ≡ r ++ (a ++ (x ++ (b ++ (y ++ (n ++ ts)))))
    in_order r a x b y n ts = Prim.simp append_assoc

-- a limit's duals and its rent
abbrev Entry : Type 0
Entry = Dual Fraction × Rent Fraction

-- they are of one row, and the flow exceeds its limit by no less than 0
record IsEntry (p : Entry) : Type 0 where
  row : p.1.row ≡ p.0.row
  over : zero ≤ℚ p.1.over

abbrev entry_text : Entry → List ℕ
entry_text p = rent_text p.0 p.1

same_rent : (r s : Rent Fraction) → r.row ≡ s.row → r.flow ≡ s.flow → r.over ≡ s.over → r.rent ≡ s.rent → r ≡ s
same_rent r s p q o t =
    let make : RowId → Fraction → Fraction → Fraction → Rent Fraction = λ u v x w. record { row = u; flow = v; over = x; rent = w } in
    ap (λ u. make u r.flow r.over r.rent) p ∙ ap (λ v. make s.row v r.over r.rent) q ∙ ap (λ x. make s.row s.flow x r.rent) o ∙ ap (make s.row s.flow s.over) t

same_entry : (p q : Entry) → p.0 ≡ q.0 → p.1 ≡ q.1 → p ≡ q
same_entry p q e f = ap (λ (d : Dual Fraction). (d, p.1)) e ∙ ap (λ (r : Rent Fraction). (q.0, r)) f

-- what stands behind the blank after a flow: by how much it exceeds its limit, or at once what comes next
abbrev over_behind : Sign → Fraction → List ℕ → List ℕ
over_behind Below over ts = ts
over_behind Zero over ts = ts
over_behind Above over ts = codes "over " ++ (written mw_places over ++ 32 ∷ ts)

blank_first : (s : Sign) (over : Fraction) (ts : List ℕ) → over_text_by s over ++ 32 ∷ ts ≡ 32 ∷ over_behind s over ts
blank_first Below over ts = refl
blank_first Zero over ts = refl
blank_first Above over ts = append_assoc (codes " over ") (written mw_places over) (32 ∷ ts)

-- it is read back where another word than `over` comes next, and where it is no less than 0
overs_apart : (s t : Sign) (x y : Fraction) → IsSign s x → IsSign t y → zero ≤ℚ x → zero ≤ℚ y → (us vs : List ℕ) → over_behind s x (codes "up " ++ us) ≡ over_behind t y (codes "up " ++ vs)
    → (x ≡ y) × (codes "up " ++ us ≡ codes "up " ++ vs)
overs_apart Below t x y p q g h us vs e = absurd (<ℚ-not-≤ℚ x zero p g)
overs_apart s Below x y p q g h us vs e = absurd (<ℚ-not-≤ℚ y zero q h)
overs_apart Zero Zero x y p q g h us vs e = (p ∙ sym q, e)
overs_apart Zero Above x y p q g h us vs e = absurd (Prim.omega (arith, head_of 117 111 _ _ e))
overs_apart Above Zero x y p q g h us vs e = absurd (Prim.omega (arith, head_of 111 117 _ _ e))
overs_apart Above Above x y p q g h us vs e = named_apart (codes "over ") mw_places 32 x y (codes "up " ++ us) (codes "up " ++ vs) (Prim.omega arith) e

-- what stands behind the prices' first word, and behind the name of a limit
abbrev behind_up : Entry → List ℕ → List ℕ
behind_up p ts = written price_places p.0.up ++ 32 ∷ (codes "down " ++ (written price_places p.0.down ++ 32 ∷ (codes "rent " ++ (written money_places p.1.rent ++ 10 ∷ ts))))

abbrev behind_name : Entry → List ℕ → List ℕ
behind_name p ts = codes "flow " ++ (written mw_places p.1.flow ++ 32 ∷ over_behind (sign_of p.1.over) p.1.over (codes "up " ++ behind_up p ts))

entry_opened : (x : Entry) (ts : List ℕ) → entry_text x ++ ts ≡ row_text x.0.row ++ 32 ∷ behind_name x ts
unfolding rent_text
entry_opened x ts =
    in_order (row_text x.0.row) (codes " flow ") (written mw_places x.1.flow) (over_text x.1.over) (codes " up ") (written price_places x.0.up) (codes " down ") (written price_places x.0.down) (codes " rent ") (written money_places x.1.rent) (codes "\n") ts
    ∙ ap (λ o. row_text x.0.row ++ (codes " flow " ++ (written mw_places x.1.flow ++ o))) (blank_first (sign_of x.1.over) x.1.over (codes "up " ++ behind_up x ts))
  where
    in_order : (r a f o b x c y d z n ts : List ℕ) → (r ++ a ++ f ++ o ++ b ++ x ++ c ++ y ++ d ++ z ++ n) ++ ts ≡ r ++ (a ++ (f ++ (o ++ (b ++ (x ++ (c ++ (y ++ (d ++ (z ++ (n ++ ts))))))))))
    in_order r a f o b x c y d z n ts = Prim.simp append_assoc

entry_apart : (p q : Entry) → IsEntry p → IsEntry q → (us vs : List ℕ) → entry_text p ++ us ≡ entry_text q ++ vs → (p ≡ q) × (us ≡ vs)
entry_apart p q g h us vs e =
    let row = rows_apart p.0.row q.0.row (behind_name p us) (behind_name q vs) (λ z. Prim.omega (arith, z)) (λ z. Prim.omega (arith, z)) (sym (entry_opened p us) ∙ e ∙ entry_opened q vs) in
    let flow = named_apart (codes "flow ") mw_places 32 p.1.flow q.1.flow _ _ (Prim.omega arith) row.1 in
    let over = overs_apart (sign_of p.1.over) (sign_of q.1.over) p.1.over q.1.over (sign_of_is p.1.over _ refl) (sign_of_is q.1.over _ refl) g.over h.over (behind_up p us) (behind_up q vs) flow.1 in
    let up = named_apart (codes "up ") price_places 32 p.0.up q.0.up _ _ (Prim.omega arith) over.1 in
    let down = named_apart (codes "down ") price_places 32 p.0.down q.0.down _ _ (Prim.omega arith) up.1 in
    let rent = named_apart (codes "rent ") money_places 10 p.1.rent q.1.rent us vs (Prim.omega arith) down.1 in
    (same_entry p q (same_dual p.0 q.0 row.0 up.0 down.0) (same_rent p.1 q.1 (g.row ∙ row.0 ∙ sym h.row) flow.0 over.0 rent.0), rent.1)

-- ---- all lines of limits, and what comes after them
-- the second letter is not that of `limit`
abbrev pub EndsLimits : List ℕ → Type 0
EndsLimits [] = Unit {0}
EndsLimits (c ∷ []) = Unit {0}
EndsLimits (c ∷ d ∷ us) = d ≢ 105

row_begins : (id : RowId) (us : List ℕ) → EndsLimits (row_text id ++ us) → ⊥
unfolding row_text
row_begins id us h = h refl

-- lines of one kind, and what does not go on with one of them
module _ {X : Type 0} (f : X → List ℕ) (Good : X → Type 0) (Ends : List ℕ → Type 0) (apart : (x y : X) → Good x → Good y → (us vs : List ℕ) → f x ++ us ≡ f y ++ vs → (x ≡ y) × (us ≡ vs)) (begins : (x : X) → Good x → (us : List ℕ) → Ends (f x ++ us) → ⊥) where
  first_begins : (x : X) (xs : List X) → Good x → (us : List ℕ) → Ends (flat_map f (x ∷ xs) ++ us) → ⊥
  first_begins x xs p us h = begins x p (flat_map f xs ++ us) (subst Ends (append_assoc (f x) (flat_map f xs) us) h)

  pub lines_end : (xs ys : List X) → AllByRecursion Good xs → AllByRecursion Good ys → (us vs : List ℕ) → Ends us → Ends vs → flat_map f xs ++ us ≡ flat_map f ys ++ vs → (xs ≡ ys) × (us ≡ vs)
  lines_end [] [] p q us vs g h e = (refl, e)
  lines_end [] (y ∷ ys) p q us vs g h e = absurd (first_begins y ys q.0 vs (subst Ends e g))
  lines_end (x ∷ xs) [] p q us vs g h e = absurd (first_begins x xs p.0 us (subst Ends (sym e) h))
  lines_end (x ∷ xs) (y ∷ ys) p q us vs g h e =
      let first = apart x y p.0 q.0 (flat_map f xs ++ us) (flat_map f ys ++ vs) (sym (append_assoc (f x) (flat_map f xs) us) ∙ e ∙ append_assoc (f y) (flat_map f ys) vs) in
      let rest = lines_end xs ys p.1 q.1 us vs g h first.1 in
      (Prim.cc (first.0, rest.0), rest.1)

limit_begins : (d : Dual Fraction) (us : List ℕ) → EndsLimits (limit_text d ++ us) → ⊥
unfolding limit_text row_text
limit_begins d us h = h refl

entry_begins : (p : Entry) (us : List ℕ) → EndsLimits (entry_text p ++ us) → ⊥
unfolding rent_text row_text
entry_begins p us h = h refl

-- the duals that show that nothing is feasible
pub limits_apart : (ds es : List (Dual Fraction)) (us vs : List ℕ) → EndsLimits us → EndsLimits vs → flat_map limit_text ds ++ us ≡ flat_map limit_text es ++ vs → (ds ≡ es) × (us ≡ vs)
limits_apart ds es us vs p q e = lines_end limit_text (λ d. Unit {0}) EndsLimits (λ d f g h. limit_apart d f) (λ d g. limit_begins d) ds es (all ds) (all es) us vs p q e
  where
    all : (ds : List (Dual Fraction)) → AllByRecursion (λ (d : Dual Fraction). Unit {0}) ds
    all [] = tt
    all (d ∷ ds) = (tt, all ds)

are_entries : (ds : List (Dual Fraction)) (rs : List (Rent Fraction)) → map (λ r. r.row) rs ≡ map (λ d. d.row) ds → All (λ (r : Rent Fraction). zero ≤ℚ r.over) rs → AllByRecursion IsEntry (zip ds rs)
are_entries [] rs e o = tt
are_entries (d ∷ ds) [] e o = tt
are_entries (d ∷ ds) (r ∷ rs) e o =
    let behind : map (λ r. r.row) rs ≡ map (λ d. d.row) ds = Prim.cc in
    (record { row = Prim.cc; over = o 0 r (Prim.omega arith) }, are_entries ds rs behind (All-tail (λ (s : Rent Fraction). zero ≤ℚ s.over) r rs o))

pub as_many : (ds : List (Dual Fraction)) (rs : List (Rent Fraction)) → map (λ r. r.row) rs ≡ map (λ d. d.row) ds → length rs ≡ length ds
as_many ds rs e = sym (length-map rs (λ (r : Rent Fraction). r.row)) ∙ ap length e ∙ length-map ds (λ (d : Dual Fraction). d.row)

-- the limits of an answer
pub rents_apart : (ds es : List (Dual Fraction)) (rs ss : List (Rent Fraction)) → map (λ r. r.row) rs ≡ map (λ d. d.row) ds → map (λ r. r.row) ss ≡ map (λ d. d.row) es → All (λ (r : Rent Fraction). zero ≤ℚ r.over) rs → All (λ (r : Rent Fraction). zero ≤ℚ r.over) ss → (us vs : List ℕ) → EndsLimits us → EndsLimits vs
    → flat_map entry_text (zip ds rs) ++ us ≡ flat_map entry_text (zip es ss) ++ vs → (ds ≡ es) × (rs ≡ ss) × (us ≡ vs)
rents_apart ds es rs ss p q o w us vs g h e =
    let t = lines_end entry_text IsEntry EndsLimits entry_apart (λ x g. entry_begins x) (zip ds rs) (zip es ss) (are_entries ds rs p o) (are_entries es ss q w) us vs g h e in (
      sym (firsts-zip ds rs (as_many ds rs p)) ∙ ap (map (λ (x : Entry). x.0)) t.0 ∙ firsts-zip es ss (as_many es ss q),
      sym (seconds-zip ds rs (as_many ds rs p)) ∙ ap (map (λ (x : Entry). x.1)) t.0 ∙ seconds-zip es ss (as_many es ss q),
      t.1,
    )
