-- The lines of reserve are of what they tell.
use Rattle.std.specs.Prelude.{◌≡◌, ◌≢◌, ℕ, ℤ, All, Bool, true, false, List, [], ◌∷◌, ◌++◌, codes, decimal, if◌then◌else◌, refl}
use Rattle.std.specs.List.{AllByRecursion}
use Rattle.std.proofs.Common.{arith, ap, sym, ◌∙◌, subst, append_assoc}
use Rattle.std.proofs.lemmas.List.{append_cancel_left}
use Rattle.std.proofs.lemmas.List.Elements.{All-tail}
use Rattle.fraction_theory.specs.Fraction.{Fraction}
use Rattle.fraction_theory.specs.Order.{◌<ℚ◌}
use Rattle.fraction_theory.specs.Signs.{sign_of}
use Rattle.fraction_theory.specs.declared.Sign.{Sign}
use Rattle.fraction_theory.specs.declared.Sign.TheVariants.{Below, Zero, Above}
use Rattle.fraction_theory.proofs.OrderLaws.{<ℚ-not-≤ℚ, <ℚ-≤ℚ, <ℚ_irrefl}
use Rattle.fraction_theory.proofs.SignLaws.{sign_of_is}
use Rattle.exact_fraction.specs.Written.{number_text, written}
use Rattle.line_text.specs.Decimals.{decimal_text}
use Rattle.market_data.specs.Scales.{money_places, mw_places, price_places}
use Rattle.market_model.specs.declared.answered.ReservePay.{ReservePay}
use Rattle.market_model.specs.declared.answered.RoomDual.{RoomDual}
use Rattle.market_model.specs.Dispatch.{zero}
use Rattle.report_text.specs.Reports.{need_text, plain_reserve_text, room_text, room_text_by, lines_of_rooms, offer_text}
use Rattle.report_text.proofs.Amounts.{named_apart, number_apart, one_apart, two_apart}
use Rattle.report_text.proofs.LimitReading.{EndsLimits, lines_end}

-- ---- the price of reserve
-- it is told where reserve is listed, and is 0 where not
module _ (listed : Bool) (need : ℤ) (x y : Fraction) (p : listed ≡ false → x ≡ zero) (q : listed ≡ false → y ≡ zero) (us vs : List ℕ) where
  abbrev need_words : List ℕ
  need_words = codes "need " ++ decimal_text mw_places need ++ codes "\n"

  price_told : codes "reserve price " ++ (written price_places x ++ 32 ∷ (need_words ++ us)) ≡ codes "reserve price " ++ (written price_places y ++ 32 ∷ (need_words ++ vs)) → (x ≡ y) × (us ≡ vs)
  price_told e =
      let t = named_apart (codes "reserve price ") price_places 32 x y (need_words ++ us) (need_words ++ vs) (Prim.omega arith) e in
      (t.0, append_cancel_left need_words us vs t.1)

  pub needs_apart : need_text listed need x ++ us ≡ need_text listed need y ++ vs → (x ≡ y) × (us ≡ vs)
  unfolding need_text
  needs_apart e = by_test listed refl e
    where
      line : Fraction → List ℕ
      line z = codes "reserve price " ++ written price_places z ++ codes " need " ++ decimal_text mw_places need ++ codes "\n"

      in_order : (a xs c d n ts : List ℕ) → (a ++ xs ++ (32 ∷ c) ++ d ++ n) ++ ts ≡ a ++ (xs ++ 32 ∷ ((c ++ d ++ n) ++ ts))
      in_order a xs c d n ts = Prim.simp append_assoc

      opened : (z : Fraction) (ts : List ℕ) → line z ++ ts ≡ codes "reserve price " ++ (written price_places z ++ 32 ∷ (need_words ++ ts))
      opened z ts = in_order (codes "reserve price ") (written price_places z) (codes "need ") (decimal_text mw_places need) (codes "\n") ts

      by_test : (b : Bool) → listed ≡ b → (if b then line x else []) ++ us ≡ (if b then line y else []) ++ vs → (x ≡ y) × (us ≡ vs)
      by_test true h e = price_told (sym (opened x us) ∙ e ∙ opened y vs)
      by_test false h e = (p h ∙ sym (q h), e)

pub prices_apart : (listed : Bool) (x y : Fraction) → (listed ≡ false → x ≡ zero) → (listed ≡ false → y ≡ zero) → (us vs : List ℕ) → plain_reserve_text listed x ++ us ≡ plain_reserve_text listed y ++ vs → (x ≡ y) × (us ≡ vs)
unfolding plain_reserve_text
prices_apart true x y p q us vs e = one_apart (codes "reserve dual ") 0 x y us vs e
prices_apart false x y p q us vs e = (p refl ∙ sym (q refl), e)

-- ---- rooms
-- the third letter is not that of `room`
abbrev pub EndsRooms : List ℕ → Type 0
EndsRooms [] = Unit {0}
EndsRooms (c ∷ []) = Unit {0}
EndsRooms (c ∷ d ∷ []) = Unit {0}
EndsRooms (c ∷ d ∷ e ∷ us) = e ≢ 111

-- no line of a limit or of a room comes next
abbrev pub EndsDuals : List ℕ → Type 0
EndsDuals us = EndsLimits us × EndsRooms us

-- it has a price
abbrev IsPriced : RoomDual Fraction → Type 0
IsPriced d = zero <ℚ d.price

is_above : (x : Fraction) → zero <ℚ x → sign_of x ≡ Above
is_above x h = by_sign (sign_of x) refl
  where
    by_sign : (s : Sign) → s ≡ sign_of x → s ≡ Above
    by_sign Below e = absurd (<ℚ-not-≤ℚ x zero (sign_of_is x Below e) (<ℚ-≤ℚ zero x h))
    by_sign Zero e = absurd (<ℚ_irrefl zero (subst (λ (a : Fraction). zero <ℚ a) (sign_of_is x Zero e) h))
    by_sign Above e = refl

same_room : (d e : RoomDual Fraction) → d.unit ≡ e.unit → d.price ≡ e.price → d ≡ e
same_room d e p q = λ i. record { unit = p i; price = q i }

module _ (k : ℕ) where
  room_opened : (d : RoomDual Fraction) → IsPriced d → (ts : List ℕ) → room_text k d ++ ts ≡ codes "room " ++ (number_text d.unit ++ 32 ∷ (codes "dual " ++ (written k d.price ++ 10 ∷ ts)))
  room_opened d h ts =
      ap (λ (s : Sign). room_text_by s k d ++ ts) (is_above d.price h)
      ∙ in_order (codes "room ") (number_text d.unit) (codes "dual ") (written k d.price) ts
    where
      in_order : (a x c y ts : List ℕ) → (a ++ x ++ (32 ∷ c) ++ y ++ 10 ∷ []) ++ ts ≡ a ++ (x ++ 32 ∷ (c ++ (y ++ 10 ∷ ts)))
      in_order a x c y ts = Prim.simp append_assoc

  room_apart : (d e : RoomDual Fraction) → IsPriced d → IsPriced e → (us vs : List ℕ) → room_text k d ++ us ≡ room_text k e ++ vs → (d ≡ e) × (us ≡ vs)
  room_apart d e g h us vs told =
      let unit = number_apart d.unit e.unit (codes "dual " ++ (written k d.price ++ 10 ∷ us)) (codes "dual " ++ (written k e.price ++ 10 ∷ vs))
      (append_cancel_left (codes "room ") _ _ (sym (room_opened d g us) ∙ told ∙ room_opened e h vs)) in
      let price = named_apart (codes "dual ") k 10 d.price e.price us vs (Prim.omega arith) unit.1 in
      (same_room d e unit.0 price.0, price.1)

  room_begins : (d : RoomDual Fraction) → IsPriced d → (us : List ℕ) → EndsRooms (room_text k d ++ us) → ⊥
  room_begins d h us ends = let letter : 111 ≢ 111 = subst EndsRooms (room_opened d h us) ends in letter refl

  are_priced : (ds : List (RoomDual Fraction)) → All IsPriced ds → AllByRecursion IsPriced ds
  are_priced [] o = tt
  are_priced (d ∷ ds) o = (o 0 d (Prim.omega arith), are_priced ds (All-tail IsPriced d ds o))

  -- all lines of rooms, and what comes after them
  pub rooms_apart : (ds es : List (RoomDual Fraction)) → All IsPriced ds → All IsPriced es → (us vs : List ℕ) → EndsRooms us → EndsRooms vs → lines_of_rooms k ds ++ us ≡ lines_of_rooms k es ++ vs → (ds ≡ es) × (us ≡ vs)
  rooms_apart ds es p q us vs g h e = lines_end (room_text k) IsPriced EndsRooms room_apart room_begins ds es (are_priced ds p) (are_priced es q) us vs g h e

  -- the second letter of `room` is not that of `limit`
  no_limit : (c d : ℕ) → c ≡ 111 → d ≡ 105 → c ≢ d
  no_limit c d p q e = Prim.omega (arith, p, q, e)

  -- no line of a limit follows where rooms do
  pub rooms_follow : (ds : List (RoomDual Fraction)) → All IsPriced ds → (us : List ℕ) → EndsLimits us → EndsLimits (lines_of_rooms k ds ++ us)
  rooms_follow [] p us h = h
  rooms_follow (d ∷ ds) p us h =
      subst EndsLimits (sym (append_assoc (room_text k d) (lines_of_rooms k ds) us ∙ room_opened d (p 0 d (Prim.omega arith)) (lines_of_rooms k ds ++ us))) (no_limit 111 105 refl refl)

-- ---- offers
same_pay : (p q : ReservePay Fraction) → p.mw ≡ q.mw → p.paid ≡ q.paid → p ≡ q
same_pay p q e f = λ i. record { mw = e i; paid = f i }

pub offer_apart : (row : ℕ) (p q : ReservePay Fraction) (us vs : List ℕ) → offer_text row p ++ us ≡ offer_text row q ++ vs → (p ≡ q) × (us ≡ vs)
unfolding offer_text
offer_apart row p q us vs h =
    let t = two_apart (codes "reserve " ++ decimal row ++ codes " mw ") mw_places money_places 32 (codes "paid ") p.mw q.mw p.paid q.paid us vs (Prim.omega arith) h in
    (same_pay p q t.0 t.1, t.2)

pub offer_ends : (row : ℕ) (pay : ReservePay Fraction) (us : List ℕ) → EndsDuals (offer_text row pay ++ us)
unfolding offer_text
offer_ends row pay us = (λ e. Prim.omega (arith, e), λ e. Prim.omega (arith, e))
