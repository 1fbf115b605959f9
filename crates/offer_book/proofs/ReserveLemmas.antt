-- What the records of a table of reserves give, one record more, and what is kept of it.
use Rattle.std.proofs.Common.{◌≡◌, ◌≢◌, ℕ, zero, suc, ◌≤◌, ◌<◌, ◌+◌, ◌∙◌, ◌++◌, ◌∷◌, [], List, length, map, get_or, drop, arith, refl, sym, ap, subst, All, Option, Some, None, Ok, Err, Bool, true, false, ℤ, pos, ◌==◌, length-append}
use Rattle.std.specs.Prelude.{AllPairs, IfSome, ◌≤ℤ◌, ◌||◌, eqb}
use Rattle.std.specs.List.{list_any}
use Rattle.std.specs.Option.{unwrap_or}
use Rattle.std.proofs.Math.Logic.{⊎_elim}
use Rattle.std.proofs.Math.Seq.{get_or-append_seam}
use Rattle.std.proofs.lemmas.Bool.{cases_lt, eq-eqb, eqb-true, false≢true, lt-ltb}
use Rattle.std.proofs.lemmas.Bool.Decides.{Decides-eqb}
use Rattle.std.proofs.lemmas.List.{drop_all, drop_more, get_or_append_left, length-map}
use Rattle.std.proofs.lemmas.List.Elements.{All-append, All-cons, All-nil}
use Rattle.std.proofs.lemmas.Map.Steps.{length-le_from_distinct_below}
use Rattle.std.proofs.lemmas.Map.Made.{IsDistinct-from_AllPairs}
use Rattle.market_data.specs.Scales.{most_units}
use Rattle.market_data.specs.declared.participants.UnitList.{UnitList}
use Rattle.market_model.specs.declared.participants.ReserveOffer.{ReserveOffer}
use Rattle.market_model.specs.Market.{IsReserve, IsReserveOffer}
use Rattle.market_model.specs.Reserves.{no_reserve, offers_among}
use Rattle.record_reading.specs.Records.{Record}
use Rattle.offer_book.specs.declared.reserve_reading.Entry.{Entry}
use Rattle.offer_book.specs.declared.reserve_reading.Entry.TheVariants as entry
use Rattle.offer_book.specs.declared.reserve_reading.Found.{Found}
use Rattle.offer_book.specs.declared.reserve_reading.ReserveFault.{ReserveFault}
use Rattle.offer_book.specs.Reserving.{AreFound, IsEntry, entry_in, found_from, found_with, nothing_found, reserve_from}

module _ (units : UnitList) where
  -- the record at i is read, and the others follow in the light of it
  pub found-step : (found : Found) (line : ℕ) (rows : List Record) (i : ℕ) (more : Entry) → i < length rows → entry_in units found line (get_or rows i []) ≡ Ok more
      → found_from units found line (drop i rows) ≡ found_from units (found_with found more) (line + 1) (drop (i + 1) rows)
  unfolding found_from
  found-step found line rows i more lt reads = rw (drop_more rows i [] lt, reads) refl

  -- the record at i is at fault
  pub found-fault : (found : Found) (line : ℕ) (rows : List Record) (i : ℕ) (error : ReserveFault) → i < length rows → entry_in units found line (get_or rows i []) ≡ Err error
      → found_from units found line (drop i rows) ≡ Err error
  unfolding found_from
  found-fault found line rows i error lt reads = rw (drop_more rows i [] lt, reads) refl

  -- no record is left
  pub found-end : (found : Found) (line : ℕ) (rows : List Record) (i : ℕ) → length rows ≤ i → found_from units found line (drop i rows) ≡ Ok found
  unfolding found_from
  found-end found line rows i le = rw (drop_all i rows le) refl

  -- without a record there is nothing
  pub found-empty : (rows : List Record) (found : Found) → found_from units nothing_found 2 rows ≡ Ok found → length rows ≡ 0 → found ≡ nothing_found
  unfolding found_from
  found-empty [] found is none = cc
  found-empty (r ∷ rows) found is none = cc

-- ---- units with an offer
behind : (first rest : Bool) → (first || rest) ≡ false → rest ≡ false
behind true rest none = cc
behind false rest none = none

-- a unit without an offer is apart from those of the offers
new_unit : (offers : List ReserveOffer) (u i d : ℕ) → offers_among offers u ≡ false → i < length offers → get_or (map (λ offer. offer.unit) offers) i d ≢ u
new_unit [] u i d none lt is = absurd (omega (arith, lt))
new_unit (o ∷ os) u zero d none lt is =
    let same : (o.unit == u) ≡ true = eq-eqb o.unit u is in
    cc (same, none)
new_unit (o ∷ os) u (suc i) d none lt is = new_unit os u i d (behind (o.unit == u) (offers_among os u) none) (omega (arith, lt)) is

-- a number more, apart from those before it
apart-push : (xs : List ℕ) (x : ℕ) → AllPairs (λ a b. a ≢ b) xs → ((i d : ℕ) → i < length xs → get_or xs i d ≢ x) → AllPairs (λ a b. a ≢ b) (xs ++ x ∷ [])
apart-push xs x apart new i j d lt within equal =
    let size : length (xs ++ x ∷ []) ≡ length xs + 1 = length-append xs (x ∷ []) in
    let early : i < length xs = omega (arith, lt, within, size) in
    let first = get_or_append_left xs (x ∷ []) d i early in
    ⊎_elim
    (λ old. apart i j d lt old (sym first ∙ equal ∙ get_or_append_left xs (x ∷ []) d j old))
    (λ past.
    let last : j ≡ length xs = omega (arith, past, within, size) in
    let second : get_or (xs ++ x ∷ []) j d ≡ x = rw last (get_or-append_seam xs x [] d) in
    new i d early (sym first ∙ equal ∙ second))
    (cases_lt j (length xs))

units-more : (offers : List ReserveOffer) (offer : ReserveOffer) → map (λ (o : ReserveOffer). o.unit) (offers ++ offer ∷ []) ≡ map (λ (o : ReserveOffer). o.unit) offers ++ offer.unit ∷ []
units-more [] offer = refl
units-more (o ∷ os) offer = ap (λ l. o.unit ∷ l) (units-more os offer)

-- ---- what is kept
pub found-none : (units : ℕ) → AreFound units nothing_found
found-none units = record { each = All-nil _; distinct = λ i j d lt within. absurd (omega (arith, within)); need = tt }

pub found-push : (units : ℕ) (found : Found) (more : Entry) → AreFound units found → IsEntry units found more → AreFound units (found_with found more)
found-push units found entry.Dropped are is = are
found-push units found (entry.Offer offer) are is = record {
  each = All-append (IsReserveOffer units) found.offers (offer ∷ []) are.each (All-cons (IsReserveOffer units) offer [] is.0 (All-nil _));
  distinct = rw (units-more found.offers offer) (apart-push (map (λ (o : ReserveOffer). o.unit) found.offers) offer.unit are.distinct
      (λ i d lt. new_unit found.offers offer.unit i d is.1 (rw length-map at lt)));
  need = are.need;
}
found-push units found (entry.Need mw) are is = record { each = are.each; distinct = are.distinct; need = is }

-- a unit of the offers is one of the units
below : (units : ℕ) (offers : List ReserveOffer) → All (IsReserveOffer units) offers → (q : ℕ) → list_any (eqb q) (map (λ (o : ReserveOffer). o.unit) offers) ≡ true → q < units
below units [] each q is = absurd (false≢true is)
below units (o ∷ os) each q is = by (eqb q o.unit) refl (below units os (λ k d lt. each (suc k) d (omega (arith, lt))) q)
  where
    by : (t : Bool) → eqb q o.unit ≡ t → (list_any (eqb q) (map (λ (o : ReserveOffer). o.unit) os) ≡ true → q < units) → q < units
    by true same rest = subst (λ m. m < units) (sym (eqb-true q o.unit same)) ((each 0 o (omega arith)).unit)
    by false apart rest = rest (rw apart at is)

-- units with an offer are no more than the units
few : (units : ℕ) (found : Found) → AreFound units found → length found.offers ≤ units
few units found are =
    let count = length-le_from_distinct_below (map (λ (o : ReserveOffer). o.unit) found.offers) units (IsDistinct-from_AllPairs Decides-eqb (map (λ (o : ReserveOffer). o.unit) found.offers) are.distinct) (below units found.offers are.each) in
    rw length-map at count

need-above : (need : Option ℤ) → IfSome need (λ mw. pos 0 ≤ℤ mw) → pos 0 ≤ℤ unwrap_or need (pos 0)
need-above None is = omega arith
need-above (Some mw) is = is

unlisted : (count : ℕ) (found : Found) → (count ≡ 0 → found ≡ nothing_found) → (reserve_from count found).listed ≡ false → reserve_from count found ≡ no_reserve
unlisted zero found empty is = rw (empty refl) refl
unlisted (suc n) found empty is = absurd (false≢true (sym is ∙ lt-ltb 0 (suc n) (omega arith)))

pub found-reserve : (units count : ℕ) (found : Found) → units ≤ most_units → AreFound units found → (count ≡ 0 → found ≡ nothing_found) → IsReserve units (reserve_from count found)
found-reserve units count found le are empty = record {
  count = let most = few units found are in omega (arith, most, le);
  each = are.each;
  distinct = are.distinct;
  need = need-above found.need are.need;
  unlisted = unlisted count found empty;
}
