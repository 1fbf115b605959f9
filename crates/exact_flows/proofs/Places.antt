-- Which bus is which column, and which row stands where.
use Rattle.std.specs.Prelude.{◌≡◌, ◌≢◌, ℕ, ◌+◌, ◌-◌, ◌<◌, ◌≤◌, Bool, true, false, if◌then◌else◌, nat_lt, refl}
use Rattle.std.proofs.Common.{arith, ap, ◌∙◌, inl, inr}
use Rattle.std.proofs.lemmas.Bool.{lt-ltb, ltb-true}
use Rattle.exact_flows.specs.Building.{bus_of, column_place, row_at}
use Rattle.exact_flows.specs.declared.rows.Row.TheVariants.{Flow, Injection}
use Rattle.linear_dict.proofs.NameLemmas.{lt_or_le}

pub is_below : (a b : ℕ) → a < b → nat_lt a b ≡ true
is_below a b h = lt-ltb a b h

pub not_below : (a b : ℕ) → b ≤ a → nat_lt a b ≡ false
not_below a b h = by_bool (nat_lt a b) refl
  where
    by_bool : (t : Bool) → nat_lt a b ≡ t → nat_lt a b ≡ false
    by_bool true e = let l : a < b = ltb-true a b e in absurd (Prim.omega (arith, l, h))
    by_bool false e = e

-- the bus of a column
pub bus_before : (reference c : ℕ) → c < reference → bus_of reference c ≡ c
unfolding bus_of
bus_before reference c h = ap (λ (b : Bool). if b then c else c + 1) (is_below c reference h)

pub bus_after : (reference c : ℕ) → reference ≤ c → bus_of reference c ≡ c + 1
unfolding bus_of
bus_after reference c h = ap (λ (b : Bool). if b then c else c + 1) (not_below c reference h)

pub place_before : (reference i : ℕ) → i < reference → column_place reference i ≡ i
unfolding column_place
place_before reference i h = ap (λ (b : Bool). if b then i else i - 1) (is_below i reference h)

pub place_after : (reference i : ℕ) → reference ≤ i → column_place reference i ≡ i - 1
unfolding column_place
place_after reference i h = ap (λ (b : Bool). if b then i else i - 1) (not_below i reference h)

-- it is one of the others
pub bus_is : (buses reference c : ℕ) → c + 1 < buses → (bus_of reference c < buses) × (bus_of reference c ≢ reference)
bus_is buses reference c h = elim (lt_or_le c reference) [
  | inl l ↦ let e = bus_before reference c l in (Prim.omega (arith, e, h), λ f. Prim.omega (arith, e, f, l))
  | inr l ↦ let e = bus_after reference c l in (Prim.omega (arith, e, h), λ f. Prim.omega (arith, e, f, l))
]

-- and each of the others has its column
pub place_is : (buses reference i : ℕ) → reference < buses → i < buses → i ≢ reference → (column_place reference i + 1 < buses) × (bus_of reference (column_place reference i) ≡ i)
place_is buses reference i r h d = elim (lt_or_le i reference) [
  | inl l ↦
      let e = place_before reference i l in
      (Prim.omega (arith, e, l, r), ap (bus_of reference) e ∙ bus_before reference i l)
  | inr l ↦
      let e = place_after reference i l in
      let above : reference < i = elim (lt_or_le i reference) [ inl x ↦ absurd (Prim.omega (arith, x, l)) | inr _ ↦ beyond i reference l d ] in
      let later : reference ≤ i - 1 = Prim.omega (arith, above) in
      let back : i - 1 + 1 ≡ i = Prim.omega (arith, above) in
      (Prim.omega (arith, e, h, above), ap (bus_of reference) e ∙ bus_after reference (i - 1) later ∙ back)
]
  where
    beyond : (a b : ℕ) → b ≤ a → a ≢ b → b < a
    beyond a b l n = elim (lt_or_le b a) [ inl x ↦ x | inr x ↦ absurd (n (Prim.omega (arith, l, x))) ]

-- columns of one bus are one
pub bus_apart : (reference c e : ℕ) → bus_of reference c ≡ bus_of reference e → c ≡ e
bus_apart reference c e same = elim (lt_or_le c reference) [
  | inl l ↦ elim (lt_or_le e reference) [
    | inl m ↦ Prim.omega (arith, bus_before reference c l, bus_before reference e m, same)
    | inr m ↦ Prim.omega (arith, bus_before reference c l, bus_after reference e m, same, l, m)
  ]
  | inr l ↦ elim (lt_or_le e reference) [
    | inl m ↦ Prim.omega (arith, bus_after reference c l, bus_before reference e m, same, l, m)
    | inr m ↦ Prim.omega (arith, bus_after reference c l, bus_after reference e m, same)
  ]
]

-- the row at a place
pub row_before : (branches reference k : ℕ) → k < branches → row_at branches reference k ≡ Flow k
unfolding row_at
row_before branches reference k h = ap (λ (b : Bool). if b then Flow k else Injection (bus_of reference (k - branches))) (is_below k branches h)

pub row_after : (branches reference k : ℕ) → branches ≤ k → row_at branches reference k ≡ Injection (bus_of reference (k - branches))
unfolding row_at
row_after branches reference k h = ap (λ (b : Bool). if b then Flow k else Injection (bus_of reference (k - branches))) (not_below k branches h)
