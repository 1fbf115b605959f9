-- Draws: one more, and how great what is drawn may be.
use Rattle.std.proofs.Common.{◌≡◌, ◌≤◌, ◌+◌, ◌*◌, ◌/◌, ◌%◌, ◌^◌, ◌∙◌, refl, ap, arith, suc, ℕ}
use Rattle.case_maker.specs.Rings.{draw, drawn, next_state, state}
use Rattle.case_maker.specs.declared.draws.Drawn.{Drawn}

-- the state after the next draw
state-more : (seed k next : ℕ) (old new : ℕ) → k + 1 ≡ next → old ≡ state seed k → new ≡ next_state old → new ≡ state seed next
unfolding state
state-more seed k next old new e is step = step ∙ ap next_state is ∙ ap (state seed) (let f : suc k ≡ next = omega (arith, e) in f)

-- the states of the four draws of a bus
pub record AreStates (seed i first second third fourth : ℕ) : Type 0 where
  pub first_is : first ≡ state seed (4 * i + 1)
  pub second_is : second ≡ state seed (4 * i + 2)
  pub third_is : third ≡ state seed (4 * i + 3)
  pub fourth_is : fourth ≡ state seed (4 * i + 4)

pub four-states : (seed i start first second third fourth : ℕ) → start ≡ state seed (4 * i)
    → first ≡ next_state start → second ≡ next_state first → third ≡ next_state second → fourth ≡ next_state third → AreStates seed i first second third fourth
four-states seed i start first second third fourth e a b c d =
    let p : first ≡ state seed (4 * i + 1) = state-more seed (4 * i) (4 * i + 1) start first (omega arith) e a in
    let q : second ≡ state seed (4 * i + 2) = state-more seed (4 * i + 1) (4 * i + 2) first second (omega arith) p b in
    let r : third ≡ state seed (4 * i + 3) = state-more seed (4 * i + 2) (4 * i + 3) second third (omega arith) q c in
    record { first_is = p; second_is = q; third_is = r; fourth_is = state-more seed (4 * i + 3) (4 * i + 4) third fourth (omega arith) r d }

pub state-behind : (seed i first second third fourth : ℕ) → AreStates seed i first second third fourth → fourth ≡ state seed (4 * (i + 1))
state-behind seed i first second third fourth h = h.fourth_is ∙ ap (state seed) (let e : 4 * i + 4 ≡ 4 * (i + 1) = omega arith in e)

-- what is drawn, by the upper bits of the states
pub drawn-by_states : (seed i first second third fourth a b c d : ℕ) → AreStates seed i first second third fourth
    → a ≡ first / 2 ^ 33 → b ≡ second / 2 ^ 33 → c ≡ third / 2 ^ 33 → d ≡ fourth / 2 ^ 33
    → (let made : Drawn = record {
      load = 10 + a % 41;
      first_price = 10 + b % 91;
      second_price = 10 + b % 91 + c % 50;
      base_limit = 20 + d % 40;
      post_limit = 20 + d % 40 + 20;
    } in made ≡ drawn seed i)
unfolding draw
drawn-by_states seed i first second third fourth a b c d h p q r s =
    rw (p, q, r, s, h.first_is, h.second_is, h.third_is, h.fourth_is) refl

-- in MW and per MWh
pub record IsSmall (d : Drawn) : Type 0 where
  pub load : d.load ≤ 50
  pub first_price : d.first_price ≤ 100
  pub second_price : d.second_price ≤ 149
  pub base_limit : d.base_limit ≤ 59
  pub post_limit : d.post_limit ≤ 79

pub drawn-small : (seed i : ℕ) → IsSmall (drawn seed i)
drawn-small seed i = record {
  load = omega arith;
  first_price = omega arith;
  second_price = omega arith;
  base_limit = omega arith;
  post_limit = omega arith;
}
