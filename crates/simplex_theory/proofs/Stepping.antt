-- Where a basic variable leaves and another enters there is a step.
use Rattle.std.specs.Prelude.{◌≡◌, ◌≢◌, ℕ, pos, Bool, ◌==◌, if◌then◌else◌, refl}
use Rattle.std.specs.List.{Contains}
use Rattle.std.proofs.Common.{ap, sym, ◌∙◌, subst}
use Rattle.fraction_theory.specs.Fraction.{Fraction, whole, ◌+ℚ◌, ◌*ℚ◌}
use Rattle.fraction_theory.proofs.OrderLaws.{<ℚ_irrefl}
use Rattle.fraction_theory.specs.Order.{◌<ℚ◌}
use Rattle.fraction_theory.proofs.ListSums.{put_at-here, put_at-elsewhere}
use Rattle.linear_system.specs.Systems.{System}
use Rattle.linear_system.specs.Choices.{Choice, basics, others, IsChoice, OneExchange}
use Rattle.linear_system.specs.Exchanges.{exchanged}
use Rattle.linear_system.proofs.ChoiceLaws.{others_are, basics_are}
use Rattle.linear_system.proofs.ExchangeLaws.{exchanged_is, exchanged_once}
use Rattle.simplex_theory.specs.States.{State, IsPosed}
use Rattle.simplex_theory.specs.Steps.{Leaves, Enters, IsStep, violated_bound, displacement}
use Rattle.simplex_theory.specs.Stepped.{stepped, stepped_choice}
use Rattle.simplex_theory.proofs.Signs.{abs_nil}
use Rattle.simplex_theory.proofs.Stretches.{two_answers}
use Rattle.simplex_theory.proofs.LeastRatio.{help_above}
use Rattle.simplex_theory.proofs.Exchanges.{other_not_leaving}
use Rattle.fraction_theory.specs.Signs.{abs_ℚ}

-- a choice stays one whatever bounds its others stand at
pub choice_at_bounds : (s : System) (h : Choice) (high : ℕ → Bool) → IsChoice s h → IsChoice s (record h { high = high })
unfolding basics others
choice_at_bounds s h high c = record {
  to_table = λ v m. record { basic = (c.to_table v m).basic };
  to_rows = λ v m. c.to_rows v (record { basic = m.basic });
}

module _ (s : System) (S : State) (v k : ℕ) (above : Bool) (posed : IsPosed s S) (leaves : Leaves s S v above) (enters : Enters s S v above k) where
  entry_not_nil : S.choice.entry v k ≢ whole (pos 0)
  entry_not_nil e = <ℚ_irrefl (whole (pos 0)) (subst (λ t. whole (pos 0) <ℚ t) (ap abs_ℚ e ∙ abs_nil) (help_above s S v above k enters.helps))

  T : State
  T = stepped s S v k above

  exchange : OneExchange s S.choice T.choice v k
  unfolding T stepped stepped_choice
  exchange =
      let x = exchanged_once s posed.system S.choice v k leaves.basic enters.helps.other in
      record { leaving = x.leaving; entering = x.entering; leaves = x.leaves; enters = x.enters; stays = x.stays }

  choice : IsChoice s T.choice
  unfolding T stepped stepped_choice
  choice = choice_at_bounds s (exchanged S.choice v k) (λ w. if w == v then above else S.choice.high w) (exchanged_is s posed.system S.choice v k posed.choice leaves.basic enters.helps.other entry_not_nil)

  flag : T.choice.high v ≡ above
  unfolding T stepped stepped_choice
  flag = put_at-here v above S.choice.high v refl

  flags : (w : ℕ) → Contains (others s S.choice) w → T.choice.high w ≡ S.choice.high w
  unfolding T stepped stepped_choice
  flags w c = put_at-elsewhere v above S.choice.high w (other_not_leaving s S.choice T.choice v k exchange w c)

  -- the values but v's
  new_value : ℕ → Fraction
  new_value w = if T.choice.basic w then S.value w +ℚ T.choice.entry w v *ℚ displacement s S v above else S.value w

  value_leaving : T.value v ≡ violated_bound s v above
  unfolding T stepped stepped_choice new_value
  value_leaving = put_at-here v (violated_bound s v above) new_value v refl

  value_elsewhere : (w : ℕ) → w ≢ v → T.value w ≡ new_value w
  unfolding T stepped stepped_choice new_value
  value_elsewhere w n = put_at-elsewhere v (violated_bound s v above) new_value w n

  value_basic : (b : ℕ) → Contains (basics s T.choice) b → T.value b ≡ S.value b +ℚ T.choice.entry b v *ℚ displacement s S v above
  unfolding new_value
  value_basic b c =
      let basic = (basics_are s T.choice b c).1 in
      value_elsewhere b (λ e. two_answers (T.choice.basic v) (ap T.choice.basic (sym e) ∙ basic) exchange.leaves.1)
      ∙ ap (λ (t : Bool). if t then S.value b +ℚ T.choice.entry b v *ℚ displacement s S v above else S.value b) basic

  value_other : (w : ℕ) → Contains (others s T.choice) w → w ≢ v → T.value w ≡ S.value w
  unfolding new_value
  value_other w c n = value_elsewhere w n ∙ ap (λ (t : Bool). if t then S.value w +ℚ T.choice.entry w v *ℚ displacement s S v above else S.value w) (others_are s T.choice w c).1

  price_is : (w : ℕ) → T.reduced w ≡ (if T.choice.basic w then whole (pos 0) else S.reduced w +ℚ S.reduced k *ℚ T.choice.entry k w)
  unfolding T stepped
  price_is w = refl

  -- From a posed state in which v leaves and k enters there is a step.
  pub stepped_is : IsStep s S (stepped s S v k above) v k above
  unfolding T
  stepped_is = record {
    leaves = leaves;
    enters = enters;
    exchanged = record { exchange = exchange; choice = choice; flag = flag; flags = λ w c n. flags w c };
    moved = record {
      leaving = value_leaving;
      stay = value_other;
      basic = value_basic;
      priced = λ w c. price_is w ∙ ap (λ (t : Bool). if t then whole (pos 0) else S.reduced w +ℚ S.reduced k *ℚ T.choice.entry k w) (others_are s T.choice w c).1;
      unpriced = λ b c. price_is b ∙ ap (λ (t : Bool). if t then whole (pos 0) else S.reduced b +ℚ S.reduced k *ℚ T.choice.entry k b) (basics_are s T.choice b c).1;
    };
  }
