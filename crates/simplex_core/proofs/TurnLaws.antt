-- A turned dictionary is the state after a step.
use Rattle.std.specs.Prelude.{◌≡◌, ◌≢◌, ℕ, ◌<◌, pos, Bool, true, false, List, length, map, slice_index, slice_set, if◌then◌else◌, refl}
use Rattle.std.specs.List.{Contains}
use Rattle.std.proofs.Common.{ap, sym, ◌∙◌, subst, inl, inr}
use Rattle.std.proofs.lemmas.List.{length-map}
use Rattle.fraction_theory.specs.Fraction.{Fraction, whole, ◌+ℚ◌, ◌*ℚ◌}
use Rattle.fraction_theory.specs.Order.{◌<ℚ◌}
use Rattle.fraction_theory.proofs.ListSums.{same_or_not}
use Rattle.fraction_theory.proofs.OrderLaws.{<ℚ_irrefl}
use Rattle.linear_system.specs.Systems.{System}
use Rattle.linear_system.specs.Choices.{basics, others, IsChoice, OneExchange}
use Rattle.linear_system.specs.Exchanges.{exchanged}
use Rattle.linear_system.proofs.ChoiceLaws.{basics_are, others_are}
use Rattle.linear_system.proofs.ExchangeLaws.{exchanged_once}
use Rattle.linear_dict.specs.Dictionaries.{Dictionary, IsDictionary, system_in, choice_of, entry_of, note_of, pivoted}
use Rattle.linear_dict.specs.Notes.{Noted}
use Rattle.linear_dict.specs.Places.{place_in}
use Rattle.linear_dict.proofs.NameLemmas.{place_in-within, among-from, among-tells}
use Rattle.linear_dict.proofs.SplitLemmas.{set-has, system_is, in_basics, in_others}
use Rattle.linear_dict.proofs.ExchangeLemmas.{pivoted_dictionary, pivoted_basic}
use Rattle.simplex_theory.specs.States.{IsPosed}
use Rattle.simplex_theory.specs.Steps.{Leaves, Enters, IsStep, violated_bound, displacement}
use Rattle.simplex_theory.proofs.Signs.{abs_nil}
use Rattle.simplex_theory.proofs.LeastRatio.{help_above}
use Rattle.simplex_theory.proofs.Exchanges.{other_after, other_not_leaving}
use Rattle.simplex_theory.proofs.Posing.{step_posed}
use Rattle.simplex_core.specs.States.{state_of, IsReady}
use Rattle.simplex_core.specs.Turns.{moved_note, noted_anew, turned}
use Rattle.simplex_core.proofs.NoteLaws.{named_or_not, note_anew, note_unnamed, system_stays, renoted_dictionary}
use Rattle.simplex_core.proofs.MoveLemmas.{note_with, moved-basic, moved-leaving, moved-staying}
use Rattle.fraction_theory.specs.Signs.{abs_ℚ}

-- a move keeps prices and bounds
module _ (d : Dictionary) (v k : ℕ) (above : Bool) (bound far price : Fraction) (w : ℕ) where
  kept_by : (b : Bool) (x y : Noted) (p : Noted → Fraction) → p x ≡ p (note_of d w) → p y ≡ p (note_of d w) → p (if b then x else y) ≡ p (note_of d w)
  kept_by true x y p e f = e
  kept_by false x y p e f = f

  pub moved-price : (moved_note d v k above bound far price w).price ≡ (note_of d w).price
  unfolding moved_note
  moved-price = kept_by ((choice_of d).basic w) _ _ Noted.price refl refl

  pub moved-low : (moved_note d v k above bound far price w).low ≡ (note_of d w).low
  unfolding moved_note
  moved-low = kept_by ((choice_of d).basic w) _ _ Noted.low refl refl

  pub moved-high : (moved_note d v k above bound far price w).high ≡ (note_of d w).high
  unfolding moved_note
  moved-high = kept_by ((choice_of d).basic w) _ _ Noted.high refl refl

module _ (d : Dictionary) (ready : IsReady d) (v k : ℕ) (above : Bool) (leaves : Leaves (system_in d) (state_of d) v above) (enters : Enters (system_in d) (state_of d) v above k) where
  s : System
  s = system_in d

  r : ℕ
  r = place_in d.basics v

  c : ℕ
  c = place_in d.others k

  -- with the table after the exchange
  e : Dictionary
  e = pivoted d r c

  f : ℕ → Noted
  f = moved_note e v k above (violated_bound (system_in d) v above) (displacement (system_in d) (state_of d) v above) (note_of d k).reduced

  t : Dictionary
  t = turned d v k above

  t_is : t ≡ noted_anew e f
  unfolding t e f r c turned
  t_is = refl

  v_in : Contains d.basics v
  unfolding state_of
  v_in = in_basics d ready.sound v leaves.basic

  k_in : Contains d.others k
  unfolding state_of
  k_in = in_others d ready.sound k enters.helps.other

  v_at : (r < length d.basics) × (slice_index d.basics r ≡ v)
  unfolding r
  v_at = place_in-within d.basics v v_in

  k_at : (c < length d.others) × (slice_index d.others c ≡ k)
  unfolding c
  k_at = place_in-within d.others k k_in

  entry_not_nil : (choice_of d).entry v k ≢ whole (pos 0)
  unfolding state_of
  entry_not_nil q = <ℚ_irrefl (whole (pos 0)) (subst (λ x. whole (pos 0) <ℚ x) (ap abs_ℚ q ∙ abs_nil) (help_above (system_in d) (state_of d) v above k enters.helps))

  pub pivot_not_nil : entry_of d v k ≢ whole (pos 0)
  unfolding choice_of
  pivot_not_nil = entry_not_nil

  e_sound : IsDictionary e
  unfolding e entry_of r c
  e_sound = pivoted_dictionary d ready.sound r c v_at.0 k_at.0 ready.live pivot_not_nil

  t_sound : IsDictionary t
  unfolding noted_anew
  t_sound = subst IsDictionary (sym t_is) (renoted_dictionary e (map f e.names) (length-map e.names f) e_sound)

  same_note : (w : ℕ) → note_of e w ≡ note_of d w
  unfolding e pivoted note_of
  same_note w = refl

  same_names : e.names ≡ d.names
  unfolding e pivoted
  same_names = refl

  -- the notes of a variable and of other names
  t_note : (w : ℕ) → Contains d.names w → note_of t w ≡ f w
  t_note w m = ap (λ (x : Dictionary). note_of x w) t_is ∙ note_anew e f w (subst (λ (ns : List ℕ). Contains ns w) (sym same_names) m)

  t_keeps : (p : Noted → Fraction) → ((w : ℕ) → p (f w) ≡ p (note_of e w)) → (w : ℕ) → p (note_of t w) ≡ p (note_of d w)
  unfolding t turned pivoted noted_anew
  t_keeps p each w = elim (named_or_not d.names w) [
    | inl m ↦ ap p (t_note w m) ∙ each w ∙ ap p (same_note w)
    | inr past ↦ ap p (note_unnamed t w t_sound.note_count past ∙ sym (note_unnamed d w ready.sound.note_count past))
  ]

  t_system : system_in t ≡ system_in d
  unfolding t turned pivoted noted_anew f
  t_system = system_stays d t refl refl refl refl
      (t_keeps Noted.price (λ w. moved-price e v k above (violated_bound (system_in d) v above) (displacement (system_in d) (state_of d) v above) (note_of d k).reduced w))
      (t_keeps Noted.low (λ w. moved-low e v k above (violated_bound (system_in d) v above) (displacement (system_in d) (state_of d) v above) (note_of d k).reduced w))
      (t_keeps Noted.high (λ w. moved-high e v k above (violated_bound (system_in d) v above) (displacement (system_in d) (state_of d) v above) (note_of d k).reduced w))

  t_live : t.spent ≡ false
  unfolding t turned pivoted noted_anew
  t_live = ready.live

  t_choice : IsChoice (system_in d) (choice_of t)
  t_choice = subst (λ (x : System). IsChoice x (choice_of t)) t_system (t_sound.solutions t_live)

  t_basic : (w : ℕ) → Contains d.names w → (choice_of t).basic w ≡ (exchanged (choice_of d) v k).basic w
  unfolding t turned noted_anew choice_of e r c
  t_basic w m = sym (pivoted_basic d ready.sound r c v_at.0 k_at.0 w m)
      ∙ ap (λ (x : ℕ). (exchanged (choice_of d) x (slice_index d.others c)).basic w) v_at.1 ∙ ap (λ (x : ℕ). (exchanged (choice_of d) v x).basic w) k_at.1

  named : (w : ℕ) → Contains (system_in d).variables w → Contains d.names w
  unfolding system_in
  named w m = m

  t_exchange : OneExchange (system_in d) (choice_of d) (choice_of t) v k
  unfolding state_of system_in
  t_exchange =
      let x = exchanged_once (system_in d) (system_is d ready.sound) (choice_of d) v k leaves.basic enters.helps.other in
      let v_named : Contains d.names v = ready.sound.split.first_named v v_in in
      let k_named : Contains d.names k = ready.sound.split.second_named k k_in in
      record {
        leaving = x.leaving;
        entering = x.entering;
        leaves = (x.leaves.0, t_basic v v_named ∙ x.leaves.1);
        enters = (x.enters.0, t_basic k k_named ∙ x.enters.1);
        stays = λ w m n l. x.stays w (named w m) n l ∙ sym (t_basic w (named w m));
      }

  v_other : Contains e.others v
  unfolding e pivoted r c
  v_other = subst (Contains (slice_set d.others (place_in d.others k) (slice_index d.basics (place_in d.basics v)))) v_at.1 (set-has d.others (place_in d.others k) (slice_index d.basics (place_in d.basics v)) k_at.0)

  -- the basic and other variables of the new choice in the table
  now_basic : (b : ℕ) → Contains (basics (system_in d) (choice_of t)) b → Contains d.names b × Contains e.basics b
  unfolding t turned noted_anew choice_of e r c system_in
  now_basic b m = let a = basics_are (system_in d) (choice_of t) b m in (a.0, among-from _ b a.1)

  now_other : (w : ℕ) → Contains (others (system_in d) (choice_of t)) w → Contains d.names w × Contains e.others w
  unfolding t turned noted_anew choice_of e r c system_in pivoted
  now_other w m =
      let a = others_are (system_in d) (choice_of t) w m in (
        a.0,
        elim (e_sound.split.either w a.0) [
          | inl l ↦ let wrong : false ≡ true = sym a.1 ∙ among-tells e.basics w l in absurd Prim.cc
          | inr l ↦ l
        ],
      )

  bound : Fraction
  bound = violated_bound (system_in d) v above

  far : Fraction
  far = displacement (system_in d) (state_of d) v above

  price : Fraction
  price = (note_of d k).reduced

  -- the three cases of a note
  note-basic : (b : ℕ) → Contains (basics (system_in d) (choice_of t)) b → note_of t b ≡ note_with (note_of d b) ((note_of d b).value +ℚ entry_of e b v *ℚ far) (whole (pos 0)) (note_of d b).at_high
  unfolding f far
  note-basic b m =
      let a = now_basic b m in
      t_note b a.0 ∙ moved-basic e e_sound v k above (violated_bound (system_in d) v above) (displacement (system_in d) (state_of d) v above) (note_of d k).reduced b a.1
      ∙ ap (λ (n : Noted). note_with n (n.value +ℚ entry_of e b v *ℚ far) (whole (pos 0)) n.at_high) (same_note b)

  note-leaving : note_of t v ≡ note_with (note_of d v) bound ((note_of d v).reduced +ℚ price *ℚ entry_of e k v) above
  unfolding f bound price
  note-leaving =
      t_note v (ready.sound.split.first_named v v_in)
      ∙ moved-leaving e e_sound v k above (violated_bound (system_in d) v above) (displacement (system_in d) (state_of d) v above) (note_of d k).reduced v v_other refl
      ∙ ap (λ (n : Noted). note_with n bound (n.reduced +ℚ price *ℚ entry_of e k v) above) (same_note v)

  note-staying : (w : ℕ) → Contains (others (system_in d) (choice_of t)) w → w ≢ v → note_of t w ≡ note_with (note_of d w) (note_of d w).value ((note_of d w).reduced +ℚ price *ℚ entry_of e k w) (note_of d w).at_high
  unfolding f price
  note-staying w m n =
      let a = now_other w m in
      t_note w a.0 ∙ moved-staying e e_sound v k above (violated_bound (system_in d) v above) (displacement (system_in d) (state_of d) v above) (note_of d k).reduced w a.1 n
      ∙ ap (λ (x : Noted). note_with x x.value (x.reduced +ℚ price *ℚ entry_of e k w) x.at_high) (same_note w)

  same_entry : (b w : ℕ) → (choice_of t).entry b w ≡ entry_of e b w
  unfolding t turned noted_anew choice_of e r c entry_of
  same_entry b w = refl

  -- From the old to the turned dictionary is a step.
  pub turned_step : IsStep (system_in d) (state_of d) (state_of (turned d v k above)) v k above
  unfolding state_of t bound far price choice_of
  turned_step = record {
    leaves = leaves;
    enters = enters;
    exchanged = record {
      exchange = t_exchange;
      choice = t_choice;
      flag = ap Noted.at_high note-leaving;
      flags = λ w m n.
          let now = other_after (system_in d) (choice_of d) (choice_of t) v k t_exchange w m n in
          ap Noted.at_high (note-staying w now (other_not_leaving (system_in d) (choice_of d) (choice_of t) v k t_exchange w m));
    };
    moved = record {
      leaving = ap Noted.value note-leaving;
      stay = λ w m n. ap Noted.value (note-staying w m n);
      basic = λ b m. ap Noted.value (note-basic b m) ∙ ap (λ x. (note_of d b).value +ℚ x *ℚ far) (sym (same_entry b v));
      priced = λ w m. elim (same_or_not w v) [
        | inl q ↦ subst (λ (x : ℕ). (note_of t x).reduced ≡ (note_of d x).reduced +ℚ price *ℚ (choice_of t).entry k x) (sym q)
            (ap Noted.reduced note-leaving ∙ ap (λ x. (note_of d v).reduced +ℚ price *ℚ x) (sym (same_entry k v)))
        | inr n ↦ ap Noted.reduced (note-staying w m n) ∙ ap (λ x. (note_of d w).reduced +ℚ price *ℚ x) (sym (same_entry k w))
      ];
      unpriced = λ b m. ap Noted.reduced (note-basic b m);
    };
  }

  pub turned_system : system_in (turned d v k above) ≡ system_in d
  unfolding t
  turned_system = t_system

  -- The turned dictionary is ready again.
  pub turned_ready : IsReady (turned d v k above)
  unfolding t
  turned_ready = record {
    sound = t_sound;
    live = t_live;
    posed = subst (λ (x : System). IsPosed x (state_of (turned d v k above))) (sym t_system) (step_posed (system_in d) (state_of d) (state_of (turned d v k above)) v k above ready.posed turned_step);
  }

  -- It has the columns and rows as they were put in.
  pub turned_columns : (turned d v k above).columns ≡ d.columns
  unfolding turned pivoted noted_anew
  turned_columns = refl

  pub turned_rows : (turned d v k above).rows ≡ d.rows
  unfolding turned pivoted noted_anew
  turned_rows = refl

  pub turned_coefficients : (turned d v k above).coefficients ≡ d.coefficients
  unfolding turned pivoted noted_anew
  turned_coefficients = refl

  pub turned_names : (turned d v k above).names ≡ d.names
  unfolding turned pivoted noted_anew
  turned_names = refl
