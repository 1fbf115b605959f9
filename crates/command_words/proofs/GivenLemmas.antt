-- What a command that takes words has read in them: each row has a value, and each value passed the parser of an argument of the row's name.
use Rattle.std.proofs.Common.{◌≡◌, ◌⊎◌, ◌<◌, ◌∙◌, refl, sym, ap, subst, arith, ℕ, zero, suc, Bool, true, false, not, ◌&&◌, ◌||◌, List, [], ◌∷◌, ◌++◌, drop, length, Option, Some, None, is_some, inl, inr}
use Rattle.std.specs.List.{find, fold, list_any}
use Rattle.std.specs.Option.{option_map_or}
use Rattle.std.specs.Prelude.{⊤, encode_utf8, slice_get, unwrap_or, if◌then◌else◌}
use Rattle.std.specs.Str.{bytes_eq, chars}
use Rattle.std.proofs.lemmas.Slice.Eq.{bytes_eq-Decides}
use Rattle.clap.specs.Lexer.{long_of, short_of}
use Rattle.clap.specs.ValueTests.{accepts}
use Rattle.clap.specs.Values.{read_as, refused_kind}
use Rattle.clap.specs.Facts.{explicit_source, parser_of_value, unwrap_or_range}
use Rattle.clap.specs.Kinds.{Kinds, check_kinds, or_else, range_kinds, value_kinds, values_kinds}
use Rattle.clap.specs.Walk.{Held, Names, Outcome, Row, Rule, Step, Text, Waiting, Walk, action_of, after_flag, after_step, arg_by_id, arg_by_index, arg_by_long, arg_by_short, at_row, attached_value, bundle, bundle_met, bundle_step, default_rows, done, finished, first_of, flag_met, has_row, idle, is_pending, long_met, long_or_other, more_values, most_values, next, nothing_held, one_of, option, option_met, option_word, plain, plain_word, positional, reacted, reading_by, refused, rows_after, settled, settled_rows, short_met, short_or_plain, subcommand, subcommand_met, subcommand_or_other, takes_several, takes_values, to_positional, trailing, used, used_as, used_by_id, value, values_or_missing, waits, walk, walk_from, walked, walked_from, with_default, with_values, without, word_met}
use Rattle.clap.specs.Simple.{Shape}
use Rattle.clap.specs.Takes.{is_given}
use Rattle.clap.specs.Faults.{action_fault, bundle_fault, bundle_step_fault, check_fault, defaults_fault, flag_word_fault, flags_fault, level_fault, long_fault, option_fault, other_fault, positional_fault, react_fault, settle_fault, short_fault, step_fault, stray_fault, turn_fault, use_fault, walk_fault, word_fault}
use Rattle.clap.specs.declared.builder.action.ArgAction.{ArgAction}
use Rattle.clap.specs.declared.builder.action.ArgAction.TheVariants as act
use Rattle.clap.specs.declared.builder.value_parser.Reading.{Reading}
use Rattle.clap.specs.declared.builder.value_parser.ValueParser.{ValueParser}
use Rattle.clap.specs.declared.error.kind.ErrorKind.TheVariants as kind
use Rattle.clap.specs.declared.parser.matches.ValueSource.TheVariants as source

-- ---- lists

abbrev pub Each : {X : Type 0} → (X → Type 0) → List X → Type 0
Each P [] = ⊤
Each P (x ∷ xs) = P x × Each P xs

abbrev pub Among : {X : Type 0} → (X → Type 0) → List X → Type 0
Among P [] = ⊥
Among P (x ∷ xs) = P x ⊎ Among P xs

each-append : {X : Type 0} (P : X → Type 0) (xs ys : List X) → Each P xs → Each P ys → Each P (xs ++ ys)
each-append P [] ys h k = k
each-append P (x ∷ xs) ys h k = (h.0, each-append P xs ys h.1 k)

pub each-in : {X : Type 0} (P : X → Type 0) (xs : List X) (x : X) → Each P xs → Among (λ y. y ≡ x) xs → P x
each-in P [] x h among = absurd among
each-in P (y ∷ ys) x h (inl same) = subst P same h.0
each-in P (y ∷ ys) x h (inr later) = each-in P ys x h.1 later

among-of : {X : Type 0} (P : X → Type 0) (xs : List X) (x : X) → P x → Among (λ y. y ≡ x) xs → Among P xs
among-of P [] x h among = absurd among
among-of P (y ∷ ys) x h (inl same) = inl (subst P (sym same) h)
among-of P (y ∷ ys) x h (inr later) = inr (among-of P ys x h later)

abbrev none_at : {X : Type 0} → Option X
none_at = None

-- what is found is in the list, and passes the test
pub found-in : {X : Type 0} (p : X → Bool) (xs : List X) (x : X) → find p xs ≡ Some x → Among (λ y. y ≡ x) xs × (p x ≡ true)
found-in p [] x found = let none : none_at ≡ Some x = found in cc none
found-in p (y ∷ ys) x found = go (p y) refl (found-in p ys x)
  where
    go : (here : Bool) → p y ≡ here → (find p ys ≡ Some x → Among (λ z. z ≡ x) ys × (p x ≡ true)) → Among (λ z. z ≡ x) (y ∷ ys) × (p x ≡ true)
    go true is below =
        let same : Some y ≡ Some x = rw is at found in
        let one : y ≡ x = ap (λ o. unwrap_or o y) same in
        (inl one, subst (λ z. p z ≡ true) one is)
    go false is below =
        let rest = below (rw is at found) in
        (inr rest.0, rest.1)

-- ---- no fault

pub both-none : (a b : Kinds) → or_else a b ≡ [] → (a ≡ []) × (b ≡ [])
both-none [] b none = (refl, none)
both-none (k ∷ ks) b none = cc none

-- what each value of a use passes
abbrev pub Accepted : Rule → Text → Type 0
Accepted a text = accepts a.ignore_case (parser_of_value a.parser) text ≡ true

value-accepted : (i : Bool) (p : ValueParser) (text : Text) → value_kinds i p text ≡ [] → accepts i p text ≡ true
value-accepted i p text none = go (accepts i p text) none
  where
    go : (b : Bool) → ◌≡◌ {A = Kinds} (if b then [] else refused_kind p ∷ []) [] → b ≡ true
    go true none = refl
    go false none = cc none

values-accepted : (a : Rule) (texts : List Text) → values_kinds a.ignore_case (parser_of_value a.parser) texts ≡ [] → Each (Accepted a) texts
values-accepted a [] none = tt
values-accepted a (t ∷ ts) none =
    let parts = both-none _ _ none in
    (value-accepted a.ignore_case (parser_of_value a.parser) t parts.0, values-accepted a ts parts.1)

-- an argument asks for help, or takes one value, and none by default
abbrev pub TakesOne : Rule → Type 0
TakesOne a = ((action_of a ≡ act.Help) ⊎ ((action_of a ≡ act.Set) × ((unwrap_or_range a.range).start_inclusive ≡ 1) × (most_values a ≡ 1))) × (a.defaults ≡ [])

-- the value passes an argument of this name
abbrev pub Passes : List Rule → Text → Text → Type 0
Passes rules id text = Among (λ a. (a.id ≡ id) × Accepted a text) rules

-- an argument of this name is read so
abbrev pub IsReadSo : List Rule → Text → Reading → Type 0
IsReadSo rules id how = Among (λ a. (a.id ≡ id) × (reading_by a ≡ how)) rules

-- the row has a value, each passes an argument of the row's name, and the row is read as such an argument is
abbrev pub IsFilled : List Rule → Row → Type 0
IsFilled rules r = (0 < length r.values) × Each (Passes rules r.id) r.values × IsReadSo rules r.id r.reading

each-passes : (rules : List Rule) (a : Rule) (texts : List Text) → Among (λ b. b ≡ a) rules → Each (Accepted a) texts → Each (Passes rules a.id) texts
each-passes rules a [] among h = tt
each-passes rules a (t ∷ ts) among h = (among-of (λ b. (b.id ≡ a.id) × Accepted b t) rules a (refl, h.0) among, each-passes rules a ts among h.1)

-- ---- one use of an argument

some-in-range : (n : ℕ) → range_kinds 1 1 n ≡ [] → 0 < n
some-in-range zero none = cc none
some-in-range (suc n) none = omega arith

help-faults : (again : Bool) (a : Rule) (texts : List Text) (rows : List Row) → action_fault act.Help again a texts rows ≡ [] → ⊥
help-faults again a texts rows none = cc none

set-accepted : (again : Bool) (a : Rule) (texts : List Text) (rows : List Row) → action_fault act.Set again a texts rows ≡ [] → Each (Accepted a) texts
set-accepted again a texts rows none = values-accepted a texts (both-none _ _ none).1

use-one : (again : Bool) (a : Rule) (texts : List Text) (rows : List Row) → TakesOne a → use_fault again a texts rows ≡ []
    → (action_of a ≡ act.Set) × (0 < length texts) × Each (Accepted a) (values_or_missing a texts)
use-one again a texts rows one none = go one.0
  where
    go : (action_of a ≡ act.Help) ⊎ ((action_of a ≡ act.Set) × ((unwrap_or_range a.range).start_inclusive ≡ 1) × (most_values a ≡ 1))
        → (action_of a ≡ act.Set) × (0 < length texts) × Each (Accepted a) (values_or_missing a texts)
    go (inl help) =
        let acts = (both-none _ _ none).1 in
        absurd (help-faults again a (values_or_missing a texts) rows (subst (λ (x : ArgAction). action_fault x again a (values_or_missing a texts) rows ≡ []) help acts))
    go (inr set) =
        let parts = both-none _ _ none in
        let acts = subst (λ (x : ArgAction). action_fault x again a (values_or_missing a texts) rows ≡ []) set.0 parts.1 in
        let least = subst (λ (n : ℕ). range_kinds n (most_values a) (length texts) ≡ []) set.1 parts.0 in
        let range = subst (λ (n : ℕ). range_kinds 1 n (length texts) ≡ []) set.2 least in
        (set.0, some-in-range (length texts) range, set-accepted again a (values_or_missing a texts) rows acts)

at_row-each : (P : Row → Type 0) (id : Text) (change : Row → List Row) (missing rows : List Row)
    → ((r : Row) → r.id ≡ id → P r → Each P (change r)) → Each P missing → Each P rows → Each P (at_row id change missing rows)
at_row-each P id change missing [] changed new each = new
at_row-each P id change missing (r ∷ rs) changed new each = go (bytes_eq r.id id) refl (at_row-each P id change missing rs changed new each.1)
  where
    go : (b : Bool) → bytes_eq r.id id ≡ b → Each P (at_row id change missing rs) → Each P (if b then change r ++ rs else r ∷ at_row id change missing rs)
    go true same below = each-append P (change r) rs (changed r ((bytes_eq-Decides r.id id).0 same) each.0) each.1
    go false same below = (each.0, below)

some-more : {X : Type 0} (xs ys : List X) → 0 < length xs → 0 < length (xs ++ ys)
some-more [] ys some = absurd (omega arith)
some-more (x ∷ xs) ys some = omega arith

-- the row that a first use makes
abbrev new_row : Rule → List Text → Row
new_row a texts = record {
  id = a.id;
  values = texts;
  count = None;
  source = Some source.CommandLine;
  reading = reading_by a;
}

set-filled : (rules : List Rule) (a : Rule) (text : Text) (texts : List Text) (rows : List Row) → Among (λ b. b ≡ a) rules → Each (Accepted a) (text ∷ texts)
    → Each (IsFilled rules) rows → Each (IsFilled rules) (with_values a.id (reading_by a) source.CommandLine (text ∷ texts) (without a.id rows))
set-filled rules a text texts rows among accepted filled =
    let passes = each-passes rules a (text ∷ texts) among accepted in
    let rest = at_row-each (IsFilled rules) a.id (λ _. []) [] rows (λ r same h. tt) tt filled in
    let some : 0 < length (text ∷ texts) = omega arith in
    let new : IsFilled rules (new_row a (text ∷ texts)) = (some, passes, among-of (λ b. (b.id ≡ a.id) × (reading_by b ≡ reading_by a)) rules a (refl, refl) among) in
    at_row-each (IsFilled rules) a.id (more_values source.CommandLine (text ∷ texts)) (new_row a (text ∷ texts) ∷ []) (without a.id rows)
    (λ r same h. (
      (
        some-more r.values (text ∷ texts) h.0,
        each-append (Passes rules r.id) r.values (text ∷ texts) h.1 (subst (λ (id : Text). Each (Passes rules id) (text ∷ texts)) (sym same) passes),
        h.2,
      ),
      tt,
    ))
    (new, tt) rest

used-filled : (rules : List Rule) (again : Bool) (a : Rule) (texts : List Text) (rows : List Row) → Among (λ b. b ≡ a) rules → TakesOne a
    → use_fault again a texts rows ≡ [] → Each (IsFilled rules) rows → Each (IsFilled rules) (used a texts rows)
used-filled rules again a [] rows among one none filled =
    let bad : 0 < 0 = (use-one again a [] rows one none).1 in
    absurd (omega arith)
used-filled rules again a (t ∷ ts) rows among one none filled =
    let one_use = use-one again a (t ∷ ts) rows one none in
    subst (λ (x : ArgAction). Each (IsFilled rules) (used_as x a.id (reading_by a) (t ∷ ts) rows)) (sym one_use.0) (set-filled rules a t ts rows among one_use.2 filled)

-- ---- the words

module _ (c : List Rule) (again : Bool) (ones : Each TakesOne c) where
  abbrev Filled : List Row → Type 0
  Filled = Each (IsFilled c)

  -- it is one of the arguments
  abbrev Known : Rule → Type 0
  Known a = Among (λ b. b ≡ a) c × TakesOne a

  known : (p : Rule → Bool) (a : Rule) → find p c ≡ Some a → Known a
  known p a found = let among = (found-in p c a found).0 in (among, each-in TakesOne c a ones among)

  by-id-filled : (o : Option Rule) (texts : List Text) (rows : List Row) → ((a : Rule) → o ≡ Some a → Known a)
      → option_map_or (λ a. use_fault again a texts rows) o [] ≡ [] → Filled rows → Filled (used_by_id o texts rows)
  by-id-filled None texts rows is none filled = filled
  by-id-filled (Some a) texts rows is none filled = let k = is a refl in used-filled c again a texts rows k.0 k.1 none filled

  settled-filled : (h : Held) → settle_fault c again h ≡ [] → Filled h.rows → Filled (settled c h).rows
  settled-filled h none filled = go h.pending none
    where
      go : (o : Option (Text × List Text)) → option_map_or (λ (p : Text × List Text). option_map_or (λ a. use_fault again a p.1 h.rows) (arg_by_id c p.0) []) o [] ≡ []
          → Filled (settled_rows c o h.rows)
      go None none = filled
      go (Some p) none = by-id-filled (arg_by_id c p.0) p.1 h.rows (λ a found. known (λ b. bytes_eq b.id p.0) a found) none filled

  reacted-filled : (a : Rule) (texts : List Text) (h : Held) → Known a → react_fault c again a texts h ≡ [] → Filled h.rows → Filled (reacted c a texts h).rows
  reacted-filled a texts h k none filled =
      let parts = both-none _ _ none in
      used-filled c again a texts (settled c h).rows k.0 k.1 parts.1 (settled-filled h parts.0 filled)

  option-filled : (a : Rule) (v : Option Text) (h : Held) → Known a → option_fault c again a v h ≡ [] → Filled h.rows → Filled (option_met c a v h).0.rows
  option-filled a (Some v) h k none filled = reacted-filled a (v ∷ []) h k none filled
  option-filled a None h k none filled = settled-filled h none filled

  long-filled : (o : Option Rule) (v : Option Text) (h : Held) → ((a : Rule) → o ≡ Some a → Known a) → long_fault c again o v h ≡ [] → Filled h.rows
      → Filled (long_met c o v h).0.rows
  long-filled None v h is none filled = filled
  long-filled (Some a) v h is none filled = go (takes_values a) v none
    where
      go : (b : Bool) (v : Option Text) → (if b then option_fault c again a v h else (if is_some v then kind.TooManyValues ∷ [] else react_fault c again a [] h)) ≡ []
          → Filled (if b then option_met c a v h else flag_met c a v h).0.rows
      go true v none = option-filled a v h (is a refl) none filled
      go false (Some v) none = filled
      go false None none = reacted-filled a [] h (is a refl) none filled

  short-filled : (o : Option Rule) (rest : Text) (h : Held) (n : Held → Kinds) (m : Held → Held × Outcome) → ((a : Rule) → o ≡ Some a → Known a)
      → ((k : Held) → n k ≡ [] → Filled k.rows → Filled (m k).0.rows) → short_fault c again o rest h n ≡ [] → Filled h.rows → Filled (short_met c o rest h m).0.rows
  short-filled None rest h n m is more none filled = filled
  short-filled (Some a) rest h n m is more none filled = go (takes_values a) none
    where
      go : (b : Bool) → (if b then option_fault c again a (attached_value rest) h else or_else (react_fault c again a [] h) (n (reacted c a [] h))) ≡ []
          → Filled (if b then option_met c a (attached_value rest) h else m (reacted c a [] h)).0.rows
      go true none = option-filled a (attached_value rest) h (is a refl) none filled
      go false none =
          let parts = both-none _ _ none in
          more (reacted c a [] h) parts.1 (reacted-filled a [] h (is a refl) parts.0 filled)

  step-filled : (o : Option ℕ) (flags : Text) (skip : ℕ) (so_far : Outcome) (h : Held) (n : Text → ℕ → Held → Kinds) (m : Text → ℕ → Outcome → Held → Held × Outcome)
      → ((t : Text) (k : ℕ) (x : Outcome) (g : Held) → n t k g ≡ [] → Filled g.rows → Filled (m t k x g).0.rows)
      → bundle_step_fault c again o flags skip h n ≡ [] → Filled h.rows → Filled (bundle_step c o flags skip so_far h m).0.rows
  step-filled None flags skip so_far h n m more none filled = filled
  step-filled (Some x) flags zero so_far h n m more none filled =
      let rest = drop (length (encode_utf8 x)) flags in
      short-filled (arg_by_short c x) rest h (n rest 0) (m rest 0 done) (λ a found. known _ a found) (more rest 0 done) none filled
  step-filled (Some x) flags (suc skip) so_far h n m more none filled = more (drop (length (encode_utf8 x)) flags) skip so_far h none filled

  bundle-filled : (k : ℕ) (flags : Text) (skip : ℕ) (so_far : Outcome) (h : Held) → flags_fault c again k flags skip h ≡ [] → Filled h.rows
      → Filled (bundle_met c k flags skip so_far h).0.rows
  unfolding flags_fault bundle_met
  bundle-filled zero flags skip so_far h none filled = filled
  bundle-filled (suc k) flags skip so_far h none filled =
      step-filled (slice_get (chars flags) 0) flags skip so_far h (flags_fault c again k) (bundle_met c k) (bundle-filled k) none filled

  option-word-filled : (o : Option Rule) (id word : Text) (h : Held) → Filled h.rows → Filled (option_word o id word h).0.rows
  option-word-filled None id word h filled = filled
  option-word-filled (Some a) id word h filled = filled

  plain-word-filled : (w : Waiting) (word : Text) (h : Held) → Filled h.rows → Filled (plain_word c w word h).0.rows
  plain-word-filled idle word h filled = filled
  plain-word-filled positional word h filled = filled
  plain-word-filled (option id) word h filled = option-word-filled (arg_by_id c id) id word h filled

  after-flag-filled : (w : Waiting) (word : Text) (h : Held) (x : Outcome) → Filled h.rows → Filled (after_flag c w word h x).0.rows
  after-flag-filled w word h done filled = filled
  after-flag-filled w word h (waits id) filled = filled
  after-flag-filled w word h plain filled = plain-word-filled w word h filled
  after-flag-filled w word h refused filled = plain-word-filled w word h filled

  short-word-filled : (w : Waiting) (word : Text) (o : Option Text) (h : Held) → option_map_or (λ flags. bundle_fault c again flags h) o [] ≡ [] → Filled h.rows
      → Filled (short_or_plain c w word o h).0.rows
  short-word-filled w word None h none filled = plain-word-filled w word h filled
  short-word-filled w word (Some flags) h none filled =
      after-flag-filled w word (bundle c flags h).0 (bundle c flags h).1 (bundle-filled (length flags) flags h.skip plain (record h { skip = 0 }) none filled)

  long-word-filled : (w : Waiting) (word : Text) (o : Option (Text × Option Text)) (h : Held) → flag_word_fault c again o word h ≡ [] → Filled h.rows
      → Filled (long_or_other c w word o h).0.rows
  long-word-filled w word None h none filled = short-word-filled w word (short_of word) h none filled
  long-word-filled w word (Some p) h none filled =
      let met = long_met c (arg_by_long c p.0) p.1 h in
      after-flag-filled w word met.0 met.1 (long-filled (arg_by_long c p.0) p.1 h (λ a found. known _ a found) none filled)

-- ---- the walk of a command without subcommands

module _ (s : Shape) (ones : Each TakesOne s.rules) where
  abbrev AllFilled : List Row → Type 0
  AllFilled = Each (IsFilled s.rules)

  other-filled : (o : Option Text) (w : Waiting) (position : ℕ) (word : Text) (h : Held) → other_fault s o word h ≡ [] → AllFilled h.rows
      → AllFilled (subcommand_or_other s.rules o w position word h).0.rows
  other-filled (Some name) w position word h none filled = filled
  other-filled None w position word h none filled = go (bytes_eq word (45 ∷ 45 ∷ [])) none
    where
      go : (b : Bool) → (if b then [] else flag_word_fault s.rules s.args_override_self (long_of word) word h) ≡ []
          → AllFilled (if b then (h, trailing position) else long_or_other s.rules w word (long_of word) h).0.rows
      go true none = filled
      go false none = long-word-filled s.rules s.args_override_self ones w word (long_of word) h none filled

  word-filled : (names : Names) (is_trailing : Bool) (w : Waiting) (position : ℕ) (word : Text) (h : Held) → word_fault s names is_trailing w word h ≡ [] → AllFilled h.rows
      → AllFilled (word_met s.rules names is_trailing w position word h).0.rows
  word-filled names true w position word h none filled = filled
  word-filled names false w position word h none filled = other-filled (subcommand_met names w word) w position word h none filled

  positional-filled : (o : Option Rule) (word : Text) (w : Walk) (h : Held)
      → option_map_or (λ a. positional_fault s.rules s.args_override_self a h) o (stray_fault s) ≡ [] → AllFilled h.rows
      → AllFilled (to_positional s.rules o word w h).held.rows
  positional-filled None word w h none filled = filled
  positional-filled (Some a) word w h none filled = go (is_pending a h.pending && takes_several a) none
    where
      go : (b : Bool) → (if b then [] else settle_fault s.rules s.args_override_self h) ≡ [] → AllFilled (if b then h else settled s.rules h).rows
      go true none = filled
      go false none = settled-filled s.rules s.args_override_self ones h none filled

  after-filled : (word : Text) (w : Walk) (h : Held) (x : Step) → step_fault s w.position h x ≡ [] → AllFilled h.rows → AllFilled (after_step s.rules word w h x).held.rows
  after-filled word w h (next y) none filled = filled
  after-filled word w h (trailing p) none filled = filled
  after-filled word w h (subcommand n) none filled = filled
  after-filled word w h value none filled = positional-filled (arg_by_index s.rules w.position) word w h none filled

  turn-filled : (names : Names) (w : Walk) (word : Text) → turn_fault s names w word ≡ [] → AllFilled w.held.rows → AllFilled (walked s.rules names w word).held.rows
  unfolding walked
  turn-filled names w word none filled = go w.stopped none
    where
      go : (o : Option (Text × List Text))
          → (if is_some o then [] else or_else (word_fault s names w.is_trailing w.waiting word w.held)
          (step_fault s w.position (word_met s.rules names w.is_trailing w.waiting w.position word w.held).0 (word_met s.rules names w.is_trailing w.waiting w.position word w.held).1)) ≡ []
          → AllFilled (walked_from s.rules names o w word).held.rows
      go (Some p) none = filled
      go None none =
          let parts = both-none _ _ none in
          let met = word_met s.rules names w.is_trailing w.waiting w.position word w.held in
          after-filled word w met.0 met.1 parts.1 (word-filled names w.is_trailing w.waiting w.position word w.held parts.0 filled)

  walk-filled : (names : Names) (w : Walk) (words : List Text) → walk_fault s names w words ≡ [] → AllFilled w.held.rows
      → AllFilled (fold (walked s.rules names) w words).held.rows
  unfolding walk_fault
  walk-filled names w [] none filled = filled
  walk-filled names w (word ∷ rest) none filled =
      let parts = both-none _ _ none in
      walk-filled names (walked s.rules names w word) rest parts.1 (turn-filled names w word parts.0 filled)

-- ---- after the walk

no-default : (rows : List Row) (a : Rule) → a.defaults ≡ [] → with_default rows a ≡ rows
no-default rows a none = go (has_row a.id rows)
  where
    go : (b : Bool) → (if b then rows else default_rows a.id (reading_by a) a.defaults rows) ≡ rows
    go true = refl
    go false = ap (λ (texts : List Text). default_rows a.id (reading_by a) texts rows) none

no-defaults : (rules : List Rule) (rows : List Row) → Each TakesOne rules → fold with_default rows rules ≡ rows
no-defaults [] rows ones = refl
no-defaults (a ∷ rest) rows ones = ap (λ (rs : List Row). fold with_default rs rest) (no-default rows a ones.0.1) ∙ no-defaults rest rows ones.1

-- the rows of words that give no fault are filled
level-filled : (s : Shape) (words : List Text) → Each TakesOne s.rules → level_fault s [] nothing_held words false [] ≡ [] → Each (IsFilled s.rules) (rows_after s.rules [] words)
level-filled s words ones none =
    let end : Held = (walk s.rules [] nothing_held words).held in
    let walks = both-none _ _ none in
    let settles = (both-none _ _ walks.1).0 in
    let filled = walk-filled s ones [] (walk_from nothing_held) words walks.0 tt in
    subst (Each (IsFilled s.rules)) (sym (no-defaults s.rules (settled s.rules end).rows ones)) (settled-filled s.rules s.args_override_self ones end settles filled)

third-test : (x y z : Bool) → check_kinds x y z ≡ [] → z ≡ false
third-test true y z none = cc none
third-test false true z none = cc none
third-test false false true none = cc none
third-test false false false none = refl

any-none : {X : Type 0} (p : X → Bool) (xs : List X) (x : X) → list_any p xs ≡ false → Among (λ y. y ≡ x) xs → p x ≡ false
any-none p [] x none among = absurd among
any-none p (y ∷ ys) x none among = go (p y) refl none among (any-none p ys x)
  where
    go : (b : Bool) → p y ≡ b → (b || list_any p ys) ≡ false → Among (λ z. z ≡ x) (y ∷ ys) → (list_any p ys ≡ false → Among (λ z. z ≡ x) ys → p x ≡ false) → p x ≡ false
    go true is none among below = cc none
    go false is none (inl same) below = subst (λ z. p z ≡ false) same is
    go false is none (inr later) below = below none later

is-given : (r g : Bool) → (r && not g) ≡ false → r ≡ true → g ≡ true
is-given true true none required = refl
is-given true false none required = cc none
is-given false g none required = cc required

not-lifted : (n : Bool) (b : Bool) → (not (n && false) && b) ≡ false → b ≡ false
not-lifted true b none = none
not-lifted false b none = none

check-passes : (s : Shape) (words : List Text) → level_fault s [] nothing_held words false [] ≡ [] → check_fault s (rows_after s.rules [] words) false ≡ []
check-passes s words none =
    let end : Held = (walk s.rules [] nothing_held words).held in
    let check : Kinds = check_fault s (finished s.rules end) false in
    let defaults : Kinds = defaults_fault (settled s.rules end).rows s.rules in
    let settles : Kinds = settle_fault s.rules s.args_override_self end in
    let after = (both-none (walk_fault s [] (walk_from nothing_held) words) (or_else settles (or_else defaults check)) none).1 in
    (both-none defaults check (both-none settles (or_else defaults check) after).1).1

-- what is required is given
level-given : (s : Shape) (words : List Text) (a : Rule) → Among (λ b. b ≡ a) s.rules → a.required ≡ true → level_fault s [] nothing_held words false [] ≡ []
    → is_given a.id (rows_after s.rules [] words) ≡ true
level-given s words a among required none =
    let rows : List Row = rows_after s.rules [] words in
    let lacks : Bool = list_any (λ (b : Rule). b.required && not (is_given b.id rows)) s.rules in
    let third = third-test (not false && (s.arg_required_else_help && not (list_any (λ (r : Row). explicit_source r.source) rows))) (not false && s.subcommand_required)
    (not (s.subcommand_negates_reqs && false) && lacks) (check-passes s words none) in
    is-given a.required (is_given a.id rows) (any-none (λ (b : Rule). b.required && not (is_given b.id rows)) s.rules a (not-lifted s.subcommand_negates_reqs lacks third) among) required

-- a value that was given under this name, the text that is read of it, and what both keep
pub record IsGiven (rules : List Rule) (id : Text) (rows : List Row) : Type 0 where
  pub text : Text
  pub how : Reading
  pub first : first_of id rows ≡ Some text
  pub one : one_of id rows ≡ Some (read_as how text)
  pub passes : Passes rules id text
  pub read_so : IsReadSo rules id how

row-given : (rules : List Rule) (id : Text) (rows : List Row) (r : Row) (values : List Text) → find (λ (x : Row). bytes_eq x.id id) rows ≡ Some r → r.values ≡ values
    → r.id ≡ id → IsFilled rules r → IsGiven rules id rows
row-given rules id rows r [] found are named filled =
    let bad : 0 < 0 = subst (λ (vs : List Text). 0 < length vs) are filled.0 in
    absurd (omega arith)
row-given rules id rows r (v ∷ vs) found are named filled = record {
  text = v;
  how = r.reading;
  first = rw (found, are) refl;
  one = rw (found, are) refl;
  passes = (subst (Each (Passes rules id)) are (subst (λ (t : Text). Each (Passes rules t) r.values) named filled.1)).0;
  read_so = subst (λ (t : Text). IsReadSo rules t r.reading) named filled.2;
}

found-given : (s : Shape) (id : Text) (rows : List Row) (o : Option Row) → find (λ (x : Row). bytes_eq x.id id) rows ≡ o
    → option_map_or (λ (x : Row). explicit_source x.source) (find (λ (x : Row). bytes_eq x.id id) rows) false ≡ true → Each (IsFilled s.rules) rows → IsGiven s.rules id rows
found-given s id rows None found given filled = let bad : false ≡ true = rw found at given in cc bad
found-given s id rows (Some r) found given filled =
    let in-rows = found-in (λ (x : Row). bytes_eq x.id id) rows r found in
    row-given s.rules id rows r r.values found refl ((bytes_eq-Decides r.id id).0 in-rows.1) (each-in (IsFilled s.rules) rows r filled in-rows.0)

pub required-given : (s : Shape) (words : List Text) (a : Rule) → Each TakesOne s.rules → Among (λ b. b ≡ a) s.rules → a.required ≡ true
    → level_fault s [] nothing_held words false [] ≡ [] → IsGiven s.rules a.id (rows_after s.rules [] words)
required-given s words a ones among required none =
    found-given s a.id (rows_after s.rules [] words) (find (λ (x : Row). bytes_eq x.id a.id) (rows_after s.rules [] words)) refl (level-given s words a among required none) (level-filled s words ones none)
