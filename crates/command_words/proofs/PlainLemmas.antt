-- What a command refuses, and what it reads, does not hang on where its lists of names lie.
use Rattle.std.proofs.Common.{◌≡◌, ◌∙◌, refl, sym, ap, ap₂, ℕ, zero, suc, Bool, false, not, ◌&&◌, ◌||◌, List, [], ◌∷◌, map, drop, length, Option, Some, None, is_some, option_map, Bor}
use Rattle.std.specs.List.{find, fold, list_any}
use Rattle.std.specs.Option.{option_map_or}
use Rattle.std.specs.Prelude.{encode_utf8, slice_get, if◌then◌else◌, ◌==◌}
use Rattle.std.specs.Str.{bytes_eq, chars}
use Rattle.clap.specs.Lexer.{long_of, short_of}
use Rattle.clap.specs.Values.{reading_of, refused_kind, same_text}
use Rattle.clap.specs.ValueTests.{accepts}
use Rattle.clap.specs.Facts.{explicit_source, parser_of_value}
use Rattle.clap.specs.Kinds.{Kinds, check_kinds, or_else, request_kinds, value_kinds, values_kinds}
use Rattle.clap.specs.Walk.{Held, Names, Outcome, Row, Rule, Step, Text, Waiting, Walk, action_of, after_flag, after_step, answers_to, arg_by_id, arg_by_index, arg_by_long, arg_by_short, attached_value, bundle, bundle_met, bundle_step, default_rows, done, finished, flag_met, has_long, has_row, has_short, idle, is_empty, is_pending, long_met, long_or_other, long_word, next, nothing_held, option, option_met, option_word, plain, plain_word, positional, pushed, reacted, reading_by, refused, settled, settled_rows, short_met, short_or_plain, short_word, stop_after, subcommand, subcommand_met, subcommand_or_other, takes_several, takes_values, to_positional, trailing, used, used_as, used_by_id, value, values_or_missing, waits, walk, walk_from, walked, walked_from, with_default, word_met}
use Rattle.clap.specs.Simple.{App, Shape, argument_words, built, entered, label_of, names_of, rows_at, subcommand_of}
use Rattle.clap.specs.Takes.{is_given}
use Rattle.clap.specs.Faults.{action_fault, built_fault, bundle_fault, bundle_step_fault, check_fault, count_fault, default_fault, defaults_fault, fault_of, entered_fault, flag_word_fault, flags_fault, level_fault, long_fault, option_fault, other_fault, positional_fault, react_fault, repeat_fault, settle_fault, short_fault, step_fault, stray_fault, turn_fault, use_fault, walk_fault, word_fault}
use Rattle.clap.specs.declared.builder.action.ArgAction.{ArgAction}
use Rattle.clap.specs.declared.builder.action.ArgAction.TheVariants as act
use Rattle.clap.specs.declared.builder.value_parser.ValueParser.{ValueParser}
use Rattle.clap.specs.declared.builder.value_parser.ValueParser.TheVariants as vp
use Rattle.clap.specs.declared.error.kind.ErrorKind.TheVariants as kind
use Rattle.clap.proofs.WalkLemmas.{find-map, list_any-map}
use Rattle.clap.proofs.OnLiterals.{clap_on_literals}
use Rattle.command_words.specs.Words.{NameList, Spells, bits_words, place_words, rating_words, sced_app, sced_app_over, size_words, spelled}

abbrev pub plain_text : Bor Text → Bor Text
plain_text s = record { ref_ptr = (0, 0); now = s.now }

abbrev pub plain_list : NameList → NameList
plain_list n = record { ref_ptr = (0, 0); now = map plain_text n.now }

abbrev pub plain_parser : ValueParser → ValueParser
plain_parser vp.String = vp.String
plain_parser vp.NonEmptyString = vp.NonEmptyString
plain_parser vp.Bool = vp.Bool
plain_parser vp.Boolish = vp.Boolish
plain_parser vp.Falsey = vp.Falsey
plain_parser (vp.Signed a b) = vp.Signed a b
plain_parser (vp.Unsigned a b) = vp.Unsigned a b
plain_parser vp.Float = vp.Float
plain_parser vp.Char = vp.Char
plain_parser (vp.Names n) = vp.Names (plain_list n)
plain_parser (vp.Values v) = vp.Values v

abbrev pub plain_rule : Rule → Rule
plain_rule a = record a { parser = option_map plain_parser a.parser }

-- ---- one value

accepts-plain : (i : Bool) (p : ValueParser) (t : Text) → accepts i (plain_parser p) t ≡ accepts i p t
accepts-plain i vp.String t = refl
accepts-plain i vp.NonEmptyString t = refl
accepts-plain i vp.Bool t = refl
accepts-plain i vp.Boolish t = refl
accepts-plain i vp.Falsey t = refl
accepts-plain i (vp.Signed a b) t = refl
accepts-plain i (vp.Unsigned a b) t = refl
accepts-plain i vp.Float t = refl
accepts-plain i vp.Char t = refl
accepts-plain i (vp.Names n) t = sym (list_any-map (λ (s : Bor Text). same_text i s.now t) plain_text n.now)
accepts-plain i (vp.Values v) t = refl

kind-plain : (p : ValueParser) → refused_kind (plain_parser p) ≡ refused_kind p
kind-plain vp.String = refl
kind-plain vp.NonEmptyString = refl
kind-plain vp.Bool = refl
kind-plain vp.Boolish = refl
kind-plain vp.Falsey = refl
kind-plain (vp.Signed a b) = refl
kind-plain (vp.Unsigned a b) = refl
kind-plain vp.Float = refl
kind-plain vp.Char = refl
kind-plain (vp.Names n) = refl
kind-plain (vp.Values v) = refl

reading-plain : (p : ValueParser) → reading_of (plain_parser p) ≡ reading_of p
reading-plain vp.String = refl
reading-plain vp.NonEmptyString = refl
reading-plain vp.Bool = refl
reading-plain vp.Boolish = refl
reading-plain vp.Falsey = refl
reading-plain (vp.Signed a b) = refl
reading-plain (vp.Unsigned a b) = refl
reading-plain vp.Float = refl
reading-plain vp.Char = refl
reading-plain (vp.Names n) = refl
reading-plain (vp.Values v) = refl

value-plain : (i : Bool) (p : ValueParser) (t : Text) → value_kinds i (plain_parser p) t ≡ value_kinds i p t
value-plain i p t = λ j. if accepts-plain i p t j then [] else kind-plain p j ∷ []

values-plain : (i : Bool) (p : ValueParser) (ts : List Text) → values_kinds i (plain_parser p) ts ≡ values_kinds i p ts
values-plain i p [] = refl
values-plain i p (t ∷ ts) = ap₂ or_else (value-plain i p t) (values-plain i p ts)

value-opt : (i : Bool) (o : Option ValueParser) (t : Text) → value_kinds i (parser_of_value (option_map plain_parser o)) t ≡ value_kinds i (parser_of_value o) t
value-opt i None t = refl
value-opt i (Some p) t = value-plain i p t

values-opt : (i : Bool) (o : Option ValueParser) (ts : List Text) → values_kinds i (parser_of_value (option_map plain_parser o)) ts ≡ values_kinds i (parser_of_value o) ts
values-opt i None ts = refl
values-opt i (Some p) ts = values-plain i p ts

reads : (a : Rule) → reading_by (plain_rule a) ≡ reading_by a
reads a = go a.parser
  where
    go : (o : Option ValueParser) → reading_of (parser_of_value (option_map plain_parser o)) ≡ reading_of (parser_of_value o)
    go None = refl
    go (Some p) = reading-plain p

-- ---- one use of an argument

counts : (a : Rule) (vs : List Text) (rows : List Row) → count_fault (plain_rule a) vs rows ≡ count_fault a vs rows
counts a [] rows = value-opt a.ignore_case a.parser _
counts a (v ∷ vs) rows = values-opt a.ignore_case a.parser (v ∷ vs)

acts : (x : ArgAction) (again : Bool) (a : Rule) (vs : List Text) (rows : List Row) → action_fault x again (plain_rule a) vs rows ≡ action_fault x again a vs rows
acts act.Set again a vs rows = ap (or_else (repeat_fault again a.id rows)) (values-opt a.ignore_case a.parser vs)
acts act.SetTrue again a vs rows = ap (or_else (repeat_fault again a.id rows)) (values-opt a.ignore_case a.parser vs)
acts act.SetFalse again a vs rows = ap (or_else (repeat_fault again a.id rows)) (values-opt a.ignore_case a.parser vs)
acts act.Append again a vs rows = values-opt a.ignore_case a.parser vs
acts act.Count again a vs rows = counts a vs rows
acts act.Help again a vs rows = refl
acts act.HelpShort again a vs rows = refl
acts act.HelpLong again a vs rows = refl
acts act.Version again a vs rows = refl

uses : (again : Bool) (a : Rule) (vs : List Text) (rows : List Row) → use_fault again (plain_rule a) vs rows ≡ use_fault again a vs rows
uses again a vs rows = ap (or_else _) (acts (action_of a) again a (values_or_missing a vs) rows)

use-rows : (a : Rule) (vs : List Text) (rows : List Row) → used (plain_rule a) vs rows ≡ used a vs rows
use-rows a vs rows = λ j. used_as (action_of a) a.id (reads a j) (values_or_missing a vs) rows

-- ---- looking an argument up

by_id : (c : List Rule) (id : Text) → arg_by_id (map plain_rule c) id ≡ option_map plain_rule (arg_by_id c id)
by_id c id = sym (find-map (λ (a : Rule). bytes_eq a.id id) plain_rule c)

by_long : (c : List Rule) (name : Text) → arg_by_long (map plain_rule c) name ≡ option_map plain_rule (arg_by_long c name)
by_long c name = sym (find-map (λ (a : Rule). not (is_some a.index) && has_long a name) plain_rule c)

by_short : (c : List Rule) (x : ℕ) → arg_by_short (map plain_rule c) x ≡ option_map plain_rule (arg_by_short c x)
by_short c x = sym (find-map (λ (a : Rule). not (is_some a.index) && has_short a x) plain_rule c)

by_index : (c : List Rule) (i : ℕ) → arg_by_index (map plain_rule c) i ≡ option_map plain_rule (arg_by_index c i)
by_index c i = sym (find-map (λ (a : Rule). option_map_or (λ k. k == i) a.index false) plain_rule c)

found : {K : Type 0} (F : Rule → K) (d : K) → ((a : Rule) → F (plain_rule a) ≡ F a) → (o : Option Rule) → option_map_or F (option_map plain_rule o) d ≡ option_map_or F o d
found F d h None = refl
found F d h (Some a) = h a

-- ---- what is held

settles : (c : List Rule) (again : Bool) (h : Held) → settle_fault (map plain_rule c) again h ≡ settle_fault c again h
settles c again h = go h.pending
  where
    go : (o : Option (Text × List Text)) → option_map_or (λ (p : Text × List Text). option_map_or (λ a. use_fault again a p.1 h.rows) (arg_by_id (map plain_rule c) p.0) []) o []
        ≡ option_map_or (λ (p : Text × List Text). option_map_or (λ a. use_fault again a p.1 h.rows) (arg_by_id c p.0) []) o []
    go None = refl
    go (Some p) = ap (λ (o : Option Rule). option_map_or (λ a. use_fault again a p.1 h.rows) o []) (by_id c p.0) ∙ found (λ a. use_fault again a p.1 h.rows) [] (λ a. uses again a p.1 h.rows) (arg_by_id c p.0)

use-found : (o : Option Rule) (vs : List Text) (rows : List Row) → used_by_id (option_map plain_rule o) vs rows ≡ used_by_id o vs rows
use-found None vs rows = refl
use-found (Some a) vs rows = use-rows a vs rows

rows-settled : (c : List Rule) (p : Option (Text × List Text)) (rows : List Row) → settled_rows (map plain_rule c) p rows ≡ settled_rows c p rows
rows-settled c None rows = refl
rows-settled c (Some p) rows = ap (λ (o : Option Rule). used_by_id o p.1 rows) (by_id c p.0) ∙ use-found (arg_by_id c p.0) p.1 rows

held : (c : List Rule) (h : Held) → settled (map plain_rule c) h ≡ settled c h
held c h = λ j. record h { rows = rows-settled c h.pending h.rows j; pending = None }

reacts : (c : List Rule) (a : Rule) (vs : List Text) (h : Held) → reacted (map plain_rule c) (plain_rule a) vs h ≡ reacted c a vs h
reacts c a vs h = ap (λ (rs : List Row). record h { rows = rs; pending = None }) (use-rows a vs (settled (map plain_rule c) h).rows ∙ ap (λ (k : Held). used a vs k.rows) (held c h))

react-kinds : (c : List Rule) (again : Bool) (a : Rule) (vs : List Text) (h : Held) → react_fault (map plain_rule c) again (plain_rule a) vs h ≡ react_fault c again a vs h
react-kinds c again a vs h = ap₂ or_else (settles c again h) (uses again a vs (settled (map plain_rule c) h).rows ∙ ap (λ (k : Held). use_fault again a vs k.rows) (held c h))

-- ---- flags

option-kinds : (c : List Rule) (again : Bool) (a : Rule) (v : Option Text) (h : Held) → option_fault (map plain_rule c) again (plain_rule a) v h ≡ option_fault c again a v h
option-kinds c again a (Some v) h = react-kinds c again a (v ∷ []) h
option-kinds c again a None h = settles c again h

long-kinds : (c : List Rule) (again : Bool) (o : Option Rule) (v : Option Text) (h : Held) → long_fault (map plain_rule c) again (option_map plain_rule o) v h ≡ long_fault c again o v h
long-kinds c again None v h = refl
long-kinds c again (Some a) v h = λ j. if takes_values a then option-kinds c again a v h j else (if is_some v then kind.TooManyValues ∷ [] else react-kinds c again a [] h j)

short-kinds : (c : List Rule) (again : Bool) (o : Option Rule) (rest : Text) (h : Held) (n m : Held → Kinds) → ((k : Held) → n k ≡ m k)
    → short_fault (map plain_rule c) again (option_map plain_rule o) rest h n ≡ short_fault c again o rest h m
short-kinds c again None rest h n m e = refl
short-kinds c again (Some a) rest h n m e =
    ap₂ (λ x y. if takes_values a then x else y) (option-kinds c again a (attached_value rest) h)
    (ap₂ or_else (react-kinds c again a [] h) (ap n (reacts c a [] h) ∙ e (reacted c a [] h)))

step-kinds : (c : List Rule) (again : Bool) (o : Option ℕ) (flags : Text) (skip : ℕ) (h : Held) (n m : Text → ℕ → Held → Kinds) → ((t : Text) (s : ℕ) (k : Held) → n t s k ≡ m t s k)
    → bundle_step_fault (map plain_rule c) again o flags skip h n ≡ bundle_step_fault c again o flags skip h m
step-kinds c again None flags skip h n m e = refl
step-kinds c again (Some x) flags zero h n m e =
    let rest = drop (length (encode_utf8 x)) flags in
    ap (λ (o : Option Rule). short_fault (map plain_rule c) again o rest h (n rest 0)) (by_short c x) ∙ short-kinds c again (arg_by_short c x) rest h (n rest 0) (m rest 0) (e rest 0)
step-kinds c again (Some x) flags (suc skip) h n m e = e (drop (length (encode_utf8 x)) flags) skip h

flags-kinds : (c : List Rule) (again : Bool) (k : ℕ) (flags : Text) (skip : ℕ) (h : Held) → flags_fault (map plain_rule c) again k flags skip h ≡ flags_fault c again k flags skip h
unfolding flags_fault
flags-kinds c again zero flags skip h = refl
flags-kinds c again (suc k) flags skip h = step-kinds c again (slice_get (chars flags) 0) flags skip h (flags_fault (map plain_rule c) again k) (flags_fault c again k) (flags-kinds c again k)

word-kinds : (c : List Rule) (again : Bool) (p : Option (Text × Option Text)) (word : Text) (h : Held) → flag_word_fault (map plain_rule c) again p word h ≡ flag_word_fault c again p word h
word-kinds c again (Some p) word h = ap (λ (o : Option Rule). long_fault (map plain_rule c) again o p.1 h) (by_long c p.0) ∙ long-kinds c again (arg_by_long c p.0) p.1 h
word-kinds c again None word h = go (short_of word)
  where
    go : (o : Option Text) → option_map_or (λ flags. bundle_fault (map plain_rule c) again flags h) o [] ≡ option_map_or (λ flags. bundle_fault c again flags h) o []
    go None = refl
    go (Some flags) = flags-kinds c again (length flags) flags h.skip (record h { skip = 0 })

option-met : (c : List Rule) (a : Rule) (v : Option Text) (h : Held) → option_met (map plain_rule c) (plain_rule a) v h ≡ option_met c a v h
option-met c a (Some v) h = ap (λ (k : Held). (k, done)) (reacts c a (v ∷ []) h)
option-met c a None h = ap (λ (k : Held). (record k { pending = Some (a.id, []) }, waits a.id)) (held c h)

flag-met : (c : List Rule) (a : Rule) (v : Option Text) (h : Held) → flag_met (map plain_rule c) (plain_rule a) v h ≡ flag_met c a v h
flag-met c a (Some v) h = refl
flag-met c a None h = ap (λ (k : Held). (k, done)) (reacts c a [] h)

long-met : (c : List Rule) (o : Option Rule) (v : Option Text) (h : Held) → long_met (map plain_rule c) (option_map plain_rule o) v h ≡ long_met c o v h
long-met c None v h = refl
long-met c (Some a) v h = ap₂ (λ x y. if takes_values a then x else y) (option-met c a v h) (flag-met c a v h)

short-met : (c : List Rule) (o : Option Rule) (rest : Text) (h : Held) (n m : Held → Held × Outcome) → ((k : Held) → n k ≡ m k)
    → short_met (map plain_rule c) (option_map plain_rule o) rest h n ≡ short_met c o rest h m
short-met c None rest h n m e = refl
short-met c (Some a) rest h n m e = ap₂ (λ x y. if takes_values a then x else y) (option-met c a (attached_value rest) h) (ap n (reacts c a [] h) ∙ e (reacted c a [] h))

step-met : (c : List Rule) (o : Option ℕ) (flags : Text) (skip : ℕ) (so_far : Outcome) (h : Held) (n m : Text → ℕ → Outcome → Held → Held × Outcome)
    → ((t : Text) (s : ℕ) (x : Outcome) (k : Held) → n t s x k ≡ m t s x k) → bundle_step (map plain_rule c) o flags skip so_far h n ≡ bundle_step c o flags skip so_far h m
step-met c None flags skip so_far h n m e = refl
step-met c (Some x) flags zero so_far h n m e =
    let rest = drop (length (encode_utf8 x)) flags in
    ap (λ (o : Option Rule). short_met (map plain_rule c) o rest h (n rest 0 done)) (by_short c x) ∙ short-met c (arg_by_short c x) rest h (n rest 0 done) (m rest 0 done) (e rest 0 done)
step-met c (Some x) flags (suc skip) so_far h n m e = e (drop (length (encode_utf8 x)) flags) skip so_far h

bundle-met : (c : List Rule) (k : ℕ) (flags : Text) (skip : ℕ) (so_far : Outcome) (h : Held) → bundle_met (map plain_rule c) k flags skip so_far h ≡ bundle_met c k flags skip so_far h
unfolding bundle_met
bundle-met c zero flags skip so_far h = refl
bundle-met c (suc k) flags skip so_far h = step-met c (slice_get (chars flags) 0) flags skip so_far h (bundle_met (map plain_rule c) k) (bundle_met c k) (bundle-met c k)

-- ---- words

option-word : (o : Option Rule) (id word : Text) (h : Held) → option_word (option_map plain_rule o) id word h ≡ option_word o id word h
option-word None id word h = refl
option-word (Some a) id word h = refl

plain-word : (c : List Rule) (w : Waiting) (word : Text) (h : Held) → plain_word (map plain_rule c) w word h ≡ plain_word c w word h
plain-word c idle word h = refl
plain-word c positional word h = refl
plain-word c (option id) word h = ap (λ (q : Held × Waiting). (q.0, next q.1)) (ap (λ (o : Option Rule). option_word o id word h) (by_id c id) ∙ option-word (arg_by_id c id) id word h)

after-flag : (c : List Rule) (w : Waiting) (word : Text) (h : Held) (x : Outcome) → after_flag (map plain_rule c) w word h x ≡ after_flag c w word h x
after-flag c w word h done = refl
after-flag c w word h (waits id) = refl
after-flag c w word h plain = plain-word c w word h
after-flag c w word h refused = plain-word c w word h

long-word : (c : List Rule) (w : Waiting) (word name : Text) (v : Option Text) (h : Held) → long_word (map plain_rule c) w word name v h ≡ long_word c w word name v h
long-word c w word name v h =
    ap (λ (q : Held × Outcome). after_flag (map plain_rule c) w word q.0 q.1) (ap (λ (o : Option Rule). long_met (map plain_rule c) o v h) (by_long c name) ∙ long-met c (arg_by_long c name) v h)
    ∙ after-flag c w word (long_met c (arg_by_long c name) v h).0 (long_met c (arg_by_long c name) v h).1

short-word : (c : List Rule) (w : Waiting) (word flags : Text) (h : Held) → short_word (map plain_rule c) w word flags h ≡ short_word c w word flags h
short-word c w word flags h =
    ap (λ (q : Held × Outcome). after_flag (map plain_rule c) w word q.0 q.1) (bundle-met c (length flags) flags h.skip plain (record h { skip = 0 }))
    ∙ after-flag c w word (bundle c flags h).0 (bundle c flags h).1

short-or : (c : List Rule) (w : Waiting) (word : Text) (o : Option Text) (h : Held) → short_or_plain (map plain_rule c) w word o h ≡ short_or_plain c w word o h
short-or c w word (Some flags) h = short-word c w word flags h
short-or c w word None h = plain-word c w word h

long-or : (c : List Rule) (w : Waiting) (word : Text) (o : Option (Text × Option Text)) (h : Held) → long_or_other (map plain_rule c) w word o h ≡ long_or_other c w word o h
long-or c w word (Some p) h = long-word c w word p.0 p.1 h
long-or c w word None h = short-or c w word (short_of word) h

sub-or : (c : List Rule) (o : Option Text) (w : Waiting) (position : ℕ) (word : Text) (h : Held) → subcommand_or_other (map plain_rule c) o w position word h ≡ subcommand_or_other c o w position word h
sub-or c (Some name) w position word h = refl
sub-or c None w position word h = ap (λ x. if bytes_eq word (45 ∷ 45 ∷ []) then (h, trailing position) else x) (long-or c w word (long_of word) h)

word-met : (c : List Rule) (names : Names) (is_trailing : Bool) (w : Waiting) (position : ℕ) (word : Text) (h : Held)
    → word_met (map plain_rule c) names is_trailing w position word h ≡ word_met c names is_trailing w position word h
word-met c names is_trailing w position word h = ap (λ x. if is_trailing then (h, value) else x) (sub-or c (subcommand_met names w word) w position word h)

-- ---- the walk

to-positional : (c : List Rule) (o : Option Rule) (word : Text) (w : Walk) (h : Held) → to_positional (map plain_rule c) (option_map plain_rule o) word w h ≡ to_positional c o word w h
to-positional c None word w h = refl
to-positional c (Some a) word w h =
    ap (λ (k : Held). record (to_positional c (Some a) word w h) { held = pushed a.id word (if is_pending a h.pending && takes_several a then h else k) }) (held c h)

after-step : (c : List Rule) (word : Text) (w : Walk) (h : Held) (s : Step) → after_step (map plain_rule c) word w h s ≡ after_step c word w h s
after-step c word w h (next x) = refl
after-step c word w h (trailing p) = refl
after-step c word w h (subcommand n) = refl
after-step c word w h value = ap (λ (o : Option Rule). to_positional (map plain_rule c) o word w h) (by_index c w.position) ∙ to-positional c (arg_by_index c w.position) word w h

walk-one : (c : List Rule) (names : Names) (w : Walk) (word : Text) → walked (map plain_rule c) names w word ≡ walked c names w word
unfolding walked
walk-one c names w word = go w.stopped
  where
    go : (o : Option (Text × List Text)) → walked_from (map plain_rule c) names o w word ≡ walked_from c names o w word
    go (Some p) = refl
    go None =
        let met = word_met c names w.is_trailing w.waiting w.position word w.held in
        ap (λ (q : Held × Step). after_step (map plain_rule c) word w q.0 q.1) (word-met c names w.is_trailing w.waiting w.position word w.held) ∙ after-step c word w met.0 met.1

walks : (c : List Rule) (names : Names) (h : Held) (words : List Text) → walk (map plain_rule c) names h words ≡ walk c names h words
walks c names h words = λ j. fold (λ w word. walk-one c names w word j) (walk_from h) words

-- ---- a level of the command

abbrev pub plain_shape : Shape → Shape
plain_shape s = record s { rules = map plain_rule s.rules }

abbrev pub plain_app : App → App
plain_app a = record { top = plain_shape a.top; subs = map plain_shape a.subs }

other-kinds : (s : Shape) (o : Option Text) (word : Text) (h : Held) → other_fault (plain_shape s) o word h ≡ other_fault s o word h
other-kinds s (Some name) word h = refl
other-kinds s None word h = ap (λ x. if bytes_eq word (45 ∷ 45 ∷ []) then [] else x) (word-kinds s.rules s.args_override_self (long_of word) word h)

word-fault : (s : Shape) (names : Names) (is_trailing : Bool) (w : Waiting) (word : Text) (h : Held) → word_fault (plain_shape s) names is_trailing w word h ≡ word_fault s names is_trailing w word h
word-fault s names is_trailing w word h = ap (λ x. if is_trailing then [] else x) (other-kinds s (subcommand_met names w word) word h)

positional-kinds : (c : List Rule) (again : Bool) (a : Rule) (h : Held) → positional_fault (map plain_rule c) again (plain_rule a) h ≡ positional_fault c again a h
positional-kinds c again a h = ap (λ x. if is_pending a h.pending && takes_several a then [] else x) (settles c again h)

step-fault : (s : Shape) (position : ℕ) (h : Held) (x : Step) → step_fault (plain_shape s) position h x ≡ step_fault s position h x
step-fault s position h (next w) = refl
step-fault s position h (trailing p) = refl
step-fault s position h (subcommand n) = refl
step-fault s position h value =
    ap (λ (o : Option Rule). option_map_or (λ a. positional_fault (map plain_rule s.rules) s.args_override_self a h) o (stray_fault s)) (by_index s.rules position)
    ∙ found-at (arg_by_index s.rules position)
  where
    found-at : (o : Option Rule) → option_map_or (λ a. positional_fault (map plain_rule s.rules) s.args_override_self a h) (option_map plain_rule o) (stray_fault s)
        ≡ option_map_or (λ a. positional_fault s.rules s.args_override_self a h) o (stray_fault s)
    found-at None = refl
    found-at (Some a) = positional-kinds s.rules s.args_override_self a h

turns : (s : Shape) (names : Names) (w : Walk) (word : Text) → turn_fault (plain_shape s) names w word ≡ turn_fault s names w word
turns s names w word =
    let met = word_met s.rules names w.is_trailing w.waiting w.position word w.held in
    ap (λ x. if is_some w.stopped then [] else x)
    (ap₂ or_else (word-fault s names w.is_trailing w.waiting word w.held)
    (ap (λ (q : Held × Step). step_fault (plain_shape s) w.position q.0 q.1) (word-met s.rules names w.is_trailing w.waiting w.position word w.held) ∙ step-fault s w.position met.0 met.1))

walk-kinds : (s : Shape) (names : Names) (w : Walk) (words : List Text) → walk_fault (plain_shape s) names w words ≡ walk_fault s names w words
unfolding walk_fault
walk-kinds s names w [] = refl
walk-kinds s names w (word ∷ rest) =
    ap₂ or_else (turns s names w word) (ap (λ (v : Walk). walk_fault (plain_shape s) names v rest) (walk-one s.rules names w word) ∙ walk-kinds s names (walked s.rules names w word) rest)

-- ---- after the walk

with-defaults : (rows : List Row) (a : Rule) → with_default rows (plain_rule a) ≡ with_default rows a
with-defaults rows a = λ j. if has_row a.id rows then rows else default_rows a.id (reads a j) a.defaults rows

default-kinds : (rows : List Row) (a : Rule) → default_fault rows (plain_rule a) ≡ default_fault rows a
default-kinds rows a = λ j. if has_row a.id rows || is_empty a.defaults then [] else or_else (request_kinds (action_of a)) (values-opt a.ignore_case a.parser a.defaults j)

defaults : (rows : List Row) (c : List Rule) → defaults_fault rows (map plain_rule c) ≡ defaults_fault rows c
unfolding defaults_fault
defaults rows [] = refl
defaults rows (a ∷ rest) = ap₂ or_else (default-kinds rows a) (ap (λ (rs : List Row). defaults_fault rs (map plain_rule rest)) (with-defaults rows a) ∙ defaults (with_default rows a) rest)

folds : (c : List Rule) (rows : List Row) → fold with_default rows (map plain_rule c) ≡ fold with_default rows c
folds [] rows = refl
folds (a ∷ rest) rows = ap (λ (rs : List Row). fold with_default rs (map plain_rule rest)) (with-defaults rows a) ∙ folds rest (with_default rows a)

finishes : (c : List Rule) (h : Held) → finished (map plain_rule c) h ≡ finished c h
finishes c h = ap (λ (k : Held). fold with_default k.rows (map plain_rule c)) (held c h) ∙ folds c (settled c h).rows

checks : (s : Shape) (rows : List Row) (has : Bool) → check_fault (plain_shape s) rows has ≡ check_fault s rows has
checks s rows has =
    ap (λ x. check_kinds (not has && (s.arg_required_else_help && not (list_any (λ (r : Row). explicit_source r.source) rows))) (not has && s.subcommand_required) (not (s.subcommand_negates_reqs && has) && x))
    (sym (list_any-map (λ (a : Rule). a.required && not (is_given a.id rows)) plain_rule s.rules))

levels : (s : Shape) (names : Names) (h : Held) (words : List Text) (has : Bool) (below : Kinds) → level_fault (plain_shape s) names h words has below ≡ level_fault s names h words has below
levels s names h words has below =
    let c = s.rules in
    let end : Held = (walk c names h words).held in
    let same : (walk (map plain_rule c) names h words).held ≡ end = ap (λ (w : Walk). w.held) (walks c names h words) in
    ap₂ or_else (walk-kinds s names (walk_from h) words)
    (ap (or_else below)
    (ap₂ or_else (ap (settle_fault (map plain_rule c) s.args_override_self) same ∙ settles c s.args_override_self end)
    (ap₂ or_else (ap (λ (k : Held). defaults_fault (settled (map plain_rule c) k).rows (map plain_rule c)) same ∙ ap (λ (k : Held). defaults_fault k.rows (map plain_rule c)) (held c end) ∙ defaults (settled c end).rows c)
    (ap (λ (k : Held). check_fault (plain_shape s) (finished (map plain_rule c) k) has) same ∙ ap (λ (rs : List Row). check_fault (plain_shape s) rs has) (finishes c end) ∙ checks s (finished c end) has))))

find-shape : (p : Shape → Bool) → ((s : Shape) → p (plain_shape s) ≡ p s) → (xs : List Shape) → find p (map plain_shape xs) ≡ option_map plain_shape (find p xs)
find-shape p h xs = sym (find-map p plain_shape xs) ∙ ap (λ (q : Shape → Bool). option_map plain_shape (find q xs)) (λ j s. h s j)

entered-kinds : (a : App) (stop : Option (Text × List Text)) → entered_fault (plain_app a) stop ≡ entered_fault a stop
entered-kinds a None = refl
entered-kinds a (Some p) =
    ap (λ (o : Option Shape). option_map_or (λ s. level_fault s [] nothing_held p.1 false []) o []) (find-shape (λ s. answers_to p.0 (label_of s)) (λ s. refl) a.subs)
    ∙ go (find (λ s. answers_to p.0 (label_of s)) a.subs)
  where
    go : (o : Option Shape) → option_map_or (λ s. level_fault s [] nothing_held p.1 false []) (option_map plain_shape o) [] ≡ option_map_or (λ s. level_fault s [] nothing_held p.1 false []) o []
    go None = refl
    go (Some s) = levels s [] nothing_held p.1 false []

enters : (a : App) (stop : Option (Text × List Text)) → is_some (entered (plain_app a) stop) ≡ is_some (entered a stop)
enters a None = refl
enters a (Some p) =
    ap (λ (o : Option Shape). is_some (option_map (λ s. rows_at s p.1) o)) (find-shape (λ s. answers_to p.0 (label_of s)) (λ s. refl) a.subs)
    ∙ go (find (λ s. answers_to p.0 (label_of s)) a.subs)
  where
    go : (o : Option Shape) → is_some (option_map (λ s. rows_at s p.1) (option_map plain_shape o)) ≡ is_some (option_map (λ s. rows_at s p.1) o)
    go None = refl
    go (Some s) = refl

names-plain : (xs : List Shape) → map label_of (map plain_shape xs) ≡ map label_of xs
names-plain [] = refl
names-plain (x ∷ xs) = ap (λ ys. label_of x ∷ ys) (names-plain xs)

-- a built command fails alike wherever its lists of names lie
pub built-plain : (a : App) (h : Held) (words : List Text) → built_fault (plain_app a) h words ≡ built_fault a h words
built-plain a h words =
    let stop : Option (Text × List Text) = (walk a.top.rules (names_of a) h words).stopped in
    let names = names-plain a.subs in
    let same : (walk (map plain_rule a.top.rules) (names_of (plain_app a)) h words).stopped ≡ stop =
    ap (λ ns. (walk (map plain_rule a.top.rules) ns h words).stopped) names ∙ ap (λ (w : Walk). w.stopped) (walks a.top.rules (names_of a) h words) in
    ap (λ o. level_fault (plain_shape a.top) (names_of (plain_app a)) h words (is_some (entered (plain_app a) o)) (entered_fault (plain_app a) o)) same
    ∙ ap (λ ns. level_fault (plain_shape a.top) ns h words (is_some (entered (plain_app a) stop)) (entered_fault (plain_app a) stop)) names
    ∙ ap₂ (λ x y. level_fault (plain_shape a.top) (names_of a) h words x y) (enters a stop) (entered-kinds a stop)
    ∙ levels a.top (names_of a) h words (is_some (entered a stop)) (entered_fault a stop)

rows-plain : (s : Shape) (words : List Text) → rows_at (plain_shape s) words ≡ rows_at s words
rows-plain s words =
    ap (λ (rs : List Row). (s.name, rs)) (ap (λ (w : Walk). finished (map plain_rule s.rules) w.held) (walks s.rules [] nothing_held words) ∙ finishes s.rules (walk s.rules [] nothing_held words).held)

entered-plain : (a : App) (stop : Option (Text × List Text)) → entered (plain_app a) stop ≡ entered a stop
entered-plain a None = refl
entered-plain a (Some p) =
    ap (λ (o : Option Shape). option_map (λ s. rows_at s p.1) o) (find-shape (λ s. answers_to p.0 (label_of s)) (λ s. refl) a.subs)
    ∙ go (find (λ s. answers_to p.0 (label_of s)) a.subs)
  where
    go : (o : Option Shape) → option_map (λ s. rows_at s p.1) (option_map plain_shape o) ≡ option_map (λ s. rows_at s p.1) o
    go None = refl
    go (Some s) = ap (λ x. Some x) (rows-plain s p.1)

stops-plain : (a : App) (words : List Text) → stop_after (plain_app a).top.rules (names_of (plain_app a)) words ≡ stop_after a.top.rules (names_of a) words
stops-plain a words =
    ap (λ ns. (walk (map plain_rule a.top.rules) ns nothing_held words).stopped) (names-plain a.subs) ∙ ap (λ (w : Walk). w.stopped) (walks a.top.rules (names_of a) nothing_held words)

-- a built command enters the same subcommand, with the same rows
pub enters-plain : (a : App) (words : List Text) → entered (plain_app a) (stop_after (plain_app a).top.rules (names_of (plain_app a)) words) ≡ entered a (stop_after a.top.rules (names_of a) words)
enters-plain a words = ap (entered (plain_app a)) (stops-plain a words) ∙ entered-plain a (stop_after a.top.rules (names_of a) words)

-- ---- the program's command

texts-plain : (xs : List (Bor Text)) → map plain_text xs ≡ map (λ (t : Text). record { ref_ptr = (0, 0); now = t }) (map (λ (s : Bor Text). s.now) xs)
texts-plain [] = refl
texts-plain (x ∷ xs) = ap (λ ys. plain_text x ∷ ys) (texts-plain xs)

lists-plain : (n : NameList) (ts : List Text) → Spells n ts → plain_list n ≡ spelled ts
lists-plain n ts h = ap (λ (xs : List (Bor Text)). record { ref_ptr = (0, 0); now = xs }) (texts-plain n.now) ∙ ap spelled h

moved : (sizes ratings places bits : NameList) → plain_app (built (sced_app_over sizes ratings places bits)) ≡ built (sced_app_over (plain_list sizes) (plain_list ratings) (plain_list places) (plain_list bits))
unfolding clap_on_literals sced_app_over
moved sizes ratings places bits = refl

plain-sced : (sizes ratings places bits : NameList) → Spells sizes size_words → Spells ratings rating_words → Spells places place_words → Spells bits bits_words → plain_app (built (sced_app_over sizes ratings places bits)) ≡ built sced_app
unfolding sced_app
plain-sced sizes ratings places bits s r p q = moved sizes ratings places bits ∙ ap₂ (λ (x y : NameList). built (sced_app_over x y (plain_list places) (plain_list bits))) (lists-plain sizes size_words s) (lists-plain ratings rating_words r)
    ∙ ap₂ (λ (x y : NameList). built (sced_app_over (spelled size_words) (spelled rating_words) x y)) (lists-plain places place_words p) (lists-plain bits bits_words q)

args-at : (sizes ratings places bits : NameList) (words : List Text) → argument_words (sced_app_over sizes ratings places bits) words ≡ drop 1 words
unfolding sced_app_over
args-at sizes ratings places bits words = refl

args-sced : (words : List Text) → argument_words sced_app words ≡ drop 1 words
unfolding sced_app
args-sced words = args-at (spelled size_words) (spelled rating_words) (spelled place_words) (spelled bits_words) words

-- the command refuses the same words wherever its lists of the sizes, of the ratings, of the places and of the bits lie
pub fault-anywhere : (sizes ratings places bits : NameList) (words : List Text) → Spells sizes size_words → Spells ratings rating_words → Spells places place_words → Spells bits bits_words
    → fault_of (sced_app_over sizes ratings places bits) words ≡ fault_of sced_app words
fault-anywhere sizes ratings places bits words s r p q =
    ap (built_fault (built (sced_app_over sizes ratings places bits)) nothing_held) (args-at sizes ratings places bits words)
    ∙ sym (built-plain (built (sced_app_over sizes ratings places bits)) nothing_held (drop 1 words))
    ∙ ap (λ (x : App). built_fault x nothing_held (drop 1 words)) (plain-sced sizes ratings places bits s r p q)
    ∙ sym (ap (built_fault (built sced_app) nothing_held) (args-sced words))

-- and reads the same in them
pub entered-anywhere : (sizes ratings places bits : NameList) (words : List Text) → Spells sizes size_words → Spells ratings rating_words → Spells places place_words → Spells bits bits_words
    → subcommand_of (sced_app_over sizes ratings places bits) words ≡ subcommand_of sced_app words
entered-anywhere sizes ratings places bits words s r p q =
    let b : App = built (sced_app_over sizes ratings places bits) in
    ap (λ ws. entered b (stop_after b.top.rules (names_of b) ws)) (args-at sizes ratings places bits words)
    ∙ sym (enters-plain b (drop 1 words))
    ∙ ap (λ (x : App). entered x (stop_after x.top.rules (names_of x) (drop 1 words))) (plain-sced sizes ratings places bits s r p q)
    ∙ sym (ap (λ ws. entered (built sced_app) (stop_after (built sced_app).top.rules (names_of (built sced_app)) ws)) (args-sced words))
