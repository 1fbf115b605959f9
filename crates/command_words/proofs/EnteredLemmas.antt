-- The words that a subcommand takes give a value to each option that it needs.
use Rattle.std.proofs.Common.{◌≡◌, ◌∙◌, refl, sym, ap, subst, Bool, true, false, List, [], ◌∷◌, codes, Option, Some, None, inl, inr}
use Rattle.std.specs.Prelude.{◌||◌, find, is_some, option_map, pos, unwrap_or}
use Rattle.std.specs.Option.{option_map_or}
use Rattle.std.specs.Str.{bytes_eq}
use Rattle.std.proofs.lemmas.Slice.Eq.{bytes_eq-Decides}
use Rattle.clap.specs.Faults.{built_fault, entered_fault, level_fault}
use Rattle.clap.specs.Kinds.{Kinds}
use Rattle.clap.specs.Simple.{App, Shape, built, entered, filled, help_rule, label_of, names_of, rows_at, with_index}
use Rattle.clap.specs.Walk.{Row, Rule, Text, answers_to, nothing_held, rows_after, stop_after}
use Rattle.clap.specs.Words.{fault_of, first_of}
use Rattle.clap.specs.declared.builder.value_parser.ValueParser.TheVariants.{Names, Signed}
use Rattle.clap.proofs.OnLiterals.{clap_on_literals}
use Rattle.command_words.specs.Words.{AreGiven, Enters, bits_words, choice_rule, file_rule, is_fault, place_words, rating_words, refuses, sced_app, sced_app_over, size_words, spelled, table_rule, value_rule}
use Rattle.command_words.proofs.GivenLemmas.{Among, Each, IsGiven, TakesOne, both-none, each-in, found-in, required-given}
use Rattle.command_words.proofs.WordsLemmas.{nine_built, subs-are}

-- ---- the subcommand that words enter

-- it is the one that a word finds among these, with rows of words that give no fault
record EntersLeaf (subs : List Shape) (name : Text) (rows : List Row) : Type 0 where
  pub shape : Shape
  pub word : Text
  pub words : List Text
  pub found : find (λ s. answers_to word (label_of s)) subs ≡ Some shape
  pub named : shape.name ≡ name
  pub rows_are : rows ≡ rows_after shape.rules [] words
  pub passes : level_fault shape [] nothing_held words false [] ≡ []

abbrev no_entry : Option (Text × List Row)
no_entry = None

found-leaf : (subs : List Shape) (word : Text) (words : List Text) (name : Text) (rows : List Row) (o : Option Shape) → find (λ s. answers_to word (label_of s)) subs ≡ o
    → option_map (λ s. rows_at s words) o ≡ Some (name, rows) → option_map_or (λ s. level_fault s [] nothing_held words false []) o [] ≡ [] → EntersLeaf subs name rows
found-leaf subs word words name rows None found is none = let bad : no_entry ≡ Some (name, rows) = is in cc bad
found-leaf subs word words name rows (Some s) found is none = record {
  shape = s;
  word = word;
  words = words;
  found = found;
  named = ap (λ (o : Option (Text × List Row)). (unwrap_or o (s.name, rows)).0) is;
  rows_are = sym (ap (λ (o : Option (Text × List Row)). (unwrap_or o (s.name, rows)).1) is);
  passes = none;
}

entered-leaf : (a : App) (stop : Option (Text × List Text)) (name : Text) (rows : List Row) → entered a stop ≡ Some (name, rows) → entered_fault a stop ≡ [] → EntersLeaf a.subs name rows
entered-leaf a None name rows is none = let bad : no_entry ≡ Some (name, rows) = is in cc bad
entered-leaf a (Some p) name rows is none = found-leaf a.subs p.0 p.1 name rows (find (λ s. answers_to p.0 (label_of s)) a.subs) refl is none

fault-below : (a : App) (words : List Text) → built_fault a nothing_held words ≡ [] → entered_fault a (stop_after a.top.rules (names_of a) words) ≡ []
fault-below a words none = (both-none _ _ (both-none _ _ none).1).0

not-a-fault : (kinds : Kinds) → is_fault kinds ≡ false → kinds ≡ []
not-a-fault [] none = refl
not-a-fault (k ∷ ks) none = cc none

enters-leaf : (words : List Text) (name : Text) (rows : List Row) → Enters words name rows → EntersLeaf nine_built name rows
unfolding refuses
enters-leaf words name rows enters =
    let none : fault_of sced_app words ≡ [] = not-a-fault (fault_of sced_app words) enters.taken in
    subst (λ (subs : List Shape). EntersLeaf subs name rows) subs-are (entered-leaf (built sced_app) _ name rows enters.entered (fault-below (built sced_app) _ none))

-- no subcommand has another name
no-aliases : Each (λ s. s.aliases ≡ []) nine_built
unfolding clap_on_literals sced_app sced_app_over
no-aliases = (refl, (refl, (refl, (refl, (refl, (refl, (refl, (refl, (refl, tt)))))))))

-- so a word that finds one is its name
own-name : (s : Shape) (word : Text) → s.aliases ≡ [] → answers_to word (label_of s) ≡ true → word ≡ s.name
own-name s word none answers =
    let plain : answers_to word (s.name, []) ≡ true = subst (λ (others : List Text). answers_to word (s.name, others) ≡ true) none answers in
    go (bytes_eq s.name word) refl plain
  where
    go : (b : Bool) → bytes_eq s.name word ≡ b → (b || false) ≡ true → word ≡ s.name
    go true is h = sym ((bytes_eq-Decides s.name word).0 is)
    go false is h = cc h

found-by-name : (name : Text) (rows : List Row) (leaf : EntersLeaf nine_built name rows) → find (λ s. answers_to name (label_of s)) nine_built ≡ Some leaf.shape
found-by-name name rows leaf =
    let here = found-in (λ s. answers_to leaf.word (label_of s)) nine_built leaf.shape leaf.found in
    let word : leaf.word ≡ name = own-name leaf.shape leaf.word (each-in (λ s. s.aliases ≡ []) nine_built leaf.shape no-aliases here.0) here.1 ∙ leaf.named in
    subst (λ (w : Text). find (λ s. answers_to w (label_of s)) nine_built ≡ Some leaf.shape) word leaf.found

-- ---- what a subcommand needs is given

-- the subcommand of this name has these arguments
abbrev HasRules : Text → List Rule → Type 0
HasRules name rules = option_map (λ s. s.rules) (find (λ s. answers_to name (label_of s)) nine_built) ≡ Some rules

leaf-given : (words : List Text) (name : Text) (rows : List Row) (rules : List Rule) (a : Rule) → HasRules name rules → Each TakesOne rules → Enters words name rows
    → Among (λ b. b ≡ a) rules → a.required ≡ true → IsGiven rules a.id rows
leaf-given words name rows rules a has ones enters among required =
    let leaf = enters-leaf words name rows enters in
    let found : Some leaf.shape.rules ≡ Some rules = sym (ap (option_map (λ (s : Shape). s.rules)) (found-by-name name rows leaf)) ∙ has in
    let same : leaf.shape.rules ≡ rules = ap (λ (o : Option (List Rule)). unwrap_or o leaf.shape.rules) found in
    let given = required-given leaf.shape leaf.words a (subst (Each TakesOne) (sym same) ones) (subst (Among (λ b. b ≡ a)) (sym same) among) required leaf.passes in
    subst (λ (rs : List Row). IsGiven rules a.id rs) (sym leaf.rows_are) (subst (λ (r : List Rule). IsGiven r a.id (rows_after leaf.shape.rules [] leaf.words)) same given)

abbrev file : Text → Rule
file name = filled (file_rule name)

abbrev table : Text → Rule
table name = filled (table_rule name)

one-value : TakesOne (table [])
one-value = (inr (refl, refl, refl), refl)

one-help : TakesOne (filled help_rule)
one-help = (inl refl, refl)

abbrev pool_rules : List Rule
pool_rules = file (codes "case") ∷ file (codes "offers") ∷ filled help_rule ∷ []

abbrev places_rule : Rule
places_rule = filled (choice_rule (codes "factor-places") (spelled place_words))

abbrev bits_rule : Rule
bits_rule = filled (choice_rule (codes "number-bits") (spelled bits_words))

abbrev market_rules : List Rule → List Rule
market_rules more = file (codes "case") ∷ file (codes "ptdf") ∷ file (codes "offers") ∷ table (codes "lodf") ∷ table (codes "contingencies")
    ∷ table (codes "unit-outages") ∷ table (codes "reserves") ∷ table (codes "offsets") ∷ table (codes "penalties")
    ∷ filled (choice_rule (codes "post-rating") (spelled rating_words)) ∷ places_rule ∷ bits_rule ∷ more

abbrev clear_rules : List Rule
clear_rules = market_rules (table (codes "certificate") ∷ filled help_rule ∷ [])

abbrev replay_rules : List Rule
replay_rules = market_rules (file (codes "edits") ∷ table (codes "certificate") ∷ filled help_rule ∷ [])

abbrev verify_rules : List Rule
verify_rules = market_rules (table (codes "edits") ∷ file (codes "certificate") ∷ filled help_rule ∷ [])

abbrev rights_rules : List Rule
rights_rules = market_rules (file (codes "rights") ∷ filled help_rule ∷ [])

abbrev check_rules : List Rule
check_rules = file (codes "case") ∷ file (codes "ptdf") ∷ table (codes "lodf") ∷ table (codes "contingencies") ∷ places_rule ∷ filled help_rule ∷ []

abbrev factors_rules : List Rule
factors_rules = file (codes "case") ∷ file (codes "ptdf-out") ∷ table (codes "lodf-out") ∷ table (codes "contingencies") ∷ places_rule ∷ filled help_rule ∷ []

abbrev migrate_rules : List Rule
migrate_rules = file (codes "certificate") ∷ file (codes "out") ∷ bits_rule ∷ filled help_rule ∷ []

abbrev pub size_rule : Rule
size_rule = with_index 1 (filled (value_rule (codes "N") (Names (spelled size_words))))

abbrev pub seed_rule : Rule
seed_rule = with_index 2 (filled (value_rule (codes "SEED") (Signed (pos 0) (pos 4294967295))))

abbrev pub make_rules : List Rule
make_rules = size_rule ∷ seed_rule ∷ filled help_rule ∷ []

pool-has : HasRules (codes "pool") pool_rules
unfolding clap_on_literals sced_app sced_app_over
pool-has = refl

clear-has : HasRules (codes "clear") clear_rules
unfolding clap_on_literals sced_app sced_app_over
clear-has = refl

replay-has : HasRules (codes "replay") replay_rules
unfolding clap_on_literals sced_app sced_app_over
replay-has = refl

verify-has : HasRules (codes "verify") verify_rules
unfolding clap_on_literals sced_app sced_app_over
verify-has = refl

check-has : HasRules (codes "check") check_rules
unfolding clap_on_literals sced_app sced_app_over
check-has = refl

factors-has : HasRules (codes "factors") factors_rules
unfolding clap_on_literals sced_app sced_app_over
factors-has = refl

rights-has : HasRules (codes "rights") rights_rules
unfolding clap_on_literals sced_app sced_app_over
rights-has = refl

migrate-has : HasRules (codes "migrate") migrate_rules
unfolding clap_on_literals sced_app sced_app_over
migrate-has = refl

make-has : HasRules (codes "make") make_rules
unfolding clap_on_literals sced_app sced_app_over
make-has = refl

market-ones : (more : List Rule) → Each TakesOne more → Each TakesOne (market_rules more)
market-ones more ones =
    (one-value, (one-value, (one-value, (one-value, (one-value, (one-value, (one-value, (one-value, (one-value, (one-value, (one-value, (one-value, ones))))))))))))

check-ones : Each TakesOne check_rules
check-ones = (one-value, (one-value, (one-value, (one-value, (one-value, (one-help, tt))))))

factors-ones : Each TakesOne factors_rules
factors-ones = (one-value, (one-value, (one-value, (one-value, (one-value, (one-help, tt))))))

make-ones : Each TakesOne make_rules
make-ones = (one-value, (one-value, (one-help, tt)))

is-some : (rules : List Rule) (id : Text) (rows : List Row) → IsGiven rules id rows → is_some (first_of id rows) ≡ true
is-some rules id rows given = ap is_some given.first

pub pool-given : (words : List Text) (rows : List Row) → Enters words (codes "pool") rows → AreGiven (codes "case" ∷ codes "offers" ∷ []) rows
pool-given words rows enters =
    let ones : Each TakesOne pool_rules = (one-value, (one-value, (one-help, tt))) in
    let given : (a : Rule) → Among (λ b. b ≡ a) pool_rules → a.required ≡ true → is_some (first_of a.id rows) ≡ true =
    λ a among required. is-some pool_rules a.id rows (leaf-given words (codes "pool") rows pool_rules a pool-has ones enters among required) in
    (given (file (codes "case")) (inl refl) refl, (given (file (codes "offers")) (inr (inl refl)) refl, tt))

-- an option that comes behind those of a market
behind-market : (name : Text) (more : List Rule) → Among (λ b. b ≡ file name) more → Among (λ b. b ≡ file name) (market_rules more)
behind-market name more among = inr (inr (inr (inr (inr (inr (inr (inr (inr (inr (inr (inr among)))))))))))

pub clear-given : (words : List Text) (rows : List Row) → Enters words (codes "clear") rows → AreGiven (codes "case" ∷ codes "ptdf" ∷ codes "offers" ∷ []) rows
clear-given words rows enters =
    let ones = market-ones (table (codes "certificate") ∷ filled help_rule ∷ []) (one-value, (one-help, tt)) in
    let given : (a : Rule) → Among (λ b. b ≡ a) clear_rules → a.required ≡ true → is_some (first_of a.id rows) ≡ true =
    λ a among required. is-some clear_rules a.id rows (leaf-given words (codes "clear") rows clear_rules a clear-has ones enters among required) in
    (given (file (codes "case")) (inl refl) refl, (given (file (codes "ptdf")) (inr (inl refl)) refl, (given (file (codes "offers")) (inr (inr (inl refl))) refl, tt)))

pub replay-given : (words : List Text) (rows : List Row) → Enters words (codes "replay") rows → AreGiven (codes "case" ∷ codes "ptdf" ∷ codes "offers" ∷ codes "edits" ∷ []) rows
replay-given words rows enters =
    let ones = market-ones (file (codes "edits") ∷ table (codes "certificate") ∷ filled help_rule ∷ []) (one-value, (one-value, (one-help, tt))) in
    let given : (a : Rule) → Among (λ b. b ≡ a) replay_rules → a.required ≡ true → is_some (first_of a.id rows) ≡ true =
    λ a among required. is-some replay_rules a.id rows (leaf-given words (codes "replay") rows replay_rules a replay-has ones enters among required) in
    let edits = given (file (codes "edits")) (behind-market (codes "edits") (file (codes "edits") ∷ table (codes "certificate") ∷ filled help_rule ∷ []) (inl refl)) refl in
    (given (file (codes "case")) (inl refl) refl, (given (file (codes "ptdf")) (inr (inl refl)) refl, (given (file (codes "offers")) (inr (inr (inl refl))) refl, (edits, tt))))

pub verify-given : (words : List Text) (rows : List Row) → Enters words (codes "verify") rows → AreGiven (codes "case" ∷ codes "ptdf" ∷ codes "offers" ∷ codes "certificate" ∷ []) rows
verify-given words rows enters =
    let ones = market-ones (table (codes "edits") ∷ file (codes "certificate") ∷ filled help_rule ∷ []) (one-value, (one-value, (one-help, tt))) in
    let given : (a : Rule) → Among (λ b. b ≡ a) verify_rules → a.required ≡ true → is_some (first_of a.id rows) ≡ true =
    λ a among required. is-some verify_rules a.id rows (leaf-given words (codes "verify") rows verify_rules a verify-has ones enters among required) in
    let certificate = given (file (codes "certificate")) (behind-market (codes "certificate") (table (codes "edits") ∷ file (codes "certificate") ∷ filled help_rule ∷ []) (inr (inl refl))) refl in
    (given (file (codes "case")) (inl refl) refl, (given (file (codes "ptdf")) (inr (inl refl)) refl, (given (file (codes "offers")) (inr (inr (inl refl))) refl, (certificate, tt))))

pub rights-given : (words : List Text) (rows : List Row) → Enters words (codes "rights") rows → AreGiven (codes "case" ∷ codes "ptdf" ∷ codes "offers" ∷ codes "rights" ∷ []) rows
rights-given words rows enters =
    let ones = market-ones (file (codes "rights") ∷ filled help_rule ∷ []) (one-value, (one-help, tt)) in
    let given : (a : Rule) → Among (λ b. b ≡ a) rights_rules → a.required ≡ true → is_some (first_of a.id rows) ≡ true =
    λ a among required. is-some rights_rules a.id rows (leaf-given words (codes "rights") rows rights_rules a rights-has ones enters among required) in
    let rights = given (file (codes "rights")) (behind-market (codes "rights") (file (codes "rights") ∷ filled help_rule ∷ []) (inl refl)) refl in
    (given (file (codes "case")) (inl refl) refl, (given (file (codes "ptdf")) (inr (inl refl)) refl, (given (file (codes "offers")) (inr (inr (inl refl))) refl, (rights, tt))))

pub migrate-given : (words : List Text) (rows : List Row) → Enters words (codes "migrate") rows → AreGiven (codes "certificate" ∷ codes "out" ∷ []) rows
migrate-given words rows enters =
    let ones : Each TakesOne migrate_rules = (one-value, (one-value, (one-value, (one-help, tt)))) in
    let given : (a : Rule) → Among (λ b. b ≡ a) migrate_rules → a.required ≡ true → is_some (first_of a.id rows) ≡ true =
    λ a among required. is-some migrate_rules a.id rows (leaf-given words (codes "migrate") rows migrate_rules a migrate-has ones enters among required) in
    (given (file (codes "certificate")) (inl refl) refl, (given (file (codes "out")) (inr (inl refl)) refl, tt))

pub check-given : (words : List Text) (rows : List Row) → Enters words (codes "check") rows → AreGiven (codes "case" ∷ codes "ptdf" ∷ []) rows
check-given words rows enters =
    let given : (a : Rule) → Among (λ b. b ≡ a) check_rules → a.required ≡ true → is_some (first_of a.id rows) ≡ true =
    λ a among required. is-some check_rules a.id rows (leaf-given words (codes "check") rows check_rules a check-has check-ones enters among required) in
    (given (file (codes "case")) (inl refl) refl, (given (file (codes "ptdf")) (inr (inl refl)) refl, tt))

pub factors-given : (words : List Text) (rows : List Row) → Enters words (codes "factors") rows → AreGiven (codes "case" ∷ codes "ptdf-out" ∷ []) rows
factors-given words rows enters =
    let given : (a : Rule) → Among (λ b. b ≡ a) factors_rules → a.required ≡ true → is_some (first_of a.id rows) ≡ true =
    λ a among required. is-some factors_rules a.id rows (leaf-given words (codes "factors") rows factors_rules a factors-has factors-ones enters among required) in
    (given (file (codes "case")) (inl refl) refl, (given (file (codes "ptdf-out")) (inr (inl refl)) refl, tt))

pub size-given : (words : List Text) (rows : List Row) → Enters words (codes "make") rows → IsGiven make_rules (codes "N") rows
size-given words rows enters = leaf-given words (codes "make") rows make_rules size_rule make-has make-ones enters (inl refl) refl

pub seed-given : (words : List Text) (rows : List Row) → Enters words (codes "make") rows → IsGiven make_rules (codes "SEED") rows
seed-given words rows enters = leaf-given words (codes "make") rows make_rules seed_rule make-has make-ones enters (inr (inl refl)) refl
