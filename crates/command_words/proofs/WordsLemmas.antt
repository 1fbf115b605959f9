-- The command is one of which every refusal is known, and what it takes is what the words ask for.
use Rattle.std.proofs.Common.{◌≡◌, ◌≢◌, ◌⊎◌, ◌∙◌, refl, sym, ap, subst, ℕ, Bool, true, false, List, [], ◌∷◌, map, Result, Ok, Err, inl, inr, Option, Some, None, option_map, codes}
use Rattle.std.proofs.lemmas.Slice.Eq.{bytes_eq-Decides}
use Rattle.std.specs.Str.{bytes_eq}
use Rattle.std.specs.Str.Parse.{digits_value, without_leading_plus}
use Rattle.std.specs.Box.{box_value}
use Rattle.std.specs.Prelude.{Box, find, unwrap_or}
use Rattle.clap.specs.Simple.{Shape, built, built_leaf, entered, inherited, label_of, marked_built, on_top, subcommand_rows}
use Rattle.clap.specs.Walk.{answers_to, rows_after}
use Rattle.clap.specs.Words.{App, FailsBy, HasKind, IsAmong, Kinds, Row, Text, fault_of, first_of, is_simple, one_of, is_simple_and_free, kind_of, subcommand_name_of, subcommand_of, subcommand_rows_of}
use Rattle.clap.specs.declared.parser.matches.ArgMatches.{ArgMatches}
use Rattle.clap.specs.declared.parser.matches.ArgMatches.TheViews.{out-ArgMatches, out-SubCommand}
use Rattle.clap.specs.declared.parser.matches.SubCommand.{SubCommand}
use Rattle.clap.specs.declared.error.Error.{Error}
use Rattle.clap.specs.declared.error.kind.ErrorKind.{ErrorKind}
use Rattle.clap.specs.declared.error.kind.ErrorKind.TheVariants as kind
use Rattle.clap.proofs.OnLiterals.{clap_on_literals}
use Rattle.command_words.specs.Words.{AsksCheck, AsksClear, AsksFactors, AsksMake, AsksMigrate, AsksPool, AsksReplay, AsksRights, AsksVerify, CheckNames, Enters, FactorNames, MarketNames, NameList, Spells, Writes, bits_of, bits_words, check_app, check_names, clear_app, factor_names, factors_app, file_of, is_fault, make_app, market_names, migrate_app, place_words, pool_app, rating_words, refuses, replay_app, rights_app, sced_app, sced_app_over, size_words, spelled, verify_app}
use Rattle.number_bits.specs.declared.NumberBits.{NumberBits}
use Rattle.command_words.proofs.PlainLemmas.{entered-anywhere, fault-anywhere}

free : (sizes ratings places bits : NameList) → is_simple_and_free (sced_app_over sizes ratings places bits) ≡ true
unfolding clap_on_literals sced_app_over
free sizes ratings places bits = refl

simple : (sizes ratings places bits : NameList) → is_simple (sced_app_over sizes ratings places bits) ≡ true
unfolding clap_on_literals sced_app_over
simple sizes ratings places bits = refl

-- it must be followed by a subcommand
pub is_needed : (sizes ratings places bits : NameList) → (sced_app_over sizes ratings places bits).top.subcommand_required ≡ true
unfolding sced_app_over
is_needed sizes ratings places bits = refl

pub is_free : (a : App) (sizes ratings places bits : NameList) → a ≡ sced_app_over sizes ratings places bits → is_simple_and_free a ≡ true
is_free a sizes ratings places bits same = ap is_simple_and_free same ∙ free sizes ratings places bits

pub is_plain : (a : App) (sizes ratings places bits : NameList) → a ≡ sced_app_over sizes ratings places bits → is_simple a ≡ true
is_plain a sizes ratings places bits same = ap is_simple same ∙ simple sizes ratings places bits

some_among : (k : ErrorKind) (ks : Kinds) → IsAmong k ks → ks ≢ []
some_among k [] h = absurd h
some_among k (x ∷ xs) h = λ e. cc

some_kind : (e : Error) (ks : Kinds) → kind_of e ≢ kind.OutOfMemory → HasKind ks e → ks ≢ []
some_kind e ks not_memory (inl m) = absurd (not_memory m)
some_kind e ks not_memory (inr k) = some_among (kind_of e) ks k

no_fault : (ks : Kinds) → ks ≡ [] → is_fault ks ≡ false
no_fault ks e = rw e refl

a_fault : (ks : Kinds) → ks ≢ [] → is_fault ks ≡ true
a_fault [] h = absurd (h refl)
a_fault (k ∷ ks) h = refl

kinds-of : (a : App) (sizes ratings places bits : NameList) (words : List Text) → a ≡ sced_app_over sizes ratings places bits → Spells sizes size_words → Spells ratings rating_words → Spells places place_words → Spells bits bits_words → fault_of a words ≡ fault_of sced_app words
kinds-of a sizes ratings places bits words same s r p q = ap (λ (x : App). fault_of x words) same ∙ fault-anywhere sizes ratings places bits words s r p q

-- a parse that succeeds is of words that the command takes, and one that fails, but for memory, of others
taken_by : {T : Type 0} (r : Result T Error) (m : T) (a : App) (sizes ratings places bits : NameList) (words : List Text) → r ≡ Ok m
    → a ≡ sced_app_over sizes ratings places bits → Spells sizes size_words → Spells ratings rating_words → Spells places place_words → Spells bits bits_words → FailsBy (fault_of a words) r → refuses words ≡ false
unfolding refuses
taken_by r m a sizes ratings places bits words is same s t p q h = no_fault (fault_of sced_app words) (sym (kinds-of a sizes ratings places bits words same s t p q) ∙ rw is at h)

pub refused_by : {T : Type 0} (r : Result T Error) (e : Error) (a : App) (sizes ratings places bits : NameList) (words : List Text) → r ≡ Err e → kind_of e ≢ kind.OutOfMemory
    → a ≡ sced_app_over sizes ratings places bits → Spells sizes size_words → Spells ratings rating_words → Spells places place_words → Spells bits bits_words → FailsBy (fault_of a words) r → refuses words ≡ true
unfolding refuses
refused_by r e a sizes ratings places bits words is not_memory same s t p q h =
    let some = some_kind e (fault_of a words) not_memory (rw is at h) in
    a_fault (fault_of sced_app words) (λ none. some (kinds-of a sizes ratings places bits words same s t p q ∙ none))

-- what a parse enters is what the words name
entered_by : (a : App) (sizes ratings places bits : NameList) (words : List Text) → a ≡ sced_app_over sizes ratings places bits → Spells sizes size_words → Spells ratings rating_words → Spells places place_words → Spells bits bits_words → subcommand_of a words ≡ subcommand_of sced_app words
entered_by a sizes ratings places bits words same s t p q = ap (λ (x : App). subcommand_of x words) same ∙ entered-anywhere sizes ratings places bits words s t p q

-- the name and the rows of the subcommand, together
both_of : (m : ArgMatches) (n : Text) (rs : List Row) → Some n ≡ subcommand_name_of m → Some rs ≡ option_map (λ (p : Text × List Row). p.1) (subcommand_rows_of m)
    → subcommand_rows_of m ≡ Some (n, rs)
both_of m n rs = go (out-ArgMatches m).subcommand n rs
  where
    go : {Z : Type 0} (o : Option (Box SubCommand Z)) (n : Text) (rs : List Row) → Some n ≡ option_map (λ (b : Box SubCommand Z). (out-SubCommand (box_value b)).name.now) o
        → Some rs ≡ option_map (λ (p : Text × List Row). p.1) (subcommand_rows o) → subcommand_rows o ≡ Some (n, rs)
    go None n rs e h = cc
    go (Some b) n rs e h = cc

-- what a parse that succeeds has entered is what the words enter
pub enters_by : {T : Type 0} (r : Result T Error) (t : T) (m : ArgMatches) (a : App) (sizes ratings places bits : NameList) (words : List Text) (n : Text) (rs : List Row) → r ≡ Ok t
    → a ≡ sced_app_over sizes ratings places bits → Spells sizes size_words → Spells ratings rating_words → Spells places place_words → Spells bits bits_words → FailsBy (fault_of a words) r → subcommand_rows_of m ≡ subcommand_of a words
    → Some n ≡ subcommand_name_of m → Some rs ≡ option_map (λ (p : Text × List Row). p.1) (subcommand_rows_of m) → Enters words n rs
enters_by r t m a sizes ratings places bits words n rs is same s u p q fails found name rows = record {
  taken = taken_by r t a sizes ratings places bits words is same s u p q fails;
  entered = sym (entered_by a sizes ratings places bits words same s u p q) ∙ sym found ∙ both_of m n rs name rows;
}

pub enters-named : (words : List Text) (n n' : Text) (rs : List Row) → n ≡ n' → Enters words n rs → Enters words n' rs
enters-named words n n' rs same enters = subst (λ name. Enters words name rs) same enters

-- ---- words ask for one thing alone
-- words enter one subcommand, with one list of options
pub enters-once : (words : List Text) (name name' : Text) (rows rows' : List Row) → Enters words name rows → Enters words name' rows' → (name ≡ name') × (rows ≡ rows')
enters-once words name name' rows rows' enters enters' =
    let both = sym enters.entered ∙ enters'.entered in
    (ap (λ (o : Option (Text × List Row)). (unwrap_or o (name, rows)).0) both, ap (λ (o : Option (Text × List Row)). (unwrap_or o (name, rows)).1) both)

-- so they do not enter two of different names
pub enters-one : (words : List Text) (name name' : Text) (rows rows' : List Row) → name ≢ name' → Enters words name rows → Enters words name' rows' → ⊥
enters-one words name name' rows rows' apart enters enters' = apart (enters-once words name name' rows rows' enters enters').0

-- names that differ by the test of their bytes are different
pub names-apart : (name name' : Text) → bytes_eq name name' ≡ false → name ≢ name'
names-apart name name' apart same = absurd_bool (sym apart ∙ (bytes_eq-Decides name name').1 same)
  where
    absurd_bool : false ≡ true → ⊥
    absurd_bool bad = cc

pub asks-once : (words : List Text) (case offers case' offers' : Text) → AsksPool words case offers → AsksPool words case' offers' → (case ≡ case') × (offers ≡ offers')
asks-once words case offers case' offers' asks asks' =
    let rows = (enters-once words _ _ asks.rows asks'.rows asks.enters asks'.enters).1 in
    (rw (asks.case_is, asks'.case_is, rows) refl, rw (asks.offers_is, asks'.offers_is, rows) refl)

pub clears-once : (words : List Text) (names names' : MarketNames) (certificate certificate' : Option Text)
    → AsksClear words names certificate → AsksClear words names' certificate' → (names ≡ names') × (certificate ≡ certificate')
clears-once words names names' certificate certificate' asks asks' =
    let rows = (enters-once words _ _ asks.rows asks'.rows asks.enters asks'.enters).1 in (
      asks.names_are ∙ ap market_names rows ∙ sym asks'.names_are,
      asks.certificate_is ∙ ap (first_of (codes "certificate")) rows ∙ sym asks'.certificate_is,
    )

pub replays-once : (words : List Text) (names names' : MarketNames) (edits edits' : Text) (certificate certificate' : Option Text)
    → AsksReplay words names edits certificate → AsksReplay words names' edits' certificate' → (names ≡ names') × (edits ≡ edits') × (certificate ≡ certificate')
replays-once words names names' edits edits' certificate certificate' asks asks' =
    let rows = (enters-once words _ _ asks.rows asks'.rows asks.enters asks'.enters).1 in (
      asks.names_are ∙ ap market_names rows ∙ sym asks'.names_are,
      asks.edits_is ∙ ap (file_of (codes "edits")) rows ∙ sym asks'.edits_is,
      asks.certificate_is ∙ ap (first_of (codes "certificate")) rows ∙ sym asks'.certificate_is,
    )

pub verifies-once : (words : List Text) (names names' : MarketNames) (edits edits' : Option Text) (certificate certificate' : Text)
    → AsksVerify words names edits certificate → AsksVerify words names' edits' certificate' → (names ≡ names') × (edits ≡ edits') × (certificate ≡ certificate')
verifies-once words names names' edits edits' certificate certificate' asks asks' =
    let rows = (enters-once words _ _ asks.rows asks'.rows asks.enters asks'.enters).1 in (
      asks.names_are ∙ ap market_names rows ∙ sym asks'.names_are,
      asks.edits_is ∙ ap (first_of (codes "edits")) rows ∙ sym asks'.edits_is,
      asks.certificate_is ∙ ap (file_of (codes "certificate")) rows ∙ sym asks'.certificate_is,
    )

pub rights-once : (words : List Text) (names names' : MarketNames) (rights rights' : Text)
    → AsksRights words names rights → AsksRights words names' rights' → (names ≡ names') × (rights ≡ rights')
rights-once words names names' rights rights' asks asks' =
    let rows = (enters-once words _ _ asks.rows asks'.rows asks.enters asks'.enters).1 in (
      asks.names_are ∙ ap market_names rows ∙ sym asks'.names_are,
      asks.rights_is ∙ ap (file_of (codes "rights")) rows ∙ sym asks'.rights_is,
    )

pub migrates-once : (words : List Text) (certificate certificate' out out' : Text) (bits bits' : NumberBits)
    → AsksMigrate words certificate out bits → AsksMigrate words certificate' out' bits' → (certificate ≡ certificate') × (out ≡ out') × (bits ≡ bits')
migrates-once words certificate certificate' out out' bits bits' asks asks' =
    let rows = (enters-once words _ _ asks.rows asks'.rows asks.enters asks'.enters).1 in (
      asks.certificate_is ∙ ap (file_of (codes "certificate")) rows ∙ sym asks'.certificate_is,
      asks.out_is ∙ ap (file_of (codes "out")) rows ∙ sym asks'.out_is,
      asks.bits_is ∙ ap bits_of rows ∙ sym asks'.bits_is,
    )

pub checks-once : (words : List Text) (names names' : CheckNames) → AsksCheck words names → AsksCheck words names' → names ≡ names'
checks-once words names names' asks asks' =
    asks.names_are ∙ ap check_names (enters-once words _ _ asks.rows asks'.rows asks.enters asks'.enters).1 ∙ sym asks'.names_are

pub factors-once : (words : List Text) (names names' : FactorNames) → AsksFactors words names → AsksFactors words names' → names ≡ names'
factors-once words names names' asks asks' =
    asks.names_are ∙ ap factor_names (enters-once words _ _ asks.rows asks'.rows asks.enters asks'.enters).1 ∙ sym asks'.names_are

-- a text writes one number, so the same text the same
writes-once : (text text' : Text) (n n' : ℕ) → Some text ≡ Some text' → Writes text n → Writes text' n' → n ≡ n'
writes-once text text' n n' same writes writes' =
    writes.1 ∙ ap (λ (o : Option Text). digits_value 10 (without_leading_plus (unwrap_or o text))) same ∙ sym writes'.1

pub makes-once : (words : List Text) (buses buses' seed seed' : ℕ) → AsksMake words buses seed → AsksMake words buses' seed' → (buses ≡ buses') × (seed ≡ seed')
makes-once words buses buses' seed seed' asks asks' =
    let rows = (enters-once words _ _ asks.rows asks'.rows asks.enters asks'.enters).1 in (
      writes-once asks.size_text asks'.size_text buses buses' (sym asks.size_given ∙ ap (first_of (codes "N")) rows ∙ asks'.size_given) asks.size_written asks'.size_written,
      writes-once asks.seed_text asks'.seed_text seed seed' (sym asks.seed_given ∙ ap (one_of (codes "SEED")) rows ∙ asks'.seed_given) asks.seed_written asks'.seed_written,
    )

-- ---- which subcommand was entered
-- the name is that of one of these
IsOneOf : Text → List Shape → Type 0
IsOneOf name [] = ⊥
IsOneOf name (s ∷ rest) = (name ≡ s.name) ⊎ IsOneOf name rest

abbrev none_of : Option Shape
none_of = None

-- one that is found is among those that were searched
found-among : (p : Shape → Bool) (xs : List Shape) (s : Shape) → find p xs ≡ Some s → IsOneOf s.name xs
unfolding IsOneOf
found-among p [] s found = let none : none_of ≡ Some s = found in cc none
found-among p (x ∷ xs) s found = go (p x) refl (found-among p xs s)
  where
    go : (here : Bool) → p x ≡ here → (find p xs ≡ Some s → IsOneOf s.name xs) → (s.name ≡ x.name) ⊎ IsOneOf s.name xs
    go true is below = let same : Some x ≡ Some s = rw is at found in inl (ap (λ (o : Option Shape). (unwrap_or o s).name) (sym same))
    go false is below = let later : find p xs ≡ Some s = rw is at found in inr (below later)

abbrev no_entry : Option (Text × List Row)
no_entry = None

entered-one : (app : App) (at : Option (Text × List Text)) (name : Text) (rows : List Row) → entered app at ≡ Some (name, rows) → IsOneOf name app.subs
entered-one app None name rows is = cc is
entered-one app (Some (word, rest)) name rows is = go (find (λ s. answers_to word (label_of s)) app.subs) refl
  where
    go : (o : Option Shape) → find (λ s. answers_to word (label_of s)) app.subs ≡ o → IsOneOf name app.subs
    go None none = let bad : no_entry ≡ Some (name, rows) = rw none at is in cc bad
    go (Some s) found =
        let same : Some (s.name, rows_after s.rules [] rest) ≡ Some (name, rows) = rw found at is in
        let this : s.name ≡ name = ap (λ (o : Option (Text × List Row)). (unwrap_or o (s.name, rows)).0) same in
        subst (λ n. IsOneOf n app.subs) this (found-among (λ t. answers_to word (label_of t)) app.subs s found)

-- its nine subcommands, as they are built
abbrev pub built_under : Shape → Shape
built_under sub = built_leaf (inherited (on_top marked_built sced_app).top sub)

abbrev pub nine_built : List Shape
nine_built = map built_under (pool_app.top ∷ (clear_app (spelled rating_words) (spelled place_words) (spelled bits_words)).top
    ∷ (replay_app (spelled rating_words) (spelled place_words) (spelled bits_words)).top ∷ (verify_app (spelled rating_words) (spelled place_words) (spelled bits_words)).top
    ∷ (rights_app (spelled rating_words) (spelled place_words) (spelled bits_words)).top ∷ (check_app (spelled place_words)).top ∷ (factors_app (spelled place_words)).top
    ∷ (migrate_app (spelled bits_words)).top ∷ (make_app (spelled size_words)).top ∷ [])

pub subs-are : (built sced_app).subs ≡ nine_built
unfolding clap_on_literals sced_app sced_app_over
subs-are = refl

-- the name is none of the eight others
pub record IsNoOther (name : Text) : Type 0 where
  pub pool : name ≢ codes "pool"
  pub clear : name ≢ codes "clear"
  pub replay : name ≢ codes "replay"
  pub verify : name ≢ codes "verify"
  pub rights : name ≢ codes "rights"
  pub check : name ≢ codes "check"
  pub factors : name ≢ codes "factors"
  pub migrate : name ≢ codes "migrate"

-- so it is `make`
left-make : (name : Text) → IsOneOf name nine_built → IsNoOther name → name ≡ codes "make"
unfolding IsOneOf
left-make name (inl same) others = absurd (others.pool same)
left-make name (inr (inl same)) others = absurd (others.clear same)
left-make name (inr (inr (inl same))) others = absurd (others.replay same)
left-make name (inr (inr (inr (inl same)))) others = absurd (others.verify same)
left-make name (inr (inr (inr (inr (inl same))))) others = absurd (others.rights same)
left-make name (inr (inr (inr (inr (inr (inl same)))))) others = absurd (others.check same)
left-make name (inr (inr (inr (inr (inr (inr (inl same))))))) others = absurd (others.factors same)
left-make name (inr (inr (inr (inr (inr (inr (inr (inl same)))))))) others = absurd (others.migrate same)
left-make name (inr (inr (inr (inr (inr (inr (inr (inr (inl same))))))))) others = same
left-make name (inr (inr (inr (inr (inr (inr (inr (inr (inr none))))))))) others = absurd none

pub entered-make : (words : List Text) (name : Text) (rows : List Row) → Enters words name rows → IsNoOther name → name ≡ codes "make"
entered-make words name rows enters = left-make name (subst (IsOneOf name) subs-are (entered-one (built sced_app) _ name rows enters.entered))
