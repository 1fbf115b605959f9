use Rattle.std.proofs.Common.{◌≡◌, ◌<◌, ◌+◌, ◌∙◌, List, ℕ, map, ap, subst, sym, length, arith}
use Rattle.std.specs.List.{Contains}
use Rattle.linear_dict.specs.Dictionaries.{note_of, choice_of}
use Rattle.linear_dict.specs.Notes.{Noted}
use Rattle.linear_system.specs.Choices.{value as value_of}
use Rattle.fraction_theory.specs.Fraction.{Fraction}
use Rattle.market_model.specs.Dispatch.{places}
use Rattle.market_model.proofs.RowMembers.{Contains-from_places}
use Rattle.market_system.specs.MarketSystem.{name, system_of}
use Rattle.market_system.specs.declared.variables.Variable.TheVariants.{Block}
use Rattle.market_dict.specs.Takings.{taken_of}
use Rattle.market_dict.proofs.HoldingLaws.{variable_named, shown_value}
use Rattle.market_dict.proofs.ListedLemmas.{map-members, places_filled}
use Rattle.market_dict.proofs.reading.dispatch.Goals as goal

pub note-requires-clause-named : goal.note-requires-clause-named
note-requires-clause-named g c =
    let m = c.args.market.now in
    let h = c.requires.holds in
    let lt : c.loop-block.block < length m.blocks = omega (arith, c.loop-block-test.true, c.len-block-end.ensures, ap length c.blocks-2.ensures.list) in
    subst (Contains c.args.dict.now.names) (sym c.name_of-name.ensures) (variable_named m h.0 c.args.dict.now h.1.holds (Block c.loop-block.block) lt)

pub loop-block-preserved : goal.loop-block-preserved
loop-block-preserved g c =
    let m = c.args.market.now in
    let d = c.args.dict.now in
    let noted : ℕ → Fraction = λ j. (note_of d (name m (Block j))).value in
    subst (λ (xs : List g.row.N.Denot). map g.N.Exact.value xs ≡ map noted (places (c.loop-block.block + 1))) (sym c.in_ok-push.ensures)
    (places_filled g.N.Exact.value noted c.loop-block.values c.loop-block.block c.note.result.value c.loop-block.invariant (ap Noted.value (c.note.ensures ∙ ap (note_of d) c.name_of-name.ensures)))

pub returns : goal.returns
returns g c = λ ts holds.
    let m = c.args.market.now in
    let d = c.args.dict.now in
    let noted : ℕ → Fraction = λ j. (note_of d (name m (Block j))).value in
    let of_choice : ℕ → Fraction = λ j. value_of (system_of m (taken_of ts)) (choice_of d) (name m (Block j)) in
    let all : c.loop-block.block ≡ length m.blocks = omega (arith, c.loop-block-test.false, c.loop-block.auto.block-end, c.len-block-end.ensures, ap length c.blocks-2.ensures.list) in
    c.loop-block.invariant ∙ ap (λ (n : ℕ). map noted (places n)) all
    ∙ map-members noted of_choice (places (length m.blocks))
    (λ j k. shown_value m ts d holds c.requires.shows (name m (Block j)) (variable_named m ts d holds.holds (Block j) (Contains-from_places (length m.blocks) j k)))
