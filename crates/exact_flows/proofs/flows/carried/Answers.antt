use Rattle.std.proofs.Common.{◌≡◌, ◌<◌, ◌+◌, ◌∙◌, ◌-◌, ℕ, arith, ap, length, pos}
use Rattle.std.specs.Prelude.{slice_index}
use Rattle.std.proofs.lemmas.List.{length-map}
use Rattle.fraction_theory.proofs.FieldLaws.{over-one}
use Rattle.linear_dict.specs.Dictionaries.{choice_of}
use Rattle.network_theory.specs.Networks.{Network}
use Rattle.exact_flows.specs.Lines.{line_branch, line_network}
use Rattle.exact_flows.proofs.Exchanges.{entry_carried}
use Rattle.exact_flows.proofs.Places.{place_is}
use Rattle.exact_flows.proofs.Reading.{reference_carried}
use Rattle.exact_flows.proofs.flows.carried.Goals as goal

-- so many columns
less_one : (b r : ℕ) → r < b → b - 1 + 1 ≡ b
less_one b r h = Prim.omega (arith, h)

pub entry-requires-clause-live : goal.entry-requires-clause-live
entry-requires-clause-live g c = (c.requires.solved (c.args.buses - 1) (less_one c.args.buses c.args.reference c.requires.reference)).live

pub entry-requires-clause-row : goal.entry-requires-clause-row
entry-requires-clause-row g c =
    let e = c.requires.solved (c.args.buses - 1) (less_one c.args.buses c.args.reference c.requires.reference) in
    Prim.omega (arith, e.basic_count, c.requires.branch, length-map c.args.lines.now (line_branch g.N.Exact.value))

pub entry-requires-clause-column : goal.entry-requires-clause-column
entry-requires-clause-column g c =
    let e = c.requires.solved (c.args.buses - 1) (less_one c.args.buses c.args.reference c.requires.reference) in
    let p = place_is c.args.buses c.args.reference c.args.bus c.requires.reference c.requires.bus c.if-bus-reference.false in
    Prim.omega (arith, p.0, e.other_count, c.column_of.ensures)

pub returns-then-bus-reference : goal.returns-then-bus-reference
returns-then-bus-reference g c = λ b _.
    reference_carried (line_network g.N.Exact.value c.args.buses c.args.lines.now) c.args.reference c.args.bus b (g.N.Exact.value c.of_parts.result) c.if-bus-reference.true (c.of_parts.ensures ∙ over-one (pos 0))

pub returns-else-bus-reference : goal.returns-else-bus-reference
returns-else-bus-reference g c = λ b stands.
    let n : Network = line_network g.N.Exact.value c.args.buses c.args.lines.now in
    let d = c.args.dict.now in
    let e = c.requires.solved (c.args.buses - 1) (less_one c.args.buses c.args.reference c.requires.reference) in
    let all : c.args.buses - 1 ≡ length d.others = Prim.omega (arith, e.other_count, c.requires.reference) in
    entry_carried n c.args.reference c.requires.network c.requires.connected c.requires.reference d (c.args.buses - 1) e all c.args.bus c.args.branch b c.requires.bus c.if-bus-reference.false stands
    (g.N.Exact.value c.entry.result)
    (c.entry.ensures.entry ∙ ap (λ (k : ℕ). (choice_of d).entry (slice_index d.basics c.args.branch) (slice_index d.others k)) c.column_of.ensures)
