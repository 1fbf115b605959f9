use Rattle.std.proofs.Common.{◌≡◌, ◌∙◌, List, Ok, Err, ap, rules, subst, sym}
use Rattle.market_model.specs.declared.participants.Line.{Line}
use Rattle.market_model.specs.declared.participants.Parts.{Parts}
use Rattle.market_model.specs.declared.participants.Reserve.{Reserve}
use Rattle.market_tables.specs.Tables.{tables_lent}
use Rattle.market_inputs.specs.declared.offers.Offered.{Offered}
use Rattle.market_inputs.specs.Clearing.{AreLimited, AreListedLines, AreSmall, limited_of}
use Rattle.market_inputs.specs.Files.{sized_tables}
use Rattle.market_inputs.specs.Steps.{Is, Then}
use Rattle.market_inputs.specs.Tables.{offers_in, reserves_in}
use Rattle.market_inputs.proofs.MarketLemmas.{limited-are, limited-is}
use Rattle.market_inputs.proofs.StepLemmas.{goes-on, made-then, stops}
use Rattle.market_inputs.proofs.clearing.limited_parts.Goals as goal

are-limited : (c : goal.After-drop-parts-4)
    → record c.bare-parts.result { reserve = c.in_ok-reserve.reserve; lines = c.in_ok-parts.field-0; shift = c.in_ok-parts-2.field-0; loss = c.in_ok-parts-3.field-0 }
    ≡ limited_of c.args.network.now c.args.tables.now c.in_ok-offered.offered c.in_ok-reserve.reserve c.in_ok-parts.field-0
are-limited c =
    limited-is c.args.network.now c.args.tables.now c.in_ok-offered.offered c.in_ok-reserve.reserve c.in_ok-parts.field-0 c.new.result c.bare-parts.result c.slice-branches.result.now c.slice.result.now
    c.in_ok-parts-2.field-0 c.in_ok-parts-3.field-0 c.new.ensures c.bare-parts.ensures (c.slice-branches.ensures ∙ c.branches.ensures.list) (c.slice.ensures ∙ c.buses.ensures.list)
    c.in_ok-parts-2.ensures.are c.in_ok-parts-3.ensures.are

pub returns-in_err-parts-clause-told : goal.returns-in_err-parts-clause-told
returns-in_err-parts-clause-told c =
    let network = c.args.network.now in
    let files = sized_tables (tables_lent c.args.bytes.now) in
    let out = c.from_residual-in_err-parts.result in
    let given : out ≡ Err c.in_err-parts.field-0.0 = search rules in
    let lines = AreListedLines network files.offsets files.penalties in
    let made = λ (offered : Offered) (reserve : Reserve) (ls : List Line). Is (Ok (limited_of network c.args.tables.now offered reserve ls)) in
    let behind = λ (offered : Offered) (reserve : Reserve). Then lines (made offered reserve) in
    goes-on (Is (offers_in network files.offers)) (λ (offered : Offered). Then (Is (reserves_in network files.reserves)) (behind offered)) c.in_ok-offered.offered out c.in_ok-offered.ensures.told
    (goes-on (Is (reserves_in network files.reserves)) (behind c.in_ok-offered.offered) c.in_ok-reserve.reserve out c.in_ok-reserve.ensures.told
    (stops lines (made c.in_ok-offered.offered c.in_ok-reserve.reserve) c.line_list.result out c.in_err-parts.field-0.0 c.line_list.ensures.told c.in_err-parts.was given))

pub returns-clause-told : goal.returns-clause-told
returns-clause-told c =
    let network = c.args.network.now in
    let files = sized_tables (tables_lent c.args.bytes.now) in
    let lines = AreListedLines network files.offsets files.penalties in
    let made = λ (offered : Offered) (reserve : Reserve) (ls : List Line). Is (Ok (limited_of network c.args.tables.now offered reserve ls)) in
    let behind = λ (offered : Offered) (reserve : Reserve). Then lines (made offered reserve) in
    made-then (Is (offers_in network files.offers)) (λ (offered : Offered). Then (Is (reserves_in network files.reserves)) (behind offered)) c.in_ok-offered.offered _ c.in_ok-offered.ensures.told
    (made-then (Is (reserves_in network files.reserves)) (behind c.in_ok-offered.offered) c.in_ok-reserve.reserve _ c.in_ok-reserve.ensures.told
    (made-then lines (made c.in_ok-offered.offered c.in_ok-reserve.reserve) c.in_ok-parts.field-0 _ c.in_ok-parts.ensures.told (ap Ok (sym (are-limited c)))))

pub returns-clause-kept : goal.returns-clause-kept
returns-clause-kept c =
    let is = are-limited c in
    subst (AreLimited c.args.network.now) (sym is)
    (limited-are c.args.network.now c.args.tables.now c.in_ok-offered.offered c.in_ok-reserve.reserve c.in_ok-parts.field-0 c.in_ok-offered.ensures.kept c.in_ok-reserve.ensures.kept c.in_ok-parts.ensures.kept
    (subst (λ (p : Parts). AreSmall p.shift) is c.in_ok-parts-2.ensures.small)
    (subst (λ (p : Parts). AreSmall p.loss) is c.in_ok-parts-3.ensures.small))
