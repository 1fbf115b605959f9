use Rattle.std.proofs.Common.{rules, ◌≡◌, ◌<◌, ℕ, true, None, length, arith, sym, ap, ap₂, ◌∙◌}
use Rattle.market_model.specs.LimitRows.{bears as bears_in, unit_of}
use Rattle.market_model.proofs.RowMembers.{row_to}
use Rattle.limit_rows.proofs.PlaceLemmas.{none_of_loss, none_of_branch, found_row}
use Rattle.limit_rows.proofs.places.row_named.Goals as goal
use Rattle.limit_rows.proofs.places.row_named.Goals.{else-line-len-via-then-line-len+else-has_row, else-line-len-via-else-line-len}

pub returns-in_err-cause : goal.returns-in_err-cause
returns-in_err-cause c =
    let given : c.from_residual.result ≡ None = search rules in
    rw given (none_of_loss c.args.market.now c.args.name c.in_err-cause.ensures)

pub returns-then-has_row : goal.returns-then-has_row
returns-then-has_row c =
    let m = c.args.market.now in
    let l = c.place_of_line-line.result in
    let inside : l < length m.lines = let long = ap length c.lines.ensures.list in omega (arith, c.if-line-len.true, c.len.ensures, long) in
    let bears : bears_in m c.in_ok-cause.cause l ≡ true = sym c.has_row.ensures ∙ c.if-has_row.true in (
      row_to m c.in_ok-cause.cause l (record { group = c.in_ok-cause.ensures.0; line = inside; bears = bears }),
      ap₂ (λ (b o : ℕ). record { branch = b; outage = o; unit = unit_of m c.in_ok-cause.cause }) (found_row m c.args.name.branch l c.place_of_line-line.ensures inside) c.in_ok-cause.ensures.1.branch
          ∙ ap (λ (u : ℕ). record { branch = c.args.name.branch; outage = c.args.name.outage; unit = u }) c.in_ok-cause.ensures.1.unit,
    )

pub returns-else-line-len : goal.returns-else-line-len
returns-else-line-len c =
    let m = c.args.market.now in
    let l = c.place_of_line-line.result in
    let long = ap length c.lines.ensures.list in
    none_of_branch m c.lines.ensures.market c.args.name c.in_ok-cause.cause c.in_ok-cause.ensures.0 c.in_ok-cause.ensures.1
    (λ inside bears.
    elim c.else-line-len.branch [
      | else-line-len-via-then-line-len+else-has_row w ↦
          (let e : w.has_row.result ≡ true = w.has_row.ensures ∙ ap (λ (k : ℕ). bears_in m c.in_ok-cause.cause k) c.place_of_line-line.ensures ∙ bears in let f = w.if-has_row.false in absurd (cc))
      | else-line-len-via-else-line-len w ↦ absurd (omega (arith, inside, w.if-line-len.false, c.len.ensures, long, c.place_of_line-line.ensures))
    ])
