use Rattle.std.proofs.Common.{arith, ◌≡◌, ◌≢◌, ◌<◌, sym, map, length, List, ℕ, [], Bor}
use Rattle.std.proofs.lemmas.List.{length-map}
use Rattle.std.proofs.Math.ListN.{get_or-map}
use Rattle.csv_table.specs.Records.{first_of, records_in}
use Rattle.csv_table.proofs.CutLemmas.{records-wide}
use Rattle.csv_table.proofs.FrameLemmas.{not-true, other-at, other-length, same-at_each}
use Rattle.csv_table.proofs.Records.is_header.Goals as goal

pub returns-then-self-header : goal.returns-then-self-header
returns-then-self-header c =
    let wide = records-wide c.args.self.now 0 c.requires.flat c.requires.some in
    let n : length (map (λ (f : Bor (List ℕ)). f.now) c.args.header.now) ≡ length c.args.header.now = simp length-map in
    let differ : length (first_of (records_in c.args.self.now)) ≢ length (map (λ (f : Bor (List ℕ)). f.now) c.args.header.now) = λ same. c.if-self-header.true (omega arith) in
    sym (other-length (first_of (records_in c.args.self.now)) (map (λ (f : Bor (List ℕ)). f.now) c.args.header.now) differ)

pub returns-then-ne : goal.returns-then-ne
returns-then-ne c =
    let here = get_or-map (λ (f : Bor (List ℕ)). f.now) c.args.header.now c.loop-col.col (record { ref_ptr = (0, 0); now = [] }) in
    let differs = not-true _ (sym c.if-ne.ensures) in
    let lt : c.loop-col.col < length (map (λ (f : Bor (List ℕ)). f.now) c.args.header.now) = rw (length-map) c.loop-col-test.true in
    sym (other-at (first_of (records_in c.args.self.now)) (map (λ (f : Bor (List ℕ)). f.now) c.args.header.now) c.loop-col.col lt (rw (here, ← c.as_bytes.ensures.value, ← c.cell.ensures) differs))

pub returns : goal.returns
returns c =
    let wide = records-wide c.args.self.now 0 c.requires.flat c.requires.some in
    let n : length (map (λ (f : Bor (List ℕ)). f.now) c.args.header.now) ≡ length c.args.header.now = simp length-map in
    sym (same-at_each (first_of (records_in c.args.self.now)) (map (λ (f : Bor (List ℕ)). f.now) c.args.header.now) (omega arith) (λ k lt. c.loop-col.invariant k (omega arith)))
