use Rattle.std.proofs.Common.{rules, ◌≡◌, ◌<◌, ◌∙◌, ℕ, arith, ap, sym, subst, length, slice_index}
use Rattle.linear_dict.specs.Dictionaries.{Dictionary, note_of, with_note}
use Rattle.linear_dict.specs.Notes.{Noted, noted}
use Rattle.simplex_core.specs.Turns.{moved_note}
use Rattle.simplex_core.proofs.MoveLemmas.{moving_start, moving_sound, moving_same, moving_stays, moving_step, moving_end}
use Rattle.std.proofs.lemmas.Result.{err_from_is_err_and}
use Rattle.linear_dict.proofs.CauseLemmas.{refused_as}
use Rattle.simplex_core.specs.Operations.{MoveShare, MovesShare, of_note}
use Rattle.simplex_core.proofs.Pairs.{move_same}
use Rattle.simplex_core.proofs.MoveLemmas.{moving_note}
use Rattle.simplex_core.proofs.exchange.move_notes.Goals as goal

pub loop-rank-init : goal.loop-rank-init
loop-rank-init g c =
    let s = c.args.step.now in
    moving_start c.args.dict.now c.requires.sound (moved_note c.args.dict.now s.leaving s.entering s.above (g.N.Exact.value s.bound) (g.N.Exact.value s.displacement) (g.N.Exact.value s.price))

pub note_after-requires-clause-sound : goal.note_after-requires-clause-sound
note_after-requires-clause-sound g c =
    let s = c.args.step.now in
    moving_sound c.args.dict.now c.requires.sound (moved_note c.args.dict.now s.leaving s.entering s.above (g.N.Exact.value s.bound) (g.N.Exact.value s.displacement) (g.N.Exact.value s.price)) c.loop-rank.rank c.loop-rank.dict c.loop-rank.invariant

pub stays-requires-clause-sound : goal.stays-requires-clause-sound
stays-requires-clause-sound g c =
    let s = c.args.step.now in
    moving_sound c.args.dict.now c.requires.sound (moved_note c.args.dict.now s.leaving s.entering s.above (g.N.Exact.value s.bound) (g.N.Exact.value s.displacement) (g.N.Exact.value s.price)) c.loop-rank.rank c.loop-rank.dict c.loop-rank.invariant

-- a note that stays is that after the move
pub loop-rank-preserved-then-stays : goal.loop-rank-preserved-then-stays
loop-rank-preserved-then-stays g c =
    let s = c.args.step.now in
    let value = g.N.Exact.value in
    let e : Dictionary = c.args.dict.now in
    let d : Dictionary = c.loop-rank.dict in
    let k : ℕ = c.loop-rank.rank in
    let m = c.loop-rank.invariant in
    let f : ℕ → Noted = moved_note e s.leaving s.entering s.above (value s.bound) (value s.displacement) (value s.price) in
    let hk : k < length e.names = Prim.omega (arith, c.loop-rank-test.true, c.name_count-rank-end.ensures) in
    let name : slice_index d.names k ≡ slice_index e.names k = ap (λ (x : Dictionary). slice_index x.names k) m.is in
    let told = c.stays.ensures (Prim.search rules) in
    moving_stays e c.requires.sound f k d m hk
    (sym (moving_same e c.requires.sound f k d m hk s.leaving s.entering s.above (value s.bound) (value s.displacement) (value s.price))
    ∙ ap (moved_note d s.leaving s.entering s.above (value s.bound) (value s.displacement) (value s.price)) (sym name)
    ∙ told
    ∙ ap (note_of d) name
    ∙ ap (λ (x : Dictionary). note_of x (slice_index e.names k)) m.is
    ∙ moving_note e c.requires.sound f k d m hk)

pub loop-rank-preserved : goal.loop-rank-preserved
loop-rank-preserved g c =
    let s = c.args.step.now in
    let value = g.N.Exact.value in
    let e : Dictionary = c.args.dict.now in
    let d : Dictionary = c.loop-rank.dict in
    let k : ℕ = c.loop-rank.rank in
    let f : ℕ → Noted = moved_note e s.leaving s.entering s.above (value s.bound) (value s.displacement) (value s.price) in
    let n : Noted = noted value c.in_ok-note.note in
    let hk : k < length e.names = Prim.omega (arith, c.loop-rank-test.true, c.name_count-rank-end.ensures) in
    let name : slice_index d.names k ≡ slice_index e.names k = ap (λ (x : Dictionary). slice_index x.names k) c.loop-rank.invariant.is in
    moving_step e c.requires.sound f k d c.loop-rank.invariant hk n c.set_note_at.new.self
    (c.set_note_at.ensures ∙ ap (λ (w : ℕ). with_note d w n) name)
    (c.in_ok-note.ensures.note ∙ ap (moved_note d s.leaving s.entering s.above (value s.bound) (value s.displacement) (value s.price)) name
    ∙ moving_same e c.requires.sound f k d c.loop-rank.invariant hk s.leaving s.entering s.above (value s.bound) (value s.displacement) (value s.price))

pub returns-clause-notes : goal.returns-clause-notes
returns-clause-notes g c =
    let s = c.args.step.now in
    let f : ℕ → Noted = moved_note c.args.dict.now s.leaving s.entering s.above (g.N.Exact.value s.bound) (g.N.Exact.value s.displacement) (g.N.Exact.value s.price) in
    moving_end c.args.dict.now c.requires.sound f c.loop-rank.rank c.loop-rank.dict c.loop-rank.invariant (Prim.omega (arith, c.loop-rank-test.false, c.name_count-rank-end.ensures))

pub returns-in_err-note-clause-stops : goal.returns-in_err-note-clause-stops
returns-in_err-note-clause-stops g c =
    let s = c.args.step.now in
    let value = g.N.Exact.value in
    let e : Dictionary = c.args.dict.now in
    let d : Dictionary = c.loop-rank.dict in
    let k : ℕ = c.loop-rank.rank in
    let m = c.loop-rank.invariant in
    let far = value s.displacement in
    let price = value s.price in
    let f : ℕ → Noted = moved_note e s.leaving s.entering s.above (value s.bound) far price in
    let hk : k < length e.names = Prim.omega (arith, c.loop-rank-test.true, c.name_count-rank-end.ensures) in
    let name : slice_index d.names k ≡ slice_index e.names k = ap (λ (x : Dictionary). slice_index x.names k) m.is in
    let p = err_from_is_err_and c.from_residual.result c.from_residual.ensures.1 in
    rw (p.1, p.2)
    (refused_as value g.N.Exact.bound (MoveShare d s.leaving s.entering far price (slice_index d.names k)) (MovesShare e s.leaving s.entering far price) c.in_err-note.field-0.0
    (λ x a b o. of_note (slice_index e.names k) x a b
    (move_same e m.notes s.leaving s.entering far price (slice_index e.names k) (moving_note e c.requires.sound f k d m hk) x a b
    (subst (λ (z : Dictionary). MoveShare z s.leaving s.entering far price (slice_index e.names k) x a b) m.is
    (subst (λ (w : ℕ). MoveShare d s.leaving s.entering far price w x a b) name o))))
    c.in_err-note.ensures.stops)
