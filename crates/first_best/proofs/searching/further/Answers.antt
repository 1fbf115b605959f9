use Rattle.std.proofs.Common.{rules, ◌≡◌, ◌∙◌, ◌++◌, ◌∷◌, [], ℕ, Bool, List, Option, arith, ap, drop, if◌then◌else◌, length, subst, subst₂, sym, take, true, false}
use Rattle.std.proofs.Math.Seq.{take-append_seam}
use Rattle.optimal_face.specs.Laws.{CanNotMove}
use Rattle.linear_dict.specs.Dictionaries.{Dictionary, choice_of, system_in}
use Rattle.first_best.specs.Holding.{held_by}
use Rattle.first_best.specs.Outcomes.{IsFace}
use Rattle.first_best.proofs.StartLemmas.{same_itself, still_face}
use Rattle.first_best.proofs.searching.further.Goals as goal

-- a face by the slice that holds what its list did, and by the list into which that slice is written back
module _ (d : Dictionary) (more names : List ℕ) (new old : List (Option Bool)) where
  read : (now : List (Option Bool)) → now ≡ old → IsFace d names (held_by d.names old) → IsFace d names (held_by d.names now)
  read now e face = subst (λ (hs : List (Option Bool)). IsFace d names (held_by d.names hs)) (sym e) face

  written : (n : ℕ) (done answer : Bool) → n ≡ length new → answer ≡ done → IsFace d (if answer then more else names) (held_by d.names new)
      → IsFace d (if done then more else names) (held_by d.names (take n (new ++ drop (length new) old)))
  written n done answer e is face =
      subst₂ (λ (hs : List (Option Bool)) (b : Bool). IsFace d (if b then more else names) (held_by d.names hs))
      (sym (ap (λ (i : ℕ). take i (new ++ drop (length new) old)) e ∙ take-append_seam new (drop (length new) old))) is face

pub can_not_move-requires-clause-named : goal.can_not_move-requires-clause-named
can_not_move-requires-clause-named g c = let f = c.requires.face in f.1.sound.put_in.second_named c.args.name c.requires.column

pub returns-then-can_not_move-clause-same : goal.returns-then-can_not_move-clause-same
returns-then-can_not_move-clause-same g c = let f = c.requires.face in same_itself c.args.face.dict f.1.sound f.1.live

pub returns-then-can_not_move-clause-face : goal.returns-then-can_not_move-clause-face
returns-then-can_not_move-clause-face g c = λ names face.
    let d = c.args.face.dict in
    still_face d names (held_by d.names c.args.face.held.items) face c.args.name (face.sound.put_in.second_named c.args.name c.requires.column)
    (subst (λ hs. CanNotMove (system_in d) (held_by d.names hs) (choice_of d) c.args.name) c.deref.ensures.value (c.can_not_move.ensures (Prim.search rules)))

pub hold_high-requires-clause-named : goal.hold_high-requires-clause-named
hold_high-requires-clause-named g c = let f = c.requires.face in f.1.sound.put_in.second_named c.args.name c.requires.column

pub moved_first-requires-clause-face : goal.moved_first-requires-clause-face
moved_first-requires-clause-face g c =
    let face = c.args.face in
    let f = c.requires.face in
    let more : List ℕ = f.0 ++ c.args.name ∷ [] in (
      f.0,
      written c.hold_high.new.dict more f.0 c.hold_high.new.held face.held.items face.held.len false c.in_ok-hold_high.field-0
          (Prim.omega (arith, c.deref_mut.ensures.len, c.hold_high.auto.held)) c.if-branch.false
          (c.in_ok-hold_high.ensures.face f.0 (read face.dict more f.0 c.hold_high.new.held face.held.items c.deref_mut.result.now c.deref_mut.ensures.value f.1)),
    )

pub returns-then-branch-clause-face : goal.returns-then-branch-clause-face
returns-then-branch-clause-face g c = λ names before.
    let face = c.args.face in
    let more : List ℕ = names ++ c.args.name ∷ [] in
    written c.hold_high.new.dict more names c.hold_high.new.held face.held.items face.held.len true c.in_ok-hold_high.field-0
    (Prim.omega (arith, c.deref_mut.ensures.len, c.hold_high.auto.held)) c.if-branch.true
    (c.in_ok-hold_high.ensures.face names (read face.dict more names c.hold_high.new.held face.held.items c.deref_mut.result.now c.deref_mut.ensures.value before))

pub returns-else-branch-clause-face : goal.returns-else-branch-clause-face
returns-else-branch-clause-face g c = λ names before.
    let face = c.args.face in
    let more : List ℕ = names ++ c.args.name ∷ [] in
    c.moved_first.ensures.face names
    (written c.hold_high.new.dict more names c.hold_high.new.held face.held.items face.held.len false c.in_ok-hold_high.field-0
    (Prim.omega (arith, c.deref_mut.ensures.len, c.hold_high.auto.held)) c.if-branch.false
    (c.in_ok-hold_high.ensures.face names (read face.dict more names c.hold_high.new.held face.held.items c.deref_mut.result.now c.deref_mut.ensures.value before)))
