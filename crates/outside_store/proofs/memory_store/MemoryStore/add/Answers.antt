use Rattle.std.proofs.Common.{◌≡◌, arith, sym, ◌∙◌, ap, refl, inl, inr, take, Some, None, is_some, ⊎_elim}
use Rattle.std.specs.List.{position}
use Rattle.outside_store.specs.Places.{shown_all}
use Rattle.outside_store.proofs.PlaceLemmas.{is_of, is_there, find_none, find_some, replaced, put_at_end, free_kept, free_taken}
use Rattle.outside_store.proofs.memory_store.MemoryStore.add.Goals as goal

pub returns-in-Some-clause-refused : goal.returns-in-Some-clause-refused
returns-in-Some-clause-refused c =
    let files = take c.self.inside.used c.self.inside.places.items in
    let at_place : position (is_of c.args.name.now) files ≡ Some c.in-Some.place = simp (c.as_bytes.ensures.value, c.deref.ensures.value) at (sym c.in-Some.ensures) in
    let there = is_there (shown_all files) c.args.name.now (find_some files c.args.name.now c.in-Some.place c.index_mut.result.now at_place) in
    rw (← c.self.view_is) (λ h. cc, ⊎_elim (λ g. absurd (omega arith)) (λ g. absurd (there g.0)))

pub returns-in-Some-clause-stored : goal.returns-in-Some-clause-stored
returns-in-Some-clause-stored c =
    let files = take c.self.inside.used c.self.inside.places.items in
    let at_place : position (is_of c.args.name.now) files ≡ Some c.in-Some.place = simp (c.as_bytes.ensures.value, c.deref.ensures.value) at (sym c.in-Some.ensures) in
    let there = find_some files c.args.name.now c.in-Some.place c.index_mut.result.now at_place in
    let d = replaced c.self.inside.places.items c.self.inside.used c.in-Some.place c.args.name.now c.args.bytes.now c.index_mut.result.now c.replace.new.self at_place c.index_mut.ensures.value c.replace.ensures.shown in
    rw (← c.self.view_is) (record { here = d.here; others = d.others; free = free_kept c.self.inside.places.items c.self.inside.used c.in-Some.place c.replace.new.self _ there })

pub returns-in-None-clause-stored : goal.returns-in-None-clause-stored
returns-in-None-clause-stored c =
    let files = take c.self.inside.used c.self.inside.places.items in
    let at_none : position (is_of c.args.name.now) files ≡ None = simp (c.as_bytes.ensures.value, c.deref.ensures.value) at (sym c.in-None.ensures) in
    let missing = find_none files c.args.name.now at_none in
    let d = put_at_end c.self.inside.places.items c.self.inside.used c.args.name.now c.args.bytes.now c.take_over.new.self (omega arith) at_none
    (c.take_over.ensures.shown ∙ ap (λ n. (n, c.args.bytes.now)) c.as_bytes-in-None.ensures.value) in
    rw (← c.self.view_is) (record { here = d.here; others = d.others; free = free_taken c.self.inside.places.items c.self.inside.used c.take_over.new.self _ (ap is_some missing) })

pub returns-in-None-2-clause-refused : goal.returns-in-None-2-clause-refused
returns-in-None-2-clause-refused c =
    let files = take c.self.inside.used c.self.inside.places.items in
    let at_none : position (is_of c.args.name.now) files ≡ None = simp (c.as_bytes.ensures.value, c.deref.ensures.value) at (sym c.in-None.ensures) in
    rw (← c.self.view_is) (λ _. inr (find_none files c.args.name.now at_none, inr (omega (arith, c.len.ensures))), λ h. refl)

pub returns-in-None-2-2-clause-refused : goal.returns-in-None-2-2-clause-refused
returns-in-None-2-2-clause-refused c =
    let files = take c.self.inside.used c.self.inside.places.items in
    let at_none : position (is_of c.args.name.now) files ≡ None = simp (c.as_bytes.ensures.value, c.deref.ensures.value) at (sym c.in-None.ensures) in
    rw (← c.self.view_is) (λ _. inr (find_none files c.args.name.now at_none, inl (omega arith)), λ h. refl)
