use Rattle.std.proofs.Common.{◌∙◌, sym, ap, refl, Some}
use Rattle.std.specs.Prelude.{option_map}
use Rattle.cert_format.specs.Grammar.{cert_in}
use Rattle.cert_format.proofs.reading.cert_in.Goals as goal

pub returns-then-not-is_object : goal.returns-then-not-is_object
unfolding cert_in
returns-then-not-is_object g c =
    let object = sym c.is_object.ensures ∙ c.if-not-is_object.true in
    rw object refl

pub returns-in_default : goal.returns-in_default
unfolding cert_in
returns-in_default g c =
    let object = sym c.is_object.ensures ∙ c.if-not-is_object.false in
    let version = sym c.version_in.ensures ∙ c.in_default.is in
    rw (object, version) refl

pub returns-in_default-kind_in : goal.returns-in_default-kind_in
unfolding cert_in
returns-in_default-kind_in g c =
    let object = sym c.is_object.ensures ∙ c.if-not-is_object.false in
    let version = sym c.version_in.ensures ∙ c.in-Some.is in
    let kind = sym c.kind_in.ensures ∙ c.in_default-kind_in.is in
    rw (object, version, kind) refl

pub returns-in_default-fraction_at : goal.returns-in_default-fraction_at
unfolding cert_in
returns-in_default-fraction_at g c =
    let object = sym c.is_object.ensures ∙ c.if-not-is_object.false in
    let version = sym c.version_in.ensures ∙ c.in-Some.is in
    let kind = sym c.kind_in.ensures ∙ c.in-Some-kind_in.is in
    let energy = sym c.fraction_at.ensures ∙ ap (option_map g.N.Exact.value) c.in_default-fraction_at.is in
    rw (object, version, kind, energy) refl

pub returns-in-Optimal : goal.returns-in-Optimal
unfolding cert_in
returns-in-Optimal g c =
    let object = sym c.is_object.ensures ∙ c.if-not-is_object.false in
    let version = sym c.version_in.ensures ∙ c.in-Some.is in
    let kind = sym c.kind_in.ensures ∙ c.in-Some-kind_in.is ∙ ap Some c.in-Optimal.is in
    let energy = sym c.fraction_at.ensures ∙ ap (option_map g.N.Exact.value) c.in-Some-fraction_at.is in
    rw (object, version, kind, energy) c.optimal_in.ensures

pub returns-in-Farkas : goal.returns-in-Farkas
unfolding cert_in
returns-in-Farkas g c =
    let object = sym c.is_object.ensures ∙ c.if-not-is_object.false in
    let version = sym c.version_in.ensures ∙ c.in-Some.is in
    let kind = sym c.kind_in.ensures ∙ c.in-Some-kind_in.is ∙ ap Some c.in-Farkas.is in
    let energy = sym c.fraction_at.ensures ∙ ap (option_map g.N.Exact.value) c.in-Some-fraction_at.is in
    rw (object, version, kind, energy) c.farkas_in.ensures
