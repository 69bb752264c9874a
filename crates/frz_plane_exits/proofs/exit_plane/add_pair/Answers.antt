use Rattle.std.proofs.Common.{◌≡◌, ◌<◌, List, ap, length, refl, subst, ◌∙◌}
use Rattle.std.specs.List.{HoldsAt}
use Rattle.std.proofs.lemmas.Option.{slice_get_read}
use Rattle.frz_plane_exits.specs.declared.exit_plane.ExitPlane.{ExitPlane}
use Rattle.frz_plane_exits.proofs.AddedPairs.{added_there}
use Rattle.frz_plane_exits.proofs.exit_plane.add_pair.Goals as goal

pub returns-in-Some : goal.returns-in-Some
returns-in-Some c =
    let exits = c.args.exits.now.items in
    let place = c.in-Some.place in
    let old : ExitPlane = c.index_mut.result.now in
    let new : ExitPlane = record { value = old.value; free = old.free; plane = c.put.new.self } in
    let P : ExitPlane → Type 0 =
    λ exit. (exit.value ≡ c.args.value) × (exit.free ≡ c.args.free) in
    let found = subst (λ (xs : List ExitPlane). (place < length xs) × HoldsAt P xs place)
    c.deref.ensures.value c.in-Some.ensures in
    let has = found.1 old in
    let worth : old.value ≡ c.args.value =
    ap (λ (e : ExitPlane). e.value) c.index_mut.ensures.value ∙ has.0 in
    let freedom : old.free ≡ c.args.free =
    ap (λ (e : ExitPlane). e.free) c.index_mut.ensures.value ∙ has.1 in
    added_there exits c.args.value c.args.free c.args.a c.args.b place old new
    (slice_get_read exits (length exits) place old refl found.0 c.index_mut.ensures.value)
    worth freedom worth freedom c.put.ensures
