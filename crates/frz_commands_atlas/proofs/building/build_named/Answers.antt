use Rattle.std.proofs.Common.{refl, ◌∷◌, arith}
use Rattle.std.specs.Prelude.{map}
use Rattle.std.specs.String.{string_bytes}
use Rattle.frz_answer.specs.World.{world}
use Rattle.frz_answer.proofs.Lemmas.{quiet_store}
use Rattle.frz_prelude.specs.declared.rules_at.RulesText.{RulesText}
use Rattle.frz_prelude.proofs.Lemmas.{ended, may_stop}
use Rattle.frz_atlas_prelude.proofs.Lemmas.{first_differs_from_others, not_contained}
use Rattle.frz_commands_atlas.specs.Building.{building_at}
use Rattle.frz_commands_atlas.proofs.BuildEnds.{not_made_so, own_stop, small_place, stopped_at, table_is_made}
use Rattle.frz_commands_atlas.proofs.building.build_named.Goals as goal

pub returns-in-Err : goal.returns-in-Err
returns-in-Err g c = λ input.
    let e = c.in-Err.ensures in
    let stop = c.in-Err.stop in
    let rules = c.args.rules.now in
    let table = c.args.table.now in
    let behind = map string_bytes c.args.behind.now in
    let job = building_at rules table behind in
    ended job stop _ _ (world _ _ _ _) _ (quiet_store _ _ _ _ _ e.quiet)
    (may_stop RulesText job stop _ _ input _ _ _ refl refl
    (own_stop rules table behind _ stop e.read.due) e.cause)
    c.end.ensures
    (λ files left agrees. stopped_at rules table behind stop files left _ _ e.read (omega arith)
    agrees)

pub build_atlas-requires : goal.build_atlas-requires
build_atlas-requires g c =
    let rules = c.args.rules.now in
    let table = c.args.table.now in
    let behind = map string_bytes c.args.behind.now in
    let others = first_differs_from_others rules (table ∷ behind) c.requires.apart in
    not_contained table behind (first_differs_from_others table behind others.1).0

pub returns-in-Ok-build_atlas : goal.returns-in-Ok-build_atlas
returns-in-Ok-build_atlas g c = λ input.
    let e = c.in-Ok.ensures in
    let b = c.in-Ok-build_atlas.ensures in
    table_is_made c.args.rules.now c.args.table.now (map string_bytes c.args.behind.now)
    c.requires.apart
    c.in-Ok.read _ _ _ _ _ e.read e.quiet e.cause b.later input _ c.in-Ok-build_atlas.size _ _
    (rw c.deref.ensures.value at b.built) b.room c.tell.ensures

pub end_at-requires : goal.end_at-requires
end_at-requires g c =
    let b = c.in-Err-build_atlas.ensures in
    small_place c.deref.result.now c.args.table.now (map string_bytes c.args.behind.now) _ _ _ _
    c.in-Err-build_atlas.fault c.requires.few b.refused

pub returns : goal.returns
returns g c = λ input.
    let e = c.in-Ok.ensures in
    let b = c.in-Err-build_atlas.ensures in
    not_made_so c.args.rules.now c.args.table.now (map string_bytes c.args.behind.now)
    c.requires.apart c.in-Ok.read _ _ _ _ _ e.read e.quiet e.cause b.later input _ _ _
    c.in-Err-build_atlas.fault (rw c.deref.ensures.value at b.refused) b.cause c.end_at.ensures
