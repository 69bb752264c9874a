use Rattle.std.proofs.Common.{ℕ, List, All, sym, subst}
use Rattle.frz_board.specs.Moving.{Step}
use Rattle.frz_sets.specs.declared.exit.Value.{Value}
use Rattle.frz_arena.specs.declared.arm.Arm.{Arm}
use Rattle.frz_graph.specs.EntryCodes.{IsWithin}
use Rattle.frz_table.specs.Tables.{table_size}
use Rattle.frz_commands_atlas.proofs.RowsWith.{rows_gathered}
use Rattle.frz_commands_atlas.proofs.rows.rows_by.Goals as goal

pub read_codes-requires-clause-within : goal.read_codes-requires-clause-within
read_codes-requires-clause-within g c =
    let arena = g.G.NumberedGame.arena c.args.game.now in
    let within = c.within.ensures arena (g.G.NumberedGame.count c.args.game.now)
    (g.met.G.NumberedGame.finite c.args.game.now c.requires.sound) c.args.number in
    subst (λ (arms : List (Arm Step ℕ Value)). All
    (λ a. IsWithin (table_size c.args.table.now) a.next) arms) (sym c.nexts_by.ensures.arms)
    (subst (λ (n : ℕ). All (λ a. IsWithin n a.next) (arena.arms c.args.number))
    (sym c.requires.many) within)

pub read_codes-requires-2-clause-within : goal.read_codes-requires-2-clause-within
read_codes-requires-2-clause-within g c =
    let arena = g.G.NumberedGame.arena c.args.game.now in
    let within = c.within.ensures arena (g.G.NumberedGame.count c.args.game.now)
    (g.met.G.NumberedGame.finite c.args.game.now c.requires.sound) c.args.number in
    subst (λ (arms : List (Arm Step ℕ Value)). All
    (λ a. IsWithin (table_size c.args.table.now) a.next) arms) (sym c.nexts_by.ensures.arms)
    (subst (λ (n : ℕ). All (λ a. IsWithin n a.next) (arena.arms c.args.number))
    (sym c.requires.many) within)

pub returns-in-Ok-clause-rows : goal.returns-in-Ok-clause-rows
returns-in-Ok-clause-rows g c =
    let arena = g.G.NumberedGame.arena c.args.game.now in
    let within = c.within.ensures arena (g.G.NumberedGame.count c.args.game.now)
    (g.met.G.NumberedGame.finite c.args.game.now c.requires.sound) c.args.number in
    rows_gathered c.args.table.now _ _ (arena.arms c.args.number) _ _ _ _ c.nexts_by.ensures.arms
    (subst (λ (n : ℕ). All (λ a. IsWithin n a.next) (arena.arms c.args.number))
    (sym c.requires.many) within) (c.requires.different c.args.number)
    c.in_ok-read_codes.ensures.quiet.unwritten.files c.in_ok-read_codes.ensures.read
    c.in_ok-read_codes.ensures.codes c.in_ok-read_codes-2.ensures.read
    c.in_ok-read_codes-2.ensures.codes c.in-Ok.ensures
