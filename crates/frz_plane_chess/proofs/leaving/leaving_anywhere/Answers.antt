use Rattle.std.proofs.Common.{List, length, refl, subst, sym, ℕ, ◌+◌}
use Rattle.std.specs.Prelude.{⊤}
use Rattle.std.proofs.lemmas.Option.{slice_get_read}
use Rattle.frz_plane_chess.proofs.GatheredExits.{AreGathered, all_gathered, none_gathered, none_more, one_gathered}
use Rattle.frz_plane_chess.proofs.leaving.leaving_anywhere.Goals.{else-is_counted, then-is_counted}
use Rattle.frz_plane_chess.proofs.leaving.leaving_anywhere.Goals as goal

pub loop-exit-init : goal.loop-exit-init
loop-exit-init c =
    none_gathered c.args.exits.now c.args.only_free (λ _. ⊤) c.empty-pairs.result
    c.empty-pairs.ensures

pub loop-exit-preserved : goal.loop-exit-preserved
loop-exit-preserved c =
    let exits = c.args.exits.now in
    let k = c.loop-exit.exit-index in
    let exit = c.exit-item.result in
    let at = slice_get_read exits (length exits) k exit refl c.loop-exit-test.true c.exit-item.is in
    let G : List ℕ → Type 0 = AreGathered exits c.args.only_free (λ _. ⊤) (k + 1) in
    elim c.if-is_counted.branch [
      | then-is_counted w ↦ subst G (sym w.pairs-is)
          (one_gathered exits c.args.only_free (λ _. ⊤) k exit c.loop-exit.pairs
          w.union_with.new.self at (c.is_counted.ensures.0 w.if-is_counted.true, tt)
          c.loop-exit.invariant w.union_with.ensures)
      | else-is_counted w ↦ subst G (sym w.pairs-is)
          (none_more exits c.args.only_free (λ _. ⊤) k exit c.loop-exit.pairs at
          (λ counts. (let t = c.is_counted.ensures.1 counts.0 in let f = w.if-is_counted.false in cc))
          c.loop-exit.invariant)
    ]

pub returns : goal.returns
returns c =
    all_gathered c.args.exits.now c.args.only_free (λ _. ⊤) c.loop-exit.exit-index
    c.loop-exit.pairs c.loop-exit-test.false c.loop-exit.invariant
