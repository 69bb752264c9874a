use Rattle.std.proofs.Common.{List, length, refl, subst, sym, ℕ, ◌+◌, ◌↔◌}
use Rattle.std.specs.Bool.{IsTrue}
use Rattle.std.proofs.lemmas.Option.{slice_get_read}
use Rattle.frz_sets.specs.declared.exit.Value.{Value}
use Rattle.frz_plane_chess.specs.Counted.{IsWorth}
use Rattle.frz_plane_chess.proofs.GatheredExits.{AreGathered, all_gathered, none_gathered, none_more, one_gathered}
use Rattle.frz_plane_chess.proofs.leaving.leaving.Goals.{else-counts, then-counts}
use Rattle.frz_plane_chess.proofs.leaving.leaving.Goals as goal

pub loop-exit-init : goal.loop-exit-init
loop-exit-init c =
    none_gathered c.args.exits.now c.args.only_free
    (λ v. IsTrue c.args.into ↔ IsWorth c.args.side c.args.worth v) c.empty-pairs.result
    c.empty-pairs.ensures

pub loop-exit-preserved : goal.loop-exit-preserved
loop-exit-preserved c =
    let exits = c.args.exits.now in
    let k = c.loop-exit.exit-index in
    let exit = c.exit-item.result in
    let at = slice_get_read exits (length exits) k exit refl c.loop-exit-test.true c.exit-item.is in
    let P : Value → Type 0 = λ v. IsTrue c.args.into ↔ IsWorth c.args.side c.args.worth v in
    let G : List ℕ → Type 0 = AreGathered exits c.args.only_free P (k + 1) in
    elim c.if-counts.branch [
      | then-counts w ↦ subst G (sym w.pairs-is)
          (one_gathered exits c.args.only_free P k exit c.loop-exit.pairs w.union_with.new.self at
          (c.counts.ensures.0 w.if-counts.true) c.loop-exit.invariant w.union_with.ensures)
      | else-counts w ↦ subst G (sym w.pairs-is)
          (none_more exits c.args.only_free P k exit c.loop-exit.pairs at
          (λ so. (let t = c.counts.ensures.1 so in let f = w.if-counts.false in cc))
          c.loop-exit.invariant)
    ]

pub returns : goal.returns
returns c =
    all_gathered c.args.exits.now c.args.only_free
    (λ v. IsTrue c.args.into ↔ IsWorth c.args.side c.args.worth v) c.loop-exit.exit-index
    c.loop-exit.pairs c.loop-exit-test.false c.loop-exit.invariant
