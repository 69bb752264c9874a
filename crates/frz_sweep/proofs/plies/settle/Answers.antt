use Rattle.std.proofs.Common.{◌≡◌, ◌+◌, slice_index, sym, subst, ◌∙◌, arith}
use Rattle.std.proofs.lemmas.List.{get_or-set_same}
use Rattle.frz_sweep.specs.Told.{IsTold}
use Rattle.frz_sweep.proofs.NextTold.{next_told, settled_told, late_code}
use Rattle.frz_sweep.proofs.plies.settle.Goals as goal

pub returns-then-codes-i-ne-OPEN-clause-told : goal.returns-then-codes-i-ne-OPEN-clause-told
returns-then-codes-i-ne-OPEN-clause-told g c =
    settled_told (g.G.NumberedGame.arena c.args.game.now) c.args.side c.args.ply c.args.i
    (slice_index c.args.codes.now c.args.i)
    (c.requires.after c.args.i (omega arith)) c.if-codes-i-ne-OPEN.true

pub returns-then-code-eq-OPEN-clause-told : goal.returns-then-code-eq-OPEN-clause-told
returns-then-code-eq-OPEN-clause-told g c =
    let A = g.G.NumberedGame.arena c.args.game.now in
    let told = next_told A (g.met.G.NumberedGame.finite c.args.game.now c.requires.sound).lawful
    c.args.side c.args.ply c.args.i c.args.codes.now c.requires.before c.requires.after in
    let same : slice_index c.args.codes.now c.args.i ≡ c.settled-code.result =
    c.if-codes-i-ne-OPEN.false ∙ sym c.if-code-eq-OPEN.true in
    subst (λ z. IsTold A c.args.side (c.args.ply + 1) c.args.i z)
    (sym (same ∙ c.settled-code.ensures.code)) told

pub returns-clause-told : goal.returns-clause-told
returns-clause-told g c =
    let A = g.G.NumberedGame.arena c.args.game.now in
    let told = next_told A (g.met.G.NumberedGame.finite c.args.game.now c.requires.sound).lawful
    c.args.side c.args.ply c.args.i c.args.codes.now c.requires.before c.requires.after in
    let put = get_or-set_same c.args.codes.now c.args.i c.settled-code.result 0 (omega arith) in
    subst (λ z. IsTold A c.args.side (c.args.ply + 1) c.args.i z)
    (sym (put ∙ c.settled-code.ensures.code)) told

pub returns-clause-late : goal.returns-clause-late
returns-clause-late g c _ some =
    let A = g.G.NumberedGame.arena c.args.game.now in
    let told = next_told A (g.met.G.NumberedGame.finite c.args.game.now c.requires.sound).lawful
    c.args.side c.args.ply c.args.i c.args.codes.now c.requires.before c.requires.after in
    let code = c.settled-code.result in
    let late = late_code A c.args.side c.args.ply c.args.i code some
    (subst (λ z. IsTold A c.args.side c.args.ply c.args.i z) c.if-codes-i-ne-OPEN.false
    (c.requires.after c.args.i (omega arith)))
    (subst (λ z. IsTold A c.args.side (c.args.ply + 1) c.args.i z) (sym c.settled-code.ensures.code)
    told)
    c.if-code-eq-OPEN.false in
    let put = get_or-set_same c.args.codes.now c.args.i code 0 (omega arith) in
    omega arith
