use Rattle.std.proofs.Common.{◌≡◌, ◌<◌, ◌∙◌, ap, arith, sym, not, false, true}
use Rattle.frz_board.specs.Attacks.{is_attacked}
use Rattle.frz_board.specs.Men.{other_of}
use Rattle.frz_board.specs.Moving.{Step}
use Rattle.frz_squares.specs.SquareSets.{has_square}
use Rattle.frz_squares.proofs.Lemmas.{has-set_of}
use Rattle.frz_fide.specs.Exposing.{is_king, without}
use Rattle.frz_fide.proofs.Exposed.{leaves_safely}
use Rattle.frz_fide.proofs.KingGoes.{king_goes}
use Rattle.frz_fide.proofs.exposing.keeps_safe.Goals as goal

pub returns-then-not-exposing : goal.returns-then-not-exposing
returns-then-not-exposing c =
    let hidden : c.args.exposing ≡ false = c.if-not-exposing.true in
    sym (ap not (leaves_safely c.args.p.now c.args.man c.args.m c.requires.man c.requires.can
    (sym c.requires.exposing ∙ hidden)))

pub returns-then-is_king : goal.returns-then-is_king
returns-then-is_king c =
    let from : c.args.m.from < 64 = omega (arith, ap (λ (s : Step). s.from) c.m.view_is) in
    let to : c.args.m.to < 64 = omega (arith, ap (λ (s : Step). s.to) c.m.view_is) in
    let king : is_king c.args.man.kind ≡ true = sym c.is_king.ensures ∙ c.if-is_king.true in
    let on : c.m.inside.to < 64 = omega (arith, to, ap (λ (s : Step). s.to) c.m.view_is) in
    ap not
    (c.contains.ensures.there
    ∙ ap (λ w. has_square w c.m.inside.to) (c.requires.barred king)
    ∙ has-set_of (λ s. is_attacked (without c.args.p.now c.args.m.from) s
    (other_of c.args.p.now.turn)) c.m.inside.to on
    ∙ ap (λ (s : Step). is_attacked (without c.args.p.now c.args.m.from) s.to
    (other_of c.args.p.now.turn)) c.m.view_is
    ∙ sym (king_goes c.args.p.now c.args.man c.args.m c.requires.valid from to c.requires.man
    c.requires.can king))
