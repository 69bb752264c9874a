use Rattle.std.proofs.Common.{◌≡◌, Bool, true, false, ◌&&◌, not, refl, ap, ◌∙◌}
use Rattle.std.proofs.Math.Bool.{not-not}
use Rattle.frz_board.specs.Attacks.{reaches}
use Rattle.frz_board.specs.Boards.{is_empty}
use Rattle.frz_squares.specs.SquareSets.{has_square}
use Rattle.frz_unmove.specs.Quiet.{keeps_target}
use Rattle.frz_bits.proofs.Lemmas.{in_set, reaches_back}
use Rattle.frz_unmove.proofs.quiet.quiet_origins.Goals as goal

kept : (s e g t k : Bool) → ((((s && e) && g) && t) && not ((((s && e) && g) && t) && k))
    ≡ (s && (e && ((t && not k) && g)))
kept true true true true true = refl
kept true true true true false = refl
kept true true true false k = refl
kept true true false false k = refl
kept true true false true true = refl
kept true true false true false = refl
kept true false g t k = refl
kept false e g t k = refl

pub returns : goal.returns
returns c a l =
    let q = c.args.q.now in
    let r = c.args.ready.now in
    let c0 = r.man.colour in
    let k0 = r.man.kind in
    let s = has_square c.args.squares a in
    let g = keeps_target r.bare.now c.args.target.now a in
    let free : has_square c.without-free.result a ≡ (s && is_empty q a) =
    c.without-free.ensures a l
    ∙ ap (λ x. s && not x) (in_set (λ y. not (is_empty q y)) c.occupied.result a
    c.occupied.ensures l)
    ∙ ap (λ x. s && x) (not-not (is_empty q a)) in
    let stood : has_square c.keeping_target-kept.result a ≡ ((s && is_empty q a) && g) =
    c.keeping_target-kept.ensures a l ∙ ap (λ x. x && g) free in
    let ways : has_square c.reached-ways.result a
    ≡ (((s && is_empty q a) && g) && reaches r.bare.now c0 k0 a c.args.to) =
    c.reached-ways.ensures a l
    ∙ ap (λ x. x && reaches r.bare.now c0 k0 c.args.to a) stood
    ∙ ap (λ x. ((s && is_empty q a) && g) && x) (reaches_back r.bare.now c0 k0 c.args.to a c.requires)
    in
    let checks : has_square c.reached.result a
    ≡ ((((s && is_empty q a) && g) && reaches r.bare.now c0 k0 a c.args.to)
    && reaches r.bare.now c0 k0 a r.king) =
    c.reached.ensures a l
    ∙ ap (λ x. x && reaches r.bare.now c0 k0 r.king a) ways
    ∙ ap (λ x. (((s && is_empty q a) && g) && reaches r.bare.now c0 k0 a c.args.to) && x)
    (reaches_back r.bare.now c0 k0 r.king a c.requires) in
    c.without.ensures a l
    ∙ ap (λ x. x && not (has_square c.reached.result a)) ways
    ∙ ap (λ x. (((s && is_empty q a) && g) && reaches r.bare.now c0 k0 a c.args.to) && not x) checks
    ∙ kept s (is_empty q a) g (reaches r.bare.now c0 k0 a c.args.to) (reaches r.bare.now c0 k0 a r.king)
