use Rattle.std.proofs.Common.{◌≡◌, ◌<◌, ◌∙◌, List, ap, arith, false, subst, sym}
use Rattle.std.proofs.lemmas.Bool.{false_from_ne_true}
use Rattle.frz_board.specs.Moving.{Step}
use Rattle.frz_arena.specs.declared.arm.Next.TheVariants.{Outside}
use Rattle.frz_fide.specs.Legal.{after}
use Rattle.frz_index.proofs.Lemmas.{member_of, number_missing, outside_after}
use Rattle.frz_index.specs.Members.{Member}
use Rattle.frz_sets.specs.Views.{GroupLine}
use Rattle.frz_game.specs.Numbers.{is_member}
use Rattle.frz_game.proofs.Graph.{next_outside}
use Rattle.frz_game.proofs.game.Game.next_after.Goals as goal

pub returns-then-leaves : goal.returns-then-leaves
returns-then-leaves g c =
    let groups = c.args.self.now.rules.now.groups in
    let value = g.B.ExitBook.value_at c.args.self.now.book.now in
    let p = c.args.p.now in
    let m = c.args.m in
    let q = after p m in
    let low : m.to < 64 = omega (
      arith,
      c.number-to.ensures.number,
      c.number-to.ensures.on_board,
      ap (λ (s : Step). s.to) c.m.view_is,
    ) in
    let outside : is_member groups q ≡ false = false_from_ne_true (is_member groups q)
    (λ inside. outside_after c.args.self.now.set.now p m c.requires.number.member.valid low
    c.requires.legal
    (sym c.leaves.ensures ∙ c.if-leaves.true)
    (subst (λ (gs : List GroupLine). Member gs q) (sym c.args.self.now.fits)
    (member_of groups q inside))) in
    ap Outside (c.value_on.ensures ∙ ap value c.after-q.ensures.position)
    ∙ sym (next_outside groups q (value q) (number_missing groups q outside))
