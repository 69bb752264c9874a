use Rattle.std.proofs.Common.{◌≡◌, ◌*◌, ◌+◌, Bool, arith, subst, ℕ}
use Rattle.frz_fide.specs.Legal.{after}
use Rattle.frz_sets.specs.declared.exit.Value.{Value}
use Rattle.frz_exits.specs.Forbidding.{is_free}
use Rattle.frz_planes.specs.Planes.{IsNext}
use Rattle.frz_king_planes.specs.Kings.{with_kings}
use Rattle.frz_plane_exits.specs.Adding.{Adds, IsPairOf}
use Rattle.frz_plane_exits.specs.Leaving.{step_by}
use Rattle.frz_plane_exits.proofs.AskedPairs.{Asked, AskedBelow, all_asked, one_asked}
use Rattle.frz_plane_exits.proofs.Joining.{alike}
use Rattle.frz_plane_exits.proofs.asking.add_pairs.Goals as goal

pub loop-a-preserved : goal.loop-a-preserved
loop-a-preserved g c =
    let p = c.args.p.now in
    let mover = c.args.mover.now in
    let pairs = c.args.pairs.now in
    let value : (a b : ℕ) → Value =
    λ a b. g.B.ExitBook.value_at c.args.book.now
    (after (with_kings p a b) (step_by mover p.turn a b)) in
    let freedom : (a b : ℕ) → Bool =
    λ a b. is_free c.args.rules.now p.turn (with_kings p a b) (step_by mover p.turn a b) in
    let a = c.in-Some.a in
    let b = c.in-Some.b in
    let next : IsNext pairs c.loop-a.n a b = c.in-Some.ensures in
    let white = next.white in
    let black = next.black in
    let from = c.from.ensures in
    let more = c.from-in-Some.ensures in
    let number : 64 * a + b + 1 ≡ 64 * c.from.result + c.from-in-Some.result + 1 = omega arith in (
      omega arith,
      subst (λ (n : ℕ). Adds c.args.exits.now.items c.add_at.new.exits.items
          (AskedBelow pairs value freedom n)) number
          (one_asked pairs value freedom c.loop-a.n a b next c.args.exits.now.items
          c.loop-a.exits.items c.add_at.new.exits.items c.loop-a.invariant.1 c.in_ok-add_at.ensures),
    )

pub returns : goal.returns
returns g c =
    let r = c.args.rules.now in
    let p = c.args.p.now in
    let mover = c.args.mover.now in
    let pairs = c.args.pairs.now in
    let book = g.B.ExitBook.value_at c.args.book.now in
    let value : (a b : ℕ) → Value =
    λ a b. book (after (with_kings p a b) (step_by mover p.turn a b)) in
    let freedom : (a b : ℕ) → Bool =
    λ a b. is_free r p.turn (with_kings p a b) (step_by mover p.turn a b) in
    alike (Asked pairs value freedom) (IsPairOf pairs r book p mover) c.args.exits.now.items
    c.loop-a.exits.items
    (all_asked pairs value freedom c.loop-a.n c.args.exits.now.items c.loop-a.exits.items
    c.in_default.ensures c.loop-a.invariant.1)
    (λ v f a b la lb h. record {
      there = h.there;
      has = record { worth = h.worth; freedom = h.free };
    })
    (λ v f a b la lb h. record {
      there = h.there;
      worth = h.has.worth;
      free = h.has.freedom;
    })
