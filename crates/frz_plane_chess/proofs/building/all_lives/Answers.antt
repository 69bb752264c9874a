use Rattle.std.proofs.Common.{List, [], subst, ℕ, arith}
use Rattle.frz_sets.specs.Views.{GroupLine}
use Rattle.frz_kingless.specs.Boards.{AreLive}
use Rattle.frz_plane_chess.proofs.Pushed.{pushed}
use Rattle.frz_plane_chess.proofs.building.all_lives.Goals as goal

pub loop-c-preserved : goal.loop-c-preserved
loop-c-preserved c =
    let gs = c.args.configurations.now.rules.now.groups in
    let live = subst (λ (x : List GroupLine). AreLive x c.loop-c.c c.live_pairs.result) c.requires.set
    c.live_pairs.ensures in
    record {
      many = omega (arith, c.in_ok-push.ensures.len);
      live = pushed (λ (d : ℕ) (plane : List ℕ). AreLive gs d plane) c.loop-c.lives.items
          c.push.new.self.items c.live_pairs.result [] c.loop-c.c c.in_ok-push.ensures.items
          c.loop-c.invariant.many c.loop-c.invariant.live live;
    }
