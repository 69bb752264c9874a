-- What a walk over the codes one ply on keeps of them.
use Rattle.std.specs.Prelude.{◌≡◌, ◌<◌, ◌^◌, ℕ, Bool, List}
use Rattle.std.specs.List.{Contains}
use Rattle.frz_arena.specs.Ranks.{best_rank}
use Rattle.frz_arena.specs.declared.best.Best.{Best}

-- best keeps the best (least) rank of the codes cs, which are below 2^32
pub record IsBest (own : Bool) (cs : List ℕ) (best : Best) : Type 0 where
  pub turn : best.own ≡ own
  pub small : (c : ℕ) → Contains cs c → c < 2 ^ 32
  pub rank : best.rank ≡ best_rank own cs
