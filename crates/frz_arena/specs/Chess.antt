-- Chess without any restriction, and what a side forces there.
use Rattle.std.specs.Prelude.{◌≡◌, ◌≢◌, ℕ, suc, Bool, true, List, [], Option, Some, None}
use Rattle.std.specs.List.{Contains}
use Rattle.frz_board.specs.declared.man.Colour.{Colour}
use Rattle.frz_board.specs.Men.{other_of}

-- chess: who is to move, whether his king is attacked, his legal moves, and the position after one
pub record Chess (P M : Type 0) : Type 0 where
  pub turn : P → Colour
  pub in_check : P → Bool
  pub moves : P → List M
  pub play : P → M → P

-- the side is to move and is mated (FIDE 5.1.1)
pub record IsMated {P M : Type 0} (chess : Chess P M) (side : Colour) (p : P) : Type 0 where
  pub to_move : chess.turn p ≡ side
  pub no_move : chess.moves p ≡ []
  pub attacked : chess.in_check p ≡ true

-- within n plies the side forces mate, or a goal with its lag counted, against every legal reply;
-- goal gives the lag of a position that is a goal
pub data Forces {P M : Type 0} (chess : Chess P M) (goal : P → Option ℕ) (side : Colour) :
    ℕ → P → Type 0 where
  -- the opponent is to move, and is mated
  mated : {p : P} → IsMated chess (other_of side) p → Forces chess goal side 0 p
  -- the position is a goal, and n is its lag
  at_goal : {n : ℕ} {p : P} → goal p ≡ Some n → Forces chess goal side n p
  -- one ply less suffices
  later : {n : ℕ} {p : P} → Forces chess goal side n p → Forces chess goal side (suc n) p
  -- the side is to move, and plays a legal move m, after which n plies suffice
  own_move : {n : ℕ} {p : P} (m : M) → chess.turn p ≡ side → Contains (chess.moves p) m →
      Forces chess goal side n (chess.play p m) → Forces chess goal side (suc n) p
  -- the opponent is to move and has a legal move, and whichever he plays, n plies suffice after it
  every_reply : {n : ℕ} {p : P} → chess.turn p ≡ other_of side → chess.moves p ≢ [] →
      ((m : M) → Contains (chess.moves p) m → Forces chess goal side n (chess.play p m)) →
      Forces chess goal side (suc n) p

-- no position is a goal: only mate counts
abbrev pub mate_alone : {P : Type 0} → P → Option ℕ
mate_alone p = None

-- within n plies the side forces mate
abbrev pub ForcesMate : {P M : Type 0} → Chess P M → Colour → ℕ → P → Type 0
ForcesMate chess side n p = Forces chess mate_alone side n p

-- the side never forces mate
abbrev pub NeverForcesMate : {P M : Type 0} → Chess P M → Colour → P → Type 0
NeverForcesMate chess side p = (n : ℕ) → ForcesMate chess side n p → ⊥
