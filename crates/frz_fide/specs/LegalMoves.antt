-- Legal moves as the laws of chess state them; the tests of the module Legal compute them.
use Rattle.std.specs.Prelude.{ℕ, ◌≡◌, ◌≢◌, ◌+◌, ◌<◌, Option, None, Some, ◌⊎◌, slice_index, slice_set}
use Rattle.frz_board.specs.declared.man.Colour.{Colour}
use Rattle.frz_board.specs.declared.man.Colour.TheVariants.{White, Black}
use Rattle.frz_board.specs.declared.man.Kind.{Kind}
use Rattle.frz_board.specs.declared.man.Kind.TheVariants.{King, Pawn}
use Rattle.frz_board.specs.Squares.{rank_of, files_apart, ranks_apart}
use Rattle.frz_board.specs.Men.{cell_of_man, other_of}
use Rattle.frz_board.specs.Boards.{Board}
use Rattle.frz_board.specs.Moving.{Step, IsStep}
use Rattle.frz_board.specs.Attacking.{Attack, Stands, IsForward}
use Rattle.frz_fide.specs.Legal.{passed_over, beside_on_file}

-- a man of this kind and of the mover stands where the move begins, and none of the mover's
-- where it ends
pub record StartsAt (p : Board) (m : Step) (k : Kind) : Type 0 where
  pub step : IsStep m
  pub stands : Stands p p.turn k m.from
  pub free : (j : Kind) → Stands p p.turn j m.to → ⊥

abbrev pub IsEmpty : Board → ℕ → Type 0
IsEmpty p s = slice_index p.cells s ≡ 0

-- the rank where the side's pawns begin (FIDE 2.3), and their last rank
abbrev pub IsHome : Colour → ℕ → Type 0
IsHome White s = rank_of s ≡ 1
IsHome Black s = rank_of s ≡ 6

abbrev pub IsLast : Colour → ℕ → Type 0
IsLast White s = rank_of s ≡ 7
IsLast Black s = rank_of s ≡ 0

-- b is two ranks forward of a, as the side sees it
abbrev pub IsTwoForward : Colour → ℕ → ℕ → Type 0
IsTwoForward White a b = rank_of b ≡ rank_of a + 2
IsTwoForward Black a b = rank_of a ≡ rank_of b + 2

-- a pawn becomes a queen, rook, bishop or knight on its last rank, and stays a pawn elsewhere (FIDE
-- 3.7.3.3)
abbrev pub Becomes : Board → Step → Kind → Type 0
Becomes p m k =
    ((IsLast p.turn m.to → ⊥) × (m.promo ≡ None) × (k ≡ Pawn))
    ⊎ (IsLast p.turn m.to × (m.promo ≡ Some k))

-- an enemy pawn stands beside the square
abbrev pub HasEnemyBeside : Board → ℕ → Type 0
HasEnemyBeside p b =
    (s : ℕ) × (s < 64) × (ranks_apart s b ≡ 0) × (files_apart s b ≡ 1)
    × Stands p (other_of p.turn) Pawn s

-- the man leaves its square and stands on another, as a man of this kind; the other side is to move
abbrev pub moved : Board → Step → Kind → Option ℕ → Board
moved p m k target = record {
  cells = slice_set (slice_set p.cells m.from 0) m.to
      (cell_of_man (record { colour = p.turn; kind = k }));
  turn = other_of p.turn;
  ep = target;
}

-- no man attacks the king of the side that has moved (FIDE 3.9.2)
abbrev pub IsSafe : Board → Board → Type 0
IsSafe p q =
    (s a : ℕ) (k : Kind) → s < 64 → a < 64 →
    Stands q p.turn King s → Stands q (other_of p.turn) k a → Attack q a s → ⊥

-- the move m is legal at p, and leads to q: one case for each way in which a man moves
pub data Legal (p : Board) (m : Step) (q : Board) : Type 0 where
  -- a king, queen, rook, bishop or knight goes to a square that it attacks (FIDE 3.2 to 3.4, 3.6,
  -- 3.8)
  piece : (k : Kind) → StartsAt p m k → k ≢ Pawn → Attack p m.from m.to → m.promo ≡ None →
      q ≡ moved p m k None → IsSafe p q → Legal p m q
  -- a pawn captures a man diagonally forward (FIDE 3.7.3)
  capture : (k j : Kind) → StartsAt p m Pawn → Attack p m.from m.to →
      Stands p (other_of p.turn) j m.to → Becomes p m k →
      q ≡ moved p m k None → IsSafe p q → Legal p m q
  -- a pawn moves one square forward (FIDE 3.7.1)
  step : (k : Kind) → StartsAt p m Pawn → files_apart m.from m.to ≡ 0 →
      IsForward p.turn m.from m.to → IsEmpty p m.to → Becomes p m k →
      q ≡ moved p m k None → IsSafe p q → Legal p m q
  -- a pawn advances two squares; the square between is the target where an enemy pawn stands beside
  -- it (FIDE 3.7.2)
  advance : (target : Option ℕ) → StartsAt p m Pawn → IsHome p.turn m.from →
      files_apart m.from m.to ≡ 0 → IsTwoForward p.turn m.from m.to →
      IsEmpty p m.to → IsEmpty p (passed_over m.from m.to) → m.promo ≡ None →
      (HasEnemyBeside p m.to × (target ≡ Some (passed_over m.from m.to)))
      ⊎ ((HasEnemyBeside p m.to → ⊥) × (target ≡ None)) →
      q ≡ moved p m Pawn target → IsSafe p q → Legal p m q
  -- a pawn captures en passant, on the target; the pawn beside it leaves the board (FIDE 3.7.3.1)
  en_passant : StartsAt p m Pawn → Attack p m.from m.to → p.ep ≡ Some m.to → m.promo ≡ None →
      q ≡ record (moved p m Pawn None) {
        cells = slice_set (moved p m Pawn None).cells (beside_on_file m.from m.to) 0;
      } → IsSafe p q → Legal p m q
