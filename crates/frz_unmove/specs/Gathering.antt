-- The moves that lead to a position, kind by kind: where they end, what the man has become, what it
-- took, the earlier target, and where they begin.
use Rattle.std.specs.Prelude.{ℕ, ◌≡◌, ◌+◌, ◌<◌, ◌==◌, ◌&&◌, ◌||◌, Bool, true, List, Option, None, Some, IfSome, slice_index}
use Rattle.std.specs.List.{list_any}
use Rattle.frz_board.specs.declared.man.Colour.{Colour}
use Rattle.frz_board.specs.declared.man.Colour.TheVariants.{White, Black}
use Rattle.frz_board.specs.declared.man.Kind.{Kind}
use Rattle.frz_board.specs.declared.man.Kind.TheVariants.{Pawn}
use Rattle.frz_board.specs.Boards.{Board, has}
use Rattle.frz_board.specs.EnPassant.{ahead, is_passing_rank}
use Rattle.frz_board.specs.Moving.{Step, IsStep}
use Rattle.frz_squares.specs.SquareSets.{has_square}
use Rattle.frz_fide.specs.Legal.{is_legal, after}
use Rattle.frz_sets.specs.Sets.{targets}
use Rattle.frz_sets.specs.Views.{GroupLine}
use Rattle.frz_index.specs.Members.{HasNumber}
use Rattle.frz_index.specs.Candidates.{candidate}
use Rattle.frz_unmove.specs.declared.gathering.End.{End}
use Rattle.frz_unmove.specs.declared.preds.Pred.{Pred}
use Rattle.frz_unmove.specs.Quiet.{IsReady}

-- x is the number of a position of the set, with a legal move from there that leads to q
pub record Comes (gs : List GroupLine) (q : Board) (x : Pred) : Type 0 where
  pub earlier : Board
  pub number : HasNumber gs x.number earlier
  pub step : IsStep x.mv
  pub legal : is_legal earlier x.mv ≡ true
  pub arrives : after earlier x.mv ≡ q

-- the cell that stood where the move ends, and the target before the move: both are read from the
-- position of the number
abbrev pub taken_of : List GroupLine → Pred → ℕ
taken_of gs x = slice_index (candidate gs x.number).cells x.mv.to

abbrev pub target_of : List GroupLine → Pred → Option ℕ
target_of gs x = (candidate gs x.number).ep

-- the number of a target: 0 for none, or the square plus 1
abbrev pub target_key : Option ℕ → ℕ
target_key None = 0
target_key (Some t) = t + 1

-- the moves that lead to q, each time with one condition more: to this square; with this promotion;
-- that took this cell; with this earlier target; from this square
abbrev pub ComesTo : List GroupLine → Board → ℕ → Pred → Type 0
ComesTo gs q b x = Comes gs q x × (x.mv.to ≡ b)

abbrev pub ComesAs : List GroupLine → Board → ℕ → Option Kind → Pred → Type 0
ComesAs gs q b promo x = ComesTo gs q b x × (x.mv.promo ≡ promo)

abbrev pub ComesTaking : List GroupLine → Board → ℕ → Option Kind → ℕ → Pred → Type 0
ComesTaking gs q b promo taken x = ComesAs gs q b promo x × (taken_of gs x ≡ taken)

abbrev pub ComesAt : List GroupLine → Board → ℕ → Option Kind → ℕ → Option ℕ → Pred → Type 0
ComesAt gs q b promo taken target x =
    ComesTaking gs q b promo taken x × (target_key (target_of gs x) ≡ target_key target)

abbrev pub ComesFrom : List GroupLine → Board → Step → ℕ → Option ℕ → Pred → Type 0
ComesFrom gs q m taken target x = ComesAt gs q m.to m.promo taken target x × (x.mv.from ≡ m.from)

-- the first square of the rank that the side's pawns pass over
abbrev pub first_target : Colour → ℕ
first_target White = 16
first_target Black = 40

-- the cell of the side's queen, the first kind that may be taken
abbrev pub first_taken : Colour → ℕ
first_taken White = 2
first_taken Black = 8

-- the bitboard has each square from which such a move to b, with this promotion, leads to q
abbrev pub HasOrigins : List GroupLine → Board → ℕ → Option Kind → ℕ → Type 0
HasOrigins gs q b promo word =
    (x : Pred) → ComesAs gs q b promo x → has_square word x.mv.from ≡ true

-- the pawn that had passed over the square stands ahead of it
-- still, or the move to this square took it
abbrev pub may_have_passed : Board → ℕ → ℕ → Bool
may_have_passed q b t = has q q.turn Pawn (ahead q.turn t) || (ahead q.turn t == b || t == b)

-- the square may have been the target before a move to this square, whatever the set
abbrev pub may_have_stood : Board → ℕ → ℕ → Bool
may_have_stood q b t = is_passing_rank q.turn t && may_have_passed q b t

-- the square may have been the target before a move to this square, and is a target of the set
abbrev pub may_be_target : List GroupLine → Board → ℕ → ℕ → Bool
may_be_target gs q b t = list_any (λ y. t == y) (targets gs) && may_have_stood q b t

-- the bitboard of the set's targets that may have stood before a move to this square
abbrev pub IsTargetWord : List GroupLine → Board → ℕ → ℕ → Type 0
IsTargetWord gs q b word = (t : ℕ) → t < 64 → has_square word t ≡ may_be_target gs q b t

-- a man is ready only where the move took nothing and promoted nothing
abbrev pub IsReadyEnd : Board → End → Type 0
IsReadyEnd q e = IfSome e.ready (λ r. IsReady q e.to r × (e.taken ≡ 0) × (e.promo ≡ None))
