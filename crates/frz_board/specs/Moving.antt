-- Moves and their order.
use Rattle.std.specs.Prelude.{◌≡◌, ℕ, ◌<◌, Bool, true, false, Option, None, Some}
use Rattle.std.specs.Ordering.{nat_cmp, ordering_then}
use Rattle.std.specs.declared.cmp.Ordering.{Ordering}
use Rattle.frz_board.specs.declared.man.Kind.{Kind}
use Rattle.frz_board.specs.declared.man.Kind.TheVariants.{King, Queen, Rook, Bishop, Knight, Pawn}

-- a move: from one square to another, and what a pawn becomes, if anything
pub record Step : Type 0 where
  pub from : ℕ
  pub to : ℕ
  pub promo : Option Kind

-- nothing, or what a pawn may become: no king and no pawn (FIDE 3.7)
abbrev pub is_promotion : Option Kind → Bool
is_promotion None = true
is_promotion (Some King) = false
is_promotion (Some Pawn) = false
is_promotion (Some _) = true

-- a move that can be written: two squares of the board, and no king or pawn to become
pub record IsStep (m : Step) : Type 0 where
  pub from : m.from < 64
  pub to : m.to < 64
  pub promo : is_promotion m.promo ≡ true

-- the order of what a pawn becomes: none, queen, rook, bishop, knight
abbrev pub promotion_number : Option Kind → ℕ
promotion_number None = 0
promotion_number (Some Queen) = 1
promotion_number (Some Rook) = 2
promotion_number (Some Bishop) = 3
promotion_number (Some Knight) = 4
promotion_number (Some _) = 5

-- the order of moves: by origin, then destination, then promotion
abbrev pub step_cmp : Step → Step → Ordering
step_cmp m n =
    ordering_then (nat_cmp m.from n.from)
    (ordering_then (nat_cmp m.to n.to)
    (nat_cmp (promotion_number m.promo) (promotion_number n.promo)))
