-- A man that is no king makes its move before or after the kings are put on the board.
use Rattle.std.proofs.Common.{◌≡◌, ◌≢◌, ℕ, ◌<◌, Bool, true, false, cond, ◌&&◌, not, Option, None, Some, List, length, length-set, slice_index, slice_set, refl, ap, sym, ◌∙◌, subst}
use Rattle.std.specs.Prelude.{◌==◌}
use Rattle.std.specs.List.{list_any}
use Rattle.std.proofs.lemmas.Bool.{and_from, and_parts, both_ways, not-false, not_from_false}
use Rattle.frz_board.specs.declared.man.Colour.{Colour}
use Rattle.frz_board.specs.declared.man.Colour.TheVariants.{White, Black}
use Rattle.frz_board.specs.declared.man.Kind.TheVariants.{Pawn}
use Rattle.frz_board.specs.declared.man.Man.{Man}
use Rattle.frz_board.specs.Attacks.{is_in_check}
use Rattle.frz_board.specs.Boards.{Board, has, holds, is_empty, man_on}
use Rattle.frz_board.specs.EnPassant.{has_pawn_beside}
use Rattle.frz_board.specs.Men.{cell_of_man, is_man_of, is_pawn, man_of_cell, other_of}
use Rattle.frz_board.specs.Moving.{Step, IsStep}
use Rattle.frz_board.specs.Squares.{is_beside, squares}
use Rattle.frz_board.proofs.Lemmas.{other_other}
use Rattle.frz_squares.proofs.Lemmas.{any_square, same_not, some_square}
use Rattle.frz_fide.specs.Legal.{advances, after, after_man, arrives, beside_on_file, can_go, cells_after, is_legal, man_goes, passed_over, takes_in_passing, target_after}
use Rattle.frz_fide.specs.Valid.{IsValid}
use Rattle.frz_fide.proofs.Lemmas.{facts, others_by, same_side, same_tests, taken, valid_after}
use Rattle.frz_king_planes.specs.Kings.{are_free, king_cell, with_kings}
use Rattle.frz_king_planes.proofs.Lemmas.{Crowned, crowned, free_parts, same_test}
use Rattle.frz_pair_moves.specs.Moves.{Makes}
use Rattle.frz_pair_moves.specs.Ways.{leave_way}
use Rattle.frz_pair_moves.proofs.Cells.{after_at, written_past}
use Rattle.frz_pair_moves.proofs.MenGo.{Clear, advances_same, can_same, clear_leaves, leaves_clear, legal_clear, not_black, not_white}

-- a man of the side to move that can go
pub record Going (p : Board) (m : Step) : Type 0 where
  pub man : Man
  pub on : man_on p m.from ≡ Some man
  pub own : man.colour ≡ p.turn

going_of : (p : Board) (m : Step) (o : Option Man) → man_on p m.from ≡ o →
    is_man_of p.turn o ≡ true → Going p m
going_of p m None e h = absurd cc
going_of p m (Some man) e h = record {
  man = man;
  on = e;
  own = same_side man.colour p.turn h;
}

pub going : (p : Board) (m : Step) → holds p p.turn m.from ≡ true → Going p m
going p m h = going_of p m (man_on p m.from) refl h

pub goes_from : (p : Board) (m : Step) → can_go p m ≡ true → holds p p.turn m.from ≡ true
goes_from p m h =
    (and_parts (holds p p.turn m.from) (not (holds p p.turn m.to))
    (and_parts (holds p p.turn m.from && not (holds p p.turn m.to))
    (man_goes p (man_on p m.from) m) h).0).0

any_same : (f g : ℕ → Bool) → ((s : ℕ) → f s ≡ g s) → list_any f squares ≡ list_any g squares
any_same f g h =
    same_tests (list_any f squares) (list_any g squares)
    (λ e. let w = some_square f e in
    any_square g w.square w.on_board (sym (h w.square) ∙ w.passes))
    (λ e. let w = some_square g e in any_square f w.square w.on_board (h w.square ∙ w.passes))

abbrev is_pawn_of : Colour → ℕ → Bool
is_pawn_of c x = x == cell_of_man (record { colour = c; kind = Pawn })

no_pawn : (c : Colour) → is_pawn_of c 0 ≡ false
no_pawn White = refl
no_pawn Black = refl

king_no_pawn : (c d : Colour) → is_pawn_of c (king_cell d) ≡ false
king_no_pawn White White = refl
king_no_pawn White Black = refl
king_no_pawn Black White = refl
king_no_pawn Black Black = refl

pawn_no_king : (c d : Colour) (x : ℕ) → x ≡ king_cell d →
    x ≡ cell_of_man (record { colour = c; kind = Pawn }) → ⊥
pawn_no_king c d x e f =
    both_ways (is_pawn_of c x) (ap (is_pawn_of c) e ∙ king_no_pawn c d)
    (ap (is_pawn_of c) f ∙ itself c)
  where
    itself : (c : Colour) → is_pawn_of c (cell_of_man (record { colour = c; kind = Pawn })) ≡ true
    itself White = refl
    itself Black = refl

module _ (p : Board) (a b : ℕ) (size : length p.cells ≡ 64) (la : a < 64) (lb : b < 64)
    (free : are_free p a b ≡ true) where
  abbrev q : Board
  q = with_kings p a b

  w : Crowned p (with_kings p a b) White a b
  w = crowned p a b White size la lb free

  beside_same : (c : Colour) (y : ℕ) → has_pawn_beside q c y ≡ has_pawn_beside p c y
  beside_same c y =
      any_same (λ s. is_beside s y && has q c Pawn s) (λ s. is_beside s y && has p c Pawn s)
      (λ s. ap (λ t. is_beside s y && t)
      (same_test p a b size la lb free (is_pawn_of c) (no_pawn c) (king_no_pawn c White)
      (king_no_pawn c Black) s))

  module _ (m : Step) (man : Man) (lf : m.from < 64) (lt : m.to < 64)
      (v : IsValid (with_kings p a b)) (own : man.colour ≡ p.turn) (fa : m.from ≢ a)
      (fb : m.from ≢ b) (x : Clear p a b size la lb free m) where
    abbrev takes : Bool
    takes = is_pawn man.kind && takes_in_passing p man.colour m.from m.to

    abbrev arrival : ℕ
    arrival = cell_of_man (arrives man m.promo)

    taken_pawn : takes ≡ true → slice_index q.cells (beside_on_file m.from m.to)
        ≡ cell_of_man (record { colour = other_of p.turn; kind = Pawn })
    taken_pawn h =
        taken q m v man.colour own
        (and_parts (is_pawn man.kind) (takes_in_passing p man.colour m.from m.to) h).1

    beside_white : takes ≡ true → beside_on_file m.from m.to ≢ a
    beside_white h e =
        pawn_no_king (other_of p.turn) White (slice_index q.cells (beside_on_file m.from m.to))
        (ap (slice_index q.cells) e ∙ w.own) (taken_pawn h)

    beside_black : takes ≡ true → beside_on_file m.from m.to ≢ b
    beside_black h e =
        pawn_no_king (other_of p.turn) Black (slice_index q.cells (beside_on_file m.from m.to))
        (ap (slice_index q.cells) e ∙ w.other) (taken_pawn h)

    cells_same : cells_after q man m
        ≡ slice_set (slice_set (cells_after p man m) a (king_cell White)) b (king_cell Black)
    cells_same =
        written_past takes p.cells a b (king_cell White) (king_cell Black) m.from m.to arrival
        (beside_on_file m.from m.to) fa fb x.to_white x.to_black beside_white beside_black

    target_same : target_after q man m ≡ target_after p man m
    target_same =
        ap (λ t. cond ((is_pawn man.kind && t) && has_pawn_beside q (other_of man.colour) m.to)
        (Some (passed_over m.from m.to)) None)
        (advances_same p a b size la lb free m.from m.to x.to_white x.to_black x.past_white
        x.past_black man.colour)
        ∙ ap (λ t. cond ((is_pawn man.kind && advances p man.colour m.from m.to) && t)
        (Some (passed_over m.from m.to)) None) (beside_same (other_of man.colour) m.to)

    man_after : after_man q (Some man) m ≡ with_kings (after_man p (Some man) m) a b
    man_after =
        let F : List ℕ → Board =
        λ xs. record { cells = xs; turn = other_of p.turn; ep = target_after q man m } in
        let G : Option ℕ → Board = λ t. record {
          cells = slice_set (slice_set (cells_after p man m) a (king_cell White)) b (king_cell Black);
          turn = other_of p.turn;
          ep = t;
        } in
        ap F cells_same ∙ ap G target_same

    -- the squares of the kings stay empty on the board without them
    empty_after : (s : ℕ) → m.to ≢ s → slice_index p.cells s ≡ 0 →
        is_empty (after_man p (Some man) m) s ≡ true
    empty_after s ne none =
        not-false (is_empty (after_man p (Some man) m) s)
        (ap (λ c. not (c == 0)) (after_at p man m s size lf lt)
        ∙ others_by (λ c. not (c == 0)) takes (beside_on_file m.from m.to) m.to m.from arrival
        (slice_index p.cells s) s refl (ap (λ c. not (c == 0)) none) (λ e. ne (sym e)))

    free_after : are_free (after_man p (Some man) m) a b ≡ true
    free_after =
        let parts = free_parts p a b free in
        and_from (not (a == b))
        (is_empty (after_man p (Some man) m) a && is_empty (after_man p (Some man) m) b)
        (same_not a b parts.apart)
        (and_from (is_empty (after_man p (Some man) m) a) (is_empty (after_man p (Some man) m) b)
        (empty_after a x.to_white parts.white) (empty_after b x.to_black parts.black))

-- a legal move, from its test and the validity of the position after it
pub legal_from : (q : Board) (m : Step) → (after q m).turn ≡ other_of q.turn → can_go q m ≡ true →
    IsValid (after q m) → is_legal q m ≡ true
unfolding is_legal
legal_from q m turn can v =
    and_from (can_go q m) (not (is_in_check (after q m) q.turn)) can
    (not_from_false (is_in_check (after q m) q.turn)
    (ap (is_in_check (after q m)) (sym (ap other_of turn ∙ other_other q.turn)) ∙ v.safe))

pub legal_goes : (q : Board) (m : Step) → is_legal q m ≡ true → can_go q m ≡ true
unfolding is_legal
legal_goes q m h = (and_parts (can_go q m) (not (is_in_check (after q m) q.turn)) h).0

pub size_of : (p : Board) (a b : ℕ) → IsValid (with_kings p a b) → length p.cells ≡ 64
size_of p a b v =
    sym (length-set (slice_set p.cells a (king_cell White)) b (king_cell Black)
    ∙ length-set p.cells a (king_cell White)) ∙ v.fits.size

module _ (p : Board) (m : Step) (a b : ℕ) (step : IsStep m) (la : a < 64) (lb : b < 64)
    (made : Makes p a b) where
  pub long : length p.cells ≡ 64
  long = size_of p a b made.valid

  -- what a step from a man's square, with the kings off its way, leads to
  module _ (own : holds p p.turn m.from ≡ true) (x : Clear p a b long la lb made.free m) where
    g : Going p m
    g = going p m own

    fa : m.from ≢ a
    fa = not_white p a b long la lb made.free p.turn m.from own

    fb : m.from ≢ b
    fb = not_black p a b long la lb made.free p.turn m.from own

    there : man_on (with_kings p a b) m.from ≡ Some g.man
    there = ap man_of_cell ((crowned p a b White long la lb made.free).rest m.from fa fb) ∙ g.on

    pub alike : after (with_kings p a b) m ≡ with_kings (after p m) a b
    alike =
        ap (λ o. after_man (with_kings p a b) o m) there
        ∙ man_after p a b long la lb made.free m g.man step.from step.to made.valid g.own fa fb x
        ∙ ap (λ o. with_kings (after_man p o m) a b) (sym g.on)

    turned : (after (with_kings p a b) m).turn ≡ other_of p.turn
    turned = ap (λ o. (after_man (with_kings p a b) o m).turn) there

    pub still_free : are_free (after p m) a b ≡ true
    still_free =
        ap (λ o. are_free (after_man p o m) a b) g.on
        ∙ free_after p a b long la lb made.free m g.man step.from step.to made.valid g.own fa fb x

    pub same_can : can_go (with_kings p a b) m ≡ can_go p m
    same_can =
        can_same p a b long la lb made.free m fa fb x.to_white x.to_black x.past_white x.past_black

  pub legal_man : holds p p.turn m.from ≡ true → is_legal (with_kings p a b) m ≡ true →
      (can_go p m ≡ true) × (leave_way m a b ≡ true) × Makes (after p m) a b
  legal_man own h =
      let x = legal_clear p a b long la lb made.free m made.valid step.to
      (facts (with_kings p a b) m h) in (
        sym (same_can own x) ∙ legal_goes (with_kings p a b) m h,
        clear_leaves p a b long la lb made.free m x,
        record {
          free = still_free own x;
          valid = subst IsValid (alike own x) (valid_after (with_kings p a b) m made.valid step.to h);
        },
      )

  pub man_legal : (can_go p m ≡ true) × (leave_way m a b ≡ true) × Makes (after p m) a b →
      is_legal (with_kings p a b) m ≡ true
  man_legal h =
      let own = goes_from p m h.0 in
      let x = leaves_clear p a b long la lb made.free m h.1 in
      legal_from (with_kings p a b) m (turned own x) (same_can own x ∙ h.0)
      (subst IsValid (sym (alike own x)) h.2.valid)

  pub moved_alike : can_go p m ≡ true → leave_way m a b ≡ true →
      after (with_kings p a b) m ≡ with_kings (after p m) a b
  moved_alike can leaves =
      alike (goes_from p m can) (leaves_clear p a b long la lb made.free m leaves)
