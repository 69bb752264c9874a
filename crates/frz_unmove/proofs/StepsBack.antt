-- A step taken back: the position before it, and when the step is legal there.
use Rattle.std.proofs.Common.{◌≡◌, ℕ, ◌<◌, Bool, true, false, cond, ◌&&◌, ◌||◌, Option, None, Some, List, slice_index, slice_set, length-set, refl, ap, sym, subst, ◌∙◌, ◌↔◌, inl, inr}
use Rattle.std.specs.Prelude.{◌==◌, is_some, if◌then◌else◌, not}
use Rattle.std.proofs.lemmas.Bool.{cases_eq, eq-eqb, eqb-true}
use Rattle.std.proofs.lemmas.Grind.{same_number_lists}
use Rattle.frz_board.proofs.Lemmas.{cell_back, cell_forth, other_other}
use Rattle.frz_board.specs.declared.man.Colour.{Colour}
use Rattle.frz_board.specs.declared.man.Colour.TheVariants.{White, Black}
use Rattle.frz_board.specs.declared.man.Kind.{Kind}
use Rattle.frz_board.specs.declared.man.Kind.TheVariants.{King, Queen, Rook, Bishop, Knight, Pawn}
use Rattle.frz_board.specs.declared.man.Man.{Man}
use Rattle.frz_board.specs.Attacks.{is_in_check, pawn_reaches, reaches}
use Rattle.frz_board.specs.Boards.{Board, holds, man_on}
use Rattle.frz_board.specs.Men.{cell_of_man, is_man_of, is_pawn, man_of_cell, other_of}
use Rattle.frz_board.specs.Moving.{Step}
use Rattle.frz_board.specs.Squares.{files_apart, is_forward}
use Rattle.frz_fide.specs.Legal.{after, can_go, goes, is_legal, man_goes, promotes, beside_on_file, is_target}
use Rattle.frz_fide.specs.Valid.{IsValid}
use Rattle.frz_index.proofs.Lemmas.{after_quiet, at_from, at_rest, at_to}
use Rattle.frz_index.specs.Members.{HasNumber}
use Rattle.frz_index.specs.Stepping.{IsQuiet, IsStep, stepped}
use Rattle.frz_sets.specs.Sets.{pawn}
use Rattle.frz_sets.specs.Views.{GroupLine}
use Rattle.frz_unmove.specs.Earlier.{before, mover_cell, name}
use Rattle.frz_unmove.specs.Quiet.{IsQuietBack}

-- a piece is no pawn
pub no_pawn : (d c : Colour) (k : Kind) → is_pawn k ≡ false →
    (cell_of_man (record { colour = c; kind = k }) == pawn d) ≡ false
no_pawn White White King e = refl
no_pawn White White Queen e = refl
no_pawn White White Rook e = refl
no_pawn White White Bishop e = refl
no_pawn White White Knight e = refl
no_pawn White White Pawn e = cc
no_pawn White Black King e = refl
no_pawn White Black Queen e = refl
no_pawn White Black Rook e = refl
no_pawn White Black Bishop e = refl
no_pawn White Black Knight e = refl
no_pawn White Black Pawn e = cc
no_pawn Black White King e = refl
no_pawn Black White Queen e = refl
no_pawn Black White Rook e = refl
no_pawn Black White Bishop e = refl
no_pawn Black White Knight e = refl
no_pawn Black White Pawn e = cc
no_pawn Black Black King e = refl
no_pawn Black Black Queen e = refl
no_pawn Black Black Rook e = refl
no_pawn Black Black Bishop e = refl
no_pawn Black Black Knight e = refl
no_pawn Black Black Pawn e = cc

and_true : (a : Bool) → (a && true) ≡ a
and_true true = refl
and_true false = refl

-- a piece goes where it reaches, and becomes nothing else
piece_goes : (p : Board) (c : Colour) (k : Kind) (a b : ℕ) → is_pawn k ≡ false →
    (goes p c k a b && promotes c k b None) ≡ reaches p c k a b
piece_goes p c King a b e = and_true (reaches p c King a b)
piece_goes p c Queen a b e = and_true (reaches p c Queen a b)
piece_goes p c Rook a b e = and_true (reaches p c Rook a b)
piece_goes p c Bishop a b e = and_true (reaches p c Bishop a b)
piece_goes p c Knight a b e = and_true (reaches p c Knight a b)
piece_goes p c Pawn a b e = cc

module _ (q : Board) (m : Step) (taken : ℕ) (target : Option ℕ) (man : Man) (v : IsValid q)
    (lf : m.from < 64) (lt : m.to < 64) (h : IsQuietBack q m taken man) where
  abbrev p : Board
  p = stepped q man m.to m.from target

  stood : slice_index q.cells m.to ≡ cell_of_man man
  stood = cell_back (slice_index q.cells m.to) man.colour man.kind h.man_is

  pub back_step : IsStep q man m.to m.from
  back_step = record {
    size = v.fits.size;
    from = lt;
    to = lf;
    stood = stood;
    free = eqb-true (slice_index q.cells m.from) 0 h.free;
  }

  mover : mover_cell q m ≡ cell_of_man man
  mover =
      ap (λ (o : Option Kind). if is_some o then pawn (other_of q.turn)
      else slice_index q.cells m.to) h.promo ∙ stood

  -- the name of the step has the position before it
  pub before_is : before q (name m taken target) ≡ p
  before_is =
      let made : List ℕ → Board = λ cells.
      record { cells = cells; turn = other_of q.turn; ep = target } in
      let back : ℕ → List ℕ = λ cell. slice_set (slice_set q.cells m.to 0) m.from cell in
      let beside : ℕ → List ℕ = λ cell.
      slice_set (back cell) (beside_on_file m.from m.to) (pawn q.turn) in
      let passing = pawn_reaches (other_of q.turn) m.from m.to && is_target target m.to in
      ap (λ n. before q (name m n target)) h.none_taken
      ∙ ap (λ cell. made (cond (cell == pawn (other_of q.turn) && passing) (beside cell)
      (back cell))) mover
      ∙ ap (λ t. made (cond (t && passing) (beside (cell_of_man man)) (back (cell_of_man man))))
      (no_pawn (other_of q.turn) man.colour man.kind h.piece)

  there : slice_index p.cells m.from ≡ cell_of_man man
  there = at_to q man m.to m.from target back_step

  left : slice_index p.cells m.to ≡ 0
  left = at_from q man m.to m.from target back_step

  man_there : man_on p m.from ≡ Some man
  man_there = ap man_of_cell there ∙ cell_forth man.colour man.kind

  quiet : IsQuiet p m man
  quiet = record {
    man_is = man_there;
    plain =
        ap (λ t. not t || (files_apart m.from m.to == 0 && is_forward man.colour 1 m.from m.to))
        h.piece;
    free = eq-eqb (slice_index p.cells m.to) 0 left;
    promo = h.promo;
  }

  forth : IsStep p man m.from m.to
  forth = record {
    size = rw (length-set, length-set) v.fits.size;
    from = lf;
    to = lt;
    stood = there;
    free = left;
  }

  same_cell : (s : ℕ) → slice_index (stepped p man m.from m.to None).cells s ≡ slice_index q.cells s
  same_cell s =
      elim (cases_eq s m.to) [
        | inl e ↦
            ap (slice_index (stepped p man m.from m.to None).cells) e
            ∙ at_to p man m.from m.to None forth ∙ sym stood ∙ ap (slice_index q.cells) (sym e)
        | inr n ↦ elim (cases_eq s m.from) [
          | inl e ↦
              ap (slice_index (stepped p man m.from m.to None).cells) e
              ∙ at_from p man m.from m.to None forth ∙ sym back_step.free
              ∙ ap (slice_index q.cells) (sym e)
          | inr k ↦ at_rest p man m.from m.to None forth s k n
              ∙ at_rest q man m.to m.from target back_step s n k
        ]
      ]

  -- the step leads on
  pub leads_on : after p m ≡ q
  leads_on =
      let made : List ℕ → Colour → Option ℕ → Board = λ cells turn ep.
      record { cells = cells; turn = turn; ep = ep } in
      after_quiet p m man quiet
      ∙ ap (λ cells. made cells (other_of (other_of q.turn)) None)
      (same_number_lists (stepped p man m.from m.to None).cells q.cells
      (rw (length-set, length-set, length-set, length-set) refl) (λ k l. same_cell k))
      ∙ ap (λ c. made q.cells c None) (other_other q.turn)
      ∙ ap (made q.cells q.turn) (sym h.no_later)

  -- the step is legal where the man reaches
  pub legal_where : is_legal p m ≡ reaches p man.colour man.kind m.from m.to
  unfolding is_legal
  legal_where =
      ap (λ b. can_go p m && not (is_in_check b (other_of q.turn))) leads_on
      ∙ ap (λ t. can_go p m && not t) v.safe
      ∙ and_true (can_go p m)
      ∙ ap (λ o. (is_man_of p.turn o && not (holds p p.turn m.to)) && man_goes p o m) man_there
      ∙ ap (λ t. (t && not (holds p p.turn m.to)) && man_goes p (Some man) m)
      (ap (is_man_of (other_of q.turn)) (sym h.man_is) ∙ h.own)
      ∙ ap (λ n. not (is_man_of p.turn (man_of_cell n)) && man_goes p (Some man) m) left
      ∙ ap (λ o. goes p man.colour man.kind m.from m.to && promotes man.colour man.kind m.to o)
      h.promo
      ∙ piece_goes p man.colour man.kind m.from m.to h.piece

  -- what is told of the step's position is told of the position before a move of its name
  pub told_before : (gs : List GroupLine) (o : Option ℕ) (i : ℕ) →
      ((o ≡ Some i)
      ↔ (HasNumber gs i p × (reaches p man.colour man.kind m.from m.to ≡ true))) →
      (o ≡ Some i)
      ↔ (HasNumber gs i (before q (name m taken target))
      × (is_legal (before q (name m taken target)) m ≡ true)
      × (after (before q (name m taken target)) m ≡ q))
  told_before gs o i told =
      subst (λ (b : Board). (o ≡ Some i)
      ↔ (HasNumber gs i b × (is_legal b m ≡ true) × (after b m ≡ q))) (sym before_is) (
        λ e. ((told.0 e).0, legal_where ∙ (told.0 e).1, leads_on),
        λ k. told.1 (k.0, sym legal_where ∙ k.1),
      )
