use Rattle.std.proofs.Common.{◌≡◌, replicate, slice_index, ap, sym, subst, ◌∙◌, refl, arith}
use Rattle.std.proofs.lemmas.List.{get_or-replicate}
use Rattle.frz_board.specs.declared.man.Colour.{Colour}
use Rattle.frz_board.specs.declared.man.Colour.TheVariants.{White, Black}
use Rattle.frz_board.specs.Boards.{Board, CellsFit, holds}
use Rattle.frz_board.specs.Men.{is_man_of, man_of_cell}
use Rattle.frz_squares.specs.SquareSets.{set_of}
use Rattle.frz_squares.proofs.Lemmas.{has-zero, set_of-from}
use Rattle.frz_bits.proofs.bitboards.Bitboards.empty.Goals as goal

none : (p : Board) (c : Colour) → p.cells ≡ replicate 64 0 → 0 ≡ set_of (holds p c)
none p c e =
    set_of-from 0 (holds p c) (omega arith)
    (λ k l. has-zero k
    ∙ sym (ap (λ xs. is_man_of c (man_of_cell (slice_index xs k))) e
    ∙ ap (λ x. is_man_of c (man_of_cell x)) (get_or-replicate 64 k 0 0 l)))

pub invariant_of-result : goal.invariant_of-result
invariant_of-result c =
    let cells = ap (λ (p : Board). p.cells) c.empty.ensures in
    record {
      fits = subst CellsFit (sym cells)
          (record {
            size = refl;
            men = λ k d l. let e = get_or-replicate 64 k 0 d l in
                omega arith;
          });
      of_white = none c.empty.result White cells;
      of_black = none c.empty.result Black cells;
    }
