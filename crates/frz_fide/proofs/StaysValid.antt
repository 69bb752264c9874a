-- A legal move leads from a valid position to a valid one.
use Rattle.std.proofs.Common.{◌≡◌, ◌<◌, ap, sym, ◌∙◌, true, false, ◌&&◌, subst}
use Rattle.std.specs.Prelude.{◌==◌}
use Rattle.std.proofs.lemmas.Bool.{and_from}
use Rattle.frz_board.specs.Attacks.{is_in_check}
use Rattle.frz_board.specs.Boards.{Board}
use Rattle.frz_board.specs.EnPassant.{has_target_in_place}
use Rattle.frz_board.specs.Moving.{Step}
use Rattle.frz_board.specs.Shapes.{count_of, men_of, has_kings, has_pawns_inside, has_few_men}
use Rattle.frz_fide.specs.Legal.{after, after_man, is_legal}
use Rattle.frz_fide.specs.Valid.{IsValid}
use Rattle.frz_board.specs.declared.man.Colour.TheVariants.{White, Black}
use Rattle.frz_board.specs.declared.man.Kind.TheVariants.{King}
use Rattle.frz_board.proofs.Lemmas.{other_other}
use Rattle.frz_fide.proofs.LegalParts.{Move, facts}
use Rattle.frz_fide.proofs.CellsAfter.{arrives_small, fit_written, takes, beside, arrival, next}
use Rattle.frz_fide.proofs.CountsKept.{kings_kept, few_kept}
use Rattle.frz_fide.proofs.PawnsKept.{pawns_kept}
use Rattle.frz_fide.proofs.TargetKept.{target_kept}

module _ (p : Board) (m : Step) (v : IsValid p) (lt : m.to < 64) (f : Move p m) where
  pub valid_then : is_in_check (next p m v lt f) p.turn ≡ false → IsValid (next p m v lt f)
  unfolding has_kings has_few_men men_of has_pawns_inside has_target_in_place
  valid_then safe = record {
    fits = fit_written p.cells m.from m.to (arrival p m v lt f) (beside p m v lt f)
        (takes p m v lt f) (arrives_small f.man m.promo) v.fits;
    kings = ap (λ n. n == 1 && count_of (next p m v lt f) Black King == 1)
        (kings_kept p m v lt f White)
        ∙ ap (λ n. count_of p White King == 1 && n == 1) (kings_kept p m v lt f Black) ∙ v.kings;
    pawns = (pawns_kept p m v lt f);
    men = and_from _ _ (few_kept p m v lt f White) (few_kept p m v lt f Black);
    target = (target_kept p m v lt f);
    safe = ap (is_in_check (next p m v lt f)) (other_other p.turn) ∙ safe;
  }

pub valid_after : (p : Board) (m : Step) → IsValid p → m.to < 64 → is_legal p m ≡ true →
    IsValid (after p m)
valid_after p m v lt h =
    let f = facts p m h in
    let here = ap (λ o. after_man p o m) f.on in
    subst IsValid (sym here)
    (valid_then p m v lt f (ap (λ q. is_in_check q p.turn) (sym here) ∙ f.safe))
