-- The squares from which a piece came by a move that took nothing.
use Rattle.std.proofs.Common.{◌≡◌, ℕ, Bool, true, false, ◌&&◌, not, Option, None, refl, ap, sym, subst, ◌∙◌}
use Rattle.std.proofs.lemmas.Bool.{and_from, and_parts}
use Rattle.std.specs.Prelude.{List}
use Rattle.frz_board.specs.Attacks.{reaches}
use Rattle.frz_board.specs.Boards.{Board, holds, is_empty, man_on}
use Rattle.frz_board.specs.Men.{other_of}
use Rattle.frz_fide.specs.Legal.{is_legal}
use Rattle.frz_fide.specs.Valid.{IsValid}
use Rattle.frz_index.specs.Members.{HasNumber}
use Rattle.frz_index.specs.Stepping.{stepped}
use Rattle.frz_sets.specs.Views.{GroupLine}
use Rattle.frz_squares.specs.SquareSets.{has_square}
use Rattle.frz_unmove.specs.declared.preds.Pred.{Pred}
use Rattle.frz_unmove.specs.declared.quiet.Ready.{Ready}
use Rattle.frz_unmove.specs.Gathering.{Comes, ComesAt, HasOrigins}
use Rattle.frz_unmove.specs.Quiet.{IsQuietBack, IsReady, is_quiet_origin, keeps_target}
use Rattle.frz_unmove.proofs.Coming.{vacated}
use Rattle.frz_unmove.proofs.Names.{of_name}
use Rattle.frz_unmove.proofs.StepsBack.{before_is, legal_where}
use Rattle.frz_unmove.proofs.StepsTold.{told_origin}

false_of : (b : Bool) → not b ≡ true → b ≡ false
false_of false h = refl
false_of true h = cc

-- from such a square the man has a way to his own, and none to the king, and the target was in place
-- while he stood there
pub origin_parts : (r : Ready) (target : Option ℕ) (to a : ℕ) →
    is_quiet_origin r target to a ≡ true →
    (reaches r.bare.now r.man.colour r.man.kind a to ≡ true)
    × (reaches r.bare.now r.man.colour r.man.kind a r.king ≡ false)
    × (keeps_target r.bare.now target a ≡ true)
origin_parts r target to a e =
    let way = reaches r.bare.now r.man.colour r.man.kind a to in
    let check = reaches r.bare.now r.man.colour r.man.kind a r.king in
    let parts = and_parts (way && not check) (keeps_target r.bare.now target a) e in
    let lines = and_parts way (not check) parts.0 in
    (lines.0, false_of check lines.1, parts.1)

-- the move of the man of `ready` from this square, which is empty
pub quiet_back : (q : Board) (to : ℕ) (r : Ready) → IsReady q to r → (a : ℕ) →
    is_empty q a ≡ true → IsQuietBack q (record { from = a; to = to; promo = None }) 0 r.man
quiet_back q to r ready a free = record {
  none_taken = refl;
  no_later = ready.there.no_later;
  promo = refl;
  free = free;
  own = ready.there.own;
  man_is = ready.there.man_is;
  piece = ready.there.piece;
}

-- each such move comes from a square of the word
pub comes_quiet : (gs : List GroupLine) (q : Board) (to squares : ℕ) (target : Option ℕ)
    (r : Ready) → IsValid q → IsReady q to r → HasOrigins gs q to None squares → (x : Pred) →
    ComesAt gs q to None 0 target x →
    (has_square squares x.mv.from
    && (is_empty q x.mv.from && is_quiet_origin r target to x.mv.from)) ≡ true
comes_quiet gs q to squares target r v ready origins x h =
    let c : Comes gs q x = h.0.0.0.0 in
    let end : x.mv.to ≡ to = h.0.0.0.1 in
    let m = x.mv in
    let g = of_name gs q m 0 target x (((((c, refl), refl), h.0.1), h.1), refl) in
    let quiet : IsQuietBack q m 0 r.man = record {
      none_taken = refl;
      no_later = ready.there.no_later;
      promo = h.0.0.1;
      free = vacated gs q x c;
      own = ap (holds q (other_of q.turn)) end ∙ ready.there.own;
      man_is = ap (man_on q) end ∙ ready.there.man_is;
      piece = ready.there.piece;
    } in
    let same = before_is q m 0 target r.man v c.step.from c.step.to quiet in
    let number : HasNumber gs x.number (stepped q r.man m.to m.from target) =
    subst (HasNumber gs x.number) same g.0 in
    let legal : is_legal (stepped q r.man m.to m.from target) m ≡ true =
    ap (λ (b : Board). is_legal b m) (sym same) ∙ g.1 in
    let told = told_origin q m 0 target r.man v c.step.from c.step.to quiet r
    (subst (λ t. IsReady q t r) (sym end) ready) gs x.number number
    (sym (legal_where q m 0 target r.man v c.step.from c.step.to quiet) ∙ legal) in
    let way = reaches r.bare.now r.man.colour r.man.kind m.from m.to in
    let check = reaches r.bare.now r.man.colour r.man.kind m.from r.king in
    let origin : is_quiet_origin r target m.to m.from ≡ true =
    and_from (way && not check) (keeps_target r.bare.now target m.from)
    (and_from way (not check) told.0 (ap not told.1)) told.2 in
    and_from (has_square squares m.from) (is_empty q m.from && is_quiet_origin r target to m.from)
    (origins x h.0.0)
    (and_from (is_empty q m.from) (is_quiet_origin r target to m.from) (vacated gs q x c)
    (ap (λ t. is_quiet_origin r target t m.from) (sym end) ∙ origin))
