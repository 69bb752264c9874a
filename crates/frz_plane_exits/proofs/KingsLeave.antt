-- A king's step to a square leaves the set at all pairs at which it is legal, or at none.
use Rattle.std.proofs.Common.{◌≡◌, ℕ, ◌<◌, true, false, ◌&&◌, List, refl, sym, ◌∙◌, subst}
use Rattle.std.proofs.lemmas.Bool.{and_from, and_parts, both_ways}
use Rattle.frz_board.specs.declared.man.Colour.{Colour}
use Rattle.frz_board.specs.declared.man.Colour.TheVariants.{White, Black}
use Rattle.frz_board.specs.Boards.{Board, holds}
use Rattle.frz_board.specs.Lines.{is_king_step}
use Rattle.frz_fide.specs.Legal.{after, is_legal}
use Rattle.frz_sets.specs.Sound.{IsSound}
use Rattle.frz_sets.specs.Views.{GroupLine, RuleLines}
use Rattle.frz_index.specs.Kept.{is_known}
use Rattle.frz_index.specs.Members.{Member}
use Rattle.frz_planes.specs.Planes.{IsPlaneOf, has_pair}
use Rattle.frz_king_planes.specs.Kings.{king_cell, king_square, with_kings}
use Rattle.frz_king_planes.specs.Valid.{AreValid}
use Rattle.frz_kingless.specs.Boards.{IsBoardOf, are_known}
use Rattle.frz_kingless.proofs.Lemmas.{known_there, made_member}
use Rattle.frz_pair_moves.specs.Kings.{black_then, king_step, steps_onto, white_then}
use Rattle.frz_pair_moves.specs.Moves.{entered}
use Rattle.frz_pair_moves.proofs.Lemmas.{Entry, black_on, enters, entry, king_after, step_back, white_on}
use Rattle.frz_plane_arms.specs.Arms.{MakesMember}
use Rattle.frz_plane_exits.specs.Leaving.{AreLeaving, AreMembers, Leaves}
use Rattle.frz_plane_exits.specs.declared.mover.Mover.TheVariants.{King}
use Rattle.frz_plane_exits.proofs.MenLeave.{made}

king_on : (c : Colour) (a b : ℕ) → a < 64 → b < 64 → king_square c a b < 64
king_on White a b la lb = la
king_on Black a b la lb = lb

-- the king that went stands on his square
gone : (c : Colour) (a b s : ℕ) → king_square c (white_then c a s) (black_then c b s) ≡ s
gone White a b s = refl
gone Black a b s = refl

known_then : (gs : List GroupLine) (c : Colour) (a b s : ℕ) → is_known gs (king_cell c) s ≡ true →
    are_known gs a b ≡ true → are_known gs (white_then c a s) (black_then c b s) ≡ true
known_then gs White a b s there h =
    and_from (is_known gs (king_cell White) s) (is_known gs (king_cell Black) b) there
    (and_parts (is_known gs (king_cell White) a) (is_known gs (king_cell Black) b) h).1
known_then gs Black a b s there h =
    and_from (is_known gs (king_cell White) a) (is_known gs (king_cell Black) s)
    (and_parts (is_known gs (king_cell White) a) (is_known gs (king_cell Black) b) h).0 there

module _ (r : RuleLines) (p : Board) (s : ℕ) (sound : IsSound r)
    (ls : s < 64) where
  abbrev white : ℕ → ℕ
  white a = white_then p.turn a s

  abbrev black : ℕ → ℕ
  black b = black_then p.turn b s

  went : (a b : ℕ) → MakesMember r.groups p a b →
      is_legal (with_kings p a b) (king_step p a b s) ≡ true → Entry p p.turn a b s
  went a b h legal = entry p a b s h.white h.black ls (made r p a b h) p.turn refl legal

  -- the position after it
  position : (a b : ℕ) → MakesMember r.groups p a b → Entry p p.turn a b s →
      after (with_kings p a b) (king_step p a b s) ≡ with_kings (entered p s) (white a) (black b)
  position a b h e = king_after p a b s h.white h.black ls (made r p a b h) p.turn refl e

  kept_there : holds p p.turn s ≡ true → (a b : ℕ) → Leaves r p (King s) a b → ⊥
  kept_there own a b h = both_ways (holds p p.turn s) (went a b h.here h.legal).free own

  stays_there : (d : ℕ) → IsBoardOf r.groups d (entered p s) →
      is_known r.groups (king_cell p.turn) s ≡ true → (a b : ℕ) → a < 64 → b < 64 →
      Leaves r p (King s) a b → ⊥
  stays_there d board there a b la lb h =
      let e = went a b h.here h.legal in
      let known = known_there r p a b sound la lb h.here.free h.here.member.valid h.here.member in
      let inside = made_member r (entered p s) (white a) (black b) sound (white_on p.turn a s la ls)
      (black_on p.turn b s lb ls) e.made.free e.made.valid d board
      (known_then r.groups p.turn a b s there known) in
      h.outside (subst (Member r.groups) (sym (position a b h.here e)) inside)

  module _ (live valid pairs : List ℕ) (are : AreMembers r.groups p live)
      (free : holds p p.turn s ≡ false) (then : AreValid (entered p s) valid)
      (none : (a b : ℕ) → king_square p.turn a b ≡ s → MakesMember r.groups (entered p s) a b → ⊥)
      (is : IsPlaneOf pairs (λ a b. steps_onto p.turn s valid a b && has_pair live a b)) where
    forth : (a b : ℕ) → a < 64 → b < 64 → has_pair pairs a b ≡ true → Leaves r p (King s) a b
    forth a b la lb h =
        let both = and_parts (steps_onto p.turn s valid a b) (has_pair live a b)
        (sym (is a b la lb) ∙ h) in
        let goes = and_parts (is_king_step s (king_square p.turn a b))
        (has_pair valid (white a) (black b)) both.0 in
        let lw = white_on p.turn a s la ls in
        let lk = black_on p.turn b s lb ls in
        let room = then.free (white a) (black b) lw lk goes.1 in
        let here = (are a b la lb).0 both.1 in
        let e : Entry p p.turn a b s = record {
          step = step_back (king_square p.turn a b) s ∙ goes.0;
          free = free;
          made = record {
            free = room;
            valid = (then.valid (white a) (black b) lw lk room).0 goes.1;
          };
        } in
        record {
          here = here;
          is_step = record { from = king_on p.turn a b la lb; to = ls; promo = refl };
          legal = enters p a b s la lb ls (made r p a b here) p.turn refl e;
          outside = λ member. none (white a) (black b) (gone p.turn a b s) (record {
            white = lw;
            black = lk;
            free = room;
            member = subst (Member r.groups) (position a b here e) member;
          });
        }

    back : (a b : ℕ) → a < 64 → b < 64 → Leaves r p (King s) a b → has_pair pairs a b ≡ true
    back a b la lb h =
        let e = went a b h.here h.legal in
        let lw = white_on p.turn a s la ls in
        let lk = black_on p.turn b s lb ls in
        is a b la lb
        ∙ and_from (steps_onto p.turn s valid a b) (has_pair live a b)
        (and_from (is_king_step s (king_square p.turn a b)) (has_pair valid (white a) (black b))
        (step_back s (king_square p.turn a b) ∙ e.step)
        ((then.valid (white a) (black b) lw lk e.made.free).1 e.made.valid))
        ((are a b la lb).1 h.here)

    pub king_goes : AreLeaving r p (King s) pairs
    king_goes a b la lb = (forth a b la lb, back a b la lb)

module _ (r : RuleLines) (p : Board) (s : ℕ) (sound : IsSound r) where
  -- no king goes where a man of his side stands
  pub king_kept : holds p p.turn s ≡ true → (a b : ℕ) → a < 64 → b < 64 →
      Leaves r p (King s) a b → ⊥
  king_kept own a b la lb h = kept_there r p s sound h.is_step.to own a b h

  pub king_stays : (d : ℕ) → IsBoardOf r.groups d (entered p s) →
      is_known r.groups (king_cell p.turn) s ≡ true → (a b : ℕ) → a < 64 → b < 64 →
      Leaves r p (King s) a b → ⊥
  king_stays d board there a b la lb h =
      stays_there r p s sound h.is_step.to d board there a b la lb h
