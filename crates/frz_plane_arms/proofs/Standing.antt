-- Positions after moves, as positions of the set.
use Rattle.std.proofs.Common.{◌≡◌, ℕ, ◌<◌, true, false, sym, subst}
use Rattle.std.proofs.lemmas.Bool.{and_from, and_parts}
use Rattle.frz_board.specs.declared.man.Colour.TheVariants.{White, Black}
use Rattle.frz_board.specs.Boards.{Board, holds}
use Rattle.frz_board.specs.Moving.{Step, IsStep}
use Rattle.frz_fide.specs.Legal.{after, is_legal}
use Rattle.frz_sets.specs.Sound.{IsSound}
use Rattle.frz_sets.specs.Views.{RuleLines}
use Rattle.frz_index.specs.Kept.{is_known}
use Rattle.frz_index.specs.Members.{Member}
use Rattle.frz_configurations.specs.Configurations.{configuration_of}
use Rattle.frz_king_planes.specs.Kings.{king_cell, with_kings}
use Rattle.frz_king_planes.proofs.Lemmas.{free_parts}
use Rattle.frz_kingless.specs.Boards.{are_known}
use Rattle.frz_kingless.proofs.Lemmas.{board_there, known_there, made_member, made_split}
use Rattle.frz_pair_moves.specs.Moves.{IsKingMove, Makes, entered}
use Rattle.frz_pair_moves.proofs.Lemmas.{black_after, black_legal, legal_man, moved_alike, white_after, white_legal}
use Rattle.frz_plane_arms.specs.Arms.{MakesMember, StandsAt}

pub made : (r : RuleLines) (p : Board) (a b : ℕ) → MakesMember r.groups p a b → Makes p a b
made r p a b h = record { free = h.free; valid = h.member.valid }

-- groups have the kings of a position of the set on their squares
pub known : (r : RuleLines) (p : Board) (a b : ℕ) → IsSound r → MakesMember r.groups p a b →
    are_known r.groups a b ≡ true
known r p a b sound h =
    known_there r p a b sound h.white h.black h.free h.member.valid h.member

-- a position that kings make on squares that groups know
pub stands : (r : RuleLines) (q p : Board) (a b : ℕ) → IsSound r → a < 64 → b < 64 →
    q ≡ with_kings p a b → Makes p a b → are_known r.groups a b ≡ true →
    StandsAt r.groups q p a b
stands r q p a b sound la lb is made known =
    let x = with_kings p a b in
    let here : StandsAt r.groups x p a b = record {
      member = (
        λ m. (configuration_of r.groups x, board_there r p a b sound la lb made.free made.valid m),
        λ h. made_member r p a b sound la lb made.free made.valid h.0 h.1 known,
      );
      number = λ c board. made_split r p a b sound la lb made.free made.valid c board known;
    } in
    subst (λ (y : Board). StandsAt r.groups y p a b) (sym is) here

pub man_stands : (r : RuleLines) (p : Board) (m : Step) (a b : ℕ) → IsSound r →
    MakesMember r.groups p a b → IsStep m → holds p p.turn m.from ≡ true →
    is_legal (with_kings p a b) m ≡ true →
    StandsAt r.groups (after (with_kings p a b) m) (after p m) a b
man_stands r p m a b sound h step own legal =
    let now = made r p a b h in
    let goes = legal_man p m a b step h.white h.black now own legal in
    stands r (after (with_kings p a b) m) (after p m) a b sound h.white h.black
    (moved_alike p m a b step h.white h.black now goes.0 goes.1) goes.2 (known r p a b sound h)

-- if it is in the set, so is the position of the kings on the board after the step
pub man_lands : (r : RuleLines) (p : Board) (m : Step) (a b : ℕ) → MakesMember r.groups p a b →
    IsStep m → holds p p.turn m.from ≡ true → is_legal (with_kings p a b) m ≡ true →
    Member r.groups (after (with_kings p a b) m) → MakesMember r.groups (after p m) a b
man_lands r p m a b h step own legal member =
    let now = made r p a b h in
    let goes = legal_man p m a b step h.white h.black now own legal in
    record {
      white = h.white;
      black = h.black;
      free = goes.2.free;
      member = subst (Member r.groups)
          (moved_alike p m a b step h.white h.black now goes.0 goes.1) member;
    }

module _ (r : RuleLines) (p : Board) (m : Step) (b : ℕ) (sound : IsSound r) (white : p.turn ≡ White)
    (h : MakesMember r.groups p m.from b) (step : IsStep m)
    (legal : is_legal (with_kings p m.from b) m ≡ true) where
  goes : IsKingMove p m × Makes (entered p m.to) m.to b
  goes = white_legal p m b step h.black white (made r p m.from b h) legal

  is : after (with_kings p m.from b) m ≡ with_kings (entered p m.to) m.to b
  is =
      white_after p m b step h.black white (made r p m.from b h) goes.0
      (free_parts (entered p m.to) m.to b goes.1.free).apart

  black_known : is_known r.groups (king_cell Black) b ≡ true
  black_known =
      (and_parts (is_known r.groups (king_cell White) m.from)
      (is_known r.groups (king_cell Black) b) (known r p m.from b sound h)).1

  pub white_stands : is_known r.groups (king_cell White) m.to ≡ true →
      StandsAt r.groups (after (with_kings p m.from b) m) (entered p m.to) m.to b
  white_stands there =
      stands r (after (with_kings p m.from b) m) (entered p m.to) m.to b sound step.to h.black is
      goes.1
      (and_from (is_known r.groups (king_cell White) m.to) (is_known r.groups (king_cell Black) b)
      there black_known)

  pub white_outside : is_known r.groups (king_cell White) m.to ≡ false →
      Member r.groups (after (with_kings p m.from b) m) → ⊥
  white_outside none member =
      let here : Member r.groups (with_kings (entered p m.to) m.to b) =
      subst (Member r.groups) is member in
      let there = (and_parts (is_known r.groups (king_cell White) m.to)
      (is_known r.groups (king_cell Black) b)
      (known_there r (entered p m.to) m.to b sound step.to h.black goes.1.free goes.1.valid here)).0 in
      absurd cc

module _ (r : RuleLines) (p : Board) (m : Step) (a : ℕ) (sound : IsSound r) (black : p.turn ≡ Black)
    (h : MakesMember r.groups p a m.from) (step : IsStep m)
    (legal : is_legal (with_kings p a m.from) m ≡ true) where
  comes : IsKingMove p m × Makes (entered p m.to) a m.to
  comes = black_legal p m a step h.white black (made r p a m.from h) legal

  then : after (with_kings p a m.from) m ≡ with_kings (entered p m.to) a m.to
  then =
      black_after p m a step h.white black (made r p a m.from h) comes.0
      (λ e. (free_parts (entered p m.to) a m.to comes.1.free).apart (sym e))

  white_known : is_known r.groups (king_cell White) a ≡ true
  white_known =
      (and_parts (is_known r.groups (king_cell White) a)
      (is_known r.groups (king_cell Black) m.from) (known r p a m.from sound h)).0

  pub black_stands : is_known r.groups (king_cell Black) m.to ≡ true →
      StandsAt r.groups (after (with_kings p a m.from) m) (entered p m.to) a m.to
  black_stands there =
      stands r (after (with_kings p a m.from) m) (entered p m.to) a m.to sound h.white step.to then
      comes.1
      (and_from (is_known r.groups (king_cell White) a) (is_known r.groups (king_cell Black) m.to)
      white_known there)

  pub black_outside : is_known r.groups (king_cell Black) m.to ≡ false →
      Member r.groups (after (with_kings p a m.from) m) → ⊥
  black_outside none member =
      let here : Member r.groups (with_kings (entered p m.to) a m.to) =
      subst (Member r.groups) then member in
      let there = (and_parts (is_known r.groups (king_cell White) a)
      (is_known r.groups (king_cell Black) m.to)
      (known_there r (entered p m.to) a m.to sound h.white step.to comes.1.free comes.1.valid here)).1 in
      absurd cc
