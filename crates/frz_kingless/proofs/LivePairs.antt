-- The pairs of live numbers are those of valid positions on squares of the groups of kings.
use Rattle.std.proofs.Common.{◌≡◌, ℕ, ◌<◌, true, false, ◌&&◌, List, [], sym, ◌∙◌, subst}
use Rattle.std.proofs.lemmas.Bool.{and_from, and_parts}
use Rattle.frz_board.specs.declared.man.Colour.TheVariants.{White, Black}
use Rattle.frz_board.specs.Boards.{Board}
use Rattle.frz_fide.specs.Valid.{IsValid}
use Rattle.frz_sets.specs.Sound.{IsSound}
use Rattle.frz_sets.specs.Views.{RuleLines}
use Rattle.frz_index.specs.Kept.{is_known}
use Rattle.frz_index.specs.Members.{HasNumber, Num}
use Rattle.frz_configurations.specs.Configurations.{IsSplit}
use Rattle.frz_planes.specs.Planes.{IsPlaneOf, has_pair}
use Rattle.frz_king_planes.specs.Kings.{king_cell, with_kings}
use Rattle.frz_king_planes.specs.Valid.{AreValid}
use Rattle.frz_kingless.specs.Boards.{AreLive, HasNoPosition, IsBoardOf, are_known}
use Rattle.frz_kingless.proofs.KingGroups.{has_number, king_on_board, split_there}
use Rattle.frz_kingless.proofs.KnownKings.{known_king, known_state}
use Rattle.frz_kingless.proofs.OnlyPosition.{are_empty, is_that}
use Rattle.frz_kingless.proofs.KnownPairs.{on_black, on_white, split_known}

pub none_live : (r : RuleLines) (c : ℕ) (empty : List ℕ) → IsSound r →
    IsPlaneOf empty (λ a b. false) → HasNoPosition r.groups c → AreLive r.groups c empty
none_live r c empty sound none dead = record {
  there = λ i a b split. (
    λ h. absurd (let e = none a b
        (king_on_board White a [] r.groups split.ds sound.lines.groups split.white)
        (king_on_board Black b [] r.groups split.ds sound.lines.groups split.black) in cc),
    λ w. absurd (dead i a b split w.0 w.1.member w.1.number),
  );
  only = λ a b la lb h. absurd (let e = none a b la lb in cc);
}

module _ (r : RuleLines) (sound : IsSound r) (c : ℕ) (p : Board) (board : IsBoardOf r.groups c p)
    (valid known plane : List ℕ) (are : AreValid p valid) (knows : IsPlaneOf known (are_known r.groups))
    (cut : IsPlaneOf plane (λ a b. has_pair valid a b && has_pair known a b)) where
  parts : (a b : ℕ) → a < 64 → b < 64 → has_pair plane a b ≡ true →
      (has_pair valid a b ≡ true) × (has_pair known a b ≡ true)
  parts a b la lb h =
      and_parts (has_pair valid a b) (has_pair known a b) (sym (cut a b la lb) ∙ h)

  lives : (i a b : ℕ) → IsSplit r.groups i c a b → has_pair plane a b ≡ true →
      (x : Board) × HasNumber r.groups i x
  lives i a b split h =
      let la = on_white r sound c known knows i a b split in
      let lb = on_black r sound c known knows i a b split in
      let both = parts a b la lb h in
      let free = are.free a b la lb both.0 in (
        with_kings p a b,
        has_number p a b board.fits.size la lb free ((are.valid a b la lb free).0 both.0) r i c sound
            board split,
      )

  living : (i a b : ℕ) → IsSplit r.groups i c a b → (x : Board) × HasNumber r.groups i x →
      has_pair plane a b ≡ true
  living i a b split w =
      let la = on_white r sound c known knows i a b split in
      let lb = on_black r sound c known knows i a b split in
      let free = are_empty r w.0 i c a b sound split w.1 p board in
      let V : Board → Type 0 = IsValid in
      let v = subst V (is_that r w.0 i c a b sound split w.1 p board) w.1.member.valid in
      cut a b la lb
      ∙ and_from (has_pair valid a b) (has_pair known a b) ((are.valid a b la lb free).1 v)
      (split_known r sound c known knows i a b split)

  numbers : (a b : ℕ) → a < 64 → b < 64 → has_pair plane a b ≡ true →
      (i : ℕ) × IsSplit r.groups i c a b
  numbers a b la lb h =
      let both = parts a b la lb h in
      let free = are.free a b la lb both.0 in
      let on = and_parts (is_known r.groups (king_cell White) a)
      (is_known r.groups (king_cell Black) b) (sym (knows a b la lb) ∙ both.1) in (
        Num r.groups (with_kings p a b),
        split_there p a b board.fits.size la lb free ((are.valid a b la lb free).0 both.0) r c sound
            board (known_state White r.groups a on.0) (known_state Black r.groups b on.1)
            (known_king r White a sound on.0) (known_king r Black b sound on.1),
      )

  pub are_live : AreLive r.groups c plane
  are_live = record {
    there = λ i a b split. (lives i a b split, living i a b split);
    only = numbers;
  }
