-- Planes of pairs on the board of a configuration, as sets of numbers.
use Rattle.std.proofs.Common.{◌≡◌, ◌↔◌, ◌∙◌, ℕ, ◌<◌, true, false, None, List, [], arith, get_or, inl, inr, length, refl, subst, sym}
use Rattle.std.proofs.lemmas.List.{get_or_default}
use Rattle.frz_board.specs.Boards.{Board}
use Rattle.frz_sets.specs.Sound.{IsSound}
use Rattle.frz_sets.specs.Views.{RuleLines}
use Rattle.frz_arena.proofs.Lemmas.{cases_Option}
use Rattle.frz_index.specs.Members.{Num}
use Rattle.frz_index.specs.Membership.{position_at}
use Rattle.frz_index.proofs.Lemmas.{position_tells}
use Rattle.frz_configurations.specs.Configurations.{IsSplit, configuration_count}
use Rattle.frz_planes.specs.Planes.{IsPlaneOf, has_pair}
use Rattle.frz_king_planes.specs.Kings.{with_kings}
use Rattle.frz_kingless.specs.Boards.{AreLive, HasNoPosition, IsBoardOf}
use Rattle.frz_kingless.proofs.Lemmas.{known_there, made_split}
use Rattle.frz_plane_arms.specs.Arms.{MakesMember}
use Rattle.frz_plane_arms.specs.MenArms.{AreAllLive}
use Rattle.frz_plane_game.specs.Spots.{HasNumbers}
use Rattle.frz_plane_chess.specs.Spots.{spot_of, spots_of}
use Rattle.frz_plane_chess.proofs.Placing.{is_spot, on_board, placed}
use Rattle.frz_plane_chess.proofs.Positions.{makes}

module _ (r : RuleLines) (p : Board) (c : ℕ) (sound : IsSound r) (board : IsBoardOf r.groups c p) where
  -- the number of a position that kings make
  pub made_number : (a b : ℕ) → MakesMember r.groups p a b →
      IsSplit r.groups (Num r.groups (with_kings p a b)) c a b
  made_number a b m =
      made_split r p a b sound m.white m.black m.free m.member.valid c board
      (known_there r p a b sound m.white m.black m.free m.member.valid m.member)

  -- the live pairs are those at which kings make a position of the set
  pub live_members : (live : List ℕ) → AreLive r.groups c live → (a b : ℕ) → a < 64 → b < 64 →
      (has_pair live a b ≡ true) ↔ MakesMember r.groups p a b
  live_members live are a b la lb = (
    λ t. (
        let w = are.only a b la lb t in
        let at = (are.there w.0 a b w.1).0 t in
        makes r p w.0 c a b sound board w.1 at.0 at.1),
    λ m. (are.there (Num r.groups (with_kings p a b)) a b (made_number a b m)).1
        (with_kings p a b, record { member = m.member; number = refl }),
  )

  pub board_numbers : (plane : List ℕ) (P : ℕ → ℕ → Type 0) (Q : ℕ → Type 0) →
      ((a b : ℕ) → a < 64 → b < 64 →
      (has_pair plane a b ≡ true) ↔ (MakesMember r.groups p a b × P a b)) →
      ((i a b : ℕ) → IsSplit r.groups i c a b → Q i ↔ (MakesMember r.groups p a b × P a b)) →
      HasNumbers (spots_of r.groups) c plane Q
  board_numbers plane P Q pairs numbers = record {
    there = λ i low e. (
        let s = spot_of r.groups i in
        let at = placed r sound i low in
        let split = subst (λ (k : ℕ). IsSplit r.groups i k s.white s.black) e at.split in
        let one = pairs s.white s.black at.white at.black in
        let other = numbers i s.white s.black split in
        (λ t. other.1 (one.0 t), λ q. one.1 (other.0 q)));
    only = λ a b la lb t. (
        let m = ((pairs a b la lb).0 t).0 in
        is_spot r (Num r.groups (with_kings p a b)) c a b (made_number a b m));
  }

-- the live pairs that are read at a configuration
pub live_read : (r : RuleLines) (lives : List (List ℕ)) (c : ℕ) (live : List ℕ) →
    AreAllLive r.groups lives → length lives ≡ configuration_count r.groups →
    c < configuration_count r.groups → live ≡ get_or lives c live → AreLive r.groups c live
live_read r lives c live are many inside read =
    let low : c < length lives = omega arith in
    subst (λ (xs : List ℕ). AreLive r.groups c xs)
    (sym (read ∙ get_or_default lives c live [] low)) (are c inside)

-- no number of a configuration without positions has one
pub none_at : (r : RuleLines) (c i a b : ℕ) → HasNoPosition r.groups c → IsSplit r.groups i c a b →
    position_at r.groups i ≡ None
none_at r c i a b none split =
    elim (cases_Option (position_at r.groups i)) [
      | inl e ↦ e
      | inr some ↦ (
          let h = position_tells r.groups i some.0 some.1 in
          absurd (none i a b split some.0 h.member h.number))
    ]

-- a configuration without live pairs has no position
pub none_live : (r : RuleLines) (c : ℕ) (live : List ℕ) → IsSound r → AreLive r.groups c live →
    IsPlaneOf live (λ a b. false) → HasNoPosition r.groups c
none_live r c live sound are empty i a b split p member number =
    let on = on_board r i c a b sound split in
    let there = (are.there i a b split).1 (p, record { member = member; number = number }) in
    let none = empty a b on.0 on.1 in
    absurd cc

pub no_numbers : (r : RuleLines) (c : ℕ) (plane : List ℕ) (Q : ℕ → Type 0) → IsSound r →
    HasNoPosition r.groups c → IsPlaneOf plane (λ a b. false) →
    ((i : ℕ) → position_at r.groups i ≡ None → Q i → ⊥) →
    HasNumbers (spots_of r.groups) c plane Q
no_numbers r c plane Q sound none empty never = record {
  there = λ i low e. (
      let s = spot_of r.groups i in
      let at = placed r sound i low in
      let split = subst (λ (k : ℕ). IsSplit r.groups i k s.white s.black) e at.split in (
        λ t. absurd (let f = empty s.white s.black at.white at.black in cc),
        λ q. absurd (never i (none_at r c i s.white s.black none split) q),
      ));
  only = λ a b la lb t. absurd (let f = empty a b la lb in cc);
}
