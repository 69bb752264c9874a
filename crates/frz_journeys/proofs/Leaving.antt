-- The move by which a way left its set, and the position to which it led.
use Rattle.std.proofs.Common.{◌≡◌, ◌++◌, ℕ, true, List, [], Some, Result, Ok, Err, refl, sym, subst, ap, ◌∙◌}
use Rattle.std.specs.Prelude.{◌↔◌, MatchOption}
use Rattle.std.specs.List.{Contains}
use Rattle.std.specs.Option.{option_map}
use Rattle.frz_board.specs.Boards.{Board}
use Rattle.frz_board.specs.Moving.{Step, IsStep}
use Rattle.frz_board.specs.declared.man.Colour.{Colour}
use Rattle.frz_fide.specs.Legal.{after, is_legal}
use Rattle.frz_fide.specs.Listing.{legal_moves_of}
use Rattle.frz_sets.specs.declared.exit.Value.{Value}
use Rattle.frz_sets.specs.Views.{RuleLines}
use Rattle.frz_index.specs.Members.{HasNumber}
use Rattle.frz_index.specs.Membership.{position_at}
use Rattle.frz_index.proofs.Lemmas.{position_of}
use Rattle.frz_game.specs.Games.{graph_by}
use Rattle.frz_ways.specs.declared.hearing.Reader.{Reader}
use Rattle.frz_ways.specs.declared.opponent.Opponent.{Opponent}
use Rattle.frz_ways.specs.declared.session_end.PlayFault.{PlayFault}
use Rattle.frz_ways.specs.declared.way_end.Finish.{Finish}
use Rattle.frz_ways.specs.declared.way_end.Finish.TheVariants.{Here, Left}
use Rattle.frz_ways.specs.ChessGames.{IsGame, IsPlyFrom, after_plies}
use Rattle.frz_ways.specs.Shown.{PlaysShown}
use Rattle.frz_ways.specs.PlayWay.{LeftBy}
use Rattle.frz_ways.specs.Reading.{Input}
use Rattle.frz_ways.specs.Ways.{WayPly, EndOfWay, GoesOn}
use Rattle.frz_ways.proofs.Lemmas.{placed_is_contained}
use Rattle.frz_journeys.specs.Onward.{CanMove, LeftLegally, left_to}
use Rattle.frz_journeys.proofs.LastPly.{after_last_ply, last_ply}

-- what all ways by these codes from a number are
module _ (rules : RuleLines) (value : Board → Value) (opponent : Opponent) (side : Colour)
    (codes : List ℕ) (start : ℕ) where
  abbrev pub IsWayFrom : Input → List WayPly → EndOfWay → Input → Type 0
  IsWayFrom input plies end left =
      GoesOn (graph_by rules value) opponent side (λ k. codes) 0 input start plies end left

  abbrev pub AreGames : Type 0
  AreGames =
      (input : Input) (plies : List WayPly) (end : EndOfWay) (left : Input) →
      IsWayFrom input plies end left →
      MatchOption (position_at rules.groups start) (plies ≡ [])
      (λ p. IsGame rules side p plies)

  abbrev pub AreThere : Type 0
  AreThere =
      (input : Input) →
      (plies : List WayPly) × (end : EndOfWay) × (left : Input) × IsWayFrom input plies end left

  legal_ply : (number : ℕ) (move : Step) (p : Board) (x : WayPly)
      → ((q : Board) (m : Step) → Contains (legal_moves_of q) m ↔ (IsStep m × (is_legal q m ≡ true)))
      → x.from.1 ≡ number → x.arm.mv ≡ move → IsPlyFrom rules side p x
      → CanMove rules.groups number move
  legal_ply number move p x listed from is ply = record {
    position = p;
    there = subst (λ (n : ℕ). position_at rules.groups n ≡ Some p) from ply.here;
    legal = subst (λ (m : Step). is_legal p m ≡ true) is
        ((listed p x.arm.mv).0
        (placed_is_contained (legal_moves_of p) x.place x.arm.mv ply.legal)).1;
  }

  -- a way leaves its set by a legal move
  pub left_legally : (old new : Reader) (bytes text : List ℕ) (result : Result Finish PlayFault)
      (before now : ℕ)
      → PlaysShown (graph_by rules value) opponent side codes start old new bytes text result before
      now → AreThere → AreGames
      → ((q : Board) (m : Step) → Contains (legal_moves_of q) m ↔ (IsStep m × (is_legal q m ≡ true)))
      → LeftLegally rules.groups result
  left_legally old new bytes text (Ok (Here end)) before now plays there games listed = tt
  left_legally old new bytes text (Err fault) before now plays there games listed = tt
  left_legally old new bytes text (Ok (Left number move v)) before now plays there games listed =
      let input : Input = record { left = bytes ++ []; more = old.more } in
      let w = there input in
      let left = (plays [] (λ e. refl) w.0 w.1 w.2 w.3).2.2 in
      let last = last_ply rules side (position_at rules.groups start) w.0 left.0 left.1 left.2
      (games input w.0 w.1 w.2 w.3) in
      legal_ply number move (after_plies last.0 left.0) left.1 listed left.3 left.4 last.2

  -- and leads to the position behind its plies
  pub left_behind : (p : Board) → HasNumber rules.groups start p → (number : ℕ) (move : Step)
      (v : Value) (here last : Input) (input : Input) (plies : List WayPly) (end : EndOfWay)
      → AreGames → IsWayFrom input plies end last
      → LeftBy (Ok (Left number move v)) here plies end last
      → left_to rules.groups (Ok (Left number move v)) ≡ Some (after_plies p plies)
  left_behind p has number move v here last input plies end games way by =
      let left = by.2 in
      let found = last_ply rules side (position_at rules.groups start) plies left.0 left.1 left.2
      (games input plies end last way) in
      let at : position_at rules.groups start ≡ Some p = position_of rules.groups start p has in
      let same : found.0 ≡ p = (let e = found.1 in cc) in
      let ply : IsPlyFrom rules side (after_plies p left.0) left.1 =
      subst (λ (b : Board). IsPlyFrom rules side (after_plies b left.0) left.1) same found.2 in
      let there : position_at rules.groups number ≡ Some (after_plies p left.0) =
      subst (λ (n : ℕ). position_at rules.groups n ≡ Some (after_plies p left.0)) left.3 ply.here in
      ap (option_map (λ (b : Board). after b move)) there
      ∙ ap (λ (m : Step). Some (after (after_plies p left.0) m)) (sym left.4)
      ∙ ap Some (sym (after_last_ply left.0 p left.1))
      ∙ ap (λ (l : List WayPly). Some (after_plies p l)) (sym left.2)
