-- What the fields of a text lead to, one after the other.
use Rattle.std.proofs.Common.{◌≡◌, ℕ, List, Option, None, Some, refl, sym, ap, ◌∙◌}
use Rattle.std.specs.Prelude.{Ok, Err}
use Rattle.frz_board.specs.declared.man.Colour.{Colour}
use Rattle.frz_fen.specs.declared.fault.FenFault.{FenFault}
use Rattle.frz_fen.specs.declared.fault.FenFault.TheVariants.{Fields as WrongFields}
use Rattle.frz_fen.specs.Fields.{FieldTexts, named_fields}
use Rattle.frz_fen.specs.Reading.{fen_of, from_fields, position_of, placement_of, turn_of, castling_of, target_of, clocks_of, checked, with_kept}

pub no_fields : (text : List ℕ) → named_fields text ≡ None → Err WrongFields ≡ fen_of text
unfolding fen_of
no_fields text h = ap from_fields (sym h)

has_fields : (text : List ℕ) (f : FieldTexts) → named_fields text ≡ Some f →
    position_of f ≡ fen_of text
unfolding fen_of
has_fields text f h = ap from_fields (sym h)

pub wrong_placement : (text : List ℕ) (f : FieldTexts) (e : FenFault) → named_fields text ≡ Some f →
    Err e ≡ placement_of f.placement → Err e ≡ fen_of text
wrong_placement text f e h p = past_placement p ∙ has_fields text f h
  where
    past_placement : Err e ≡ placement_of f.placement → Err e ≡ position_of f
    past_placement p = rw (← p) refl

pub wrong_turn : (text : List ℕ) (f : FieldTexts) (e : FenFault) (cells : List ℕ) →
    named_fields text ≡ Some f → Ok cells ≡ placement_of f.placement → Err e ≡ turn_of f.turn →
    Err e ≡ fen_of text
wrong_turn text f e cells h p t = past p t ∙ has_fields text f h
  where
    past : Ok cells ≡ placement_of f.placement → Err e ≡ turn_of f.turn → Err e ≡ position_of f
    past p t = rw (← p, ← t) refl

pub wrong_castling : (text : List ℕ) (f : FieldTexts) (e : FenFault) (cells : List ℕ)
    (turn : Colour) → named_fields text ≡ Some f → Ok cells ≡ placement_of f.placement
    → Ok turn ≡ turn_of f.turn → Err e ≡ castling_of f.castling → Err e ≡ fen_of text
wrong_castling text f e cells turn h p t k = past p t k ∙ has_fields text f h
  where
    past : Ok cells ≡ placement_of f.placement → Ok turn ≡ turn_of f.turn →
        Err e ≡ castling_of f.castling → Err e ≡ position_of f
    past p t k = rw (← p, ← t, ← k) refl

pub wrong_target : (text : List ℕ) (f : FieldTexts) (e : FenFault) (cells : List ℕ) (turn : Colour)
    (u : Unit {0}) → named_fields text ≡ Some f → Ok cells ≡ placement_of f.placement
    → Ok turn ≡ turn_of f.turn → Ok u ≡ castling_of f.castling → Err e ≡ target_of turn f.target
    → Err e ≡ fen_of text
wrong_target text f e cells turn u h p t k s = past p t k s ∙ has_fields text f h
  where
    past : Ok cells ≡ placement_of f.placement → Ok turn ≡ turn_of f.turn →
        Ok u ≡ castling_of f.castling → Err e ≡ target_of turn f.target → Err e ≡ position_of f
    past p t k s = rw (← p, ← t, ← k, ← s) refl

pub wrong_clock : (text : List ℕ) (f : FieldTexts) (e : FenFault) (cells : List ℕ) (turn : Colour)
    (u : Unit {0}) (target : Option ℕ) → named_fields text ≡ Some f
    → Ok cells ≡ placement_of f.placement → Ok turn ≡ turn_of f.turn → Ok u ≡ castling_of f.castling
    → Ok target ≡ target_of turn f.target → Err e ≡ clocks_of f.halfmove f.fullmove
    → Err e ≡ fen_of text
wrong_clock text f e cells turn u target h p t k s w = past p t k s w ∙ has_fields text f h
  where
    past : Ok cells ≡ placement_of f.placement → Ok turn ≡ turn_of f.turn →
        Ok u ≡ castling_of f.castling → Ok target ≡ target_of turn f.target →
        Err e ≡ clocks_of f.halfmove f.fullmove → Err e ≡ position_of f
    past p t k s w = rw (← p, ← t, ← k, ← s, ← w) refl

pub all_right : (text : List ℕ) (f : FieldTexts) (cells : List ℕ) (turn : Colour) (u v : Unit {0})
    (target : Option ℕ) → named_fields text ≡ Some f → Ok cells ≡ placement_of f.placement
    → Ok turn ≡ turn_of f.turn → Ok u ≡ castling_of f.castling → Ok target ≡ target_of turn f.target
    → Ok v ≡ clocks_of f.halfmove f.fullmove
    → checked (with_kept (record { cells = cells; turn = turn; ep = target })) ≡ fen_of text
all_right text f cells turn u v target h p t k s w = past p t k s w ∙ has_fields text f h
  where
    past : Ok cells ≡ placement_of f.placement → Ok turn ≡ turn_of f.turn
        → Ok u ≡ castling_of f.castling → Ok target ≡ target_of turn f.target
        → Ok v ≡ clocks_of f.halfmove f.fullmove
        → checked (with_kept (record { cells = cells; turn = turn; ep = target })) ≡ position_of f
    past p t k s w = rw (← p, ← t, ← k, ← s, ← w) refl

pub ruleset meaning =
    (no_fields, wrong_placement, wrong_turn, wrong_castling, wrong_target, wrong_clock, all_right)
