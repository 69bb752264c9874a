-- Squares on which a king is known are those of the group of kings of his colour.
use Rattle.std.proofs.Common.{◌≡◌, ℕ, zero, suc, Bool, true, false, ◌&&◌, ◌||◌, Some, List, [], ◌∷◌, ◌++◌, ap, sym, ◌∙◌, subst, inl, inr}
use Rattle.std.specs.Prelude.{◌==◌}
use Rattle.std.specs.List.{slice_get}
use Rattle.std.proofs.lemmas.Bool.{and_from, and_parts, eqb-true, or_cases, or_right}
use Rattle.std.proofs.lemmas.List.Folds.{list_any-append, list_any_at}
use Rattle.std.proofs.lemmas.Option.{get_or_from_slice_get, same_Some, slice_get_within}
use Rattle.frz_board.specs.declared.man.Colour.{Colour}
use Rattle.frz_board.specs.declared.man.Colour.TheVariants.{White, Black}
use Rattle.frz_board.specs.declared.man.Kind.{Kind}
use Rattle.frz_board.specs.declared.man.Kind.TheVariants.{King}
use Rattle.frz_board.specs.declared.man.Man.{Man}
use Rattle.frz_board.specs.Men.{cell_of_man, man_of_cell, number_of_kind, same_colour}
use Rattle.frz_board.proofs.Lemmas.{cell_forth}
use Rattle.frz_fide.proofs.Lemmas.{own_colour}
use Rattle.frz_sets.specs.Groups.{has_king_group, is_king}
use Rattle.frz_sets.specs.Sets.{has_state, is_state}
use Rattle.frz_sets.specs.Sound.{AreSoundAfter, IsSound}
use Rattle.frz_sets.specs.Views.{GroupLine, RuleLines}
use Rattle.frz_index.specs.Kept.{is_known}
use Rattle.frz_configurations.specs.Configurations.{has_kings}
use Rattle.frz_configurations.specs.Joined.{HasKing, IsKingSquare}
use Rattle.frz_configurations.proofs.Lemmas.{none_later}
use Rattle.frz_king_planes.specs.Kings.{king_cell}
use Rattle.frz_kingless.proofs.CarriedMen.{some_passes}

pub known_state : (c : Colour) (gs : List GroupLine) (s : ℕ) → is_known gs (king_cell c) s ≡ true →
    has_state gs (king_cell c) s ≡ true
known_state White gs s h = h
known_state Black gs s h = h

pub state_known : (c : Colour) (gs : List GroupLine) (s : ℕ) →
    has_state gs (king_cell c) s ≡ true → is_known gs (king_cell c) s ≡ true
state_known White gs s h = h
state_known Black gs s h = h

-- the group has the king of this colour on this square
record IsKingGroup (g : GroupLine) (c : Colour) (s : ℕ) : Type 0 where
  colour : g.colour ≡ c
  kings : has_kings g ≡ true
  king : HasKing g s

king_group : (g : GroupLine) (c : Colour) (s : ℕ) → is_state (king_cell c) s g ≡ true →
    IsKingGroup g c s
king_group g c s h =
    let test : Kind × ℕ → Bool = λ state.
    cell_of_man (record { colour = g.colour; kind = state.0 }) == king_cell c && state.1 == s in
    let found = some_passes test g.states h in
    let state = found.element in
    let mine : Man = record { colour = g.colour; kind = state.0 } in
    let his : Man = record { colour = c; kind = King } in
    let parts = and_parts (cell_of_man mine == king_cell c) (state.1 == s) found.passes in
    let man : mine ≡ his = same_Some mine his
    (sym (cell_forth g.colour state.0)
    ∙ ap man_of_cell (eqb-true (cell_of_man mine) (king_cell c) parts.0) ∙ cell_forth c King) in
    let kind : state.0 ≡ King = ap (λ (x : Man). x.kind) man in
    record {
      colour = ap (λ (x : Man). x.colour) man;
      kings = list_any_at is_king g.states found.place state
          (slice_get_within g.states found.place state found.there)
          (ap is_king (get_or_from_slice_get g.states found.place state state found.there)
          ∙ ap (λ (k : Kind). number_of_kind k == 1) kind);
      king = record {
        place = found.place;
        there = found.there ∙ ap (λ (k : Kind). Some (k, state.1)) kind
            ∙ ap (λ t. Some (King, t)) (eqb-true state.1 s parts.1);
      };
    }

group_added : (c : Colour) (earlier : List GroupLine) (x : GroupLine) → x.colour ≡ c →
    has_kings x ≡ true → has_king_group (earlier ++ x ∷ []) c ≡ true
group_added c earlier x colour kings =
    list_any-append (λ (y : GroupLine). same_colour y.colour c && has_kings y) earlier (x ∷ [])
    ∙ or_right (has_king_group earlier c) ((same_colour x.colour c && has_kings x) || false)
    (ap (λ t. t || false)
    (and_from (same_colour x.colour c) (has_kings x)
    (ap (λ d. same_colour d c) colour ∙ own_colour c) kings))

king_of : (c : Colour) (s : ℕ) (earlier gs : List GroupLine) → AreSoundAfter earlier gs →
    has_state gs (king_cell c) s ≡ true → (k : ℕ) (g : GroupLine) → slice_get gs k ≡ Some g →
    g.colour ≡ c → has_kings g ≡ true → HasKing g s
king_of c s earlier [] sound h k g e colour kings = absurd cc
king_of c s earlier (x ∷ gs) sound h zero g e colour kings =
    let same : x ≡ g = same_Some x g e in
    elim (or_cases (is_state (king_cell c) s x) (has_state gs (king_cell c) s) h) [
      | inl y ↦ subst (λ (z : GroupLine). HasKing z s) same (king_group x c s y).king
      | inr y ↦ absurd (let found = some_passes (is_state (king_cell c) s) gs y in
          let other = king_group found.element c s found.passes in
          none_later c (earlier ++ x ∷ []) gs found.place found.element sound.1
          (group_added c earlier x (ap (λ (z : GroupLine). z.colour) same ∙ colour)
          (ap has_kings same ∙ kings)) found.there other.colour other.kings)
    ]
king_of c s earlier (x ∷ gs) sound h (suc k) g e colour kings =
    elim (or_cases (is_state (king_cell c) s x) (has_state gs (king_cell c) s) h) [
      | inl y ↦ absurd (let mine = king_group x c s y in
          none_later c (earlier ++ x ∷ []) gs k g sound.1
          (group_added c earlier x mine.colour mine.kings) e colour kings)
      | inr y ↦ king_of c s (earlier ++ x ∷ []) gs sound.1 y k g e colour kings
    ]

pub known_king : (r : RuleLines) (c : Colour) (s : ℕ) → IsSound r →
    is_known r.groups (king_cell c) s ≡ true → IsKingSquare r.groups c s
known_king r c s sound h k g e colour kings =
    king_of c s [] r.groups sound.lines.groups (known_state c r.groups s h) k g e colour kings
