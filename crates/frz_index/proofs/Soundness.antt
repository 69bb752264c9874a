-- Sound rules have groups that can be numbered.
use Rattle.std.proofs.Common.{◌≡◌, ℕ, ◌∙◌, List, [], ◌∷◌, ◌++◌, Some, ap, false, length, refl, sym, true}
use Rattle.std.specs.Prelude.{◌==◌, ◌&&◌, ◌||◌}
use Rattle.std.specs.List.{AllByRecursion, list_any, slice_get}
use Rattle.std.proofs.lemmas.Bool.{and_from, and_parts, eq-eqb, eqb-true, false_from_ne_true}
use Rattle.std.proofs.lemmas.Option.{slice_get_within}
use Rattle.frz_board.specs.Men.{cell_of_man, number_of_kind, same_colour}
use Rattle.frz_board.specs.declared.man.Colour.{Colour}
use Rattle.frz_board.specs.declared.man.Colour.TheVariants.{White, Black}
use Rattle.frz_board.specs.declared.man.Kind.{Kind}
use Rattle.frz_board.specs.declared.man.Man.{Man}
use Rattle.frz_sets.specs.Groups.{same_state, shares}
use Rattle.frz_sets.specs.Sets.{has_state, is_state}
use Rattle.frz_index.proofs.Charting.{get_before, get_last}
use Rattle.frz_index.proofs.RoomForMen.{any_at, any_found, same_man}
use Rattle.frz_sets.specs.Views.{GroupLine, RuleLines}
use Rattle.frz_sets.specs.Sound.{AreSoundAfter, AreStates, IsSound}
use Rattle.frz_sets.proofs.Lemmas.{counted, few_groups}
use Rattle.frz_index.specs.Kept.{AreApart, AreNumberable, AreSoundGroups}

pub numberable : (r : RuleLines) → IsSound r → AreNumberable r.groups
numberable r h = record { groups = counted r h.lines; few = few_groups r h.lines; size = h.size }

pub sound_groups : (r : RuleLines) → IsSound r → AreSoundGroups r.groups
sound_groups r h =
    record { groups = h.lines.groups; white_king = h.white_king; black_king = h.black_king }

states_after : (earlier groups : List GroupLine) → AreSoundAfter earlier groups →
    AllByRecursion (λ (g : GroupLine). AreStates g.states) groups
states_after earlier [] h = tt
states_after earlier (g ∷ groups) h = ((h.0).states, states_after (earlier ++ g ∷ []) groups h.1)

-- the states of the groups of sound rules are in order
pub in_order : (r : RuleLines) → IsSound r →
    AllByRecursion (λ (g : GroupLine). AreStates g.states) r.groups
in_order r h = states_after [] r.groups h.lines.groups

own_colour : (c : Colour) → same_colour c c ≡ true
own_colour White = refl
own_colour Black = refl

-- groups that have a state in common overlap
common_state_overlaps : (e g : GroupLine) (cell s : ℕ) → is_state cell s e ≡ true →
    is_state cell s g ≡ true →
    (same_colour e.colour g.colour && shares e.states g.states) ≡ true
common_state_overlaps e g cell s he hg =
    let a = any_found (λ (x : Kind × ℕ). cell_of_man (record { colour = e.colour; kind = x.0 })
    == cell && x.1 == s) e.states he in
    let b = any_found (λ (x : Kind × ℕ). cell_of_man (record { colour = g.colour; kind = x.0 })
    == cell && x.1 == s) g.states hg in
    let man_a = cell_of_man (record { colour = e.colour; kind = a.1.0 }) in
    let man_b = cell_of_man (record { colour = g.colour; kind = b.1.0 }) in
    let on_a = and_parts (man_a == cell) (a.1.1 == s) a.3 in
    let on_b = and_parts (man_b == cell) (b.1.1 == s) b.3 in
    let same = same_man (record { colour = e.colour; kind = a.1.0 })
    (record { colour = g.colour; kind = b.1.0 })
    (eqb-true man_a cell on_a.0 ∙ sym (eqb-true man_b cell on_b.0)) in
    let kinds : a.1.0 ≡ b.1.0 = ap (λ (m : Man). m.kind) same in
    let square : a.1.1 ≡ b.1.1 = eqb-true a.1.1 s on_a.1 ∙ sym (eqb-true b.1.1 s on_b.1) in
    let one : same_state a.1 b.1 ≡ true = and_from (number_of_kind a.1.0 == number_of_kind b.1.0)
    (a.1.1 == b.1.1)
    (eq-eqb (number_of_kind a.1.0) (number_of_kind b.1.0) (ap number_of_kind kinds))
    (eq-eqb a.1.1 b.1.1 square) in
    and_from (same_colour e.colour g.colour) (shares e.states g.states)
    (ap (λ c. same_colour c g.colour) (ap (λ (m : Man). m.colour) same) ∙ own_colour g.colour)
    (any_at (λ x. list_any (same_state x) g.states) e.states a.0 a.1 a.2
    (any_at (same_state a.1) g.states b.0 b.1 b.2 one))

-- a group that is one of the earlier ones has no state of the groups behind them
alone_after : (e : GroupLine) (j : ℕ) (earlier groups : List GroupLine) →
    slice_get earlier j ≡ Some e → AreSoundAfter earlier groups → (cell s : ℕ) →
    is_state cell s e ≡ true → has_state groups cell s ≡ false
alone_after e j earlier [] is h cell s on = refl
alone_after e j earlier (g ∷ groups) is h cell s on =
    let off : is_state cell s g ≡ false = false_from_ne_true (is_state cell s g)
    (λ both.
    let yes = any_at (λ x. same_colour x.colour g.colour && shares x.states g.states) earlier j e is
    (common_state_overlaps e g cell s on both) in
    let no = h.0.no_overlap in
    absurd cc) in
    ap (λ b. b || has_state groups cell s) off
    ∙ alone_after e j (earlier ++ g ∷ []) groups
    (get_before earlier (g ∷ []) j (slice_get_within earlier j e is) ∙ is) h.1 cell s on

apart_after : (earlier groups : List GroupLine) → AreSoundAfter earlier groups → AreApart groups
apart_after earlier [] h = tt
apart_after earlier (g ∷ groups) h = (
  record {
    states = h.0.states;
    alone = alone_after g (length earlier) (earlier ++ g ∷ []) groups (get_last earlier g) h.1;
  },
  apart_after (earlier ++ g ∷ []) groups h.1,
)

-- no two groups of sound rules have a state in common
pub apart : (r : RuleLines) → IsSound r → AreApart r.groups
apart r h = apart_after [] r.groups h.lines.groups
