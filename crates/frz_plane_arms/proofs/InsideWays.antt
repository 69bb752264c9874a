-- A step that leads inside the set is a man's, a king's to an empty square, or a king's capture.
use Rattle.std.proofs.Common.{◌≡◌, ◌≢◌, ℕ, ◌<◌, Bool, true, false, ◌⊎◌, Option, None, Some, List, [], slice_index, refl, ap, sym, ◌∙◌, subst, arith, inl, inr}
use Rattle.std.specs.List.{slice_index_or}
use Rattle.std.proofs.lemmas.Bool.{cases_Bool, eqb-false, eqb-true}
use Rattle.std.proofs.lemmas.Bool.Decides.{nat_tests}
use Rattle.frz_board.specs.declared.man.Colour.{Colour}
use Rattle.frz_board.specs.declared.man.Colour.TheVariants.{White, Black}
use Rattle.frz_board.specs.declared.man.Man.{Man}
use Rattle.frz_board.specs.declared.man.Kind.{Kind}
use Rattle.frz_board.specs.Boards.{Board, CellsFit, holds, is_empty, man_on}
use Rattle.frz_board.specs.Men.{is_man_of, man_of_cell, other_of, same_colour}
use Rattle.frz_board.specs.Moving.{IsStep, Step}
use Rattle.frz_fide.specs.Legal.{after, is_legal}
use Rattle.frz_sets.specs.Sound.{IsSound}
use Rattle.frz_sets.specs.Views.{RuleLines}
use Rattle.frz_exits.specs.Forbidding.{is_free}
use Rattle.frz_index.specs.Members.{Member, Num}
use Rattle.frz_configurations.specs.Configurations.{IsSplit, configuration_of}
use Rattle.frz_planes.specs.Planes.{has_pair}
use Rattle.frz_king_planes.specs.Kings.{king_square, with_kings}
use Rattle.frz_kingless.specs.Boards.{IsBoardOf}
use Rattle.frz_pair_moves.specs.Kings.{black_then, king_step, white_then}
use Rattle.frz_pair_moves.specs.Moves.{Makes, entered}
use Rattle.frz_pair_moves.proofs.Lemmas.{black_legal, entered_empty, entry, mover_is, white_legal}
use Rattle.frz_plane_arms.specs.Arms.{KingLeads, MakesMember}
use Rattle.frz_plane_arms.specs.MenArms.{ManLeads}
use Rattle.frz_plane_arms.specs.Inner.{KingSteps, KingTakes}
use Rattle.frz_plane_arms.specs.Inside.{LeadsInside}
use Rattle.frz_plane_arms.proofs.OneSplit.{one_split}
use Rattle.frz_plane_arms.proofs.Standing.{made, man_stands}
use Rattle.frz_plane_arms.proofs.WaysInside.{board_after, lines_of, not_forbidden_of, number_after}

by_colour : (c d : Colour) → same_colour d c ≡ false → same_colour d (other_of c) ≡ true
by_colour White White h = absurd cc
by_colour White Black h = refl
by_colour Black White h = refl
by_colour Black Black h = absurd cc

of_other : (c : Colour) (o : Option Man) → o ≢ None → is_man_of c o ≡ false →
    is_man_of (other_of c) o ≡ true
of_other c None n h = absurd (n refl)
of_other c (Some man) n h = by_colour c man.colour h

cell_has_man : (cell : ℕ) → cell < 13 → cell ≢ 0 → man_of_cell cell ≢ None
cell_has_man cell l n e = grind (arith, nat_tests)

module _ (r : RuleLines) (p : Board) (only_free into : Bool) (planes : List (List ℕ)) (a b : ℕ)
    (sound : IsSound r) (here : MakesMember r.groups p a b) where
  abbrev q : Board
  q = with_kings p a b

  abbrev white : ℕ → ℕ
  white s = white_then p.turn a s

  abbrev black : ℕ → ℕ
  black s = black_then p.turn b s

  now : Makes p a b
  now = made r p a b here

  promo_none : (m : Step) → IsStep m → is_legal q m ≡ true → (c : Colour) → p.turn ≡ c →
      m.from ≡ king_square c a b → m.promo ≡ None
  promo_none m step legal White e from =
      (white_legal p m b step here.black e (subst (λ (x : ℕ). Makes p x b) (sym from) now)
      (subst (λ (x : ℕ). is_legal (with_kings p x b) m ≡ true) (sym from) legal)).0.promo
  promo_none m step legal Black e from =
      (black_legal p m a step here.white e (subst (λ (x : ℕ). Makes p a x) (sym from) now)
      (subst (λ (x : ℕ). is_legal (with_kings p a x) m ≡ true) (sym from) legal)).0.promo

  as_king : (m : Step) → IsStep m → is_legal q m ≡ true → m.from ≡ king_square p.turn a b →
      m ≡ king_step p a b m.to
  as_king m step legal from =
      ap (λ x. record { from = x; to = m.to; promo = m.promo }) from
      ∙ ap (λ (x : Option Kind). record { from = king_square p.turn a b; to = m.to; promo = x })
      (promo_none m step legal p.turn refl from)

  -- the king goes to a square, where the men that he leaves are those of configuration k
  pub record Enters (k : ℕ) : Type 0 where
    pub square : ℕ
    pub on_board : square < 64
    pub target : ℕ
    pub same : k ≡ target
    pub board : IsBoardOf r.groups target (entered p square)
    pub leads : KingLeads r.groups (lines_of r only_free) p (slice_index_or planes target []) into a b square

  pub enters : (w : LeadsInside r p only_free into planes a b) →
      w.step.from ≡ king_square p.turn a b → Enters w.configuration
  enters w from =
      let s : ℕ = w.step.to in
      let ls : s < 64 = w.is_step.to in
      let is = as_king w.step w.is_step w.legal from in
      let legal : is_legal q (king_step p a b s) ≡ true =
      subst (λ (x : Step). is_legal q x ≡ true) is w.legal in
      let inside : Member r.groups (after q (king_step p a b s)) =
      subst (λ (x : Step). Member r.groups (after q x)) is w.inside in
      let number : IsSplit r.groups (Num r.groups (after q (king_step p a b s))) w.configuration
      w.white w.black =
      subst (λ (x : Step). IsSplit r.groups (Num r.groups (after q x)) w.configuration w.white w.black)
      is w.number in
      let d : ℕ = configuration_of r.groups (with_kings (entered p s) (white s) (black s)) in
      let board : IsBoardOf r.groups d (entered p s) = board_after r p a b sound here s ls legal inside in
      let same = one_split r.groups (Num r.groups (after q (king_step p a b s))) w.configuration d
      w.white w.black (white s) (black s) number
      (number_after r p a b sound here s ls legal inside d board) in
      record {
        square = s;
        on_board = ls;
        target = d;
        same = same.0;
        board = board;
        leads = record {
          legal = legal;
          free = not_forbidden_of r p.turn q (king_step p a b s) only_free
              (λ e. subst (λ (x : Step). is_free r p.turn q x ≡ true) is (w.free e));
          inside = inside;
          there = ap (λ k. has_pair (slice_index_or planes k []) (white s) (black s)) (sym same.0)
              ∙ ap (λ x. has_pair (slice_index_or planes w.configuration []) x (black s)) (sym same.1)
              ∙ ap (has_pair (slice_index_or planes w.configuration []) w.white) (sym same.2)
              ∙ w.there;
        };
      }

  -- a man's step leads to the configuration of the board after it
  pub man_goes : (w : LeadsInside r p only_free into planes a b) →
      holds p p.turn w.step.from ≡ true → IsBoardOf r.groups w.configuration (after p w.step)
  man_goes w own =
      let stands = man_stands r p w.step a b sound here w.is_step own w.legal in
      let at = stands.member.0 w.inside in
      let same = one_split r.groups (Num r.groups (after q w.step)) w.configuration at.0 w.white
      w.black a b w.number (stands.number at.0 at.1) in
      subst (λ (k : ℕ). IsBoardOf r.groups k (after p w.step)) (sym same.0) at.1

  man_leads : (w : LeadsInside r p only_free into planes a b) → holds p p.turn w.step.from ≡ true →
      ManLeads r only_free p planes into a b
  man_leads w own =
      let stands = man_stands r p w.step a b sound here w.is_step own w.legal in
      let at = stands.member.0 w.inside in
      let same = one_split r.groups (Num r.groups (after q w.step)) w.configuration at.0 w.white
      w.black a b w.number (stands.number at.0 at.1) in
      record {
        step = w.step;
        is_step = w.is_step;
        own = own;
        legal = w.legal;
        free = w.free;
        target = at.0;
        board = at.1;
        there = ap (λ k. has_pair (slice_index_or planes k []) a b) (sym same.0)
            ∙ ap (λ x. has_pair (slice_index_or planes w.configuration []) x b) (sym same.1)
            ∙ ap (has_pair (slice_index_or planes w.configuration []) w.white) (sym same.2)
            ∙ w.there;
      }

  -- to a square of a man of the other side, or to an empty one
  pub enemy_there : CellsFit p.cells → (k : ℕ) (e : Enters k) → is_empty p e.square ≡ false →
      holds p (other_of p.turn) e.square ≡ true
  enemy_there fits k e full =
      let s : ℕ = e.square in
      of_other p.turn (man_on p s)
      (cell_has_man (slice_index p.cells s)
      (fits.men s 0 (let size = fits.size in let l = e.on_board in omega arith))
      (eqb-false (slice_index p.cells s) 0 full))
      (entry p a b s here.white here.black e.on_board now p.turn refl e.leads.legal).free

  king_ways : CellsFit p.cells → (k : ℕ) → Enters k →
      (KingTakes r.groups (lines_of r only_free) p planes into a b) ⊎ KingSteps r.groups (lines_of r only_free) p planes into a b
  king_ways fits k e =
      let s : ℕ = e.square in
      elim (cases_Bool (is_empty p s)) [
        | inl empty ↦ inr (record {
          target = e.target;
          board = subst (IsBoardOf r.groups e.target)
              (entered_empty p s (eqb-true (slice_index p.cells s) 0 empty)) e.board;
          leads = record { square = s; on_board = e.on_board; empty = empty; leads = e.leads };
        })
        | inr full ↦ inl (record {
          square = s;
          on_board = e.on_board;
          taken = enemy_there fits k e full;
          target = e.target;
          board = e.board;
          leads = e.leads;
        })
      ]

  pub ways : CellsFit p.cells → LeadsInside r p only_free into planes a b →
      (ManLeads r only_free p planes into a b)
      ⊎ ((KingTakes r.groups (lines_of r only_free) p planes into a b) ⊎ KingSteps r.groups (lines_of r only_free) p planes into a b)
  ways fits w =
      elim (mover_is p w.step a b here.white here.black now w.legal) [
        | inl king ↦ inr (king_ways fits w.configuration (enters w king))
        | inr own ↦ inl (man_leads w own)
      ]
