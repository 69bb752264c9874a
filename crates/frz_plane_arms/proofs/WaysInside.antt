-- What leads inside the set: a step of a man, a king's step to an empty square, a king's capture.
use Rattle.std.proofs.Common.{◌≡◌, ℕ, ◌<◌, Bool, true, false, cond, List, [], slice_index, refl, sym, subst}
use Rattle.std.specs.List.{slice_index_or}
use Rattle.std.proofs.lemmas.Bool.{eqb-true, not-true, not_from_false}
use Rattle.frz_board.specs.declared.man.Colour.{Colour}
use Rattle.frz_board.specs.declared.man.Colour.TheVariants.{White, Black}
use Rattle.frz_board.specs.Boards.{Board}
use Rattle.frz_board.specs.Moving.{Step}
use Rattle.frz_fide.specs.Legal.{after, is_legal}
use Rattle.frz_sets.specs.Sound.{IsSound}
use Rattle.frz_sets.specs.Views.{RuleLines}
use Rattle.frz_sets.specs.declared.forbid.Forbid.{Forbid}
use Rattle.frz_exits.specs.Forbidding.{is_forbidden, is_free}
use Rattle.frz_index.specs.Members.{Member, Num}
use Rattle.frz_configurations.specs.Configurations.{IsSplit, configuration_of}
use Rattle.frz_king_planes.specs.Kings.{king_square, with_kings}
use Rattle.frz_kingless.specs.Boards.{IsBoardOf}
use Rattle.frz_kingless.proofs.Lemmas.{board_there, made_split}
use Rattle.frz_pair_moves.specs.Kings.{black_then, king_step, white_then}
use Rattle.frz_pair_moves.specs.Moves.{Makes, entered}
use Rattle.frz_pair_moves.proofs.Lemmas.{entered_empty, entry, king_after}
use Rattle.frz_plane_arms.specs.Arms.{KingLeads, MakesMember}
use Rattle.frz_plane_arms.specs.MenArms.{ManLeads}
use Rattle.frz_plane_arms.specs.Inner.{KingSteps, KingTakes}
use Rattle.frz_plane_arms.specs.Inside.{LeadsInside}
use Rattle.frz_plane_arms.proofs.LeadingKings.{king_went}
use Rattle.frz_plane_arms.proofs.Standing.{known, made, man_stands}

-- the lines that count
abbrev pub lines_of : RuleLines → (only_free : Bool) → List Forbid
lines_of r only_free = cond only_free r.forbids []

module _ (r : RuleLines) (side : Colour) (q : Board) (m : Step) where
  pub free_of : (only_free : Bool) → is_forbidden (lines_of r only_free) side q m ≡ false →
      only_free ≡ true → is_free r side q m ≡ true
  free_of true h e = not_from_false (is_forbidden r.forbids side q m) h
  free_of false h e = absurd cc

  pub not_forbidden_of : (only_free : Bool) → (only_free ≡ true → is_free r side q m ≡ true) →
      is_forbidden (lines_of r only_free) side q m ≡ false
  not_forbidden_of true h = not-true (is_forbidden r.forbids side q m) (h refl)
  not_forbidden_of false h = refl

module _ (r : RuleLines) (p : Board) (a b : ℕ) (sound : IsSound r)
    (here : MakesMember r.groups p a b) where
  abbrev q : Board
  q = with_kings p a b

  abbrev white : ℕ → ℕ
  white s = white_then p.turn a s

  abbrev black : ℕ → ℕ
  black s = black_then p.turn b s

  now : Makes p a b
  now = made r p a b here

  king_on : (c : Colour) → king_square c a b < 64
  king_on White = here.white
  king_on Black = here.black

  -- the number after a king's step, and the board that he leaves
  module _ (s : ℕ) (ls : s < 64) (legal : is_legal (with_kings p a b) (king_step p a b s) ≡ true)
      (inside : Member r.groups (after (with_kings p a b) (king_step p a b s))) where
    next : MakesMember r.groups (entered p s) (white s) (black s)
    next = (king_went r p a b s ls here legal inside).1

    pub number_after : (d : ℕ) → IsBoardOf r.groups d (entered p s) →
        IsSplit r.groups (Num r.groups (after q (king_step p a b s))) d (white s) (black s)
    number_after d board =
        let e = entry p a b s here.white here.black ls now p.turn refl legal in
        subst (λ (x : Board). IsSplit r.groups (Num r.groups x) d (white s) (black s))
        (sym (king_after p a b s here.white here.black ls now p.turn refl e))
        (made_split r (entered p s) (white s) (black s) sound next.white next.black next.free
        next.member.valid d board (known r (entered p s) (white s) (black s) sound next))

    pub board_after : IsBoardOf r.groups
        (configuration_of r.groups (with_kings (entered p s) (white s) (black s))) (entered p s)
    board_after =
        board_there r (entered p s) (white s) (black s) sound next.white next.black next.free
        next.member.valid next.member

  module _ (only_free into : Bool) (planes : List (List ℕ)) where
    pub man_inside : ManLeads r only_free p planes into a b →
        LeadsInside r p only_free into planes a b
    man_inside w =
        let stands = man_stands r p w.step a b sound here w.is_step w.own w.legal in
        record {
          step = w.step;
          is_step = w.is_step;
          legal = w.legal;
          free = w.free;
          inside = stands.member.1 (w.target, w.board);
          configuration = w.target;
          white = a;
          black = b;
          number = stands.number w.target w.board;
          there = w.there;
        }

    king_inside : (s d : ℕ) → s < 64 → IsBoardOf r.groups d (entered p s) →
        KingLeads r.groups (lines_of r only_free) p (slice_index_or planes d []) into a b s →
        LeadsInside r p only_free into planes a b
    king_inside s d ls board h = record {
      step = king_step p a b s;
      is_step = record { from = king_on p.turn; to = ls; promo = refl };
      legal = h.legal;
      free = free_of r p.turn q (king_step p a b s) only_free h.free;
      inside = h.inside;
      configuration = d;
      white = white s;
      black = black s;
      number = number_after s ls h.legal h.inside d board;
      there = h.there;
    }

    pub taking_inside : KingTakes r.groups (lines_of r only_free) p planes into a b →
        LeadsInside r p only_free into planes a b
    taking_inside w = king_inside w.square w.target w.on_board w.board w.leads

    pub stepping_inside : KingSteps r.groups (lines_of r only_free) p planes into a b →
        LeadsInside r p only_free into planes a b
    stepping_inside w =
        let s : ℕ = w.leads.square in
        king_inside s w.target w.leads.on_board
        (subst (IsBoardOf r.groups w.target)
        (sym (entered_empty p s (eqb-true (slice_index p.cells s) 0 w.leads.empty))) w.board)
        w.leads.leads
