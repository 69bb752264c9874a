-- The exits of men and kings are all exits.
use Rattle.std.proofs.Common.{◌≡◌, ℕ, ◌<◌, Bool, true, ◌⊎◌, Option, None, List, [], refl, ap, sym, ◌∙◌, subst, inl, inr}
use Rattle.frz_board.specs.declared.man.Colour.{Colour}
use Rattle.frz_board.specs.declared.man.Colour.TheVariants.{White, Black}
use Rattle.frz_board.specs.declared.man.Kind.{Kind}
use Rattle.frz_board.specs.Boards.{Board, holds}
use Rattle.frz_board.specs.Moving.{IsStep, Step}
use Rattle.frz_fide.specs.Legal.{after, is_legal}
use Rattle.frz_sets.specs.declared.exit.Value.{Value}
use Rattle.frz_sets.specs.Views.{RuleLines}
use Rattle.frz_index.specs.Members.{Member}
use Rattle.frz_exits.specs.Forbidding.{is_free}
use Rattle.frz_king_planes.specs.Kings.{king_square, with_kings}
use Rattle.frz_pair_moves.specs.Kings.{king_step}
use Rattle.frz_pair_moves.specs.Moves.{Makes}
use Rattle.frz_pair_moves.proofs.Lemmas.{black_legal, white_legal}
use Rattle.frz_plane_arms.specs.Arms.{MakesMember}
use Rattle.frz_plane_exits.specs.Adding.{Adds, KingLeaves, LeavesBy, ManLeaves}
use Rattle.frz_plane_exits.specs.Exits.{AreExits, HasExit, LeavesWith}
use Rattle.frz_plane_exits.specs.Leaving.{step_by}
use Rattle.frz_plane_exits.specs.declared.exit_plane.ExitPlane.{ExitPlane}
use Rattle.frz_plane_exits.specs.declared.mover.Mover.{Mover}
use Rattle.frz_plane_exits.specs.declared.mover.Mover.TheVariants.{King, Man}
use Rattle.frz_plane_exits.proofs.MenLeave.{made}

-- who makes a legal move: the king of the side to move, or a man on the board without kings
abbrev pub HasMovers : Type 0
HasMovers =
    (p : Board) (m : Step) (a b : ℕ) → IsStep m → a < 64 → b < 64 → Makes p a b →
    is_legal (with_kings p a b) m ≡ true →
    (m.from ≡ king_square p.turn a b) ⊎ (holds p p.turn m.from ≡ true)

module _ (r : RuleLines) (value : Board → Value) (p : Board) where
  by_step : (mover : Mover) (v : Value) (f : Bool) (a b : ℕ) →
      LeavesBy r value p mover v f a b → LeavesWith r value p f v a b
  by_step mover v f a b h = record {
    step = step_by mover p.turn a b;
    is_step = h.leaves.is_step;
    legal = h.leaves.legal;
    outside = h.leaves.outside;
    worth = h.has.worth;
    freedom = h.has.freedom;
  }

  by_mover : (mover : Mover) (v : Value) (f : Bool) (a b : ℕ) → MakesMember r.groups p a b →
      (w : LeavesWith r value p f v a b) → w.step ≡ step_by mover p.turn a b →
      LeavesBy r value p mover v f a b
  by_mover mover v f a b here w e =
      let q = with_kings p a b in
      record {
        leaves = record {
          here = here;
          is_step = subst IsStep e w.is_step;
          legal = ap (is_legal q) (sym e) ∙ w.legal;
          outside = λ member. w.outside
              (subst (λ (m : Step). Member r.groups (after q m)) (sym e) member);
        };
        has = record {
          worth = ap (λ (m : Step). value (after q m)) (sym e) ∙ w.worth;
          freedom = ap (is_free r p.turn q) (sym e) ∙ w.freedom;
        };
      }

  -- a king becomes nothing else
  no_promotion : (m : Step) (c : Colour) (a b : ℕ) → p.turn ≡ c → IsStep m → a < 64 → b < 64 →
      Makes p a b → is_legal (with_kings p a b) m ≡ true → m.from ≡ king_square c a b →
      m.promo ≡ None
  no_promotion m White a b turn step la lb makes legal e =
      (white_legal p m b step lb turn (subst (λ (s : ℕ). Makes p s b) (sym e) makes)
      (ap (λ (s : ℕ). is_legal (with_kings p s b) m) e ∙ legal)).0.promo
  no_promotion m Black a b turn step la lb makes legal e =
      (black_legal p m a step la turn (subst (Makes p a) (sym e) makes)
      (ap (λ (s : ℕ). is_legal (with_kings p a s) m) e ∙ legal)).0.promo

  king_steps : (a b : ℕ) (m : Step) → IsStep m → MakesMember r.groups p a b →
      is_legal (with_kings p a b) m ≡ true → m.from ≡ king_square p.turn a b →
      m ≡ king_step p a b m.to
  king_steps a b m step here legal e =
      let F : ℕ → Step = λ s. record { from = s; to = m.to; promo = m.promo } in
      let G : Option Kind → Step =
      λ k. record { from = king_square p.turn a b; to = m.to; promo = k } in
      ap F e
      ∙ ap G (no_promotion m p.turn a b refl step here.white here.black (made r p a b here) legal e)

  -- no plane has an exit to begin with
  none_yet : (v : Value) (f : Bool) (a b : ℕ) → HasExit [] v f a b → ⊥
  none_yet v f a b h = let there = h.there in cc

  module _ (movers : HasMovers) (xs ys : List ExitPlane) (men : Adds [] xs (ManLeaves r value p))
      (kings : Adds xs ys (KingLeaves r value p)) where
    each : (v : Value) (f : Bool) (a b : ℕ) → a < 64 → b < 64 → HasExit ys v f a b →
        MakesMember r.groups p a b × LeavesWith r value p f v a b
    each v f a b la lb h =
        elim (kings.only v f a b la lb h) [
          | inl before ↦ elim (men.only v f a b la lb before) [
            | inl old ↦ absurd (none_yet v f a b old)
            | inr man ↦ (man.leaves.leaves.here, by_step (Man man.step) v f a b man.leaves)
          ]
          | inr king ↦ (king.leaves.leaves.here, by_step (King king.square) v f a b king.leaves)
        ]

    all : (v : Value) (f : Bool) (a b : ℕ) → MakesMember r.groups p a b →
        LeavesWith r value p f v a b → HasExit ys v f a b
    all v f a b here w =
        elim (movers p w.step a b w.is_step here.white here.black (made r p a b here) w.legal) [
          | inl e ↦ kings.added v f a b here.white here.black (record {
            square = w.step.to;
            on_board = w.is_step.to;
            leaves = by_mover (King w.step.to) v f a b here w
                (king_steps a b w.step w.is_step here w.legal e);
          })
          | inr own ↦ kings.kept v f a b here.white here.black
              (men.added v f a b here.white here.black (record {
                step = w.step;
                own = own;
                leaves = by_mover (Man w.step) v f a b here w refl;
              }))
        ]

    pub are_exits : AreExits r value p ys
    are_exits = record { each = each; all = all }
