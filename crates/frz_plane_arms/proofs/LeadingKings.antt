-- The pairs at which a king's step leads to pairs of a plane, or to others.
use Rattle.std.proofs.Common.{◌≡◌, ◌≢◌, ℕ, ◌<◌, Bool, true, false, max, ◌&&◌, not, List, Option, length, slice_index, refl, ap, sym, ◌∙◌, subst, arith}
use Rattle.std.specs.Prelude.{◌==◌, ◌↔◌}
use Rattle.std.proofs.lemmas.Bool.{and_from, and_parts, eq-eqb, eqb-true, ne_eqb}
use Rattle.frz_board.specs.declared.man.Colour.{Colour}
use Rattle.frz_board.specs.declared.man.Colour.TheVariants.{White, Black}
use Rattle.frz_board.specs.declared.man.Man.{Man}
use Rattle.frz_board.specs.Boards.{Board, holds, is_empty, man_on}
use Rattle.frz_board.specs.Lines.{is_king_step}
use Rattle.frz_board.specs.Men.{is_man_of, man_of_cell, other_of}
use Rattle.frz_board.specs.Squares.{distance, files_apart, ranks_apart}
use Rattle.frz_board.proofs.Lemmas.{one_side, other_other}
use Rattle.frz_squares.proofs.Lemmas.{any_square, some_square}
use Rattle.frz_fide.specs.Legal.{after, is_legal}
use Rattle.frz_sets.specs.Sound.{IsSound}
use Rattle.frz_sets.specs.Views.{RuleLines}
use Rattle.frz_sets.specs.declared.forbid.Forbid.{Forbid}
use Rattle.frz_index.specs.Members.{Member}
use Rattle.frz_planes.specs.Planes.{IsPlaneOf, has_pair}
use Rattle.frz_king_planes.specs.Kings.{are_free, king_square, with_kings}
use Rattle.frz_king_planes.proofs.Lemmas.{crowned, free_parts}
use Rattle.frz_kingless.specs.Boards.{AreLive, IsBoardOf}
use Rattle.frz_pair_moves.specs.Kings.{black_then, handed, king_step, white_then}
use Rattle.frz_pair_moves.specs.Moves.{entered}
use Rattle.frz_pair_moves.proofs.Lemmas.{Entry, black_on, entered_empty, entered_free, enters, entry, king_after, step_back, white_on}
use Rattle.frz_plane_arms.specs.Arms.{KingLeads, KingLeadsQuietly, MakesMember, is_as}
use Rattle.frz_plane_arms.specs.Binding.{arrives_freely, may_go, steps_freely}
use Rattle.frz_plane_arms.proofs.FreeKings.{may_be_gone, not_forbidden}
use Rattle.frz_plane_arms.proofs.FreeMen.{not_there}
use Rattle.frz_plane_arms.proofs.LeadingPairs.{as_is, is_that_way, lives, living}
use Rattle.frz_plane_arms.proofs.Standing.{made}

same_place : (a : ℕ) → distance a a ≡ 0
same_place a =
    let files : files_apart a a ≡ 0 = omega arith in
    let ranks : ranks_apart a a ≡ 0 = omega arith in
    ap (λ f. max f (ranks_apart a a)) files ∙ ap (λ r. max 0 r) ranks

moves_on : (a s : ℕ) → is_king_step a s ≡ true → s ≢ a
moves_on a s h e =
    let here : distance a s ≡ 0 = ap (distance a) e ∙ same_place a in
    let far : (distance a s == 1) ≡ false = ap (λ n. n == 1) here in
    absurd cc

-- the king of the side to move went from both squares to another
goes_off : (p : Board) (c : Colour) (a b s : ℕ) →
    are_free p (white_then c a s) (black_then c b s) ≡ true →
    is_king_step (king_square c a b) s ≡ true → (s ≢ a) × (s ≢ b)
goes_off p White a b s h step = (moves_on a s step, (free_parts p s b h).apart)
goes_off p Black a b s h step = (λ e. (free_parts p a s h).apart (sym e), moves_on b s step)

one_owner : (c : Colour) (o : Option Man) → is_man_of (other_of c) o ≡ true →
    is_man_of c o ≡ false
one_owner c o h = ap (λ d. is_man_of d o) (sym (other_other c)) ∙ one_side (other_of c) o h

-- the king goes from his square to s, and the kings then make a position of the set
module _ (r : RuleLines) (p : Board) (a b s : ℕ) (ls : s < 64) (here : MakesMember r.groups p a b)
  where
    king_goes : is_king_step (king_square p.turn a b) s ≡ true → holds p p.turn s ≡ false →
        MakesMember r.groups (entered p s) (white_then p.turn a s) (black_then p.turn b s) →
        (is_legal (with_kings p a b) (king_step p a b s) ≡ true)
        × Member r.groups (after (with_kings p a b) (king_step p a b s))
    king_goes step free there =
        let now = made r p a b here in
        let e : Entry p p.turn a b s = record {
          step = step;
          free = free;
          made = made r (entered p s) (white_then p.turn a s) (black_then p.turn b s) there;
        } in (
          enters p a b s here.white here.black ls now p.turn refl e,
          subst (Member r.groups)
              (sym (king_after p a b s here.white here.black ls now p.turn refl e)) there.member,
        )

    pub king_went : is_legal (with_kings p a b) (king_step p a b s) ≡ true →
        Member r.groups (after (with_kings p a b) (king_step p a b s)) →
        (is_king_step (king_square p.turn a b) s ≡ true)
        × MakesMember r.groups (entered p s) (white_then p.turn a s) (black_then p.turn b s)
    king_went legal member =
        let now = made r p a b here in
        let e = entry p a b s here.white here.black ls now p.turn refl legal in (
          e.step,
          record {
            white = white_on p.turn a s here.white ls;
            black = black_on p.turn b s here.black ls;
            free = e.made.free;
            member = subst (Member r.groups)
                (king_after p a b s here.white here.black ls now p.turn refl e) member;
          },
        )

-- what stands on the square to which the king goes
module _ (r : RuleLines) (p : Board) (a b s : ℕ) (size : length p.cells ≡ 64)
    (here : MakesMember r.groups p a b) where
  still : s ≢ a → s ≢ b → slice_index (with_kings p a b).cells s ≡ slice_index p.cells s
  still na nb = (crowned p a b White size here.white here.black here.free).rest s na nb

  none_there : slice_index p.cells s ≡ 0 → is_king_step (king_square p.turn a b) s ≡ true →
      are_free (handed p) (white_then p.turn a s) (black_then p.turn b s) ≡ true →
      is_empty (with_kings p a b) s ≡ not false
  none_there none step free =
      let off = goes_off (handed p) p.turn a b s free step in
      ap (λ x. x == 0) (still off.0 off.1) ∙ eq-eqb (slice_index p.cells s) 0 none

  one_there : holds p (other_of p.turn) s ≡ true → is_empty (with_kings p a b) s ≡ not true
  one_there taken =
      let kings = free_parts p a b here.free in
      let c = other_of p.turn in
      ap (λ x. x == 0)
      (still (not_there p c s a kings.white taken) (not_there p c s b kings.black taken))
      ∙ ne_eqb (slice_index p.cells s) 0 (λ e. not_there p c s s e taken refl)

module _ (lines : List Forbid) (r : RuleLines) (p : Board) (c d : ℕ) (live next : List ℕ)
    (sound : IsSound r) (board : IsBoardOf r.groups c p) (are : AreLive r.groups c live)
    (lively : AreLive r.groups d next) (turn : Colour) (mover : p.turn ≡ turn) (to : List ℕ)
    (into : Bool) (there : List ℕ)
    (cut : IsPlaneOf there (λ a b. has_pair next a b && is_as into (has_pair to a b))) (a b : ℕ)
    (la : a < 64) (lb : b < 64) where
  abbrev white : ℕ → ℕ
  white s = white_then p.turn a s

  abbrev black : ℕ → ℕ
  black s = black_then p.turn b s

  abbrev king : ℕ
  king = king_square p.turn a b

  size : length p.cells ≡ 64
  size = board.fits.size

  module _ (s : ℕ) (ls : s < 64) where
    lw : white s < 64
    lw = white_on p.turn a s la ls

    lk : black s < 64
    lk = black_on p.turn b s lb ls

    cut_parts : has_pair there (white s) (black s) ≡ true →
        (has_pair next (white s) (black s) ≡ true) × (has_pair to (white s) (black s) ≡ into)
    cut_parts h =
        let parts = and_parts (has_pair next (white s) (black s))
        (is_as into (has_pair to (white s) (black s))) (sym (cut (white s) (black s) lw lk) ∙ h) in
        (parts.0, as_is into (has_pair to (white s) (black s)) parts.1)

    cut_from : has_pair next (white s) (black s) ≡ true →
        has_pair to (white s) (black s) ≡ into → has_pair there (white s) (black s) ≡ true
    cut_from h k =
        cut (white s) (black s) lw lk
        ∙ and_from (has_pair next (white s) (black s))
        (is_as into (has_pair to (white s) (black s))) h
        (is_that_way into (has_pair to (white s) (black s)) k)

  module _ (then : IsBoardOf r.groups d (handed p)) (plane : List ℕ)
      (steps : IsPlaneOf plane (λ a b. steps_freely lines turn there a b && has_pair live a b))
    where
      abbrev onto : ℕ → Bool
      onto s =
          distance king s == 1
          && (may_go lines p.turn false king s && has_pair there (white s) (black s))

      turned : steps_freely lines turn there a b ≡ steps_freely lines p.turn there a b
      turned = ap (λ t. steps_freely lines t there a b) (sym mover)

      quiet_by : (s : ℕ) → s < 64 → onto s ≡ true → MakesMember r.groups p a b →
          KingLeadsQuietly r.groups lines p to into a b
      quiet_by s ls h here =
          let goes = and_parts (distance king s == 1)
          (may_go lines p.turn false king s && has_pair there (white s) (black s)) h in
          let may = and_parts (may_go lines p.turn false king s) (has_pair there (white s) (black s))
          goes.1 in
          let both = cut_parts s ls may.1 in
          let same = lives r (handed p) d next sound then lively (white s) (black s) (lw s ls)
          (lk s ls) both.0 in
          let none = entered_free p p.turn a b s same.free in
          let went = king_goes r p a b s ls here goes.0
          (ap (λ x. is_man_of p.turn (man_of_cell x)) none)
          (subst (λ (q : Board). MakesMember r.groups q (white s) (black s))
          (sym (entered_empty p s none)) same) in
          record {
            square = s;
            on_board = ls;
            empty = eq-eqb (slice_index p.cells s) 0 none;
            leads = record {
              legal = went.0;
              free = not_forbidden p a b s size la lb here.free false
                  (none_there r p a b s size here none goes.0 same.free) lines may.0;
              inside = went.1;
              there = both.1;
            };
          }

      quietly_forth : has_pair plane a b ≡ true →
          MakesMember r.groups p a b × KingLeadsQuietly r.groups lines p to into a b
      quietly_forth h =
          let parts = and_parts (steps_freely lines turn there a b) (has_pair live a b)
          (sym (steps a b la lb) ∙ h) in
          let here = lives r p c live sound board are a b la lb parts.1 in
          let s = some_square onto (sym turned ∙ parts.0) in
          (here, quiet_by s.square s.on_board s.passes here)

      quietly_back : MakesMember r.groups p a b × KingLeadsQuietly r.groups lines p to into a b →
          has_pair plane a b ≡ true
      quietly_back h =
          let s : ℕ = h.1.square in
          let ls : s < 64 = h.1.on_board in
          let went = king_went r p a b s ls h.0 h.1.leads.legal h.1.leads.inside in
          let none = eqb-true (slice_index p.cells s) 0 h.1.empty in
          let same : MakesMember r.groups (handed p) (white s) (black s) =
          subst (λ (q : Board). MakesMember r.groups q (white s) (black s)) (entered_empty p s none)
          went.1 in
          let on = living r (handed p) d next sound then lively (white s) (black s) (lw s ls)
          (lk s ls) same in
          let may = may_be_gone p a b s size la lb h.0.free false
          (none_there r p a b s size h.0 none went.0 same.free) lines h.1.leads.free in
          steps a b la lb
          ∙ and_from (steps_freely lines turn there a b) (has_pair live a b)
          (turned
          ∙ any_square onto s ls
          (and_from (distance king s == 1)
          (may_go lines p.turn false king s && has_pair there (white s) (black s)) went.0
          (and_from (may_go lines p.turn false king s) (has_pair there (white s) (black s)) may
          (cut_from s ls on h.1.leads.there))))
          (living r p c live sound board are a b la lb h.0)

      pub quietly : (has_pair plane a b ≡ true)
          ↔ (MakesMember r.groups p a b × KingLeadsQuietly r.groups lines p to into a b)
      quietly = (quietly_forth, quietly_back)

  module _ (s : ℕ) (ls : s < 64) (other : holds p (other_of turn) s ≡ true)
      (then : IsBoardOf r.groups d (entered p s)) (plane : List ℕ)
      (steps : IsPlaneOf plane
      (λ a b. arrives_freely lines turn true s there a b && has_pair live a b)) where
    taken : holds p (other_of p.turn) s ≡ true
    taken = ap (λ t. holds p (other_of t) s) mover ∙ other

    onto_at : arrives_freely lines turn true s there a b
        ≡ ((is_king_step s king && has_pair there (white s) (black s))
        && may_go lines p.turn true king s)
    onto_at = ap (λ t. arrives_freely lines t true s there a b) (sym mover)

    arriving_forth : has_pair plane a b ≡ true →
        MakesMember r.groups p a b × KingLeads r.groups lines p to into a b s
    arriving_forth h =
        let parts = and_parts (arrives_freely lines turn true s there a b) (has_pair live a b)
        (sym (steps a b la lb) ∙ h) in
        let here = lives r p c live sound board are a b la lb parts.1 in
        let may = and_parts (is_king_step s king && has_pair there (white s) (black s))
        (may_go lines p.turn true king s) (sym onto_at ∙ parts.0) in
        let goes = and_parts (is_king_step s king) (has_pair there (white s) (black s)) may.0 in
        let both = cut_parts s ls goes.1 in
        let after_it = lives r (entered p s) d next sound then lively (white s) (black s) (lw s ls)
        (lk s ls) both.0 in
        let went = king_goes r p a b s ls here (step_back king s ∙ goes.0)
        (one_owner p.turn (man_on p s) taken) after_it in (
          here,
          record {
            legal = went.0;
            free = not_forbidden p a b s size la lb here.free true
                (one_there r p a b s size here taken) lines may.1;
            inside = went.1;
            there = both.1;
          },
        )

    arriving_back : MakesMember r.groups p a b × KingLeads r.groups lines p to into a b s →
        has_pair plane a b ≡ true
    arriving_back h =
        let went = king_went r p a b s ls h.0 h.1.legal h.1.inside in
        let on = living r (entered p s) d next sound then lively (white s) (black s) (lw s ls)
        (lk s ls) went.1 in
        let may = may_be_gone p a b s size la lb h.0.free true
        (one_there r p a b s size h.0 taken) lines h.1.free in
        steps a b la lb
        ∙ and_from (arrives_freely lines turn true s there a b) (has_pair live a b)
        (onto_at
        ∙ and_from (is_king_step s king && has_pair there (white s) (black s))
        (may_go lines p.turn true king s)
        (and_from (is_king_step s king) (has_pair there (white s) (black s))
        (step_back s king ∙ went.0) (cut_from s ls on h.1.there))
        may)
        (living r p c live sound board are a b la lb h.0)

    pub arriving : (has_pair plane a b ≡ true)
        ↔ (MakesMember r.groups p a b × KingLeads r.groups lines p to into a b s)
    arriving = (arriving_forth, arriving_back)
