-- The pairs at which a king has a legal move.
use Rattle.std.proofs.Common.{◌≡◌, ℕ, ◌<◌, Bool, true, false, ◌&&◌, None, List, slice_index, refl, ap, sym, ◌∙◌, subst}
use Rattle.std.specs.Prelude.{◌==◌, ◌↔◌}
use Rattle.std.proofs.lemmas.Bool.{and_from, and_parts, eq-eqb}
use Rattle.frz_board.specs.declared.man.Colour.{Colour}
use Rattle.frz_board.specs.declared.man.Colour.TheVariants.{White, Black}
use Rattle.frz_board.specs.Boards.{Board, holds}
use Rattle.frz_board.specs.Lines.{is_king_step}
use Rattle.frz_board.specs.Men.{is_man_of, man_of_cell, other_of}
use Rattle.frz_board.specs.Moving.{Step, IsStep}
use Rattle.frz_board.specs.Squares.{distance}
use Rattle.frz_squares.proofs.Lemmas.{any_square, some_square}
use Rattle.frz_bits.proofs.Lemmas.{files_back, ranks_back}
use Rattle.frz_fide.specs.Legal.{after, is_legal}
use Rattle.frz_planes.specs.Planes.{has_pair, IsPlaneOf}
use Rattle.frz_king_planes.specs.Kings.{are_free, king_square, with_kings}
use Rattle.frz_king_planes.specs.Valid.{AreValid}
use Rattle.frz_king_planes.proofs.Lemmas.{free_parts}
use Rattle.frz_pair_moves.specs.Kings.{EntersFrom, black_then, handed, king_step, steps_into, steps_onto, white_then}
use Rattle.frz_pair_moves.specs.Moves.{Makes, entered}
use Rattle.frz_pair_moves.proofs.Cells.{unwritten}
use Rattle.frz_pair_moves.proofs.KingsGo.{black_after, black_legal, legal_black, legal_white, white_after, white_legal}
use Rattle.frz_pair_moves.proofs.Pairs.{made_by, put_by}

pub step_back : (a b : ℕ) → is_king_step a b ≡ is_king_step b a
step_back a b = rw (files_back a b, ranks_back a b) refl

pub swap : (x y : Bool) → (x && y) ≡ (y && x)
swap true true = refl
swap true false = refl
swap false true = refl
swap false false = refl

pub white_on : (c : Colour) (a s : ℕ) → a < 64 → s < 64 → white_then c a s < 64
white_on White a s la ls = ls
white_on Black a s la ls = la

pub black_on : (c : Colour) (b s : ℕ) → b < 64 → s < 64 → black_then c b s < 64
black_on White b s lb ls = lb
black_on Black b s lb ls = ls

-- the square entered is one of the free pair
pub entered_free : (p : Board) (c : Colour) (a b s : ℕ) →
    are_free p (white_then c a s) (black_then c b s) ≡ true → slice_index p.cells s ≡ 0
entered_free p White a b s h = (free_parts p s b h).white
entered_free p Black a b s h = (free_parts p a s h).black

-- a king that goes to an empty square leaves the same men
pub entered_empty : (p : Board) (s : ℕ) → slice_index p.cells s ≡ 0 → entered p s ≡ handed p
entered_empty p s none =
    let F : List ℕ → Board = λ xs. record { cells = xs; turn = other_of p.turn; ep = None } in
    ap F (unwritten p.cells s none)

-- what a legal move of the king is, whichever side moves
pub record Entry (p : Board) (c : Colour) (a b s : ℕ) : Type 0 where
  pub step : is_king_step (king_square c a b) s ≡ true
  pub free : holds p p.turn s ≡ false
  pub made : Makes (entered p s) (white_then c a s) (black_then c b s)

module _ (p : Board) (a b s : ℕ) (la : a < 64) (lb : b < 64) (ls : s < 64) (made : Makes p a b)
  where
    abbrev goes : Colour → Step
    goes c = record { from = king_square c a b; to = s; promo = None }

    step_from : (x : ℕ) → x < 64 → IsStep (record { from = x; to = s; promo = None })
    step_from x lx = record { from = lx; to = ls; promo = refl }

    pub entry : (c : Colour) → p.turn ≡ c → is_legal (with_kings p a b) (goes c) ≡ true →
        Entry p c a b s
    entry White e h =
        let r = white_legal p (goes White) b (step_from a la) lb e made h in
        record { step = r.0.step; free = r.0.free; made = r.1 }
    entry Black e h =
        let r = black_legal p (goes Black) a (step_from b lb) la e made h in
        record { step = r.0.step; free = r.0.free; made = r.1 }

    pub enters : (c : Colour) → p.turn ≡ c → Entry p c a b s →
        is_legal (with_kings p a b) (goes c) ≡ true
    enters White e r =
        legal_white p (goes White) b (step_from a la) lb e made
        (record { promo = refl; step = r.step; free = r.free }) r.made
    enters Black e r =
        legal_black p (goes Black) a (step_from b lb) la e made
        (record { promo = refl; step = r.step; free = r.free }) r.made

    -- the position after it
    pub king_after : (c : Colour) → p.turn ≡ c → Entry p c a b s →
        after (with_kings p a b) (goes c)
        ≡ with_kings (entered p s) (white_then c a s) (black_then c b s)
    king_after White e r =
        white_after p (goes White) b (step_from a la) lb e made
        (record { promo = refl; step = r.step; free = r.free })
        (free_parts (entered p s) s b r.made.free).apart
    king_after Black e r =
        black_after p (goes Black) a (step_from b lb) la e made
        (record { promo = refl; step = r.step; free = r.free })
        (λ x. (free_parts (entered p s) a s r.made.free).apart (sym x))

module _ (p : Board) (before : List ℕ) (are : AreValid p before) where
  abbrev c : Colour
  c = p.turn

  module _ (turn : Colour) (e : p.turn ≡ turn) (to beside plane : List ℕ)
      (inside : (a b : ℕ) → a < 64 → b < 64 → has_pair to a b ≡ true → Makes (handed p) a b)
      (steps : IsPlaneOf beside (steps_into turn to))
      (cut : IsPlaneOf plane (λ a b. has_pair beside a b && has_pair before a b))
      (a b : ℕ) (la : a < 64) (lb : b < 64) where
    abbrev onto : ℕ → Bool
    onto s =
        distance (king_square c a b) s == 1 && has_pair to (white_then c a s) (black_then c b s)

    beside_at : has_pair beside a b ≡ steps_into c to a b
    beside_at = steps a b la lb ∙ ap (λ d. steps_into d to a b) (sym e)

    enters_by : (s : ℕ) → s < 64 → onto s ≡ true → Makes p a b → EntersFrom p to a b
    enters_by s ls h made =
        let parts = and_parts (distance (king_square c a b) s == 1)
        (has_pair to (white_then c a s) (black_then c b s)) h in
        let next = inside (white_then c a s) (black_then c b s) (white_on c a s la ls)
        (black_on c b s lb ls) parts.1 in
        let none = entered_free p c a b s next.free in
        record {
          to = s;
          on_board = ls;
          empty = eq-eqb (slice_index p.cells s) 0 none;
          legal = enters p a b s la lb ls made c refl (record {
            step = parts.0;
            free = ap (λ x. is_man_of c (man_of_cell x)) none;
            made = subst (λ q. Makes q (white_then c a s) (black_then c b s))
                (sym (entered_empty p s none)) next;
          });
          there = parts.1;
        }

    stepping_forth : has_pair plane a b ≡ true → Makes p a b × EntersFrom p to a b
    stepping_forth h =
        let parts = and_parts (has_pair beside a b) (has_pair before a b)
        (sym (cut a b la lb) ∙ h) in
        let made = made_by p before are a b la lb parts.1 in
        let s = some_square onto (sym beside_at ∙ parts.0) in
        (made, enters_by s.square s.on_board s.passes made)

    stepping_back : Makes p a b × EntersFrom p to a b → has_pair plane a b ≡ true
    stepping_back h =
        let r = entry p a b h.1.to la lb h.1.on_board h.0 c refl h.1.legal in
        cut a b la lb
        ∙ and_from (has_pair beside a b) (has_pair before a b)
        (beside_at ∙ any_square onto h.1.to h.1.on_board
        (and_from (distance (king_square c a b) h.1.to == 1)
        (has_pair to (white_then c a h.1.to) (black_then c b h.1.to)) r.step h.1.there))
        (put_by p before are a b la lb h.0)

    pub stepping : (has_pair plane a b ≡ true) ↔ (Makes p a b × EntersFrom p to a b)
    stepping = (stepping_forth, stepping_back)

  module _ (turn : Colour) (s : ℕ) (e : p.turn ≡ turn) (ls : s < 64)
      (free : holds p turn s ≡ false) (after around plane : List ℕ)
      (then : AreValid (entered p s) after) (steps : IsPlaneOf around (steps_onto turn s after))
      (cut : IsPlaneOf plane (λ a b. has_pair around a b && has_pair before a b))
      (a b : ℕ) (la : a < 64) (lb : b < 64) where
    abbrev there : Bool
    there = has_pair after (white_then c a s) (black_then c b s)

    around_at : has_pair around a b ≡ (is_king_step s (king_square c a b) && there)
    around_at = steps a b la lb ∙ ap (λ d. steps_onto d s after a b) (sym e)

    arriving_forth : has_pair plane a b ≡ true →
        Makes p a b × (is_legal (with_kings p a b) (king_step p a b s) ≡ true)
    arriving_forth h =
        let parts = and_parts (has_pair around a b) (has_pair before a b)
        (sym (cut a b la lb) ∙ h) in
        let made = made_by p before are a b la lb parts.1 in
        let onto = and_parts (is_king_step s (king_square c a b)) there
        (sym around_at ∙ parts.0) in (
          made,
          enters p a b s la lb ls made c refl (record {
            step = step_back (king_square c a b) s ∙ onto.0;
            free = ap (λ d. holds p d s) e ∙ free;
            made = made_by (entered p s) after then (white_then c a s) (black_then c b s)
                (white_on c a s la ls) (black_on c b s lb ls) onto.1;
          }),
        )

    arriving_back : Makes p a b × (is_legal (with_kings p a b) (king_step p a b s) ≡ true) →
        has_pair plane a b ≡ true
    arriving_back h =
        let r = entry p a b s la lb ls h.0 c refl h.1 in
        cut a b la lb
        ∙ and_from (has_pair around a b) (has_pair before a b)
        (around_at
        ∙ and_from (is_king_step s (king_square c a b)) there
        (step_back s (king_square c a b) ∙ r.step)
        (put_by (entered p s) after then (white_then c a s) (black_then c b s)
        (white_on c a s la ls) (black_on c b s lb ls) r.made))
        (put_by p before are a b la lb h.0)

    pub arriving : (has_pair plane a b ≡ true)
        ↔ (Makes p a b × (is_legal (with_kings p a b) (king_step p a b s) ≡ true))
    arriving = (arriving_forth, arriving_back)
