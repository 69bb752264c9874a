-- The squares that a pawn need not look at.
use Rattle.std.proofs.Common.{◌≡◌, ℕ, ◌<◌, Bool, true, false, ◌&&◌, ◌||◌, not, refl, ap, sym, ◌∙◌, arith, None, inl, inr}
use Rattle.std.specs.Prelude.{◌==◌}
use Rattle.std.proofs.lemmas.Bool.{and_left, and_right, and_parts, cases_Bool, not-true}
use Rattle.std.proofs.lemmas.Bool.Decides.{nat_tests}
use Rattle.std.proofs.Math.Bool.{not-not}
use Rattle.frz_board.specs.declared.man.Colour.{Colour}
use Rattle.frz_board.specs.declared.man.Kind.TheVariants.{Pawn}
use Rattle.frz_board.specs.Attacks.{pawn_reaches}
use Rattle.frz_board.specs.Boards.{Board, holds, is_empty}
use Rattle.frz_board.specs.Men.{other_of}
use Rattle.frz_board.specs.Squares.{files_apart, is_forward}
use Rattle.frz_fide.specs.Legal.{advances, captures, goes, is_home, is_target, passed_over, steps, takes_in_passing}
use Rattle.frz_squares.specs.SquareSets.{has_square, set_of}
use Rattle.frz_bits.proofs.Lemmas.{in_set, in_side}

none_of_four : (w x y z : Bool) → w ≡ false → x ≡ false → y ≡ false → z ≡ false →
    ((w || x) || (y || z)) ≡ false
none_of_four w x y z a b c d = rw (a, b, c, d) refl

off_file : (f : ℕ) → (f == 1) ≡ true → (f == 0) ≡ false
off_file f h = grind (arith, nat_tests)

-- without a target a pawn goes diagonally only where a man of the other side stands
takes_none : (p : Board) (c : Colour) (a b : ℕ) → p.ep ≡ None → pawn_reaches c a b ≡ true →
    holds p (other_of c) b ≡ false → goes p c Pawn a b ≡ false
takes_none p c a b none on free =
    let file : (files_apart a b == 0) ≡ false = off_file (files_apart a b)
    (and_parts (files_apart a b == 1) (is_forward c 1 a b) on).0 in
    none_of_four (captures p c a b) (steps p c a b) (advances p c a b) (takes_in_passing p c a b)
    (and_right (pawn_reaches c a b) (holds p (other_of c) b) free)
    (and_left (files_apart a b == 0 && is_forward c 1 a b) (is_empty p b)
    (and_left (files_apart a b == 0) (is_forward c 1 a b) file))
    (and_left (is_home c a && (files_apart a b == 0 && is_forward c 2 a b))
    (is_empty p b && is_empty p (passed_over a b))
    (and_right (is_home c a) (files_apart a b == 0 && is_forward c 2 a b)
    (and_left (files_apart a b == 0) (is_forward c 2 a b) file)))
    (and_right (pawn_reaches c a b) (is_target p.ep b) (ap (λ o. is_target o b) none))

-- elsewhere it goes only to empty squares
is_stopped : (p : Board) (c : Colour) (a b : ℕ) → pawn_reaches c a b ≡ false →
    is_empty p b ≡ false → goes p c Pawn a b ≡ false
is_stopped p c a b off full =
    none_of_four (captures p c a b) (steps p c a b) (advances p c a b) (takes_in_passing p c a b)
    (and_left (pawn_reaches c a b) (holds p (other_of c) b) off)
    (and_right (files_apart a b == 0 && is_forward c 1 a b) (is_empty p b) full)
    (and_right (is_home c a && (files_apart a b == 0 && is_forward c 2 a b))
    (is_empty p b && is_empty p (passed_over a b))
    (and_left (is_empty p b) (is_empty p (passed_over a b)) full))
    (and_left (pawn_reaches c a b) (is_target p.ep b) off)

not-false : (x : Bool) → not x ≡ false → x ≡ true
not-false x h = sym (not-not x) ∙ ap not h

both : (x y v w : Bool) → x ≡ v → y ≡ w → (x && y) ≡ (v && w)
both x y v w h i = rw (h, i) refl

module _ (p : Board) (c t : Colour) (a squares slanting side occupied untaken blocked near result : ℕ)
    (none : p.ep ≡ None) (et : t ≡ other_of c) (ed : slanting ≡ set_of (λ b. pawn_reaches c a b))
    (es : side ≡ set_of (λ s. holds p t s)) (eo : occupied ≡ set_of (λ s. not (is_empty p s)))
    (hu : (k : ℕ) → k < 64 → has_square untaken k ≡ (has_square slanting k && not (has_square side k)))
    (hb : (k : ℕ) → k < 64 → has_square blocked k
    ≡ (has_square occupied k && not (has_square slanting k)))
    (hn : (k : ℕ) → k < 64 → has_square near k ≡ (has_square squares k && not (has_square untaken k)))
    (hr : (k : ℕ) → k < 64 → has_square result k ≡ (has_square near k && not (has_square blocked k)))
  where
    diagonal : (k : ℕ) → k < 64 → has_square slanting k ≡ pawn_reaches c a k
    diagonal k l = in_set (λ b. pawn_reaches c a b) slanting k ed l

    pub within : (k : ℕ) → k < 64 → has_square result k ≡ true → has_square squares k ≡ true
    within k l h =
        (and_parts (has_square squares k) (not (has_square untaken k))
        (sym (hn k l)
        ∙ (and_parts (has_square near k) (not (has_square blocked k)) (sym (hr k l) ∙ h)).0)).0

    goes_nowhere : (k : ℕ) → k < 64 → has_square squares k ≡ true → has_square result k ≡ false →
        goes p c Pawn a k ≡ false
    goes_nowhere k l on out =
        elim (cases_Bool (has_square untaken k)) [
          | inl free ↦
              let parts = and_parts (has_square slanting k) (not (has_square side k))
              (sym (hu k l) ∙ free) in
              takes_none p c a k none (sym (diagonal k l) ∙ parts.0)
              (ap (λ u. holds p u k) (sym et) ∙ sym (in_side p t side k es l)
              ∙ not-true (has_square side k) parts.1)
          | inr taken ↦
              let here : has_square near k ≡ true = hn k l
              ∙ both (has_square squares k) (not (has_square untaken k)) true true on (ap not taken) in
              let full : has_square blocked k ≡ true = not-false (has_square blocked k)
              (ap (λ x. x && not (has_square blocked k)) (sym here) ∙ sym (hr k l) ∙ out) in
              let parts = and_parts (has_square occupied k) (not (has_square slanting k))
              (sym (hb k l) ∙ full) in
              is_stopped p c a k
              (sym (diagonal k l) ∙ not-true (has_square slanting k) parts.1)
              (not-true (is_empty p k)
              (sym (in_set (λ s. not (is_empty p s)) occupied k eo l) ∙ parts.0))
        ]

    pub others : (k : ℕ) → k < 64 → has_square result k ≡ false →
        (has_square squares k && goes p c Pawn a k) ≡ false
    others k l out =
        elim (cases_Bool (has_square squares k)) [
          | inl on ↦ and_right (has_square squares k) (goes p c Pawn a k) (goes_nowhere k l on out)
          | inr off ↦ and_left (has_square squares k) (goes p c Pawn a k) off
        ]
