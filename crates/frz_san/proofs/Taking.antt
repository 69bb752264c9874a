-- The ways of a pawn: it captures exactly where it leaves its file.
use Rattle.std.proofs.Common.{◌≡◌, ◌≢◌, ℕ, not, Bool, true, false, ◌&&◌, ◌||◌, Some, refl, ap, sym, ◌∙◌, arith, ◌⊎◌, inl, inr, slice_index}
use Rattle.std.specs.Prelude.{◌==◌}
use Rattle.std.proofs.lemmas.Bool.{eqb-true, eq-eqb, and_parts, or_cases}
use Rattle.std.proofs.lemmas.Bool.Decides.{eqb_tells}
use Rattle.frz_board.specs.Boards.{Board, man_on, is_empty, holds}
use Rattle.frz_board.specs.Attacks.{pawn_reaches}
use Rattle.frz_board.specs.declared.man.Colour.{Colour}
use Rattle.frz_board.specs.declared.man.Kind.TheVariants.{Pawn}
use Rattle.frz_board.specs.declared.man.Man.{Man}
use Rattle.frz_board.specs.Men.{other_of, is_pawn, is_man_of, man_of_cell}
use Rattle.frz_board.specs.Moving.{Step}
use Rattle.frz_board.specs.Squares.{file_of, files_apart, is_forward}
use Rattle.frz_fide.specs.Legal.{is_legal, goes, captures, steps, advances, takes_in_passing, passed_over, is_home, is_target}
use Rattle.frz_fide.proofs.Lemmas.{Move, facts, straight_no_taking}
use Rattle.frz_san.specs.Notation.{is_capture}

-- one square diagonally, to capture; one straight on; or two straight on
pub data Way (p : Board) (c : Colour) (a b : ℕ) : Type 0 where
  diagonal : files_apart a b ≡ 1 → is_forward c 1 a b ≡ true →
      (is_empty p b ≡ false) ⊎ (takes_in_passing p c a b ≡ true) → Way p c a b
  straight : files_apart a b ≡ 0 → is_forward c 1 a b ≡ true → is_empty p b ≡ true → Way p c a b
  double : files_apart a b ≡ 0 → is_forward c 2 a b ≡ true → is_empty p b ≡ true →
      is_empty p (passed_over a b) ≡ true → Way p c a b

-- a man stands on no empty square
pub held : (p : Board) (d : Colour) (b : ℕ) → holds p d b ≡ true → is_empty p b ≡ false
held p d b h =
    elim (eqb_tells (slice_index p.cells b) 0) [
      | inl w ↦ absurd (let none = ap (λ x. is_man_of d (man_of_cell x)) w.1 in cc)
      | inr w ↦ w.0
    ]

reach_parts : (c : Colour) (a b : ℕ) → pawn_reaches c a b ≡ true →
    (files_apart a b ≡ 1) × (is_forward c 1 a b ≡ true)
reach_parts c a b h =
    let parts = and_parts (files_apart a b == 1) (is_forward c 1 a b) h in
    (eqb-true (files_apart a b) 1 parts.0, parts.1)

way_captures : (p : Board) (c : Colour) (a b : ℕ) → captures p c a b ≡ true → Way p c a b
way_captures p c a b h =
    let parts = and_parts (pawn_reaches c a b) (holds p (other_of c) b) h in
    let reach = reach_parts c a b parts.0 in
    diagonal reach.0 reach.1 (inl (held p (other_of c) b parts.1))

way_steps : (p : Board) (c : Colour) (a b : ℕ) → steps p c a b ≡ true → Way p c a b
way_steps p c a b h =
    let parts = and_parts (files_apart a b == 0 && is_forward c 1 a b) (is_empty p b) h in
    let ahead = and_parts (files_apart a b == 0) (is_forward c 1 a b) parts.0 in
    straight (eqb-true (files_apart a b) 0 ahead.0) ahead.1 parts.1

way_advances : (p : Board) (c : Colour) (a b : ℕ) → advances p c a b ≡ true → Way p c a b
way_advances p c a b h =
    let parts = and_parts (is_home c a && (files_apart a b == 0 && is_forward c 2 a b))
    (is_empty p b && is_empty p (passed_over a b)) h in
    let home = and_parts (is_home c a) (files_apart a b == 0 && is_forward c 2 a b) parts.0 in
    let ahead = and_parts (files_apart a b == 0) (is_forward c 2 a b) home.1 in
    let empty = and_parts (is_empty p b) (is_empty p (passed_over a b)) parts.1 in
    double (eqb-true (files_apart a b) 0 ahead.0) ahead.1 empty.0 empty.1

way_passing : (p : Board) (c : Colour) (a b : ℕ) → takes_in_passing p c a b ≡ true → Way p c a b
way_passing p c a b h =
    let parts = and_parts (pawn_reaches c a b) (is_target p.ep b) h in
    let reach = reach_parts c a b parts.0 in
    diagonal reach.0 reach.1 (inr h)

way : (p : Board) (c : Colour) (a b : ℕ) → goes p c Pawn a b ≡ true → Way p c a b
way p c a b h =
    elim (or_cases (captures p c a b || steps p c a b)
    (advances p c a b || takes_in_passing p c a b) h) [
      | inl w ↦ elim (or_cases (captures p c a b) (steps p c a b) w)
          [ inl v ↦ way_captures p c a b v | inr v ↦ way_steps p c a b v ]
      | inr w ↦ elim (or_cases (advances p c a b) (takes_in_passing p c a b) w)
          [ inl v ↦ way_advances p c a b v | inr v ↦ way_passing p c a b v ]
    ]

-- the way of a legal pawn move
pub way_of : (p : Board) (m : Step) → (f : Move p m) → f.man.kind ≡ Pawn →
    Way p f.man.colour m.from m.to
way_of p m f k =
    way p f.man.colour m.from m.to (sym (ap (λ x. goes p f.man.colour x m.from m.to) k) ∙ f.way)

is_a_capture : (e t k : Bool) → k ≡ true → (e ≡ false) ⊎ (t ≡ true) → (not e || (k && t)) ≡ true
is_a_capture false t k h w = refl
is_a_capture true t k h (inl e) = cc
is_a_capture true t k h (inr e) = rw (h, e)

not_taken : (e t k : Bool) → e ≡ true → t ≡ false → (not e || (k && t)) ≡ false
not_taken e t true h w = rw (h, w)
not_taken e t false h w = rw h

by_way : (p : Board) (man : Man) (m : Step) → man.kind ≡ Pawn → Way p man.colour m.from m.to →
    is_capture p man m ≡ not (file_of m.from == file_of m.to)
by_way p man m k (diagonal apart forward taken) =
    let differ : file_of m.from ≢ file_of m.to = omega arith in
    is_a_capture (is_empty p m.to) (takes_in_passing p man.colour m.from m.to) (is_pawn man.kind)
    (ap is_pawn k) taken
    ∙ elim (eqb_tells (file_of m.from) (file_of m.to))
    [ inl w ↦ absurd (differ w.1) | inr w ↦ sym (ap not w.0) ]
by_way p man m k (straight apart forward empty) =
    not_taken (is_empty p m.to) (takes_in_passing p man.colour m.from m.to) (is_pawn man.kind) empty
    (straight_no_taking p man.colour m.from m.to apart)
    ∙ sym (ap not (eq-eqb (file_of m.from) (file_of m.to) (omega arith)))
by_way p man m k (double apart forward empty between) =
    not_taken (is_empty p m.to) (takes_in_passing p man.colour m.from m.to) (is_pawn man.kind) empty
    (straight_no_taking p man.colour m.from m.to apart)
    ∙ sym (ap not (eq-eqb (file_of m.from) (file_of m.to) (omega arith)))

pub captures_by_file : (p : Board) (man : Man) (m : Step) → man_on p m.from ≡ Some man →
    is_legal p m ≡ true → man.kind ≡ Pawn →
    is_capture p man m ≡ not (file_of m.from == file_of m.to)
captures_by_file p man m on h k =
    let f = facts p m h in
    let both : Some f.man ≡ Some man = sym f.on ∙ on in let same : f.man ≡ man = cc in
    sym (ap (λ x. is_capture p x m) same) ∙ by_way p f.man m (ap (λ (x : Man). x.kind) same ∙ k)
    (way_of p m f (ap (λ (x : Man). x.kind) same ∙ k))
