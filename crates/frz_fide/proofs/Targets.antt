-- The squares that a man may go to on some board are enough.
use Rattle.std.proofs.Common.{◌≡◌, ℕ, ◌<◌, ◌≤◌, ◌^◌, List, [], ◌++◌, Bool, true, false, ◌&&◌, ◌||◌, not, refl, ap, sym, ◌∙◌, arith, Some, inl, inr}
use Rattle.std.specs.Prelude.{◌==◌, nat_le}
use Rattle.std.proofs.lemmas.Bool.{and_parts, eqb-true, le-leb, and_right, cases_Bool, not-true}
use Rattle.frz_board.specs.declared.man.Colour.{Colour}
use Rattle.frz_board.specs.declared.man.Kind.{Kind}
use Rattle.frz_board.specs.declared.man.Kind.TheVariants.{King, Queen, Rook, Bishop, Knight, Pawn}
use Rattle.frz_board.specs.declared.man.Man.{Man}
use Rattle.frz_board.specs.Squares.{files_apart, is_forward}
use Rattle.frz_board.specs.Lines.{is_rook_line, is_bishop_line}
use Rattle.frz_board.specs.Men.{other_of}
use Rattle.frz_board.specs.Boards.{Board, man_on, holds, is_empty}
use Rattle.frz_board.specs.Attacks.{is_clear, reaches}
use Rattle.frz_bits.specs.Words.{IsNext, HasNoneFrom}
use Rattle.frz_bits.specs.Ways.{may_go}
use Rattle.frz_squares.specs.SquareSets.{set_of, has_square}
use Rattle.frz_squares.proofs.Lemmas.{has-set_of, has-zero, set_of-from}
use Rattle.frz_bits.proofs.Lemmas.{in_set, in_side}
use Rattle.frz_fide.specs.Legal.{goes, is_home, passed_over, is_target}
use Rattle.frz_fide.specs.SquareBySquare.{legal_between, legal_from, legal_by_squares}
use Rattle.frz_board.specs.Moving.{Step}
use Rattle.frz_fide.proofs.Order.{from_below, from_below-zero, from_below-jump, from_below-all, all_below, all_below-jump, all_below-all}
use Rattle.frz_fide.proofs.Skip.{no_way, none_here}

-- the ways of a pawn, by files and ranks
pawn_way : (d1 d0 le f1 x e h f2 y z : Bool) → (d1 ≡ true → le ≡ true) → (d0 ≡ true → le ≡ true) →
    ((((d1 && f1) && x) || ((d0 && f1) && e)) || (((h && (d0 && f2)) && y) || ((d1 && f1) && z)))
    ≡ true → ((le && f1) || (d0 && f2)) ≡ true
pawn_way d1 d0 true true x e h f2 y z i j g = refl
pawn_way true d0 false true x e h f2 y z i j g = let w : false ≡ true = i refl in cc
pawn_way false true false true x e h f2 y z i j g = let w : false ≡ true = j refl in cc
pawn_way false false false true x e true f2 y z i j g = cc
pawn_way false false false true x e false f2 y z i j g = cc
pawn_way d1 true true false x e h true y z i j g = refl
pawn_way d1 true false false x e h true y z i j g = refl
pawn_way true true le false x e true false y z i j g = cc
pawn_way true true le false x e false false y z i j g = cc
pawn_way true false le false x e true f2 y z i j g = cc
pawn_way true false le false x e false f2 y z i j g = cc
pawn_way false true le false x e true false y z i j g = cc
pawn_way false true le false x e false false y z i j g = cc
pawn_way false false le false x e true f2 y z i j g = cc
pawn_way false false le false x e false f2 y z i j g = cc

pub goes_somewhere : (p : Board) (c : Colour) (k : Kind) (a b : ℕ) → goes p c k a b ≡ true →
    may_go c k a b ≡ true
goes_somewhere p c King a b h = h
goes_somewhere p c Queen a b h =
    (and_parts (is_rook_line a b || is_bishop_line a b) (is_clear p a b) h).0
goes_somewhere p c Rook a b h = (and_parts (is_rook_line a b) (is_clear p a b) h).0
goes_somewhere p c Bishop a b h = (and_parts (is_bishop_line a b) (is_clear p a b) h).0
goes_somewhere p c Knight a b h = h
goes_somewhere p c Pawn a b h =
    pawn_way (files_apart a b == 1) (files_apart a b == 0) (nat_le (files_apart a b) 1)
    (is_forward c 1 a b) (holds p (other_of c) b) (is_empty p b) (is_home c a) (is_forward c 2 a b)
    (is_empty p b && is_empty p (passed_over a b)) (is_target p.ep b)
    (λ e. let one = eqb-true (files_apart a b) 1 e in le-leb (files_apart a b) 1 (omega arith))
    (λ e. let none = eqb-true (files_apart a b) 0 e in le-leb (files_apart a b) 1 (omega arith))
    h

stays_out : (m g n : Bool) → (g ≡ true → m ≡ true) → (m && n) ≡ false → (n && g) ≡ false
stays_out true g true i h = cc
stays_out true g false i h = refl
stays_out false true n i h = let w : false ≡ true = i refl in cc
stays_out false false n i h = and_right n false refl

-- no legal move of the man leads to a square that is not among the targets
pub off_target : (p : Board) (man : Man) (a targets moves own : ℕ) (t : Colour) →
    man_on p a ≡ Some man → moves ≡ set_of (λ b. may_go man.colour man.kind a b) →
    own ≡ set_of (λ s. holds p t s) → t ≡ p.turn →
    ((k : ℕ) → k < 64 → has_square targets k ≡ (has_square moves k && not (has_square own k)))
    → (k : ℕ) → k < 64 → has_square targets k ≡ false → legal_between p a k ≡ []
off_target p man a targets moves own t on em eo et h k l out =
    let may : has_square moves k ≡ may_go man.colour man.kind a k = ap (λ w. has_square w k) em
    ∙ has-set_of (λ b. may_go man.colour man.kind a b) k l in
    let held : has_square own k ≡ holds p p.turn k = in_side p t own k eo l
    ∙ ap (λ u. holds p u k) et in
    no_way p a k man on
    (stays_out (may_go man.colour man.kind a k) (goes p man.colour man.kind a k)
    (not (holds p p.turn k)) (goes_somewhere p man.colour man.kind a k)
    (ap (λ x. may_go man.colour man.kind a k && not x) (sym held)
    ∙ ap (λ x. x && not (has_square own k)) (sym may) ∙ sym (h k l) ∙ out))

-- on no target stands a man of the side to move
pub on_target : (p : Board) (targets moves own : ℕ) (t : Colour) → own ≡ set_of (λ s. holds p t s) →
    t ≡ p.turn → ((k : ℕ) → k < 64 →
    has_square targets k ≡ (has_square moves k && not (has_square own k))) → (k : ℕ) → k < 64 →
    has_square targets k ≡ true → holds p p.turn k ≡ false
on_target p targets moves own t eo et h k l there =
    let out = (and_parts (has_square moves k) (not (has_square own k)) (sym (h k l) ∙ there)).1 in
    ap (λ u. holds p u k) (sym et) ∙ sym (in_side p t own k eo l) ∙ not-true (has_square own k) out

-- one of the squares to which the man has a way
abbrev pub has_way : Board → Man → ℕ → ℕ → ℕ → Bool
has_way p man a squares b = has_square squares b && goes p man.colour man.kind a b

-- a man that is no pawn goes where it reaches
piece_goes : (p : Board) (c : Colour) (k : Kind) (a b : ℕ) → (k ≡ Pawn → ⊥) →
    goes p c k a b ≡ reaches p c k a b
piece_goes p c King a b e = refl
piece_goes p c Queen a b e = refl
piece_goes p c Rook a b e = refl
piece_goes p c Bishop a b e = refl
piece_goes p c Knight a b e = refl
piece_goes p c Pawn a b e = absurd (e refl)

-- the squares of a word that a man who is no pawn reaches
pub piece_ways : (p : Board) (man : Man) (a squares w : ℕ) → (man.kind ≡ Pawn → ⊥) →
    w < 2 ^ 64 → ((b : ℕ) → b < 64 →
    has_square w b ≡ (has_square squares b && reaches p man.colour man.kind a b)) →
    w ≡ set_of (has_way p man a squares)
piece_ways p man a squares w e small h =
    set_of-from w (has_way p man a squares) small
    (λ b l. h b l ∙ ap (λ x. has_square squares b && x)
    (sym (piece_goes p man.colour man.kind a b e)))

-- to a square of the ways the man has a way, and it is one of the targets
pub on_way : (p : Board) (man : Man) (a targets ways : ℕ) → ways ≡ set_of (has_way p man a targets) →
    (k : ℕ) → k < 64 → has_square ways k ≡ true →
    (has_square targets k ≡ true) × (goes p man.colour man.kind a k ≡ true)
on_way p man a targets ways e k l h =
    and_parts (has_square targets k) (goes p man.colour man.kind a k)
    (sym (in_set (has_way p man a targets) ways k e l) ∙ h)

-- no legal move of the man leads to a square to which it has no way
pub off_way : (p : Board) (man : Man) (a targets ways : ℕ) → man_on p a ≡ Some man →
    ((k : ℕ) → k < 64 → has_square targets k ≡ false → legal_between p a k ≡ []) →
    ways ≡ set_of (has_way p man a targets) → (k : ℕ) → k < 64 →
    has_square ways k ≡ false → legal_between p a k ≡ []
off_way p man a targets ways on off e k l out =
    let way : Bool = goes p man.colour man.kind a k in
    elim (cases_Bool (has_square targets k)) [
      | inl there ↦
          no_way p a k man on
          (and_right (not (holds p p.turn k)) way
          (ap (λ x. x && way) (sym there)
          ∙ sym (in_set (has_way p man a targets) ways k e l)
          ∙ out))
      | inr none ↦ off k l none
    ]

-- no legal move begins on a square without a man of the side to move
pub off_side : (p : Board) (own : ℕ) (t : Colour) → own ≡ set_of (λ s. holds p t s) → t ≡ p.turn →
    (k : ℕ) → k < 64 → has_square own k ≡ false → legal_from p k ≡ []
off_side p own t e et k l out =
    none_here p k (ap (λ u. holds p u k) (sym et) ∙ sym (in_side p t own k e l) ∙ out)

pub on_side : (p : Board) (own : ℕ) (t : Colour) → own ≡ set_of (λ s. holds p t s) → t ≡ p.turn →
    (k : ℕ) → k < 64 → has_square own k ≡ true → holds p p.turn k ≡ true
on_side p own t e et k l h = ap (λ u. holds p u k) (sym et) ∙ sym (in_side p t own k e l) ∙ h

-- a walk over the targets of a man collects its moves
module _ (start : List Step) (p : Board) (a w : ℕ)
    (out : (k : ℕ) → k < 64 → has_square w k ≡ false → legal_between p a k ≡ []) where
  pub from_next : (n s : ℕ) (list : List Step) → list ≡ from_below start p a n → IsNext w n s →
      list ≡ from_below start p a s
  from_next n s list e next =
      let on = next.on_board in
      e ∙ sym (from_below-jump start p a n s next.from (omega arith)
      (λ k i m. out k (omega arith) (next.first k i m)))

  pub from_end : (n : ℕ) (list : List Step) → n ≤ 64 → list ≡ from_below start p a n →
      HasNoneFrom w n → list ≡ start ++ legal_from p a
  from_end n list l e none =
      e ∙ sym (from_below-jump start p a n 64 l (omega arith) (λ k i m. out k m (none.none k i m)))
      ∙ from_below-all start p a 64 (omega arith)

  -- an empty word: the man has no legal move
  pub from_none : w ≡ 0 → start ≡ start ++ legal_from p a
  from_none e =
      from_end 0 start (omega arith) (sym (from_below-zero start p a))
      (record { none = λ k i m. ap (λ v. has_square v k) e ∙ has-zero k })

-- a walk over the men of the side to move collects all moves
module _ (p : Board) (w : ℕ)
    (out : (k : ℕ) → k < 64 → has_square w k ≡ false → legal_from p k ≡ []) where
  pub all_next : (n s : ℕ) (list : List Step) → list ≡ all_below p n → IsNext w n s →
      list ≡ all_below p s
  all_next n s list e next =
      let on = next.on_board in
      e ∙ sym (all_below-jump p n s next.from (omega arith)
      (λ k i m. out k (omega arith) (next.first k i m)))

  pub all_end : (n : ℕ) (list : List Step) → n ≤ 64 → list ≡ all_below p n → HasNoneFrom w n →
      list ≡ legal_by_squares p
  all_end n list l e none =
      e ∙ sym (all_below-jump p n 64 l (omega arith) (λ k i m. out k m (none.none k i m)))
      ∙ all_below-all p 64 (omega arith)
