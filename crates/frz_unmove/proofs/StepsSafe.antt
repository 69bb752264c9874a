-- Before a step, the king of the side that was not to move is attacked by the man that stepped
-- alone, where no other man attacks it.
use Rattle.std.proofs.Common.{◌≡◌, ◌≢◌, ℕ, ◌<◌, Bool, true, false, cond, ◌&&◌, ◌||◌, Option, Some, length, slice_index, slice_set, length-set, get_or-set_other, get_or-set_same, refl, ap, sym, ◌∙◌, arith, inl, inr}
use Rattle.std.specs.Prelude.{◌==◌, not}
use Rattle.std.proofs.lemmas.Bool.{and_from, and_parts, cases_eq, eq-eqb, eqb-true}
use Rattle.std.proofs.lemmas.Bool.Decides.{nat_tests}
use Rattle.std.proofs.lemmas.List.Sums.{sum_by-set}
use Rattle.frz_board.proofs.Lemmas.{attacks_too, cell_forth, cell-some, other_differs}
use Rattle.frz_board.specs.declared.man.Colour.{Colour}
use Rattle.frz_board.specs.declared.man.Colour.TheVariants.{White, Black}
use Rattle.frz_board.specs.declared.man.Kind.{Kind}
use Rattle.frz_board.specs.declared.man.Kind.TheVariants.{King, Queen, Rook, Bishop, Knight, Pawn}
use Rattle.frz_board.specs.declared.man.Man.{Man}
use Rattle.frz_board.specs.Attacks.{attacks, is_attacked, is_clear, is_in_check, man_reaches, reaches}
use Rattle.frz_board.specs.Boards.{Board, has, holds, is_empty, man_on}
use Rattle.frz_board.specs.Lines.{is_between, is_bishop_line, is_rook_line}
use Rattle.frz_board.specs.Men.{cell_of_man, is_man_of, man_of_cell, other_of, same_colour}
use Rattle.frz_board.specs.Shapes.{count_of, has_kings}
use Rattle.frz_squares.proofs.Lemmas.{all_squares-same, any_square, some_square}
use Rattle.frz_fide.proofs.Lemmas.{same_tests}
use Rattle.frz_fide.specs.Valid.{IsValid}
use Rattle.frz_index.proofs.Lemmas.{at_to, same_man}
use Rattle.frz_index.specs.Stepping.{IsStep, stepped}

abbrev one : (ℕ → Bool) → ℕ → ℕ
one f x = cond (f x) 1 0

no_king : (d : Colour) → (0 == cell_of_man (record { colour = d; kind = King })) ≡ false
no_king White = refl
no_king Black = refl

kings_of : (p : Board) (c : Colour) → has_kings p ≡ true → count_of p c King ≡ 1
unfolding has_kings
kings_of p White h =
    eqb-true (count_of p White King) 1
    (and_parts (count_of p White King == 1) (count_of p Black King == 1) h).0
kings_of p Black h =
    eqb-true (count_of p Black King) 1
    (and_parts (count_of p White King == 1) (count_of p Black King == 1) h).1

only_king : (p : Board) (c : Colour) (a b : ℕ) → length p.cells ≡ 64 → has_kings p ≡ true →
    a < 64 → b < 64 → has p c King a ≡ true → has p c King b ≡ true → a ≢ b → ⊥
only_king p c a b size kings la lb ha hb ab =
    let f : ℕ → Bool = λ x. x == cell_of_man (record { colour = c; kind = King }) in
    let zero : one f 0 ≡ 0 = ap (λ x. cond x 1 0) (no_king c) in
    let first = sum_by-set (one f) p.cells a 0 0 (omega (arith, size, la)) in
    let lb' : b < length (slice_set p.cells a 0) = rw length-set (omega (arith, size, lb)) in
    let second = sum_by-set (one f) (slice_set p.cells a 0) b 0 0 lb' in
    let ba : b ≢ a = λ w. ab (sym w) in
    let same = ap (one f) (get_or-set_other p.cells a b 0 0 ba) in
    let one_a : one f (slice_index p.cells a) ≡ 1 = ap (λ x. cond x 1 0) ha in
    let one_b : one f (slice_index p.cells b) ≡ 1 = ap (λ x. cond x 1 0) hb in
    let all = kings_of p c kings in
    omega (arith, zero, first, second, same, one_a, one_b, all)

-- the beginning of a line does not stand between
start_apart : (a b : ℕ) → is_between a a b ≡ false
start_apart a b = grind (arith, nat_tests)

same_as_itself : (c : Colour) → same_colour c c ≡ true
same_as_itself White = refl
same_as_itself Black = refl

module _ (q : Board) (man : Man) (a b : ℕ) (target : Option ℕ) (h : IsStep q man a b)
    (v : IsValid q) (other : man.colour ≡ other_of q.turn) where
  abbrev p : Board
  p = stepped q man a b target

  abbrev bare : Board
  bare = record q { cells = slice_set q.cells a 0 }

  same : (s : ℕ) → s ≢ b → slice_index p.cells s ≡ slice_index bare.cells s
  same s n = get_or-set_other bare.cells b s (cell_of_man man) 0 n

  clear_from : (y : ℕ) → is_clear p b y ≡ is_clear bare b y
  clear_from y =
      all_squares-same (λ s. not (is_between b s y) || is_empty p s)
      (λ s. not (is_between b s y) || is_empty bare s)
      (λ s l. elim (cases_eq s b) [
        | inl e ↦
            let none : is_between b s y ≡ false = ap (λ k. is_between b k y) e ∙ start_apart b y in
            ap (λ t. not t || is_empty p s) none ∙ sym (ap (λ t. not t || is_empty bare s) none)
        | inr n ↦ ap (λ x. not (is_between b s y) || (x == 0)) (same s n)
      ])

  -- from where it goes back to, the man reaches as on the board without it
  pub reaches_from : (c : Colour) (k : Kind) (y : ℕ) → reaches bare c k b y ≡ reaches p c k b y
  reaches_from c King y = refl
  reaches_from c Queen y =
      ap (λ t. (is_rook_line b y || is_bishop_line b y) && t) (sym (clear_from y))
  reaches_from c Rook y = ap (λ t. is_rook_line b y && t) (sym (clear_from y))
  reaches_from c Bishop y = ap (λ t. is_bishop_line b y && t) (sym (clear_from y))
  reaches_from c Knight y = refl
  reaches_from c Pawn y = refl

  apart : a ≢ b
  apart e =
      let some = cell-some man.colour man.kind in
      let here = ap (slice_index q.cells) e in
      omega (arith, h.stood, h.free, here, some)

  free : slice_index bare.cells b ≡ 0
  free = get_or-set_other q.cells a b 0 0 (λ e. apart (sym e)) ∙ h.free

  there : slice_index p.cells b ≡ cell_of_man man
  there = at_to q man a b target h

  man_there : man_on p b ≡ Some man
  man_there = ap man_of_cell there ∙ cell_forth man.colour man.kind

  emptier : (s : ℕ) → s < 64 → is_empty p s ≡ true → is_empty bare s ≡ true
  emptier s l e =
      elim (cases_eq s b) [
        | inl i ↦ eq-eqb (slice_index bare.cells s) 0 (ap (slice_index bare.cells) i ∙ free)
        | inr n ↦ ap (λ x. x == 0) (sym (same s n)) ∙ e
      ]

  -- the man is no king of the side to move
  no_own_king : cell_of_man man ≡ cell_of_man (record { colour = q.turn; kind = King }) → ⊥
  no_own_king e =
      let is = same_man man (record { colour = q.turn; kind = King }) e in
      other_differs q.turn (sym other ∙ ap (λ (m : Man). m.colour) is)

  module _ (k : ℕ) (on : k < 64) (king : has q q.turn King k ≡ true)
      (safe : is_in_check bare q.turn ≡ false) where
    abbrev royal : ℕ
    royal = cell_of_man (record { colour = q.turn; kind = King })

    king_is : slice_index q.cells k ≡ royal
    king_is = eqb-true (slice_index q.cells k) royal king

    off_a : k ≢ a
    off_a e = no_own_king (sym h.stood ∙ sym (ap (slice_index q.cells) e) ∙ king_is)

    off_b : k ≢ b
    off_b e =
        let some = cell-some q.turn King in
        let here = ap (slice_index q.cells) e in
        omega (arith, king_is, h.free, here, some)

    found : is_in_check p q.turn ≡ true → reaches bare man.colour man.kind b k ≡ true
    found e =
        let s = some_square (λ s. has p q.turn King s && is_attacked p s (other_of q.turn)) e in
        let here = and_parts (has p q.turn King s.square)
        (is_attacked p s.square (other_of q.turn)) s.passes in
        let x = some_square (λ x. holds p (other_of q.turn) x && attacks p x s.square) here.1 in
        let hit = and_parts (holds p (other_of q.turn) x.square)
        (attacks p x.square s.square) x.passes in
        let stands : slice_index p.cells s.square ≡ royal =
        eqb-true (slice_index p.cells s.square) royal here.0 in
        let not_b : s.square ≢ b = λ i.
        no_own_king (sym there ∙ ap (slice_index p.cells) (sym i) ∙ stands) in
        let on_bare : slice_index bare.cells s.square ≡ royal =
        sym (same s.square not_b) ∙ stands in
        let not_a : s.square ≢ a = λ i.
        let some = cell-some q.turn King in
        let gone = get_or-set_same q.cells a 0 0
        (omega (arith, h.size, h.from)) in
        let here = ap (slice_index bare.cells) i in
        omega (arith, on_bare, gone, here, some) in
        let in_q : has q q.turn King s.square ≡ true =
        eq-eqb (slice_index q.cells s.square) royal
        (sym (get_or-set_other q.cells a s.square 0 0 not_a) ∙ on_bare) in
        let is_k : s.square ≡ k = elim (cases_eq s.square k) [
          | inl i ↦ i
          | inr n ↦ absurd (only_king q q.turn s.square k v.fits.size v.kings s.on_board on in_q
              king n)
        ] in
        elim (cases_eq x.square b) [
          | inl i ↦
              ap (reaches bare man.colour man.kind b) (sym is_k)
              ∙ reaches_from man.colour man.kind s.square
              ∙ sym (ap (λ o. man_reaches p o b s.square) man_there)
              ∙ ap (λ y. attacks p y s.square) (sym i) ∙ hit.1
          | inr n ↦
              let before : attacks bare x.square s.square ≡ true =
              attacks_too p bare emptier x.square s.square (same x.square n) hit.1 in
              let attacked : is_attacked bare s.square (other_of q.turn) ≡ true =
              any_square (λ y. holds bare (other_of q.turn) y && attacks bare y s.square) x.square
              x.on_board
              (and_from (holds bare (other_of q.turn) x.square) (attacks bare x.square s.square)
              (ap (λ c. is_man_of (other_of q.turn) (man_of_cell c)) (sym (same x.square n))
              ∙ hit.0) before) in
              let check : is_in_check bare q.turn ≡ true =
              any_square (λ y. has bare q.turn King y && is_attacked bare y (other_of q.turn))
              s.square s.on_board
              (and_from (has bare q.turn King s.square)
              (is_attacked bare s.square (other_of q.turn))
              (eq-eqb (slice_index bare.cells s.square) royal on_bare) attacked) in
              absurd cc
        ]

    back : reaches bare man.colour man.kind b k ≡ true → is_in_check p q.turn ≡ true
    back e =
        let king_p : has p q.turn King k ≡ true =
        eq-eqb (slice_index p.cells k) royal
        (same k off_b ∙ get_or-set_other q.cells a k 0 0 off_a ∙ king_is) in
        let hit : attacks p b k ≡ true = ap (λ o. man_reaches p o b k) man_there
        ∙ sym (reaches_from man.colour man.kind k) ∙ e in
        let own : holds p (other_of q.turn) b ≡ true = ap (is_man_of (other_of q.turn)) man_there
        ∙ ap (λ c. same_colour c (other_of q.turn)) other ∙ same_as_itself (other_of q.turn) in
        any_square (λ y. has p q.turn King y && is_attacked p y (other_of q.turn)) k on
        (and_from (has p q.turn King k) (is_attacked p k (other_of q.turn)) king_p
        (any_square (λ y. holds p (other_of q.turn) y && attacks p y k) b h.to
        (and_from (holds p (other_of q.turn) b) (attacks p b k) own hit)))

    -- the king is attacked before the step exactly where the man reaches it from there
    pub checks_from : reaches bare man.colour man.kind b k ≡ is_in_check p q.turn
    checks_from =
        same_tests (reaches bare man.colour man.kind b k) (is_in_check p q.turn) back found
