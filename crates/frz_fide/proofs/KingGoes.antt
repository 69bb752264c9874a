-- A king is attacked after its move exactly where the square
-- that it goes to is attacked without it.
use Rattle.std.proofs.Common.{◌≡◌, ◌≢◌, ℕ, ◌<◌, length, refl, ap, sym, ◌∙◌, Bool, true, false, cond, ◌&&◌, ◌||◌, not, arith, Option, None, Some, slice_index, slice_set, length-set, get_or-set_same, get_or-set_other, inl, inr}
use Rattle.std.specs.Prelude.{◌==◌}
use Rattle.std.proofs.lemmas.Bool.{eqb-true, eq-eqb, cases_eq, and_parts, and_from}
use Rattle.std.proofs.lemmas.Bool.Decides.{nat_tests}
use Rattle.frz_board.specs.declared.man.Colour.{Colour}
use Rattle.frz_board.specs.declared.man.Colour.TheVariants.{White, Black}
use Rattle.frz_board.specs.declared.man.Kind.{Kind}
use Rattle.frz_board.specs.declared.man.Kind.TheVariants.{King, Queen, Rook, Bishop, Knight, Pawn}
use Rattle.frz_board.specs.declared.man.Man.{Man}
use Rattle.frz_board.specs.Lines.{is_rook_line, is_bishop_line, is_between}
use Rattle.frz_board.specs.Men.{other_of, is_man_of, cell_of_man, man_of_cell}
use Rattle.frz_board.specs.Boards.{Board, man_on, is_empty, holds, has}
use Rattle.frz_board.specs.Attacks.{is_clear, reaches, man_reaches, attacks, is_attacked, is_in_check}
use Rattle.frz_board.specs.Shapes.{count_of, has_kings}
use Rattle.frz_board.specs.Moving.{Step}
use Rattle.frz_fide.specs.Legal.{can_go, man_goes, goes, promotes, arrives, after, after_man}
use Rattle.frz_fide.specs.Exposing.{is_king, without}
use Rattle.frz_fide.specs.Valid.{IsValid}
use Rattle.frz_squares.proofs.Lemmas.{each_square, all_squares, some_square, any_square}
use Rattle.frz_board.proofs.Lemmas.{cell_back}
use Rattle.frz_fide.proofs.CountsKept.{one, count_then}
use Rattle.frz_fide.proofs.Kings.{zero_king}
use Rattle.frz_fide.proofs.Colours.{same_side}

-- two tests that follow from each other are the same
pub same_tests : (s t : Bool) → (s ≡ true → t ≡ true) → (t ≡ true → s ≡ true) → s ≡ t
same_tests true t f g = sym (f refl)
same_tests false true f g = g refl
same_tests false false f g = refl

-- no man attacks its own square
reaches_none : (p : Board) (c : Colour) (k : Kind) (a : ℕ) → reaches p c k a a ≡ false
reaches_none p White King a = grind (arith, nat_tests)
reaches_none p White Queen a = grind (arith, nat_tests)
reaches_none p White Rook a = grind (arith, nat_tests)
reaches_none p White Bishop a = grind (arith, nat_tests)
reaches_none p White Knight a = grind (arith, nat_tests)
reaches_none p White Pawn a = grind (arith, nat_tests)
reaches_none p Black King a = grind (arith, nat_tests)
reaches_none p Black Queen a = grind (arith, nat_tests)
reaches_none p Black Rook a = grind (arith, nat_tests)
reaches_none p Black Bishop a = grind (arith, nat_tests)
reaches_none p Black Knight a = grind (arith, nat_tests)
reaches_none p Black Pawn a = grind (arith, nat_tests)

attacks_none : (p : Board) (o : Option Man) (a : ℕ) → man_reaches p o a a ≡ false
attacks_none p None a = refl
attacks_none p (Some man) a = reaches_none p man.colour man.kind a

-- the end of a line does not stand between
end_apart : (a b : ℕ) → is_between a b b ≡ false
end_apart a b = grind (arith, nat_tests)

-- two boards that are the same but for the square b
module _ (q p : Board) (b : ℕ)
    (same : (s : ℕ) → s ≢ b → slice_index q.cells s ≡ slice_index p.cells s) where
  clear_there : (a : ℕ) → is_clear q a b ≡ true → is_clear p a b ≡ true
  clear_there a h =
      all_squares (λ s. not (is_between a s b) || is_empty p s)
      (λ s l. elim (cases_eq s b) [
        | inl e ↦ ap (λ x. not x || is_empty p s) (ap (λ k. is_between a k b) e ∙ end_apart a b)
        | inr ne ↦ ap (λ x. not (is_between a s b) || (x == 0)) (sym (same s ne))
            ∙ each_square (λ k. not (is_between a k b) || is_empty q k) h s l
      ])

  along : (x : Bool) (a : ℕ) → (x && is_clear q a b) ≡ true → (x && is_clear p a b) ≡ true
  along x a h =
      let parts = and_parts x (is_clear q a b) h in and_from x (is_clear p a b) parts.0
      (clear_there a parts.1)

  reaches_there : (c : Colour) (k : Kind) (a : ℕ) → reaches q c k a b ≡ true →
      reaches p c k a b ≡ true
  reaches_there c King a h = h
  reaches_there c Queen a h = along (is_rook_line a b || is_bishop_line a b) a h
  reaches_there c Rook a h = along (is_rook_line a b) a h
  reaches_there c Bishop a h = along (is_bishop_line a b) a h
  reaches_there c Knight a h = h
  reaches_there c Pawn a h = h

  man_reaches_there : (o : Option Man) (a : ℕ) → man_reaches q o a b ≡ true →
      man_reaches p o a b ≡ true
  man_reaches_there None a h = h
  man_reaches_there (Some man) a h = reaches_there man.colour man.kind a h

  -- what attacks b from another square on the one attacks it on the other
  attacked_there : (by : Colour) → is_attacked q b by ≡ true → is_attacked p b by ≡ true
  attacked_there by h =
      let man = some_square (λ a. holds q by a && attacks q a b) h in
      let hit = and_parts (holds q by man.square) (attacks q man.square b) man.passes in
      elim (cases_eq man.square b) [
        | inl e ↦ absurd (
            let none = attacks_none q (man_on q b) b in
            let own = ap (λ a. attacks q a b) (sym e) ∙ hit.1 in
            cc)
        | inr ne ↦
            any_square (λ a. holds p by a && attacks p a b) man.square man.on_board
            (and_from (holds p by man.square) (attacks p man.square b)
            (ap (λ x. is_man_of by (man_of_cell x)) (sym (same man.square ne)) ∙ hit.0)
            (ap (λ x. man_reaches p (man_of_cell x) man.square b) (sym (same man.square ne))
            ∙ man_reaches_there (man_on q man.square) man.square hit.1))
      ]

-- a side with one king has no second
kings_of : (p : Board) (c : Colour) → has_kings p ≡ true → count_of p c King ≡ 1
unfolding has_kings
kings_of p White h =
    eqb-true (count_of p White King) 1
    (and_parts (count_of p White King == 1) (count_of p Black King == 1) h).0
kings_of p Black h =
    eqb-true (count_of p Black King) 1
    (and_parts (count_of p White King == 1) (count_of p Black King == 1) h).1

only_king : (p : Board) (c : Colour) (a b : ℕ) → length p.cells ≡ 64 → has_kings p ≡ true →
    a < 64 → b < 64 → has p c King a ≡ true → has p c King b ≡ true → a ≢ b → ⊥
only_king p c a b size kings la lb ha hb ab =
    let q : ℕ → Bool = λ x. x == cell_of_man (record { colour = c; kind = King }) in
    let count = count_then q p.cells a b 0 a false (zero_king c) (omega arith) (omega arith)
    (omega arith) ab (λ w. absurd cc) (λ w. absurd cc) in
    let first : one q (slice_index p.cells a) ≡ 1 = ap (λ x. cond x 1 0) ha in
    let second : one q (slice_index p.cells b) ≡ 1 = ap (λ x. cond x 1 0) hb in
    let all = kings_of p c kings in
    let none : one q 0 ≡ 0 = ap (λ x. cond x 1 0) (zero_king c) in
    omega (arith, count, first, second, all, none)

-- what arrives where a king goes is the king
arrives_king : (c : Colour) (promo : Option Kind) (d : Colour) (b : ℕ) →
    promotes c King b promo ≡ true →
    arrives (record { colour = d; kind = King }) promo ≡ record { colour = d; kind = King }
arrives_king c None d b h = refl
arrives_king c (Some k) d b h = cc

module _ (p : Board) (a b : ℕ) (v : IsValid p) (la : a < 64) (lb : b < 64)
    (here : has p p.turn King a ≡ true) where
  abbrev king : ℕ
  king = cell_of_man (record { colour = p.turn; kind = King })

  abbrev gone : Board
  gone = record {
    cells = slice_set (slice_set p.cells a 0) b king;
    turn = other_of p.turn;
    ep = None;
  }

  there : slice_index gone.cells b ≡ king
  there = let size = v.fits.size in get_or-set_same (slice_set p.cells a 0) b king 0
      (rw length-set (omega arith))

  else_same : (s : ℕ) → s ≢ b → slice_index gone.cells s ≡ slice_index (without p a).cells s
  else_same s ne = get_or-set_other (slice_set p.cells a 0) b s king 0 ne

  -- the king is found nowhere else
  found : (s : ℕ) → s < 64 → has gone p.turn King s ≡ true → s ≡ b
  found s ls h =
      elim (cases_eq s b) [
        | inl e ↦ e
        | inr ne ↦ absurd (
            elim (cases_eq s a) [
              | inl e ↦
                  let size = v.fits.size in
                  let none : slice_index (without p a).cells s ≡ 0 =
                  ap (slice_index (without p a).cells) e ∙ get_or-set_same p.cells a 0 0
                  (omega arith) in
                  let zero = zero_king p.turn in
                  let cell = else_same s ne in
                  let test : (0 == king) ≡ true = ap (λ x. x == king) (sym (cell ∙ none)) ∙ h in
                  cc
              | inr na ↦
                  only_king p p.turn s a v.fits.size v.kings ls la
                  (ap (λ x. x == king) (sym (else_same s ne ∙ get_or-set_other p.cells a s 0 0 na))
                  ∙ h) here na
            ])
      ]

  forth : is_in_check gone p.turn ≡ true → is_attacked (without p a) b (other_of p.turn) ≡ true
  forth h =
      let king_at = some_square
      (λ s. has gone p.turn King s && is_attacked gone s (other_of p.turn)) h in
      let parts = and_parts (has gone p.turn King king_at.square)
      (is_attacked gone king_at.square (other_of p.turn)) king_at.passes in
      attacked_there gone (without p a) b else_same (other_of p.turn)
      (ap (λ s. is_attacked gone s (other_of p.turn))
      (sym (found king_at.square king_at.on_board parts.0)) ∙ parts.1)

  back : is_attacked (without p a) b (other_of p.turn) ≡ true → is_in_check gone p.turn ≡ true
  back h =
      any_square (λ s. has gone p.turn King s && is_attacked gone s (other_of p.turn)) b lb
      (and_from (has gone p.turn King b) (is_attacked gone b (other_of p.turn))
      (eq-eqb (slice_index gone.cells b) king there)
      (attacked_there (without p a) gone b (λ s ne. sym (else_same s ne)) (other_of p.turn) h))

  same_check : is_in_check gone p.turn ≡ is_attacked (without p a) b (other_of p.turn)
  same_check = same_tests (is_in_check gone p.turn) (is_attacked (without p a) b (other_of p.turn))
      forth back

-- a king is in check after its move exactly where the other side attacks the square without it
goes_by : (p : Board) (c : Colour) (k : Kind) (m : Step) → IsValid p → m.from < 64 → m.to < 64 →
    man_on p m.from ≡ Some (record { colour = c; kind = k }) → can_go p m ≡ true →
    is_king k ≡ true →
    is_in_check (after p m) p.turn ≡ is_attacked (without p m.from) m.to (other_of p.turn)
goes_by p c King m v lf lt on can h =
    let parts = and_parts (holds p p.turn m.from && not (holds p p.turn m.to))
    (man_goes p (man_on p m.from) m) can in
    let own : c ≡ p.turn = same_side c p.turn
    (ap (is_man_of p.turn) (sym on)
    ∙ (and_parts (holds p p.turn m.from) (not (holds p p.turn m.to)) parts.0).0) in
    let way = and_parts (goes p c King m.from m.to) (promotes c King m.to m.promo)
    (ap (λ o. man_goes p o m) (sym on) ∙ parts.1) in
    let here : has p p.turn King m.from ≡ true = eq-eqb (slice_index p.cells m.from)
    (cell_of_man (record { colour = p.turn; kind = King }))
    (cell_back (slice_index p.cells m.from) c King on
    ∙ ap (λ d. cell_of_man (record { colour = d; kind = King })) own) in
    let arrived : arrives (record { colour = c; kind = King }) m.promo
    ≡ record { colour = p.turn; kind = King } = arrives_king c m.promo c m.to way.1
    ∙ ap (λ d. record { colour = d; kind = King }) own in
    ap (λ o. is_in_check (after_man p o m) p.turn) on
    ∙ ap (λ (w : Man). is_in_check
    (record p { cells = slice_set (slice_set p.cells m.from 0) m.to (cell_of_man w) }) p.turn)
    arrived
    ∙ same_check p m.from m.to v lf lt here
goes_by p c Queen m v lf lt on can h = absurd cc
goes_by p c Rook m v lf lt on can h = absurd cc
goes_by p c Bishop m v lf lt on can h = absurd cc
goes_by p c Knight m v lf lt on can h = absurd cc
goes_by p c Pawn m v lf lt on can h = absurd cc

pub king_goes : (p : Board) (man : Man) (m : Step) → IsValid p → m.from < 64 → m.to < 64 →
    man_on p m.from ≡ Some man → can_go p m ≡ true → is_king man.kind ≡ true →
    is_in_check (after p m) p.turn ≡ is_attacked (without p m.from) m.to (other_of p.turn)
king_goes p man m v lf lt on can h = goes_by p man.colour man.kind m v lf lt on can h
