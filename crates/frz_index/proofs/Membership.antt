-- The test of membership is membership, and numbers go both ways.
use Rattle.std.proofs.Common.{◌≡◌, ◌≢◌, ◌<◌, ◌↔◌, ℕ, zero, suc, inl, inr, Bool, true, false, ◌&&◌, ◌||◌, List, [], ◌∷◌, length, Option, Some, None, refl, sym, subst, ap, ◌∙◌, arith}
use Rattle.std.specs.Prelude.{is_ok, not, MatchOption, ◌==◌, All, slice_index, nat_lt, nat_le, IsSome, IfSome}
use Rattle.std.specs.List.{list_all, AllByRecursion}
use Rattle.std.proofs.lemmas.Bool.{cases_Bool, leb-true, le-leb, eqb-true, eq-eqb, ltb-true, lt-ltb, and_parts, and_from, or_cases, false_from_ne_true}
use Rattle.frz_board.specs.Men.{other_of}
use Rattle.frz_board.specs.Boards.{Board, CellsFit, is_empty}
use Rattle.frz_board.specs.Attacks.{is_in_check}
use Rattle.frz_board.specs.EnPassant.{has_target_in_place}
use Rattle.frz_board.specs.Shapes.{has_kings, has_pawns_inside, has_few_men}
use Rattle.frz_squares.proofs.Lemmas.{each_square, all_squares, either_or}
use Rattle.frz_fide.specs.Valid.{IsValid, validity_of}
use Rattle.frz_sets.specs.Views.{GroupLine}
use Rattle.frz_sets.specs.Sets.{has_state}
use Rattle.frz_index.specs.Places.{places, IsWithinCount}
use Rattle.frz_index.specs.Members.{Member, Num, HasNumber}
use Rattle.frz_index.specs.Candidates.{candidate}
use Rattle.frz_index.proofs.WholeNumbers.{candidate-Num}
use Rattle.frz_index.specs.Membership.{are_cells, is_valid, are_men_covered, is_counted, is_member, number_of, position_at}

all_small : (cells : List ℕ) → list_all (λ c. nat_lt c 13) cells ≡ true → All (λ c. c < 13) cells
all_small [] h k d l = absurd (omega (arith, l))
all_small (x ∷ cells) h zero d l =
    ltb-true x 13 (and_parts (nat_lt x 13) (list_all (λ c. nat_lt c 13) cells) h).0
all_small (x ∷ cells) h (suc k) d l =
    all_small cells (and_parts (nat_lt x 13) (list_all (λ c. nat_lt c 13) cells) h).1 k d
    (omega (arith, l))

small_all : (cells : List ℕ) → All (λ c. c < 13) cells → list_all (λ c. nat_lt c 13) cells ≡ true
small_all [] h = refl
small_all (x ∷ cells) h =
    and_from (nat_lt x 13) (list_all (λ c. nat_lt c 13) cells)
    (lt-ltb x 13 (h zero x (omega arith)))
    (small_all cells (λ k d l. h (suc k) d (omega (arith, l))))

cells_fit : (cells : List ℕ) → are_cells cells ≡ true → CellsFit cells
unfolding are_cells
cells_fit cells h =
    let parts = and_parts (length cells == 64) (list_all (λ c. nat_lt c 13) cells) h in
    record { size = eqb-true (length cells) 64 parts.0; men = all_small cells parts.1 }

fit_cells : (cells : List ℕ) → CellsFit cells → are_cells cells ≡ true
unfolding are_cells
fit_cells cells h =
    and_from (length cells == 64) (list_all (λ c. nat_lt c 13) cells)
    (eq-eqb (length cells) 64 h.size) (small_all cells h.men)

-- a position is valid where no condition fails
abbrev no_fault : Bool → Bool → Bool → Bool → Bool → Bool
no_fault k w m t c = k && (w && (m && (t && not c)))

validity_tests : (p : Board) (k w m t c : Bool) → has_kings p ≡ k → has_pawns_inside p ≡ w →
    has_few_men p ≡ m → has_target_in_place p ≡ t → is_in_check p (other_of p.turn) ≡ c →
    is_ok (validity_of p) ≡ no_fault k w m t c
validity_tests p false w m t c ek ew em et ec = rw ek refl
validity_tests p true false m t c ek ew em et ec = rw (ek, ew) refl
validity_tests p true true false t c ek ew em et ec = rw (ek, ew, em) refl
validity_tests p true true true false c ek ew em et ec = rw (ek, ew, em, et) refl
validity_tests p true true true true true ek ew em et ec = rw (ek, ew, em, et, ec) refl
validity_tests p true true true true false ek ew em et ec = rw (ek, ew, em, et, ec) refl

pub valid_of : (p : Board) → is_valid p ≡ true → IsValid p
unfolding is_valid
valid_of p h =
    let parts = and_parts (are_cells p.cells) (is_ok (validity_of p)) h in
    let tests = validity_tests p (has_kings p) (has_pawns_inside p) (has_few_men p)
    (has_target_in_place p) (is_in_check p (other_of p.turn)) refl refl refl refl refl in
    let kings = and_parts (has_kings p)
    (has_pawns_inside p
    && (has_few_men p && (has_target_in_place p && not (is_in_check p (other_of p.turn)))))
    (sym tests ∙ parts.1) in
    let pawns = and_parts (has_pawns_inside p)
    (has_few_men p && (has_target_in_place p && not (is_in_check p (other_of p.turn))))
    kings.1 in
    let men = and_parts (has_few_men p)
    (has_target_in_place p && not (is_in_check p (other_of p.turn))) pawns.1 in
    let target = and_parts (has_target_in_place p) (not (is_in_check p (other_of p.turn))) men.1 in
    record {
      fits = cells_fit p.cells parts.0;
      kings = kings.0;
      pawns = pawns.0;
      men = men.0;
      target = target.0;
      safe = not_true (is_in_check p (other_of p.turn)) target.1;
    }
  where
    not_true : (b : Bool) → not b ≡ true → b ≡ false
    not_true true h = absurd (cc)
    not_true false h = refl

pub no_fault_in : (p : Board) → IsValid p → is_ok (validity_of p) ≡ true
no_fault_in p v =
    validity_tests p true true true true false v.kings v.pawns v.men v.target v.safe

pub of_valid : (p : Board) → IsValid p → is_valid p ≡ true
unfolding is_valid
of_valid p v =
    and_from (are_cells p.cells) (is_ok (validity_of p)) (fit_cells p.cells v.fits) (no_fault_in p v)

pub men_of : (gs : List GroupLine) (p : Board) → are_men_covered gs p ≡ true → (s : ℕ) → s < 64 →
    slice_index p.cells s ≢ 0 → has_state gs (slice_index p.cells s) s ≡ true
unfolding are_men_covered
men_of gs p h s l some =
    elim (or_cases (is_empty p s) (has_state gs (slice_index p.cells s) s)
    (each_square (λ s. is_empty p s || has_state gs (slice_index p.cells s) s) h s l)) [
      | inl e ↦ absurd (some (eqb-true (slice_index p.cells s) 0 e))
      | inr c ↦ c
    ]

pub of_men : (gs : List GroupLine) (p : Board) →
    ((s : ℕ) → s < 64 → slice_index p.cells s ≢ 0 → has_state gs (slice_index p.cells s) s ≡ true) →
    are_men_covered gs p ≡ true
unfolding are_men_covered
of_men gs p h =
    all_squares (λ s. is_empty p s || has_state gs (slice_index p.cells s) s)
    (λ s l. elim (cases_Bool (is_empty p s)) [
      | inl t ↦ either_or (is_empty p s) (has_state gs (slice_index p.cells s) s) (inl t)
      | inr f ↦ either_or (is_empty p s) (has_state gs (slice_index p.cells s) s)
          (inr (h s l (λ e.
          (let t : is_empty p s ≡ true = eq-eqb (slice_index p.cells s) 0 e in cc))))
    ])

count_of : (p : Board) (g : GroupLine) → is_counted p g ≡ true → IsWithinCount p g
unfolding is_counted
count_of p g h =
    let parts = and_parts (nat_le g.least (length (places p g)))
    (nat_le (length (places p g)) g.most) h in
    record {
      least = leb-true g.least (length (places p g)) parts.0;
      most = leb-true (length (places p g)) g.most parts.1;
    }

of_count : (p : Board) (g : GroupLine) → IsWithinCount p g → is_counted p g ≡ true
unfolding is_counted
of_count p g h =
    and_from (nat_le g.least (length (places p g))) (nat_le (length (places p g)) g.most)
    (le-leb g.least (length (places p g)) h.least) (le-leb (length (places p g)) g.most h.most)

counts_of : (p : Board) (gs : List GroupLine) → list_all (is_counted p) gs ≡ true →
    AllByRecursion (IsWithinCount p) gs
counts_of p [] h = tt
counts_of p (g ∷ gs) h =
    let parts = and_parts (is_counted p g) (list_all (is_counted p) gs) h in
    (count_of p g parts.0, counts_of p gs parts.1)

of_counts : (p : Board) (gs : List GroupLine) → AllByRecursion (IsWithinCount p) gs →
    list_all (is_counted p) gs ≡ true
of_counts p [] h = refl
of_counts p (g ∷ gs) h =
    and_from (is_counted p g) (list_all (is_counted p) gs) (of_count p g h.0) (of_counts p gs h.1)

pub member_of : (gs : List GroupLine) (p : Board) → is_member gs p ≡ true → Member gs p
unfolding is_member
member_of gs p h =
    let one = and_parts (is_valid p) (are_men_covered gs p && list_all (is_counted p) gs) h in
    let two = and_parts (are_men_covered gs p) (list_all (is_counted p) gs) one.1 in
    record { valid = valid_of p one.0; men = men_of gs p two.0; counts = counts_of p gs two.1 }

pub of_member : (gs : List GroupLine) (p : Board) → Member gs p → is_member gs p ≡ true
unfolding is_member
of_member gs p m =
    and_from (is_valid p) (are_men_covered gs p && list_all (is_counted p) gs) (of_valid p m.valid)
    (and_from (are_men_covered gs p) (list_all (is_counted p) gs) (of_men gs p m.men)
    (of_counts p gs m.counts))

-- a position has a number exactly where it passes the test of membership
pub number_there : (gs : List GroupLine) (p : Board) → is_member gs p ≡ true →
    number_of gs p ≡ Some (Num gs p)
unfolding number_of
number_there gs p m = rw m refl

pub number_missing : (gs : List GroupLine) (p : Board) → is_member gs p ≡ false →
    number_of gs p ≡ None
unfolding number_of
number_missing gs p m = rw m refl

-- a position that has a number is in the set, and that is its number
pub number_tells : (gs : List GroupLine) (p : Board) (i : ℕ) → number_of gs p ≡ Some i →
    (is_member gs p ≡ true) × (Num gs p ≡ i)
number_tells gs p i e =
    elim (cases_Bool (is_member gs p)) [
      | inl t ↦ (t, (let k = number_there gs p t in cc))
      | inr f ↦ absurd (let k = number_missing gs p f in cc)
    ]

pub number_back : (gs : List GroupLine) (p : Board) (i : ℕ) → number_of gs p ≡ Some i →
    HasNumber gs i p
number_back gs p i e =
    let t = number_tells gs p i e in record { member = member_of gs p t.0; number = t.1 }

pub number_found : (gs : List GroupLine) (p : Board) (i : ℕ) → HasNumber gs i p →
    number_of gs p ≡ Some i
number_found gs p i h = number_there gs p (of_member gs p h.member) ∙ ap Some h.number

-- the only position that may have the number
position_there : (gs : List GroupLine) (i : ℕ) → is_member gs (candidate gs i) ≡ true →
    Num gs (candidate gs i) ≡ i → position_at gs i ≡ Some (candidate gs i)
unfolding position_at
position_there gs i m e =
    let both : (is_member gs (candidate gs i) && (Num gs (candidate gs i) == i)) ≡ true = and_from
    (is_member gs (candidate gs i)) (Num gs (candidate gs i) == i) m
    (eq-eqb (Num gs (candidate gs i)) i e) in
    rw both refl

position_missing : (gs : List GroupLine) (i : ℕ) →
    (is_member gs (candidate gs i) && (Num gs (candidate gs i) == i)) ≡ false →
    position_at gs i ≡ None
unfolding position_at
position_missing gs i h = rw h refl

-- the position of a number has it
pub position_tells : (gs : List GroupLine) (i : ℕ) (p : Board) → position_at gs i ≡ Some p →
    HasNumber gs i p
position_tells gs i p e =
    elim (cases_Bool (is_member gs (candidate gs i) && (Num gs (candidate gs i) == i))) [
      | inl t ↦ (
          let parts = and_parts (is_member gs (candidate gs i)) (Num gs (candidate gs i) == i) t in
          let n = eqb-true (Num gs (candidate gs i)) i parts.1 in
          let k = position_there gs i parts.0 n in
          let same : candidate gs i ≡ p = cc in
          subst (λ q. HasNumber gs i q) same
          (record { member = member_of gs (candidate gs i) parts.0; number = n }))
      | inr f ↦ absurd (let k = position_missing gs i f in cc)
    ]

pub position_of : (gs : List GroupLine) (i : ℕ) (p : Board) → HasNumber gs i p →
    position_at gs i ≡ Some p
position_of gs i p h =
    let same : candidate gs i ≡ p = ap (candidate gs) (sym h.number)
    ∙ candidate-Num gs p h.member in
    let m : is_member gs (candidate gs i) ≡ true = subst (λ q. is_member gs q ≡ true) (sym same)
    (of_member gs p h.member) in
    let n : Num gs (candidate gs i) ≡ i = ap (Num gs) same ∙ h.number in
    position_there gs i m n ∙ ap Some same

-- an answer that agrees with the relations is that of the functions
pub number_answer : (gs : List GroupLine) (q : Board) (o : Option ℕ) → IsSome o ↔ Member gs q →
    IfSome o (λ n. n ≡ Num gs q) → o ≡ number_of gs q
number_answer gs q None h n =
    sym (number_missing gs q
    (false_from_ne_true (is_member gs q) (λ t. (let k = h.1 (member_of gs q t) in cc))))
number_answer gs q (Some i) h n = ap Some n ∙ sym (number_there gs q (of_member gs q (h.0 refl)))

pub position_answer : (gs : List GroupLine) (i : ℕ) (o : Option Board) →
    ((p : Board) → (o ≡ Some p) ↔ HasNumber gs i p) → o ≡ position_at gs i
position_answer gs i None h = by_number (position_at gs i) refl
  where
    by_number : (o : Option Board) → position_at gs i ≡ o → None ≡ position_at gs i
    by_number None e = sym e
    by_number (Some p) e = absurd (let k = (h p).1 (position_tells gs i p e) in cc)
position_answer gs i (Some p) h = sym (position_of gs i p ((h p).0 refl))

pub number_matches : (gs : List GroupLine) (q : Board) (o : Option ℕ) →
    MatchOption o (Member gs q → ⊥) (λ n. Member gs q × (n ≡ Num gs q)) → o ≡ number_of gs q
number_matches gs q None out =
    sym (number_missing gs q (false_from_ne_true (is_member gs q) (λ t. out (member_of gs q t))))
number_matches gs q (Some i) h = ap Some h.1 ∙ sym (number_there gs q (of_member gs q h.0))

-- the position of a number is valid
pub answer_valid : (gs : List GroupLine) (i : ℕ) (o : Option Board) →
    ((p : Board) → (o ≡ Some p) ↔ HasNumber gs i p) → IfSome o IsValid
answer_valid gs i None h = tt
answer_valid gs i (Some p) h = ((h p).0 refl).member.valid
