-- A king with one bishop or knight never mates a bare king.
use Rattle.std.proofs.Common.{◌≡◌, ◌≢◌, ◌≤◌, ℕ, zero, suc, ◌<◌, ◌+◌, ◌-◌, ◌/◌, ◌%◌, ◌⊎◌, inl, inr, Bool, true, false, cond, refl, ap, sym, subst, ◌∙◌, arith, max, List, [], ◌∷◌, length, length-set, None, slice_index, slice_set}
use Rattle.std.specs.Prelude.{◌==◌, count_by}
use Rattle.std.specs.List.{Contains}
use Rattle.std.proofs.lemmas.Bool.{eqb-true, eq-eqb, both_ways, cases_Bool, cases_lt, and_parts}
use Rattle.std.proofs.lemmas.Bool.Decides.{eqb_tells}
use Rattle.std.proofs.lemmas.List.Sums.{sum_by-cons}
use Rattle.frz_board.specs.declared.man.Colour.{Colour}
use Rattle.frz_board.specs.declared.man.Colour.TheVariants.{White, Black}
use Rattle.frz_board.specs.declared.man.Kind.{Kind}
use Rattle.frz_board.specs.declared.man.Kind.TheVariants.{King, Queen, Rook, Bishop, Knight, Pawn}
use Rattle.frz_board.specs.Squares.{apart, file_of, rank_of, files_apart, ranks_apart}
use Rattle.frz_board.specs.Men.{cell_of_man, other_of}
use Rattle.frz_board.specs.Boards.{Board}
use Rattle.frz_board.specs.Moving.{Step, IsStep}
use Rattle.frz_board.specs.Shapes.{has_kings, count_of}
use Rattle.frz_board.specs.Attacks.{is_in_check}
use Rattle.frz_board.specs.Attacking.{Attack, Stands, bishop, rook, queen, knight, pawn, king}
use Rattle.frz_board.proofs.Lemmas.{set_at, other_differs}
use Rattle.frz_fide.specs.LegalMoves.{StartsAt, moved, IsSafe, piece}
use Rattle.frz_fide.specs.Listing.{legal_moves_of}
use Rattle.frz_fide.specs.Checks.{Check}
use Rattle.frz_fide.specs.Valid.{IsValid}
use Rattle.frz_fide.specs.Bare.{IsBare, HasOneMinor}
use Rattle.frz_fide.proofs.Checking.{check_means, means_check}
use Rattle.frz_fide.proofs.InWords.{relation_tests}
use Rattle.frz_fide.proofs.Listed.{listed}
use Rattle.frz_fide.proofs.Bare.{one_man, king_attack, kings_apart, not_zero, same_man, cond_cases}

-- what a passed test counts
abbrev number : Bool → ℕ
number b = cond b 1 0

-- a test that two elements pass counts two at least
some_there : (q : ℕ → Bool) (xs : List ℕ) (i : ℕ) → i < length xs → q (slice_index xs i) ≡ true →
    1 ≤ count_by q xs
some_there q [] i h e = absurd (omega arith)
some_there q (x ∷ xs) zero h e =
    let here : number (q x) ≡ 1 = ap number e in
    omega (arith, sum_by-cons (λ y. cond (q y) 1 0) x xs, here)
some_there q (x ∷ xs) (suc i) h e =
    omega (arith, sum_by-cons (λ y. cond (q y) 1 0) x xs, some_there q xs i (omega arith) e)

two_there : (q : ℕ → Bool) (xs : List ℕ) (i j : ℕ) → i < j → j < length xs →
    q (slice_index xs i) ≡ true → q (slice_index xs j) ≡ true → 2 ≤ count_by q xs
two_there q [] i j l h e f = absurd (omega arith)
two_there q (x ∷ xs) i zero l h e f = absurd (omega arith)
two_there q (x ∷ xs) zero (suc j) l h e f =
    let here : number (q x) ≡ 1 = ap number e in
    omega (arith, sum_by-cons (λ y. cond (q y) 1 0) x xs, here, some_there q xs j (omega arith) f)
two_there q (x ∷ xs) (suc i) (suc j) l h e f =
    omega (
      arith,
      sum_by-cons (λ y. cond (q y) 1 0) x xs,
      two_there q xs i j (omega arith) (omega arith) e f,
    )

pub one_place : (q : ℕ → Bool) (xs : List ℕ) (i j : ℕ) → count_by q xs ≤ 1 → i < length xs →
    j < length xs → q (slice_index xs i) ≡ true → q (slice_index xs j) ≡ true → i ≡ j
one_place q xs i j few li lj e f =
    elim (cases_lt i j) [
      | inl h ↦ absurd (let two = two_there q xs i j h lj e f in omega arith)
      | inr h ↦ elim (cases_lt j i) [
        | inl k ↦ absurd (let two = two_there q xs j i k li f e in omega arith)
        | inr k ↦ omega arith
      ]
    ]

pub kings_are : (p : Board) (c : Colour) → IsValid p → count_of p c King ≡ 1
unfolding has_kings
kings_are p White v =
    eqb-true (count_of p White King) 1
    (and_parts (count_of p White King == 1) (count_of p Black King == 1) v.kings).0
kings_are p Black v =
    eqb-true (count_of p Black King) 1
    (and_parts (count_of p White King == 1) (count_of p Black King == 1) v.kings).1

-- a side has one king
pub one_king : (p : Board) (c : Colour) (s t : ℕ) → IsValid p → s < 64 → t < 64 →
    Stands p c King s → Stands p c King t → s ≡ t
one_king p c s t v ls lt e f =
    let size = v.fits.size in
    let k = cell_of_man (record { colour = c; kind = King }) in
    let one = kings_are p c v in
    one_place (λ x. x == k) p.cells s t (omega arith) (omega arith) (omega arith)
    (eq-eqb (slice_index p.cells s) k e) (eq-eqb (slice_index p.cells t) k f)

-- what an attack by a bishop, a knight or a king says of two squares
bishop_attack : (p : Board) (c : Colour) (a b : ℕ) → Stands p c Bishop a → Attack p a b →
    files_apart a b ≡ ranks_apart a b
bishop_attack p c a b h (bishop d s l r) = l.1
bishop_attack p c a b h (rook d s l r) = absurd (let e = (one_man p c d Bishop Rook a h s).1 in cc)
bishop_attack p c a b h (queen d s l r) =
    absurd (let e = (one_man p c d Bishop Queen a h s).1 in cc)
bishop_attack p c a b h (knight d s l) =
    absurd (let e = (one_man p c d Bishop Knight a h s).1 in cc)
bishop_attack p c a b h (pawn d s l r) = absurd (let e = (one_man p c d Bishop Pawn a h s).1 in cc)
bishop_attack p c a b h (king d s l) = absurd (let e = (one_man p c d Bishop King a h s).1 in cc)

abbrev Jump : ℕ → ℕ → Type 0
Jump f r = ((f ≡ 1) × (r ≡ 2)) ⊎ ((f ≡ 2) × (r ≡ 1))

knight_attack : (p : Board) (c : Colour) (a b : ℕ) → Stands p c Knight a → Attack p a b →
    Jump (files_apart a b) (ranks_apart a b)
knight_attack p c a b h (bishop d s l r) =
    absurd (let e = (one_man p c d Knight Bishop a h s).1 in cc)
knight_attack p c a b h (rook d s l r) = absurd (let e = (one_man p c d Knight Rook a h s).1 in cc)
knight_attack p c a b h (queen d s l r) =
    absurd (let e = (one_man p c d Knight Queen a h s).1 in cc)
knight_attack p c a b h (knight d s l) = l
knight_attack p c a b h (pawn d s l r) = absurd (let e = (one_man p c d Knight Pawn a h s).1 in cc)
knight_attack p c a b h (king d s l) = absurd (let e = (one_man p c d Knight King a h s).1 in cc)

-- two squares beside each other on one line
data Beside (s d : ℕ) : Type 0 where
  on_rank : rank_of d ≡ rank_of s → files_apart s d ≡ 1 → Beside s d
  on_file : file_of d ≡ file_of s → ranks_apart s d ≡ 1 → Beside s d

-- two numbers that differ by one are not equally far from a third
not_equal : (x y z n : ℕ) → apart x y ≡ n → apart x z ≡ n → apart y z ≡ 1 → ⊥
not_equal x y z n e f g = omega arith

same_jump : (f g r : ℕ) → Jump f r → Jump g r → f ≡ g
same_jump f g r (inl h) (inl k) = omega arith
same_jump f g r (inl h) (inr k) = absurd (let a = h.1 in let b = k.1 in omega arith)
same_jump f g r (inr h) (inl k) = absurd (let a = h.1 in let b = k.1 in omega arith)
same_jump f g r (inr h) (inr k) = omega arith

jump_turned : (f r : ℕ) → Jump f r → Jump r f
jump_turned f r (inl h) = inr (h.1, h.0)
jump_turned f r (inr h) = inl (h.1, h.0)

-- a bishop that attacks a square attacks none beside it on its lines, and no more does a knight
bishop_misses : (a s d : ℕ) → Beside s d → files_apart a s ≡ ranks_apart a s →
    files_apart a d ≡ ranks_apart a d → ⊥
bishop_misses a s d (on_rank e n) h k =
    let same : ranks_apart a d ≡ ranks_apart a s = ap (λ r. apart (rank_of a) r) e in
    not_equal (file_of a) (file_of s) (file_of d) (ranks_apart a s) h (k ∙ same) n
bishop_misses a s d (on_file e n) h k =
    let same : files_apart a d ≡ files_apart a s = ap (λ r. apart (file_of a) r) e in
    not_equal (rank_of a) (rank_of s) (rank_of d) (files_apart a s) (sym h) (sym k ∙ same) n

knight_misses : (a s d : ℕ) → Beside s d → Jump (files_apart a s) (ranks_apart a s) →
    Jump (files_apart a d) (ranks_apart a d) → ⊥
knight_misses a s d (on_rank e n) h k =
    let same : ranks_apart a d ≡ ranks_apart a s = ap (λ r. apart (rank_of a) r) e in
    let far = same_jump (files_apart a s) (files_apart a d) (ranks_apart a s) h
    (subst (λ r. Jump (files_apart a d) r) same k) in
    not_equal (file_of a) (file_of s) (file_of d) (files_apart a s) refl (sym far) n
knight_misses a s d (on_file e n) h k =
    let same : files_apart a d ≡ files_apart a s = ap (λ r. apart (file_of a) r) e in
    let far = same_jump (ranks_apart a s) (ranks_apart a d) (files_apart a s)
    (jump_turned (files_apart a s) (ranks_apart a s) h)
    (subst (λ r. Jump (ranks_apart a d) r) same
    (jump_turned (files_apart a d) (ranks_apart a d) k)) in
    not_equal (rank_of a) (rank_of s) (rank_of d) (ranks_apart a s) refl (sym far) n

-- each square has one beside it on its rank, and one on its file
file_beside : (s : ℕ) → s < 64 →
    (d : ℕ) × (d < 64) × (rank_of d ≡ rank_of s) × (files_apart s d ≡ 1)
file_beside s h =
    elim (cases_lt (s % 8) 7) [
      | inl l ↦ (s + 1, omega arith, omega arith, omega arith)
      | inr l ↦ (s - 1, omega arith, omega arith, omega arith)
    ]

rank_beside : (s : ℕ) → s < 64 →
    (d : ℕ) × (d < 64) × (file_of d ≡ file_of s) × (ranks_apart s d ≡ 1)
rank_beside s h =
    elim (cases_lt (s / 8) 7) [
      | inl l ↦ (s + 8, omega arith, omega arith, omega arith)
      | inr l ↦ (s - 8, omega arith, omega arith, omega arith)
    ]

zero_apart : (x : ℕ) → apart x x ≡ 0
zero_apart x = omega arith

step_beside : (s d : ℕ) → Beside s d → max (files_apart s d) (ranks_apart s d) ≡ 1
step_beside s d (on_rank e n) =
    let z : ranks_apart s d ≡ 0 = ap (λ r. apart (rank_of s) r) e ∙ zero_apart (rank_of s) in
    omega arith
step_beside s d (on_file e n) =
    let z : files_apart s d ≡ 0 = ap (λ r. apart (file_of s) r) e ∙ zero_apart (file_of s) in
    omega arith

not_itself : (s d : ℕ) → Beside s d → s ≡ d → ⊥
not_itself s d b e =
    let n = step_beside s d b in
    let f : files_apart s d ≡ 0 = ap (λ x. files_apart s x) (sym e) ∙ zero_apart (file_of s) in
    let r : ranks_apart s d ≡ 0 = ap (λ x. ranks_apart s x) (sym e) ∙ zero_apart (rank_of s) in
    omega arith

-- a king beside both is beside the square, or on it
king_between : (w s h v : ℕ) → rank_of h ≡ rank_of s → file_of v ≡ file_of s →
    max (files_apart w h) (ranks_apart w h) ≡ 1 → max (files_apart w v) (ranks_apart w v) ≡ 1 →
    (max (files_apart w s) (ranks_apart w s) ≡ 1)
    ⊎ ((file_of w ≡ file_of s) × (rank_of w ≡ rank_of s))
king_between w s h v e f a b =
    let r : ranks_apart w h ≡ ranks_apart w s = ap (λ x. apart (rank_of w) x) e in
    let g : files_apart w v ≡ files_apart w s = ap (λ x. apart (file_of w) x) f in
    elim (cases_lt (max (files_apart w s) (ranks_apart w s)) 1) [
      | inl l ↦ inr (omega arith, omega arith)
      | inr l ↦ inl (omega arith)
    ]

same_square : (w s : ℕ) → file_of w ≡ file_of s → rank_of w ≡ rank_of s → w ≡ s
same_square w s e f = omega arith

pub is_king_or_not : (k : Kind) → (k ≡ King) ⊎ (k ≢ King)
is_king_or_not King = inl refl
is_king_or_not Queen = inr (λ e. cc)
is_king_or_not Rook = inr (λ e. cc)
is_king_or_not Bishop = inr (λ e. cc)
is_king_or_not Knight = inr (λ e. cc)
is_king_or_not Pawn = inr (λ e. cc)

-- the king's move from s to d
abbrev going : (s d : ℕ) → Step
going s d = record { from = s; to = d; promo = None }

module _ (p : Board) (v : IsValid p) (minor : HasOneMinor p (other_of p.turn))
    (bare : IsBare p p.turn) (s : ℕ) (ls : s < 64) (mine : Stands p p.turn King s) where
  -- a man that stands on the board after it
  stood : (d : ℕ) → d < 64 → (c : Colour) (k : Kind) (x : ℕ) →
      Stands (moved p (going s d) King None) c k x →
      ((x ≡ d) × (c ≡ p.turn)) ⊎ (Stands p c k x × (x ≢ s))
  stood d ld c k x e =
      let size = v.fits.size in
      let from_there : s < length p.cells = omega arith in
      let to_there : d < length (slice_set p.cells s 0) = rw length-set (omega arith) in
      let there = sym (set_at (slice_set p.cells s 0) d
      (cell_of_man (record { colour = p.turn; kind = King })) x to_there) ∙ e in
      elim (cond_cases (x == d) (cell_of_man (record { colour = p.turn; kind = King }))
      (slice_index (slice_set p.cells s 0) x)
      (cell_of_man (record { colour = c; kind = k })) there) [
        | inl w ↦ inl (eqb-true x d w.0, sym (same_man p.turn c King k w.1).0)
        | inr w ↦ elim (cond_cases (x == s) 0 (slice_index p.cells x)
            (cell_of_man (record { colour = c; kind = k }))
            (sym (set_at p.cells s 0 x from_there) ∙ w.1)) [
              | inl u ↦ absurd (not_zero c k u.1)
              | inr u ↦ inr (
                u.1,
                λ h. elim (eqb_tells x s) [
                  | inl y ↦ (let g = y.0 in let n = u.0 in cc)
                  | inr y ↦ y.1 h
                ],
              )
            ]
      ]

  -- a bishop or knight that gives check does not attack the square beside the king
  misses : (a : ℕ) (k : Kind) → a < 64 → Stands p (other_of p.turn) k a → k ≢ King →
      Attack p a s → (d : ℕ) → Beside s d → (q : Board) → Stands q (other_of p.turn) k a →
      Attack q a d → ⊥
  misses a k la man n hit d b q there again =
      elim (minor.minor a k la man n) [
        | inl e ↦ bishop_misses a s d b
            (bishop_attack p (other_of p.turn) a s
            (subst (λ (x : Kind). Stands p (other_of p.turn) x a) e man) hit)
            (bishop_attack q (other_of p.turn) a d
            (subst (λ (x : Kind). Stands q (other_of p.turn) x a) e there) again)
        | inr e ↦ knight_misses a s d b
            (knight_attack p (other_of p.turn) a s
            (subst (λ (x : Kind). Stands p (other_of p.turn) x a) e man) hit)
            (knight_attack q (other_of p.turn) a d
            (subst (λ (x : Kind). Stands q (other_of p.turn) x a) e there) again)
      ]

  -- where the king is attacked beside its square, the other king attacks it
  by_king : Check p p.turn → (d : ℕ) → d < 64 → Beside s d →
      is_in_check (moved p (going s d) King None) p.turn ≡ true →
      (w : ℕ) × (w < 64) × Stands p (other_of p.turn) King w
      × (max (files_apart w d) (ranks_apart w d) ≡ 1)
  by_king first d ld b h =
      let q = moved p (going s d) King None in
      let c = check_means q p.turn h in
      let at_d : c.square ≡ d = elim (stood d ld p.turn King c.square c.king) [
        | inl w ↦ w.0
        | inr w ↦ absurd (w.1 (one_king p p.turn c.square s v c.on_board ls w.0 mine))
      ] in
      let a = c.attacker in
      let man : Stands p (other_of p.turn) a.kind a.from =
      elim (stood d ld (other_of p.turn) a.kind a.from a.stands) [
        | inl w ↦ absurd (other_differs p.turn w.1)
        | inr w ↦ w.0
      ] in
      let hit : Attack q a.from d = subst (λ x. Attack q a.from x) at_d a.attack in
      elim (is_king_or_not a.kind) [
        | inl e ↦ (
            let there : Stands q (other_of p.turn) King a.from =
            subst (λ (x : Kind). Stands q (other_of p.turn) x a.from) e a.stands in (
              a.from,
              a.on_board,
              subst (λ (x : Kind). Stands p (other_of p.turn) x a.from) e man,
              king_attack q (other_of p.turn) a.from d there hit,
            ))
        | inr n ↦ absurd (
            let f = first.attacker in
            let on_s : first.square ≡ s =
            one_king p p.turn first.square s v first.on_board ls first.king mine in
            let hit_s : Attack p f.from s = subst (λ x. Attack p f.from x) on_s f.attack in
            elim (is_king_or_not f.kind) [
              | inl e ↦ (
                  let theirs : Stands p (other_of p.turn) King f.from =
                  subst (λ (x : Kind). Stands p (other_of p.turn) x f.from) e f.stands in
                  kings_apart p v s f.from ls f.on_board mine theirs
                  (king_attack p (other_of p.turn) f.from s theirs hit_s))
              | inr m ↦ (
                  let same : a.from ≡ f.from = minor.one a.from f.from a.kind f.kind a.on_board
                  f.on_board man f.stands n m in
                  misses a.from a.kind a.on_board man n
                  (subst (λ x. Attack p x s) (sym same) hit_s) d b q a.stands hit)
            ])
      ]

  -- where the king is not attacked there, it may go
  may_go : (d : ℕ) → d < 64 → Beside s d →
      is_in_check (moved p (going s d) King None) p.turn ≡ false → legal_moves_of p ≢ []
  may_go d ld b safe =
      let m = going s d in
      let q = moved p m King None in
      let step : IsStep m = record { from = ls; to = ld; promo = refl } in
      let starts : StartsAt p m King = record {
        step = step;
        stands = mine;
        free = λ j h. (
            let e = bare d j ld h in
            let k : Stands p p.turn King d = subst (λ (x : Kind). Stands p p.turn x d) e h in
            not_itself s d b (one_king p p.turn s d v ls ld mine k));
      } in
      let is_safe : IsSafe p q = λ x a k lx la king_at man hit.
      (both_ways (is_in_check q p.turn) safe (means_check q p.turn (record {
        square = x;
        on_board = lx;
        king = king_at;
        attacker = record { from = a; on_board = la; kind = k; stands = man; attack = hit };
      }))) in
      let legal = relation_tests p m q v
      (piece King starts (λ e. cc) (king p.turn mine (step_beside s d b)) refl refl is_safe) in
      λ e. (let h = subst (λ xs. Contains xs m) e (listed p m step legal.1) in omega (arith, h.1))

  pub goes_on : is_in_check p p.turn ≡ true → legal_moves_of p ≢ []
  goes_on check =
      let first = check_means p p.turn check in
      let h = file_beside s ls in
      let r = rank_beside s ls in
      let qh = moved p (going s h.0) King None in
      let qr = moved p (going s r.0) King None in
      elim (cases_Bool (is_in_check qh p.turn)) [
        | inr safe ↦ may_go h.0 h.1 (on_rank h.2 h.3) safe
        | inl hit ↦ elim (cases_Bool (is_in_check qr p.turn)) [
          | inr safe ↦ may_go r.0 r.1 (on_file r.2 r.3) safe
          | inl also ↦ absurd (
              let w = by_king first h.0 h.1 (on_rank h.2 h.3) hit in
              let u = by_king first r.0 r.1 (on_file r.2 r.3) also in
              let same = one_king p (other_of p.turn) u.0 w.0 v u.1 w.1 u.2 w.2 in
              let both = subst (λ x. max (files_apart x r.0) (ranks_apart x r.0) ≡ 1) same u.3 in
              elim (king_between w.0 s h.0 r.0 h.2 r.2 w.3 both) [
                | inl e ↦ kings_apart p v s w.0 ls w.1 mine w.2 e
                | inr e ↦ (
                    let on : w.0 ≡ s = same_square w.0 s e.0 e.1 in
                    let k = subst (λ x. Stands p (other_of p.turn) King x) on w.2 in
                    other_differs p.turn (one_man p (other_of p.turn) p.turn King King s k mine).0)
              ])
        ]
      ]

pub no_minor_mate : (p : Board) → IsValid p → HasOneMinor p (other_of p.turn) → IsBare p p.turn →
    is_in_check p p.turn ≡ true → legal_moves_of p ≢ []
no_minor_mate p v minor bare check =
    let c = check_means p p.turn check in
    goes_on p v minor bare c.square c.on_board c.king check

-- what the counts of men say: where a man of a kind stands, there is one at least
pub man_counted : (p : Board) (c : Colour) (k : Kind) (s : ℕ) → IsValid p → s < 64 →
    Stands p c k s → 1 ≤ count_of p c k
man_counted p c k s v ls e =
    let size = v.fits.size in
    let cell = cell_of_man (record { colour = c; kind = k }) in
    some_there (λ x. x == cell) p.cells s (omega arith) (eq-eqb (slice_index p.cells s) cell e)

pub one_of : (p : Board) (c : Colour) (k : Kind) (s t : ℕ) → IsValid p → count_of p c k ≤ 1 →
    s < 64 → t < 64 → Stands p c k s → Stands p c k t → s ≡ t
one_of p c k s t v l ls lt e f =
    let size = v.fits.size in
    let cell = cell_of_man (record { colour = c; kind = k }) in
    one_place (λ x. x == cell) p.cells s t l (omega arith) (omega arith)
    (eq-eqb (slice_index p.cells s) cell e) (eq-eqb (slice_index p.cells t) cell f)

pub bare_by_counts : (p : Board) (c : Colour) → IsValid p →
    ((k : Kind) → k ≢ King → count_of p c k ≡ 0) → IsBare p c
bare_by_counts p c v none s k ls e =
    elim (is_king_or_not k) [
      | inl h ↦ h
      | inr n ↦ absurd (let zero = none k n in let one = man_counted p c k s v ls e in omega arith)
    ]

module _ (p : Board) (c : Colour) (v : IsValid p) (queens : count_of p c Queen ≡ 0)
    (rooks : count_of p c Rook ≡ 0) (pawns : count_of p c Pawn ≡ 0)
    (few : count_of p c Bishop + count_of p c Knight ≤ 1) where
  is_minor : (k : Kind) → 1 ≤ count_of p c k → k ≢ King → (k ≡ Bishop) ⊎ (k ≡ Knight)
  is_minor King h n = absurd (n refl)
  is_minor Queen h n = absurd (omega arith)
  is_minor Rook h n = absurd (omega arith)
  is_minor Bishop h n = inl refl
  is_minor Knight h n = inr refl
  is_minor Pawn h n = absurd (omega arith)

  same_place : (j k : Kind) (s t : ℕ) → s < 64 → t < 64 → Stands p c j s → Stands p c k t →
      (j ≡ Bishop) ⊎ (j ≡ Knight) → (k ≡ Bishop) ⊎ (k ≡ Knight) → s ≡ t
  same_place j k s t ls lt e f (inl a) (inl b) =
      one_of p c Bishop s t v (omega arith) ls lt (subst (λ (x : Kind). Stands p c x s) a e)
      (subst (λ (x : Kind). Stands p c x t) b f)
  same_place j k s t ls lt e f (inr a) (inr b) =
      one_of p c Knight s t v (omega arith) ls lt (subst (λ (x : Kind). Stands p c x s) a e)
      (subst (λ (x : Kind). Stands p c x t) b f)
  same_place j k s t ls lt e f (inl a) (inr b) = absurd (
      let bishops = man_counted p c Bishop s v ls (subst (λ (x : Kind). Stands p c x s) a e) in
      let knights = man_counted p c Knight t v lt (subst (λ (x : Kind). Stands p c x t) b f) in
      omega arith)
  same_place j k s t ls lt e f (inr a) (inl b) = absurd (
      let knights = man_counted p c Knight s v ls (subst (λ (x : Kind). Stands p c x s) a e) in
      let bishops = man_counted p c Bishop t v lt (subst (λ (x : Kind). Stands p c x t) b f) in
      omega arith)

  pub minor_by_counts : HasOneMinor p c
  minor_by_counts = record {
    minor = λ s k ls e n. is_minor k (man_counted p c k s v ls e) n;
    one = λ s t j k ls lt e f nj nk. same_place j k s t ls lt e f
        (is_minor j (man_counted p c j s v ls e) nj) (is_minor k (man_counted p c k t v lt f) nk);
  }

-- a bare king has no other man
pub bare_is_minor : (p : Board) (c : Colour) → IsBare p c → HasOneMinor p c
bare_is_minor p c bare = record {
  minor = λ s k ls e n. absurd (n (bare s k ls e));
  one = λ s t j k ls lt e f nj nk. absurd (nj (bare s j ls e));
}
