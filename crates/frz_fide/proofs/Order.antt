-- The legal moves so far, in a loop over the squares.
use Rattle.std.proofs.Common.{◌≡◌, ℕ, zero, suc, ◌+◌, ◌-◌, ◌<◌, ◌≤◌, ◌∙◌, List, [], ◌++◌, length, take, refl, ap, sym, arith, append_assoc, append-nil, length-append}
use Rattle.std.specs.List.{flat_map}
use Rattle.std.proofs.lemmas.List.{take_all}
use Rattle.frz_board.specs.Boards.{Board}
use Rattle.frz_board.specs.Moving.{Step}
use Rattle.frz_board.specs.Squares.{squares}
use Rattle.frz_fide.specs.SquareBySquare.{legal_between, legal_from, legal_by_squares}
use Rattle.frz_squares.proofs.Lemmas.{length-squares}
use Rattle.frz_fide.proofs.Squares.{flat_map_next, room_next}

-- the list that began as start, with the pieces of the squares below n
unfoldable pub grown : {X : Type 0} → List X → (ℕ → List X) → ℕ → List X
grown start f n = start ++ flat_map f (take n squares)

pub grown-next : {X : Type 0} (start : List X) (f : ℕ → List X) (n : ℕ) → n < 64 →
    grown start f (n + 1) ≡ grown start f n ++ f n
unfolding grown
grown-next start f n h = rw (flat_map_next f n h) (sym (append_assoc start _ _))

pub grown-room : {X : Type 0} (start : List X) (f : ℕ → List X) (n : ℕ) → n < 64 →
    length (grown start f n) + length (f n) ≤ length start + length (flat_map f squares)
unfolding grown
grown-room start f n h = rw length-append (omega (arith, room_next f n h))

pub grown-all : {X : Type 0} (start : List X) (f : ℕ → List X) (n : ℕ) → 64 ≤ n →
    grown start f n ≡ start ++ flat_map f squares
unfolding grown
grown-all start f n h =
    ap (λ xs. start ++ flat_map f xs) (take_all n squares (omega (arith, length-squares)))

grown-skip : {X : Type 0} (start : List X) (f : ℕ → List X) (n j : ℕ) → n + j ≤ 64 →
    ((k : ℕ) → n ≤ k → k < n + j → f k ≡ []) → grown start f (n + j) ≡ grown start f n
grown-skip start f n zero l h = let e : n + zero ≡ n = omega arith in ap (grown start f) e
grown-skip start f n (suc j) l h =
    let e : n + suc j ≡ n + j + 1 = omega arith in
    let last : f (n + j) ≡ [] = h (n + j) (omega arith) (omega arith) in
    ap (grown start f) e ∙ grown-next start f (n + j) (omega arith)
    ∙ ap (λ ys. grown start f (n + j) ++ ys) last ∙ append-nil (grown start f (n + j))
    ∙ grown-skip start f n j (omega arith) (λ k i m. h k i (omega arith))

-- the squares that give nothing may be passed over
pub grown-jump : {X : Type 0} (start : List X) (f : ℕ → List X) (n s : ℕ) → n ≤ s → s ≤ 64 →
    ((k : ℕ) → n ≤ k → k < s → f k ≡ []) → grown start f s ≡ grown start f n
grown-jump start f n s l m h =
    let e : n + (s - n) ≡ s = omega arith in ap (grown start f) (sym e) ∙ grown-skip start f n
    (s - n) (omega arith) (λ k i j. h k i (omega arith))

-- the legal moves from a to a square below n, after start
unfoldable pub from_below : List Step → Board → ℕ → ℕ → List Step
from_below start p a n = grown start (λ b. legal_between p a b) n

pub from_below-zero : (start : List Step) (p : Board) (a : ℕ) → from_below start p a 0 ≡ start
unfolding from_below grown
from_below-zero start p a = append-nil start

pub from_below-next : (start : List Step) (p : Board) (a n : ℕ) → n < 64 →
    from_below start p a (n + 1) ≡ from_below start p a n ++ legal_between p a n
unfolding from_below
from_below-next start p a n h = grown-next start (λ b. legal_between p a b) n h

pub from_below-room : (start : List Step) (p : Board) (a n : ℕ) → n < 64 →
    length (from_below start p a n) + length (legal_between p a n) ≤ length start + length
    (legal_from p a)
unfolding from_below legal_from
from_below-room start p a n h = grown-room start (λ b. legal_between p a b) n h

pub from_below-all : (start : List Step) (p : Board) (a n : ℕ) → 64 ≤ n →
    from_below start p a n ≡ start ++ legal_from p a
unfolding from_below legal_from
from_below-all start p a n h = grown-all start (λ b. legal_between p a b) n h

pub from_below-jump : (start : List Step) (p : Board) (a n s : ℕ) → n ≤ s → s ≤ 64 →
    ((k : ℕ) → n ≤ k → k < s → legal_between p a k ≡ []) →
    from_below start p a s ≡ from_below start p a n
unfolding from_below
from_below-jump start p a n s l m h = grown-jump start (λ b. legal_between p a b) n s l m h

-- the legal moves from the squares below n
unfoldable pub all_below : Board → ℕ → List Step
all_below p n = grown [] (λ a. legal_from p a) n

pub all_below-zero : (p : Board) → all_below p 0 ≡ []
unfolding all_below grown
all_below-zero p = refl

pub all_below-next : (p : Board) (n : ℕ) → n < 64 →
    all_below p (n + 1) ≡ all_below p n ++ legal_from p n
unfolding all_below
all_below-next p n h = grown-next [] (λ a. legal_from p a) n h

pub all_below-room : (p : Board) (n : ℕ) → n < 64 →
    length (all_below p n) + length (legal_from p n) ≤ length (legal_by_squares p)
unfolding all_below legal_by_squares
all_below-room p n h = omega (arith, grown-room [] (λ a. legal_from p a) n h)

pub all_below-all : (p : Board) (n : ℕ) → 64 ≤ n → all_below p n ≡ legal_by_squares p
unfolding all_below legal_by_squares
all_below-all p n h = grown-all [] (λ a. legal_from p a) n h

pub all_below-jump : (p : Board) (n s : ℕ) → n ≤ s → s ≤ 64 →
    ((k : ℕ) → n ≤ k → k < s → legal_from p k ≡ []) → all_below p s ≡ all_below p n
unfolding all_below
all_below-jump p n s l m h = grown-jump [] (λ a. legal_from p a) n s l m h

pub ruleset loops = (
  from_below-zero,
  from_below-next,
  from_below-room,
  from_below-all,
  all_below-zero,
  all_below-next,
  all_below-room,
  all_below-all,
)
