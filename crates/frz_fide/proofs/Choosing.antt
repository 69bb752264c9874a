-- The promotions of a pawn, one by one.
use Rattle.std.proofs.Common.{◌≡◌, ◌∙◌, ◌++◌, ◌+◌, ◌≤◌, ℕ, List, [], ◌∷◌, length, refl, ap, sym, filter, length-append, append_assoc, arith}
use Rattle.std.specs.Prelude.{Some}
use Rattle.std.proofs.lemmas.List.Elements.{filter-append}
use Rattle.frz_board.specs.Boards.{Board}
use Rattle.frz_board.specs.Moving.{Step}
use Rattle.frz_board.specs.declared.man.Kind.{Kind}
use Rattle.frz_board.specs.declared.man.Kind.TheVariants.{Queen, Rook, Bishop, Knight}
use Rattle.frz_fide.specs.Legal.{is_legal}
use Rattle.frz_fide.specs.SquareBySquare.{chosen}

-- the move from a to b by which a pawn becomes this man
abbrev becomes : ℕ → ℕ → Kind → Step
becomes a b kind = record { from = a; to = b; promo = Some kind }

-- the step alone, if it is legal
abbrev if_legal : Board → Step → List Step
if_legal p m = filter (is_legal p) (m ∷ [])

one_by_one : (p : Board) (a b : ℕ) → chosen p a b
    ≡ if_legal p (becomes a b Queen)
    ++ (if_legal p (becomes a b Rook)
    ++ (if_legal p (becomes a b Bishop) ++ if_legal p (becomes a b Knight)))
unfolding chosen
one_by_one p a b =
    filter-append (is_legal p) (becomes a b Queen ∷ [])
    (becomes a b Rook ∷ becomes a b Bishop ∷ becomes a b Knight ∷ [])
    ∙ ap (λ xs. if_legal p (becomes a b Queen) ++ xs)
    (filter-append (is_legal p) (becomes a b Rook ∷ [])
    (becomes a b Bishop ∷ becomes a b Knight ∷ [])
    ∙ ap (λ xs. if_legal p (becomes a b Rook) ++ xs)
    (filter-append (is_legal p) (becomes a b Bishop ∷ []) (becomes a b Knight ∷ [])))

-- four lists that were pushed behind a start, one by one
in_a_row : (start q r b n : List Step) → (((start ++ q) ++ r) ++ b) ++ n ≡ start
    ++ (q ++ (r ++ (b ++ n)))
in_a_row start q r b n =
    append_assoc ((start ++ q) ++ r) b n ∙ append_assoc (start ++ q) r (b ++ n)
    ∙ append_assoc start q (r ++ (b ++ n))

-- the list after the four calls
pub all_added : (p : Board) (a b : ℕ) (queen rook bishop knight : Step)
    (start first second third fourth : List Step)
    → queen ≡ becomes a b Queen → rook ≡ becomes a b Rook → bishop ≡ becomes a b Bishop
    → knight ≡ becomes a b Knight
    → first ≡ start ++ if_legal p queen → second ≡ first ++ if_legal p rook
    → third ≡ second ++ if_legal p bishop → fourth ≡ third ++ if_legal p knight
    → fourth ≡ start ++ chosen p a b
all_added p a b queen rook bishop knight start first second third fourth q r i n one two three
    four =
    four
    ∙ ap (λ xs. xs ++ if_legal p knight)
    (three ∙ ap (λ xs. xs ++ if_legal p bishop) (two ∙ ap (λ xs. xs ++ if_legal p rook) one))
    ∙ in_a_row start (if_legal p queen) (if_legal p rook) (if_legal p bishop) (if_legal p knight)
    ∙ ap (λ xs. start ++ xs) (rw (q, r, i, n) refl ∙ sym (one_by_one p a b))

many : Board → Step → ℕ
many p m = length (if_legal p m)

-- as many as all four
counted : (p : Board) (a b : ℕ) → length (chosen p a b)
    ≡ many p (becomes a b Queen)
    + (many p (becomes a b Rook) + (many p (becomes a b Bishop) + many p (becomes a b Knight)))
unfolding many
counted p a b = ap length (one_by_one p a b) ∙ rw (length-append, length-append, length-append) refl

longer : (p : Board) (m : Step) (list next : List Step) → next ≡ list ++ if_legal p m
    → length next ≡ length list + many p m
unfolding many
longer p m list next e = ap length e ∙ rw length-append refl

-- there is room for each of the four
pub queen_fits : (p : Board) (a b : ℕ) (queen : Step) (start : List Step)
    → queen ≡ becomes a b Queen
    → length start + length (chosen p a b) ≤ 1024 → length start + length (if_legal p queen) ≤ 1024
unfolding many
queen_fits p a b queen start q room = omega (arith, room, counted p a b, ap (many p) q)

pub rook_fits : (p : Board) (a b : ℕ) (queen rook : Step) (start first : List Step)
    → queen ≡ becomes a b Queen → rook ≡ becomes a b Rook
    → first ≡ start ++ if_legal p queen
    → length start + length (chosen p a b) ≤ 1024 → length first + length (if_legal p rook) ≤ 1024
unfolding many
rook_fits p a b queen rook start first q r one room =
    omega (arith, room, counted p a b, ap (many p) q, ap (many p) r, longer p queen start first one)

pub bishop_fits : (p : Board) (a b : ℕ) (queen rook bishop : Step) (start first second : List Step)
    → queen ≡ becomes a b Queen → rook ≡ becomes a b Rook → bishop ≡ becomes a b Bishop
    → first ≡ start ++ if_legal p queen → second ≡ first ++ if_legal p rook
    → length start + length (chosen p a b) ≤ 1024
    → length second + length (if_legal p bishop) ≤ 1024
unfolding many
bishop_fits p a b queen rook bishop start first second q r i one two room =
    omega (
      arith,
      room,
      counted p a b,
      ap (many p) q,
      ap (many p) r,
      ap (many p) i,
      longer p queen start first one,
      longer p rook first second two,
    )

pub knight_fits : (p : Board) (a b : ℕ) (queen rook bishop knight : Step)
    (start first second third : List Step)
    → queen ≡ becomes a b Queen → rook ≡ becomes a b Rook → bishop ≡ becomes a b Bishop
    → knight ≡ becomes a b Knight
    → first ≡ start ++ if_legal p queen → second ≡ first ++ if_legal p rook
    → third ≡ second ++ if_legal p bishop
    → length start + length (chosen p a b) ≤ 1024 → length third + length (if_legal p knight) ≤ 1024
unfolding many
knight_fits p a b queen rook bishop knight start first second third q r i n one two three room =
    omega (
      arith,
      room,
      counted p a b,
      ap (many p) q,
      ap (many p) r,
      ap (many p) i,
      ap (many p) n,
      longer p queen start first one,
      longer p rook first second two,
      longer p bishop second third three,
    )
