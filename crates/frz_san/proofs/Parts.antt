-- What the parts of a text say.
use Rattle.std.proofs.Common.{◌≡◌, ℕ, ◌<◌, Bool, true, false, List, [], ◌∷◌, ◌++◌, length, refl, ap, sym, ◌∙◌, arith, Option, None, Some, append_assoc}
use Rattle.std.specs.Prelude.{if◌then◌else◌}
use Rattle.std.proofs.lemmas.List.{length-append}
use Rattle.frz_board.specs.declared.man.Kind.{Kind}
use Rattle.frz_board.specs.declared.man.Kind.TheVariants.{King, Queen, Rook, Bishop, Knight, Pawn}
use Rattle.frz_board.specs.Men.{letter_of_kind, kind_of_letter}
use Rattle.frz_board.specs.Squares.{file_of}
use Rattle.frz_board.specs.Texts.{file_letter, rank_digit}
use Rattle.frz_san.specs.Notation.{square_text, promotion}

letter_back : (k : Kind) → kind_of_letter (letter_of_kind k) ≡ Some k
letter_back King = refl
letter_back Queen = refl
letter_back Rook = refl
letter_back Bishop = refl
letter_back Knight = refl
letter_back Pawn = refl

pub same_letter : (k j : Kind) → letter_of_kind k ≡ letter_of_kind j → k ≡ j
same_letter k j e =
    let same : Some k ≡ Some j = sym (letter_back k) ∙ ap kind_of_letter e ∙ letter_back j in
    cc

pub same_promotion : (x y : Option Kind) → promotion x ≡ promotion y → x ≡ y
same_promotion None None e = refl
same_promotion None (Some k) e = cc
same_promotion (Some k) None e = cc
same_promotion (Some k) (Some j) e =
    let l : letter_of_kind k ≡ letter_of_kind j = cc in ap Some (same_letter k j l)

pub same_square : (a b : ℕ) → file_letter a ≡ file_letter b → rank_digit a ≡ rank_digit b → a ≡ b
same_square a b h k = omega arith

-- equal texts have equal last letters, and are equal before them
pub end_one : (xs ys : List ℕ) (a b : ℕ) → xs ++ a ∷ [] ≡ ys ++ b ∷ [] → (xs ≡ ys) × (a ≡ b)
end_one [] [] a b e = let h : a ≡ b = cc in (refl, h)
end_one [] (y ∷ ys) a b e = absurd (omega (arith, ap length e, length-append ys (b ∷ [])))
end_one (x ∷ xs) [] a b e = absurd (omega (arith, ap length e, length-append xs (a ∷ [])))
end_one (x ∷ xs) (y ∷ ys) a b e =
    let first : x ≡ y = cc in
    let rest : xs ++ a ∷ [] ≡ ys ++ b ∷ [] = cc in
    let h = end_one xs ys a b rest in
    let same : x ∷ xs ≡ y ∷ ys = cc in
    (same, h.1)

two : (xs : List ℕ) (a b : ℕ) → xs ++ a ∷ b ∷ [] ≡ (xs ++ a ∷ []) ++ b ∷ []
two xs a b = sym (append_assoc xs (a ∷ []) (b ∷ []))

pub end_two : (xs ys : List ℕ) (a b c d : ℕ) → xs ++ a ∷ b ∷ [] ≡ ys ++ c ∷ d ∷ [] →
    (xs ≡ ys) × (a ≡ c) × (b ≡ d)
end_two xs ys a b c d e =
    let last = end_one (xs ++ a ∷ []) (ys ++ c ∷ []) b d (sym (two xs a b) ∙ e ∙ two ys c d) in
    let before = end_one xs ys a c last.0 in
    (before.0, before.1, last.1)

-- the text of a pawn's move, from whether it captures
abbrev pub pawn_by : Bool → ℕ → ℕ → Option Kind → List ℕ
pawn_by t a b x = (if t then file_letter a ∷ [] else []) ++ (if t then 120 ∷ [] else [])
    ++ square_text b ++ promotion x

-- the text of a piece's move, from its letter, its origin's part and whether it captures
abbrev pub piece_by : ℕ → List ℕ → Bool → ℕ → List ℕ
piece_by l o t b = (l ∷ []) ++ o ++ (if t then 120 ∷ [] else []) ++ square_text b

pub record SamePawn (t u : Bool) (a b : ℕ) (x : Option Kind) (c d : ℕ)
    (y : Option Kind) : Type 0 where
  pub capture : t ≡ u
  pub to : b ≡ d
  pub promo : x ≡ y
  pub from : t ≡ true → file_of a ≡ file_of c

-- the square and the promotion that end a text
same_end : (b d : ℕ) (x y : Option Kind) →
    square_text b ++ promotion x ≡ square_text d ++ promotion y → (b ≡ d) × (x ≡ y)
same_end b d x y e =
    let file : file_letter b ≡ file_letter d = cc in
    let rank : rank_digit b ≡ rank_digit d = cc in
    let rest : promotion x ≡ promotion y = cc in
    (same_square b d file rank, same_promotion x y rest)

pub pawn_tells : (t u : Bool) (a b : ℕ) (x : Option Kind) (c d : ℕ) (y : Option Kind) → b < 64 →
    d < 64 → pawn_by t a b x ≡ pawn_by u c d y → SamePawn t u a b x c d y
pawn_tells true true a b x c d y lb ld e =
    let first : file_letter a ≡ file_letter c = cc in
    let end = same_end b d x y (cc) in
    record { capture = refl; to = end.0; promo = end.1; from = λ _. omega arith }
pawn_tells true false a b x c d y lb ld e =
    let second : 120 ≡ rank_digit d = cc in absurd (omega arith)
pawn_tells false true a b x c d y lb ld e =
    let second : rank_digit b ≡ 120 = cc in absurd (omega arith)
pawn_tells false false a b x c d y lb ld e =
    let end = same_end b d x y e in
    record { capture = refl; to = end.0; promo = end.1; from = λ h. absurd cc }

pub record SamePiece (l : ℕ) (o : List ℕ) (t : Bool) (b : ℕ) (k : ℕ) (q : List ℕ) (u : Bool)
    (d : ℕ) : Type 0 where
  pub letter : l ≡ k
  pub before : o ++ (if t then 120 ∷ [] else []) ≡ q ++ (if u then 120 ∷ [] else [])
  pub to : b ≡ d

pub piece_tells : (l : ℕ) (o : List ℕ) (t : Bool) (b : ℕ) (k : ℕ) (q : List ℕ) (u : Bool) (d : ℕ) →
    piece_by l o t b ≡ piece_by k q u d → SamePiece l o t b k q u d
piece_tells l o t b k q u d e =
    let first : l ≡ k = cc in
    let rest : o ++ (if t then 120 ∷ [] else []) ++ square_text b ≡ q
    ++ (if u then 120 ∷ [] else []) ++ square_text d = cc in
    let ends = end_two (o ++ (if t then 120 ∷ [] else [])) (q ++ (if u then 120 ∷ [] else []))
    (file_letter b) (rank_digit b) (file_letter d) (rank_digit d) rest in
    record { letter = first; before = ends.0; to = same_square b d ends.1 ends.2 }

small : (t : Bool) (a b : ℕ) (x : Option Kind) (l : ℕ) (rest : List ℕ) → l < 97 →
    pawn_by t a b x ≡ l ∷ rest → ⊥
small true a b x l rest h e = let first : file_letter a ≡ l = cc in omega arith
small false a b x l rest h e = let first : file_letter b ≡ l = cc in omega arith

low : (k : Kind) → letter_of_kind k < 97
low King = omega arith
low Queen = omega arith
low Rook = omega arith
low Bishop = omega arith
low Knight = omega arith
low Pawn = omega arith

-- a pawn's text begins with a small letter, a piece's with a capital
pub no_letter : (t : Bool) (a b : ℕ) (x : Option Kind) (k : Kind) (o : List ℕ) (u : Bool) (d : ℕ) →
    pawn_by t a b x ≡ piece_by (letter_of_kind k) o u d → ⊥
no_letter t a b x k o u d e =
    small t a b x (letter_of_kind k) (o ++ (if u then 120 ∷ [] else []) ++ square_text d) (low k) e
