-- The origin's part tells a piece from its rivals.
use Rattle.std.proofs.Common.{◌≡◌, ◌≢◌, ℕ, ◌<◌, Bool, true, false, ◌&&◌, not, List, [], ◌∷◌, ap, sym, ◌∙◌, arith, slice_index}
use Rattle.std.specs.Prelude.{◌==◌, if◌then◌else◌}
use Rattle.std.specs.List.{Contains, list_any}
use Rattle.std.proofs.lemmas.Bool.{eq-eqb, and_from}
use Rattle.std.proofs.lemmas.List.Folds.{list_any_at}
use Rattle.frz_board.specs.Boards.{Board}
use Rattle.frz_board.specs.Moving.{Step}
use Rattle.frz_board.specs.Squares.{file_of, rank_of}
use Rattle.frz_board.specs.Texts.{file_letter, rank_digit}
use Rattle.frz_squares.proofs.Lemmas.{same_not}
use Rattle.frz_fide.specs.Listing.{legal_moves_of}
use Rattle.frz_san.specs.Notation.{is_rival, has_rival, has_rival_on_file, has_rival_on_rank, origin, square_text}

any_from : {X : Type 0} (test : X → Bool) (xs : List X) (x : X) → Contains xs x → test x ≡ true →
    list_any test xs ≡ true
any_from test xs x w h = list_any_at test xs w.0 x w.1 (ap test w.2 ∙ h)

-- two moves of such men to one square from two squares
pub rivals : (p : Board) (m n : Step) → slice_index p.cells n.from ≡ slice_index p.cells m.from →
    n.to ≡ m.to → n.from ≢ m.from → is_rival p m n ≡ true
rivals p m n man to from =
    and_from (slice_index p.cells n.from == slice_index p.cells m.from && n.to == m.to)
    (not (n.from == m.from))
    (and_from (slice_index p.cells n.from == slice_index p.cells m.from) (n.to == m.to)
    (eq-eqb (slice_index p.cells n.from) (slice_index p.cells m.from) man) (eq-eqb n.to m.to to))
    (same_not n.from m.from from)

pub some_rival : (p : Board) (m n : Step) → Contains (legal_moves_of p) n → is_rival p m n ≡ true →
    has_rival p m ≡ true
unfolding has_rival
some_rival p m n w h = any_from (is_rival p m) (legal_moves_of p) n w h

-- a rival that starts on the same line, a file or a rank, passes the test of it
pub rival_on : (line : ℕ → ℕ) (p : Board) (m n : Step) → Contains (legal_moves_of p) n →
    is_rival p m n ≡ true → line n.from ≡ line m.from →
    list_any (λ (n : Step). is_rival p m n && line n.from == line m.from) (legal_moves_of p) ≡ true
rival_on line p m n w h e =
    any_from (λ (n : Step). is_rival p m n && line n.from == line m.from) (legal_moves_of p) n w
    (and_from (is_rival p m n) (line n.from == line m.from) h
    (eq-eqb (line n.from) (line m.from) e))

-- the part, from whether there is a rival on the file and one on the rank
abbrev part : Bool → Bool → ℕ → List ℕ
part f r a =
    if not f then file_letter a ∷ [] else (if not r then rank_digit a ∷ [] else square_text a)

-- equal parts of two rivals are parts of one square
parts_tell : (f r g s : Bool) (a c : ℕ) → a < 64 → c < 64 → (file_of a ≡ file_of c → f ≡ true) →
    (rank_of a ≡ rank_of c → r ≡ true) → part f r a ≡ part g s c → a ≡ c
parts_tell false r false s a c la lc hf hr e = let same : file_letter a ≡ file_letter c = cc in
    let f : false ≡ true = hf (omega arith) in absurd cc
parts_tell false r true false a c la lc hf hr e =
    let same : file_letter a ≡ rank_digit c = cc in absurd (omega arith)
parts_tell false r true true a c la lc hf hr e = absurd cc
parts_tell true false false s a c la lc hf hr e =
    let same : rank_digit a ≡ file_letter c = cc in absurd (omega arith)
parts_tell true false true false a c la lc hf hr e = let same : rank_digit a ≡ rank_digit c = cc in
    let f : false ≡ true = hr (omega arith) in absurd cc
parts_tell true false true true a c la lc hf hr e = absurd cc
parts_tell true true false s a c la lc hf hr e = absurd cc
parts_tell true true true false a c la lc hf hr e = absurd cc
parts_tell true true true true a c la lc hf hr e =
    let file : file_letter a ≡ file_letter c = cc in
    let rank : rank_digit a ≡ rank_digit c = cc in
    omega arith

origin_with : (p : Board) (m : Step) → has_rival p m ≡ true →
    origin p m ≡ part (has_rival_on_file p m) (has_rival_on_rank p m) m.from
origin_with p m h = rw h

pub origin_tells : (p : Board) (m n : Step) → m.from < 64 → n.from < 64 →
    Contains (legal_moves_of p) m → Contains (legal_moves_of p) n → is_rival p m n ≡ true →
    is_rival p n m ≡ true → origin p m ≡ origin p n → m.from ≡ n.from
unfolding has_rival_on_file has_rival_on_rank
origin_tells p m n lm ln wm wn hm hn e =
    parts_tell (has_rival_on_file p m) (has_rival_on_rank p m) (has_rival_on_file p n)
    (has_rival_on_rank p n) m.from n.from lm ln
    (λ f. rival_on file_of p m n wn hm (sym f)) (λ r. rival_on rank_of p m n wn hm (sym r))
    (sym (origin_with p m (some_rival p m n wn hm)) ∙ e ∙ origin_with p n (some_rival p n m wm hn))
