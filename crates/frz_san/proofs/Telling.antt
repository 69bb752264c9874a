-- Two different legal moves have different texts, without the sign.
use Rattle.std.proofs.Common.{◌≡◌, ℕ, ◌+◌, Bool, true, false, not, ◌&&◌, ◌||◌, [], ◌∷◌, ◌++◌, refl, ap, sym, ◌∙◌, subst, arith, Option, None, Some, inl, inr, slice_index}
use Rattle.std.specs.Prelude.{◌==◌, if◌then◌else◌}
use Rattle.std.proofs.lemmas.Bool.{eqb-true}
use Rattle.std.proofs.lemmas.Bool.Decides.{eqb_tells}
use Rattle.std.proofs.lemmas.List.{append_cancel_right}
use Rattle.frz_board.specs.Boards.{Board, man_on, is_empty}
use Rattle.frz_board.specs.declared.man.Colour.{Colour}
use Rattle.frz_board.specs.declared.man.Colour.TheVariants.{White, Black}
use Rattle.frz_board.specs.declared.man.Kind.{Kind}
use Rattle.frz_board.specs.declared.man.Kind.TheVariants.{King, Queen, Rook, Bishop, Knight, Pawn}
use Rattle.frz_board.specs.declared.man.Man.{Man}
use Rattle.frz_board.specs.Men.{letter_of_kind, is_pawn, man_of_cell, cell_of_man}
use Rattle.frz_board.specs.Moving.{Step, IsStep}
use Rattle.frz_board.specs.Squares.{file_of, rank_of, files_apart, is_forward}
use Rattle.frz_board.proofs.Lemmas.{cell_back}
use Rattle.std.proofs.Math.Bool.{not-not}
use Rattle.frz_fide.specs.Legal.{is_legal, promotes, takes_in_passing, passed_over}
use Rattle.frz_fide.proofs.Lemmas.{Move, facts, same_parts}
use Rattle.frz_fide.proofs.Lemmas.{listed}
use Rattle.frz_san.specs.Notation.{is_capture, origin, cross, pawn_text, piece_text, text_by, unsigned}
use Rattle.frz_san.proofs.Parts.{pawn_tells, piece_tells, no_letter, same_letter}
use Rattle.frz_san.proofs.Rivals.{rivals, origin_tells}
use Rattle.frz_san.proofs.Taking.{Way, diagonal, straight, double, way_of, captures_by_file}

same_man : (x y : Man) → x.colour ≡ y.colour → x.kind ≡ y.kind → x ≡ y
same_man x y c k = let made : Colour → Kind → Man = λ c k. record { colour = c; kind = k } in
    ap (λ c. made c x.kind) c ∙ ap (made y.colour) k

is_the_pawn : (k : Kind) → is_pawn k ≡ true → k ≡ Pawn
is_the_pawn Pawn h = refl
is_the_pawn King h = cc
is_the_pawn Queen h = cc
is_the_pawn Rook h = cc
is_the_pawn Bishop h = cc
is_the_pawn Knight h = cc

-- pawns

stands_not : (p : Board) (s : ℕ) (man : Man) → man_on p s ≡ Some man → is_empty p s ≡ true → ⊥
stands_not p s man on e = let none = ap man_of_cell (eqb-true (slice_index p.cells s) 0 e) in cc

passed_by : (c : Colour) (a d b : ℕ) → files_apart a b ≡ 0 → is_forward c 1 a b ≡ true →
    files_apart d b ≡ 0 → is_forward c 2 d b ≡ true → passed_over d b ≡ a
passed_by White a d b fa h fd k =
    let one = eqb-true (rank_of b) (rank_of a + 1) h in
    let two = eqb-true (rank_of b) (rank_of d + 2) k in
    omega arith
passed_by Black a d b fa h fd k =
    let one = eqb-true (rank_of a) (rank_of b + 1) h in
    let two = eqb-true (rank_of d) (rank_of b + 2) k in
    omega arith

same_start : (c : Colour) (n a d b : ℕ) → is_forward c n a b ≡ true → is_forward c n d b ≡ true →
    file_of a ≡ file_of d → a ≡ d
same_start White n a d b h k e =
    let one = eqb-true (rank_of b) (rank_of a + n) h in
    let two = eqb-true (rank_of b) (rank_of d + n) k in
    omega arith
same_start Black n a d b h k e =
    let one = eqb-true (rank_of a) (rank_of b + n) h in
    let two = eqb-true (rank_of d) (rank_of b + n) k in
    omega arith

-- no pawn steps past another one
not_both : (p : Board) (c : Colour) (a d b : ℕ) (x : Man) → man_on p a ≡ Some x →
    files_apart a b ≡ 0 → is_forward c 1 a b ≡ true → files_apart d b ≡ 0 →
    is_forward c 2 d b ≡ true → is_empty p (passed_over d b) ≡ true → ⊥
not_both p c a d b x on fa h fd k e =
    stands_not p a x on (ap (is_empty p) (sym (passed_by c a d b fa h fd k)) ∙ e)

pawn_squares : (p : Board) (c : Colour) (a d b : ℕ) (x y : Man) → man_on p a ≡ Some x →
    man_on p d ≡ Some y → Way p c a b → Way p c d b → file_of a ≡ file_of d → a ≡ d
pawn_squares p c a d b x y on nd (diagonal fa h t) (diagonal fd k u) e = same_start c 1 a d b h k e
pawn_squares p c a d b x y on nd (diagonal fa h t) (straight fd k u) e = absurd (omega arith)
pawn_squares p c a d b x y on nd (diagonal fa h t) (double fd k u v) e = absurd (omega arith)
pawn_squares p c a d b x y on nd (straight fa h t) (diagonal fd k u) e = absurd (omega arith)
pawn_squares p c a d b x y on nd (straight fa h t) (straight fd k u) e = same_start c 1 a d b h k e
pawn_squares p c a d b x y on nd (straight fa h t) (double fd k u v) e =
    absurd (not_both p c a d b x on fa h fd k v)
pawn_squares p c a d b x y on nd (double fa h t w) (diagonal fd k u) e = absurd (omega arith)
pawn_squares p c a d b x y on nd (double fa h t w) (straight fd k u) e =
    absurd (not_both p c d a b y nd fd k fa h w)
pawn_squares p c a d b x y on nd (double fa h t w) (double fd k u v) e = same_start c 2 a d b h k e

-- two pawns that stay on their files to one square share the file
straight_files : (a b d : ℕ) (t u : Bool) → t ≡ not (file_of a == file_of b) →
    u ≡ not (file_of d == file_of b) → t ≡ u → (t ≡ true → file_of a ≡ file_of d) →
    file_of a ≡ file_of d
straight_files a b d true u h k e from = from refl
straight_files a b d false u h k e from =
    let fa : file_of a ≡ file_of b = eqb-true (file_of a) (file_of b)
    (sym (not-not (file_of a == file_of b)) ∙ ap not (sym h)) in
    let fd : file_of d ≡ file_of b = eqb-true (file_of d) (file_of b)
    (sym (not-not (file_of d == file_of b)) ∙ ap not (sym k) ∙ ap not (sym e)) in
    omega arith

-- pieces

left_or : (x k z : Bool) → k ≡ false → (x || (k && z)) ≡ x
left_or true k z h = refl
left_or false k z h = rw h

piece_takes : (p : Board) (x : Step) (man : Man) → is_pawn man.kind ≡ false →
    is_capture p man x ≡ not (is_empty p x.to)
piece_takes p x man h =
    left_or (not (is_empty p x.to)) (is_pawn man.kind) (takes_in_passing p man.colour x.from x.to) h

no_promotion : (c : Colour) (k : Kind) (b : ℕ) (x : Option Kind) → is_pawn k ≡ false →
    promotes c k b x ≡ true → x ≡ None
no_promotion c Pawn b x h e = cc
no_promotion c King b None h e = refl
no_promotion c Queen b None h e = refl
no_promotion c Rook b None h e = refl
no_promotion c Bishop b None h e = refl
no_promotion c Knight b None h e = refl
no_promotion c King b (Some j) h e = cc
no_promotion c Queen b (Some j) h e = cc
no_promotion c Rook b (Some j) h e = cc
no_promotion c Bishop b (Some j) h e = cc
no_promotion c Knight b (Some j) h e = cc

-- squares with one man have one cell
pub same_cell : (p : Board) (a d : ℕ) (x y : Man) → man_on p a ≡ Some x → man_on p d ≡ Some y →
    x ≡ y → slice_index p.cells a ≡ slice_index p.cells d
same_cell p a d x y on nd e =
    cell_back (slice_index p.cells a) x.colour x.kind on ∙ ap cell_of_man e
    ∙ sym (cell_back (slice_index p.cells d) y.colour y.kind nd)

module _ (p : Board) (m n : Step) (sm : IsStep m) (sn : IsStep n) (hm : is_legal p m ≡ true)
    (hn : is_legal p n ≡ true) (f : Move p m) (g : Move p n) where
  same_side : f.man.colour ≡ g.man.colour
  same_side = f.own ∙ sym g.own

  pawn_moves : f.man.kind ≡ Pawn → g.man.kind ≡ Pawn → pawn_text p f.man m ≡ pawn_text p g.man n →
      m ≡ n
  pawn_moves k j e =
      let same = pawn_tells (is_capture p f.man m) (is_capture p g.man n) m.from m.to m.promo n.from
      n.to n.promo sm.to sn.to e in
      let tm = captures_by_file p f.man m f.on hm k in
      let tn : is_capture p g.man n ≡ not (file_of n.from == file_of m.to) = captures_by_file p
      g.man n g.on hn j ∙ ap (λ b. not (file_of n.from == file_of b)) (sym same.to) in
      let file : file_of m.from ≡ file_of n.from = straight_files m.from m.to n.from
      (is_capture p f.man m) (is_capture p g.man n) tm tn same.capture same.from in
      let w : Way p f.man.colour n.from m.to = subst (λ c. Way p c n.from m.to) (sym same_side)
      (subst (λ b. Way p g.man.colour n.from b) (sym same.to) (way_of p n g j)) in
      let from : m.from ≡ n.from = pawn_squares p f.man.colour m.from n.from m.to f.man g.man f.on
      g.on (way_of p m f k) w file in
      same_parts m n from same.to same.promo

  piece_from : f.man ≡ g.man → m.to ≡ n.to → origin p m ≡ origin p n → m.from ≡ n.from
  piece_from man to e =
      let cell = same_cell p m.from n.from f.man g.man f.on g.on man in
      elim (eqb_tells m.from n.from) [
        | inl w ↦ w.1
        | inr w ↦ origin_tells p m n sm.from sn.from (listed p m sm hm) (listed p n sn hn)
            (rivals p m n (sym cell) (sym to) (λ h. w.1 (sym h))) (rivals p n m cell to w.1) e
      ]

  piece_moves : is_pawn f.man.kind ≡ false → is_pawn g.man.kind ≡ false →
      piece_text p f.man m ≡ piece_text p g.man n → m ≡ n
  piece_moves k j e =
      let same = piece_tells (letter_of_kind f.man.kind) (origin p m) (is_capture p f.man m) m.to
      (letter_of_kind g.man.kind) (origin p n) (is_capture p g.man n) n.to e in
      let man : f.man ≡ g.man = same_man f.man g.man same_side
      (same_letter f.man.kind g.man.kind same.letter) in
      let taking : is_capture p f.man m ≡ is_capture p g.man n = piece_takes p m f.man k
      ∙ ap (λ b. not (is_empty p b)) same.to ∙ sym (piece_takes p n g.man j) in
      let before : origin p m ++ cross p f.man m ≡ origin p n ++ cross p f.man m = same.before
      ∙ ap (λ t. origin p n ++ (if t then 120 ∷ [] else [])) (sym taking) in
      let from = piece_from man same.to
      (append_cancel_right (origin p m) (origin p n) (cross p f.man m) before) in
      same_parts m n from same.to
      (no_promotion f.man.colour f.man.kind m.to m.promo k f.promo
      ∙ sym (no_promotion g.man.colour g.man.kind n.to n.promo j g.promo))

  moves_by : (x y : Bool) → is_pawn f.man.kind ≡ x → is_pawn g.man.kind ≡ y →
      (if x then pawn_text p f.man m else piece_text p f.man m)
      ≡ (if y then pawn_text p g.man n else piece_text p g.man n) →
      m ≡ n
  moves_by true true k j e = pawn_moves (is_the_pawn f.man.kind k) (is_the_pawn g.man.kind j) e
  moves_by true false k j e =
      absurd (no_letter (is_capture p f.man m) m.from m.to m.promo g.man.kind (origin p n)
      (is_capture p g.man n) n.to e)
  moves_by false true k j e =
      absurd (no_letter (is_capture p g.man n) n.from n.to n.promo f.man.kind (origin p m)
      (is_capture p f.man m) m.to (sym e))
  moves_by false false k j e = piece_moves k j e

  same_moves : unsigned p m ≡ unsigned p n → m ≡ n
  same_moves e = moves_by (is_pawn f.man.kind) (is_pawn g.man.kind) refl refl
      (sym (ap (λ o. text_by p o m) f.on) ∙ e ∙ ap (λ o. text_by p o n) g.on)

pub same_move : (p : Board) (m n : Step) → IsStep m → IsStep n → is_legal p m ≡ true →
    is_legal p n ≡ true → unsigned p m ≡ unsigned p n → m ≡ n
same_move p m n sm sn hm hn e = same_moves p m n sm sn hm hn (facts p m hm) (facts p n hn) e
