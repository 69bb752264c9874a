-- Two legal moves of one position that lead to one position are the same move.
use Rattle.std.proofs.Common.{◌≡◌, ◌<◌, ℕ, true, refl, ap, sym, ◌∙◌, Option, None, Some, slice_index, inl, inr}
use Rattle.std.specs.Prelude.{is_some, is_none, if◌then◌else◌}
use Rattle.std.proofs.lemmas.Bool.Decides.{eqb_tells}
use Rattle.frz_board.specs.Boards.{Board, man_on}
use Rattle.frz_board.specs.Men.{man_of_cell, is_man_of}
use Rattle.frz_board.specs.Moving.{Step, IsStep, is_promotion}
use Rattle.frz_fide.specs.Legal.{is_legal, after, arrives, promotes, is_last}
use Rattle.frz_fide.specs.Valid.{IsValid}
use Rattle.frz_board.specs.declared.man.Colour.{Colour}
use Rattle.frz_board.specs.declared.man.Kind.{Kind}
use Rattle.frz_board.specs.declared.man.Kind.TheVariants.{King, Queen, Rook, Bishop, Knight, Pawn}
use Rattle.frz_board.specs.declared.man.Man.{Man}
use Rattle.std.proofs.lemmas.Bool.{and_parts}
use Rattle.frz_fide.proofs.LegalParts.{Move, facts}
use Rattle.frz_fide.proofs.Cells.{cell_then}
use Rattle.frz_fide.proofs.Standing.{after_at, stays, arrived, left, none_comes, arrived_own, arrives_own, holds_from}

module _ (p : Board) (m n : Step) (v : IsValid p) (lm : m.to < 64) (ln : n.to < 64) (f : Move p m)
    (g : Move p n) (e : after p m ≡ after p n) where
  -- the two moves leave the same on each square
  same_cells : (s : ℕ) → cell_then p f.man m s ≡ cell_then p g.man n s
  same_cells s =
      sym (after_at p m v lm f s) ∙ ap (λ q. slice_index q.cells s) e ∙ after_at p n v ln g s

  same_from : m.from ≡ n.from
  same_from =
      elim (eqb_tells m.from n.from) [
        | inl w ↦ w.1
        | inr w ↦ absurd (
            let empty = left p m f in
            let kept = stays p n v g m.from (holds_from p m f) w.1 in
            let own = holds_from p m f in
            let zero : slice_index p.cells m.from ≡ 0 = sym kept ∙ sym (same_cells m.from)
            ∙ empty in
            let none = ap (λ x. is_man_of p.turn (man_of_cell x)) zero in
            cc)
      ]

  same_to : m.to ≡ n.to
  same_to =
      elim (eqb_tells m.to n.to) [
        | inl w ↦ w.1
        | inr w ↦ absurd (
            let none = none_comes p n g m.to f.free w.1 in
            let own = arrived_own p m f in
            let same = ap (λ x. is_man_of p.turn (man_of_cell x)) (same_cells m.to) in
            cc)
      ]

  same_arrival : arrives f.man m.promo ≡ arrives g.man n.promo
  same_arrival =
      let cells = sym (arrived p m f) ∙ same_cells m.to ∙ ap (cell_then p g.man n) same_to
      ∙ arrived p n g in
      let men = sym (arrives_own f.man m.promo) ∙ ap man_of_cell cells
      ∙ arrives_own g.man n.promo in
      cc

  same_man : f.man ≡ g.man
  same_man = let men = sym f.on ∙ ap (man_on p) same_from ∙ g.on in cc

-- what a pawn becomes is no pawn
no_pawn : (c : Colour) (x : Option Kind) → is_promotion x ≡ true → x ≡ Some Pawn → ⊥
no_pawn c None h e = cc
no_pawn c (Some k) h e = let same = ap is_promotion e in cc

promo_by : (man : Man) (x y : Option Kind) → (x ≡ Some Pawn → ⊥) → (y ≡ Some Pawn → ⊥) →
    man.kind ≡ Pawn → arrives man x ≡ arrives man y → x ≡ y
promo_by man None None hx hy k e = refl
promo_by man None (Some y) hx hy k e =
    absurd (hy (ap (λ (w : Man). Some w.kind) (sym e) ∙ ap Some k))
promo_by man (Some x) None hx hy k e = absurd (hx (ap (λ (w : Man). Some w.kind) e ∙ ap Some k))
promo_by man (Some x) (Some y) hx hy k e = ap (λ (w : Man). Some w.kind) e

none_of : (x y : Option Kind) → is_none x ≡ true → is_none y ≡ true → x ≡ y
none_of None None hx hy = refl
none_of None (Some y) hx hy = cc
none_of (Some x) y hx hy = cc

same_promo : (man : Man) (c : Colour) (k : Kind) (b : ℕ) (x y : Option Kind) → man.kind ≡ k →
    promotes c k b x ≡ true → promotes c k b y ≡ true → arrives man x ≡ arrives man y → x ≡ y
same_promo man c Pawn b x y k hx hy e =
    promo_by man x y
    (no_pawn c x (and_parts (is_promotion x) (if is_last c b then is_some x else is_none x) hx).0)
    (no_pawn c y (and_parts (is_promotion y) (if is_last c b then is_some y else is_none y) hy).0) k
    e
same_promo man c King b x y k hx hy e = none_of x y hx hy
same_promo man c Queen b x y k hx hy e = none_of x y hx hy
same_promo man c Rook b x y k hx hy e = none_of x y hx hy
same_promo man c Bishop b x y k hx hy e = none_of x y hx hy
same_promo man c Knight b x y k hx hy e = none_of x y hx hy

pub same_parts : (m n : Step) → m.from ≡ n.from → m.to ≡ n.to → m.promo ≡ n.promo → m ≡ n
same_parts m n from to promo =
    let made : ℕ → ℕ → Option Kind → Step = λ a b k. record { from = a; to = b; promo = k } in
    ap (λ a. made a m.to m.promo) from ∙ ap (λ b. made n.from b m.promo) to
    ∙ ap (made n.from n.to) promo

same_by : (p : Board) (m n : Step) → IsValid p → m.to < 64 → n.to < 64 → Move p m → Move p n →
    after p m ≡ after p n → m ≡ n
same_by p m n v lm ln f g e =
    let from = same_from p m n v lm ln f g e in
    let to = same_to p m n v lm ln f g e in
    let man = same_man p m n v lm ln f g e in
    let arrival = same_arrival p m n v lm ln f g e in
    let second : promotes f.man.colour f.man.kind m.to n.promo ≡ true =
    ap (λ w. promotes w.colour w.kind m.to n.promo) man
    ∙ ap (λ b. promotes g.man.colour g.man.kind b n.promo) to ∙ g.promo in
    let promo : m.promo ≡ n.promo = same_promo f.man f.man.colour f.man.kind m.to m.promo n.promo
    refl f.promo second (arrival ∙ ap (λ w. arrives w n.promo) (sym man)) in
    same_parts m n from to promo

pub same_move : (p : Board) (m n : Step) → IsValid p → IsStep m → IsStep n → is_legal p m ≡ true →
    is_legal p n ≡ true → after p m ≡ after p n → m ≡ n
same_move p m n v sm sn hm hn e = same_by p m n v sm.to sn.to (facts p m hm) (facts p n hn) e
