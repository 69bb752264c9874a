-- A move is undone: its name gives back the position before it.
use Rattle.std.proofs.Common.{◌≡◌, ℕ, ◌<◌, List, length, refl, ap, sym, ◌∙◌, Bool, true, false, cond, ◌&&◌, arith, Option, None, Some, slice_index, slice_set, length-set, inl, inr}
use Rattle.std.specs.Prelude.{◌==◌, is_some, if◌then◌else◌}
use Rattle.std.proofs.lemmas.Bool.Decides.{eqb_tells}
use Rattle.std.proofs.lemmas.Grind.{same_number_lists}
use Rattle.frz_board.specs.declared.man.Colour.{Colour}
use Rattle.frz_board.specs.declared.man.Kind.{Kind}
use Rattle.frz_board.specs.declared.man.Kind.TheVariants.{King, Queen, Rook, Bishop, Knight, Pawn}
use Rattle.frz_board.specs.declared.man.Man.{Man}
use Rattle.frz_board.specs.Boards.{Board}
use Rattle.frz_board.specs.Men.{cell_of_man, other_of}
use Rattle.frz_board.specs.Moving.{Step}
use Rattle.frz_board.specs.Attacks.{pawn_reaches, is_in_check}
use Rattle.frz_board.proofs.Lemmas.{set_at, other_other}
use Rattle.frz_fide.specs.Legal.{after, after_man, arrives, cells_after, target_after, promotes, is_target, beside_on_file}
use Rattle.frz_fide.specs.Valid.{IsValid}
use Rattle.frz_fide.proofs.Lemmas.{Move}
use Rattle.frz_fide.proofs.Lemmas.{arrived}
use Rattle.frz_fide.proofs.Lemmas as kept
use Rattle.frz_sets.specs.Sets.{pawn}
use Rattle.frz_unmove.specs.Earlier.{before, cells_before, mover_cell, name, was_en_passant}

pub written : (xs : List ℕ) (a b v w e y s : ℕ) (t : Bool) → a < length xs → b < length xs →
    e < length xs →
    slice_index (cond t (slice_set (slice_set (slice_set xs b w) a v) e y)
    (slice_set (slice_set xs b w) a v)) s ≡ cond (t && (s == e)) y
    (cond (s == a) v (cond (s == b) w (slice_index xs s)))
written xs a b v w e y s false la lb le =
    set_at (slice_set xs b w) a v s (rw length-set la) ∙ ap (cond (s == a) v) (set_at xs b w s lb)
written xs a b v w e y s true la lb le =
    set_at (slice_set (slice_set xs b w) a v) e y s (rw (length-set, length-set) le)
    ∙ ap (cond (s == e) y)
    (set_at (slice_set xs b w) a v s (rw length-set la) ∙ ap (cond (s == a) v) (set_at xs b w s lb))

pub written-length : (xs : List ℕ) (a b v w e y : ℕ) (t : Bool) →
    length (cond t (slice_set (slice_set (slice_set xs b w) a v) e y)
    (slice_set (slice_set xs b w) a v)) ≡ length xs
written-length xs a b v w e y false = rw (length-set, length-set) refl
written-length xs a b v w e y true = rw (length-set, length-set, length-set) refl

undone_by : (t : Bool) (e a b s x y v w r : ℕ) → (t ≡ true → s ≡ e → y ≡ x) → (s ≡ a → v ≡ x) →
    (s ≡ b → w ≡ x) →
    cond (t && (s == e)) y
    (cond (s == a) v
    (cond (s == b) w (cond (t && (s == e)) 0 (cond (s == b) r (cond (s == a) 0 x))))) ≡ x
undone_by false e a b s x y v w r he ha hb =
    elim (eqb_tells s a) [
      | inl i ↦ rw i.0 (ha i.1)
      | inr i ↦ elim (eqb_tells s b) [
        | inl j ↦ rw (i.0, j.0) (hb j.1)
        | inr j ↦ rw (i.0, j.0) refl
      ]
    ]
undone_by true e a b s x y v w r he ha hb =
    elim (eqb_tells s e) [
      | inl k ↦ rw k.0 (he refl k.1)
      | inr k ↦ elim (eqb_tells s a) [
        | inl i ↦ rw (k.0, i.0) (ha i.1)
        | inr i ↦ elim (eqb_tells s b) [
          | inl j ↦ rw (k.0, i.0, j.0) (hb j.1)
          | inr j ↦ rw (k.0, i.0, j.0) refl
        ]
      ]
    ]

-- only a pawn becomes something else
pub promotes_pawn : (c : Colour) (k : Kind) (b : ℕ) (j : Kind) → promotes c k b (Some j) ≡ true →
    k ≡ Pawn
promotes_pawn c Pawn b j h = refl
promotes_pawn c King b j h = cc
promotes_pawn c Queen b j h = cc
promotes_pawn c Rook b j h = cc
promotes_pawn c Bishop b j h = cc
promotes_pawn c Knight b j h = cc

-- the mover's cell, whether the man became another or not
mover_by : (c : Colour) (man : Man) (b : ℕ) (promo : Option Kind) (cell : ℕ) → man.colour ≡ c →
    promotes man.colour man.kind b promo ≡ true → cell ≡ cell_of_man (arrives man promo) →
    (if is_some promo then pawn c else cell) ≡ cell_of_man man
mover_by c man b None cell own h e = e
mover_by c man b (Some j) cell own h e =
    let made : Colour → Kind → ℕ = λ c k. cell_of_man (record { colour = c; kind = k }) in
    ap (λ d. made d Pawn) (sym own)
    ∙ ap (made man.colour) (sym (promotes_pawn man.colour man.kind b j h))

module _ (p : Board) (m : Step) (v : IsValid p) (lt : m.to < 64) (f : Move p m) where
  abbrev pub next : Board
  next =
      record { cells = cells_after p f.man m; turn = other_of p.turn; ep = target_after p f.man m }

  pub after_is : after p m ≡ next
  after_is = ap (λ o. after_man p o m) f.on

  pub mover_is : mover_cell next m ≡ cell_of_man f.man
  mover_is =
      ap (λ c. if is_some m.promo then pawn c else slice_index next.cells m.to) (other_other p.turn)
      ∙ mover_by p.turn f.man m.to m.promo (slice_index next.cells m.to) f.own f.promo
      (kept.cell_there p m v lt f m.to ∙ arrived p m f)

  took : was_en_passant next m p.ep ≡ kept.takes p m v lt f
  took =
      let side : other_of next.turn ≡ f.man.colour = other_other p.turn ∙ sym f.own in
      ap (λ c. mover_cell next m == pawn c && (pawn_reaches c m.from m.to && is_target p.ep m.to))
      side
      ∙ ap (λ x. x == pawn f.man.colour
      && (pawn_reaches f.man.colour m.from m.to && is_target p.ep m.to)) mover_is
      ∙ ap (λ x. x && (pawn_reaches f.man.colour m.from m.to && is_target p.ep m.to))
      (kept.pawn_tests f.man.colour f.man.kind).0

  abbrev undone : List ℕ
  undone = cells_before next (name m (slice_index p.cells m.to) p.ep)

  abbrev by_takes : Bool → List ℕ
  by_takes t =
      let back = slice_set (slice_set next.cells m.to (slice_index p.cells m.to)) m.from
      (mover_cell next m) in
      cond t (slice_set back (beside_on_file m.from m.to) (pawn next.turn)) back

  undone_is : undone ≡ by_takes (kept.takes p m v lt f)
  undone_is = ap by_takes took

  size : length next.cells ≡ 64
  size =
      (kept.valid_then p m v lt f
      (ap (λ (q : Board). is_in_check q p.turn) (sym after_is) ∙ f.safe)).fits.size

  beside_fits : beside_on_file m.from m.to < 64
  beside_fits = let from = kept.lf p m v lt f in let to = lt in omega arith

  same_cell : (s : ℕ) → slice_index undone s ≡ slice_index p.cells s
  same_cell s =
      let from = kept.lf p m v lt f in
      let t = kept.takes p m v lt f in
      let e = beside_on_file m.from m.to in
      let w = slice_index p.cells m.to in
      ap (λ xs. slice_index xs s) undone_is
      ∙ written next.cells m.from m.to (mover_cell next m) w e (pawn next.turn) s t
      (omega (arith, size)) (omega (arith, size)) (omega (arith, size, beside_fits))
      ∙ ap (λ x. cond (t && (s == e)) (pawn next.turn)
      (cond (s == m.from) (mover_cell next m) (cond (s == m.to) w x)))
      (kept.cell_there p m v lt f s)
      ∙ undone_by t e m.from m.to s (slice_index p.cells s) (pawn next.turn) (mover_cell next m) w
      (cell_of_man (arrives f.man m.promo))
      (λ h i. sym (kept.enemy p m v lt f h) ∙ ap (slice_index p.cells) (sym i))
      (λ i. mover_is ∙ sym (kept.mover p m v lt f) ∙ ap (slice_index p.cells) (sym i))
      (λ i. ap (slice_index p.cells) (sym i))

  same_cells : undone ≡ p.cells
  same_cells =
      same_number_lists undone p.cells
      (ap length undone_is ∙ written-length next.cells m.from m.to (mover_cell next m)
      (slice_index p.cells m.to) (beside_on_file m.from m.to) (pawn next.turn)
      (kept.takes p m v lt f) ∙ size ∙ sym v.fits.size)
      (λ k l. same_cell k)

  -- what the name of a move says gives back the position before it
  pub undone_next : before next (name m (slice_index p.cells m.to) p.ep) ≡ p
  undone_next =
      let made : List ℕ → Colour
      → Board = λ cells turn. record { cells = cells; turn = turn; ep = p.ep } in
      ap (λ cells. made cells (other_of next.turn)) same_cells
      ∙ ap (made p.cells) (other_other p.turn)
