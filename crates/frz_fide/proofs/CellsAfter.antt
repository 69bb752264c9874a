-- The cells after a legal move of a valid position.
use Rattle.std.proofs.Common.{◌≡◌, ℕ, ◌<◌, List, ap, sym, ◌∙◌, Bool, true, false, cond, ◌&&◌, arith, Option, None, Some, slice_index, slice_set, length-set, inl, inr}
use Rattle.std.specs.Prelude.{◌==◌}
use Rattle.std.proofs.lemmas.Bool.Decides.{eqb_tells}
use Rattle.std.proofs.lemmas.Bool.{eqb-true, and_parts}
use Rattle.std.proofs.lemmas.List.Elements.{All-set}
use Rattle.frz_board.specs.Attacks.{pawn_reaches}
use Rattle.frz_board.specs.Boards.{Board, CellsFit}
use Rattle.frz_board.specs.Men.{cell_of_man, other_of, is_pawn}
use Rattle.frz_board.specs.Moving.{Step}
use Rattle.frz_board.specs.Squares.{files_apart, is_forward}
use Rattle.frz_fide.specs.Legal.{takes_in_passing, is_target, arrives, beside_on_file, cells_after, target_after}
use Rattle.frz_fide.specs.Valid.{IsValid}
use Rattle.frz_board.specs.declared.man.Kind.{Kind}
use Rattle.frz_board.specs.declared.man.Kind.TheVariants.{Pawn}
use Rattle.frz_board.specs.declared.man.Man.{Man}
use Rattle.frz_board.proofs.Lemmas.{cell_back, cell-small}
use Rattle.frz_fide.proofs.LegalParts.{Move}
use Rattle.frz_fide.proofs.Cells.{cell_then, cell_at}
use Rattle.frz_fide.proofs.Standing.{on_board, taken, others_by, beside_apart}

beside_other : (a b : ℕ) → (files_apart a b == 1) ≡ true → beside_on_file a b ≡ a → ⊥
beside_other a b h e = let apart_one = eqb-true (files_apart a b) 1 h in omega arith

none_two : (q : ℕ → Bool) (t : Bool) (v : ℕ) → q 0 ≡ false → q v ≡ false → q (cond t 0 v) ≡ false
none_two q true v h0 hv = h0
none_two q false v h0 hv = hv

none_by : (q : ℕ → Bool) (t : Bool) (e b a v x s : ℕ) → q 0 ≡ false → q x ≡ false →
    (s ≡ b → q v ≡ false) → q (cond (t && (s == e)) 0 (cond (s == b) v (cond (s == a) 0 x))) ≡ false
none_by q t e b a v x s h0 hx hb =
    elim (eqb_tells s b) [
      | inl w ↦ rw w.0 (none_two q (t && (s == e)) v h0 (hb w.1))
      | inr w ↦ others_by q t e b a v x s h0 hx w.1
    ]

pub arrives_small : (man : Man) (promo : Option Kind) → cell_of_man (arrives man promo) < 13
arrives_small man None = cell-small man.colour man.kind
arrives_small man (Some k) = cell-small man.colour k

pub fit_written : (xs : List ℕ) (a b v e : ℕ) (t : Bool) → v < 13 → CellsFit xs →
    CellsFit (cond t (slice_set (slice_set (slice_set xs a 0) b v) e 0)
    (slice_set (slice_set xs a 0) b v))
fit_written xs a b v e false lv fits = record {
  size = rw (length-set, length-set) fits.size;
  men =
      All-set (λ c. c < 13) (slice_set xs a 0) b v lv
      (All-set (λ c. c < 13) xs a 0 (omega arith) fits.men);
}
fit_written xs a b v e true lv fits = record {
  size = rw (length-set, length-set, length-set) fits.size;
  men =
      All-set (λ c. c < 13) (slice_set (slice_set xs a 0) b v) e 0 (omega arith)
      (All-set (λ c. c < 13) (slice_set xs a 0) b v lv
      (All-set (λ c. c < 13) xs a 0 (omega arith) fits.men));
}

module _ (p : Board) (m : Step) (v : IsValid p) (lt : m.to < 64) (f : Move p m) where
  abbrev pub takes : Bool
  takes = is_pawn f.man.kind && takes_in_passing p f.man.colour m.from m.to

  abbrev pub beside : ℕ
  beside = beside_on_file m.from m.to

  abbrev pub arrival : ℕ
  arrival = cell_of_man (arrives f.man m.promo)

  abbrev pub next : Board
  next =
      record { cells = cells_after p f.man m; turn = other_of p.turn; ep = target_after p f.man m }

  pub lf : m.from < 64
  lf = on_board p m.from f.man v.fits.size f.on

  takes_parts : takes ≡ true → (pawn_reaches f.man.colour m.from m.to) ≡ true
  takes_parts h =
      (and_parts (pawn_reaches f.man.colour m.from m.to) (is_target p.ep m.to)
      (and_parts (is_pawn f.man.kind) (takes_in_passing p f.man.colour m.from m.to) h).1).0

  pub beside_from : takes ≡ true → beside ≡ m.from → ⊥
  beside_from h =
      beside_other m.from m.to
      (and_parts (files_apart m.from m.to == 1) (is_forward f.man.colour 1 m.from m.to)
      (takes_parts h)).0

  pub beside_to : takes ≡ true → beside ≡ m.to → ⊥
  beside_to h e =
      beside_apart f.man.colour m.from m.to
      (and_parts (files_apart m.from m.to == 1) (is_forward f.man.colour 1 m.from m.to)
      (takes_parts h)).1 (sym e)

  pub enemy : takes ≡ true →
      slice_index p.cells beside ≡ cell_of_man (record { colour = other_of p.turn; kind = Pawn })
  enemy h =
      taken p m v f.man.colour f.own
      (and_parts (is_pawn f.man.kind) (takes_in_passing p f.man.colour m.from m.to) h).1

  pub mover : slice_index p.cells m.from ≡ cell_of_man f.man
  mover = cell_back (slice_index p.cells m.from) f.man.colour f.man.kind f.on

  pub cell_there : (s : ℕ) → slice_index (cells_after p f.man m) s ≡ cell_then p f.man m s
  cell_there s = cell_at p f.man m s v.fits.size lf lt

  -- what holds of no empty cell, of the cell as it was and of what arrives, holds of the cell
  pub none_then : (q : ℕ → Bool) (s : ℕ) → q 0 ≡ false → q (slice_index p.cells s) ≡ false →
      (s ≡ m.to → q arrival ≡ false) → q (slice_index (cells_after p f.man m) s) ≡ false
  none_then q s h0 hx hb =
      ap q (cell_there s)
      ∙ none_by q takes beside m.to m.from arrival (slice_index p.cells s) s h0 hx hb
