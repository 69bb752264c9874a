-- A test of rivals passes exactly where there is one.
use Rattle.std.proofs.Common.{◌≡◌, ℕ, Bool, true, ◌&&◌, not, List, refl, ap, sym, ◌∙◌, slice_index}
use Rattle.std.specs.Prelude.{◌==◌, ◌↔◌}
use Rattle.std.specs.List.{Contains, list_any}
use Rattle.std.proofs.lemmas.Bool.{eqb-true, and_parts}
use Rattle.std.proofs.lemmas.List.Folds.{Any-from_list_any}
use Rattle.frz_board.specs.Boards.{Board}
use Rattle.frz_board.specs.Men.{man_of_cell}
use Rattle.frz_board.specs.Moving.{Step}
use Rattle.frz_board.specs.Squares.{file_of, rank_of}
use Rattle.frz_squares.proofs.Lemmas.{not_same}
use Rattle.frz_fide.specs.Listing.{legal_moves_of}
use Rattle.frz_fide.proofs.Lemmas.{facts}
use Rattle.frz_fide.proofs.Lemmas.{listed, only_legal}
use Rattle.frz_san.specs.Notation.{is_rival, has_rival, has_rival_on_file, has_rival_on_rank}
use Rattle.frz_san.specs.Rivals.{Rival}
use Rattle.frz_san.proofs.Rivals.{rivals, some_rival, rival_on}
use Rattle.frz_san.proofs.Telling.{same_cell}

member : (test : Step → Bool) (xs : List Step) → list_any test xs ≡ true →
    (n : Step) × Contains xs n × (test n ≡ true)
member test xs h = let a = Any-from_list_any test xs h in (a.1, (a.0, a.2, a.3), a.4)

rival_of : (p : Board) (m n : Step) → Contains (legal_moves_of p) n → is_rival p m n ≡ true →
    Rival p m n
rival_of p m n w h =
    let legal = only_legal p n w in
    let parts = and_parts (slice_index p.cells n.from == slice_index p.cells m.from && n.to == m.to)
    (not (n.from == m.from)) h in
    let same = and_parts (slice_index p.cells n.from == slice_index p.cells m.from) (n.to == m.to)
    parts.0 in
    record {
      step = legal.0;
      legal = legal.1;
      man = ap man_of_cell
          (eqb-true (slice_index p.cells n.from) (slice_index p.cells m.from) same.0);
      to = eqb-true n.to m.to same.1;
      from = not_same n.from m.from parts.1;
    }

rival_passes : (p : Board) (m n : Step) → Rival p m n → is_rival p m n ≡ true
rival_passes p m n r =
    let f = facts p n r.legal in
    rivals p m n (same_cell p n.from m.from f.man f.man f.on (sym r.man ∙ f.on) refl) r.to r.from

pub any_in_words : (p : Board) (m : Step) → (has_rival p m ≡ true) ↔ ((n : Step) × Rival p m n)
unfolding has_rival
any_in_words p m = (
  λ h. let f = member (is_rival p m) (legal_moves_of p) h in (f.0, rival_of p m f.0 f.1 f.2),
  λ w. some_rival p m w.0 (listed p w.0 w.1.step w.1.legal) (rival_passes p m w.0 w.1),
)

-- the test of a line, a file or a rank, passes exactly where a rival starts on it
on_line : (line : ℕ → ℕ) (p : Board) (m : Step) →
    (list_any (λ (n : Step). is_rival p m n && line n.from == line m.from) (legal_moves_of p)
    ≡ true) ↔ ((n : Step) × Rival p m n × (line n.from ≡ line m.from))
on_line line p m = (
  λ h.
      let f = member (λ (n : Step). is_rival p m n && line n.from == line m.from)
      (legal_moves_of p) h in
      let parts = and_parts (is_rival p m f.0) (line f.0.from == line m.from) f.2 in
      (f.0, rival_of p m f.0 f.1 parts.0, eqb-true (line f.0.from) (line m.from) parts.1),
  λ w. rival_on line p m w.0 (listed p w.0 w.1.step w.1.legal) (rival_passes p m w.0 w.1) w.2,
)

pub file_in_words : (p : Board) (m : Step) →
    (has_rival_on_file p m ≡ true) ↔ ((n : Step) × Rival p m n × (file_of n.from ≡ file_of m.from))
unfolding has_rival_on_file
file_in_words p m = on_line file_of p m

pub rank_in_words : (p : Board) (m : Step) →
    (has_rival_on_rank p m ≡ true) ↔ ((n : Step) × Rival p m n × (rank_of n.from ≡ rank_of m.from))
unfolding has_rival_on_rank
rank_in_words p m = on_line rank_of p m
