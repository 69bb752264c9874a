-- The name of a move taken back: it has the earlier position, and the earlier position has it.
use Rattle.std.proofs.Common.{◌≡◌, ◌≢◌, ℕ, ◌<◌, List, length, refl, ap, sym, ◌∙◌, subst, Bool, true, false, cond, ◌&&◌, arith, Option, None, Some, slice_index}
use Rattle.std.specs.Prelude.{◌==◌}
use Rattle.std.proofs.lemmas.Bool.Decides.{nat_tests}
use Rattle.frz_board.specs.Squares.{files_apart, is_forward}
use Rattle.frz_board.specs.Boards.{Board}
use Rattle.frz_board.specs.Men.{other_of}
use Rattle.frz_board.specs.Attacks.{pawn_reaches}
use Rattle.frz_board.specs.Moving.{Step, IsStep}
use Rattle.std.proofs.lemmas.Bool.{and_parts}
use Rattle.frz_fide.specs.Legal.{is_legal, is_target, beside_on_file, after}
use Rattle.frz_fide.proofs.Lemmas.{facts, same_parts}
use Rattle.frz_fide.proofs.Lemmas.{apart as goes_off, beside_apart}
use Rattle.frz_sets.specs.Views.{GroupLine}
use Rattle.frz_index.specs.Candidates.{candidate}
use Rattle.frz_index.specs.Members.{HasNumber}
use Rattle.frz_index.proofs.Lemmas.{is_candidate}
use Rattle.frz_sets.specs.Sets.{pawn}
use Rattle.frz_unmove.specs.declared.preds.Pred.{Pred}
use Rattle.frz_unmove.specs.Earlier.{before, mover_cell, name, was_en_passant}
use Rattle.frz_unmove.specs.Gathering.{Comes, ComesFrom, taken_of, target_of, target_key}
use Rattle.frz_unmove.proofs.Undone.{written, written-length}
use Rattle.frz_unmove.proofs.Coming.{comes_before, v}

-- a board has as many cells as the one before it
before_size : (q : Board) (m : Step) (taken : ℕ) (target : Option ℕ) →
    length (before q (name m taken target)).cells ≡ 64 → length q.cells ≡ 64
before_size q m taken target h =
    sym (written-length q.cells m.from m.to (mover_cell q m) taken (beside_on_file m.from m.to)
    (pawn q.turn) (was_en_passant q m target))
    ∙ h

back_by : (t : Bool) (e a b y v w x : ℕ) → (a ≡ b → ⊥) → (t ≡ true → b ≡ e → ⊥) →
    cond (t && (b == e)) y (cond (b == a) v (cond (b == b) w x)) ≡ w
back_by false e a b y v w x ne he = grind (arith, nat_tests)
back_by true e a b y v w x ne he = let n : b ≢ e = he refl in grind (arith, nat_tests)

-- what was taken stands on the move's end
taken_back : (q : Board) (m : Step) (taken : ℕ) (target : Option ℕ) → length q.cells ≡ 64 →
    m.from < 64 → m.to < 64 → (m.from ≡ m.to → ⊥) →
    slice_index (before q (name m taken target)).cells m.to ≡ taken
taken_back q m taken target size lf lt ne =
    let e = beside_on_file m.from m.to in
    let t = was_en_passant q m target in
    written q.cells m.from m.to (mover_cell q m) taken e (pawn q.turn) m.to t (omega (arith, size))
    (omega (arith, size)) (omega (arith, size))
    ∙ back_by t e m.from m.to (pawn q.turn) (mover_cell q m) taken (slice_index q.cells m.to) ne
    (λ h i. let reach =
    (and_parts (pawn_reaches (other_of q.turn) m.from m.to) (is_target target m.to)
    (and_parts (mover_cell q m == pawn (other_of q.turn))
    (pawn_reaches (other_of q.turn) m.from m.to && is_target target m.to) h).1).0 in
    beside_apart (other_of q.turn) m.from m.to
    (and_parts (files_apart m.from m.to == 1) (is_forward (other_of q.turn) 1 m.from m.to) reach).1
    i)

-- an earlier position of this name, from which the move leads on
module _ (gs : List GroupLine) (q : Board) (m : Step) (taken : ℕ) (target : Option ℕ)
    (step : IsStep m) (i : ℕ)
    (number : HasNumber gs i (before q (name m taken target)))
    (legal : is_legal (before q (name m taken target)) m ≡ true)
    (arrives : after (before q (name m taken target)) m ≡ q) where
  abbrev found : Pred
  found = record { number = i; mv = m }

  comes : Comes gs q found
  comes =
      record {
        earlier = before q (name m taken target);
        number = number;
        step = step;
        legal = legal;
        arrives = arrives;
      }

  same_taken : taken_of gs found ≡ taken
  same_taken =
      let e : candidate gs i ≡ before q (name m taken target) = is_candidate gs i
      (before q (name m taken target)) number in
      ap (λ (b : Board). slice_index b.cells m.to) e
      ∙ taken_back q m taken target (before_size q m taken target number.member.valid.fits.size)
      step.from step.to
      (goes_off (before q (name m taken target)) m (facts (before q (name m taken target)) m legal))

  same_target : target_of gs found ≡ target
  same_target = ap (λ (b : Board). b.ep) (is_candidate gs i (before q (name m taken target)) number)

  pub named : ComesFrom gs q m taken target found
  named = (((((comes, refl), refl), same_taken), ap target_key same_target), refl)

target_by : (o p : Option ℕ) → target_key o ≡ target_key p → o ≡ p
target_by None None e = refl
target_by None (Some t) e = absurd (omega (arith, e))
target_by (Some s) None e = absurd (omega (arith, e))
target_by (Some s) (Some t) e = let same : s ≡ t = omega (arith, e) in ap Some same

-- what has the name comes from there
pub of_name : (gs : List GroupLine) (q : Board) (m : Step) (taken : ℕ) (target : Option ℕ)
    (x : Pred) → ComesFrom gs q m taken target x →
    HasNumber gs x.number (before q (name m taken target))
    × (is_legal (before q (name m taken target)) m ≡ true)
    × (after (before q (name m taken target)) m ≡ q) × (x.mv ≡ m)
of_name gs q m taken target x h =
    let c : Comes gs q x = h.0.0.0.0.0 in
    let move : x.mv ≡ m = same_parts x.mv m h.1 h.0.0.0.0.1 h.0.0.0.1 in
    let there : before q (name m taken target) ≡ c.earlier =
    ap (λ n. before q (name n taken target)) (sym move)
    ∙ ap (λ w. before q (name x.mv w target)) (sym h.0.0.1)
    ∙ ap (λ t. before q (name x.mv (taken_of gs x) t))
    (sym (target_by (target_of gs x) target h.0.1))
    ∙ comes_before gs q x c in (
      subst (HasNumber gs x.number) (sym there) c.number,
      ap (λ b. is_legal b m) there ∙ ap (is_legal c.earlier) (sym move) ∙ c.legal,
      ap (λ b. after b m) there ∙ ap (after c.earlier) (sym move) ∙ c.arrives,
      move,
    )
