-- The pairs at which a man's step is legal.
use Rattle.std.proofs.Common.{◌≡◌, ℕ, ◌<◌, true, ◌&&◌, not, List, ap, sym, ◌∙◌}
use Rattle.std.proofs.lemmas.Bool.{and_from, and_parts}
use Rattle.frz_board.specs.Boards.{Board}
use Rattle.frz_board.specs.Moving.{Step, IsStep}
use Rattle.frz_squares.specs.SquareSets.{has_square}
use Rattle.frz_fide.specs.Legal.{after, can_go, is_legal}
use Rattle.frz_planes.specs.Planes.{has_pair, IsPlaneOf}
use Rattle.frz_king_planes.specs.Attacked.{AreAttacked}
use Rattle.frz_king_planes.specs.Kings.{with_kings}
use Rattle.frz_king_planes.specs.Valid.{AreValid}
use Rattle.frz_pair_moves.specs.Moves.{AreLegal, Makes}
use Rattle.frz_pair_moves.specs.Ways.{is_on_way, leave_way}
use Rattle.frz_pair_moves.proofs.MenMoved.{goes_from, legal_man, man_legal}
use Rattle.frz_pair_moves.proofs.MenSafe.{free_after, legal_by_attack}

pub made_by : (p : Board) (plane : List ℕ) → AreValid p plane → (a b : ℕ) → a < 64 → b < 64 →
    has_pair plane a b ≡ true → Makes p a b
made_by p plane v a b la lb h =
    let free = v.free a b la lb h in
    record { free = free; valid = (v.valid a b la lb free).0 h }

pub put_by : (p : Board) (plane : List ℕ) → AreValid p plane → (a b : ℕ) → a < 64 → b < 64 →
    Makes p a b → has_pair plane a b ≡ true
put_by p plane v a b la lb made = (v.valid a b la lb made.free).1 made.valid

module _ (m : Step) (before kept : List ℕ) (off : ℕ)
    (squares : (s : ℕ) → s < 64 → has_square off s ≡ not (is_on_way m s))
    (keeps : IsPlaneOf kept (λ a b. has_pair before a b && (has_square off a && has_square off b)))
  where
    -- the pairs of which neither king stands on the way
    leaving : (a b : ℕ) → a < 64 → b < 64 → has_pair kept a b
        ≡ (has_pair before a b && leave_way m a b)
    leaving a b la lb =
        keeps a b la lb
        ∙ ap (λ t. has_pair before a b && (t && has_square off b)) (squares a la)
        ∙ ap (λ t. has_pair before a b && (not (is_on_way m a) && t)) (squares b lb)

    pub leaving_both : (next plane : List ℕ) →
        IsPlaneOf plane (λ a b. has_pair kept a b && has_pair next a b) →
        IsPlaneOf plane (λ a b. (has_pair before a b && leave_way m a b) && has_pair next a b)
    leaving_both next plane cut a b la lb =
        cut a b la lb ∙ ap (λ t. t && has_pair next a b) (leaving a b la lb)

module _ (p : Board) (m : Step) (step : IsStep m) (before kept : List ℕ) (off : ℕ)
    (are : AreValid p before) (can : can_go p m ≡ true)
    (squares : (s : ℕ) → s < 64 → has_square off s ≡ not (is_on_way m s))
    (keeps : IsPlaneOf kept (λ a b. has_pair before a b && (has_square off a && has_square off b)))
  where
    kept_parts : (a b : ℕ) → a < 64 → b < 64 → has_pair kept a b ≡ true →
        Makes p a b × (leave_way m a b ≡ true)
    kept_parts a b la lb h =
        let parts = and_parts (has_pair before a b) (leave_way m a b) (sym (leaving m before kept off squares keeps a b la lb) ∙ h) in
        (made_by p before are a b la lb parts.0, parts.1)

    kept_from : (a b : ℕ) → a < 64 → b < 64 → Makes p a b → leave_way m a b ≡ true →
        has_pair kept a b ≡ true
    kept_from a b la lb made leaves =
        leaving m before kept off squares keeps a b la lb
        ∙ and_from (has_pair before a b) (leave_way m a b) (put_by p before are a b la lb made) leaves

    legal_parts : (a b : ℕ) → a < 64 → b < 64 → Makes p a b → is_legal (with_kings p a b) m ≡ true →
        (can_go p m ≡ true) × (leave_way m a b ≡ true) × Makes (after p m) a b
    legal_parts a b la lb made h = legal_man p m a b step la lb made (goes_from p m can) h

    -- the kings also make a valid position after the step
    pub valid_both : (next plane : List ℕ) → AreValid (after p m) next →
        IsPlaneOf plane (λ a b. has_pair kept a b && has_pair next a b) → AreLegal p m plane
    valid_both next plane then cut a b la lb = (
      λ h. let parts = and_parts (has_pair kept a b) (has_pair next a b) (sym (cut a b la lb) ∙ h) in
          let left = kept_parts a b la lb parts.0 in (
            left.0,
            man_legal p m a b step la lb left.0
                (can, left.1, made_by (after p m) next then a b la lb parts.1),
          ),
      λ h. let parts = legal_parts a b la lb h.0 h.1 in
          cut a b la lb
          ∙ and_from (has_pair kept a b) (has_pair next a b)
          (kept_from a b la lb h.0 parts.1) (put_by (after p m) next then a b la lb parts.2),
    )

    -- the mover's king is not attacked after the step
    pub valid_unhit : (hit plane : List ℕ) → AreAttacked (after p m) p.turn hit →
        IsPlaneOf plane (λ a b. has_pair kept a b && not (has_pair hit a b)) → AreLegal p m plane
    valid_unhit hit plane hits cut a b la lb = (
      λ h. let parts = and_parts (has_pair kept a b) (not (has_pair hit a b))
          (sym (cut a b la lb) ∙ h) in
          let left = kept_parts a b la lb parts.0 in
          (left.0, told a b la lb left.0 left.1 ∙ parts.1),
      λ h. let leaves = (legal_parts a b la lb h.0 h.1).1 in
          cut a b la lb
          ∙ and_from (has_pair kept a b) (not (has_pair hit a b))
          (kept_from a b la lb h.0 leaves) (sym (told a b la lb h.0 leaves) ∙ h.1),
    )
      where
        told : (a b : ℕ) → a < 64 → b < 64 → Makes p a b → leave_way m a b ≡ true →
            is_legal (with_kings p a b) m ≡ not (has_pair hit a b)
        told a b la lb made leaves =
            legal_by_attack p m a b step la lb made can leaves
            ∙ ap not (sym (hits a b la lb (free_after p m a b step la lb made can leaves)))
