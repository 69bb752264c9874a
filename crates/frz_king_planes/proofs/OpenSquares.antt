-- The squares that do not shield a square from the men that attack it, gathered man by man.
use Rattle.std.proofs.Common.{◌≡◌, ℕ, ◌+◌, ◌<◌, ◌≤◌, Bool, true, false, ◌&&◌, ◌||◌, not, refl, ap, sym, ◌∙◌, arith, inl, inr}
use Rattle.std.proofs.lemmas.Bool.{cases_eq, cases_lt, or_left, or_right, or_from, false_from_ne_true}
use Rattle.frz_board.specs.declared.man.Colour.{Colour}
use Rattle.frz_board.specs.Boards.{Board, holds}
use Rattle.frz_board.specs.Lines.{is_between}
use Rattle.frz_board.specs.Attacks.{attacks}
use Rattle.frz_squares.specs.SquareSets.{has_square, set_of}
use Rattle.frz_squares.specs.Words.{HasNoneFrom, IsNext}
use Rattle.frz_squares.proofs.Lemmas.{has-set_of, some_square, any_square}
use Rattle.frz_king_planes.specs.Attacked.{is_attacked_past}

-- the man on m attacks s
abbrev pub hits : Board → ℕ → Colour → ℕ → Bool
hits p s by m = holds p by m && attacks p m s

-- the man on m attacks s, and t is not between them
abbrev pub passes : Board → ℕ → Colour → ℕ → ℕ → Bool
passes p s by t m = hits p s by m && not (is_between m t s)

-- the word has the squares past which some man below n attacks s
pub record IsOpen (p : Board) (s : ℕ) (by : Colour) (n w : ℕ) : Type 0 where
  pub some : (t m : ℕ) → t < 64 → m < n → passes p s by t m ≡ true → has_square w t ≡ true
  pub only : (t : ℕ) → t < 64 → ((m : ℕ) → m < n → passes p s by t m ≡ false) →
      has_square w t ≡ false

pub none_yet : (p : Board) (s : ℕ) (by : Colour) (w : ℕ) →
    ((t : ℕ) → t < 64 → has_square w t ≡ false) → IsOpen p s by 0 w
none_yet p s by w empty = record {
  some = λ t m lt lm h. absurd (omega arith);
  only = λ t lt h. empty t lt;
}

same_by_both : (x y : Bool) → (y ≡ true → x ≡ true) → (y ≡ false → x ≡ false) → x ≡ y
same_by_both x true h k = h refl
same_by_both x false h k = k refl

module _ (p : Board) (s : ℕ) (by : Colour) (men : ℕ) (are : men ≡ set_of (holds p by)) where
  is_man : (m : ℕ) → m < 64 → has_square men m ≡ holds p by m
  is_man m l = ap (λ w. has_square w m) are ∙ has-set_of (holds p by) m l

  no_pass : (t m : ℕ) → m < 64 → has_square men m ≡ false → passes p s by t m ≡ false
  no_pass t m l h =
      ap (λ x. (x && attacks p m s) && not (is_between m t s)) (sym (is_man m l) ∙ h)

  module _ (n m v w : ℕ) (next : IsNext men n m) (before : IsOpen p s by n v)
      (added : (t : ℕ) → t < 64 →
      has_square w t ≡ (has_square v t || (attacks p m s && not (is_between m t s)))) where
    stands : holds p by m ≡ true
    stands = sym (is_man m next.on_board) ∙ next.there

    passes_by : (t : ℕ) → passes p s by t m ≡ (attacks p m s && not (is_between m t s))
    passes_by t = ap (λ x. (x && attacks p m s) && not (is_between m t s)) stands

    still : (t k : ℕ) → t < 64 → k < m + 1 → passes p s by t k ≡ true →
        (has_square v t || (attacks p m s && not (is_between m t s))) ≡ true
    still t k lt lk h =
        elim (cases_lt k n) [
          | inl i ↦ or_left (has_square v t) (attacks p m s && not (is_between m t s))
              (before.some t k lt i h)
          | inr i ↦ elim (cases_eq k m) [
            | inl e ↦ or_right (has_square v t) (attacks p m s && not (is_between m t s))
                (sym (passes_by t) ∙ ap (passes p s by t) (sym e) ∙ h)
            | inr e ↦ absurd (let on = next.on_board in
                let no = no_pass t k (omega arith) (next.first k i (omega arith)) in cc)
          ]
        ]

    none : (t : ℕ) → t < 64 → ((k : ℕ) → k < m + 1 → passes p s by t k ≡ false) →
        (has_square v t || (attacks p m s && not (is_between m t s))) ≡ false
    none t lt h =
        let from = next.from in
        or_from (has_square v t) (attacks p m s && not (is_between m t s))
        (before.only t lt (λ k l. h k (omega arith)))
        (sym (passes_by t) ∙ h m (omega arith))

    pub one_more : IsOpen p s by (m + 1) w
    one_more = record {
      some = λ t k lt lk h. added t lt ∙ still t k lt lk h;
      only = λ t lt h. added t lt ∙ none t lt h;
    }

  pub all_open : (n w : ℕ) → n ≤ 64 → HasNoneFrom men n → IsOpen p s by n w → (t : ℕ) → t < 64 →
      has_square w t ≡ is_attacked_past p s by t
  all_open n w le end gathered t lt =
      same_by_both (has_square w t) (is_attacked_past p s by t)
      (λ h. let found = some_square (passes p s by t) h in
      elim (cases_lt found.square n) [
        | inl i ↦ gathered.some t found.square lt i found.passes
        | inr i ↦ absurd (let no = no_pass t found.square found.on_board
            (end.none found.square i found.on_board) in let yes = found.passes in cc)
      ])
      (λ h. gathered.only t lt (λ m l. false_from_ne_true (passes p s by t m)
      (λ e. let yes = any_square (passes p s by t) m (omega arith) e in cc)))
