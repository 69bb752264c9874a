-- What the candidate of a number below the size says of it.
use Rattle.std.proofs.Common.{◌≡◌, ◌<◌, ◌↔◌, ◌∙◌, ℕ, List, Option, None, Some, false, inl, inr, sym, subst, true}
use Rattle.std.proofs.lemmas.Bool.{cases_Bool}
use Rattle.std.specs.Prelude.{MatchOption}
use Rattle.frz_board.specs.Boards.{Board}
use Rattle.frz_fide.specs.Valid.{IsValid}
use Rattle.frz_sets.specs.Sets.{size_of}
use Rattle.frz_sets.specs.Views.{GroupLine}
use Rattle.frz_index.specs.Candidates.{candidate}
use Rattle.frz_index.specs.FreeSquares.{is_spread}
use Rattle.frz_index.specs.Kept.{AreApart, AreNumberable, AreSoundGroups}
use Rattle.frz_index.specs.Members.{Broken, HasNumber, HasShape}
use Rattle.frz_index.specs.Membership.{is_valid}
use Rattle.frz_index.proofs.AtNumbers.{is_candidate}
use Rattle.frz_index.proofs.Membership.{of_valid, valid_of}
use Rattle.frz_index.proofs.OwnSquares.{own_number}
use Rattle.frz_index.proofs.SoundShapes.{shaped}
use Rattle.frz_index.proofs.SpreadMembers.{spread}

-- a number below the size is that of its candidate, if that is valid and no two men would stand on
-- one square; else it is broken
pub candidate_answer : (gs : List GroupLine) (i : ℕ) (o : Option Board) → AreSoundGroups gs →
    AreNumberable gs → AreApart gs → i < size_of gs →
    MatchOption o (is_spread gs i ≡ false) (λ p. (is_spread gs i ≡ true) × (p ≡ candidate gs i)) →
    MatchOption o (Broken gs i) (λ p. (p ≡ candidate gs i) × (IsValid p ↔ HasNumber gs i p) × HasShape p)
candidate_answer gs i None sound s apart below off =
    λ p m e. let on = spread gs i p apart (record { member = m; number = e }) in absurd cc
candidate_answer gs i (Some p) sound s apart below h = (
  h.1,
  (
    λ valid. subst (HasNumber gs i) (sym h.1)
        (own_number gs i s apart below h.0 (subst IsValid h.1 valid)),
    λ k. k.member.valid,
  ),
  subst HasShape (sym h.1) (shaped gs i sound s apart h.0),
)

-- the candidate of a number that is not broken has it
pub unbroken : (gs : List GroupLine) (i : ℕ) (p : Board) → p ≡ candidate gs i →
    (IsValid p ↔ HasNumber gs i p) → (Broken gs i → ⊥) → HasNumber gs i p
unbroken gs i p is told some =
    elim (cases_Bool (is_valid p)) [
      | inl e ↦ told.0 (valid_of p e)
      | inr e ↦ absurd (some (λ q m n.
          let same = is ∙ is_candidate gs i q (record { member = m; number = n }) in
          let valid = of_valid p (subst IsValid (sym same) m.valid) in
          cc))
    ]
