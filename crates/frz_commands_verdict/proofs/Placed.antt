-- A position by its place in the set of a loaded table.
use Rattle.std.proofs.Common.{◌≡◌, ◌<◌, ◌∙◌, ℕ, List, Bool, true, false, Err, Ok, ap, refl, slice_index, subst, sym}
use Rattle.frz_board.specs.Boards.{Board}
use Rattle.frz_board.specs.declared.man.Colour.TheVariants.{White, Black}
use Rattle.frz_sets.specs.Sets.{size_of}
use Rattle.frz_sets.specs.Views.{GroupLine}
use Rattle.frz_index.specs.Members.{Member, Num}
use Rattle.frz_index.proofs.Lemmas.{Num_below, member_of}
use Rattle.frz_game.specs.Numbers.{is_member}
use Rattle.frz_prelude.specs.Positions.{IsPlaced}
use Rattle.frz_prelude.specs.declared.refused.Refused.{Refused}
use Rattle.frz_backs.specs.BackTable.{BackTable}
use Rattle.frz_backs.specs.Loaded.{link_loaded}
use Rattle.frz_commands_verdict.specs.declared.verdict.Verdict.{Verdict}
use Rattle.frz_backs.specs.declared.counts.Counts.{Counts}
use Rattle.frz_backs.specs.Links.{Link}
use Rattle.frz_commands_verdict.specs.Verdicts.{code_at, counts_through, verdict_at, verdict_by}

-- a number that was found for a position is its number in the set
pub placed_at : (set groups : List GroupLine) (p : Board) (number : ℕ) → set ≡ groups
    → IsPlaced set p (Ok number) → Member groups p × (number ≡ Num groups p)
placed_at set groups p number same placed =
    subst (λ (l : List GroupLine). IsPlaced l p (Ok number)) same placed

pub number_below : (groups : List GroupLine) (p : Board) (number : ℕ)
    → Member groups p × (number ≡ Num groups p) → number < size_of groups
number_below groups p number placed =
    subst (λ n. n < size_of groups) (sym placed.1) (Num_below groups p placed.0)

-- a position for which none was found is not in it
pub missing_there : (set groups : List GroupLine) (p : Board) (why : Refused) → set ≡ groups
    → IsPlaced set p (Err why) → is_member groups p ≡ false
missing_there set groups p why same placed = by_test (is_member groups p) refl
  where
    by_test : (b : Bool) → is_member groups p ≡ b → is_member groups p ≡ false
    by_test false e = e
    by_test true e =
        let here = subst (λ (l : List GroupLine). IsPlaced l p (Err why)) same placed in
        absurd (here.0 (member_of groups p e))

-- the verdict by the codes at the number is that on the position
pub verdict_there : (tables : List Link) (own : BackTable) (counts : Counts) (number : ℕ)
    (p : Board) (verdict : Verdict) → counts ≡ counts_through tables (link_loaded own)
    → number ≡ Num own.table.rules.groups p
    → verdict ≡ verdict_by (slice_index own.white.items number) (slice_index own.black.items number)
    counts.white counts.black
    → verdict ≡ verdict_at tables (link_loaded own) p
verdict_there tables own counts number p verdict same is e =
    e ∙ ap (λ (n : ℕ). verdict_by (slice_index own.white.items n) (slice_index own.black.items n)
    counts.white counts.black) is
    ∙ ap (λ (c : Counts). verdict_by (code_at (link_loaded own) White p)
    (code_at (link_loaded own) Black p) c.white c.black) same
