-- Writing a line for each group, a line at a time.
use Rattle.std.proofs.Common.{◌≡◌, refl, sym, ap, subst, ◌∙◌, ℕ, suc, ◌+◌, ◌<◌, ◌≤◌, List, [], ◌∷◌, ◌++◌, drop, length, get_or, append_assoc, append-nil, add-one}
use Rattle.std.proofs.Math.Seq.{drop-cons}
use Rattle.std.proofs.lemmas.List.{drop_all}
use Rattle.frz_sets.specs.Views.{GroupLine}
use Rattle.frz_sets.specs.Sets.{radix_of}
use Rattle.frz_store.specs.Told.{SinkTold}
use Rattle.frz_answer.specs.Texts.{TookText, FailedWithin}
use Rattle.frz_answer.proofs.Lemmas.{failed_before, failed_behind, took_behind, took_nothing}
use Rattle.frz_commands_atlas.specs.Sizing.{group_line, group_lines_from}

-- what was written so far, and then the lines of the other groups, is a line for each group
pub record HasListed (groups : List GroupLine) (i : ℕ) (old now : SinkTold) : Type 0 where
  pub written : List ℕ
  pub took : TookText written old now
  pub rest : written ++ group_lines_from (i + 1) (drop i groups) ≡ group_lines_from 1 groups

pub nothing_listed : (groups : List GroupLine) (out : SinkTold) → HasListed groups 0 out out
nothing_listed groups out = record { written = []; took = took_nothing out; rest = refl }

module _ (groups : List GroupLine) (i : ℕ) (g : GroupLine) (old mid new : SinkTold)
    (here : i < length groups) (is : g ≡ get_or groups i g)
    (so_far : HasListed groups i old mid) where
  abbrev this : List ℕ
  this = group_line (i + 1) (radix_of g)

  abbrev others : List ℕ
  others = group_lines_from (i + 1 + 1) (drop (i + 1) groups)

  -- the groups from a place on: the line of the one there, and the rest
  next_listed : group_lines_from (i + 1) (drop i groups) ≡ this ++ others
  next_listed =
      ap (group_lines_from (i + 1))
      (drop-cons groups i g here ∙ ap (λ (x : GroupLine). x ∷ drop (suc i) groups) (sym is)
      ∙ ap (λ n. g ∷ drop n groups) (sym (add-one i)))

  -- the sink took the line of the group
  pub more_listed : TookText this mid new → HasListed groups (i + 1) old new
  more_listed took = record {
    written = so_far.written ++ this;
    took = took_behind so_far.written this (so_far.written ++ this) old mid new so_far.took refl
        took;
    rest = append_assoc so_far.written this others
        ∙ ap (λ (l : List ℕ). so_far.written ++ l) (sym next_listed) ∙ so_far.rest;
  }

  -- the sink failed within it
  pub cut_listed : FailedWithin this mid new → FailedWithin (group_lines_from 1 groups) old new
  cut_listed failed =
      failed_before (so_far.written ++ this) others (group_lines_from 1 groups) old new
      (failed_behind so_far.written this (so_far.written ++ this) old mid new so_far.took refl
      failed)
      (append_assoc so_far.written this others
      ∙ ap (λ (l : List ℕ). so_far.written ++ l) (sym next_listed) ∙ so_far.rest)

-- all groups have their line
pub all_listed : (groups : List GroupLine) (i : ℕ) (old now : SinkTold) → length groups ≤ i
    → HasListed groups i old now → TookText (group_lines_from 1 groups) old now
all_listed groups i old now over so_far =
    let nothing : drop i groups ≡ [] = drop_all i groups over in
    subst (λ (l : List ℕ). TookText l old now)
    (sym (append-nil so_far.written)
    ∙ ap (λ (l : List GroupLine). so_far.written ++ group_lines_from (i + 1) l) (sym nothing)
    ∙ so_far.rest) so_far.took
