-- The lines of first exits, written one by one.
use Rattle.std.proofs.Common.{◌≡◌, sym, ap, subst, ◌∙◌, ℕ, ◌+◌, ◌<◌, ◌≤◌, List, [], ◌∷◌, ◌++◌, take, drop, map, length, get_or, All, append-nil}
use Rattle.std.specs.Prelude.{flat_map}
use Rattle.std.proofs.lemmas.Grind.{flat_map-append}
use Rattle.std.proofs.lemmas.List.{map-append, take-append-drop, take_all, take_more}
use Rattle.std.proofs.lemmas.List.Elements.{All-map}
use Rattle.std.proofs.lemmas.List.Sorted.{All-permutation}
use Rattle.frz_board.specs.Boards.{Board}
use Rattle.frz_fide.specs.Valid.{IsValid}
use Rattle.frz_store.specs.Told.{SinkTold}
use Rattle.frz_answer.specs.Texts.{TookText, FailedWithin}
use Rattle.frz_answer.proofs.Lemmas.{failed_before, failed_behind, took_behind}
use Rattle.frz_report.specs.Walks.{IsFirsts}
use Rattle.frz_commands_atlas.specs.declared.first_exits.FirstExit.{FirstExit}
use Rattle.frz_commands_atlas.specs.FirstExits.{first_line, listed, rarity, row_among}
use Rattle.frz_commands_atlas.specs.InOrder.{in_order}
use Rattle.frz_commands_atlas.specs.Ranked.{IsRanked}
use Rattle.frz_commands_atlas.proofs.OneOrder.{in_order_is_ranked, one_order}

-- one more is listed
pub listed_more : (exits : List Board) (firsts : List Board) (i : ℕ) (q : Board) (row : FirstExit)
    → i < length firsts → q ≡ get_or firsts i q → row ≡ row_among exits q
    → map (row_among exits) (take i firsts) ++ row ∷ []
    ≡ map (row_among exits) (take (i + 1) firsts)
listed_more exits firsts i q row here is as_row =
    ap (λ (r : FirstExit). map (row_among exits) (take i firsts) ++ r ∷ [])
    (as_row ∙ ap (row_among exits) is)
    ∙ sym (ap (map (row_among exits)) (take_more firsts i q here)
    ∙ map-append (row_among exits) (take i firsts) (get_or firsts i q ∷ []))

-- the positions are valid in any order
pub ranked_valid : (firsts exits : List Board) (rows : List FirstExit) → IsFirsts firsts exits
    → IsRanked rarity (listed exits) rows → All (λ row. IsValid row.position) rows
ranked_valid firsts exits rows are ranked =
    All-permutation (λ (row : FirstExit). IsValid row.position) (listed exits) rows ranked.same
    (subst (λ (l : List Board). All (λ (row : FirstExit). IsValid row.position)
    (map (row_among exits) l)) are.are
    (All-map (λ (row : FirstExit). IsValid row.position) (row_among exits) firsts are.valid))

-- they are in the one order
pub one_ranked : (exits : List Board) (rows : List FirstExit)
    → IsRanked rarity (listed exits) rows → rows ≡ in_order rarity (listed exits)
one_ranked exits rows ranked =
    one_order rarity (listed exits) rows (in_order rarity (listed exits)) ranked
    (in_order_is_ranked rarity (listed exits))

module _ (rows : List FirstExit) (i : ℕ) (row : FirstExit) (old mid new : SinkTold)
    (here : i < length rows) (is : row ≡ get_or rows i row)
    (took : TookText (flat_map first_line (take i rows)) old mid) where
  abbrev lines : List FirstExit → List ℕ
  lines = flat_map first_line

  with_next : lines (take i rows) ++ first_line row ≡ lines (take (i + 1) rows)
  with_next =
      ap (λ (l : List ℕ). lines (take i rows) ++ l) (sym (append-nil (first_line row)))
      ∙ sym (flat_map-append first_line (take i rows) (row ∷ []))
      ∙ ap (λ (r : FirstExit). lines (take i rows ++ r ∷ [])) is
      ∙ ap lines (sym (take_more rows i row here))

  pub more_firsts : TookText (first_line row) mid new → TookText (lines (take (i + 1) rows)) old new
  more_firsts more =
      took_behind (lines (take i rows)) (first_line row) (lines (take (i + 1) rows)) old mid new
      took with_next more

  pub cut_firsts : FailedWithin (first_line row) mid new → FailedWithin (lines rows) old new
  cut_firsts failed =
      failed_before (lines (take (i + 1) rows)) (lines (drop (i + 1) rows)) (lines rows) old new
      (failed_behind (lines (take i rows)) (first_line row) (lines (take (i + 1) rows)) old mid new
      took with_next failed)
      (sym (flat_map-append first_line (take (i + 1) rows) (drop (i + 1) rows))
      ∙ ap lines (take-append-drop (i + 1) rows))

pub all_firsts : (rows : List FirstExit) (i : ℕ) (old new : SinkTold) → length rows ≤ i
    → TookText (flat_map first_line (take i rows)) old new
    → TookText (flat_map first_line rows) old new
all_firsts rows i old new over took =
    subst (λ (l : List FirstExit). TookText (flat_map first_line l) old new) (take_all i rows over)
    took
