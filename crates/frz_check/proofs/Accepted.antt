-- What holds of rules that a text gives: they are sound, their values have small lags, and so the
-- codes of their tables are small.
use Rattle.std.proofs.Common.{◌≡◌, ◌≤◌, ◌+◌, ◌*◌, ℕ, List, Ok}
use Rattle.std.specs.Prelude.{slice_index}
use Rattle.frz_board.specs.declared.man.Colour.{Colour}
use Rattle.frz_sets.specs.Sets.{size_of}
use Rattle.frz_sets.specs.Sound.{IsSound}
use Rattle.frz_sets.specs.Views.{RuleLines}
use Rattle.frz_rules.specs.Text.{rules_of}
use Rattle.frz_rules.proofs.Lemmas.{text_sound}
use Rattle.frz_game.specs.Books.{value_by}
use Rattle.frz_game.specs.Bounds.{IsTableOf}
use Rattle.frz_game.specs.SmallLags.{HasSmallLags}
use Rattle.frz_game.proofs.Lemmas.{plies_few, small_values}
use Rattle.frz_table.specs.declared.kind.FileKind.TheVariants.{Plain}
use Rattle.frz_table.specs.Layout.{magic_of}
use Rattle.frz_table.specs.Opening.{Contents}
use Rattle.frz_check.specs.Kept.{kept_codes}
use Rattle.frz_check.specs.OneFile.{IsOneFile}
use Rattle.frz_check.proofs.OneFile.{one_file_holds}

pub small_lags : (rules : RuleLines) → IsSound rules → HasSmallLags (value_by rules)
small_lags rules sound q valid = small_values rules sound q

pub read_small : (text : List ℕ) (rules : RuleLines) → rules_of text ≡ Ok rules
    → HasSmallLags (value_by rules)
read_small text rules read = small_lags rules (text_sound text rules read)

-- the codes of its tables are small
pub few_plies : (text : List ℕ) (rules : RuleLines) → rules_of text ≡ Ok rules
    → (side : Colour) (codes : List ℕ) → IsTableOf rules (value_by rules) side codes → (i : ℕ)
    → slice_index codes i ≤ 3 + 2 * (size_of rules.groups + 1000)
few_plies text rules read = plies_few rules (value_by rules) (read_small text rules read)

-- the codes of the one file of a text are the tables of both sides
pub file_tables : (contents : Contents) (bytes : List ℕ)
    → rules_of contents.text ≡ Ok contents.rules
    → IsOneFile (magic_of Plain) contents.text contents.rules (value_by contents.rules) bytes
    → (side : Colour) → IsTableOf contents.rules (value_by contents.rules) side
    (kept_codes contents bytes side)
file_tables contents bytes read one =
    one_file_holds Plain (value_by contents.rules) contents bytes
    (few_plies contents.text contents.rules read) read one
