-- The one file of a text: it is there, there is only one, and it is what holds the tables.
use Rattle.std.proofs.Common.{◌≡◌, refl, sym, ap, subst, ◌∙◌, ℕ, ◌+◌, ◌*◌, ◌^◌, ◌<◌, ◌≤◌, List, get_or, Some, Result, Ok, arith}
use Rattle.std.specs.Prelude.{slice_index}
use Rattle.frz_board.specs.Boards.{Board}
use Rattle.frz_board.specs.declared.man.Colour.{Colour}
use Rattle.frz_board.specs.declared.man.Colour.TheVariants.{White, Black}
use Rattle.frz_sets.specs.declared.exit.Value.{Value}
use Rattle.frz_sets.specs.Sets.{size_of}
use Rattle.frz_sets.specs.Views.{RuleLines}
use Rattle.frz_rules.specs.declared.fault.RulesFault.{RulesFault}
use Rattle.frz_rules.specs.Text.{rules_of}
use Rattle.frz_rules.proofs.Lemmas.{text_sound}
use Rattle.frz_game.specs.Bounds.{IsTableOf}
use Rattle.frz_table.specs.declared.kind.FileKind.{FileKind}
use Rattle.frz_table.specs.Layout.{codes_at, file_of, magic_of}
use Rattle.frz_table.specs.Opening.{Contents, opened, table_format}
use Rattle.frz_table.specs.Numbers.{AreBytes}
use Rattle.frz_table.specs.Tables.{IsTableFile}
use Rattle.frz_table.proofs.Lemmas.{belongs, opens_by, loaded_is_written, written_belongs, written_is_loaded, magic_long, read_short}
use Rattle.frz_check.specs.declared.verdict.Verdict.{Verdict}
use Rattle.frz_check.specs.declared.verdict.Verdict.TheVariants.{Exact}
use Rattle.frz_check.specs.Kept.{IsVerdictOn, kept_codes}
use Rattle.frz_check.specs.OneFile.{IsOneFile}
use Rattle.frz_check.specs.Verdicts.{IsVerdict}
use Rattle.frz_check.proofs.OneVerdict.{TablesExact, one_verdict}

-- what the laws of the game say of tables
pub record TableLaws (rules : RuleLines) (value : Board → Value) : Type 0 where
  pub exact : TablesExact rules value
  pub there : (side : Colour) → (codes : List ℕ) × IsTableOf rules value side codes
  pub one : (side : Colour) (codes others : List ℕ) → IsTableOf rules value side codes
      → IsTableOf rules value side others → codes ≡ others
  pub plies : (side : Colour) (codes : List ℕ) → IsTableOf rules value side codes → (i : ℕ)
      → slice_index codes i ≤ 3 + 2 * (size_of rules.groups + 1000)

pub file_there : (rules : RuleLines) (value : Board → Value) →
    ((side : Colour) → (codes : List ℕ) × IsTableOf rules value side codes) →
    (magic text : List ℕ) → (bytes : List ℕ) × IsOneFile magic text rules value bytes
file_there rules value there magic text =
    let white = there White in
    let black = there Black in (
      file_of magic text (size_of rules.groups) white.0 black.0,
      record {
        white = white.0;
        black = black.0;
        white_table = white.1;
        black_table = black.1;
        whole = refl;
      },
    )

pub one_file : (rules : RuleLines) (value : Board → Value) →
    ((side : Colour) (codes others : List ℕ) → IsTableOf rules value side codes →
    IsTableOf rules value side others → codes ≡ others) →
    (magic text bytes others : List ℕ) →
    IsOneFile magic text rules value bytes → IsOneFile magic text rules value others
    → bytes ≡ others
one_file rules value one magic text bytes others a b =
    let size : ℕ = size_of rules.groups in
    let white : a.white ≡ b.white = one White a.white b.white a.white_table b.white_table in
    let black : a.black ≡ b.black = one Black a.black b.black a.black_table b.black_table in
    a.whole ∙ (ap (λ (l : List ℕ). file_of magic text size l a.black) white
    ∙ (ap (λ (l : List ℕ). file_of magic text size b.white l) black ∙ sym b.whole))

-- sets are small
pub size_few : (text : List ℕ) (rules : RuleLines) → rules_of text ≡ Ok rules
    → size_of rules.groups ≤ 2 ^ 27
size_few text rules read = (text_sound text rules read).size

-- and so are the codes of tables
codes_fit : (rules : RuleLines) (value : Board → Value) → size_of rules.groups ≤ 2 ^ 27 →
    (codes : List ℕ) →
    ((i : ℕ) → slice_index codes i ≤ 3 + 2 * (size_of rules.groups + 1000)) → (i : ℕ)
    → get_or codes i 0 < 2 ^ 32
codes_fit rules value few codes plies i = (let small = plies i in omega (arith, small, few))

-- the one file opens
pub one_file_opens : (kind : FileKind) (value : Board → Value) (contents : Contents)
    (bytes : List ℕ) → rules_of contents.text ≡ Ok contents.rules →
    IsOneFile (magic_of kind) contents.text contents.rules value bytes
    → opened (table_format kind) (Some bytes) ≡ Ok contents
one_file_opens kind value contents bytes read one =
    let size : ℕ = size_of contents.rules.groups in
    let few = size_few contents.text contents.rules read in
    let short = read_short contents.text contents.rules read in
    let file : IsTableFile (magic_of kind) contents.text size
    (file_of (magic_of kind) contents.text size one.white one.black) =
    written_belongs (magic_of kind) contents.text size one.white one.black (magic_long kind)
    (omega (arith, short)) (omega (arith, few)) one.white_table.many one.black_table.many in
    opens_by (table_format kind) bytes contents
    (record {
      file = subst (λ (l : List ℕ). IsTableFile (magic_of kind) contents.text size l)
          (sym one.whole) file;
      short = short;
      read = read;
    })

-- and holds the tables of both sides
pub one_file_holds : (kind : FileKind) (value : Board → Value) (contents : Contents)
    (bytes : List ℕ) →
    ((side : Colour) (codes : List ℕ) → IsTableOf contents.rules value side codes → (i : ℕ) →
    slice_index codes i ≤ 3 + 2 * (size_of contents.rules.groups + 1000)) →
    rules_of contents.text ≡ Ok contents.rules →
    IsOneFile (magic_of kind) contents.text contents.rules value bytes →
    (side : Colour) → IsTableOf contents.rules value side (kept_codes contents bytes side)
one_file_holds kind value contents bytes plies read one = by_side
  where
    size : ℕ
    size = size_of contents.rules.groups

    codes : (codes_at White contents.text size bytes ≡ one.white)
        × (codes_at Black contents.text size bytes ≡ one.black)
    codes =
        let few = size_few contents.text contents.rules read in
        let written =
        written_is_loaded (magic_of kind) contents.text (size_of contents.rules.groups) one.white
        one.black (magic_long kind) one.white_table.many one.black_table.many
        (codes_fit contents.rules value few one.white (plies White one.white one.white_table))
        (codes_fit contents.rules value few one.black (plies Black one.black one.black_table)) in (
          ap (codes_at White contents.text (size_of contents.rules.groups)) one.whole ∙ written.0,
          ap (codes_at Black contents.text (size_of contents.rules.groups)) one.whole ∙ written.1,
        )

    by_side : (side : Colour) → IsTableOf contents.rules value side (kept_codes contents bytes side)
    by_side White =
        subst (λ (l : List ℕ). IsTableOf contents.rules value White l) (sym codes.0) one.white_table
    by_side Black =
        subst (λ (l : List ℕ). IsTableOf contents.rules value Black l) (sym codes.1) one.black_table

-- bytes that open and hold the tables are the one file
pub tables_are_one : (kind : FileKind) (value : Board → Value) (contents : Contents)
    (bytes : List ℕ) →
    AreBytes bytes → opened (table_format kind) (Some bytes) ≡ Ok contents →
    ((side : Colour) → IsTableOf contents.rules value side (kept_codes contents bytes side)) →
    IsOneFile (magic_of kind) contents.text contents.rules value bytes
tables_are_one kind value contents bytes are opens tables =
    let is = belongs (table_format kind) bytes contents opens in
    record {
      white = kept_codes contents bytes White;
      black = kept_codes contents bytes Black;
      white_table = tables White;
      black_table = tables Black;
      whole = sym (loaded_is_written (magic_of kind) contents.text (size_of contents.rules.groups)
          bytes is.file are);
    }

-- a text is read as one set of rules
pub same_rules : (r s : RuleLines) (read : Result RuleLines RulesFault) → read ≡ Ok r → read ≡ Ok s
    → r ≡ s
same_rules r s read a b = cc

-- of byte strings with one text that hold the tables there is one
pub one_text : (kind : FileKind) (value : RuleLines → Board → Value) →
    ((rules : RuleLines) (side : Colour) (codes others : List ℕ) →
    IsTableOf rules (value rules) side codes → IsTableOf rules (value rules) side others →
    codes ≡ others) →
    (contents others : Contents) (bytes other_bytes : List ℕ) →
    AreBytes bytes → AreBytes other_bytes → contents.text ≡ others.text →
    opened (table_format kind) (Some bytes) ≡ Ok contents →
    opened (table_format kind) (Some other_bytes) ≡ Ok others →
    ((side : Colour) → IsTableOf contents.rules (value contents.rules) side
    (kept_codes contents bytes side)) →
    ((side : Colour) → IsTableOf others.rules (value others.rules) side
    (kept_codes others other_bytes side)) →
    bytes ≡ other_bytes
one_text kind value one contents others bytes other_bytes are other_are same opens other_opens
    tables other_tables =
    let a = belongs (table_format kind) bytes contents opens in
    let b = belongs (table_format kind) other_bytes others other_opens in
    let rules : contents.rules ≡ others.rules = same_rules contents.rules others.rules
    (rules_of contents.text) a.read (ap rules_of same ∙ b.read) in
    let is = tables_are_one kind (value contents.rules) contents bytes are opens tables in
    let other = tables_are_one kind (value others.rules) others other_bytes other_are other_opens
    other_tables in
    let moved : IsOneFile (magic_of kind) contents.text contents.rules (value contents.rules)
    other_bytes =
    subst (λ (r : RuleLines). IsOneFile (magic_of kind) contents.text r (value r) other_bytes)
    (sym rules)
    (subst (λ (t : List ℕ). IsOneFile (magic_of kind) t others.rules (value others.rules)
    other_bytes) (sym same) other) in
    one_file contents.rules (value contents.rules) (one contents.rules) (magic_of kind)
    contents.text bytes other_bytes is moved

-- the verdict on bytes is exact just where they are the one file
pub verdict_on : (kind : FileKind) (value : Board → Value) (contents : Contents) (bytes : List ℕ)
    (verdict : Verdict) → AreBytes bytes →
    TablesExact contents.rules value →
    ((side : Colour) (codes : List ℕ) → IsTableOf contents.rules value side codes → (i : ℕ) →
    slice_index codes i ≤ 3 + 2 * (size_of contents.rules.groups + 1000)) →
    rules_of contents.text ≡ Ok contents.rules →
    opened (table_format kind) (Some bytes) ≡ Ok contents →
    IsVerdict contents.rules value (kept_codes contents bytes) verdict
    → IsVerdictOn kind value contents bytes verdict
verdict_on kind value contents bytes verdict are exact plies read opens h = record {
  codes = h;
  one_file = (
    λ is. tables_are_one kind value contents bytes are opens
        (subst (λ (v : Verdict). IsVerdict contents.rules value (kept_codes contents bytes) v) is
        h),
    λ one. one_verdict contents.rules value exact (kept_codes contents bytes) verdict Exact h
        (one_file_holds kind value contents bytes plies read one),
  );
}
