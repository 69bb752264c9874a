-- From an open table of the former format to the file under its name.
use Rattle.std.proofs.Common.{◌≡◌, sym, ap, subst, ◌∙◌, ℕ, ◌+◌, ◌*◌, ◌≤◌, List, length, Option, Some, Result, Ok, Err, arith}
use Rattle.frz_board.specs.declared.man.Colour.TheVariants.{White, Black}
use Rattle.frz_index.specs.OldNumbers.{old_size_of}
use Rattle.frz_sets.specs.Views.{RuleLines}
use Rattle.frz_store.specs.Files.{Files}
use Rattle.frz_store.specs.Told.{StoreTold}
use Rattle.frz_table.specs.declared.fault.TableFault.{TableFault}
use Rattle.frz_table.specs.declared.fault.TableFault.TheVariants.{NoMemory}
use Rattle.frz_table.specs.Faults.{IsOutside, TableCauses}
use Rattle.frz_table.specs.Layout.{codes_at, pieces_of}
use Rattle.frz_former.specs.OldFiles.{MayKeepOld, OldTable, old_contents_of, old_format, old_table_size}
use Rattle.frz_table.specs.Opening.{Contents, kept_text, opened, opening_calls}
use Rattle.frz_table.specs.Possible.{MayHold, MayOpen, MayRefuse}
use Rattle.frz_table.proofs.Lemmas.{belongs, loading_calls, opened_calls, opens_by, outside_refuses, text_kept}
use Rattle.frz_commands_table.specs.Migrated.{AreMoved, former_codes}
use Rattle.frz_commands_table.specs.Rewriting.{MovesFile, MovesLists, RefusesFormer, WithinFormer, former_size}
use Rattle.frz_commands_table.specs.declared.moving.Moved.{Moved}

-- the codes that were moved are those in a file that the name may hold
moved_as : (rules others : RuleLines) (slice items codes new : List ℕ) → others ≡ rules
    → slice ≡ items → codes ≡ items
    → AreMoved others.groups slice new → AreMoved rules.groups codes new
moved_as rules others slice items codes new same e f h =
    subst (λ (r : RuleLines). AreMoved r.groups codes new) same
    (subst (λ (l : List ℕ). AreMoved others.groups l new) (e ∙ sym f) h)

pub lists_moved : (files : Option Files) (table : OldTable) (rules : RuleLines)
    (white black white_slice black_slice new_white new_black : List ℕ)
    → MayKeepOld files table white black → rules ≡ table.rules → white_slice ≡ white
    → black_slice ≡ black
    → AreMoved rules.groups white_slice new_white → AreMoved rules.groups black_slice new_black
    → MovesLists files table new_white new_black
lists_moved files table rules white black white_slice black_slice new_white new_black kept same
    white_is black_is w b = record {
      bytes = kept.bytes;
      may = kept.may;
      file = kept.file;
      white_moved = moved_as table.rules rules white_slice white
          (codes_at White table.text (old_table_size table) kept.bytes) new_white same white_is
          kept.white_is w;
      black_moved = moved_as table.rules rules black_slice black
          (codes_at Black table.text (old_table_size table) kept.bytes) new_black same black_is
          kept.black_is b;
    }

-- memory was wanted behind calls of the store that succeeded
pub memory_wanted : {T U : Type 0} (before now wants_before wants_now : ℕ) (given : U)
    (result : Result T TableFault) (fault : TableFault)
    → TableCauses {T = U} before now wants_before wants_now (Ok given) → result ≡ Err fault
    → fault ≡ NoMemory → TableCauses before now wants_before wants_now result
memory_wanted {T} {U} before now wants_before wants_now given result fault h is wanted =
    let err : TableFault → Result T TableFault = λ f. Err f in
    subst (λ (r : Result T TableFault). TableCauses before now wants_before wants_now r)
    (sym (is ∙ ap err wanted))
    (record {
      later = h.later;
      wants_later = h.wants_later;
      fine = tt;
      wants_fine = tt;
      refused = tt;
      wants_refused = tt;
      failed = λ e. cc;
    })

-- what opening and loading ask for is within what the file asks for
within_former : (bytes : List ℕ) (contents : Contents) (old mid new : StoreTold)
    → opened old_format (Some bytes) ≡ Ok contents
    → mid.asked ≤ old.asked + (16 + length contents.text) → mid.calls ≤ old.calls + 5
    → new.asked ≤ mid.asked + 8 * old_size_of contents.rules.groups
    → new.calls ≤ mid.calls + 2 * pieces_of (old_size_of contents.rules.groups)
    → WithinFormer (Some bytes) old new
within_former bytes contents old mid new opens asked calls more_asked more_calls =
    let size : ℕ = old_size_of contents.rules.groups in
    let is : former_size (opened old_format (Some bytes)) ≡ size = ap former_size opens in
    let file = (belongs old_format bytes contents opens).file in
    let text : length (kept_text bytes) ≡ length contents.text = ap (length {A = ℕ})
    (text_kept _ contents.text size bytes file) in
    let pieces : pieces_of (former_size (opened old_format (Some bytes))) ≡ pieces_of size =
    ap pieces_of is in
    record {
      asked = omega (arith, is, text, asked, more_asked);
      calls = loading_calls old.calls mid.calls new.calls
          (pieces_of (former_size (opened old_format (Some bytes))))
          (pieces_of size) (opening_calls old_format (Some bytes)) pieces
          (opened_calls old_format bytes contents opens) calls more_calls;
    }

module _ (name : List ℕ) (old mid new : StoreTold) where
  -- the table was not opened
  pub not_opened : (fault : TableFault) → MayRefuse old_format name old new fault
      → RefusesFormer name old new fault
  not_opened fault h = record {
    held = h.held;
    may = h.may;
    refuses = h.refuses;
    within = record {
      asked = (let a = h.asked in omega (arith, a));
      calls = (let b = h.calls in omega (arith, b));
    };
  }

  module _ (table : OldTable) (opens : MayOpen old_format old.files name (old_contents_of table))
      (asked : mid.asked ≤ old.asked + (16 + length table.text)) (calls : mid.calls ≤ old.calls + 5)
      (more_asked : new.asked ≤ mid.asked + 8 * old_table_size table)
      (more_calls : new.calls ≤ mid.calls + 2 * pieces_of (old_table_size table)) where
    -- its codes were not loaded and moved
    pub not_moved : (fault : TableFault) → IsOutside fault → RefusesFormer name old new fault
    not_moved fault outside = record {
      held = Some opens.bytes;
      may = opens.may;
      refuses = outside_refuses (opened old_format (Some opens.bytes)) fault outside;
      within = within_former opens.bytes (old_contents_of table) old mid new opens.opens asked calls
          more_asked more_calls;
    }

    -- the table that was opened is the one in the file
    pub file_moved : (moved : Moved) → moved.file ≡ table → mid.files ≡ old.files
        → table.name ≡ name
        → MovesLists mid.files table moved.white.items moved.black.items
        → MovesFile name old new moved
    file_moved moved is same named h =
        let known = belongs old_format opens.bytes (old_contents_of table) opens.opens in
        let opened_so : opened old_format (Some h.bytes) ≡ Ok (old_contents_of table) =
        opens_by old_format h.bytes (old_contents_of table)
        (record { file = h.file; short = known.short; read = known.read }) in
        record {
          bytes = h.bytes;
          may = subst (λ (o : Option Files). MayHold o name (Some h.bytes)) same
              (subst (λ (n : List ℕ). MayHold mid.files n (Some h.bytes)) named h.may);
          opens = subst (λ (t : OldTable). opened old_format (Some h.bytes) ≡ Ok
              (old_contents_of t)) (sym is) opened_so;
          white_moved =
              subst (λ (t : OldTable). AreMoved t.rules.groups
              (former_codes (old_contents_of t) h.bytes White) moved.white.items)
              (sym is) h.white_moved;
          black_moved =
              subst (λ (t : OldTable). AreMoved t.rules.groups
              (former_codes (old_contents_of t) h.bytes Black) moved.black.items)
              (sym is) h.black_moved;
          within = within_former h.bytes (old_contents_of table) old mid new opened_so asked calls
              more_asked more_calls;
        }
