-- What is found of a back table under its name.
use Rattle.std.proofs.Common.{◌≡◌, refl, sym, ap, subst, ◌∙◌, ℕ, ◌+◌, ◌*◌, ◌≤◌, List, length, Option, Some, Result, Ok, Err, IfOk, IfErr, IfSome}
use Rattle.frz_board.specs.declared.man.Colour.{Colour}
use Rattle.frz_board.specs.declared.man.Colour.TheVariants.{White, Black}
use Rattle.frz_exits.specs.Books.{value_by}
use Rattle.frz_game.specs.EntryCodes.{of_side}
use Rattle.frz_game.proofs.Lemmas.{table_exact}
use Rattle.frz_rules.specs.Text.{rules_of}
use Rattle.frz_store.specs.Bytes.{AreBytes, HoldsBytes}
use Rattle.frz_store.specs.Told.{StoreTold}
use Rattle.frz_table.specs.declared.fault.TableFault.{TableFault}
use Rattle.frz_table.specs.declared.fault.TableFault.TheVariants.{Missing, Magic, Other, Truncated, Extra, Rules, Size, Failed, NoMemory}
use Rattle.frz_table.specs.declared.kind.FileKind.TheVariants.{Plain}
use Rattle.frz_table.specs.Faults.{IsOutside}
use Rattle.frz_table.specs.Layout.{pieces_of}
use Rattle.frz_table.specs.Opening.{Contents, Refuses, contents_of, opened, table_format}
use Rattle.frz_table.specs.Possible.{MayHold, MayKeep, MayOpen}
use Rattle.frz_table.specs.Tables.{Table, table_size}
use Rattle.frz_table.proofs.Lemmas.{belongs, held_bytes}
use Rattle.frz_build.specs.Verdict.{Verdict}
use Rattle.frz_build.specs.Verdict.TheVariants.{Exact}
use Rattle.frz_build.specs.Kept.{WithinFile, kept_codes}
use Rattle.frz_build.specs.Verdicts.{IsVerdict}
use Rattle.frz_build.proofs.Lemmas.{few_plies, file_not_loaded, file_opens, same_verdict, verdict_on, within_file}
use Rattle.frz_chain.specs.Backs.{GivesBack, IsBackJudged, IsRefusedBack, KeepsTable, OpensBack, RefusesBack}
use Rattle.frz_chain.specs.Books.{Back, back_with}
use Rattle.frz_chain.specs.Causes.{back_fault}
use Rattle.frz_chain.specs.FileOn.{back_of, loaded_back}
use Rattle.frz_chain.specs.declared.back.BackTable.{BackTable}
use Rattle.frz_chain.specs.declared.fault.ChainFault.{ChainFault}
use Rattle.frz_chain.specs.declared.fault.ChainFault.TheVariants as chain

-- a file that is refused is refused as a back table
file_refused : (held : Option (List ℕ)) (fault : TableFault)
    → Refuses (opened (table_format Plain) held) fault → IsRefusedBack held (back_fault fault)
file_refused held Missing h = h
file_refused held Magic h = h
file_refused held (Other other) h = h
file_refused held (Truncated length due) h = h
file_refused held (Extra length due) h = h
file_refused held (Rules fault) h = h
file_refused held (Size kept due) h = h
file_refused held Failed h = tt
file_refused held NoMemory h = tt

-- it was opened, and the lists of its codes were not loaded
pub not_loaded : (table : Table) (name : List ℕ) (old mid new : StoreTold)
    (steps_before steps_now : ℕ) (fault : TableFault)
    → MayOpen (table_format Plain) old.files name (contents_of table)
    → mid.asked ≤ old.asked + (16 + length table.text) → mid.calls ≤ old.calls + 5
    → new.asked ≤ mid.asked + 8 * table_size table
    → new.calls ≤ mid.calls + 2 * pieces_of (table_size table)
    → steps_now ≤ steps_before + table_size table → IsOutside fault
    → RefusesBack name old new steps_before steps_now (back_fault fault)
not_loaded table name old mid new steps_before steps_now fault opens asked calls more_asked
    more_calls steps outside =
    let h = file_not_loaded table name old mid new steps_before steps_now fault opens asked calls
    more_asked more_calls steps outside in record {
      held = h.held;
      may = h.may;
      refuses = file_refused h.held fault h.refuses;
      within = h.within;
    }

-- a file that the name may hold, with the verdict on the lists that were loaded
pub record JudgedBack (name : List ℕ) (contents : Contents) (back : Back) (v : Verdict)
    (old new : StoreTold) (steps_before steps_now : ℕ) : Type 0 where
  pub bytes : List ℕ
  pub may : MayHold old.files name (Some bytes)
  pub are_bytes : AreBytes bytes
  pub judged : IsBackJudged bytes contents v
  pub keeps : back ≡ back_of contents bytes
  pub within : WithinFile (Some bytes) old new steps_before steps_now

-- the verdict on the lists is one on the file
judged_bytes : (table : Table) (white black bytes : List ℕ) (v : Verdict)
    → rules_of table.text ≡ Ok table.rules
    → opened (table_format Plain) (Some bytes) ≡ Ok (contents_of table)
    → white ≡ kept_codes (contents_of table) bytes White
    → black ≡ kept_codes (contents_of table) bytes Black
    → IsVerdict table.rules (value_by table.rules) (λ side. of_side side white black) v
    → IsBackJudged bytes (contents_of table) v
judged_bytes table white black bytes v read opens white_is black_is h = record {
  opens = opens;
  codes = on_codes;
  told = λ are. verdict_on Plain (value_by table.rules) (contents_of table) bytes v are
      (table_exact table.rules (value_by table.rules))
      (few_plies table.text table.rules read) read
      opens on_codes;
}
  where
    by_side : (side : Colour) → of_side side white black ≡ kept_codes (contents_of table) bytes side
    by_side White = white_is
    by_side Black = black_is

    on_codes : IsVerdict table.rules (value_by table.rules) (kept_codes (contents_of table) bytes) v
    on_codes = same_verdict table.rules (value_by table.rules)
        (λ side. of_side side white black) (kept_codes (contents_of table) bytes) v by_side h

pub judged_back : (table : Table) (name white black : List ℕ) (v : Verdict)
    (old mid new : StoreTold) (steps_before steps_now : ℕ)
    → IfSome mid.files HoldsBytes
    → MayKeep mid.files table white black → mid.files ≡ old.files → table.kind ≡ Plain
    → table.name ≡ name
    → MayOpen (table_format Plain) old.files name (contents_of table)
    → mid.asked ≤ old.asked + (16 + length table.text) → mid.calls ≤ old.calls + 5
    → new.asked ≤ mid.asked + 8 * table_size table
    → new.calls ≤ mid.calls + 2 * pieces_of (table_size table)
    → steps_now ≤ steps_before + table_size table
    → IsVerdict table.rules (value_by table.rules) (λ side. of_side side white black) v
    → JudgedBack name (contents_of table) (back_with table.rules.groups white black) v old new
    steps_before steps_now
judged_back table name white black v old mid new steps_before steps_now are kept same kind named may
    asked calls more_asked more_calls steps h =
    let contents : Contents = contents_of table in
    let read : rules_of table.text ≡ Ok table.rules =
    (belongs (table_format Plain) may.bytes (contents_of table) may.opens).read in
    let there = file_opens Plain table name kept.bytes old.files mid.files same kind named read
    kept.may kept.file in
    record {
      bytes = kept.bytes;
      may = there.0;
      are_bytes = held_bytes mid.files table.name (Some kept.bytes) are kept.may;
      judged = judged_bytes table white black kept.bytes v read there.1 (sym kept.white_is)
          (sym kept.black_is) h;
      keeps =
          ap (λ (l : List ℕ). back_with table.rules.groups l black) (sym kept.white_is)
          ∙ ap (λ (l : List ℕ). back_with table.rules.groups (kept_codes contents kept.bytes White)
          l) (sym kept.black_is);
      within = within_file kept.bytes contents old mid new steps_before steps_now there.1 asked
          calls more_asked more_calls steps;
    }

-- the back table is given, or its first wrong entry
module _ (name : List ℕ) (contents : Contents) (back : Back) (v : Verdict) (old new : StoreTold)
    (steps_before steps_now : ℕ)
    (h : JudgedBack name contents back v old new steps_before steps_now) where
  pub back_given : (result : Result BackTable ChainFault) → GivesBack back v result
      → IfOk result (λ b. OpensBack name (loaded_back b) old new steps_before steps_now)
  back_given (Ok given) gives = record {
    bytes = h.bytes;
    may = h.may;
    are_bytes = h.are_bytes;
    contents = contents;
    judged = subst (λ (w : Verdict). IsBackJudged h.bytes contents w) gives.0 h.judged;
    keeps = gives.1 ∙ h.keeps;
    within = h.within;
  }
  back_given (Err fault) gives = tt

  pub back_wrong : (result : Result BackTable ChainFault) → GivesBack back v result
      → IfErr result (RefusesBack name old new steps_before steps_now)
  back_wrong (Ok given) gives = tt
  back_wrong (Err (chain.BackWrong wrong)) gives = record {
    held = Some h.bytes;
    may = h.may;
    refuses = record {
      bytes = h.bytes;
      there = refl;
      contents = contents;
      judged = subst (λ (w : Verdict). IsBackJudged h.bytes contents w) gives h.judged;
    };
    within = h.within;
  }
  back_wrong (Err (chain.Rules fault)) gives = absurd gives
  back_wrong (Err (chain.Table fault)) gives = absurd gives
  back_wrong (Err (chain.Back fault)) gives = absurd gives
  back_wrong (Err chain.Failed) gives = absurd gives
  back_wrong (Err chain.NoMemory) gives = absurd gives

-- and it keeps the table that was opened
pub back_kept : (table : Table) (name : List ℕ) (back : Back) (v : Verdict) (old new : StoreTold)
    (steps_before steps_now : ℕ)
    → JudgedBack name (contents_of table) back v old new steps_before steps_now
    → table.name ≡ name → table.kind ≡ Plain
    → (result : Result BackTable ChainFault) → GivesBack back v result
    → IfOk result (λ given. given.table ≡ table) → IfOk result (KeepsTable old.files name)
back_kept table name back v old new steps_before steps_now h named kind (Ok given) gives same =
    record {
      named = ap (λ (t : Table). t.name) same ∙ named;
      kind = ap (λ (t : Table). t.kind) same ∙ kind;
      bytes = h.bytes;
      may = h.may;
      are_bytes = h.are_bytes;
      judged =
          subst (λ (t : Table). IsBackJudged h.bytes (contents_of t) Exact) (sym same)
          (subst (λ (w : Verdict). IsBackJudged h.bytes (contents_of table) w) gives.0 h.judged);
      keeps =
          subst (λ (t : Table). loaded_back given ≡ back_of (contents_of t) h.bytes) (sym same)
          (gives.1 ∙ h.keeps);
    }
back_kept table name back v old new steps_before steps_now h named kind (Err fault) gives same = tt
