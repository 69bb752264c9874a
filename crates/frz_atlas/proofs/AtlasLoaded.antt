-- A table over several others that was loaded with them, or was not.
use Rattle.std.proofs.Common.{◌≡◌, subst, sym, ◌∙◌, ℕ, ◌+◌, ◌*◌, ◌≤◌, List, length, map, Bool, Option, Some, Result, Ok, arith}
use Rattle.frz_rules.specs.Text.{rules_of}
use Rattle.frz_sets.specs.Sets.{size_of}
use Rattle.frz_store.specs.Files.{Files}
use Rattle.frz_store.specs.Told.{StoreTold}
use Rattle.frz_table.specs.declared.fault.TableFault.{TableFault}
use Rattle.frz_table.specs.Faults.{IsOutside}
use Rattle.frz_table.specs.Layout.{kind_by, pieces_of}
use Rattle.frz_table.specs.Opening.{Contents, Refuses, contents_of, opened, own_format, table_format}
use Rattle.frz_table.specs.Possible.{MayKeep, MayOpen, MayRefuse}
use Rattle.frz_table.specs.Tables.{Table, table_size}
use Rattle.frz_table.proofs.Lemmas.{belongs, outside_refuses}
use Rattle.frz_check.proofs.Lemmas.{file_opens}
use Rattle.frz_backs.specs.Links.{Link}
use Rattle.frz_backs.specs.Loaded.{leans_as, link_loaded}
use Rattle.frz_atlas.specs.Causes.{table_fault}
use Rattle.frz_atlas.specs.Held.{MayHoldAll, all_held}
use Rattle.frz_atlas.specs.Loading.{IsOneUnopened, LoadsAll, RefusesToLoad, WithinLoading, opened_own}
use Rattle.frz_atlas.specs.Opening.{IsOwnKind}
use Rattle.frz_atlas.specs.Reading.{IsUnopened, LoadsAtlas, RefusesToRead, WithinReading}
use Rattle.frz_atlas.specs.declared.fault.AtlasFault.{AtlasFault}
use Rattle.frz_atlas.specs.declared.fault.AtlasFault.TheVariants as atlas
use Rattle.frz_atlas.specs.declared.fault.BackFault.TheVariants.{Refused, Wrong}
use Rattle.frz_atlas.specs.declared.reading.LoadedAtlas.{LoadedAtlas}
use Rattle.frz_atlas.proofs.AtlasChecked as checks
use Rattle.frz_atlas.proofs.Causes.{by_table}
use Rattle.frz_atlas.proofs.OwnKinds.{leans_by, opens_own}
use Rattle.frz_atlas.proofs.TableLoaded.{link_kept}
use Rattle.frz_atlas.proofs.Several.{may_hold_some, some_helds}

-- a refusal of the table's own file is one
pub own_refused : (opened_as : Option (List ℕ) → Result Contents TableFault) (held : Option (List ℕ))
    (behind : List (Option (List ℕ))) (fault : TableFault) → Refuses (opened_as held) fault
    → IsUnopened opened_as held behind (table_fault fault)
own_refused opened_as held behind =
    by_table (IsUnopened opened_as held behind) (opened_as held) tt tt (λ f e. e)

-- the table was not opened
pub not_opened : (table : List ℕ) (behind : List (List ℕ)) (old new : StoreTold)
    (fault : TableFault) → MayRefuse own_format table old new fault
    → RefusesToRead table behind old new (table_fault fault)
not_opened table behind old new fault h =
    let others = some_helds old.files behind in record {
      held = h.held;
      may = h.may;
      helds = others;
      may_all = may_hold_some old.files behind;
      refuses = own_refused opened_own h.held others fault h.refuses;
      within = record {
        asked = (let a = h.asked in omega (arith, a));
        calls = (let a = h.calls in omega (arith, a));
      };
    }

-- what was asked for is within the costs of all files
within_all : (bytes : List ℕ) (contents : Contents) (helds : List (Option (List ℕ)))
    (old mid then new : StoreTold) → opened own_format (Some bytes) ≡ Ok contents
    → mid.asked ≤ old.asked + (16 + length contents.text) → mid.calls ≤ old.calls + 5
    → WithinLoading helds mid then
    → new.asked ≤ then.asked + 8 * size_of contents.rules.groups
    → new.calls ≤ then.calls + 2 * pieces_of (size_of contents.rules.groups)
    → WithinReading (Some bytes) helds old new
within_all bytes contents helds old mid then new opens asked calls h more_asked more_calls =
    let within = checks.within_all bytes contents helds old mid then new 0 0 0 opens asked calls
    (record { steps = omega arith; asked = h.asked; calls = h.calls }) more_asked more_calls
    (omega arith) in
    record { asked = within.asked; calls = within.calls }

-- the table was opened, and one of those behind it refused
behind_refused : (bytes : List ℕ) (contents : Contents) (helds : List (Option (List ℕ)))
    (fault : AtlasFault) → opened own_format (Some bytes) ≡ Ok contents
    → IsOneUnopened helds fault
    → IsUnopened opened_own (Some bytes) helds fault
behind_refused bytes contents helds (atlas.Back place (Refused fault)) opens h =
    ((contents, opens), h)
behind_refused bytes contents helds (atlas.Back place (Wrong wrong)) opens h = absurd h
behind_refused bytes contents helds atlas.Failed opens h = tt
behind_refused bytes contents helds atlas.NoMemory opens h = tt
behind_refused bytes contents helds (atlas.Rules fault) opens h = absurd h
behind_refused bytes contents helds (atlas.Table fault) opens h = absurd h

-- the table was opened
module _ (table : Table) (name : List ℕ) (behind : List (List ℕ)) (old mid : StoreTold)
    (opens : MayOpen own_format old.files name (contents_of table))
    (same : mid.files ≡ old.files) (asked : mid.asked ≤ old.asked + (16 + length table.text))
    (calls : mid.calls ≤ old.calls + 5) where
  pub back_refused : (new : StoreTold) (fault : AtlasFault) → RefusesToLoad behind mid new fault
      → RefusesToRead name behind old new fault
  back_refused new fault h = record {
    held = Some opens.bytes;
    may = opens.may;
    helds = h.helds;
    may_all = subst (λ (o : Option Files). MayHoldAll o behind h.helds) same h.may;
    refuses = behind_refused opens.bytes (contents_of table) h.helds fault opens.opens h.refuses;
    within =
        within_all opens.bytes (contents_of table) h.helds old mid new new opens.opens asked calls
        h.within (omega arith) (omega arith);
  }

  -- all of those behind it were loaded, and its own codes were not
  pub not_loaded : (links : List Link) (then new : StoreTold) (fault : TableFault)
      → LoadsAll behind links mid then → new.asked ≤ then.asked + 8 * table_size table
      → new.calls ≤ then.calls + 2 * pieces_of (table_size table) → IsOutside fault
      → RefusesToRead name behind old new (table_fault fault)
  not_loaded links then new fault h more_asked more_calls outside =
      let helds = all_held h.tables in
      record {
        held = Some opens.bytes;
        may = opens.may;
        helds = helds;
        may_all = subst (λ (o : Option Files). MayHoldAll o behind helds) same h.may;
        refuses = own_refused opened_own (Some opens.bytes) helds fault
            (outside_refuses (opened_own (Some opens.bytes)) fault outside);
        within =
            within_all opens.bytes (contents_of table) helds old mid then new opens.opens asked
            calls h.within more_asked more_calls;
      }

-- all of them were loaded
pub atlas_loaded : (given : LoadedAtlas) (name : List ℕ) (behind : List (List ℕ))
    (old mid then new : StoreTold)
    → MayOpen own_format old.files name (contents_of given.table.table)
    → mid.files ≡ old.files → then.files ≡ mid.files
    → mid.asked ≤ old.asked + (16 + length given.table.table.text)
    → mid.calls ≤ old.calls + 5 → IsOwnKind given.table.table.kind → given.table.table.name ≡ name
    → LoadsAll behind (map link_loaded given.backs.items) mid then
    → MayKeep then.files given.table.table given.table.white.items given.table.black.items
    → new.asked ≤ then.asked + 8 * table_size given.table.table
    → new.calls ≤ then.calls + 2 * pieces_of (table_size given.table.table)
    → LoadsAtlas name behind old new given
atlas_loaded given name behind old mid then new opens same then_same asked calls kind named h kept
    more_asked more_calls =
    let table : Table = given.table.table in
    let b : Bool = leans_as table.kind in
    let contents : Contents = contents_of table in
    let read : rules_of table.text ≡ Ok table.rules =
    (belongs own_format opens.bytes contents opens.opens).read in
    let there = file_opens (kind_by b) table name kept.bytes old.files then.files
    (then_same ∙ same) kind named read kept.may kept.file in
    let begins = (belongs (table_format (kind_by b)) kept.bytes contents there.1).file.begins in
    let opens_so = opens_own b kept.bytes contents there.1 in
    record {
      bytes = kept.bytes;
      may = there.0;
      opens = opens_so;
      keeps =
          link_kept table given.table.white.items given.table.black.items kept.bytes
          (leans_by b kept.bytes begins) (sym kept.white_is) (sym kept.black_is);
      tables = h.tables;
      may_all = subst (λ (o : Option Files). MayHoldAll o behind (all_held h.tables)) same h.may;
      all_open = h.opens;
      all_keep = h.keeps;
      within = within_all kept.bytes contents (all_held h.tables) old mid then new opens_so asked
          calls h.within more_asked more_calls;
    }
