-- A table that was opened and those behind it that were loaded, or one of them that was refused.
use Rattle.std.proofs.Common.{◌≡◌, ap, subst, ℕ, ◌+◌, ◌≤◌, List, length, map, Option, Some, Ok, arith}
use Rattle.std.proofs.lemmas.List.{length-map}
use Rattle.frz_store.specs.Files.{Files}
use Rattle.frz_store.specs.Told.{StoreTold}
use Rattle.frz_table.specs.declared.fault.TableFault.{TableFault}
use Rattle.frz_table.specs.Opening.{Contents, contents_of, opened, own_format}
use Rattle.frz_table.specs.Possible.{held_text}
use Rattle.frz_table.specs.Tables.{Table}
use Rattle.frz_table.proofs.Lemmas.{belongs, text_kept}
use Rattle.frz_atlas.specs.BackTable.{BackTable}
use Rattle.frz_atlas.specs.Links.{Link}
use Rattle.frz_atlas.specs.Loaded.{link_loaded}
use Rattle.frz_atlas.specs.Behind.{TableBytes, link_of}
use Rattle.frz_atlas.specs.Causes.{table_fault}
use Rattle.frz_atlas.specs.Held.{MayHoldAll, all_held}
use Rattle.frz_atlas.specs.Loading.{IsOneUnopened, LoadsAll, RefusesToLoad, opened_own}
use Rattle.frz_atlas.specs.Opening.{IsOwnKind, MayOpenOwn, MayRefuseOwn}
use Rattle.frz_atlas.specs.Reading.{IsUnopened}
use Rattle.frz_atlas.specs.declared.fault.AtlasFault.{AtlasFault}
use Rattle.frz_atlas.specs.declared.fault.AtlasFault.TheVariants as atlas
use Rattle.frz_atlas.specs.declared.fault.BackFault.TheVariants.{Refused, Wrong}
use Rattle.frz_atlas.proofs.Lemmas.{may_hold_some, own_refused, some_helds}
use Rattle.frz_atlas_prelude.specs.declared.names.TheConstants.{MOST_BACKS}
use Rattle.frz_atlas_prelude.specs.Ending.{HasSmallPlace}
use Rattle.frz_atlas_prelude.proofs.Lemmas.{as_many_as_names, unopened_behind}
use Rattle.frz_commands_atlas.specs.Each.{OpensTables, RefusesTables}

-- the text that bytes keep is as long as that of their contents
pub text_long : (contents : Contents) (bytes : List ℕ)
    → opened own_format (Some bytes) ≡ Ok contents
    → length (held_text (Some bytes)) ≡ length contents.text
text_long contents bytes opens =
    ap (length {A = ℕ}) (text_kept _ _ _ bytes (belongs own_format bytes contents opens).file)

-- the table was refused, and those behind it were not looked at
pub refused_first : (table : List ℕ) (behind : List (List ℕ)) (old new : StoreTold)
    (fault : TableFault) → MayRefuseOwn table old new fault → new.calls ≤ old.calls + 7
    → RefusesTables table behind old new (table_fault fault)
refused_first table behind old new fault h calls =
    let asked = h.asked in
    record {
      held = h.held;
      may = h.may;
      helds = some_helds old.files behind;
      may_all = may_hold_some old.files behind;
      refuses = own_refused opened_own h.held (some_helds old.files behind) fault h.refuses;
      asked = omega (arith, asked);
      calls = omega (arith, calls);
    }

-- the table opens, and one of those behind it is refused
behind_refused : (contents : Contents) (held : Option (List ℕ)) (helds : List (Option (List ℕ)))
    (fault : AtlasFault) → opened_own held ≡ Ok contents → IsOneUnopened helds fault
    → IsUnopened opened_own held helds fault
behind_refused contents held helds (atlas.Back place (Refused fault)) opens h =
    ((contents, opens), h)
behind_refused contents held helds (atlas.Back place (Wrong wrong)) opens h = absurd h
behind_refused contents held helds atlas.Failed opens h = tt
behind_refused contents held helds atlas.NoMemory opens h = tt
behind_refused contents held helds (atlas.Rules fault) opens h = absurd h
behind_refused contents held helds (atlas.Table fault) opens h = absurd h

module _ (given : Table) (table : List ℕ) (behind : List (List ℕ)) (old mid new : StoreTold)
    (opens : MayOpenOwn old.files table (contents_of given)) (same : mid.files ≡ old.files)
    (asked : mid.asked ≤ old.asked + (24 + length given.text))
    (calls : mid.calls ≤ old.calls + 7) where
  pub refused_behind : (fault : AtlasFault) → RefusesToLoad behind mid new fault
      → RefusesTables table behind old new fault
  refused_behind fault h =
      let text = text_long (contents_of given) opens.bytes opens.opens in
      let more_asked = h.within.asked in
      let more_calls = h.within.calls in
      record {
        held = Some opens.bytes;
        may = opens.may;
        helds = h.helds;
        may_all = subst (λ (o : Option Files). MayHoldAll o behind h.helds) same h.may;
        refuses =
            behind_refused (contents_of given) (Some opens.bytes) h.helds fault opens.opens
            h.refuses;
        asked = omega (arith, asked, more_asked, text);
        calls = omega (arith, calls, more_calls);
      }

  pub tables_opened : (backs : List BackTable) → IsOwnKind given.kind → given.name ≡ table
      → LoadsAll behind (map link_loaded backs) mid new
      → OpensTables table behind old new given backs
  tables_opened backs kind named h =
      let more_asked = h.within.asked in
      let more_calls = h.within.calls in
      record {
        opens = opens;
        kind = kind;
        named = named;
        tables = h.tables;
        may_all =
            subst (λ (o : Option Files). MayHoldAll o behind (all_held h.tables)) same h.may;
        all_open = h.opens;
        all_keep = h.keeps;
        asked = omega (arith, asked, more_asked);
        calls = omega (arith, calls, more_calls);
      }

-- there are as few tables behind as names
pub few_backs : (table : List ℕ) (behind : List (List ℕ)) (old new : StoreTold) (given : Table)
    (backs : List BackTable) → length behind ≤ MOST_BACKS
    → OpensTables table behind old new given backs → length backs ≤ MOST_BACKS
few_backs table behind old new given backs few o =
    let held = as_many_as_names old.files behind (all_held o.tables) o.may_all in
    let links = ap (length {A = Link}) o.all_keep in
    let loaded = length-map backs link_loaded in
    let kept = length-map o.tables link_of in
    let bytes = length-map o.tables (λ (t : TableBytes). Some t.bytes) in
    omega (arith, few, held, links, loaded, kept, bytes)

-- the place of a table that is refused is below the most that stand behind another
pub small_place : (table : List ℕ) (behind : List (List ℕ)) (old new : StoreTold)
    (fault : AtlasFault) → length behind ≤ MOST_BACKS
    → RefusesTables table behind old new fault → HasSmallPlace fault
small_place table behind old new fault few h =
    unopened_behind behind few old.files h.helds h.may_all opened_own h.held fault h.refuses
