-- What is found of a table over several others, under its name and theirs.
use Rattle.std.specs.Prelude.{map, sum_by}
use Rattle.std.proofs.Common.{◌≡◌, ap, sym, subst, ◌∙◌, ℕ, ◌+◌, ◌*◌, ◌≤◌, List, length, Bool, Option, Some, Ok, arith}
use Rattle.std.proofs.lemmas.Simd.{map-map}
use Rattle.frz_sets.specs.Sets.{size_of}
use Rattle.frz_store.specs.Files.{Files}
use Rattle.frz_store.specs.Told.{StoreTold}
use Rattle.frz_table.specs.declared.fault.TableFault.{TableFault}
use Rattle.frz_table.specs.declared.kind.FileKind.{FileKind}
use Rattle.frz_table.specs.Faults.{IsOutside}
use Rattle.frz_table.specs.Layout.{kind_by, pieces_of}
use Rattle.frz_table.specs.Opening.{Contents, Refuses, contents_of, kept_text, opened, opening_calls, own_format, table_format}
use Rattle.frz_table.specs.Possible.{MayOpen, MayRefuse}
use Rattle.frz_table.specs.Tables.{Table, table_size}
use Rattle.frz_table.proofs.Lemmas.{belongs, opened_calls, outside_refuses, text_kept}
use Rattle.frz_check.specs.Kept.{ChecksTable, IsVerdictOn, opened_size}
use Rattle.frz_check.proofs.Lemmas.{file_opens}
use Rattle.frz_backs.specs.Books.{Back}
use Rattle.frz_backs.specs.BackTable.{BackTable}
use Rattle.frz_backs.specs.Links.{Link, backs_of, value_over}
use Rattle.frz_backs.specs.Loaded.{leans_as, link_loaded}
use Rattle.frz_atlas.specs.Behind.{TableBytes, backs_in, leans, link_of}
use Rattle.frz_atlas.specs.Causes.{table_fault}
use Rattle.frz_atlas.specs.Checking.{ChecksAtlas, IsRefusedAtlas, RefusesAtlas, WithinChecking, sizes_in}
use Rattle.frz_atlas.specs.Costs.{WithinAll, bytes_of, calls_of, size_held, steps_of}
use Rattle.frz_atlas.specs.Held.{MayHoldAll, all_held}
use Rattle.frz_atlas.specs.Opening.{IsOneRefused, IsOwnKind, OpensAll, RefusesAll}
use Rattle.frz_atlas.specs.declared.checking.Checked.{Checked}
use Rattle.frz_atlas.specs.declared.fault.AtlasFault.{AtlasFault}
use Rattle.frz_atlas.specs.declared.fault.AtlasFault.TheVariants as atlas
use Rattle.frz_atlas.proofs.Causes.{by_table}
use Rattle.frz_atlas.proofs.Several.{may_hold_some, some_helds}
use Rattle.frz_atlas.proofs.ExactTables.{kept_backs}
use Rattle.frz_atlas.proofs.OwnKinds.{leans_by, opens_own}

-- a file that is refused is refused as a table
file_refused : (held : Option (List ℕ)) (behind : List (Option (List ℕ))) (fault : TableFault)
    → Refuses (opened own_format held) fault
    → IsRefusedAtlas held behind (table_fault fault)
file_refused held behind =
    by_table (IsRefusedAtlas held behind) (opened own_format held) tt tt (λ f e. e)

-- the table was not opened
pub not_opened : (table : List ℕ) (behind : List (List ℕ)) (old new : StoreTold) (steps : ℕ)
    (fault : TableFault) → MayRefuse own_format table old new fault
    → RefusesAtlas table behind old new steps steps (table_fault fault)
not_opened table behind old new steps fault h =
    let others = some_helds old.files behind in record {
      held = h.held;
      may = h.may;
      helds = others;
      may_all = may_hold_some old.files behind;
      refuses = file_refused h.held others fault h.refuses;
      within = record {
        steps = omega arith;
        asked = (let a = h.asked in omega (arith, a));
        calls = (let a = h.calls in omega (arith, a));
      };
    }

-- what was spent is within the costs of all files
pub within_all : (bytes : List ℕ) (contents : Contents) (helds : List (Option (List ℕ)))
    (old mid then new : StoreTold) (steps_before steps_then steps_now : ℕ)
    → opened own_format (Some bytes) ≡ Ok contents
    → mid.asked ≤ old.asked + (16 + length contents.text) → mid.calls ≤ old.calls + 5
    → WithinAll helds mid then steps_before steps_then
    → new.asked ≤ then.asked + 8 * size_of contents.rules.groups
    → new.calls ≤ then.calls + 2 * pieces_of (size_of contents.rules.groups)
    → steps_now ≤ steps_then + size_of contents.rules.groups
    → WithinChecking (Some bytes) helds old new steps_before steps_now
within_all bytes contents helds old mid then new steps_before steps_then steps_now opens asked calls
    h more_asked more_calls steps =
    let file = belongs own_format bytes contents opens in
    let text : length (kept_text bytes) ≡ length contents.text =
    ap (length {A = ℕ}) (text_kept _ contents.text (size_of contents.rules.groups) bytes
    file.file) in
    let size : size_held (Some bytes) ≡ size_of contents.rules.groups = ap opened_size opens in
    record {
      steps = steps_all (sum_by steps_of helds) (size_held (Some bytes)) size h.steps;
      asked = asked_all (length (kept_text bytes)) (sum_by bytes_of helds) (size_held (Some bytes))
          text size h.asked;
      calls = calls_all (opening_calls own_format (Some bytes)) (sum_by calls_of helds)
          (pieces_of (size_held (Some bytes))) (opened_calls own_format bytes contents opens)
          (ap pieces_of size) h.calls;
    }
  where
    steps_all : (behind own : ℕ) → own ≡ size_of contents.rules.groups
        → steps_then ≤ steps_before + behind → steps_now ≤ steps_before + (own + behind)
    steps_all behind own is few = omega (arith, is, few, steps)

    asked_all : (text behind own : ℕ) → text ≡ length contents.text
        → own ≡ size_of contents.rules.groups → then.asked ≤ mid.asked + behind
        → new.asked ≤ old.asked + (16 + text + 8 * own + behind)
    asked_all text behind own same is few = omega (arith, same, is, few, asked, more_asked)

    calls_all : (opening behind pieces : ℕ) → opening ≡ 5
        → pieces ≡ pieces_of (size_of contents.rules.groups) → then.calls ≤ mid.calls + behind
        → new.calls ≤ old.calls + (opening + 2 * pieces + behind)
    calls_all opening behind pieces five is few = omega (arith, five, is, few, calls, more_calls)

-- the table was opened, and one of those behind it refused
behind_refused : (bytes : List ℕ) (contents : Contents) (helds : List (Option (List ℕ)))
    (fault : AtlasFault) → opened own_format (Some bytes) ≡ Ok contents
    → IsOneRefused helds fault → IsRefusedAtlas (Some bytes) helds fault
behind_refused bytes contents helds (atlas.Back place fault) opens h = ((contents, opens), h)
behind_refused bytes contents helds atlas.Failed opens h = tt
behind_refused bytes contents helds atlas.NoMemory opens h = tt
behind_refused bytes contents helds (atlas.Rules fault) opens h = absurd h
behind_refused bytes contents helds (atlas.Table fault) opens h = absurd h

-- the sizes of the loaded tables are those of the tables in their files
sizes_behind : (sizes : List ℕ) (links : List Link) (tables : List TableBytes)
    → sizes ≡ map (λ back. size_of back.groups) (backs_of links) → links ≡ map link_of tables
    → sizes ≡ sizes_in tables
sizes_behind sizes links tables are keeps =
    are ∙ ap (map (λ (b : Back). size_of b.groups)) (kept_backs links tables keeps)
    ∙ map-map (λ (b : Back). size_of b.groups) _ tables

-- the table was opened
module _ (table : Table) (name : List ℕ) (behind : List (List ℕ)) (old mid : StoreTold)
    (steps_before : ℕ)
    (opens : MayOpen own_format old.files name (contents_of table))
    (same : mid.files ≡ old.files) (asked : mid.asked ≤ old.asked + (16 + length table.text))
    (calls : mid.calls ≤ old.calls + 5) where
  pub back_refused : (new : StoreTold) (steps_now : ℕ) (fault : AtlasFault)
      → RefusesAll behind mid new steps_before steps_now fault
      → RefusesAtlas name behind old new steps_before steps_now fault
  back_refused new steps_now fault h = record {
    held = Some opens.bytes;
    may = opens.may;
    helds = h.helds;
    may_all = subst (λ (o : Option Files). MayHoldAll o behind h.helds) same h.may;
    refuses = behind_refused opens.bytes (contents_of table) h.helds fault opens.opens h.refuses;
    within =
        within_all opens.bytes (contents_of table) h.helds old mid new new steps_before steps_now
        steps_now opens.opens asked calls h.within (omega arith) (omega arith) (omega arith);
  }

  -- and all of those behind it
  module _ (backs : List BackTable) (then new : StoreTold) (steps_then steps_now : ℕ)
      (h : OpensAll behind backs mid then steps_before steps_then)
      (more_asked : new.asked ≤ then.asked + 8 * table_size table)
      (more_calls : new.calls ≤ then.calls + 2 * pieces_of (table_size table))
      (steps : steps_now ≤ steps_then + table_size table) where
    abbrev links : List Link
    links = map link_loaded backs

    held_before : MayHoldAll old.files behind (all_held h.tables)
    held_before = subst (λ (o : Option Files). MayHoldAll o behind (all_held h.tables)) same h.may

    within_opened : (bytes : List ℕ)
        → opened own_format (Some bytes) ≡ Ok (contents_of table)
        → WithinChecking (Some bytes) (all_held h.tables) old new steps_before steps_now
    within_opened bytes given =
        within_all bytes (contents_of table) (all_held h.tables) old mid
        then new steps_before steps_then steps_now given asked calls h.within more_asked more_calls
        steps

    pub not_loaded : (fault : TableFault) → IsOutside fault
        → RefusesAtlas name behind old new steps_before steps_now (table_fault fault)
    not_loaded fault outside = record {
      held = Some opens.bytes;
      may = opens.may;
      helds = all_held h.tables;
      may_all = held_before;
      refuses = file_refused (Some opens.bytes) (all_held h.tables) fault
          (outside_refuses (opened own_format (Some opens.bytes)) fault outside);
      within = within_opened opens.bytes opens.opens;
    }

    pub atlas_checked : then.files ≡ mid.files → IsOwnKind table.kind → table.name ≡ name
        → (c : Checked)
        → c.size ≡ table_size table
        → c.behind.items ≡ map (λ back. size_of back.groups) (backs_of links)
        → ChecksTable then.files table
        (value_over (leans_as table.kind) table.rules (backs_of links)) c.verdict
        → ChecksAtlas name behind old new steps_before steps_now c
    atlas_checked then_same kind named c size sizes told =
        let b : Bool = leans_as table.kind in
        let contents : Contents = contents_of table in
        let read = (belongs own_format opens.bytes contents opens.opens).read in
        let there = file_opens (kind_by b) table name told.bytes old.files then.files
        (then_same ∙ same) kind named read told.may told.file in
        let leaning : leans told.bytes ≡ b = leans_by b told.bytes
        (belongs (table_format (kind_by b)) told.bytes contents there.1).file.begins in
        let opens_so = opens_own b told.bytes contents there.1 in
        record {
          bytes = told.bytes;
          may = there.0;
          contents = contents;
          opens = opens_so;
          tables = h.tables;
          may_all = held_before;
          exact = h.exact;
          told =
              subst (λ (x : Bool). IsVerdictOn (kind_by x) (value_over x table.rules (backs_in h.tables))
              contents told.bytes c.verdict) (sym leaning)
              (subst (λ (k : FileKind). IsVerdictOn k (value_over b table.rules (backs_in h.tables))
              contents told.bytes c.verdict) kind
              (subst (λ (l : List Back). IsVerdictOn table.kind (value_over b table.rules l) contents
              told.bytes c.verdict) (kept_backs links h.tables h.keeps) told.told));
          size = size;
          sizes = sizes_behind c.behind.items links h.tables sizes h.keeps;
          within = within_opened told.bytes opens_so;
        }
