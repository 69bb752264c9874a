-- Which files give the codes that were read, or refuse as they were refused.
use Rattle.std.proofs.Common.{◌≡◌, refl, sym, ap, subst, ◌∙◌, ℕ, zero, suc, ◌+◌, ◌<◌, ◌≤◌, ◌^◌, List, [], length, replicate, get_or, take, Bool, true, false, Option, Some, None, Result, Ok, Err, if◌then◌else◌, arith, lit<}
use Rattle.std.specs.Prelude.{IfSome, slice_index}
use Rattle.std.specs.List.{slice_get}
use Rattle.std.specs.Option.{unwrap_or}
use Rattle.std.specs.Str.{bytes_eq}
use Rattle.std.proofs.lemmas.Option.{IfSome_then, get_or_from_slice_get}
use Rattle.std.proofs.lemmas.List.{length-replicate, get_or-replicate}
use Rattle.frz_board.specs.declared.man.Colour.{Colour}
use Rattle.frz_board.specs.declared.man.Colour.TheVariants.{White, Black}
use Rattle.frz_board.specs.Boards.{Board}
use Rattle.frz_sets.specs.Sets.{size_of}
use Rattle.frz_sets.specs.Views.{GroupLine}
use Rattle.frz_index.specs.Members.{Member, Num}
use Rattle.frz_index.proofs.Lemmas.{Num_below, member_of, of_member}
use Rattle.frz_game.specs.Numbers.{is_member}
use Rattle.frz_store.specs.Files.{Files}
use Rattle.frz_store.specs.Told.{StoreTold}
use Rattle.frz_table.specs.declared.fault.TableFault.{TableFault}
use Rattle.frz_table.specs.declared.fault.TableFault.TheVariants.{Missing, Magic, Other, Truncated, Extra, Rules, Size, Failed, NoMemory}
use Rattle.frz_table.specs.declared.kind.FileKind.{FileKind}
use Rattle.frz_table.specs.declared.kind.FileKind.TheVariants.{Atlas}
use Rattle.frz_table.specs.Layout.{magic_of, file_of, codes_at, kind_begun, kind_by}
use Rattle.frz_table.specs.Opening.{Contents, contents_of, opened, Refuses, format_for}
use Rattle.frz_table.specs.Numbers.{AreBytes}
use Rattle.frz_table.specs.Possible.{MayHold, MayOpen, MayRefuse, held_text}
use Rattle.frz_table.specs.Tables.{IsTableFile, Table, table_size}
use Rattle.frz_table.proofs.Lemmas.{belongs, file_bytes, magic_bytes, magic_long, opened_calls, opens_by, text_bytes, text_kept, written_belongs, written_is_loaded}
use Rattle.frz_prelude.specs.Stops.{Answers, stop_of_table}
use Rattle.frz_prelude.specs.declared.refused.Refused.{Refused as Refusal}
use Rattle.frz_prelude.specs.declared.refused.Refused.TheVariants as refusals
use Rattle.frz_prelude.specs.declared.stop.Stop.{Stop}
use Rattle.frz_prelude.specs.declared.stop.Stop.TheVariants.{Refused, Fault}
use Rattle.frz_prelude.proofs.Lemmas.{holding}
use Rattle.frz_commands_ask.specs.declared.kept.KeptCodes.{KeptCodes}
use Rattle.frz_commands_ask.specs.Kept.{code_reads, keeping_bytes, keeping_calls, kept_at, kept_by, kept_of, AreKept, IsKeptIn, IsKept}
use Rattle.frz_rules.proofs.Lemmas.{text_sound}

-- the text of a file that opens is the one that it keeps
pub opened_text : (kind : Option FileKind) (bytes : List ℕ) (contents : Contents)
    → opened (format_for kind) (Some bytes) ≡ Ok contents
    → held_text (Some bytes) ≡ contents.text
opened_text kind bytes contents opens =
    text_kept _ _ _ bytes (belongs (format_for kind) bytes contents opens).file

-- no more was asked of the store, in no more calls, than what the name holds takes
record WithinKept (kind : Option FileKind) (p : Board) (held : Option (List ℕ))
    (old new : StoreTold) : Type 0 where
  asked : new.asked ≤ old.asked + keeping_bytes kind p held
  calls : new.calls ≤ old.calls + keeping_calls kind p held

-- what a name gives that holds this
module _ (kind : Option FileKind) (p : Board) (name : List ℕ) (old new : StoreTold) where
  kept_where : (result : Result KeptCodes Stop) (held : Option (List ℕ))
      → MayHold old.files name held
      → Answers result (kept_of kind p held) → WithinKept kind p held old new
      → IsKept kind p name result old new
  kept_where result held there due within =
      let at = holding old.files name held there in record {
        files = at.files;
        agrees = at.agrees;
        due = subst (λ (h : Option (List ℕ)). Answers result (kept_of kind p h)) (sym at.holds) due;
        asked = subst (λ (h : Option (List ℕ)). new.asked ≤ old.asked + keeping_bytes kind p h)
            (sym at.holds) within.asked;
        calls = subst (λ (h : Option (List ℕ)). new.calls ≤ old.calls + keeping_calls kind p h)
            (sym at.holds) within.calls;
      }

  -- the table was not opened
  fault_due : (held : Option (List ℕ)) (fault : TableFault)
      → opened (format_for kind) held ≡ Err fault
      → kept_of kind p held ≡ Err (refusals.Table fault)
  fault_due held fault e =
      ap (λ (x : Result Contents TableFault). kept_by x (unwrap_or held []) p) e

  refused_due : (held : Option (List ℕ)) (fault : TableFault)
      → Refuses (opened (format_for kind) held) fault
      → Answers {A = KeptCodes} (Err (stop_of_table fault)) (kept_of kind p held)
  refused_due held Missing e = fault_due held Missing e
  refused_due held Magic e = fault_due held Magic e
  refused_due held (Other other) e = fault_due held (Other other) e
  refused_due held (Truncated length due) e = fault_due held (Truncated length due) e
  refused_due held (Extra length due) e = fault_due held (Extra length due) e
  refused_due held (Rules fault) e = fault_due held (Rules fault) e
  refused_due held (Size kept due) e = fault_due held (Size kept due) e
  refused_due held Failed e = tt
  refused_due held NoMemory e = tt

  pub refused_kept : (fault : TableFault) (stop : Stop) → stop ≡ stop_of_table fault
      → MayRefuse (format_for kind) name old new fault → IsKept kind p name (Err stop) old new
  refused_kept fault stop is may =
      kept_where (Err stop) may.held may.may
      (subst (λ (s : Stop). Answers {A = KeptCodes} (Err s) (kept_of kind p may.held)) (sym is)
      (refused_due may.held fault may.refuses))
      (record {
        asked = (let asked = may.asked in omega (arith, asked));
        calls = (let calls = may.calls in omega (arith, calls));
      })

-- what the bytes of a file that opens give
module _ (kind : Option FileKind) (contents : Contents) (bytes : List ℕ) (p : Board)
    (opens : opened (format_for kind) (Some bytes) ≡ Ok contents) where
  abbrev by_member : Bool → Result KeptCodes Refusal
  by_member inside =
      if inside then Ok (record {
        white = kept_at White contents bytes p;
        black = kept_at Black contents bytes p;
      })
      else Err refusals.Outside

  kept_by_member : (inside : Bool) → is_member contents.rules.groups p ≡ inside
      → kept_of kind p (Some bytes) ≡ by_member inside
  kept_by_member inside e =
      ap (λ (x : Result Contents TableFault). kept_by x bytes p) opens ∙ ap by_member e

  outside_test : (inside : Bool) → is_member contents.rules.groups p ≡ inside
      → (Member contents.rules.groups p → ⊥) → is_member contents.rules.groups p ≡ false
  outside_test true e none = absurd (none (member_of contents.rules.groups p e))
  outside_test false e none = e

  pub gives_outside : (Member contents.rules.groups p → ⊥)
      → kept_of kind p (Some bytes) ≡ Err refusals.Outside
  gives_outside none =
      kept_by_member false (outside_test (is_member contents.rules.groups p) refl none)

  pub gives_codes : (codes : KeptCodes) → Member contents.rules.groups p
      → kept_at White contents bytes p ≡ codes.white
      → kept_at Black contents bytes p ≡ codes.black → kept_of kind p (Some bytes) ≡ Ok codes
  gives_codes codes inside white black =
      let both : ℕ → ℕ → Result KeptCodes Refusal = λ w b. Ok (record { white = w; black = b }) in
      kept_by_member true (of_member contents.rules.groups p inside)
      ∙ ap (λ (w : ℕ). both w (kept_at Black contents bytes p)) white
      ∙ ap (λ (b : ℕ). both codes.white b) black

-- a file that keeps one code of each side at every number
pub record KeepsCodes (kind : Option FileKind) (contents : Contents) (p : Board)
    (codes : KeptCodes) : Type 0 where
  pub bytes : List ℕ
  pub are_bytes : AreBytes bytes
  pub opens : opened (format_for kind) (Some bytes) ≡ Ok contents
  pub white : kept_at White contents bytes p ≡ codes.white
  pub black : kept_at Black contents bytes p ≡ codes.black

small_codes : (n code : ℕ) → code < 2 ^ 32 → (i : ℕ) → get_or (replicate n code) i 0 < 2 ^ 32
small_codes zero code small i = lit< tt
small_codes (suc n) code small zero = small
small_codes (suc n) code small (suc i) = small_codes n code small i

-- the kind as which a file is opened that begins as these bytes do
abbrev kind_for : Option FileKind → List ℕ → FileKind
kind_for kind bytes = unwrap_or kind (kind_begun (take 8 bytes))

as_begun : (kind : Option FileKind) (bytes text : List ℕ) (size : ℕ)
    → IsTableFile ((format_for kind).magic (take 8 bytes)) text size bytes
    → IsTableFile (magic_of (kind_for kind bytes)) text size bytes
as_begun (Some kind) bytes text size h = h
as_begun None bytes text size h = h

-- a file that begins as another opens as that one does
kind_again : (leaning : Bool) → kind_begun (magic_of (kind_by leaning)) ≡ kind_by leaning
kind_again true = refl
kind_again false = refl

as_due : (kind : Option FileKind) (other bytes text : List ℕ) (size : ℕ)
    → IsTableFile ((format_for kind).magic (take 8 other)) text size other
    → IsTableFile (magic_of (kind_for kind other)) text size bytes
    → IsTableFile ((format_for kind).magic (take 8 bytes)) text size bytes
as_due (Some kind) other bytes text size first h = h
as_due None other bytes text size first h =
    let again : kind_begun (take 8 bytes) ≡ kind_begun (take 8 other) =
    ap kind_begun h.begins ∙ kind_again (bytes_eq (take 8 other) (magic_of Atlas)) in
    subst (λ (k : FileKind). IsTableFile (magic_of k) text size bytes) (sym again) h

pub some_file : (kind : Option FileKind) (contents : Contents) (other : List ℕ) → AreBytes other
    → opened (format_for kind) (Some other) ≡ Ok contents → (p : Board)
    → Member contents.rules.groups p → (codes : KeptCodes) → codes.white < 2 ^ 32
    → codes.black < 2 ^ 32 → KeepsCodes kind contents p codes
some_file kind contents other are opens p inside codes white_small black_small =
    let text : List ℕ = contents.text in
    let size : ℕ = size_of contents.rules.groups in
    let begun : FileKind = kind_for kind other in
    let magic : List ℕ = magic_of begun in
    let white : List ℕ = replicate size codes.white in
    let black : List ℕ = replicate size codes.black in
    let known = belongs (format_for kind) other contents opens in
    let short = known.short in
    let few = (text_sound text contents.rules known.read).size in
    let white_long : length white ≡ size = length-replicate size codes.white in
    let black_long : length black ≡ size = length-replicate size codes.black in
    let file = written_belongs magic text size white black (magic_long begun) (omega (arith, short))
    (omega (arith, few)) white_long black_long in
    let loaded = written_is_loaded magic text size white black (magic_long begun) white_long
    black_long
    (small_codes size codes.white white_small) (small_codes size codes.black black_small) in
    let below = Num_below contents.rules.groups p inside in
    record {
      bytes = file_of magic text size white black;
      are_bytes = file_bytes magic text size white black (magic_bytes begun)
          (text_bytes magic text size other (as_begun kind other text size known.file) are);
      opens = opens_by (format_for kind) (file_of magic text size white black) contents
          (record {
            file = as_due kind other (file_of magic text size white black) text size known.file file;
            short = short;
            read = known.read;
          });
      white = ap (λ (l : List ℕ). slice_index l (Num contents.rules.groups p)) loaded.0
          ∙ get_or-replicate size (Num contents.rules.groups p) codes.white 0 below;
      black = ap (λ (l : List ℕ). slice_index l (Num contents.rules.groups p)) loaded.1
          ∙ get_or-replicate size (Num contents.rules.groups p) codes.black 0 below;
    }

-- the table was opened
module _ (kind : Option FileKind) (table : Table) (p : Board) (name : List ℕ) (old new : StoreTold)
    (named : table.name ≡ name)
    (asked : new.asked ≤ old.asked + (24 + length table.text))
    (unasked : (Member table.rules.groups p → ⊥) → new.asked ≤ old.asked + (16 + length table.text))
    (calls : new.calls ≤ old.calls + 7)
    (unread : (Member table.rules.groups p → ⊥) → new.calls ≤ old.calls + 5) where
  text_long : (bytes : List ℕ) → opened (format_for kind) (Some bytes) ≡ Ok (contents_of table)
      → length (held_text (Some bytes)) ≡ length table.text
  text_long bytes opens = ap (length {A = ℕ}) (opened_text kind bytes (contents_of table) opens)

  with_codes : (bytes : List ℕ) → opened (format_for kind) (Some bytes) ≡ Ok (contents_of table)
      → (codes : KeptCodes)
      → kept_of kind p (Some bytes) ≡ Ok codes → WithinKept kind p (Some bytes) old new
  with_codes bytes opens codes e = record {
    asked = omega (arith, asked, text_long bytes opens, ap code_reads e);
    calls = omega (
      arith,
      calls,
      opened_calls (format_for kind) bytes (contents_of table) opens,
      ap code_reads e,
    );
  }

  with_none : (bytes : List ℕ) → opened (format_for kind) (Some bytes) ≡ Ok (contents_of table)
      → (Member table.rules.groups p → ⊥)
      → WithinKept kind p (Some bytes) old new
  with_none bytes opens none = record {
    asked = omega (arith, unasked none, text_long bytes opens);
    calls = omega (
      arith,
      unread none,
      opened_calls (format_for kind) bytes (contents_of table)
          opens,
    );
  }

  by_place : (bytes : List ℕ) → opened (format_for kind) (Some bytes) ≡ Ok (contents_of table)
      → (inside : Bool)
      → is_member table.rules.groups p ≡ inside → WithinKept kind p (Some bytes) old new
  by_place bytes opens true e =
      with_codes bytes opens _ (kept_by_member kind (contents_of table) bytes p opens true e)
  by_place bytes opens false e =
      with_none bytes opens
      (λ inside. let no : true ≡ false = sym (of_member table.rules.groups p inside) ∙ e in cc)

  at_name : (P : List ℕ → Type 0) (m : Files) (bytes : List ℕ) → m name ≡ Some bytes
      → IfSome (m table.name) P → P bytes
  at_name P m bytes there h =
      subst (λ (held : Option (List ℕ)). IfSome held P) (ap m named ∙ there) h

  codes_kept : (told : Option Files) → old.files ≡ told
      → MayOpen (format_for kind) told name (contents_of table) → (codes : KeptCodes)
      → AreKept table p told codes → IsKept kind p name (Ok codes) old new
  codes_kept (Some m) e may codes kept =
      let gives = gives_codes kind (contents_of table) may.bytes p may.opens codes kept.inside
      (at_name (λ bytes. kept_at White (contents_of table) bytes p ≡ codes.white) m may.bytes
      may.may kept.white)
      (at_name (λ bytes. kept_at Black (contents_of table) bytes p ≡ codes.black) m may.bytes
      may.may kept.black) in
      kept_where kind p name old new (Ok codes) (Some may.bytes)
      (subst (λ (o : Option Files). MayHold o name (Some may.bytes)) (sym e) may.may)
      gives (with_codes may.bytes may.opens codes gives)
  codes_kept None e may codes kept =
      let file = some_file kind (contents_of table) may.bytes may.may may.opens p kept.inside codes
      kept.white_small kept.black_small in
      let gives = gives_codes kind (contents_of table) file.bytes p file.opens codes kept.inside
      file.white file.black in
      kept_where kind p name old new (Ok codes) (Some file.bytes)
      (subst (λ (o : Option Files). MayHold o name (Some file.bytes)) (sym e) file.are_bytes)
      gives (with_codes file.bytes file.opens codes gives)

  pub opened_kept : MayOpen (format_for kind) old.files name (contents_of table)
      → (result : Result KeptCodes Stop)
      → IsKeptIn table p old.files result → IsKept kind p name result old new
  opened_kept may (Ok codes) kept = codes_kept old.files refl may codes kept
  opened_kept may (Err (Refused why)) kept =
      kept_where kind p name old new (Err (Refused why)) (Some may.bytes)
      may.may
      (gives_outside kind (contents_of table) may.bytes p may.opens kept.0
      ∙ ap (λ (w : Refusal). Err w) (sym kept.1))
      (with_none may.bytes may.opens kept.0)
  opened_kept may (Err (Fault fault)) kept =
      kept_where kind p name old new (Err (Fault fault)) (Some may.bytes)
      may.may tt
      (by_place may.bytes may.opens (is_member table.rules.groups p) refl)

-- what was read in place is the code that the file keeps at the position
module _ (table : Table) (groups : List GroupLine) (same : groups ≡ table.rules.groups) (p : Board)
    (i : ℕ)
    (placed : Member groups p × (i ≡ Num groups p)) where
  pub inside_it : Member table.rules.groups p
  inside_it = subst (λ (g : List GroupLine). Member g p) same placed.0

  number_is : i ≡ Num table.rules.groups p
  number_is = placed.1 ∙ ap (λ (g : List GroupLine). Num g p) same

  pub number_below : i < table_size table
  number_below = subst (λ (n : ℕ). n < table_size table) (sym number_is)
      (Num_below table.rules.groups p inside_it)

  code_kept : (side : Colour) (bytes : List ℕ) (code : ℕ)
      → slice_get (codes_at side table.text (table_size table) bytes) i ≡ Some code
      → kept_at side (contents_of table) bytes p ≡ code
  code_kept side bytes code read =
      ap (λ (n : ℕ). slice_index (codes_at side table.text (table_size table) bytes) n)
      (sym number_is)
      ∙ get_or_from_slice_get (codes_at side table.text (table_size table) bytes) i code 0 read

  pub entry_kept : (side : Colour) (told mid : Option Files) → mid ≡ told → (code : ℕ)
      → IfSome mid (λ m. IfSome (m table.name)
      (λ bytes. slice_get (codes_at side table.text (table_size table) bytes) i ≡ Some code))
      → IfSome told (λ m. IfSome (m table.name)
      (λ bytes. kept_at side (contents_of table) bytes p ≡ code))
  entry_kept side told mid e code read =
      IfSome_then told
      (subst (λ (o : Option Files). IfSome o
      (λ m. IfSome (m table.name)
      (λ bytes. slice_get (codes_at side table.text (table_size table) bytes) i ≡ Some code))) e
      read)
      (λ m h. IfSome_then (m table.name) h (λ bytes k. code_kept side bytes code k))
