-- How `why` ends, by what was loaded of the tables and told of the position.
use Rattle.std.proofs.Common.{◌≡◌, ◌⊎◌, refl, sym, ap, subst, ◌∙◌, ℕ, ◌+◌, ◌≤◌, List, [], ◌∷◌, length, slice_index, Bool, true, false, Option, Some, None, Result, Ok, Err, inl, inr, arith}
use Rattle.std.specs.Prelude.{map, MatchBool, if◌then◌else◌}
use Rattle.std.specs.Option.{unwrap_or}
use Rattle.frz_board.specs.Boards.{Board}
use Rattle.frz_board.specs.Men.{other_of}
use Rattle.frz_board.specs.declared.man.Colour.{Colour}
use Rattle.frz_board.specs.declared.man.Colour.TheVariants.{White, Black}
use Rattle.frz_fide.specs.Listing.{legal_moves_of}
use Rattle.frz_graph.specs.EntryCodes.{of_side}
use Rattle.frz_index.specs.Members.{Num}
use Rattle.frz_game.specs.Numbers.{is_member}
use Rattle.frz_game.specs.declared.wrong.Wrong.{Wrong as WrongEntry}
use Rattle.frz_store.specs.Files.{Files}
use Rattle.frz_store.specs.Told.{StoreTold, SourceTold, SinkTold, StoreFine, StoreQuiet}
use Rattle.frz_table.specs.declared.fault.TableFault.{TableFault}
use Rattle.frz_table.specs.Opening.{Contents, contents_of}
use Rattle.frz_check.specs.Kept.{kept_codes}
use Rattle.frz_backs.specs.Books.{Back}
use Rattle.frz_backs.specs.FileOn.{loaded_back}
use Rattle.frz_backs.specs.BackTable.{BackTable}
use Rattle.frz_backs.specs.Links.{Link, value_over}
use Rattle.frz_backs.specs.Loaded.{leans_as, link_loaded}
use Rattle.frz_backs.proofs.Lemmas.{loaded_backs}
use Rattle.frz_atlas_prelude.specs.Behind.{TableBytes, backs_in, leans}
use Rattle.frz_atlas_prelude.specs.Causes.{HasAtlasCause}
use Rattle.frz_atlas_prelude.specs.Held.{all_held}
use Rattle.frz_atlas_prelude.specs.Loading.{opened_own}
use Rattle.frz_atlas_prelude.specs.Reading.{LoadsAtlas, RefusesToRead, WithinReading}
use Rattle.frz_atlas_prelude.specs.AtlasFault.{AtlasFault}
use Rattle.frz_atlas_prelude.specs.LoadedAtlas.{LoadedAtlas}
use Rattle.frz_atlas_prelude.proofs.Lemmas.{kept_backs}
use Rattle.frz_answer.specs.declared.end.End.{End}
use Rattle.frz_answer.specs.declared.fault.Fault.TheVariants as stops
use Rattle.frz_answer.specs.Answers.{Answer, SomeAnswer, says}
use Rattle.frz_answer.specs.Ends.{Ran, Said}
use Rattle.frz_answer.specs.Jobs.{Job, WithinCosts}
use Rattle.frz_answer.specs.Statuses.{OneOf}
use Rattle.frz_answer.specs.World.{World, world, Agrees, spent}
use Rattle.frz_answer.proofs.Lemmas.{Begun, fine_store, quiet_both, said, stopped}
use Rattle.frz_prelude.specs.Refusals.{refusal_line, status_of}
use Rattle.frz_prelude.specs.declared.refused.Refused.TheVariants as refusals
use Rattle.frz_prelude.proofs.Lemmas.{found_where, refusal_said}
use Rattle.frz_atlas_prelude.specs.Ending.{EndsAt}
use Rattle.frz_atlas_prelude.specs.Names.{has_twice}
use Rattle.frz_atlas_prelude.proofs.Lemmas.{Holds, apart_names_hold, over_held, some_over, unread_ran, within_held}
use Rattle.frz_exit_lines.specs.Numbers.{exit_numbers_of}
use Rattle.frz_commands_why.specs.Asking.{asking_at}
use Rattle.frz_commands_why.specs.Costs.{steps_by, why_costs}
use Rattle.frz_commands_why.specs.Deciders.{decider_of}
use Rattle.frz_commands_why.specs.Ending.{EndsIn, EndsEarly, EndsLoaded, codes_loaded, stepping_in}
use Rattle.frz_commands_why.specs.Telling.{EndsWhy, telling_steps, why_text}
use Rattle.frz_commands_why.specs.Texts.{status_by}
use Rattle.frz_commands_why.specs.WhyOf.{IsWhyAnswer, IsWhyAt, IsWhyOver, code_at, decider_behind, value_behind}
use Rattle.frz_commands_why.proofs.OneTelling.{WayThere, told_there}

-- each answer says something
line_said : (side : Colour) (code : ℕ) (text : List ℕ) (wrong : Option WrongEntry)
    → why_text side code text wrong ≡ [] → ⊥
line_said White code text wrong e = cc
line_said Black code text wrong e = cc

abbrev outside_answer : Files → Answer
outside_answer files = says (status_of refusals.Outside) (refusal_line refusals.Outside) files

module _ (there : WayThere) (side : Colour) (p : Board) (files : Files) where
  pub some_opened : (contents : Contents) (bytes : List ℕ) (tables : List TableBytes)
      → SomeAnswer (IsWhyOver side p files contents bytes tables)
  some_opened contents bytes tables = by_member (is_member contents.rules.groups p)
    where
      by_member : (b : Bool) → SomeAnswer (λ a. MatchBool b
          (IsWhyAnswer contents bytes tables side p files a) (a ≡ outside_answer files))
      by_member true =
          let tale = told_there contents.rules (value_behind contents bytes tables) side
          (kept_codes contents bytes) (decider_behind contents bytes tables)
          (Num contents.rules.groups p) there in
          record {
            a = says (status_by tale.wrong)
                (why_text side (code_at contents bytes side p) tale.text tale.wrong) files;
            answer = record {
              text = tale.text;
              wrong = tale.wrong;
              told = tale.told;
              is = refl;
            };
            text = line_said side (code_at contents bytes side p) tale.text tale.wrong;
          }
      by_member false = record {
        a = outside_answer files;
        answer = refl;
        text = refusal_said refusals.Outside;
      }

  some_at : (table : List ℕ) (behind : List (List ℕ))
      → SomeAnswer (IsWhyAt table behind side p files)
  some_at table behind = some_over (IsWhyOver side p files) table behind files some_opened

own_status : (wrong : Option WrongEntry) (table : List ℕ) (behind : List (List ℕ)) (side : Colour)
    (p : Board) → OneOf (status_by wrong) (asking_at table behind side p).statuses
own_status None table behind side p = refl
own_status (Some w) table behind side p = refl

module _ (there : WayThere) (table : List ℕ) (behind : List (List ℕ))
    (apart : has_twice (table ∷ behind) ≡ false) (side : Colour) (p : Board)
    (old new : StoreTold) (before now : ℕ) (quiet : StoreQuiet old new) (later : before ≤ now)
    (input : SourceTold) (out : SinkTold) where
  abbrev job : Job
  job = asking_at table behind side p

  abbrev start : World
  start = world old input out before

  abbrev mid : World
  mid = world new input out now

  spent_within_costs : (held : Option (List ℕ)) (helds : List (Option (List ℕ)))
      → WithinReading held helds old new
      → now ≤ before + steps_by (opened_own held) (unwrap_or held []) side p → (m : Files)
      → m table ≡ held → map m behind ≡ helds
      → WithinCosts (why_costs side p (m table) (map m behind)) (spent start) (spent mid)
  spent_within_costs held helds within steps m here others =
      within_held (why_costs side p) held (m table) helds (map m behind) here others (spent start)
      (spent mid) (record { steps = steps; calls = within.calls; asked = within.asked })

  -- the tables were loaded
  module _ (given : LoadedAtlas) (l : LoadsAtlas table behind old new given)
      (steps : now ≤ before + stepping_in given.table side p) where
    abbrev own : BackTable
    own = given.table

    abbrev backs : List BackTable
    backs = given.backs.items

    abbrev contents : Contents
    contents = contents_of own.table

    abbrev h : Holds old.files table behind (Some l.bytes) (all_held l.tables)
    h = apart_names_hold old.files table behind apart (Some l.bytes) (all_held l.tables) l.may
        l.may_all

    leans_as_its_bytes : leans_as own.table.kind ≡ leans l.bytes
    leans_as_its_bytes = ap (λ (k : Link). k.leans) l.keeps

    same_backs : map loaded_back backs ≡ backs_in l.tables
    same_backs = sym (loaded_backs backs) ∙ kept_backs (map link_loaded backs) l.tables l.all_keep

    same_codes : codes_loaded own ≡ kept_codes contents l.bytes
    same_codes =
        ap (λ (k : Link). λ (s : Colour). of_side s k.back.white k.back.black) l.keeps
        ∙ (λ i s. by_side s i)
      where
        by_side : (s : Colour)
            → of_side s (kept_codes contents l.bytes White) (kept_codes contents l.bytes Black)
            ≡ kept_codes contents l.bytes s
        by_side White = refl
        by_side Black = refl

    -- what was told by the loaded tables is told by those in the files
    by_files : (number : ℕ) (end : End) (after : SinkTold)
        → EndsLoaded own backs side number end out after
        → EndsWhy contents.rules (value_behind contents l.bytes l.tables) side
        (kept_codes contents l.bytes) (decider_behind contents l.bytes l.tables) number end out
        after
    by_files number end after ends =
        subst (λ (c : Colour → List ℕ). EndsWhy contents.rules
        (value_behind contents l.bytes l.tables) side c
        (decider_behind contents l.bytes l.tables) number end out after) same_codes
        (subst (λ (b : List Back). EndsWhy contents.rules
        (value_over (leans l.bytes) contents.rules b) side (codes_loaded own)
        (decider_of (leans l.bytes) (exit_numbers_of contents.text) contents.rules b) number end out after) same_backs
        (subst (λ (t : Bool). EndsWhy contents.rules
        (value_over t contents.rules (map loaded_back backs)) side (codes_loaded own)
        (decider_of t (exit_numbers_of contents.text) contents.rules (map loaded_back backs)) number end out after) leans_as_its_bytes ends))

    same_steps : now ≤ before + steps_by (opened_own (Some l.bytes)) l.bytes side p
    same_steps =
        subst (λ (n : ℕ). now ≤ before + n)
        (ap (λ (c : Colour → List ℕ). if is_member contents.rules.groups p
        then telling_steps (slice_index (c side) (Num contents.rules.groups p))
        (slice_index (c (other_of side)) (Num contents.rules.groups p))
        (length (legal_moves_of p)) else 0) same_codes
        ∙ sym (ap (λ (x : Result Contents TableFault). steps_by x l.bytes side p) l.opens)) steps

    abbrev costs_kept : WithinCosts (why_costs side p (h.all.files table) (map h.all.files behind))
        (spent start) (spent mid)
    costs_kept =
        spent_within_costs (Some l.bytes) (all_held l.tables) l.within same_steps h.all.files h.here
        h.others

    says_so : (a : Answer) → IsWhyOver side p h.all.files contents l.bytes l.tables a
        → IsWhyAt table behind side p h.all.files a
    says_so a over =
        over_held (IsWhyOver side p h.all.files) table behind h.all.files (Some l.bytes)
        (all_held l.tables) h.here h.others (Ok contents) (Ok l.tables) l.opens l.all_open a over

    -- some answer over what the names hold
    begun : (files : Files) (left : List ℕ) → Agrees start files left → Begun job files left start mid
    begun files left agrees = record {
      found = found_where job h.all.files files left start (λ e. cc) h.all.agrees agrees;
      some = some_at there side p h.all.files table behind;
      costs = costs_kept;
    }

    by_member : (b : Bool) → is_member contents.rules.groups p ≡ b → (end : End)
        (after : SinkTold) → StoreFine old new
        → MatchBool b (EndsEarly end out after
        ⊎ EndsLoaded own backs side (Num contents.rules.groups p) end out after)
        (Said (status_of refusals.Outside) (refusal_line refusals.Outside) end out after)
        → Ran job end start (world new input after now)
    by_member true inside end after fine (inl early) =
        subst (λ (o : SinkTold). Ran job end start (world new input o now)) (sym early.1)
        (subst (λ (e : End). Ran job e start mid) (sym early.0)
        (stopped job stops.NoMemory start mid (quiet_both old new input out before now quiet later)
        refl begun))
    by_member true inside end after fine (inr ends) =
        let told = by_files (Num contents.rules.groups p) end after ends in
        said job (status_by told.wrong)
        (why_text side (code_at contents l.bytes side p) told.text told.wrong) end start mid after
        (quiet_both old new input out before now quiet later)
        (fine_store old new input out before now fine)
        (own_status told.wrong table behind side p) told.said
        (λ files left agrees. record {
          found = found_where job h.all.files files left start (λ e. cc) h.all.agrees agrees;
          answer = says_so _
              (subst (λ (b : Bool). MatchBool b
              (IsWhyAnswer contents l.bytes l.tables side p h.all.files
              (says (status_by told.wrong)
              (why_text side (code_at contents l.bytes side p) told.text told.wrong)
              h.all.files))
              (says (status_by told.wrong)
              (why_text side (code_at contents l.bytes side p) told.text told.wrong) h.all.files
              ≡ outside_answer h.all.files)) (sym inside)
              (record { text = told.text; wrong = told.wrong; told = told.told; is = refl }));
          costs = costs_kept;
        })
    by_member false inside end after fine refused =
        said job (status_of refusals.Outside) (refusal_line refusals.Outside) end start mid after
        (quiet_both old new input out before now quiet later)
        (fine_store old new input out before now fine) refl refused
        (λ files left agrees. record {
          found = found_where job h.all.files files left start (λ e. cc) h.all.agrees agrees;
          answer = says_so _
              (subst (λ (b : Bool). MatchBool b
              (IsWhyAnswer contents l.bytes l.tables side p h.all.files
              (outside_answer h.all.files))
              (outside_answer h.all.files ≡ outside_answer h.all.files)) (sym inside) refl);
          costs = costs_kept;
        })

    pub why_is_told : (end : End) (after : SinkTold) → StoreFine old new
        → EndsIn own backs side p end out after → Ran job end start (world new input after now)
    why_is_told end after fine ends =
        by_member (is_member contents.rules.groups p) refl end after fine ends

  -- something is refused, or could not be read
  module _ (fault : AtlasFault) (r : RefusesToRead table behind old new fault)
      (steps : now ≤ before) where
    no_steps : now ≤ before + steps_by (opened_own r.held) (unwrap_or r.held []) side p
    no_steps = omega arith

    pub refused_so : (end : End) (after : SinkTold)
        → HasAtlasCause {T = LoadedAtlas} (Err fault) old new → EndsAt fault end out after
        → Ran job end start (world new input after now)
    refused_so =
        unread_ran job table behind (λ m left. IsWhyOver side p m)
        (record {
          reads = λ e. cc;
          store = refl;
          memory = refl;
          missing = refl;
          refused = refl;
          gives = λ m left a h. h;
          some = λ m left. some_opened there side p m;
        })
        apart old new before now quiet later input out fault r
        (λ m left a here others. spent_within_costs r.held r.helds r.within no_steps m here others)
