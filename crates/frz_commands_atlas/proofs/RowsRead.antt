-- The rows that were read of an open table.
use Rattle.std.proofs.Common.{◌≡◌, refl, sym, ap, ap₂, subst, ◌∙◌, ℕ, ◌+◌, ◌<◌, List, [], ◌∷◌, map, Bool, true, false, Option, Result, Ok, Err, if◌then◌else◌}
use Rattle.std.specs.Prelude.{IfErr}
use Rattle.std.specs.Global.{Vec}
use Rattle.std.specs.Result.{IsErr}
use Rattle.std.proofs.lemmas.List.Sums.{sum_by-cons}
use Rattle.frz_board.specs.declared.man.Colour.{Colour}
use Rattle.frz_board.specs.declared.man.Colour.TheVariants.{White, Black}
use Rattle.frz_board.specs.Boards.{Board}
use Rattle.frz_board.specs.Moving.{Step}
use Rattle.frz_fide.specs.Legal.{after}
use Rattle.frz_fide.specs.Listing.{legal_moves_of}
use Rattle.frz_sets.specs.declared.exit.Value.{Value}
use Rattle.frz_sets.specs.Sets.{size_of}
use Rattle.frz_sets.specs.Views.{GroupLine, RuleLines}
use Rattle.frz_exits.specs.Books.{value_by}
use Rattle.frz_index.specs.Members.{Member, Num}
use Rattle.frz_index.proofs.Lemmas.{Num_below, of_member, position_of}
use Rattle.frz_arena.specs.declared.arm.Arm.{Arm}
use Rattle.frz_arena.specs.Games.{next_by}
use Rattle.frz_arena.specs.Names.{name_in, named_next}
use Rattle.frz_game.specs.Games.{arm_at, graph_by}
use Rattle.frz_game.specs.Numbers.{is_member, numbers_by}
use Rattle.frz_game.proofs.Lemmas.{arms_there}
use Rattle.frz_store.specs.Files.{Files}
use Rattle.frz_table.specs.Opening.{Contents, contents_of}
use Rattle.frz_table.specs.Tables.{Table, table_size}
use Rattle.frz_atlas.specs.Books.{Back}
use Rattle.frz_atlas.specs.Links.{value_over}
use Rattle.frz_atlas.specs.Loaded.{leans_as}
use Rattle.frz_ways.specs.Costs.{arms_reads, next_reads}
use Rattle.frz_ways.specs.Kept.{told_codes, MayRead}
use Rattle.frz_prelude.specs.declared.stop.Stop.{Stop}
use Rattle.frz_prelude.specs.declared.stop.Stop.TheVariants.{Refused, Fault}
use Rattle.frz_commands_atlas.specs.declared.rows.Row.{Row}
use Rattle.frz_commands_atlas.specs.Each.{IsFault, ReadsIn, ReadsRows, rows_given, staying_in}
use Rattle.frz_commands_atlas.specs.MoveRows.{arms_of, row_by}
use Rattle.frz_commands_atlas.specs.Ranked.{IsRanked, rank_for}

-- the position was found in the set of an open table
module _ (rules : RuleLines) (groups : List GroupLine) (same : groups ≡ rules.groups) (p : Board)
    (i : ℕ) (placed : Member groups p × (i ≡ Num groups p)) where
  inside_set : Member rules.groups p
  inside_set = subst (λ (g : List GroupLine). Member g p) same placed.0

  number_is : i ≡ Num rules.groups p
  number_is = placed.1 ∙ ap (λ (g : List GroupLine). Num g p) same

  pub below_size : i < size_of rules.groups
  below_size =
      subst (λ (k : ℕ). k < size_of rules.groups) (sym number_is)
      (Num_below rules.groups p inside_set)

  -- the moves at the number are those of the position
  moves_there : (value : Board → Value) → (graph_by rules value).arms i ≡ arms_of rules value p
  moves_there value =
      arms_there rules value i p
      (position_of rules.groups i p (record { member = inside_set; number = sym number_is }))

-- what exits are worth does not change how many moves stay
reads_by : (name : Board → ℕ) (inside : Bool) (q : Board) (v w : Value)
    → next_reads (named_next name (next_by inside q v))
    ≡ next_reads (named_next name (next_by inside q w))
reads_by name true q v w = refl
reads_by name false q v w = refl

reads_alike : (rules : RuleLines) (v w : Board → Value) (p : Board) (moves : List Step)
    → arms_reads (map (arm_at rules v p) moves) ≡ arms_reads (map (arm_at rules w p) moves)
unfolding arm_at
reads_alike rules v w p [] = refl
reads_alike rules v w p (m ∷ moves) =
    let q = after p m in
    let reads = λ (a : Arm Step ℕ Value). next_reads a.next in
    sum_by-cons reads (arm_at rules v p m) (map (arm_at rules v p) moves)
    ∙ ap₂ (λ (a b : ℕ). a + b)
    (reads_by (name_in (numbers_by rules.groups)) (is_member rules.groups q) q (v q) (w q))
    (reads_alike rules v w p moves)
    ∙ sym (sum_by-cons reads (arm_at rules w p m) (map (arm_at rules w p) moves))

staying_inside : (contents : Contents) (value : Board → Value) (p : Board)
    → Member contents.rules.groups p
    → staying_in contents p ≡ arms_reads (arms_of contents.rules value p)
staying_inside contents value p inside =
    ap (λ (b : Bool). if b then arms_reads (arms_of contents.rules (value_by contents.rules) p)
    else 0) (of_member contents.rules.groups p inside)
    ∙ reads_alike contents.rules (value_by contents.rules) value p (legal_moves_of p)

-- which of the moves there stay in the set
pub staying_there : (table : Table) (value : Board → Value) (groups : List GroupLine)
    (same : groups ≡ table.rules.groups) (p : Board) (i : ℕ)
    → Member groups p × (i ≡ Num groups p) → staying_in (contents_of table) p
    ≡ arms_reads ((graph_by table.rules value).arms i)
staying_there table value groups same p i placed =
    staying_inside (contents_of table) value p (inside_set table.rules groups same p i placed)
    ∙ ap arms_reads (sym (moves_there table.rules groups same p i placed value))

-- the rows that were read, ranked
pub rows_read : (table : Table) (backs : List Back) (p : Board) (told : Option Files)
    (groups : List GroupLine) (i : ℕ) (same : groups ≡ table.rules.groups)
    (placed : Member groups p × (i ≡ Num groups p)) (mover : Colour) → mover ≡ p.turn
    → (rows ranked : List Row)
    → ((white black : List ℕ)
    × MayRead (told_codes table White told) (table_size table) white
    × MayRead (told_codes table Black told) (table_size table) black
    × (rows ≡ map (row_by white black)
    ((graph_by table.rules (value_over (leans_as table.kind) table.rules backs)).arms i)))
    → IsRanked (rank_for mover) rows ranked → ReadsRows table backs p told ranked
rows_read table backs p told groups i same placed mover turn rows ranked read order =
    let value = value_over (leans_as table.kind) table.rules backs in
    record {
      inside = inside_set table.rules groups same p i placed;
      white = read.0;
      black = read.1;
      white_read = read.2;
      black_read = read.3;
      ranked =
          subst (λ (l : List Row). IsRanked (rank_for p.turn) l ranked)
          (read.4 ∙ ap (map (row_by read.0 read.1))
          (moves_there table.rules groups same p i placed value))
          (subst (λ (c : Colour). IsRanked (rank_for c) rows ranked) turn order);
    }

-- a fault stopped the call that reads the rows
pub no_rows : (table : Table) (backs : List Back) (p : Board) (told : Option Files)
    (result : Result (Vec Row) Stop) → IsErr result → IfErr result IsFault
    → ReadsIn table backs p told (rows_given result)
no_rows table backs p told (Ok rows) none fault = cc
no_rows table backs p told (Err (Refused why)) none fault = absurd fault
no_rows table backs p told (Err (Fault fault)) none met = tt
