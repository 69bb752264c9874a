-- What several exact tables tell is true where the exit lines of each are, plies too.
use Rattle.std.proofs.Common.{◌≡◌, refl, sym, ap, subst, ◌∙◌, ℕ, List, [], ◌∷◌, ◌++◌, Bool, true, false, All, arith}
use Rattle.std.specs.Prelude.{◌+◌, ◌*◌, slice_index, if◌then◌else◌}
use Rattle.std.proofs.lemmas.Bool.{and_parts}
use Rattle.std.proofs.lemmas.List.{append_assoc, append-nil}
use Rattle.std.proofs.lemmas.List.Elements.{All-nil, All-push}
use Rattle.std.proofs.lemmas.List.Folds.{list_all-append}
use Rattle.frz_board.specs.Boards.{Board}
use Rattle.frz_board.specs.declared.man.Colour.{Colour}
use Rattle.frz_board.specs.declared.man.Colour.TheVariants.{White, Black}
use Rattle.frz_fide.specs.Legal.{after}
use Rattle.frz_sets.specs.declared.exit.Value.{Value}
use Rattle.frz_sets.specs.declared.exit.Value.TheVariants.{WhiteWins, BlackWins, Unknown, WhiteWinsIn, BlackWinsIn}
use Rattle.frz_sets.specs.Views.{ExitLine, RuleLines}
use Rattle.frz_arena.specs.declared.bound.Bound.TheVariants.{Wins}
use Rattle.frz_arena.specs.Chess.{ForcesMate}
use Rattle.frz_arena.specs.Codes.{code_of, is_win}
use Rattle.frz_arena.specs.Exits.{AllNumbered}
use Rattle.frz_index.specs.Members.{Member, Num}
use Rattle.frz_chain.specs.Bounds.{IsTableOf}
use Rattle.frz_chain.specs.Games.{chess, game_of}
use Rattle.frz_chain.specs.Values.{AreTrueExits, IsTrueValue}
use Rattle.frz_chain.proofs.Lemmas.{stored_bound, win_code}
use Rattle.frz_chain.specs.Transfer.{TellsChess}
use Rattle.frz_chain.proofs.Lemmas.{holds_of_pair_value, true_tells}
use Rattle.frz_backs.specs.declared.counts.Counts.{Counts}
use Rattle.frz_backs.specs.Books.{Back, back_codes}
use Rattle.frz_backs.specs.Counts.{count_for, counts_for, counts_of, counts_side, lines_count}
use Rattle.frz_backs.specs.FileOn.{IsExactBack}
use Rattle.frz_backs.specs.Links.{AreExact, AreExactOver, AreTrueLines, AreTrueLinesOver, Link, backs_of, own_over, value_over}
use Rattle.frz_backs.specs.Values.{atlas_value, back_value, first_value, own_value, plies_in, told_in, with_plies}
use Rattle.frz_backs.proofs.FirstValue.{first_of, holds_of_atlas_value}
use Rattle.frz_backs.proofs.Numbered.{over_numbered}
use Rattle.frz_backs.proofs.SmallLags.{counted_lines, counted_side}
use Rattle.frz_backs.proofs.Told.{holds_of_back_value}

-- the codes of an exact table are the table of each side
pub table_of : (rules : RuleLines) (value : Board → Value) (back : Back) →
    IsExactBack rules value back → (side : Colour) →
    IsTableOf rules value side (back_codes back side)
table_of rules value back exact White = exact.white
table_of rules value back exact Black = exact.black

pub plies_back : (code n : ℕ) → code ≡ 2 + 2 * n → n ≡ plies_in code
plies_back code n e = omega (arith, e)

-- the side mates within its plies, or within some
white_true : (test : Bool) (n : ℕ) (q : Board) → (test ≡ true → ForcesMate chess White n q) →
    (k : ℕ) × ForcesMate chess White k q →
    IsTrueValue (if test then WhiteWinsIn n else WhiteWins) q
white_true true n q within some = within refl
white_true false n q within some = some

black_true : (test : Bool) (n : ℕ) (q : Board) → (test ≡ true → ForcesMate chess Black n q) →
    (k : ℕ) × ForcesMate chess Black k q →
    IsTrueValue (if test then BlackWinsIn n else BlackWins) q
black_true true n q within some = within refl
black_true false n q within some = some

-- what an exact table tells is true where its exits are, and where the wins that count give plies
module _ (rules : RuleLines) (value : Board → Value) (back : Back)
    (exact : IsExactBack rules value back) (exits : AreTrueExits rules value) (counts : Counts)
    (numbered : (side : Colour) → counts_side counts side ≡ true →
    AllNumbered (game_of rules value) side) (q : Board) where
  tells : (side : Colour) → TellsChess rules value side (back_codes back side)
  tells side =
      true_tells rules value exits side (back_codes back side)
      (table_of rules value back exact side)

  win_stored : (side : Colour) → Member rules.groups q →
      is_win (slice_index (back_codes back side) (Num rules.groups q)) ≡ true →
      (n : ℕ) × (slice_index (back_codes back side) (Num rules.groups q) ≡ code_of (Wins n))
  win_stored side member win =
      let stored = stored_bound rules value side (back_codes back side)
      (table_of rules value back exact side) q member in
      let won = (win_code stored.0).0 (subst (λ (c : ℕ). is_win c ≡ true) stored.1 win) in
      (won.0, stored.1 ∙ ap code_of won.1)

  mates_within : (side : Colour) → Member rules.groups q →
      is_win (slice_index (back_codes back side) (Num rules.groups q)) ≡ true →
      counts_side counts side ≡ true →
      ForcesMate chess side (plies_in (slice_index (back_codes back side) (Num rules.groups q))) q
  mates_within side member win e =
      let code = slice_index (back_codes back side) (Num rules.groups q) in
      let w = win_stored side member win in
      subst (λ (n : ℕ). ForcesMate chess side n q) (plies_back code w.0 w.1)
      ((tells side).win_within (numbered side e) q w.0 member w.1)

  mates : (side : Colour) → Member rules.groups q →
      is_win (slice_index (back_codes back side) (Num rules.groups q)) ≡ true →
      (k : ℕ) × ForcesMate chess side k q
  mates side member win =
      let w = win_stored side member win in
      (tells side).win_mates q w.0 member w.1

  true_in_set : Member rules.groups q →
      IsTrueValue (told_in counts back (Num rules.groups q)) q
  true_in_set member =
      let i : ℕ = Num rules.groups q in
      let white = slice_index back.white i in
      let black = slice_index back.black i in
      holds_of_pair_value (λ (v : Value). IsTrueValue (with_plies counts white black v) q) white
      black
      (λ win. white_true counts.white (plies_in white) q (mates_within White member win)
      (mates White member win))
      (λ win. black_true counts.black (plies_in black) q (mates_within Black member win)
      (mates Black member win))
      (λ w b. ((tells White).hold_safe q member w, (tells Black).hold_safe q member b))
      (λ w. (tells White).hold_safe q member w)
      (λ b. (tells Black).hold_safe q member b)
      tt

  back_true : IsTrueValue (back_value counts back q) q
  back_true =
      holds_of_back_value rules back exact.set q (λ (v : Value). IsTrueValue v q) counts tt
      true_in_set

-- what the table tells of each position is true
abbrev pub TellsTrue : Counts → Back → Type 0
TellsTrue counts back = (q : Board) → IsTrueValue (back_value counts back q) q

-- what all these tables tell is true, plies too where the wins of a side count in all of them
abbrev pub AllTellTrue : List Back → Type 0
AllTellTrue backs =
    (counts : Counts) →
    ((side : Colour) → counts_side counts side ≡ true → count_for side backs ≡ true) →
    All (TellsTrue counts) backs

pub each_tells : (backs : List Back) → AllTellTrue backs → All (TellsTrue (counts_of backs)) backs
each_tells backs told = told (counts_of backs) (λ side e. counted_side backs side e)

pub first_true : (backs : List Back) → AllTellTrue backs → (q : Board) →
    IsTrueValue (first_value (counts_of backs) Unknown backs q) q
first_true backs told q =
    first_of (λ (v : Value). IsTrueValue v q) (counts_of backs) Unknown backs q tt
    (λ k back l. each_tells backs told k back l q)

-- and so are the values of exits with such tables behind true lines
pub over_true : (rules : RuleLines) (backs : List Back) → AllTellTrue backs →
    AreTrueExits rules (own_value rules backs) → AreTrueExits rules (atlas_value rules backs)
over_true rules backs told own p m member legal outside =
    holds_of_atlas_value (λ (v : Value). IsTrueValue v (after p m)) rules backs (after p m)
    (own p m member legal outside)
    (first_true backs told (after p m))

pub link_exits_true : (leans : Bool) (rules : RuleLines) (before : List Back) →
    AllTellTrue before → AreTrueExits rules (own_over leans rules before) →
    AreTrueExits rules (value_over leans rules before)
link_exits_true true rules before told own = over_true rules before told own
link_exits_true false rules before told own = own

-- the counts of more tables
pub counted_before : (before : List Back) (back : Back) (side : Colour) →
    count_for side (before ++ (back ∷ [])) ≡ true →
    (count_for side before ≡ true) × (counts_for side back ≡ true)
counted_before before back side e =
    let both = and_parts (count_for side before) (count_for side (back ∷ []))
    (sym (list_all-append (counts_for side) before (back ∷ [])) ∙ e) in
    (both.0, (and_parts (counts_for side back) true both.1).0)

-- one more exact table with true lines
pub link_true : (link : Link) (before : List Back) →
    IsExactBack link.rules (value_over link.leans link.rules before) link.back →
    AllTellTrue before → AreTrueExits link.rules (own_over link.leans link.rules before) →
    AllTellTrue (before ++ (link.back ∷ []))
link_true link before exact told own counts few =
    All-push (TellsTrue counts) before link.back
    (told counts (λ side e. (counted_before before link.back side (few side e)).0))
    (back_true link.rules (value_over link.leans link.rules before) link.back exact
    (link_exits_true link.leans link.rules before told own) counts
    (λ side e. (
    let both = counted_before before link.back side (few side e) in
    over_numbered link.leans link.rules before side both.0
    (subst (λ (lines : List ExitLine). lines_count side lines ≡ true) exact.lines
    (counted_lines side link.back both.1)))))

pub none_tells : AllTellTrue []
none_tells counts few = All-nil (TellsTrue counts)

-- table by table
over_each : (before : List Back) (links : List Link) → AllTellTrue before →
    AreExactOver before links → AreTrueLinesOver before links →
    AllTellTrue (before ++ backs_of links)
unfolding AreExactOver AreTrueLinesOver
over_each before [] told exact own =
    subst (λ (bs : List Back). AllTellTrue bs) (sym (append-nil before)) told
over_each before (link ∷ links) told exact own =
    subst (λ (bs : List Back). AllTellTrue bs)
    (append_assoc before (link.back ∷ []) (backs_of links))
    (over_each (before ++ (link.back ∷ [])) links (link_true link before exact.0 told own.0)
    exact.1 own.1)

pub tables_true : (links : List Link) → AreExact links → AreTrueLines links →
    AllTellTrue (backs_of links)
tables_true links exact own = over_each [] links none_tells exact own

pub told_true : (links : List Link) → AreExact links → AreTrueLines links → (q : Board) →
    All (λ back. IsTrueValue (back_value (counts_of (backs_of links)) back q) q) (backs_of links)
told_true links exact own q k back l =
    each_tells (backs_of links) (tables_true links exact own) k back l q

pub exits_over_true : (rules : RuleLines) (links : List Link) → AreExact links →
    AreTrueLines links → AreTrueExits rules (own_value rules (backs_of links)) →
    AreTrueExits rules (atlas_value rules (backs_of links))
exits_over_true rules links exact lines own =
    over_true rules (backs_of links) (tables_true links exact lines) own
