-- A way from the number of a position.
use Rattle.std.proofs.Common.{◌≡◌, ◌<◌, ◌^◌, ◌++◌, ℕ, zero, suc, inl, true, List, [], Option, Some, None, IfSome, Result, Ok, Err, refl, sym, subst, ap, ◌∙◌}
use Rattle.std.specs.Prelude.{slice_index, ◌↔◌, IsSome}
use Rattle.std.specs.Result.{IsErrAnd}
use Rattle.frz_board.specs.declared.man.Colour.{Colour}
use Rattle.frz_board.specs.Boards.{Board}
use Rattle.frz_sets.specs.Sets.{size_of}
use Rattle.frz_sets.specs.Views.{RuleLines, GroupLine}
use Rattle.frz_store.specs.Told.{SourceTold, SinkTold}
use Rattle.frz_store.specs.declared.outside.StoreFault.{StoreFault}
use Rattle.frz_store.specs.declared.outside.StoreFault.TheVariants.{Failed, NoMemory}
use Rattle.frz_answer.specs.Answers.{IsLines}
use Rattle.frz_answer.specs.World.{Spent}
use Rattle.frz_arena.specs.declared.arm.Next.TheVariants.{Inside}
use Rattle.frz_answer.proofs.Lemmas.{took_nothing}
use Rattle.frz_exits.specs.Books.{value_by}
use Rattle.frz_arena.specs.Names.{IsNumbering}
use Rattle.frz_game.specs.Games.{arena_by, graph_by}
use Rattle.frz_game.specs.Numbers.{number_of, numbers_by}
use Rattle.frz_index.specs.Members.{Member, Num}
use Rattle.frz_ways.specs.Faults.{fault_of}
use Rattle.frz_ways.specs.Costs.{way_numbers, Spends, SpendsAt}
use Rattle.frz_ways.proofs.CodesGathered.{any_read, start_read}
use Rattle.frz_ways.proofs.Spending.{read_alone, read_first}
use Rattle.frz_ways.specs.Kept.{MayRead}
use Rattle.frz_ways.specs.declared.end.LineFault.TheVariants as faults
use Rattle.frz_ways.specs.declared.hearing.Reader.{Reader}
use Rattle.frz_ways.specs.declared.session_end.TheConstants.{MOST_LINES}
use Rattle.frz_ways.specs.declared.way_end.Finish.{Finish}
use Rattle.frz_ways.specs.declared.way_end.WayEnd.{WayEnd}
use Rattle.frz_ways.specs.declared.session_end.PlayFault.{PlayFault}
use Rattle.frz_ways.specs.declared.session_end.PlayFault.TheVariants as plays
use Rattle.frz_ways.specs.SessionFaults.{WroteBy, TookBytes, MayHold}
use Rattle.frz_ways.specs.declared.opponent.Opponent.{Opponent}
use Rattle.frz_ways.specs.PlayWay.{Plays, WayPlayed, TellsWay}
use Rattle.frz_ways.specs.WayEnds.{ended, told}
use Rattle.frz_ways.specs.Hearing.{HasEnded}
use Rattle.frz_ways.specs.Reading.{opened}
use Rattle.frz_ways.specs.Ways.{GoesOn}
use Rattle.frz_ways.specs.SessionTexts.{start_line}
use Rattle.frz_ways.specs.WayTexts.{plies_text, way_text}
use Rattle.frz_ways.proofs.TurnFaulted.{IsStoreFault, short_of, short_text}
use Rattle.frz_ways.proofs.WayFinished.{ended_wrote}
use Rattle.frz_ways.proofs.Goings.{way_front}
use Rattle.frz_ways.proofs.Taking.{held_whole, took_none, some_rest}
use Rattle.frz_ways.proofs.TurnWritten.{store_fault}

-- the number of a position is within the size of its set
pub start_inside : (rules : RuleLines) (p : Board) {set : List GroupLine} {found : Option ℕ}
    {start : ℕ} → IsNumbering (numbers_by rules.groups) (arena_by rules (value_by rules))
    → set ≡ rules.groups → found ≡ number_of set p → found ≡ Some start
    → start < size_of rules.groups
start_inside rules p {start = start} numbering same is there =
    numbering.in_size p start
    (subst (λ (z : List GroupLine). number_of z p ≡ Some start) same (sym is ∙ there))

-- a position that has no number is not in its set
pub no_member : {set groups : List GroupLine} (p : Board) → set ≡ groups
    → IsSome {T = ℕ} None ↔ Member set p → Member groups p → ⊥
no_member p same is member =
    (let no = is.1 (subst (λ (z : List GroupLine). Member z p) (sym same) member) in cc)

-- the codes that were read of the start, and then after each ply
abbrev from_start : List ℕ → (ℕ → List ℕ) → ℕ → List ℕ
from_start first read zero = first
from_start first read (suc k) = read k

from_start_may : (known : Option (List ℕ)) (size : ℕ) (first : List ℕ) (read : ℕ → List ℕ)
    → MayRead known size first → ((k : ℕ) → MayRead known size (read k)) → (k : ℕ)
    → MayRead known size (from_start first read k)
from_start_may known size first read here rest zero = here
from_start_may known size first read here rest (suc k) = rest k

store_wrote : (fault : StoreFault) (out : SinkTold)
    → WroteBy {T = WayEnd} (Err (plays.Line (fault_of fault))) [] out out
store_wrote Failed out = took_nothing out
store_wrote NoMemory out = took_nothing out

module _ (known : Option (List ℕ)) (size : ℕ) (opponent : Opponent) (rules : RuleLines)
    (side : Colour) (p : Board) where
  -- what was written and taken of the way
  abbrev pub WroteWay : Result WayEnd PlayFault → (source left : SourceTold)
      → (out taken : SinkTold) → (before now : Spent) → Type 0
  WroteWay result source left out taken before now =
      (text bytes : List ℕ) × IsLines text × WroteBy result text out taken
      × TookBytes bytes source left
      × ((read : ℕ → List ℕ) × ((k : ℕ) → MayRead known size (read k))
      × ((codes : ℕ → List ℕ) → ((k : ℕ) → codes k ≡ read k) → (whole : List ℕ)
      × MayHold source whole
      × TellsWay opponent rules side codes p whole bytes text result before now))

  -- where nothing was written or taken
  nothing_written_nothing_taken : (source : SourceTold) (out : SinkTold) (before now : Spent)
      (result : Result WayEnd PlayFault) → WroteBy result [] out out
      → ((codes : ℕ → List ℕ) (whole : List ℕ)
      → TellsWay opponent rules side codes p whole [] [] result before now)
      → WroteWay result source source out out before now
  nothing_written_nothing_taken source out before now result wrote tells =
      let r = some_rest source ⊥ (λ e. absurd e) in (
        [],
        [],
        inl refl,
        wrote,
        took_none source source refl,
        (
          λ k. (any_read known size).0,
          λ k. (any_read known size).1,
          λ codes same. (r.0, r.1, tells codes r.0),
        ),
      )

  -- a position that is not in the set
  pub nothing_told : (source : SourceTold) (out : SinkTold) (before : Spent)
      → (Member rules.groups p → ⊥)
      → WroteWay (Err (plays.Line faults.Outside)) source source out out before before
  nothing_told source out before none =
      nothing_written_nothing_taken source out before before (Err (plays.Line faults.Outside))
      (took_nothing out)
      (λ codes whole member plies end last w. absurd (none member))

  nothing_read_nothing_written : (source : SourceTold) (out : SinkTold) (before now : Spent)
      → Spends 1 0 before now
      → (fault : PlayFault) → IsStoreFault fault → WroteBy {T = WayEnd} (Err fault) [] out out
      → WroteWay (Err fault) source source out out before now
  nothing_read_nothing_written source out before now few fault is wrote =
      nothing_written_nothing_taken source out before now (Err fault) wrote
      (λ codes whole member plies end last w.
      let front = way_front (graph_by rules (value_by rules)) opponent side codes 0 (opened whole)
      last (0, Num rules.groups p) plies end w in
      let code = slice_index (codes 0) (Num rules.groups p) in
      let text = way_text opponent side code plies end in (
        record {
          rest = text;
          unread = front.0;
          begins = refl;
          takes = front.1;
          finishes = short_of fault (told side end) text front.0 is
              (short_text side end (start_line side code plies end)
              (plies_text opponent side plies));
        },
        read_alone (graph_by rules (value_by rules))
            (way_numbers (Inside (0, Num rules.groups p)) plies) before now few,
      ))

  -- the code of the start was not read
  pub start_unread : (source : SourceTold) (out : SinkTold) {before now : Spent}
      → Spends 1 0 before now → (fault : StoreFault) (result : Result WayEnd PlayFault)
      → IsErrAnd result (λ e. e ≡ plays.Line (fault_of fault))
      → WroteWay result source source out out before now
  start_unread source out few fault (Ok end) h = absurd h
  start_unread source out {before} {now} few fault (Err f) h =
      subst (λ (z : PlayFault). WroteWay (Err z) source source out out before now) (sym h)
      (nothing_read_nothing_written source out before now few (plays.Line (fault_of fault))
      (store_fault fault)
      (store_wrote fault out))

  way_told_from_start : (codes : ℕ → List ℕ) (source left : SourceTold) (first last : Reader)
      (bytes text : List ℕ) (finish : Result Finish PlayFault) (before mid now : Spent)
      (start code : ℕ) → start ≡ Num rules.groups p → Spends 1 0 before mid
      → slice_index (codes 0) start ≡ code → first.more ≡ MOST_LINES → TookBytes bytes source left
      → (last.ended ≡ true → HasEnded left)
      → Plays (graph_by rules (value_by rules)) opponent side codes start code first last bytes text
      finish mid now → (whole : List ℕ) × MayHold source whole
      × TellsWay opponent rules side codes p whole bytes text (ended finish) before now
  way_told_from_start codes source left first last bytes text finish before mid now start code is
      few agrees fresh
      took has plays =
      let r = some_rest left (last.ended ≡ true) has in
      let whole = bytes ++ r.0 in (
        whole,
        held_whole bytes source left took r.0 r.1,
        λ member plies end rest w.
            let h = plays agrees r.0 r.2 plies end rest
            (subst (λ k. GoesOn (graph_by rules (value_by rules)) opponent side codes 0
            (record { left = whole; more = k }) start plies end rest) (sym fresh)
            (subst (λ i. GoesOn (graph_by rules (value_by rules)) opponent side codes 0
            (opened whole) i plies end rest) (sym is) w)) in
            let same : code ≡ slice_index (codes 0) (Num rules.groups p) = sym agrees
            ∙ ap (slice_index (codes 0)) is in
            let at_it = subst (λ i. SpendsAt (graph_by rules (value_by rules)) 0
            (way_numbers (Inside (0, i)) plies) mid now) is h.1 in (
              subst (λ c. WayPlayed opponent side c whole bytes text (ended finish) plies end rest)
                  same h.0,
              read_first (graph_by rules (value_by rules))
                  (way_numbers (Inside (0, Num rules.groups p)) plies) before mid now few at_it,
            ),
      )

  pub way_told : (finish : Result Finish PlayFault) (result : Result WayEnd PlayFault)
      → result ≡ ended finish → (source left : SourceTold) (first last : Reader)
      (out taken : SinkTold) {before mid : Spent} (now : Spent) (start code : ℕ)
      → start ≡ Num rules.groups p → Spends 1 0 before mid → start < size → code < 2 ^ 32
      → IfSome known (λ codes. slice_index codes start ≡ code) → first.more ≡ MOST_LINES
      → (last.ended ≡ true → HasEnded left)
      → (text bytes : List ℕ) → IsLines text → WroteBy finish text out taken
      → TookBytes bytes source left
      → (read : ℕ → List ℕ) → ((k : ℕ) → MayRead known size (read k))
      → ((codes : ℕ → List ℕ) → ((k : ℕ) → codes (suc k) ≡ read k)
      → Plays (graph_by rules (value_by rules)) opponent side codes start code first last bytes text
      finish mid now) → WroteWay result source left out taken before now
  way_told finish result ends source left first last out taken {before} {mid} now start code is few
      inside small agrees fresh has text bytes lines wrote took read may plays =
      let at_it = start_read known size start code inside small agrees in
      subst (λ (r : Result WayEnd PlayFault). WroteWay r source left out taken before now) (sym ends) (
        text,
        bytes,
        lines,
        ended_wrote finish text out taken wrote,
        took,
        (
          from_start at_it.0 read,
          from_start_may known size at_it.0 read at_it.1 may,
          λ codes same. way_told_from_start codes source left first last bytes text finish before
              mid now start
              code is few (ap (λ (l : List ℕ). slice_index l start) (same 0) ∙ at_it.2) fresh took has
              (plays codes (λ k. same (suc k))),
        ),
      )
