-- What the answers of `line` and `play` mean.
use Rattle.std.proofs.Common.{◌≡◌, ◌≤◌, ◌+◌, ◌*◌, refl, sym, ap, subst, ◌∙◌, inl, inr, ℕ, zero, suc, List, [], ◌∷◌, length, map, take, Bool, true, false, Option, None, Some, Result, Ok, Err, arith}
use Rattle.std.specs.Prelude.{MatchBool, MatchOption, slice_index}
use Rattle.std.specs.Option.{unwrap_or}
use Rattle.frz_board.specs.Boards.{Board}
use Rattle.frz_board.specs.declared.man.Colour.{Colour}
use Rattle.frz_board.specs.declared.man.Colour.TheVariants.{White, Black}
use Rattle.frz_index.specs.Members.{Member, Num}
use Rattle.frz_index.specs.Membership.{is_member}
use Rattle.frz_index.proofs.Lemmas.{member_of, of_member}
use Rattle.frz_store.specs.Files.{Files}
use Rattle.frz_table.specs.declared.fault.TableFault.{TableFault}
use Rattle.frz_table.specs.declared.fault.TableFault.TheVariants as table_faults
use Rattle.frz_table.specs.Opening.{Contents, opened, own_format}
use Rattle.frz_table.proofs.Lemmas.{opened_missing}
use Rattle.frz_arena.specs.declared.bound.Bound.TheVariants.{Wins, Holds}
use Rattle.frz_arena.specs.Codes.{code_of}
use Rattle.frz_game.specs.declared.wrong.Wrong.{Wrong as WrongEntry}
use Rattle.frz_check.specs.Kept.{kept_codes}
use Rattle.frz_check.specs.KeptTables.{KeepsTables}
use Rattle.frz_check.proofs.Lemmas.{bound_kept}
use Rattle.frz_sets.specs.Views.{RuleLines}
use Rattle.frz_game.specs.Values.{AreTrueExits}
use Rattle.frz_exits.specs.Books.{value_by}
use Rattle.frz_journeys.specs.Links.{AreExact, AreTrueLines, Link, backs_of, own_over, value_over}
use Rattle.frz_journeys.proofs.Lemmas.{exits_over_true}
use Rattle.frz_atlas_prelude.specs.Behind.{TableBytes, leans, link_of}
use Rattle.frz_atlas_prelude.specs.Loading.{opened_all}
use Rattle.frz_atlas_prelude.specs.BackFault.TheVariants.{Refused}
use Rattle.frz_answer.specs.declared.status.Status.{Status}
use Rattle.frz_answer.specs.declared.status.Status.TheVariants as statuses
use Rattle.frz_answer.specs.Answers.{Answer, says}
use Rattle.frz_prelude.specs.Refusals.{refusal_line, status_of, table_status}
use Rattle.frz_prelude.specs.declared.refused.Refused.TheVariants as refusals
use Rattle.frz_prelude.proofs.Lemmas.{by_table_status}
use Rattle.frz_atlas_prelude.specs.BackLines.{back_line}
use Rattle.frz_atlas_prelude.specs.TableRefusals.{of_back, of_table}
use Rattle.frz_atlas_prelude.proofs.Lemmas.{result_is_not_both}
use Rattle.frz_ways.specs.declared.end.LineFault.TheVariants as faults
use Rattle.frz_ways.specs.declared.hearing.Why.{Why}
use Rattle.frz_ways.specs.declared.hearing.Why.TheVariants.{Ended, Limit}
use Rattle.frz_ways.specs.declared.opponent.Opponent.{Opponent}
use Rattle.frz_ways.specs.declared.opponent.Opponent.TheVariants as opponents
use Rattle.frz_ways.specs.declared.opponent.Player.{Player}
use Rattle.frz_ways.specs.declared.session_end.PlayFault.{PlayFault}
use Rattle.frz_ways.specs.declared.session_end.PlayFault.TheVariants as plays
use Rattle.frz_ways.specs.declared.session_end.PlayLimit.{PlayLimit}
use Rattle.frz_ways.specs.declared.way_end.WayEnd.{WayEnd}
use Rattle.frz_ways.specs.Reading.{Input, opened as first_input}
use Rattle.frz_ways.specs.ChessGames.{after_plies}
use Rattle.frz_ways.specs.WayEnds.{told, told_why}
use Rattle.frz_ways.specs.Ways.{EndOfWay}
use Rattle.frz_arena.specs.WayEnds.{Wrong, NoBound, Mated, Stalemated, Exit, Cut, Stopped}
use Rattle.frz_journeys.specs.declared.place.Place.{Place}
use Rattle.frz_journeys.specs.declared.place.Place.TheVariants.{Own, Behind}
use Rattle.frz_journeys.specs.Arrivals.{Arrives}
use Rattle.frz_journeys.specs.ExactJourneys.{EndsRight, IsExactOver}
use Rattle.frz_journeys.specs.JourneyGames.{AreLegalFrom, AtEach, AtLast, IsGameBy, moves_of}
use Rattle.frz_journeys.specs.Journeys.{IsJourney, Stage, onward}
use Rattle.frz_journeys.specs.KeptBounds.{EndsHeldAt, EndsWonAt, HaveOwnSets, IsHeldAt, IsWonAt}
use Rattle.frz_journeys.specs.Tables.{codes_of}
use Rattle.frz_commands_journeys.specs.Endings.{answer_status}
use Rattle.frz_commands_journeys.specs.JourneyOf.{IsPlayed, IsPlayedAt, IsPlayedBy, IsPlayedOver, own_table, played_text}
use Rattle.frz_commands_journeys.specs.Meaning.{ArrivesSo, HasJourney, MeansStatus, Opens, start_code}
use Rattle.frz_commands_journeys.proofs.LineUnstopped.{never_limited}

-- what is proved of journeys
pub record JourneyLaws : Type 0 where
  pub moves : (opponent : Opponent) (side : Colour) (before : List Link) (table : Link)
      (place : Place) (start : Board) (input : Input) (stages : List Stage) (left : Input) →
      Member table.rules.groups start →
      IsJourney opponent side before table place start input stages left →
      AreLegalFrom start (moves_of stages)
  pub games : (opponent : Opponent) (side : Colour) (before : List Link) (table : Link)
      (place : Place) (start : Board) (input : Input) (stages : List Stage) (left : Input) →
      Member table.rules.groups start →
      IsJourney opponent side before table place start input stages left →
      AtEach (IsGameBy side) before table stages
  pub won : (opponent : Opponent) (side : Colour) (before : List Link) (table : Link)
      (place : Place) (start : Board) (input : Input) (stages : List Stage) (left : Input)
      (n : ℕ) → HaveOwnSets before → Member table.rules.groups start →
      slice_index (codes_of side table) (Num table.rules.groups start) ≡ 2 + 2 * n →
      IsJourney opponent side before table place start input stages left →
      AtLast (IsWonAt side) before table stages
  pub held : (opponent : Opponent) (side : Colour) (before : List Link) (table : Link)
      (place : Place) (start : Board) (input : Input) (stages : List Stage) (left : Input) →
      HaveOwnSets before → Member table.rules.groups start →
      slice_index (codes_of side table) (Num table.rules.groups start) ≡ 1 →
      IsJourney opponent side before table place start input stages left →
      AtLast (IsHeldAt side) before table stages
  pub few : (opponent : Opponent) (side : Colour) (before : List Link) (table : Link)
      (place : Place) (start : Board) (input : Input) (stages : List Stage) (left : Input) →
      IsJourney opponent side before table place start input stages left →
      length stages ≤ 1 + length before
  pub right : (opponent : Opponent) (side : Colour) (before : List Link) (table : Link)
      (place : Place) (start : Board) (input : Input) (stages : List Stage) (left : Input) →
      IsExactOver before table → Member table.rules.groups start →
      IsJourney opponent side before table place start input stages left →
      AtLast EndsRight before table stages

-- the codes of each table are those of the set of its rules
own_sets : (tables : List TableBytes) → HaveOwnSets (map link_of tables)
own_sets [] k d within = absurd (omega (arith, within))
own_sets (table ∷ tables) zero d within = refl
own_sets (table ∷ tables) (suc k) d within = own_sets tables k d (omega (arith, within))

many_links : (tables : List TableBytes) → length (map link_of tables) ≡ length tables
many_links [] = refl
many_links (table ∷ tables) = ap suc (many_links tables)

-- the codes of a side in TABLE
own_codes : (side : Colour) (contents : Contents) (bytes : List ℕ)
    → codes_of side (own_table contents bytes) ≡ kept_codes contents bytes side
own_codes White contents bytes = refl
own_codes Black contents bytes = refl

-- exits over exact tables are true where the lines are
exits_so : (leaning : Bool) (rules : RuleLines) (links : List Link) → AreExact links
    → AreTrueLines links → AreTrueExits rules (own_over leaning rules (backs_of links))
    → AreTrueExits rules (value_over leaning rules (backs_of links))
exits_so true rules links exact lines own = exits_over_true rules links exact lines own
exits_so false rules links exact lines own = own

-- the faults at which a journey arrives
data IsTold : PlayFault → Type 0 where
  wrong : (entry : WrongEntry) → IsTold (plays.Line (faults.Wrong entry))
  no_bound : IsTold (plays.Line faults.NoBound)
  limit : (which : PlayLimit) → IsTold (plays.Limit which)

same_fault : (one other : PlayFault)
    → ◌≡◌ {A = Result WayEnd PlayFault} (Err one) (Err other) → one ≡ other
same_fault one other e = cc

why_fault : (why : Why) (fault : PlayFault) → Err fault ≡ told_why why → IsTold fault
why_fault Ended fault e = cc
why_fault (Limit which) fault e =
    subst IsTold (sym (same_fault fault (plays.Limit which) e)) (limit which)

told_fault : (side : Colour) (end : EndOfWay) (fault : PlayFault) → Err fault ≡ told side end
    → IsTold fault
told_fault side (Wrong at kept given) fault e =
    let w : WrongEntry = record { side = side; number = at.1; kept = kept; given = given } in
    subst IsTold (sym (same_fault fault (plays.Line (faults.Wrong w)) e)) (wrong w)
told_fault side NoBound fault e =
    subst IsTold (sym (same_fault fault (plays.Line faults.NoBound) e)) no_bound
told_fault side (Mated mover) fault e = cc
told_fault side (Stalemated mover) fault e = cc
told_fault side (Exit v) fault e = cc
told_fault side Cut fault e = cc
told_fault side (Stopped halt) fault e = why_fault halt.why fault e

-- a journey arrives at a fault that an end calls for
is_told : (side : Colour) (stages : List Stage) (place : Place) (fault : PlayFault)
    → Arrives side stages place (Err fault) → IsTold fault
is_told side [] place fault h = absurd h
is_told side (stage ∷ []) place fault h = told_fault side stage.end fault h.1
is_told side (stage ∷ next ∷ stages) place fault h = is_told side (next ∷ stages) place fault h

-- at a start without a bound neither a win nor a hold is kept
no_bound_won : (side : Colour) (table : Link) (q : Board) (end : EndOfWay)
    → Err (plays.Line faults.NoBound) ≡ told side end → EndsWonAt side table q end → ⊥
no_bound_won side table q (Wrong at kept given) e h = cc
no_bound_won side table q NoBound e h = h
no_bound_won side table q (Mated mover) e h = cc
no_bound_won side table q (Stalemated mover) e h = h
no_bound_won side table q (Exit v) e h = cc
no_bound_won side table q Cut e h = h
no_bound_won side table q (Stopped halt) e h = by_why halt.why e
  where
    by_why : (why : Why) → Err (plays.Line faults.NoBound) ≡ told_why why → ⊥
    by_why Ended is = cc
    by_why (Limit which) is = cc

no_bound_held : (side : Colour) (table : Link) (q : Board) (end : EndOfWay)
    → Err (plays.Line faults.NoBound) ≡ told side end → EndsHeldAt side table q end → ⊥
no_bound_held side table q (Wrong at kept given) e h = cc
no_bound_held side table q NoBound e h = h
no_bound_held side table q (Mated mover) e h = cc
no_bound_held side table q (Stalemated mover) e h = cc
no_bound_held side table q (Exit v) e h = cc
no_bound_held side table q Cut e h = cc
no_bound_held side table q (Stopped halt) e h = by_why halt.why e
  where
    by_why : (why : Why) → Err (plays.Line faults.NoBound) ≡ told_why why → ⊥
    by_why Ended is = cc
    by_why (Limit which) is = cc

-- a wrong code is told at an end by one
wrong_end : (side : Colour) (w : WrongEntry) (end : EndOfWay)
    → Err (plays.Line (faults.Wrong w)) ≡ told side end
    → ((at : ℕ × ℕ) (kept given : ℕ) → end ≡ Wrong at kept given → ⊥) → ⊥
wrong_end side w (Wrong at kept given) e right = right at kept given refl
wrong_end side w NoBound e right = cc
wrong_end side w (Mated mover) e right = cc
wrong_end side w (Stalemated mover) e right = cc
wrong_end side w (Exit v) e right = cc
wrong_end side w Cut e right = cc
wrong_end side w (Stopped halt) e right = by_why halt.why e
  where
    by_why : (why : Why) → Err (plays.Line (faults.Wrong w)) ≡ told_why why → ⊥
    by_why Ended is = cc
    by_why (Limit which) is = cc

-- what never holds of a stage that calls for the answer does not hold of the last stage
module _ (opponent : Opponent) (side : Colour) (answer : Result WayEnd PlayFault)
    (P : Link → Stage → Type 0)
    (never : (table : Link) (stage : Stage) → answer ≡ told side stage.end → P table stage → ⊥)
  where
    abbrev LastBy : List Link → Link → Stage → List Stage → Option (ℕ × Link) → Type 0
    LastBy before table stage stages next =
        MatchOption next (P table stage) (λ n. AtLast P (take n.0 before) n.1 stages)

    never_of_single_stage : (before : List Link) (table : Link) (stage : Stage)
        (next : Option (ℕ × Link))
        → answer ≡ told side stage.end → LastBy before table stage [] next → ⊥
    never_of_single_stage before table stage None e k = never table stage e k
    never_of_single_stage before table stage (Some n) e k = k

    later_last : (before : List Link) (table : Link) (stage : Stage) (start : Board) (mid : Input)
        (stages : List Stage) (left : Input) → (stages ≡ [] → ⊥) → (next : Option (ℕ × Link))
        → ((n : ℕ × Link) → IsJourney opponent side (take n.0 before) n.1 (Behind n.0)
        (after_plies start stage.plies) mid stages left → AtLast P (take n.0 before) n.1 stages → ⊥)
        → MatchOption next ((stages ≡ []) × (left ≡ mid))
        (λ n. IsJourney opponent side (take n.0 before) n.1 (Behind n.0)
        (after_plies start stage.plies) mid stages left)
        → LastBy before table stage stages next → ⊥
    later_last before table stage start mid stages left some None later j k = some j.0
    later_last before table stage start mid stages left some (Some n) later j k = later n j k

    never_last : (before : List Link) (table : Link) (at : Place) (start : Board) (input : Input)
        (stages : List Stage) (left : Input)
        → IsJourney opponent side before table at start input stages left → (place : Place)
        → Arrives side stages place answer → AtLast P before table stages → ⊥
    never_last before table at start input [] left j place h k = h
    never_last before table at start input (stage ∷ []) left j place h k =
        never_of_single_stage before table stage
        (onward before table stage.start stage.plies stage.end) h.1 k
    never_last before table at start input (stage ∷ next ∷ stages) left j place h k =
        later_last before table stage start j.0 (next ∷ stages) left (λ e. cc)
        (onward before table start stage.plies stage.end)
        (λ n f m. never_last (take n.0 before) n.1 (Behind n.0) (after_plies start stage.plies) j.0
        (next ∷ stages) left f place h m)
        j.2
        (subst (λ (b : Board). LastBy before table stage (next ∷ stages)
        (onward before table b stage.plies stage.end)) j.1.from k)

-- only a session comes to a limit
limit_session : (opponent : Opponent) (side : Colour) (before : List Link) (table : Link)
    (at : Place) (start : Board) (input : Input) (stages : List Stage) (left : Input)
    → IsJourney opponent side before table at start input stages left → (which : PlayLimit)
    (place : Place) → Arrives side stages place (Err (plays.Limit which))
    → opponent ≡ opponents.Input
limit_session opponents.Codes side before table at start input stages left j which place h =
    absurd (never_limited side which before table at start input stages left j place h)
limit_session opponents.Input side before table at start input stages left j which place h = refl

-- what an answer means, whoever the player is
pub record MeansSo (player : Player) (table : List ℕ) (behind : List (List ℕ)) (p : Board)
    (files : Files) (heard : List ℕ) (a : Answer) : Type 0 where
  pub same : a.files ≡ files
  pub few : a.taken ≤ length heard
  pub says : MeansStatus player table behind p files heard a a.status

module _ (laws : JourneyLaws) (player : Player) (table : List ℕ) (behind : List (List ℕ))
    (p : Board) (files : Files) (heard : List ℕ) (a : Answer) where
  -- an answer that takes nothing
  means_said : (status : Status) (text : List ℕ) → a ≡ says status text files
      → MeansStatus player table behind p files heard a status
      → MeansSo player table behind p files heard a
  means_said status text e is = record {
    same = ap (λ (x : Answer). x.files) e;
    few = (let none = ap (λ (x : Answer). x.taken) e in omega (arith, none));
    says = subst (λ (s : Status). MeansStatus player table behind p files heard a s)
        (sym (ap (λ (x : Answer). x.status) e)) is;
  }

  module _ (bytes : List ℕ) (contents : Contents) (there : files table ≡ Some bytes)
      (opens : opened own_format (Some bytes) ≡ Ok contents)
      (tables : List TableBytes) (all_open : opened_all (map files behind) ≡ Ok tables) where
    abbrev files_open : Opens table behind files
    files_open = record {
      bytes = bytes;
      contents = contents;
      open_file = record { there = there; opens = opens };
      tables = tables;
      all_open = all_open;
    }

    abbrev links : List Link
    links = map link_of tables

    abbrev own : Link
    own = own_table contents bytes

    module _ (inside : Member contents.rules.groups p)
        (h : IsPlayed player p contents bytes tables heard files a) where
      abbrev side : Colour
      side = player.side

      abbrev has : HasJourney player table behind p files heard
      has = record {
        files_open = files_open;
        inside = inside;
        stages = h.stages;
        left = h.left;
        journey = h.journey;
        legal = laws.moves player.opponent side links own Own p (first_input heard) h.stages h.left
            inside h.journey;
        games = laws.games player.opponent side links own Own p (first_input heard) h.stages h.left
            inside h.journey;
        few = subst (λ n. length h.stages ≤ 1 + n) (many_links tables)
            (laws.few player.opponent side links own Own p (first_input heard) h.stages h.left
            h.journey);
      }

      -- the code of the start in the table
      own_code : (code : ℕ) → start_code has ≡ code
          → slice_index (codes_of side own) (Num contents.rules.groups p) ≡ code
      own_code code e =
          ap (λ (l : List ℕ). slice_index l (Num contents.rules.groups p))
          (own_codes side contents bytes) ∙ e

      won_at_last : (n : ℕ) → start_code has ≡ code_of (Wins n)
          → AtLast (IsWonAt side) links own h.stages
      won_at_last n e =
          laws.won player.opponent side links own Own p (first_input heard) h.stages h.left n
          (own_sets tables) inside (own_code (2 + 2 * n) e) h.journey

      held_at_last : start_code has ≡ code_of Holds → AtLast (IsHeldAt side) links own h.stages
      held_at_last e =
          laws.held player.opponent side links own Own p (first_input heard) h.stages h.left
          (own_sets tables) inside (own_code 1 e) h.journey

      -- what the last stage says of the answer
      not_last : (answer : Result WayEnd PlayFault) (P : Link → Stage → Type 0)
          → ((t : Link) (stage : Stage) → answer ≡ told side stage.end → P t stage → ⊥)
          → Arrives side h.stages h.place answer → AtLast P links own h.stages → ⊥
      not_last answer P never arrives k =
          never_last player.opponent side answer P never links own Own p (first_input heard)
          h.stages h.left h.journey h.place arrives k

      -- exact tables are never wrong
      not_exact : (w : WrongEntry)
          → Arrives side h.stages h.place (Err (plays.Line (faults.Wrong w)))
          → AreExact links → KeepsTables (value_over (leans bytes) contents.rules (backs_of links)) contents bytes
          → ⊥
      not_exact w arrives exact keeps =
          not_last (Err (plays.Line (faults.Wrong w))) EndsRight
          (λ t stage e right. wrong_end side w stage.end e right) arrives
          (laws.right player.opponent side links own Own p (first_input heard) h.stages h.left
          (record {
            behind = exact;
            own = record { set = refl; lines = refl; white = keeps White; black = keeps Black };
          }) inside h.journey)

      means_status : (status : Status) → a.status ≡ status
          → MeansStatus player table behind p files heard a status
          → MeansSo player table behind p files heard a
      means_status status is says = record {
        same = ap (λ (x : Answer). x.files) h.told;
        few = (let taken = ap (λ (x : Answer). x.taken) h.told in omega (arith, taken));
        says = subst (λ (s : Status). MeansStatus player table behind p files heard a s) (sym is)
            says;
      }

      abbrev arrives_so : (answer : Result WayEnd PlayFault) → h.answer ≡ answer
          → ArrivesSo has a.text answer
      arrives_so answer is = record {
        place = h.place;
        arrives = subst (λ (r : Result WayEnd PlayFault). Arrives side h.stages h.place r) is
            h.arrives;
        told = ap (λ (x : Answer). x.text) h.told
            ∙ ap (λ (r : Result WayEnd PlayFault). played_text player h.stages h.place r) is;
      }

      status_so : (answer : Result WayEnd PlayFault) → h.answer ≡ answer
          → a.status ≡ answer_status answer
      status_so answer is =
          ap (λ (x : Answer). x.status) h.told
          ∙ ap (λ (r : Result WayEnd PlayFault). answer_status r) is

      by_fault : (fault : PlayFault) → h.answer ≡ Err fault → IsTold fault
          → MeansSo player table behind p files heard a
      by_fault fault is (wrong w) =
          let so = arrives_so (Err fault) is in
          means_status statuses.Wrong (status_so (Err fault) is)
          (record { has = has; wrong = w; arrives = so; not_exact = not_exact w so.arrives })
      by_fault fault is no_bound =
          let so = arrives_so (Err fault) is in
          means_status statuses.Outside (status_so (Err fault) is)
          (inr (record {
            has = has;
            arrives = so;
            no_win = λ n e. not_last (Err fault) (IsWonAt side)
                (λ t stage is_end k. no_bound_won side t (after_plies stage.start stage.plies)
                stage.end is_end k) so.arrives (won_at_last n e);
            no_hold = λ e. not_last (Err fault) (IsHeldAt side)
                (λ t stage is_end k. no_bound_held side t (after_plies stage.start stage.plies)
                stage.end is_end k) so.arrives (held_at_last e);
          }))
      by_fault fault is (limit which) =
          let so = arrives_so (Err fault) is in
          means_status statuses.Limit (status_so (Err fault) is)
          (record {
            has = has;
            limit = which;
            arrives = so;
            session = limit_session player.opponent side links own Own p (first_input heard)
                h.stages h.left h.journey which h.place so.arrives;
          })

      by_answer : (answer : Result WayEnd PlayFault) → h.answer ≡ answer
          → MeansSo player table behind p files heard a
      by_answer (Ok last) is =
          means_status statuses.Success (status_so (Ok last) is)
          (record {
            has = has;
            last = last;
            arrives = arrives_so (Ok last) is;
            win = won_at_last;
            hold = held_at_last;
            where_exact = λ keeps. bound_kept
                (value_over (leans bytes) contents.rules (backs_of links)) contents
                bytes keeps side p inside;
            true_exits = λ exact own lines. exits_so (leans bytes) contents.rules links exact lines own;
          })
      by_answer (Err fault) is =
          by_fault fault is
          (is_told side h.stages h.place fault
          (subst (λ (r : Result WayEnd PlayFault). Arrives side h.stages h.place r) is h.arrives))

      pub played_means : MeansSo player table behind p files heard a
      played_means = by_answer h.answer refl

    by_member : (b : Bool) → is_member contents.rules.groups p ≡ b
        → MatchBool b (IsPlayed player p contents bytes tables heard files a)
        (a ≡ says (status_of refusals.Outside) (refusal_line refusals.Outside) files)
        → MeansSo player table behind p files heard a
    by_member true e h = played_means (member_of contents.rules.groups p e) h
    by_member false e h =
        means_said statuses.Outside (refusal_line refusals.Outside) h
        (inl (record {
          files_open = files_open;
          outside = λ member.
              let no : false ≡ true = sym e ∙ of_member contents.rules.groups p member in cc;
          told = ap (λ (x : Answer). x.text) h;
        }))

  by_behind : (bytes : List ℕ) (contents : Contents) → files table ≡ Some bytes
      → opened own_format (Some bytes) ≡ Ok contents
      → (y : Result (List TableBytes) (ℕ × TableFault)) → opened_all (map files behind) ≡ y
      → IsPlayedOver player p contents bytes y heard files a
      → MeansSo player table behind p files heard a
  by_behind bytes contents there opens (Ok tables) are h =
      by_member bytes contents there opens tables are (is_member contents.rules.groups p) refl h
  by_behind bytes contents there opens (Err refused) are told_so =
      let refuses = of_back (record {
        opens = (contents, ap (opened own_format) there ∙ opens);
        place = refused.0;
        fault = refused.1;
        refused = are;
        told = told_so;
      }) in
      means_said (table_status refused.1) (back_line refused.0 (Refused refused.1)) told_so
      (by_table_status (λ s. MeansStatus player table behind p files heard a s) refused.1 refuses
      refuses)

  by_held : (held : Option (List ℕ)) → files table ≡ held → (contents : Contents)
      → opened own_format held ≡ Ok contents
      → IsPlayedOver player p contents (unwrap_or held []) (opened_all (map files behind)) heard
      files a → MeansSo player table behind p files heard a
  by_held None there contents opens h =
      absurd (result_is_not_both _ contents table_faults.Missing opens
      (opened_missing own_format))
  by_held (Some bytes) there contents opens h =
      by_behind bytes contents there opens (opened_all (map files behind)) refl h

  by_opening : (x : Result Contents TableFault) → opened own_format (files table) ≡ x
      → IsPlayedBy player p x (unwrap_or (files table) []) (opened_all (map files behind)) heard
      files a → MeansSo player table behind p files heard a
  by_opening (Ok contents) opens h = by_held (files table) refl contents opens h
  by_opening (Err fault) opens told_so =
      let refuses = of_table (record { fault = fault; refused = opens; told = told_so }) in
      means_said (table_status fault) (refusal_line (refusals.Table fault)) told_so
      (by_table_status (λ s. MeansStatus player table behind p files heard a s) fault refuses
      refuses)

  pub means_at : IsPlayedAt player table behind p heard files a
      → MeansSo player table behind p files heard a
  means_at h = by_opening (opened own_format (files table)) refl h
