-- What is told of a table that `build` or `chain` left.
use Rattle.std.proofs.Common.{◌≡◌, subst, ℕ, List, [], true, false}
use Rattle.std.specs.Str.{bytes_eq}
use Rattle.frz_exits.specs.Books.{value_by}
use Rattle.frz_index.specs.Members.{Member}
use Rattle.frz_game.specs.TextsByMen.{are_true_by_men}
use Rattle.frz_game.specs.Values.{AreTrueExits}
use Rattle.frz_store.specs.Files.{Files}
use Rattle.frz_table.specs.Opening.{Contents}
use Rattle.frz_answer.specs.declared.status.Status.{Status}
use Rattle.frz_answer.specs.declared.status.Status.TheVariants.{Success}
use Rattle.frz_answer.specs.Answers.{Answer}
use Rattle.frz_answer.specs.Lawful.{IsLawful}
use Rattle.frz_commands_ask.specs.Meaning.{TellsBounds}
use Rattle.frz_commands_chain.specs.Chaining.{chaining_at, is_named_twice}
use Rattle.frz_commands_chain.specs.CheckMeans.{checking_pair}
use Rattle.frz_commands_table.specs.BuildMeaning as builds
use Rattle.frz_commands_table.specs.BuildMeaning.{building_at, MakesTable, MeansBuild}
use Rattle.frz_commands_table.specs.CheckMeans.{checking_at}
use Rattle.frz_commands_table.proofs.Lemmas.{built_opens, headline_contents}
use Rattle.frz_freezer_top.specs.Commands.{job_of}
use Rattle.frz_freezer_top.specs.Calls.{build, chain, chaincheck, chainquery, check, query, Succeeds, TellsChainedBounds, TellsSolvedBounds, TellsTrueBounds}
use Rattle.frz_freezer_top.proofs.CallsInTurn.{chain_headline, chain_queried, check_headline, of_names, queried}

module _ (lawful : (later : ℕ → Files) (words : List (List ℕ))
    → IsLawful (job_of later words)) where
  -- what is built is accepted, by the law of the commands
  module _ (accepted : (rules table : List ℕ) (files : Files) (input more : List ℕ) (a b : Answer)
      → (building_at rules table).answers files input a → a.status ≡ Success
      → (checking_at table).answers a.files more b → b.status ≡ Success)
      (before : ℕ → Files) (rules table : List ℕ) (files : Files) (a : Answer)
      (built : Succeeds before (build rules table) files a) where
    building : (bytes_eq rules table ≡ false)
        × (building_at rules table).answers files built.input a
        × (building_at rules table).means files built.input a
    building = of_names files built.input a built.done (building_at rules table)
        (bytes_eq rules table) built.answer
        ((lawful before (build rules table)).means files built.input a built.bytes built.answer)

    made : MakesTable rules table files a
    made =
        let means : MeansBuild rules table files a = building.2 in
        subst (λ (s : Status). builds.MeansByStatus rules table files a s) built.done means.says

    pub checked_after : (later : ℕ → Files) (input : List ℕ) (b : Answer)
        → (job_of later (check table)).answers a.files input b → b.status ≡ Success
    checked_after later input b answer =
        accepted rules table files built.input input a b building.1 built.done answer

    pub queried_after : (later : ℕ → Files) (fen : List ℕ) (b : Answer)
        → Succeeds later (query table fen) a.files b → TellsTrueBounds table fen a.files b.text
    queried_after later fen b h =
        let one = (lawful later (check table)).one a.files [] in
        let exact = check_headline lawful later table a.files one.0 (record {
          bytes = h.bytes;
          input = [];
          answer = one.1;
          done = checked_after later [] one.0 one.1;
        }) in
        queried lawful later table a.files h.bytes exact b fen h

    pub solved_after : (later : ℕ → Files) (fen : List ℕ) (b : Answer)
        → Succeeds later (query table fen) a.files b → TellsSolvedBounds rules fen files b.text
    solved_after later fen b h =
        let t = queried_after later fen b h in
        let m = made in
        let same = headline_contents table a.files t.exact m.bytes
        (record { text = m.source; rules = m.lines }) (built_opens rules table files a m) in
        record {
          p = t.p;
          read = t.read;
          solved = record {
            source = m.source;
            there = m.there;
            lines = m.lines;
            accepted = m.accepted;
            inside = subst (λ (c : Contents). Member c.rules.groups t.p) same t.inside;
            tells = subst (λ (c : Contents). TellsBounds c.rules (value_by c.rules) t.p b.text) same
                t.tells;
            true_by_men = subst
                (λ (c : Contents). are_true_by_men c.rules ≡ true
                → AreTrueExits c.rules (value_by c.rules)) same t.exact.true_by_men;
          };
        }

  -- and so is what is chained
  module _ (accepted : (rules back table : List ℕ) (files : Files) (input more : List ℕ)
      (a b : Answer) → is_named_twice rules back table ≡ false
      → (chaining_at rules back table).answers files input a → a.status ≡ Success
      → (checking_pair table back).answers a.files more b → b.status ≡ Success)
      (before : ℕ → Files) (rules back table : List ℕ) (files : Files) (a : Answer)
      (chained : Succeeds before (chain rules back table) files a) where
    pub chain_checked_after : (later : ℕ → Files) (input : List ℕ) (b : Answer)
        → (job_of later (chaincheck table back)).answers a.files input b → b.status ≡ Success
    chain_checked_after later input b answer =
        let at = of_names files chained.input a chained.done
        (chaining_at rules back table) (is_named_twice rules back table) chained.answer
        ((lawful before (chain rules back table)).means files chained.input a chained.bytes
        chained.answer) in
        accepted rules back table files chained.input input a b at.0 at.1 chained.done answer

    pub chain_queried_after : (later : ℕ → Files) (fen : List ℕ) (b : Answer)
        → Succeeds later (chainquery table fen) a.files b
        → TellsChainedBounds table back fen a.files b.text
    chain_queried_after later fen b h =
        let one = (lawful later (chaincheck table back)).one a.files [] in
        let exact = chain_headline lawful later table back a.files one.0 (record {
          bytes = h.bytes;
          input = [];
          answer = one.1;
          done = chain_checked_after later [] one.0 one.1;
        }) in
        chain_queried lawful later table back fen a.files b exact h
