-- A command that writes lines, and may take input, before its end is known.
use Rattle.std.proofs.Common.{◌≡◌, ◌≤◌, inl, refl, sym, ap, subst, ◌∙◌, ℕ, List, [], ◌++◌, take, drop, length, true, false, IsTrue, Option, Some, None, append_assoc}
use Rattle.std.specs.Prelude.{⊤}
use Rattle.std.specs.Option.{option_map}
use Rattle.std.proofs.lemmas.List.{take-append-drop}
use Rattle.frz_store.specs.Files.{Files}
use Rattle.frz_store.specs.Told.{SinkTold, Unwritten}
use Rattle.frz_answer.specs.declared.end.End.{End}
use Rattle.frz_answer.specs.declared.end.End.TheVariants.{SinkFault}
use Rattle.frz_answer.specs.Statuses.{subset}
use Rattle.frz_answer.specs.Texts.{TookText, FailedWithin}
use Rattle.frz_answer.specs.World.{World, Agrees, Came, Later, spent}
use Rattle.frz_answer.specs.Answers.{Answer, behind, held, IsLines}
use Rattle.frz_answer.specs.Jobs.{Job}
use Rattle.frz_answer.specs.Ends.{WritesOnly, Ran}
use Rattle.frz_answer.proofs.Lemmas.{Found, answered_over, as_given, follows, text_came}
use Rattle.frz_commands_line.proofs.Stages.{is_part}

-- what is left to do of a job behind this text and these bytes
abbrev pub rest_after : Job → List ℕ → List ℕ → Job
rest_after job text bytes = record job {
  answers = λ files input a. job.answers files (bytes ++ input) (behind text (length bytes) a);
  means = λ _ _ _. ⊤;
  costs = λ files input a. job.costs files (bytes ++ input) (behind text (length bytes) a);
}

-- files and an input that begins with these bytes
pub record Splits (job : Job) (bytes : List ℕ) (files : Files) (input : List ℕ)
    (old : World) : Type 0 where
  pub found : Found job files input old
  pub rest : List ℕ
  pub split : bytes ++ rest ≡ found.input

-- the rest was done behind these lines and bytes
pub after_lines : (job : Job) (text bytes : List ℕ) (end : End) (old mid new : World)
    → Came text bytes old mid → IsLines text → IsTrue job.speaks
    → subset job.statuses job.statuses ≡ true → (job.needs.input ≡ false → bytes ≡ [])
    → ((files : Files) (input : List ℕ) → Agrees old files input
    → Splits job bytes files input old)
    → ((m : Files) (i : List ℕ) (a : Answer) → (rest_after job text bytes).costs m i a (spent mid)
    (spent new) → job.costs m (bytes ++ i) (behind text (length bytes) a) (spent old)
    (spent new))
    → Ran (rest_after job text bytes) end mid new → Ran job end old new
after_lines job text bytes end old mid new came lines speaks all none splits costs ran =
    follows (rest_after job text bytes) job text bytes old mid new came lines speaks
    (is_part job job.statuses all) end none
    (λ files input agrees.
    let here = splits files input agrees in record {
      found = here.found;
      rest = here.rest;
      split = here.split;
      answers = λ m i a fits free untaken answer. answer;
      costs = λ m i a fits free untaken answer spent. costs m i a spent;
    })
    ran

-- the rest was done behind these lines, with nothing taken
pub behind_lines : (job : Job) (text : List ℕ) (end : End) (old : World) (out : SinkTold)
    (new : World) → TookText text old.out out → IsLines text
    → IsTrue job.speaks → subset job.statuses job.statuses ≡ true
    → Ran (rest_after job text []) end (record old { out = out }) new → Ran job end old new
behind_lines job text end old out new took lines speaks all ran =
    after_lines job text [] end old (record old { out = out }) new (text_came text old out took)
    lines speaks all (λ _. refl)
    (λ files input agrees.
    record { found = as_given job files input old agrees; rest = input; split = refl })
    (λ m i a costs. costs) ran

-- an answer of which these lines and bytes are the first
pub record Beginning (job : Job) (text bytes : List ℕ) (files : Files) (input : List ℕ)
    (old mid : World) : Type 0 where
  pub found : Found job files input old
  pub a : Answer
  pub answer : job.answers found.files found.input a
  pub rest : List ℕ
  pub begins : text ++ rest ≡ a.text
  pub few : length bytes ≤ a.taken
  pub costs : job.costs found.files found.input a (spent old) (spent mid)

-- the sink failed within the lines
pub cut_within : (job : Job) (text bytes : List ℕ) (old mid : World) (out : SinkTold)
    → job.writes ≡ None → Later old mid → Unwritten old.store mid.store
    → mid.input.left ≡ option_map (drop (length bytes)) old.input.left
    → FailedWithin text old.out out
    → ((files : Files) (input : List ℕ) → Agrees old files input
    → Beginning job text bytes files input old mid)
    → Ran job SinkFault old (record mid { out = out })
cut_within job text bytes old mid out none later same left failed begun = record {
  later = record {
    store = later.store;
    input = later.input;
    out = failed.later;
    steps = later.steps;
  };
  may = failed.rose;
  lines = tt;
  only = only_quiet job.writes none;
  unwritten = λ _. same;
  room = tt;
  answered = λ files input agrees.
      let here = begun files input agrees in
      let k = failed.taken.0 in
      answered_over here.found here.a here.answer
      (record {
        written = take k text;
        rest = drop k text ++ here.rest;
        begins = sym (append_assoc (take k text) (drop k text) here.rest)
            ∙ ap (λ (l : List ℕ). l ++ here.rest) (take-append-drop k text) ∙ here.begins;
        text = failed.taken.1;
        others = record {
          files = λ name. inl (ap (λ (o : Option Files). held o name) same.files);
          left = (length bytes, here.few, left);
        };
      })
      here.costs;
} where
  only_quiet : (writes : Option (List ℕ)) → writes ≡ None → WritesOnly writes old.store mid.store
  only_quiet None e = same
  only_quiet (Some name) e = cc

-- a fault ended the command, and nothing more was written
pub ended_as : (job : Job) (old played : World) (taken : SinkTold) (end wanted : End)
    → (end ≡ wanted) × (taken ≡ played.out) → Ran job wanted old played
    → Ran job end old (record played { out = taken })
ended_as job old played taken end wanted ends ran =
    subst (λ (o : SinkTold). Ran job end old (record played { out = o })) (sym ends.1)
    (subst (λ (e : End). Ran job e old played) (sym ends.0) ran)
