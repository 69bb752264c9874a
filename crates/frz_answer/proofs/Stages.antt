-- A command that is a stage of another.
use Rattle.std.proofs.Common.{◌≡◌, refl, sym, ap, subst, ◌∙◌, ℕ, List, [], ◌∷◌, ◌++◌, drop, Bool, true, false, ◌||◌, ◌==◌, IsTrue, Option}
use Rattle.std.specs.Option.{option_map}
use Rattle.std.proofs.lemmas.Bool.{eqb-true, and_parts}
use Rattle.std.specs.Io.KnownBytes.{append_known}
use Rattle.frz_store.specs.Files.{Files}
use Rattle.frz_store.specs.Told.{Unwritten}
use Rattle.frz_answer.specs.declared.status.Status.{Status}
use Rattle.frz_answer.specs.declared.fault.Fault.{Fault}
use Rattle.frz_answer.specs.declared.fault.Fault.TheVariants as faults
use Rattle.frz_answer.specs.declared.end.End.{End}
use Rattle.frz_answer.specs.declared.end.End.TheVariants.{Done, SinkFault, Stopped}
use Rattle.frz_answer.specs.Statuses.{code_of, has_code, subset, OneOf}
use Rattle.frz_answer.specs.World.{World, Agrees, Later, Quiet, Fine, spent}
use Rattle.frz_answer.specs.Answers.{Answer, IsPart, NoMore}
use Rattle.frz_answer.specs.Jobs.{Job, Never}
use Rattle.frz_answer.specs.Ends.{MayMeet, MayEnd, EndsInLines, WritesOnly, LeavesNoRoom, Leaves, Ran}
use Rattle.frz_answer.proofs.Ending.{Found}
use Rattle.frz_answer.proofs.Worlds.{later_on, fine_on, unwritten_on, only_unwritten, only_on, risen_later, agrees_on}

-- one that is among the first is among the second
pub one_of_more : (s : Status) (xs ys : List Status) → subset xs ys ≡ true → OneOf s xs → OneOf s ys
one_of_more s [] ys all h = cc
one_of_more s (x ∷ xs) ys all h =
    by_first (code_of s == code_of x) refl (one_of_more s xs ys rest) h
  where
    rest : subset xs ys ≡ true
    rest = (and_parts (has_code ys (code_of x)) (subset xs ys) all).1

    by_first : (b : Bool) → (code_of s == code_of x) ≡ b → (OneOf s xs → OneOf s ys)
        → (b || has_code xs (code_of s)) ≡ true → OneOf s ys
    by_first true e more h = ap (has_code ys) (eqb-true (code_of s) (code_of x) e)
        ∙ (and_parts (has_code ys (code_of x)) (subset xs ys) all).0
    by_first false e more h = more h

-- a job that is a stage of another
pub record IsStage (part whole : Job) : Type 0 where
  pub statuses : subset part.statuses whole.statuses ≡ true
  pub store : IsTrue part.needs.store → IsTrue whole.needs.store
  pub reads : whole.needs.reads ≡ Never → part.needs.reads ≡ Never
  pub input : IsTrue part.needs.input → IsTrue whole.needs.input
  pub memory : IsTrue part.needs.memory → IsTrue whole.needs.memory
  pub speaks : whole.speaks ≡ false → part.speaks ≡ false
  pub writes : part.writes ≡ whole.writes

pub no_more_true : (b c : Bool) → (IsTrue b → IsTrue c) → c ≡ false → b ≡ false
no_more_true false c h e = refl
no_more_true true false h e = let no : false ≡ true = h refl in cc
no_more_true true true h e = cc

-- what the stage is to find: the whole's answers are the stage's over the same files and input
pub record Stages (part whole : Job) (files : Files) (input : List ℕ)
    (old mid new : World) : Type 0 where
  pub found : Found whole files input old
  pub answers : (m : Files) (i : List ℕ) (a : Answer) → Agrees old m i
      → (part.needs.reads ≡ Never → m ≡ found.files) → (part.needs.input ≡ false → i ≡ found.input)
      → part.answers m i a → whole.answers m i a
  pub costs : (m : Files) (i : List ℕ) (a : Answer) → Agrees old m i
      → (part.needs.reads ≡ Never → m ≡ found.files) → (part.needs.input ≡ false → i ≡ found.input)
      → part.answers m i a → part.costs m i a (spent mid) (spent new)
      → whole.costs m i a (spent old) (spent new)

-- what a stage may do, the whole may do, where nothing was
-- written to the store before and no object failed
module _ (part whole : Job) (old mid new : World) (later : Later old mid) (fine : Fine old mid)
    (same : Unwritten old.store mid.store) (stage : IsStage part whole) where
  meets : (fault : Fault) → MayMeet part fault mid new → MayMeet whole fault old new
  meets faults.Store h = (
    stage.store h.0,
    risen_later old.store.faults mid.store.faults new.store.faults
        later.store.faults h.1,
  )
  meets faults.Input h = (
    stage.input h.0,
    risen_later old.input.faults mid.input.faults new.input.faults later.input
        h.1,
  )
  meets faults.NoMemory h = stage.memory h

  pub ends_later : (end : End) → MayEnd part end mid new → MayEnd whole end old new
  ends_later (Done s) h =
      (one_of_more s part.statuses whole.statuses stage.statuses h.0, fine_on old mid new fine h.1)
  ends_later SinkFault h = risen_later old.out.faults mid.out.faults new.out.faults later.out h
  ends_later (Stopped fault) h = meets fault h

  pub only_later : WritesOnly part.writes mid.store new.store
      → WritesOnly whole.writes old.store new.store
  only_later h =
      only_on whole.writes old.store mid.store new.store
      (only_unwritten whole.writes old.store mid.store same)
      (subst (λ (w : Option (List ℕ)). WritesOnly w mid.store new.store) stage.writes h)

  pub room_later : (end : End) → LeavesNoRoom end mid.store new.store
      → LeavesNoRoom end old.store new.store
  room_later (Done s) h = λ none. h (same.room ∙ none)
  room_later SinkFault h = tt
  room_later (Stopped fault) h = tt

  pub part_later : (a : Answer) (name : List ℕ) → IsPart a name mid.store.files new.store.files
      → IsPart a name old.store.files new.store.files
  part_later a name h = subst (λ (o : Option Files). IsPart a name o new.store.files) same.files h

module _ (part whole : Job) (old mid new : World) (quiet : Quiet old mid) (fine : Fine old mid)
    (stage : IsStage part whole) where
  same_text : (text : List ℕ) → new.out.taken ≡ append_known mid.out.taken text
      → new.out.taken ≡ append_known old.out.taken text
  same_text text e = e ∙ ap (λ o. append_known o text) quiet.taken

  lines_too : (end : End) → EndsInLines part.speaks end mid.out new.out
      → EndsInLines whole.speaks end old.out new.out
  lines_too (Done s) h = tt
  lines_too SinkFault h = tt
  lines_too (Stopped fault) h = (
    record { lines = h.0.lines; whole = h.0.whole; text = same_text (h.0.lines ++ []) h.0.text },
    λ quiet_whole. h.1 (stage.speaks quiet_whole) ∙ quiet.taken,
  )

  no_more_too : (a : Answer) → NoMore a mid new → NoMore a old new
  no_more_too a h = record {
    files = λ name. part_later part whole old mid new quiet.later fine quiet.store stage a name
        (h.files name);
    left = (h.left.0, h.left.1, h.left.2 ∙ ap (option_map (drop h.left.0)) quiet.left);
  }

  leaves_too : (end : End) (a : Answer) → Leaves end a mid new → Leaves end a old new
  leaves_too (Done s) a h = (
    h.0,
    record {
      files = h.1.files ∙ ap (option_map (λ _. a.files)) quiet.store.files;
      left = h.1.left ∙ ap (option_map (drop a.taken)) quiet.left;
      text = same_text a.text h.1.text;
    },
  )
  leaves_too SinkFault a h =
      record {
        written = h.written;
        rest = h.rest;
        begins = h.begins;
        text = same_text h.written h.text;
        others = no_more_too a h.others;
      }
  leaves_too (Stopped fault) a h = record {
    lines = h.lines;
    rest = h.rest;
    whole = h.whole;
    begins = h.begins;
    more = h.more;
    text = same_text (h.lines ++ []) h.text;
    others = no_more_too a h.others;
  }

  -- the stage was done, after nothing but calls and steps
  pub through : (end : End)
      → ((files : Files) (input : List ℕ) → Agrees old files input
      → Stages part whole files input old mid new)
      → Ran part end mid new → Ran whole end old new
  through end stages ran = record {
    later = later_on old mid new quiet.later ran.later;
    may = ends_later part whole old mid new quiet.later fine quiet.store stage end ran.may;
    lines = lines_too end ran.lines;
    only = only_later part whole old mid new quiet.later fine quiet.store stage ran.only;
    unwritten = λ none. unwritten_on old.store mid.store new.store quiet.store (ran.unwritten none);
    room = room_later part whole old mid new quiet.later fine quiet.store stage end ran.room;
    answered = λ files input agrees.
        let here = stages files input agrees in
        let found = here.found in
        let given = ran.answered found.files found.input
        (agrees_on old mid found.files found.input quiet.store.files quiet.left found.agrees) in
        let fits = agrees_on mid old given.files given.input (sym quiet.store.files)
        (sym quiet.left) given.agrees in record {
          files = given.files;
          input = given.input;
          agrees = fits;
          free = λ e. given.free (stage.reads e) ∙ found.free e;
          untaken = λ e. given.untaken
              (no_more_true part.needs.input whole.needs.input stage.input e) ∙ found.untaken e;
          a = given.a;
          answer = here.answers given.files given.input given.a fits given.free given.untaken
              given.answer;
          leaves = leaves_too end given.a given.leaves;
          costs = here.costs given.files given.input given.a fits given.free given.untaken
              given.answer given.costs;
        };
  }
