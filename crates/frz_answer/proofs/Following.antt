-- A command that is a stage of another, behind lines that were written and input that was taken.
use Rattle.std.proofs.Common.{◌≡◌, inl, inr, sym, ap, subst, ◌∙◌, ℕ, ◌+◌, List, [], ◌∷◌, ◌++◌, take, drop, length, true, false, IsTrue, Option, Some, None, arith, append_assoc, append-nil}
use Rattle.std.specs.Prelude.{IfSome}
use Rattle.std.specs.Option.{option_map}
use Rattle.std.proofs.Math.Seq.{drop-append_seam}
use Rattle.std.proofs.lemmas.List.{take-append-drop}
use Rattle.std.specs.Io.KnownBytes.{append_known}
use Rattle.frz_store.specs.Bytes.{MayBeHeld}
use Rattle.frz_store.specs.Files.{Files}
use Rattle.frz_answer.specs.declared.end.End.{End}
use Rattle.frz_answer.specs.declared.end.End.TheVariants.{Done, SinkFault, Stopped}
use Rattle.frz_answer.specs.World.{World, Agrees, Came, spent}
use Rattle.frz_answer.specs.Answers.{Answer, behind, IsLines, NoMore}
use Rattle.frz_answer.specs.Jobs.{Job, Never}
use Rattle.frz_answer.specs.Ends.{EndsInLines, Leaves, Ran}
use Rattle.frz_answer.proofs.Ending.{Found}
use Rattle.frz_answer.proofs.Stages.{IsStage, no_more_true, ends_later, only_later, room_later, part_later}
use Rattle.frz_answer.proofs.Telling.{append_twice, drop_twice}
use Rattle.frz_answer.proofs.Worlds.{later_on, unwritten_on}

-- lines behind lines are lines
pub lines_behind : (xs ys : List ℕ) → IsLines xs → IsLines ys → IsLines (xs ++ ys)
lines_behind xs ys h (inl e) = subst IsLines
    (sym (ap (λ (l : List ℕ). xs ++ l) e ∙ append-nil xs)) h
lines_behind xs ys h (inr k) =
    inr (xs ++ k.0, ap (λ (l : List ℕ). xs ++ l) k.1 ∙ sym (append_assoc xs k.0 (10 ∷ [])))

-- what the stage is to find: the whole's answers are the stage's over the same files and the rest
-- of the input, behind what came before
pub record Follows (part whole : Job) (text bytes : List ℕ) (files : Files) (input : List ℕ)
    (old mid new : World) : Type 0 where
  pub found : Found whole files input old
  pub rest : List ℕ
  pub split : bytes ++ rest ≡ found.input
  pub answers : (m : Files) (i : List ℕ) (a : Answer) → Agrees mid m i
      → (part.needs.reads ≡ Never → m ≡ found.files) → (part.needs.input ≡ false → i ≡ rest)
      → part.answers m i a → whole.answers m (bytes ++ i) (behind text (length bytes) a)
  pub costs : (m : Files) (i : List ℕ) (a : Answer) → Agrees mid m i
      → (part.needs.reads ≡ Never → m ≡ found.files) → (part.needs.input ≡ false → i ≡ rest)
      → part.answers m i a → part.costs m i a (spent mid) (spent new)
      → whole.costs m (bytes ++ i) (behind text (length bytes) a) (spent old) (spent new)

-- what is left behind the bytes, where it is told, is the rest
rest_told : (bytes rest : List ℕ) (old mid : Option (List ℕ))
    → mid ≡ option_map (drop (length bytes)) old → IfSome old (λ told. told ≡ bytes ++ rest)
    → IfSome mid (λ told. told ≡ rest)
rest_told bytes rest None mid e h =
    subst (λ (o : Option (List ℕ)). IfSome o (λ told. told ≡ rest)) (sym e) tt
rest_told bytes rest (Some left) mid e h =
    subst (λ (o : Option (List ℕ)). IfSome o (λ told. told ≡ rest)) (sym e)
    (ap (drop (length bytes)) h ∙ drop-append_seam bytes rest)

-- and the bytes with what was left behind them are what was told
all_told : (bytes rest : List ℕ) (old mid : Option (List ℕ))
    → mid ≡ option_map (drop (length bytes)) old
    → IfSome old (λ left. take (length bytes) left ≡ bytes)
    → IfSome mid (λ told. told ≡ rest) → IfSome old (λ told. told ≡ bytes ++ rest)
all_told bytes rest None mid e took h = tt
all_told bytes rest (Some left) mid e took h =
    let behind_them : drop (length bytes) left ≡ rest = subst
    (λ (o : Option (List ℕ)). IfSome o (λ told. told ≡ rest)) e h in
    sym (take-append-drop (length bytes) left) ∙ ap (λ (l : List ℕ). l ++ drop (length bytes) left)
    took ∙ ap (λ (l : List ℕ). bytes ++ l) behind_them

module _ (part whole : Job) (text bytes : List ℕ) (old mid new : World)
    (came : Came text bytes old mid) (are : IsLines text) (speaks : IsTrue whole.speaks)
    (stage : IsStage part whole) where
  more_text : (more : List ℕ) → new.out.taken ≡ append_known mid.out.taken more
      → new.out.taken ≡ append_known old.out.taken (text ++ more)
  more_text more e =
      e ∙ ap (λ o. append_known o more) came.taken ∙ append_twice old.out.taken text more

  more_lines : (lines : List ℕ) → new.out.taken ≡ append_known mid.out.taken (lines ++ [])
      → new.out.taken ≡ append_known old.out.taken ((text ++ lines) ++ [])
  more_lines lines e =
      more_text (lines ++ []) e ∙ ap (append_known old.out.taken) (sym (append_assoc text lines []))

  lines_too : (end : End) → EndsInLines part.speaks end mid.out new.out
      → EndsInLines whole.speaks end old.out new.out
  lines_too (Done s) h = tt
  lines_too SinkFault h = tt
  lines_too (Stopped fault) h = (
    record {
      lines = text ++ h.0.lines;
      whole = lines_behind text h.0.lines are h.0.whole;
      text = more_lines h.0.lines h.0.text;
    },
    λ quiet. let no : true ≡ false = sym speaks ∙ quiet in cc,
  )

  no_more_too : (a : Answer) → NoMore a mid new → NoMore (behind text (length bytes) a) old new
  no_more_too a h = record {
    files = λ name. part_later part whole old mid new came.later came.fine came.store stage a name
        (h.files name);
    left = (
      length bytes + h.left.0,
      (let few = h.left.1 in omega (arith, few)),
      h.left.2 ∙ ap (option_map (drop h.left.0)) came.left ∙ drop_twice old.input.left
          (length bytes) h.left.0,
    );
  }

  leaves_too : (end : End) (a : Answer) → Leaves end a mid new
      → Leaves end (behind text (length bytes) a) old new
  leaves_too (Done s) a h = (
    h.0,
    record {
      files = h.1.files ∙ ap (option_map (λ _. a.files)) came.store.files;
      left = h.1.left ∙ ap (option_map (drop a.taken)) came.left ∙ drop_twice old.input.left
          (length bytes) a.taken;
      text = more_text a.text h.1.text;
    },
  )
  leaves_too SinkFault a h = record {
    written = text ++ h.written;
    rest = h.rest;
    begins = append_assoc text h.written h.rest ∙ ap (λ (l : List ℕ). text ++ l) h.begins;
    text = more_text h.written h.text;
    others = no_more_too a h.others;
  }
  leaves_too (Stopped fault) a h = record {
    lines = text ++ h.lines;
    rest = h.rest;
    whole = lines_behind text h.lines are h.whole;
    begins = append_assoc text h.lines h.rest ∙ ap (λ (l : List ℕ). text ++ l) h.begins;
    more = h.more;
    text = more_lines h.lines h.text;
    others = no_more_too a h.others;
  }

  untaken_on : (given rest found free : List ℕ) → (whole.needs.input ≡ false → bytes ≡ [])
      → (part.needs.input ≡ false → given ≡ rest) → bytes ++ rest ≡ found
      → (whole.needs.input ≡ false → found ≡ free) → whole.needs.input ≡ false
      → bytes ++ given ≡ free
  untaken_on given rest found free none same split untaken e =
      ap (λ (l : List ℕ). bytes ++ l)
      (same (no_more_true part.needs.input whole.needs.input stage.input e)) ∙ split ∙ untaken e

  -- the stage was done, behind these lines and these bytes of the input
  pub follows : (end : End) → (whole.needs.input ≡ false → bytes ≡ [])
      → ((files : Files) (input : List ℕ) → Agrees old files input
      → Follows part whole text bytes files input old mid new)
      → Ran part end mid new → Ran whole end old new
  follows end none follow ran = record {
    later = later_on old mid new came.later ran.later;
    may = ends_later part whole old mid new came.later came.fine came.store stage end ran.may;
    lines = lines_too end ran.lines;
    only = only_later part whole old mid new came.later came.fine came.store stage ran.only;
    unwritten =
        λ written. unwritten_on old.store mid.store new.store came.store (ran.unwritten written);
    room = room_later part whole old mid new came.later came.fine came.store stage end ran.room;
    answered = λ files input agrees.
        let here = follow files input agrees in
        let found = here.found in
        let fits : Agrees mid found.files here.rest = record {
          store = subst (λ (o : Option Files). MayBeHeld o found.files)
              (sym came.store.files) found.agrees.store;
          source = rest_told bytes here.rest old.input.left mid.input.left came.left
              (subst (λ (l : List ℕ). IfSome old.input.left (λ told. told ≡ l)) (sym here.split)
              found.agrees.source);
        } in
        let given = ran.answered found.files here.rest fits in record {
          files = given.files;
          input = bytes ++ given.input;
          agrees = record {
            store = subst (λ (o : Option Files). MayBeHeld o given.files)
                came.store.files given.agrees.store;
            source = all_told bytes given.input old.input.left mid.input.left came.left came.took
                given.agrees.source;
          };
          free = λ e. given.free (stage.reads e) ∙ found.free e;
          untaken = untaken_on given.input here.rest found.input input none given.untaken here.split
              found.untaken;
          a = behind text (length bytes) given.a;
          answer = here.answers given.files given.input given.a given.agrees given.free
              given.untaken given.answer;
          leaves = leaves_too end given.a given.leaves;
          costs = here.costs given.files given.input given.a given.agrees given.free given.untaken
              given.answer given.costs;
        };
  }
