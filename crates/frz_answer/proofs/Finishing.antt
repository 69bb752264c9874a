-- What a whole call gives, from what its command has done and the line that names its fault.
use Rattle.std.proofs.Common.{◌≡◌, ◌≢◌, ◌⊎◌, inl, inr, refl, sym, ap, subst, ◌∙◌, ℕ, ◌≤◌, List, [], ◌++◌, take, Option, Some, None, Bool, true, false, IsTrue, ◌==◌, ◌||◌, if◌then◌else◌, arith, append-nil}
use Rattle.std.specs.Prelude.{IfSome}
use Rattle.std.specs.Option.{unwrap_or}
use Rattle.std.specs.Io.KnownBytes.{append_known}
use Rattle.frz_store.specs.Bytes.{HoldsBytes, MayBeHeld}
use Rattle.frz_store.specs.Files.{Files, no_files}
use Rattle.frz_answer.specs.declared.status.Status.{Status}
use Rattle.frz_answer.specs.declared.status.Status.TheVariants as statuses
use Rattle.frz_answer.specs.declared.fault.Fault.{Fault}
use Rattle.frz_answer.specs.declared.fault.Fault.TheVariants as faults
use Rattle.frz_answer.specs.declared.end.End.{End}
use Rattle.frz_answer.specs.declared.end.End.TheVariants.{Done, SinkFault, Stopped}
use Rattle.frz_answer.specs.Statuses.{code_of, fault_code, sink_code, fault_line}
use Rattle.frz_store.specs.Told.{SinkTold}
use Rattle.frz_answer.specs.World.{World, Agrees}
use Rattle.frz_answer.specs.Answers.{Answer, TookLines, NoMore, Begins}
use Rattle.frz_answer.specs.Jobs.{Job}
use Rattle.frz_answer.specs.Ends.{MayMeet, MayHaveWritten, LeavesNoRoom, Answered, Ran}
use Rattle.frz_answer.specs.Outcomes.{NamesFault, Gave, Finished, HasStatus, Answering, IsComplete, Whole, Halted, CutOff, Outcome}
use Rattle.frz_answer.proofs.Telling.{append_twice}
use Rattle.frz_answer.proofs.Worlds.{still_risen, risen_later}

-- the codes of statuses and of faults differ, and none is 9
abbrev stops : ℕ → Bool
stops n = (n == 8) || (n == 9) || (n == 10) || (n == 11)

own_goes : (s : Status) → stops (code_of s) ≡ false
own_goes statuses.Success = refl
own_goes statuses.Words = refl
own_goes statuses.Rules = refl
own_goes statuses.Fen = refl
own_goes statuses.Table = refl
own_goes statuses.Wrong = refl
own_goes statuses.Outside = refl
own_goes statuses.Missing = refl
own_goes statuses.Limit = refl
own_goes statuses.NoMove = refl

fault_stops : (fault : Fault) → stops (fault_code fault) ≡ true
fault_stops faults.Store = refl
fault_stops faults.Input = refl
fault_stops faults.NoMemory = refl

own_stops : {A : Type 0} (s : Status) (n : ℕ) → n ≡ code_of s → stops n ≡ true → A
own_stops s n e stop = let no : true ≡ false = sym stop ∙ ap stops e ∙ own_goes s in cc

own_fault : {A : Type 0} (s : Status) (fault : Fault) (n : ℕ) → n ≡ code_of s → n ≡ fault_code fault
    → A
own_fault s fault n e f = own_stops s n e (ap stops f ∙ fault_stops fault)

own_nine : {A : Type 0} (s : Status) (n : ℕ) → n ≡ code_of s → n ≡ sink_code → A
own_nine s n e f = own_stops s n e (ap stops f)

nine_fault : {A : Type 0} (fault : Fault) (n : ℕ) → n ≡ sink_code → n ≡ fault_code fault → A
nine_fault faults.Store n e f = let no : ◌≡◌ {A = ℕ} 9 8 = sym e ∙ f in cc
nine_fault faults.Input n e f = let no : ◌≡◌ {A = ℕ} 9 10 = sym e ∙ f in cc
nine_fault faults.NoMemory n e f = let no : ◌≡◌ {A = ℕ} 9 11 = sym e ∙ f in cc

abbrev fault_of : ℕ → Fault
fault_of n = if n == 8 then faults.Store else (if n == 10 then faults.Input else faults.NoMemory)

fault_back : (fault : Fault) → fault_of (fault_code fault) ≡ fault
fault_back faults.Store = refl
fault_back faults.Input = refl
fault_back faults.NoMemory = refl

one_fault : (f g : Fault) (n : ℕ) → n ≡ fault_code f → n ≡ fault_code g → f ≡ g
one_fault f g n e h = sym (fault_back f) ∙ ap fault_of (sym e ∙ h) ∙ fault_back g

text_on : (line lines : List ℕ) (old mid new : Option (List ℕ))
    → mid ≡ append_known old (lines ++ []) → new ≡ append_known mid line
    → new ≡ append_known old (lines ++ line)
text_on line lines old mid new h e =
    e ∙ ap (λ o. append_known o line) h ∙ append_twice old (lines ++ []) line
    ∙ ap (λ (l : List ℕ). append_known old (l ++ line)) (append-nil lines)

lines_on : (line : List ℕ) (old mid new : SinkTold) → TookLines [] old mid
    → new.taken ≡ append_known mid.taken line → TookLines line old new
lines_on line old mid new h e = record {
  lines = h.lines;
  whole = h.whole;
  text = text_on line h.lines old.taken mid.taken new.taken h.text e;
}

-- the ends at which something may have been written, by the status
written_own : (s : Status) (n : ℕ) → n ≡ code_of s → n ≢ code_of statuses.Success
    → MayHaveWritten (Done s) → ⊥
written_own statuses.Success n e other h = other e
written_own statuses.Words n e other h = h
written_own statuses.Rules n e other h = h
written_own statuses.Fen n e other h = h
written_own statuses.Table n e other h = h
written_own statuses.Wrong n e other h = h
written_own statuses.Outside n e other h = h
written_own statuses.Missing n e other h = h
written_own statuses.Limit n e other h = h
written_own statuses.NoMove n e other h = h

named_not : (fault : Fault) (n : ℕ) (old new : SinkTold) → NamesFault fault n old new
    → n ≢ fault_code faults.Store → n ≢ sink_code → MayHaveWritten (Stopped fault) → ⊥
named_not faults.Store n old new (inl h) not8 not9 w = not8 h.0
named_not faults.Store n old new (inr h) not8 not9 w = not9 h.0
named_not faults.Input n old new h not8 not9 w = w
named_not faults.NoMemory n old new h not8 not9 w = w

-- what is told agrees with itself
told_agrees : {A : Type 0} (o : Option A) (d : A) → IfSome o (λ m. m ≡ unwrap_or o d)
told_agrees None d = tt
told_agrees (Some x) d = refl

files_told : (o : Option Files) → MayBeHeld o (unwrap_or o no_files)
files_told None = λ name. tt
files_told (Some m) = refl

agrees_told : (w : World) → Agrees w (unwrap_or w.store.files no_files) (unwrap_or w.input.left [])
agrees_told w =
    record { store = files_told w.store.files; source = told_agrees w.input.left [] }

-- files that may be held are bytes, where those that the store tells are
held_are : (o : Option Files) (m : Files) → IfSome o HoldsBytes → MayBeHeld o m → HoldsBytes m
held_are None m are may = may
held_are (Some told) m are may = subst (λ (f : Files). HoldsBytes f) may are

module _ (job : Job) (status : ℕ) (old mid : World) (out : SinkTold) where
  abbrev new : World
  new = record mid { out = out }

  -- the answer over what is told, or over some files and input where nothing is
  abbrev told_answer : (end : End) → Ran job end old mid
      → Answered job (unwrap_or old.store.files no_files) (unwrap_or old.input.left []) end old mid
  told_answer end ran = ran.answered _ _ (agrees_told old)

  abbrev answering : (end : End) (files : Files) (input : List ℕ)
      → IfSome old.store.files HoldsBytes
      → ((f : Files) (i : List ℕ) (a : Answer) → HoldsBytes f → job.answers f i a → job.means f i a)
      → Answered job files input end old mid → Answering job old new
  answering end files input are law here = record {
    files = here.files;
    input = here.input;
    agrees = here.agrees;
    a = here.a;
    answer = here.answer;
    meant = law here.files here.input here.a
        (held_are old.store.files here.files are here.agrees.store) here.answer;
    costs = here.costs;
  }

  no_more : (a : Answer) → NoMore a old mid → NoMore a old new
  no_more a h = record { files = h.files; left = h.left }

  extend : (a : Answer) (line : List ℕ) → Begins a [] old mid
      → out.taken ≡ append_known mid.out.taken line → Begins a line old new
  extend a line h e = record {
    lines = h.lines;
    rest = h.rest;
    whole = h.whole;
    begins = h.begins;
    more = h.more;
    text = text_on line h.lines old.out.taken mid.out.taken out.taken h.text e;
    others = no_more a h.others;
  }

  meets_on : (fault : Fault) → MayMeet job fault old mid → MayMeet job fault old new
  meets_on faults.Store h = h
  meets_on faults.Input h = h
  meets_on faults.NoMemory h = h

  unwritten_by : (end : End) → Gave end status mid.out out → status ≢ code_of statuses.Success
      → status ≢ fault_code faults.Store → status ≢ sink_code → MayHaveWritten end → ⊥
  unwritten_by (Done s) gave not0 not8 not9 w = written_own s status gave.0 not0 w
  unwritten_by SinkFault gave not0 not8 not9 w = not9 gave.0
  unwritten_by (Stopped fault) gave not0 not8 not9 w =
      named_not fault status mid.out out gave not8 not9 w

  module _ (later : mid.out.faults ≤ out.faults) where
    can : (end : End) → Ran job end old mid → Gave end status mid.out out
        → HasStatus job status old new
    can (Done s) ran gave =
        let fine = ran.may.1 in
        inl (
          s,
          ran.may.0,
          gave.0,
          record {
            store = fine.store;
            input = fine.input;
            out = ap (λ (o : SinkTold). o.faults) gave.1 ∙ fine.out;
          },
        )
    can SinkFault ran gave =
        inr (inr (still_risen old.out.faults mid.out.faults out.faults ran.may later, gave.0))
    can (Stopped fault) ran (inl h) = inr (inl (fault, meets_on fault ran.may, h.0))
    can (Stopped fault) ran (inr h) = let so_far = ran.later.out in
        inr (inr (risen_later old.out.faults mid.out.faults out.faults so_far h.1.rose, h.0))

    names : (end : End) → Ran job end old mid → Gave end status mid.out out → (fault : Fault)
        → status ≡ fault_code fault → TookLines (fault_line fault) old.out out
    names (Done s) ran gave fault e = own_fault s fault status gave.0 e
    names SinkFault ran gave fault e = nine_fault fault status gave.0 e
    names (Stopped met) ran (inl h) fault e =
        subst (λ f. TookLines (fault_line f) old.out out) (one_fault met fault status h.0 e)
        (lines_on (fault_line met) old.out mid.out out ran.lines.0 h.1.taken)
    names (Stopped met) ran (inr h) fault e = nine_fault fault status h.0 e

    alone : (end : End) → Ran job end old mid → Gave end status mid.out out → (fault : Fault)
        → status ≡ fault_code fault → job.speaks ≡ false
        → out.taken ≡ append_known old.out.taken (fault_line fault)
    alone (Done s) ran gave fault e quiet = own_fault s fault status gave.0 e
    alone SinkFault ran gave fault e quiet = nine_fault fault status gave.0 e
    alone (Stopped met) ran (inl h) fault e quiet =
        subst (λ f. out.taken ≡ append_known old.out.taken (fault_line f))
        (one_fault met fault status h.0 e)
        (h.1.taken ∙ ap (λ o. append_known o (fault_line met)) (ran.lines.1 quiet))
    alone (Stopped met) ran (inr h) fault e quiet = nine_fault fault status h.0 e

    module _ (are : IfSome old.store.files HoldsBytes)
        (law : (f : Files) (i : List ℕ) (a : Answer) → HoldsBytes f → job.answers f i a
        → job.means f i a) where
      honest : (end : End) → Ran job end old mid → Gave end status mid.out out → (s : Status)
          → status ≡ code_of s → Whole job status old new
      honest (Done t) ran gave s e =
          let here = told_answer (Done t) ran in
          let files : Files = unwrap_or old.store.files no_files in
          let input : List ℕ = unwrap_or old.input.left [] in
          record {
            of = answering (Done t) files input are law here;
            status_is = gave.0 ∙ ap code_of (sym here.leaves.0);
            gives = record {
              files = here.leaves.1.files;
              left = here.leaves.1.left;
              text = ap (λ (o : SinkTold). o.taken) gave.1 ∙ here.leaves.1.text;
            };
          }
      honest SinkFault ran gave s e = own_nine s status e gave.0
      honest (Stopped met) ran (inl h) s e = own_fault s met status e h.0
      honest (Stopped met) ran (inr h) s e = own_nine s status e h.0

      halted : (end : End) → Ran job end old mid → Gave end status mid.out out → (fault : Fault)
          → status ≡ fault_code fault → Halted job fault old new
      halted (Done s) ran gave fault e = own_fault s fault status gave.0 e
      halted SinkFault ran gave fault e = nine_fault fault status gave.0 e
      halted (Stopped met) ran (inl h) fault e =
          subst (λ f. Halted job f old new) (one_fault met fault status h.0 e)
          (let here = told_answer (Stopped met) ran in
          record {
            of = answering (Stopped met) _ _ are law here;
            begins = extend here.a (fault_line met) here.leaves h.1.taken;
          })
      halted (Stopped met) ran (inr h) fault e = nine_fault fault status h.0 e

      cut : (end : End) → Ran job end old mid → Gave end status mid.out out → status ≡ sink_code
          → CutOff job old new
      cut (Done s) ran gave e = own_nine s status gave.0 e
      cut SinkFault ran gave e =
          let here = told_answer SinkFault ran in record {
            of = answering SinkFault _ _ are law here;
            cut = inl (record {
              written = here.leaves.written;
              rest = here.leaves.rest;
              begins = here.leaves.begins;
              text = ap (λ (o : SinkTold). o.taken) gave.1 ∙ here.leaves.text;
              others = no_more here.a here.leaves.others;
            });
          }
      cut (Stopped met) ran (inl h) e = nine_fault met status e h.0
      cut (Stopped met) ran (inr h) e =
          let here = told_answer (Stopped met) ran in record {
            of = answering (Stopped met) _ _ are law here;
            cut = inr (
              met,
              meets_on met ran.may,
              (
                h.1.taken.0,
                extend here.a (take h.1.taken.0 (fault_line met)) here.leaves
                    h.1.taken.1,
              ),
            );
          }

  room : (end : End) → LeavesNoRoom end old.store mid.store → Gave end status mid.out out
      → (s : Status) → status ≡ code_of s → old.store.room ≡ 0 → mid.store.room ≡ 0
  room (Done t) leaves gave s e = leaves
  room SinkFault leaves gave s e = own_nine s status e gave.0
  room (Stopped met) leaves (inl h) s e = own_fault s met status e h.0
  room (Stopped met) leaves (inr h) s e = own_nine s status e h.0

  complete : ((s : Status) → status ≡ code_of s → Whole job status old new)
      → HasStatus job status old new → IsComplete job status old new
  complete whole (inl own) no_store no_input no_out = inl (whole own.0 own.2)
  complete whole (inr (inl h)) no_store no_input no_out = by_fault h.0 h.1 h.2
    where
      by_fault : (fault : Fault) → MayMeet job fault old new → status ≡ fault_code fault
          → Whole job status old new
          ⊎ (IsTrue job.needs.memory × (status ≡ fault_code faults.NoMemory))
      by_fault faults.Store m e = absurd (no_store m.1)
      by_fault faults.Input m e = absurd (no_input m.1)
      by_fault faults.NoMemory m e = inr (m, e)
  complete whole (inr (inr h)) no_store no_input no_out = absurd (no_out h.0)

  -- what the program gives, where the command ended so and the line of its fault was written
  pub outcome : (end : End) → IfSome old.store.files HoldsBytes
      → ((f : Files) (i : List ℕ) (a : Answer) → HoldsBytes f → job.answers f i a → job.means f i a)
      → Ran job end old mid → Finished end status mid.out out
      → Outcome job status old (record mid { out = out })
  outcome end are law ran finished = record {
    later = record {
      store = ran.later.store;
      input = ran.later.input;
      out = (let a = ran.later.out in let b = finished.later in omega (arith, a, b));
      steps = ran.later.steps;
    };
    can = can finished.later end ran finished.gave;
    only = ran.only;
    unwritten = λ not0 not8 not9. ran.unwritten (unwritten_by end finished.gave not0 not8 not9);
    room = room end ran.room finished.gave;
    names = names finished.later end ran finished.gave;
    alone = alone finished.later end ran finished.gave;
    honest = honest finished.later are law end ran finished.gave;
    halted = halted finished.later are law end ran finished.gave;
    cut = cut finished.later are law end ran finished.gave;
    complete = complete (honest finished.later are law end ran finished.gave)
        (can finished.later end ran finished.gave);
  }
