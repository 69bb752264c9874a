-- A text that is written piece by piece.
use Rattle.std.proofs.Common.{◌≡◌, refl, sym, ap, ◌∙◌, ℕ, List, [], ◌++◌, take, length, Option, Result, Ok, Err, arith, append-nil}
use Rattle.std.specs.Result.{IsErr}
use Rattle.std.specs.Io.KnownBytes.{append_known}
use Rattle.frz_store.specs.Told.{SinkTold}
use Rattle.frz_answer.specs.Texts.{TookText, FailedWithin, WroteText}
use Rattle.frz_store.proofs.Lemmas.{begins_whole}
use Rattle.frz_answer.proofs.Telling.{append_nothing, append_twice}
use Rattle.frz_answer.proofs.Worlds.{risen_later}

-- a part of a piece that stands within the whole text
pub part_of : (old mid new : Option (List ℕ)) (written piece rest whole : List ℕ)
    → mid ≡ append_known old written → written ++ (piece ++ rest) ≡ whole → (k : ℕ)
    × (new ≡ append_known mid (take k piece))
    → (j : ℕ) × (new ≡ append_known old (take j whole))
part_of old mid new written piece rest whole before is part = (
  length (written ++ take part.0 piece),
  part.1 ∙ ap (λ o. append_known o (take part.0 piece)) before ∙ append_twice old written
      (take part.0 piece)
      ∙ ap (append_known old) (sym (begins_whole written piece rest whole part.0 is)),
)

-- the sink failed within the first of two texts
pub failed_before : (first rest text : List ℕ) (old new : SinkTold) → FailedWithin first old new
    → first ++ rest ≡ text → FailedWithin text old new
failed_before first rest text old new failed is = record {
  later = failed.later;
  rose = failed.rose;
  taken = part_of old.taken old.taken new.taken [] first rest text (append_nothing old.taken) is
      failed.taken;
}

module _ (first next text : List ℕ) (old mid new : SinkTold) (took : TookText first old mid)
    (is : first ++ next ≡ text) where
  -- the sink failed within the second
  pub failed_behind : FailedWithin next mid new → FailedWithin text old new
  failed_behind failed =
      let same = took.faults in
      let more = failed.later in
      record {
        later = omega (arith, same, more);
        rose = risen_later old.faults mid.faults new.faults (omega (arith, same)) failed.rose;
        taken = part_of old.taken mid.taken new.taken first next [] text took.taken
            (ap (λ (l : List ℕ). first ++ l) (append-nil next) ∙ is) failed.taken;
      }

  -- the sink took both
  pub took_behind : TookText next mid new → TookText text old new
  took_behind more = record {
    faults = more.faults ∙ took.faults;
    taken = more.taken ∙ ap (λ o. append_known o next) took.taken
        ∙ append_twice old.taken first next ∙ ap (append_known old.taken) is;
  }

  -- the second was written
  pub wrote_behind : {T E : Type 0} (result : Result T E) → WroteText next result mid new
      → WroteText text result old new
  wrote_behind (Ok x) wrote = record { ok = took_behind wrote.ok; failed = tt }
  wrote_behind (Err e) wrote = record { ok = tt; failed = failed_behind wrote.failed }

-- a call that gives up where the sink failed
pub gave_up : {T E : Type 0} {text : List ℕ} {result : Result T E} {old new : SinkTold}
    → IsErr result → FailedWithin text old new → WroteText text result old new
gave_up {result = Ok x} none failed = cc
gave_up {result = Err e} none failed = record { ok = tt; failed = failed }

-- of two texts as one: the sink failed within the first, or within the second
pub failed_first : {first : List ℕ} {old new : SinkTold} (rest : List ℕ)
    → FailedWithin first old new → FailedWithin (first ++ rest) old new
failed_first rest failed = failed_before _ rest _ _ _ failed refl

pub failed_next : {first next : List ℕ} {old mid new : SinkTold} → TookText first old mid
    → FailedWithin next mid new → FailedWithin (first ++ next) old new
failed_next took failed = failed_behind _ _ _ _ _ _ took refl failed

-- the sink took both texts, or the second was written behind the first
pub took_next : {first next : List ℕ} {old mid new : SinkTold} → TookText first old mid
    → TookText next mid new → TookText (first ++ next) old new
took_next took more = took_behind _ _ _ _ _ _ took refl more

pub wrote_next : {T E : Type 0} {first next : List ℕ} {result : Result T E} {old mid new : SinkTold}
    → TookText first old mid → WroteText next result mid new
    → WroteText (first ++ next) result old new
wrote_next took wrote = wrote_behind _ _ _ _ _ _ took refl _ wrote

-- nothing was written yet
pub took_nothing : (out : SinkTold) → TookText [] out out
took_nothing out = record { faults = refl; taken = append_nothing out.taken }
