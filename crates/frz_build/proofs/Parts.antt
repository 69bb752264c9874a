-- A file that is written part by part, and what holds at each refusal.
use Rattle.std.proofs.Common.{◌≡◌, ◌⊎◌, inl, inr, refl, sym, ap, subst, ◌∙◌, ℕ, List, [], ◌++◌, length, take, drop, Result, Ok, Err, append_assoc, append-nil}
use Rattle.std.proofs.Math.Seq.{take-append_seam}
use Rattle.std.proofs.lemmas.List.{take-append-drop}
use Rattle.std.specs.Option.{option_map}
use Rattle.frz_store.specs.Files.{put}
use Rattle.frz_store.specs.Outside.{Rose}
use Rattle.frz_store.specs.Told.{StoreTold, StoreFine}
use Rattle.frz_store.specs.Writes.{Wrote, WrotePart, Written, Appended}
use Rattle.frz_store.specs.declared.outside.StoreFault.{StoreFault}
use Rattle.frz_store.specs.declared.outside.StoreFault.TheVariants.{Failed, NoMemory}
use Rattle.frz_store.proofs.Lemmas.{grew, grew_part}

-- so much was written where the fault came
abbrev pub Refused : (name bytes : List ℕ) → StoreFault → (old new : StoreTold) → Type 0
Refused name bytes fault old new = Written {T = Unit {0}} name bytes (Err fault) old new

-- all was written, and no call failed
abbrev pub Done : (name bytes : List ℕ) → (old new : StoreTold) → Type 0
Done name bytes old new = Wrote name bytes old new × StoreFine old new

-- the result is that fault
refused_as : {T : Type 0} (name bytes : List ℕ) (fault : StoreFault) (result : Result T StoreFault)
    (old new : StoreTold)
    → result ≡ Err fault → Refused name bytes fault old new → Written name bytes result old new
refused_as {T} name bytes Failed result old new is h =
    subst (λ (r : Result T StoreFault). Written name bytes r old new) (sym is) h
refused_as {T} name bytes NoMemory result old new is h =
    subst (λ (r : Result T StoreFault). Written name bytes r old new) (sym is) h

-- a prefix of the front is one of the whole
part_of_front : (name front rest : List ℕ) (old new : StoreTold) → WrotePart name front old new
    → WrotePart name (front ++ rest) old new
part_of_front name front rest old new h = record { files = longer h.files; later = h.later }
  where
    cut : (k : ℕ) → take (length (take k front)) (front ++ rest) ≡ take k front
    cut k =
        ap (λ (l : List ℕ). take (length (take k front)) (l ++ rest))
        (sym (take-append-drop k front))
        ∙ ap (take (length (take k front))) (append_assoc (take k front) (drop k front) rest)
        ∙ take-append_seam (take k front) (drop k front ++ rest)

    longer : (new.files ≡ old.files)
        ⊎ ((k : ℕ) × (new.files ≡ option_map (λ m. put m name (take k front)) old.files))
        → (new.files ≡ old.files)
        ⊎ ((k : ℕ) × (new.files ≡ option_map (λ m. put m name (take k (front ++ rest)))
        old.files))
    longer (inl e) = inl e
    longer (inr part) =
        inr (
          length (take part.0 front),
          part.1 ∙ ap (λ (l : List ℕ). option_map (λ m. put m name l) old.files)
              (sym (cut part.0)),
        )

-- a file of which a front was refused was refused
front_refused : (name front rest : List ℕ) (fault : StoreFault) (old new : StoreTold)
    → Refused name front fault old new → Refused name (front ++ rest) fault old new
front_refused name front rest Failed old new h = (part_of_front name front rest old new h.0, h.1)
front_refused name front rest NoMemory old new h = h

-- a piece behind a front that was written
module _ (name front piece : List ℕ) (old mid new : StoreTold)
    (begun : Done name front old mid) where
  pub piece_written : {A E : Type 0} (y : A) → Appended {E = E} piece (Ok y) mid new
      → Done name (front ++ piece) old new
  piece_written y more = (
    grew name front piece old mid new begun.0 more.files more.last more.later,
    record { faults = more.cause.fine ∙ begun.1.faults; wants = more.wants ∙ begun.1.wants },
  )

  -- the store failed within it, and more was to come
  piece_failed : {A E : Type 0} (rest whole : List ℕ) (e : E) → front ++ (piece ++ rest) ≡ whole
      → Appended {T = A} piece (Err e) mid new
      → Refused name whole Failed old new
  piece_failed rest whole e is failed = (
    grew_part name front piece rest whole old mid new begun.0 is failed.failed_files failed.later,
    subst (λ (n : ℕ). Rose n new.faults) begun.1.faults failed.cause.failed,
  )

  -- the store failed within it, and it was the last one
  pub last_failed : {T A E : Type 0} (result : Result T StoreFault) (e : E) → result ≡ Err Failed
      → Appended {T = A} piece (Err e) mid new
      → Written name (front ++ piece) result old new
  last_failed result e is failed =
      refused_as name (front ++ piece) Failed result old new is
      (piece_failed [] (front ++ piece) e (ap (λ (l : List ℕ). front ++ l) (append-nil piece))
      failed)

-- a header and both sides' codes
module _ (name header white black : List ℕ) (old : StoreTold) where
  abbrev whole : List ℕ
  whole = header ++ (white ++ black)

  pub header_refused : {T : Type 0} (result : Result T StoreFault) (fault : StoreFault)
      (new : StoreTold) → result ≡ Err fault
      → Refused name header fault old new → Written name whole result old new
  header_refused result fault new is h = refused_as name whole fault result old new is
      (front_refused name header (white ++ black) fault old new h)

  module _ (begun : StoreTold) (headed : Done name header old begun) where
    pub white_failed : {T A E : Type 0} (result : Result T StoreFault) (e : E) (new : StoreTold)
        → result ≡ Err Failed
        → Appended {T = A} white (Err e) begun new → Written name whole result old new
    white_failed result e new is failed =
        refused_as name whole Failed result old new is
        (piece_failed name header white old begun new headed black whole e refl failed)

    module _ (half : StoreTold) {A E : Type 0} (y : A)
        (more : Appended {E = E} white (Ok y) begun half) where
      whited : Done name (header ++ white) old half
      whited = piece_written name header white old begun half headed y more

      pub black_failed : {T B F : Type 0} (result : Result T StoreFault) (e : F) (new : StoreTold)
          → result ≡ Err Failed
          → Appended {T = B} black (Err e) half new → Written name whole result old new
      black_failed result e new is failed =
          subst (λ (l : List ℕ). Written name l result old new) (append_assoc header white black)
          (last_failed name (header ++ white) black old half new whited result e is failed)

      pub all_written : {B F : Type 0} (z : B) (new : StoreTold)
          → Appended {E = F} black (Ok z) half new → Done name whole old new
      all_written z new last =
          subst (λ (l : List ℕ). Done name l old new) (append_assoc header white black)
          (piece_written name (header ++ white) black old half new whited z last)
