-- One name that is written, a piece at a time.
use Rattle.std.proofs.Common.{◌≡◌, ◌⊎◌, inl, inr, refl, sym, ap, ◌∙◌, ℕ, List, [], ◌++◌, take, drop, length, Option, Some, None, OnSome, arith, append_assoc}
use Rattle.std.proofs.Math.Seq.{take-length, take-append_seam}
use Rattle.std.proofs.lemmas.List.{take-append-drop}
use Rattle.std.specs.Option.{option_map}
use Rattle.frz_store.specs.Files.{Files, put, grown}
use Rattle.frz_store.specs.Told.{StoreTold, StoreLater}
use Rattle.frz_store.specs.Writes.{Wrote, WrotePart}
use Rattle.frz_store.proofs.PutLaws.{grown-put}

grown_on : (name bytes piece : List ℕ) (o : Option Files) (last : Option (List ℕ))
    → OnSome o (last ≡ Some name)
    → option_map (grown last piece) (option_map (λ m. put m name bytes) o) ≡ option_map
    (λ m. put m name (bytes ++ piece)) o
grown_on name bytes piece None last e = refl
grown_on name bytes piece (Some m) last e =
    ap Some (ap (λ (l : Option (List ℕ)). grown l piece (put m name bytes)) e
    ∙ grown-put m name bytes piece)

last_on : (name : List ℕ) (o : Option Files) (mid new : Option (List ℕ))
    → OnSome o (mid ≡ Some name) → new ≡ mid → OnSome o (new ≡ Some name)
last_on name None mid new h e = cc
last_on name (Some m) mid new h e = e ∙ h

-- no count has fallen, twice
pub later_store : (old mid new : StoreTold) → StoreLater old mid → StoreLater mid new
    → StoreLater old new
later_store old mid new h k = record {
  asked = (let a = h.asked in let b = k.asked in omega (arith, a, b));
  calls = (let a = h.calls in let b = k.calls in omega (arith, a, b));
  faults = (let a = h.faults in let b = k.faults in omega (arith, a, b));
  wants = (let a = h.wants in let b = k.wants in omega (arith, a, b));
}

-- a piece more
pub grew : (name bytes piece : List ℕ) (old mid new : StoreTold) → Wrote name bytes old mid
    → new.files ≡ option_map (grown mid.last piece) mid.files → new.last ≡ mid.last
    → StoreLater mid new → Wrote name (bytes ++ piece) old new
grew name bytes piece old mid new h files last later = record {
  files = files ∙ ap (option_map (grown mid.last piece)) h.files
      ∙ grown_on name bytes piece old.files mid.last h.last;
  last = last_on name old.files mid.last new.last h.last last;
  later = later_store old mid new h.later later;
}

-- a part of a piece, behind what stood before it, begins the whole
pub begins_whole : (bytes piece rest whole : List ℕ) (k : ℕ) → bytes ++ (piece ++ rest) ≡ whole
    → take (length (bytes ++ take k piece)) whole ≡ bytes ++ take k piece
begins_whole bytes piece rest whole k is =
    let front : List ℕ = bytes ++ take k piece in
    let all : front ++ (drop k piece ++ rest) ≡ whole =
    append_assoc bytes (take k piece) (drop k piece ++ rest)
    ∙ ap (λ (l : List ℕ). bytes ++ l)
    (sym (append_assoc (take k piece) (drop k piece) rest)
    ∙ ap (λ (l : List ℕ). l ++ rest) (take-append-drop k piece)) ∙ is in
    sym (ap (take (length front)) all) ∙ take-append_seam front (drop k piece ++ rest)

-- a part of a piece, behind which more was to come
pub grew_part : (name bytes piece rest whole : List ℕ) (old mid new : StoreTold)
    → Wrote name bytes old mid → bytes ++ (piece ++ rest) ≡ whole
    → (k : ℕ) × (new.files ≡ option_map (grown mid.last (take k piece)) mid.files)
    → StoreLater mid new → WrotePart name whole old new
grew_part name bytes piece rest whole old mid new h is part later =
    record {
      files = inr (
        length (bytes ++ take part.0 piece),
        part.1 ∙ ap (option_map (grown mid.last (take part.0 piece))) h.files ∙ grown_on name bytes
            (take part.0 piece) old.files mid.last h.last
            ∙ ap (λ (l : List ℕ). option_map (λ m. put m name l) old.files)
            (sym (begins_whole bytes piece rest whole part.0 is)),
      );
      later = later_store old mid new h.later later;
    }

pub nothing_written : (name whole : List ℕ) (old new : StoreTold) → (new.files ≡ old.files)
    ⊎ (new.files ≡ option_map (λ m. put m name []) old.files)
    → StoreLater old new → WrotePart name whole old new
nothing_written name whole old new (inl e) later = record { files = inl e; later = later }
nothing_written name whole old new (inr e) later = record { files = inr (0, e); later = later }

pub all_written : (name whole : List ℕ) (old new : StoreTold) → Wrote name whole old new
    → WrotePart name whole old new
all_written name whole old new h =
    record {
      files = inr (
        length whole,
        h.files ∙ ap (λ (l : List ℕ). option_map (λ m. put m name l) old.files)
            (sym (take-length whole)),
      );
      later = h.later;
    }
