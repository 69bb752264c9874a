-- A name that is written, and what an answer gives it.
use Rattle.std.proofs.Common.{◌≡◌, ◌≢◌, ◌⊎◌, inl, inr, refl, sym, ap, ◌∙◌, ℕ, List, take, Option, Some, None, Bool, true, false}
use Rattle.std.proofs.lemmas.Slice.Eq.{bytes_eq-Decides}
use Rattle.std.specs.Str.{bytes_eq}
use Rattle.std.specs.Option.{option_map}
use Rattle.frz_store.specs.Bytes.{MayBeHeld}
use Rattle.frz_store.specs.Files.{Files, put}
use Rattle.frz_store.specs.Told.{StoreTold}
use Rattle.frz_store.specs.Writes.{WrotePart}
use Rattle.frz_store.proofs.Lemmas.{put-off, put-at}
use Rattle.frz_answer.specs.Answers.{Answer, held, IsPart}
use Rattle.frz_answer.specs.Ends.{WritesOnly}

-- at another name
held_off : (name bytes q : List ℕ) (o : Option Files) → bytes_eq name q ≡ false
    → held (option_map (λ m. put m name bytes) o) q ≡ held o q
held_off name bytes q None e = refl
held_off name bytes q (Some m) e = ap Some (put-off m name bytes q e)

-- at the name
held_at : (name bytes q : List ℕ) (o : Option Files) → bytes_eq name q ≡ true
    → held (option_map (λ m. put m name bytes) o) q ≡ option_map (λ _. Some bytes) o
held_at name bytes q None e = refl
held_at name bytes q (Some m) e = ap Some (put-at m name bytes q e)

other_name : (name q : List ℕ) → q ≢ name → (b : Bool) → bytes_eq name q ≡ b → b ≡ false
other_name name q other true e = absurd (other (sym ((bytes_eq-Decides name q).0 e)))
other_name name q other false e = refl

-- no other name was written
pub part_only : (name whole : List ℕ) (old new : StoreTold) → WrotePart name whole old new
    → WritesOnly (Some name) old new
part_only name whole old new h =
    λ q other. by_files q (other_name name q other (bytes_eq name q) refl) h.files
  where
    by_files : (q : List ℕ) → bytes_eq name q ≡ false
        → (new.files ≡ old.files)
        ⊎ ((k : ℕ) × (new.files ≡ option_map (λ m. put m name (take k whole)) old.files))
        → held new.files q ≡ held old.files q
    by_files q off (inl e) = ap (λ (o : Option Files). held o q) e
    by_files q off (inr e) =
        ap (λ (o : Option Files). held o q) e.1 ∙ held_off name (take e.0 whole) q old.files off

-- what is written is a part of what an answer gives
pub part_given : (name whole : List ℕ) (m : Files) (old new : StoreTold) (a : Answer)
    → a.files ≡ put m name whole
    → WrotePart name whole old new → (q : List ℕ) → IsPart a q old.files new.files
part_given name whole m old new a given h q = by_files h.files
  where
    by_name : (k : ℕ) → (b : Bool) → bytes_eq name q ≡ b
        → new.files ≡ option_map (λ m. put m name (take k whole)) old.files
        → IsPart a q old.files new.files
    by_name k false off e =
        inl (ap (λ (o : Option Files). held o q) e ∙ held_off name (take k whole) q old.files off)
    by_name k true at e =
        let here : a.files q ≡ Some whole = ap (λ (f : Files). f q) given
        ∙ put-at m name whole q at in
        inr (
          k,
          ap (λ (o : Option Files). held o q) e ∙ held_at name (take k whole) q old.files at
              ∙ ap (λ (g : Option (List ℕ)). option_map (λ _. option_map (take k) g) old.files)
              (sym here),
        )

    by_files : (new.files ≡ old.files)
        ⊎ ((k : ℕ) × (new.files ≡ option_map (λ m. put m name (take k whole)) old.files))
        → IsPart a q old.files new.files
    by_files (inl e) = inl (ap (λ (o : Option Files). held o q) e)
    by_files (inr e) = by_name e.0 (bytes_eq name q) refl e.1

-- all of it was written
pub whole_given : (name whole : List ℕ) (m : Files) (o : Option Files) → MayBeHeld o m
    → option_map (λ told. put told name whole) o ≡ option_map (λ _. put m name whole) o
whole_given name whole m None e = refl
whole_given name whole m (Some told) e = ap (λ (f : Files). Some (put f name whole)) e
