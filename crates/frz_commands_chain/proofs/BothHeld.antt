-- Two names, and files in which they hold what they may hold.
use Rattle.std.proofs.Common.{◌≡◌, refl, sym, ap, ◌∙◌, ℕ, List, true, false, Option, Some, None}
use Rattle.std.proofs.lemmas.Bool.{false_from_ne_true}
use Rattle.std.proofs.lemmas.Slice.Eq.{bytes_eq-Decides}
use Rattle.std.specs.Str.{bytes_eq}
use Rattle.frz_store.specs.Bytes.{HoldsBytes, MayBeHeld}
use Rattle.frz_store.specs.Files.{Files, no_files, put}
use Rattle.frz_store.proofs.Lemmas.{put_bytes, put-off, put-same}
use Rattle.frz_table.specs.Possible.{MayHold}

-- files that may be held, where the names hold these
pub record HoldBoth (told : Option Files) (name other : List ℕ)
    (held other_held : Option (List ℕ)) : Type 0 where
  pub files : Files
  pub agrees : MayBeHeld told files
  pub first : files name ≡ held
  pub second : files other ≡ other_held

-- the name is to hold this
abbrev place : Files → List ℕ → Option (List ℕ) → Files
place m name None = m
place m name (Some bytes) = put m name bytes

place_at : (m : Files) (name : List ℕ) (held : Option (List ℕ)) → m name ≡ None
    → place m name held name ≡ held
place_at m name None e = e
place_at m name (Some bytes) e = put-same m name bytes

place_off : (m : Files) (name : List ℕ) (held : Option (List ℕ)) (q : List ℕ)
    → bytes_eq name q ≡ false → place m name held q ≡ m q
place_off m name None q e = refl
place_off m name (Some bytes) q e = put-off m name bytes q e

other_way : (name other : List ℕ) → bytes_eq name other ≡ false → bytes_eq other name ≡ false
other_way name other e =
    false_from_ne_true (bytes_eq other name)
    (λ t. (let same : bytes_eq name other ≡ true = (bytes_eq-Decides name other).1
    (sym ((bytes_eq-Decides other name).0 t)) in cc))

place_bytes : (m : Files) (name : List ℕ) (held : Option (List ℕ)) → HoldsBytes m
    → MayHold None name held → HoldsBytes (place m name held)
place_bytes m name None h may = h
place_bytes m name (Some bytes) h may = put_bytes m name bytes h may

-- what the name holds in files that may be held, it may hold
pub agreed_at : (told : Option Files) (m : Files) (name : List ℕ) → MayBeHeld told m
    → MayHold told name (m name)
agreed_at None m name are = are name
agreed_at (Some t) m name e = ap (λ (f : Files). f name) e

-- two names that differ hold what each of them may hold
pub hold_both : (told : Option Files) (name other : List ℕ) (held other_held : Option (List ℕ))
    → bytes_eq name other ≡ false → MayHold told name held
    → MayHold told other other_held → HoldBoth told name other held other_held
hold_both (Some m) name other held other_held e may other_may =
    record { files = m; agrees = refl; first = may; second = other_may }
hold_both None name other held other_held e may other_may =
    let behind : Files = place no_files other other_held in
    record {
      files = place behind name held;
      agrees = place_bytes behind name held
          (place_bytes no_files other other_held (λ q. tt) other_may) may;
      first = place_at behind name held
          (place_off no_files other other_held name (other_way name other e));
      second = place_off behind name held other e ∙ place_at no_files other other_held refl;
    }
