-- Bytes that are taken from an input: none, and one part behind the other.
use Rattle.std.proofs.Common.{◌≡◌, refl, sym, ap, subst, ◌∙◌, ℕ, List, [], ◌∷◌, ◌++◌, take, drop, length, Option, Some, None, append_assoc}
use Rattle.std.proofs.lemmas.List.{take-append-drop}
use Rattle.std.specs.Prelude.{IfSome}
use Rattle.std.specs.Option.{option_map}
use Rattle.frz_store.specs.Outside.{Took}
use Rattle.frz_store.specs.Told.{SourceTold}
use Rattle.frz_answer.proofs.Lemmas.{drop_none, front_none, front_twice, left_twice}
use Rattle.frz_ways.specs.SessionFaults.{TookBytes, MayHold}
use Rattle.frz_ways.specs.Hearing.{EndsWith, HasEnded}

-- nothing was taken
pub took_none : (old new : SourceTold) → new.left ≡ old.left → TookBytes [] old new
took_none old new e = record { front = front_none old.left; behind = e ∙ drop_none old.left }

-- one part behind the other
pub took_on : (first next : List ℕ) (old mid new : SourceTold) → TookBytes first old mid
    → TookBytes next mid new → TookBytes (first ++ next) old new
took_on first next old mid new h k = record {
  front = front_twice first next old.left mid.left h.behind h.front k.front;
  behind = left_twice first next old.left mid.left new.left h.behind k.behind;
}

-- where the input has ended nothing is left of what is told
pub held_whole : (bytes : List ℕ) (old new : SourceTold) → TookBytes bytes old new → (rest : List ℕ)
    → IfSome new.left (λ left. left ≡ rest) → MayHold old (bytes ++ rest)
held_whole bytes old new took rest left =
    whole_of old.left took.front
    (subst (λ (o : Option (List ℕ)). IfSome o (λ left. left ≡ rest)) took.behind left) where
      whole_of : (o : Option (List ℕ)) → IfSome o (λ left. take (length bytes) left ≡ bytes)
          → IfSome (option_map (drop (length bytes)) o) (λ left. left ≡ rest)
          → IfSome o (λ told. told ≡ bytes ++ rest)
      whole_of None front behind = tt
      whole_of (Some told) front behind =
          sym (take-append-drop (length bytes) told)
          ∙ ap (λ (l : List ℕ). l ++ drop (length bytes) told) front
          ∙ ap (λ (l : List ℕ). bytes ++ l) behind

-- some rest of the input, which is the told one, and nothing behind its end
pub some_rest : (new : SourceTold) → (ended : Type 0) → (ended → HasEnded new) → (rest : List ℕ)
    × IfSome new.left (λ left. left ≡ rest) × (ended → rest ≡ [])
some_rest new ended has = rest_of new.left has where
  rest_of : (o : Option (List ℕ)) → (ended → IfSome o (λ left. left ≡ [])) → (rest : List ℕ)
      × IfSome o (λ left. left ≡ rest) × (ended → rest ≡ [])
  rest_of None has = ([], tt, λ e. refl)
  rest_of (Some left) has = (left, refl, has)

-- what a read of one byte takes
pub took_byte : (byte : ℕ) (n : ℕ) (old new : SourceTold) → n ≡ 1
    → IfSome old.left (Took (byte ∷ []) n) → new.left ≡ option_map (drop n) old.left
    → TookBytes (byte ∷ []) old new
took_byte byte n old new one took rest = record {
  front = byte_front old.left (subst (λ k. IfSome old.left (Took (byte ∷ []) k)) one took);
  behind = rest ∙ ap (λ k. option_map (drop k) old.left) one;
} where
  byte_front : (o : Option (List ℕ)) → IfSome o (Took (byte ∷ []) 1)
      → IfSome o (λ left. take (length {A = ℕ} (byte ∷ [])) left ≡ byte ∷ [])
  byte_front None h = tt
  byte_front (Some left) h = sym h.front

-- where a read takes nothing, the input has ended
pub nothing_left : (buffer : List ℕ) (n : ℕ) (old new : SourceTold) → n ≡ 0
    → IfSome old.left (Took buffer n) → new.left ≡ option_map (drop n) old.left
    → TookBytes [] old new × HasEnded new
nothing_left buffer n old new none took rest =
    let same : new.left ≡ old.left = rest
    ∙ (ap (λ k. option_map (drop k) old.left) none ∙ sym (drop_none old.left)) in (
      took_none old new same,
      subst (λ (o : Option (List ℕ)). IfSome o (λ left. left ≡ []))
          (sym same) (all_gone old.left took),
    ) where
      all_gone : (o : Option (List ℕ)) → IfSome o (Took buffer n) → IfSome o (λ left. left ≡ [])
      all_gone None h = tt
      all_gone (Some left) h = h.end none

pub ends_itself : (bytes : List ℕ) → EndsWith bytes bytes
ends_itself bytes = ([], refl)

pub ends_dropped : (n : ℕ) (bytes : List ℕ) → EndsWith (drop n bytes) bytes
ends_dropped n bytes = (take n bytes, take-append-drop n bytes)

pub ends_on : (a b c : List ℕ) → EndsWith a b → EndsWith b c → EndsWith a c
ends_on a b c first next = (
  next.0 ++ first.0,
  append_assoc next.0 first.0 a
      ∙ (ap (λ (l : List ℕ). next.0 ++ l) first.1 ∙ next.1),
)
