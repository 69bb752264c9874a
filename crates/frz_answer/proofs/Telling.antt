-- What optional bytes and files do where nothing, or one thing after the other, is put to them.
use Rattle.std.proofs.Common.{◌≡◌, refl, sym, ap, subst, ◌∙◌, ℕ, ◌+◌, List, [], ◌++◌, take, drop, length, Option, Some, None, rules, length-append, append_assoc, ◌∷◌}
use Rattle.std.proofs.Math.Seq.{take-add}
use Rattle.std.proofs.lemmas.List.{drop-drop}
use Rattle.std.specs.Prelude.{IfSome}
use Rattle.std.specs.Option.{option_map}
use Rattle.std.specs.Io.KnownBytes.{append_known}
use Rattle.frz_store.specs.Bytes.{MayBeHeld}
use Rattle.frz_store.specs.Files.{Files}

pub drop_none : (o : Option (List ℕ)) → o ≡ option_map (drop 0) o
drop_none None = refl
drop_none (Some x) = refl

pub append_nothing : (o : Option (List ℕ)) → o ≡ append_known o []
append_nothing None = refl
append_nothing (Some x) = ap Some (search rules)

pub append_twice : (o : Option (List ℕ)) (x y : List ℕ)
    → append_known (append_known o x) y ≡ append_known o (x ++ y)
append_twice None x y = refl
append_twice (Some t) x y = ap Some (append_assoc t x y)

pub with_line : (o : Option (List ℕ)) (x y : List ℕ) → x ≡ y → append_known o x ≡ append_known o y
with_line o x y e = ap (append_known o) e

pub with_start : (o : Option (List ℕ)) (k : ℕ) (x y : List ℕ) → x ≡ y
    → append_known o (take k x) ≡ append_known o (take k y)
with_start o k x y e = ap (λ (l : List ℕ). append_known o (take k l)) e

pub drop_twice : (o : Option (List ℕ)) (i j : ℕ)
    → option_map (drop j) (option_map (drop i) o) ≡ option_map (drop (i + j)) o
drop_twice None i j = refl
drop_twice (Some x) i j = ap Some (drop-drop j i x)

-- nothing stands in front
pub front_none : (o : Option (List ℕ)) → IfSome o (λ left. take (length {A = ℕ} []) left ≡ [])
front_none None = tt
front_none (Some left) = refl

-- one part and the next, taken one after the other, stand in front together
pub front_twice : (first next : List ℕ) (old mid : Option (List ℕ))
    → mid ≡ option_map (drop (length first)) old
    → IfSome old (λ left. take (length first) left ≡ first)
    → IfSome mid (λ left. take (length next) left ≡ next)
    → IfSome old (λ left. take (length (first ++ next)) left ≡ first ++ next)
front_twice first next None mid e h k = tt
front_twice first next (Some left) mid e h k =
    let then : take (length next) (drop (length first) left) ≡ next = subst
    (λ (o : Option (List ℕ)). IfSome o (λ left. take (length next) left ≡ next)) e k in
    ap (λ n. take n left) (length-append first next) ∙ take-add (length first) (length next) left
    ∙ ap (λ (l : List ℕ). l ++ take (length next) (drop (length first) left)) h
    ∙ ap (λ (l : List ℕ). first ++ l) then

-- and what is left stands behind both
pub left_twice : (first next : List ℕ) (old mid new : Option (List ℕ))
    → mid ≡ option_map (drop (length first)) old → new ≡ option_map (drop (length next)) mid
    → new ≡ option_map (drop (length (first ++ next))) old
left_twice first next old mid new h k =
    k ∙ ap (option_map (drop (length next))) h ∙ drop_twice old (length first) (length next)
    ∙ ap (λ n. option_map (drop n) old) (sym (length-append first next))

-- a text is not empty where what stands behind another is not
pub behind_said : (xs ys : List ℕ) → (ys ≡ [] → ⊥) → xs ++ ys ≡ [] → ⊥
behind_said [] ys said e = said e
behind_said (x ∷ xs) ys said e = cc

-- what is told, where it agrees
pub agreed : (o : Option Files) (m : Files) → MayBeHeld o m → o ≡ option_map (λ _. m) o
agreed None m e = refl
agreed (Some told) m e = ap (λ (f : Files). Some f) e
