-- The first separator of a text ends its first part.
use Rattle.std.proofs.Common.{◌≡◌, ℕ, suc, ◌+◌, ◌-◌, ◌<◌, ◌≤◌, Bool, true, false, cond, List, [], ◌∷◌, length, take, drop, refl, sym, ap, subst, ◌∙◌, Some, None, nat_lt, arith, add-one, length-drop}
use Rattle.std.proofs.Math.Seq.{take-length}
use Rattle.std.specs.Prelude.{not}
use Rattle.std.specs.List.{position, position_or_len}
use Rattle.std.proofs.lemmas.Bool.{ltb-true, ltb-false}
use Rattle.frz_words.specs.Parts.{with_first, split}

-- there is a part
abbrev pub HasPart : List (List ℕ) → Type 0
HasPart [] = ⊥
HasPart (part ∷ parts) = Unit {0}

first_some : (b : ℕ) (parts : List (List ℕ)) → HasPart (with_first b parts)
first_some b [] = tt
first_some b (part ∷ parts) = tt

chosen_some : (c : Bool) (b : ℕ) (parts : List (List ℕ)) →
    HasPart (cond c ([] ∷ parts) (with_first b parts))
chosen_some true b parts = tt
chosen_some false b parts = first_some b parts

pub split_some : (p : ℕ → Bool) (text : List ℕ) → HasPart (split p text)
split_some p [] = tt
split_some p (b ∷ bs) = chosen_some (p b) b (split p bs)

some_long : (parts : List (List ℕ)) → HasPart parts → 0 < length parts
some_long [] h = absurd h
some_long (part ∷ parts) h = omega arith

pub length-split : (p : ℕ → Bool) (text : List ℕ) → 0 < length (split p text)
length-split p text = some_long (split p text) (split_some p text)

-- a first byte that is no separator belongs to the first part
split_other : (p : ℕ → Bool) (b : ℕ) (bs : List ℕ) → p b ≡ false →
    split p (b ∷ bs) ≡ with_first b (split p bs)
split_other p b bs e = rw e refl

whole_case : (p : ℕ → Bool) (c : Bool) (b : ℕ) (bs : List ℕ) → p b ≡ c →
    length (b ∷ bs) ≤ cond (not c) (1 + position_or_len p bs) 0 →
    (length bs ≤ position_or_len p bs → split p bs ≡ bs ∷ []) → split p (b ∷ bs) ≡ (b ∷ bs) ∷ []
whole_case p true b bs e l h = absurd (omega arith)
whole_case p false b bs e l h = split_other p b bs e ∙ ap (with_first b) (h (omega arith))

split_whole : (p : ℕ → Bool) (text : List ℕ) → length text ≤ position_or_len p text →
    split p text ≡ text ∷ []
split_whole p [] l = refl
split_whole p (b ∷ bs) l = whole_case p (p b) b bs refl l (split_whole p bs)

-- the parts round the place n
abbrev CutsAt : (ℕ → Bool) → List ℕ → ℕ → Type 0
CutsAt p text n = split p text ≡ take n text ∷ split p (drop (suc n) text)

cuts_later : (p : ℕ → Bool) (b : ℕ) (bs : List ℕ) (n : ℕ) → p b ≡ false → CutsAt p bs n →
    CutsAt p (b ∷ bs) (suc n)
cuts_later p b bs n e h = split_other p b bs e ∙ ap (with_first b) h

cut_case : (p : ℕ → Bool) (c : Bool) (b : ℕ) (bs : List ℕ) → p b ≡ c →
    cond (not c) (1 + position_or_len p bs) 0 < length (b ∷ bs) →
    (position_or_len p bs < length bs → CutsAt p bs (position_or_len p bs)) →
    CutsAt p (b ∷ bs) (cond (not c) (1 + position_or_len p bs) 0)
cut_case p true b bs e l h = rw e refl
cut_case p false b bs e l h =
    let more : suc (position_or_len p bs) ≡ 1 + position_or_len p bs = omega arith in
    subst (CutsAt p (b ∷ bs)) more
    (cuts_later p b bs (position_or_len p bs) e (h (omega arith)))

split_cut : (p : ℕ → Bool) (text : List ℕ) → position_or_len p text < length text →
    CutsAt p text (position_or_len p text)
split_cut p [] l = absurd (omega arith)
split_cut p (b ∷ bs) l = cut_case p (p b) b bs refl l (split_cut p bs)

-- the slice from the place n on, as a program takes it
abbrev pub from_place : ℕ → List ℕ → List ℕ
from_place n text = take (length text - n) (drop n text)

pub from_place_drop : (n : ℕ) (text : List ℕ) → from_place n text ≡ drop n text
from_place_drop n text =
    subst (λ k. take k (drop n text) ≡ drop n text) (length-drop n text) (take-length (drop n text))

-- what `position` answers
absent_case : (c : Bool) (n len : ℕ) → nat_lt n len ≡ c → None ≡ cond c (Some n) None → len ≤ n
absent_case true n len e h = absurd cc
absent_case false n len e h = ltb-false n len e

present_case : (c : Bool) (n len i : ℕ) → nat_lt n len ≡ c → Some i ≡ cond c (Some n) None →
    (n ≡ i) × (n < len)
present_case true n len i e h = (cc, ltb-true n len e)
present_case false n len i e h = absurd cc

pub absent : (p : ℕ → Bool) (text : List ℕ) → None ≡ position p text →
    length text ≤ position_or_len p text
absent p text h =
    absent_case (nat_lt (position_or_len p text) (length text)) (position_or_len p text)
    (length text) refl h

pub present : (p : ℕ → Bool) (text : List ℕ) (i : ℕ) → Some i ≡ position p text →
    (position_or_len p text ≡ i) × (position_or_len p text < length text)
present p text i h =
    present_case (nat_lt (position_or_len p text) (length text)) (position_or_len p text)
    (length text) i refl h

pub split_absent : (p : ℕ → Bool) (text : List ℕ) → None ≡ position p text →
    split p text ≡ text ∷ []
split_absent p text h = split_whole p text (absent p text h)

pub split_present : (p : ℕ → Bool) (text : List ℕ) (i : ℕ) → Some i ≡ position p text →
    split p text ≡ take i text ∷ split p (from_place (i + 1) text)
split_present p text i h =
    let f = present p text i h in
    let cut : split p text ≡ take i text ∷ split p (drop (i + 1) text) = rw add-one
    (subst (CutsAt p text) f.0 (split_cut p text f.1)) in
    cut ∙ ap (λ rest. take i text ∷ split p rest) (sym (from_place_drop (i + 1) text))

pub present_within : (p : ℕ → Bool) (text : List ℕ) (i : ℕ) → Some i ≡ position p text →
    i < length text
present_within p text i h = let f = present p text i h in let l = f.1 in let e = f.0 in omega arith

pub ruleset splitting = (length-split, split_absent, split_present, present_within)
