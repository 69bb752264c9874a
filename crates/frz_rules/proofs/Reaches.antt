-- The reach of a form is the greatest number of first words that begin a line of it.
use Rattle.std.proofs.Common.{◌≡◌, ℕ, zero, suc, ◌+◌, ◌≤◌, Bool, true, false, cond, List, [], ◌∷◌, ◌++◌, length, take, refl, arith, inl, inr}
use Rattle.std.specs.List.{list_all}
use Rattle.std.proofs.lemmas.Bool.{and_parts, or_cases, or_right}
use Rattle.std.proofs.lemmas.Bool.Decides.{leb_tells}
use Rattle.std.specs.Prelude.{codes}
use Rattle.frz_words.specs.Numbers.{number_of}
use Rattle.frz_words.specs.Squares.{squares_of, set_of}
use Rattle.frz_rules.specs.Grammar.{Form, fits, reach, line_form, group_form, forbid_form, exit_form, if_form}
use Rattle.frz_rules.specs.Grammar.Form.{Ends, Then, Many, Or}
use Rattle.frz_rules.specs.Fronts.{FrontFits, IsGreatestFront}

-- each class has a word
abbrev pub IsPossible : Form → Type 0
IsPossible Ends = Unit {0}
IsPossible (Then p f) = ((w : List ℕ) × (p w ≡ true)) × IsPossible f
IsPossible (Many p) = (w : List ℕ) × (p w ≡ true)
IsPossible (Or f g) = IsPossible f × IsPossible g

one_more : (b : Bool) (m n : ℕ) → m ≤ n → cond b (1 + m) 0 ≤ suc n
one_more true m n h = omega arith
one_more false m n h = omega arith

many_within : (p : List ℕ → Bool) (ws rest : List (List ℕ)) (n : ℕ) → n ≤ length ws →
    list_all p (take n ws ++ rest) ≡ true → n ≤ reach (Many p) ws
many_within p ws rest zero l e = omega arith
many_within p [] rest (suc n) l e = absurd (omega arith)
many_within p (w ∷ ws) rest (suc n) l e =
    let h = and_parts (p w) (list_all p (take n ws ++ rest)) e in
    let i : n ≤ reach (Many p) ws = many_within p ws rest n (omega arith) h.1 in
    rw h.0 (omega arith)

within : (f : Form) (ws rest : List (List ℕ)) (n : ℕ) → n ≤ length ws →
    fits f (take n ws ++ rest) ≡ true → n ≤ reach f ws
within Ends ws rest zero l e = omega arith
within Ends [] rest (suc n) l e = absurd (omega arith)
within Ends (w ∷ ws) rest (suc n) l e = absurd cc
within (Then p f) ws rest zero l e = omega arith
within (Then p f) [] rest (suc n) l e = absurd (omega arith)
within (Then p f) (w ∷ ws) rest (suc n) l e =
    let h = and_parts (p w) (fits f (take n ws ++ rest)) e in
    let i : n ≤ reach f ws = within f ws rest n (omega arith) h.1 in
    rw h.0 (omega arith)
within (Many p) ws rest zero l e = omega arith
within (Many p) [] rest (suc n) l e = absurd (omega arith)
within (Many p) (w ∷ ws) rest (suc n) l e = many_within p (w ∷ ws) rest (suc n) l e
within (Or f g) ws rest n l e =
    elim (or_cases (fits f (take n ws ++ rest)) (fits g (take n ws ++ rest)) e) [
      | inl h ↦ (let i = within f ws rest n l h in omega arith)
      | inr h ↦ (let i = within g ws rest n l h in omega arith)
    ]

many_begins : (p : List ℕ → Bool) (b : Bool) (w : List ℕ) (ws : List (List ℕ)) (n : ℕ) → p w ≡ b →
    suc n ≤ cond b (1 + reach (Many p) ws) 0 →
    (n ≤ reach (Many p) ws → list_all p (take n ws ++ []) ≡ true) →
    list_all p (take (suc n) (w ∷ ws) ++ []) ≡ true
many_begins p true w ws n e h k = let l : n ≤ reach (Many p) ws = omega arith in rw e (k l)
many_begins p false w ws n e h k = absurd (omega arith)

all_begin : (p : List ℕ → Bool) (ws : List (List ℕ)) (n : ℕ) → n ≤ reach (Many p) ws →
    list_all p (take n ws ++ []) ≡ true
all_begin p ws zero h = refl
all_begin p [] (suc n) h = refl
all_begin p (w ∷ ws) (suc n) h = many_begins p (p w) w ws n refl h (λ l. all_begin p ws n l)

then_begins : (p : List ℕ → Bool) (f : Form) (b : Bool) (w : List ℕ) (ws : List (List ℕ)) (n : ℕ) →
    p w ≡ b → suc n ≤ cond b (1 + reach f ws) 0 → (n ≤ reach f ws → FrontFits f ws n) →
    FrontFits (Then p f) (w ∷ ws) (suc n)
then_begins p f true w ws n e h k = let l : n ≤ reach f ws = omega arith in ((k l).0, rw e (k l).1)
then_begins p f false w ws n e h k = absurd (omega arith)

begins : (f : Form) → IsPossible f → (ws : List (List ℕ)) (n : ℕ) → n ≤ reach f ws
    → FrontFits f ws n
begins Ends i ws zero h = ([], refl)
begins Ends i ws (suc n) h = absurd (omega arith)
begins (Then p f) i ws zero h =
    let r = begins f i.1 [] 0 (omega arith) in (i.0.0 ∷ r.0, rw i.0.1 r.1)
begins (Then p f) i [] (suc n) h = absurd (omega arith)
begins (Then p f) i (w ∷ ws) (suc n) h =
    then_begins p f (p w) w ws n refl h (λ l. begins f i.1 ws n l)
begins (Many p) i ws zero h = (i.0 ∷ [], rw i.1 refl)
begins (Many p) i [] (suc n) h = absurd (omega arith)
begins (Many p) i (w ∷ ws) (suc n) h = ([], all_begin p (w ∷ ws) (suc n) h)
begins (Or f g) i ws n h =
    elim (leb_tells n (reach f ws)) [
      | inl l ↦ (let r = begins f i.0 ws n l.1 in (r.0, rw r.1 refl))
      | inr l ↦ (let r = begins g i.1 ws n (let k = l.1 in omega arith) in
          (r.0, or_right (fits f (take n ws ++ r.0)) (fits g (take n ws ++ r.0)) r.1))
    ]

reach_within : (f : Form) (ws : List (List ℕ)) → reach f ws ≤ length ws
reach_within Ends ws = omega arith
reach_within (Then p f) [] = omega arith
reach_within (Then p f) (w ∷ ws) = one_more (p w) (reach f ws) (length ws) (reach_within f ws)
reach_within (Many p) [] = omega arith
reach_within (Many p) (w ∷ ws) =
    one_more (p w) (reach (Many p) ws) (length ws) (reach_within (Many p) ws)
reach_within (Or f g) ws = let m = reach_within f ws in let n = reach_within g ws in omega arith

-- the reach of a form is the greatest front
pub greatest_front : (f : Form) → IsPossible f → (ws : List (List ℕ)) →
    IsGreatestFront f ws (reach f ws)
greatest_front f i ws = record {
  within = reach_within f ws;
  begins = begins f i ws (reach f ws) (omega arith);
  greatest = λ m l b. within f ws b.0 m l b.1;
}

conds_possible : IsPossible if_form
unfolding number_of squares_of set_of
conds_possible = ((codes "if", refl), (codes "always", refl))

group_possible : IsPossible group_form
unfolding number_of squares_of set_of
group_possible = ((codes "white", refl), ((codes "1", refl), (codes "K:a1", refl)))

forbid_possible : IsPossible forbid_form
unfolding number_of squares_of set_of
forbid_possible = (
  (codes "white", refl),
  (
    (codes "K", refl),
    (
      (codes "from", refl),
      (
        (codes "a1", refl),
        (
          (codes "to", refl),
          (
            (codes "a1", refl),
            (tt, (((codes "capture", refl), tt), ((codes "promotion", refl), tt))),
          ),
        ),
      ),
    ),
  ),
)

exit_possible : IsPossible exit_form
unfolding number_of squares_of set_of
exit_possible = (
  ((codes "draw", refl), conds_possible),
  (
    ((codes "unknown", refl), conds_possible),
    (
      (codes "white", refl),
      (
        ((codes "holds", refl), conds_possible),
        ((codes "wins", refl), (conds_possible, ((codes "1", refl), conds_possible))),
      ),
    ),
  ),
)

pub line_possible : IsPossible line_form
unfolding line_form
line_possible = (
  ((codes "group", refl), group_possible),
  (((codes "forbid", refl), forbid_possible), ((codes "exit", refl), exit_possible)),
)
