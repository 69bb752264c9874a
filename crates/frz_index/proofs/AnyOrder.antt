-- Men put on empty squares may be put in any order.
use Rattle.std.proofs.Common.{◌≡◌, ◌≢◌, ℕ, ◌<◌, Bool, true, false, ◌&&◌, List, [], ◌∷◌, ◌++◌, length, slice_index, slice_set, length-set, get_or-set_same, get_or-set_other, refl, ap, sym, ◌∙◌, subst, arith, inl, inr, append_assoc}
use Rattle.std.specs.Prelude.{◌==◌}
use Rattle.std.proofs.lemmas.Bool.{and_parts, cases_Bool, cases_eq}
use Rattle.std.proofs.lemmas.Bool.Decides.{nat_tests}
use Rattle.std.proofs.lemmas.Grind.{same_number_lists}
use Rattle.std.proofs.lemmas.List.{append-nil}

-- the cells are put on their squares
abbrev pub puts : List (ℕ × ℕ) → List ℕ → List ℕ
puts [] cells = cells
puts (e ∷ es) cells = puts es (slice_set cells e.0 e.1)

-- and find them empty
abbrev pub frees : List (ℕ × ℕ) → List ℕ → Bool
frees [] cells = true
frees (e ∷ es) cells = (slice_index cells e.0 == 0) && frees es (slice_set cells e.0 e.1)

-- a man on a square of the board
abbrev pub IsMan : ℕ × ℕ → Type 0
IsMan e = (e.0 < 64) × (0 < e.1)

abbrev pub AreMen : List (ℕ × ℕ) → Type 0
AreMen [] = Unit {0}
AreMen (e ∷ es) = IsMan e × AreMen es

-- both lists find their squares empty, or neither does; and then they lead to the same board
pub record Agree (xs ys : List (ℕ × ℕ)) (cells : List ℕ) : Type 0 where
  pub free : frees xs cells ≡ frees ys cells
  pub put : frees xs cells ≡ true → puts xs cells ≡ puts ys cells

pub agree_itself : (xs : List (ℕ × ℕ)) (cells : List ℕ) → Agree xs xs cells
agree_itself xs cells = record { free = refl; put = λ h. refl }

pub agree_trans : (xs ys zs : List (ℕ × ℕ)) (cells : List ℕ) → Agree xs ys cells →
    Agree ys zs cells → Agree xs zs cells
agree_trans xs ys zs cells a b = record {
  free = a.free ∙ b.free;
  put = λ h. a.put h ∙ b.put (sym a.free ∙ h);
}

agree_cons : (e : ℕ × ℕ) (xs ys : List (ℕ × ℕ)) (cells : List ℕ) →
    Agree xs ys (slice_set cells e.0 e.1) → Agree (e ∷ xs) (e ∷ ys) cells
agree_cons e xs ys cells a = record {
  free = ap (λ b. (slice_index cells e.0 == 0) && b) a.free;
  put = λ h. a.put (and_parts (slice_index cells e.0 == 0)
      (frees xs (slice_set cells e.0 e.1)) h).1;
}

pub puts_append : (xs ys : List (ℕ × ℕ)) (cells : List ℕ) →
    puts (xs ++ ys) cells ≡ puts ys (puts xs cells)
puts_append [] ys cells = refl
puts_append (e ∷ xs) ys cells = puts_append xs ys (slice_set cells e.0 e.1)

and_assoc : (a b c : Bool) → (a && (b && c)) ≡ ((a && b) && c)
and_assoc true b c = refl
and_assoc false b c = refl

pub frees_append : (xs ys : List (ℕ × ℕ)) (cells : List ℕ) →
    frees (xs ++ ys) cells ≡ (frees xs cells && frees ys (puts xs cells))
frees_append [] ys cells = refl
frees_append (e ∷ xs) ys cells =
    let next = slice_set cells e.0 e.1 in
    ap (λ b. (slice_index cells e.0 == 0) && b) (frees_append xs ys next)
    ∙ and_assoc (slice_index cells e.0 == 0) (frees xs next) (frees ys (puts xs next))

-- the same men go first
pub agree_after : (zs xs ys : List (ℕ × ℕ)) (cells : List ℕ) → Agree xs ys (puts zs cells) →
    Agree (zs ++ xs) (zs ++ ys) cells
agree_after [] xs ys cells a = a
agree_after (e ∷ zs) xs ys cells a =
    agree_cons e (zs ++ xs) (zs ++ ys) cells (agree_after zs xs ys (slice_set cells e.0 e.1) a)

-- the same men go last
pub agree_before : (xs ys zs : List (ℕ × ℕ)) (cells : List ℕ) → Agree xs ys cells →
    Agree (xs ++ zs) (ys ++ zs) cells
agree_before xs ys zs cells a = record {
  free = elim (cases_Bool (frees xs cells)) [
    | inl h ↦
        frees_append xs zs cells
        ∙ ap (λ b. b && frees zs (puts xs cells)) a.free
        ∙ ap (λ c. frees ys cells && frees zs c) (a.put h)
        ∙ sym (frees_append ys zs cells)
    | inr n ↦
        frees_append xs zs cells
        ∙ ap (λ b. b && frees zs (puts xs cells)) n
        ∙ sym (ap (λ b. b && frees zs (puts ys cells)) (sym a.free ∙ n))
        ∙ sym (frees_append ys zs cells)
  ];
  put = λ h.
      let parts = and_parts (frees xs cells) (frees zs (puts xs cells))
      (sym (frees_append xs zs cells) ∙ h) in
      puts_append xs zs cells ∙ ap (puts zs) (a.put parts.0) ∙ sym (puts_append ys zs cells);
}

and_false : (a : Bool) → (a && false) ≡ false
and_false true = refl
and_false false = refl

and_swap : (a b c : Bool) → (a && (b && c)) ≡ (b && (a && c))
and_swap true b c = refl
and_swap false true c = refl
and_swap false false c = refl

-- a man on the square keeps it from being empty
taken : (cells : List ℕ) (s x : ℕ) → length cells ≡ 64 → s < 64 → 0 < x →
    (slice_index (slice_set cells s x) s == 0) ≡ false
taken cells s x size low some =
    let there = get_or-set_same cells s x 0 (omega (arith, size, low)) in
    ap (λ y. y == 0) there ∙ grind (arith, nat_tests)

set_swap : (cells : List ℕ) (s t x y : ℕ) → length cells ≡ 64 → s < 64 → t < 64 → s ≢ t →
    slice_set (slice_set cells s x) t y ≡ slice_set (slice_set cells t y) s x
set_swap cells s t x y size ls lt other =
    same_number_lists (slice_set (slice_set cells s x) t y) (slice_set (slice_set cells t y) s x)
    (rw (length-set, length-set, length-set, length-set) refl)
    (λ k l. elim (cases_eq k t) [
      | inl e ↦
          ap (slice_index (slice_set (slice_set cells s x) t y)) e
          ∙ get_or-set_same (slice_set cells s x) t y 0 (rw length-set (omega (arith, size, lt)))
          ∙ sym (get_or-set_other (slice_set cells t y) s t x 0 (λ w. other (sym w))
          ∙ get_or-set_same cells t y 0 (omega (arith, size, lt)))
          ∙ ap (slice_index (slice_set (slice_set cells t y) s x)) (sym e)
      | inr n ↦ elim (cases_eq k s) [
        | inl e ↦
            ap (slice_index (slice_set (slice_set cells s x) t y)) e
            ∙ get_or-set_other (slice_set cells s x) t s y 0 other
            ∙ get_or-set_same cells s x 0 (omega (arith, size, ls))
            ∙ sym (get_or-set_same (slice_set cells t y) s x 0
            (rw length-set (omega (arith, size, ls))))
            ∙ ap (slice_index (slice_set (slice_set cells t y) s x)) (sym e)
        | inr m ↦
            get_or-set_other (slice_set cells s x) t k y 0 n
            ∙ get_or-set_other cells s k x 0 m
            ∙ sym (get_or-set_other (slice_set cells t y) s k x 0 m
            ∙ get_or-set_other cells t k y 0 n)
      ]
    ])

-- two men one after the other
swap_two : (a b : ℕ × ℕ) (es : List (ℕ × ℕ)) (cells : List ℕ) → length cells ≡ 64 → IsMan a →
    IsMan b → Agree (a ∷ b ∷ es) (b ∷ a ∷ es) cells
swap_two a b es cells size ma mb =
    let fa = slice_index cells a.0 == 0 in
    let fb = slice_index cells b.0 == 0 in
    let ca = slice_set cells a.0 a.1 in
    let cb = slice_set cells b.0 b.1 in
    elim (cases_eq a.0 b.0) [
      | inl e ↦
          let left : frees (a ∷ b ∷ es) cells ≡ false =
          ap (λ t. fa && (t && frees es (slice_set ca b.0 b.1)))
          (ap (λ s. slice_index ca s == 0) (sym e) ∙ taken cells a.0 a.1 size ma.0 ma.1)
          ∙ and_false fa in
          let right : frees (b ∷ a ∷ es) cells ≡ false =
          ap (λ t. fb && (t && frees es (slice_set cb a.0 a.1)))
          (ap (λ s. slice_index cb s == 0) e ∙ taken cells b.0 b.1 size mb.0 mb.1)
          ∙ and_false fb in
          record { free = left ∙ sym right; put = λ h. absurd cc }
      | inr n ↦
          let same = set_swap cells a.0 b.0 a.1 b.1 size ma.0 mb.0 n in
          record {
            free =
                ap (λ x. fa && ((x == 0) && frees es (slice_set ca b.0 b.1)))
                (get_or-set_other cells a.0 b.0 a.1 0 (λ w. n (sym w)))
                ∙ ap (λ c. fa && (fb && frees es c)) same
                ∙ and_swap fa fb (frees es (slice_set cb a.0 a.1))
                ∙ sym (ap (λ x. fb && ((x == 0) && frees es (slice_set cb a.0 a.1)))
                (get_or-set_other cells b.0 a.0 b.1 0 n));
            put = λ h. ap (puts es) same;
          }
    ]

-- a man goes last in place of first
swap_one : (a : ℕ × ℕ) (bs : List (ℕ × ℕ)) (cells : List ℕ) → length cells ≡ 64 → IsMan a →
    AreMen bs → Agree (a ∷ bs) (bs ++ a ∷ []) cells
swap_one a [] cells size ma mb = agree_itself (a ∷ []) cells
swap_one a (b ∷ bs) cells size ma mb =
    agree_trans (a ∷ b ∷ bs) (b ∷ a ∷ bs) (b ∷ (bs ++ a ∷ [])) cells
    (swap_two a b bs cells size ma mb.0)
    (agree_cons b (a ∷ bs) (bs ++ a ∷ []) cells
    (swap_one a bs (slice_set cells b.0 b.1) (length-set cells b.0 b.1 ∙ size) ma mb.1))

-- all men of one list go last in place of first
pub swap_all : (zs bs : List (ℕ × ℕ)) (cells : List ℕ) → length cells ≡ 64 → AreMen zs →
    AreMen bs → Agree (zs ++ bs) (bs ++ zs) cells
swap_all [] bs cells size ma mb =
    subst (λ xs. Agree bs xs cells) (sym (append-nil bs)) (agree_itself bs cells)
swap_all (a ∷ zs) bs cells size ma mb =
    let first = agree_cons a (zs ++ bs) (bs ++ zs) cells
    (swap_all zs bs (slice_set cells a.0 a.1) (length-set cells a.0 a.1 ∙ size) ma.1 mb) in
    let then = agree_before (a ∷ bs) (bs ++ a ∷ []) zs cells
    (swap_one a bs cells size ma.0 mb) in
    subst (λ xs. Agree (a ∷ (zs ++ bs)) xs cells) (append_assoc bs (a ∷ []) zs)
    (agree_trans (a ∷ (zs ++ bs)) ((a ∷ bs) ++ zs) ((bs ++ a ∷ []) ++ zs) cells first then)
