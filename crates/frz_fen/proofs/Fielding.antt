-- The fields of a text, one after the other.
use Rattle.std.proofs.Common.{◌≡◌, ℕ, ◌<◌, List, [], ◌∷◌, length, None, Some, refl, arith}
use Rattle.std.specs.Prelude.{◌==◌}
use Rattle.frz_words.specs.Parts.{split}
use Rattle.frz_fen.specs.Fields.{fields, named}

abbrev parts : List ℕ → List (List ℕ)
parts text = split (λ b. b == 32) text

-- an empty part is no field
pub fields_skip : (text part rest : List ℕ) → parts text ≡ part ∷ parts rest → length part ≡ 0 →
    fields text ≡ fields rest
unfolding fields
fields_skip text [] rest e l = rw e refl
fields_skip text (b ∷ bs) rest e l = absurd (omega arith)

pub fields_first : (text part rest : List ℕ) → parts text ≡ part ∷ parts rest → 0 < length part →
    fields text ≡ part ∷ fields rest
unfolding fields
fields_first text [] rest e l = absurd (omega arith)
fields_first text (b ∷ bs) rest e l = rw e refl

pub fields_last : (text : List ℕ) → parts text ≡ text ∷ [] → 0 < length text →
    fields text ≡ text ∷ fields []
unfolding fields
fields_last [] e l = absurd (omega arith)
fields_last (b ∷ bs) e l = rw e refl

pub fields_none : (text : List ℕ) → length text ≡ 0 → fields text ≡ []
unfolding fields
fields_none [] l = refl
fields_none (b ∷ bs) l = absurd (omega arith)

pub ruleset fielding = (fields_skip, fields_first, fields_last, fields_none)

-- too few fields, four, five, six, or more
pub named_nil : (xs : List (List ℕ)) → xs ≡ [] → named xs ≡ None
unfolding named
named_nil xs e = rw e refl

pub named_one : (xs ys : List (List ℕ)) (a : List ℕ) → xs ≡ a ∷ ys → ys ≡ [] → named xs ≡ None
unfolding named
named_one xs ys a e f = rw (e, f) refl

pub named_two : (xs ys zs : List (List ℕ)) (a b : List ℕ) → xs ≡ a ∷ ys → ys ≡ b ∷ zs → zs ≡ [] →
    named xs ≡ None
unfolding named
named_two xs ys zs a b e f g = rw (e, f, g) refl

pub named_three : (xs ys zs us : List (List ℕ)) (a b c : List ℕ) → xs ≡ a ∷ ys → ys ≡ b ∷ zs →
    zs ≡ c ∷ us → us ≡ [] → named xs ≡ None
unfolding named
named_three xs ys zs us a b c e f g h = rw (e, f, g, h) refl

pub four_fields : (xs ys zs us vs : List (List ℕ)) (a b c d : List ℕ) → xs ≡ a ∷ ys → ys ≡ b ∷ zs →
    zs ≡ c ∷ us → us ≡ d ∷ vs → xs ≡ a ∷ b ∷ c ∷ d ∷ vs
four_fields xs ys zs us vs a b c d e f g h = rw (e, f, g, h) refl

pub named_four : (xs vs : List (List ℕ)) (a b c d : List ℕ) → xs ≡ a ∷ b ∷ c ∷ d ∷ vs → vs ≡ []
    → named xs ≡ Some
    (record { placement = a; turn = b; castling = c; target = d; halfmove = None; fullmove = None })
unfolding named
named_four xs vs a b c d e f = rw (e, f) refl

pub named_five : (xs vs ws : List (List ℕ)) (a b c d h : List ℕ) → xs ≡ a ∷ b ∷ c ∷ d ∷ vs →
    vs ≡ h ∷ ws → ws ≡ [] → named xs ≡ None
unfolding named
named_five xs vs ws a b c d h e f g = rw (e, f, g) refl

pub named_six : (xs vs ws us : List (List ℕ)) (a b c d h m : List ℕ) → xs ≡ a ∷ b ∷ c ∷ d ∷ vs
    → vs ≡ h ∷ ws → ws ≡ m ∷ us → us ≡ []
    → named xs ≡ Some
    (record {
      placement = a;
      turn = b;
      castling = c;
      target = d;
      halfmove = Some h;
      fullmove = Some m;
    })
unfolding named
named_six xs vs ws us a b c d h m e f g k = rw (e, f, g, k) refl

pub named_more : (xs vs ws us ts : List (List ℕ)) (a b c d h m n : List ℕ) →
    xs ≡ a ∷ b ∷ c ∷ d ∷ vs → vs ≡ h ∷ ws → ws ≡ m ∷ us → us ≡ n ∷ ts → named xs ≡ None
unfolding named
named_more xs vs ws us ts a b c d h m n e f g k = rw (e, f, g, k) refl

pub ruleset naming = (
  named_nil,
  named_one,
  named_two,
  named_three,
  four_fields,
  named_four,
  named_five,
  named_six,
  named_more,
)
