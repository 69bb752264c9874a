-- The fields of a FEN text (PGN 16.1.3).
use Rattle.std.specs.Prelude.{ℕ, ◌==◌, List, [], ◌∷◌, filter, Option, None, Some}
use Rattle.frz_words.specs.Parts.{split}
use Rattle.frz_words.specs.Words.{has_bytes}

-- the longest runs of bytes other than the space
unfoldable pub fields : List ℕ → List (List ℕ)
fields text = filter has_bytes (split (λ b. b == 32) text)

-- what each field is for; the two numbers may only be left out together
pub record FieldTexts : Type 0 where
  pub placement : List ℕ
  pub turn : List ℕ
  pub castling : List ℕ
  pub target : List ℕ
  pub halfmove : Option (List ℕ)
  pub fullmove : Option (List ℕ)

-- the fields by their purpose, where there are four or six
unfoldable pub named : List (List ℕ) → Option FieldTexts
named (a ∷ b ∷ c ∷ d ∷ []) =
    Some (record {
      placement = a;
      turn = b;
      castling = c;
      target = d;
      halfmove = None;
      fullmove = None;
    })
named (a ∷ b ∷ c ∷ d ∷ e ∷ f ∷ []) =
    Some (record {
      placement = a;
      turn = b;
      castling = c;
      target = d;
      halfmove = Some e;
      fullmove = Some f;
    })
named _ = None

abbrev pub named_fields : List ℕ → Option FieldTexts
named_fields text = named (fields text)
