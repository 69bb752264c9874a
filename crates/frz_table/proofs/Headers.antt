-- The header of a table file in its three pieces.
use Rattle.std.proofs.Common.{◌≡◌, ap, ◌∙◌, ℕ, List, [], ◌++◌, length, append_assoc, append-nil}
use Rattle.std.specs.Int.{w32, to_le_bytes}
use Rattle.frz_table.specs.Layout.{header_of}

-- what comes first: the magic and the length
abbrev pub front : List ℕ → List ℕ → List ℕ
front magic text = magic ++ to_le_bytes w32 (length text)

pub in_three : (magic text : List ℕ) (size : ℕ) → front magic text ++ (text ++ to_le_bytes w32 size)
    ≡ header_of magic text size
in_three magic text size =
    append_assoc magic (to_le_bytes w32 (length text)) (text ++ to_le_bytes w32 size)

pub behind_text : (magic text : List ℕ) (size : ℕ)
    → (front magic text ++ text) ++ to_le_bytes w32 size ≡ header_of magic text size
behind_text magic text size =
    append_assoc (front magic text) text (to_le_bytes w32 size) ∙ in_three magic text size

pub size_last : (magic text : List ℕ) (size : ℕ)
    → (front magic text ++ text) ++ (to_le_bytes w32 size ++ []) ≡ header_of magic text size
size_last magic text size = ap (λ (l : List ℕ). (front magic text ++ text) ++ l)
    (append-nil (to_le_bytes w32 size)) ∙ behind_text magic text size
