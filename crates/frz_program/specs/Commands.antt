-- The command that the words of the command line name.
use Rattle.std.specs.Prelude.{ℕ, List, [], ◌∷◌, Option, None}
use Rattle.std.specs.Option.{option_map}

-- the command that the first word names, and the words behind it
abbrev pub command_of : {C : Type 0} → (List ℕ → Option C) → List (List ℕ)
    → Option (C × List (List ℕ))
command_of named_by [] = None
command_of named_by (word ∷ words) = option_map (λ command. (command, words)) (named_by word)
