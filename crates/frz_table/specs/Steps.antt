-- What is known of a file after each step of opening it, and of its codes once they are loaded.
use Rattle.std.specs.Prelude.{ℕ, ◌+◌, ◌≡◌, ◌≤◌, List, length, take, Option, Err, IfSome}
use Rattle.frz_board.specs.declared.man.Colour.TheVariants.{White, Black}
use Rattle.frz_rules.specs.Text.{rules_of}
use Rattle.frz_rules.specs.declared.fault.RulesFault.{RulesFault}
use Rattle.frz_store.specs.Files.{Files}
use Rattle.frz_table.specs.Layout.{codes_at, due_length}
use Rattle.frz_table.specs.Numbers.{AreNumbers}
use Rattle.frz_table.specs.Opening.{Format, kept_length, kept_size}

-- the format refuses what the reader of rules refuses
pub record Refines (format : Format) : Type 0 where
  pub refuses : (text : List ℕ) (fault : RulesFault) → rules_of text ≡ Err fault
      → format.read text ≡ Err fault

-- there are `count` bytes, which begin with the magic, and `text_count` of them are the text
pub record HasHead (magic : List ℕ) (count text_count : ℕ) (bytes : List ℕ) : Type 0 where
  pub all : length bytes ≡ count
  pub enough : 16 + text_count ≤ count
  pub begins : take 8 bytes ≡ magic
  pub kept : kept_length bytes ≡ text_count
  pub short : text_count ≤ 65536

-- the size in the bytes is this one, and their length is the one that is due by it
pub record HasSize (text : List ℕ) (size : ℕ) (bytes : List ℕ) : Type 0 where
  pub sized : kept_size bytes ≡ size
  pub due : length bytes ≡ due_length text size

-- the lists are White's and Black's codes in the file of this name, text and size, if the store
-- tells
pub record AreLoaded (files : Option Files) (name text : List ℕ) (size : ℕ)
    (white black : List ℕ) : Type 0 where
  pub white_is : IfSome files
      (λ m. IfSome (m name) (λ bytes. white ≡ codes_at White text size bytes))
  pub black_is : IfSome files
      (λ m. IfSome (m name) (λ bytes. black ≡ codes_at Black text size bytes))
  pub white_long : length white ≡ size
  pub black_long : length black ≡ size
  pub white_fit : AreNumbers white
  pub black_fit : AreNumbers black
