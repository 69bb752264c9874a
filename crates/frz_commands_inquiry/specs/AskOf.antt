-- What `ask TABLE BACK ..` answers, by what the names hold. No file changes.
use Rattle.std.specs.Prelude.{◌≡◌, ℕ, List, ◌++◌}
use Rattle.frz_store.specs.Files.{Files}
use Rattle.frz_table.specs.Opening.{Contents}
use Rattle.frz_atlas.specs.Books.{Back}
use Rattle.frz_atlas.specs.Links.{Link}
use Rattle.frz_atlas.specs.Behind.{TableBytes, backs_in, link_of}
use Rattle.frz_answer.specs.Answers.{Answer}
use Rattle.frz_atlas_prelude.specs.Over.{IsAnswerOver}
use Rattle.frz_commands_inquiry.specs.Inquiries.{Inquiry, halt_line, halt_status, inquiry}
use Rattle.frz_commands_inquiry.specs.Places.{reply_to}
use Rattle.frz_commands_inquiry.specs.declared.inquiring.TheConstants.{MOST_LINES}

-- the replies, and the line that says why there are no more
abbrev pub answer_of : Inquiry → Files → Answer
answer_of told files = record {
  status = halt_status told.halt;
  text = told.text ++ halt_line told.halt;
  files = files;
  taken = told.taken;
}

-- the table in these bytes
abbrev pub link_in : Contents → (bytes : List ℕ) → Link
link_in contents bytes = link_of (record { bytes = bytes; contents = contents })

-- the answer by a table that is open over these
abbrev pub asked_over : Link → List Back → (input : List ℕ) → Files → Answer
asked_over own backs input files =
    answer_of (inquiry (reply_to own backs) MOST_LINES input) files

-- the answer where TABLE and the BACKs open
abbrev pub IsAskedOver : (input : List ℕ) → Files → Contents → (bytes : List ℕ) →
    List TableBytes → Answer → Type 0
IsAskedOver input files contents bytes tables a =
    a ≡ asked_over (link_in contents bytes) (backs_in tables) input files

-- the answer on the files that have the names
abbrev pub IsAskedAt : List ℕ → List (List ℕ) → (input : List ℕ) → Files → Answer → Type 0
IsAskedAt table behind input files a =
    IsAnswerOver (IsAskedOver input files) table behind files a
