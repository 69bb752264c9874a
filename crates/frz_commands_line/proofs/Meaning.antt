-- What an answer means that goes by how a table file opens.
use Rattle.std.proofs.Common.{◌≡◌, ℕ, List, Bool, true, false, Option, Some, None, Result, Ok, Err, refl, sym, subst, ◌∙◌}
use Rattle.frz_board.specs.declared.man.Colour.{Colour}
use Rattle.frz_board.specs.Boards.{Board}
use Rattle.frz_index.specs.Members.{Member}
use Rattle.frz_index.proofs.Lemmas.{member_of, of_member}
use Rattle.frz_game.specs.Numbers.{is_member}
use Rattle.frz_store.specs.Files.{Files}
use Rattle.frz_table.specs.declared.fault.TableFault.{TableFault}
use Rattle.frz_table.specs.declared.fault.TableFault.TheVariants as table
use Rattle.frz_table.specs.declared.kind.FileKind.TheVariants.{Plain}
use Rattle.frz_table.specs.Opening.{Contents, opened, table_format}
use Rattle.frz_table.proofs.Lemmas.{opened_missing}
use Rattle.frz_answer.specs.declared.status.Status.{Status}
use Rattle.frz_answer.specs.declared.status.Status.TheVariants as statuses
use Rattle.frz_answer.specs.Answers.{Answer, says}
use Rattle.frz_prelude.specs.Refusals.{status_of, refusal_line}
use Rattle.frz_prelude.specs.TableCauses.{table_line}
use Rattle.frz_prelude.specs.TableFiles.{OpensAs, TellsTableFault}
use Rattle.frz_prelude.specs.declared.refused.Refused.TheVariants as refusals
use Rattle.frz_prelude.proofs.Lemmas.{refused_means}
use Rattle.frz_ways.specs.declared.opponent.Opponent.{Opponent}
use Rattle.frz_commands_line.specs.Later.{held_later}
use Rattle.frz_commands_line.specs.LineMeaning.{TellsOutside}
use Rattle.frz_commands_line.specs.WayOf.{IsTold, IsToldBy, IsToldAt}
use Rattle.frz_commands_line.proofs.WayAnswered.{ByMember}

-- what an answer means by its status
module _ (opponent : Opponent) (later : ℕ → Files) (name : List ℕ) (side : Colour) (p : Board)
    (files : Files) (input : List ℕ) (a : Answer) (Says : Status → List ℕ → Type 0)
    {Meaning : Type 0}
    (so : (status : Status) (text : List ℕ) → a ≡ says status text files → Says status text
    → Meaning)
    (missing : (text : List ℕ) → files name ≡ None → Says statuses.Missing text)
    (refused : (text : List ℕ) → TellsTableFault name files text → Says statuses.Table text)
    (outside : (text : List ℕ) → TellsOutside name p files text → Says statuses.Outside text)
    (inside : (bytes : List ℕ) (contents : Contents) → OpensAs name files bytes contents
    → Member contents.rules.groups p
    → IsTold opponent contents (held_later later name) side p files input a → Meaning) where
  by_member : (bytes : List ℕ) (contents : Contents) → OpensAs name files bytes contents
      → (b : Bool) → is_member contents.rules.groups p ≡ b
      → ByMember opponent contents (held_later later name) side p files input a b → Meaning
  by_member bytes contents open_file true e h =
      inside bytes contents open_file (member_of contents.rules.groups p e) h
  by_member bytes contents open_file false e h =
      so statuses.Outside (refusal_line refusals.Outside) h
      (outside (refusal_line refusals.Outside) (record {
        bytes = bytes;
        contents = contents;
        open_file = open_file;
        outside = λ member.
            let no : false ≡ true = sym e ∙ of_member contents.rules.groups p member in cc;
        told = refl;
      }))

  by_bytes : (bytes : List ℕ) → files name ≡ Some bytes → (x : Result Contents TableFault)
      → opened (table_format Plain) (Some bytes) ≡ x
      → IsToldBy opponent x (held_later later name) side p files input a → Meaning
  by_bytes bytes there (Ok contents) opens h =
      by_member bytes contents (record { there = there; opens = opens })
      (is_member contents.rules.groups p) refl h
  by_bytes bytes there (Err fault) e h =
      so (status_of (refusals.Table fault)) (refusal_line (refusals.Table fault)) h
      (refused_means Plain name files Says refused bytes there fault e)

  by_held : (held : Option (List ℕ)) → files name ≡ held
      → IsToldBy opponent (opened (table_format Plain) held) (held_later later name) side p files
      input a → Meaning
  by_held None e h =
      so statuses.Missing (table_line table.Missing)
      (subst (λ (x : Result Contents TableFault).
      IsToldBy opponent x (held_later later name) side p files input a)
      (opened_missing (table_format Plain)) h) (missing (table_line table.Missing) e)
  by_held (Some bytes) e h = by_bytes bytes e (opened (table_format Plain) (Some bytes)) refl h

  pub means_by : IsToldAt opponent later name side p files input a → Meaning
  means_by h = by_held (files name) refl h
