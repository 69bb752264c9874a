-- What the answers of `query` and `chainquery` mean.
use Rattle.std.proofs.Common.{◌≡◌, ℕ, List, [], Bool, Result, true, false, Option, Some, None, Ok, Err, refl, sym, ap, subst, ◌∙◌, ◌++◌, codes}
use Rattle.frz_store.specs.Files.{Files}
use Rattle.frz_board.specs.declared.man.Colour.{Colour}
use Rattle.frz_board.specs.declared.man.Colour.TheVariants.{White, Black}
use Rattle.frz_board.specs.Boards.{Board}
use Rattle.frz_index.specs.Members.{Member}
use Rattle.frz_index.proofs.Lemmas.{member_of, of_member}
use Rattle.frz_arena.specs.declared.bound.Bound.{Bound}
use Rattle.frz_arena.specs.Codes.{code_of}
use Rattle.frz_game.specs.Numbers.{is_member}
use Rattle.frz_table.specs.declared.fault.TableFault.{TableFault}
use Rattle.frz_table.specs.declared.kind.FileKind.{FileKind}
use Rattle.frz_table.specs.Opening.{Contents, opened, format_for}
use Rattle.frz_table.proofs.Lemmas.{opened_missing}
use Rattle.frz_check.proofs.Lemmas.{bound_kept}
use Rattle.frz_answer.specs.declared.status.Status.{Status}
use Rattle.frz_answer.specs.Answers.{Answer}
use Rattle.frz_bound_lines.specs.BoundLines.{side_name, bound_line, bounds_text, kept_line, kept_text}
use Rattle.frz_prelude.specs.declared.refused.Refused.{Refused}
use Rattle.frz_bound_lines.proofs.BoundLines.{kept_bound}
use Rattle.frz_prelude.proofs.Lemmas.{bytes_status}
use Rattle.frz_prelude.specs.TableCauses.{table_line}
use Rattle.frz_commands_ask.specs.declared.kept.KeptCodes.{KeptCodes}
use Rattle.frz_commands_ask.specs.Kept.{kept_at, kept_by, kept_of, answer_by}
use Rattle.frz_commands_ask.specs.Meaning.{TellsBounds}
use Rattle.frz_commands_ask.specs.Querying.{MeansStatus, MeansQuery, TellsWhereExact}
use Rattle.frz_commands_ask.proofs.KeptFiles.{gives_outside, gives_codes}
use Rattle.frz_commands_ask.proofs.Meaning.{tells_bounds}

-- the line of a bound's code is that of the bound
line_of_bound : (side : Colour) (b : Bound) → kept_line side (code_of b) ≡ bound_line side b
line_of_bound side b = ap (λ (words : List ℕ). side_name side ++ words ++ codes "\n") (kept_bound b)

-- the codes of a position tell its bounds, where they are those of the tables
tells_exact : (contents : Contents) (bytes : List ℕ) (p : Board) → Member contents.rules.groups p
    → TellsWhereExact contents bytes p
    (kept_text (kept_at White contents bytes p) (kept_at Black contents bytes p))
tells_exact contents bytes p inside = λ value tables.
    let white = bound_kept value contents bytes tables White p inside in
    let black = bound_kept value contents bytes tables Black p inside in
    let text : kept_text (kept_at White contents bytes p) (kept_at Black contents bytes p)
    ≡ bounds_text white.bound black.bound =
    ap (λ (w : ℕ). kept_text w (kept_at Black contents bytes p)) white.is
    ∙ ap (λ (b : ℕ). kept_text (code_of white.bound) b) black.is
    ∙ ap (λ (w : List ℕ). w ++ kept_line Black (code_of black.bound))
    (line_of_bound White white.bound)
    ∙ ap (λ (b : List ℕ). bound_line White white.bound ++ b) (line_of_bound Black black.bound) in
    subst (λ (t : List ℕ). TellsBounds contents.rules value p t) (sym text)
    (tells_bounds contents.rules value p white.bound black.bound inside
    (record { white_is = white.of; black_is = black.of }))

module _ (kind : Option FileKind) (table : List ℕ) (p : Board) (files : Files) where
  means_so : (a : Answer) → a.files ≡ files → a.taken ≡ 0
      → MeansStatus kind table p files a.status a.text → MeansQuery kind table p files a
  means_so a same untaken says = record { same = same; untaken = untaken; says = says }

  by_member : (bytes : List ℕ) → files table ≡ Some bytes → (contents : Contents)
      → opened (format_for kind) (Some bytes) ≡ Ok contents
      → (inside : Bool) → is_member contents.rules.groups p ≡ inside
      → MeansQuery kind table p files (answer_by (kept_of kind p (Some bytes)) files)
  by_member bytes there contents opens true e =
      let inside = member_of contents.rules.groups p e in
      let codes : KeptCodes =
      record {
        white = kept_at White contents bytes p;
        black = kept_at Black contents bytes p;
      } in
      subst (λ (r : Result KeptCodes Refused). MeansQuery kind table p files (answer_by r files))
      (sym (gives_codes kind contents bytes p opens codes inside refl refl))
      (means_so _ refl refl (record {
        bytes = bytes;
        contents = contents;
        open_file = record { there = there; opens = opens };
        inside = inside;
        told = refl;
        where_exact = tells_exact contents bytes p inside;
      }))
  by_member bytes there contents opens false e =
      let none : Member contents.rules.groups p
      → ⊥ = λ inside. (let no : false ≡ true = sym e ∙ of_member contents.rules.groups p
      inside in cc) in
      subst (λ (r : Result KeptCodes Refused). MeansQuery kind table p files (answer_by r files))
      (sym (gives_outside kind contents bytes p opens none))
      (means_so _ refl refl (record {
        bytes = bytes;
        contents = contents;
        open_file = record { there = there; opens = opens };
        outside = none;
      }))

  by_opening : (bytes : List ℕ) → files table ≡ Some bytes → (x : Result Contents TableFault)
      → opened (format_for kind) (Some bytes) ≡ x
      → MeansQuery kind table p files (answer_by (kept_of kind p (Some bytes)) files)
  by_opening bytes there (Ok contents) e =
      by_member bytes there contents e (is_member contents.rules.groups p) refl
  by_opening bytes there (Err fault) e =
      subst (λ (x : Result Contents TableFault). MeansQuery kind table p files
      (answer_by (kept_by x bytes p) files)) (sym e)
      (means_so _ refl refl
      (subst (λ (s : Status). MeansStatus kind table p files s (table_line fault))
      (sym (bytes_status (format_for kind) bytes fault e))
      (record { bytes = bytes; there = there; fault = fault; refused = e; told = refl })))

  by_file : (held : Option (List ℕ)) → files table ≡ held
      → MeansQuery kind table p files (answer_by (kept_of kind p held) files)
  by_file None e =
      subst (λ (x : Result Contents TableFault). MeansQuery kind table p files
      (answer_by (kept_by x [] p) files)) (sym (opened_missing (format_for kind)))
      (means_so _ refl refl e)
  by_file (Some bytes) e = by_opening bytes e (opened (format_for kind) (Some bytes)) refl

pub query_means : (kind : Option FileKind) (table : List ℕ) (p : Board) (files : Files) (a : Answer)
    → a ≡ answer_by (kept_of kind p (files table)) files
    → MeansQuery kind table p files a
query_means kind table p files a e = subst (λ (x : Answer). MeansQuery kind table p files x) (sym e)
    (by_file kind table p files (files table) refl)
