-- An answer of `ask` means what it is to mean.
use Rattle.std.proofs.Common.{◌≡◌, ◌<◌, ◌≤◌, refl, sym, ap, subst, ◌∙◌, ℕ, List, ◌++◌, take, length, map, Option, Ok, inl, inr}
use Rattle.std.proofs.Math.Seq.{take-length}
use Rattle.std.specs.Prelude.{codes}
use Rattle.frz_words.specs.Lines.{lines}
use Rattle.frz_store.specs.Files.{Files}
use Rattle.frz_table.specs.Opening.{Contents}
use Rattle.frz_atlas.specs.Behind.{TableBytes, backs_in}
use Rattle.frz_atlas.specs.Loading.{opened_all}
use Rattle.frz_answer.specs.Answers.{Answer}
use Rattle.frz_atlas_prelude.specs.OwnFiles.{OpensAsOwn}
use Rattle.frz_atlas_prelude.specs.TableRefusals.{TellsRefusal}
use Rattle.frz_atlas_prelude.proofs.Lemmas.{means_over, refusal_says}
use Rattle.frz_commands_why.specs.Meaning.{Opens}
use Rattle.frz_commands_inquiry.specs.declared.inquiring.Halt.{Halt}
use Rattle.frz_commands_inquiry.specs.declared.inquiring.Halt.TheVariants.{InputEnded, Lines, LineLength}
use Rattle.frz_commands_inquiry.specs.declared.inquiring.TheConstants.{MOST_LINES}
use Rattle.frz_board.specs.declared.man.Colour.TheVariants.{White, Black}
use Rattle.frz_index.proofs.Lemmas.{number_there, of_member}
use Rattle.frz_check.proofs.Lemmas.{bound_kept}
use Rattle.frz_atlas.specs.Codes.{codes_at}
use Rattle.frz_commands_why.specs.WhyOf.{value_behind}
use Rattle.frz_commands_inquiry.specs.AskOf.{IsAskedAt, IsAskedOver, answer_of, link_in}
use Rattle.frz_commands_inquiry.specs.Inquiries.{Inquiry, halt_status, inquiry}
use Rattle.frz_commands_inquiry.specs.Places.{found_or, outside_text}
use Rattle.frz_commands_inquiry.specs.Meaning.{MeansAsk, MeansStatus, WhereExact, bytes_of, reply_in, replies}
use Rattle.frz_commands_inquiry.proofs.LinesAnswered.{Answers, HaltsSo, lines_answered}

module _ (table : List ℕ) (behind : List (List ℕ)) (files : Files) (input : List ℕ) where
  module _ (opens : Opens table behind files) where
    abbrev reply : List ℕ → List ℕ
    reply = reply_in opens

    where_exact : WhereExact opens
    where_exact kept p inside =
        let contents = opens.contents in
        let bytes = opens.bytes in
        let value = value_behind contents bytes opens.tables in
        let own = link_in contents bytes in
        record {
          white = bound_kept value contents bytes kept White p inside;
          black = bound_kept value contents bytes kept Black p inside;
          told = ap (λ (o : Option ℕ). found_or (outside_text own (backs_in opens.tables) p)
              (codes_at own.back o))
              (number_there contents.rules.groups p
              (of_member contents.rules.groups p inside));
        }

    by_halt : (halt : Halt) (text : List ℕ) (taken answered : ℕ)
        → text ≡ replies reply (take answered (lines input))
        → HaltsSo halt answered MOST_LINES input taken
        → MeansStatus table behind files input
        (answer_of (record { text = text; halt = halt; taken = taken }) files) (halt_status halt)
    by_halt InputEnded text taken answered is h = record {
      open_all = opens;
      told = ap (λ (t : List ℕ). t ++ codes "input ended\n")
          (is ∙ ap (replies reply)
          (ap (λ n. take n (lines input)) h.0 ∙ take-length (lines input)));
      few = subst (λ n. n < MOST_LINES) h.0 h.1;
      all = h.2;
      where_exact = where_exact;
    }
    by_halt Lines text taken answered is h = record {
      open_all = opens;
      limit = inl (record {
        many = subst (λ n. n ≤ length (lines input)) h.0 h.1;
        told = ap (λ (t : List ℕ). t ++ codes "limit lines\n")
            (is ∙ ap (λ n. replies reply (take n (lines input))) h.0);
        taken = subst (λ n. taken ≤ bytes_of (take n (lines input))) h.0 h.2;
      });
      where_exact = where_exact;
    }
    by_halt LineLength text taken answered is h = record {
      open_all = opens;
      limit = inr (record {
        answered = answered;
        few = h.0;
        line = h.1.0;
        next = h.1.1;
        long = h.1.2;
        told = ap (λ (t : List ℕ). t ++ codes "limit line length\n") is;
        taken = h.2;
      });
      where_exact = where_exact;
    }

    inquired : (told : Inquiry) → Answers reply MOST_LINES input told
        → MeansAsk table behind files input (answer_of told files)
    inquired told h = record {
      same = refl;
      says = by_halt told.halt told.text told.taken h.answered h.text h.halts;
    }

  abbrev Means : Answer → Type 0
  Means a = MeansAsk table behind files input a

  opened_means : (a : Answer) (bytes : List ℕ) (contents : Contents) (tables : List TableBytes)
      → OpensAsOwn table files bytes contents → opened_all (map files behind) ≡ Ok tables
      → IsAskedOver input files contents bytes tables a → Means a
  opened_means a bytes contents tables open_file are e =
      let all : Opens table behind files = record {
        bytes = bytes;
        contents = contents;
        open_file = open_file;
        tables = tables;
        all_open = are;
      } in
      subst Means (sym e)
      (inquired all (inquiry (reply_in all) MOST_LINES input)
      (lines_answered (reply_in all) MOST_LINES input))

  refused_means : (a : Answer) → TellsRefusal table behind files a → Means a
  refused_means a r =
      let says = refusal_says (λ s. MeansStatus table behind files input a s) r r r in
      record { same = says.0; says = says.2 }

  pub ask_means : (a : Answer) → IsAskedAt table behind input files a → Means a
  ask_means a =
      means_over (IsAskedOver input files) table behind files a (Means a) (opened_means a)
      (refused_means a)
