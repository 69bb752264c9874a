-- That each call has one answer, which means what it is to mean: a line for each command.
use Rattle.std.proofs.Common.{ℕ, List, Option, Some, None}
use Rattle.frz_answer.specs.declared.words.Refusal.TheVariants.{NoCommand}
use Rattle.frz_answer.specs.Lawful.{IsLawful}
use Rattle.frz_answer.proofs.Lemmas.{refused_lawful}
use Rattle.frz_commands_atlas.proofs.Lemmas.{build_lawful, check_lawful, each_lawful, report_lawful, size_lawful}
use Rattle.frz_commands_inquiry.specs.Asking.{ask_words}
use Rattle.frz_commands_journeys.specs.Journeying.{line_words, play_words}
use Rattle.frz_commands_verdict.proofs.Lemmas.{premises_lawful}
use Rattle.frz_commands_verdict.proofs.Lemmas.{verdict_lawful}
use Rattle.frz_commands_inquiry.specs.Asking.{why_words}
use Rattle.frz_atlas_top.specs.declared.verb.Verb.{Verb}
use Rattle.frz_atlas_top.specs.declared.verb.Verb.TheVariants.{Build, Check, Query, Ask, Each, Line, Play, Why, Verdict, Premises, Report, Size}
use Rattle.frz_program.specs.Commands.{command_of}
use Rattle.frz_atlas_top.specs.Verbs.{verb_of}
use Rattle.frz_atlas_top.specs.Commands.{job_by, job_of}
use Rattle.frz_atlas_top.proofs.QueriesOnce.{query_lawful}

-- the laws of other crates that this one rests on
module _ (ask_lawful : (words : List (List ℕ)) → IsLawful (ask_words words))
    (line_lawful : (words : List (List ℕ)) → IsLawful (line_words words))
    (play_lawful : (words : List (List ℕ)) → IsLawful (play_words words))
    (why_lawful : (words : List (List ℕ)) → IsLawful (why_words words)) where
  by_command : (command : Option (Verb × List (List ℕ))) → IsLawful (job_by command)
  by_command (Some (Build, words)) = build_lawful words
  by_command (Some (Check, words)) = check_lawful words
  by_command (Some (Query, words)) = query_lawful words
  by_command (Some (Ask, words)) = ask_lawful words
  by_command (Some (Each, words)) = each_lawful words
  by_command (Some (Line, words)) = line_lawful words
  by_command (Some (Play, words)) = play_lawful words
  by_command (Some (Why, words)) = why_lawful words
  by_command (Some (Verdict, words)) = verdict_lawful words
  by_command (Some (Premises, words)) = premises_lawful words
  by_command (Some (Report, words)) = report_lawful words
  by_command (Some (Size, words)) = size_lawful words
  by_command None = refused_lawful NoCommand

  pub lawful_of : (words : List (List ℕ)) → IsLawful (job_of words)
  lawful_of words = by_command (command_of verb_of words)
