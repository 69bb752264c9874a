-- That each call has one answer, which means what it is to mean: a line for each command.
use Rattle.std.proofs.Common.{ℕ, List, Option, Some, None}
use Rattle.frz_store.specs.Files.{Files}
use Rattle.frz_answer.specs.declared.words.Refusal.TheVariants.{NoCommand}
use Rattle.frz_answer.specs.Lawful.{IsLawful}
use Rattle.frz_answer.proofs.Lemmas.{refused_lawful}
use Rattle.frz_commands_ask.proofs.Lemmas.{chainquery_lawful, solve_lawful, query_lawful, report_lawful}
use Rattle.frz_commands_chain.proofs.Lemmas.{chain_lawful, chaincheck_lawful}
use Rattle.frz_commands_line.specs.Lining.{line_words}
use Rattle.frz_commands_line.specs.Playing.{play_words}
use Rattle.frz_commands_table.proofs.Lemmas.{check_lawful}
use Rattle.frz_commands_chess.proofs.Lemmas.{moves_lawful, sans_lawful}
use Rattle.frz_commands_chess.proofs.Lemmas.{move_lawful}
use Rattle.frz_commands_table.proofs.Lemmas.{build_lawful}
use Rattle.frz_commands_table.proofs.Lemmas.{migrate_lawful}
use Rattle.frz_commands_table.proofs.Lemmas.{sample_lawful}
use Rattle.frz_freezer_top.specs.declared.verb.Verb.{Verb}
use Rattle.frz_freezer_top.specs.declared.verb.Verb.TheVariants.{Solve, Moves, Sans, Move, Query, Line, Play, Check, Build, Migrate, Chain, ChainCheck, ChainQuery, Sample, Report}
use Rattle.frz_program.specs.Commands.{command_of}
use Rattle.frz_freezer_top.specs.Verbs.{verb_of}
use Rattle.frz_freezer_top.specs.Commands.{job_by, job_of}

-- the laws of other crates that this one rests on
module _ (line_lawful : (later : ℕ → Files) (words : List (List ℕ))
    → IsLawful (line_words later words))
    (play_lawful : (later : ℕ → Files) (words : List (List ℕ)) → IsLawful (play_words later words))
    (later : ℕ → Files) where
  by_command : (command : Option (Verb × List (List ℕ))) → IsLawful (job_by later command)
  by_command (Some (Solve, words)) = solve_lawful words
  by_command (Some (Moves, words)) = moves_lawful words
  by_command (Some (Sans, words)) = sans_lawful words
  by_command (Some (Move, words)) = move_lawful words
  by_command (Some (Query, words)) = query_lawful words
  by_command (Some (Line, words)) = line_lawful later words
  by_command (Some (Play, words)) = play_lawful later words
  by_command (Some (Check, words)) = check_lawful words
  by_command (Some (Build, words)) = build_lawful words
  by_command (Some (Migrate, words)) = migrate_lawful words
  by_command (Some (Chain, words)) = chain_lawful words
  by_command (Some (ChainCheck, words)) = chaincheck_lawful words
  by_command (Some (ChainQuery, words)) = chainquery_lawful words
  by_command (Some (Sample, words)) = sample_lawful words
  by_command (Some (Report, words)) = report_lawful words
  by_command None = refused_lawful NoCommand

  pub lawful_of : (words : List (List ℕ)) → IsLawful (job_of later words)
  lawful_of words = by_command (command_of verb_of words)
