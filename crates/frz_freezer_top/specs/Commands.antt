-- What each command is to do: one line for each, whose job is defined in a module of its own.
use Rattle.std.specs.Prelude.{ℕ, List, Option, Some, None}
use Rattle.frz_store.specs.Files.{Files}
use Rattle.frz_answer.specs.declared.words.Refusal.TheVariants.{NoCommand}
use Rattle.frz_answer.specs.Jobs.{Job}
use Rattle.frz_answer.specs.Words.{refusing}
use Rattle.frz_commands_ask.specs.Meaning.{solve_words}
use Rattle.frz_commands_ask.specs.Querying.{chainquery_words, query_words}
use Rattle.frz_commands_ask.specs.Reporting.{report_words}
use Rattle.frz_commands_chain.specs.Chaining.{chain_words}
use Rattle.frz_commands_chain.specs.CheckMeans.{chaincheck_words}
use Rattle.frz_commands_line.specs.Lining.{line_words}
use Rattle.frz_commands_line.specs.Playing.{play_words}
use Rattle.frz_commands_table.specs.CheckMeans.{check_words}
use Rattle.frz_commands_chess.specs.Listing.{moves_words, sans_words}
use Rattle.frz_commands_chess.specs.Moving.{move_words}
use Rattle.frz_commands_table.specs.BuildMeaning.{build_words}
use Rattle.frz_commands_table.specs.MigrateMeans.{migrate_words}
use Rattle.frz_commands_table.specs.Sampling.{sample_words}
use Rattle.frz_program.specs.Commands.{command_of}
use Rattle.frz_freezer_top.specs.declared.verb.Verb.{Verb}
use Rattle.frz_freezer_top.specs.declared.verb.Verb.TheVariants.{Solve, Moves, Sans, Move, Query, Line, Play, Check, Build, Migrate, Chain, ChainCheck, ChainQuery, Sample, Report}
use Rattle.frz_freezer_top.specs.Verbs.{verb_of}

-- the job of a command and the words behind it. `later k` is what the store holds when a file is
-- read again after k plies
abbrev pub job_by : (later : ℕ → Files) → Option (Verb × List (List ℕ)) → Job
job_by later (Some (Solve, words)) = solve_words words
job_by later (Some (Moves, words)) = moves_words words
job_by later (Some (Sans, words)) = sans_words words
job_by later (Some (Move, words)) = move_words words
job_by later (Some (Query, words)) = query_words words
job_by later (Some (Line, words)) = line_words later words
job_by later (Some (Play, words)) = play_words later words
job_by later (Some (Check, words)) = check_words words
job_by later (Some (Build, words)) = build_words words
job_by later (Some (Migrate, words)) = migrate_words words
job_by later (Some (Chain, words)) = chain_words words
job_by later (Some (ChainCheck, words)) = chaincheck_words words
job_by later (Some (ChainQuery, words)) = chainquery_words words
job_by later (Some (Sample, words)) = sample_words words
job_by later (Some (Report, words)) = report_words words
job_by later None = refusing NoCommand

-- the job of the program's words; without a command they are refused
abbrev pub job_of : (later : ℕ → Files) → List (List ℕ) → Job
job_of later words = job_by later (command_of verb_of words)
