-- What each command is to do: one line for each, whose job is defined in a module of its own.
use Rattle.std.specs.Prelude.{ℕ, List, Option, Some, None}
use Rattle.frz_answer.specs.declared.words.Refusal.TheVariants.{NoCommand}
use Rattle.frz_answer.specs.Jobs.{Job}
use Rattle.frz_answer.specs.Words.{refusing}
use Rattle.frz_commands_ask.specs.Querying.{querying_words}
use Rattle.frz_commands_atlas.specs.Building.{build_words}
use Rattle.frz_commands_atlas.specs.CheckMeans.{check_words}
use Rattle.frz_commands_atlas.specs.EachMeans.{each_words}
use Rattle.frz_commands_atlas.specs.Reporting.{report_words}
use Rattle.frz_commands_atlas.specs.Sizing.{size_words}
use Rattle.frz_commands_inquiry.specs.Asking.{ask_words}
use Rattle.frz_commands_journeys.specs.Journeying.{line_words, play_words}
use Rattle.frz_commands_verdict.specs.Premising.{premises_words}
use Rattle.frz_commands_verdict.specs.Verdicting.{verdict_words}
use Rattle.frz_commands_inquiry.specs.Asking.{why_words}
use Rattle.frz_program.specs.Commands.{command_of}
use Rattle.frz_atlas_top.specs.declared.verb.Verb.{Verb}
use Rattle.frz_atlas_top.specs.declared.verb.Verb.TheVariants.{Build, Check, Query, Ask, Each, Line, Play, Why, Verdict, Premises, Report, Size}
use Rattle.frz_atlas_top.specs.Verbs.{verb_of}

-- the job of a command and the words behind it
abbrev pub job_by : Option (Verb × List (List ℕ)) → Job
job_by (Some (Build, words)) = build_words words
job_by (Some (Check, words)) = check_words words
job_by (Some (Query, words)) = querying_words None words
job_by (Some (Ask, words)) = ask_words words
job_by (Some (Each, words)) = each_words words
job_by (Some (Line, words)) = line_words words
job_by (Some (Play, words)) = play_words words
job_by (Some (Why, words)) = why_words words
job_by (Some (Verdict, words)) = verdict_words words
job_by (Some (Premises, words)) = premises_words words
job_by (Some (Report, words)) = report_words words
job_by (Some (Size, words)) = size_words words
job_by None = refusing NoCommand

-- the job of the program's words; without a command they are refused
abbrev pub job_of : List (List ℕ) → Job
job_of words = job_by (command_of verb_of words)
