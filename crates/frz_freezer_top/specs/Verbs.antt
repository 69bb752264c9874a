-- The names of the commands.
use Rattle.std.specs.Prelude.{ℕ, List, Option, Some, None, if◌then◌else◌, codes}
use Rattle.std.specs.Str.{bytes_eq}
use Rattle.frz_freezer_top.specs.declared.verb.Verb.{Verb}
use Rattle.frz_freezer_top.specs.declared.verb.Verb.TheVariants.{Solve, Moves, Sans, Move, Query, Line, Play, Check, Build, Migrate, Chain, ChainCheck, ChainQuery, Sample, Report}

abbrev pub verb_of : List ℕ → Option Verb
verb_of word =
    if bytes_eq word (codes "solve") then Some Solve else
    (if bytes_eq word (codes "moves") then Some Moves else
    (if bytes_eq word (codes "sans") then Some Sans else
    (if bytes_eq word (codes "move") then Some Move else
    (if bytes_eq word (codes "query") then Some Query else
    (if bytes_eq word (codes "line") then Some Line else
    (if bytes_eq word (codes "play") then Some Play else
    (if bytes_eq word (codes "check") then Some Check else
    (if bytes_eq word (codes "build") then Some Build else
    (if bytes_eq word (codes "migrate") then Some Migrate else
    (if bytes_eq word (codes "chain") then Some Chain else
    (if bytes_eq word (codes "chaincheck") then Some ChainCheck else
    (if bytes_eq word (codes "chainquery") then Some ChainQuery else
    (if bytes_eq word (codes "sample") then Some Sample else
    (if bytes_eq word (codes "report") then Some Report else None))))))))))))))
