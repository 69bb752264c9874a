-- The names of the commands.
use Rattle.std.specs.Prelude.{ℕ, List, Option, Some, None, if◌then◌else◌, codes}
use Rattle.std.specs.Str.{bytes_eq}
use Rattle.frz_atlas_top.specs.declared.verb.Verb.{Verb}
use Rattle.frz_atlas_top.specs.declared.verb.Verb.TheVariants.{Build, Check, Query, Ask, Each, Line, Play, Why, Verdict, Premises, Report, Size}

abbrev pub verb_of : List ℕ → Option Verb
verb_of word =
    if bytes_eq word (codes "build") then Some Build else
    (if bytes_eq word (codes "check") then Some Check else
    (if bytes_eq word (codes "query") then Some Query else
    (if bytes_eq word (codes "ask") then Some Ask else
    (if bytes_eq word (codes "each") then Some Each else
    (if bytes_eq word (codes "line") then Some Line else
    (if bytes_eq word (codes "play") then Some Play else
    (if bytes_eq word (codes "why") then Some Why else
    (if bytes_eq word (codes "verdict") then Some Verdict else
    (if bytes_eq word (codes "premises") then Some Premises else
    (if bytes_eq word (codes "report") then Some Report else
    (if bytes_eq word (codes "size") then Some Size else None)))))))))))
