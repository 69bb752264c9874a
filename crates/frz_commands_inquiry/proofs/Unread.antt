-- How `ask` ends whose tables were refused, or could not be read.
use Rattle.std.proofs.Common.{◌≡◌, refl, ℕ, List, ◌∷◌, map, false, Err, arith}
use Rattle.frz_store.specs.Files.{Files}
use Rattle.frz_store.specs.Told.{StoreTold, SourceTold, SinkTold, StoreQuiet}
use Rattle.frz_table.specs.Opening.{Contents}
use Rattle.frz_atlas.specs.Behind.{TableBytes}
use Rattle.frz_atlas.specs.Causes.{HasAtlasCause}
use Rattle.frz_atlas.specs.Reading.{RefusesToRead}
use Rattle.frz_atlas.specs.declared.fault.AtlasFault.{AtlasFault}
use Rattle.frz_atlas.specs.declared.reading.LoadedAtlas.{LoadedAtlas}
use Rattle.frz_answer.specs.declared.end.End.{End}
use Rattle.frz_answer.specs.Answers.{SomeAnswer}
use Rattle.frz_answer.specs.Ends.{Ran}
use Rattle.frz_answer.specs.World.{world}
use Rattle.frz_atlas_prelude.specs.Ending.{EndsAt}
use Rattle.frz_atlas_prelude.specs.Names.{has_twice}
use Rattle.frz_atlas_prelude.proofs.Lemmas.{unread_ran as ended_unread, within_held}
use Rattle.frz_commands_inquiry.specs.AskOf.{IsAskedOver, answer_of, link_in}
use Rattle.frz_commands_inquiry.specs.Asking.{ask_costs, asking_at}
use Rattle.frz_commands_inquiry.specs.Inquiries.{inquiry}
use Rattle.frz_commands_inquiry.specs.Places.{reply_to}
use Rattle.frz_commands_inquiry.specs.declared.inquiring.TheConstants.{MOST_LINES}
use Rattle.frz_atlas.specs.Behind.{backs_in}
use Rattle.frz_commands_inquiry.proofs.Running.{halt_said}

pub some_opened : (input : List ℕ) (files : Files) (contents : Contents) (bytes : List ℕ)
    (tables : List TableBytes) → SomeAnswer (IsAskedOver input files contents bytes tables)
some_opened input files contents bytes tables =
    let told = inquiry (reply_to (link_in contents bytes) (backs_in tables)) MOST_LINES input in
    record { a = answer_of told files; answer = refl; text = halt_said told.text told.halt }

pub unread_ran : (table : List ℕ) (behind : List (List ℕ)) → has_twice (table ∷ behind) ≡ false
    → (old new : StoreTold) (steps : ℕ) → StoreQuiet old new → (input : SourceTold) (out : SinkTold)
    (fault : AtlasFault) → RefusesToRead table behind old new fault → (end : End) (after : SinkTold)
    → HasAtlasCause {T = LoadedAtlas} (Err fault) old new → EndsAt fault end out after
    → Ran (asking_at table behind) end (world old input out steps) (world new input after steps)
unread_ran table behind apart old new steps quiet input out fault r =
    ended_unread (asking_at table behind) table behind (λ m left. IsAskedOver left m)
    (record {
      reads = λ e. cc;
      store = refl;
      memory = refl;
      missing = refl;
      refused = refl;
      gives = λ m left a h. h;
      some = λ m left. some_opened left m;
    })
    apart old new steps steps quiet (omega arith) input out fault r
    (λ m left a here others.
    within_held ask_costs r.held (m table) r.helds (map m behind) here others _ _
    (record { steps = omega arith; calls = r.within.calls; asked = r.within.asked }))
