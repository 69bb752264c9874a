use Rattle.std.proofs.Common.{◌≡◌, ◌∙◌, ap, refl, sym, map, Bool, true, false, List}
use Rattle.frz_sets.specs.Views.{RuleLines}
use Rattle.frz_backs.specs.Books.{Back}
use Rattle.frz_backs.specs.Counts.{counts_of}
use Rattle.frz_backs.specs.FileOn.{loaded_back}
use Rattle.frz_backs.specs.Links.{backs_of}
use Rattle.frz_backs.specs.Loaded.{leans_as, link_loaded}
use Rattle.frz_backs.proofs.Lemmas.{loaded_backs}
use Rattle.frz_commands_verdict.specs.Verdicts.{counts_over}
use Rattle.frz_commands_verdict.proofs.finding.counts_through.Goals as goal

-- where the table leans on others, the wins that count in all tables
by_leaning : (leans : Bool) (rules : RuleLines) (backs : List Back) → true ≡ leans →
    counts_of backs ≡ counts_over leans rules backs
by_leaning true rules backs e = refl
by_leaning false rules backs e = absurd (cc)

pub returns-then-leans : goal.returns-then-leans
returns-then-leans c =
    let own = c.args.own.now in
    let tables = c.args.tables.now in
    c.of.ensures ∙ (ap counts_of (sym (loaded_backs tables))
    ∙ by_leaning (leans_as own.table.kind) own.table.rules (backs_of (map link_loaded tables))
    (sym c.if-leans.true ∙ c.leans.ensures))
