use Rattle.std.proofs.Common.{Bool, ◌≡◌, ◌∙◌, [], List, length, All, Vec, Global, map, sym, ap, subst, arith}
use Rattle.std.proofs.lemmas.List.{length-map, with_items_is}
use Rattle.frz_sets.specs.Views.{RuleLines}
use Rattle.frz_backs.specs.Links.{Link}
use Rattle.frz_premises.specs.declared.basis.Basis.{Basis}
use Rattle.frz_premises.specs.declared.trial.Trial.{Trial}
use Rattle.frz_premises.specs.Bases.{bases_of}
use Rattle.frz_premises.specs.Needs.{IsTellable}
use Rattle.frz_backs.specs.Loaded.{link_loaded}
use Rattle.frz_premises.specs.Trials.{AreTried}
use Rattle.frz_premises.specs.WaysOut.{outside_of}
use Rattle.frz_premises.proofs.Needs.{all_tellable}
use Rattle.frz_premises.proofs.Trying.{weaker_holds_if_ok}
use Rattle.frz_premises.proofs.premises.premises_of.Goals as goal

pub walk-requires-clause-tried : goal.walk-requires-clause-tried
walk-requires-clause-tried g c =
    let rules = c.args.rules.now in
    let links = map link_loaded c.args.backs.now in
    subst (λ (ts : List Trial). AreTried c.args.leans rules links [] ts) (sym c.deref_mut.ensures.value)
    (c.in_ok-trials.ensures c.args.leans rules links
    (sym (c.as_slice-lines.ensures.value ∙ ap (λ (r : RuleLines). r.exits) c.rules.view_is))
    (length-map c.args.backs.now link_loaded))

pub returns-clause-bases : goal.returns-clause-bases
returns-clause-bases g c =
    let rules = c.args.rules.now in
    let links = map link_loaded c.args.backs.now in
    let items = with_items_is c.in_ok-trials.trials c.walk.new.trials (omega arith) in
    let tried = subst (λ (ts : List Trial). AreTried c.args.leans rules links (outside_of rules.groups) ts)
    (sym (c.deref.ensures.value ∙ items)) c.walk.ensures.tried in
    weaker_holds_if_ok (λ (v : Vec Basis Global). (b : Bool) (rs : RuleLines) (ls : List Link) →
    AreTried b rs ls (outside_of rs.groups) c.deref.result.now → v.items ≡ bases_of b rs ls)
    (λ (v : Vec Basis Global). v.items ≡ bases_of c.args.leans rules links) c.bases.result
    (λ v h. h c.args.leans rules links tried) c.bases.ensures

pub returns-clause-tellable : goal.returns-clause-tellable
returns-clause-tellable g c =
    let rules = c.args.rules.now in
    let links = map link_loaded c.args.backs.now in
    let items = with_items_is c.in_ok-trials.trials c.walk.new.trials (omega arith) in
    let tried = subst (λ (ts : List Trial). AreTried c.args.leans rules links (outside_of rules.groups) ts)
    (sym (c.deref.ensures.value ∙ items)) c.walk.ensures.tried in
    weaker_holds_if_ok (λ (v : Vec Basis Global). (b : Bool) (rs : RuleLines) (ls : List Link) →
    AreTried b rs ls (outside_of rs.groups) c.deref.result.now → v.items ≡ bases_of b rs ls)
    (λ (v : Vec Basis Global). All (IsTellable (length c.args.backs.now)) v.items) c.bases.result
    (λ v h. subst (λ (bs : List Basis). All (IsTellable (length c.args.backs.now)) bs)
    (sym (h c.args.leans rules links tried))
    (all_tellable c.args.leans rules links (length c.args.backs.now)
    (length-map c.args.backs.now link_loaded))) c.bases.ensures
