use Rattle.std.proofs.Common.{◌≡◌, ◌∙◌, ◌&&◌, List, Bool, true, false, Some, refl, sym, ap, length, get_or, arith}
use Rattle.std.specs.Vec.{with_items}
use Rattle.std.proofs.lemmas.List.{with_items_is}
use Rattle.frz_premises.specs.declared.trial.Trial.{Trial}
use Rattle.frz_backs.specs.Loaded.{link_loaded}
use Rattle.frz_premises.specs.Saying.{says_as_much}
use Rattle.frz_premises.proofs.Trying.{needs_here, none_by, said_heard, some_by, stays_heard}
use Rattle.frz_premises.proofs.trial.Trial.ask.Goals as goal

pub returns-then-not-said-clause-heard : goal.returns-then-not-said-clause-heard
returns-then-not-said-clause-heard c line qs is heard =
    let old = c.args.self.now in
    let q = c.args.q.now in
    let new : Trial = record old {
      is_asked = true;
      need = Some c.as_position.result.now;
      says = with_items old.says c.hear-said.new.says;
    } in
    needs_here c.args.backs.now line qs q old new old.value is heard
    (none_by old.need c.is_none.result c.is_none.ensures c.if-is_none.true)
    (ap Some c.as_position.ensures)
    (sym c.if-not-said.true ∙ c.hear-said.ensures.said)

pub returns-else-not-said-clause-heard : goal.returns-else-not-said-clause-heard
returns-else-not-said-clause-heard c line qs is heard =
    let old = c.args.self.now in
    let q = c.args.q.now in
    let backs = c.args.backs.now in
    let ws = c.hear-said.new.says in
    let new : Trial = record old { is_asked = true; says = with_items old.says ws } in
    let long : length ws ≡ length backs =
    omega (arith, c.requires.many, ap length c.deref_mut.ensures.value) in
    let items : new.says.items ≡ ws = with_items_is old.says ws (omega (arith, c.requires.many)) in
    said_heard backs line qs q old new old.value is heard
    (none_by old.need c.is_none.result c.is_none.ensures c.if-is_none.true) refl
    (sym c.if-not-said.false ∙ c.hear-said.ensures.said)
    (ap length items ∙ long)
    (λ k back l. ap (λ (xs : List Bool). get_or xs k false) items
    ∙ c.hear-said.ensures.heard k back l
    ∙ ap (λ (xs : List Bool). get_or xs k false
    && says_as_much old.value (link_loaded (get_or backs k back)) q)
    c.deref_mut.ensures.value)

pub returns-else-is_none-clause-heard : goal.returns-else-is_none-clause-heard
returns-else-is_none-clause-heard c line qs is heard =
    let old = c.args.self.now in
    let first = some_by old.need c.is_none.result c.is_none.ensures c.if-is_none.false in
    stays_heard c.args.backs.now line qs c.args.q.now old (record old { is_asked = true }) heard
    first.0 first.1 refl
