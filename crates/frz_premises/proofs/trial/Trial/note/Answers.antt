use Rattle.std.proofs.Common.{◌∙◌, refl, sym, true, map}
use Rattle.std.proofs.lemmas.List.{length-map}
use Rattle.frz_backs.specs.Loaded.{link_loaded}
use Rattle.frz_premises.specs.Bases.{asked_of}
use Rattle.frz_premises.proofs.Trying.{asked_trial_is_tried, shown_trial_is_tried}
use Rattle.frz_premises.proofs.trial.Trial.note.Goals as goal

pub returns-then-not-men_show : goal.returns-then-not-men_show
returns-then-not-men_show c line qs tried =
    let old = c.args.self.now in
    let q = c.args.q.now in
    let backs = c.args.backs.now in
    let asked = c.ask.ensures in
    asked_trial_is_tried (map link_loaded backs) line qs q old c.ask.new.self tried asked.value
    asked.has_exits asked.is_asked (asked.many ∙ sym (length-map backs link_loaded))
    (sym c.men_show.ensures ∙ c.if-not-men_show.true)
    (asked.heard line (asked_of line.value qs) (sym tried.value)
    (record { need = tried.heard.need; says = tried.heard.says }))

pub returns-else-not-men_show : goal.returns-else-not-men_show
returns-else-not-men_show c line qs tried =
    let old = c.args.self.now in
    shown_trial_is_tried (map link_loaded c.args.backs.now) line qs c.args.q.now old
    (record old { has_exits = true }) tried refl refl refl refl refl
    (sym c.men_show.ensures ∙ c.if-not-men_show.false)
