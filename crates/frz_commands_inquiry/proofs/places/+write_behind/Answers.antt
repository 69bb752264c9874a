use Rattle.std.proofs.Common.{◌≡◌, ◌∙◌, ◌≤◌, ◌<◌, ◌-◌, ◌+◌, ◌∷◌, [], ap, sym, subst, refl, ℕ, suc, List, length, map, get_or, take, drop, codes, arith}
use Rattle.std.proofs.lemmas.List.{take_rest}
use Rattle.frz_board.specs.Boards.{Board}
use Rattle.frz_sets.specs.declared.exit.Value.{Value}
use Rattle.frz_store.specs.Told.{sink_of}
use Rattle.frz_answer.specs.Texts.{WroteText}
use Rattle.frz_atlas.specs.BackTable.{BackTable}
use Rattle.frz_atlas.specs.Codes.{codes_of}
use Rattle.frz_atlas.specs.FileOn.{loaded_back}
use Rattle.frz_commands_inquiry.specs.Places.{behind_or, behind_text, exit_or}
use Rattle.frz_commands_inquiry.proofs.places.+write_behind.Goals as goal

none_behind : (place : ℕ) (last : Value) (backs : List BackTable) (p : Board) → length backs < 1
    → exit_or (codes "outside") last ≡ behind_text place last (map loaded_back backs) p
unfolding behind_text
none_behind place last [] p few = refl
none_behind place last (back ∷ backs) p few = absurd (omega arith)

-- the first of the tables is asked, and then the others
first_back : (place : ℕ) (last : Value) (backs : List BackTable) (back : BackTable) (p : Board)
    → 1 ≤ length backs → back ≡ get_or backs 0 back
    → behind_or place (behind_text (place + 1) last
    (map loaded_back (take (length backs - 1) (drop 1 backs))) p) (codes_of (loaded_back back) p)
    ≡ behind_text place last (map loaded_back backs) p
unfolding behind_text
first_back place last [] back p some is = absurd (omega arith)
first_back place last (first ∷ backs) back p some is =
    ap (λ (l : List BackTable). behind_or place (behind_text (place + 1) last (map loaded_back l) p)
    (codes_of (loaded_back back) p)) (take_rest (first ∷ backs) 1)
    ∙ (ap (λ n. behind_or place (behind_text n last (map loaded_back backs) p)
    (codes_of (loaded_back back) p)) (let next : place + 1 ≡ suc place = omega arith in next)
    ∙ ap (λ (b : BackTable). behind_or place (behind_text (suc place) last (map loaded_back backs) p)
    (codes_of (loaded_back b) p)) is)

pub returns-in-empty : goal.returns-in-empty
returns-in-empty g t c =
    subst (λ (x : List ℕ). WroteText x c.write_last.result (sink_of g.O.Sink c.args.out.now)
    (sink_of g.O.Sink c.write_last.new.out))
    (none_behind c.args.place c.args.last c.args.backs.now c.args.q.now c.in-empty.len_below)
    c.write_last.ensures

pub returns-in-Some : goal.returns-in-Some
returns-in-Some g t c =
    let first = first_back c.args.place c.args.last c.args.backs.now c.back-item.result c.args.q.now
    c.in-len1-up.len_at_least c.back-item.is in
    let found = sym c.codes_on.ensures ∙ c.in-Some.is in
    let rest = behind_text (c.args.place + 1) c.args.last
    (map loaded_back (take (length c.args.backs.now - 1) (drop 1 c.args.backs.now)))
    c.args.q.now in
    subst (λ (x : List ℕ). WroteText x c.write_at.result (sink_of g.O.Sink c.args.out.now)
    (sink_of g.O.Sink c.write_at.new.out))
    (sym (ap (behind_or c.args.place rest) found) ∙ first)
    c.write_at.ensures

pub returns-in-None : goal.returns-in-None
returns-in-None g t c =
    let first = first_back c.args.place c.args.last c.args.backs.now c.back-item.result c.args.q.now
    c.in-len1-up.len_at_least c.back-item.is in
    let found = sym c.codes_on.ensures ∙ c.in-None.is in
    let rest = behind_text (c.args.place + 1) c.args.last
    (map loaded_back (take (length c.args.backs.now - 1) (drop 1 c.args.backs.now)))
    c.args.q.now in
    subst (λ (x : List ℕ). WroteText x c.write_behind.result (sink_of g.O.Sink c.args.out.now)
    (sink_of g.O.Sink c.write_behind.new.out))
    (sym (ap (behind_or c.args.place rest) found) ∙ first)
    c.write_behind.ensures
