use Rattle.std.proofs.Common.{◌≡◌, ◌∙◌, false, ap, arith, inl, inr, length, refl, subst, sym}
use Rattle.std.specs.List.{slice_get}
use Rattle.std.proofs.lemmas.Bool.{cases_eq}
use Rattle.std.proofs.lemmas.Option.{same_Some, slice_get-get_or, slice_get_read, slice_get_within}
use Rattle.frz_board.specs.Men.{cell_of_man}
use Rattle.frz_sets.specs.Sets.{is_state}
use Rattle.frz_sets.specs.Views.{GroupLine}
use Rattle.frz_index.proofs.shares.is_alone.Goals as goal
use Rattle.frz_index.proofs.shares.is_alone.Goals.{else-j-own-via-then-j-own+else-has_state, else-j-own-via-else-j-own}

pub has_state-requires : goal.has_state-requires
has_state-requires c =
    c.requires.each c.loop-j.j c.index-groups-j.result _
    (slice_get_read c.args.groups.now (length c.args.groups.now) c.loop-j.j c.index-groups-j.result
    refl c.loop-j-test.true c.index-groups-j.is)
    (slice_get-get_or c.args.charts.now c.loop-j.j _
    (omega (arith, c.requires.size, c.loop-j-test.true)))

pub loop-j-preserved : goal.loop-j-preserved
loop-j-preserved c k g l n e =
    elim (cases_eq k c.loop-j.j) [
      | inr other ↦ c.loop-j.invariant k g (omega (arith, l, other)) n e
      | inl here ↦ elim c.else-j-own.branch [
        | else-j-own-via-else-j-own w ↦ absurd (n (here ∙ w.if-j-own.false))
        | else-j-own-via-then-j-own+else-has_state w ↦
            let read = slice_get_read c.args.groups.now (length c.args.groups.now) c.loop-j.j
            w.index-groups-j.result refl c.loop-j-test.true w.index-groups-j.is in
            let same : w.index-groups-j.result ≡ g = same_Some w.index-groups-j.result g
            (sym read ∙ sym (ap (slice_get c.args.groups.now) here) ∙ e) in
            subst (λ (x : GroupLine). is_state (cell_of_man c.args.man) c.args.s x ≡ false) same
            (sym w.has_state.ensures ∙ w.if-has_state.false)
      ]
    ]

pub returns-then-has_state : goal.returns-then-has_state
returns-then-has_state c = (
  λ t. absurd cc,
  λ all. let here = all c.loop-j.j c.index-groups-j.result c.if-j-own.true
      (slice_get_read c.args.groups.now (length c.args.groups.now) c.loop-j.j
      c.index-groups-j.result refl c.loop-j-test.true c.index-groups-j.is) in
      let on = sym c.has_state.ensures ∙ c.if-has_state.true in
      absurd cc,
)

pub returns : goal.returns
returns c = (
  λ _ j g n e.
      c.loop-j.invariant j g
      (let low = slice_get_within c.args.groups.now j g e in
      omega (arith, low, c.loop-j-test.false, c.loop-j.auto.j-end)) n e,
  λ _. refl,
)
