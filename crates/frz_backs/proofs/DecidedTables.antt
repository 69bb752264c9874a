-- Several tables whose outcomes are those of chess decide the game in their sets.
use Rattle.std.proofs.Common.{◌≡◌, ◌⊎◌, zero, suc, inl, inr, Bool, true, false, ℕ, List, [], ◌∷◌, ◌++◌, All, Any, Option, refl, sym, ap, subst, ◌∙◌, arith}
use Rattle.std.specs.Prelude.{slice_index}
use Rattle.std.proofs.lemmas.List.Elements.{All-head, All-tail}
use Rattle.frz_board.specs.Boards.{Board}
use Rattle.frz_sets.specs.declared.exit.Value.{Value}
use Rattle.frz_sets.specs.declared.exit.Value.TheVariants.{Unknown}
use Rattle.frz_sets.specs.Views.{RuleLines}
use Rattle.frz_index.specs.Members.{Member, Num}
use Rattle.frz_index.specs.Membership.{is_member}
use Rattle.frz_index.proofs.Lemmas.{member_of}
use Rattle.frz_chain.specs.ExactTables.{AreDecidedOutside, is_decided}
use Rattle.frz_chain.specs.Books.{back_with, or_else, told_at}
use Rattle.frz_chain.specs.PairValues.{pair_value}
use Rattle.frz_chain.proofs.Lemmas.{back_decides, first_decides}
use Rattle.frz_backs.specs.declared.counts.Counts.{Counts}
use Rattle.frz_backs.specs.Books.{Back}
use Rattle.frz_backs.specs.Counts.{counts_of}
use Rattle.frz_backs.specs.Decided.{AreLinesOrTables, HasBothOutcomes, IsBehind}
use Rattle.frz_backs.specs.FileOn.{IsExactBack}
use Rattle.frz_backs.specs.Links.{AreExact, AreExactOver, Link, backs_of, value_over}
use Rattle.frz_backs.specs.Values.{atlas_value, first_value, own_value, told_in, told_or}
use Rattle.frz_backs.proofs.FirstValue.{front_tells, own_or_told}
use Rattle.frz_backs.proofs.Told.{number_inside, number_outside, still_decided}

-- some element is the first or one of the rest
first_or_rest : {X : Type 0} (P : X → Type 0) (x : X) (xs : List X) → Any P (x ∷ xs) →
    P x ⊎ Any P xs
first_or_rest P x xs (zero, y, l, e, h) = inl (subst P (sym e) h)
first_or_rest P x xs (suc k, y, l, e, h) = inr (k, y, omega arith, e, h)

-- the table in front decides the game in its set, and the rest do elsewhere
module _ (counts : Counts) (link : Link) (before backs : List Back)
    (exact : IsExactBack link.rules (value_over link.leans link.rules before) link.back)
    (outcomes : HasBothOutcomes link) (q : Board) where
  codes_decide : Member link.rules.groups q →
      is_decided (told_in counts link.back (Num link.rules.groups q)) ≡ true
  codes_decide member =
      let i : ℕ = Num link.rules.groups q in
      let white = slice_index link.back.white i in
      let black = slice_index link.back.black i in
      let codes = back_with link.back.groups link.back.white link.back.black in
      still_decided counts white black (pair_value white black)
      (subst (λ (o : Option ℕ). is_decided (told_at codes o) ≡ true)
      (number_inside link.rules link.back exact.set q member)
      (back_decides link.rules (value_over link.leans link.rules before) codes
      (record { set = exact.set; white = exact.white; black = exact.black })
      outcomes.0 outcomes.1 q member))

  front_decides : Member link.rules.groups q →
      is_decided (first_value counts Unknown (link.back ∷ backs) q) ≡ true
  front_decides member =
      ap is_decided
      (front_tells counts Unknown link.back backs q
      ∙ ap (told_or counts link.back (first_value counts Unknown backs q))
      (number_inside link.rules link.back exact.set q member))
      ∙ codes_decide member

  rest_decides : (member : Bool) → is_member link.rules.groups q ≡ member →
      is_decided (first_value counts Unknown backs q) ≡ true →
      is_decided (first_value counts Unknown (link.back ∷ backs) q) ≡ true
  rest_decides true e rest = front_decides (member_of link.rules.groups q e)
  rest_decides false e rest =
      ap is_decided
      (front_tells counts Unknown link.back backs q
      ∙ ap (told_or counts link.back (first_value counts Unknown backs q))
      (number_outside link.rules link.back exact.set q e))
      ∙ rest

-- table by table
each_decides : (counts : Counts) (before : List Back) (links : List Link) →
    AreExactOver before links → All HasBothOutcomes links → (q : Board) → IsBehind links q →
    is_decided (first_value counts Unknown (backs_of links) q) ≡ true
unfolding AreExactOver
each_decides counts before [] exact outcomes q (k, link, l, e, h) = absurd (omega arith)
each_decides counts before (link ∷ links) exact outcomes q behind =
    let here = All-head HasBothOutcomes link links outcomes in
    let In : Link → Type 0 = λ l. Member l.rules.groups q in
    elim (first_or_rest In link links behind) [
      | inl member ↦ front_decides counts link before (backs_of links) exact.0 here q member
      | inr rest ↦ rest_decides counts link before (backs_of links) exact.0 here q
          (is_member link.rules.groups q) refl
          (each_decides counts (before ++ (link.back ∷ [])) links exact.1
          (All-tail HasBothOutcomes link links outcomes) q rest)
    ]

pub tables_decide : (rules : RuleLines) (links : List Link) → AreExact links →
    All HasBothOutcomes links → AreLinesOrTables rules links →
    AreDecidedOutside rules (atlas_value rules (backs_of links))
tables_decide rules links exact outcomes told q x =
    let backs = backs_of links in
    let rest = first_value (counts_of backs) Unknown backs q in
    ap is_decided (own_or_told rules backs q) ∙ elim (told q x) [
      | inl d ↦ first_decides (own_value rules backs q) rest d
      | inr b ↦ ap (λ (v : Value). is_decided (or_else v rest)) b.0
          ∙ each_decides (counts_of backs) [] links exact outcomes q b.1
    ]
