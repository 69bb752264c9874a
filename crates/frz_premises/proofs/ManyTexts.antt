-- Tables whose own exit lines are true where what is believed holds, from the left.
use Rattle.std.proofs.Common.{subst, sym, ◌≡◌, ◌+◌, ℕ, List, [], ◌∷◌, ◌++◌, All, arith}
use Rattle.std.proofs.lemmas.List.Elements.{All-nil, All-cons, All-push}
use Rattle.frz_exits.specs.Books.{value_by}
use Rattle.frz_game.specs.Values.{AreTrueExits}
use Rattle.std.proofs.lemmas.List.{map-append}
use Rattle.frz_backs.specs.Books.{Back}
use Rattle.frz_backs.specs.Links.{AreExact, AreExactOver, AreTrueLines, AreTrueLinesOver, Link, backs_of}
use Rattle.frz_backs.proofs.Lemmas.{AllTellTrue, link_true, none_tells}
use Rattle.frz_premises.specs.Believing.{BeliefsHold, BeliefsHoldOver, believed_in, believed_over}
use Rattle.frz_premises.proofs.TableWords.{Proves, link_proves}
use Rattle.frz_premises.proofs.TrueLines.{exits_true_by, none_holds}

text_by_text : (before links : List Link) → All Proves before → AllTellTrue (backs_of before) →
    AreExactOver (backs_of before) links → BeliefsHoldOver before links →
    AreTrueLinesOver (backs_of before) links
unfolding AreExactOver AreTrueLinesOver BeliefsHoldOver
text_by_text before [] proves told exact holds = tt
text_by_text before (link ∷ links) proves told exact holds =
    let backs = backs_of before in
    let mine = exits_true_by link.leans link.rules before proves holds.0 in
    let same : backs_of (before ++ link ∷ []) ≡ backs ++ (link.back ∷ []) =
    map-append (λ (l : Link). l.back) before (link ∷ []) in (
      mine,
      subst (λ (bs : List Back). AreTrueLinesOver bs links) same
          (text_by_text (before ++ link ∷ []) links
          (All-push Proves before link proves (link_proves link backs exact.0 told mine))
          (subst (λ (bs : List Back). AllTellTrue bs) (sym same)
          (link_true link backs exact.0 told mine))
          (subst (λ (bs : List Back). AreExactOver bs links) (sym same) exact.1) holds.1),
    )

pub all_true : (links : List Link) → AreExact links → BeliefsHold links → AreTrueLines links
all_true links exact holds = text_by_text [] links (All-nil Proves) none_tells exact holds

-- none of two parts
both_parts_are_zero : (m n : ℕ) → m + n ≡ 0 → (m ≡ 0) × (n ≡ 0)
both_parts_are_zero m n h = (omega arith, omega arith)

none_believed_beliefs_hold : (before links : List Link) → believed_over before links ≡ 0 →
    BeliefsHoldOver before links
unfolding believed_over BeliefsHoldOver
none_believed_beliefs_hold before [] none = tt
none_believed_beliefs_hold before (link ∷ links) none =
    let parts = both_parts_are_zero _ _ none in (
      none_holds link.leans link.rules before parts.0,
      none_believed_beliefs_hold (before ++ link ∷ []) links parts.1,
    )

-- where no line of the tables is believed, what is believed holds
pub none_hold : (links : List Link) → believed_in links ≡ 0 → BeliefsHold links
none_hold links none = none_believed_beliefs_hold [] links none
