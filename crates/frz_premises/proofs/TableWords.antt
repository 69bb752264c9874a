-- What an exact table says of a position is true, if its own exits are true.
use Rattle.std.proofs.Common.{◌≡◌, ◌≤◌, ◌+◌, ◌*◌, ℕ, zero, suc, inl, inr, Bool, true, false, not, ◌&&◌, ◌||◌, List, [], ◌∷◌, ◌++◌, All, Some, refl, sym, subst, ap, ◌∙◌, arith}
use Rattle.std.specs.Prelude.{slice_get, slice_index, ◌==◌, nat_le}
use Rattle.std.specs.List.{list_any}
use Rattle.std.proofs.lemmas.Bool.{and_parts, or_cases, or_parts, not-true, eqb-true, leb-true}
use Rattle.std.proofs.lemmas.List.Elements.{All-nil, All-cons, All-head, All-tail, All-push}
use Rattle.frz_board.specs.Boards.{Board}
use Rattle.frz_board.specs.Men.{other_of}
use Rattle.frz_board.specs.declared.man.Colour.{Colour}
use Rattle.frz_board.specs.declared.man.Colour.TheVariants.{White, Black}
use Rattle.frz_sets.specs.declared.exit.Value.{Value}
use Rattle.frz_sets.specs.declared.exit.Value.TheVariants.{WhiteWins, BlackWins, Draw, WhiteHolds, BlackHolds, Unknown, WhiteWinsIn, BlackWinsIn}
use Rattle.frz_sets.specs.Views.{ExitLine, RuleLines}
use Rattle.frz_exits.specs.Books.{value_by}
use Rattle.frz_exits.specs.Values.{class_of, is_numbered}
use Rattle.frz_index.specs.Members.{Member, Num}
use Rattle.frz_index.specs.Membership.{is_member}
use Rattle.frz_index.proofs.Lemmas.{member_of}
use Rattle.frz_arena.specs.declared.bound.Bound.{Bound}
use Rattle.frz_arena.specs.declared.bound.Bound.TheVariants.{Wins, Holds, Fails}
use Rattle.frz_arena.specs.declared.class.Class.TheVariants.{Good}
use Rattle.frz_arena.specs.Chess.{ForcesMate, NeverForcesMate, mate_alone}
use Rattle.frz_arena.specs.Codes.{code_of, is_win}
use Rattle.frz_arena.specs.Exits.{AllNumbered}
use Rattle.frz_arena.proofs.Lemmas.{as_failure, win_and_failure, forces_later}
use Rattle.frz_game.specs.Games.{chess, game_of}
use Rattle.frz_game.specs.Meaning.{Means}
use Rattle.frz_game.specs.Values.{AreTrueExits, IsTrueValue}
use Rattle.frz_game.proofs.Lemmas.{bound_means, stored_bound}
use Rattle.frz_backs.specs.Books.{Back}
use Rattle.frz_backs.specs.FileOn.{IsExactBack}
use Rattle.frz_backs.specs.Counts.{lines_count}
use Rattle.frz_backs.specs.Links.{AreExact, AreExactOver, AreTrueLines, AreTrueLinesOver, Link, own_over, value_over}
use Rattle.frz_backs.proofs.Lemmas.{AllTellTrue, lines_numbered, link_exits_true, link_true, none_tells, number_inside, number_outside}
use Rattle.frz_premises.specs.Saying.{codes_say, counts_wins, holds, says_as_much, says_at, wins_within}

-- bounds by their codes
no_win_of_failure : (m code : ℕ) → code ≡ code_of (Fails m) → is_win code ≡ true → ⊥
no_win_of_failure m code e win = win_and_failure code win (as_failure code m e).0

no_win_of_hold : (code : ℕ) → code ≡ 1 → is_win code ≡ true → ⊥
no_win_of_hold code e win =
    let h : is_win 1 ≡ true = subst (λ (c : ℕ). is_win c ≡ true) e win in cc

module _ (rules : RuleLines) (value : Board → Value) (exits : AreTrueExits rules value)
    (side : Colour) (q : Board) where
  win_forces_mate : (b : Bound) (code : ℕ) → Means rules value side q b → code ≡ code_of b →
      is_win code ≡ true → (n : ℕ) × ForcesMate chess side n q
  win_forces_mate (Wins n) code means e win = means.mate exits
  win_forces_mate Holds code means e win = absurd (no_win_of_hold code e win)
  win_forces_mate (Fails m) code means e win = absurd (no_win_of_failure m code e win)

  won_in : (all : AllNumbered (game_of rules value) side) (b : Bound) (code c : ℕ) →
      Means rules value side q b → code ≡ code_of b → wins_within c code ≡ true →
      ForcesMate chess side c q
  won_in all (Wins n) code c means e h =
      let both = and_parts (is_win code) (nat_le code (2 + 2 * c)) h in
      let few : code ≤ 2 + 2 * c = leb-true code (2 + 2 * c) both.1 in
      forces_later chess mate_alone side n c q (omega arith) (means.within exits all)
  won_in all Holds code c means e h =
      absurd (no_win_of_hold code e (and_parts (is_win code) (nat_le code (2 + 2 * c)) h).0)
  won_in all (Fails m) code c means e h =
      absurd (no_win_of_failure m code e (and_parts (is_win code) (nat_le code (2 + 2 * c)) h).0)

  held_is_never_mated : (b : Bound) (code : ℕ) → Means rules value side q b → code ≡ code_of b →
      holds code ≡ true → NeverForcesMate chess (other_of side) q
  held_is_never_mated (Wins n) code means e h = means.safe exits
  held_is_never_mated Holds code means e h = means exits
  held_is_never_mated (Fails m) code means e h =
      elim (or_cases (code == 1) (is_win code) h) [
        | inl one ↦ absurd (let k = eqb-true code 1 one in omega arith)
        | inr win ↦ absurd (no_win_of_failure m code e win)
      ]

-- the wins of a table that leans on no other give their plies, where its lines do
pub numbered_by : (leans : Bool) (rules : RuleLines) (before : List Back) (side : Colour) →
    (not leans && lines_count side rules.exits) ≡ true →
    AllNumbered (game_of rules (value_over leans rules before)) side
numbered_by true rules before side h = absurd (cc)
numbered_by false rules before side h = λ q x good. lines_numbered rules side h q good

-- what the table says of a position is true there
abbrev pub Proves : Link → Type 0
Proves link = (v : Value) (q : Board) → says_as_much v link q ≡ true → IsTrueValue v q

module _ (link : Link) (value : Board → Value)
    (exact : IsExactBack link.rules value link.back)
    (exits : AreTrueExits link.rules value)
    (counted : (side : Colour) → counts_wins link side ≡ true →
    AllNumbered (game_of link.rules value) side) (q : Board) where
  told_value_is_true : Member link.rules.groups q → (v : Value) →
      codes_say link (slice_index link.back.white (Num link.rules.groups q))
      (slice_index link.back.black (Num link.rules.groups q)) v ≡ true → IsTrueValue v q
  told_value_is_true member =
      let i : ℕ = Num link.rules.groups q in
      let w : ℕ = slice_index link.back.white i in
      let b : ℕ = slice_index link.back.black i in
      let white = stored_bound link.rules value White link.back.white exact.white q member in
      let black = stored_bound link.rules value Black link.back.black exact.black q member in
      let white_means = bound_means link.rules value White q white.0 member white.2 in
      let black_means = bound_means link.rules value Black q black.0 member black.2 in
      let W = link.rules in
      λ (v : Value). by_value w b white.0 black.0 white.1 black.1 white_means black_means v
    where
      by_value : (w b : ℕ) (white black : Bound) → w ≡ code_of white → b ≡ code_of black →
          Means link.rules value White q white → Means link.rules value Black q black →
          (v : Value) → codes_say link w b v ≡ true → IsTrueValue v q
      by_value w b white black we be wm bm WhiteWins h =
          win_forces_mate link.rules value exits White q white w wm we h
      by_value w b white black we be wm bm BlackWins h =
          win_forces_mate link.rules value exits Black q black b bm be h
      by_value w b white black we be wm bm (WhiteWinsIn c) h =
          let both = and_parts (wins_within c w) (counts_wins link White) h in
          won_in link.rules value exits White q (counted White both.1) white w c wm we both.0
      by_value w b white black we be wm bm (BlackWinsIn c) h =
          let both = and_parts (wins_within c b) (counts_wins link Black) h in
          won_in link.rules value exits Black q (counted Black both.1) black b c bm be both.0
      by_value w b white black we be wm bm Draw h =
          let both = and_parts (holds w) (holds b) h in (
            held_is_never_mated link.rules value exits White q white w wm we both.0,
            held_is_never_mated link.rules value exits Black q black b bm be both.1,
          )
      by_value w b white black we be wm bm WhiteHolds h =
          held_is_never_mated link.rules value exits White q white w wm we h
      by_value w b white black we be wm bm BlackHolds h =
          held_is_never_mated link.rules value exits Black q black b bm be h
      by_value w b white black we be wm bm Unknown h = tt

  pub proves_at : (v : Value) → says_as_much v link q ≡ true → IsTrueValue v q
  unfolding says_as_much
  proves_at v h = by_member (is_member link.rules.groups q) refl
    where
      by_member : (inside : Bool) → is_member link.rules.groups q ≡ inside → IsTrueValue v q
      by_member true e =
          let member = member_of link.rules.groups q e in
          told_value_is_true member v
          (sym (ap (says_at v link) (number_inside link.rules link.back exact.set q member)) ∙ h)
      by_member false e =
          absurd (let none = sym (ap (says_at v link)
          (number_outside link.rules link.back exact.set q e)) ∙ h in cc)

pub link_proves : (link : Link) (before : List Back) →
    IsExactBack link.rules (value_over link.leans link.rules before) link.back →
    AllTellTrue before → AreTrueExits link.rules (own_over link.leans link.rules before) →
    Proves link
link_proves link before exact told own v q h =
    proves_at link (value_over link.leans link.rules before) exact
    (link_exits_true link.leans link.rules before told own)
    (λ side c. numbered_by link.leans link.rules before side c) q v h

each_proves : (before : List Back) (links : List Link) → AllTellTrue before →
    AreExactOver before links → AreTrueLinesOver before links → All Proves links
unfolding AreExactOver AreTrueLinesOver
each_proves before [] told exact own = All-nil Proves
each_proves before (link ∷ links) told exact own =
    All-cons Proves link links (link_proves link before exact.0 told own.0)
    (each_proves (before ++ (link.back ∷ [])) links (link_true link before exact.0 told own.0)
    exact.1 own.1)

pub all_prove : (links : List Link) → AreExact links → AreTrueLines links → All Proves links
all_prove links exact own = each_proves [] links none_tells exact own
