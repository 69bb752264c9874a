-- The rules that a text gives are sound.
use Rattle.std.proofs.Common.{◌≡◌, ℕ, zero, suc, ◌+◌, ◌/◌, ◌<◌, ◌≤◌, Bool, true, false, cond, ◌||◌, ◌&&◌, List, [], ◌∷◌, ◌++◌, length, Option, None, Some, Result, Ok, Err, refl, sym, subst, append_assoc, arith, length-append}
use Rattle.frz_board.proofs.Lemmas.{kind-number}
use Rattle.std.specs.Prelude.{codes, map, filter, nat_le, nat_lt, not, IfOk}
use Rattle.std.specs.List.{AllByRecursion, list_all, range_with_len, before_first, after_first}
use Rattle.std.proofs.lemmas.List.{append-nil}
use Rattle.std.proofs.lemmas.Bool.{leb-false, leb-true, ltb-false}
use Rattle.frz_board.specs.declared.man.Colour.{Colour}
use Rattle.frz_board.specs.declared.man.Colour.TheVariants.{White, Black}
use Rattle.frz_board.specs.declared.man.Kind.{Kind}
use Rattle.frz_board.specs.declared.man.Kind.TheVariants.{King, Queen, Rook, Bishop, Knight, Pawn}
use Rattle.frz_board.specs.Men.{number_of_kind}
use Rattle.frz_combinations.specs.Binomials.{capped}
use Rattle.frz_words.specs.Numbers.{number_of, is_digit, decimal, is_short}
use Rattle.frz_words.specs.Lines.{lines, numbered}
use Rattle.frz_rules.specs.declared.fault.RulesCause.{RulesCause}
use Rattle.frz_rules.specs.declared.fault.RulesCause.TheVariants as causes
use Rattle.frz_rules.specs.declared.fault.RulesFault.{RulesFault}
use Rattle.frz_rules.specs.declared.fault.RulesError.{RulesError}
use Rattle.frz_sets.specs.declared.exit.Value.{Value}
use Rattle.frz_sets.specs.declared.exit.Value.TheVariants.{Draw, Unknown}
use Rattle.frz_sets.specs.declared.forbid.Forbid.{Forbid}
use Rattle.frz_sets.specs.Views.{Condition, GroupLine, ExitLine, RuleLines}
use Rattle.frz_rules.specs.Classes.{is, colour_of, count_of, place_of, lag_of}
use Rattle.frz_rules.specs.Conditions.{cond_of}
use Rattle.frz_rules.specs.Lines.{some_of, group_from, group_of, forbid_of, wins, holds, wins_in, won_or_held, won_in, value_of, exit_from, exit_of}
use Rattle.frz_sets.specs.Groups.{state_at, state_number, has_king_group}
use Rattle.frz_rules.specs.States.{is_placed, states_of}
use Rattle.frz_rules.specs.Causes.{cause_of_group}
use Rattle.frz_rules.proofs.SoundBehind.{sound_behind}
use Rattle.frz_sets.specs.declared.limits.TheConstants.{MOST_CONDS}
use Rattle.frz_sets.specs.Sets.{size_of}
use Rattle.frz_rules.specs.Text.{◌>>=◌, unless, add_group, add_forbid, add_exit, with_line, line_of, at_line, lines_of, no_rules, whole, is_header, after_header, significant, rules_of, Answers}
use Rattle.frz_sets.specs.Sound.{AreIncreasingFrom, AreStates, AreSoundAfter, HasFewPlies, IsSoundExit, AreSoundLines, IsSound}

-- the states of places are in order
state_back : (n : ℕ) → n < 384 → state_number (state_at n) ≡ n
state_back n h = let e = kind-number (n / 64) (omega arith) in omega (arith, e)

increasing_from_less : (m n : ℕ) (states : List (Kind × ℕ)) → m ≤ n → AreIncreasingFrom n states →
    AreIncreasingFrom m states
increasing_from_less m n [] l h = tt
increasing_from_less m n (s ∷ states) l h = let k = h.0 in (omega arith, h.1, h.2)

one_more : (b : Bool) (n : ℕ) (states : List (Kind × ℕ)) → n < 384 →
    AreIncreasingFrom (n + 1) states → AreIncreasingFrom n (cond b (state_at n ∷ states) states)
one_more true n states l h =
    let e = state_back n l in
    (omega (arith, e), omega arith, subst (λ m. AreIncreasingFrom (m + 1) states) (sym e) h)
one_more false n states l h = increasing_from_less n (n + 1) states (omega arith) h

increasing_from : (p : Kind × ℕ → Bool) (a n : ℕ) → a + n ≤ 384 →
    AreIncreasingFrom a (filter p (map state_at (range_with_len a n)))
increasing_from p a zero l = tt
increasing_from p a (suc n) l =
    one_more (p (state_at a)) a (filter p (map state_at (range_with_len (a + 1) n))) (omega arith)
    (increasing_from p (a + 1) n (omega arith))

kind_small : (k : Kind) → number_of_kind k ≤ 6
kind_small King = omega arith
kind_small Queen = omega arith
kind_small Rook = omega arith
kind_small Bishop = omega arith
kind_small Knight = omega arith
kind_small Pawn = omega arith

few_from : (n : ℕ) (states : List (Kind × ℕ)) → n ≤ 384 → AreIncreasingFrom n states →
    n + length states ≤ 384
few_from n [] l h = omega arith
few_from n (s ∷ states) l h =
    let k = kind_small s.0 in
    let on_board = h.1 in
    let behind = h.0 in
    let f = few_from (state_number s + 1) states (omega arith) h.2 in
    omega arith

pub states_in_order : (places : List (Kind × ℕ)) → AreStates (states_of places)
unfolding states_of
states_in_order places =
    let i = increasing_from (is_placed places) 0 384 (omega arith) in
    record {
      increasing = i;
      few = (let f = few_from 0 (filter (is_placed places) (map state_at (range_with_len 0 384)))
          (omega arith) i in omega arith);
    }

-- a group line has states in order
group_states : (c : Option Colour) (n : Option (ℕ × ℕ)) (ps : Option (List (Kind × ℕ)))
    (g : GroupLine) → group_from c n ps ≡ Some g → AreStates g.states
group_states (Some c) (Some n) (Some ps) g e =
    subst (λ (o : GroupLine). AreStates o.states)
    (some_is (record { colour = c; least = n.0; most = n.1; states = states_of ps }) g e)
    (states_in_order ps)
  where
    some_is : (x y : GroupLine) → Some x ≡ Some y → x ≡ y
    some_is x y e = cc
group_states (Some c) (Some n) None g e = absurd cc
group_states (Some c) None ps g e = absurd cc
group_states None n ps g e = absurd cc

group_in_order : (ws : List (List ℕ)) (g : GroupLine) → group_of ws ≡ Some g → AreStates g.states
unfolding group_of
group_in_order [] g e = absurd cc
group_in_order (c ∷ []) g e = absurd cc
group_in_order (c ∷ n ∷ places) g e =
    group_states (colour_of c) (count_of n) (some_of place_of places) g e

-- the lags of an exit line are small
abbrev HasLag : Option Value → Type 0
HasLag None = Unit {0}
HasLag (Some v) = HasFewPlies v

within_last : (b : Bool) (x n : ℕ) → nat_le x 1000 ≡ b → cond b (Some x) None ≡ Some n → n ≤ 1000
within_last true x n t e = let l = leb-true x 1000 t in let same : x ≡ n = cc in omega arith
within_last false x n t e = absurd cc

within : (a b : Bool) (x n : ℕ) → cond (a && (b && nat_le x 1000)) (Some x) None ≡ Some n → n ≤ 1000
within true true x n e = within_last (nat_le x 1000) x n refl e
within true false x n e = absurd cc
within false b x n e = absurd cc

lag_small : (w : List ℕ) (n : ℕ) → lag_of w ≡ Some n → n ≤ 1000
unfolding number_of
lag_small w n e = within (is_short w) (list_all is_digit w) (decimal 0 w) n e

wins_in_small : (c : Colour) (n : ℕ) → n ≤ 1000 → HasFewPlies (wins_in c n)
wins_in_small White n h = h
wins_in_small Black n h = h

wins_small : (c : Colour) → HasFewPlies (wins c)
wins_small White = tt
wins_small Black = tt

holds_small : (c : Colour) → HasFewPlies (holds c)
holds_small White = tt
holds_small Black = tt

plain_small : (a b : Bool) → HasLag (cond a (Some Draw) (cond b (Some Unknown) None))
plain_small true b = tt
plain_small false true = tt
plain_small false false = tt

side_small : (o : Option Colour) (a b : Bool)
    → HasLag (elim o
    [ None ↦ None | Some c ↦ cond a (Some (wins c)) (cond b (Some (holds c)) None) ])
side_small None a b = tt
side_small (Some c) true b = wins_small c
side_small (Some c) false true = holds_small c
side_small (Some c) false false = tt

won_or_held_small : (o : Option Colour) (verb : List ℕ) → HasLag (won_or_held o verb)
won_or_held_small None verb = tt
won_or_held_small (Some c) verb =
    side_small (Some c) (is (codes "wins") verb) (is (codes "holds") verb)

won_in_small : (o : Option Colour) (w : List ℕ) (n : Option ℕ) → lag_of w ≡ n → HasLag (won_in o n)
won_in_small None w n e = tt
won_in_small (Some c) w None e = tt
won_in_small (Some c) w (Some n) e = wins_in_small c n (lag_small w n e)

lag_case : (b : Bool) (o : Option Colour) (w : List ℕ) → HasLag (cond b (won_in o (lag_of w)) None)
lag_case true o w = won_in_small o w (lag_of w) refl
lag_case false o w = tt

value_small : (ws : List (List ℕ)) → HasLag (value_of ws)
value_small [] = tt
value_small (w ∷ []) = plain_small (is (codes "draw") w) (is (codes "unknown") w)
value_small (c ∷ verb ∷ []) = won_or_held_small (colour_of c) verb
value_small (c ∷ verb ∷ n ∷ []) = lag_case (is (codes "wins") verb) (colour_of c) n
value_small (c ∷ verb ∷ n ∷ x ∷ xs) = tt

exit_case : (o : Option Value) (cs : Option (List Condition)) (x : ExitLine) → HasLag o →
    exit_from o cs ≡ Some x → HasFewPlies x.value
exit_case (Some v) (Some cs) x h e =
    let same : record { value = v; conds = cs } ≡ x = cc in
    subst (λ (y : ExitLine). HasFewPlies y.value) same h
exit_case (Some v) None x h e = absurd cc
exit_case None cs x h e = absurd (no_exit cs e)
  where
    no_exit : (cs : Option (List Condition)) → exit_from None cs ≡ Some x → ⊥
    no_exit None e = cc
    no_exit (Some cs) e = cc

exit_lag : (ws : List (List ℕ)) (x : ExitLine) → exit_of ws ≡ Some x → HasFewPlies x.value
unfolding exit_of
exit_lag ws x e =
    exit_case (value_of (before_first (is (codes "if")) ws))
    (some_of cond_of (after_first (is (codes "if")) ws)) x
    (value_small (before_first (is (codes "if")) ws)) e

-- one line more
sound_last : (earlier groups : List GroupLine) (g : GroupLine) → AreSoundAfter earlier groups →
    cause_of_group (earlier ++ groups) g ≡ None → AreStates g.states →
    AreSoundAfter earlier (groups ++ g ∷ [])
sound_last earlier [] g h c i =
    (sound_behind earlier g (subst (λ es. cause_of_group es g ≡ None) (append-nil earlier) c) i, tt)
sound_last earlier (e ∷ es) g h c i = (
  h.0,
  sound_last (earlier ++ e ∷ []) es g h.1
      (subst (λ xs. cause_of_group xs g ≡ None) (sym (append_assoc earlier (e ∷ []) es)) c) i,
)

is_result : (E : Type 0) (r s : RuleLines) → (let a : Result RuleLines E = Ok r in a ≡ Ok s) → r ≡ s
is_result E r s e = cc

group_added : (r s : RuleLines) (g : GroupLine) (o : Option RulesCause) → AreSoundLines r
    → AreStates g.states → cause_of_group r.groups g ≡ o
    → unless o (record { groups = r.groups ++ g ∷ []; forbids = r.forbids; exits = r.exits }) ≡ Ok s
    → AreSoundLines s
group_added r s g None h i c e =
    subst AreSoundLines (is_result RulesCause _ s e)
    (record {
      groups = sound_last [] r.groups g h.groups c i;
      forbids = h.forbids;
      few_exits = h.few_exits;
      exits = h.exits;
    })
group_added r s g (Some x) h i c e = absurd cc

group_sound : (r s : RuleLines) (line ws : List (List ℕ)) (o : Option GroupLine) → group_of ws ≡ o →
    AreSoundLines r → with_line add_group r line o ≡ Ok s → AreSoundLines s
group_sound r s line ws None w h e = absurd cc
group_sound r s line ws (Some g) w h e =
    group_added r s g (cause_of_group r.groups g) h (group_in_order ws g w) refl e

forbid_added : (r s : RuleLines) (f : Forbid) (b : Bool) (c : RulesCause) → AreSoundLines r
    → nat_le 64 (length r.forbids) ≡ b
    → cond b (Err c)
    (Ok (record { groups = r.groups; forbids = r.forbids ++ f ∷ []; exits = r.exits })) ≡ Ok s
    → AreSoundLines s
forbid_added r s f true c h t e = absurd cc
forbid_added r s f false c h t e =
    let l = leb-false 64 (length r.forbids) t in
    let more : length (r.forbids ++ f ∷ []) ≤ 64 = omega
    (arith, length-append r.forbids (f ∷ [])) in
    subst AreSoundLines (is_result RulesCause _ s e)
    (record { groups = h.groups; forbids = more; few_exits = h.few_exits; exits = h.exits })

forbid_sound : (r s : RuleLines) (line : List (List ℕ)) (o : Option Forbid) → AreSoundLines r →
    with_line add_forbid r line o ≡ Ok s → AreSoundLines s
forbid_sound r s line None h e = absurd cc
forbid_sound r s line (Some f) h e =
    forbid_added r s f (nat_le 64 (length r.forbids)) causes.TooManyLines h refl e

all_last : (xs : List ExitLine) (x : ExitLine) → AllByRecursion IsSoundExit xs → IsSoundExit x →
    AllByRecursion IsSoundExit (xs ++ x ∷ [])
all_last [] x h p = (p, tt)
all_last (y ∷ ys) x h p = (h.0, all_last ys x h.1 p)

exit_added : (r s : RuleLines) (x : ExitLine) (a b : Bool) (c : RulesCause) → AreSoundLines r
    → HasFewPlies x.value → nat_le 128 (length r.exits) ≡ a → nat_lt MOST_CONDS (length x.conds) ≡ b
    → cond (a || b) (Err c)
    (Ok (record { groups = r.groups; forbids = r.forbids; exits = r.exits ++ x ∷ [] })) ≡ Ok s
    → AreSoundLines s
exit_added r s x true b c h v t u e = absurd cc
exit_added r s x false true c h v t u e = absurd cc
exit_added r s x false false c h v t u e =
    let l = leb-false 128 (length r.exits) t in
    let m = ltb-false MOST_CONDS (length x.conds) u in
    let more : length (r.exits ++ x ∷ []) ≤ 128 = omega (arith, length-append r.exits (x ∷ [])) in
    subst AreSoundLines (is_result RulesCause _ s e)
    (record {
      groups = h.groups;
      forbids = h.forbids;
      few_exits = more;
      exits = all_last r.exits x h.exits (record { lag = v; conds = omega arith });
    })

exit_sound : (r s : RuleLines) (line ws : List (List ℕ)) (o : Option ExitLine) → exit_of ws ≡ o →
    AreSoundLines r → with_line add_exit r line o ≡ Ok s → AreSoundLines s
exit_sound r s line ws None w h e = absurd cc
exit_sound r s line ws (Some x) w h e =
    exit_added r s x (nat_le 128 (length r.exits)) (nat_le 9 (length x.conds)) causes.TooManyLines h
    (exit_lag ws x w) refl refl e

line_cases : (r s : RuleLines) (a b c : Bool) (line ws : List (List ℕ)) → AreSoundLines r →
    cond a (with_line add_group r line (group_of ws))
    (cond b (with_line add_forbid r line (forbid_of ws))
    (cond c (with_line add_exit r line (exit_of ws)) (Err causes.UnknownLine))) ≡ Ok s
    → AreSoundLines s
line_cases r s true b c line ws h e = group_sound r s line ws (group_of ws) refl h e
line_cases r s false true c line ws h e = forbid_sound r s line (forbid_of ws) h e
line_cases r s false false true line ws h e = exit_sound r s line ws (exit_of ws) refl h e
line_cases r s false false false line ws h e = absurd cc

line_sound : (r s : RuleLines) (ws : List (List ℕ)) → AreSoundLines r → line_of r ws ≡ Ok s →
    AreSoundLines s
unfolding line_of
line_sound r s [] h e = subst AreSoundLines (is_result RulesCause r s e) h
line_sound r s (w ∷ ws) h e =
    line_cases r s (is (codes "group") w) (is (codes "forbid") w) (is (codes "exit") w)
    (w ∷ ws) ws h e

lines_case : (n : ℕ) (a : Result RuleLines RulesCause) (r s : RuleLines)
    (ls : List (ℕ × List (List ℕ))) (ws : List (List ℕ)) → line_of r ws ≡ a → AreSoundLines r
    → ((t : RuleLines) → AreSoundLines t → lines_of t ls ≡ Ok s → AreSoundLines s)
    → (at_line n a >>= λ t. lines_of t ls) ≡ Ok s → AreSoundLines s
lines_case n (Ok t) r s ls ws w h k e = k t (line_sound r t ws h w) e
lines_case n (Err c) r s ls ws w h k e = absurd cc

sound_from : (ls : List (ℕ × List (List ℕ))) (r s : RuleLines) → AreSoundLines r →
    lines_of r ls ≡ Ok s → AreSoundLines s
sound_from [] r s h e = subst AreSoundLines (is_result RulesFault r s e) h
sound_from (l ∷ ls) r s h e =
    lines_case l.0 (line_of r l.1) r s ls l.1 refl h (λ t i f. sound_from ls t s i f) e

pub lines_sound : (ls : List (ℕ × List (List ℕ))) (s : RuleLines) → lines_of no_rules ls ≡ Ok s →
    AreSoundLines s
lines_sound ls s e =
    sound_from ls no_rules s
    (record { groups = tt; forbids = omega arith; few_exits = omega arith; exits = tt }) e

-- the whole text
both_true : (a b : Bool) → not (a && b) ≡ false → (a ≡ true) × (b ≡ true)
both_true true true e = (refl, refl)
both_true true false e = absurd cc
both_true false b e = absurd cc

whole_case : (a b : Bool) (t r : RuleLines) (f g : RulesFault) →
    cond a (Err f) (cond b (Err g) (Ok t)) ≡ Ok r → (t ≡ r) × (a ≡ false) × (b ≡ false)
whole_case true b t r f g e = absurd cc
whole_case false true t r f g e = absurd cc
whole_case false false t r f g e = (is_result RulesFault t r e, refl, refl)

whole_sound : (t r : RuleLines) → AreSoundLines t → whole t ≡ Ok r → IsSound r
whole_sound t r h e =
    let w = whole_case (not (has_king_group t.groups White && has_king_group t.groups Black))
    (nat_lt 134217728 (size_of t.groups)) t r (record { line = 0; cause = causes.KingGroup })
    (record { line = 0; cause = causes.SetTooBig (capped (size_of t.groups)) }) e in
    let kings = both_true (has_king_group t.groups White) (has_king_group t.groups Black) w.1 in
    subst IsSound w.0 (record {
      lines = h;
      white_king = kings.0;
      black_king = kings.1;
      size = ltb-false 134217728 (size_of t.groups) w.2;
    })

read_sound : (ls : List (ℕ × List (List ℕ))) (a : Result RuleLines RulesFault) (r : RuleLines)
    → lines_of no_rules ls ≡ a → (a >>= whole) ≡ Ok r → IsSound r
read_sound ls (Err f) r l e = absurd cc
read_sound ls (Ok t) r l e = whole_sound t r (lines_sound ls t l) e

header_case : (b : Bool) (ls : List (ℕ × List (List ℕ))) (r : RuleLines) (f : RulesFault)
    → cond b (lines_of no_rules ls >>= whole) (Err f) ≡ Ok r → IsSound r
header_case true ls r f e = read_sound ls (lines_of no_rules ls) r refl e
header_case false ls r f e = absurd cc

header_sound : (ls : List (ℕ × List (List ℕ))) (r : RuleLines) → after_header ls ≡ Ok r → IsSound r
header_sound [] r e = absurd cc
header_sound (l ∷ ls) r e =
    header_case (is_header l.1) ls r (record { line = l.0; cause = causes.Header }) e

text_case : (b : Bool) (ls : List (ℕ × List (List ℕ))) (r : RuleLines) (f : RulesFault) →
    cond b (Err f) (after_header ls) ≡ Ok r → IsSound r
text_case true ls r f e = absurd cc
text_case false ls r f e = header_sound ls r e

pub text_sound : (text : List ℕ) (r : RuleLines) → rules_of text ≡ Ok r → IsSound r
unfolding rules_of
text_sound text r e =
    text_case (nat_lt 65536 (length text)) (significant (numbered 1 (lines text))) r
    (record { line = 0; cause = causes.TooLong }) e

pub answer_sound : (text : List ℕ) (a : Result RuleLines RulesError) → Answers a (rules_of text) →
    IfOk a IsSound
answer_sound text (Ok r) e = text_sound text r e
answer_sound text (Err f) e = tt
