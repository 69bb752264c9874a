-- A line says what reading it word by word gives.
use Rattle.std.proofs.Common.{◌≡◌, ℕ, suc, ◌+◌, Bool, true, false, cond, ◌&&◌, List, [], ◌∷◌, Option, None, Some, Result, Ok, Err, refl, ap, ◌∙◌, arith}
use Rattle.std.specs.Prelude.{codes, option_map}
use Rattle.std.specs.List.{before_first, after_first, position_or_len}
use Rattle.std.proofs.lemmas.Bool.{and_right}
use Rattle.frz_board.specs.declared.man.Colour.{Colour}
use Rattle.frz_board.specs.declared.man.Kind.{Kind}
use Rattle.frz_words.specs.Squares.{squares_of}
use Rattle.frz_sets.specs.declared.forbid.Only.{Only}
use Rattle.frz_sets.specs.declared.forbid.Only.TheVariants.{Capture, Promotion}
use Rattle.frz_sets.specs.declared.exit.Value.{Value}
use Rattle.frz_sets.specs.declared.exit.Value.TheVariants.{Draw, Unknown}
use Rattle.frz_sets.specs.Views.{Condition, ExitLine}
use Rattle.frz_rules.specs.Classes.{is, colour_of, kind_of, count_of, place_of, lag_of}
use Rattle.frz_rules.specs.Conditions.{cond_of}
use Rattle.frz_rules.specs.Lines.{with_first, all_of, some_of, group_from, group_of, only_of, forbid_from, forbid_of, wins, holds, wins_in, won_or_held, won_in, value_of, exit_from, exit_of}
use Rattle.frz_rules.specs.Text.{◌>>=◌}
use Rattle.frz_rules.specs.Reading.{slot, taken, literal, each_of, more_of, one_or_more, at_least_one, group_words, only_words, forbid_words, then_if, lagged, after_wins, after_colour, value_words, exit_words, read_group, read_exit}
use Rattle.frz_rules.specs.Grammar.{Form, fits, forbid_form}
use Rattle.frz_rules.proofs.Agreeing.{Agrees, equal_words, forbid_agrees, made, conds_then}

abbrev pub ok_of : {A : Type 0} → Result A (List (List ℕ)) → Option A
ok_of (Ok x) = Some x
ok_of (Err rest) = None

-- words of a class
more_said : {A : Type 0} (o : Option A) (w : List ℕ) (ws : List (List ℕ))
    (r : Result (List A) (List (List ℕ))) → with_first o (ok_of r) ≡ ok_of (more_of o w ws r)
more_said None w ws r = refl
more_said (Some x) w ws (Ok xs) = refl
more_said (Some x) w ws (Err rest) = refl

all_said : {A : Type 0} (class : List ℕ → Option A) (ws : List (List ℕ)) →
    all_of class ws ≡ ok_of (each_of class ws)
all_said class [] = refl
all_said class (w ∷ ws) =
    ap (with_first (class w)) (all_said class ws) ∙ more_said (class w) w ws (each_of class ws)

not_empty : {A : Type 0} (o : Option A) (w : List ℕ) (ws : List (List ℕ))
    (r : Result (List A) (List (List ℕ)))
    → ok_of (more_of o w ws r) ≡ ok_of (more_of o w ws r >>= at_least_one)
not_empty None w ws r = refl
not_empty (Some x) w ws (Ok xs) = refl
not_empty (Some x) w ws (Err rest) = refl

some_said : {A : Type 0} (class : List ℕ → Option A) (ws : List (List ℕ)) →
    some_of class ws ≡ ok_of (one_or_more class ws)
some_said class [] = refl
some_said class (w ∷ ws) = all_said class (w ∷ ws) ∙ not_empty (class w) w ws (each_of class ws)

-- groups
group_places : (c : Colour) (n : ℕ × ℕ) (r : Result (List (Kind × ℕ)) (List (List ℕ)))
    → group_from (Some c) (Some n) (ok_of r) ≡ option_map read_group
    (ok_of (r >>= λ ps. Ok (c, n, ps)))
group_places c n (Ok ps) = refl
group_places c n (Err rest) = refl

group_count : (c : Colour) (o : Option (ℕ × ℕ)) (w : List ℕ) (ws : List (List ℕ))
    → group_from (Some c) o (some_of place_of ws) ≡ option_map read_group
    (ok_of (taken o w ws >>= λ n. one_or_more place_of n.1 >>= λ ps. Ok (c, n.0, ps)))
group_count c None w ws = refl
group_count c (Some n) w ws =
    ap (group_from (Some c) (Some n)) (some_said place_of ws)
    ∙ group_places c n (one_or_more place_of ws)

group_colour : (o : Option Colour) (c w : List ℕ) (ws : List (List ℕ))
    → group_from o (count_of w) (some_of place_of ws) ≡ option_map read_group
    (ok_of (taken o c (w ∷ ws) >>= λ c. slot count_of c.1 >>= λ n. one_or_more place_of n.1
    >>= λ ps. Ok (c.0, n.0, ps)))
group_colour None c w ws = refl
group_colour (Some x) c w ws = group_count x (count_of w) w ws

colour_alone : (o : Option Colour) (c : List ℕ)
    → None ≡ option_map read_group
    (ok_of (taken o c [] >>= λ c. slot count_of c.1 >>= λ n. one_or_more place_of n.1 >>= λ ps. Ok
    (c.0, n.0, ps)))
colour_alone None c = refl
colour_alone (Some x) c = refl

pub group_said : (ws : List (List ℕ)) → group_of ws ≡ option_map read_group (ok_of (group_words ws))
unfolding group_of group_words
group_said [] = refl
group_said (c ∷ []) = colour_alone (colour_of c) c
group_said (c ∷ n ∷ places) = group_colour (colour_of c) c n places

-- forbid lines
one_word : (a b : Bool) (w : List ℕ) →
    cond a (Some Capture) (cond b (Some Promotion) None)
    ≡ ok_of (cond a (Ok Capture) (cond b (Ok Promotion) (Err (w ∷ []))))
one_word true b w = refl
one_word false true w = refl
one_word false false w = refl

two_words : (a b : Bool) (w v : List ℕ) (vs : List (List ℕ))
    → (let none : Option Only = None in none) ≡ ok_of
    (cond a (Err (v ∷ vs)) (cond b (Err (v ∷ vs)) (Err (w ∷ v ∷ vs))))
two_words true b w v vs = refl
two_words false true w v vs = refl
two_words false false w v vs = refl

only_said : (ws : List (List ℕ)) → only_of ws ≡ ok_of (only_words ws)
only_said [] = refl
only_said (w ∷ []) = one_word (is (codes "capture") w) (is (codes "promotion") w) w
only_said (w ∷ v ∷ vs) = two_words (is (codes "capture") w) (is (codes "promotion") w) w v vs

cond_none : {A : Type 0} (b : Bool) (o : Option A) → o ≡ None → cond b o None ≡ None
cond_none true o e = e
cond_none false o e = refl

forbid_end : (c : Colour) (k : Kind) (a b : ℕ) (r : Result Only (List (List ℕ)))
    → forbid_from (Some c) (Some k) (Some a) (Some b) (ok_of r) ≡ ok_of
    (r >>= λ o. Ok (made c k a b o))
forbid_end c k a b (Ok o) = refl
forbid_end c k a b (Err rest) = refl

forbid_to : (c : Colour) (k : Kind) (a : ℕ) (o : Option ℕ) (u : List ℕ) (end : List (List ℕ))
    → forbid_from (Some c) (Some k) (Some a) o (only_of end) ≡ ok_of
    (taken o u end >>= λ b. only_words b.1 >>= λ o. Ok (made c k a b.0 o))
forbid_to c k a None u end = refl
forbid_to c k a (Some b) u end =
    ap (forbid_from (Some c) (Some k) (Some a) (Some b)) (only_said end)
    ∙ forbid_end c k a b (only_words end)

forbid_to_word : (c : Colour) (k : Kind) (a : ℕ) (x : Bool) (t u : List ℕ) (end : List (List ℕ))
    → cond x (forbid_from (Some c) (Some k) (Some a) (squares_of u) (only_of end)) None ≡ ok_of
    (cond x (Ok (u ∷ end)) (Err (t ∷ u ∷ end)) >>= λ t. slot squares_of t >>= λ b. only_words b.1
    >>= λ o. Ok (made c k a b.0 o))
forbid_to_word c k a true t u end = forbid_to c k a (squares_of u) u end
forbid_to_word c k a false t u end = refl

forbid_squares : (c : Colour) (k : Kind) (o : Option ℕ) (s t u : List ℕ) (end : List (List ℕ))
    → cond (is (codes "to") t) (forbid_from (Some c) (Some k) o (squares_of u) (only_of end)) None
    ≡ ok_of (taken o s (t ∷ u ∷ end) >>= λ a. literal (codes "to") a.1 >>= λ t. slot squares_of t
    >>= λ b. only_words b.1 >>= λ o. Ok (made c k a.0 b.0 o))
forbid_squares c k None s t u end = cond_none (is (codes "to") t) None refl
forbid_squares c k (Some a) s t u end = forbid_to_word c k a (is (codes "to") t) t u end

forbid_from_word : (c : Colour) (k : Kind) (x : Bool) (f s t u : List ℕ) (end : List (List ℕ))
    → cond (x && is (codes "to") t)
    (forbid_from (Some c) (Some k) (squares_of s) (squares_of u) (only_of end)) None ≡ ok_of
    (cond x (Ok (s ∷ t ∷ u ∷ end)) (Err (f ∷ s ∷ t ∷ u ∷ end)) >>= λ r. slot squares_of r
    >>= λ a. literal (codes "to") a.1 >>= λ t. slot squares_of t >>= λ b. only_words b.1 >>= λ o. Ok
    (made c k a.0 b.0 o))
forbid_from_word c k true f s t u end = forbid_squares c k (squares_of s) s t u end
forbid_from_word c k false f s t u end = refl

forbid_kind : (c : Colour) (o : Option Kind) (k f s t u : List ℕ) (end : List (List ℕ))
    → cond (is (codes "from") f && is (codes "to") t)
    (forbid_from (Some c) o (squares_of s) (squares_of u) (only_of end)) None ≡ ok_of
    (taken o k (f ∷ s ∷ t ∷ u ∷ end) >>= λ k. literal (codes "from") k.1 >>= λ r. slot squares_of r
    >>= λ a. literal (codes "to") a.1 >>= λ t. slot squares_of t >>= λ b. only_words b.1 >>= λ o. Ok
    (made c k.0 a.0 b.0 o))
forbid_kind c None k f s t u end = cond_none (is (codes "from") f && is (codes "to") t) None refl
forbid_kind c (Some x) k f s t u end = forbid_from_word c x (is (codes "from") f) f s t u end

forbid_colour : (o : Option Colour) (c k f s t u : List ℕ) (end : List (List ℕ))
    → cond (is (codes "from") f && is (codes "to") t)
    (forbid_from o (kind_of k) (squares_of s) (squares_of u) (only_of end)) None ≡ ok_of
    (taken o c (k ∷ f ∷ s ∷ t ∷ u ∷ end) >>= λ c. slot kind_of c.1 >>= λ k. literal (codes "from")
    k.1 >>= λ r. slot squares_of r >>= λ a. literal (codes "to") a.1 >>= λ t. slot squares_of t
    >>= λ b. only_words b.1 >>= λ o. Ok (made c.0 k.0 a.0 b.0 o))
forbid_colour None c k f s t u end = cond_none (is (codes "from") f && is (codes "to") t) None refl
forbid_colour (Some x) c k f s t u end = forbid_kind x (kind_of k) k f s t u end

-- a line that is too short
unfit_says_none : {A : Type 0} (f : Form) (ws : List (List ℕ)) (r : Result A (List (List ℕ))) →
    Agrees f ws r → fits f ws ≡ false → None ≡ ok_of r
unfit_says_none f ws (Ok x) a e = absurd cc
unfit_says_none f ws (Err rest) a e = refl

too_short : (ws : List (List ℕ)) → fits forbid_form ws ≡ false → None ≡ ok_of (forbid_words ws)
too_short ws e = unfit_says_none forbid_form ws (forbid_words ws) (forbid_agrees ws) e

pub forbid_said : (ws : List (List ℕ)) → forbid_of ws ≡ ok_of (forbid_words ws)
unfolding forbid_of forbid_words
forbid_said [] = refl
forbid_said (c ∷ []) = too_short (c ∷ []) (simp and_right)
forbid_said (c ∷ k ∷ []) = too_short (c ∷ k ∷ []) (simp and_right)
forbid_said (c ∷ k ∷ f ∷ []) = too_short (c ∷ k ∷ f ∷ []) (simp and_right)
forbid_said (c ∷ k ∷ f ∷ s ∷ []) = too_short (c ∷ k ∷ f ∷ s ∷ []) (simp and_right)
forbid_said (c ∷ k ∷ f ∷ s ∷ t ∷ []) = too_short (c ∷ k ∷ f ∷ s ∷ t ∷ []) (simp and_right)
forbid_said (c ∷ k ∷ f ∷ s ∷ t ∷ u ∷ end) = forbid_colour (colour_of c) c k f s t u end

-- what stands before and after the word `if`
abbrev is_if : List ℕ → Bool
is_if w = is (codes "if") w

before_yes : (w : List ℕ) (ws : List (List ℕ)) → is_if w ≡ true → before_first is_if (w ∷ ws) ≡ []
before_yes w ws e = rw e refl

after_yes : (w : List ℕ) (ws : List (List ℕ)) → is_if w ≡ true → after_first is_if (w ∷ ws) ≡ ws
after_yes w ws e = rw e refl

before_no : (w : List ℕ) (ws : List (List ℕ)) → is_if w ≡ false →
    before_first is_if (w ∷ ws) ≡ w ∷ before_first is_if ws
before_no w ws e =
    let more : 1 + position_or_len is_if ws ≡ suc (position_or_len is_if ws) = omega arith in
    rw (e, more) refl

after_no : (w : List ℕ) (ws : List (List ℕ)) → is_if w ≡ false →
    after_first is_if (w ∷ ws) ≡ after_first is_if ws
after_no w ws e =
    let more : 1 + position_or_len is_if ws + 1 ≡ suc (position_or_len is_if ws + 1) =
    omega arith in rw (e, more) refl

-- what an exit line says, by the words before and after `if`
abbrev exit_by : List (List ℕ) → List (List ℕ) → Option ExitLine
exit_by value conds = exit_from (value_of value) (some_of cond_of conds)

abbrev said : Result (Value × List (List ℕ)) (List (List ℕ)) → Option ExitLine
said r = option_map read_exit (ok_of (r >>= conds_then))

conds_read : (v : Value) (r : Result (List Condition) (List (List ℕ)))
    → exit_from (Some v) (ok_of r) ≡ option_map read_exit (ok_of (r >>= λ conds. Ok (v, conds)))
conds_read v (Ok conds) = refl
conds_read v (Err rest) = refl

-- a value, `if` and conditions
conds_said : (v : Value) (ws : List (List ℕ)) →
    exit_from (Some v) (some_of cond_of ws) ≡ said (Ok (v, ws))
conds_said v ws =
    ap (exit_from (Some v)) (some_said cond_of ws) ∙ conds_read v (one_or_more cond_of ws)

no_value : (o : Option (List Condition)) → exit_from None o ≡ None
no_value None = refl
no_value (Some conds) = refl

no_exit : (value conds : List (List ℕ)) → value_of value ≡ None → exit_by value conds ≡ None
no_exit value conds e =
    ap (λ o. exit_from o (some_of cond_of conds)) e ∙ no_value (some_of cond_of conds)

-- no value has the words w, v and more, where w is no colour
not_side : (w : List ℕ) (others : List (List ℕ)) → is (codes "draw") w ≡ false →
    is (codes "unknown") w ≡ false → colour_of w ≡ None → value_of (w ∷ others) ≡ None
not_side w [] d u e = rw (d, u) refl
not_side w (v ∷ []) d u e = ap (λ o. won_or_held o v) e
not_side w (v ∷ n ∷ []) d u e =
    cond_none (is (codes "wins") v) (won_in (colour_of w) (lag_of n))
    (ap (λ o. won_in o (lag_of n)) e)
not_side w (v ∷ n ∷ x ∷ xs) d u e = refl

not_plain : (w v : List ℕ) (others : List (List ℕ)) → colour_of w ≡ None →
    value_of (w ∷ v ∷ others) ≡ None
not_plain w v [] e = ap (λ o. won_or_held o v) e
not_plain w v (n ∷ []) e =
    cond_none (is (codes "wins") v) (won_in (colour_of w) (lag_of n))
    (ap (λ o. won_in o (lag_of n)) e)
not_plain w v (n ∷ x ∷ xs) e = refl

-- the value and the conditions of a line, of which k takes the words of the value
abbrev said_by : (List (List ℕ) → Option Value) → List (List ℕ) → Option ExitLine
said_by k ws = exit_from (k (before_first is_if ws)) (some_of cond_of (after_first is_if ws))

at_if : (k : List (List ℕ) → Option Value) (w : List ℕ) (ws : List (List ℕ)) → is_if w ≡ true →
    said_by k (w ∷ ws) ≡ exit_from (k []) (some_of cond_of ws)
at_if k w ws e =
    ap (λ b. exit_from (k b) (some_of cond_of (after_first is_if (w ∷ ws)))) (before_yes w ws e)
    ∙ ap (λ a. exit_from (k []) (some_of cond_of a)) (after_yes w ws e)

said_past_word : (k : List (List ℕ) → Option Value) (w : List ℕ) (ws : List (List ℕ)) →
    is_if w ≡ false → said_by k (w ∷ ws) ≡ said_by (λ others. k (w ∷ others)) ws
said_past_word k w ws e =
    ap (λ b. exit_from (k b) (some_of cond_of (after_first is_if (w ∷ ws)))) (before_no w ws e)
    ∙ ap (λ a. exit_from (k (w ∷ before_first is_if ws)) (some_of cond_of a)) (after_no w ws e)

no_conds : (o : Option Value) → exit_from o None ≡ None
no_conds None = refl
no_conds (Some v) = refl

nothing_by : (o : Option Value) (cs : Option (List Condition)) → o ≡ None → exit_from o cs ≡ None
nothing_by o cs e = ap (λ p. exit_from p cs) e ∙ no_value cs

-- a whole value, and then `if`
if_case : (k : List (List ℕ) → Option Value) (v : Value) (b : Bool) (w : List ℕ)
    (ws : List (List ℕ)) → is_if w ≡ b → k [] ≡ Some v
    → ((x : List ℕ) (xs : List (List ℕ)) → k (x ∷ xs) ≡ None)
    → said_by k (w ∷ ws) ≡ said (cond b (Ok ws) (Err (w ∷ ws)) >>= λ rest. Ok (v, rest))
if_case k v true w ws e some none =
    at_if k w ws e ∙ ap (λ o. exit_from o (some_of cond_of ws)) some ∙ conds_said v ws
if_case k v false w ws e some none =
    said_past_word k w ws e
    ∙ nothing_by (k (w ∷ before_first is_if ws)) (some_of cond_of (after_first is_if ws))
    (none w (before_first is_if ws))

if_said : (k : List (List ℕ) → Option Value) (v : Value) → k [] ≡ Some v →
    ((x : List ℕ) (xs : List (List ℕ)) → k (x ∷ xs) ≡ None) → (ws : List (List ℕ)) →
    said_by k ws ≡ said (then_if v ws)
if_said k v some none [] = no_conds (k [])
if_said k v some none (w ∷ ws) = if_case k v (is_if w) w ws refl some none

-- COLOUR wins, and then `if`, or LAG and `if`
won_lag : (c : Colour) (w v n : List ℕ) (others : List (List ℕ)) → lag_of n ≡ None →
    value_of (w ∷ v ∷ n ∷ others) ≡ None
won_lag c w v n [] e =
    cond_none (is (codes "wins") v) (won_in (colour_of w) (lag_of n))
    (ap (won_in (colour_of w)) e ∙ no_lag (colour_of w))
  where
    no_lag : (o : Option Colour) → won_in o None ≡ None
    no_lag None = refl
    no_lag (Some c) = refl
won_lag c w v n (x ∷ xs) e = refl

lag_case : (c : Colour) (w v n : List ℕ) (ws : List (List ℕ)) (o : Option ℕ) → lag_of n ≡ o →
    colour_of w ≡ Some c → is (codes "wins") v ≡ true →
    said_by (λ others. value_of (w ∷ v ∷ n ∷ others)) ws ≡ said (lagged c o n ws)
lag_case c w v n ws None e s t =
    nothing_by (value_of (w ∷ v ∷ n ∷ before_first is_if ws))
    (some_of cond_of (after_first is_if ws)) (won_lag c w v n (before_first is_if ws) e)
lag_case c w v n ws (Some m) e s t =
    if_said (λ others. value_of (w ∷ v ∷ n ∷ others)) (wins_in c m)
    (ap (λ b. cond b (won_in (colour_of w) (lag_of n)) None) t ∙ ap (λ o. won_in o (lag_of n)) s
    ∙ ap (won_in (Some c)) e)
    (λ x xs. refl) ws

won_if : (c : Colour) (w v : List ℕ) → colour_of w ≡ Some c → is (codes "wins") v ≡ true →
    value_of (w ∷ v ∷ []) ≡ Some (wins c)
won_if c w v s t =
    ap (λ o. won_or_held o v) s
    ∙ ap (λ b. cond b (Some (wins c)) (cond (is (codes "holds") v) (Some (holds c)) None)) t

wins_case : (c : Colour) (w v : List ℕ) (b : Bool) (n : List ℕ) (ws : List (List ℕ)) → is_if n ≡ b →
    colour_of w ≡ Some c → is (codes "wins") v ≡ true →
    said_by (λ others. value_of (w ∷ v ∷ others)) (n ∷ ws)
    ≡ said (cond b (Ok (wins c, ws)) (lagged c (lag_of n) n ws))
wins_case c w v true n ws e s t =
    at_if (λ others. value_of (w ∷ v ∷ others)) n ws e
    ∙ ap (λ o. exit_from o (some_of cond_of ws)) (won_if c w v s t) ∙ conds_said (wins c) ws
wins_case c w v false n ws e s t =
    said_past_word (λ others. value_of (w ∷ v ∷ others)) n ws e
    ∙ lag_case c w v n ws (lag_of n) refl s t

wins_said : (c : Colour) (w v : List ℕ) → colour_of w ≡ Some c → is (codes "wins") v ≡ true →
    (ws : List (List ℕ)) → said_by (λ others. value_of (w ∷ v ∷ others)) ws ≡ said (after_wins c ws)
wins_said c w v s t [] = no_conds (value_of (w ∷ v ∷ []))
wins_said c w v s t (n ∷ ws) = wins_case c w v (is_if n) n ws refl s t

-- COLOUR holds
held_more : (w v : List ℕ) → is (codes "wins") v ≡ false → (n : List ℕ) (others : List (List ℕ)) →
    value_of (w ∷ v ∷ n ∷ others) ≡ None
held_more w v t n [] = ap (λ b. cond b (won_in (colour_of w) (lag_of n)) None) t
held_more w v t n (x ∷ xs) = refl

held : (c : Colour) (w v : List ℕ) → colour_of w ≡ Some c → is (codes "wins") v ≡ false →
    is (codes "holds") v ≡ true → value_of (w ∷ v ∷ []) ≡ Some (holds c)
held c w v s t h =
    ap (λ o. won_or_held o v) s
    ∙ ap (λ b. cond b (Some (wins c)) (cond (is (codes "holds") v) (Some (holds c)) None)) t
    ∙ ap (λ b. cond b (Some (holds c)) None) h

-- neither
no_verb : (c : Colour) (w v : List ℕ) → colour_of w ≡ Some c → is (codes "wins") v ≡ false →
    is (codes "holds") v ≡ false → (others : List (List ℕ)) → value_of (w ∷ v ∷ others) ≡ None
no_verb c w v s t h [] =
    ap (λ o. won_or_held o v) s
    ∙ ap (λ b. cond b (Some (wins c)) (cond (is (codes "holds") v) (Some (holds c)) None)) t
    ∙ ap (λ b. cond b (Some (holds c)) None) h
no_verb c w v s t h (n ∷ others) = held_more w v t n others

plain_none : (w : List ℕ) → is (codes "draw") w ≡ false → is (codes "unknown") w ≡ false →
    value_of (w ∷ []) ≡ None
plain_none w d u =
    ap (λ b. cond b (Some Draw) (cond (is (codes "unknown") w) (Some Unknown) None)) d
    ∙ ap (λ b. cond b (Some Unknown) None) u

stray_says_none : (c : Colour) (w v : List ℕ) (b : Bool) (vs : List (List ℕ)) → is_if v ≡ b →
    colour_of w ≡ Some c → is (codes "draw") w ≡ false → is (codes "unknown") w ≡ false →
    is (codes "wins") v ≡ false → is (codes "holds") v ≡ false →
    said_by (λ others. value_of (w ∷ others)) (v ∷ vs) ≡ None
stray_says_none c w v true vs e s d u t h =
    at_if (λ others. value_of (w ∷ others)) v vs e
    ∙ nothing_by (value_of (w ∷ [])) (some_of cond_of vs) (plain_none w d u)
stray_says_none c w v false vs e s d u t h =
    said_past_word (λ others. value_of (w ∷ others)) v vs e
    ∙ nothing_by (value_of (w ∷ v ∷ before_first is_if vs)) (some_of cond_of (after_first is_if vs))
    (no_verb c w v s t h (before_first is_if vs))

verb_case : (c : Colour) (w v : List ℕ) (a b : Bool) (vs : List (List ℕ)) →
    is (codes "wins") v ≡ a → is (codes "holds") v ≡ b → colour_of w ≡ Some c →
    is (codes "draw") w ≡ false → is (codes "unknown") w ≡ false →
    said_by (λ others. value_of (w ∷ others)) (v ∷ vs)
    ≡ said (cond a (after_wins c vs) (cond b (then_if (holds c) vs) (Err (v ∷ vs))))
verb_case c w v true b vs t h s d u =
    said_past_word (λ others. value_of (w ∷ others)) v vs
    (ap is_if (equal_words v (codes "wins") t))
    ∙ wins_said c w v s t vs
verb_case c w v false true vs t h s d u =
    said_past_word (λ others. value_of (w ∷ others)) v vs
    (ap is_if (equal_words v (codes "holds") h))
    ∙ if_said (λ others. value_of (w ∷ v ∷ others)) (holds c) (held c w v s t h) (held_more w v t)
    vs
verb_case c w v false false vs t h s d u = stray_says_none c w v (is_if v) vs refl s d u t h

verb_said : (c : Colour) (w : List ℕ) → colour_of w ≡ Some c → is (codes "draw") w ≡ false →
    is (codes "unknown") w ≡ false → (ws : List (List ℕ)) →
    said_by (λ others. value_of (w ∷ others)) ws ≡ said (after_colour c ws)
verb_said c w s d u [] = no_conds (value_of (w ∷ []))
verb_said c w s d u (v ∷ vs) =
    verb_case c w v (is (codes "wins") v) (is (codes "holds") v) vs refl refl s d u

-- a line that begins with no colour, and not with a word of its own
no_side : (w : List ℕ) (b : Bool) (ws : List (List ℕ)) → is_if w ≡ b → is (codes "draw") w ≡ false →
    is (codes "unknown") w ≡ false → colour_of w ≡ None → said_by value_of (w ∷ ws) ≡ None
no_side w true ws e d u s = at_if value_of w ws e ∙ no_value (some_of cond_of ws)
no_side w false ws e d u s =
    said_past_word value_of w ws e
    ∙ nothing_by (value_of (w ∷ before_first is_if ws)) (some_of cond_of (after_first is_if ws))
    (not_side w (before_first is_if ws) d u s)

colour_not_if : (w : List ℕ) (c : Colour) (b : Bool) → is_if w ≡ b → colour_of w ≡ Some c →
    b ≡ false
colour_not_if w c true e s =
    absurd (let none : colour_of w ≡ None = ap colour_of (equal_words w (codes "if") e) in cc)
colour_not_if w c false e s = refl

side_case : (w : List ℕ) (ws : List (List ℕ)) (o : Option Colour) → colour_of w ≡ o
    → is (codes "draw") w ≡ false → is (codes "unknown") w ≡ false
    → said_by value_of (w ∷ ws) ≡ said (taken o w ws >>= λ c. after_colour c.0 c.1)
side_case w ws None s d u = no_side w (is_if w) ws refl d u s
side_case w ws (Some c) s d u =
    said_past_word value_of w ws (colour_not_if w c (is_if w) refl s) ∙ verb_said c w s d u ws

-- `draw` or `unknown`
plain_said : (v : Value) (w : List ℕ) (ws : List (List ℕ)) → is_if w ≡ false →
    value_of (w ∷ []) ≡ Some v → colour_of w ≡ None →
    said_by value_of (w ∷ ws) ≡ said (then_if v ws)
plain_said v w ws e some none =
    said_past_word value_of w ws e
    ∙ if_said (λ others. value_of (w ∷ others)) v some (λ x xs. not_plain w x xs none) ws

first_case : (w : List ℕ) (ws : List (List ℕ)) (a b : Bool) → is (codes "draw") w ≡ a
    → is (codes "unknown") w ≡ b
    → said_by value_of (w ∷ ws) ≡ said
    (cond a (then_if Draw ws)
    (cond b (then_if Unknown ws) (slot colour_of (w ∷ ws) >>= λ c. after_colour c.0 c.1)))
first_case w ws true b d u =
    let same = equal_words w (codes "draw") d in
    plain_said Draw w ws (ap is_if same) (ap (λ x. value_of (x ∷ [])) same) (ap colour_of same)
first_case w ws false true d u =
    let same = equal_words w (codes "unknown") u in
    plain_said Unknown w ws (ap is_if same) (ap (λ x. value_of (x ∷ [])) same) (ap colour_of same)
first_case w ws false false d u = side_case w ws (colour_of w) refl d u

pub exit_said : (ws : List (List ℕ)) → exit_of ws ≡ option_map read_exit (ok_of (exit_words ws))
unfolding exit_of exit_words value_words
exit_said [] = refl
exit_said (w ∷ ws) = first_case w ws (is (codes "draw") w) (is (codes "unknown") w) refl refl
