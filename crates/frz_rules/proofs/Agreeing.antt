-- Reading from word to word stops where no form goes on.
use Rattle.std.proofs.Common.{◌≡◌, ℕ, ◌+◌, Bool, true, false, cond, List, [], ◌∷◌, length, Option, None, Some, Result, Ok, Err, refl, ap, ◌∙◌, arith}
use Rattle.std.specs.Prelude.{is_some, codes}
use Rattle.std.specs.List.{list_all}
use Rattle.std.specs.Str.{bytes_eq}
use Rattle.std.proofs.lemmas.Slice.Eq.{bytes_eq-Decides}
use Rattle.frz_board.specs.declared.man.Colour.{Colour}
use Rattle.frz_board.specs.declared.man.Kind.{Kind}
use Rattle.frz_words.specs.Numbers.{number_of}
use Rattle.frz_words.specs.Squares.{squares_of}
use Rattle.frz_sets.specs.declared.forbid.Only.{Only}
use Rattle.frz_sets.specs.declared.forbid.Only.TheVariants.{Capture, Promotion}
use Rattle.frz_sets.specs.declared.forbid.Forbid.{Forbid}
use Rattle.frz_sets.specs.declared.exit.Value.{Value}
use Rattle.frz_sets.specs.declared.exit.Value.TheVariants.{Draw, Unknown}
use Rattle.frz_sets.specs.Views.{Condition}
use Rattle.frz_rules.specs.Classes.{is, colour_of, kind_of, count_of, place_of, lag_of}
use Rattle.frz_rules.specs.Conditions.{cond_of}
use Rattle.frz_rules.specs.Lines.{wins, wins_in, holds}
use Rattle.frz_rules.specs.Text.{◌>>=◌}
use Rattle.frz_rules.specs.Reading.{slot, taken, literal, each_of, more_of, one_or_more, at_least_one, group_words, only_words, forbid_words, then_if, lagged, after_wins, after_colour, value_words, exit_words}
use Rattle.frz_rules.specs.Grammar.{Form, fits, reach, has, group_form, only_form, forbid_form, if_form, wins_form, side_form, exit_form}
use Rattle.frz_rules.specs.Grammar.Form.{Then, Many, Or}

-- the words are of the form; or they are not, and those that
-- are left stand behind the longest front that begins one
abbrev pub Agrees : {A : Type 0} → Form → List (List ℕ) → Result A (List (List ℕ)) → Type 0
Agrees f ws (Ok x) = fits f ws ≡ true
Agrees f ws (Err rest) = (fits f ws ≡ false) × (length ws ≡ reach f ws + length rest)

pub equal_words : (v w : List ℕ) → bytes_eq v w ≡ true → v ≡ w
equal_words v w e = (bytes_eq-Decides v w).0 e

-- a word that fits, and what follows
goes_on : {B : Type 0} (p : List ℕ → Bool) (f : Form) (w : List ℕ) (ws : List (List ℕ))
    (r : Result B (List (List ℕ))) → p w ≡ true → Agrees f ws r → Agrees (Then p f) (w ∷ ws) r
goes_on p f w ws (Ok x) e a = rw e a
goes_on p f w ws (Err rest) e a = let l = a.1 in (rw e a.0, rw e (omega arith))

stops : (B : Type 0) (p : List ℕ → Bool) (f : Form) (w : List ℕ) (ws : List (List ℕ)) → p w ≡ false
    → Agrees {A = B} (Then p f) (w ∷ ws) (Err (w ∷ ws))
stops B p f w ws e = (rw e refl, rw e (omega arith))

taken_agrees : {A B : Type 0} (class : List ℕ → Option A) (f : Form)
    (k : A × List (List ℕ) → Result B (List (List ℕ))) (w : List ℕ) (ws : List (List ℕ))
    (o : Option A) → class w ≡ o → ((x : A) (vs : List (List ℕ)) → Agrees f vs (k (x, vs)))
    → Agrees (Then (has class) f) (w ∷ ws) (taken o w ws >>= k)
taken_agrees {B} class f k w ws None e a = stops B (has class) f w ws (ap is_some e)
taken_agrees class f k w ws (Some x) e a =
    goes_on (has class) f w ws (k (x, ws)) (ap is_some e) (a x ws)

slot_agrees : {A B : Type 0} (class : List ℕ → Option A) (f : Form)
    (k : A × List (List ℕ) → Result B (List (List ℕ)))
    → ((x : A) (vs : List (List ℕ)) → Agrees f vs (k (x, vs))) → (ws : List (List ℕ))
    → Agrees (Then (has class) f) ws (slot class ws >>= k)
slot_agrees class f k a [] = (refl, refl)
slot_agrees class f k a (w ∷ ws) = taken_agrees class f k w ws (class w) refl a

chosen_agrees : {B : Type 0} (text : List ℕ) (f : Form)
    (k : List (List ℕ) → Result B (List (List ℕ))) (w : List ℕ) (ws : List (List ℕ)) (b : Bool)
    → bytes_eq w text ≡ b → ((vs : List (List ℕ)) → Agrees f vs (k vs))
    → Agrees (Then (is text) f) (w ∷ ws) (cond b (Ok ws) (Err (w ∷ ws)) >>= k)
chosen_agrees text f k w ws true e a = goes_on (is text) f w ws (k ws) e (a ws)
chosen_agrees {B} text f k w ws false e a = stops B (is text) f w ws e

literal_agrees : {B : Type 0} (text : List ℕ) (f : Form)
    (k : List (List ℕ) → Result B (List (List ℕ))) → ((vs : List (List ℕ)) → Agrees f vs (k vs))
    → (ws : List (List ℕ)) → Agrees (Then (is text) f) ws (literal text ws >>= k)
literal_agrees text f k a [] = (refl, refl)
literal_agrees text f k a (w ∷ ws) = chosen_agrees text f k w ws (bytes_eq w text) refl a

-- the rest of a line, word by word
abbrev pub AgreesAll : {A : Type 0} → (List ℕ → Bool) → List (List ℕ) →
    Result (List A) (List (List ℕ)) → Type 0
AgreesAll p ws (Ok xs) = list_all p ws ≡ true
AgreesAll p ws (Err rest) = (list_all p ws ≡ false) × (length ws ≡ reach (Many p) ws + length rest)

more_agrees : {A : Type 0} (class : List ℕ → Option A) (w : List ℕ) (ws : List (List ℕ))
    (o : Option A) (r : Result (List A) (List (List ℕ))) → class w ≡ o → AgreesAll (has class) ws r
    → AgreesAll (has class) (w ∷ ws) (more_of o w ws r)
more_agrees class w ws None r e a = (rw e refl, rw e (omega arith))
more_agrees class w ws (Some x) (Ok xs) e a = rw e a
more_agrees class w ws (Some x) (Err rest) e a = let l = a.1 in (rw e a.0, rw e (omega arith))

all_agrees : {A : Type 0} (class : List ℕ → Option A) (ws : List (List ℕ)) →
    AgreesAll (has class) ws (each_of class ws)
all_agrees class [] = refl
all_agrees class (w ∷ ws) =
    more_agrees class w ws (class w) (each_of class ws) refl (all_agrees class ws)

some_agrees : {A B : Type 0} (class : List ℕ → Option A) (h : List A → B) (w : List ℕ)
    (ws : List (List ℕ)) (o : Option A) (r : Result (List A) (List (List ℕ))) → class w ≡ o
    → AgreesAll (has class) ws r
    → Agrees (Many (has class)) (w ∷ ws) ((more_of o w ws r >>= at_least_one) >>= λ ps. Ok (h ps))
some_agrees class h w ws None r e a = (rw e refl, rw e (omega arith))
some_agrees class h w ws (Some x) (Ok xs) e a = rw e a
some_agrees class h w ws (Some x) (Err rest) e a = let l = a.1 in (rw e a.0, rw e (omega arith))

many_agrees : {A B : Type 0} (class : List ℕ → Option A) (h : List A → B) (ws : List (List ℕ))
    → Agrees (Many (has class)) ws (one_or_more class ws >>= λ ps. Ok (h ps))
many_agrees class h [] = (refl, refl)
many_agrees class h (w ∷ ws) =
    some_agrees class h w ws (class w) (each_of class ws) refl (all_agrees class ws)

pub group_agrees : (ws : List (List ℕ)) → Agrees group_form ws (group_words ws)
unfolding group_words
group_agrees ws =
    slot_agrees colour_of (Then (has count_of) (Many (has place_of)))
    (λ c. slot count_of c.1 >>= λ n. one_or_more place_of n.1 >>= λ ps. Ok (c.0, n.0, ps)) (λ c vs.
    slot_agrees count_of (Many (has place_of))
    (λ n. one_or_more place_of n.1 >>= λ ps. Ok (c, n.0, ps)) (λ n us.
    many_agrees place_of (λ ps. (c, n, ps)) us) vs) ws

-- forbid
only_one : (w : List ℕ) (b c : Bool) → bytes_eq w (codes "capture") ≡ b →
    bytes_eq w (codes "promotion") ≡ c →
    Agrees only_form (w ∷ []) (cond b (Ok Capture) (cond c (Ok Promotion) (Err (w ∷ []))))
only_one w true c e f = rw e refl
only_one w false true e f = rw (e, f) refl
only_one w false false e f = (rw (e, f) refl, rw (e, f) refl)

only_two : (w v : List ℕ) (vs : List (List ℕ)) (b c : Bool) → bytes_eq w (codes "capture") ≡ b
    → bytes_eq w (codes "promotion") ≡ c
    → Agrees {A = Only} only_form (w ∷ v ∷ vs)
    (cond b (Err (v ∷ vs)) (cond c (Err (v ∷ vs)) (Err (w ∷ v ∷ vs))))
only_two w v vs true true e f = (rw (e, f) refl, rw (e, f) (omega arith))
only_two w v vs true false e f = (rw (e, f) refl, rw (e, f) (omega arith))
only_two w v vs false true e f = (rw (e, f) refl, rw (e, f) (omega arith))
only_two w v vs false false e f = (rw (e, f) refl, rw (e, f) (omega arith))

only_agrees : (ws : List (List ℕ)) → Agrees only_form ws (only_words ws)
only_agrees [] = refl
only_agrees (w ∷ []) =
    only_one w (bytes_eq w (codes "capture")) (bytes_eq w (codes "promotion")) refl refl
only_agrees (w ∷ v ∷ vs) =
    only_two w v vs (bytes_eq w (codes "capture")) (bytes_eq w (codes "promotion")) refl refl

map_agrees : {A B : Type 0} (h : A → B) (f : Form) (ws : List (List ℕ))
    (r : Result A (List (List ℕ))) → Agrees f ws r → Agrees f ws (r >>= λ x. Ok (h x))
map_agrees h f ws (Ok x) a = a
map_agrees h f ws (Err rest) a = a

abbrev pub made : Colour → Kind → ℕ → ℕ → Only → Forbid
made c k a b o =
    record { colour = c; kind = k; from = a; to = b; only = o }

pub forbid_agrees : (ws : List (List ℕ)) → Agrees forbid_form ws (forbid_words ws)
unfolding forbid_words
forbid_agrees ws =
    slot_agrees colour_of
    (Then (has kind_of)
    (Then (is (codes "from"))
    (Then (has squares_of) (Then (is (codes "to")) (Then (has squares_of) only_form)))))
    (λ c. slot kind_of c.1 >>= λ k. literal (codes "from") k.1 >>= λ r. slot squares_of r
    >>= λ a. literal (codes "to") a.1 >>= λ t. slot squares_of t >>= λ b. only_words b.1 >>= λ o. Ok
    (made c.0 k.0 a.0 b.0 o)) (λ c v1.
    slot_agrees kind_of
    (Then (is (codes "from"))
    (Then (has squares_of) (Then (is (codes "to")) (Then (has squares_of) only_form))))
    (λ k. literal (codes "from") k.1 >>= λ r. slot squares_of r >>= λ a. literal (codes "to") a.1
    >>= λ t. slot squares_of t >>= λ b. only_words b.1 >>= λ o. Ok (made c k.0 a.0 b.0 o)) (λ k v2.
    literal_agrees (codes "from")
    (Then (has squares_of) (Then (is (codes "to")) (Then (has squares_of) only_form)))
    (λ r. slot squares_of r >>= λ a. literal (codes "to") a.1 >>= λ t. slot squares_of t
    >>= λ b. only_words b.1 >>= λ o. Ok (made c k a.0 b.0 o)) (λ v3.
    slot_agrees squares_of (Then (is (codes "to")) (Then (has squares_of) only_form))
    (λ a. literal (codes "to") a.1 >>= λ t. slot squares_of t >>= λ b. only_words b.1 >>= λ o. Ok
    (made c k a.0 b.0 o)) (λ a v4.
    literal_agrees (codes "to") (Then (has squares_of) only_form)
    (λ t. slot squares_of t >>= λ b. only_words b.1 >>= λ o. Ok (made c k a b.0 o)) (λ v5.
    slot_agrees squares_of only_form (λ b. only_words b.1 >>= λ o. Ok (made c k a b.0 o)) (λ b v6.
    map_agrees (λ o. made c k a b o) only_form v6 (only_words v6) (only_agrees v6)) v5) v4) v3) v2)
    v1) ws

-- exit
or_left : {A : Type 0} (f g : Form) (ws : List (List ℕ)) (r : Result A (List (List ℕ))) →
    fits g ws ≡ false → reach g ws ≡ 0 → Agrees f ws r → Agrees (Or f g) ws r
or_left f g ws (Ok x) e z a = rw a refl
or_left f g ws (Err rest) e z a = let l = a.1 in (rw (a.0, e) refl, omega arith)

or_right : {A : Type 0} (f g : Form) (ws : List (List ℕ)) (r : Result A (List (List ℕ))) →
    fits f ws ≡ false → reach f ws ≡ 0 → Agrees g ws r → Agrees (Or f g) ws r
or_right f g ws (Ok x) e z a = rw (e, a) refl
or_right f g ws (Err rest) e z a = let l = a.1 in (rw (a.0, e) refl, omega arith)

abbrev pub conds_then : Value × List (List ℕ) → Result (Value × List Condition) (List (List ℕ))
conds_then v = one_or_more cond_of v.1 >>= λ conds. Ok (v.0, conds)

if_chosen : (v : Value) (w : List ℕ) (ws : List (List ℕ)) (b : Bool) → bytes_eq w (codes "if") ≡ b
    → Agrees if_form (w ∷ ws)
    ((cond b (Ok ws) (Err (w ∷ ws)) >>= λ rest. Ok (v, rest)) >>= conds_then)
if_chosen v w ws true e =
    goes_on (is (codes "if")) (Many (has cond_of)) w ws (conds_then (v, ws)) e
    (many_agrees cond_of (λ conds. (v, conds)) ws)
if_chosen v w ws false e =
    stops (Value × List Condition) (is (codes "if")) (Many (has cond_of)) w ws e

if_agrees : (v : Value) (ws : List (List ℕ)) → Agrees if_form ws (then_if v ws >>= conds_then)
if_agrees v [] = (refl, refl)
if_agrees v (w ∷ ws) = if_chosen v w ws (bytes_eq w (codes "if")) refl

abbrev lag_form : Form
lag_form = Then (has lag_of) if_form

lag_case : (c : Colour) (w : List ℕ) (ws : List (List ℕ)) (o : Option ℕ) → lag_of w ≡ o
    → Agrees lag_form (w ∷ ws) (lagged c o w ws >>= conds_then)
lag_case c w ws None e = stops (Value × List Condition) (has lag_of) if_form w ws (ap is_some e)
lag_case c w ws (Some n) e =
    goes_on (has lag_of) if_form w ws (then_if (wins_in c n) ws >>= conds_then) (ap is_some e)
    (if_agrees (wins_in c n) ws)

not_fits : (p : List ℕ → Bool) (f : Form) (w : List ℕ) (ws : List (List ℕ)) → p w ≡ false →
    fits (Then p f) (w ∷ ws) ≡ false
not_fits p f w ws e = rw e refl

not_reach : (p : List ℕ → Bool) (f : Form) (w : List ℕ) (ws : List (List ℕ)) → p w ≡ false →
    reach (Then p f) (w ∷ ws) ≡ 0
not_reach p f w ws e = rw e refl

no_lag : lag_of (codes "if") ≡ None
unfolding number_of
no_lag = refl

wins_case : (c : Colour) (w : List ℕ) (ws : List (List ℕ)) (b : Bool) → bytes_eq w (codes "if") ≡ b
    → Agrees wins_form (w ∷ ws) (cond b (Ok (wins c, ws)) (lagged c (lag_of w) w ws) >>= conds_then)
wins_case c w ws true e =
    let no : is_some (lag_of w) ≡ false = ap (λ x. is_some (lag_of x))
    (equal_words w (codes "if") e) ∙ ap is_some no_lag in
    or_left if_form lag_form (w ∷ ws) (conds_then (wins c, ws))
    (not_fits (has lag_of) if_form w ws no) (not_reach (has lag_of) if_form w ws no)
    (goes_on (is (codes "if")) (Many (has cond_of)) w ws (conds_then (wins c, ws)) e
    (many_agrees cond_of (λ conds. (wins c, conds)) ws))
wins_case c w ws false e =
    or_right if_form lag_form (w ∷ ws) (lagged c (lag_of w) w ws >>= conds_then)
    (not_fits (is (codes "if")) (Many (has cond_of)) w ws e)
    (not_reach (is (codes "if")) (Many (has cond_of)) w ws e)
    (lag_case c w ws (lag_of w) refl)

wins_agrees : (c : Colour) (ws : List (List ℕ))
    → Agrees wins_form ws (after_wins c ws >>= conds_then)
wins_agrees c [] = (refl, refl)
wins_agrees c (w ∷ ws) = wins_case c w ws (bytes_eq w (codes "if")) refl

abbrev verb_form : Form
verb_form = Or (Then (is (codes "holds")) if_form) (Then (is (codes "wins")) wins_form)

verb_case : (c : Colour) (w : List ℕ) (ws : List (List ℕ)) (a b : Bool)
    → bytes_eq w (codes "wins") ≡ a → bytes_eq w (codes "holds") ≡ b
    → Agrees verb_form (w ∷ ws)
    (cond a (after_wins c ws) (cond b (then_if (holds c) ws) (Err (w ∷ ws))) >>= conds_then)
verb_case c w ws true b e h =
    let no : bytes_eq w (codes "holds") ≡ false = ap (λ x. bytes_eq x (codes "holds"))
    (equal_words w (codes "wins") e) in
    or_right (Then (is (codes "holds")) if_form) (Then (is (codes "wins")) wins_form) (w ∷ ws)
    (after_wins c ws >>= conds_then) (not_fits (is (codes "holds")) if_form w ws no)
    (not_reach (is (codes "holds")) if_form w ws no)
    (goes_on (is (codes "wins")) wins_form w ws (after_wins c ws >>= conds_then) e
    (wins_agrees c ws))
verb_case c w ws false true e h =
    or_left (Then (is (codes "holds")) if_form) (Then (is (codes "wins")) wins_form) (w ∷ ws)
    (then_if (holds c) ws >>= conds_then) (not_fits (is (codes "wins")) wins_form w ws e)
    (not_reach (is (codes "wins")) wins_form w ws e)
    (goes_on (is (codes "holds")) if_form w ws (then_if (holds c) ws >>= conds_then) h
    (if_agrees (holds c) ws))
verb_case c w ws false false e h =
    or_left {A = Value × List Condition} (Then (is (codes "holds")) if_form)
    (Then (is (codes "wins")) wins_form) (w ∷ ws) (Err (w ∷ ws))
    (not_fits (is (codes "wins")) wins_form w ws e)
    (not_reach (is (codes "wins")) wins_form w ws e)
    (stops (Value × List Condition) (is (codes "holds")) if_form w ws h)

verb_agrees : (c : Colour) (ws : List (List ℕ))
    → Agrees verb_form ws (after_colour c ws >>= conds_then)
verb_agrees c [] = (refl, refl)
verb_agrees c (w ∷ ws) =
    verb_case c w ws (bytes_eq w (codes "wins")) (bytes_eq w (codes "holds")) refl refl

side_agrees : (w : List ℕ) (ws : List (List ℕ)) (o : Option Colour) → colour_of w ≡ o
    → Agrees side_form (w ∷ ws) ((taken o w ws >>= λ c. after_colour c.0 c.1) >>= conds_then)
side_agrees w ws None e =
    stops (Value × List Condition) (has colour_of) verb_form w ws (ap is_some e)
side_agrees w ws (Some c) e =
    goes_on (has colour_of) verb_form w ws (after_colour c ws >>= conds_then) (ap is_some e)
    (verb_agrees c ws)

abbrev unknown_form : Form
unknown_form = Then (is (codes "unknown")) if_form

abbrev draw_form : Form
draw_form = Then (is (codes "draw")) if_form

first_case : (w : List ℕ) (ws : List (List ℕ)) (a b : Bool) → bytes_eq w (codes "draw") ≡ a
    → bytes_eq w (codes "unknown") ≡ b
    → Agrees exit_form (w ∷ ws)
    (cond a (then_if Draw ws)
    (cond b (then_if Unknown ws) (slot colour_of (w ∷ ws) >>= λ c. after_colour c.0 c.1))
    >>= conds_then)
first_case w ws true b e h =
    let w_is = equal_words w (codes "draw") e in
    let no1 : bytes_eq w (codes "unknown") ≡ false = ap (λ x. bytes_eq x (codes "unknown")) w_is in
    let no2 : is_some (colour_of w) ≡ false = ap (λ x. is_some (colour_of x)) w_is in
    or_left draw_form (Or unknown_form side_form) (w ∷ ws) (then_if Draw ws >>= conds_then)
    (rw (no1, no2) refl) (rw (no1, no2) refl)
    (goes_on (is (codes "draw")) if_form w ws (then_if Draw ws >>= conds_then) e
    (if_agrees Draw ws))
first_case w ws false true e h =
    let w_is = equal_words w (codes "unknown") h in
    let no2 : is_some (colour_of w) ≡ false = ap (λ x. is_some (colour_of x)) w_is in
    or_right draw_form (Or unknown_form side_form) (w ∷ ws) (then_if Unknown ws >>= conds_then)
    (not_fits (is (codes "draw")) if_form w ws e) (not_reach (is (codes "draw")) if_form w ws e)
    (or_left unknown_form side_form (w ∷ ws) (then_if Unknown ws >>= conds_then)
    (not_fits (has colour_of) verb_form w ws no2) (not_reach (has colour_of) verb_form w ws no2)
    (goes_on (is (codes "unknown")) if_form w ws (then_if Unknown ws >>= conds_then) h
    (if_agrees Unknown ws)))
first_case w ws false false e h =
    let r = (taken (colour_of w) w ws >>= λ c. after_colour c.0 c.1) >>= conds_then in
    or_right draw_form (Or unknown_form side_form) (w ∷ ws) r
    (not_fits (is (codes "draw")) if_form w ws e) (not_reach (is (codes "draw")) if_form w ws e)
    (or_right unknown_form side_form (w ∷ ws) r (not_fits (is (codes "unknown")) if_form w ws h)
    (not_reach (is (codes "unknown")) if_form w ws h)
    (side_agrees w ws (colour_of w) refl))

pub exit_agrees : (ws : List (List ℕ)) → Agrees exit_form ws (exit_words ws)
unfolding exit_words value_words
exit_agrees [] = (refl, refl)
exit_agrees (w ∷ ws) =
    first_case w ws (bytes_eq w (codes "draw")) (bytes_eq w (codes "unknown")) refl refl
