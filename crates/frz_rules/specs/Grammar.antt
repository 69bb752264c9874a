-- The forms of lines, as classes of words one after the other, and what begins a line of a form.
use Rattle.std.specs.Prelude.{ℕ, ◌+◌, Bool, true, false, ◌&&◌, ◌||◌, List, [], ◌∷◌, max, Option, is_some, if◌then◌else◌, codes}
use Rattle.std.specs.List.{list_all}
use Rattle.frz_words.specs.Squares.{squares_of}
use Rattle.frz_rules.specs.Classes.{is, colour_of, kind_of, count_of, place_of, lag_of}
use Rattle.frz_rules.specs.Conditions.{cond_of}

pub data Form : Type 0 where
  -- no word more
  Ends : Form
  -- a word of the class, and then a line of the form
  Then : (List ℕ → Bool) → Form → Form
  -- words of the class, one or more
  Many : (List ℕ → Bool) → Form
  Or : Form → Form → Form

-- the words are a line of the form
abbrev pub fits : Form → List (List ℕ) → Bool
fits Ends [] = true
fits Ends (w ∷ ws) = false
fits (Then p f) [] = false
fits (Then p f) (w ∷ ws) = p w && fits f ws
fits (Many p) [] = false
fits (Many p) (w ∷ ws) = p w && list_all p ws
fits (Or f g) ws = fits f ws || fits g ws

-- how many of the first words begin a line of the form
abbrev pub reach : Form → List (List ℕ) → ℕ
reach Ends ws = 0
reach (Then p f) [] = 0
reach (Then p f) (w ∷ ws) = if p w then 1 + reach f ws else 0
reach (Many p) [] = 0
reach (Many p) (w ∷ ws) = if p w then 1 + reach (Many p) ws else 0
reach (Or f g) ws = max (reach f ws) (reach g ws)

abbrev pub has : {A : Type 0} → (List ℕ → Option A) → List ℕ → Bool
has class word = is_some (class word)

-- COLOUR COUNT PLACE ..
abbrev pub group_form : Form
group_form = Then (has colour_of) (Then (has count_of) (Many (has place_of)))

abbrev pub only_form : Form
only_form = Or Ends (Or (Then (is (codes "capture")) Ends) (Then (is (codes "promotion")) Ends))

-- COLOUR KIND from SQUARES to SQUARES, then nothing, `capture` or `promotion`
abbrev pub forbid_form : Form
forbid_form =
    Then (has colour_of) (Then (has kind_of)
    (Then (is (codes "from")) (Then (has squares_of)
    (Then (is (codes "to")) (Then (has squares_of) only_form)))))

-- if COND ..
abbrev pub if_form : Form
if_form = Then (is (codes "if")) (Many (has cond_of))

abbrev pub wins_form : Form
wins_form = Or if_form (Then (has lag_of) if_form)

abbrev pub side_form : Form
side_form =
    Then (has colour_of)
    (Or (Then (is (codes "holds")) if_form) (Then (is (codes "wins")) wins_form))

-- VALUE if COND ..
abbrev pub exit_form : Form
exit_form =
    Or (Then (is (codes "draw")) if_form) (Or (Then (is (codes "unknown")) if_form) side_form)

-- a line behind the header
unfoldable pub line_form : Form
line_form =
    Or (Then (is (codes "group")) group_form)
    (Or (Then (is (codes "forbid")) forbid_form) (Then (is (codes "exit")) exit_form))
