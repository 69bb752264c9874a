-- That the rules text of a sample is accepted, whatever its
-- square, and how many numbers its set has.
use Rattle.std.proofs.Common.{◌≡◌, ℕ, ◌+◌, ◌-◌, ◌*◌, ◌^◌, ◌<◌, ◌≤◌, Bool, true, false, cond, List, [], ◌∷◌, ◌++◌, Option, Some, None, Ok, refl, ap, ◌∙◌, arith, length, codes}
use Rattle.std.specs.Prelude.{◌==◌, nat_le, nat_lt, map, option_map}
use Rattle.std.specs.List.{filter}
use Rattle.std.proofs.lemmas.Bool.{le-leb, ne_eqb}
use Rattle.frz_squares.specs.Squares.{squares}
use Rattle.frz_combinations.specs.Binomials.{choose}
use Rattle.frz_board.specs.Squares.{file_of, rank_of}
use Rattle.frz_board.specs.Texts.{file_letter, rank_digit}
use Rattle.frz_board.specs.declared.man.Colour.{Colour}
use Rattle.frz_board.specs.declared.man.Colour.TheVariants.{White, Black}
use Rattle.frz_board.specs.declared.man.Kind.{Kind}
use Rattle.frz_board.specs.declared.man.Kind.TheVariants.{King, Rook}
use Rattle.frz_words.specs.Lines.{lines, is_line_feed, numbered, without_empty_end}
use Rattle.frz_words.specs.Numbers.{number_of}
use Rattle.frz_words.specs.Parts.{split, with_first}
use Rattle.frz_words.specs.Squares.{squares_of, set_of, is_covered, square_of, between, item_of, all_items, is_comma}
use Rattle.frz_words.specs.declared.squares.Rectangle.{Rectangle}
use Rattle.frz_words.specs.Words.{words, is_blank, has_bytes}
use Rattle.frz_sets.specs.Groups.{has_king_group}
use Rattle.frz_sets.specs.Sets.{size_of}
use Rattle.frz_sets.specs.Views.{GroupLine, ExitLine, RuleLines}
use Rattle.frz_sets.specs.declared.exit.Test.TheVariants.{Count}
use Rattle.frz_sets.specs.declared.exit.Value.TheVariants.{Draw}
use Rattle.frz_sets.specs.declared.forbid.Forbid.{Forbid}
use Rattle.frz_sets.specs.declared.forbid.Only.TheVariants.{Any}
use Rattle.frz_sets.specs.declared.limits.TheConstants.{MOST_FORBIDS, MOST_EXITS, MOST_CONDS}
use Rattle.frz_rules.specs.declared.fault.TheConstants.{LONGEST_TEXT}
use Rattle.frz_rules.specs.declared.fault.RulesCause.{RulesCause}
use Rattle.frz_rules.specs.Causes.{cause_of_group}
use Rattle.frz_rules.specs.Lines.{group_of, forbid_of, exit_of}
use Rattle.frz_rules.specs.States.{states_of}
use Rattle.frz_rules.specs.Text.{rules_of, line_of, lines_of, significant, no_rules, whole, with_line, add_group, add_forbid, add_exit, unless, at_line, begins_hash, ◌>>=◌}
use Rattle.frz_commands_table.specs.Sampling.{sample_text, sample_size}

-- one man of the kind, anywhere
abbrev one_of : Colour → Kind → GroupLine
one_of side kind =
    record { colour = side; least = 1; most = 1; states = states_of ((kind, 2 ^ 64 - 1) ∷ []) }

abbrev groups : List GroupLine
groups = one_of White King ∷ one_of White Rook ∷ one_of Black King ∷ []

-- the words of the lines
white_king_read : group_of (codes "white" ∷ codes "1" ∷ codes "K:all" ∷ []) ≡ Some
    (one_of White King)
unfolding group_of number_of squares_of set_of
white_king_read = refl

white_rook_read : group_of (codes "white" ∷ codes "1" ∷ codes "R:all" ∷ []) ≡ Some
    (one_of White Rook)
unfolding group_of number_of squares_of set_of
white_rook_read = refl

black_king_read : group_of (codes "black" ∷ codes "1" ∷ codes "K:all" ∷ []) ≡ Some
    (one_of Black King)
unfolding group_of number_of squares_of set_of
black_king_read = refl

all_is_every_square : squares_of (codes "all") ≡ Some (2 ^ 64 - 1)
unfolding squares_of set_of
all_is_every_square = refl

abbrev leaving : ℕ → Forbid
leaving set = record { colour = White; kind = Rook; from = 2 ^ 64 - 1; to = set; only = Any }

forbid_read : (square : List ℕ) (set : ℕ) → squares_of square ≡ Some set
    → forbid_of (codes "white" ∷ codes "R" ∷ codes "from" ∷ codes "all" ∷ codes "to" ∷ square ∷ [])
    ≡ Some (leaving set)
unfolding forbid_of
forbid_read square set e = rw (e, all_is_every_square) refl

abbrev drawn : ExitLine
drawn = record {
  value = Draw;
  conds = record { negated = false; test = Count White Rook 0 0 }
      ∷ [];
}

exit_read : exit_of (codes "draw" ∷ codes "if" ∷ codes "count:white:R:0" ∷ []) ≡ Some drawn
unfolding exit_of number_of
exit_read = refl

-- nothing is wrong with a group
first_fits : cause_of_group [] (one_of White King) ≡ None
unfolding states_of
first_fits = refl

second_fits : cause_of_group (one_of White King ∷ []) (one_of White Rook) ≡ None
unfolding states_of
second_fits = refl

third_fits : cause_of_group (one_of White King ∷ one_of White Rook ∷ []) (one_of Black King) ≡ None
unfolding states_of
third_fits = refl

white_king : has_king_group groups White ≡ true
unfolding states_of
white_king = refl

black_king : has_king_group groups Black ≡ true
unfolding states_of
black_king = refl

size_is : size_of groups ≡ sample_size
unfolding states_of choose squares
size_is = refl

-- a line that fits adds its part
group_line : (r : RuleLines) (ws : List (List ℕ)) (g : GroupLine) → group_of ws ≡ Some g
    → cause_of_group r.groups g ≡ None
    → line_of r (codes "group" ∷ ws) ≡ Ok
    (record { groups = r.groups ++ g ∷ []; forbids = r.forbids; exits = r.exits })
unfolding line_of
group_line r ws g read fits =
    ap (with_line add_group r (codes "group" ∷ ws)) read
    ∙ ap (λ (c : Option RulesCause). unless c
    (record { groups = r.groups ++ g ∷ []; forbids = r.forbids; exits = r.exits })) fits

forbid_line : (r : RuleLines) (ws : List (List ℕ)) (f : Forbid) → forbid_of ws ≡ Some f
    → nat_le MOST_FORBIDS (length r.forbids) ≡ false
    → line_of r (codes "forbid" ∷ ws) ≡ Ok
    (record { groups = r.groups; forbids = r.forbids ++ f ∷ []; exits = r.exits })
unfolding line_of
forbid_line r ws f read few = ap (with_line add_forbid r (codes "forbid" ∷ ws)) read ∙ rw few refl

exit_line : (r : RuleLines) (ws : List (List ℕ)) (e : ExitLine) → exit_of ws ≡ Some e
    → nat_le MOST_EXITS (length r.exits) ≡ false → nat_lt MOST_CONDS (length e.conds) ≡ false
    → line_of r (codes "exit" ∷ ws) ≡ Ok
    (record { groups = r.groups; forbids = r.forbids; exits = r.exits ++ e ∷ [] })
unfolding line_of
exit_line r ws e read few short =
    ap (with_line add_exit r (codes "exit" ∷ ws)) read ∙ rw (few, short) refl

next_line : (r s : RuleLines) (n : ℕ) (line : List (List ℕ)) (others : List (ℕ × List (List ℕ)))
    → line_of r line ≡ Ok s
    → lines_of r ((n, line) ∷ others) ≡ lines_of s others
next_line r s n line others e = ap (λ x. at_line n x >>= λ t. lines_of t others) e

abbrev rules_by : ℕ → RuleLines
rules_by set = record { groups = groups; forbids = leaving set ∷ []; exits = drawn ∷ [] }

-- the lines behind the header as words, with their numbers
abbrev exit_words : List (ℕ × List (List ℕ))
exit_words = (6, codes "exit" ∷ codes "draw" ∷ codes "if" ∷ codes "count:white:R:0" ∷ []) ∷ []

abbrev forbid_words : List ℕ → List (ℕ × List (List ℕ))
forbid_words square = (
  5,
  codes "forbid" ∷ codes "white" ∷ codes "R" ∷ codes "from" ∷ codes "all" ∷ codes "to"
      ∷ square ∷ [],
) ∷ exit_words

abbrev black_words : List ℕ → List (ℕ × List (List ℕ))
black_words square =
    (4, codes "group" ∷ codes "black" ∷ codes "1" ∷ codes "K:all" ∷ []) ∷ forbid_words square

abbrev rook_words : List ℕ → List (ℕ × List (List ℕ))
rook_words square =
    (3, codes "group" ∷ codes "white" ∷ codes "1" ∷ codes "R:all" ∷ []) ∷ black_words square

abbrev king_words : List ℕ → List (ℕ × List (List ℕ))
king_words square =
    (2, codes "group" ∷ codes "white" ∷ codes "1" ∷ codes "K:all" ∷ []) ∷ rook_words square

-- they give the rules
abbrev with_groups : List GroupLine → RuleLines
with_groups gs = record { groups = gs; forbids = []; exits = [] }

rules_read : (square : List ℕ) (set : ℕ) → squares_of square ≡ Some set
    → lines_of no_rules (king_words square) ≡ Ok (rules_by set)
rules_read square set e =
    let one : RuleLines = with_groups (one_of White King ∷ []) in
    let two : RuleLines = with_groups (one_of White King ∷ one_of White Rook ∷ []) in
    let three : RuleLines = with_groups groups in
    let four : RuleLines = record { groups = groups; forbids = leaving set ∷ []; exits = [] } in
    next_line no_rules one 2 _ (rook_words square)
    (group_line no_rules _ (one_of White King) white_king_read first_fits)
    ∙ next_line one two 3 _ (black_words square)
    (group_line one _ (one_of White Rook) white_rook_read second_fits)
    ∙ next_line two three 4 _ (forbid_words square)
    (group_line two _ (one_of Black King) black_king_read third_fits)
    ∙ next_line three four 5 _ exit_words
    (forbid_line three _ (leaving set) (forbid_read square set e) refl)
    ∙ next_line four (rules_by set) 6 _ [] (exit_line four _ drawn exit_read refl refl)

-- and nothing is wrong with the whole
whole_fits : (r : RuleLines) → has_king_group r.groups White ≡ true
    → has_king_group r.groups Black ≡ true → size_of r.groups ≡ sample_size → whole r ≡ Ok r
whole_fits r white black size = rw (white, black, size) refl

-- a text whose lines are these
accepted_as_read : (text : List ℕ) (others : List (ℕ × List (List ℕ))) (r : RuleLines)
    → nat_lt LONGEST_TEXT (length text) ≡ false
    → significant (numbered 1 (lines text)) ≡ (1, codes "freezer" ∷ codes "1" ∷ []) ∷ others
    → lines_of no_rules others ≡ Ok r → whole r ≡ Ok r → rules_of text ≡ Ok r
unfolding rules_of
accepted_as_read text others r short front read fits = rw (short, front, read) fits

-- the parts of a text that begins so, by the parts of its rest
abbrev onto : (ℕ → Bool) → List ℕ → List (List ℕ) → List (List ℕ)
onto p [] parts = parts
onto p (b ∷ bs) parts = cond (p b) ([] ∷ onto p bs parts) (with_first b (onto p bs parts))

split-append : (p : ℕ → Bool) (front rest : List ℕ)
    → split p (front ++ rest) ≡ onto p front (split p rest)
split-append p [] rest = refl
split-append p (b ∷ bs) rest =
    ap (λ (parts : List (List ℕ)). cond (p b) ([] ∷ parts) (with_first b parts))
    (split-append p bs rest)

-- two bytes that are no separators
two_more : (p : ℕ → Bool) (a b : ℕ) (rest : List ℕ) (parts : List (List ℕ)) → p a ≡ false
    → p b ≡ false → split p rest ≡ [] ∷ parts → split p (a ∷ b ∷ rest) ≡ (a ∷ b ∷ []) ∷ parts
two_more p a b rest parts e f h = rw (e, f, h) refl

-- a line with words that is no comment counts
line_counts : (n : ℕ) (line w : List ℕ) (ws : List (List ℕ)) (ls : List (ℕ × List ℕ))
    (others : List (ℕ × List (List ℕ))) → words line ≡ w ∷ ws → begins_hash w ≡ false
    → significant ls ≡ others
    → significant ((n, line) ∷ ls) ≡ (n, w ∷ ws) ∷ others
line_counts n line w ws ls others e h more = rw (e, h, more) refl

-- the words of lines that name no square
header_read : words (codes "freezer 1") ≡ codes "freezer" ∷ codes "1" ∷ []
unfolding words
header_read = refl

king_read : words (codes "group white 1 K:all") ≡ codes "group" ∷ codes "white" ∷ codes "1"
    ∷ codes "K:all" ∷ []
unfolding words
king_read = refl

rook_read : words (codes "group white 1 R:all") ≡ codes "group" ∷ codes "white" ∷ codes "1"
    ∷ codes "R:all" ∷ []
unfolding words
rook_read = refl

black_read : words (codes "group black 1 K:all") ≡ codes "group" ∷ codes "black" ∷ codes "1"
    ∷ codes "K:all" ∷ []
unfolding words
black_read = refl

draw_read : words (codes "exit draw if count:white:R:0") ≡ codes "exit" ∷ codes "draw" ∷ codes "if"
    ∷ codes "count:white:R:0" ∷ []
unfolding words
draw_read = refl

-- tests of a byte
other_byte : (n b : ℕ) → b < n → (n == b) ≡ false
other_byte n b h = ne_eqb n b (λ e. omega arith)

at_most : (a b : ℕ) → a ≤ b → nat_le a b ≡ true
at_most a b h = le-leb a b h

no_blank : (b : ℕ) → 49 ≤ b → is_blank b ≡ false
no_blank b h = rw (
  other_byte b 32 (omega arith),
  other_byte b 9 (omega arith),
  other_byte b 13 (omega arith),
) refl

abbrev front : List ℕ
front = codes "freezer 1\ngroup white 1 K:all\ngroup white 1 R:all\ngroup black 1 K:all\nforbid white R from all to "

abbrev back : List ℕ
back = codes "\nexit draw if count:white:R:0\n"

abbrev forbid_text : List ℕ → List ℕ
forbid_text square = codes "forbid white R from all to " ++ square

-- a square from itself to itself
between_itself : (s : ℕ) → between (Some s) (Some s) ≡ Some (record { first = s; last = s })
between_itself s = rw
    (at_most (file_of s) (file_of s) (omega arith), at_most (rank_of s) (rank_of s) (omega arith))
    refl

module _ (letter digit : ℕ) (a : 97 ≤ letter) (h : letter ≤ 104) (one : 49 ≤ digit)
    (eight : digit ≤ 56) where
  abbrev square : List ℕ
  square = letter ∷ digit ∷ []

  lines_are : lines (front ++ (letter ∷ digit ∷ back))
      ≡ codes "freezer 1" ∷ codes "group white 1 K:all" ∷ codes "group white 1 R:all"
      ∷ codes "group black 1 K:all"
      ∷ forbid_text square ∷ codes "exit draw if count:white:R:0" ∷ []
  lines_are =
      ap without_empty_end
      (split-append is_line_feed front (letter ∷ digit ∷ back)
      ∙ ap (onto is_line_feed front)
      (two_more is_line_feed letter digit back _ (other_byte letter 10 (omega arith))
      (other_byte digit 10 (omega arith)) refl))

  forbid_line_read : words (forbid_text square) ≡ codes "forbid" ∷ codes "white" ∷ codes "R"
      ∷ codes "from" ∷ codes "all" ∷ codes "to" ∷ square ∷ []
  unfolding words
  forbid_line_read =
      ap (filter has_bytes)
      (split-append is_blank (codes "forbid white R from all to ") square
      ∙ ap (onto is_blank (codes "forbid white R from all to "))
      (two_more is_blank letter digit [] [] (no_blank letter (omega arith)) (no_blank digit one)
      refl))

  abbrev last_lines : List (ℕ × List ℕ)
  last_lines = (6, codes "exit draw if count:white:R:0") ∷ []

  abbrev forbid_lines : List (ℕ × List ℕ)
  forbid_lines = (5, forbid_text square) ∷ last_lines

  abbrev black_lines : List (ℕ × List ℕ)
  black_lines = (4, codes "group black 1 K:all") ∷ forbid_lines

  abbrev rook_lines : List (ℕ × List ℕ)
  rook_lines = (3, codes "group white 1 R:all") ∷ black_lines

  abbrev king_lines : List (ℕ × List ℕ)
  king_lines = (2, codes "group white 1 K:all") ∷ rook_lines

  front_is : significant (numbered 1 (lines (front ++ (letter ∷ digit ∷ back))))
      ≡ (1, codes "freezer" ∷ codes "1" ∷ []) ∷ king_words square
  front_is =
      ap (λ (ls : List (List ℕ)). significant (numbered 1 ls)) lines_are
      ∙ line_counts 1 _ _ _ king_lines (king_words square) header_read refl
      (line_counts 2 _ _ _ rook_lines (rook_words square) king_read refl
      (line_counts 3 _ _ _ black_lines (black_words square) rook_read refl
      (line_counts 4 _ _ _ forbid_lines (forbid_words square) black_read refl
      (line_counts 5 _ _ _ last_lines exit_words forbid_line_read refl
      (line_counts 6 _ _ _ [] [] draw_read refl refl)))))

  abbrev number : ℕ
  number = 8 * (digit - 49) + (letter - 97)

  square_is : square_of letter digit ≡ Some number
  square_is = rw (
    at_most 97 letter a,
    at_most letter 104 h,
    at_most 49 digit one,
    at_most digit 56 eight,
  ) refl

  square_read : squares_of square ≡ Some
      (set_of (is_covered (record { first = number; last = number } ∷ [])))
  unfolding squares_of
  square_read =
      ap (λ (parts : List (List ℕ)). option_map
      (λ (items : List Rectangle). set_of (is_covered items)) (all_items (map item_of parts)))
      (two_more is_comma letter digit [] [] (other_byte letter 44 (omega arith))
      (other_byte digit 44 (omega arith)) refl)
      ∙ ap (λ (s : Option ℕ). option_map (λ (items : List Rectangle). set_of (is_covered items))
      (all_items (between s s ∷ []))) square_is
      ∙ ap (λ (o : Option Rectangle). option_map
      (λ (items : List Rectangle). set_of (is_covered items)) (all_items (o ∷ [])))
      (between_itself number)

-- the rules of the text: there are some, with the size of a sample
pub record GivesRules (k : ℕ) : Type 0 where
  pub rules : RuleLines
  pub read : rules_of (sample_text k) ≡ Ok rules
  pub size : size_of rules.groups ≡ sample_size

pub text_read : (k : ℕ) → k < 64 → GivesRules k
text_read k small =
    let letter = file_letter k in
    let digit = rank_digit k in
    let a : 97 ≤ letter = omega arith in
    let h : letter ≤ 104 = omega arith in
    let one : 49 ≤ digit = omega arith in
    let eight : digit ≤ 56 = omega arith in
    let n = number letter digit a h one eight in
    let set = set_of (is_covered (record { first = n; last = n } ∷ [])) in record {
      rules = rules_by set;
      read = accepted_as_read (sample_text k) (king_words (letter ∷ digit ∷ [])) (rules_by set) refl
          (front_is letter digit a h one eight)
          (rules_read (letter ∷ digit ∷ []) set (square_read letter digit a h one eight))
          (whole_fits (rules_by set) white_king black_king size_is);
      size = size_is;
    }
