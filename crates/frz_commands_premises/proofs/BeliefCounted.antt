-- How many of the lines tell of belief: as many as exit lines are believed.
use Rattle.std.proofs.Common.{Bool, ◌≡◌, ◌+◌, ◌++◌, ◌∷◌, ◌∙◌, [], ℕ, List, All, ap, ap₂, arith, cond, length, refl, sym, zero-add}
use Rattle.std.specs.Prelude.{Ok, count_by}
use Rattle.std.proofs.lemmas.List.Elements.{All-head, All-tail}
use Rattle.std.proofs.lemmas.List.Sums.{sum_by-append, sum_by-cons}
use Rattle.frz_sets.specs.Views.{RuleLines}
use Rattle.frz_rules.specs.Text.{rules_of}
use Rattle.frz_atlas.specs.Links.{Link}
use Rattle.frz_exit_lines.specs.Numbers.{exit_numbers_of}
use Rattle.frz_exit_lines.proofs.Lemmas.{as_many_lines}
use Rattle.frz_premises.specs.declared.basis.Basis.{Basis}
use Rattle.frz_premises.specs.Bases.{bases_of, believed_of, is_believed}
use Rattle.frz_premises.specs.Believing.{believed_in, believed_over}
use Rattle.frz_premises.proofs.Lemmas.{many_bases}
use Rattle.frz_commands_premises.specs.declared.line.Line.{Line}
use Rattle.frz_commands_premises.specs.declared.line.Line.TheVariants.{Back, Rules, Exit}
use Rattle.frz_commands_premises.specs.PremiseLines.{TextLink, basis_lines, behind_lines, belief_among, leans_over, lines_by, links_in, tells_belief, text_lines}

-- the text gives the rules of the table
abbrev pub IsReadAs : TextLink → Type 0
IsReadAs t = rules_of t.text ≡ Ok t.link.rules

-- of one line more, and of two lists
abbrev one_if : Line → ℕ
one_if line = cond (tells_belief line) 1 0

count_first : (line : Line) (lines : List Line) →
    belief_among (line ∷ lines) ≡ one_if line + belief_among lines
count_first line lines = sum_by-cons one_if line lines

count_both : (lines more : List Line) →
    belief_among (lines ++ more) ≡ belief_among lines + belief_among more
count_both lines more = sum_by-append one_if lines more

count_by_bases : (numbers : List ℕ) (bases : List Basis) → length numbers ≡ length bases →
    belief_among (lines_by numbers bases) ≡ count_by is_believed bases
count_by_bases [] [] many = refl
count_by_bases [] (b ∷ bases) many = absurd (omega arith)
count_by_bases (n ∷ numbers) [] many = absurd (omega arith)
count_by_bases (n ∷ numbers) (b ∷ bases) many =
    count_first (Exit n b) (lines_by numbers bases)
    ∙ ap (λ (k : ℕ). cond (is_believed b) 1 0 + k)
    (count_by_bases numbers bases (omega arith))
    ∙ sym (sum_by-cons (λ (x : Basis). cond (is_believed x) 1 0) b bases)

count_text : (leans : Bool) (text : List ℕ) (rules : RuleLines) (links : List Link) →
    rules_of text ≡ Ok rules →
    belief_among (text_lines leans text rules links) ≡ believed_of leans rules links
count_text leans text rules links read =
    count_by_bases (exit_numbers_of text) (bases_of leans rules links)
    (as_many_lines text rules read ∙ sym (many_bases leans rules links))

pub count_behind : (before : List Link) (tables : List TextLink) → All IsReadAs tables →
    belief_among (behind_lines before tables) ≡ believed_over before (links_in tables)
unfolding behind_lines believed_over
count_behind before [] read = refl
count_behind before (t ∷ tables) read =
    let lines = text_lines t.link.leans t.text t.link.rules before in
    count_both (Back (length before) ∷ lines) (behind_lines (before ++ t.link ∷ []) tables)
    ∙ ap₂ (λ (m n : ℕ). m + n)
    (count_first (Back (length before)) lines ∙ zero-add (belief_among lines)
    ∙ count_text t.link.leans t.text t.link.rules before (All-head IsReadAs t tables read))
    (count_behind (before ++ t.link ∷ []) tables (All-tail IsReadAs t tables read))

pub belief_counted : (text : List ℕ) (rules : RuleLines) (tables : List TextLink) →
    rules_of text ≡ Ok rules → All IsReadAs tables →
    belief_among (basis_lines text rules tables)
    ≡ believed_in (links_in tables)
    + believed_of (leans_over (links_in tables)) rules (links_in tables)
belief_counted text rules tables read all =
    let leans = leans_over (links_in tables) in
    let lines = text_lines leans text rules (links_in tables) in
    count_both (behind_lines [] tables) (Rules ∷ lines)
    ∙ ap₂ (λ (m n : ℕ). m + n) (count_behind [] tables all)
    (count_first Rules lines ∙ zero-add (belief_among lines)
    ∙ count_text leans text rules (links_in tables) read)

-- where none is believed, none is of the tables and none of the rules
pub none_counted : (text : List ℕ) (rules : RuleLines) (tables : List TextLink) →
    rules_of text ≡ Ok rules → All IsReadAs tables →
    belief_among (basis_lines text rules tables) ≡ 0 →
    (believed_in (links_in tables) ≡ 0)
    × (believed_of (leans_over (links_in tables)) rules (links_in tables) ≡ 0)
none_counted text rules tables read all none =
    let sum = belief_counted text rules tables read all in
    (omega (arith, none, sum), omega (arith, none, sum))
