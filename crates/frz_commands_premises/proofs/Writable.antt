-- What the lines tell can be written.
use Rattle.std.proofs.Common.{Bool, ◌+◌, ◌≤◌, ◌++◌, ◌∷◌, [], ℕ, List, All, arith, length, refl}
use Rattle.std.proofs.lemmas.List.{length-append, length-map}
use Rattle.std.proofs.lemmas.List.Elements.{All-append, All-cons, All-head, All-nil, All-tail}
use Rattle.frz_board.specs.declared.man.Colour.TheVariants.{White, Black}
use Rattle.frz_sets.specs.Views.{RuleLines}
use Rattle.frz_atlas.specs.Links.{Link}
use Rattle.frz_premises.specs.declared.basis.Basis.{Basis}
use Rattle.frz_premises.specs.declared.basis.Basis.TheVariants as basis
use Rattle.frz_premises.specs.Bases.{bases_of}
use Rattle.frz_premises.specs.Needs.{IsTellable}
use Rattle.frz_premises.proofs.Lemmas.{all_tellable}
use Rattle.frz_atlas_prelude.specs.declared.names.TheConstants.{MOST_BACKS}
use Rattle.frz_exit_lines.specs.Numbers.{exit_numbers_of}
use Rattle.frz_commands_premises.specs.declared.line.Line.{Line}
use Rattle.frz_commands_premises.specs.declared.line.Line.TheVariants.{Back, Rules, Exit, Believed, Side}
use Rattle.frz_commands_premises.specs.LineTexts.{IsWritable}
use Rattle.frz_commands_premises.specs.PremiseLines.{TextLink, basis_lines, behind_lines, belief_among, last_lines, leans_over, lines_by, links_in, premise_lines, strength_over, text_lines}

-- with more tables
tellable_more : (m n : ℕ) (b : Basis) → m ≤ n → IsTellable m b → IsTellable n b
tellable_more m n basis.AsksNothing few h = tt
tellable_more m n basis.ByMen few h = tt
tellable_more m n (basis.ByTable k) few h = omega (arith, few, h)
tellable_more m n basis.ByTables few h = tt
tellable_more m n (basis.Believed q) few h = h

writable_by : (n : ℕ) → n ≤ MOST_BACKS → (numbers : List ℕ) (bases : List Basis) →
    All (IsTellable n) bases → All IsWritable (lines_by numbers bases)
writable_by n few [] bases all = All-nil IsWritable
writable_by n few (m ∷ numbers) [] all = All-nil IsWritable
writable_by n few (m ∷ numbers) (b ∷ bases) all =
    All-cons IsWritable (Exit m b) (lines_by numbers bases)
    (tellable_more n MOST_BACKS b few (All-head (IsTellable n) b bases all))
    (writable_by n few numbers bases (All-tail (IsTellable n) b bases all))

writable_text : (leans : Bool) (text : List ℕ) (rules : RuleLines) (links : List Link) →
    length links ≤ MOST_BACKS → All IsWritable (text_lines leans text rules links)
writable_text leans text rules links few =
    writable_by (length links) few (exit_numbers_of text) (bases_of leans rules links)
    (all_tellable leans rules links (length links) refl)

pub writable_behind : (before : List Link) (tables : List TextLink) →
    length before + length tables ≤ MOST_BACKS + 1 → All IsWritable (behind_lines before tables)
unfolding behind_lines
writable_behind before [] few = All-nil IsWritable
writable_behind before (t ∷ tables) few =
    let lines = text_lines t.link.leans t.text t.link.rules before in
    let longer = length-append before (t.link ∷ []) in
    All-append IsWritable (Back (length before) ∷ lines)
    (behind_lines (before ++ t.link ∷ []) tables)
    (All-cons IsWritable (Back (length before)) lines (omega (arith, few))
    (writable_text t.link.leans t.text t.link.rules before (omega (arith, few))))
    (writable_behind (before ++ t.link ∷ []) tables (omega (arith, few, longer)))

writable_last : (rules : RuleLines) (links : List Link) (believed : ℕ) →
    All IsWritable (last_lines rules links believed)
writable_last rules links believed =
    let white : Line = Side White (strength_over rules links believed White) in
    let black : Line = Side Black (strength_over rules links believed Black) in
    All-cons IsWritable (Believed believed) (white ∷ black ∷ []) tt
    (All-cons IsWritable white (black ∷ []) tt
    (All-cons IsWritable black [] tt (All-nil IsWritable)))

-- of as many tables as a command takes
pub all_writable : (text : List ℕ) (rules : RuleLines) (tables : List TextLink) →
    length tables ≤ MOST_BACKS → All IsWritable (premise_lines text rules tables)
all_writable text rules tables few =
    let link : TextLink → Link = λ t. t.link in
    let many = length-map tables link in
    let links = links_in tables in
    let leans = leans_over links in
    let texts = text_lines leans text rules links in
    let believed = belief_among (basis_lines text rules tables) in
    All-append IsWritable (basis_lines text rules tables) (last_lines rules links believed)
    (All-append IsWritable (behind_lines [] tables) (Rules ∷ texts)
    (writable_behind [] tables (omega (arith, few)))
    (All-cons IsWritable Rules texts tt
    (writable_text leans text rules links (omega (arith, few, many)))))
    (writable_last rules links believed)
