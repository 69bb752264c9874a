-- Lines that are added one by one.
use Rattle.std.proofs.Common.{Bool, ◌≡◌, ◌+◌, ◌<◌, ◌++◌, ◌∷◌, ◌∙◌, [], ℕ, zero, suc, List, ap, ap₂, arith, append_assoc, append-nil, get_or, length, refl, sym, take}
use Rattle.std.specs.Prelude.{map}
use Rattle.std.proofs.lemmas.List.{length-map, length-take-le, map-append, take_more}
use Rattle.frz_board.specs.declared.man.Colour.TheVariants.{White, Black}
use Rattle.frz_sets.specs.Views.{RuleLines}
use Rattle.frz_atlas.specs.BackTable.{BackTable}
use Rattle.frz_atlas.specs.Links.{Link}
use Rattle.frz_atlas.specs.Loaded.{leans_as, link_loaded}
use Rattle.frz_premises.specs.declared.sides.Strength.{Strength}
use Rattle.frz_premises.specs.declared.basis.Basis.{Basis}
use Rattle.frz_commands_premises.specs.declared.line.Line.{Line}
use Rattle.frz_commands_premises.specs.declared.line.Line.TheVariants.{Back, Rules, Exit, Believed, Side}
use Rattle.frz_commands_premises.specs.PremiseLines.{TextLink, basis_lines, behind_lines, belief_among, last_lines, leans_over, lines_by, links_in, premise_lines, strength_over, text_link_loaded, text_lines}
use Rattle.frz_commands_premises.proofs.ExactTables.{links_loaded}

-- one exit line more
pub line_more : (numbers : List ℕ) (bases : List Basis) (i d : ℕ) (b : Basis) →
    i < length numbers → i < length bases → b ≡ get_or bases i b →
    take (suc i) (lines_by numbers bases)
    ≡ take i (lines_by numbers bases) ++ Exit (get_or numbers i d) b ∷ []
line_more [] bases i d b within also is = absurd (omega arith)
line_more (m ∷ numbers) [] i d b within also is = absurd (omega arith)
line_more (m ∷ numbers) (c ∷ bases) zero d b within also is =
    ap (λ (x : Basis). Exit m x ∷ []) (sym is)
line_more (m ∷ numbers) (c ∷ bases) (suc i) d b within also is =
    ap (λ (l : List Line). Exit m c ∷ l)
    (line_more numbers bases i d b (omega arith) (omega arith) is)

pub many_lines : (numbers : List ℕ) (bases : List Basis) → length numbers ≡ length bases →
    length (lines_by numbers bases) ≡ length numbers
many_lines [] bases same = refl
many_lines (n ∷ numbers) [] same = absurd (omega arith)
many_lines (n ∷ numbers) (b ∷ bases) same = ap suc (many_lines numbers bases (omega arith))

-- the lines of one table
abbrev pub table_lines : List Link → TextLink → List Line
table_lines before t = Back (length before) ∷ text_lines t.link.leans t.text t.link.rules before

-- one table more
pub table_more : (before : List Link) (tables : List TextLink) (t : TextLink) →
    behind_lines before (tables ++ t ∷ [])
    ≡ behind_lines before tables ++ table_lines (before ++ links_in tables) t
unfolding behind_lines
table_more before [] t =
    append-nil (table_lines before t)
    ∙ ap (λ (ls : List Link). table_lines ls t) (sym (append-nil before))
table_more before (s ∷ tables) t =
    ap (λ (l : List Line). table_lines before s ++ l) (table_more (before ++ s.link ∷ []) tables t)
    ∙ sym (append_assoc (table_lines before s) (behind_lines (before ++ s.link ∷ []) tables)
    (table_lines ((before ++ s.link ∷ []) ++ links_in tables) t))
    ∙ ap (λ (ls : List Link). (table_lines before s
    ++ behind_lines (before ++ s.link ∷ []) tables) ++ table_lines ls t)
    (append_assoc before (s.link ∷ []) (links_in tables))

-- the lines of the tables that were loaded, with one table more
back_more : (backs : List BackTable) (place : ℕ) (back : BackTable) → place < length backs →
    back ≡ get_or backs place back →
    behind_lines [] (map text_link_loaded (take (place + 1) backs))
    ≡ behind_lines [] (map text_link_loaded (take place backs))
    ++ Back place ∷ text_lines (leans_as back.table.kind) back.table.text back.table.rules
    (map link_loaded (take place backs))
back_more backs place back within is =
    let front = take place backs in
    let texts = map text_link_loaded front in
    let links : links_in texts ≡ map link_loaded front = links_loaded front in
    let many : length (links_in texts) ≡ place =
    ap (length {A = Link}) links ∙ length-map front link_loaded
    ∙ length-take-le place backs (omega (arith, within)) in
    ap (λ (l : List BackTable). behind_lines [] (map text_link_loaded l))
    (take_more backs place back within
    ∙ ap (λ (b : BackTable). front ++ b ∷ []) (sym is))
    ∙ ap (behind_lines []) (map-append text_link_loaded front (back ∷ []))
    ∙ table_more [] texts (text_link_loaded back)
    ∙ ap (λ (n : ℕ). behind_lines [] texts ++ Back n
    ∷ text_lines (leans_as back.table.kind) back.table.text back.table.rules (links_in texts)) many
    ∙ ap (λ (l : List Link). behind_lines [] texts ++ Back place
    ∷ text_lines (leans_as back.table.kind) back.table.text back.table.rules l) links

pub behind_more : (backs : List BackTable) (place : ℕ) (back : BackTable)
    (old lines pushed new : List Line) (leans : Bool) (text : List ℕ) (rules : RuleLines) → place < length backs →
    back ≡ get_or backs place back →
    lines ≡ old ++ behind_lines [] (map text_link_loaded (take place backs)) →
    pushed ≡ lines ++ Back place ∷ [] → leans ≡ leans_as back.table.kind → text ≡ back.table.text →
    rules ≡ back.table.rules → new ≡ pushed ++ text_lines leans text rules (map link_loaded (take place backs)) →
    new ≡ old ++ behind_lines [] (map text_link_loaded (take (place + 1) backs))
behind_more backs place back old lines pushed new leans text rules within is so_far push is_leaning
    is_text is_rules added =
    let links = map link_loaded (take place backs) in
    let front = behind_lines [] (map text_link_loaded (take place backs)) in
    let own = text_lines (leans_as back.table.kind) back.table.text back.table.rules links in
    added
    ∙ ap (λ (b : Bool). pushed ++ text_lines b text rules links) is_leaning
    ∙ ap₂ (λ (t : List ℕ) (r : RuleLines). pushed ++ text_lines (leans_as back.table.kind) t r links)
    is_text is_rules
    ∙ ap (λ (l : List Line). l ++ own) (push ∙ ap (λ (l : List Line). l ++ Back place ∷ []) so_far)
    ∙ append_assoc (old ++ front) (Back place ∷ []) own
    ∙ append_assoc old front (Back place ∷ own)
    ∙ ap (λ (l : List Line). old ++ l) (sym (back_more backs place back within is))

-- the lines of both sides
pub sides_more : (old first last : List Line) (white black w b : Strength) →
    first ≡ old ++ Side White white ∷ [] → last ≡ first ++ Side Black black ∷ [] → white ≡ w →
    black ≡ b → last ≡ old ++ Side White w ∷ Side Black b ∷ []
sides_more old first last white black w b one both is_white is_black =
    both ∙ ap (λ (l : List Line). l ++ Side Black black ∷ []) one
    ∙ append_assoc old (Side White white ∷ []) (Side Black black ∷ [])
    ∙ ap₂ (λ (s t : Strength). old ++ Side White s ∷ Side Black t ∷ []) is_white is_black

-- the lines one after another are those of the answer
module _ (text : List ℕ) (rules : RuleLines) (backs : List BackTable) (believed : ℕ)
    (behind named texts counted last : List Line) where
  abbrev tables : List TextLink
  tables = map text_link_loaded backs

  abbrev links : List Link
  links = map link_loaded backs

  abbrev own : List Line
  own = text_lines (leans_over links) text rules links

  texts_are : behind ≡ behind_lines [] tables → named ≡ behind ++ Rules ∷ [] →
      texts ≡ named ++ own → texts ≡ basis_lines text rules tables
  texts_are first rule more =
      more ∙ ap (λ (l : List Line). l ++ own) (rule ∙ ap (λ (l : List Line). l ++ Rules ∷ []) first)
      ∙ append_assoc (behind_lines [] tables) (Rules ∷ []) own
      ∙ ap (λ (ls : List Link). behind_lines [] tables
      ++ Rules ∷ text_lines (leans_over ls) text rules ls)
      (sym (links_loaded backs))

  pub all_told : behind ≡ behind_lines [] tables → named ≡ behind ++ Rules ∷ [] →
      texts ≡ named ++ own → believed ≡ belief_among texts →
      counted ≡ texts ++ Believed believed ∷ [] →
      last ≡ counted ++ Side White (strength_over rules links believed White)
      ∷ Side Black (strength_over rules links believed Black) ∷ [] →
      last ≡ premise_lines text rules tables
  all_told first rule more is count sides =
      sides
      ∙ ap (λ (l : List Line). l ++ Side White (strength_over rules links believed White)
      ∷ Side Black (strength_over rules links believed Black) ∷ []) count
      ∙ append_assoc texts (Believed believed ∷ [])
      (Side White (strength_over rules links believed White)
      ∷ Side Black (strength_over rules links believed Black) ∷ [])
      ∙ ap (λ (n : ℕ). texts ++ last_lines rules links n) is
      ∙ ap (λ (l : List Line). l ++ last_lines rules links (belief_among l))
      (texts_are first rule more)
      ∙ ap (λ (ls : List Link). basis_lines text rules tables
      ++ last_lines rules ls (belief_among (basis_lines text rules tables)))
      (sym (links_loaded backs))
