-- Exact tables, with their texts: each text gives the rules of its table, and those before a table are
-- exact too.
use Rattle.std.proofs.Common.{◌≡◌, ◌+◌, ◌++◌, ◌∷◌, ◌∙◌, [], ℕ, List, All, Some, ap, ap₂, refl, sym}
use Rattle.std.specs.Prelude.{map, sum_by}
use Rattle.std.proofs.lemmas.List.Elements.{All-cons, All-nil}
use Rattle.std.proofs.lemmas.List.Sums.{sum_by-cons}
use Rattle.frz_sets.specs.Sets.{size_of}
use Rattle.frz_table.specs.Opening.{own_format}
use Rattle.frz_table.proofs.Lemmas.{belongs}
use Rattle.frz_check.specs.Kept.{opened_size}
use Rattle.frz_atlas.specs.Books.{Back}
use Rattle.frz_atlas.specs.FileOn.{back_of}
use Rattle.frz_atlas.specs.BackTable.{BackTable}
use Rattle.frz_atlas.specs.Links.{AreExactOver, Link}
use Rattle.frz_atlas.specs.Loaded.{link_loaded}
use Rattle.frz_atlas.specs.Behind.{AreJudged, AreJudgedOver, TableBytes, link_of}
use Rattle.frz_atlas.specs.Costs.{steps_of}
use Rattle.frz_atlas.specs.Held.{all_held}
use Rattle.frz_commands_premises.specs.PremiseLines.{TextLink, links_in, text_link_loaded, text_link_of}
use Rattle.frz_commands_premises.proofs.BeliefCounted.{IsReadAs}

-- the links of tables with their texts are the links of the tables
pub links_are : (tables : List TableBytes) →
    links_in (map text_link_of tables) ≡ map link_of tables
links_are [] = refl
links_are (t ∷ tables) = ap (λ (l : List Link). link_of t ∷ l) (links_are tables)

pub links_loaded : (backs : List BackTable) →
    links_in (map text_link_loaded backs) ≡ map link_loaded backs
links_loaded [] = refl
links_loaded (b ∷ backs) = ap (λ (l : List Link). link_loaded b ∷ l) (links_loaded backs)

-- tables that were loaded with these texts and links are those in the bytes
pub texts_loaded : (backs : List BackTable) (tables : List TableBytes) →
    map link_loaded backs ≡ map link_of tables →
    map (λ (back : BackTable). back.table.text) backs
    ≡ map (λ (t : TableBytes). t.contents.text) tables →
    map text_link_loaded backs ≡ map text_link_of tables
texts_loaded [] [] links texts = refl
texts_loaded [] (t ∷ tables) links texts = absurd (cc)
texts_loaded (b ∷ backs) [] links texts = absurd (cc)
texts_loaded (b ∷ backs) (t ∷ tables) links texts =
    let link : link_loaded b ≡ link_of t = cc in
    let more : map link_loaded backs ≡ map link_of tables = cc in
    let text : b.table.text ≡ t.contents.text = cc in
    let others : map (λ (back : BackTable). back.table.text) backs
    ≡ map (λ (x : TableBytes). x.contents.text) tables = cc in
    ap₂ (λ (x : TextLink) (l : List TextLink). x ∷ l)
    (ap₂ (λ (x : List ℕ) (l : Link). record { text = x; link = l }) text link)
    (texts_loaded backs tables more others)

-- each text gives the rules of its table
read_over : (before : List Back) (tables : List TableBytes) → AreJudgedOver before tables →
    All IsReadAs (map text_link_of tables)
unfolding AreJudgedOver
read_over before [] h = All-nil IsReadAs
read_over before (t ∷ tables) h =
    All-cons IsReadAs (text_link_of t) (map text_link_of tables)
    (belongs own_format t.bytes t.contents h.1.opens).read
    (read_over (before ++ (back_of t.contents t.bytes ∷ [])) tables h.2)

pub all_read : (tables : List TableBytes) → AreJudged tables →
    All IsReadAs (map text_link_of tables)
all_read tables h = read_over [] tables h

-- the first of exact tables are exact
pub exact_front : (before : List Back) (links more : List Link) →
    AreExactOver before (links ++ more) → AreExactOver before links
unfolding AreExactOver
exact_front before [] more h = tt
exact_front before (link ∷ links) more h =
    (h.0, exact_front (before ++ (link.back ∷ [])) links more h.1)

-- the steps that checking them takes are as many as they have numbers
abbrev pub link_size : Link → ℕ
link_size link = size_of link.rules.groups

sizes_over : (before : List Back) (tables : List TableBytes) → AreJudgedOver before tables →
    sum_by link_size (map link_of tables) ≡ sum_by steps_of (all_held tables)
unfolding AreJudgedOver
sizes_over before [] h = refl
sizes_over before (t ∷ tables) h =
    sum_by-cons link_size (link_of t) (map link_of tables)
    ∙ ap₂ (λ (m n : ℕ). m + n) (sym (ap opened_size h.1.opens))
    (sizes_over (before ++ (back_of t.contents t.bytes ∷ [])) tables h.2)
    ∙ sym (sum_by-cons steps_of (Some t.bytes) (all_held tables))

pub sizes_checked : (tables : List TableBytes) → AreJudged tables →
    sum_by link_size (map link_of tables) ≡ sum_by steps_of (all_held tables)
sizes_checked tables h = sizes_over [] tables h

pub sizes_loaded : (backs : List BackTable) →
    sum_by (λ (back : BackTable). size_of back.table.rules.groups) backs
    ≡ sum_by link_size (map link_loaded backs)
sizes_loaded [] = refl
sizes_loaded (b ∷ backs) =
    sum_by-cons (λ (back : BackTable). size_of back.table.rules.groups) b backs
    ∙ ap (λ (n : ℕ). size_of b.table.rules.groups + n) (sizes_loaded backs)
    ∙ sym (sum_by-cons link_size (link_loaded b) (map link_loaded backs))
