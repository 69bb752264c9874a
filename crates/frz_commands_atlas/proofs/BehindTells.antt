-- What the first table behind whose set has a position tells of it.
use Rattle.std.proofs.Common.{◌≡◌, refl, sym, ap, subst, ◌∙◌, ℕ, suc, List, [], ◌∷◌, ◌++◌, length, Bool, true, false, Option, Some, None, if◌then◌else◌, append_assoc, slice_index, arith}
use Rattle.std.specs.Prelude.{◌&&◌}
use Rattle.std.proofs.lemmas.List.{length-append, map-append}
use Rattle.frz_board.specs.declared.man.Colour.TheVariants.{White, Black}
use Rattle.frz_board.specs.Boards.{Board}
use Rattle.frz_index.specs.Members.{Member, Num}
use Rattle.frz_index.specs.Membership.{is_member}
use Rattle.frz_index.proofs.Lemmas.{member_of, number_missing, number_there}
use Rattle.frz_exits.specs.Books.{value_by}
use Rattle.frz_exits.specs.Values.{is_unknown}
use Rattle.frz_table.specs.Opening.{Contents}
use Rattle.frz_check.specs.Kept.{kept_codes}
use Rattle.frz_check.specs.KeptTables.{KeepsTables}
use Rattle.frz_check.proofs.Lemmas.{bound_kept}
use Rattle.frz_bound_lines.specs.BoundLines.{kept_words}
use Rattle.frz_bound_lines.proofs.BoundLines.{kept_bound}
use Rattle.frz_atlas.specs.Books.{Back}
use Rattle.frz_atlas.specs.Codes.{codes_at, codes_of}
use Rattle.frz_atlas.specs.FileOn.{back_of}
use Rattle.frz_atlas.specs.Behind.{AreJudged, AreJudgedOver, TableBytes, backs_in, leans}
use Rattle.frz_commands_atlas.specs.Each.{found_over}
use Rattle.frz_commands_atlas.specs.EachMeans.{TellsBoundsBehind}
use Rattle.frz_commands_atlas.specs.FirstBack.{Found, first_found, found_or}
use Rattle.frz_commands_atlas.specs.Reporting.{value_behind}
use Rattle.frz_commands_atlas.proofs.MovesBehind.{words_of_bounds}

abbrev as_back : TableBytes → Back
as_back t = back_of t.contents t.bytes

-- of these tables the next one is asked
module _ (before : List TableBytes) (table : TableBytes) (others : List TableBytes) (q : Board)
    (found : Found)
    (exact : KeepsTables (value_behind table.contents table.bytes before) table.contents
    table.bytes) where
  abbrev white : ℕ
  white = slice_index (kept_codes table.contents table.bytes White) (Num table.contents.rules.groups q)

  abbrev black : ℕ
  black = slice_index (kept_codes table.contents table.bytes Black) (Num table.contents.rules.groups q)

  -- it has the position, and its codes there are those of its bounds
  told_there : Member table.contents.rules.groups q
      → TellsBoundsBehind (before ++ table ∷ others) q (length before, (white, black))
  told_there inside =
      let value = value_behind table.contents table.bytes before in
      let w = bound_kept value table.contents table.bytes exact White q inside in
      let b = bound_kept value table.contents table.bytes exact Black q inside in
      record {
        before = before;
        table = table;
        others = others;
        among = refl;
        place = refl;
        inside = inside;
        white = w;
        black = b;
        told = words_of_bounds white black w.bound b.bound
            (ap kept_words w.is ∙ kept_bound w.bound) (ap kept_words b.is ∙ kept_bound b.bound);
      }

  -- it tells, or those behind it do
  pub next_tells : (rest : Option Found)
      → (rest ≡ Some found → TellsBoundsBehind (before ++ table ∷ others) q found)
      → found_or (length before) rest (codes_of (as_back table) q) ≡ Some found
      → TellsBoundsBehind (before ++ table ∷ others) q found
  next_tells rest behind e = by_test (is_member table.contents.rules.groups q) refl
    where
      by_test : (b : Bool) → is_member table.contents.rules.groups q ≡ b
          → TellsBoundsBehind (before ++ table ∷ others) q found
      by_test true member =
          let there = ap (λ (o : Option ℕ). found_or (length before) rest
          (codes_at (as_back table) o)) (number_there table.contents.rules.groups q member) in
          let told : Some (length before, (white, black)) ≡ Some found = sym there ∙ e in
          let is : (length before, (white, black)) ≡ found = cc in
          subst (λ (f : Found). TellsBoundsBehind (before ++ table ∷ others) q f) is
          (told_there (member_of table.contents.rules.groups q member))
      by_test false member =
          let none = ap (λ (o : Option ℕ). found_or (length before) rest
          (codes_at (as_back table) o)) (number_missing table.contents.rules.groups q member) in
          behind (sym none ∙ e)

one_more : (before : List TableBytes) (table : TableBytes)
    → length (before ++ table ∷ []) ≡ suc (length before)
one_more before table =
    let many = length-append before (table ∷ []) in omega (arith, many)

-- where these are exact over those before, each over all before it
first_tells : (before tables : List TableBytes) (q : Board) (found : Found)
    → AreJudgedOver (backs_in before) tables
    → first_found (length before) (backs_in tables) q ≡ Some found
    → TellsBoundsBehind (before ++ tables) q found
unfolding first_found AreJudgedOver
first_tells before [] q found judged e = absurd (cc)
first_tells before (t ∷ tables) q found judged e =
    next_tells before t tables q found judged.1.codes
    (first_found (suc (length before)) (backs_in tables) q)
    (λ told. subst (λ (l : List TableBytes). TellsBoundsBehind l q found)
    (append_assoc before (t ∷ []) tables)
    (first_tells (before ++ t ∷ []) tables q found
    (subst (λ (l : List Back). AreJudgedOver l tables) (sym (map-append as_back before (t ∷ [])))
    judged.2)
    (ap (λ (n : ℕ). first_found n (backs_in tables) q) (one_more before t) ∙ told))) e

pub behind_tells : (contents : Contents) (bytes : List ℕ) (tables : List TableBytes)
    → AreJudged tables → (q : Board) (found : Found)
    → found_over contents bytes tables q ≡ Some found → TellsBoundsBehind tables q found
behind_tells contents bytes tables judged q found e =
    by_test (leans bytes && is_unknown (value_by contents.rules q)) e
  where
    by_test : (asked : Bool) → (if asked then first_found 0 (backs_in tables) q else None)
        ≡ Some found → TellsBoundsBehind tables q found
    by_test true told = first_tells [] tables q found judged told
    by_test false told = absurd (cc)
