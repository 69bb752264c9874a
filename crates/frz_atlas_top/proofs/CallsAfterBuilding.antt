-- What is told of a table that `build` left.
use Rattle.std.proofs.Common.{◌≡◌, refl, sym, ap, subst, ◌∙◌, ℕ, List, [], ◌∷◌, Bool, true, false, ◌||◌, Option, Some, None, Ok, IfSome, Result}
use Rattle.std.specs.Prelude.{map}
use Rattle.std.specs.List.{list_any}
use Rattle.std.specs.Option.{option_map}
use Rattle.std.specs.Str.{bytes_eq}
use Rattle.std.proofs.lemmas.Slice.Eq.{bytes_eq-Decides}
use Rattle.frz_sets.specs.Sets.{size_of}
use Rattle.frz_store.specs.Bytes.{AreBytes, HoldsBytes}
use Rattle.frz_store.specs.Files.{Files, put}
use Rattle.frz_store.proofs.Lemmas.{put-off, put-same, put_bytes}
use Rattle.frz_table.specs.Layout.{kind_by, magic_of}
use Rattle.frz_table.specs.Opening.{Contents, opened, own_format}
use Rattle.frz_table.proofs.Lemmas.{file_bytes, magic_bytes}
use Rattle.frz_index.specs.Members.{Member}
use Rattle.frz_check.specs.KeptTables.{KeepsTables}
use Rattle.frz_commands_atlas.specs.Behind.{backs_in, leans}
use Rattle.frz_commands_atlas.specs.FileOver.{leans_on}
use Rattle.frz_commands_verdict.specs.Links.{value_over}
use Rattle.frz_commands_ask.specs.Meaning.{TellsBounds}
use Rattle.frz_answer.specs.declared.status.Status.{Status}
use Rattle.frz_answer.specs.declared.status.Status.TheVariants.{Success}
use Rattle.frz_answer.specs.Answers.{Answer}
use Rattle.frz_answer.specs.Jobs.{Job}
use Rattle.frz_answer.specs.Words.{taking, unless}
use Rattle.frz_commands_atlas.specs.Names.{build_names_of, file_names_of, has_twice}
use Rattle.frz_commands_atlas.specs.Building as builds
use Rattle.frz_commands_atlas.specs.Building.{MakesAtlas, MeansBuild, building_at}
use Rattle.frz_commands_atlas.specs.CheckMeans.{HoldsAtlas, MeansCheck, checking_at}
use Rattle.frz_atlas_top.specs.Calls.{build, check, query, Succeeds, TellsBoundsOver, TellsSolvedOver}
use Rattle.frz_atlas_top.specs.Commands.{job_of}
use Rattle.frz_commands_atlas.proofs.Lemmas.{build_lawful, built_leans, built_own, check_lawful, exact_atlas}
use Rattle.frz_atlas_top.proofs.CallsInTurn.{check_headline, of_names, of_words, query_tells_bounds, query_tells_kept, these_names}

first_false : (b c : Bool) → (b || c) ≡ false → b ≡ false
first_false true c e = cc
first_false false c e = refl

second_false : (b c : Bool) → (b || c) ≡ false → c ≡ false
second_false true c e = cc
second_false false c e = e

some_same : {A : Type 0} {x y : A} → Some x ≡ Some y → x ≡ y
some_same e = cc

ok_same : {A E : Type 0} {x y : A} → ◌≡◌ {A = Result A E} (Ok x) (Ok y) → x ≡ y
ok_same e = cc

-- the names that `build` gives are the first three words, and all behind them
the_rest : (rules table : List ℕ) (behind : List (List ℕ))
    (names : List ℕ × (List ℕ × List (List ℕ)))
    → build_names_of (rules ∷ table ∷ behind) ≡ Some names
    → (names ≡ (rules, (table, behind)))
    × (file_names_of (table ∷ behind) ≡ Some (table, behind))
the_rest rules table behind names e = by_names (file_names_of (table ∷ behind)) refl e
  where
    by_names : (x : Option (List ℕ × List (List ℕ))) → file_names_of (table ∷ behind) ≡ x
        → option_map (λ (n : List ℕ × List (List ℕ)). (rules, n)) x ≡ Some names
        → (names ≡ (rules, (table, behind)))
        × (file_names_of (table ∷ behind) ≡ Some (table, behind))
    by_names None is e = cc
    by_names (Some rest) is e =
        let same : rest ≡ (table, behind) = these_names table behind rest is in
        let own : (rules, rest) ≡ names = cc in (
          sym own ∙ ap (λ (n : List ℕ × List (List ℕ)). (rules, n)) same,
          is ∙ ap (λ (n : List ℕ × List (List ℕ)). Some n) same,
        )

-- another name holds what it held
kept_at : (files : Files) (table bytes other : List ℕ) → bytes_eq other table ≡ false
    → put files table bytes other ≡ files other
kept_at files table bytes other differ =
    put-off files table bytes other (differs (bytes_eq table other) refl)
  where
    differs : (same : Bool) → bytes_eq table other ≡ same → bytes_eq table other ≡ false
    differs false e = e
    differs true e =
        let one : table ≡ other = (bytes_eq-Decides table other).0 e in
        let again : bytes_eq other table ≡ true = (bytes_eq-Decides other table).1 (sym one) in
        cc

kept_all : (files : Files) (table bytes : List ℕ) (names : List (List ℕ))
    → list_any (λ other. bytes_eq other table) names ≡ false
    → map (put files table bytes) names ≡ map files names
kept_all files table bytes [] differ = refl
kept_all files table bytes (name ∷ names) differ =
    let one = kept_at files table bytes name
    (first_false (bytes_eq name table) (list_any (λ other. bytes_eq other table) names) differ) in
    let rest = kept_all files table bytes names
    (second_false (bytes_eq name table) (list_any (λ other. bytes_eq other table) names) differ) in
    cc

module _ (rules table : List ℕ) (behind : List (List ℕ)) (files : Files) (a : Answer)
    (built : Succeeds (build rules table behind) files a) where
  abbrev names : List (List ℕ)
  names = table ∷ behind

  -- no two of the words are the same, and the call makes the table
  built_atlas_made : (has_twice (rules ∷ names) ≡ false)
      × (file_names_of names ≡ Some (table, behind))
      × MakesAtlas rules table behind files a
  built_atlas_made =
      let words : List (List ℕ) = rules ∷ names in
      let job : List ℕ × (List ℕ × List (List ℕ)) → Job = λ n. unless (has_twice words)
      (building_at n.0 n.1.0 n.1.1) in
      let taken = of_words files built.input a built.done job (build_names_of words) built.answer
      ((build_lawful (rules ∷ table ∷ behind)).means files built.input a built.bytes built.answer)
      in
      let n = taken.0 in
      let differ = of_names files built.input a built.done (building_at n.0 n.1.0 n.1.1)
      (has_twice words) taken.2 taken.3 in
      let means : MeansBuild n.0 n.1.0 n.1.1 files a = differ.2 in
      let makes : MakesAtlas n.0 n.1.0 n.1.1 files a =
      subst (λ (s : Status). builds.MeansByStatus n.0 n.1.0 n.1.1 files a s) built.done means.says
      in
      let rest = the_rest rules table behind n taken.1 in (
        differ.0,
        rest.1,
        subst (λ (m : List ℕ × (List ℕ × List (List ℕ))). MakesAtlas m.0 m.1.0 m.1.1 files a)
            rest.0 makes,
      )

  makes_built_atlas : MakesAtlas rules table behind files a
  makes_built_atlas = built_atlas_made.2

  no_two : has_twice names ≡ false
  no_two = second_false (list_any (λ other. bytes_eq other rules) names) (has_twice names)
      built_atlas_made.0

  files_after_build : a.files ≡ put files table makes_built_atlas.bytes
  files_after_build = ap (λ (x : Answer). x.files) makes_built_atlas.told

  -- the table lies over the same tables
  holds_after : HoldsAtlas table behind a.files
  holds_after =
      let same : map a.files behind ≡ map files behind =
      ap (λ (f : Files). map f behind) files_after_build
      ∙ kept_all files table makes_built_atlas.bytes behind
      (first_false (list_any (λ other. bytes_eq other table) behind) (has_twice behind) no_two) in
      record {
        tables = makes_built_atlas.tables;
        behind_it = record {
          there = same ∙ makes_built_atlas.behind_it.there;
          exact = makes_built_atlas.behind_it.exact;
        };
        bytes = makes_built_atlas.bytes;
        there = ap (λ (f : Files). f table) files_after_build ∙ put-same files table
            makes_built_atlas.bytes;
        text = makes_built_atlas.text;
        rules = makes_built_atlas.lines;
        accepted = makes_built_atlas.accepted;
        one_file =
            built_own makes_built_atlas.text makes_built_atlas.lines (backs_in makes_built_atlas.tables)
            makes_built_atlas.bytes makes_built_atlas.accepted makes_built_atlas.one_file;
      }

  bytes_after : HoldsBytes a.files
  bytes_after =
      let text_are : AreBytes makes_built_atlas.text =
      subst (λ (o : Option (List ℕ)). IfSome o AreBytes) makes_built_atlas.there
      (built.bytes rules) in
      let file = makes_built_atlas.one_file in
      let kind = kind_by (leans_on (backs_in makes_built_atlas.tables)) in
      let file_are : AreBytes makes_built_atlas.bytes = subst AreBytes (sym file.whole)
      (file_bytes (magic_of kind) makes_built_atlas.text (size_of makes_built_atlas.lines.groups)
      file.white file.black
      (magic_bytes kind) text_are) in
      subst HoldsBytes (sym files_after_build)
      (put_bytes files table makes_built_atlas.bytes built.bytes file_are)

  pub checked_after : (input : List ℕ) (b : Answer)
      → (job_of (check table behind)).answers a.files input b → b.status ≡ Success
  checked_after input b answer =
      let job : List ℕ × List (List ℕ) → Job = λ n. unless (has_twice names)
      (checking_at n.0 n.1) in
      let meant : (taking job (file_names_of names)).means a.files input b =
      (check_lawful (table ∷ behind)).means a.files input b bytes_after answer in
      let of_some : (unless (has_twice names) (checking_at table behind)).means a.files input b =
      subst (λ (o : Option (List ℕ × List (List ℕ))). (taking job o).means a.files input b)
      built_atlas_made.1
      meant in
      let means : MeansCheck table behind a.files b =
      subst (λ (t : Bool). (unless t (checking_at table behind)).means a.files input b) no_two
      of_some in
      means.accepts holds_after

  pub queried_after : (fen : List ℕ) (b : Answer)
      → Succeeds (query table fen) a.files b → TellsBoundsOver table behind fen a.files b.text
  queried_after fen b h =
      let one = (check_lawful (table ∷ behind)).one a.files [] in
      let exact = check_headline table behind a.files one.0 (record {
        bytes = h.bytes;
        input = [];
        answer = one.1;
        done = checked_after [] one.0 one.1;
      }) in
      query_tells_bounds table behind a.files h.bytes exact fen b h

  -- by the rules of the text that was built
  pub solved_after : (fen : List ℕ) (b : Answer) → Succeeds (query table fen) a.files b
      → TellsSolvedOver rules table behind fen files a b.text
  unfolding holds_after makes_built_atlas
  solved_after fen b h =
      let made = exact_atlas table behind a.files h.bytes holds_after in
      let asked = query_tells_kept table fen a.files b h in
      let kept = asked.2 in
      let same_bytes : made.bytes ≡ kept.bytes = some_same (sym made.there ∙ kept.open_file.there) in
      let opens : opened own_format (Some kept.bytes) ≡ Ok made.contents =
      ap (λ (l : List ℕ). opened own_format (Some l)) (sym same_bytes) ∙ made.opens in
      let same : made.contents ≡ kept.contents = ok_same (sym opens ∙ kept.open_file.opens) in
      let backs = backs_in made.tables in
      let value = value_over (leans_on backs) made.contents.rules backs in
      let leaning : leans made.bytes ≡ leans_on backs =
      built_leans makes_built_atlas.text makes_built_atlas.lines backs makes_built_atlas.bytes
      makes_built_atlas.accepted makes_built_atlas.one_file in
      let judged : KeepsTables value made.contents made.bytes =
      subst (λ (b : Bool). KeepsTables (value_over b made.contents.rules backs) made.contents made.bytes)
      leaning made.judged in
      let tables : KeepsTables value made.contents kept.bytes =
      subst (λ (l : List ℕ). KeepsTables value made.contents l) same_bytes judged in
      record {
        makes = makes_built_atlas;
        p = asked.0;
        read = asked.1;
        inside = subst (λ (c : Contents). Member c.rules.groups asked.0) (sym same) kept.inside;
        tells = subst (λ (c : Contents). TellsBounds c.rules value asked.0 b.text) (sym same)
            (kept.where_exact value
            (subst (λ (c : Contents). KeepsTables value c kept.bytes) same tables));
      }
