-- Names from the left, under each of which a table was found over those before it, and then one more
-- or none.
use Rattle.std.proofs.Common.{◌≡◌, refl, sym, ap, subst, ◌∙◌, ℕ, suc, ◌+◌, ◌<◌, ◌≤◌, List, [], ◌∷◌, ◌++◌, length, map, take, drop, get_or, Option, Some, arith, append_assoc, append-nil, drop-cons}
use Rattle.std.specs.Prelude.{⊤, sum_by}
use Rattle.std.proofs.lemmas.List.{length-map, map-append, map_more, take-append-drop, take_all}
use Rattle.std.proofs.lemmas.List.Sums.{sum_by-append, sum_by-cons}
use Rattle.frz_store.specs.Files.{Files}
use Rattle.frz_store.specs.Told.{StoreTold}
use Rattle.frz_table.specs.Possible.{MayHold}
use Rattle.frz_backs.specs.Books.{Back}
use Rattle.frz_backs.specs.FileOn.{back_of, loaded_back}
use Rattle.frz_backs.specs.BackTable.{BackTable}
use Rattle.frz_backs.specs.Links.{Link}
use Rattle.frz_backs.specs.Loaded.{link_loaded}
use Rattle.frz_backs.proofs.Lemmas.{loaded_backs}
use Rattle.frz_atlas.specs.Behind.{TableBytes, backs_in, link_of}
use Rattle.frz_atlas.specs.Costs.{WithinAll, WithinOne, bytes_of, calls_of, steps_of}
use Rattle.frz_atlas.specs.Held.{MayHoldAll, all_held}
use Rattle.frz_atlas.proofs.ExactTables.{kept_backs}
use Rattle.frz_atlas.proofs.OwnKinds.{held_by, may_be_held}

-- names of two lists may hold what each list may
pub may_hold_both : (files : Option Files) (names more : List (List ℕ))
    (helds others : List (Option (List ℕ))) → MayHoldAll files names helds
    → MayHoldAll files more others → MayHoldAll files (names ++ more) (helds ++ others)
unfolding MayHoldAll
may_hold_both files [] more [] others h k = k
may_hold_both files [] more (held ∷ helds) others h k = absurd h
may_hold_both files (name ∷ names) more [] others h k = absurd h
may_hold_both files (name ∷ names) more (held ∷ helds) others h k =
    (h.0, may_hold_both files names more helds others h.1 k)

may_hold_one : (files : Option Files) (name : List ℕ) (held : Option (List ℕ))
    → MayHold files name held → MayHoldAll files (name ∷ []) (held ∷ [])
unfolding MayHoldAll
may_hold_one files name held h = (h, tt)

-- what the names may hold, whatever they are
abbrev pub some_helds : Option Files → List (List ℕ) → List (Option (List ℕ))
some_helds files names = map (held_by files) names

pub may_hold_some : (files : Option Files) (names : List (List ℕ))
    → MayHoldAll files names (some_helds files names)
unfolding MayHoldAll
may_hold_some files [] = tt
may_hold_some files (name ∷ names) = (may_be_held files name, may_hold_some files names)

-- the costs of one more
sum_one : (f : Option (List ℕ) → ℕ) (helds : List (Option (List ℕ))) (held : Option (List ℕ))
    (rest : List (Option (List ℕ)))
    → sum_by f helds + f held ≤ sum_by f (helds ++ (held ∷ rest))
sum_one f helds held rest =
    let all : sum_by f (helds ++ (held ∷ rest)) ≡ sum_by f helds + sum_by f (held ∷ rest) =
    sum_by-append f helds (held ∷ rest) in
    let first : sum_by f (held ∷ rest) ≡ f held + sum_by f rest = sum_by-cons f held rest in
    omega (arith, all, first)

within_more : (helds rest : List (Option (List ℕ))) (held : Option (List ℕ))
    (old mid new : StoreTold) (steps_before steps_between steps_now : ℕ)
    → WithinAll helds old mid steps_before steps_between
    → WithinOne held mid new steps_between steps_now
    → WithinAll (helds ++ (held ∷ rest)) old new steps_before steps_now
within_more helds rest held old mid new steps_before steps_between steps_now h k = record {
  steps = omega (arith, h.steps, k.steps, sum_one steps_of helds held rest);
  asked = omega (arith, h.asked, k.asked, sum_one bytes_of helds held rest);
  calls = omega (arith, h.calls, k.calls, sum_one calls_of helds held rest);
}

pub within_all : (helds rest : List (Option (List ℕ))) (old new : StoreTold)
    (steps_before steps_now : ℕ) → WithinAll helds old new steps_before steps_now
    → WithinAll (helds ++ rest) old new steps_before steps_now
within_all helds rest old new steps_before steps_now h = record {
  steps = omega (arith, h.steps, sum_by-append steps_of helds rest);
  asked = omega (arith, h.asked, sum_by-append bytes_of helds rest);
  calls = omega (arith, h.calls, sum_by-append calls_of helds rest);
}

-- what is found under one name, over the tables before it, and under all
abbrev pub IsGood : Type 1
IsGood = List Back → TableBytes → Type 0

unfoldable pub AllGood : IsGood → List Back → List TableBytes → Type 0
AllGood Good before [] = ⊤
AllGood Good before (t ∷ tables) =
    Good before t × AllGood Good (before ++ (back_of t.contents t.bytes ∷ [])) tables

pub record OneFound (Good : IsGood) (before : List Back) (name : List ℕ) (given : BackTable)
    (old new : StoreTold) (steps_before steps_now : ℕ) : Type 0 where
  pub table : TableBytes
  pub may : MayHold old.files name (Some table.bytes)
  pub good : Good before table
  pub keeps : link_loaded given ≡ link_of table
  pub text : given.table.text ≡ table.contents.text
  pub within : WithinOne (Some table.bytes) old new steps_before steps_now

pub record AllFound (Good : IsGood) (names : List (List ℕ)) (backs : List BackTable)
    (old new : StoreTold) (steps_before steps_now : ℕ) : Type 0 where
  pub tables : List TableBytes
  pub may : MayHoldAll old.files names (all_held tables)
  pub good : AllGood Good [] tables
  pub keeps : map link_loaded backs ≡ map link_of tables
  pub texts : map (λ back. back.table.text) backs ≡ map (λ t. t.contents.text) tables
  pub within : WithinAll (all_held tables) old new steps_before steps_now

-- nothing more is found
pub record NotFound (Refuses : List (Option (List ℕ)) → Type 0) (names : List (List ℕ))
    (old new : StoreTold) (steps_before steps_now : ℕ) : Type 0 where
  pub helds : List (Option (List ℕ))
  pub may : MayHoldAll old.files names helds
  pub refuses : Refuses helds
  pub within : WithinAll helds old new steps_before steps_now

good_more : (Good : IsGood) (before : List Back) (tables : List TableBytes) (table : TableBytes)
    → AllGood Good before tables → Good (before ++ backs_in tables) table
    → AllGood Good before (tables ++ (table ∷ []))
unfolding AllGood
good_more Good before [] table h good =
    (subst (λ (b : List Back). Good b table) (append-nil before) good, tt)
good_more Good before (t ∷ tables) table h good =
    let back : Back = back_of t.contents t.bytes in (
      h.0,
      good_more Good (before ++ (back ∷ [])) tables table h.1
          (subst (λ (b : List Back). Good b table)
          (sym (append_assoc before (back ∷ []) (backs_in tables))) good),
    )

pub backs_found : (backs : List BackTable) (tables : List TableBytes)
    → map link_loaded backs ≡ map link_of tables → map loaded_back backs ≡ backs_in tables
backs_found backs tables keeps =
    sym (loaded_backs backs) ∙ kept_backs (map link_loaded backs) tables keeps

pub many_found : (backs : List BackTable) (tables : List TableBytes) (place : ℕ)
    → map link_loaded backs ≡ map link_of tables → length backs ≡ place → length tables ≡ place
many_found backs tables place keeps many =
    sym (ap (length {A = Link}) keeps ∙ length-map tables link_of)
    ∙ length-map backs link_loaded ∙ many

-- no name was looked up yet
pub none_found : (Good : IsGood) (told : StoreTold) (steps : ℕ)
    → AllFound Good [] [] told told steps steps
unfolding AllGood MayHoldAll
none_found Good told steps = record {
  tables = [];
  may = tt;
  good = tt;
  keeps = refl;
  texts = refl;
  within = record { steps = omega arith; asked = omega arith; calls = omega arith };
}

module _ (Good : IsGood) (names : List (List ℕ)) (backs : List BackTable) (old mid new : StoreTold)
    (steps_before steps_between steps_now : ℕ) (name : List ℕ)
    (h : AllFound Good names backs old mid steps_before steps_between)
    (same : mid.files ≡ old.files) where
  pub one_more : (given : BackTable)
      → OneFound Good (map loaded_back backs) name given mid new steps_between steps_now
      → AllFound Good (names ++ (name ∷ [])) (backs ++ (given ∷ [])) old new steps_before steps_now
  one_more given k =
      let link = link_loaded given in
      let text_of : BackTable → List ℕ = λ back. back.table.text in
      let read_in : TableBytes → List ℕ = λ t. t.contents.text in
      let tables : List TableBytes = h.tables ++ (k.table ∷ []) in
      let helds : all_held h.tables ++ (Some k.table.bytes ∷ []) ≡ all_held tables =
      sym (map-append (λ (t : TableBytes). Some t.bytes) h.tables (k.table ∷ [])) in
      record {
        tables = tables;
        may = subst (λ (l : List (Option (List ℕ))). MayHoldAll old.files (names ++ (name ∷ [])) l)
            helds (may_hold_both old.files names (name ∷ []) (all_held h.tables)
            (Some k.table.bytes ∷ []) h.may
            (may_hold_one old.files name (Some k.table.bytes)
            (subst (λ (o : Option Files). MayHold o name (Some k.table.bytes)) same k.may)));
        good = good_more Good [] h.tables k.table h.good
            (subst (λ (b : List Back). Good b k.table) (backs_found backs h.tables h.keeps) k.good);
        keeps = map-append link_loaded backs (given ∷ [])
            ∙ ap (λ (l : List Link). l ++ (link ∷ [])) h.keeps
            ∙ ap (λ (x : Link). map link_of h.tables ++ (x ∷ [])) k.keeps
            ∙ sym (map-append link_of h.tables (k.table ∷ []));
        texts = map-append text_of backs (given ∷ [])
            ∙ ap (λ (l : List (List ℕ)). l ++ (given.table.text ∷ [])) h.texts
            ∙ ap (λ (x : List ℕ). map read_in h.tables ++ (x ∷ [])) k.text
            ∙ sym (map-append read_in h.tables (k.table ∷ []));
        within = subst (λ (l : List (Option (List ℕ))). WithinAll l old new steps_before steps_now)
            helds (within_more (all_held h.tables) [] (Some k.table.bytes) old mid new steps_before
            steps_between steps_now h.within k.within);
      }

  -- what the name holds, and whatever comes behind it, is refused
  pub none_more : (Refuses : List (Option (List ℕ)) → Type 0) (more : List (List ℕ))
      (held : Option (List ℕ)) → MayHold mid.files name held
      → WithinOne held mid new steps_between steps_now
      → ((rest : List (Option (List ℕ))) → Refuses (all_held h.tables ++ (held ∷ rest)))
      → NotFound Refuses (names ++ (name ∷ more)) old new steps_before steps_now
  none_more Refuses more held may within refuses =
      let rest : List (Option (List ℕ)) = some_helds old.files more in record {
        helds = all_held h.tables ++ (held ∷ rest);
        may =
            may_hold_both old.files names (name ∷ more) (all_held h.tables) (held ∷ rest) h.may
            (may_hold_both old.files (name ∷ []) more (held ∷ []) rest
            (may_hold_one old.files name held
            (subst (λ (o : Option Files). MayHold o name held) same may))
            (may_hold_some old.files more));
        refuses = refuses rest;
        within = within_more (all_held h.tables) rest held old mid new steps_before steps_between
            steps_now h.within within;
      }

-- the names before a place, the one at it and those behind it
module _ {A B : Type 0} (f : A → B) (xs : List A) (i : ℕ) (x : A) (h : i < length xs)
    (is : x ≡ get_or xs i x) where
  names_here : map f (take i xs) ++ (f x ∷ map f (drop (suc i) xs)) ≡ map f xs
  names_here =
      ap (λ (y : A). map f (take i xs) ++ (f y ∷ map f (drop (suc i) xs))) is
      ∙ ap (λ (l : List A). map f (take i xs) ++ map f l) (sym (drop-cons xs i x h))
      ∙ sym (map-append f (take i xs) (drop i xs))
      ∙ ap (λ (l : List A). map f l) (take-append-drop i xs)

  pub names_next : map f (take i xs) ++ (f x ∷ []) ≡ map f (take (i + 1) xs)
  names_next =
      ap (λ (y : A). map f (take i xs) ++ (f y ∷ [])) is ∙ sym (map_more f xs i x h)

-- the name at a place is looked up behind those before it
module _ {A : Type 0} (Good : IsGood) (f : A → List ℕ) (names : List A) (i : ℕ) (x : A)
    (name : List ℕ) (items : List BackTable) (old mid new : StoreTold)
    (steps_before steps_between steps_now : ℕ) (inside : i < length names)
    (is : x ≡ get_or names i x) (named : name ≡ f x)
    (h : AllFound Good (map f (take i names)) items old mid steps_before steps_between)
    (same : mid.files ≡ old.files) where
  next_found : (given : BackTable)
      → OneFound Good (map loaded_back items) name given mid new steps_between steps_now
      → AllFound Good (map f (take i names) ++ (f x ∷ [])) (items ++ (given ∷ [])) old new
      steps_before steps_now
  next_found given k =
      one_more Good (map f (take i names)) items old mid new steps_before steps_between steps_now
      (f x) h same given
      (subst (λ (n : List ℕ). OneFound Good (map loaded_back items) n given mid new
      steps_between steps_now) named k)

  pub found_next : (given : BackTable) (pushed : List BackTable) → pushed ≡ items ++ (given ∷ [])
      → OneFound Good (map loaded_back items) name given mid new steps_between steps_now
      → AllFound Good (map f (take (i + 1) names)) pushed old new steps_before steps_now
  found_next given pushed push k =
      subst (λ (l : List (List ℕ)). AllFound Good l pushed old new steps_before steps_now)
      (names_next f names i x inside is)
      (subst (λ (l : List BackTable). AllFound Good (map f (take i names) ++ (f x ∷ [])) l old new
      steps_before steps_now) (sym push) (next_found given k))

  pub refused_here : (Refuses : List (Option (List ℕ)) → Type 0) (held : Option (List ℕ))
      → MayHold mid.files name held → WithinOne held mid new steps_between steps_now
      → ((rest : List (Option (List ℕ))) → Refuses (all_held h.tables ++ (held ∷ rest)))
      → NotFound Refuses (map f names) old new steps_before steps_now
  refused_here Refuses held may within refuses =
      subst (λ (l : List (List ℕ)). NotFound Refuses l old new steps_before steps_now)
      (names_here f names i x inside is)
      (none_more Good (map f (take i names)) items old mid new steps_before steps_between steps_now
      (f x) h same Refuses (map f (drop (suc i) names)) held
      (subst (λ (n : List ℕ). MayHold mid.files n held) named may) within refuses)

  -- memory was wanted once it was found
  pub wanted_here : (Refuses : List (Option (List ℕ)) → Type 0)
      → ((helds : List (Option (List ℕ))) → Refuses helds) → (given : BackTable)
      → OneFound Good (map loaded_back items) name given mid new steps_between steps_now
      → NotFound Refuses (map f names) old new steps_before steps_now
  wanted_here Refuses refuses given k =
      let all = next_found given k in
      let more : List (List ℕ) = map f (drop (suc i) names) in
      let rest : List (Option (List ℕ)) = some_helds old.files more in
      subst (λ (l : List (List ℕ)). NotFound Refuses l old new steps_before steps_now)
      (append_assoc (map f (take i names)) (f x ∷ []) more ∙ names_here f names i x inside is)
      (record {
        helds = all_held all.tables ++ rest;
        may = may_hold_both old.files (map f (take i names) ++ (f x ∷ [])) more
            (all_held all.tables) rest all.may (may_hold_some old.files more);
        refuses = refuses (all_held all.tables ++ rest);
        within = within_all (all_held all.tables) rest old new steps_before steps_now all.within;
      })

-- the last name was looked up
pub found_all : {A : Type 0} (Good : IsGood) (f : A → List ℕ) (names : List A) (i : ℕ)
    (items : List BackTable) (old new : StoreTold) (steps_before steps_now : ℕ)
    → length names ≤ i → AllFound Good (map f (take i names)) items old new steps_before steps_now
    → AllFound Good (map f names) items old new steps_before steps_now
found_all {A = A} Good f names i items old new steps_before steps_now all h =
    subst (λ (l : List A). AllFound Good (map f l) items old new steps_before steps_now)
    (take_all i names all) h
