-- Tables behind each other, each exact over those before it, and the first that is refused.
use Rattle.std.proofs.Common.{◌≡◌, refl, sym, subst, ℕ, List, [], ◌∷◌, ◌++◌, length, Option, append_assoc, append-nil}
use Rattle.frz_store.specs.Told.{StoreTold}
use Rattle.frz_table.specs.Numbers.{AreBytes}
use Rattle.frz_table.specs.Opening.{opened, own_format}
use Rattle.frz_check.specs.declared.verdict.Verdict.TheVariants.{Exact}
use Rattle.frz_backs.specs.Books.{Back}
use Rattle.frz_backs.specs.FileOn.{back_of}
use Rattle.frz_backs.specs.BackTable.{BackTable}
use Rattle.frz_atlas.specs.Behind.{AreJudgedOver, IsJudgedOver, IsRefusedAt, IsRefusedOver, TableBytes, backs_in}
use Rattle.frz_atlas.specs.Causes.{back_fault}
use Rattle.frz_atlas.specs.Held.{all_held}
use Rattle.frz_atlas.specs.Opening.{IsOneRefused, MayBeRefused, OpensAll, OpensOver, RefusesAll}
use Rattle.frz_atlas.specs.declared.fault.AtlasFault.{AtlasFault}
use Rattle.frz_atlas.specs.declared.fault.BackFault.{BackFault}
use Rattle.frz_atlas.specs.declared.fault.BackFault.TheVariants as one
use Rattle.frz_atlas.proofs.Causes.{by_back}
use Rattle.frz_atlas.proofs.Several.{AllFound, AllGood, NotFound, OneFound}

abbrev pub IsJudged : List Back → TableBytes → Type 0
IsJudged before t = AreBytes t.bytes × IsJudgedOver before t Exact

all_judged : (before : List Back) (tables : List TableBytes) → AllGood IsJudged before tables
    → AreJudgedOver before tables
unfolding AllGood AreJudgedOver
all_judged before [] h = tt
all_judged before (t ∷ tables) h =
    (h.0.0, h.0.1, all_judged (before ++ (back_of t.contents t.bytes ∷ [])) tables h.1)

pub opens_all : (names : List (List ℕ)) (backs : List BackTable) (old new : StoreTold)
    (steps_before steps_now : ℕ) → AllFound IsJudged names backs old new steps_before steps_now
    → OpensAll names backs old new steps_before steps_now
opens_all names backs old new steps_before steps_now h = record {
  tables = h.tables;
  may = h.may;
  exact = all_judged [] h.tables h.good;
  keeps = h.keeps;
  texts = h.texts;
  within = h.within;
}

pub refuses_all : (names : List (List ℕ)) (old new : StoreTold) (steps_before steps_now : ℕ)
    (fault : AtlasFault)
    → NotFound (λ helds. IsOneRefused helds fault) names old new steps_before steps_now
    → RefusesAll names old new steps_before steps_now fault
refuses_all names old new steps_before steps_now fault h =
    record { helds = h.helds; may = h.may; refuses = h.refuses; within = h.within }

pub judged_found : (before slice : List Back) (name : List ℕ) (given : BackTable)
    (old new : StoreTold) (steps_before steps_now : ℕ) → slice ≡ before
    → OpensOver slice name given old new steps_before steps_now
    → OneFound IsJudged before name given old new steps_before steps_now
judged_found before slice name given old new steps_before steps_now same h = record {
  table = h.table;
  may = h.may;
  good = (
    h.are_bytes,
    subst (λ (b : List Back). IsJudgedOver b h.table Exact) same h.judged,
  );
  keeps = h.keeps;
  text = h.text;
  within = h.within;
}

-- what comes behind exact tables is the first that is refused
refused_behind : (before : List Back) (tables : List TableBytes) (held : Option (List ℕ))
    (rest : List (Option (List ℕ))) (fault : BackFault) → AllGood IsJudged before tables
    → IsRefusedOver (before ++ backs_in tables) held fault
    → IsRefusedAt before (all_held tables ++ (held ∷ rest)) (length tables) fault
unfolding AllGood IsRefusedAt
refused_behind before [] held rest fault h refused =
    subst (λ (b : List Back). IsRefusedOver b held fault) (append-nil before) refused
refused_behind before (t ∷ tables) held rest fault h refused =
    let back : Back = back_of t.contents t.bytes in (
      t,
      refl,
      h.0.1,
      refused_behind (before ++ (back ∷ [])) tables held rest fault h.1
          (subst (λ (b : List Back). IsRefusedOver b held fault)
          (sym (append_assoc before (back ∷ []) (backs_in tables))) refused),
    )

pub refused_next : (tables : List TableBytes) (place : ℕ) (slice : List Back) (fault : BackFault)
    (held : Option (List ℕ)) (rest : List (Option (List ℕ))) → AllGood IsJudged [] tables
    → length tables ≡ place → slice ≡ backs_in tables → MayBeRefused slice held fault
    → IsOneRefused (all_held tables ++ (held ∷ rest)) (back_fault place fault)
refused_next tables place slice fault held rest good many same r =
    refused_for fault (subst (λ (b : List Back). MayBeRefused b held fault) same r)
  where
    at : (f : BackFault) → IsRefusedOver (backs_in tables) held f
        → IsRefusedAt [] (all_held tables ++ (held ∷ rest)) place f
    at f k =
        subst (λ (n : ℕ). IsRefusedAt [] (all_held tables ++ (held ∷ rest)) n f) many
        (refused_behind [] tables held rest f good k)

    refused_for : (f : BackFault) → MayBeRefused (backs_in tables) held f
        → IsOneRefused (all_held tables ++ (held ∷ rest)) (back_fault place f)
    refused_for (one.Wrong wrong) k = at (one.Wrong wrong) k
    refused_for (one.Refused f) k =
        by_back (IsOneRefused (all_held tables ++ (held ∷ rest)))
        (opened own_format held) tt tt place (λ f e. at (one.Refused f) e) f k
